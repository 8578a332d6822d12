-- A chart that passed has the arrow in its bytes, between states that are below 256.
use mathlib.Core.Path.{sym, ap, subst}
use native.Mathlib.Omega.{arith}
use Rattle.chart.specs.Shape.{Small, Slot}
use Rattle.chart.proofs.Arrow.{arrow_inside}
use Rattle.chart.proofs.Reading.{shaped, arrow_ends, slot}
use Rattle.arrows.proofs.Chart.arrow.Goals as goal

pub low_arrow-requires : goal.low_arrow-requires
low_arrow-requires c =
    let p = c.args.self.passed in
    let few = (shaped p).few_states in
    let ends = arrow_ends p _ c.requires in (
      arrow_inside (shaped p) c.requires,
      record { start = omega (arith, ends.0, few); end = omega (arith, ends.1, few) },
    )

pub returns : goal.returns
returns c =
    let p = c.args.self.passed in
    let e = c.low_arrow.ensures.0 in
    let ends = arrow_ends p _ c.requires in (
      e,
      record {
        start = omega (arith, ends.0, ap (λ w. w.start) e);
        end = omega (arith, ends.1, ap (λ w. w.end) e);
        slot = subst Slot (sym e) (slot p _ c.requires (subst Small e c.low_arrow.ensures.1));
      },
    )
