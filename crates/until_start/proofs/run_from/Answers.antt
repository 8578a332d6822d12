-- The numbers are filled from the marks as they came, and are ready to rise from there.
use mathlib.Core.Path.{ap, ◌∙◌}
use mathlib.Core.Bool.{Bool}
use Prim.Native.Nat.{ℕ}
use borrow.Author.Rules.{rules}
use Rattle.model.specs.Marks.{mark}
use Rattle.engine.specs.AsModel.{minutes_of, settled}
use Rattle.initial.specs.Initial.{go_of}
use Rattle.initial.proofs.Sided.{initial_begun}
use Rattle.until_start.proofs.run_from.Goals as goal

pub run-requires : goal.run-requires
run-requires c =
    let a = c.args in
    let p = c.requires in
    let holds : ℕ → ℕ → Bool = mark a.chart.states a.marks.now in
    let filled = c.fill_numbers.ensures in
    let begun = initial_begun a.initial (holds a.node.a) (holds a.node.b) a.way p.2.low p.2.limit filled in (
      record { passed = p.0.passed; table = p.0.table; size = filled.size },
      record {
        fits = p.2.fits;
        go = λ s. go_of a.initial (holds a.node.a s) (holds a.node.b s);
        ready = begun.ready;
      },
    )

pub returns : goal.returns
returns c =
    let a = c.args in
    let p = c.requires in
    let holds : ℕ → ℕ → Bool = mark a.chart.states a.marks.now in
    let go : ℕ → Bool = λ s. go_of a.initial (holds a.node.a s) (holds a.node.b s) in
    let begun =
    initial_begun a.initial (holds a.node.a) (holds a.node.b) a.way p.2.low p.2.limit c.fill_numbers.ensures in (
      c.run.ensures.0,
      record {
        size = search rules;
        is =
            (c.run.ensures.1 go begun.ready).is ∙
            ap (λ vs. settled a.way a.chart.bytes.now a.chart.states go (minutes_of a.way vs)) begun.starts;
      },
    )
