-- The four words stand at the arrow's place, which n fixes.
use native.Mathlib.Omega.{arith}
use borrow.Author.Rules.{rules}
use Rattle.chart.proofs.Arrow.{arrow_read}
use Rattle.arrows.proofs.Low.{low_words}
use Rattle.arrows.proofs.low_arrow.Goals as goal

pub state_at-requires : goal.state_at-requires
state_at-requires c =
    (omega (arith, c.requires.0.whole), (low_words c.args.chart.now _ c.requires.0.states c.requires.1).0)

pub state_at-requires-2 : goal.state_at-requires-2
state_at-requires-2 c =
    (omega (arith, c.requires.0.whole), (low_words c.args.chart.now _ c.requires.0.states c.requires.1).1)

pub returns : goal.returns
returns c =
    let low = low_words c.args.chart.now c.args.i c.requires.0.states c.requires.1 in (
      arrow_read c.args.chart.now c.args.i c.requires.0.states c.state_at.ensures c.state_at-2.ensures c.be16.ensures.0
          c.be16-2.ensures.0,
      record {
        start = omega (arith, low.0, c.state_at.ensures);
        end = omega (arith, low.1, c.state_at-2.ensures);
        fewest = search rules;
        most = search rules;
      },
    )
