-- The values leave the fewest minutes to b, from 0 at b and c + 1 elsewhere, and those up to c are the row of E.
use mathlib.Core.Path.{refl}
use native.Mathlib.Omega.{arith}
use Rattle.ways.specs.Way.{ceiling_of}
use Rattle.operands.proofs.Rows.{written_as, written_again}
use Rattle.until_once.proofs.Untils.{some_at_most}
use Rattle.until_once.proofs.some_at_most.Goals as goal

pub run_from-requires : goal.run_from-requires
unfolding ceiling_of
run_from-requires c = let p = c.requires in (p.0, p.1, record { low = omega (arith, p.2); limit = refl; fits = tt })

pub returns : goal.returns
returns c =
    let rose = c.run_from.ensures in
    written_again rose.0 (written_as c.fill_limit.ensures (some_at_most _ c.requires.2 rose.1))
