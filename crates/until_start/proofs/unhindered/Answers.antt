-- The values are those of the waits, one more than the minutes, and those up to the limit are the row.
use mathlib.Core.Path.{refl}
use native.Mathlib.Omega.{arith}
use Rattle.ways.specs.Way.{ceiling_of}
use Rattle.operands.proofs.Rows.{written_as, written_again}
use Rattle.until_start.proofs.Waits.{unhindered_by}
use Rattle.until_start.proofs.unhindered.Goals as goal

pub run_from-requires : goal.run_from-requires
unfolding ceiling_of
run_from-requires c =
    let p = c.requires in (p.0, p.1, record { low = omega (arith, p.2); limit = refl; fits = omega (arith, p.2) })

pub returns : goal.returns
returns c =
    let rose = c.run_from.ensures in written_again rose.0 (written_as c.fill_limit.ensures (unhindered_by _ rose.1))
