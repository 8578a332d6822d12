-- Invariant: the marks before s are written.
use mathlib.Core.Path.{refl}
use native.Mathlib.Omega.{arith}
use Rattle.fill.proofs.Written.{written_more}
use Rattle.fill.proofs.write_row.Goals as goal

pub loop-s-preserved : goal.loop-s-preserved
loop-s-preserved g c = written_more c.loop-s.invariant refl (omega arith) c.f.ensures
