-- Invariant: the marks before s are written.
use mathlib.Core.Path.{refl, ap₂, ◌∙◌}
use native.Mathlib.Omega.{arith}
use lib.Dec.{eqb}
use Rattle.base.proofs.Entries.{entries_more}
use Rattle.fill.specs.Fill.{combine}
use Rattle.fill.proofs.Written.{mark_byte, row_next}
use Rattle.fill.proofs.fill.Goals as goal

pub loop-s-preserved : goal.loop-s-preserved
loop-s-preserved c =
    let w = c.loop-s.invariant in
    let p = row_next c.requires.1 c.loop-s-test.true w in
    let q = row_next c.requires.2 c.loop-s-test.true w in
    let e = c.combined.ensures ∙ ap₂ (λ x y. combine c.args.connective (eqb x 1) (eqb y 1)) p q in
    entries_more w refl (omega arith) (mark_byte e)
