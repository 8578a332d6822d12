-- The row with no minute left: its numbers are 2 just where it is made.
use mathlib.Core.Path.{◌≡◌, sym, ap, ◌∙◌}
use mathlib.Core.Logic.Iff
use mathlib.Core.Bool.{Bool, true, false}
use mathlib.Core.List.{List}
use Prim.Native.Nat.{ℕ, ◌+◌, ◌*◌, ◌<◌}
use native.Mathlib.Omega.{arith}
use lib.ListN.{take}
use lib.Seq.{get_or-take}
use lib.Dec.{eqb}
use Rattle.base.proofs.Compare.{eqb_iff}
use Rattle.model.specs.Engine.{num}
use Rattle.model.specs.Marks.{mark}
use Rattle.chart.specs.Bytes.{chart_of}
use Rattle.rule.specs.declared.NodeWords.{NodeWords}
use Rattle.hints.specs.Values.{value_of}
use Rattle.fill.specs.Fill.{passes_limit}
use Rattle.fill.specs.Written.{RowWritten}
use Rattle.operands.proofs.Rows.{written_as}
use Rattle.minutes.specs.Table.{latest}
use Rattle.minutes.proofs.Latest.{latest_iff}
use Rattle.minutes.proofs.Tests.{decide_same}
use Rattle.minute_rows.specs.Filled.{RowsFilled}
use Rattle.until_minutes.specs.Minutes.{plain_asked, task_by, makes_by, Waited}
use Rattle.until_minutes.proofs.Last.{latest_says}

module _ (all : Bool) (chart : List ℕ) (n t : ℕ) (w : NodeWords) (marks : List ℕ) {numbers : List ℕ}
    (filled : RowsFilled (chart_of chart) n (task_by (plain_asked all) n t w marks) 1 numbers) where
  abbrev made : ℕ → ℕ → Bool
  made s r = makes_by (plain_asked all) chart n t w marks r s

  number : (s : ℕ) → s < n → num numbers s ≡ latest (made s) 2
  number s l =
      let e : s ≡ 0 * n + s = omega arith in
      ap (num numbers) e ∙ filled.last 0 s (omega arith) l

  tells : (s : ℕ) → s < n → eqb (num numbers s) 2 ≡ made s 1
  tells s l =
      ap (λ v. eqb v 2) (number s l) ∙
      decide_same _ _ (Iff.trans (eqb_iff (latest (made s) 2) 2) (latest_iff (made s) 1)) Iff.rfl

  -- row t is written by the numbers, and compared with them before
  pub waited :
      {r : Bool} {new : List ℕ} →
      (r ≡ true → (s : ℕ) → s < n → mark n marks t s ≡ eqb (num numbers s) 2) →
      RowWritten n t (λ s. passes_limit true 1 (value_of (num (take n numbers) s))) marks new →
      Waited all chart n t w r marks new
  waited same wrote =
      record {
        written =
            written_as wrote
            (λ s l.
            ap (λ v. passes_limit true 1 (value_of v)) (get_or-take n numbers s 0 l ∙ number s l) ∙
            latest_says false (made s) 1 (omega arith));
        still = λ e s l. sym (tells s l) ∙ sym (same e s l);
      }
