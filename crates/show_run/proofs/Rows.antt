-- The operands' rows as they are lent, and the run by them.
use mathlib.Core.Path.{◌≡◌, sym, ap, ap₂, subst, ◌∙◌}
use mathlib.Core.Bool.{Bool, true, false, cond}
use mathlib.Core.List.{List}
use Prim.Native.Nat.{ℕ, ◌+◌, ◌-◌, ◌*◌}
use native.Mathlib.Omega.{arith}
use lib.ListN.{take, drop}
use Rattle.std.specs.Prelude.{Option}
use Rattle.model.specs.Marks.{flag}
use Rattle.rule.specs.declared.NodeWords.{NodeWords}
use Rattle.rule.specs.Refusals.{is_exact}
use Rattle.operands.proofs.Rows.{lent}
use Rattle.shown.specs.Search.{Search, by_steps, by_minutes}
use Rattle.step_numbers.specs.declared.Target.{Target}
use Rattle.step_numbers.specs.Target.{quest_for}
use Rattle.show_run.specs.Run.{target_of, row_of, search_by, search_in, Ran}

row_lent : (n : ℕ) (marks : List ℕ) (t : ℕ) → lent (t * n) n marks ≡ row_of n marks t
row_lent n marks t =
    let e : t * n + n - t * n ≡ n = omega arith in
    ap (λ i. take i (drop (t * n) marks)) e

module _ (n : ℕ) (marks : List ℕ) (w : NodeWords) where
  abbrev p : ℕ → Bool
  p = flag (lent (w.a * n) n marks)

  abbrev q : ℕ → Bool
  q = flag (lent (w.b * n) n marks)

  -- a run by the rows as lent is one by the node's search
  ran_lent :
      {z : Search} {chart old new : List ℕ} {s : ℕ} {r : Option ℕ} → z ≡ search_by w p q → Ran chart z s r old new →
      Ran chart (search_in n marks w) s r old new
  ran_lent {chart = chart} {old} {new} {s} {r} e =
      subst (λ z. Ran chart z s r old new)
      (e ∙ ap₂ (λ x y. search_by w (flag x) (flag y)) (row_lent n marks w.a) (row_lent n marks w.b))

  pub ran_minutes :
      is_exact w ≡ true → {chart old new : List ℕ} {s : ℕ} {r : Option ℕ} →
      Ran chart (by_minutes w.c (flag (lent (w.a * n) n marks)) (flag (lent (w.b * n) n marks))) s r old new →
      Ran chart (search_in n marks w) s r old new
  ran_minutes e = ran_lent (ap (λ b. cond b (by_minutes w.c p q) (by_steps (quest_for (target_of w) p q))) (sym e))

  pub ran_steps :
      is_exact w ≡ false → {target : Target} → target ≡ target_of w → {chart old new : List ℕ} {s : ℕ} {r : Option ℕ} →
      Ran chart (by_steps (quest_for target (flag (lent (w.a * n) n marks)) (flag (lent (w.b * n) n marks)))) s r old new →
      Ran chart (search_in n marks w) s r old new
  ran_steps e f =
      ran_lent
      (ap (λ target. by_steps (quest_for target p q)) f ∙
      ap (λ b. cond b (by_minutes w.c p q) (by_steps (quest_for (target_of w) p q))) (sym e))
