-- What is lent to settle a node, as each engine asks for it.
use mathlib.Core.Path.{◌≡◌, refl, ap}
use mathlib.Core.Logic.{inl, inr, ⊎_elim}
use mathlib.Core.Bool.{Bool, true, false}
use mathlib.Core.List.{List}
use Prim.Native.Nat.{ℕ, ◌≤◌}
use native.Mathlib.Omega.{arith}
use lib.ListN.{length, take}
use lib.Seq.{length-take-le}
use borrow.Author.Tests.{eqb-true}
use Rattle.base.proofs.Truth.{or_iff}
use Rattle.rule.specs.declared.NodeWords.{NodeWords}
use Rattle.rule.specs.Refusals.{is_exact, has_exact, minutely}
use Rattle.rule.proofs.Read.{ReadNode, exact_has, until_bound}
use Rattle.operands.specs.FromOperands.{OperandsBelow}
use Rattle.until_start.specs.Lent.{Lent}
use Rattle.until_minutes.specs.Minutes.{MinutesLent}
use Rattle.nodes.specs.Until.{by_minutes}
use Rattle.nodes.specs.Right.{numbers_for, Workable, AcceptedNode}

-- a number for each state is among those worked on
pub states_fit : (minutely : Bool) (n : ℕ) → n ≤ numbers_for minutely n
states_fit true n = omega arith
states_fit false n = omega arith

-- fewer are asked for where fewer untils go by minutes
pub fewer_fit : {some all : Bool} (n : ℕ) → (some ≡ true → all ≡ true) → numbers_for some n ≤ numbers_for all n
fewer_fit {some = true} n f = omega (arith, ap (λ b. numbers_for b n) (f refl))
fewer_fit {some = false} {all} n f = states_fit all n

module _ {counting minutely : Bool} {chart : List ℕ} {n m t : ℕ} {marks numbers : List ℕ}
    (w : Workable counting minutely chart n m t marks numbers) where
  -- the first n of them
  pub states_lent : length (take n numbers) ≡ n
  states_lent = length-take-le n numbers (omega (arith, w.room, states_fit minutely n))

  pub lent : Lent chart n m t marks (take n numbers)
  lent = record { passed = w.passed; table = w.table; size = states_lent }

  pub minutes_lent :
      minutely ≡ true → {v : NodeWords} → OperandsBelow t v → MinutesLent chart n m t v marks numbers
  minutes_lent e low =
      record {
        passed = w.passed;
        table = w.table;
        operands = low;
        room = omega (arith, w.room, ap (λ b. numbers_for b n) e);
      }

  pub workable_fewer :
      {some : Bool} → (some ≡ true → minutely ≡ true) → Workable counting some chart n m t marks numbers
  workable_fewer f =
      record {
        passed = w.passed;
        table = w.table;
        room = omega (arith, w.room, fewer_fit n f);
        accepted = w.accepted;
      }

-- ── A node of the rule ──

module _ (counting : Bool) {rule : List ℕ} {t : ℕ} {w : NodeWords} (node : ReadNode rule t w) where
  -- if it goes by minutes, so does some node of the rule
  pub some_minutely : by_minutes counting w ≡ true → minutely counting rule ≡ true
  some_minutely e =
      let or = or_iff counting (has_exact rule) in
      ⊎_elim (λ h. or.1 (inl h)) (λ h. or.1 (inr (exact_has node h))) ((or_iff counting (is_exact w)).0 e)

  -- and its bound is not long: by row 63, or by row 14
  pub minutes_short : AcceptedNode counting rule t → 5 ≤ w.operation → by_minutes counting w ≡ true → w.c ≤ 255
  minutes_short asked h e =
      ⊎_elim (λ c. omega (arith, asked.short c t asked.inside, ap (λ w. w.c) node.read))
      (λ x. (until_bound node h).2 (eqb-true w.kind 3 x)) ((or_iff counting (is_exact w)).0 e)
