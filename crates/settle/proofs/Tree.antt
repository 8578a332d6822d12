-- Settling a node: after the rows of its operands, its own.
use mathlib.Core.Path.{◌≡◌, refl, subst, ◌∙◌}
use mathlib.Core.Logic.{◌⊎◌, inl, inr, by_cases}
use mathlib.Core.Bool.{Bool, true, false, cond}
use mathlib.Core.List.{List}
use Prim.Native.Nat.{ℕ, zero, suc, ◌+◌, ◌*◌, ◌≤◌, ◌<◌}
use native.Mathlib.Decide.{dec_lt}
use native.Mathlib.Omega.{arith}
use lib.ListN.{length, get_or}
use lib.Dec.{eqb, leb}
use borrow.Author.Tests.{leb-true, eqb-true}
use Rattle.model.specs.Decide.{holds}
use Rattle.model.proofs.Marks.{row_below}
use Rattle.chart.specs.Bytes.{chart_of}
use Rattle.rule.specs.Bytes.{node_count, node_words}
use Rattle.rule.specs.Formula.{formula_at}
use Rattle.rule.proofs.Accepted.{AcceptedRule, lower_a, lower_b}
use Rattle.fill.specs.Written.{RowWritten}
use Rattle.nodes.specs.Right.{Right, OperandsRight}
use Rattle.settle.specs.TimesSettled.{times_settled}
use Rattle.settle.specs.Settled.{Settled}
use Rattle.settle.proofs.TimesSettled.{times_settled_at, times_settled_self}

-- one of three counts that together are more than 0 is
one_of_lem :
    (x : Bool) (p q : ℕ) (y z : Bool) → 0 < cond x 1 0 + cond y p 0 + cond z q 0 →
    (x ≡ true) ⊎ (((y ≡ true) × (0 < p)) ⊎ ((z ≡ true) × (0 < q)))
one_of_lem true p q y z h = inl refl
one_of_lem false zero q true true h = inr (inr (refl, omega arith))
one_of_lem false (suc p) q true z h = inr (inl (refl, omega arith))
one_of_lem false zero q true false h = absurd (let z : ⊥ = omega arith in z)
one_of_lem false p q false true h = inr (inr (refl, omega arith))
one_of_lem false p q false false h = absurd (let z : ⊥ = omega arith in z)

-- the operands of node t were settled
pub record Below (chart : List ℕ) (n : ℕ) (rule : List ℕ) (t : ℕ) (old mid : List ℕ) : Type 0 where
  pub size : length mid ≡ length old
  pub left :
      2 ≤ (node_words rule t).operation → (u : ℕ) → 0 < times_settled rule (node_words rule t).a u → Right chart n rule u mid
  pub right :
      3 ≤ (node_words rule t).operation → (u : ℕ) → 0 < times_settled rule (node_words rule t).b u → Right chart n rule u mid
  pub still : (u : ℕ) → Right chart n rule u old → Right chart n rule u mid
  pub after : (j : ℕ) → t * n + n ≤ j → get_or mid j 0 ≡ get_or old j 0

module _ (chart : List ℕ) (n : ℕ) (rule : List ℕ) (t : ℕ) where
  -- a row that was right is right after row t was written rightly: it is row t, or it lies apart from it
  written_still :
      {mid new : List ℕ} → RowWritten n t (holds (chart_of chart) (formula_at rule t)) mid new →
      (u : ℕ) → Right chart n rule u mid → Right chart n rule u new
  written_still {new = new} w u r =
      by_cases (dec_lt u t)
      (λ h s k. w.elsewhere (u * n + s) (inl (omega (arith, row_below n h))) ∙ r s k)
      (λ h. by_cases (dec_lt t u)
      (λ i s k. w.elsewhere (u * n + s) (inr (omega (arith, row_below n i))) ∙ r s k)
      (λ i. let e : t ≡ u = omega arith in subst (λ v. Right chart n rule v new) e w.here))

module _ {chart : List ℕ} {n : ℕ} {rule : List ℕ} {t : ℕ} where
  -- a node without operands
  pub below_none : (node_words rule t).operation < 2 → (old : List ℕ) → Below chart n rule t old old
  below_none h old =
      record {
        size = refl;
        left = λ k. absurd (let z : ⊥ = omega arith in z);
        right = λ k. absurd (let z : ⊥ = omega arith in z);
        still = λ u r. r;
        after = λ j k. refl;
      }

  module _ (acc : AcceptedRule rule) (l : t < node_count rule) where
    -- one operand
    pub below_left :
        (node_words rule t).operation ≡ 2 → {old mid : List ℕ} →
        Settled chart n rule (node_words rule t).a old mid → Below chart n rule t old mid
    below_left e x =
        record {
          size = x.size;
          left = λ k. x.done;
          right = λ k. absurd (let z : ⊥ = omega arith in z);
          still = x.still;
          after = λ j k. x.after j (omega (arith, row_below n (lower_a acc t l (omega arith))));
        }

    -- two operands, one after the other: the second keeps the rows of the first right
    pub below_both :
        3 ≤ (node_words rule t).operation → {old one mid : List ℕ} →
        Settled chart n rule (node_words rule t).a old one → Settled chart n rule (node_words rule t).b one mid →
        Below chart n rule t old mid
    below_both h x y =
        record {
          size = y.size ∙ x.size;
          left = λ k u v. y.still u (x.done u v);
          right = λ k. y.done;
          still = λ u r. y.still u (x.still u r);
          after = λ j k.
              y.after j (omega (arith, row_below n (lower_b acc t l h))) ∙
              x.after j (omega (arith, row_below n (lower_a acc t l (omega arith))));
        }

    pub operands : {old mid : List ℕ} → Below chart n rule t old mid → OperandsRight chart n rule t mid
    operands b =
        record {
          left = λ h.
              let k = lower_a acc t l h in
              b.left h (node_words rule t).a (times_settled_self acc (node_words rule t).a (omega arith));
          right = λ h.
              let k = lower_b acc t l h in
              b.right h (node_words rule t).b (times_settled_self acc (node_words rule t).b (omega arith));
        }

    -- Its own row last: what settling t settles is t, or is settled by an operand.
    pub settled :
        {old mid new : List ℕ} → Below chart n rule t old mid →
        RowWritten n t (holds (chart_of chart) (formula_at rule t)) mid new → Settled chart n rule t old new
    settled {old} {mid} {new} b w =
        record {
          size = w.size ∙ b.size;
          done = λ u v. turn u (one_of_lem (eqb t u) _ _ _ _ (subst (λ x. 0 < x) (times_settled_at acc t u l) v));
          still = λ u r. written_still chart n rule t w u (b.still u r);
          after = λ j k. w.elsewhere j (inr k) ∙ b.after j k;
        }
      where
        turn :
            (u : ℕ) →
            (eqb t u ≡ true) ⊎
            (((leb 2 (node_words rule t).operation ≡ true) × (0 < times_settled rule (node_words rule t).a u)) ⊎
            ((leb 3 (node_words rule t).operation ≡ true) × (0 < times_settled rule (node_words rule t).b u))) →
            Right chart n rule u new
        turn u (inl e) = subst (λ v. Right chart n rule v new) (eqb-true t u e) w.here
        turn u (inr (inl k)) = written_still chart n rule t w u (b.left (leb-true 2 _ k.0) u k.1)
        turn u (inr (inr k)) = written_still chart n rule t w u (b.right (leb-true 3 _ k.0) u k.1)
