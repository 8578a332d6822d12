-- Settling the last node of an accepted rule settles every node exactly once.
use mathlib.Core.Path.{◌≡◌, refl, ap, ◌∙◌}
use mathlib.Core.Bool.{Bool, true, false, cond, ◌&&◌}
use mathlib.Core.List.{List}
use Prim.Native.Nat.{ℕ, zero, suc, ◌+◌, ◌*◌, ◌-◌, ◌≤◌, ◌<◌}
use native.Mathlib.Nat.{add-mul, one-mul, mul-zero}
use native.Mathlib.Omega.{arith}
use lib.Dec.{eqb, leb}
use borrow.Author.Tests.{leb-true, leb-false, eqb-true, eqb-false, ne_eqb}
use Rattle.base.specs.Sum.{sum}
use Rattle.base.proofs.Sum.{sum_same, sum_add, sum_zero, sum_cond, sum_one}
use Rattle.rule.specs.Bytes.{node_count, node_words}
use Rattle.rule.specs.Refusals.{uses, uses_in}
use Rattle.rule.proofs.FormOf.{uses_by}
use Rattle.rule.proofs.Accepted.{AcceptedRule, lower_a, lower_b}
use Rattle.settle.specs.TimesSettled.{times_settled}
use Rattle.settle.proofs.TimesSettled.{times_settled_at}

-- what an operand adds: the operand itself, and what it leads to
operand_adds :
    (b e : Bool) (x y : ℕ) → (b ≡ true → x ≡ cond e 1 0 + y) → cond b x 0 ≡ cond (b && e) 1 0 + cond b y 0
operand_adds true e x y h = h refl
operand_adds false e x y h = refl

not_both : (b e : Bool) → (b ≡ true → e ≡ false) → cond {A = ℕ} (b && e) 1 0 ≡ 0
not_both true e h = ap (λ e. cond {A = ℕ} e 1 0) (h refl)
not_both false e h = refl

module _ {s : List ℕ} (acc : AcceptedRule s) where
  abbrev k : ℕ
  k = node_count s

  -- how often node v names u as an operand
  abbrev named : ℕ → ℕ → ℕ
  named u v = uses_in u (node_words s v)

  -- Settling t settles u as itself, or through a node v that it settles and that names u: v is t, or an operand of t
  -- leads to it.
  flow : (d t u : ℕ) → t < d → t < k → times_settled s t u ≡ cond (eqb t u) 1 0 + sum (λ v. times_settled s t v * named u v) k
  flow zero t u h l = absurd (let z : ⊥ = omega arith in z)
  flow (suc d) t u h l =
      let w = node_words s t in
      let g : ℕ → ℕ = named u in
      let x : ℕ → ℕ = λ v. cond (eqb t v) 1 0 in
      let y : ℕ → ℕ = λ v. cond (leb 2 w.operation) (times_settled s w.a v) 0 in
      let z : ℕ → ℕ = λ v. cond (leb 3 w.operation) (times_settled s w.b v) 0 in
      let terms : sum (λ v. times_settled s t v * g v) k ≡ sum (λ v. x v * g v + y v * g v + z v * g v) k =
      sum_same (λ v. times_settled s t v * g v) (λ v. x v * g v + y v * g v + z v * g v) k
      (λ v i. ap (λ c. c * g v) (times_settled_at acc t v l) ∙
      add-mul (x v + y v) (z v) (g v) ∙ ap (λ c. c + z v * g v) (add-mul (x v) (y v) (g v))) in
      let parts = sum_add (λ v. x v * g v + y v * g v) (λ v. z v * g v) k in
      let first = sum_add (λ v. x v * g v) (λ v. y v * g v) k in
      let own = sum_one t g k l in
      let left = sum_cond (leb 2 w.operation) (times_settled s w.a) g k in
      let right = sum_cond (leb 3 w.operation) (times_settled s w.b) g k in
      let a = operand_adds (leb 2 w.operation) (eqb w.a u) (times_settled s w.a u)
      (sum (λ v. times_settled s w.a v * g v) k)
      (λ e. let i = lower_a acc t l (leb-true 2 _ e) in flow d w.a u (omega arith) (omega arith)) in
      let b = operand_adds (leb 3 w.operation) (eqb w.b u) (times_settled s w.b u)
      (sum (λ v. times_settled s w.b v * g v) k)
      (λ e. let i = lower_b acc t l (leb-true 3 _ e) in flow d w.b u (omega arith) (omega arith)) in
      omega (arith, times_settled_at acc t u l, terms, parts, first, own, left, right, a, b, uses_by u (node_words s t))

  -- an operand is lower than the node that names it
  unnamed : (u v : ℕ) → v ≤ u → v < k → named u v ≡ 0
  unnamed u v h l =
      let w = node_words s v in
      let x = not_both (leb 2 w.operation) (eqb w.a u) (λ e.
      let i = lower_a acc v l (leb-true 2 _ e) in ne_eqb w.a u (λ f. absurd (let z : ⊥ = omega arith in z))) in
      let y = not_both (leb 3 w.operation) (eqb w.b u) (λ e.
      let i = lower_b acc v l (leb-true 3 _ e) in ne_eqb w.b u (λ f. absurd (let z : ⊥ = omega arith in z))) in
      omega (arith, uses_by u w, x, y)

  uses_sum : (u j : ℕ) → uses s j u ≡ sum (named u) j
  unfolding uses
  uses_sum u j = refl

  -- Downwards from the last node: the nodes that name u are above it, so each is settled once, and they name it once.
  once_from : (d u : ℕ) → u < k → k ≤ u + d → times_settled s (k - 1) u ≡ 1
  once_from zero u l h = absurd (let z : ⊥ = omega arith in z)
  once_from (suc d) u l h =
      let last = k - 1 in
      let through = flow k last u (omega arith) (omega arith) in
      let terms = sum_same (λ v. times_settled s last v * named u v) (named u) k
      (λ v i. term v i (leb v u) refl (λ m. once_from d v i (omega arith))) in
      total (eqb last u) refl (omega (arith, through, terms, uses_sum u k))
    where
      term :
          (v : ℕ) → v < k → (b : Bool) → leb v u ≡ b → (u < v → times_settled s (k - 1) v ≡ 1) →
          times_settled s (k - 1) v * named u v ≡ named u v
      term v i true e ih =
          let z = unnamed u v (leb-true v u e) i in
          rw z (mul-zero (times_settled s (k - 1) v))
      term v i false e ih = rw (ih (leb-false v u e)) (one-mul (named u v))

      total :
          (b : Bool) → eqb (k - 1) u ≡ b → times_settled s (k - 1) u ≡ cond b 1 0 + uses s k u → times_settled s (k - 1) u ≡ 1
      total true e f =
          let top = eqb-true (k - 1) u e in
          let none = sum_same (named u) (λ v. 0) k (λ v i. unnamed u v (omega arith) i) in
          omega (arith, f, uses_sum u k, none, sum_zero k)
      total false e f =
          let low = eqb-false (k - 1) u e in
          omega (arith, f, acc.once u (omega arith))

  -- "Every node but the last is an operand exactly once."
  pub once : (u : ℕ) → u < k → times_settled s (k - 1) u ≡ 1
  once u l = once_from k u l (omega arith)
