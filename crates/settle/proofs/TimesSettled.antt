-- How often settling a node settles another, from how often settling its operands does.
use mathlib.Core.Path.{◌≡◌, refl}
use mathlib.Core.Bool.{Bool, true, false, cond}
use mathlib.Core.List.{List}
use Prim.Native.Nat.{ℕ, zero, suc, ◌+◌, ◌<◌}
use native.Mathlib.Omega.{arith}
use lib.Dec.{eqb, leb}
use borrow.Author.Tests.{leb-true, eq-eqb}
use Rattle.rule.specs.Bytes.{node_count, node_words}
use Rattle.rule.proofs.Accepted.{AcceptedRule, lower_a, lower_b}
use Rattle.settle.specs.TimesSettled.{times_settled_by, times_settled}

-- two counts agree if they agree where they count
count_same : (b : Bool) {x y : ℕ} → (b ≡ true → x ≡ y) → cond b x 0 ≡ cond b y 0
count_same true f = f refl
count_same false f = refl

module _ {s : List ℕ} (acc : AcceptedRule s) where
  -- any depth above the node's number gives the same count: each operand's number is lower by one at least
  depth_same : (d e t u : ℕ) → t < node_count s → t < d → t < e → times_settled_by d s t u ≡ times_settled_by e s t u
  unfolding times_settled_by
  depth_same zero e t u l h k = absurd (let z : ⊥ = omega arith in z)
  depth_same (suc d) zero t u l h k = absurd (let z : ⊥ = omega arith in z)
  depth_same (suc d) (suc e) t u l h k =
      let op = (node_words s t).operation in
      let x = count_same (leb 2 op) (λ g.
      let v = lower_a acc t l (leb-true 2 op g) in
      depth_same d e (node_words s t).a u (omega arith) (omega arith) (omega arith)) in
      let y = count_same (leb 3 op) (λ g.
      let v = lower_b acc t l (leb-true 3 op g) in
      depth_same d e (node_words s t).b u (omega arith) (omega arith) (omega arith)) in
      omega (arith, x, y)

  -- node t once, and what its operands settle
  pub times_settled_at :
      (t u : ℕ) → t < node_count s →
      times_settled s t u ≡
      cond (eqb t u) 1 0 +
      cond (leb 2 (node_words s t).operation) (times_settled s (node_words s t).a u) 0 +
      cond (leb 3 (node_words s t).operation) (times_settled s (node_words s t).b u) 0
  unfolding times_settled_by
  times_settled_at t u l =
      let op = (node_words s t).operation in
      let x = count_same (leb 2 op) (λ g.
      let v = lower_a acc t l (leb-true 2 op g) in
      depth_same t (suc (node_words s t).a) (node_words s t).a u (omega arith) v (omega arith)) in
      let y = count_same (leb 3 op) (λ g.
      let v = lower_b acc t l (leb-true 3 op g) in
      depth_same t (suc (node_words s t).b) (node_words s t).b u (omega arith) v (omega arith)) in
      omega (arith, x, y)

  pub times_settled_self : (t : ℕ) → t < node_count s → 0 < times_settled s t t
  times_settled_self t l = rw (times_settled_at t t l, eq-eqb t t refl) (omega arith)
