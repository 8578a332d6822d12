-- The pigeonhole principle: of n + 1 numbers below n, two are the same.
use mathlib.Core.Path.{◌≡◌, sym, subst}
use mathlib.Core.Logic.{◌⊎◌, inl, inr}
use Prim.Native.Nat.{ℕ, zero, suc, ◌≤◌, ◌<◌}
use native.Mathlib.Omega.{arith}
use native.Mathlib.Decide.{ℕ_discrete}

-- two positions up to k hold the same number
pub record Twice (f : ℕ → ℕ) (k : ℕ) : Type 0 where
  pub i : ℕ
  pub j : ℕ
  pub order : i < j
  pub upto : j ≤ k
  pub same : f i ≡ f j

-- v is among the first k numbers, or it is none of them
abbrev Among : (ℕ → ℕ) → ℕ → ℕ → Type 0
Among f v k = ((i : ℕ) × (i < k) × (f i ≡ v)) ⊎ ((i : ℕ) → i < k → ¬ (f i ≡ v))

among : (f : ℕ → ℕ) (v k : ℕ) → Among f v k
among f v zero = inr (λ i l. absurd (let z : ⊥ = omega arith in z))
among f v (suc k) = here (ℕ_discrete (f k) v) (among f v k)
  where
    here : Dec (f k ≡ v) → Among f v k → Among f v (suc k)
    here (yes e) w = inl (k, omega arith, e)
    here (no h) (inl w) = inl (w.0, omega (arith, w.1), w.2)
    here (no h) (inr w) = inr (λ i l e. last i l e (ℕ_discrete i k))
      where
        last : (i : ℕ) → i < suc k → f i ≡ v → Dec (i ≡ k) → ⊥
        last i l e (yes p) = h (subst (λ x. f x ≡ v) p e)
        last i l e (no p) = w i (omega arith) e

-- v in the place of m, and any other number as it is
put : (m v x : ℕ) → Dec (x ≡ m) → ℕ
put m v x (yes e) = v
put m v x (no h) = x

put_below : (m v x : ℕ) (d : Dec (x ≡ m)) → x < suc m → v < suc m → ¬ (x ≡ v) → put m v x d < m
unfolding put
put_below m v x (yes e) l k h = omega arith
put_below m v x (no e) l k h = omega arith

put_injective :
    (m v x y : ℕ) (d : Dec (x ≡ m)) (e : Dec (y ≡ m)) → ¬ (x ≡ v) → ¬ (y ≡ v) → put m v x d ≡ put m v y e → x ≡ y
unfolding put
put_injective m v x y (yes p) (yes q) h k s = omega arith
put_injective m v x y (yes p) (no q) h k s = absurd (k (sym s))
put_injective m v x y (no p) (yes q) h k s = absurd (h s)
put_injective m v x y (no p) (no q) h k s = s

-- By induction on n. Let v be the last number. If v stands earlier too, that is the pair. If not, put v in the place of
-- n - 1 among the others: they are then below n - 1, and two of them that are the same were the same before.
pub pigeonhole : (n : ℕ) (f : ℕ → ℕ) → ((i : ℕ) → i ≤ n → f i < n) → Twice f n
pigeonhole zero f b = absurd (let z : ⊥ = omega (arith, b 0 (omega arith)) in z)
pigeonhole (suc m) f b = turn (pigeonhole m) (among f v (suc m))
  where
    v : ℕ
    v = f (suc m)

    g : ℕ → ℕ
    g i = put m v (f i) (ℕ_discrete (f i) m)

    turn : ((h : ℕ → ℕ) → ((i : ℕ) → i ≤ m → h i < m) → Twice h m) → Among f v (suc m) → Twice f (suc m)
    turn ih (inl w) = record { i = w.0; j = suc m; order = w.1; upto = omega arith; same = w.2 }
    turn ih (inr w) =
        let d : (i : ℕ) → Dec (f i ≡ m) = λ i. ℕ_discrete (f i) m in
        let last : v < suc m = b (suc m) (omega arith) in
        let t = ih g (λ i l. put_below m v (f i) (d i) (b i (omega arith)) last (w i (omega arith))) in
        let p = w t.i (omega arith) in
        let q = w t.j (omega arith) in
        record {
          i = t.i;
          j = t.j;
          order = t.order;
          upto = omega arith;
          same = put_injective m v (f t.i) (f t.j) (d t.i) (d t.j) p q t.same;
        }
