-- The until along a sequence of states and the durations between them: met now, or met later.
use mathlib.Core.Path.{◌≡◌, subst}
use mathlib.Core.Logic.{◌↔◌, ◌⊎◌, inl, inr}
use Prim.Native.Nat.{ℕ, zero, suc, ◌+◌, ◌<◌}
use native.Mathlib.Omega.{arith}
use Rattle.base.specs.Sum.{sum}
use Rattle.tctl.specs.Chart.{Chart, states}
use Rattle.tctl.specs.Run.{Run, moment}
use Rattle.tctl.specs.Formula.{Bound, Meets}
use Rattle.tctl.specs.Holds.{Met}
use Rattle.tctl.proofs.Drawn.{Drawn}
use Rattle.tctl.proofs.Run.{run_below}
use Rattle.base.proofs.Sum.{sum_suc}

-- the until is met along the sequence, whose first state has the moment k
pub record Until (P Q : ℕ → Type 0) (b : Bound) (k : ℕ) (state duration : ℕ → ℕ) : Type 0 where
  pub position : ℕ
  pub intime : Meets b (k + sum duration position)
  pub there : Q (state position)
  pub before : (j : ℕ) → j < position → P (state j)

module _ {P Q : ℕ → Type 0} {b : Bound} {k : ℕ} {state duration : ℕ → ℕ} where
  -- Q holds at the first state
  pub now : Meets b k → Q (state 0) → Until P Q b k state duration
  unfolding sum
  now m q =
      record {
        position = 0;
        intime = subst (Meets b) (let e : k ≡ k + 0 = omega arith in e) m;
        there = q;
        before = λ j l. absurd (let z : ⊥ = omega arith in z);
      }

  -- P holds at the first state, and the until is met from the second on
  pub later :
      P (state 0) →
      Until P Q b (k + duration 0) (λ i. state (suc i)) (λ i. duration (suc i)) →
      Until P Q b k state duration
  later p u =
      let i = u.position in
      let e : k + duration 0 + sum (λ j. duration (suc j)) i ≡ k + sum duration (suc i) =
      omega (arith, sum_suc duration i) in
      record {
        position = suc i;
        intime = subst (Meets b) e u.intime;
        there = u.there;
        before = elim [ zero ↦ λ l. p | suc j ↦ λ l. u.before j (omega arith) ];
      }

  -- there is no third way
  pub now_or_later :
      Until P Q b k state duration →
      (Meets b k × Q (state 0)) ⊎
      (P (state 0) × Until P Q b (k + duration 0) (λ i. state (suc i)) (λ i. duration (suc i)))
  unfolding sum
  now_or_later u = turn u.position u.intime u.there u.before
    where
      turn :
          (i : ℕ) → Meets b (k + sum duration i) → Q (state i) → ((j : ℕ) → j < i → P (state j)) →
          (Meets b k × Q (state 0)) ⊎
          (P (state 0) × Until P Q b (k + duration 0) (λ i. state (suc i)) (λ i. duration (suc i)))
      turn zero m q f = inl (subst (Meets b) (let e : k + 0 ≡ k = omega arith in e) m, q)
      turn (suc i) m q f =
          let e : k + sum duration (suc i) ≡ k + duration 0 + sum (λ j. duration (suc j)) i =
          omega (arith, sum_suc duration i) in
          inr (
            f 0 (omega arith),
            record { position = i; intime = subst (Meets b) e m; there = q; before = λ j l. f (suc j) (omega arith) },
          )

-- a bound that is met whenever another is
pub until_weaken :
    {P Q : ℕ → Type 0} {b b' : Bound} {k k' : ℕ} {state duration : ℕ → ℕ} →
    ((m : ℕ) → Meets b (k + m) → Meets b' (k' + m)) →
    Until P Q b k state duration →
    Until P Q b' k' state duration
until_weaken {duration = duration} f u =
    record {
      position = u.position;
      intime = f (sum duration u.position) u.intime;
      there = u.there;
      before = u.before;
    }

-- along a run
pub met_iff_until :
    {G : Chart} {P Q : ℕ → Type 0} {b : Bound} {s : ℕ} (r : Run G s) →
    Met G P Q b s r ↔ Until P Q b 0 r.state r.duration
met_iff_until {G} {P} {Q} {b} {s} r = (down, up)
  where
    down : Met G P Q b s r → Until P Q b 0 r.state r.duration
    down m =
        let e : moment r m.position ≡ 0 + moment r m.position = omega arith in
        record { position = m.position; intime = subst (Meets b) e m.intime; there = m.there; before = m.before }

    up : Until P Q b 0 r.state r.duration → Met G P Q b s r
    up u =
        let e : 0 + moment r u.position ≡ moment r u.position = omega arith in
        record { position = u.position; intime = subst (Meets b) e u.intime; there = u.there; before = u.before }

-- an until of P and Q is one of what follows from them at the chart's states
pub met_map :
    {G : Chart} → Drawn G → {P Q P' Q' : ℕ → Type 0} → ((s : ℕ) → s < states G → P s → P' s) →
    ((s : ℕ) → s < states G → Q s → Q' s) →
    {b : Bound} {s : ℕ} → s < states G → (r : Run G s) → Met G P Q b s r → Met G P' Q' b s r
met_map dr f g l r m =
    record {
      position = m.position;
      intime = m.intime;
      there = g (r.state m.position) (run_below dr l r m.position) m.there;
      before = λ j k. f (r.state j) (run_below dr l r j) (m.before j k);
    }
