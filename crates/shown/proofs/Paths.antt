-- A path is shown up to the first position that ends it.
use mathlib.Core.Path.{◌≡◌, subst}
use mathlib.Core.Logic.{◌⊎◌, inl, inr, by_cases}
use mathlib.Core.List.{List, [], ◌∷◌}
use Prim.Native.Nat.{ℕ, suc, ◌+◌, ◌≤◌}
use native.Mathlib.Omega.{arith}
use native.Mathlib.Decide.{dec_le}
use Rattle.tctl.specs.Chart.{Chart}
use Rattle.tctl.specs.Path.{Path, stop, step, minutes}
use Rattle.tctl.specs.Formula.{Bound, Meets}
use Rattle.tctl.proofs.AllAtMost.{Waits, Late, fails, lasts}
use Rattle.shown.specs.Shown.{Position, place, Over}
use Rattle.shown.proofs.Along.{Along, ends, goes}
use Rattle.shown.proofs.Reasons.{SomeAlong, AllAlong}

-- by induction on the path: each of its states may be passed or ends it, and its last state ends it
pub path_along :
    {G : Chart} {go end : ℕ → Type 0} {B L : ℕ → ℕ → Type 0} → ((k x : ℕ) → go x → B k x ⊎ L k x) →
    (k : ℕ) {s : ℕ} (p : Path G go end s) → ((x : ℕ) → end x → L (k + minutes p) x) →
    (shown : List Position) × Along G B L k s shown
path_along {L = L} f k (stop {s} e) h =
    let none : k + 0 ≡ k = omega arith in
    (place s 0 ∷ [], ends (subst (λ m. L m s) none (h s e)))
path_along {G} {go} {end} {B} {L} f k (step {s} {d} {t} g x p) h = turn (path_along f (k + d) p later) (f k s g)
  where
    later : (x : ℕ) → end x → L (k + d + minutes p) x
    later x e =
        let same : k + (d + minutes p) ≡ k + d + minutes p = omega arith in
        subst (λ m. L m x) same (h x e)

    turn :
        (shown : List Position) × Along G B L (k + d) t shown → B k s ⊎ L k s →
        (shown : List Position) × Along G B L k s shown
    turn w (inl b) = (place s d ∷ w.0, goes b x w.1)
    turn w (inr l) = (place s 0 ∷ [], ends l)

-- the path of an E-until, to its end
pub some_shown :
    {G : Chart} {P Q : ℕ → Type 0} (b : Bound) {s : ℕ} (p : Path G P Q s) → Meets b (minutes p) →
    (shown : List Position) × SomeAlong G P Q b s shown
some_shown b p m =
    let same : minutes p ≡ 0 + minutes p = omega arith in
    path_along (λ k x h. inl h) 0 p (λ x q. (subst (Meets b) same m, q))

over_or_not :
    (P Q : ℕ → Type 0) (c k x : ℕ) → Waits P Q x → ((k ≤ c) × Waits P Q x) ⊎ Over P Q c k x
over_or_not P Q c k x h = by_cases (dec_le k c) (λ l. inl (l, h)) (λ l. inr (inl (omega arith)))

-- the path that is late for an A-until, to where it is over
pub late_shown :
    {G : Chart} {P Q : ℕ → Type 0} {c s : ℕ} → Late G P Q (suc c) 0 s →
    (shown : List Position) × AllAlong G P Q c 0 s shown
late_shown {P = P} {Q} {c} (fails p) = path_along (over_or_not P Q c) 0 p (λ x f. inr f)
late_shown {P = P} {Q} {c} (lasts p h) = path_along (over_or_not P Q c) 0 p (λ x t. inl h)
