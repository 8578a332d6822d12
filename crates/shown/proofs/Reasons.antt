-- The reasons, one position after the other.
use mathlib.Core.Path.{◌≡◌, sym, subst}
use mathlib.Core.Logic.Iff
use mathlib.Core.Logic.{◌↔◌, inl, inr, ⊎_elim, by_cases}
use mathlib.Core.List.{List}
use Prim.Native.Nat.{ℕ, zero, suc, ◌≤◌, ◌<◌}
use native.Mathlib.Omega.{arith}
use native.Mathlib.Decide.{dec_le}
use Rattle.tctl.specs.Chart.{Chart, states}
use Rattle.tctl.specs.Formula.{Bound, Meets}
use Rattle.tctl.proofs.Drawn.{Drawn, step_below}
use Rattle.tctl.proofs.AllAtMost.{Waits}
use Rattle.shown.specs.Shown.{Position, state_at, moment_at, Shows, SomeReason, Over, AllReason}
use Rattle.shown.proofs.Along.{Along, ByPosition, along_iff}

-- ── E-untils ──

abbrev pub SomeAlong : Chart → (ℕ → Type 0) → (ℕ → Type 0) → Bound → ℕ → List Position → Type 0
SomeAlong G P Q b s shown = Along G (λ k x. P x) (λ k x. Meets b k × Q x) 0 s shown

pub some_along :
    {G : Chart} {P Q : ℕ → Type 0} {b : Bound} {s : ℕ} {shown : List Position} →
    SomeReason G P Q b s shown ↔ SomeAlong G P Q b s shown
some_along {G} {P} {Q} {b} {s} {shown} = Iff.trans (numbered, reason) (Iff.symm along_iff)
  where
    numbered : SomeReason G P Q b s shown → ByPosition G (λ k x. P x) (λ k x. Meets b k × Q x) s shown
    numbered w =
        record { last = w.last; shows = w.shows; final = (w.intime, w.there); earlier = w.before }

    reason : ByPosition G (λ k x. P x) (λ k x. Meets b k × Q x) s shown → SomeReason G P Q b s shown
    reason n =
        record {
          last = n.last;
          shows = n.shows;
          intime = n.final.0;
          there = n.final.1;
          before = n.earlier;
        }

-- ── A-untils, at most c ──

-- before its end the moment is not above c, and it waits
abbrev pub AllAlong : Chart → (ℕ → Type 0) → (ℕ → Type 0) → ℕ → ℕ → ℕ → List Position → Type 0
AllAlong G P Q c k s shown = Along G (λ k x. (k ≤ c) × Waits P Q x) (Over P Q c) k s shown

shows_below :
    {G : Chart} {s last : ℕ} {shown : List Position} → Drawn G → s < states G → Shows G s shown last →
    (i : ℕ) → i ≤ last → state_at shown i < states G
shows_below {G} dr low w zero l = subst (λ x. x < states G) (sym w.starts) low
shows_below dr low w (suc i) l = step_below dr (w.moves i (omega arith))

module _ {G : Chart} {P Q : ℕ → Type 0} {c s : ℕ} {shown : List Position} where
  -- At a position before the last: it is not over, so that the moment is not above c. Q does not hold, for P holds at
  -- the positions before, and the until would be met. So P holds, for otherwise neither would.
  waits_at :
      (w : AllReason G P Q c s shown) (j : ℕ) → j < w.last → Dec (P (state_at shown j)) →
      ((i : ℕ) → i < j → P (state_at shown i)) →
      (moment_at shown j ≤ c) × Waits P Q (state_at shown j)
  waits_at w j l dec_p before =
      let low : moment_at shown j ≤ c =
      by_cases (dec_le (moment_at shown j) c) (λ h. h) (λ h. absurd (w.first j l (inl (omega arith)))) in
      let no_q : ¬ Q (state_at shown j) = λ q. w.unmet j l record { intime = low; there = q; before = before } in
      (low, (by_cases dec_p (λ p. p) (λ f. absurd (w.first j l (inr (f, no_q)))), no_q))

  -- so P holds at the positions before n, for n up to the last: one after the other
  holds_before :
      (w : AllReason G P Q c s shown) → ((j : ℕ) → j < w.last → Dec (P (state_at shown j))) →
      (n : ℕ) → n ≤ w.last → (j : ℕ) → j < n → P (state_at shown j)
  holds_before w dec_p zero l j k = absurd (let z : ⊥ = omega arith in z)
  holds_before w dec_p (suc n) l j k =
      let before : (i : ℕ) → i < n → P (state_at shown i) = holds_before w dec_p n (omega arith) in
      let here : P (state_at shown n) = (waits_at w n (omega arith) (dec_p n (omega arith)) before).1.0 in
      by_cases (dec_le (suc j) n) (before j)
      (λ h. let e : n ≡ j = omega arith in subst (λ i. P (state_at shown i)) e here)

  pub all_along :
      Drawn G → ((x : ℕ) → x < states G → Dec (P x)) → s < states G →
      AllReason G P Q c s shown ↔ AllAlong G P Q c 0 s shown
  all_along dr dec_p low = Iff.trans (numbered, reason) (Iff.symm along_iff)
    where
      numbered : AllReason G P Q c s shown → ByPosition G (λ k x. (k ≤ c) × Waits P Q x) (Over P Q c) s shown
      numbered w =
          let dec : (j : ℕ) → j < w.last → Dec (P (state_at shown j)) =
          λ j l. dec_p (state_at shown j) (shows_below dr low w.shows j (omega arith)) in
          record {
            last = w.last;
            shows = w.shows;
            final = w.over;
            earlier = λ j l. waits_at w j l (dec j l) (holds_before w dec j (omega arith));
          }

      reason : ByPosition G (λ k x. (k ≤ c) × Waits P Q x) (Over P Q c) s shown → AllReason G P Q c s shown
      reason n =
          record {
            last = n.last;
            shows = n.shows;
            over = n.final;
            first = λ j l.
                let h = n.earlier j l in
                ⊎_elim (λ k. let z : ⊥ = omega (arith, h.0) in z) (λ f. f.0 h.1.0);
            unmet = λ j l m. (n.earlier j l).1.1 m.there;
          }
