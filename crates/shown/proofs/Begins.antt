-- The runs that begin with what is shown: there is one; each meets an E-until whose reason is shown, and none does an
-- A-until.
use mathlib.Core.Path.{◌≡◌, refl, sym, ap, subst}
use mathlib.Core.Logic.{⊎_elim, by_cases}
use mathlib.Core.List.{List}
use Prim.Native.Nat.{ℕ, zero, suc, ◌≤◌, ◌<◌}
use native.Mathlib.Omega.{arith}
use native.Mathlib.Decide.{dec_le}
use lib.ListN.{length}
use Rattle.base.specs.Sum.{sum}
use Rattle.base.proofs.Sum.{sum_same}
use Rattle.tctl.specs.Chart.{Chart, states}
use Rattle.tctl.specs.Run.{Run, moment}
use Rattle.tctl.specs.Formula.{Bound, Meets, at_most}
use Rattle.tctl.specs.Holds.{Met}
use Rattle.tctl.specs.Accepted.{Accepted}
use Rattle.tctl.proofs.Drawn.{accepted_drawn, step_below}
use Rattle.tctl.proofs.Run.{ahead}
use Rattle.tctl.proofs.Lively.{lively}
use Rattle.shown.specs.Shown.{
  Position,
  state_at,
  duration_at,
  moment_at,
  Shows,
  SomeReason,
  AllReason,
  Begins,
}
use Rattle.shown.proofs.Along.{Along, ends, goes, ByPosition, along_iff}

-- ── There is such a run ──

-- the steps shown, and then any run
module _ {G : Chart} (acc : Accepted G) where
  begun_along :
      {B L : ℕ → ℕ → Type 0} {k s : ℕ} {shown : List Position} → s < states G → Along G B L k s shown →
      (r : Run G s) × Begins shown r
  begun_along l (ends {s = s} h) =
      let r = lively acc s l in (
        r,
        record {
          states = elim [ zero ↦ λ i. r.starts | suc j ↦ λ i. absurd (let z : ⊥ = omega arith in z) ];
          durations = λ j i. absurd (let z : ⊥ = omega arith in z);
        },
      )
  begun_along l (goes h x w) =
      let r = begun_along (step_below (accepted_drawn acc) x) w in (
        ahead x r.0,
        record {
          states = elim [ zero ↦ λ i. refl | suc j ↦ λ i. r.1.states j (omega arith) ];
          durations = elim [ zero ↦ λ i. refl | suc j ↦ λ i. r.1.durations j (omega arith) ];
        },
      )

  pub begun :
      {s last : ℕ} {shown : List Position} → s < states G → Shows G s shown last → (r : Run G s) × Begins shown r
  begun {s} {last} {shown} l w = begun_along l (along_iff.1 plain)
    where
      plain : ByPosition G (λ k x. Unit {0}) (λ k x. Unit {0}) s shown
      plain = record { last = last; shows = w; final = tt; earlier = λ j l. tt }

-- ── What each such run does ──

-- moments do not fall
moment_le : (d : ℕ → ℕ) {i : ℕ} (j : ℕ) → i ≤ j → sum d i ≤ sum d j
unfolding sum
moment_le d {i} zero l = let e : i ≡ 0 = omega arith in omega (arith, ap (sum d) e)
moment_le d {i} (suc j) l =
    by_cases (dec_le i j) (λ k. omega (arith, moment_le d j k))
    (λ k. let e : i ≡ suc j = omega arith in omega (arith, ap (sum d) e))

module _ {G : Chart} {s : ℕ} {shown : List Position} (r : Run G s) (b : Begins shown r) where
  moment_shown : (i : ℕ) → i < length shown → moment r i ≡ moment_at shown i
  moment_shown i l = sum_same r.duration (duration_at shown) i (λ v k. b.durations v (omega arith))

module _ {G : Chart} {P Q : ℕ → Type 0} {s : ℕ} {shown : List Position} where
  -- the until is met at the last position shown, where the run is as shown
  pub some_met : {b : Bound} → SomeReason G P Q b s shown → (r : Run G s) → Begins shown r → Met G P Q b s r
  some_met {b} w r g =
      let i = w.last in
      let inside : (j : ℕ) → j ≤ i → j < length shown = λ j l. omega (arith, w.shows.count) in
      record {
        position = i;
        intime = subst (Meets b) (sym (moment_shown r g i (inside i (omega arith)))) w.intime;
        there = subst Q (sym (g.states i (inside i (omega arith)))) w.there;
        before = λ j l. subst P (sym (g.states j (inside j (omega arith)))) (w.before j l);
      }

  -- Were it met before the last position shown, it would be met as shown. Were it met there or later: moments do not
  -- fall, so that the last one shown is not above c; and there Q would hold, or P if it is met later.
  pub all_unmet :
      {c : ℕ} → AllReason G P Q c s shown → (r : Run G s) → Begins shown r → ¬ Met G P Q (at_most c) s r
  all_unmet {c} w r g m = by_cases (dec_le (suc m.position) w.last) earlier (λ l. later (omega arith))
    where
      i : ℕ
      i = w.last

      inside : (j : ℕ) → j ≤ i → j < length shown
      inside j l = omega (arith, w.shows.count)

      earlier : m.position < i → ⊥
      earlier l =
          let k = m.position in
          w.unmet k l
          record {
            intime = omega (arith, moment_shown r g k (inside k (omega arith)), m.intime);
            there = subst Q (g.states k (inside k (omega arith))) m.there;
            before = λ j h. subst P (g.states j (inside j (omega arith))) (m.before j h);
          }

      later : i ≤ m.position → ⊥
      later l = ⊎_elim (λ h. let z : ⊥ = omega (arith, low) in z) neither w.over
        where
          low : moment_at shown i ≤ c
          low =
              let same = moment_shown r g i (inside i (omega arith)) in
              omega (arith, moment_le r.duration m.position l, m.intime)

          neither : (¬ P (state_at shown i)) × (¬ Q (state_at shown i)) → ⊥
          neither h =
              let here = g.states i (inside i (omega arith)) in
              by_cases (dec_le m.position i)
              (λ k.
              let e : m.position ≡ i = omega arith in
              h.1 (subst Q here (subst (λ j. Q (r.state j)) e m.there)))
              (λ k. h.0 (subst P here (m.before i (omega arith))))
