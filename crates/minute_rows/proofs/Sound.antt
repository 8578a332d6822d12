-- A row that is being filled stays so when an arrow adds to it.
use mathlib.Core.Path.{◌≡◌, sym, ap, subst, ◌∙◌}
use mathlib.Core.Logic.{◌↔◌, by_cases}
use mathlib.Core.List.{List, Memᴰ}
use mathlib.Core.Bool.{true}
use Prim.Native.Nat.{ℕ, suc, ◌+◌, ◌*◌, ◌≤◌, ◌<◌}
use native.Mathlib.Omega.{arith}
use native.Mathlib.Decide.{dec_le, ℕ_discrete}
use lib.ListN.{length}
use Rattle.tctl.specs.Chart.{Chart, Arrow, states}
use Rattle.tctl.proofs.Drawn.{Drawn}
use Rattle.minutes.specs.Makes.{Task, Makes, goes_at}
use Rattle.minutes.specs.Table.{makes}
use Rattle.minutes.proofs.OneRow.{sound_arrow}
use Rattle.minutes.proofs.Rounds.{makes_iff}
use Rattle.moves.specs.Moves.{capped}
use Rattle.minute_rows.specs.Numbers.{answer}
use Rattle.minute_rows.specs.Filled.{Word, leads_on, added, Filling}
use Rattle.minute_rows.proofs.Answers.{leads_answers}
use Rattle.minute_rows.proofs.Added.{answer_stays, answer_kept, latest_added}

-- the table over n states decides who makes it
made_iff :
    {G : Chart} → Drawn G → {n : ℕ} → states G ≡ n → (w : Task) (r s : ℕ) → s < n →
    (makes G.arrows n w r s ≡ true) ↔ Makes G w r s
made_iff {G} dr count w =
    subst (λ n. (r s : ℕ) → s < n → (makes G.arrows n w r s ≡ true) ↔ Makes G w r s) count (makes_iff dr w)

module _ {G : Chart} (dr : Drawn G) {n : ℕ} (count : states G ≡ n) {w : Task} {minute : ℕ} (beyond old : List ℕ) where
  -- every answer up to the row is sound
  sound_all :
      Filling G n w minute beyond old → (i t : ℕ) → i ≤ suc minute → t < n → answer n beyond old i t ≡ true →
      Makes G w i t
  sound_all f i t l h e =
      by_cases (dec_le i minute) (λ k. (made_iff dr count w i t h).0 (sym (f.right i t k h) ∙ e))
      (λ k.
      let z : i ≡ suc minute = omega arith in
      subst (λ i. Makes G w i t) (sym z) (f.sound t h (subst (λ i. answer n beyond old i t ≡ true) z e)))

  -- the arrow b leads on, and is an arrow of the chart from where it may go on
  pub filling_added :
      (b : Arrow) →
      (a : Arrow) × Memᴰ a G.arrows × (goes_at w (suc minute) a.start ≡ true) × (b ≡ capped a) →
      Word n minute b beyond old → leads_on n minute beyond old b ≡ true →
      Filling G n w minute beyond old → Filling G n w minute beyond (added n minute b.start old)
  filling_added b from word on f =
      record {
        last = latest_added n minute u beyond old fits word.start f.last;
        right = λ r s l h.
            answer_stays n minute u beyond old r s (omega arith) h (λ e. absurd (let z : ⊥ = omega arith in z)) ∙
            f.right r s l h;
        sound = λ s h e.
            by_cases (ℕ_discrete s u) (λ i. subst (Makes G w (suc minute)) (sym i) start_makes)
            (λ i. f.sound s h (sym (answer_stays n minute u beyond old (suc minute) s (omega arith) h (λ j. i)) ∙ e));
        begins = λ s l e. answer_kept n minute u beyond old fits s l (f.begins s l e);
      }
    where
      u : ℕ
      u = b.start

      fits : minute * n + u < length old
      fits = omega (arith, word.start, word.room)

      start_makes : Makes G w (suc minute) u
      start_makes =
          let a = from.0 in
          let member = from.1 in
          let capped-on = subst (λ b. leads_on n minute beyond old b ≡ true) from.3 on in
          let leads = leads_answers beyond old f.last a word.few (omega (arith, dr.ends a member)) in
          subst (Makes G w (suc minute)) (sym (ap (λ b. b.start) from.3))
          (sound_arrow dr w (answer n beyond old) (suc minute) (λ i t l h. sound_all f i t l (omega arith)) a member
          from.2 (sym leads ∙ capped-on))
