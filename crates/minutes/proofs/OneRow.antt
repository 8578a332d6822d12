-- A row of the table, by the rows below it and itself: what is sound in it stays so, and a row that no arrow adds to is
-- complete. So any order of the arrows serves.
use mathlib.Core.Path.{◌≡◌, refl, sym, ap, subst}
use mathlib.Core.Logic.{by_cases}
use mathlib.Core.List.{Memᴰ}
use mathlib.Core.Bool.{Bool, true}
use Prim.Native.Nat.{ℕ, suc, ◌-◌, ◌≤◌, ◌<◌}
use native.Mathlib.Omega.{arith}
use native.Mathlib.Decide.{dec_le}
use Rattle.tctl.specs.Chart.{Chart, Arrow, states}
use Rattle.tctl.specs.Run.{Step}
use Rattle.tctl.proofs.Drawn.{Drawn, step_below}
use Rattle.minutes.specs.Makes.{Task, stops_at, goes_at, Makes, stops, goes}
use Rattle.minutes.specs.Table.{leads}
use Rattle.minutes.proofs.OneArrow.{leads_iff}

-- from row r the arrow leads on, by the rows x
abbrev pub Adds : (ℕ → ℕ → Bool) → ℕ → Arrow → Type 0
Adds x r a = leads (λ i. x i a.end) r a ≡ true

-- row r of x has what it begins with, and all that an arrow leads on from
pub record Quiet (G : Chart) (w : Task) (x : ℕ → ℕ → Bool) (r : ℕ) : Type 0 where
  pub begins : (s : ℕ) → s < states G → stops_at w r s ≡ true → x r s ≡ true
  pub closed :
      (a : Arrow) → Memᴰ a G.arrows → goes_at w r a.start ≡ true → Adds x r a → x r a.start ≡ true

module _ {G : Chart} (dr : Drawn G) (w : Task) (x : ℕ → ℕ → Bool) where
  -- where the rows up to r are sound, what an arrow adds to row r is
  pub sound_arrow :
      (r : ℕ) → ((i t : ℕ) → i ≤ r → t < states G → x i t ≡ true → Makes G w i t) →
      (a : Arrow) → Memᴰ a G.arrows → goes_at w r a.start ≡ true → Adds x r a → Makes G w r a.start
  sound_arrow r sound a k g h =
      let d = (leads_iff (λ i. x i a.end) r a (dr.slots a k)).0 h in
      let y : Step G a.start d.minutes a.end =
      record { arrow = a; drawn = k; leaves = refl; enters = refl; least = d.least; greatest = d.greatest } in
      goes g y (sound (r - d.minutes) a.end (omega arith) (dr.ends a k) d.on)

  -- a step to where x says yes is an arrow that leads on
  adds : (r : ℕ) {s d t : ℕ} (y : Step G s d t) → x (r - d) t ≡ true → Adds x r y.arrow
  adds r {d = d} y h =
      let a = y.arrow in
      (leads_iff (λ i. x i a.end) r a (dr.slots a y.drawn)).1
      (record {
        minutes = d;
        least = y.least;
        greatest = y.greatest;
        on = subst (λ e. x (r - d) e ≡ true) (sym y.enters) h;
      })

  module _
      {r : ℕ}
      (below : (i t : ℕ) → i < r → t < states G → Makes G w i t → x i t ≡ true)
      (quiet : Quiet G w x r) where
    closes : {s d t : ℕ} → goes_at w r s ≡ true → (y : Step G s d t) → x (r - d) t ≡ true → x r s ≡ true
    closes g y h =
        subst (λ u. x r u ≡ true) y.leaves
        (quiet.closed y.arrow y.drawn (subst (λ u. goes_at w r u ≡ true) (sym y.leaves) g) (adds r y h))

    -- By induction on how s makes it: a step of some minutes leads to a row below, which is complete, and one of none
    -- to row r again.
    pub complete_row : {i s : ℕ} → Makes G w i s → i ≡ r → s < states G → x r s ≡ true
    complete_row (stops {s = s} h) e l = quiet.begins s l (subst (λ i. stops_at w i s ≡ true) e h)
    complete_row (goes {r = i} {s} {d} {t} g y v) e l =
        let low = step_below dr y in
        let same : i - d ≡ r - d = ap (λ i. i - d) e in
        let ih : i - d ≡ r → x r t ≡ true = λ f. complete_row v f low in
        let there : x (r - d) t ≡ true =
        by_cases (dec_le (suc (r - d)) r)
        (λ k. below (r - d) t k low (subst (λ i. Makes G w i t) same v))
        (λ k. let z : r ≡ r - d = omega arith in subst (λ i. x i t ≡ true) z (ih (omega arith))) in
        closes (subst (λ i. goes_at w i s ≡ true) e g) y there
