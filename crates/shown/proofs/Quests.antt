-- The quests are lawful: what a good worth is in each, and what it says at the last state.
use mathlib.Core.Path.{◌≡◌, refl, sym, ◌∙◌}
use mathlib.Core.Logic.Iff
use mathlib.Core.Logic.{◌↔◌, inl, inr, ⊎_elim}
use mathlib.Core.Bool.{Bool, true, false, cond, ◌||◌, false≢true}
use Prim.Native.Nat.{ℕ, zero, suc, ◌+◌, ◌≤◌, ◌<◌}
use native.Mathlib.Omega.{arith}
use Rattle.base.specs.Yes.{Yes}
use Rattle.base.proofs.Truth.{or_iff}
use Rattle.tctl.specs.Chart.{Chart, Most, up_to, no_end, Within}
use Rattle.tctl.specs.Formula.{Bound, Meets, at_most, at_least}
use Rattle.tctl.proofs.Drawn.{Drawn}
use Rattle.model.specs.Engine.{gain}
use Rattle.model.specs.Decide.{waiting, failing}
use Rattle.shown.specs.Shown.{Over}
use Rattle.shown.specs.Steps.{Quest, quickest, slowest, longest_of, lasting, all_quest}
use Rattle.shown.proofs.Lawful.{Lawful}

-- ── The least minutes ──

-- more is left than the moment
abbrev pub Left : ℕ → ℕ → Type 0
Left m v = m < v

quickest_lawful : {G : Chart} → Drawn G → (c : ℕ) (p q : ℕ → Bool) → Lawful G (quickest c p q) Left
quickest_lawful dr c p q =
    record {
      some = λ h. omega arith;
      more = λ l h. omega arith;
      back = λ a l w h. omega arith;
      on = λ a h. omega arith;
      low = λ a m. omega arith;
      high = dr.slots;
    }

-- ── The greatest minutes ──

-- there is a way, and with it the moment comes to the cap
abbrev pub Comes : ℕ → ℕ → ℕ → Type 0
Comes cap m v = (1 ≤ v) × (cap ≤ m + v)

module _ {cap : ℕ} (some : 1 ≤ cap) where
  -- with any duration of the slot in front it comes to the cap too, for the gain is as if by the most, up to the cap
  gain_back : (n : Most) (m v d : ℕ) → Within d n → Comes cap (m + d) v → Comes cap m (gain cap n v)
  gain_back n m zero d w h = absurd (let z : ⊥ = omega (arith, h.0) in z)
  gain_back (up_to n) m (suc v) d w h = (omega arith, omega arith)
  gain_back no_end m (suc v) d w h = (omega arith, omega arith)

  -- and after the longest_of duration it comes as far as the gain
  gain_on : (n : Most) (f m v : ℕ) → Comes cap m (gain cap n v) → Comes cap (m + longest_of cap f n) v
  gain_on n f m zero h = absurd (let z : ⊥ = omega (arith, h.0) in z)
  gain_on (up_to n) f m (suc v) h = (omega arith, omega arith)
  gain_on no_end f m (suc v) h = (omega arith, omega arith)

  -- the longest_of duration lies in the slot
  longest_low : (n : Most) (f : ℕ) → Within f n → f ≤ longest_of cap f n
  longest_low (up_to n) f w = w
  longest_low no_end f w = omega arith

  longest_high : (n : Most) (f : ℕ) → Within (longest_of cap f n) n
  longest_high (up_to n) f = omega arith
  longest_high no_end f = tt

  -- what comes to the cap comes to it from the moment 0
  comes_need : (v : ℕ) → (cap ≤ v) ↔ Comes cap 0 v
  comes_need v = (λ h. (omega arith, omega arith), λ h. omega arith)

  slowest_lawful :
      {G : Chart} → Drawn G → (go : ℕ → Bool) (base : ℕ → ℕ) → Lawful G (slowest cap go base) (Comes cap)
  slowest_lawful dr go base =
      record {
        some = λ h. h.0;
        more = λ l h. (omega arith, omega arith);
        back = λ {m} {v} {d} a l w h. gain_back a.most m v d w h;
        on = λ {m} {v} a h. gain_on a.most a.fewest m v h;
        low = λ a m. longest_low a.most a.fewest (dr.slots a m);
        high = λ a m. longest_high a.most a.fewest;
      }

-- ── E-untils ──

module _ (p q : ℕ → Bool) where
  -- a quest for an E-until goes on where p holds, and at its last state the bound is met and q holds
  pub record SomeQuest (G : Chart) (b : Bound) (z : Quest) : Type 1 where
    pub Good : ℕ → ℕ → Type 0
    pub law : Lawful G z Good
    pub go : (x : ℕ) → Yes z.go x ↔ Yes p x
    pub last : (m x : ℕ) → Good m (z.base x) ↔ (Meets b m × Yes q x)
    pub need : (v : ℕ) → (z.need ≤ v) ↔ Good 0 v

  pub soon : {G : Chart} → Drawn G → (c : ℕ) → SomeQuest G (at_most c) (quickest c p q)
  soon dr c =
      record {
        Good = Left;
        law = quickest_lawful dr c p q;
        go = λ x. Iff.rfl;
        last = λ m x. turn m (q x);
        need = λ v. Iff.rfl;
      }
    where
      turn : (m : ℕ) (t : Bool) → (m < cond t (suc c) 0) ↔ ((m ≤ c) × (t ≡ true))
      turn m true = (λ h. (omega arith, refl), λ h. omega arith)
      turn m false = (λ h. absurd (let z : ⊥ = omega arith in z), λ h. absurd (false≢true h.1))

  pub long : {G : Chart} → Drawn G → (c : ℕ) → SomeQuest G (at_least c) (lasting c p q)
  long dr c =
      record {
        Good = Comes (suc c);
        law = slowest_lawful (omega arith) dr p (λ s. cond (q s) 1 0);
        go = λ x. Iff.rfl;
        last = λ m x. turn m (q x);
        need = comes_need (omega arith);
      }
    where
      turn : (m : ℕ) (t : Bool) → Comes (suc c) m (cond t 1 0) ↔ ((c ≤ m) × (t ≡ true))
      turn m true = (λ h. (omega arith, refl), λ h. (omega arith, omega arith))
      turn m false = (λ h. absurd (let z : ⊥ = omega arith in z), λ h. absurd (false≢true h.1))

  -- ── A-untils, at most c ──

  pub all_lawful : {G : Chart} → Drawn G → (c : ℕ) → Lawful G (all_quest c p q) (Comes (suc (suc c)))
  all_lawful dr c = slowest_lawful (omega arith) dr (waiting p q) (failing (suc (suc c)) p q)

  pub all_need : (c v : ℕ) → ((all_quest c p q).need ≤ v) ↔ Comes (suc (suc c)) 0 v
  all_need c v = comes_need (omega arith) v

  -- at the last state: it is over
  pub all_last : (c m x : ℕ) → Comes (suc (suc c)) m (failing (suc (suc c)) p q x) ↔ Over (Yes p) (Yes q) c m x
  all_last c m x = turn (p x || q x) refl
    where
      turn :
          (t : Bool) → (p x || q x) ≡ t → Comes (suc (suc c)) m (cond t 1 (suc (suc c))) ↔ Over (Yes p) (Yes q) c m x
      turn true e = (
        λ h. inl (omega arith),
        λ o. (
          omega arith,
          ⊎_elim (λ l. omega arith) (λ f. absurd (⊎_elim f.0 f.1 ((or_iff (p x) (q x)).0 e))) o,
        ),
      )
      turn false e =
          let none : (p x || q x) ≡ true → ⊥ = λ h. false≢true (sym e ∙ h) in (
            λ h. inr (λ y. none ((or_iff (p x) (q x)).1 (inl y)), λ y. none ((or_iff (p x) (q x)).1 (inr y))),
            λ o. (omega arith, omega arith),
          )
