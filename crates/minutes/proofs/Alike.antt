-- Rows that are alike. With whom a row begins decides it; and where it is asked the same of a state as in the row below, the
-- row begins with it as that one does, unless the slot of an arrow comes there to a change of its end, or leaves one.
use mathlib.Core.Path.{◌≡◌, refl, sym, ap, subst, ◌∙◌}
use mathlib.Core.Logic.{◌↔◌, ◌⊎◌, inl, inr, ⊎_elim, by_cases}
use mathlib.Core.List.{Memᴰ}
use mathlib.Core.Bool.{true}
use Prim.Native.Nat.{ℕ, suc, ◌-◌, ◌≤◌, ◌<◌, max}
use native.Mathlib.Omega.{arith}
use native.Mathlib.Decide.{dec_le}
use Rattle.tctl.specs.Chart.{Chart, Arrow, Most, up_to, no_end, Within, states}
use Rattle.tctl.specs.Run.{Step}
use Rattle.tctl.proofs.Drawn.{Drawn, step_below}
use Rattle.minutes.specs.Makes.{Task, stops_at, goes_at, Makes, stops, goes}
use Rattle.minutes.specs.RowBegins.{Later, RowBegins}

pub begins_makes : {G : Chart} {w : Task} {r s : ℕ} → RowBegins G w r s → Makes G w r s
begins_makes (inl h) = stops h
begins_makes (inr h) = goes h.0 h.1.step h.1.on

-- ── Rows that begin alike ──

module _
    {G : Chart}
    (dr : Drawn G)
    {w : Task}
    {r r' : ℕ}
    (going : (s : ℕ) → goes_at w r s ≡ goes_at w r' s)
    (begun : (s : ℕ) → s < states G → RowBegins G w r s → RowBegins G w r' s) where
  -- By induction on how s makes it: at once or by some minutes row r begins with s, and a step of no minute leads to row
  -- r again.
  makes_alike : {i s : ℕ} → Makes G w i s → i ≡ r → s < states G → Makes G w r' s
  makes_alike (stops {s = s} h) e l = begins_makes (begun s l (inl (subst (λ i. stops_at w i s ≡ true) e h)))
  makes_alike (goes {r = i} {s} {d} {t} g y v) e l =
      let here : goes_at w r s ≡ true = subst (λ i. goes_at w i s ≡ true) e g in
      let ih : i - d ≡ r → Makes G w r' t = λ f. makes_alike v f (step_below dr y) in
      by_cases (dec_le 1 d)
      (λ k.
      let there : Makes G w (r - d) t = subst (λ i. Makes G w (i - d) t) e v in
      begins_makes (begun s l (inr (here, record { minutes = d; end = t; some = k; step = y; on = there }))))
      (λ k.
      let same : r' ≡ r' - d = omega arith in
      goes (sym (going s) ∙ here) y (subst (λ i. Makes G w i t) same (ih (omega arith))))

  pub row_alike : (s : ℕ) → s < states G → Makes G w r s → Makes G w r' s
  row_alike s l v = makes_alike v refl l

-- ── States that begin as in the row below ──

-- from row r + 1 the arrow's slot comes to no change of its end and leaves none: the end makes it alike in the highest rows
-- reached from r + 1 and from r by a minute or more, and in the lowest
pub record Calm (G : Chart) (w : Task) (r : ℕ) (a : Arrow) : Type 0 where
  pub comes :
      Makes G w (suc r - max 1 a.fewest) a.end ↔ Makes G w (r - max 1 a.fewest) a.end
  pub leaves :
      (g : ℕ) → a.most ≡ up_to g → 1 ≤ g → Makes G w (suc r - g) a.end ↔ Makes G w (r - g) a.end

within_less : (m : Most) {d e : ℕ} → e ≤ d → Within d m → Within e m
within_less (up_to g) l h = omega arith
within_less no_end l h = tt

-- a minute more, if the duration isn't the most
within_next : (m : Most) (d : ℕ) → Within d m → Within (suc d) m ⊎ (m ≡ up_to d)
within_next (up_to g) d h = by_cases (dec_le (suc d) g) inl (λ k. inr (ap up_to (omega arith)))
within_next no_end d h = inl tt

-- the step in another duration of its slot
lasting :
    {G : Chart} {s d t : ℕ} (y : Step G s d t) (e : ℕ) → y.arrow.fewest ≤ e → Within e y.arrow.most → Step G s e t
lasting y e l h =
    record {
      arrow = y.arrow;
      drawn = y.drawn;
      leaves = y.leaves;
      enters = y.enters;
      least = l;
      greatest = h;
    }

module _
    {G : Chart}
    {w : Task}
    {r s : ℕ}
    (calm : (a : Arrow) → Memᴰ a G.arrows → a.start ≡ s → Calm G w r a) where
  -- A minute less leads from row r where the step led, unless it is the shortest; then its end is calm.
  later_down : Later G w (suc r) s → Later G w r s
  later_down v =
      by_cases (dec_le (suc (max 1 a.fewest)) d)
      (λ k.
      let y' = lasting y (d - 1) (omega arith) (within_less a.most (omega arith) y.greatest) in
      let same : suc r - d ≡ r - (d - 1) = omega (arith, v.some) in
      record {
        minutes = d - 1;
        end = t;
        some = omega arith;
        step = y';
        on = subst (λ i. Makes G w i t) same v.on;
      })
      (λ k.
      let e : d ≡ max 1 a.fewest = omega (arith, v.some, y.least) in
      let f = y.enters in
      let there : Makes G w (suc r - max 1 a.fewest) a.end =
      subst (λ u. Makes G w (suc r - max 1 a.fewest) u) (sym f) (subst (λ d. Makes G w (suc r - d) t) e v.on) in
      record {
        minutes = d;
        end = t;
        some = v.some;
        step = y;
        on =
            subst (λ u. Makes G w (r - d) u) f
            (subst (λ d. Makes G w (r - d) a.end) (sym e) ((calm a y.drawn y.leaves).comes.0 there));
      })
    where
      d : ℕ
      d = v.minutes

      t : ℕ
      t = v.end

      y : Step G s v.minutes v.end
      y = v.step

      a : Arrow
      a = v.step.arrow

  -- A minute more leads from row r + 1 where the step led, unless it is the longest; then its end is calm.
  later_up : Later G w r s → Later G w (suc r) s
  later_up v =
      ⊎_elim
      (λ h.
      let same : r - d ≡ suc r - suc d = omega arith in
      record {
        minutes = suc d;
        end = t;
        some = omega arith;
        step = lasting y (suc d) (omega (arith, y.least)) h;
        on = subst (λ i. Makes G w i t) same v.on;
      })
      (λ e.
      let there : Makes G w (r - d) a.end = subst (λ u. Makes G w (r - d) u) (sym y.enters) v.on in
      record {
        minutes = d;
        end = t;
        some = v.some;
        step = y;
        on = subst (λ u. Makes G w (suc r - d) u) y.enters (((calm a y.drawn y.leaves).leaves d e v.some).1 there);
      })
      (within_next a.most d y.greatest)
    where
      d : ℕ
      d = v.minutes

      t : ℕ
      t = v.end

      y : Step G s v.minutes v.end
      y = v.step

      a : Arrow
      a = v.step.arrow

  module _ (stop : stops_at w (suc r) s ≡ stops_at w r s) (going : goes_at w (suc r) s ≡ goes_at w r s) where
    pub begins_calm : RowBegins G w (suc r) s ↔ RowBegins G w r s
    begins_calm = (
      ⊎_elim (λ h. inl (sym stop ∙ h)) (λ h. inr (sym going ∙ h.0, later_down h.1)),
      ⊎_elim (λ h. inl (stop ∙ h)) (λ h. inr (going ∙ h.0, later_up h.1)),
    )
