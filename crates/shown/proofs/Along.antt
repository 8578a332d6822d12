-- What is shown, one position after the other: the form for proofs by induction. It says of the positions what their
-- numbers say.
use mathlib.Core.Path.{◌≡◌, refl, sym, subst}
use mathlib.Core.Logic.{◌↔◌}
use mathlib.Core.List.{List, [], ◌∷◌}
use Prim.Native.Nat.{ℕ, zero, suc, ◌+◌, ◌≤◌, ◌<◌}
use native.Mathlib.Omega.{arith}
use lib.ListN.{length}
use Rattle.base.specs.Sum.{sum}
use Rattle.base.proofs.Sum.{sum_suc}
use Rattle.tctl.specs.Chart.{Chart, states}
use Rattle.tctl.specs.Run.{Step}
use Rattle.tctl.proofs.Drawn.{Drawn, step_below}
use Rattle.tctl.proofs.Path.{step_cast}
use Rattle.shown.specs.Shown.{Position, place, state_at, duration_at, moment_at, Shows}

-- It starts at s, whose moment is k. Of moment and state, Last is so at the last position, and Before at those before.
pub data Along (G : Chart) (Before Last : ℕ → ℕ → Type 0) : ℕ → ℕ → List Position → Type 0 where
  ends : {k s : ℕ} → Last k s → Along G Before Last k s (place s 0 ∷ [])
  goes :
      {k s d t : ℕ} {rest : List Position} → Before k s → Step G s d t → Along G Before Last (k + d) t rest →
      Along G Before Last k s (place s d ∷ rest)

-- the same by the numbers of the positions, from the moment 0
pub record ByPosition (G : Chart) (Before Last : ℕ → ℕ → Type 0) (s : ℕ) (shown : List Position) : Type 0 where
  pub last : ℕ
  pub shows : Shows G s shown last
  pub final : Last (moment_at shown last) (state_at shown last)
  pub earlier : (j : ℕ) → j < last → Before (moment_at shown j) (state_at shown j)

pub along_some :
    {G : Chart} {Before Last : ℕ → ℕ → Type 0} {k s : ℕ} {shown : List Position} → Along G Before Last k s shown →
    1 ≤ length shown
along_some (ends h) = omega arith
along_some (goes h x w) = omega arith

-- what follows at the chart's states may be said instead: the steps stay in them
pub along_map :
    {G : Chart} → Drawn G → {B B' L L' : ℕ → ℕ → Type 0} → ((k s : ℕ) → s < states G → B k s → B' k s) →
    ((k s : ℕ) → s < states G → L k s → L' k s) →
    {k s : ℕ} {shown : List Position} → s < states G → Along G B L k s shown → Along G B' L' k s shown
along_map dr f g l (ends {k} {s} h) = ends (g k s l h)
along_map dr f g l (goes {k} {s} h x w) = goes (f k s l h) x (along_map dr f g (step_below dr x) w)

pub along_same :
    {G : Chart} → Drawn G → {B B' L L' : ℕ → ℕ → Type 0} → ((k s : ℕ) → s < states G → B k s ↔ B' k s) →
    ((k s : ℕ) → s < states G → L k s ↔ L' k s) →
    {k s : ℕ} {shown : List Position} → s < states G → Along G B L k s shown ↔ Along G B' L' k s shown
along_same dr i j low = (
  along_map dr (λ k x l. (i k x l).0) (λ k x l. (j k x l).0) low,
  along_map dr (λ k x l. (i k x l).1) (λ k x l. (j k x l).1) low,
)

-- ── One after the other, and by number ──

moment_first : (shown : List Position) → moment_at shown 0 ≡ 0
unfolding sum
moment_first shown = refl

moment_rest :
    (x : Position) (rest : List Position) (j : ℕ) → moment_at (x ∷ rest) (suc j) ≡ x.duration + moment_at rest j
moment_rest x rest j = sum_suc (λ i. duration_at (x ∷ rest) i) j

-- a position in front of what is shown: the others move up by one, and by its duration
shows_front :
    {G : Chart} {s d t last : ℕ} {rest : List Position} → Step G s d t → Shows G t rest last →
    Shows G s (place s d ∷ rest) (suc last)
shows_front {s} {d} {rest = rest} x w =
    record {
      count = omega (arith, w.count);
      starts = refl;
      moves = elim [ zero ↦ λ l. step_cast refl w.starts x | suc i ↦ λ l. w.moves i (omega arith) ];
      rests = w.rests;
    }

-- and without the first
shows_rest :
    {G : Chart} {s last : ℕ} {x : Position} {rest : List Position} → Shows G s (x ∷ rest) (suc last) →
    Shows G (state_at rest 0) rest last
shows_rest w =
    record {
      count = omega (arith, w.count);
      starts = refl;
      moves = λ i l. w.moves (suc i) (omega arith);
      rests = w.rests;
    }

module _ {G : Chart} {B L : ℕ → ℕ → Type 0} where
  along_numbered :
      {k s : ℕ} {shown : List Position} → Along G B L k s shown →
      ByPosition G (λ m. B (k + m)) (λ m. L (k + m)) s shown
  along_numbered (ends {k} {s} h) =
      let shown = place s 0 ∷ [] in
      let e : k ≡ k + moment_at shown 0 = omega (arith, moment_first shown) in
      record {
        last = 0;
        shows =
            record {
              count = refl;
              starts = refl;
              moves = λ i l. absurd (let z : ⊥ = omega arith in z);
              rests = refl;
            };
        final = subst (λ m. L m s) e h;
        earlier = λ j l. absurd (let z : ⊥ = omega arith in z);
      }
  along_numbered (goes {k} {s} {d} {t} {rest} h x w) =
      let n = along_numbered w in
      let shown = place s d ∷ rest in
      let first : k ≡ k + moment_at shown 0 = omega (arith, moment_first shown) in
      let later : (j : ℕ) → k + d + moment_at rest j ≡ k + moment_at shown (suc j) =
      λ j. omega (arith, moment_rest (place s d) rest j) in
      record {
        last = suc n.last;
        shows = shows_front x n.shows;
        final = subst (λ m. L m (state_at rest n.last)) (later n.last) n.final;
        earlier = elim [
          | zero ↦ λ l. subst (λ m. B m s) first h
          | suc j ↦ λ l. subst (λ m. B m (state_at rest j)) (later j) (n.earlier j (omega arith))
        ];
      }

  -- By induction on the number of the last position: the first one, and what is shown after it.
  numbered_along :
      (last k : ℕ) {s : ℕ} (shown : List Position) → Shows G s shown last →
      L (k + moment_at shown last) (state_at shown last) →
      ((j : ℕ) → j < last → B (k + moment_at shown j) (state_at shown j)) →
      Along G B L k s shown
  numbered_along last k [] w h b = absurd (let z : ⊥ = omega (arith, w.count) in z)
  numbered_along zero k (x ∷ []) w h b =
      let s = x.state in
      let e : k + moment_at (x ∷ []) 0 ≡ k = omega (arith, moment_first (x ∷ [])) in
      subst (λ u. Along G B L k u (x ∷ [])) w.starts
      (subst (λ d. Along G B L k s (place s d ∷ [])) (sym w.rests) (ends (subst (λ m. L m s) e h)))
  numbered_along zero k (x ∷ y ∷ rest) w h b = absurd (let z : ⊥ = omega (arith, w.count) in z)
  numbered_along (suc last) k (x ∷ rest) w h b =
      let s = x.state in
      let first : k + moment_at (x ∷ rest) 0 ≡ k = omega (arith, moment_first (x ∷ rest)) in
      let later : (j : ℕ) → k + moment_at (x ∷ rest) (suc j) ≡ k + x.duration + moment_at rest j =
      λ j. omega (arith, moment_rest x rest j) in
      subst (λ u. Along G B L k u (x ∷ rest)) w.starts
      (goes (subst (λ m. B m s) first (b 0 (omega arith))) (w.moves 0 (omega arith))
      (numbered_along last (k + x.duration) rest (shows_rest w)
      (subst (λ m. L m (state_at rest last)) (later last) h)
      (λ j l. subst (λ m. B m (state_at rest j)) (later j) (b (suc j) (omega arith)))))

  pub along_iff : {s : ℕ} {shown : List Position} → Along G B L 0 s shown ↔ ByPosition G B L s shown
  along_iff {s} {shown} = (
    λ w.
        let n = along_numbered w in
        record {
          last = n.last;
          shows = n.shows;
          final = subst (λ m. L m (state_at shown n.last)) (none n.last) n.final;
          earlier = λ j l. subst (λ m. B m (state_at shown j)) (none j) (n.earlier j l);
        },
    λ n.
        numbered_along n.last 0 shown n.shows
        (subst (λ m. L m (state_at shown n.last)) (sym (none n.last)) n.final)
        (λ j l. subst (λ m. B m (state_at shown j)) (sym (none j)) (n.earlier j l)),
  )
    where
      none : (i : ℕ) → 0 + moment_at shown i ≡ moment_at shown i
      none i = omega arith
