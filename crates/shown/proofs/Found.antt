-- The tables find the reasons of the untils.
use mathlib.Core.Path.{◌≡◌}
use mathlib.Core.Logic.{◌↔◌, inl, by_cases}
use mathlib.Core.List.{List, [], ◌∷◌}
use mathlib.Core.Bool.{Bool, true}
use Prim.Native.Nat.{ℕ, ◌≤◌, ◌<◌}
use native.Mathlib.Omega.{arith}
use native.Mathlib.Decide.{dec_le}
use lib.ListN.{length}
use borrow.Author.Tests.{leb-true, le-leb}
use Rattle.base.specs.Yes.{Yes}
use Rattle.tctl.specs.Chart.{Chart, states}
use Rattle.tctl.specs.Formula.{Bound, at_most, at_least, exactly}
use Rattle.tctl.proofs.Drawn.{Drawn}
use Rattle.tctl.proofs.AllAtMost.{Waits}
use Rattle.model.proofs.Waiting.{waiting_iff}
use Rattle.shown.specs.Shown.{Position, place, Over}
use Rattle.shown.specs.Steps.{Quest, all_quest, by_step, enough, walk}
use Rattle.shown.specs.Search.{enough_by, walk_by, some_search}
use Rattle.shown.proofs.Along.{Along, ends, goes, along_some, along_map, along_same}
use Rattle.shown.proofs.Reasons.{SomeAlong, AllAlong}
use Rattle.shown.proofs.Table.{walk_length}
use Rattle.shown.proofs.Lawful.{Lawful, along_good, good_walk}
use Rattle.shown.proofs.Quests.{SomeQuest, soon, long, all_lawful, all_last, all_need}
use Rattle.shown.proofs.Exact.{exact_walk, exact_finds}
use Rattle.shown.proofs.Shortest.{Finds, finds_same, first_fewest}

-- ── A lawful quest ──

module _
    {G : Chart}
    {z : Quest}
    {Good : ℕ → ℕ → Type 0}
    (law : Lawful G z Good)
    (need : (v : ℕ) → (z.need ≤ v) ↔ Good 0 v)
    (s : ℕ) where
  -- what the quest is for
  abbrev Ways : List Position → Type 0
  Ways shown = Along G (λ m. Yes z.go) (λ m x. Good m (z.base x)) 0 s shown

  -- a number that is enough is walked down, whichever number it is
  lawful_walk : (k : ℕ) → enough G.arrows z s k ≡ true → Ways (walk G.arrows z k s)
  lawful_walk k e =
      let number = by_step G.arrows z k s in
      good_walk law k ((need number).0 (leb-true z.need number e))

  lawful_finds : Finds (enough G.arrows z s) (λ k. walk G.arrows z k s) Ways
  lawful_finds =
      record {
        size = λ k. walk_length G.arrows z k s;
        walks = λ k e under. lawful_walk k e;
        counts = λ k shown w e.
            let number = by_step G.arrows z k s in
            le-leb z.need number ((need number).1 (along_good law w k e));
        some = λ shown w. along_some w;
      }

-- ── E-untils ──

module _ {G : Chart} (dr : Drawn G) (p q : ℕ → Bool) {s : ℕ} (low : s < states G) where
  module _ {b : Bound} {z : Quest} (e : SomeQuest p q G b z) where
    quest_ways :
        (shown : List Position) → Ways e.law e.need s shown ↔ SomeAlong G (Yes p) (Yes q) b s shown
    quest_ways shown = along_same dr (λ m x l. e.go x) (λ m x l. e.last m x) low

    quest_walk :
        (k : ℕ) → enough G.arrows z s k ≡ true → SomeAlong G (Yes p) (Yes q) b s (walk G.arrows z k s)
    quest_walk k h = (quest_ways (walk G.arrows z k s)).0 (lawful_walk e.law e.need s k h)

    quest_finds :
        Finds (enough G.arrows z s) (λ k. walk G.arrows z k s) (SomeAlong G (Yes p) (Yes q) b s)
    quest_finds = finds_same quest_ways (lawful_finds e.law e.need s)

  pub some_walk :
      (b : Bound) (k : ℕ) → enough_by G.arrows (some_search b p q) s k ≡ true →
      SomeAlong G (Yes p) (Yes q) b s (walk_by G.arrows (some_search b p q) k s)
  some_walk (at_most c) k = quest_walk (soon p q dr c) k
  some_walk (at_least c) k = quest_walk (long p q dr c) k
  some_walk (exactly c) k = exact_walk G p q c k s

  pub some_finds :
      (b : Bound) →
      Finds (enough_by G.arrows (some_search b p q) s) (λ k. walk_by G.arrows (some_search b p q) k s)
      (SomeAlong G (Yes p) (Yes q) b s)
  some_finds (at_most c) = quest_finds (soon p q dr c)
  some_finds (at_least c) = quest_finds (long p q dr c)
  some_finds (exactly c) = exact_finds G p q c s

-- ── A-untils, at most c ──

-- as a reason, but its moments may be above c before the last position
abbrev LateAlong : Chart → (ℕ → Type 0) → (ℕ → Type 0) → ℕ → ℕ → ℕ → List Position → Type 0
LateAlong G P Q c k s shown = Along G (λ k. Waits P Q) (Over P Q c) k s shown

-- If none is shorter, its moments are not above c before the last position: one that is would end a shorter one.
in_time :
    {G : Chart} {P Q : ℕ → Type 0} {c k s : ℕ} {shown : List Position} → LateAlong G P Q c k s shown →
    ((other : List Position) → LateAlong G P Q c k s other → length shown ≤ length other) →
    AllAlong G P Q c k s shown
in_time (ends h) none = ends h
in_time {c = c} (goes {k} {s} {d} g x w) none =
    let low : k ≤ c =
    by_cases (dec_le k c) (λ l. l)
    (λ l. absurd (let z : ⊥ = omega (arith, none (place s 0 ∷ []) (ends (inl (omega arith))), along_some w) in z)) in
    goes (low, g) x (in_time w (λ other v. let z = none (place s d ∷ other) (goes g x v) in omega arith))

module _ {G : Chart} (dr : Drawn G) (c : ℕ) (p q : ℕ → Bool) {s : ℕ} (low : s < states G) where
  late_finds :
      Finds (enough G.arrows (all_quest c p q) s) (λ k. walk G.arrows (all_quest c p q) k s)
      (LateAlong G (Yes p) (Yes q) c 0 s)
  late_finds =
      finds_same (λ shown. along_same dr (λ m x l. waiting_iff p q x) (λ m x l. all_last p q c m x) low)
      (lawful_finds (all_lawful p q dr c) (all_need p q c) s)

  -- at the first number that is enough the walk is late, and none that is late is shorter
  pub all_finds :
      Finds (enough G.arrows (all_quest c p q) s) (λ k. walk G.arrows (all_quest c p q) k s)
      (AllAlong G (Yes p) (Yes q) c 0 s)
  all_finds =
      record {
        size = late_finds.size;
        walks = λ k e under. in_time (late_finds.walks k e under) (first_fewest late_finds k under);
        counts = λ k shown w e.
            late_finds.counts k shown (along_map dr (λ m x l h. h.1) (λ m x l h. h) low w) e;
        some = λ shown w. along_some w;
      }
