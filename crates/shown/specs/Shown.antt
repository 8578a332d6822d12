-- Shown runs, and when one is a true reason. The quoted words are of 02, paper 1; of "exactly c" paper 7 says that "runs
-- shown for E-until cover" it.
use Rattle.std.specs.Prelude.{◌≡◌, ◌⊎◌, List, ℕ, suc, ◌≤◌, ◌<◌, length, get_or}
use Rattle.base.specs.Sum.{sum}
use Rattle.tctl.specs.Chart.{Chart}
use Rattle.tctl.specs.Run.{Step, Run}
use Rattle.tctl.specs.Formula.{Bound, Meets, at_most, at_least, exactly}
use Rattle.tctl.specs.Formula.{Formula, always, label, not, and, or, some_until, all_until}
use Rattle.tctl.specs.Holds.{Holds}

-- "per position the state (2 bytes) and duration (4)"
pub record Position : Type 0 where
  pub state : ℕ
  pub duration : ℕ

abbrev pub place : ℕ → ℕ → Position
place s d = record { state = s; duration = d }

-- the state and the duration of position i
abbrev pub state_at : List Position → ℕ → ℕ
state_at shown i = (get_or shown i (place 0 0)).state

abbrev pub duration_at : List Position → ℕ → ℕ
duration_at shown i = (get_or shown i (place 0 0)).duration

-- the moment of position i, as of a run's: "the sum of the durations before it" (01)
abbrev pub moment_at : List Position → ℕ → ℕ
moment_at shown i = sum (duration_at shown) i

-- "write out a run": positions 0 to `last` from s, a step of the chart between each and the next
pub record Shows (G : Chart) (s : ℕ) (shown : List Position) (last : ℕ) : Type 0 where
  pub count : length shown ≡ suc last
  pub starts : state_at shown 0 ≡ s
  pub moves : (i : ℕ) → i < last → Step G (state_at shown i) (duration_at shown i) (state_at shown (suc i))
  -- "the last duration 0"
  pub rests : duration_at shown last ≡ 0

-- the reason for "a marked E-until node"
pub record SomeReason (G : Chart) (P Q : ℕ → Type 0) (b : Bound) (s : ℕ) (shown : List Position) : Type 0 where
  pub last : ℕ
  pub shows : Shows G s shown last
  -- "It ends where the until is met"; "where Q holds and P holds at every earlier position" (01)
  pub intime : Meets b (moment_at shown last)
  pub there : Q (state_at shown last)
  pub before : (j : ℕ) → j < last → P (state_at shown j)

-- a "moment is above c" or a state "where neither operand holds"
abbrev pub Over : (ℕ → Type 0) → (ℕ → Type 0) → ℕ → ℕ → ℕ → Type 0
Over P Q c moment x = (c < moment) ⊎ ((¬ P x) × (¬ Q x))

-- the until, at most c, is met at position i
pub record MetAt (P Q : ℕ → Type 0) (c : ℕ) (shown : List Position) (i : ℕ) : Type 0 where
  pub intime : Meets (at_most c) (moment_at shown i)
  pub there : Q (state_at shown i)
  pub before : (j : ℕ) → j < i → P (state_at shown j)

-- the reason for "an unmarked A-until node bounded by 'at most'"
pub record AllReason (G : Chart) (P Q : ℕ → Type 0) (c s : ℕ) (shown : List Position) : Type 0 where
  pub last : ℕ
  pub shows : Shows G s shown last
  -- "at the first position whose moment is above c or where neither operand holds"
  pub over : Over P Q c (moment_at shown last) (state_at shown last)
  pub first : (j : ℕ) → j < last → ¬ Over P Q c (moment_at shown j) (state_at shown j)
  -- "the until not met before"
  pub unmet : (j : ℕ) → j < last → ¬ MetAt P Q c shown j

-- what is shown is a true reason for the formula's mark at s, or for the mark that is missing there
abbrev pub Reason : Chart → Formula → ℕ → List Position → Type 0
Reason G always s shown = ⊥
Reason G (label i) s shown = ⊥
Reason G (not f) s shown = ⊥
Reason G (and f g) s shown = ⊥
Reason G (or f g) s shown = ⊥
Reason G (some_until b f g) s shown = SomeReason G (Holds G f) (Holds G g) b s shown
Reason G (all_until (at_most c) f g) s shown = AllReason G (Holds G f) (Holds G g) c s shown
Reason G (all_until (at_least c) f g) s shown = ⊥
Reason G (all_until (exactly c) f g) s shown = ⊥

-- "a marked E-until node, or an unmarked A-until node bounded by 'at most'"
abbrev pub Showable : Chart → Formula → ℕ → Type 0
Showable G always s = ⊥
Showable G (label i) s = ⊥
Showable G (not f) s = ⊥
Showable G (and f g) s = ⊥
Showable G (or f g) s = ⊥
Showable G (some_until b f g) s = Holds G (some_until b f g) s
Showable G (all_until (at_most c) f g) s = ¬ Holds G (all_until (at_most c) f g) s
Showable G (all_until (at_least c) f g) s = ⊥
Showable G (all_until (exactly c) f g) s = ⊥

-- the run begins with what is shown: its states up to the last, and the durations of its steps
pub record Begins {G : Chart} {s : ℕ} (shown : List Position) (r : Run G s) : Type 0 where
  pub states : (i : ℕ) → i < length shown → r.state i ≡ state_at shown i
  pub durations : (i : ℕ) → suc i < length shown → r.duration i ≡ duration_at shown i

-- "the fewest steps (arrows taken), at most 256": a position more than steps
pub record Shortest (Reasons : List Position → Type 0) (shown : List Position) : Type 0 where
  pub reason : Reasons shown
  pub short : length shown ≤ 257
  pub fewest : (other : List Position) → Reasons other → length shown ≤ length other
