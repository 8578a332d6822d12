-- The detail rule: when one chart is a detail of another, and what that buys. The quoted sentences are of 01, "Refused
-- with number and place".
use Rattle.std.specs.Prelude.{◌≡◌, ℕ, ◌≤◌, ◌<◌, get_or}
use mathlib.Core.List.{Memᴰ}
use Rattle.tctl.specs.Chart.{Chart, Arrow, Most, up_to, no_end, states}
use Rattle.tctl.specs.Kind.{Runs, all_runs, some_run}

-- the most k contains the most m: "'No end' contains every most", and nothing else contains it
abbrev pub Contains : Most → Most → Type 0
Contains no_end m = Unit {0}
Contains (up_to k) (up_to m) = m ≤ k
Contains (up_to k) no_end = ⊥

-- the overview arrow b, "from the start's mapped state to the end's has a slot containing the whole slot" of a
pub record Covers (f : ℕ → ℕ) (a b : Arrow) : Type 0 where
  pub leaves : b.start ≡ f a.start
  pub enters : b.end ≡ f a.end
  pub least : b.fewest ≤ a.fewest
  pub greatest : Contains b.most a.most

-- the chart D is a detail of the overview O: each state s stands for the state f s
pub record Detail (D O : Chart) (f : ℕ → ℕ) : Type 0 where
  -- 21: "map entry not an overview state"
  pub inside : (s : ℕ) → s < states D → f s < states O
  -- 22: "labels differ"
  pub labels : (s : ℕ) → s < states D → get_or D.labels s 0 ≡ get_or O.labels (f s) 0
  -- 23: "arrow not covered"
  pub covered : (a : Arrow) → Memᴰ a D.arrows → (b : Arrow) × Memᴰ b O.arrows × Covers f a b

-- what is true of a rule at states of the overview and at states of its detail, which has n states: a rule of the
-- all-runs kind carries down to the detail, one of the some-run kind up to the overview
abbrev pub Carries : Runs → ℕ → (ℕ → ℕ) → (ℕ → Type 0) → (ℕ → Type 0) → Type 0
Carries all_runs n f overview detail = (s : ℕ) → s < n → overview (f s) → detail s
Carries some_run n f overview detail = (s : ℕ) → s < n → detail s → overview (f s)
