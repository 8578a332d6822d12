-- With whom a row begins: what it has by the rows below it alone.
use Rattle.std.specs.Prelude.{◌≡◌, ◌⊎◌, true, ℕ, ◌-◌, ◌≤◌}
use Rattle.tctl.specs.Chart.{Chart}
use Rattle.tctl.specs.Run.{Step}
use Rattle.minutes.specs.Makes.{Task, stops_at, goes_at, Makes}

-- from row r a step of a minute or more leads on from s
pub record Later (G : Chart) (w : Task) (r s : ℕ) : Type 0 where
  pub minutes : ℕ
  pub end : ℕ
  pub some : 1 ≤ minutes
  pub step : Step G s minutes end
  pub on : Makes G w (r - minutes) end

-- row r begins with s: it makes it at once, or by the rows below
abbrev pub RowBegins : Chart → Task → ℕ → ℕ → Type 0
RowBegins G w r s = (stops_at w r s ≡ true) ⊎ ((goes_at w r s ≡ true) × Later G w r s)
