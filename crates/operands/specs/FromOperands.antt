-- A row of marks that was written from the rows of a node's operands.
use Rattle.std.specs.Prelude.{◌≡◌, ◌⊎◌, Bool, List, ℕ, ◌+◌, ◌*◌, ◌≤◌, ◌<◌, length, get_or}
use Rattle.tctl.specs.Chart.{Arrow}
use Rattle.model.specs.Marks.{mark}
use Rattle.chart.specs.Bytes.{chart_of}
use Rattle.rule.specs.declared.NodeWords.{NodeWords}
use Rattle.fill.specs.Written.{RowWritten}

-- two operands below node t
pub record OperandsBelow (t : ℕ) (w : NodeWords) : Type 0 where
  pub left : w.a < t
  pub right : w.b < t

-- marks that are as they were but for row t
pub record Besides (n t : ℕ) (old new : List ℕ) : Type 0 where
  pub size : length new ≡ length old
  pub elsewhere : (j : ℕ) → (j < t * n) ⊎ (t * n + n ≤ j) → get_or new j 0 ≡ get_or old j 0

-- an answer for each of n states, from where two operands hold
abbrev pub ByOperands : Type 0
ByOperands = List Arrow → ℕ → (ℕ → Bool) → (ℕ → Bool) → ℕ → Bool

-- row t was written with what the until makes of the rows of node w's operands
abbrev pub FromOperands : ByOperands → List ℕ → ℕ → ℕ → NodeWords → List ℕ → List ℕ → Type 0
FromOperands until chart n t w old new =
    RowWritten n t (until (chart_of chart).arrows n (mark n old w.a) (mark n old w.b)) old new
