-- Rows 60 and 61 as they are tested, by a node's words and its mark. The quoted words are of 02, paper 1.
use Rattle.std.specs.Prelude.{Bool, false, cond, ◌||◌, not as neg, List, [], ◌∷◌, ℕ, ◌+◌, ◌*◌, ◌≤◌, length, eqb, leb, ltb}
use Rattle.model.specs.Marks.{mark}
use Rattle.outcome.specs.Refusal.{Row, refuse, whole}
use Rattle.rule.specs.declared.NodeWords.{NodeWords}
use Rattle.rule.specs.Bytes.{node_words}
use Rattle.show_refusals.specs.Fits.{table_size}

-- "a marked E-until node, or an unmarked A-until node bounded by 'at most'"
abbrev pub is_shown_by : NodeWords → Bool → Bool
is_shown_by w marked =
    cond (eqb w.operation 5) marked
    (cond (eqb w.operation 6) (cond (eqb w.kind 1) (neg marked) false) false)

-- rows 60 and 61, for n states and k nodes
abbrev pub mark_rows : ℕ → List ℕ → ℕ → List ℕ → List ℕ → ℕ → ℕ → List Row
mark_rows n rule k marks scratch node state =
    -- node or state out of range or not such a mark
    refuse 60 (whole (leb k node || (leb n state || neg (is_shown_by (node_words rule node) (mark n marks node state))))) ∷
    -- scratch short
    refuse 61 (whole (ltb (length scratch) (table_size n))) ∷
    []

-- k nodes and their marks lie in what is lent
pub record MarksLent (n : ℕ) (rule : List ℕ) (k : ℕ) (marks : List ℕ) : Type 0 where
  pub states : n ≤ 256
  pub nodes : 7 + 8 * k ≤ length rule
  pub table : k * n ≤ length marks
