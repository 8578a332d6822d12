-- What the program desk_why prints of a chart's and a rule's bytes, a node and a state.
use Rattle.std.specs.Prelude.{◌≡◌, Bool, List, ℕ, replicate, eqb}
use Rattle.outcome.specs.declared.Outcome.{Outcome}
use Rattle.append.specs.Piece.{AtFront}
use Rattle.rule.specs.Bytes.{node_words}
use Rattle.shown.specs.Shown.{Position, Shortest}
use Rattle.call_show.specs.Show.{TrueRun, show_refusal}
use Rattle.listing.specs.Text.{refused_line}
use Rattle.run_listing.specs.RunText.{run_text}
use Rattle.desk_call.specs.declared.Reported.{Reported}
use Rattle.desk_call.specs.Printed.{lent_marks}

-- the scratch and the output that are lent: 257 × 256 numbers, and 6 × 257 bytes, enough for any run
abbrev pub lent_table : List ℕ
lent_table = replicate 65792 0

abbrev pub lent_run : List ℕ
lent_run = replicate 1542 0

module _ (chart rule : List ℕ) (node state : ℕ) where
  -- the answer of show
  abbrev pub why_of : Outcome
  why_of = show_refusal chart rule lent_marks lent_table node state lent_run

  -- the node is an A-until
  abbrev pub is_all : Bool
  is_all = eqb (node_words rule node).operation 6

  -- the text of a shortest true run, "which of several appears is free" (02, paper 1), or the line of the refusal
  pub record Reports (r : Reported) (old new : List ℕ) : Type 0 where
    pub answer : r.outcome ≡ why_of
    pub text : List ℕ
    pub front : AtFront text r.printed old new
    pub refused : ¬ (why_of.number ≡ 0) → text ≡ refused_line why_of
    pub shown :
        why_of.number ≡ 0 →
        (run : List Position) × (text ≡ run_text is_all (node_words rule node).c run) ×
        Shortest (TrueRun chart rule node state) run
