-- What reading a text comes to, before its nodes are counted and written out.
use Rattle.std.specs.Prelude.{◌≡◌, Result, Ok, Err, List, ℕ, ◌*◌, ◌≤◌, take}
use Rattle.tctl.specs.Formula.{Formula}
use Rattle.rule_grammar.specs.Grammar.{Verdict, fault, formula}
use Rattle.rule_bytes.specs.RuleBytes.{nodes, nodes_from}

-- a fault has its place; a formula takes the whole text, and has so many nodes, written as far as there is room for 64
pub data Reads (t : List ℕ) : Verdict → Result ℕ ℕ → List ℕ → Type 0 where
  faulty : {p : ℕ} {s : List ℕ} → Reads t (fault p) (Err p) s
  whole :
      {f : Formula} {s : List ℕ} → (nodes f ≤ 64 → take (8 * nodes f) s ≡ nodes_from 0 f) →
      Reads t (formula f) (Ok (nodes f)) s
