-- Neither what is read nor what is lent is too short.
use mathlib.Core.Path.{◌≡◌, refl}
use mathlib.Core.Bool.{Bool, true, false}
use mathlib.Core.List.{List, [], ◌∷◌}
use mathlib.Core.Option.{some}
use Prim.Native.Nat.{ℕ, ◌+◌, ◌-◌, ◌*◌, ◌≤◌}
use native.Mathlib.Omega.{arith}
use lib.ListN.{length, get_or, length-take}
use lib.Dec.{eqb, ltb}
use borrow.Author.Tests.{ltb-false, le-ltb}
use Rattle.outcome.specs.declared.Outcome.{Outcome}
use Rattle.outcome.specs.Refusal.{refuse, whole, first}
use Rattle.rule_grammar.specs.Grammar.{Verdict, Judged, faulty, whole as textual}
use Rattle.call_read_rule.specs.Read.{nodes_of, read_table}
use Rattle.typed_call.specs.Answer.{rule_room, typed, outcome_of, Enough}

-- one byte is taken off, or none
pub typed_size : (input : List ℕ) → (length input ≤ length (typed input) + 1) × (length (typed input) ≤ length input)
unfolding typed
typed_size input = turn (eqb (get_or input (length input - 1) 0) 10) refl
  where
    turn :
        (b : Bool) → eqb (get_or input (length input - 1) 0) 10 ≡ b →
        (length input ≤ length (typed input) + 1) × (length (typed input) ≤ length input)
    turn true e = rw e (omega (arith, length-take (length input - 1) input))
    turn false e = rw e (omega arith)

-- a place that the caret's line has room for, and not the number of an output that is short
abbrev Near : Outcome → Type 0
Near o = (o.place ≤ 4096) × ¬ (o.number ≡ 66)

-- A fault is refused with 64, and its place lies in the text; above 4,096 bytes it is 65 at 0 before that. A formula is
-- refused at 0 if at all: with 65 if it has more than 64 nodes, and the rule of any other fits.
pub answer_near : {t : List ℕ} {v : Verdict} → Judged t v → Near (outcome_of t v)
unfolding read_table first
answer_near {t} (faulty {p = p} f) = turn (ltb 4096 (length t)) refl
  where
    turn : (b : Bool) → ltb 4096 (length t) ≡ b → Near (first (refuse 65 (whole b) ∷ refuse 64 (some p) ∷ []))
    turn true e = (omega arith, λ z. omega arith)
    turn false e = (omega (arith, ltb-false 4096 (length t) e, f.place.inside), λ z. omega arith)
answer_near {t} {v} (textual h) = turn (ltb 4096 (length t)) (ltb 64 (nodes_of v)) refl
  where
    turn :
        (a b : Bool) → ltb 64 (nodes_of v) ≡ b → let short = ltb rule_room (7 + 8 * nodes_of v) in
        Near (first (refuse 65 (whole a) ∷ refuse 65 (whole b) ∷ refuse 66 (whole short) ∷ []))
    turn true b e = (omega arith, λ z. omega arith)
    turn false true e = (omega arith, λ z. omega arith)
    turn false false e =
        let fits : 7 + 8 * nodes_of v ≤ rule_room = omega (arith, ltb-false 64 (nodes_of v) e) in
        rw (le-ltb rule_room (7 + 8 * nodes_of v) fits) (omega arith, λ z. omega arith)

pub enough : Enough
enough = record { read = λ input e. omega (arith, (typed_size input).0); lent = λ t v j. (answer_near j).1 }
