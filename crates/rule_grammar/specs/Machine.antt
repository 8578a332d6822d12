-- The machine that reads a text byte by byte: what was read of the innermost formula, and the formulas around it that are
-- open, innermost first. Nothing is read twice, and nothing is looked at ahead.
use Rattle.std.specs.Prelude.{Bool, cond, ◌&&◌, List, [], ◌∷◌, ◌++◌, ℕ, suc, ◌+◌, ◌-◌, ◌*◌, length, drop, eqb, leb, ltb}
use Rattle.std.proofs.Math.Option.{Option, none, some}
use Rattle.tctl.specs.Kind.{Runs, some_run, all_runs}
use Rattle.decimal.specs.Decimal.{decimal}
use Rattle.decimal.specs.Value.{is_digit as digit}
use Rattle.tctl.specs.Formula.{Formula, Bound, at_most, at_least, exactly, always, label, not, and, or, some_until, all_until}
use Rattle.rule_grammar.specs.Grammar.{Verdict, fault, formula}

-- "E and A with either sign", and "`U==c`" (02, paper 7)
pub data Sign : Type 0 where
  less more equal : Sign

abbrev pub bound : Sign → ℕ → Bound
bound less c = at_most c
bound more c = at_least c
bound equal c = exactly c

-- its first byte: <, > or =
abbrev pub sign_byte : Sign → ℕ
sign_byte less = 60
sign_byte more = 62
sign_byte equal = 61

-- E and A
abbrev pub letter_of : Runs → ℕ
letter_of some_run = 69
letter_of all_runs = 65

-- what joins two operands: & or |, or E or A with a sign and c
pub data Join : Type 0 where
  conj disj : Join
  until : Runs → Sign → ℕ → Join

-- what stands before the two operands: "(", "E(" or "A("
pub data Opening : Type 0 where
  pair : Opening
  timed : Runs → Opening

abbrev pub opening_of : Join → Opening
opening_of conj = pair
opening_of disj = pair
opening_of (until q s c) = timed q

abbrev pub opening : Opening → List ℕ
opening pair = 40 ∷ []
opening (timed q) = letter_of q ∷ 40 ∷ []

-- the sign between them, and the space before it
abbrev pub sign : Join → List ℕ
sign conj = 32 ∷ 38 ∷ []
sign disj = 32 ∷ 124 ∷ []
sign (until q s c) = 32 ∷ 85 ∷ sign_byte s ∷ 61 ∷ decimal c

-- the text of two operands, joined
abbrev pub join_text : Join → List ℕ → List ℕ → List ℕ
join_text j f g = opening (opening_of j) ++ (f ++ (sign j ++ (32 ∷ (g ++ 41 ∷ []))))

-- what stands before an operand in the formula around it
pub data Context : Type 0 where
  -- "!"
  negated : Context
  -- "(", "E(", "A("
  opened : Opening → Context
  -- the same, the first operand, and what joins it to the second
  joined : Join → Formula → Context

-- what was read of the innermost formula
pub data Focus : Type 0 where
  -- nothing, "t", "tr", "tru", "L"
  start t tr tru letter : Focus
  -- "L" and the number so far
  labelled : ℕ → Focus
  -- "E" or "A"
  quantified : Runs → Focus
  -- all of it; what was negated is still open
  ended : Formula → Focus
  -- the first operand, and then a space; "U"; <, > or =; "="
  spaced : Opening → Formula → Focus
  awaited : Runs → Formula → Focus
  compared : Runs → Sign → Formula → Focus
  equalled : Runs → Sign → Formula → Focus
  -- the first operand and what joins it to the second, c being the number so far
  linked : Join → Formula → Focus

pub data State : Type 0 where
  at : Focus → List Context → State

-- two operands, joined
abbrev pub join : Join → Formula → Formula → Formula
join conj f g = and f g
join disj f g = or f g
join (until some_run s c) f g = some_until (bound s c) f g
join (until all_runs s c) f g = all_until (bound s c) f g

-- the byte e goes on to x; any other, as y says
abbrev pub on : ℕ → ℕ → State → Option State → Option State
on b e x y = cond (eqb b e) (some x) y

-- the number n with this digit behind it
abbrev pub grown : ℕ → ℕ → ℕ
grown n b = n * 10 + (b - 48)

-- "without leading zeros up to" the most: n may have this digit behind it
abbrev pub grows : ℕ → ℕ → ℕ → Bool
grows most n b = digit b && (ltb 0 n && leb (grown n b) most)

-- c goes up to
abbrev pub most_of : Sign → ℕ
most_of less = 65535
most_of more = 65535
most_of equal = 255

-- behind a whole formula: what is negated ends with it
abbrev pub after : Formula → List Context → ℕ → Option State
after f [] b = none
after f (negated ∷ K) b = after (not f) K b
after f (opened o ∷ K) b = on b 32 (at (spaced o f) K) none
after f (joined j g ∷ K) b = on b 41 (at (ended (join j g f)) K) none

-- behind a joining sign no space came: c goes on
abbrev pub further : Join → Formula → List Context → ℕ → Option State
further conj f K b = none
further disj f K b = none
further (until q s c) f K b =
    cond (grows (most_of s) c b) (some (at (linked (until q s (grown c b)) f) K)) none

unfoldable pub step : State → ℕ → Option State
step (at start K) b =
    on b 116 (at t K) (
    on b 76 (at letter K) (
    on b 33 (at start (negated ∷ K)) (
    on b 40 (at start (opened pair ∷ K)) (
    on b 69 (at (quantified some_run) K) (
    on b 65 (at (quantified all_runs) K)
    none)))))
step (at t K) b = on b 114 (at tr K) none
step (at tr K) b = on b 117 (at tru K) none
step (at tru K) b = on b 101 (at (ended always) K) none
step (at letter K) b = cond (digit b) (some (at (labelled (b - 48)) K)) none
step (at (labelled n) K) b = cond (grows 15 n b) (some (at (labelled (grown n b)) K)) (after (label n) K b)
step (at (quantified q) K) b = on b 40 (at start (opened (timed q) ∷ K)) none
step (at (ended f) K) b = after f K b
step (at (spaced pair f) K) b = on b 38 (at (linked conj f) K) (on b 124 (at (linked disj f) K) none)
step (at (spaced (timed q) f) K) b = on b 85 (at (awaited q f) K) none
step (at (awaited q f) K) b =
    on b 60 (at (compared q less f) K) (
    on b 62 (at (compared q more f) K) (
    on b 61 (at (compared q equal f) K)
    none))
step (at (compared q s f) K) b = on b 61 (at (equalled q s f) K) none
step (at (equalled q s f) K) b = cond (digit b) (some (at (linked (until q s (b - 48)) f) K)) none
step (at (linked j f) K) b = on b 32 (at start (joined j f ∷ K)) (further j f K b)

-- a text ends behind a whole formula: what is negated ends with it
abbrev pub whole : Formula → List Context → Option Formula
whole f [] = some f
whole f (negated ∷ K) = whole (not f) K
whole f (opened o ∷ K) = none
whole f (joined j g ∷ K) = none

-- the formula, where all of one was read
unfoldable pub done : State → Option Formula
done (at start K) = none
done (at t K) = none
done (at tr K) = none
done (at tru K) = none
done (at letter K) = none
done (at (labelled n) K) = whole (label n) K
done (at (quantified q) K) = none
done (at (ended f) K) = whole f K
done (at (spaced o f) K) = none
done (at (awaited q f) K) = none
done (at (compared q s f) K) = none
done (at (equalled q s f) K) = none
done (at (linked j f) K) = none

-- how far reading came: no step was left at a byte, counted from 0, or all bytes so far were read
pub data Reading : Type 0 where
  stuck : ℕ → Reading
  ran : State → Reading

abbrev pub stepped : ℕ → Option State → Reading
stepped i none = stuck i
stepped i (some st) = ran st

-- one byte more, the i-th
abbrev pub onward : ℕ → ℕ → Reading → Reading
onward i b (stuck p) = stuck p
onward i b (ran st) = stepped i (step st b)

-- these bytes more, the first being the i-th
unfoldable pub reading : List ℕ → ℕ → Reading → Reading
reading [] i r = r
reading (b ∷ s) i r = reading s (suc i) (onward i b r)

abbrev pub initial : State
initial = at start []

abbrev pub ending : ℕ → Option Formula → Verdict
ending n none = fault n
ending n (some f) = formula f

abbrev pub verdict : ℕ → Reading → Verdict
verdict n (stuck p) = fault p
verdict n (ran st) = ending n (done st)

-- the machine's answer: a text that stops early has its fault at its length
unfoldable pub judge : List ℕ → Verdict
judge s = verdict (length s) (reading s 0 (ran initial))

-- the same from place i on, where the machine has come to this state
abbrev pub from : List ℕ → ℕ → State → Verdict
from s i st = verdict (length s) (reading (drop i s) i (ran st))
