-- Where reading stands in a text: what the machine of `rule_grammar` has come to there, in bytes.
use Rattle.std.specs.Prelude.{◌≡◌, ◌≢◌, Result, Ok, Err, List, ◌++◌, ℕ, ◌+◌, ◌-◌, ◌*◌, ◌≤◌, ◌<◌, length, take}
use Rattle.tctl.specs.Formula.{Formula}
use Rattle.rule_grammar.specs.Grammar.{fault, formula}
use Rattle.rule_grammar.specs.Machine.{Context, start, ended, State, at, judge, from}
use Rattle.rule_bytes.specs.RuleBytes.{nodes, nodes_from}
use Rattle.rule_stack.specs.Open.{held, written, coded}
use Rattle.rule_parser.specs.declared.Phase.{Phase}
use Rattle.rule_parser.specs.declared.Phase.TheVariants.{Start, Read, Done}
use Rattle.rule_parser.specs.declared.Spot.{Spot}

abbrev pub spot : Phase → ℕ → ℕ → ℕ → Spot
spot phase end depth count = record { phase = phase; end = end; depth = depth; count = count }

-- the first bytes of what was lent are the open formulas
pub record Opened (K : List Context) (depth : ℕ) (stack : List ℕ) : Type 0 where
  pub deep : depth ≡ length (coded K)
  pub bytes : take depth stack ≡ coded K

-- the nodes so far are these, as far as there is room for 64
pub record Noded (count : ℕ) (bytes all : List ℕ) : Type 0 where
  pub size : length all ≡ 512
  pub nodes : count ≤ 64 → take (8 * count) all ≡ bytes

-- each byte of the stack and each node has a byte of the text to itself, so there is room
pub record Within (t : List ℕ) (s : Spot) (stack : List ℕ) : Type 0 where
  pub read : s.end ≤ length t
  pub short : length t ≤ 4096
  pub room : length t ≤ length stack
  pub few : s.depth + s.count ≤ s.end

-- what is still to be read of the text is read from this state
abbrev pub Reaches : List ℕ → Spot → State → Type 0
Reaches t s st = judge t ≡ from t s.end st

-- an operand starts
pub record Starting (t : List ℕ) (s : Spot) (stack all : List ℕ) : Type 0 where
  pub around : List Context
  pub opened : Opened around s.depth stack
  pub count : s.count ≡ held around
  pub noded : Noded s.count (written around) all
  pub reaches : Reaches t s (at start around)

-- one was read
pub record Behind (t : List ℕ) (s : Spot) (stack all : List ℕ) : Type 0 where
  pub around : List Context
  pub operand : Formula
  pub opened : Opened around s.depth stack
  pub count : s.count ≡ held around + nodes operand
  pub noded : Noded s.count (written around ++ nodes_from (held around) operand) all
  pub reaches : Reaches t s (at (ended operand) around)

-- the text is that of a formula
pub record Finished (t : List ℕ) (s : Spot) (all : List ℕ) : Type 0 where
  pub whole : Formula
  pub end : s.end ≡ length t
  pub count : s.count ≡ nodes whole
  pub noded : Noded s.count (nodes_from 0 whole) all
  pub verdict : judge t ≡ formula whole

-- by the phase
abbrev pub StandingIn : Phase → List ℕ → Spot → List ℕ → List ℕ → Type 0
StandingIn Start t s stack all = Starting t s stack all
StandingIn Read t s stack all = Behind t s stack all
StandingIn Done t s stack all = Finished t s all

abbrev pub Standing : List ℕ → Spot → List ℕ → List ℕ → Type 0
Standing t s stack all = StandingIn s.phase t s stack all

-- reading comes further, or less is open, or all is read
pub record Onward (t : List ℕ) (old new : Spot) (stack all : List ℕ) : Type 0 where
  pub standing : Standing t new stack all
  pub within : Within t new stack
  pub onward : new.phase ≢ Done → 3 * (length t - new.end) + new.depth < 3 * (length t - old.end) + old.depth

-- the text has its fault at this place
pub record Stopped (t : List ℕ) (place : ℕ) : Type 0 where
  pub judged : judge t ≡ fault place
  pub inside : place ≤ length t

-- a turn comes to one of the two
abbrev pub Turned : List ℕ → Spot → Result Spot ℕ → List ℕ → List ℕ → Type 0
Turned t old (Ok new) stack all = Onward t old new stack all
Turned t old (Err place) stack all = Stopped t place
