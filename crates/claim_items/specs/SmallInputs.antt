-- The column "Small input" of 01's table, and inputs for what 01 says beside it, as "several joined don't count" and "'No
-- end' contains every most"; and inputs for what 02, papers 2, 4, 6 and 7, say of refusals. Each is listed with the number,
-- the place and the entry that are answered, all 0 if it is accepted.
use Rattle.std.specs.Prelude.{Bool, ◌&&◌, List, [], ◌∷◌, ◌++◌, ℕ, ◌+◌, ◌/◌, length, take, replicate, eqb}
use Rattle.outcome.specs.declared.Outcome.{Outcome}
use Rattle.outcome.specs.Refusal.{outcome}
use Rattle.call_map.specs.Refusals.{map_refusal}
use Rattle.append.specs.BigEndian.{word_bytes}
use Rattle.claim_items.specs.Write.{arrow, chart, node, rule, map}
use Rattle.claim_items.specs.Items.{short, true_until, E, A, at_most, at_least, exactly}

-- a number, a place and an entry that are answered, for bytes
pub record Refused : Type 0 where
  pub answer : Outcome
  pub bytes : List ℕ

abbrev pub refused : ℕ → ℕ → ℕ → List ℕ → Refused
refused n p e s = record { answer = outcome n p e; bytes = s }

-- s with another first byte
abbrev pub versioned : ℕ → List ℕ → List ℕ
versioned v [] = []
versioned v (b ∷ s) = v ∷ s

-- Short with other arrows, of 8 bytes each, in place of its second
abbrev pub short_with : List ℕ → List ℕ
short_with a = chart 3 (length a / 8 + 2) (word_bytes 1 ++ word_bytes 2 ++ word_bytes 4) (arrow 0 1 5 10 ++ a ++ arrow 2 0 20 65535)

-- no loop holding an arrow with most above 0 can be reached from its state 1 alone
abbrev pub stranded : List ℕ
stranded = short_with (arrow 0 0 1 1 ++ arrow 1 1 0 0)

unfoldable pub charts : List Refused
charts =
    -- Short is not refused
    refused 0 0 0 short ∷
    -- empty chart
    refused 1 0 1 [] ∷
    -- first byte 02
    refused 2 0 1 (versioned 2 short) ∷
    -- 39 stated, 40 lent
    refused 3 0 1 (short ++ 0 ∷ []) ∷
    -- n = 0
    refused 4 0 1 (chart 0 1 [] (arrow 0 0 1 1)) ∷
    -- m = 2,049
    refused 5 0 1 (chart 1 2049 (word_bytes 0) (arrow 0 0 1 1)) ∷
    -- n = 1, m = 1, 20 bytes
    refused 6 0 1 (chart 1 1 (word_bytes 0) (arrow 0 0 1 1 ++ 0 ∷ [])) ∷
    -- n = 3, end 3
    refused 7 1 1 (short_with (arrow 1 3 0 4)) ∷
    -- slot 5 to 4
    refused 8 1 1 (short_with (arrow 1 2 5 4)) ∷
    -- n = 2, one arrow 0 to 0
    refused 9 1 1 (chart 2 1 (word_bytes 0 ++ word_bytes 0) (arrow 0 0 1 1)) ∷
    -- arrow 0 to 0, slot 0 to 0; its slot before paper 4, 0 to 3, is not refused
    refused 19 0 1 (chart 1 1 (word_bytes 0) (arrow 0 0 0 0)) ∷
    refused 0 0 0 (chart 1 1 (word_bytes 0) (arrow 0 0 0 3)) ∷
    -- "Handing a job back and forth takes 0 to 3 minutes each way": not refused
    refused 0 0 0 (chart 2 2 (word_bytes 0 ++ word_bytes 0) (arrow 0 1 0 3 ++ arrow 1 0 0 3)) ∷
    -- the arrow with most above 0 is on no loop
    refused 19 0 1 (chart 2 2 (word_bytes 0 ++ word_bytes 0) (arrow 0 1 1 1 ++ arrow 1 1 0 0)) ∷
    -- from state 1 no such loop can be reached; if it has an arrow to state 0 too, one can
    refused 19 1 1 (chart 2 2 (word_bytes 0 ++ word_bytes 0) (arrow 0 0 0 1 ++ arrow 1 1 0 0)) ∷
    refused 0 0 0 (chart 2 3 (word_bytes 0 ++ word_bytes 0) (arrow 0 0 0 1 ++ arrow 1 1 0 0 ++ arrow 1 0 0 0)) ∷
    []

unfoldable pub rules : List Refused
rules =
    -- the rule of item 4 is not refused
    refused 0 0 0 (true_until A 2 at_most 13) ∷
    -- empty rule
    refused 10 0 3 [] ∷
    -- first byte 00
    refused 11 0 3 (versioned 0 (true_until A 2 at_most 13)) ∷
    -- 31 stated, 30 lent
    refused 12 0 3 (take 30 (true_until A 2 at_most 13)) ∷
    -- k = 65
    refused 13 0 3 (rule 65 (node 0 0 0 0 0)) ∷
    -- label 16
    refused 14 1 3 (true_until A 16 at_most 13) ∷
    -- "14 takes kind 3 with c up to 255 only": 255 is not refused, and of at most 256 is not; no node has kind 4
    refused 0 0 0 (true_until A 2 exactly 255) ∷
    refused 14 2 3 (true_until A 2 exactly 256) ∷
    refused 0 0 0 (true_until A 2 at_most 256) ∷
    refused 14 2 3 (true_until A 2 4 13) ∷
    -- node 0 = true with kind 3
    refused 14 0 3 (rule 1 (node 0 exactly 0 0 0)) ∷
    -- node 0 = not 0
    refused 15 0 3 (rule 1 (node 2 0 0 0 0)) ∷
    -- node 1 = 0 and 0
    refused 16 0 3 (rule 2 (node 0 0 0 0 0 ++ node 3 0 0 0 0)) ∷
    []

-- the same for a detail chart, an overview and a map
pub record RefusedMap : Type 0 where
  pub answer : Outcome
  pub detail : List ℕ
  pub overview : List ℕ
  pub map : List ℕ

abbrev pub refused_map : ℕ → ℕ → ℕ → List ℕ → List ℕ → List ℕ → RefusedMap
refused_map n p e d o m = record { answer = outcome n p e; detail = d; overview = o; map = m }

-- each of three states stands for itself
abbrev pub itself : List ℕ
itself = map 3 (word_bytes 0 ++ word_bytes 1 ++ word_bytes 2)

-- Short with label word 1 at every state
abbrev pub alike : List ℕ
alike = chart 3 3 (word_bytes 1 ++ word_bytes 1 ++ word_bytes 1) (arrow 0 1 5 10 ++ arrow 1 2 0 4 ++ arrow 2 0 20 65535)

unfoldable pub maps : List RefusedMap
maps =
    -- Short under Short is not refused
    refused_map 0 0 0 short short itself ∷
    -- empty detail, empty overview: the detail is tested first
    refused_map 1 0 1 [] [] itself ∷
    -- an empty overview
    refused_map 1 0 2 short [] itself ∷
    -- overview from whose state 1 alone no loop holding an arrow with most above 0 can be reached
    refused_map 19 1 2 short stranded itself ∷
    -- empty map
    refused_map 20 0 4 short short [] ∷
    -- count 2, detail n = 3
    refused_map 20 0 4 short short (map 2 (word_bytes 0 ++ word_bytes 1)) ∷
    -- entry 3, overview n = 3
    refused_map 21 1 4 short short (map 3 (word_bytes 0 ++ word_bytes 3 ++ word_bytes 2)) ∷
    -- 1 against 2; state 2 differs too
    refused_map 22 1 4 alike short itself ∷
    -- 4 to 9, overview only 5 to 10
    refused_map 23 1 1 (short_with (arrow 1 2 4 9)) (short_with (arrow 1 2 5 10)) itself ∷
    -- 4 to 9, overview 4 to 6 and 7 to 9: several joined don't count
    refused_map 23 1 1 (short_with (arrow 1 2 4 9)) (short_with (arrow 1 2 4 6 ++ arrow 1 2 7 9)) itself ∷
    -- 4 to no end, overview only 4 to 65,534
    refused_map 23 1 1 (short_with (arrow 1 2 4 65535)) (short_with (arrow 1 2 4 65534)) itself ∷
    -- 4 to 9, overview 4 to no end: not refused
    refused_map 0 0 0 (short_with (arrow 1 2 4 9)) (short_with (arrow 1 2 4 65535)) itself ∷
    []

-- the same for a chart, a rule, and how many bytes and numbers are lent
pub record RefusedJudge : Type 0 where
  pub answer : Outcome
  pub chart : List ℕ
  pub rule : List ℕ
  pub marks : ℕ
  pub scratch : ℕ

abbrev pub refused_judge : ℕ → ℕ → ℕ → List ℕ → List ℕ → ℕ → ℕ → RefusedJudge
refused_judge n p e g r marks scratch =
    record { answer = outcome n p e; chart = g; rule = r; marks = marks; scratch = scratch }

-- A(true until E(true until L2, the first kind, b), the second kind, c)
abbrev pub two_bounds : ℕ → ℕ → ℕ → ℕ → List ℕ
two_bounds kind b kind' c =
    rule 5 (node 0 0 0 0 0 ++ node 0 0 0 0 0 ++ node 1 0 2 0 0 ++ node E kind 1 2 b ++ node A kind' 0 3 c)

unfoldable pub checks : List RefusedJudge
checks =
    -- 01's listing, with just enough room, is not refused
    refused_judge 0 0 0 short (true_until A 2 at_most 13) 9 12 ∷
    -- n = k = 3, 8 bytes
    refused_judge 17 0 5 short (true_until A 2 at_most 13) 8 12 ∷
    -- n = 3, 11 numbers
    refused_judge 18 0 5 short (true_until A 2 at_most 13) 9 11 ∷
    -- the chart is tested before the rule, the rule before the marks, the marks before scratch, scratch before 19
    refused_judge 1 0 1 [] [] 0 0 ∷
    refused_judge 10 0 3 stranded [] 0 0 ∷
    refused_judge 17 0 5 stranded (true_until A 2 at_most 13) 0 0 ∷
    refused_judge 18 0 5 stranded (true_until A 2 at_most 13) 9 0 ∷
    refused_judge 19 1 1 stranded (true_until A 2 at_most 13) 9 12 ∷
    -- "With kind 3 check wants 256 × n scratch numbers": n = 3, 767 numbers; 768 are enough
    refused_judge 18 0 5 short (true_until A 2 exactly 0) 9 767 ∷
    refused_judge 0 0 0 short (true_until A 2 exactly 0) 9 768 ∷
    -- and with kind 3 in an inner node alone; without it 12 are enough
    refused_judge 18 0 5 short (two_bounds exactly 0 at_most 13) 15 767 ∷
    refused_judge 0 0 0 short (two_bounds exactly 0 at_most 13) 15 768 ∷
    refused_judge 0 0 0 short (two_bounds at_least 0 at_most 13) 15 12 ∷
    []

unfoldable pub counts : List RefusedJudge
counts =
    -- c = 256, nothing lent: 63 before 17 and 18
    refused_judge 63 2 3 short (true_until A 2 at_most 256) 0 0 ∷
    -- c = 255 is not 63, and with just enough room is not refused
    refused_judge 17 0 5 short (true_until A 2 at_most 255) 0 0 ∷
    refused_judge 0 0 0 short (true_until A 2 at_most 255) 9 768 ∷
    -- both bounds above 255; the last node's alone; the inner node's alone
    refused_judge 63 3 3 short (two_bounds at_least 256 at_most 65535) 15 768 ∷
    refused_judge 63 4 3 short (two_bounds at_least 255 at_most 256) 15 768 ∷
    refused_judge 63 3 3 short (two_bounds at_least 65535 at_most 255) 15 768 ∷
    -- node 2 = A(0 until 0, at most 256): 16 before 63
    refused_judge 16 0 3 short (rule 3 (node 0 0 0 0 0 ++ node 0 0 0 0 0 ++ node A at_most 0 0 256)) 9 768 ∷
    -- n = 3, 767 numbers, without an until; 768 are enough
    refused_judge 18 0 5 short (rule 1 (node 0 0 0 0 0)) 3 767 ∷
    refused_judge 0 0 0 short (rule 1 (node 0 0 0 0 0)) 3 768 ∷
    []

-- ── As listed ──

-- the outcomes are the same
abbrev pub same : Outcome → Outcome → Bool
same r o = eqb r.number o.number && eqb r.place o.place && eqb r.entry o.entry

-- the refusal is the one that is listed
abbrev pub as_listed : (List ℕ → Outcome) → Refused → Bool
as_listed refusal x = same (refusal x.bytes) x.answer

-- map check's refusal is the one that is listed
abbrev pub map_as_listed : RefusedMap → Bool
map_as_listed x = same (map_refusal x.detail x.overview x.map) x.answer

-- the refusal of check, or of count, is the one that is listed, where so many zeros are lent
abbrev pub judge_as_listed : (List ℕ → List ℕ → List ℕ → List ℕ → Outcome) → RefusedJudge → Bool
judge_as_listed refusal x =
    same (refusal x.chart x.rule (replicate x.marks 0) (replicate x.scratch 0)) x.answer
