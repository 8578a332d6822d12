-- A number of a text, digit by digit.
use Rattle.std.specs.Prelude.{Bool, cond, ◌&&◌, Option, Some, None, List, [], ◌∷◌, ℕ, suc, ◌+◌, ◌-◌, length, get_or, drop, ltb}
use Rattle.rule_grammar.specs.Machine.{grown, grows}
use Rattle.decimal.specs.Value.{is_digit as digit}
use Rattle.rule_numbers.specs.declared.Number.{Number}

-- a digit stands at place i
abbrev pub digit_at : List ℕ → ℕ → Bool
digit_at t i = ltb i (length t) && digit (get_or t i 0)

-- the number n, of which the bytes s from place i on are more digits, as long as it may have one more
unfoldable pub further : ℕ → ℕ → List ℕ → ℕ → Number
further most n [] i = record { value = n; end = i }
further most n (b ∷ s) i = cond (grows most n b) (further most (grown n b) s (suc i)) (record { value = n; end = i })

-- the number that starts at place i, if a digit stands there
unfoldable pub number_from : ℕ → List ℕ → ℕ → Option Number
number_from most t i = cond (digit_at t i) (Some (further most (get_or t i 0 - 48) (drop (i + 1) t) (i + 1))) None
