-- The byte at a place, and what the machine does with it.
use mathlib.Core.Path.{◌≡◌, sym, ap, ◌∙◌}
use mathlib.Core.Bool.{Bool, true, false, ◌&&◌}
use mathlib.Core.List.{List}
use mathlib.Core.Option.{some}
use Prim.Native.Nat.{ℕ, ◌+◌, ◌≤◌, ◌<◌}
use lib.ListN.{length, get_or}
use lib.Dec.{eqb, ltb}
use borrow.Author.Tests.{ltb-true, lt-ltb, eqb-true}
use Rattle.base.proofs.Truth.{and_iff}
use Rattle.rule_grammar.specs.Machine.{State, step, from}
use Rattle.decimal.specs.Value.{is_digit as digit}
use Rattle.rule_grammar.proofs.From.{from_step}
use Rattle.rule_numbers.specs.Byte.{byte_is}
use Rattle.rule_numbers.specs.Number.{digit_at}

-- a token lies between two places, at least k bytes long
pub record Span (t : List ℕ) (i k e : ℕ) : Type 0 where
  pub long : i + k ≤ e
  pub inside : e ≤ length t

module _ (t : List ℕ) (i b : ℕ) where
  pub inside_at : byte_is t i b ≡ true → i < length t
  inside_at e = ltb-true i (length t) ((and_iff (ltb i (length t)) (eqb (get_or t i 0) b)).0 e).0

  pub byte_at : byte_is t i b ≡ true → get_or t i 0 ≡ b
  byte_at e = eqb-true (get_or t i 0) b ((and_iff (ltb i (length t)) (eqb (get_or t i 0) b)).0 e).1

  -- another byte stands there
  pub byte_not : byte_is t i b ≡ false → i < length t → eqb (get_or t i 0) b ≡ false
  byte_not e l = ap (λ (c : Bool). c && eqb (get_or t i 0) b) (sym (lt-ltb i (length t) l)) ∙ e

  -- the machine goes on at it
  pub byte_step : (st st' : State) → byte_is t i b ≡ true → step st b ≡ some st' → from t i st ≡ from t (i + 1) st'
  byte_step st st' e s = from_step t i st (inside_at e) (ap (step st) (byte_at e) ∙ s)

-- no digit stands there
pub digit_not : (t : List ℕ) (i : ℕ) → digit_at t i ≡ false → i < length t → digit (get_or t i 0) ≡ false
digit_not t i e l = ap (λ (c : Bool). c && digit (get_or t i 0)) (sym (lt-ltb i (length t) l)) ∙ e
