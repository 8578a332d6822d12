-- The machine at a place of a text: one step, no step, or the end.
use mathlib.Core.Path.{◌≡◌, sym, ap, ◌∙◌}
use mathlib.Core.List.{List}
use mathlib.Core.Option.{Option, none, some}
use Prim.Native.Nat.{ℕ, suc, ◌+◌, ◌≤◌, ◌<◌}
use native.Mathlib.Omega.{arith}
use native.Mathlib.Decide.{dec_lt}
use lib.ListN.{length, get_or, drop}
use lib.Seq.{drop-cons, drop-length}
use Rattle.rule_grammar.specs.Grammar.{fault}
use Rattle.rule_grammar.specs.Machine.{State, step, done, stepped, reading, ending, verdict, from}
use Rattle.rule_grammar.proofs.Judged.{stuck_stays}

module _ (t : List ℕ) (i : ℕ) (st : State) where
  -- the byte there is read
  from_inside :
      i < length t → from t i st ≡ verdict (length t) (reading (drop (suc i) t) (suc i) (stepped i (step st (get_or t i 0))))
  unfolding reading
  from_inside l = rw (drop-cons t i 0 l)

  -- all was read
  pub from_end : i ≡ length t → from t i st ≡ ending (length t) (done st)
  unfolding reading
  from_end e = rw (ap (λ (k : ℕ). drop k t) e ∙ drop-length t)

  pub from_step :
      {st' : State} → i < length t → step st (get_or t i 0) ≡ some st' → from t i st ≡ from t (i + 1) st'
  from_step {st'} l e =
      let one : suc i ≡ i + 1 = omega arith in
      from_inside l ∙ ap (λ (o : Option State). verdict (length t) (reading (drop (suc i) t) (suc i) (stepped i o))) e ∙
      ap (λ (k : ℕ). from t k st') one

  -- the byte there does not go on: the fault is there
  pub from_stuck : i < length t → step st (get_or t i 0) ≡ none → from t i st ≡ fault i
  from_stuck l e =
      from_inside l ∙ ap (λ (o : Option State). verdict (length t) (reading (drop (suc i) t) (suc i) (stepped i o))) e ∙
      ap (verdict (length t)) (stuck_stays (drop (suc i) t) (suc i) i)

  -- neither does the end
  pub from_halt : i ≤ length t → done st ≡ none → (i < length t → step st (get_or t i 0) ≡ none) → from t i st ≡ fault i
  from_halt h d s = turn (dec_lt i (length t))
    where
      turn : Dec (i < length t) → from t i st ≡ fault i
      turn (yes l) = from_stuck l (s l)
      turn (no l) =
          let e : i ≡ length t = omega arith in from_end e ∙ ap (ending (length t)) d ∙ ap fault (sym e)

-- two states that do the same with the byte there, and with the end
pub from_same :
    (t : List ℕ) (i : ℕ) (st st' : State) → i ≤ length t →
    (i < length t → step st (get_or t i 0) ≡ step st' (get_or t i 0)) → done st ≡ done st' → from t i st ≡ from t i st'
from_same t i st st' h s d = turn (dec_lt i (length t))
  where
    turn : Dec (i < length t) → from t i st ≡ from t i st'
    turn (yes l) =
        from_inside t i st l ∙
        ap (λ (o : Option State). verdict (length t) (reading (drop (suc i) t) (suc i) (stepped i o))) (s l) ∙
        sym (from_inside t i st' l)
    turn (no l) =
        let e : i ≡ length t = omega arith in
        from_end t i st e ∙ ap (ending (length t)) d ∙ sym (from_end t i st' e)
