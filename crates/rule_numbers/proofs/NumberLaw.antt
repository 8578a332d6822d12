-- A number that the machine reads.
use mathlib.Core.Path.{◌≡◌, refl, ◌∙◌}
use mathlib.Core.Bool.{Bool, true, false}
use mathlib.Core.List.{List}
use mathlib.Core.Option.{some}
use Prim.Native.Nat.{ℕ, zero, suc, ◌+◌, ◌-◌, ◌≤◌, ◌<◌}
use native.Mathlib.Omega.{arith}
use lib.ListN.{length, get_or, drop}
use Rattle.rule_grammar.specs.Machine.{State, step, from, grown, grows}
use Rattle.rule_grammar.proofs.Seen.{grows_true}
use Rattle.rule_grammar.proofs.From.{from_step}
use Rattle.rule_numbers.specs.Number.{further}
use Rattle.rule_numbers.specs.declared.Number.{Number}
use Rattle.rule_numbers.proofs.Further.{further_more, further_end, further_none}

-- the number r, come to from n at place i by states that hold a number: the same text is left to be read, no digit that
-- r may have stands there, and r is no greater than the most
pub record Grown (t : List ℕ) (state_of : ℕ → State) (most n i : ℕ) (r : Number) : Type 0 where
  pub same : from t i (state_of n) ≡ from t r.end (state_of r.value)
  pub after : i ≤ r.end
  pub inside : r.end ≤ length t
  pub stops : r.end < length t → grows most r.value (get_or t r.end 0) ≡ false
  pub few : r.value ≤ most

module _
    (t : List ℕ)
    (state_of : ℕ → State)
    (most : ℕ)
    (goes : (n b : ℕ) → grows most n b ≡ true → step (state_of n) b ≡ some (state_of (grown n b))) where
  -- by induction on the bytes that are left
  further_law :
      (left n i : ℕ) → left + i ≡ length t → n ≤ most → Grown t state_of most n i (further most n (drop i t) i)
  further_law zero n i e h =
      rw (further_none most n t i (omega (arith, e)))
      (record {
        same = refl;
        after = omega arith;
        inside = omega (arith, e);
        stops = λ l. absurd (omega (arith, e, l));
        few = h;
      })
  further_law (suc left) n i e h = turn (further_law left) (grows most n (get_or t i 0)) refl
    where
      turn :
          ((m k : ℕ) → left + k ≡ length t → m ≤ most → Grown t state_of most m k (further most m (drop k t) k)) →
          (c : Bool) → grows most n (get_or t i 0) ≡ c → Grown t state_of most n i (further most n (drop i t) i)
      turn ih true g =
          let l : i < length t = omega (arith, e) in
          let r = ih (grown n (get_or t i 0)) (i + 1) (omega (arith, e)) (grows_true most n (get_or t i 0) g).few in
          rw (further_more most n t i l g)
          (record {
            same = from_step t i (state_of n) l (goes n (get_or t i 0) g) ∙ r.same;
            after = omega (arith, r.after);
            inside = r.inside;
            stops = r.stops;
            few = r.few;
          })
      turn ih false g =
          let l : i < length t = omega (arith, e) in
          rw (further_end most n t i l g)
          (record { same = refl; after = omega arith; inside = omega (arith, l); stops = λ _. g; few = h })

  pub further_grown : (n i : ℕ) → i ≤ length t → n ≤ most → Grown t state_of most n i (further most n (drop i t) i)
  further_grown n i l h = further_law (length t - i) n i (omega (arith, l)) h
