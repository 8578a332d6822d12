-- The first row that is met.
use mathlib.Core.Path.{◌≡◌, refl, sym, ap, ◌∙◌}
use mathlib.Core.Logic.{◌⊎◌, inl, inr, ◌↔◌}
use mathlib.Core.List.{List, [], ◌∷◌, ◌++◌}
use mathlib.Core.Option.{Option, none, some}
use Prim.Native.Nat.{ℕ, zero, suc, ◌<◌}
use native.Mathlib.Omega.{arith}
use Rattle.outcome.specs.declared.Fault.{Fault}
use Rattle.outcome.specs.declared.Fault.TheVariants.{ChartShort, ChartVersion, ChartStated, StateCount, ArrowCount, ChartLength, NoSuchState, EmptySlot, NoArrowOut, RuleShort, RuleVersion, RuleStated, NodeCount, Malformed, NotLower, NotUsedOnce, MarksTable, Scratch, NoTimedLoop, NoMap, NoOverviewState, LabelsDiffer, NotCovered, NotShowable, TableScratch, NoRunFits, LongBound, NotAText, TooMuch, OutputShort}
use Rattle.outcome.specs.declared.Outcome.{Outcome}
use Rattle.outcome.specs.declared.Refusal.{Refusal}
use Rattle.outcome.specs.Answer.{number_of, told}
use Rattle.outcome.specs.Refusal.{Row, row, refuse, first, outcome, refusal, success}
use Rattle.outcome.specs.Met.{Unmet, end, passed, FirstMet}

-- no row has the number of success
abbrev pub Numbered : List Row → Type 0
Numbered [] = Unit {0}
Numbered (row e zero p ∷ rows) = ⊥
Numbered (row e (suc n) p ∷ rows) = Numbered rows

-- a row that is not met is passed over, and one that is met is the answer
pub first_passed : (n : ℕ) (p : Option ℕ) (rows : List Row) → p ≡ none → first (refuse n p ∷ rows) ≡ first rows
unfolding first
first_passed n p rows e = rw e

pub first_met : (n : ℕ) (p : Option ℕ) (i : ℕ) (rows : List Row) → p ≡ some i → first (refuse n p ∷ rows) ≡ refusal n i
unfolding first
first_met n p i rows e = rw e

-- where there is no refusal, no row is met: the first that is met gives its number, which is not 0
zero_unmet : (rows : List Row) → Numbered rows → (first rows).number ≡ 0 → Unmet rows
unfolding first
zero_unmet [] h z = end
zero_unmet (row e zero p ∷ rows) h z = absurd h
zero_unmet (row e (suc n) none ∷ rows) h z = passed e (suc n) (zero_unmet rows h z)
zero_unmet (row e (suc n) (some i) ∷ rows) h z = absurd (let no : ⊥ = omega arith in no)

-- a row by itself answers its number, or 0
pub alone : (n : ℕ) (p : Option ℕ) → ((first (refuse n p ∷ [])).number ≡ 0) ⊎ ((first (refuse n p ∷ [])).number ≡ n)
unfolding first
alone n none = inl refl
alone n (some i) = inr refl

-- the place of row i, counted from 0, if its condition is met
abbrev pub place_at : List Row → ℕ → Option ℕ
place_at [] i = none
place_at (row e n p ∷ rows) zero = p
place_at (row e n p ∷ rows) (suc i) = place_at rows i

unmet_place : {rows : List Row} → Unmet rows → (i : ℕ) → place_at rows i ≡ none
unmet_place end i = refl
unmet_place (passed e n u) zero = refl
unmet_place (passed e n u) (suc i) = unmet_place u i

pub unmet_at : (rows : List Row) → Numbered rows → (first rows).number ≡ 0 → (i : ℕ) → place_at rows i ≡ none
unmet_at rows h e = unmet_place (zero_unmet rows h e)

-- ── A table in two parts ──

unmet_first : (ys : List Row) {xs : List Row} → Unmet xs → first (xs ++ ys) ≡ first ys
unfolding first
unmet_first ys end = refl
unmet_first ys (passed e n u) = unmet_first ys u

append_stop : (xs ys : List Row) → ((first xs).number ≡ 0 → ⊥) → first (xs ++ ys) ≡ first xs
unfolding first
append_stop [] ys h = absurd (h refl)
append_stop (row e n none ∷ xs) ys h = append_stop xs ys h
append_stop (row e n (some i) ∷ xs) ys h = refl

-- a part of which the outcome r is no refusal
pub part_zero : (xs : List Row) {r : Outcome} → r ≡ first xs → r.number ≡ 0 → (first xs).number ≡ 0
part_zero xs e z = ap (λ (o : Outcome). o.number) (sym e) ∙ z

-- a table is tested by parts: the outcome r of the first part stands if it is a refusal, and the rest is tested if not
pub part_refuses : (xs ys : List Row) {r : Outcome} → r ≡ first xs → (r.number ≡ 0 → ⊥) → r ≡ first (xs ++ ys)
part_refuses xs ys e h = e ∙ sym (append_stop xs ys (λ z. h (ap (λ (o : Outcome). o.number) e ∙ z)))

pub part_passes :
    (xs ys : List Row) {r x : Outcome} → Numbered xs → r ≡ first xs → r.number ≡ 0 → x ≡ first ys →
    x ≡ first (xs ++ ys)
part_passes xs ys h e z f = f ∙ sym (unmet_first ys (zero_unmet xs h (part_zero xs e z)))

-- no row has the number of success
pub fault_number : (f : Fault) → number_of f ≡ 0 → ⊥
fault_number ChartShort e = omega arith
fault_number ChartVersion e = omega arith
fault_number ChartStated e = omega arith
fault_number StateCount e = omega arith
fault_number ArrowCount e = omega arith
fault_number ChartLength e = omega arith
fault_number NoSuchState e = omega arith
fault_number EmptySlot e = omega arith
fault_number NoArrowOut e = omega arith
fault_number RuleShort e = omega arith
fault_number RuleVersion e = omega arith
fault_number RuleStated e = omega arith
fault_number NodeCount e = omega arith
fault_number Malformed e = omega arith
fault_number NotLower e = omega arith
fault_number NotUsedOnce e = omega arith
fault_number MarksTable e = omega arith
fault_number Scratch e = omega arith
fault_number NoTimedLoop e = omega arith
fault_number NoMap e = omega arith
fault_number NoOverviewState e = omega arith
fault_number LabelsDiffer e = omega arith
fault_number NotCovered e = omega arith
fault_number NotShowable e = omega arith
fault_number TableScratch e = omega arith
fault_number NoRunFits e = omega arith
fault_number LongBound e = omega arith
fault_number NotAText e = omega arith
fault_number TooMuch e = omega arith
fault_number OutputShort e = omega arith

-- the same where the first part answers by a Result: what it refuses with stands, and the rest is tested if it passes
pub err_part : (xs ys : List Row) (r : Refusal) → told r ≡ first xs → told r ≡ first (xs ++ ys)
err_part xs ys r e = part_refuses xs ys e (fault_number r.fault)

pub ok_part : (xs ys : List Row) {x : Outcome} → Numbered xs → success ≡ first xs → x ≡ first ys → x ≡ first (xs ++ ys)
ok_part xs ys h e f = part_passes xs ys h e refl f

-- ── Which row is the answer ──

met_first : (rows : List Row) (e n p : ℕ) → FirstMet rows e n p → first rows ≡ outcome n p e
unfolding first
met_first rows e n p m = ap first m.split ∙ unmet_first (row e n (some p) ∷ m.after) m.unmet

first_is_met : (rows : List Row) (e n p : ℕ) → 0 < n → first rows ≡ outcome n p e → FirstMet rows e n p
unfolding first
first_is_met [] e n p l same =
    let z : 0 ≡ n = ap (λ (o : Outcome). o.number) same in
    absurd (let no : ⊥ = omega arith in no)
first_is_met (row d k none ∷ rows) e n p l same =
    let m = first_is_met rows e n p l same in
    record {
      before = row d k none ∷ m.before;
      after = m.after;
      split = ap (λ x. row d k none ∷ x) m.split;
      unmet = passed d k m.unmet;
    }
first_is_met (row d k (some i) ∷ rows) e n p l same =
    let a : k ≡ n = ap (λ (o : Outcome). o.number) same in
    let b : i ≡ p = ap (λ (o : Outcome). o.place) same in
    let c : d ≡ e = ap (λ (o : Outcome). o.entry) same in
    record { before = []; after = rows; split = cc; unmet = end }

-- "each number is returned if and only if its condition is met and none tested before it is"
pub first_iff : (rows : List Row) (e n p : ℕ) → 0 < n → (first rows ≡ outcome n p e) ↔ FirstMet rows e n p
first_iff rows e n p l = (first_is_met rows e n p l, met_first rows e n p)

unmet_success : {rows : List Row} → Unmet rows → first rows ≡ success
unfolding first
unmet_success end = refl
unmet_success (passed e n u) = unmet_success u

-- a call succeeds just where no row is met
pub success_iff : (rows : List Row) → Numbered rows → (first rows ≡ success) ↔ Unmet rows
success_iff rows h = (λ e. zero_unmet rows h (ap (λ (o : Outcome). o.number) e), λ u. unmet_success u)

-- the same of its number alone
pub zero_iff : (rows : List Row) → Numbered rows → ((first rows).number ≡ 0) ↔ Unmet rows
zero_iff rows h = (zero_unmet rows h, λ u. ap (λ (o : Outcome). o.number) (unmet_success u))
