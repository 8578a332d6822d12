-- The rows before 19, then row 19 and the nodes on the numbers of scratch that are worked on; what is asked for is cleared.
use mathlib.Core.Path.{◌≡◌, refl, sym, ap, ap₂, ◌∙◌}
use Rattle.std.proofs.lemmas.Result.{err_from_is_err_and}
use Rattle.outcome.proofs.First.{fault_number}
use mathlib.Core.Bool.{Bool}
use mathlib.Core.List.{List}
use Prim.Native.Nat.{ℕ, ◌≤◌}
use lib.ListN.{length, take}
use lib.Seq.{length-take-le}
use native.Mathlib.Omega.{arith}
use Rattle.chart.specs.Bytes.{state_count}
use Rattle.chart.proofs.WellFormed.{well_formed}
use Rattle.rule.specs.Refusals.{minutely}
use Rattle.rule.proofs.Accepted.{accepted}
use Rattle.nodes.specs.Right.{numbers_for}
use Rattle.room.specs.Room.{size_for}
use Rattle.judge.proofs.Chain.{Admitted, input_passes}
use Rattle.judge.proofs.Judgeable.{used_asked, judgeable}
use Rattle.loops.proofs.Scratch.{used_size, used_front, cleared_front}
use Rattle.judge.proofs.Answers.{refused_answered, judged_answered}
use Rattle.judge.proofs.judge.Goals as goal

-- the rows before 19 were passed: of n states, with as many numbers worked on
module _ {counting : Bool} {chart rule marks scratch : List ℕ} (p : Admitted counting chart rule marks scratch)
    {n : ℕ} (states : n ≡ state_count chart) where
  -- there are at most 256 states
  few : n ≤ 256
  few = omega (arith, (well_formed _ p.of_chart).shape.few_states, states)

  module _ {by : Bool} (minutes : by ≡ minutely counting rule) {used : ℕ} (works : used ≡ numbers_for by n) where
    -- what is worked on is no more than is asked for, which lies in the scratch lent
    less : used ≤ size_for by n
    less = omega (arith, works, used_asked by n)

    room : size_for by n ≤ length scratch
    room = omega (arith, ap₂ size_for minutes states, p.room)

    inside : used ≤ length scratch
    inside = omega (arith, less, room)

    -- as many numbers are lent
    front : length (take used scratch) ≡ used
    front = length-take-le used scratch inside

    lent : length (take used scratch) ≡ numbers_for (minutely counting rule) n
    lent = front ∙ works ∙ ap (λ b. numbers_for b n) minutes

pub returns-in_err-input_refusal : goal.returns-in_err-input_refusal
returns-in_err-input_refusal c =
    let p = err_from_is_err_and c.from_residual.result c.from_residual.ensures.1 in
    rw (p.1, p.2) (refused_answered _ _ _ _ _ c.in_err-input_refusal.ensures (fault_number _))

pub state_count-requires : goal.state_count-requires
state_count-requires c =
    let p = input_passes _ _ _ _ _ c.in_ok-input_refusal.ensures refl in
    (well_formed _ p.of_chart).head.enough

pub arrow_count-requires : goal.arrow_count-requires
arrow_count-requires c =
    let p = input_passes _ _ _ _ _ c.in_ok-input_refusal.ensures refl in
    (well_formed _ p.of_chart).head.enough

pub invariant_of-chart : goal.invariant_of-chart
invariant_of-chart c =
    let p = input_passes _ _ _ _ _ c.in_ok-input_refusal.ensures refl in
    record {
      passed = record { states = c.state_count.ensures.0; arrows = c.arrow_count.ensures.0; unrefused = p.of_chart };
    }

pub node_count-k-requires : goal.node_count-k-requires
node_count-k-requires c =
    let p = input_passes _ _ _ _ _ c.in_ok-input_refusal.ensures refl in
    omega (arith, (accepted _ p.of_rule).shape.whole)

pub minutely-minutely-requires : goal.minutely-minutely-requires
minutely-minutely-requires c =
    let p = input_passes _ _ _ _ _ c.in_ok-input_refusal.ensures refl in
    p.of_rule

pub numbers_for-used-requires : goal.numbers_for-used-requires
numbers_for-used-requires c =
    let p = input_passes _ _ _ _ _ c.in_ok-input_refusal.ensures refl in
    few p c.state_count.ensures.0

pub slice_bounds-judged-end : goal.slice_bounds-judged-end
slice_bounds-judged-end c =
    let p = input_passes _ _ _ _ _ c.in_ok-input_refusal.ensures refl in
    inside p c.state_count.ensures.0 c.minutely-minutely.ensures c.numbers_for-used.ensures

pub slice_bounds-judged-end-2 : goal.slice_bounds-judged-end-2
slice_bounds-judged-end-2 c =
    let p = input_passes _ _ _ _ _ c.in_ok-input_refusal.ensures refl in
    sym (front p c.state_count.ensures.0 c.minutely-minutely.ensures c.numbers_for-used.ensures)

pub judged-tested-requires : goal.judged-tested-requires
judged-tested-requires c =
    let p = input_passes _ _ _ _ _ c.in_ok-input_refusal.ensures refl in
    judgeable p c.state_count.ensures.0 c.arrow_count.ensures.0 c.node_count-k.ensures.0
    (lent p c.state_count.ensures.0 c.minutely-minutely.ensures c.numbers_for-used.ensures)

pub scratch_size-zeros-requires : goal.scratch_size-zeros-requires
scratch_size-zeros-requires c =
    let p = input_passes _ _ _ _ _ c.in_ok-input_refusal.ensures refl in
    few p c.state_count.ensures.0

-- as many numbers come back as were lent, and what is cleared is no less
pub slice_bounds-clear-end : goal.slice_bounds-clear-end
slice_bounds-clear-end c =
    let p = input_passes _ _ _ _ _ c.in_ok-input_refusal.ensures refl in
    let size = c.scratch_size-zeros.ensures in
    let states = c.state_count.ensures.0 in
    let minutes = c.minutely-minutely.ensures in
    let works = c.numbers_for-used.ensures in
    used_size _ _ c.args.scratch.now c.judged-tested.new.numbers
    (c.judged-tested.auto.numbers ∙ front p states minutes works)
    (omega (arith, size, less p states minutes works)) (omega (arith, size, room p states minutes works))

pub slice_bounds-clear-end-2 : goal.slice_bounds-clear-end-2
slice_bounds-clear-end-2 c =
    let p = input_passes _ _ _ _ _ c.in_ok-input_refusal.ensures refl in
    let size = c.scratch_size-zeros.ensures in
    let states = c.state_count.ensures.0 in
    let minutes = c.minutely-minutely.ensures in
    let works = c.numbers_for-used.ensures in
    used_front _ _ c.args.scratch.now c.judged-tested.new.numbers
    (c.judged-tested.auto.numbers ∙ front p states minutes works)
    (omega (arith, size, less p states minutes works)) (omega (arith, size, room p states minutes works))

pub returns : goal.returns
returns c =
    let p = input_passes _ _ _ _ _ c.in_ok-input_refusal.ensures refl in
    let size = c.scratch_size-zeros.ensures in
    let states = c.state_count.ensures.0 in
    let minutes = c.minutely-minutely.ensures in
    let works = c.numbers_for-used.ensures in
    judged_answered _ _ _ _ _ c.in_ok-input_refusal.ensures refl states
    (size ∙ ap (λ b. size_for b c.state_count.result) minutes) c.judged-tested.ensures
    (cleared_front _ _ c.args.scratch.now c.judged-tested.new.numbers
    (c.judged-tested.auto.numbers ∙ front p states minutes works)
    (omega (arith, size, less p states minutes works)) (omega (arith, size, room p states minutes works))
    c.clear.new.numbers c.clear.auto.numbers c.clear.ensures)
