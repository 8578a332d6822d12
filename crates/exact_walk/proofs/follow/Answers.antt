-- Invariant: what is written, followed by the walk of the steps that are left, is the whole walk; and these are the
-- fewest for the minutes and the state.
use Prim.Native.Nat.{◌<◌, ◌-◌}
use native.Mathlib.Omega.{arith}
use Rattle.chart.proofs.Reading.{shaped}
use Rattle.run_walk.proofs.Rest.{rest_all, rest_room, rest_less, rest_none}
use Rattle.exact_walk.proofs.Walk.{Stepped, walk_in_length, walk_last, step_down}
use Rattle.exact_walk.proofs.follow.Goals.{After-next_arrow-d}
use Rattle.exact_walk.proofs.follow.Goals as goal

pub loop-left-init : goal.loop-left-init
loop-left-init c =
    let a = c.args in
    let p = c.requires.0 in
    let size = walk_in_length a.chart.bytes.now a.chart.states a.table.now a.k a.c a.s in
    (p.state, omega arith, p.steps, rest_all (omega (arith, size, p.room)))

-- the arrow that was found, taken in the minutes that were, is a step of the walk
step :
    (c : After-next_arrow-d) →
    Stepped c.args.chart.bytes.now c.args.chart.states c.args.table.now c.loop-left.left (c.loop-left.left - 1)
    c.loop-left.minutes c.loop-left.state c.next_arrow-d.result.0 c.next_arrow-d.result.1
step c =
    let inv = c.loop-left.invariant in
    let found = c.next_arrow-d.ensures in
    step_down c.requires.0 inv.0 inv.1 c.loop-left.auto.left inv.2 c.loop-left-test.true found.arrow found.minutes

-- it is one of the minutes left
pub overflow_cast-d : goal.overflow_cast-d
overflow_cast-d c =
    let s = step (goal.at.overflow_cast-d c).After-next_arrow-d in
    omega (arith, s.inside, c.loop-left.invariant.1, c.requires.0.inside.few)

pub put_position-end-requires : goal.put_position-end-requires
put_position-end-requires c =
    let inv = c.loop-left.invariant in
    let s = step (goal.at.put_position-end-requires c).After-next_arrow-d in
    let small : c.loop-left.state < 65536 = omega (arith, inv.0, (shaped c.requires.0.passed).few_states) in
    (small, rest_room inv.3 _ s.walk)

pub overflow_sub-minutes : goal.overflow_sub-minutes
overflow_sub-minutes c = (step (goal.at.overflow_sub-minutes c).After-next_arrow-d).inside

pub loop-left-preserved : goal.loop-left-preserved
loop-left-preserved c =
    let inv = c.loop-left.invariant in
    let s = step (goal.at.loop-left-preserved c).After-next_arrow-d in
    (c.next_arrow-d.ensures.end, omega (arith, inv.1), s.number, rest_less inv.3 s.walk c.put_position-end.ensures)

-- after the last step
pub put_position-requires : goal.put_position-requires
put_position-requires c =
    let a = c.args in
    let inv = c.loop-left.invariant in
    let small : c.loop-left.state < 65536 = omega (arith, inv.0, (shaped c.requires.0.passed).few_states) in
    let loop = c.loop-left in
    let end = walk_last a.chart.bytes.now a.chart.states a.table.now loop.minutes loop.state {left = loop.left}
    (omega arith) in
    (small, rest_room inv.3 _ end)

pub returns : goal.returns
returns c =
    let a = c.args in
    let loop = c.loop-left in
    let end = walk_last a.chart.bytes.now a.chart.states a.table.now loop.minutes loop.state {left = loop.left}
    (omega arith) in
    rest_none c.loop-left.invariant.3 end c.put_position.ensures
