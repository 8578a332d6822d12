-- Invariant: what is written, followed by the walk of the steps that are left, is the whole walk.
use Prim.Native.Nat.{◌<◌}
use native.Mathlib.Omega.{arith}
use Rattle.chart.proofs.Reading.{shaped}
use Rattle.run_walk.proofs.Walk.{walk_on_length, walk_first, walk_last}
use Rattle.run_walk.proofs.Rest.{rest_all, rest_room, rest_less, rest_none}
use Rattle.run_walk.proofs.follow.Goals as goal

pub loop-left-init : goal.loop-left-init
loop-left-init c =
    let a = c.args in
    let p = c.requires.0 in
    let size = walk_on_length a.measure a.chart.bytes.now a.chart.states a.table.now a.k a.s in
    (p.state, rest_all (omega (arith, size, p.room)))

-- the position that is written, and what is left of the walk after it
pub put_position-end-requires : goal.put_position-end-requires
put_position-end-requires c =
    let a = c.args in
    let inv = c.loop-left.invariant in
    let small : c.loop-left.state < 65536 = omega (arith, inv.0, (shaped c.requires.0.passed).few_states) in
    let step =
    walk_first a.measure a.chart.bytes.now a.chart.states a.table.now c.loop-left.state (omega arith)
    c.tight_arrow-i.ensures.0 c.arrow-a.ensures.0 c.pick.ensures in
    (small, rest_room inv.1 _ step)

pub loop-left-preserved : goal.loop-left-preserved
loop-left-preserved c =
    let a = c.args in
    let step =
    walk_first a.measure a.chart.bytes.now a.chart.states a.table.now c.loop-left.state (omega arith)
    c.tight_arrow-i.ensures.0 c.arrow-a.ensures.0 c.pick.ensures in
    (c.arrow-a.ensures.1.end, rest_less c.loop-left.invariant.1 step c.put_position-end.ensures)

-- after the last step
pub put_position-requires : goal.put_position-requires
put_position-requires c =
    let a = c.args in
    let inv = c.loop-left.invariant in
    let small : c.loop-left.state < 65536 = omega (arith, inv.0, (shaped c.requires.0.passed).few_states) in
    let end = walk_last a.measure a.chart.bytes.now a.chart.states a.table.now c.loop-left.state (omega arith) in
    (small, rest_room inv.1 _ end)

pub returns : goal.returns
returns c =
    let a = c.args in
    let end = walk_last a.measure a.chart.bytes.now a.chart.states a.table.now c.loop-left.state (omega arith) in
    rest_none c.loop-left.invariant.1 end c.put_position.ensures
