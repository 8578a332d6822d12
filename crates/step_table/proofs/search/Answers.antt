-- Invariant: rows 0 to k are in the table, and no row before row k is enough.
use mathlib.Core.Path.{refl, ◌∙◌}
use native.Mathlib.Omega.{arith}
use borrow.Author.Count.{below_none, below_more}
use Rattle.step_table.proofs.Tabled.{tabled_first, tabled_next, tabled_room, enough_not, found_first, found_last}
use Rattle.step_table.proofs.search.Goals as goal

pub loop-k-init : goal.loop-k-init
loop-k-init c =
    let ready = c.requires.0 in (
      refl,
      tabled_first c.args.target _ c.args.p.now c.args.q.now ready.passed ready.fair c.first_row.ensures,
      below_none _,
    )

pub returns-then-need-table : goal.returns-then-need-table
returns-then-need-table c =
    let a = c.args in
    let ready = c.requires.0 in
    let loop = c.loop-k in
    found_first a.target _ a.p.now a.q.now ready.passed ready.fair a.s ready.state loop.table c.requires.1.slots
    (omega arith) loop.invariant.1 (omega (arith, c.if-need-table.true, c.stored-need.ensures)) loop.invariant.2

pub next_row-requires : goal.next_row-requires
next_row-requires c =
    let a = c.args in
    let ready = c.requires.0 in
    let loop = c.loop-k in
    record {
      operands = (ready.fair, ready.operands);
      weights = (
        c.requires.1,
        tabled_room a.target _ a.p.now a.q.now ready.passed ready.fair loop.table loop.invariant.1 (omega arith)
            (omega (arith, ready.room, loop.invariant.0, c.first_row.ensures.size)),
      );
    }

pub loop-k-preserved : goal.loop-k-preserved
loop-k-preserved c =
    let a = c.args in
    let ready = c.requires.0 in
    let loop = c.loop-k in
    let short =
    enough_not a.target _ a.p.now a.q.now ready.passed ready.fair a.s ready.state loop.table loop.invariant.1
    (omega (arith, c.if-need-table.false, c.stored-need.ensures)) in (
      c.next_row.ensures.size ∙ loop.invariant.0,
      tabled_next a.target _ a.p.now a.q.now ready.passed ready.fair c.requires.1.slots loop.invariant.1
          c.next_row.ensures,
      below_more _ loop.k loop.invariant.2 short,
    )

pub returns : goal.returns
returns c =
    let a = c.args in
    let ready = c.requires.0 in
    let loop = c.loop-k in
    found_last a.target _ a.p.now a.q.now ready.passed ready.fair a.s ready.state loop.table c.requires.1.slots
    (omega arith) loop.invariant.1 loop.invariant.2 c.stored-need.result c.stored-need.ensures c.then_some.ensures
