-- Invariant: of the states before s the arrows are collected. The links lie in arrays for the most states and the most
-- arrows that a chart has.
use mathlib.Core.Path.{sym, ◌∙◌}
use native.Mathlib.Omega.{arith}
use Rattle.chart.proofs.Reading.{shaped, counted, arrow_ends}
use Rattle.moves.specs.Moves.{open_in}
use Rattle.moves.proofs.Turns.{few_arrows, skipped, collected_all}
use Rattle.moves.proofs.collect.Goals.{then-is_open, else-is_open}
use Rattle.moves.proofs.collect.Goals as goal

pub link-requires : goal.link-requires
link-requires c = let p = c.requires.passed in ((shaped p).few_states, (shaped p).few_arrows)

pub loop-s-preserved : goal.loop-s-preserved
loop-s-preserved c =
    let a = c.args in
    let goes = open_in a.met a.p.now a.q.now in
    let says = sym c.is_open.ensures in
    elim c.if-is_open.branch [
      | then-is_open w ↦
          rw (w.ends-is, w.words-is)
          (w.with_state-ends.ensures goes (says ∙ w.if-is_open.true) c.loop-s.invariant)
      | else-is_open w ↦
          rw (w.ends-is, w.words-is)
          (skipped a.chart.bytes.now (few_arrows c.requires.passed) goes (says ∙ w.if-is_open.false) c.loop-s.invariant)
    ]

pub returns : goal.returns
returns c =
    let a = c.args in
    collected_all a.chart.bytes.now (few_arrows c.requires.passed) (open_in a.met a.p.now a.q.now)
    (λ j l. omega (arith, (arrow_ends (counted c.requires.passed) j l).0)) c.loop-s.invariant
