-- Row t holds the plain row while the numbers are filled from row a and cleared by it.
use mathlib.Core.Path.{sym}
use mathlib.Core.Bool.{Bool, false, false≢true}
use Prim.Native.Nat.{ℕ}
use native.Mathlib.Omega.{arith}
use Rattle.model.specs.Marks.{mark}
use Rattle.chart.proofs.Reading.{shaped}
use Rattle.operands.proofs.Rows.{written_as, lent_written, unmarked, lower_row}
use Rattle.until_start.proofs.Lent.{joins}
use Rattle.until_start.proofs.Waits.{plain_answers}
use Rattle.until_twice.proofs.Sure.{starts_sure}
use Rattle.until_twice.proofs.sure_start.Goals as goal

pub overflow_cast-chart : goal.overflow_cast-chart
overflow_cast-chart c = omega (arith, (shaped c.args.chart.passed).few_states)

pub unhindered-requires : goal.unhindered-requires
unhindered-requires c =
    let p = c.requires in (p.0, p.1, omega (arith, (shaped c.args.chart.passed).few_states))

pub returns-then-all_are : goal.returns-then-all_are
returns-then-all_are c =
    let wrote = written_as c.unhindered.ensures (plain_answers _ _ _ _) in
    let p = c.requires in (
      wrote,
      record {
        ready = λ e. absurd (false≢true e);
        is = λ e. absurd (false≢true e);
        nowhere = λ e. unmarked wrote (omega (arith, wrote.size, p.0.table)) (c.all_are.ensures c.if-all_are.true);
      },
    )

pub returns : goal.returns
returns c =
    let a = c.args in
    let p = c.requires in
    let holds : ℕ → ℕ → Bool = mark a.chart.states a.marks.now in
    let wrote = written_as c.unhindered.ensures (plain_answers _ _ _ _) in
    let sure = starts_sure (joins p.0.passed false) (holds a.node.a) (holds a.node.b) (lent_written wrote) _
    (omega (arith, p.2)) (lower_row wrote p.1.left) c.fill_numbers.ensures c.clear_unsure.ensures in
    (wrote, record { ready = λ e. sure.0; is = λ e. sure.1; nowhere = λ e. absurd (false≢true (sym e)) })
