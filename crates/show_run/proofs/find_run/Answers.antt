-- The search that the node asks for, by the rows of its operands as they are lent.
use Prim.Native.Nat.{◌*◌}
use Rattle.operands.proofs.Rows.{lent_length}
use Rattle.show_run.proofs.BySteps.{fair_target}
use Rattle.show_run.proofs.find_run.Goals as goal

pub find_by_steps-requires : goal.find_by_steps-requires
find_by_steps-requires c =
    let a = c.args in
    let p = c.requires in
    record {
      passed = p.passed;
      operands =
          record {
            first = lent_length (a.w.a * a.chart.states) a.chart.states a.marks.now p.left;
            second = lent_length (a.w.b * a.chart.states) a.chart.states a.marks.now p.right;
          };
      fair = rw c.target_of.ensures (fair_target a.w p.small);
      state = p.inside;
      room = p.room;
    }
