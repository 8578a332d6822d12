-- What a chart, a rule and the room lent leave once rows 1 to 18 are passed.
use mathlib.Core.Path.{◌≡◌, refl, sym, ap, subst, ◌∙◌}
use mathlib.Core.Bool.{Bool, true, false}
use mathlib.Core.List.{List, [], ◌∷◌}
use Prim.Native.Nat.{ℕ, ◌+◌, ◌*◌, ◌-◌, ◌≤◌, ◌<◌}
use native.Mathlib.Nat.{suc-mul}
use native.Mathlib.Omega.{arith}
use lib.ListN.{length}
use Rattle.tctl.specs.Accepted.{Accepted}
use Rattle.outcome.specs.declared.Outcome.{Outcome}
use Rattle.outcome.specs.Refusal.{first}
use Rattle.outcome.proofs.First.{part_zero}
use Rattle.chart.specs.Bytes.{state_count, arrow_count, chart_of}
use Rattle.rule.specs.Bytes.{node_count}
use Rattle.rule.specs.Refusals.{minutely}
use Rattle.rule.proofs.Accepted.{accepted}
use Rattle.loops.specs.Refusal.{loop_row, accepted_table}
use Rattle.loops.proofs.Chain as loops
use Rattle.loops.proofs.Accepted.{accepted_only}
use Rattle.nodes.specs.Right.{numbers_for, Workable, AcceptedNode}
use Rattle.nodes.proofs.Workable.{states_fit}
use Rattle.room.specs.Room.{size_for}
use Rattle.settle.specs.TimesSettled.{times_settled}
use Rattle.settle.specs.Settled.{Settled}
use Rattle.settle.proofs.Once.{once}
use Rattle.judge.specs.Judged.{Judgeable, Judged}
use Rattle.judge.proofs.Chain.{Admitted}

-- no more numbers are worked on than are asked for
pub used_asked : (minutely : Bool) (n : ℕ) → numbers_for minutely n ≤ size_for minutely n
used_asked true n = omega arith
used_asked false n = omega arith

-- once counted, they may be judged
pub judgeable :
    {counting : Bool} {chart rule marks scratch numbers : List ℕ} {n m k : ℕ} →
    Admitted counting chart rule marks scratch →
    n ≡ state_count chart → m ≡ arrow_count chart → k ≡ node_count rule → length numbers ≡ numbers_for (minutely counting rule) n →
    Judgeable counting chart n m rule k marks numbers
judgeable p states arrows nodes size =
    record {
      passed = record { states = states; arrows = arrows; unrefused = p.of_chart };
      nodes = nodes;
      unrefused = p.of_rule;
      short = p.short;
      table = rw (states, nodes) p.table;
      size = size;
    }

-- the last row ends where all rows do
last_row : (k n : ℕ) → 1 ≤ k → (k - 1) * n + n ≡ k * n
last_row k n h = sym (suc-mul (k - 1) n) ∙ ap (λ i. i * n) (omega arith)

module _ {counting : Bool} {chart : List ℕ} {n m : ℕ} {rule : List ℕ} {k : ℕ} {marks numbers : List ℕ}
    (r : Judgeable counting chart n m rule k marks numbers) where
  pub some_nodes : 1 ≤ k
  some_nodes = omega (arith, (accepted rule r.unrefused).shape.some_nodes, r.nodes)

  -- there is a number for each state
  pub numbers_enough : n ≤ length numbers
  numbers_enough = omega (arith, r.size, states_fit (minutely counting rule) n)

  -- a chart that passes row 19 too is accepted
  accepted_now : {o : Outcome} → o ≡ first (loop_row chart ∷ []) → o.number ≡ 0 → Accepted (chart_of chart)
  accepted_now e z =
      accepted_only chart (part_zero (accepted_table chart) (loops.loop_next chart refl r.passed.unrefused e) z)

  -- the last node may be settled
  pub last_asks :
      {o : Outcome} {vs : List ℕ} → o ≡ first (loop_row chart ∷ []) → o.number ≡ 0 → length vs ≡ length numbers →
      Workable counting (minutely counting rule) chart n m (k - 1) marks vs × AcceptedNode counting rule (k - 1)
  last_asks f z e = (
    record {
      passed = r.passed;
      table = omega (arith, last_row k n some_nodes, r.table);
      room = omega (arith, e, r.size);
      accepted = λ _. accepted_now f z;
    },
    record { unrefused = r.unrefused; inside = omega (arith, some_nodes, r.nodes); short = r.short },
  )

  -- Settling it settles every node: each is settled once.
  pub all_settled :
      {o : Outcome} {new : List ℕ} → o ≡ first (loop_row chart ∷ []) → o.number ≡ 0 →
      Settled chart n rule (k - 1) marks new → Judged chart n rule o marks new
  all_settled {new = new} e z x =
      record {
        answer = e;
        refused = λ h. absurd (h z);
        size = x.size;
        rows = λ _ t l.
            let visited = once (accepted rule r.unrefused) t l in
            x.done t (subst (λ i. 0 < times_settled rule i t) (ap (λ i. i - 1) (sym r.nodes)) (omega (arith, visited)));
        rest = λ j h.
            let ends = ap (λ i. i * n) (sym r.nodes) ∙ sym (last_row k n some_nodes) in
            x.after j (subst (λ i. i ≤ j) ends h);
      }
