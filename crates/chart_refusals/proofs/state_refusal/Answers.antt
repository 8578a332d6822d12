-- The invariant: every state before v is in its set. So the state that is found is the lowest.
use mathlib.Core.Path.{◌≡◌, sym, ap, ◌∙◌}
use mathlib.Core.Bool.{not}
use mathlib.Core.List.{List}
use Prim.Native.Nat.{ℕ, ◌<◌, ◌/◌, ◌%◌}
use native.Mathlib.Omega.{arith}
use lib.ListN.{get_or}
use Rattle.masks.specs.Member.{member}
use Rattle.outcome.proofs.Search.{search_found, search_ended}
use Rattle.chart.specs.Refusals.{left_by}
use Rattle.chart_refusals.specs.Leaves.{Leaves}
use Rattle.chart_refusals.proofs.state_refusal.Goals as goal

-- a state is in its set just where an arrow leaves it
says :
    {s left : List ℕ} {m : ℕ} → Leaves s m left → (u : ℕ) → u < 256 →
    not (left_by s m u) ≡ not (member (get_or left (u / 64) 0) (u % 64))
says h u l = ap not (sym (h.tells u l))

pub returns-then-not-has : goal.returns-then-not-has
returns-then-not-has c s m h =
    let few = c.requires in
    c.at.ensures ∙
    search_found 9 (
    record {
      inside = c.loop-v-test.true;
      offends = says h c.loop-v.v (omega (arith, few)) ∙ ap not (sym c.has.ensures ∙ c.if-not-has.true);
      under = λ u l. says h u (omega (arith, few)) ∙ c.loop-v.invariant u l;
    }
    )

pub returns : goal.returns
returns c s m h =
    let few = c.requires in
    search_ended 9 (λ u l. says h u (omega (arith, few)) ∙ c.loop-v.invariant u (omega arith))
