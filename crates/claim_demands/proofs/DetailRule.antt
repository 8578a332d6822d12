-- The detail rule: where its premises hold, a rule carries as its kinds say, in the meaning and in the bytes.
use mathlib.Core.Path.{◌≡◌, ap, subst}
use mathlib.Core.Logic.{◌↔◌}
use mathlib.Core.Bool.{true}
use mathlib.Core.List.{List}
use Prim.Native.Nat.{ℕ, ◌-◌, ◌<◌}
use native.Mathlib.Omega.{arith}
use Rattle.tctl.specs.Holds.{Holds}
use Rattle.tctl.specs.Kind.{Runs, all_runs, some_run, is_of}
use Rattle.tctl.specs.Detail.{Carries}
use Rattle.tctl.proofs.Drawn.{accepted_drawn}
use Rattle.tctl.proofs.Simulation.{carries}
use Rattle.outcome.specs.declared.Outcome.{Outcome}
use Rattle.chart.specs.Bytes.{state_count, chart_of}
use Rattle.chart.proofs.Chart.{states_of}
use Rattle.rule.specs.Bytes.{node_count}
use Rattle.rule.specs.Formula.{formula_of}
use Rattle.rule.specs.Refusals.{rule_refusal}
use Rattle.rule.proofs.Accepted.{accepted}
use Rattle.map.specs.Bytes.{entry}
use Rattle.claim_demands.specs.DetailRule.{Premises, Accepts, Marked, ThirdDemand}
use Rattle.claim_demands.proofs.MapCheck.{map_check_exact}

-- what is true at the same states as what carries, carries
carries_same :
    (k : Runs) (n : ℕ) (f : ℕ → ℕ) (O D O' D' : ℕ → Type 0) →
    ((s : ℕ) → s < n → O (f s) ↔ O' (f s)) → ((s : ℕ) → s < n → D s ↔ D' s) →
    Carries k n f O D → Carries k n f O' D'
carries_same all_runs n f O D O' D' o d c = λ s l x. (d s l).0 (c s l ((o s l).1 x))
carries_same some_run n f O D O' D' o d c = λ s l x. (o s l).0 (c s l ((d s l).1 x))

-- the last node's byte tells where the rule holds
marked_iff :
    (chart rule newMarks : List ℕ) → (rule_refusal rule).number ≡ 0 → Accepts chart rule newMarks →
    (s : ℕ) → s < state_count chart → Holds (chart_of chart) (formula_of rule) s ↔ Marked chart rule newMarks s
marked_iff chart rule newMarks ok a s l =
    let k = (accepted rule ok).shape.some_nodes in
    let tells = (a.checked.meaning a.accepted (node_count rule - 1) s (omega arith) l).yes in
    (tells.1, tells.0)

-- Map check accepts where the premises hold: the detail's chart is drawn, and is a detail of the overview's by the
-- map's entries. Along these each formula of a kind carries; of the rule no more is needed for this than its formula.
-- The bytes of either chart tell where the formula holds, so what carries for the meaning carries for them.
pub detail_rule : ThirdDemand
detail_rule d o p r mapped passed = record { meaning = meaning; bytes = bytes }
  where
    prem : Premises d o p
    prem = (map_check_exact d o p).0 mapped

    ok : (rule_refusal r).number ≡ 0
    ok = ap (λ (x : Outcome). x.number) passed

    meaning :
        (k : Runs) → is_of k (formula_of r) ≡ true →
        Carries k (state_count d) (entry p) (Holds (chart_of o) (formula_of r)) (Holds (chart_of d) (formula_of r))
    meaning k e =
        subst
        (λ n. Carries k n (entry p) (Holds (chart_of o) (formula_of r)) (Holds (chart_of d) (formula_of r)))
        (states_of d)
        (carries (accepted_drawn prem.detail.meaning) prem.under (formula_of r) k e)

    inside : (s : ℕ) → s < state_count d → entry p s < state_count o
    inside s l =
        let x = prem.under.inside s (omega (arith, states_of d)) in
        omega (arith, states_of o)

    bytes :
        (k : Runs) → is_of k (formula_of r) ≡ true → (over under : List ℕ) → Accepts o r over → Accepts d r under →
        Carries k (state_count d) (entry p) (Marked o r over) (Marked d r under)
    bytes k e over under a b =
        carries_same k (state_count d) (entry p) (Holds (chart_of o) (formula_of r)) (Holds (chart_of d) (formula_of r))
        (Marked o r over) (Marked d r under)
        (λ s l. marked_iff o r over ok a (entry p s) (inside s l)) (marked_iff d r under ok b) (meaning k e)
