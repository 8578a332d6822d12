-- The small inputs are answered with the number, the place and the entry that are listed: one computed test over each list.
use mathlib.Core.Path.{◌≡◌, refl}
use mathlib.Core.Bool.{true}
use Rattle.base.specs.Tabulate.{tabulate}
use Rattle.base.specs.Sum.{sum}
use Rattle.base.specs.Every.{every}
use Rattle.model.specs.TimedLoop.{leads}
use Rattle.outcome.specs.Entry.{entry_of}
use Rattle.outcome.specs.Refusal.{lowest, first}
use Rattle.chart.specs.Bytes.{arrow_words, chart_of}
use Rattle.chart.specs.Refusals.{left_by, chart_table}
use Rattle.rule.specs.Bytes.{node_words}
use Rattle.rule.specs.Form.{form_of}
use Rattle.rule.specs.Refusals.{wrong_bound, wrong_kind, wrong_a, malformed, not_lower}
use Rattle.rule.specs.Refusals.{uses_in, uses, rule_table, rule_refusal, exact_in, bound_row}
use Rattle.loops.specs.Refusal.{loop_row, accepted_table, accepted_refusal}
use Rattle.cover.specs.Covered.{covered}
use Rattle.map.specs.Refusals.{no_map}
use Rattle.call_map.specs.Refusals.{map_table, map_check_table}
use Rattle.judge.specs.Judge.{judge_table}
use Rattle.call_check.specs.Check.{check_refusal}
use Rattle.call_count.specs.Count.{count_refusal}
use Rattle.claim_items.specs.SmallInputs.{charts, rules, maps, checks, counts}
use Rattle.claim_items.specs.SmallInputs.{as_listed, map_as_listed, judge_as_listed}

pub charts_refused : every (as_listed accepted_refusal) charts ≡ true
unfolding every charts accepted_table chart_table loop_row arrow_words chart_of tabulate leads left_by lowest first entry_of
charts_refused = refl

pub rules_refused : every (as_listed rule_refusal) rules ≡ true
unfolding every rules rule_table node_words form_of wrong_bound wrong_kind wrong_a malformed not_lower uses_in uses sum lowest first entry_of
rules_refused = refl

pub maps_refused : every map_as_listed maps ≡ true
unfolding
    every maps map_check_table map_table no_map covered accepted_table chart_table loop_row arrow_words chart_of tabulate leads
    left_by lowest first entry_of
maps_refused = refl

pub checks_refused : every (judge_as_listed check_refusal) checks ≡ true
unfolding
    every checks judge_table chart_table loop_row arrow_words chart_of tabulate leads left_by lowest first entry_of rule_table node_words
    form_of wrong_bound wrong_kind wrong_a malformed not_lower uses_in uses sum exact_in
checks_refused = refl

pub counts_refused : every (judge_as_listed count_refusal) counts ≡ true
unfolding
    every counts judge_table chart_table loop_row arrow_words chart_of tabulate leads left_by lowest first entry_of rule_table node_words
    form_of wrong_bound wrong_kind wrong_a malformed not_lower uses_in uses sum bound_row
counts_refused = refl
