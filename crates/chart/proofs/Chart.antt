-- The states and the arrows of the chart that bytes stand for.
use mathlib.Core.Path.{◌≡◌}
use mathlib.Core.List.{List, Memᴰ}
use Prim.Native.Nat.{ℕ, ◌<◌}
use lib.ListN.{get_or}
use Rattle.tctl.specs.Chart.{Arrow, states}
use Rattle.base.proofs.Tabulate.{length_tabulate, get_d_tabulate, mem_tabulate, tabulate_mem}
use Rattle.chart.specs.Bytes.{state_count, arrow_count, label_word, arrow_words, arrow_of, chart_of}

module _ (s : List ℕ) where
  pub states_of : states (chart_of s) ≡ state_count s
  unfolding chart_of
  states_of = length_tabulate (state_count s) (label_word s)

  pub label_of : (v : ℕ) → v < state_count s → get_or (chart_of s).labels v 0 ≡ label_word s v
  unfolding chart_of
  label_of = get_d_tabulate (state_count s) (label_word s) 0

  -- an arrow of the bytes is one of the chart's
  pub arrow_mem : (i : ℕ) → i < arrow_count s → Memᴰ (arrow_of (arrow_words s i)) (chart_of s).arrows
  unfolding chart_of
  arrow_mem = mem_tabulate (arrow_count s) (λ i. arrow_of (arrow_words s i))

  -- and an arrow of the chart is one of the bytes'
  pub arrow_of_lem :
      (a : Arrow) → Memᴰ a (chart_of s).arrows →
      (i : ℕ) × (i < arrow_count s) × (a ≡ arrow_of (arrow_words s i))
  unfolding chart_of
  arrow_of_lem a m = tabulate_mem (arrow_count s) (λ i. arrow_of (arrow_words s i)) m
