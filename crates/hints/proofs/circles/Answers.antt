-- Invariant: arrows through states that are gone through lead from r to the state.
use Rattle.std.proofs.Common.{◌≡◌, Bool, true, cond, List, ℕ, ◌<◌, length, get_or, sym, subst, arith}
use mathlib.Core.List.{Memᴰ}
use lib.Dec.{eqb}
use Rattle.chart.specs.declared.ArrowWords.{ArrowWords}
use Rattle.chart.specs.Bytes.{arrow_count, arrow_of, arrow_words, chart_of}
use Rattle.chart.proofs.Chart.{arrow_mem}
use Rattle.hints.specs.Values.{radix, tested_of, Open}
use Rattle.hints.proofs.Led.{Led, led_none, led_more, led_round}
use Rattle.hints.proofs.circles.Goals as goal

-- one arrow more
more :
    (chart numbers : List ℕ) (i : ℕ) {r at t : ℕ} {passes b : Bool} {w : ArrowWords} →
    w ≡ arrow_words chart i → i < arrow_count chart → w.start ≡ at →
    at < length numbers → t ≡ tested_of (get_or numbers at 0) → t < radix → b ≡ cond (eqb w.most 0) passes true →
    ((go : ℕ → Bool) → Open go numbers → Led (chart_of chart) go r at passes) →
    (go : ℕ → Bool) → Open go numbers → Led (chart_of chart) go r w.end b
more chart numbers i {at = at} {w = w} e l leaves inside is free passed led go opens =
    let mem : Memᴰ (arrow_of w) (chart_of chart).arrows =
    subst (λ v. Memᴰ (arrow_of v) (chart_of chart).arrows) (sym e) (arrow_mem chart i l) in
    led_more (led go opens) w mem leaves (opens at inside (omega arith)) passed

pub loop-init : goal.loop-init
loop-init c = (c.requires.1, λ go opens. led_none)

pub returns-then-at-r : goal.returns-then-at-r
returns-then-at-r c =
    λ go opens.
    led_round
    (more c.args.chart.bytes.now c.args.numbers.now c.hint-i.result c.arrow-a.ensures.0
    (omega (arith, c.args.chart.passed.arrows)) c.if-a-at.false (omega arith) c.tested.ensures (omega arith)
    c.time_passes-passes.ensures c.loop.invariant.1 go opens) c.if-at-r.true

pub loop-preserved : goal.loop-preserved
loop-preserved c = (
  c.arrow-a.ensures.1.end,
  more c.args.chart.bytes.now c.args.numbers.now c.hint-i.result c.arrow-a.ensures.0
      (omega (arith, c.args.chart.passed.arrows)) c.if-a-at.false (omega arith) c.tested.ensures (omega arith)
      c.time_passes-passes.ensures c.loop.invariant.1,
)
