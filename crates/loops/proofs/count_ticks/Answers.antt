-- Numbers that begin with 1 are ready for the engine, through every state.
use mathlib.Core.Bool.{true}
use native.Mathlib.Omega.{arith}
use borrow.Author.Rules.{rules}
use Rattle.chart.proofs.Reading.{shaped}
use Rattle.initial.specs.Filled.{Filled}
use Rattle.initial.proofs.Sided.{Begun}
use Rattle.loops.proofs.Ticks.{by_ticks, begun, ticks_counted}
use mathlib.Core.Path.{◌≡◌, subst}
use mathlib.Core.List.{List}
use Prim.Native.Nat.{ℕ}
use lib.ListN.{length}
use Rattle.chart.specs.Shape.{Passed}
use Rattle.loops.proofs.count_ticks.Goals as goal

-- the numbers that are begun
ones :
    (chart old new : List ℕ) {n m : ℕ} → Passed chart n m → length old ≡ n → Filled (length old) (λ s. 1) new →
    Begun (by_ticks n) (λ s. true) n (λ s. 1) new
ones chart old new p size filled = begun (shaped p).some_states (subst (λ n. Filled n (λ s. 1) new) size filled)

pub overflow_cast-cap : goal.overflow_cast-cap
overflow_cast-cap c = omega (arith, (shaped c.args.chart.passed).few_states)

pub overflow_add-cap : goal.overflow_add-cap
overflow_add-cap c = omega (arith, (shaped c.args.chart.passed).few_states)

pub settle-requires : goal.settle-requires
settle-requires c =
    let p = c.requires in
    let few = shaped c.args.chart.passed in
    record {
      given = record { size = search rules; fits = omega (arith, few.few_states) };
      go = λ s. true;
      ready = (ones _ _ c.begin.new.numbers c.args.chart.passed p c.begin.ensures).ready;
    }

pub returns : goal.returns
returns c =
    let b = ones _ _ c.begin.new.numbers c.args.chart.passed c.requires c.begin.ensures in
    ticks_counted c.args.chart.bytes.now b (c.settle.ensures (λ s. true) b.ready)
