-- The search in the first numbers of scratch, then the same numbers cleared.
use mathlib.Core.Path.{ap, ◌∙◌}
use mathlib.Core.List.{List, ◌++◌}
use Prim.Native.Nat.{ℕ, ◌≤◌}
use native.Mathlib.Omega.{arith}
use lib.ListN.{length, drop, replicate}
use lib.Seq.{length-take-le}
use Rattle.chart.proofs.Reading.{shaped}
use Rattle.loops.proofs.Scratch.{cleared_front}
use Rattle.show_run.proofs.write_run.Goals as goal

pub table_size-size-requires : goal.table_size-size-requires
table_size-size-requires c = (shaped c.requires.passed).few_states

pub returns : goal.returns
returns c =
    let size = c.table_size-size.result in
    let lent : List ℕ = c.args.scratch.now in
    let numbers : List ℕ = c.find_run-written.new.table in
    let inside : size ≤ length lent = omega (arith, c.requires.room, c.table_size-size.ensures) in
    -- as many numbers were used
    let used = c.find_run-written.auto.table ∙ length-take-le size lent inside in (
      c.find_run-written.ensures,
      cleared_front _ _ lent numbers used (omega arith) inside c.clear.new.numbers c.clear.auto.numbers c.clear.ensures ∙
          ap (λ i. replicate i 0 ++ drop i lent) c.table_size-size.ensures,
    )
