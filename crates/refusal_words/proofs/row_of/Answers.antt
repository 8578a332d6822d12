-- The numbers of each range are rows one after another, and those before, between and behind have none.
use mathlib.Core.Path.{refl}
use Prim.Native.Nat.{◌-◌}
use native.Mathlib.Omega.{arith}
use Rattle.outcome.specs.Refusal.{lowest}
use Rattle.outcome.proofs.Agree.{agree}
use Rattle.refusal_words.specs.Sentences.{row_of}
use Rattle.refusal_words.proofs.Rows.{late_row}
use Rattle.refusal_words.proofs.row_of.Goals as goal

pub returns-in-1-to-23 : goal.returns-in-1-to-23
unfolding lowest row_of
returns-in-1-to-23 c = agree (λ n. n - 1) row_of 1 23 refl (omega arith) (omega arith)

pub returns-in-60-to-66 : goal.returns-in-60-to-66
unfolding lowest row_of
returns-in-60-to-66 c = agree (λ n. n - 37) row_of 60 7 refl (omega arith) (omega arith)

pub returns-in_default : goal.returns-in_default
unfolding lowest row_of
returns-in_default c = agree (λ n. 30) row_of 0 1 refl (omega arith) (omega arith)

pub returns-in_default-2 : goal.returns-in_default-2
unfolding lowest row_of
returns-in_default-2 c = agree (λ n. 30) row_of 24 36 refl (omega arith) (omega arith)

pub returns-in_default-3 : goal.returns-in_default-3
returns-in_default-3 c = late_row (omega arith)
