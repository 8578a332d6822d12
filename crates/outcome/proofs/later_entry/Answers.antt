-- The numbers between one test and the next carry one entry.
use mathlib.Core.Path.{refl}
use Rattle.outcome.specs.Entry.{entry_of}
use Rattle.outcome.specs.Refusal.{lowest}
use Rattle.outcome.proofs.Agree.{agree}
use Rattle.outcome.proofs.Carried.{late_carries}
use Rattle.outcome.proofs.later_entry.Goals as goal

pub returns-then-number-lt60 : goal.returns-then-number-lt60
unfolding lowest entry_of
returns-then-number-lt60 c = agree (λ n. 0) entry_of 24 36 refl c.requires c.if-number-lt60.true

pub returns-then-number-lt61 : goal.returns-then-number-lt61
unfolding lowest entry_of
returns-then-number-lt61 c = agree (λ n. 3) entry_of 60 1 refl c.if-number-lt60.false c.if-number-lt61.true

pub returns-then-number-lt63 : goal.returns-then-number-lt63
unfolding lowest entry_of
returns-then-number-lt63 c = agree (λ n. 5) entry_of 61 2 refl c.if-number-lt61.false c.if-number-lt63.true

pub returns-then-number-lt66 : goal.returns-then-number-lt66
unfolding lowest entry_of
returns-then-number-lt66 c = agree (λ n. 3) entry_of 63 3 refl c.if-number-lt63.false c.if-number-lt66.true

pub returns-then-number-lt67 : goal.returns-then-number-lt67
unfolding lowest entry_of
returns-then-number-lt67 c = agree (λ n. 5) entry_of 66 1 refl c.if-number-lt66.false c.if-number-lt67.true

pub returns : goal.returns
returns c = late_carries c.if-number-lt67.false
