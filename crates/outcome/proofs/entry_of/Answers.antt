-- The numbers between one test and the next carry one entry.
use mathlib.Core.Path.{refl}
use native.Mathlib.Omega.{arith}
use Rattle.outcome.specs.Entry.{entry_of}
use Rattle.outcome.specs.Refusal.{lowest}
use Rattle.outcome.proofs.Agree.{agree}
use Rattle.outcome.proofs.entry_of.Goals as goal

pub returns-then-number-lt1 : goal.returns-then-number-lt1
unfolding lowest entry_of
returns-then-number-lt1 c = agree (λ n. 0) entry_of 0 1 refl (omega arith) c.if-number-lt1.true

pub returns-then-number-lt10 : goal.returns-then-number-lt10
unfolding lowest entry_of
returns-then-number-lt10 c = agree (λ n. 1) entry_of 1 9 refl c.if-number-lt1.false c.if-number-lt10.true

pub returns-then-number-lt17 : goal.returns-then-number-lt17
unfolding lowest entry_of
returns-then-number-lt17 c = agree (λ n. 3) entry_of 10 7 refl c.if-number-lt10.false c.if-number-lt17.true

pub returns-then-number-lt19 : goal.returns-then-number-lt19
unfolding lowest entry_of
returns-then-number-lt19 c = agree (λ n. 5) entry_of 17 2 refl c.if-number-lt17.false c.if-number-lt19.true

pub returns-then-number-lt20 : goal.returns-then-number-lt20
unfolding lowest entry_of
returns-then-number-lt20 c = agree (λ n. 1) entry_of 19 1 refl c.if-number-lt19.false c.if-number-lt20.true

pub returns-then-number-lt23 : goal.returns-then-number-lt23
unfolding lowest entry_of
returns-then-number-lt23 c = agree (λ n. 4) entry_of 20 3 refl c.if-number-lt20.false c.if-number-lt23.true

pub returns-then-number-lt24 : goal.returns-then-number-lt24
unfolding lowest entry_of
returns-then-number-lt24 c = agree (λ n. 1) entry_of 23 1 refl (omega arith) c.if-number-lt24.true
