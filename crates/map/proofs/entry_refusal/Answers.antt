-- Invariant: every entry before d names an overview state.
use mathlib.Core.Path.{◌≡◌, subst, ◌∙◌}
use native.Mathlib.Omega.{arith}
use lib.Dec.{leb}
use borrow.Author.Tests.{le-leb}
use Rattle.outcome.proofs.Search.{search_found, search_ended}
use Rattle.map.proofs.entry_refusal.Goals as goal

pub returns-then-k-entry_at : goal.returns-then-k-entry_at
returns-then-k-entry_at c =
    let offends = subst (λ x. leb c.args.k x ≡ _) c.entry_at.ensures.0 (le-leb _ _ c.if-k-entry_at.true) in
    c.at.ensures ∙ search_found 21 (record { inside = omega arith; offends = offends; under = c.loop-d.invariant })

pub returns : goal.returns
returns c = search_ended 21 (λ v l. c.loop-d.invariant v (omega arith))
