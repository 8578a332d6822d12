use Rattle.run_listing.proofs.Before.{LinesBefore}
use Rattle.run_listing.proofs.list_run.Given as goal

-- Invariant: the lines before position i are there, and those from i on complete the text.
abbrev pub invariant-loop-i : goal.invariant-loop-i
invariant-loop-i l =
    LinesBefore l.run l.all l.c l.initial.out l.out l.moment l.end l.i
