use mathlib.Core.Path.{◌≡◌}
use lib.ListN.{drop}
use Rattle.lines.specs.Line.{behind}
use Rattle.lines.proofs.line_start.Given as goal

-- Invariant: behind the newlines that are left, from here on, stands what stands behind all i in the text.
abbrev pub invariant-loop-start : goal.invariant-loop-start
invariant-loop-start l = behind l.left (drop l.start l.text) ≡ behind l.i l.text
