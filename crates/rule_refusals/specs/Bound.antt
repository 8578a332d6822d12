-- The fields of a bound.
use Rattle.std.specs.Prelude.{Bool, not, ◌||◌, eqb}
use Rattle.rule.specs.declared.NodeWords.{NodeWords}

-- the kind or c is not 0
abbrev pub has_bound : NodeWords → Bool
has_bound w = not (eqb w.kind 0) || not (eqb w.c 0)
