-- The formulas that are open, as bytes, and the nodes that were written before them.
use Rattle.std.specs.Prelude.{cond, List, [], ◌∷◌, ◌++◌, ℕ, ◌+◌, ◌-◌, ◌*◌, ◌/◌, ◌%◌, get_or, ltb}
use Rattle.std.proofs.lemmas.List.Edits.{sets}
use Rattle.rule_grammar.specs.Machine.{Context, negated, opened, joined}
use Rattle.rule_bytes.specs.RuleBytes.{nodes, nodes_from}
use Rattle.rule_bytes.specs.JoinNode.{number_of}
use Rattle.rule_tokens.specs.Tags.{open_tag, join_tag}

-- how many nodes were written before the innermost operand: those of the first operands
abbrev pub held : List Context → ℕ
held [] = 0
held (negated ∷ K) = held K
held (opened o ∷ K) = held K
held (joined j f ∷ K) = held K + nodes f

-- their bytes
abbrev pub written : List Context → List ℕ
written [] = []
written (negated ∷ K) = written K
written (opened o ∷ K) = written K
written (joined j f ∷ K) = written K ++ nodes_from (held K) f

-- what is kept of an open formula, behind n nodes: its tag, and before it c and the low byte of its first operand's node
abbrev pub entry : ℕ → Context → List ℕ
entry n negated = 2 ∷ []
entry n (opened o) = open_tag o ∷ []
entry n (joined j f) = number_of j / 256 ∷ number_of j % 256 ∷ (n + nodes f - 1) % 256 ∷ join_tag j ∷ []

-- all that are open, the innermost last
abbrev pub coded : List Context → List ℕ
coded [] = []
coded (k ∷ K) = coded K ++ entry (held K) k

-- a node is written, as far as there is room for 64
abbrev pub put : ℕ → List ℕ → List ℕ → List ℕ
put count bytes all = cond (ltb count 64) (sets all (8 * count) bytes) all

-- a node that uses no field but a, which is below 256
abbrev pub one_node : ℕ → ℕ → List ℕ
one_node operation a = operation ∷ 0 ∷ 0 ∷ a ∷ 0 ∷ 0 ∷ 0 ∷ 0 ∷ []

-- the node of two operands, from its tag and from what is kept before it from place i on; the second operand's node is the
-- last of so many
abbrev pub joined_node : ℕ → ℕ → ℕ → List ℕ → List ℕ
joined_node tag i count stack =
    tag / 8 ∷ tag % 8 ∷ 0 ∷ get_or stack (i + 2) 0 ∷ 0 ∷ (count - 1) % 256 ∷ get_or stack i 0 ∷ get_or stack (i + 1) 0 ∷ []
