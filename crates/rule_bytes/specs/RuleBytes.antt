-- The bytes of the rule that a text becomes. The quoted words are of 02, paper 5, and of 01, "Bytes of a chart, a rule
-- and a map".
use Rattle.std.specs.Prelude.{List, ◌∷◌, ◌++◌, ℕ, ◌+◌, ◌-◌, ◌*◌}
use Rattle.append.specs.BigEndian.{word_bytes, long_bytes}
use Rattle.tctl.specs.Formula.{Formula, Bound, at_most, at_least, exactly, always, label, not, and, or, some_until, all_until}

-- how many nodes a formula has
abbrev pub nodes : Formula → ℕ
nodes always = 1
nodes (label i) = 1
nodes (not f) = nodes f + 1
nodes (and f g) = nodes f + nodes g + 1
nodes (or f g) = nodes f + nodes g + 1
nodes (some_until b f g) = nodes f + nodes g + 1
nodes (all_until b f g) = nodes f + nodes g + 1

-- "k nodes of 8 bytes: operation (1 byte), bound kind (1), a, b, c (2 each)"
abbrev pub node_bytes : ℕ → ℕ → ℕ → ℕ → ℕ → List ℕ
node_bytes operation kind a b c = operation ∷ kind ∷ (word_bytes a ++ (word_bytes b ++ word_bytes c))

-- "Kind is 1 (at most c) or 2 (at least c)"; "Bound kind 3 is "exactly c"" (02, paper 7)
abbrev pub kind_of : Bound → ℕ
kind_of (at_most c) = 1
kind_of (at_least c) = 2
kind_of (exactly c) = 3

abbrev pub limit_of : Bound → ℕ
limit_of (at_most c) = c
limit_of (at_least c) = c
limit_of (exactly c) = c

-- "operands before their node, left first": the nodes of f, from node n on, those of g, and the node of both
abbrev pub joined : ℕ → ℕ → ℕ → ℕ → Formula → Formula → List ℕ → List ℕ → List ℕ
joined operation kind c n f g left right =
    left ++ (right ++ node_bytes operation kind (n + nodes f - 1) (n + nodes f + nodes g - 1) c)

-- the nodes of a formula, the first being node n: "0 true; 1 label a; 2 not a; 3 a and b; 4 a or b; 5 E(a until b);
-- 6 A(a until b)", and "Fields not used are 0"
unfoldable pub nodes_from : ℕ → Formula → List ℕ
nodes_from n always = node_bytes 0 0 0 0 0
nodes_from n (label i) = node_bytes 1 0 i 0 0
nodes_from n (not f) = nodes_from n f ++ node_bytes 2 0 (n + nodes f - 1) 0 0
nodes_from n (and f g) = joined 3 0 0 n f g (nodes_from n f) (nodes_from (n + nodes f) g)
nodes_from n (or f g) = joined 4 0 0 n f g (nodes_from n f) (nodes_from (n + nodes f) g)
nodes_from n (some_until b f g) = joined 5 (kind_of b) (limit_of b) n f g (nodes_from n f) (nodes_from (n + nodes f) g)
nodes_from n (all_until b f g) = joined 6 (kind_of b) (limit_of b) n f g (nodes_from n f) (nodes_from (n + nodes f) g)

-- "Byte 0 is the version, 1. Bytes 1 to 4 give the length of the whole"; "node count k in bytes 5 to 6"
abbrev pub head_bytes : ℕ → List ℕ
head_bytes k = 1 ∷ (long_bytes (7 + 8 * k) ++ word_bytes k)

-- "The text becomes a rule in bytes"
unfoldable pub rule_bytes : Formula → List ℕ
rule_bytes f = head_bytes (nodes f) ++ nodes_from 0 f
