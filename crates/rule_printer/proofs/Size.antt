-- How long a text can be: a rule of at most 64 nodes has at most 532 bytes of it.
use mathlib.Core.Path.{◌≡◌, ap}
use mathlib.Core.List.{List, [], ◌∷◌, ◌++◌}
use Prim.Native.Nat.{ℕ, ◌+◌, ◌*◌, ◌≤◌, ◌<◌}
use native.Mathlib.Omega.{arith}
use lib.ListN.{length, get_or, length-append}
use Rattle.tctl.specs.Formula.{Formula}
use Rattle.decimal.proofs.Decimal.{decimal_size}
use Rattle.rule_grammar.specs.Text.{text}
use Rattle.rule_grammar.specs.Grammar.{InRange}
use Rattle.rule_grammar.specs.Machine.{Join, conj, disj, until, opening_of, opening, sign, join_text}
use Rattle.rule_grammar.proofs.Signs.{most_range}
use Rattle.rule_grammar.proofs.Seen.{JoinLive, join_text_lem, join_range}
use Rattle.rule.specs.Formula.{formula_of}
use Rattle.rule.specs.Refusals.{rule_refusal}
use Rattle.rule.proofs.Accepted.{accepted}
use Rattle.rule_bytes.specs.RuleBytes.{nodes}
use Rattle.rule_bytes.proofs.Tree.{formula_induction, join_nodes}
use Rattle.rule_bytes.proofs.Range.{accepted_range}
use Rattle.rule_printer.proofs.NodeCount.{nodes_counted}

-- before two operands and between them stand at most eleven bytes: `E(`, a space, `U<=` and five digits
join_size : (j : Join) → JoinLive j → length (opening (opening_of j)) + length (sign j) ≤ 11
join_size conj h = omega arith
join_size disj h = omega arith
join_size (until q s c) h = omega (arith, decimal_size 4 c (omega (arith, h, (most_range s).1)))

-- and a space and a bracket besides
joined_size :
    (j : Join) (f g : List ℕ) → JoinLive j → length (join_text j f g) ≤ 13 + length f + length g
joined_size j f g h =
    let o = opening (opening_of j) in
    let rest = sign j ++ 32 ∷ (g ++ 41 ∷ []) in
    omega (
      arith,
      join_size j h,
      length-append o (f ++ rest),
      length-append f rest,
      length-append (sign j) (32 ∷ (g ++ 41 ∷ [])),
      length-append g (41 ∷ []),
    )

-- so many nodes join two others: fewer than every other node does, and each adds at most 15 bytes beside its own
record Sized (f : Formula) : Type 0 where
  joins : ℕ
  few : 2 * joins + 1 ≤ nodes f
  short : length (text f) ≤ 15 * joins + 3 + nodes f

-- By induction: "true" is the longest leaf, with 3 and its node's byte; "!" adds its node's; a join adds 13, which with
-- the 3 and 3 of its operands are 15, 3 and its node's.
sized : (f : Formula) → InRange f → Sized f
unfolding text
sized =
    formula_induction (λ f. InRange f → Sized f)
    (λ _. record { joins = 0; few = omega arith; short = omega arith })
    (λ i h. record { joins = 0; few = omega arith; short = omega (arith, decimal_size 1 i (omega arith)) })
    (λ f p h.
    let s = p h in
    record { joins = s.joins; few = omega (arith, s.few); short = omega (arith, s.short) })
    λ j f g p q h.
    let r = join_range j f g h in
    let s = p r.1 in
    let t = q r.2 in
    let size = join_nodes j f g in
    record {
      joins = s.joins + t.joins + 1;
      few = omega (arith, s.few, t.few);
      short =
          omega (
            arith,
            ap length (join_text_lem j f g),
            joined_size j (text f) (text g) r.0,
            s.short,
            t.short,
          );
    }

-- 64 nodes have at most 31 joins: 15 × 31 + 3 + 64
pub text_size :
    (s : List ℕ) → (rule_refusal s).number ≡ 0 → ((i : ℕ) → get_or s i 0 < 256) → length (text (formula_of s)) ≤ 532
text_size s e bytes =
    let acc = accepted s e in
    let size = sized (formula_of s) (accepted_range s e bytes) in
    omega (arith, size.few, size.short, nodes_counted acc, acc.shape.few_nodes)
