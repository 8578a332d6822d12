-- "=", the number, and the space.
use mathlib.Core.Path.{◌≡◌, refl, sym, ap, ◌∙◌}
use Prim.Native.Nat.{ℕ, ◌+◌, ◌*◌}
use native.Mathlib.Omega.{arith}
use Rattle.std.proofs.Common.{Some}
use Rattle.tctl.specs.Kind.{Runs, some_run, all_runs}
use Rattle.rule_grammar.specs.Machine.{Sign, until}
use Rattle.rule_bytes.proofs.Bounds.{kind_same}
use Rattle.rule_tokens.specs.Tags.{until_tag, join_tag}
use Rattle.rule_numbers.proofs.Further.{number_ends}
use Rattle.rule_tokens.proofs.equal_from.Goals as goal

-- the tag of an until does not depend on c
until_tag_same : (q : Runs) (s : Sign) (c : ℕ) → until_tag q s ≡ join_tag (until q s c)
until_tag_same some_run s c = ap (λ k. 8 * 5 + k) (kind_same s c)
until_tag_same all_runs s c = ap (λ k. 8 * 6 + k) (kind_same s c)

pub space_from-requires : goal.space_from-requires
space_from-requires c =
    let of = c.requires.1 in
    let v = c.in_ok-number.number.value in
    let there : c.number_from.result ≡ Some c.in_ok-number.number = grind arith in (
      number_ends c.args.most c.args.text.now c.in_ok-from.from (sym c.number_from.ensures ∙ there),
      record { join = until of.runs of.sign v; same = of.same ∙ until_tag_same of.runs of.sign v; same_number = refl },
    )
