-- One node more.
use mathlib.Core.Path.{◌≡◌, refl, ap, ◌∙◌}
use mathlib.Core.List.{List, ◌++◌}
use Prim.Native.Nat.{ℕ, ◌+◌, ◌*◌, ◌<◌}
use native.Mathlib.Omega.{arith}
use lib.ListN.{length}
use lib.Dec.{ltb}
use lib.Seq.{length-sets}
use borrow.Author.Tests.{lt-ltb}
use Rattle.base.proofs.Truth.{cond_elim}
use Rattle.rule_stack.specs.Open.{put}
use Rattle.rule_parser.specs.Standing.{Noded}
use Rattle.rule_parser.proofs.Stack.{take_sets}

pub put_size : (n : ℕ) (node all : List ℕ) → length (put n node all) ≡ length all
put_size n node all =
    cond_elim (λ (s : List ℕ). length s ≡ length all) (ltb n 64) (λ _. length-sets all (8 * n) node) (λ _. refl)

pub noded_more :
    {n : ℕ} {bytes all : List ℕ} (node after : List ℕ) → length node ≡ 8 → Noded n bytes all →
    (n < 64 → bytes ++ node ≡ after) → Noded (n + 1) after (put n node all)
noded_more {n} {bytes} {all} node after size h e =
    record {
      size = put_size n node all ∙ h.size;
      nodes =
          λ l.
          let few : n < 64 = omega (arith, l) in
          let more : 8 * (n + 1) ≡ 8 * n + length node = omega (arith, size) in
          rw (lt-ltb n 64 few, more)
          (take_sets all (8 * n) node (omega (arith, h.size, size, few)) ∙
          ap (λ (s : List ℕ). s ++ node) (h.nodes (omega (arith, l))) ∙ e few);
    }
