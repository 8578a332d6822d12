-- The first turn, and the last.
use mathlib.Core.Path.{◌≡◌, refl, subst}
use mathlib.Core.List.{List, []}
use Prim.Native.Nat.{ℕ, suc, ◌+◌, ◌-◌, ◌*◌}
use native.Mathlib.Omega.{arith}
use lib.ListN.{length, take}
use Rattle.std.proofs.Common.{Ok, Err}
use Rattle.rule_grammar.specs.Machine.{judge}
use Rattle.rule_bytes.specs.RuleBytes.{nodes_from}
use Rattle.rule_parser.specs.declared.Phase.{Phase}
use Rattle.rule_parser.specs.declared.Phase.TheVariants.{Start, Read, Done}
use Rattle.rule_parser.specs.declared.Spot.{Spot}
use Rattle.rule_parser.specs.Standing.{spot, Finished, Stopped, Standing}
use Rattle.rule_parser.specs.Read.{Reads, faulty, whole}

-- nothing was read, nothing is open and no node is written
pub begins : (t stack all : List ℕ) → length all ≡ 512 → Standing t (spot Start 0 0 0) stack all
unfolding judge
begins t stack all size =
    record {
      around = [];
      opened = record { deep = refl; bytes = refl };
      count = refl;
      noded = record { size = size; nodes = λ _. refl };
      reaches = refl;
    }

-- what falls with each turn
abbrev pub left_in : Phase → ℕ → ℕ
left_in Start n = suc n
left_in Read n = suc n
left_in Done n = 0

abbrev pub left_to_read : List ℕ → Spot → ℕ
left_to_read t s = left_in s.phase (3 * (length t - s.end) + s.depth)

-- the text is a formula's
pub read_whole :
    {t all : List ℕ} {s : Spot} → Finished t s all → Reads t (judge t) (Ok s.count) all
read_whole {t} {all} {s} f =
    rw (f.verdict, f.count)
    (whole
    (λ l.
    subst (λ (n : ℕ). take (8 * n) all ≡ nodes_from 0 f.whole) f.count
    (f.noded.nodes (omega (arith, f.count, l)))))

-- or has its fault where reading stopped
pub read_fault : {t all : List ℕ} {p : ℕ} → Stopped t p → Reads t (judge t) (Err p) all
read_fault h = rw h.judged faulty
