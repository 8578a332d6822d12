-- Nodes in a rule's bytes: what stands where the bytes were put.
use mathlib.Core.Path.{◌≡◌, ap, ◌∙◌}
use mathlib.Core.List.{List, ◌++◌, append_assoc}
use Prim.Native.Nat.{ℕ, ◌+◌, ◌*◌, ◌<◌}
use native.Mathlib.Omega.{arith}
use lib.ListN.{length, get_or, length-append, get_or-append}
use lib.Seq.{get_or-append-add}
use Rattle.words.specs.Word.{word}
use Rattle.rule.specs.Bytes.{node_words}
use Rattle.rule_bytes.specs.RuleBytes.{node_bytes}

-- the bytes b stand in s from node n on
pub record Sits (s : List ℕ) (n : ℕ) (b : List ℕ) : Type 0 where
  pub before : List ℕ
  pub behind : List ℕ
  pub split : s ≡ before ++ (b ++ behind)
  pub place : length before ≡ 7 + 8 * n

pub sits_first : {s : List ℕ} {n : ℕ} (b c : List ℕ) → Sits s n (b ++ c) → Sits s n b
sits_first b c h =
    record {
      before = h.before;
      behind = c ++ h.behind;
      split = h.split ∙ ap (λ (l : List ℕ). h.before ++ l) (append_assoc b c h.behind);
      place = h.place;
    }

pub sits_second :
    {s : List ℕ} {n : ℕ} (m : ℕ) (b c : List ℕ) → length b ≡ 8 * m → Sits s n (b ++ c) → Sits s (n + m) c
sits_second m b c e h =
    record {
      before = h.before ++ b;
      behind = h.behind;
      split = h.split ∙ simp append_assoc;
      place = omega (arith, length-append h.before b, h.place, e);
    }

-- a byte of them
sits_at :
    {s : List ℕ} {n : ℕ} {b : List ℕ} → Sits s n b → (i k : ℕ) → k ≡ 7 + 8 * n + i → i < length b →
    get_or s k 0 ≡ get_or b i 0
sits_at {s} {n} {b} h i k e l =
    let p : k ≡ length h.before + i = omega (arith, h.place) in
    rw (h.split, p, get_or-append-add h.before (b ++ h.behind) i 0) (get_or-append b h.behind 0 i l)

-- the node that was put there
pub node_sits :
    {s : List ℕ} {n : ℕ} (op kind a b c : ℕ) → Sits s n (node_bytes op kind a b c) →
    node_words s n ≡ record { operation = op; kind = kind; a = a; b = b; c = c }
unfolding node_words
node_sits {s} {n} op kind a b c h =
    let o = sits_at h 0 (7 + 8 * n) (omega arith) (omega arith) in
    let k = sits_at h 1 (7 + 8 * n + 1) (omega arith) (omega arith) in
    let a₁ = sits_at h 2 (7 + 8 * n + 2) (omega arith) (omega arith) in
    let a₂ = sits_at h 3 (7 + 8 * n + 2 + 1) (omega arith) (omega arith) in
    let b₁ = sits_at h 4 (7 + 8 * n + 4) (omega arith) (omega arith) in
    let b₂ = sits_at h 5 (7 + 8 * n + 4 + 1) (omega arith) (omega arith) in
    let c₁ = sits_at h 6 (7 + 8 * n + 6) (omega arith) (omega arith) in
    let c₂ = sits_at h 7 (7 + 8 * n + 6 + 1) (omega arith) (omega arith) in
    let wa : word s (7 + 8 * n + 2) ≡ a = rw (a₁, a₂) (omega arith) in
    let wb : word s (7 + 8 * n + 4) ≡ b = rw (b₁, b₂) (omega arith) in
    let wc : word s (7 + 8 * n + 6) ≡ c = rw (c₁, c₂) (omega arith) in
    λ i. record { operation = o i; kind = k i; a = wa i; b = wb i; c = wc i }
