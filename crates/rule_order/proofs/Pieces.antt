-- Pieces of a rule's bytes: written again, a number that was read is the bytes that it was read from, for they are below
-- 256.
use mathlib.Core.Path.{◌≡◌, refl, sym, ◌∙◌}
use mathlib.Core.Logic.{by_cases}
use mathlib.Core.List.{List, [], ◌∷◌, ◌++◌}
use Prim.Native.Nat.{ℕ, ◌+◌, ◌-◌, ◌*◌, ◌/◌, ◌%◌, ◌<◌}
use native.Mathlib.Decide.{dec_lt}
use native.Mathlib.Omega.{arith}
use lib.ListN.{length, get_or, length-append, get_or-append}
use lib.Seq.{get_or-append-add, ext_get_or}
use Rattle.words.specs.Word.{word, long}
use Rattle.append.specs.BigEndian.{word_bytes, long_bytes}
use Rattle.head.specs.Head.{version, stated_length}
use Rattle.rule.specs.Bytes.{node_count, node_words}
use Rattle.rule_bytes.specs.RuleBytes.{node_bytes, head_bytes}

-- the bytes b stand in s from byte k on
pub record At (s : List ℕ) (k : ℕ) (b : List ℕ) : Type 0 where
  pub same : (i : ℕ) → i < length b → get_or s (k + i) 0 ≡ get_or b i 0

-- two pieces, the second right behind the first: byte i of both is one of the first, or byte i - length b of the second
pub at_both : {s : List ℕ} {k m : ℕ} {b c : List ℕ} → k + length b ≡ m → At s k b → At s m c → At s k (b ++ c)
at_both {s} {k} {m} {b} {c} e p q =
    record {
      same = λ i l.
          by_cases (dec_lt i (length b))
          (λ h. p.same i h ∙ sym (get_or-append b c 0 i h))
          (λ h.
          let j = i - length b in
          let here : k + i ≡ m + j = omega arith in
          let there : i ≡ length b + j = omega arith in
          cc (q.same j (omega (arith, length-append b c)), get_or-append-add b c j 0));
    }

pub at_whole : {s b : List ℕ} → length b ≡ length s → At s 0 b → b ≡ s
at_whole {s} {b} e p = ext_get_or 0 b s e λ i l. let here : 0 + i ≡ i = omega arith in cc (p.same i l)

module _ {s : List ℕ} where
  at_byte : {x : ℕ} (k : ℕ) → get_or s k 0 ≡ x → At s k (x ∷ [])
  at_byte k e =
      record {
        same = λ i l.
            let here : k + i ≡ k = omega arith in
            let there : i ≡ 0 = omega arith in
            rw (here, there) e;
      }

  module _ (bytes : (i : ℕ) → get_or s i 0 < 256) where
    at_word_lem : {x : ℕ} (k : ℕ) → word s k ≡ x → At s k (word_bytes x)
    at_word_lem {x} k e =
        let low = bytes (k + 1) in
        at_both refl (at_byte {x = x / 256} k (omega arith)) (at_byte {x = x % 256} (k + 1) (omega arith))

    at_long : {x : ℕ} (k : ℕ) → long s k ≡ x → At s k (long_bytes x)
    at_long {x} k e =
        let high = bytes (k + 2) in
        let low = bytes (k + 2 + 1) in
        at_both refl (at_word_lem {x = x / 65536} k (omega arith)) (at_word_lem {x = x % 65536} (k + 2) (omega arith))

    pub at_head : {k : ℕ} → version s ≡ 1 → stated_length s ≡ 7 + 8 * k → node_count s ≡ k → At s 0 (head_bytes k)
    at_head v l n = at_both refl (at_byte 0 v) (at_both refl (at_long 1 l) (at_word_lem 5 n))

    pub at_node :
        (t : ℕ) {op kind a b c : ℕ} → let w = node_words s t in
        w.operation ≡ op → w.kind ≡ kind → w.a ≡ a → w.b ≡ b → w.c ≡ c → At s (7 + 8 * t) (node_bytes op kind a b c)
    unfolding node_words
    at_node t o k a b c =
        let p = 7 + 8 * t in
        at_both refl (at_byte p o) (
        at_both (omega arith) (at_byte (p + 1) k) (
        at_both (omega arith) (at_word_lem (p + 2) a) (
        at_both (omega arith) (at_word_lem (p + 4) b) (at_word_lem (p + 6) c))))
