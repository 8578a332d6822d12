-- What is open, on the stack: read, taken off and put on.
use mathlib.Core.Path.{◌≡◌, refl, sym, ap, ◌∙◌}
use mathlib.Core.List.{List, ◌∷◌, ◌++◌}
use Prim.Native.Nat.{ℕ, ◌+◌, ◌≤◌, ◌<◌}
use native.Mathlib.Omega.{arith}
use lib.ListN.{length, get_or, take, drop, length-append}
use lib.Seq.{sets, sets-eq, take_at, length-take-le, take-take, take-append_seam, get_or-take, get_or-append-add}
use Rattle.rule_grammar.specs.Machine.{Context}
use Rattle.rule_stack.specs.Open.{held, entry, coded}
use Rattle.rule_parser.specs.Standing.{Opened}

-- a run of stores behind the first d bytes
pub take_sets :
    (l : List ℕ) (d : ℕ) (e : List ℕ) → d + length e ≤ length l → take (d + length e) (sets l d e) ≡ take d l ++ e
take_sets l d e h =
    let size = length-append (take d l) e in
    let front = length-take-le d l (omega (arith, h)) in
    ap (take (d + length e)) (sets-eq e l d h) ∙
    take_at (take d l ++ e) (drop (d + length e) l) (d + length e) (omega (arith, size, front))

module _ (k : Context) (K : List Context) (d : ℕ) (l : List ℕ) (h : Opened (k ∷ K) d l) where
  abbrev top : List ℕ
  top = entry (held K) k

  pub opened_size : d ≡ length (coded K) + length top
  opened_size = h.deep ∙ length-append (coded K) top

  -- a byte of the innermost one
  pub opened_byte : (i : ℕ) → i < length top → get_or l (length (coded K) + i) 0 ≡ get_or top i 0
  opened_byte i p =
      let q : length (coded K) + i < d = omega (arith, opened_size, p) in
      sym (get_or-take d l (length (coded K) + i) 0 q) ∙
      ap (λ (s : List ℕ). get_or s (length (coded K) + i) 0) h.bytes ∙ get_or-append-add (coded K) top i 0

  -- those around it
  pub opened_around : Opened K (length (coded K)) l
  opened_around =
      record {
        deep = refl;
        bytes =
            sym (take-take (length (coded K)) d l (omega (arith, opened_size))) ∙
            ap (take (length (coded K))) h.bytes ∙ take-append_seam (coded K) top;
      }

-- one more
pub opened_more :
    (k : Context) (K : List Context) (d : ℕ) (l : List ℕ) → Opened K d l → d + length (entry (held K) k) ≤ length l →
    Opened (k ∷ K) (d + length (entry (held K) k)) (sets l d (entry (held K) k))
opened_more k K d l h p =
    record {
      deep = omega (arith, h.deep, length-append (coded K) (entry (held K) k));
      bytes = take_sets l d (entry (held K) k) p ∙ ap (λ (s : List ℕ). s ++ entry (held K) k) h.bytes;
    }
