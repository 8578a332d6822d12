-- Words from one place up to another, as they are read one after another.
use Rattle.std.proofs.Common.{◌≡◌, ℕ, ◌+◌, ◌-◌, ◌≤◌, ◌<◌, List, length, get_or, take, drop, arith}
use Rattle.std.proofs.lemmas.Grind.{common_steps}

-- the words from one place up to another
abbrev pub part : ℕ → ℕ → List ℕ → List ℕ
part from to words = take (to - from) (drop from words)

module _ {from to : ℕ} (words : List ℕ) (order : from ≤ to) (inside : to ≤ length words) where
  pub part_length : from + length (part from to words) ≡ to
  part_length = grind (arith, common_steps)

  pub part_read :
      (k : ℕ) → k < length (part from to words) →
      (from + k < to) × (get_or (part from to words) k 0 ≡ get_or words (from + k) 0)
  part_read k l = (grind (arith, common_steps), grind (arith, common_steps))
