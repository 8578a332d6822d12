-- A map's bytes. The quoted sentences are of 01, "Bytes of a chart, a rule and a map".
use Rattle.std.specs.Prelude.{◌≡◌, List, ℕ, ◌+◌, ◌*◌, length}
use Rattle.words.specs.Word.{word}
use Rattle.head.specs.Head.{Headed}

-- "count in bytes 5 to 6"
abbrev pub entry_count : List ℕ → ℕ
entry_count p = word p 5

-- "then for each detail state the 2-byte number of its overview state"
abbrev pub entry : List ℕ → ℕ → ℕ
entry p d = word p (7 + 2 * d)

-- a map for a detail chart with n states
pub record MapFormat (p : List ℕ) (n : ℕ) : Type 0 where
  -- 7 bytes at least, version 1, the stated length the real one
  pub head : Headed 7 p
  -- "Length 7 + 2 × count."
  pub whole : length p ≡ 7 + 2 * entry_count p
  -- "for each detail state"
  pub count : entry_count p ≡ n
