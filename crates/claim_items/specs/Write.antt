-- Charts, rules and maps written as bytes (01, "Bytes of a chart, a rule and a map").
use Rattle.std.specs.Prelude.{List, ◌∷◌, ◌++◌, ℕ, ◌+◌, length}
use Rattle.append.specs.BigEndian.{word_bytes, long_bytes}

-- "Byte 0 is the version, 1. Bytes 1 to 4 give the length of the whole, these five bytes included."
abbrev pub headed : List ℕ → List ℕ
headed body =
    let l = length body + 5 in
    1 ∷ long_bytes l ++ body

-- "8 bytes: start, end, fewest, most"
abbrev pub arrow : ℕ → ℕ → ℕ → ℕ → List ℕ
arrow start end fewest most = word_bytes start ++ word_bytes end ++ word_bytes fewest ++ word_bytes most

-- "n in bytes 5 to 6, arrow count m in 7 to 8; n label words of 2 bytes ..; m arrows"
abbrev pub chart : ℕ → ℕ → List ℕ → List ℕ → List ℕ
chart n m labels arrows = headed (word_bytes n ++ word_bytes m ++ labels ++ arrows)

-- "8 bytes: operation (1 byte), bound kind (1), a, b, c (2 each)"
abbrev pub node : ℕ → ℕ → ℕ → ℕ → ℕ → List ℕ
node operation kind a b c = operation ∷ kind ∷ word_bytes a ++ word_bytes b ++ word_bytes c

-- "node count k in bytes 5 to 6, k nodes"
abbrev pub rule : ℕ → List ℕ → List ℕ
rule k nodes = headed (word_bytes k ++ nodes)

-- "count in bytes 5 to 6, then for each detail state the 2-byte number of its overview state"
abbrev pub map : ℕ → List ℕ → List ℕ
map count entries = headed (word_bytes count ++ entries)
