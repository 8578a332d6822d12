-- The words of a refusal by themselves.
use Rattle.std.specs.Prelude.{List, ◌++◌, ℕ, ◌-◌, length, replicate}
use Rattle.refusal_words.specs.declared.Words.{Words}
use Rattle.refusal_words.specs.Sentences.{sentence_of, counts_of, paper_of}

-- a text filled up with zeros to so many bytes
abbrev pub filled : ℕ → List ℕ → List ℕ
filled size text = text ++ replicate (size - length text) 0

-- the words of a number and an entry. Each is shorter than its room, so that a zero ends it.
abbrev pub words_of : ℕ → ℕ → Words
words_of number entry =
    record {
      sentence = filled 128 (sentence_of number);
      paper = filled 16 (paper_of entry);
      counts = filled 16 (counts_of number);
    }
