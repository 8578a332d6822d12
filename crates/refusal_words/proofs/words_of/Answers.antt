-- Each word is written into zeros that have room for it.
use mathlib.Core.Path.{◌≡◌}
use mathlib.Core.List.{List}
use Prim.Native.Nat.{ℕ}
use native.Mathlib.Omega.{arith}
use Rattle.refusal_words.specs.declared.Words.{Words}
use Rattle.refusal_words.proofs.Sizes.{counts_short, sentence_short, paper_short}
use Rattle.refusal_words.proofs.Filled.{zeros_room, filled_up}
use Rattle.refusal_words.proofs.words_of.Goals as goal

-- words are the same if each is
same_words :
    {s t p q c d : List ℕ} → s ≡ t → p ≡ q → c ≡ d →
    ◌≡◌ {A = Words} (record { sentence = s; paper = p; counts = c }) (record { sentence = t; paper = q; counts = d })
same_words e f g = cc

pub put_text-requires : goal.put_text-requires
put_text-requires c = (omega arith, zeros_room 16 (counts_short _))

pub put_paper-requires : goal.put_paper-requires
put_paper-requires c = zeros_room 16 (paper_short _)

pub put_text-requires-2 : goal.put_text-requires-2
put_text-requires-2 c = (omega arith, zeros_room 128 (sentence_short _))

pub returns : goal.returns
returns c =
    let sentence = filled_up 128 (sentence_short c.args.number) c.put_text-2.ensures in
    let name = filled_up 16 (paper_short c.args.entry) c.put_paper.ensures in
    let counts = filled_up 16 (counts_short c.args.number) c.put_text.ensures in
    same_words sentence name counts
