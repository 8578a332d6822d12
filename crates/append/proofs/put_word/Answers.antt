-- What is copied over a part of a list is a run of stores there.
use mathlib.Core.Path.{refl, sym, ◌∙◌}
use mathlib.Core.List.{append_assoc}
use native.Mathlib.Omega.{arith}
use lib.ListN.{length}
use lib.Seq.{sets-eq}
use Rattle.std.proofs.lemmas.Slice.{put_mid-paste}
use Rattle.std.proofs.lemmas.List.Edits.{paste_all}
use Rattle.append.proofs.put_word.Goals as goal

pub returns : goal.returns
returns c =
    let word = c.args.word.now in
    let out = c.args.out.now in
    let n = length word in
    record {
      end = refl;
      bytes =
          put_mid-paste c.args.at _ out _ word n c.copy_from_slice.ensures.after (omega arith) refl
          ∙ paste_all out c.args.at word n refl
          ∙ sym (sets-eq word out c.args.at c.requires.fits ∙ append_assoc _ word _);
    }
