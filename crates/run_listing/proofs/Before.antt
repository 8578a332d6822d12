-- What is written of a run's text before the line of position i.
use mathlib.Core.Path.{◌≡◌, refl, sym, ◌∙◌}
use mathlib.Core.Bool.{Bool}
use mathlib.Core.List.{List, ◌++◌}
use Prim.Native.Nat.{ℕ, ◌+◌, ◌*◌, ◌^◌, ◌/◌, ◌≤◌, ◌<◌}
use native.Mathlib.Numerals.{add-one}
use native.Mathlib.Omega.{arith}
use lib.ListN.{length}
use Rattle.words.specs.Word.{word, long}
use Rattle.append.specs.Piece.{Room, Appended, AtFront}
use Rattle.append.proofs.Append.{appended_text, appended_size, appended_both, at_front}
use Rattle.run_listing.specs.RunText.{step_line, end_line, lines_from, run_text, positions_of}
use Rattle.run_listing.proofs.Sizes.{step_size, end_size}
use Rattle.run_listing.proofs.Lines.{from, from_step, from_last}

-- few enough positions, and room for the line of each
abbrev pub RunRoom : List ℕ → List ℕ → Type 0
RunRoom bytes old = (6 ≤ length bytes) × (length bytes ≤ 257 * 6) × (257 * 52 ≤ length old)

-- up to `end` stand the lines before position i: appended there, the lines from i on complete the text
pub record LinesBefore (bytes : List ℕ) (all : Bool) (c : ℕ) (old out : List ℕ) (moment end i : ℕ) : Type 0 where
  pub inside : i < length bytes / 6
  pub short : end ≤ 52 * i
  pub early : moment ≤ i * 2 ^ 32
  pub sized : length out ≡ length old
  pub completed :
      (r : ℕ) (new : List ℕ) → Appended end (lines_from all c moment (from bytes i)) r out new →
      Appended 0 (run_text all c (positions_of bytes)) r old new

pub lines_none :
    (bytes : List ℕ) (all : Bool) (c : ℕ) (old : List ℕ) → RunRoom bytes old → LinesBefore bytes all c old old 0 0 0
lines_none bytes all c old h =
    record {
      inside = omega (arith, h.0);
      short = omega arith;
      early = omega arith;
      sized = refl;
      completed = λ r new p. p;
    }

module _
    {bytes : List ℕ} {all : Bool} {c : ℕ} {old out : List ℕ} {moment end i : ℕ}
    (room : RunRoom bytes old) (w : LinesBefore bytes all c old out moment end i)
  where
    -- 256 durations of less than 2 ^ 32
    brief : moment < 10 ^ 13
    brief = omega (arith, room.1, w.inside, w.early)

    -- a line of at most 52 bytes fits after those of the positions before
    fitting : {text : List ℕ} → length text ≤ 52 → Room end text out
    fitting h = record { fits = omega (arith, h, room.1, room.2, w.inside, w.short, w.sized) }

    pub step_room :
        {state duration next : ℕ} → state < 65536 → duration < 2 ^ 32 → next < 65536 →
        Room end (step_line state moment duration next) out
    step_room {state} {duration} {next} h j k =
        fitting (step_size state moment duration next (omega arith) brief (omega arith) (omega arith))

    pub end_room : {state : ℕ} → c < 2 ^ 32 → state < 65536 → Room end (end_line all c state moment) out
    end_room {state} h j = fitting (end_size all c state moment (omega arith) (omega arith) brief)

    -- with the line of position i, those before i + 1 are there: what completes the text is that line and the lines from
    -- i + 1 on (`from_step`), so the latter complete what now stands
    pub lines_more :
        {state duration next r : ℕ} {new : List ℕ} →
        (state ≡ word bytes (6 * i)) × (state < 65536) → (duration ≡ long bytes (6 * i + 2)) × (duration < 2 ^ 32) →
        (next ≡ word bytes (6 * (i + 1))) × (next < 65536) → i + 1 < length bytes / 6 →
        Appended end (step_line state moment duration next) r out new →
        LinesBefore bytes all c old new (moment + duration) r (i + 1)
    lines_more {state} {duration} {next} d e f l p =
        record {
          inside = l;
          short = omega (arith, p.end, w.short, size);
          early = omega (arith, w.early, e.1);
          sized = appended_size p ∙ w.sized;
          completed = λ r new q. w.completed r new (appended_text (sym line) (appended_both p q));
        }
      where
        size : length (step_line state moment duration next) ≤ 52
        size =
            let h = d.1 in
            let j = e.1 in
            let k = f.1 in
            step_size state moment duration next (omega arith) brief (omega arith) (omega arith)

        line :
            lines_from all c moment (from bytes i) ≡
            step_line state moment duration next ++ lines_from all c (moment + duration) (from bytes (i + 1))
        line = rw (d.0, e.0, f.0, add-one i) (from_step bytes all c i moment (omega arith))

    -- the lines from the last position on are its line alone, so that completes the text, and it ends inside `out`
    pub lines_last :
        {state r : ℕ} {new : List ℕ} → c < 2 ^ 32 → (state ≡ word bytes (6 * i)) × (state < 65536) →
        i + 1 ≡ length bytes / 6 → Appended end (end_line all c state moment) r out new →
        AtFront (run_text all c (positions_of bytes)) r old new
    lines_last {state} {r} {new} h d l p =
        let e = from_last bytes all c i moment (omega arith) in
        let done = w.completed r new (appended_text (sym (rw d.0 e)) p) in
        at_front (record { fits = omega (arith, done.end, p.end, (end_room h d.1).fits, w.sized) }) done
