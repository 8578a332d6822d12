-- Arrows are collected one by one.
use mathlib.Core.Path.{◌≡◌, sym, ap, subst, ◌∙◌}
use mathlib.Core.Logic.{◌⊎◌, inl, inr, by_cases, ⊎_map, ⊎_elim}
use mathlib.Core.Bool.{Bool, true, false, false≢true}
use mathlib.Core.List.{List}
use Prim.Native.Nat.{ℕ, suc, ◌+◌, ◌≤◌, ◌<◌}
use native.Mathlib.Omega.{arith}
use native.Mathlib.Decide.{ℕ_discrete}
use lib.ListN.{length, get_or, length-set}
use lib.Seq.{get_or-set_same, get_or-set_other}
use Rattle.tctl.specs.Chart.{Arrow}
use Rattle.minutes.proofs.Count.{count, count_le, count_same}
use Rattle.chart.specs.declared.ArrowWords.{ArrowWords}
use Rattle.chart.specs.Bytes.{arrow_count, arrow_words, arrow_of}
use Rattle.moves.specs.declared.Ends.{Ends}
use Rattle.moves.specs.Moves.{capped, move_of, WithArrow, HasWord}
use Rattle.moves.specs.Turns.{Collecting}

-- one end moves over the place of a word, which lies between them
record Moved (fewest place : ℕ) (ends ends' : Ends) : Type 0 where
  pub free : (ends.front ≤ place) × (place < ends.back)
  pub apart : ends'.front ≤ ends'.back
  pub wider : (ends.front ≤ ends'.front) × (ends'.back ≤ ends.back)
  pub one : ends'.front + ends.back ≤ suc (ends.front + ends'.back)
  pub front : fewest ≡ 0 → place < ends'.front
  pub back : 1 ≤ fewest → ends'.back ≤ place
  pub old_front : (k : ℕ) → ¬ (k ≡ place) → k < ends'.front → k < ends.front
  pub old_back : (k : ℕ) → ¬ (k ≡ place) → ends'.back ≤ k → ends.back ≤ k

moved :
    {a : Arrow} {ends ends' : Ends} {words words' : List ℕ} → ends.front < ends.back →
    (w : WithArrow a ends ends' words words') → Moved a.fewest w.place ends ends'
moved gap w = ⊎_elim (λ h. omega (arith, h)) (λ h. omega (arith, h)) w.end

-- whichever number below m is f is g
abbrev pub Within : ℕ → (ℕ → Bool) → (ℕ → Bool) → Type 0
Within m f g = (j : ℕ) → j < m → f j ≡ true → g j ≡ true

-- of the numbers below m just i is g and not f
pub record OneMore (m : ℕ) (f g : ℕ → Bool) (i : ℕ) : Type 0 where
  pub inside : i < m
  pub old : f i ≡ false
  pub new : g i ≡ true
  pub up : Within m f g
  pub down : (j : ℕ) → j < m → g j ≡ true → (j ≡ i) ⊎ (f j ≡ true)

-- the numbers that are g are more, since else i were f
more : {m : ℕ} {f g : ℕ → Bool} {i : ℕ} → OneMore m f g i → count f m < count g m
more {m} {f} {g} {i} o =
    let few : ¬ (count g m ≤ count f m) =
    λ l. false≢true (sym o.old ∙ (count_same f g m o.up).1 l i o.inside o.new) in
    omega (arith, few)

module _ {chart : List ℕ} where
  pub collected_none :
      {f : ℕ → Bool} {words : List ℕ} → ((j : ℕ) → f j ≡ false) → length words ≡ 2048 →
      Collecting chart f (record { front = 0; back = 2048 }) words
  collected_none {f} {words} none l =
      record {
        size = l;
        few = omega arith;
        are =
            record {
              front = omega arith;
              back = omega arith;
              some = λ i h. absurd (nowhere i h);
              instant = λ j u g. absurd (false≢true (sym (none j) ∙ g));
              later = λ j u g. absurd (false≢true (sym (none j) ∙ g));
            };
      }
    where
      nowhere : (i : ℕ) → ¬ HasWord (record { front = 0; back = 2048 }) i
      nowhere i (inl h) = omega arith
      nowhere i (inr h) = omega arith

  module _ {f g : ℕ → Bool} {ends : Ends} {words : List ℕ} (v : Collecting chart f ends words) where
    -- two tests that say yes of the same arrows
    pub collected_same :
        Within (arrow_count chart) f g → Within (arrow_count chart) g f → Collecting chart g ends words
    collected_same up down =
        record {
          size = v.size;
          few = omega (arith, v.few, (count_same f g (arrow_count chart) up).0);
          are =
              record {
                front = v.are.front;
                back = v.are.back;
                some = λ k h. let x = v.are.some k h in (x.0, x.1, up x.0 x.1 x.2, x.3);
                instant = λ j u e. v.are.instant j u (down j u e);
                later = λ j u e. v.are.later j u (down j u e);
              };
        }

    module _ {i : ℕ} (o : OneMore (arrow_count chart) f g i) where
      -- there is a word between front and back: an arrow is missing, so fewer than 2048 were collected
      pub gap : arrow_count chart ≤ 2048 → ends.front < ends.back
      gap l = omega (arith, v.few, more o, count_le g (arrow_count chart))

      -- The word is written between front and back, so those that are there stay as they are.
      pub collected_more :
          {a : ArrowWords} {ends' : Ends} {words' : List ℕ} → ends.front < ends.back → a ≡ arrow_words chart i →
          WithArrow (arrow_of a) ends ends' words words' → Collecting chart g ends' words'
      collected_more {a} {ends'} {words'} between known added =
          record {
            size = ap length w.written ∙ length-set words w.place w.word ∙ v.size;
            few = omega (arith, m.one, v.few, more o);
            are =
                record {
                  front = m.apart;
                  back = omega (arith, m.wider, v.are.back);
                  some =
                      λ k h.
                      by_cases (ℕ_discrete k w.place) (λ z. (i, o.inside, o.new, rw z here))
                      (λ d.
                      let x = v.are.some k (⊎_map (m.old_front k d) (λ b. (m.old_back k d b.0, b.1)) h) in
                      (x.0, x.1, o.up x.0 x.1 x.2, kept k d x.3));
                  instant =
                      λ j u y e.
                      ⊎_elim (λ z. (w.place, m.front (subst (λ j. (arrow_words chart j).fewest ≡ 0) z e), rw z here))
                      (λ y.
                      let x = v.are.instant j u y e in
                      (x.0, omega (arith, x.1, m.wider), kept x.0 (λ z. omega (arith, x.1, m.free)) x.2))
                      (o.down j u y);
                  later =
                      λ j u y e.
                      ⊎_elim
                      (λ z. (
                        w.place,
                        m.back (subst (λ j. 1 ≤ (arrow_words chart j).fewest) z e),
                        omega (arith, m.free, v.are.back),
                        rw z here,
                      ))
                      (λ y.
                      let x = v.are.later j u y e in (
                        x.0,
                        omega (arith, x.1, m.wider),
                        x.2,
                        kept x.0 (λ z. omega (arith, x.1, m.free)) x.3,
                      ))
                      (o.down j u y);
                };
          }
        where
          w : WithArrow (arrow_of (arrow_words chart i)) ends ends' words words'
          w = subst (λ a. WithArrow (arrow_of a) ends ends' words words') known added

          m : Moved (arrow_words chart i).fewest w.place ends ends'
          m = moved between w

          here : move_of (get_or words' w.place 0) ≡ capped (arrow_of (arrow_words chart i))
          here =
              ap (λ ws. move_of (get_or ws w.place 0)) w.written ∙
              ap move_of (get_or-set_same words w.place w.word 0 (omega (arith, m.free, v.are.back, v.size))) ∙
              w.is

          kept :
              (k : ℕ) {a : Arrow} → ¬ (k ≡ w.place) → move_of (get_or words k 0) ≡ a → move_of (get_or words' k 0) ≡ a
          kept k d e =
              ap (λ ws. move_of (get_or ws k 0)) w.written ∙
              ap move_of (get_or-set_other words w.place k w.word 0 d) ∙
              e
