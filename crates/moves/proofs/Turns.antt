-- The arrows of a state are collected, then those of the next.
use mathlib.Core.Path.{◌≡◌, sym, ap, ◌∙◌}
use mathlib.Core.Logic.{inl, inr, by_cases}
use mathlib.Core.Bool.{Bool, true, false, false≢true}
use mathlib.Core.List.{List}
use Prim.Native.Nat.{ℕ, ◌+◌, ◌≤◌, ◌<◌}
use native.Mathlib.Omega.{arith}
use native.Mathlib.Decide.{ℕ_discrete, dec_lt}
use lib.ListN.{length}
use lib.Dec.{ltb}
use borrow.Author.Tests.{ltb-true, lt-ltb}
use Rattle.base.proofs.Truth.{and_iff, no_test}
use Rattle.chart.specs.declared.ArrowWords.{ArrowWords}
use Rattle.chart.specs.Bytes.{arrow_count, arrow_words, arrow_of}
use Rattle.chart.specs.Shape.{Passed}
use Rattle.chart.proofs.Reading.{shaped}
use Rattle.arrow_links.specs.Linked.{Lowest}
use Rattle.moves.specs.declared.Ends.{Ends}
use Rattle.moves.specs.Moves.{WithArrow, Collected}
use Rattle.moves.specs.Turns.{turn_of, taken, Collecting, Before, Ready, WithState}
use Rattle.moves.proofs.Collecting.{OneMore, collected_none, collected_same, gap, collected_more}

-- the links lead to i, an arrow from s or none, and the arrows from s below it were added
pub record Adding (chart : List ℕ) (m s i : ℕ) (before after : Ends) (old new : List ℕ) : Type 0 where
  pub most : i ≤ m
  pub leaves : i < m → (arrow_words chart i).start ≡ s
  pub are :
      (goes : ℕ → Bool) → goes s ≡ true → Before chart goes s before old →
      Collecting chart (taken chart goes (turn_of s i)) after new

-- no chart that passes has more than 2048 arrows
pub few_arrows : {chart : List ℕ} {n m : ℕ} → Passed chart n m → arrow_count chart ≤ 2048
few_arrows p = omega (arith, p.arrows, (shaped p).few_arrows)

module _ (chart : List ℕ) (small : arrow_count chart ≤ 2048) (goes : ℕ → Bool) where
  abbrev start : ℕ → ℕ
  start j = (arrow_words chart j).start

  -- the arrows of turns below k are collected
  abbrev To : ℕ → Ends → List ℕ → Type 0
  To k ends words = Collecting chart (taken chart goes k) ends words

  -- what the test says, and when it says yes
  told : (k j : ℕ) → taken chart goes k j ≡ true → (goes (start j) ≡ true) × (turn_of (start j) j < k)
  told k j e =
      let x = (and_iff (goes (start j)) (ltb (turn_of (start j) j) k)).0 e in (x.0, ltb-true _ k x.1)

  tell : (k j : ℕ) → goes (start j) ≡ true → turn_of (start j) j < k → taken chart goes k j ≡ true
  tell k j e l = (and_iff (goes (start j)) (ltb (turn_of (start j) j) k)).1 (e, lt-ltb _ k l)

  -- from k to below k' no arrow has its turn that `goes` says yes of
  past :
      {k k' : ℕ} {ends : Ends} {words : List ℕ} → k ≤ k' →
      ((j : ℕ) → j < arrow_count chart → goes (start j) ≡ true → turn_of (start j) j < k' →
      turn_of (start j) j < k) →
      To k ends words → To k' ends words
  past {k} {k'} u none v =
      collected_same v (λ j l e. let x = told k j e in tell k' j x.0 (omega (arith, x.1)))
      (λ j l e. let x = told k' j e in tell k j x.0 (none j l x.0 x.1))

  -- no two arrows have the same turn, since their numbers are below 2048
  one :
      {s i : ℕ} → goes s ≡ true → i < arrow_count chart → start i ≡ s →
      OneMore (arrow_count chart) (taken chart goes (turn_of s i)) (taken chart goes (turn_of s (i + 1))) i
  one {s} {i} says l is =
      record {
        inside = l;
        old = no_test (told (turn_of s i) i, λ x. tell (turn_of s i) i x.0 x.1) (λ x. omega (arith, x.1, is));
        new = tell (turn_of s (i + 1)) i (ap goes is ∙ says) (omega (arith, is));
        up = λ j u e. let x = told (turn_of s i) j e in tell (turn_of s (i + 1)) j x.0 (omega (arith, x.1));
        down =
            λ j u e.
            let x = told (turn_of s (i + 1)) j e in
            by_cases (ℕ_discrete j i) inl (λ d. inr (tell (turn_of s i) j x.0 (omega (arith, x.1, d))));
      }

  -- From the turn of `low` to that of i, the lowest from there on, no arrow has its turn: one from s were lower than i,
  -- and those from other states have their turns before all from s or after.
  led :
      {m s low i : ℕ} {ends : Ends} {words : List ℕ} → m ≡ arrow_count chart → Lowest chart m s low i →
      To (turn_of s low) ends words → To (turn_of s i) ends words
  led {m} {s} {low} {i} is w =
      past (omega (arith, w.up))
      (λ j l e u.
      by_cases (ℕ_discrete (start j) s)
      (λ z. by_cases (dec_lt j low) (λ h. omega arith) (λ h. omega (arith, w.under j (omega arith) (omega arith) z)))
      (λ z. omega (arith, w.most)))

  -- past the numbers of all arrows it is the next state's turn
  over :
      (s : ℕ) {i : ℕ} {ends : Ends} {words : List ℕ} → i ≡ arrow_count chart → To (turn_of s i) ends words →
      Before chart goes (s + 1) ends words
  over s is = past (omega arith) (λ j l e u. omega arith)

  pub skipped :
      {s : ℕ} {ends : Ends} {words : List ℕ} → goes s ≡ false → Before chart goes s ends words →
      Before chart goes (s + 1) ends words
  skipped {s} closed =
      past (omega arith)
      (λ j l e u.
      by_cases (ℕ_discrete (start j) s) (λ z. absurd (false≢true (sym closed ∙ ap goes (sym z) ∙ e)))
      (λ z. omega arith))

  pub none_yet :
      {words : List ℕ} → length words ≡ 2048 → Before chart goes 0 (record { front = 0; back = 2048 }) words
  none_yet = collected_none (λ j. no_test (told 0 j, λ x. tell 0 j x.0 x.1) (λ x. omega (arith, x.1)))

  -- arrows are from states
  pub collected_all :
      {n : ℕ} {ends : Ends} {words : List ℕ} → ((j : ℕ) → j < arrow_count chart → (arrow_words chart j).start < n) →
      Before chart goes n ends words → Collected chart goes ends words
  collected_all {n} inside v =
      (collected_same v (λ j l e. (told (turn_of n 0) j e).0)
      (λ j l e. tell (turn_of n 0) j e (omega (arith, inside j l)))).are

module _ {chart : List ℕ} (small : arrow_count chart ≤ 2048) {m : ℕ} (is : m ≡ arrow_count chart) {s : ℕ} {before : Ends}
    {old : List ℕ} where
  pub adding_none : {i : ℕ} → Lowest chart m s 0 i → Adding chart m s i before before old old
  adding_none w =
      record { most = w.most; leaves = w.leaves; are = λ goes says v. led chart small goes is w v }

  module _ {i : ℕ} {ends : Ends} {words : List ℕ} (v : Adding chart m s i before ends old words) (l : i < m) where
    -- there is room for arrow i, by any test that says yes of s
    pub adding_gap : Ready chart s before old → ends.front < ends.back
    adding_gap r =
        let new = one chart small r.goes r.says (omega arith) (v.leaves l) in
        gap (v.are r.goes r.says r.are) new small

    pub adding_more :
        {i' : ℕ} {a : ArrowWords} {ends' : Ends} {words' : List ℕ} → ends.front < ends.back →
        a ≡ arrow_words chart i → WithArrow (arrow_of a) ends ends' words words' → Lowest chart m s (i + 1) i' →
        Adding chart m s i' before ends' old words'
    adding_more between known added w =
        record {
          most = w.most;
          leaves = w.leaves;
          are =
              λ goes says b.
              let new = one chart small goes says (omega arith) (v.leaves l) in
              led chart small goes is w (collected_more (v.are goes says b) new between known added);
        }

  pub adding_all :
      {i : ℕ} {ends : Ends} {words : List ℕ} → m ≤ i → Adding chart m s i before ends old words →
      WithState chart s before ends old words
  adding_all l v goes says b = over chart small goes s (omega (arith, v.most)) (v.are goes says b)
