-- Each state that is reached can be gone on from: some formula's text begins with the bytes that led to it.
use mathlib.Core.Path.{◌≡◌, refl, sym, ap, subst, ◌∙◌}
use mathlib.Core.List.{List, [], ◌∷◌, ◌++◌, append_assoc, append-nil}
use mathlib.Core.Option.{Option, none, some}
use Prim.Native.Nat.{ℕ, suc}
use native.Mathlib.Omega.{arith}
use Rattle.decimal.specs.Decimal.{decimal}
use Rattle.tctl.specs.Formula.{Formula, always, label, not}
use Rattle.rule_grammar.specs.Text.{text}
use Rattle.rule_grammar.specs.Machine.{less, opening_of, sign, join_text}
use Rattle.rule_grammar.specs.Machine.{Join, conj, until, Opening, pair, timed}
use Rattle.rule_grammar.specs.Grammar.{InRange, TextOf, Begins}
use Rattle.rule_grammar.specs.Machine.{Context, negated, opened, joined, Focus, start, t, tr, tru, letter, labelled}
use Rattle.rule_grammar.specs.Machine.{quantified, ended, spaced, awaited, compared, equalled, linked, State, at, join}
use Rattle.rule_grammar.specs.Machine.{whole, done, Reading, stuck, ran, stepped, onward, reading, initial, step}
use Rattle.rule_grammar.proofs.Seen.{beside, around, part, seen, JoinLive, StackLive, FocusLive, Live}
use Rattle.rule_grammar.proofs.Seen.{join_live, join_text_lem, Follows, Each, just, step_each}

-- ── what is open can be closed ──

-- a sign to go on with behind a first operand
abbrev closing : Opening → Join
closing pair = conj
closing (timed q) = until q less 0

closing_live : (o : Opening) → JoinLive (closing o)
closing_live pair = tt
closing_live (timed q) = omega arith

closing_opens : (o : Opening) → opening_of (closing o) ≡ o
closing_opens pair = refl
closing_opens (timed q) = refl

-- a text that is the join's, up to the brackets of ++
joins :
    (j : Join) (f g : Formula) {s : List ℕ} → JoinLive j → InRange f → InRange g → join_text j (text f) (text g) ≡ s →
    TextOf s (join j f g)
joins j f g l p q e = record { range = join_live j f g l p q; same = join_text_lem j f g ∙ e }

beside_begins : (k : Context) (p : List ℕ) → StackLive (k ∷ []) → Begins p → Begins (beside k ++ p)
unfolding text
beside_begins negated p l h =
    record {
      formula = not h.formula;
      rest = h.rest;
      text_of = record { range = h.text_of.range; same = ap (λ (s : List ℕ). 33 ∷ s) h.text_of.same };
    }
beside_begins (opened o) p l h =
    let j = closing o in
    record {
      formula = join j h.formula always;
      rest = h.rest ++ (sign j ++ (32 ∷ (text always ++ 41 ∷ [])));
      text_of =
          joins j h.formula always (closing_live o) h.text_of.range tt
          (rw (h.text_of.same, closing_opens o) (simp append_assoc));
    }
beside_begins (joined j f) p l h =
    record {
      formula = join j f h.formula;
      rest = h.rest ++ 41 ∷ [];
      text_of =
          joins j f h.formula l.0.0 l.0.1 h.text_of.range (rw h.text_of.same (simp append_assoc));
    }

-- by induction on what is open: each can be closed around a text, the innermost first
around_begins : (K : List Context) (p : List ℕ) → StackLive K → Begins p → Begins (around K ++ p)
around_begins [] p l h = h
around_begins (k ∷ K) p l h =
    rw append_assoc (around_begins K (beside k ++ p) l.1 (beside_begins k p (l.0, tt) h))

-- ── what was begun can be ended ──

-- the text of f begins with p
from : (f : Formula) (p rest : List ℕ) → InRange f → text f ≡ p ++ rest → Begins p
from f p rest h e = record { formula = f; rest = rest; text_of = record { range = h; same = e } }

-- so does that of a join whose first operand is f
from_join :
    (j : Join) (f : Formula) (p rest : List ℕ) → JoinLive j → InRange f →
    join_text j (text f) (text always) ≡ p ++ rest → Begins p
from_join j f p rest l h e = from (join j f always) p rest (join_live j f always l h tt) (join_text_lem j f always ∙ e)

abbrev lastly : List ℕ
lastly = 32 ∷ 116 ∷ 114 ∷ 117 ∷ 101 ∷ 41 ∷ []

-- what was read of a formula begins the text of one that goes on with the least there is: `true`, a label, c = 0
part_begins : (x : Focus) → FocusLive x → Begins (part x)
unfolding text
part_begins start h = from always [] (text always) tt refl
part_begins t h = from always (part t) (114 ∷ 117 ∷ 101 ∷ []) tt refl
part_begins tr h = from always (part tr) (117 ∷ 101 ∷ []) tt refl
part_begins tru h = from always (part tru) (101 ∷ []) tt refl
part_begins letter h = from (label 0) (part letter) (decimal 0) (omega arith) refl
part_begins (labelled n) h = from (label n) (part (labelled n)) [] h (simp append-nil)
part_begins (quantified q) h =
    from_join (until q less 0) always (part (quantified q))
    (40 ∷ (text always ++ (sign (until q less 0) ++ lastly))) (omega arith) tt refl
part_begins (ended f) h = from f (text f) [] h (simp append-nil)
part_begins (spaced pair f) h =
    from_join conj f (part (spaced pair f)) (38 ∷ lastly) tt h (simp append_assoc)
part_begins (spaced (timed q) f) h =
    from_join (until q less 0) f (part (spaced (timed q) f)) (85 ∷ 60 ∷ 61 ∷ (decimal 0 ++ lastly)) (omega arith) h
    (simp append_assoc)
part_begins (awaited q f) h =
    from_join (until q less 0) f (part (awaited q f)) (60 ∷ 61 ∷ (decimal 0 ++ lastly)) (omega arith) h
    (simp append_assoc)
part_begins (compared q s f) h =
    from_join (until q s 0) f (part (compared q s f)) (61 ∷ (decimal 0 ++ lastly)) (omega arith) h
    (simp append_assoc)
part_begins (equalled q s f) h =
    from_join (until q s 0) f (part (equalled q s f)) (decimal 0 ++ lastly) (omega arith) h (simp append_assoc)
part_begins (linked j f) h = from_join j f (part (linked j f)) lastly h.0 h.1 (simp append_assoc)

pub seen_begins : (st : State) → Live st → Begins (seen st)
seen_begins (at x K) h = around_begins K (part x) h.1 (part_begins x h.0)

-- ── all of a formula was read ──

whole_text :
    (f g : Formula) (K : List Context) → InRange f → StackLive K → whole f K ≡ some g → TextOf (around K ++ text f) g
unfolding text
whole_text f g [] h l e =
    let z : f ≡ g = cc in record { range = subst InRange z h; same = ap text (sym z) }
whole_text f g (negated ∷ K) h l e = rw append_assoc (whole_text (not f) g K h l.1 e)
whole_text f g (opened o ∷ K) h l e = absurd (let z : ◌≡◌ {A = ℕ} 0 1 = cc in let y : ⊥ = omega arith in y)
whole_text f g (joined j i ∷ K) h l e = absurd (let z : ◌≡◌ {A = ℕ} 0 1 = cc in let y : ⊥ = omega arith in y)

never : {A : Type 0} {g : Formula} → ◌≡◌ {A = Option Formula} none (some g) → A
never e = absurd (let z : ◌≡◌ {A = ℕ} 0 1 = cc in let y : ⊥ = omega arith in y)

pub done_text : (st : State) (g : Formula) → Live st → done st ≡ some g → TextOf (seen st) g
unfolding done text
done_text (at start K) g h e = never e
done_text (at t K) g h e = never e
done_text (at tr K) g h e = never e
done_text (at tru K) g h e = never e
done_text (at letter K) g h e = never e
done_text (at (labelled n) K) g h e = whole_text (label n) g K h.0 h.1 e
done_text (at (quantified q) K) g h e = never e
done_text (at (ended f) K) g h e = whole_text f g K h.0 h.1 e
done_text (at (spaced o f) K) g h e = never e
done_text (at (awaited q f) K) g h e = never e
done_text (at (compared q s f) K) g h e = never e
done_text (at (equalled q s f) K) g h e = never e
done_text (at (linked j f) K) g h e = never e

-- ── all that was read is seen ──

pub record Reached (p : List ℕ) (st : State) : Type 0 where
  pub live : Live st
  pub same : seen st ≡ p

-- what reading came to, from a state that was reached by p
pub data Comes (p : List ℕ) : Reading → Type 0 where
  halted : {i : ℕ} → Comes p (stuck i)
  reached : {st : State} → Reached p st → Comes p (ran st)

onward_comes : (p : List ℕ) (b i : ℕ) {r : Reading} → Comes p r → Comes (p ++ b ∷ []) (onward i b r)
onward_comes p b i halted = halted
onward_comes p b i (reached {st} h) = turn (step st b) (step_each st b h.live)
  where
    turn : (x : Option State) → Each (Follows st b) x → Comes (p ++ b ∷ []) (stepped i x)
    turn none e = halted
    turn (some y) (just f) =
        reached (record { live = f.live; same = f.adds ∙ ap (λ (s : List ℕ). s ++ b ∷ []) h.same })

reading_comes : (s p : List ℕ) (i : ℕ) {r : Reading} → Comes p r → Comes (p ++ s) (reading s i r)
unfolding reading
reading_comes [] p i h = rw append-nil h
reading_comes (b ∷ s) p i {r} h =
    subst (λ (q : List ℕ). Comes q (reading s (suc i) (onward i b r))) (append_assoc p (b ∷ []) s)
    (reading_comes s (p ++ b ∷ []) (suc i) (onward_comes p b i h))

-- from the start on
pub reading_reached : (s : List ℕ) (st : State) → reading s 0 (ran initial) ≡ ran st → Reached s st
reading_reached s st e =
    turn _ (reading_comes s [] 0 (reached (record { live = (tt, tt); same = refl }))) e
  where
    turn : (r : Reading) → Comes s r → r ≡ ran st → Reached s st
    turn (stuck i) h e = absurd (let z : ◌≡◌ {A = ℕ} 0 1 = cc in let y : ⊥ = omega arith in y)
    turn (ran x) (reached h) e = subst (λ (y : State). Reached s y) (cc) h
