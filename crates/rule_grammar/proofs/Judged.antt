-- The machine's answer: it takes exactly the grammar's texts, each with its one formula, and finds the place of a fault.
use mathlib.Core.Path.{◌≡◌, refl, sym, ap, subst, ◌∙◌}
use mathlib.Core.Logic.{◌↔◌}
use mathlib.Core.List.{List, [], ◌∷◌, ◌++◌, append_assoc}
use mathlib.Core.Option.{Option, none, some}
use Prim.Native.Nat.{ℕ, zero, suc, ◌+◌, ◌≤◌, ◌<◌}
use native.Mathlib.Omega.{arith}
use native.Mathlib.Decide.{dec_lt}
use lib.ListN.{length, take}
use lib.Seq.{take-length}
use Rattle.tctl.specs.Formula.{Formula}
use Rattle.rule_grammar.specs.Text.{text}
use Rattle.rule_grammar.specs.Grammar.{InRange, TextOf, OfGrammar, Begins, Place, Fault}
use Rattle.rule_grammar.specs.Grammar.{Verdict, fault, formula, Judged, faulty, whole}
use Rattle.rule_grammar.specs.Machine.{State, step, done, Reading, stuck, ran, stepped, reading, initial}
use Rattle.rule_grammar.specs.Machine.{ending, verdict, judge}
use Rattle.rule_grammar.proofs.Sound.{seen_begins, done_text, reading_reached}
use Rattle.rule_grammar.proofs.Complete.{reading_append, text_reads, behind_done}

-- ── texts of the grammar ──

pub text_judged : {t : List ℕ} {f : Formula} → TextOf t f → judge t ≡ formula f
unfolding judge
text_judged {f = f} h =
    let r = text_reads f h.range in
    rw (← h.same, (r.leads []).runs 0, behind_done (r.behind [])) refl

pub judged_text : {t : List ℕ} {f : Formula} → judge t ≡ formula f → TextOf t f
unfolding judge
judged_text {t} {f} e = turn (reading t 0 (ran initial)) refl e
  where
    turn : (r : Reading) → reading t 0 (ran initial) ≡ r → verdict (length t) r ≡ formula f → TextOf t f
    turn (stuck p) k e = absurd (let z : ◌≡◌ {A = ℕ} 0 1 = cc in let y : ⊥ = omega arith in y)
    turn (ran st) k e = read (done st) refl e
      where
        read : (o : Option Formula) → done st ≡ o → ending (length t) o ≡ formula f → TextOf t f
        read none d e = absurd (let z : ◌≡◌ {A = ℕ} 0 1 = cc in let y : ⊥ = omega arith in y)
        read (some g) d e =
            let h = reading_reached t st k in
            let same : g ≡ f = cc in
            subst (λ (s : List ℕ). TextOf s f) h.same
            (subst (TextOf _) same (done_text st g h.live d))

-- two formulas in range with one text are one: the machine reads the text of each and comes to it
pub text_unique : (f g : Formula) → InRange f → InRange g → text f ≡ text g → f ≡ g
text_unique f g h k e =
    let p = text_judged {t = text g} {f = f} (record { range = h; same = e }) in
    let q = text_judged {t = text g} {f = g} (record { range = k; same = refl }) in
    cc

-- ── beginnings ──

pub stuck_stays : (s : List ℕ) (i p : ℕ) → reading s i (stuck p) ≡ stuck p
unfolding reading
stuck_stays [] i p = refl
stuck_stays (b ∷ s) i p = stuck_stays s (suc i) p

-- a state is reached just by what begins a formula
pub reached_begins : (p : List ℕ) (st : State) → reading p 0 (ran initial) ≡ ran st → Begins p
reached_begins p st e =
    let h = reading_reached p st e in subst Begins h.same (seen_begins st h.live)

-- a prefix that no step was left for begins nothing: the whole text would be stuck there too, and a formula's text is read
-- to its end
pub begins_reached : (p : List ℕ) → Begins p → (st : State) × (reading p 0 (ran initial) ≡ ran st)
begins_reached p h = turn (reading p 0 (ran initial)) refl
  where
    turn :
        (x : Reading) → reading p 0 (ran initial) ≡ x → (st : State) × (reading p 0 (ran initial) ≡ ran st)
    turn (ran st) e = (st, e)
    turn (stuck i) e =
        let f = text_reads h.formula h.text_of.range in
        let a = ap (λ (s : List ℕ). reading s 0 (ran initial)) h.text_of.same in
        let b = reading_append p h.rest 0 (ran initial) in
        let c = ap (reading h.rest (0 + length p)) e in
        let d = stuck_stays h.rest (0 + length p) i in
        let g = (f.leads []).runs 0 in
        absurd (let z : ◌≡◌ {A = ℕ} 0 1 = cc in let y : ⊥ = omega arith in y)

pub live_iff : (p : List ℕ) → ((st : State) × (reading p 0 (ran initial) ≡ ran st)) ↔ Begins p
live_iff p = (λ x. reached_begins p x.0 x.1, begins_reached p)

-- what begins a formula with more behind it begins one
begins_less : (p q : List ℕ) → Begins (p ++ q) → Begins p
begins_less p q h =
    record {
      formula = h.formula;
      rest = q ++ h.rest;
      text_of = record { range = h.text_of.range; same = h.text_of.same ∙ append_assoc p q h.rest };
    }

-- ── the place of a fault ──

-- where no step was left: k bytes on
record Stuck (s : List ℕ) (i p : ℕ) (st : State) : Type 0 where
  count : ℕ
  place : p ≡ i + count
  inside : count < length s
  state : State
  before : reading (take count s) i (ran st) ≡ ran state
  there : reading (take (suc count) s) i (ran st) ≡ stuck p

-- by induction on the bytes: the first step that is not there is this byte's, or one further on
where_stuck : (s : List ℕ) (i p : ℕ) (st : State) → reading s i (ran st) ≡ stuck p → Stuck s i p st
unfolding reading
where_stuck [] i p st e = absurd (let z : ◌≡◌ {A = ℕ} 0 1 = cc in let y : ⊥ = omega arith in y)
where_stuck (b ∷ s) i p st e = turn (where_stuck s (suc i) p) (step st b) refl e
  where
    turn :
        ((x : State) → reading s (suc i) (ran x) ≡ stuck p → Stuck s (suc i) p x) →
        (o : Option State) → step st b ≡ o → reading s (suc i) (stepped i o) ≡ stuck p → Stuck (b ∷ s) i p st
    turn ih none k e =
        let stays = stuck_stays s (suc i) i in
        let same : i ≡ p = cc in
        record {
          count = 0;
          place = omega arith;
          inside = omega arith;
          state = st;
          before = refl;
          there = ap (stepped i) k ∙ ap stuck same;
        }
    turn ih (some x) k e =
        let h = ih x e in
        record {
          count = suc h.count;
          place = omega (arith, h.place);
          inside = omega (arith, h.inside);
          state = h.state;
          before = ap (λ (o : Option State). reading (take h.count s) (suc i) (stepped i o)) k ∙ h.before;
          there = ap (λ (o : Option State). reading (take (suc h.count) s) (suc i) (stepped i o)) k ∙ h.there;
        }

no_formula : {t : List ℕ} {p : ℕ} → judge t ≡ fault p → ¬ OfGrammar t
no_formula e h =
    let k = text_judged h.text_of in let z : ◌≡◌ {A = ℕ} 0 1 = cc in let y : ⊥ = omega arith in y

-- a shorter beginning of a list begins a longer one
take_split : (m n : ℕ) (t : List ℕ) → m ≤ n → (u : List ℕ) × (take n t ≡ take m t ++ u)
take_split zero n t h = (take n t, refl)
take_split (suc m) zero t h = absurd (let z : ⊥ = omega arith in z)
take_split (suc m) (suc n) [] h = ([], refl)
take_split (suc m) (suc n) (x ∷ t) h =
    let r = take_split m n t (omega arith) in (r.0, ap (λ (s : List ℕ). x ∷ s) r.1)

-- where the byte behind a prefix is the first that nothing goes on from, the prefix is the longest one
longest_before :
    (t : List ℕ) (p : ℕ) → (p < length t → ¬ Begins (take (suc p) t)) → (q : ℕ) → q ≤ length t → Begins (take q t) → q ≤ p
longest_before t p there q h b = turn (dec_lt p q)
  where
    turn : Dec (p < q) → q ≤ p
    turn (no l) = omega arith
    turn (yes l) =
        let r = take_split (suc p) q t l in
        absurd (there (omega arith) (begins_less (take (suc p) t) r.0 (subst Begins r.1 b)))

-- Stuck at a byte: what was read begins a text, since the machine reached a state by it, and with that byte it reaches
-- none. Not stuck: all was read, so the whole begins one, and it is no formula's since the machine would have come to it.
pub judged_fault : {t : List ℕ} {p : ℕ} → judge t ≡ fault p → Fault t p
unfolding judge
judged_fault {t} {p} e = turn (reading t 0 (ran initial)) refl e
  where
    turn : (r : Reading) → reading t 0 (ran initial) ≡ r → verdict (length t) r ≡ fault p → Fault t p
    turn (stuck q) k e =
        let same : q ≡ p = cc in
        let w = where_stuck t 0 p initial (k ∙ ap stuck same) in
        let counted : w.count ≡ p = omega (arith, w.place) in
        record {
          not_of = no_formula (ap (verdict (length t)) k ∙ e);
          place =
              record {
                inside = omega (arith, counted, w.inside);
                begins =
                    subst (λ (n : ℕ). Begins (take n t)) counted
                    (reached_begins (take w.count t) w.state w.before);
                longest =
                    longest_before t p λ l b.
                    let r = begins_reached (take (suc p) t) b in
                    let s = ap (λ (n : ℕ). reading (take (suc n) t) 0 (ran initial)) counted in
                    let u = r.1 in
                    let v = w.there in
                    let z : ◌≡◌ {A = ℕ} 0 1 = cc in
                    let y : ⊥ = omega arith in y;
              };
        }
    turn (ran st) k e = ended (done st) refl e
      where
        ended : (o : Option Formula) → done st ≡ o → ending (length t) o ≡ fault p → Fault t p
        ended none d e =
            let size : length t ≡ p = cc in
            record {
              not_of = no_formula (ap (verdict (length t)) k ∙ ap (ending (length t)) d ∙ e);
              place =
                  record {
                    inside = omega (arith, size);
                    begins = subst (λ (n : ℕ). Begins (take n t)) size (rw (take-length t) (reached_begins t st k));
                    longest = λ q h b. omega (arith, size);
                  };
            }
        ended (some g) d e = absurd (let z : ◌≡◌ {A = ℕ} 0 1 = cc in let y : ⊥ = omega arith in y)

-- there is one such place
pub place_unique : {t : List ℕ} {p q : ℕ} → Place t p → Place t q → p ≡ q
place_unique {t} {p} {q} h k =
    omega (arith, h.longest q k.inside k.begins, k.longest p h.inside h.begins)

-- the machine's answer is true of the text
pub judged : (t : List ℕ) → Judged t (judge t)
judged t = turn (judge t) refl
  where
    turn : (v : Verdict) → judge t ≡ v → Judged t v
    turn (fault p) e = faulty (judged_fault e)
    turn (formula f) e = whole (judged_text e)

-- and there is no other: "exactly this grammar's texts are taken, each with one tree"
pub judged_unique : {t : List ℕ} {v w : Verdict} → Judged t v → Judged t w → v ≡ w
judged_unique (faulty h) (faulty k) = ap fault (place_unique h.place k.place)
judged_unique (faulty h) (whole k) = absurd (h.not_of (record { formula = _; text_of = k }))
judged_unique (whole h) (faulty k) = absurd (k.not_of (record { formula = _; text_of = h }))
judged_unique (whole h) (whole k) = ap formula (text_unique _ _ h.range k.range (h.same ∙ sym k.same))
