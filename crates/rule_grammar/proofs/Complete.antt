-- The machine follows every text to its formula: by induction on the formula.
use mathlib.Core.Path.{◌≡◌, refl, ap, ◌∙◌}
use mathlib.Core.Bool.{Bool, true, false}
use mathlib.Core.List.{List, [], ◌∷◌, ◌++◌}
use mathlib.Core.Option.{Option, some}
use Prim.Native.Nat.{ℕ, zero, suc, ◌+◌, ◌-◌, ◌*◌, ◌/◌, ◌%◌, ◌≤◌, ◌<◌}
use native.Mathlib.Omega.{arith}
use lib.ListN.{length}
use lib.Dec.{eqb, ltb}
use borrow.Author.Tests.{lt-ltb, le-leb, ltb-true, ltb-false, ne_eqb}
use Rattle.decimal.specs.Decimal.{decimal}
use Rattle.decimal.proofs.Decimal.{decimal_last, decimal_more}
use Rattle.tctl.specs.Kind.{Runs, some_run, all_runs}
use Rattle.tctl.specs.Formula.{Formula, always, label, not, and, or, some_until, all_until}
use Rattle.rule_grammar.specs.Text.{text}
use Rattle.rule_grammar.specs.Machine.{Sign, less, more, equal, sign_byte, opening, opening_of, sign}
use Rattle.rule_grammar.specs.Machine.{Join, conj, disj, until, Opening, pair, timed}
use Rattle.rule_grammar.specs.Grammar.{BoundInRange, InRange}
use Rattle.rule_grammar.specs.Machine.{Context, negated, opened, joined, start, letter, labelled}
use Rattle.rule_grammar.specs.Machine.{ended, awaited, compared, equalled, linked, State, at, join}
use Rattle.rule_grammar.specs.Machine.{grown, grows, most_of, after, step, whole, done}
use Rattle.decimal.specs.Value.{is_digit as digit}
use Rattle.rule_grammar.specs.Machine.{Reading, ran, stepped, onward, reading}
use Rattle.rule_grammar.proofs.Signs.{bound_cases, range_iff}
use Rattle.rule_grammar.proofs.Seen.{JoinLive, join_text_lem, grows_true}

-- ── runs of the machine ──

-- the bytes s lead from one state to another, wherever they stand
pub record Leads (st : State) (s : List ℕ) (st' : State) : Type 0 where
  pub runs : (i : ℕ) → reading s i (ran st) ≡ ran st'

pub reading_append :
    (s u : List ℕ) (i : ℕ) (r : Reading) → reading (s ++ u) i r ≡ reading u (i + length s) (reading s i r)
unfolding reading
reading_append [] u i r = ap (λ (k : ℕ). reading u k r) (omega arith)
reading_append (b ∷ s) u i r =
    reading_append s u (suc i) (onward i b r) ∙
    ap (λ (k : ℕ). reading u k (reading s (suc i) (onward i b r))) (omega arith)

pub leads_both : {x y z : State} (s u : List ℕ) → Leads x s y → Leads y u z → Leads x (s ++ u) z
leads_both {x} s u h k =
    record {
      runs =
          λ i.
          reading_append s u i (ran x) ∙ ap (reading u (i + length s)) (h.runs i) ∙ k.runs (i + length s);
    }

leads_step : {x y z : State} (b : ℕ) (s : List ℕ) → step x b ≡ some y → Leads y s z → Leads x (b ∷ s) z
unfolding reading
leads_step b s e h =
    record { runs = λ i. ap (λ (o : Option State). reading s (suc i) (stepped i o)) e ∙ h.runs (suc i) }

leads_none : {x : State} → Leads x [] x
unfolding reading
leads_none = record { runs = λ i. refl }

leads_one : {x y : State} (b : ℕ) → step x b ≡ some y → Leads x (b ∷ []) y
leads_one b e = leads_step b [] e leads_none

-- ── numbers ──

-- the last digit of a number, behind the others
last_grows : (most c : ℕ) → 10 ≤ c → c ≤ most → grows most (c / 10) (48 + c % 10) ≡ true
last_grows most c h k =
    let e : c / 10 * 10 + (48 + c % 10 - 48) ≡ c = omega arith in
    rw (
      le-leb 48 (48 + c % 10) (omega arith),
      le-leb (48 + c % 10) 57 (omega arith),
      lt-ltb 0 (c / 10) (omega arith),
      le-leb (grown (c / 10) (48 + c % 10)) most (omega arith),
    )

digit_yes : (c : ℕ) → digit (48 + c % 10) ≡ true
digit_yes c = rw (le-leb 48 (48 + c % 10) (omega arith), le-leb (48 + c % 10) 57 (omega arith))

-- a number is read digit by digit: x is where no digit was read, y where those of a number were
numbers :
    (x : State) (y : ℕ → State) (most : ℕ) →
    ((b : ℕ) → digit b ≡ true → step x b ≡ some (y (b - 48))) →
    ((n b : ℕ) → grows most n b ≡ true → step (y n) b ≡ some (y (grown n b))) →
    (fuel c : ℕ) → c < fuel → c ≤ most → Leads x (decimal c) (y c)
numbers x y most first later zero c h k = absurd (let z : ⊥ = omega arith in z)
numbers x y most first later (suc fuel) c h k = turn (numbers x y most first later fuel (c / 10)) (ltb c 10) refl
  where
    turn :
        (c / 10 < fuel → c / 10 ≤ most → Leads x (decimal (c / 10)) (y (c / 10))) → (v : Bool) → ltb c 10 ≡ v →
        Leads x (decimal c) (y c)
    turn ih true e =
        let l = ltb-true c 10 e in
        let one : 48 + c % 10 - 48 ≡ c = omega arith in
        rw (decimal_last {x = c} refl l)
        (leads_one (48 + c % 10) (first (48 + c % 10) (digit_yes c) ∙ ap (λ (n : ℕ). some (y n)) one))
    turn ih false e =
        let l = ltb-false c 10 e in
        let all : c / 10 * 10 + (48 + c % 10 - 48) ≡ c = omega arith in
        rw (decimal_more {x = c} refl l)
        (leads_both (decimal (c / 10)) ((48 + c % 10) ∷ []) (ih (omega arith) (omega arith))
        (leads_one (48 + c % 10)
        (later (c / 10) (48 + c % 10) (last_grows most c l k) ∙ ap (λ (n : ℕ). some (y n)) all)))

label_number : (n : ℕ) (K : List Context) → n ≤ 15 → Leads (at letter K) (decimal n) (at (labelled n) K)
unfolding step
label_number n K h =
    numbers (at letter K) (λ m. at (labelled m) K) 15 (λ b e. rw e) (λ m b e. rw e) (suc n) n (omega arith) h

-- a digit is no space
pub digit_no_space : (n b : ℕ) (most : ℕ) → grows most n b ≡ true → eqb b 32 ≡ false
digit_no_space n b most e =
    let d = (grows_true most n b e).is_digit in
    ne_eqb b 32 (λ k. let z : ⊥ = omega (arith, d.low) in z)

bound_number :
    (q : Runs) (s : Sign) (c : ℕ) (f : Formula) (K : List Context) → c ≤ most_of s →
    Leads (at (equalled q s f) K) (decimal c) (at (linked (until q s c) f) K)
unfolding step
bound_number q s c f K h =
    numbers (at (equalled q s f) K) (λ m. at (linked (until q s m) f) K) (most_of s) (λ b e. rw e)
    (λ m b e. rw (digit_no_space m b (most_of s) e, e)) (suc c) c (omega arith) h

-- ── a formula that was read ──

-- the state stands behind f, with K around it
pub data Behind : Formula → List Context → State → Type 0 where
  number : {n : ℕ} {K : List Context} → Behind (label n) K (at (labelled n) K)
  end : {f : Formula} {K : List Context} → Behind f K (at (ended f) K)
  negation : {f : Formula} {K : List Context} {st : State} → Behind f (negated ∷ K) st → Behind (not f) K st

-- where no digit follows, reading goes on behind f
behind_step :
    {f : Formula} {K : List Context} {st : State} (b : ℕ) → digit b ≡ false → Behind f K st → step st b ≡ after f K b
unfolding step
behind_step b e number = rw e
behind_step b e end = refl
behind_step b e (negation h) = behind_step b e h

pub behind_done : {f : Formula} {K : List Context} {st : State} → Behind f K st → done st ≡ whole f K
unfolding done
behind_done number = refl
behind_done end = refl
behind_done (negation h) = behind_done h

-- the text of f leads behind f
pub record Reads (f : Formula) (s : List ℕ) : Type 0 where
  pub state : List Context → State
  pub leads : (K : List Context) → Leads (at start K) s (state K)
  pub behind : (K : List Context) → Behind f K (state K)

-- ── joined operands ──

opening_leads : (o : Opening) (K : List Context) → Leads (at start K) (opening o) (at start (opened o ∷ K))
unfolding step
opening_leads pair K = leads_one 40 refl
opening_leads (timed some_run) K = leads_step 69 (40 ∷ []) refl (leads_one 40 refl)
opening_leads (timed all_runs) K = leads_step 65 (40 ∷ []) refl (leads_one 40 refl)

-- behind "U" each sign is told by its first byte
sign_step :
    (q : Runs) (s : Sign) (f : Formula) (K : List Context) →
    step (at (awaited q f) K) (sign_byte s) ≡ some (at (compared q s f) K)
unfolding step
sign_step q less f K = refl
sign_step q more f K = refl
sign_step q equal f K = refl

-- behind the first operand, up to the second
sign_leads :
    (j : Join) (f : Formula) (K : List Context) {st : State} → JoinLive j → Behind f (opened (opening_of j) ∷ K) st →
    Leads st (sign j) (at (linked j f) K)
unfolding step
sign_leads conj f K l h = leads_step 32 (38 ∷ []) (behind_step 32 refl h) (leads_one 38 refl)
sign_leads disj f K l h = leads_step 32 (124 ∷ []) (behind_step 32 refl h) (leads_one 124 refl)
sign_leads (until q s c) f K l h =
    leads_step 32 (85 ∷ sign_byte s ∷ 61 ∷ decimal c) (behind_step 32 refl h) (
    leads_step 85 (sign_byte s ∷ 61 ∷ decimal c) refl (
    leads_step (sign_byte s) (61 ∷ decimal c) (sign_step q s f K) (
    leads_step 61 (decimal c) refl (
    bound_number q s c f K l))))

join_reads :
    (j : Join) (f g : Formula) → JoinLive j → Reads f (text f) → Reads g (text g) →
    Reads (join j f g) (text (join j f g))
unfolding step
join_reads j f g l p q =
    rw (join_text_lem j f g)
    (record {
      state = λ K. at (ended (join j f g)) K;
      leads =
          λ K.
          let o = opening_of j in
          let s = text f in
          let u = text g in
          leads_both (opening o) (s ++ (sign j ++ (32 ∷ (u ++ 41 ∷ [])))) (opening_leads o K) (
          leads_both s (sign j ++ (32 ∷ (u ++ 41 ∷ []))) (p.leads (opened o ∷ K)) (
          leads_both (sign j) (32 ∷ (u ++ 41 ∷ [])) (sign_leads j f K l (p.behind (opened o ∷ K))) (
          leads_step 32 (u ++ 41 ∷ []) refl (
          leads_both u (41 ∷ []) (q.leads (joined j f ∷ K))
          (leads_one 41 (behind_step 41 refl (q.behind (joined j f ∷ K))))))));
      behind = λ K. end;
    })

-- by induction on the formula: its parts are read one behind another, whatever is open around them
pub text_reads : (f : Formula) → InRange f → Reads f (text f)
unfolding step text
text_reads always h =
    record {
      state = λ K. at (ended always) K;
      leads =
          λ K.
          leads_step 116 (114 ∷ 117 ∷ 101 ∷ []) refl (
          leads_step 114 (117 ∷ 101 ∷ []) refl (
          leads_step 117 (101 ∷ []) refl (
          leads_one 101 refl)));
      behind = λ K. end;
    }
text_reads (label n) h =
    record {
      state = λ K. at (labelled n) K;
      leads = λ K. leads_step 76 (decimal n) refl (label_number n K h);
      behind = λ K. number;
    }
text_reads (not f) h =
    let p = text_reads f h in
    record {
      state = λ K. p.state (negated ∷ K);
      leads = λ K. leads_step 33 (text f) refl (p.leads (negated ∷ K));
      behind = λ K. negation (p.behind (negated ∷ K));
    }
text_reads (and f g) h = join_reads conj f g tt (text_reads f h.0) (text_reads g h.1)
text_reads (or f g) h = join_reads disj f g tt (text_reads f h.0) (text_reads g h.1)
text_reads (some_until b f g) h =
    let p = text_reads f h.1 in
    let q = text_reads g h.2 in
    bound_cases (λ b. BoundInRange b → Reads (some_until b f g) (text (some_until b f g)))
    (λ s c l. join_reads (until some_run s c) f g ((range_iff s c).0 l) p q) b h.0
text_reads (all_until b f g) h =
    let p = text_reads f h.1 in
    let q = text_reads g h.2 in
    bound_cases (λ b. BoundInRange b → Reads (all_until b f g) (text (all_until b f g)))
    (λ s c l. join_reads (until all_runs s c) f g ((range_iff s c).0 l) p q) b h.0
