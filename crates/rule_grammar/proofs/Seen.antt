-- What a state remembers: all bytes that led to it. Each step adds its byte.
use mathlib.Core.Path.{◌≡◌, refl, sym, ap, subst, ◌∙◌}
use mathlib.Core.Bool.{Bool, true, cond, ◌&&◌}
use mathlib.Core.List.{List, [], ◌∷◌, ◌++◌, append_assoc, append-nil}
use mathlib.Core.Option.{Option, none, some}
use Prim.Native.Nat.{ℕ, ◌+◌, ◌-◌, ◌*◌, ◌/◌, ◌≤◌, ◌<◌}
use native.Mathlib.Omega.{arith}
use lib.Dec.{eqb, leb, ltb}
use borrow.Author.Tests.{eqb-true, leb-true, ltb-true}
use Rattle.base.proofs.Truth.{and_iff, cond_elim}
use Rattle.decimal.specs.Decimal.{decimal}
use Rattle.decimal.proofs.DigitRange.{Digit, digit_true}
use Rattle.decimal.proofs.Decimal.{decimal_last, decimal_more}
use Rattle.tctl.specs.Kind.{some_run, all_runs}
use Rattle.tctl.specs.Formula.{Formula, label, not}
use Rattle.rule_grammar.specs.Text.{operands, text}
use Rattle.rule_grammar.specs.Machine.{sign_byte, letter_of, opening, opening_of, sign, join_text}
use Rattle.rule_grammar.specs.Machine.{Join, conj, disj, until, pair, timed}
use Rattle.rule_grammar.specs.Grammar.{InRange}
use Rattle.rule_grammar.specs.Machine.{Context, negated, opened, joined, Focus, start, t, tr, tru, letter, labelled}
use Rattle.rule_grammar.specs.Machine.{quantified, ended, spaced, awaited, compared, equalled, linked, State, at, join}
use Rattle.rule_grammar.specs.Machine.{on, grown, grows, most_of, after, further, step}
use Rattle.decimal.specs.Value.{is_digit as digit}
use Rattle.rule_grammar.proofs.Signs.{range_iff, most_range, until_sign_lem}

-- what stands before an operand
abbrev pub beside : Context → List ℕ
beside negated = 33 ∷ []
beside (opened o) = opening o
beside (joined j f) = opening (opening_of j) ++ (text f ++ (sign j ++ 32 ∷ []))

-- what stands before the innermost formula, the outermost first
abbrev pub around : List Context → List ℕ
around [] = []
around (k ∷ K) = around K ++ beside k

-- what was read of the innermost formula
abbrev pub part : Focus → List ℕ
part start = []
part t = 116 ∷ []
part tr = 116 ∷ 114 ∷ []
part tru = 116 ∷ 114 ∷ 117 ∷ []
part letter = 76 ∷ []
part (labelled n) = 76 ∷ decimal n
part (quantified q) = letter_of q ∷ []
part (ended f) = text f
part (spaced o f) = opening o ++ (text f ++ 32 ∷ [])
part (awaited q f) = opening (timed q) ++ (text f ++ 32 ∷ 85 ∷ [])
part (compared q s f) = opening (timed q) ++ (text f ++ 32 ∷ 85 ∷ sign_byte s ∷ [])
part (equalled q s f) = opening (timed q) ++ (text f ++ 32 ∷ 85 ∷ sign_byte s ∷ 61 ∷ [])
part (linked j f) = opening (opening_of j) ++ (text f ++ sign j)

abbrev pub seen : State → List ℕ
seen (at x K) = around K ++ part x

-- ── all that it holds is in range ──

abbrev pub JoinLive : Join → Type 0
JoinLive conj = Unit {0}
JoinLive disj = Unit {0}
JoinLive (until q s c) = c ≤ most_of s

abbrev pub ContextLive : Context → Type 0
ContextLive negated = Unit {0}
ContextLive (opened o) = Unit {0}
ContextLive (joined j f) = JoinLive j × InRange f

abbrev pub StackLive : List Context → Type 0
StackLive [] = Unit {0}
StackLive (k ∷ K) = ContextLive k × StackLive K

abbrev pub FocusLive : Focus → Type 0
FocusLive start = Unit {0}
FocusLive t = Unit {0}
FocusLive tr = Unit {0}
FocusLive tru = Unit {0}
FocusLive letter = Unit {0}
FocusLive (labelled n) = n ≤ 15
FocusLive (quantified q) = Unit {0}
FocusLive (ended f) = InRange f
FocusLive (spaced o f) = InRange f
FocusLive (awaited q f) = InRange f
FocusLive (compared q s f) = InRange f
FocusLive (equalled q s f) = InRange f
FocusLive (linked j f) = JoinLive j × InRange f

abbrev pub Live : State → Type 0
Live (at x K) = FocusLive x × StackLive K

-- ── joined operands ──

pub join_live : (j : Join) (f g : Formula) → JoinLive j → InRange f → InRange g → InRange (join j f g)
join_live conj f g h p q = (p, q)
join_live disj f g h p q = (p, q)
join_live (until some_run s c) f g h p q = ((range_iff s c).1 h, p, q)
join_live (until all_runs s c) f g h p q = ((range_iff s c).1 h, p, q)

pub join_range : (j : Join) (f g : Formula) → InRange (join j f g) → JoinLive j × InRange f × InRange g
join_range conj f g h = (tt, h.0, h.1)
join_range disj f g h = (tt, h.0, h.1)
join_range (until some_run s c) f g h = ((range_iff s c).0 h.0, h.1, h.2)
join_range (until all_runs s c) f g h = ((range_iff s c).0 h.0, h.1, h.2)

pub join_text_lem : (j : Join) (f g : Formula) → text (join j f g) ≡ join_text j (text f) (text g)
unfolding text
join_text_lem conj f g = refl
join_text_lem disj f g = refl
join_text_lem (until some_run s c) f g = ap (λ u. operands (69 ∷ 40 ∷ []) u (text f) (text g)) (until_sign_lem s c)
join_text_lem (until all_runs s c) f g = ap (λ u. operands (65 ∷ 40 ∷ []) u (text f) (text g)) (until_sign_lem s c)

-- ── digits ──

pub record Grows (most n b : ℕ) : Type 0 where
  pub is_digit : Digit b
  pub some_value : 0 < n
  pub few : grown n b ≤ most

pub grows_true : (most n b : ℕ) → grows most n b ≡ true → Grows most n b
grows_true most n b e =
    let h = (and_iff (digit b) (ltb 0 n && leb (grown n b) most)).0 e in
    let i = (and_iff (ltb 0 n) (leb (grown n b) most)).0 h.1 in
    record { is_digit = digit_true b h.0; some_value = ltb-true 0 n i.0; few = leb-true _ _ i.1 }

pub one_digit : (b : ℕ) → Digit b → decimal (b - 48) ≡ b ∷ []
one_digit b h =
    decimal_last {x = b - 48} {d = b} (omega (arith, h.low, h.high)) (omega (arith, h.low, h.high))

pub digit_more : (most n b : ℕ) → Grows most n b → decimal (grown n b) ≡ decimal n ++ b ∷ []
digit_more most n b h =
    decimal_more {x = grown n b} {d = b}
    (omega (arith, h.is_digit.low, h.is_digit.high)) (omega (arith, h.some_value)) ∙
    ap (λ (m : ℕ). decimal m ++ b ∷ [])
    (let e : (n * 10 + (b - 48)) / 10 ≡ n = omega (arith, h.is_digit.low, h.is_digit.high) in e)

-- ── a step adds its byte ──

-- st goes on to st' at the byte b
pub record Follows (st : State) (b : ℕ) (st' : State) : Type 0 where
  pub live : Live st'
  pub adds : seen st' ≡ seen st ++ b ∷ []

-- what holds of a state, if there is one
pub data Each (P : State → Type 0) : Option State → Type 0 where
  nothing : Each P none
  just : {st : State} → P st → Each P (some st)

-- the byte e goes on to x
on_each :
    {st : State} (b e : ℕ) {x : State} {y : Option State} → Follows st e x → Each (Follows st b) y →
    Each (Follows st b) (on b e x y)
on_each {st} b e {x} {y} h i =
    cond_elim (Each (Follows st b)) (eqb b e) {x = some x} {y = y}
    (λ p. just (subst (λ (v : ℕ). Follows st v x) (sym (eqb-true b e p)) h)) (λ _. i)

-- a test that is passed goes on to x
test_each :
    {st : State} {b : ℕ} (c : Bool) (x : State) {y : Option State} → (c ≡ true → Follows st b x) →
    Each (Follows st b) y → Each (Follows st b) (cond c (some x) y)
test_each {st} {b} c x {y} h i = cond_elim (Each (Follows st b)) c {x = some x} {y = y} (λ e. just (h e)) (λ _. i)

-- the same bytes are seen with what is negated as a part of it
same_seen :
    {st st' : State} {b : ℕ} {x : Option State} → seen st ≡ seen st' → Each (Follows st b) x → Each (Follows st' b) x
same_seen e nothing = nothing
same_seen {b = b} e (just h) = just (record { live = h.live; adds = h.adds ∙ ap (λ (l : List ℕ). l ++ b ∷ []) e })

after_each :
    (f : Formula) (K : List Context) (b : ℕ) → InRange f → StackLive K →
    Each (Follows (at (ended f) K) b) (after f K b)
unfolding text
after_each f [] b h l = nothing
after_each f (negated ∷ K) b h l =
    same_seen {st = at (ended (not f)) K} {st' = at (ended f) (negated ∷ K)} (simp append_assoc)
    (after_each (not f) K b h l.1)
after_each f (opened o ∷ K) b h l =
    on_each b 32 (record { live = (h, l.1); adds = simp append_assoc }) nothing
after_each f (joined j g ∷ K) b h l =
    on_each b 41
    (record {
      live = (join_live j g f l.0.0 l.0.1 h, l.1);
      adds = rw (join_text_lem j g f) (simp append_assoc);
    }) nothing

further_each :
    (j : Join) (f : Formula) (K : List Context) (b : ℕ) → InRange f → StackLive K →
    Each (Follows (at (linked j f) K) b) (further j f K b)
further_each conj f K b h l = nothing
further_each disj f K b h l = nothing
further_each (until q s c) f K b h l =
    test_each (grows (most_of s) c b) (at (linked (until q s (grown c b)) f) K)
    (λ e.
    let g = grows_true (most_of s) c b e in
    record { live = ((g.few, h), l); adds = rw (digit_more (most_of s) c b g) (simp append_assoc) })
    nothing

pub step_each : (st : State) (b : ℕ) → Live st → Each (Follows st b) (step st b)
unfolding step text
step_each (at start K) b h =
    on_each b 116 (record { live = (tt, h.1); adds = simp append-nil }) (
    on_each b 76 (record { live = (tt, h.1); adds = simp append-nil }) (
    on_each b 33 (record { live = (tt, (tt, h.1)); adds = simp append-nil }) (
    on_each b 40 (record { live = (tt, (tt, h.1)); adds = simp append-nil }) (
    on_each b 69 (record { live = (tt, h.1); adds = simp append-nil }) (
    on_each b 65 (record { live = (tt, h.1); adds = simp append-nil })
    nothing)))))
step_each (at t K) b h = on_each b 114 (record { live = (tt, h.1); adds = simp append_assoc }) nothing
step_each (at tr K) b h = on_each b 117 (record { live = (tt, h.1); adds = simp append_assoc }) nothing
step_each (at tru K) b h = on_each b 101 (record { live = (tt, h.1); adds = simp append_assoc }) nothing
step_each (at letter K) b h =
    test_each (digit b) (at (labelled (b - 48)) K)
    (λ e.
    let d = digit_true b e in
    record { live = (omega (arith, d.low, d.high), h.1); adds = rw (one_digit b d) (simp append_assoc) })
    nothing
step_each (at (labelled n) K) b h =
    test_each (grows 15 n b) (at (labelled (grown n b)) K)
    (λ e.
    let g = grows_true 15 n b e in
    record { live = (g.few, h.1); adds = rw (digit_more 15 n b g) (simp append_assoc) })
    (same_seen {st = at (ended (label n)) K} {st' = at (labelled n) K} refl
    (after_each (label n) K b h.0 h.1))
step_each (at (quantified q) K) b h =
    on_each b 40 (record { live = (tt, (tt, h.1)); adds = simp (append_assoc, append-nil) }) nothing
step_each (at (ended f) K) b h = after_each f K b h.0 h.1
step_each (at (spaced pair f) K) b h =
    on_each b 38 (record { live = ((tt, h.0), h.1); adds = simp append_assoc }) (
    on_each b 124 (record { live = ((tt, h.0), h.1); adds = simp append_assoc })
    nothing)
step_each (at (spaced (timed q) f) K) b h = on_each b 85 (record { live = h; adds = simp append_assoc }) nothing
step_each (at (awaited q f) K) b h =
    on_each b 60 (record { live = h; adds = simp append_assoc }) (
    on_each b 62 (record { live = h; adds = simp append_assoc }) (
    on_each b 61 (record { live = h; adds = simp append_assoc })
    nothing))
step_each (at (compared q s f) K) b h = on_each b 61 (record { live = h; adds = simp append_assoc }) nothing
step_each (at (equalled q s f) K) b h =
    test_each (digit b) (at (linked (until q s (b - 48)) f) K)
    (λ e.
    let d = digit_true b e in
    let few : b - 48 ≤ most_of s = omega (arith, d.low, d.high, (most_range s).0) in
    record { live = ((few, h.0), h.1); adds = rw (one_digit b d) (simp append_assoc) })
    nothing
step_each (at (linked j f) K) b h =
    on_each b 32 (record { live = (tt, (h.0, h.1)); adds = simp (append_assoc, append-nil) })
    (further_each j f K b h.0.1 h.1)
