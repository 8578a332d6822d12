-- What is searched at a node is what its formula asks, and from right marks the same run is found.
use mathlib.Core.Path.{◌≡◌, refl, sym, ap, subst, ◌∙◌}
use mathlib.Core.Logic.{◌⊎◌, inl, inr}
use mathlib.Core.Bool.{Bool, true, false, cond}
use mathlib.Core.List.{List, []}
use mathlib.Core.Option.{Option, none, some}
use Prim.Native.Nat.{ℕ, zero, suc, ◌*◌, ◌≤◌, ◌<◌}
use native.Mathlib.Omega.{arith}
use lib.ListN.{drop}
use lib.Seq.{get_or-take, get_or-drop}
use lib.Dec.{eqb, ltb}
use Rattle.tctl.specs.Chart.{Chart, Arrow}
use Rattle.tctl.specs.Formula.{Formula}
use Rattle.model.specs.Decide.{holds}
use Rattle.model.specs.Marks.{flag, mark}
use Rattle.base.proofs.Same.{Same}
use Rattle.tctl.proofs.Drawn.{Joins}
use Rattle.rule.specs.declared.NodeWords.{NodeWords}
use Rattle.rule.specs.Refusals.{is_exact}
use Rattle.rule.specs.Formula.{operation, formula_at}
use Rattle.rule.proofs.Read.{ReadNode, step, until_bound}
use Rattle.shown.specs.Search.{Search, by_steps, by_minutes, fewest_steps}
use Rattle.shown.specs.Showable.{search_of}
use Rattle.shown.proofs.Same.{Alike, steps, minutes, fewest_same, walk_same}
use Rattle.step_numbers.specs.declared.Target.{Target}
use Rattle.step_numbers.specs.Target.{go_of, base_of, quest_for}
use Rattle.show_run.specs.Run.{target_of, row_of, search_by, search_in, fitting, run_in}

-- ── By the formula ──

-- one of three kinds
three : (P : ℕ → Type 0) (k : ℕ) → 1 ≤ k → k ≤ 3 → P 1 → P 2 → P 3 → P k
three P zero l h a b c = absurd (let z : ⊥ = omega arith in z)
three P (suc zero) l h a b c = a
three P (suc (suc zero)) l h a b c = b
three P (suc (suc (suc zero))) l h a b c = c
three P (suc (suc (suc (suc k)))) l h a b c = absurd (let z : ⊥ = omega arith in z)

module _ (G : Chart) {rule : List ℕ} {t : ℕ} {w : NodeWords} (node : ReadNode rule t w) where
  abbrev at : ℕ → Formula
  at = formula_at rule

  -- the node, if its operation and its kind were these
  abbrev words : ℕ → ℕ → NodeWords
  words op kind = record { operation = op; kind = kind; a = w.a; b = w.b; c = w.c }

  -- what its formula asks is what is searched, with the answers of the operands in place of their marks
  abbrev Asked : ℕ → ℕ → Type 0
  Asked op kind =
      search_of G (operation op (words op kind) at) ≡ search_by (words op kind) (holds G (at w.a)) (holds G (at w.b))

  -- an E-until of each kind, and an A-until at most c
  by_words : (w.operation ≡ 5) ⊎ ((w.operation ≡ 6) × (w.kind ≡ 1)) → Asked w.operation w.kind
  by_words (inl e) =
      let k = until_bound node (omega arith) in
      subst (λ op. Asked op w.kind) (sym e) (three (Asked 5) w.kind k.0 k.1 refl refl refl)
  by_words (inr (e, k)) = subst (λ op. Asked op w.kind) (sym e) (subst (Asked 6) (sym k) refl)

  pub search_node :
      (w.operation ≡ 5) ⊎ ((w.operation ≡ 6) × (w.kind ≡ 1)) →
      search_of G (formula_at rule t) ≡ search_by w (holds G (formula_at rule w.a)) (holds G (formula_at rule w.b))
  search_node h = ap (search_of G) (step node) ∙ by_words h

-- ── By the marks ──

-- alike searches find the same run
run_alike :
    {n : ℕ} {arrows : List Arrow} → Joins n arrows → {s : ℕ} → s < n → (room : ℕ) {z z' : Search} → Alike n z z' →
    run_in arrows z s room ≡ run_in arrows z' s room
run_alike {arrows = arrows} joins {s} l room {z} {z'} h =
    ap (fitting arrows z s room) (fewest_same joins l h) ∙ turn (fewest_steps arrows z' s)
  where
    turn : (o : Option ℕ) → fitting arrows z s room o ≡ fitting arrows z' s room o
    turn none = refl
    turn (some k) = ap (cond (ltb room (6 * suc k)) []) (walk_same joins l h k)

-- the node's searches by tests that agree on the states
search_alike :
    {n : ℕ} (w : NodeWords) {p p' q q' : ℕ → Bool} → Same n p p' → Same n q q' →
    Alike n (search_by w p q) (search_by w p' q')
search_alike {n} w {p} {p'} {q} {q'} ps qs = turn (is_exact w)
  where
    target : Target
    target = target_of w

    goes : Same n (λ s. go_of target.all (p s) (q s)) (λ s. go_of target.all (p' s) (q' s))
    goes s l = rw (ps s l, qs s l)

    bases :
        Same n (λ s. base_of target.all target.full (p s) (q s))
        (λ s. base_of target.all target.full (p' s) (q' s))
    bases s l = rw (ps s l, qs s l)

    turn :
        (exact : Bool) →
        Alike n (cond exact (by_minutes w.c p q) (by_steps (quest_for target p q)))
        (cond exact (by_minutes w.c p' q') (by_steps (quest_for target p' q')))
    turn true = minutes w.c ps qs
    turn false = steps (quest_for target p q) goes bases

-- a row's flags are the table's marks
row_marks : (n : ℕ) (marks : List ℕ) (t : ℕ) → Same n (flag (row_of n marks t)) (mark n marks t)
row_marks n marks t s l =
    ap (λ v. eqb v 1) (get_or-take n (drop (t * n) marks) s 0 l ∙ get_or-drop (t * n) marks s 0)

-- Where the marks of the operands are right, the run is the formula's.
pub run_node :
    (G : Chart) {rule : List ℕ} {t : ℕ} {w : NodeWords} {n : ℕ} → ReadNode rule t w → Joins n G.arrows →
    (w.operation ≡ 5) ⊎ ((w.operation ≡ 6) × (w.kind ≡ 1)) → (marks : List ℕ) →
    Same n (mark n marks w.a) (holds G (formula_at rule w.a)) →
    Same n (mark n marks w.b) (holds G (formula_at rule w.b)) → {s : ℕ} → s < n → (room : ℕ) →
    run_in G.arrows (search_in n marks w) s room ≡ run_in G.arrows (search_of G (formula_at rule t)) s room
run_node G {w = w} {n} node joins shown marks ps qs {s} l room =
    run_alike joins l room
    (search_alike w (λ v i. row_marks n marks w.a v i ∙ ps v i) (λ v i. row_marks n marks w.b v i ∙ qs v i)) ∙
    ap (λ z. run_in G.arrows z s room) (sym (search_node G node shown))
