-- The marks that check and count write: rows of nodes as one list, and what their bytes tell.
use mathlib.Core.Path.{◌≡◌, refl, sym, ap, subst, ◌∙◌}
use mathlib.Core.Logic.{◌↔◌}
use mathlib.Core.Bool.{Bool, true, false, false≢true}
use mathlib.Core.List.{List, ◌++◌}
use Prim.Native.Nat.{ℕ, ◌+◌, ◌*◌, ◌-◌, ◌≤◌, ◌<◌, ◌/◌, ◌%◌}
use native.Mathlib.Nat.{div-add-mod', mod-lt, div-lt_iff_lt-mul}
use native.Mathlib.Omega.{arith}
use lib.ListN.{length, get_or, drop, length-append, length-drop, get_or-append}
use lib.Dec.{leb}
use lib.Seq.{ext_get_or, get_or-append-add, get_or-drop}
use borrow.Author.Tests.{leb-true, leb-false}
use Rattle.base.proofs.Tabulate.{length_tabulate, get_d_tabulate}
use Rattle.model.specs.Decide.{holds}
use Rattle.model.specs.Marks.{bit}
use Rattle.chart.specs.Bytes.{state_count, chart_of}
use Rattle.rule.specs.Bytes.{node_count}
use Rattle.rule.specs.Formula.{formula_at}
use Rattle.nodes.specs.Right.{Right}
use Rattle.judge.specs.Judge.{marks_of, Tells}

-- a new front as long as the old one keeps the length, and past it the old list stands
pub front_size :
    (front old : List ℕ) (size : ℕ) → length front ≡ size → size ≤ length old →
    length (front ++ drop size old) ≡ length old
front_size front old size e l = omega (arith, length-append front (drop size old), length-drop size old)

pub past_front :
    (front old : List ℕ) (size : ℕ) → length front ≡ size → (j : ℕ) → size ≤ j →
    get_or (front ++ drop size old) j 0 ≡ get_or old j 0
past_front front old size e j l =
    let there : j ≡ length front + (j - size) = omega arith in
    let back : size + (j - size) ≡ j = omega arith in
    ap (λ x. get_or (front ++ drop size old) x 0) there ∙
    get_or-append-add front (drop size old) (j - size) 0 ∙
    get_or-drop size old (j - size) 0 ∙
    ap (λ x. get_or old x 0) back

module _ (chart rule : List ℕ) where
  abbrev n : ℕ
  n = state_count chart

  abbrev size : ℕ
  size = node_count rule * n

  pub marks_length : length (marks_of chart rule) ≡ size
  unfolding marks_of
  marks_length = length_tabulate size _

  -- byte j is of node j / n and state j % n
  marks_at :
      0 < n → (new : List ℕ) → ((t : ℕ) → t < node_count rule → Right chart n rule t new) →
      (j : ℕ) → j < size → get_or new j 0 ≡ get_or (marks_of chart rule) j 0
  unfolding marks_of
  marks_at p new rows j h =
      let place = div-add-mod' j n in
      let row = (div-lt_iff_lt-mul p).1 h in
      subst (λ i. get_or new i 0 ≡ bit (holds (chart_of chart) (formula_at rule (j / n)) (j % n))) place
      (rows (j / n) row (j % n) (mod-lt j p)) ∙
      sym (get_d_tabulate size _ 0 j h)

  -- Right rows with the rest kept are the marks and the rest: byte by byte.
  pub marks_written :
      0 < n → (old new : List ℕ) → size ≤ length old → length new ≡ length old →
      ((t : ℕ) → t < node_count rule → Right chart n rule t new) →
      ((j : ℕ) → size ≤ j → get_or new j 0 ≡ get_or old j 0) →
      new ≡ marks_of chart rule ++ drop size old
  marks_written p old new room same rows rest =
      ext_get_or 0 new (marks ++ drop size old) whole (λ j h. turn j (leb size j) refl)
    where
      marks : List ℕ
      marks = marks_of chart rule

      whole : length new ≡ length (marks ++ drop size old)
      whole = same ∙ sym (front_size marks old size marks_length room)

      turn : (j : ℕ) (b : Bool) → leb size j ≡ b → get_or new j 0 ≡ get_or (marks ++ drop size old) j 0
      turn j false e =
          let l = leb-false size j e in
          marks_at p new rows j l ∙ sym (get_or-append marks (drop size old) 0 j (omega (arith, marks_length)))
      turn j true e =
          let l = leb-true size j e in
          rest j l ∙ sym (past_front marks old size marks_length j l)

-- a mark tells what a decision decides
pub bit_tells : (b : Bool) (claim : Type 0) → ((b ≡ true) ↔ claim) → Tells (bit b) claim
bit_tells true claim h =
    record {
      yes = (λ e. h.0 refl, λ c. refl);
      no = (λ e. absurd (let z : ⊥ = omega arith in z), λ f. absurd (f (h.0 refl)));
    }
bit_tells false claim h =
    record {
      yes = (λ e. absurd (let z : ⊥ = omega arith in z), λ c. absurd (false≢true (h.1 c)));
      no = (λ e c. false≢true (h.1 c), λ f. refl);
    }
