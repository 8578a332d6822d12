-- Minutes by what they leave to the top, and the waits: the states from which no run fails the until or waits for it.
use mathlib.Core.Path.{◌≡◌, refl, sym, ap, ◌∙◌}
use mathlib.Core.Logic.{by_cases}
use mathlib.Core.Bool.{Bool, true, false, cond}
use mathlib.Core.List.{List, map}
use Prim.Native.Nat.compare
use Prim.Native.Nat.{ℕ, suc, ◌+◌, ◌-◌, ◌≤◌, ◌<◌}
use native.Mathlib.Omega.{arith}
use native.Mathlib.Decide.{dec_lt}
use lib.ListN.{length}
use lib.Dec.{leb, ltb, is_le}
use borrow.Author.Tests.{lt-ltb, le-ltb, le-leb, lt-leb}
use Rattle.base.specs.Tabulate.{tabulate}
use Rattle.tctl.specs.Chart.{Arrow}
use Rattle.base.proofs.Tabulate.{get_d_tabulate, tabulate_same, map_tabulate}
use Rattle.model.specs.Engine.{num, greatest}
use Rattle.model.specs.Decide.{ask, waiting, failing, waits, ticking, plain_row}
use Rattle.model.specs.Weighed.{weighed}
use Rattle.base.proofs.Same.{Same}
use Rattle.chart.specs.Bytes.{chart_of}
use Rattle.hints.specs.Values.{value_of, values}
use Rattle.hints.proofs.Values.{value_at, values_length, num_map}
use Rattle.ways.specs.declared.Way.TheVariants.{Raise}
use Rattle.ways.specs.Way.{top, left_over}
use Rattle.initial.specs.declared.Initial.TheVariants.{Fail}
use Rattle.until_start.specs.Risen.{Risen}
use Rattle.until_start.specs.Meets.{unhindered_up_to, all_meet_plain}

-- a row that is tabulated from the numbers ts answers as the same numbers ws do
pub row_answers :
    {n : ℕ} (test : ℕ → Bool) {ws ts : List ℕ} → ws ≡ ts →
    Same n (λ s. test (num ws s)) (ask (tabulate n (λ s. test (num ts s))))
row_answers {n} test {ws} {ts} e s l =
    ap (λ t. test (num t s)) e ∙ sym (get_d_tabulate n (λ s. test (num ts s)) false s l)

-- up to c is below c + 1
pub up_to : (v c : ℕ) → leb v c ≡ ltb v (suc c)
up_to v c = ap is_le (sym (compare.suc-suc v c))

pub one_more : (c : ℕ) → c + 1 ≡ suc c
one_more c = omega arith

-- ── Minutes, by what they leave to the top ──

-- the minutes that a number leaves
pub left_at : (ns : List ℕ) (s : ℕ) → s < length ns → num (left_over (values ns)) s ≡ top - value_of (num ns s)
left_at ns s l =
    num_map (λ v. top - v) (values ns) s (omega (arith, values_length ns)) ∙ ap (λ v. top - v) (sym (value_at ns s))

-- c minutes at most are left by what is above the top less c + 1
pub at_most_left : (c v : ℕ) → c < top → ltb (top - (c + 1)) v ≡ leb (top - v) c
at_most_left c v h =
    by_cases (dec_lt (top - (c + 1)) v) (λ l. lt-ltb (top - (c + 1)) v l ∙ sym (le-leb (top - v) c (omega arith)))
    (λ l. le-ltb (top - (c + 1)) v (omega arith) ∙ sym (lt-leb (top - v) c (omega arith)))

-- c minutes at least are left by what is up to the top less c
pub at_least_left : (c v : ℕ) → 0 < c → c ≤ top → leb v (top - c) ≡ leb c (top - v)
at_least_left c v h k =
    by_cases (dec_lt (top - c) v) (λ l. lt-leb v (top - c) l ∙ sym (lt-leb c (top - v) (omega arith)))
    (λ l. le-leb v (top - c) (omega arith) ∙ sym (le-leb c (top - v) (omega arith)))

-- the minutes of values that are tabulated
pub left_tabulated :
    (n : ℕ) (v w : ℕ → ℕ) → Same n (λ s. top - v s) w → left_over (tabulate n v) ≡ tabulate n w
left_tabulated n v w e = map_tabulate (λ x. top - x) n v ∙ tabulate_same n (λ s. top - v s) w e

-- 0 minutes where q holds, else the cap
pub left_reach : (q : Bool) (cap : ℕ) → cap ≤ top → top - cond q top (top - cap) ≡ cond q 0 cap
left_reach true cap h = omega arith
left_reach false cap h = omega arith

-- ── The waits ──

module _ {chart ns : List ℕ} {n : ℕ} {p q : ℕ → Bool} (c : ℕ) where
  pub unhindered_by :
      {ticks : Bool} →
      Risen (Fail (c + 1)) (Raise (record { ticks = ticks; leap = false; cap = c + 1 })) chart n p q ns →
      Same n (λ s. leb (value_of (num ns s)) c) (unhindered_up_to ticks c (chart_of chart).arrows n p q)
  unfolding waits greatest
  unhindered_by {ticks} r s l =
      ap (λ v. leb v c) (value_at ns s) ∙
      ap (λ t. leb (num t s) c)
      (r.is ∙
      ap (λ k. greatest (weighed ticks (chart_of chart).arrows) n k (waiting p q) (failing k p q)) (one_more c))

module _ (n : ℕ) (arrows : List Arrow) (p q : ℕ → Bool) where
  pub plain_answers : Same n (unhindered_up_to true n arrows n p q) (all_meet_plain arrows n p q)
  unfolding plain_row
  plain_answers = row_answers (λ v. leb v n) {ws = waits (map ticking arrows) n n p q} refl
