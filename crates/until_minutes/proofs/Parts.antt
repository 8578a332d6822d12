-- Rows of a table of marks, lent as parts: they lie in the table, and say what it says.
use mathlib.Core.Path.{◌≡◌, sym, ap, ap₂, ◌∙◌}
use mathlib.Core.Bool.{Bool, true}
use mathlib.Core.List.{List}
use Prim.Native.Nat.{ℕ, ◌+◌, ◌*◌, ◌-◌, ◌≤◌, ◌<◌}
use native.Mathlib.Omega.{arith}
use native.Mathlib.Nat.{mul-le-mul_right}
use lib.ListN.{length, get_or, drop}
use lib.Seq.{get_or-take, get_or-drop}
use lib.Dec.{eqb}
use Rattle.model.specs.Marks.{flag, mark}
use Rattle.model.proofs.Marks.{row_below}
use Rattle.base.proofs.Same.{Same}
use Rattle.rule.specs.declared.NodeWords.{NodeWords}
use Rattle.operands.specs.FromOperands.{OperandsBelow}
use Rattle.operands.proofs.Rows.{lent, lent_length}
use Rattle.minutes.proofs.Same.{SameTask, task_same}
use Rattle.moves.specs.declared.Ends.{Ends}
use Rattle.moves.specs.Moves.{is_open, open_in}
use Rattle.minute_rows.specs.declared.Asked.{Asked}
use Rattle.minute_rows.specs.Numbers.{bare, task_in}
use Rattle.minute_rows.specs.Filled.{Ready, MinuteReady}
use Rattle.until_minutes.specs.Minutes.{MinutesLent, WaitReady, task_by, plain_asked, open_by}
use Rattle.until_minutes.proofs.Alike.{collected_same}

-- ── Where rows lie ──

-- the row of a lower node lies in a table that holds row t
lower_inside : {a t : ℕ} (n : ℕ) {size : ℕ} → a < t → t * n + n ≤ size → a * n + n ≤ size
lower_inside n l h = omega (arith, row_below n l)

-- the rows of the operands lie in the marks, of which there are fewer than 2 to the power 64
pub record Inside (n : ℕ) (w : NodeWords) (marks : List ℕ) : Type 0 where
  pub left : w.a * n + n ≤ length marks
  pub right : w.b * n + n ≤ length marks
  pub few : length marks < 18446744073709551616

pub rows_inside :
    {n t : ℕ} {w : NodeWords} {marks : List ℕ} → OperandsBelow t w → t * n + n ≤ length marks →
    length marks < 18446744073709551616 → Inside n w marks
rows_inside {n} low h few =
    record { left = lower_inside n low.left h; right = lower_inside n low.right h; few = few }

-- ── Rows as they are lent ──

-- row a, as it is lent
abbrev pub part : ℕ → List ℕ → ℕ → List ℕ
part n marks a = lent (a * n) n marks

pub part_at : (n : ℕ) (marks : List ℕ) (a s : ℕ) → s < n → get_or (part n marks a) s 0 ≡ get_or marks (a * n + s) 0
part_at n marks a s l =
    let at = a * n in
    get_or-take (at + n - at) (drop at marks) s 0 (omega arith) ∙ get_or-drop at marks s 0

part_says : (n : ℕ) (marks : List ℕ) (a : ℕ) → Same n (flag (part n marks a)) (mark n marks a)
part_says n marks a s l = ap (λ v. eqb v 1) (part_at n marks a s l)

module _ (n : ℕ) (w : NodeWords) (marks : List ℕ) where
  pub task_parts :
      (asked : Asked) (t : ℕ) →
      SameTask n (task_in asked (part n marks w.a) (part n marks w.b) (part n marks t)) (task_by asked n t w marks)
  task_parts asked t =
      task_same n asked.all (bare asked.met) (part_says n marks w.a) (part_says n marks w.b)
      (part_says n marks t)

  pub open_parts : Same n (open_in true (part n marks w.a) (part n marks w.b)) (open_by n w marks)
  open_parts s l = ap₂ (is_open true) (part_says n marks w.a s l) (part_says n marks w.b s l)

-- ── What the rows' functions ask for ──

module _
    {chart : List ℕ}
    {n m t : ℕ}
    {w : NodeWords}
    {marks numbers : List ℕ}
    (l : MinutesLent chart n m t w marks numbers) where
  part_wide : (a : ℕ) → a * n + n ≤ length marks → length (part n marks a) ≡ n
  part_wide a = lent_length (a * n) n marks

  pub rows_ready :
      {count : ℕ} → 1 ≤ count → count ≤ 256 →
      Ready count chart n m (part n marks w.a) (part n marks w.b) (part n marks t) numbers
  rows_ready some few =
      record {
        passed = l.passed;
        first = part_wide w.a (lower_inside n l.operands.left l.table);
        second = part_wide w.b (lower_inside n l.operands.right l.table);
        wide = part_wide t l.table;
        room = omega (arith, l.room, mul-le-mul_right n few);
        some = some;
        few = few;
      }

-- no row is filled, and the words are of arrows from where the parts say that it is open
pub first_ready :
    {chart : List ℕ} {n t : ℕ} {w : NodeWords} {ends : Ends} {words marks numbers : List ℕ} (all : Bool) →
    WaitReady chart n t w ends words marks numbers →
    MinuteReady (plain_asked all) chart n 0 ends words (part n marks w.a) (part n marks w.b) (part n marks t) numbers
first_ready {n = n} {w = w} {marks = marks} all r =
    let l = r.lent in
    let parts = rows_ready l {count = 1} (omega arith) (omega arith) in
    record {
      passed = l.passed;
      rows =
          record {
            first = parts.first;
            second = parts.second;
            wide = parts.wide;
            room = omega (arith, parts.room);
            few = omega arith;
          };
      long = r.long;
      collected = collected_same l.passed (λ s h. sym (open_parts n w marks s h)) r.collected;
      filled = record { last = λ m s j. absurd (let z : ⊥ = omega arith in z) };
    }
