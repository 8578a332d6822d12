-- The rows of a table of marks: one is written, written again, lent; the rows below it stay.
use mathlib.Core.Path.{◌≡◌, sym, ap, ◌∙◌}
use mathlib.Core.Logic.{inl, ⊎_elim}
use mathlib.Core.Bool.{Bool, false}
use mathlib.Core.List.{List, ◌++◌}
use Prim.Native.Nat.{ℕ, ◌+◌, ◌*◌, ◌-◌, ◌≤◌, ◌<◌}
use native.Mathlib.Omega.{arith}
use lib.ListN.{length, get_or, take, drop, length-append, length-drop}
use lib.Seq.{get_or-take, get_or-drop, length-take-le}
use lib.Dec.{eqb}
use borrow.Rule.Slice.PartMut.{put_mid, post_of, Post-is, take_put, drop_put}
use Rattle.model.specs.Marks.{bit, flag, mark}
use Rattle.model.proofs.Marks.{bit_says, row_below}
use Rattle.base.proofs.Same.{Same}
use Rattle.fill.specs.Written.{Written, RowWritten}
use Rattle.operands.specs.FromOperands.{Besides}

-- n marks from a place on, as they are lent
abbrev pub lent : ℕ → ℕ → List ℕ → List ℕ
lent at n marks = take (at + n - at) (drop at marks)

pub lent_length : (at n : ℕ) (marks : List ℕ) → at + n ≤ length marks → length (lent at n marks) ≡ n
lent_length at n marks h =
    let few = length-take-le (at + n - at) (drop at marks) (omega (arith, length-drop at marks)) in
    omega (arith, few)

module _ {at n : ℕ} {f : ℕ → Bool} {old new : List ℕ} (w : Written at n f old new) where
  pub written_as : {g : ℕ → Bool} → Same n f g → Written at n g old new
  written_as e = record { size = w.size; here = λ s l. w.here s l ∙ ap bit (e s l); elsewhere = w.elsewhere }

  -- what was written is what is lent
  pub lent_written : Same n (flag (lent at n new)) f
  lent_written s l =
      bit_says (f s)
      (get_or-take (at + n - at) (drop at new) s 0 (omega arith) ∙ get_or-drop at new s 0 ∙ w.here s l)

  -- where each mark that is lent is 0, f says no everywhere
  pub unmarked :
      at + n ≤ length new → ((s : ℕ) → s < length (lent at n new) → get_or (lent at n new) s 0 ≡ 0) →
      Same n f (λ s. false)
  unmarked fits none s l =
      sym (lent_written s l) ∙ ap (λ v. eqb v 1) (none s (omega (arith, lent_length at n new fits)))

pub written_besides : {n t : ℕ} {f : ℕ → Bool} {old new : List ℕ} → RowWritten n t f old new → Besides n t old new
written_besides w = record { size = w.size; elsewhere = w.elsewhere }

-- the marks of a lower row stay
pub besides_lower : {n t a : ℕ} {old new : List ℕ} → Besides n t old new → a < t → Same n (mark n new a) (mark n old a)
besides_lower {n} {a = a} w l s k =
    ap (λ v. eqb v 1) (w.elsewhere (a * n + s) (inl (omega (arith, row_below n l))))

pub lower_row :
    {n t a : ℕ} {f : ℕ → Bool} {old new : List ℕ} → RowWritten n t f old new → a < t → Same n (mark n new a) (mark n old a)
lower_row w = besides_lower (written_besides w)

pub besides_again : {n t : ℕ} {old new last : List ℕ} → Besides n t old new → Besides n t new last → Besides n t old last
besides_again w v =
    record { size = v.size ∙ w.size; elsewhere = λ j o. v.elsewhere j o ∙ w.elsewhere j o }

-- the last writing of row t stands
pub written_again :
    {n t : ℕ} {g : ℕ → Bool} {old new last : List ℕ} → Besides n t old new → RowWritten n t g new last → RowWritten n t g old last
written_again w v =
    record {
      size = v.size ∙ w.size;
      here = v.here;
      elsewhere = λ j o. v.elsewhere j o ∙ w.elsewhere j o;
    }

-- row t was lent, and put back as anything: what lies before it and after it are the old marks' ends
pub besides_put :
    (n t : ℕ) (old row : List ℕ) → t * n + n ≤ length old →
    length (put_mid (t * n) (t * n + n - t * n) old row) ≡ length old →
    Besides n t old (put_mid (t * n) (t * n + n - t * n) old row)
besides_put n t old row fits same = record { size = same; elsewhere = λ j. ⊎_elim (low j) (high j) }
  where
    at : ℕ
    at = t * n

    new : List ℕ
    new = put_mid at (at + n - at) old row

    many : length row ≡ at + n - at
    many =
        let last = Post-is at (at + n) old (omega arith) in
        omega (
          arith,
          same,
          fits,
          length-append (take at old) (row ++ post_of at (at + n - at) old),
          length-append row (post_of at (at + n - at) old),
          ap length last,
          length-drop (at + n) old,
          length-take-le at old (omega (arith, fits)),
        )

    low : (j : ℕ) → j < at → get_or new j 0 ≡ get_or old j 0
    low j l =
        sym (get_or-take at new j 0 l) ∙
        ap (λ zs. get_or zs j 0) (take_put at (at + n - at) old row (omega (arith, fits))) ∙
        get_or-take at old j 0 l

    high : (j : ℕ) → at + n ≤ j → get_or new j 0 ≡ get_or old j 0
    high j l =
        let k = j - (at + n) in
        let e : at + n + k ≡ j = omega arith in
        ap (λ i. get_or new i 0) (sym e) ∙ sym (get_or-drop (at + n) new k 0) ∙
        ap (λ zs. get_or zs k 0) (drop_put at (at + n) old row (omega arith) fits many) ∙
        get_or-drop (at + n) old k 0 ∙
        ap (λ i. get_or old i 0) e
