-- From the fewest steps that were found to the run that is written, whatever the search.
use mathlib.Core.Path.{◌≡◌, refl, sym, ap, subst, ◌∙◌}
use mathlib.Core.Bool.{false, cond}
use mathlib.Core.List.{List, []}
use mathlib.Core.Option.{none, some}
use Rattle.std.specs.Prelude.{None, Some}
use Prim.Native.Nat.{ℕ, suc, ◌+◌, ◌*◌, ◌≤◌, ◌<◌}
use native.Mathlib.Omega.{arith}
use lib.ListN.{length}
use lib.Dec.{ltb}
use borrow.Author.Tests.{lt-ltb, le-ltb}
use Rattle.tctl.specs.Chart.{Arrow}
use Rattle.append.specs.Piece.{Appended, AtFront}
use Rattle.append.proofs.Append.{at_front}
use Rattle.chart.specs.Bytes.{chart_of}
use Rattle.shown.specs.Shown.{duration_at}
use Rattle.shown.specs.Search.{Search, walk_by, fewest_steps}
use Rattle.shown.proofs.Walks.{walk_by_length}
use Rattle.step_numbers.specs.Target.{highest}
use Rattle.run_walk.specs.RunBytes.{run_bytes}
use Rattle.run_walk.proofs.RunBytes.{run_bytes_length}
use Rattle.show_run.specs.Run.{fitting, run_in, Ran}

module _ (chart : List ℕ) (z : Search) (s : ℕ) where
  abbrev arrows : List Arrow
  arrows = (chart_of chart).arrows

  -- no run is nothing written
  ran_none : {old : List ℕ} → run_in arrows z s (length old) ≡ [] → Ran chart z s None old old
  unfolding run_bytes
  ran_none {old} e =
      record {
        front = subst (λ run. AtFront (run_bytes run) 0 old old) (sym e) (record { end = refl; bytes = refl });
        written = tt;
        brief = λ i. subst (λ run. duration_at run i ≤ highest) (sym e) (omega arith);
      }

  pub none_found : fewest_steps (chart_of chart).arrows z s ≡ none → {old : List ℕ} → Ran chart z s None old old
  none_found e {old} = ran_none (ap (fitting arrows z s (length old)) e)

  module _ {k : ℕ} (few : fewest_steps (chart_of chart).arrows z s ≡ some k) where
    pub too_long : {old : List ℕ} → length old < 6 * (k + 1) → Ran chart z s None old old
    too_long {old} l =
        let short = lt-ltb (length old) (6 * suc k) (omega arith) in
        ran_none (ap (fitting arrows z s (length old)) few ∙ ap (λ b. cond b [] (walk_by arrows z k s)) short)

    pub walked :
        {old out : List ℕ} {r : ℕ} → 6 * (k + 1) ≤ length old →
        ((i : ℕ) → duration_at (walk_by (chart_of chart).arrows z k s) i ≤ highest) →
        Appended 0 (run_bytes (walk_by (chart_of chart).arrows z k s)) r old out →
        Ran chart z s (Some r) old out
    walked {old} {out} {r} l brief a =
        let fits : ltb (length old) (6 * suc k) ≡ false = le-ltb (length old) (6 * suc k) (omega arith) in
        let is_run : walk_by arrows z k s ≡ run_in arrows z s (length old) =
        sym (ap (fitting arrows z s (length old)) few ∙ ap (λ b. cond b [] (walk_by arrows z k s)) fits) in
        let size = run_bytes_length (walk_by arrows z k s) in
        let long = walk_by_length arrows z k s in
        record {
          front =
              subst (λ run. AtFront (run_bytes run) r old out) is_run (at_front (record { fits = omega arith }) a);
          written = omega (arith, a.end, size, long);
          brief = λ i. subst (λ run. duration_at run i ≤ highest) is_run (brief i);
        }
