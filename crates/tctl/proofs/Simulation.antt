-- The detail rule: an all-runs rule carries from an overview down to its detail, a some-run rule from the detail up.
use mathlib.Core.Path.{◌≡◌, ap, ◌∙◌}
use mathlib.Core.Logic.{◌↔◌, ⊎_map}
use mathlib.Core.Bool.{true, ◌&&◌, and-eq-true_iff, false≢true}
use Prim.Native.Nat.{ℕ}
use native.Mathlib.Omega.{arith}
use Rattle.tctl.specs.Chart.{Chart, Most, up_to, no_end, Within, states}
use Rattle.tctl.specs.Run.{Run, Step}
use Rattle.tctl.specs.Formula.{Bound, Formula, always, label, not, and, or, some_until, all_until}
use Rattle.tctl.specs.Holds.{Met, Holds}
use Rattle.tctl.specs.Kind.{Runs, all_runs, some_run, is_of}
use Rattle.tctl.specs.Detail.{Contains, Detail, Carries}
use Rattle.tctl.proofs.Drawn.{Drawn}
use Rattle.tctl.proofs.Until.{met_map}

-- a duration not above a most is not above a most that contains it
within_more : (k m : Most) (d : ℕ) → Contains k m → Within d m → Within d k
within_more no_end m d c w = tt
within_more (up_to k) (up_to m) d c w = omega arith
within_more (up_to k) no_end d c w = absurd c

-- both operands are of the kind
both : (k : Runs) (φ ψ : Formula) → (is_of k φ && is_of k ψ) ≡ true → (is_of k φ ≡ true) × (is_of k ψ ≡ true)
both k φ ψ = (and-eq-true_iff (is_of k φ) (is_of k ψ)).0

module _ {D O : Chart} {f : ℕ → ℕ} (dr : Drawn D) (det : Detail D O f) where
  -- a step of the detail is a step of the overview in the same minutes, by the arrow that covers its arrow
  step_seen : {s d t : ℕ} → Step D s d t → Step O (f s) d (f t)
  step_seen {d = d} x =
      let a = x.arrow in
      let w = det.covered a x.drawn in
      let c = w.2 in
      record {
        arrow = w.0;
        drawn = w.1;
        leaves = c.leaves ∙ ap f x.leaves;
        enters = c.enters ∙ ap f x.enters;
        least = omega (arith, x.least, c.least);
        greatest = within_more w.0.most a.most d c.greatest x.greatest;
      }

  -- so a run of the detail is a run of the overview with the same moments
  abbrev seen : {s : ℕ} → Run D s → Run O (f s)
  seen r =
      record {
        state = λ i. f (r.state i);
        duration = r.duration;
        starts = ap f r.starts;
        moves = λ i. step_seen (r.moves i);
        passes = r.passes;
      }

  -- an until along the run seen is the until of the mapped states along the run
  met_seen :
      {P Q : ℕ → Type 0} {b : Bound} {s : ℕ} (r : Run D s) →
      Met O P Q b (f s) (seen r) ↔ Met D (λ u. P (f u)) (λ u. Q (f u)) b s r
  met_seen r = (
    λ m. record { position = m.position; intime = m.intime; there = m.there; before = m.before },
    λ m. record { position = m.position; intime = m.intime; there = m.there; before = m.before },
  )

  -- By induction on the formula, for both kinds at once, since `not` exchanges them. An A-until that every run of the
  -- overview meets is met along each run seen; an E-until that a run of the detail meets is met along that run seen.
  pub carries : (φ : Formula) (k : Runs) → is_of k φ ≡ true → Carries k (states D) f (Holds O φ) (Holds D φ)
  carries always all_runs e = λ s l h. tt
  carries always some_run e = λ s l h. tt
  carries (label i) all_runs e = λ s l h. rw (det.labels s l) h
  carries (label i) some_run e = λ s l h. rw (det.labels s l) at h
  carries (not φ) all_runs e = λ s l h x. h (carries φ some_run e s l x)
  carries (not φ) some_run e = λ s l h x. h (carries φ all_runs e s l x)
  carries (and φ ψ) all_runs e =
      let o = both all_runs φ ψ e in
      λ s l h. (carries φ all_runs o.0 s l h.0, carries ψ all_runs o.1 s l h.1)
  carries (and φ ψ) some_run e =
      let o = both some_run φ ψ e in
      λ s l h. (carries φ some_run o.0 s l h.0, carries ψ some_run o.1 s l h.1)
  carries (or φ ψ) all_runs e =
      let o = both all_runs φ ψ e in
      λ s l. ⊎_map (carries φ all_runs o.0 s l) (carries ψ all_runs o.1 s l)
  carries (or φ ψ) some_run e =
      let o = both some_run φ ψ e in
      λ s l. ⊎_map (carries φ some_run o.0 s l) (carries ψ some_run o.1 s l)
  carries (some_until b φ ψ) all_runs e = absurd (false≢true e)
  carries (some_until b φ ψ) some_run e =
      let o = both some_run φ ψ e in
      λ s l h.
      let r = h.0 in
      (seen r, (met_seen r).1 (met_map dr (carries φ some_run o.0) (carries ψ some_run o.1) l r h.1))
  carries (all_until b φ ψ) all_runs e =
      let o = both all_runs φ ψ e in
      λ s l h r. met_map dr (carries φ all_runs o.0) (carries ψ all_runs o.1) l r ((met_seen r).0 (h (seen r)))
  carries (all_until b φ ψ) some_run e = absurd (false≢true e)
