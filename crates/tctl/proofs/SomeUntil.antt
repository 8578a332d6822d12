-- The some-until: some run meets it just where some path does.
use mathlib.Core.Path.{◌≡◌, sym, subst}
use mathlib.Core.Logic.{◌↔◌}
use Prim.Native.Nat.{ℕ, ◌+◌, ◌<◌}
use native.Mathlib.Omega.{arith}
use Rattle.tctl.specs.Chart.{Chart, states}
use Rattle.tctl.specs.Run.{Run}
use Rattle.tctl.specs.Formula.{Bound, Meets}
use Rattle.tctl.specs.Holds.{Met}
use Rattle.tctl.proofs.Drawn.{Drawn, step_below}
use Rattle.tctl.specs.Path.{Path, stop, step, minutes}
use Rattle.tctl.proofs.Run.{Lively, ahead}
use Rattle.tctl.proofs.Prefix.{prefix}
use Rattle.tctl.proofs.Until.{Until, now, later, met_iff_until}

module _ {G : Chart} (dr : Drawn G) (live : Lively G) {P Q : ℕ → Type 0} {b : Bound} where
  -- the path, and then any run
  run_of_path :
      (k : ℕ) {s : ℕ} → s < states G → (p : Path G P Q s) → Meets b (k + minutes p) →
      (r : Run G s) × Until P Q b k r.state r.duration
  run_of_path k l (stop {s} q) m =
      let r = live s l in
      let e : k + 0 ≡ k = omega arith in
      (r, now (subst (Meets b) e m) (subst Q (sym r.starts) q))
  run_of_path k l (step {d = d} g x p) m =
      let e : k + (d + minutes p) ≡ k + d + minutes p = omega arith in
      let r = run_of_path (k + d) (step_below dr x) p (subst (Meets b) e m) in
      (ahead x r.0, later g r.1)

  -- The first steps of such a run, up to the position, are the path. A path, and any run after it, is such a run.
  pub some_iff_path :
      (s : ℕ) → s < states G →
      ((r : Run G s) × Met G P Q b s r) ↔ ((p : Path G P Q s) × Meets b (minutes p))
  some_iff_path s l = (down, up)
    where
      down : (r : Run G s) × Met G P Q b s r → (p : Path G P Q s) × Meets b (minutes p)
      down h =
          let m = h.1 in
          let p = prefix h.0 m.position m.there m.before in
          (p.0, subst (Meets b) (sym p.2) m.intime)

      up : (p : Path G P Q s) × Meets b (minutes p) → (r : Run G s) × Met G P Q b s r
      up h =
          let e : minutes h.0 ≡ 0 + minutes h.0 = omega arith in
          let r = run_of_path 0 l h.0 (subst (Meets b) e h.1) in
          (r.0, (met_iff_until r.0).1 r.1)
