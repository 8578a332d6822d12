-- The arrows of a chart, tried from the last to the first.
use mathlib.Core.Path.{◌≡◌, refl, sym, subst}
use mathlib.Core.Logic.{by_cases}
use mathlib.Core.Bool.{Bool, true, false, cond, ◌||◌}
use mathlib.Core.List.{List}
use Prim.Native.Nat.{ℕ, ◌+◌, ◌-◌, ◌≤◌, ◌<◌}
use native.Mathlib.Omega.{arith}
use native.Mathlib.Decide.{ℕ_discrete, dec_le, dec_lt}
use Rattle.std.specs.Prelude.{Option, Some, None, is_some, unwrap_or}
use Rattle.hints.specs.Values.{values}
use Rattle.ways.specs.declared.Way.{Way}
use Rattle.visits.specs.Moves.{Ready, arrow_at, Held, Went}
use Rattle.visits.proofs.Moved.{held_on, held_from}
use Rattle.visits.proofs.Went.{went_none, went_below, went_both, went_held}
use Rattle.sweeps.specs.Sweep.{Still, after, Quiet}

-- each arrow from i on offered its start what the start has now
pub record Swept (way : Way) (chart : List ℕ) (m : ℕ) (go : ℕ → Bool) (i : ℕ) (any : Bool) (old new : List ℕ) :
    Type 0 where
  pub went : Went way chart m go any old new
  pub held : (k : ℕ) → i ≤ k → k < m → Held way go (arrow_at chart k) (values old) (values new)

-- the arrows after the next that raises a number were tried, and of those the ones before the last that raised one, all
-- if none did, would raise none now
pub record Tried (way : Way) (chart : List ℕ) (m : ℕ) (go : ℕ → Bool) (next last : Option ℕ) (old new : List ℕ) :
    Type 0 where
  pub swept : Swept way chart m go (after 0 next) (is_some last) old new
  pub still : Still way chart go (after 0 next) (unwrap_or last m) (values new)

-- one arrow more that raises no number, before those from i on
pub quiet_more :
    {way : Way} {chart : List ℕ} {floor i k : ℕ} {ns : List ℕ} → floor < i → Quiet way chart floor i k ns →
    ((go : ℕ → Bool) → Ready way go ns → Held way go (arrow_at chart (i - 1)) (values ns) (values ns)) →
    Quiet way chart floor (i - 1) k ns
quiet_more {way} {chart} {i = i} {ns = ns} some q h =
    record {
      above = omega arith;
      inside = omega (arith, q.inside);
      held = λ go r j l k.
          by_cases (ℕ_discrete j (i - 1))
          (λ e. subst (λ j. Held way go (arrow_at chart j) (values ns) (values ns)) (sym e) (h go r))
          (λ e. q.held go r j (omega arith) k);
    }

-- an arrow that was found stands below k
pub after_low :
    (r : Option ℕ) {way : Way} {chart : List ℕ} {floor k : ℕ} {ns : List ℕ} → Quiet way chart floor (after floor r) k ns →
    after 0 r ≤ k
after_low (Some i) q = q.inside
after_low None q = omega arith

-- the last arrow that raised a number is one of the chart's
pub raised_low :
    {m i : ℕ} (c : Bool) (last : Option ℕ) {now : Option ℕ} → now ≡ cond c (Some i) last → i ≤ m → unwrap_or last m ≤ m →
    unwrap_or now m ≤ m
raised_low true last e l h = rw e l
raised_low false last e l h = rw e h

module _ {way : Way} {chart : List ℕ} {m : ℕ} {go : ℕ → Bool} where
  -- arrows before those that were tried, that raise no number
  swept_quiet :
      {r i : ℕ} {any : Bool} {old new : List ℕ} → Swept way chart m go i any old new → Still way chart go r i (values new) →
      Swept way chart m go r any old new
  swept_quiet {i = i} t q =
      record {
        went = t.went;
        held = λ k l j.
            by_cases (dec_le i k) (λ h. t.held k h j) (λ h. held_from (went_below t.went) (q k l (omega arith)));
      }

  -- one arrow more, before those
  swept_more :
      {i : ℕ} {b c : Bool} {old vs new : List ℕ} → Swept way chart m go (i + 1) b old vs →
      Went way chart m go c vs new × Held way go (arrow_at chart i) (values vs) (values new) →
      Swept way chart m go i (b || c) old new
  swept_more {i} {old = old} {new = new} t (w, h) =
      record {
        went = went_both t.went w;
        held = λ k l j.
            by_cases (ℕ_discrete k i)
            (λ e. subst (λ k. Held way go (arrow_at chart k) (values old) (values new)) (sym e) (held_from (went_below t.went) h))
            (λ e. held_on (t.held k (omega arith) j) (went_below w));
      }

  -- none was tried: those after the first that raises a number raise none, nor do those before the floor
  pub tried_none :
      {floor : ℕ} (next : Option ℕ) {ns : List ℕ} → Ready way go ns → Still way chart go 0 floor (values ns) →
      Quiet way chart floor (after floor next) m ns → Tried way chart m go next None ns ns
  tried_none {floor} next {ns} r still q =
      record {
        swept = swept_quiet (record { went = went_none r; held = λ k l h. absurd (let z : ⊥ = omega arith in z) }) (all next q);
        still = all next q;
      }
    where
      all :
          (next : Option ℕ) → Quiet way chart floor (after floor next) m ns → Still way chart go (after 0 next) m (values ns)
      all (Some i) q = q.held go r
      all None q = λ j l h. by_cases (dec_le floor j) (λ k. q.held go r j k h) (λ k. still j (omega arith) (omega arith))

  -- One arrow more, and the next before it that raises a number. If it raised none, what the arrows after it have still
  -- stands.
  pub tried_more :
      {i : ℕ} {next last now : Option ℕ} {c : Bool} {old vs new : List ℕ} → Tried way chart m go (Some i) last old vs →
      Went way chart m go c vs new × Held way go (arrow_at chart i) (values vs) (values new) →
      Quiet way chart 0 (after 0 next) i new → now ≡ cond c (Some i) last → Tried way chart m go next now old new
  tried_more {i} {next} {last} {now} {c} {old} {vs} {new} t w q e =
      subst (λ last. Tried way chart m go next last old new) (sym e) (turn c last t w)
    where
      some : (c : Bool) (last : Option ℕ) → (is_some last || c) ≡ is_some (cond c (Some i) last)
      some true (Some j) = refl
      some true None = refl
      some false (Some j) = refl
      some false None = refl

      turn :
          (c : Bool) (last : Option ℕ) → Tried way chart m go (Some i) last old vs →
          Went way chart m go c vs new × Held way go (arrow_at chart i) (values vs) (values new) →
          Tried way chart m go next (cond c (Some i) last) old new
      turn c last t w =
          record {
            swept = subst (λ any. Swept way chart m go (after 0 next) any old new) (some c last) (swept_quiet (swept_more t.swept w) before);
            still = rest c w;
          }
        where
          before : Still way chart go (after 0 next) i (values new)
          before = q.held go w.0.ready

          rest :
              (c : Bool) → Went way chart m go c vs new × Held way go (arrow_at chart i) (values vs) (values new) →
              Still way chart go (after 0 next) (unwrap_or (cond c (Some i) last) m) (values new)
          rest true w = before
          rest false w =
              λ j l h.
              by_cases (dec_lt j i) (λ k. before j l k)
              (λ k.
              by_cases (ℕ_discrete j i)
              (λ e. subst (λ j. Held way go (arrow_at chart j) (values new) (values new)) (sym e) (went_held w.0 w.1))
              (λ e. subst (λ vs. Held way go (arrow_at chart j) vs vs) (sym (w.0.still refl)) (t.still j (omega arith) h)))
