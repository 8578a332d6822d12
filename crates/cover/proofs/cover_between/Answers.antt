-- Invariant: no overview arrow from lo on and before j covers want.
use native.Mathlib.Omega.{arith}
use Rattle.chart.proofs.Arrow.{arrow_inside}
use Rattle.chart.proofs.Reading.{shaped}
use Rattle.cover.proofs.cover_between.Goals as goal

pub arrow_at-b-requires : goal.arrow_at-b-requires
arrow_at-b-requires c = let p = c.requires in arrow_inside (shaped p.0) (omega arith)
