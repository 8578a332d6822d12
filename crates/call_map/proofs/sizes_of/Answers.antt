-- The head of a chart that passes checks 1 to 9 holds both counts.
use Rattle.chart.proofs.WellFormed.{well_formed}
use Rattle.call_map.proofs.sizes_of.Goals as goal

pub state_count-requires : goal.state_count-requires
state_count-requires c = (well_formed _ c.requires).head.enough

pub arrow_count-requires : goal.arrow_count-requires
arrow_count-requires c = (well_formed _ c.requires).head.enough
