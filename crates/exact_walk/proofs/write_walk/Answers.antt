-- The links lie in arrays for the most states and the most arrows that a chart has.
use Rattle.chart.proofs.Reading.{shaped}
use Rattle.exact_walk.proofs.write_walk.Goals as goal

pub link-requires : goal.link-requires
link-requires c = let p = c.requires.passed in ((shaped p).few_states, (shaped p).few_arrows)
