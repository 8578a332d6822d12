-- The weights lie in an array for the most arrows that a chart has.
use Rattle.chart.proofs.Reading.{shaped}
use Rattle.step_table.proofs.fewest_steps.Goals as goal

pub fill_weights-requires : goal.fill_weights-requires
fill_weights-requires c = (shaped c.args.chart.passed).few_arrows
