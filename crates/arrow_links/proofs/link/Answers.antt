-- Invariant: the arrows from i on are linked.
use mathlib.Core.Path.{refl}
use native.Mathlib.Omega.{arith}
use Rattle.chart.proofs.Reading.{shaped}
use Rattle.arrow_links.proofs.Linking.{linked_none}
use Rattle.arrow_links.proofs.link.Goals as goal

pub overflow_cast-chart : goal.overflow_cast-chart
overflow_cast-chart c = omega (arith, (shaped c.args.chart.passed).few_arrows)

pub loop-i-init : goal.loop-i-init
loop-i-init c = let p = c.requires in (refl, refl, linked_none c.no_arrows.ensures p.0 p.1)
