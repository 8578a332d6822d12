-- A space, the sign, a space.
use Rattle.append.proofs.Append.{appended_both}
use Rattle.rule_printer.specs.Parts.{between_text}
use Rattle.rule_printer.proofs.put_between.Goals as goal

pub returns : goal.returns
unfolding between_text
returns c = appended_both (appended_both c.put-spaced.ensures c.put_sign-signed.ensures) c.put.ensures
