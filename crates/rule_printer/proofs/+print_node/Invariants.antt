use Rattle.rule_printer.proofs.+print_node.Given as goal

abbrev pub decreases-print_node : goal.decreases-print_node
decreases-print_node l = l.t
