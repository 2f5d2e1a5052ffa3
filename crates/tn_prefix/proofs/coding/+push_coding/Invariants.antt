use Rattle.tn_prefix.proofs.coding.+push_coding.Given as goal

abbrev pub decreases-push_coding : goal.decreases-push_coding
decreases-push_coding l = l.operand
