use Rattle.tn_isa.specs.Operations.{operation_with}
use Rattle.tn_isa.proofs.OperationCodes.{found-operation_with, none-operation_with}
use Rattle.tn_isa.proofs.operations.op_of.Goals as goal

pub returns-clause-found : goal.returns-clause-found
unfolding operation_with
returns-clause-found c = rw c.first_with.ensures (found-operation_with c.args.code)

pub returns-clause-none : goal.returns-clause-none
unfolding operation_with
returns-clause-none c = rw c.first_with.ensures (none-operation_with c.args.code)
