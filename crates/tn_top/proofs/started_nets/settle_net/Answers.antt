use Rattle.tn_top.proofs.SettledNets.{settled-steps, settled-rested, settled-state}
use Rattle.tn_top.proofs.started_nets.settle_net.Goals as goal

pub returns-clause-steps : goal.returns-clause-steps
returns-clause-steps c =
    settled-steps c.args.net.now c.settle.new.net c.settle.result.0 c.settle.result.1 c.settle.ensures

pub returns-clause-rested : goal.returns-clause-rested
returns-clause-rested c =
    settled-rested c.args.net.now c.settle.new.net c.settle.result.0 c.settle.result.1 c.settle.ensures

pub returns-clause-state : goal.returns-clause-state
returns-clause-state c =
    settled-state c.args.net.now c.settle.new.net c.settle.result.0 c.settle.result.1 c.settle.ensures
