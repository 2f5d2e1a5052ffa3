use Rattle.std.proofs.Common.{refl, ap}
use Rattle.tn_network.specs.declared.picks.Pick.TheVariants.{HostSend, HostTake, Proc, Send, Take}
use Rattle.tn_network.specs.NodeOps.{node_ops}
use Rattle.tn_network.proofs.BoardReads.{ready-as, end_of, send-node, send-low, take-node, take-low, ends-value, ends-here, ends-there}
use Rattle.tn_network.proofs.boards.Board.ends.Goals as goal

pub far-requires : goal.far-requires
far-requires g c =
    let enabled = ready-as (node_ops g.M.Space.access) c.args.self.now.network c.args.self.now.state _ _ c.in-Send.is c.requires in
    end_of g.M.Space.access g.met.M.Space.lawful c.args.self.now _ _ _ _ c.self.view_is c.self.invariant
    c.in-Send.p c.in-Send.l
    (send-node g.M.Space.access g.met.M.Space.lawful c.args.self.now _ _ _ _ c.self.view_is c.self.invariant
    c.in-Send.p c.in-Send.l enabled)
    (send-low g.M.Space.access g.met.M.Space.lawful c.args.self.now _ _ _ _ c.self.view_is c.self.invariant
    c.in-Send.p c.in-Send.l enabled)

pub far-requires-in-Take : goal.far-requires-in-Take
far-requires-in-Take g c =
    let enabled = ready-as (node_ops g.M.Space.access) c.args.self.now.network c.args.self.now.state _ _ c.in-Take.is c.requires in
    end_of g.M.Space.access g.met.M.Space.lawful c.args.self.now _ _ _ _ c.self.view_is c.self.invariant
    c.in-Take.p c.in-Take.l
    (take-node g.M.Space.access g.met.M.Space.lawful c.args.self.now _ _ _ _ c.self.view_is c.self.invariant
    c.in-Take.p c.in-Take.l enabled)
    (take-low g.M.Space.access g.met.M.Space.lawful c.args.self.now _ _ _ _ c.self.view_is c.self.invariant
    c.in-Take.p c.in-Take.l enabled)

pub returns-in-HostSend-clause-value : goal.returns-in-HostSend-clause-value
returns-in-HostSend-clause-value g c =
    ends-value g.M.Space.access g.met.M.Space.lawful c.args.self.now _ _ _ _ c.self.view_is c.self.invariant
    c.args.pick HostSend _ _ c.in-HostSend.is (ap (λ r. r.0) c.root.ensures.value) refl

pub returns-in-HostSend-clause-here : goal.returns-in-HostSend-clause-here
returns-in-HostSend-clause-here g c =
    ends-here g.M.Space.access g.met.M.Space.lawful c.args.self.now _ _ _ _ c.self.view_is c.self.invariant
    c.args.pick c.requires

pub returns-in-HostSend-clause-there : goal.returns-in-HostSend-clause-there
returns-in-HostSend-clause-there g c =
    ends-there g.M.Space.access g.met.M.Space.lawful c.args.self.now _ _ _ _ c.self.view_is c.self.invariant
    c.args.pick c.requires

pub returns-in-HostTake-clause-value : goal.returns-in-HostTake-clause-value
returns-in-HostTake-clause-value g c =
    ends-value g.M.Space.access g.met.M.Space.lawful c.args.self.now _ _ _ _ c.self.view_is c.self.invariant
    c.args.pick HostTake _ _ c.in-HostTake.is (ap (λ r. r.0) c.root-in-HostTake.ensures.value) refl

pub returns-in-HostTake-clause-here : goal.returns-in-HostTake-clause-here
returns-in-HostTake-clause-here g c =
    ends-here g.M.Space.access g.met.M.Space.lawful c.args.self.now _ _ _ _ c.self.view_is c.self.invariant
    c.args.pick c.requires

pub returns-in-HostTake-clause-there : goal.returns-in-HostTake-clause-there
returns-in-HostTake-clause-there g c =
    ends-there g.M.Space.access g.met.M.Space.lawful c.args.self.now _ _ _ _ c.self.view_is c.self.invariant
    c.args.pick c.requires

pub returns-in-Proc-clause-value : goal.returns-in-Proc-clause-value
returns-in-Proc-clause-value g c =
    ends-value g.M.Space.access g.met.M.Space.lawful c.args.self.now _ _ _ _ c.self.view_is c.self.invariant
    c.args.pick (Proc c.in-Proc.p c.in-Proc.field-1 c.in-Proc.field-2) _ _ c.in-Proc.is refl refl

pub returns-in-Proc-clause-here : goal.returns-in-Proc-clause-here
returns-in-Proc-clause-here g c =
    ends-here g.M.Space.access g.met.M.Space.lawful c.args.self.now _ _ _ _ c.self.view_is c.self.invariant
    c.args.pick c.requires

pub returns-in-Proc-clause-there : goal.returns-in-Proc-clause-there
returns-in-Proc-clause-there g c =
    ends-there g.M.Space.access g.met.M.Space.lawful c.args.self.now _ _ _ _ c.self.view_is c.self.invariant
    c.args.pick c.requires

pub returns-in-Send-clause-value : goal.returns-in-Send-clause-value
returns-in-Send-clause-value g c =
    ends-value g.M.Space.access g.met.M.Space.lawful c.args.self.now _ _ _ _ c.self.view_is c.self.invariant
    c.args.pick (Send c.in-Send.p c.in-Send.l) _ _ c.in-Send.is refl c.far.ensures.value

pub returns-in-Send-clause-here : goal.returns-in-Send-clause-here
returns-in-Send-clause-here g c =
    ends-here g.M.Space.access g.met.M.Space.lawful c.args.self.now _ _ _ _ c.self.view_is c.self.invariant
    c.args.pick c.requires

pub returns-in-Send-clause-there : goal.returns-in-Send-clause-there
returns-in-Send-clause-there g c =
    ends-there g.M.Space.access g.met.M.Space.lawful c.args.self.now _ _ _ _ c.self.view_is c.self.invariant
    c.args.pick c.requires

pub returns-in-Take-clause-value : goal.returns-in-Take-clause-value
returns-in-Take-clause-value g c =
    ends-value g.M.Space.access g.met.M.Space.lawful c.args.self.now _ _ _ _ c.self.view_is c.self.invariant
    c.args.pick (Take c.in-Take.p c.in-Take.l) _ _ c.in-Take.is refl c.far-in-Take.ensures.value

pub returns-in-Take-clause-here : goal.returns-in-Take-clause-here
returns-in-Take-clause-here g c =
    ends-here g.M.Space.access g.met.M.Space.lawful c.args.self.now _ _ _ _ c.self.view_is c.self.invariant
    c.args.pick c.requires

pub returns-in-Take-clause-there : goal.returns-in-Take-clause-there
returns-in-Take-clause-there g c =
    ends-there g.M.Space.access g.met.M.Space.lawful c.args.self.now _ _ _ _ c.self.view_is c.self.invariant
    c.args.pick c.requires
