-- Nodes over a space of addresses are lawful.
use Rattle.std.proofs.Common.{◌≡◌, ◌≢◌, ℕ, ◌<◌, Bool, true, false, Some, None, refl, sym, ap, subst, ◌∙◌}
use Rattle.std.specs.Prelude.{Option, is_some, IsSome}
use Rattle.tn_mem.specs.Spaces.{Access, IsSpace}
use Rattle.tn_cpu.specs.declared.outcomes.Life.{Life}
use Rattle.tn_node.specs.declared.modes.Stage.{Stage}
use Rattle.tn_node.specs.declared.modes.Stage.TheVariants.{Reset, Poking, Peeking, Replying, Booting, Refused, Over}
use Rattle.tn_node.specs.Nodes.{NodeState, IsNode, mode_at, mode_of}
use Rattle.tn_node.specs.Links.{offers}
use Rattle.tn_node.proofs.Keeping.{taken-node, marked_sent-node, acknowledged-node}
use Rattle.tn_node.proofs.Awaiting.{marked_sent-awaits, marked_sent-others, taken-awaits, acknowledged-awaits, acknowledged-others}
use Rattle.tn_node.proofs.Awaiting.{awaits-offers}
use Rattle.tn_node.proofs.Stepping.{step-awaits, step-node}
use Rattle.tn_network.specs.NodeOps.{is_running, node_ops}
use Rattle.tn_network.specs.Wires.{AreLawful}

-- a node that runs has been booted
pub runs-over : {M : Type 0} (n : NodeState M) → is_running (mode_of n) ≡ true → n.stage ≡ Over
runs-over n runs = go n.stage runs
  where
    go : (s : Stage) → is_running (mode_at s n.cpu.life) ≡ true → s ≡ Over
    go Reset h = cc
    go Poking h = cc
    go Peeking h = cc
    go Replying h = cc
    go Booting h = cc
    go (Refused why) h = cc
    go Over h = refl

offered : (o : Option ℕ) (byte : ℕ) → o ≡ Some byte → IsSome o
offered None byte is = cc
offered (Some x) byte is = refl

pub node-lawful : {M : Type 0} (access : Access M) → IsSpace access → AreLawful (node_ops access) (λ n. IsNode n)
node-lawful access laws = record {
  run_sound = λ p clock slice n runs h. step-node access slice clock n h (runs-over n runs);
  run_awaits = λ p clock l slice n runs h. step-awaits access slice clock n l laws;
  take_sound = λ l byte n low small wants h. taken-node n h access l byte low small;
  take_awaits = λ k byte l n h. taken-awaits access n k byte l h;
  send_sound = λ l byte n low is h. marked_sent-node n h access l (offered (offers access l n) byte is);
  send_awaits = λ l byte n is. marked_sent-awaits access n l byte is;
  send_others = λ l m n apart. marked_sent-others n l m apart;
  acknowledge_sound = λ l n low waits h. acknowledged-node n h access l;
  acknowledge_awaits = λ l n waits h. acknowledged-awaits access n l h waits;
  acknowledge_others = λ l m n apart. acknowledged-others access n l m apart;
  awaits_offers = λ l n waits. awaits-offers access n l waits;
}
