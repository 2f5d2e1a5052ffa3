use Rattle.std.proofs.Common.{◌<◌, length, arith}
use Rattle.std.specs.Prelude.{slice_index}
use Rattle.tn_text.proofs.Putting.{Puts-as, Puts-joined, Puts-stopped, Puts-refused, Puts-nothing}
use Rattle.tn_list.proofs.TreeLaws.{lines_none, lines_more, lines_split}
use Rattle.tn_list.proofs.tree_texts.put_nodes.Goals as goal

pub loop-place-init : goal.loop-place-init
loop-place-init g c = (
  Puts-as (lines_none c.args.names.now c.args.tree.now.nodes.items (λ k. slice_index c.args.received.now k))
      (Puts-nothing tt (g.P.Put.taken c.args.out.now)),
  g.met.P.Put.stays c.args.out.now,
)

pub loop-place-preserved : goal.loop-place-preserved
loop-place-preserved g c = (
  Puts-as (lines_more c.args.names.now c.args.tree.now.nodes.items (λ k. slice_index c.args.received.now k) c.loop-place.place)
      (Puts-joined c.loop-place.invariant.0 c.in_ok-put_node.ensures.puts),
  g.met.P.Put.joined c.args.out.now c.loop-place.out c.put_node.new.out c.loop-place.invariant.1 c.put_node.ensures.goes_on,
)

pub returns-in_err-put_node-clause-puts : goal.returns-in_err-put_node-clause-puts
returns-in_err-put_node-clause-puts g c =
    let here : c.loop-place.place < length c.args.tree.now.nodes.items = omega arith in
    let split = lines_split c.args.names.now c.args.tree.now.nodes.items (λ k. slice_index c.args.received.now k) c.loop-place.place
    (length c.args.tree.now.nodes.items) here in
    Puts-refused c.from_residual.ensures.0 (Puts-as split.1
    (Puts-stopped split.0 (Puts-joined c.loop-place.invariant.0 c.in_err-put_node.ensures.puts)))

pub returns-in_err-put_node-clause-goes_on : goal.returns-in_err-put_node-clause-goes_on
returns-in_err-put_node-clause-goes_on g c =
    g.met.P.Put.joined c.args.out.now c.loop-place.out c.put_node.new.out c.loop-place.invariant.1 c.put_node.ensures.goes_on
