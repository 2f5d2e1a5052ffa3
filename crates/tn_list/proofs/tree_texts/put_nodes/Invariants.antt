use Rattle.std.proofs.Common.{Ok}
use Rattle.std.specs.Prelude.{slice_index}
use Rattle.tn_text.specs.Puts.{Puts}
use Rattle.tn_list.specs.TreeTexts.{node_lines}
use Rattle.tn_list.proofs.tree_texts.put_nodes.Given as goal

-- the lines so far were put
abbrev pub invariant-loop-place : goal.invariant-loop-place
invariant-loop-place g l =
    Puts {T = Unit {0}} (node_lines l.names l.tree.nodes.items (λ k. slice_index l.received k) l.place) (Ok tt) (g.P.Put.taken l.fn.out)
    (g.P.Put.taken l.out) × g.P.Put.goes_on l.fn.out l.out
