use Rattle.std.proofs.Common.{◌-◌, ◌++◌, length, take, Ok}
use Rattle.std.specs.List.{flat_map}
use Rattle.tn_io.specs.Outs.{Prints}
use Rattle.tn_net.specs.Trees.{node_at}
use Rattle.tn_stream.specs.Images.{images_of}
use Rattle.tn_stream.specs.LoadBranches.{site_of}
use Rattle.tn_stream.specs.Waves.{first_of}
use Rattle.tn_stream.specs.Inner.Tables.{child_bytes}
use Rattle.tn_stream.proofs.collects.+emit_wave.Given as goal

-- each call is for a node further behind
abbrev pub decreases-emit_wave : goal.decreases-emit_wave
decreases-emit_wave g l = length l.tree.now.nodes.items - l.k

-- what comes first was emitted, and what the children so far get
abbrev pub invariant-loop-child : goal.invariant-loop-child
invariant-loop-child g l =
    Prints {T = Unit {0}}
    (first_of l.wave (site_of (images_of l.fn.images) (node_at l.fn.tree.nodes.items l.k))
    ++ flat_map (child_bytes l.wave (images_of l.fn.images) l.fn.tree.nodes.items) (take l.child-index l.child-items)) (Ok tt)
    (g.E.Out.printed l.fn.emit) (g.E.Out.printed l.emit) × g.E.Out.goes_on l.fn.emit l.emit
