use Rattle.std.proofs.Common.{◌≤◌, length}
use Rattle.tn_stream.specs.Images.{images_of}
use Rattle.tn_stream.specs.Inner.Tables.{HasLengths}
use Rattle.tn_stream.proofs.length_tables.lengths.Given as goal

-- the nodes from k on have their lengths in the table
abbrev pub invariant-loop-k : goal.invariant-loop-k
invariant-loop-k l = HasLengths (images_of l.images) l.tree.nodes.items l.k l.table × (l.k ≤ length l.tree.nodes.items)

abbrev pub decreases-loop-k : goal.decreases-loop-k
decreases-loop-k l = l.k
