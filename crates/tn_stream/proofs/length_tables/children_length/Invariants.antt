use Rattle.std.proofs.Common.{◌≡◌, take}
use Rattle.std.specs.Prelude.{sum_by}
use Rattle.tn_stream.specs.Inner.Tables.{child_length_in}
use Rattle.tn_stream.proofs.length_tables.children_length.Given as goal

-- the bytes for the children so far
abbrev pub invariant-loop-child : goal.invariant-loop-child
invariant-loop-child l = l.length ≡ sum_by (child_length_in l.wave l.table) (take l.child-index l.children)
