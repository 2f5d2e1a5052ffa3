use Rattle.std.proofs.Common.{◌≡◌, map, take}
use Rattle.tn_stream.specs.declared.images.Image.{Image}
use Rattle.tn_top.proofs.started_nets.entries_of.Given as goal

-- the entries so far are those of the images so far
abbrev pub invariant-loop-image : goal.invariant-loop-image
invariant-loop-image l = l.entries.items ≡ map (λ (i : Image). i.entry) (take l.image-index l.images)
