use Rattle.std.proofs.Common.{◌≡◌, take}
use Rattle.tn_image.specs.Images.{argument_bytes}
use Rattle.tn_image.proofs.segments.argument_bytes.Given as goal

-- the bytes of the words so far
abbrev pub invariant-loop-word : goal.invariant-loop-word
invariant-loop-word l = l.bytes.items ≡ argument_bytes (take l.word-index l.args)
