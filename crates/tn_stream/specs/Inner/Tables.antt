-- The table of lengths while it is filled, from its last node on.
use Rattle.std.specs.Prelude.{◌≡◌, ℕ, ◌+◌, ◌<◌, ◌≤◌, List, ◌++◌, length, slice_index_or}
use Rattle.tn_text.specs.declared.limits.TheConstants.{PROCESSOR_LIMIT}
use Rattle.tn_word.specs.Channels.{out_channel_of}
use Rattle.tn_loader.specs.Commands.{forward_command}
use Rattle.tn_net.specs.Trees.{LoadNode, node_at}
use Rattle.tn_stream.specs.declared.waves.Wave.{Wave}
use Rattle.tn_stream.specs.declared.waves.Wave.TheVariants as wave
use Rattle.tn_stream.specs.declared.length_tables.NodeLengths.{NodeLengths}
use Rattle.tn_stream.specs.Images.{ImageBytes}
use Rattle.tn_stream.specs.Streams.{loads_of}
use Rattle.tn_stream.specs.LoadBranches.{branch_at}
use Rattle.tn_stream.specs.Lengths.{lengths_of}
use Rattle.tn_stream.specs.Waves.{part_of, length_in}
use Rattle.tn_stream.specs.Inner.LowLengths.{no_lengths}

-- the table has the lengths of the nodes from place k on
pub record HasLengths (images : List ImageBytes) (nodes : List LoadNode) (k : ℕ) (table : List NodeLengths) : Type 0 where
  pub room : length table ≡ PROCESSOR_LIMIT
  pub at : (j : ℕ) → k ≤ j → j < length nodes → slice_index_or table j no_lengths ≡ lengths_of (branch_at images nodes j)

-- how many bytes of a wave are a processor's own
abbrev pub own_length : Wave → ImageBytes → ℕ
own_length wave.Load image = 117 + length (loads_of image.segments)
own_length wave.Sync image = 12
own_length wave.Start image = 12

-- the FORWARD to the node at a place, before its part of a wave
abbrev pub forward_to : Wave → List ImageBytes → List LoadNode → ℕ → List ℕ
forward_to w images nodes c =
    forward_command (out_channel_of (node_at nodes c).parent_link) (length (part_of w (branch_at images nodes c)))

-- the FORWARD to the node at a place and its part of a wave, by the lengths in a table
abbrev pub child_length_in : Wave → List NodeLengths → ℕ → ℕ
child_length_in w table c = 12 + length_in w (slice_index_or table c no_lengths)

-- that FORWARD, and the part behind it
abbrev pub child_bytes : Wave → List ImageBytes → List LoadNode → ℕ → List ℕ
child_bytes w images nodes c = forward_to w images nodes c ++ part_of w (branch_at images nodes c)
