-- How many bytes each processor gets, and how many steps loading takes.
use Rattle.std.specs.Prelude.{ℕ, ◌+◌, ◌-◌, ◌*◌, ◌/◌, List, length, map, sum_by}
use Rattle.std.specs.List.{enumerate_from}
use Rattle.tn_net.specs.Trees.{LoadNode}
use Rattle.tn_stream.specs.declared.length_tables.NodeLengths.{NodeLengths}
use Rattle.tn_stream.specs.Images.{ImageBytes}
use Rattle.tn_stream.specs.Branches.{Branch}
use Rattle.tn_stream.specs.Streams.{Site, load_part, sync_part, start_part}
use Rattle.tn_stream.specs.LoadBranches.{site_of, branches, branch_at}

-- the lengths of a branch's parts of the stream
abbrev pub lengths_of : Branch Site → NodeLengths
lengths_of branch =
    record { load = length (load_part branch); sync = length (sync_part branch); start = length (start_part branch) }

-- those of all nodes, in load order
abbrev pub all_lengths : List ImageBytes → List LoadNode → List NodeLengths
all_lengths images nodes = map (λ x. lengths_of x.1) (branches images nodes)

-- how many bytes the processor at the root of a branch gets by its boot link
abbrev pub bytes_received : Branch Site → ℕ
bytes_received branch = length (load_part branch) + length (sync_part branch) + length (start_part branch)

-- the steps of a FORWARD of so many bytes, which go on in chunks of at most 128
abbrev pub forward_steps : ℕ → ℕ
forward_steps n = 33 + 26 * ((n + 127) / 128 - 1)

-- the steps of the three FORWARDs to a child whose parts have these lengths
abbrev pub steps_to : NodeLengths → ℕ
steps_to lengths = forward_steps lengths.load + forward_steps lengths.sync + forward_steps lengths.start

-- the steps of the processor of a node: each byte that it gets is sent and taken; the primary and the
-- commands run; each segment is a LOAD; each child has its FORWARDs
abbrev pub node_steps : List ImageBytes → List LoadNode → ℕ → LoadNode → ℕ
node_steps images nodes k node =
    2 * bytes_received (branch_at images nodes k) + 57 + 13 * length (site_of images node).image.segments + 36
    + sum_by (λ c. steps_to (lengths_of (branch_at images nodes c))) node.children

-- the steps of all
abbrev pub load_steps : List ImageBytes → List LoadNode → ℕ
load_steps images nodes = sum_by (λ x. node_steps images nodes x.0 x.1) (enumerate_from 0 nodes)
