-- Streams of small trees, against numbers that were worked out by hand. Each processor has the four
-- bytes 45 D1 60 0E as its code.
use Rattle.std.proofs.Common.{◌≡◌, ℕ, List, [], ◌∷◌, length, map, take, drop, Some, None, refl}
use Rattle.tn_net.specs.Trees.{LoadNode}
use Rattle.tn_loader.specs.Primary.{primary_bytes}
use Rattle.tn_loader.specs.Secondary.{secondary_bytes}
use Rattle.tn_loader.specs.Commands.{command_bytes}
use Rattle.tn_stream.specs.Images.{ImageBytes}
use Rattle.tn_stream.specs.LoadBranches.{hung, branches_from, branch_at, whole_branch}
use Rattle.tn_stream.specs.Lengths.{bytes_received, load_steps}
use Rattle.tn_stream.specs.Branches.{Branch}
use Rattle.tn_stream.specs.Branches.Children.{none, child}
use Rattle.tn_stream.specs.Streams.{Site, wave, wave_below, stream}

-- a processor that boots by a link
abbrev site : ℕ → Site
site k = record {
  boot = k;
  image = record {
    segments = record { base = 0x80000400; bytes = 0x45 ∷ 0xD1 ∷ 0x60 ∷ 0x0E ∷ [] } ∷ [];
    entry = 0x80000400;
    wptr = 0x80000444;
  };
}

-- a root whose link 1 leads to link 2 of a child
abbrev pair : Branch Site
pair = record { root = site 0; below = child 1 (site 2) none none }

-- a root whose link 1 leads to a child with a child of its own, and whose link 3 leads to another child
abbrev ring : Branch Site
ring = record { root = site 0; below = child 1 (site 3) (child 1 (site 3) none none) (child 3 (site 1) none none) }

-- one processor gets 157 bytes
pub length-stream_single : length (stream (record { root = site 0; below = none })) ≡ 157
unfolding stream wave wave_below primary_bytes secondary_bytes command_bytes
length-stream_single = refl

-- two get 350
pub length-stream_pair : length (stream pair) ≡ 350
unfolding stream wave wave_below primary_bytes secondary_bytes command_bytes
length-stream_pair = refl

-- of which the first FORWARD, behind the root's own load, sends the child's load of 133 bytes on link 1
pub stream_pair_forwards : take 12 (drop 133 (stream pair)) ≡ 0x01 ∷ 0x00 ∷ 0x00 ∷ 0x00 ∷ 0x04 ∷ 0x00 ∷ 0x00 ∷ 0x80 ∷ 0x85 ∷ 0x00 ∷ 0x00
    ∷ 0x00 ∷ []
unfolding stream wave wave_below primary_bytes secondary_bytes command_bytes
stream_pair_forwards = refl

-- and four get 736
pub length-stream_ring : length (stream ring) ≡ 736
unfolding stream wave wave_below primary_bytes secondary_bytes command_bytes
length-stream_ring = refl

-- ---- the same by lists of nodes

abbrev image : ImageBytes
image = (site 0).image

abbrev leaf : ℕ → ℕ → ℕ → ℕ → LoadNode
leaf processor parent link boot =
    record { processor = processor; parent = Some parent; parent_link = link; boot_link = boot; children = [] }

abbrev pair_nodes : List LoadNode
pair_nodes = record { processor = 0; parent = None; parent_link = 0; boot_link = 0; children = 1 ∷ [] } ∷ leaf 1 0 1 2 ∷ []

abbrev ring_nodes : List LoadNode
ring_nodes =
    record { processor = 0; parent = None; parent_link = 0; boot_link = 0; children = 1 ∷ 3 ∷ [] }
    ∷ record { processor = 1; parent = Some 0; parent_link = 1; boot_link = 3; children = 2 ∷ [] } ∷ leaf 2 1 1 3 ∷ leaf 3 0 3 1 ∷ []

abbrev ring_images : List ImageBytes
ring_images = image ∷ image ∷ image ∷ image ∷ []

-- the branch of the ring's nodes is the ring
pub branch_ring : whole_branch ring_images ring_nodes ≡ ring
unfolding branches_from hung
branch_ring = refl

-- its processors get 736, 350, 157 and 157 bytes
pub received_ring : map (λ k. bytes_received (branch_at ring_images ring_nodes k)) (0 ∷ 1 ∷ 2 ∷ 3 ∷ []) ≡ 736 ∷ 350 ∷ 157 ∷ 157 ∷ []
unfolding branches_from hung wave wave_below primary_bytes secondary_bytes command_bytes
received_ring = refl

-- and take 3,625 steps; two processors take 1,351
pub steps_ring : load_steps ring_images ring_nodes ≡ 3625
unfolding branches_from hung wave wave_below primary_bytes secondary_bytes command_bytes
steps_ring = refl

pub steps_pair : load_steps (image ∷ image ∷ []) pair_nodes ≡ 1351
unfolding branches_from hung wave wave_below primary_bytes secondary_bytes command_bytes
steps_pair = refl
