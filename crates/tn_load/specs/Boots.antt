-- Boots: a stream loads a network, whatever the memories held and in whatever order the steps come.
use Rattle.std.specs.Prelude.{◌≡◌, ◌↔◌, ◌⊎◌, ℕ, ◌-◌, ◌<◌, ◌≤◌, true, false, List, [], ◌∷◌, ◌++◌, map, length, All, None, slice_index}
use Rattle.std.specs.Prelude.{slice_index_or}
use Rattle.tn_word.specs.Words.{most_neg, load_base}
use Rattle.tn_net.specs.Networks.{NetworkState, IsPairing}
use Rattle.tn_net.specs.Trees.{LoadNode, IsLoadTree}
use Rattle.tn_net.specs.WholeTrees.{IsWholeTree}
use Rattle.tn_stream.specs.Images.{SegmentBytes, ImageBytes, AreImages}
use Rattle.tn_stream.specs.PlainImages.{end, IsPlain}
use Rattle.tn_stream.specs.Streams.{stream, one_processor}
use Rattle.tn_stream.specs.Lengths.{load_steps}
use Rattle.tn_stream.specs.LoadBranches.{no_image, whole_branch}
use Rattle.tn_node.specs.Nodes.{NodeState}
use Rattle.tn_network.specs.declared.picks.Pick.{Pick}
use Rattle.tn_network.specs.Boards.{BoardState, at_node}
use Rattle.tn_network.specs.Holds.{HoldState, entry_of}
use Rattle.tn_network.specs.NodeOps.{stands_at}
use Rattle.tn_network.specs.Loads.{StandsIn, IsLoaded}
use Rattle.tn_network.specs.Nets.{NetState, memory_ops}
use Rattle.tn_network.specs.PickLists.{AreEnabled, after, AtRest}
use Rattle.tn_network.specs.Resets.{PowerState, AreSized, reset_net}
use Rattle.tn_load.specs.Targets.{placed_all, targets_of}

-- the image of a processor, and what its memory held at power-up
abbrev pub image_at : List ImageBytes → ℕ → ImageBytes
image_at images p = slice_index_or images p no_image

abbrev pub no_power : PowerState
no_power = record { bytes = []; error = false; halt = false }

abbrev pub power_at : List PowerState → ℕ → PowerState
power_at powers p = slice_index_or powers p no_power

-- an image for each processor of a network, which its memory can hold beside the loader
pub record AreFor (network : NetworkState) (images : List ImageBytes) : Type 0 where
  pub count : length images ≡ length network.sizes
  pub segments : AreImages images
  pub plain : (p : ℕ) → p < length network.sizes → IsPlain (slice_index network.sizes p) (image_at images p)

-- ---- runs of a network

-- the network after power-up: every processor in reset, the host with bytes to send, and each processor to
-- be held at its entry
abbrev pub entries_of : List ImageBytes → List ℕ
entries_of images = map (λ image. image.entry) images

abbrev pub held_at : List ImageBytes → HoldState
held_at images = record { entries = entries_of images; held = true }

abbrev pub begun : NetworkState → List ImageBytes → List PowerState → List ℕ → NetState
begun network images powers bytes = reset_net network powers bytes (entries_of images)

-- each pick is enabled when it comes
abbrev pub Runs : NetState → List Pick → Type 0
Runs n picks = AreEnabled memory_ops n.board.network n.holds n.board.state picks

-- the state behind the picks, and that no pick is enabled there
abbrev pub state_behind : NetState → List Pick → BoardState (NodeState (List ℕ))
state_behind n picks = after memory_ops n.board.network n.board.state picks

abbrev pub Rests : NetState → List Pick → Type 0
Rests n picks = AtRest memory_ops n.board.network n.holds (state_behind n picks)

-- ---- the claim

-- Loading ends: picks in any order end at rest exactly where they are so many; then all is loaded, and the
-- state is one and the same.
pub record IsLive (n : NetState) (images : List ImageBytes) (steps : ℕ) : Type 0 where
  pub rest : (picks : List Pick) → Runs n picks → Rests n picks ↔ (length picks ≡ steps)
  pub loaded :
      (picks : List Pick) → Runs n picks → length picks ≡ steps → IsLoaded (λ memory. memory) (state_behind n picks) (targets_of images)
  pub one :
      (picks others : List Pick) → Runs n picks → Runs n others → length picks ≡ steps → length others ≡ steps
      → state_behind n picks ≡ state_behind n others

-- an address is in none of some segments
abbrev pub IsOutside : ℕ → List SegmentBytes → Type 0
IsOutside address segments = All (λ s. (address < s.base) ⊎ (end s ≤ address)) segments

-- the memory of a processor
abbrev pub memory_at : BoardState (NodeState (List ℕ)) → ℕ → List ℕ
memory_at s p = at_node [] (λ node. node.cpu.memory) s.nodes p

-- Loading is tidy: from LOAD_BASE on, what is outside the segments of the images is then as at power-up.
abbrev pub IsTidy : NetState → List ImageBytes → List PowerState → ℕ → Type 0
IsTidy n images powers steps =
    (picks : List Pick) → Runs n picks → length picks ≡ steps → (p address : ℕ) → p < length images → load_base ≤ address
    → IsOutside address (image_at images p).segments
    → slice_index (memory_at (state_behind n picks) p) (address - most_neg) ≡ slice_index (power_at powers p).bytes (address - most_neg)

-- Loading is safe: picks in any order are at most so many, and whenever a processor stands at its entry, the
-- image of every processor is whole.
pub record IsSafe (n : NetState) (images : List ImageBytes) (steps : ℕ) : Type 0 where
  pub bound : (picks : List Pick) → Runs n picks → length picks ≤ steps
  pub whole :
      (picks : List Pick) → Runs n picks → (p q : ℕ) → p < length images → q < length images
      → at_node false (λ node. stands_at (entry_of n.holds p) node) (state_behind n picks).nodes p ≡ true
      → All (StandsIn (memory_at (state_behind n picks) q)) (placed_all (image_at images q).segments)

-- A stream loads a network in so many steps, and any beginning of it is safe, whatever the memories, Error
-- and HaltOnError are at power-up.
pub record Loads (network : NetworkState) (images : List ImageBytes) (powers : List PowerState) (bytes : List ℕ) (steps : ℕ) : Type 0 where
  pub live : IsLive (begun network images powers bytes) images steps
  pub tidy : IsTidy (begun network images powers bytes) images powers steps
  pub safe : (held rest : List ℕ) → bytes ≡ held ++ rest → IsSafe (begun network images powers held) images steps

abbrev pub Boots : NetworkState → List ImageBytes → List ℕ → ℕ → Type 0
Boots network images bytes steps = (powers : List PowerState) → AreSized powers network → Loads network images powers bytes steps

-- The loading theorem: the stream of the load tree of any network, and of any plain images for it, loads
-- the network, in the number of steps that the tree tells.
abbrev pub Loading : Type 0
Loading =
    (network : NetworkState) (nodes : List LoadNode) (images : List ImageBytes) → IsPairing network → IsLoadTree network nodes
    → IsWholeTree nodes (length network.sizes) → AreFor network images
    → Boots network images (stream (whole_branch images nodes)) (load_steps images nodes)

-- the one node of a network of one processor that boots by link k
abbrev pub alone_node : ℕ → LoadNode
alone_node k = record { processor = 0; parent = None; parent_link = 0; boot_link = k; children = [] }

-- The same for any single processor: the stream of one that boots by the link that the host is wired to.
abbrev pub LoadingOne : Type 0
LoadingOne =
    (network : NetworkState) (image : ImageBytes) → IsPairing network → length network.sizes ≡ 1 → AreFor network (image ∷ [])
    → Boots network (image ∷ []) (stream (one_processor network.root_link image))
    (load_steps (image ∷ []) (alone_node network.root_link ∷ []))
