-- The stream that loads a branch of processors and starts them.
use Rattle.std.specs.Prelude.{ℕ, List, [], ◌∷◌, ◌++◌, length}
use Rattle.std.specs.List.{flat_map}
use Rattle.tn_word.specs.Words.{bytes_of_word}
use Rattle.tn_word.specs.Channels.{out_channel_of}
use Rattle.tn_loader.specs.Primary.{primary_bytes}
use Rattle.tn_loader.specs.Secondary.{secondary_bytes}
use Rattle.tn_loader.specs.Commands.{load_command, forward_command, run_command, nop_command}
use Rattle.tn_stream.specs.Images.{SegmentBytes, ImageBytes}
use Rattle.tn_stream.specs.Branches.{Children, Branch, alone}
use Rattle.tn_stream.specs.Branches.Children.{none, child}

-- a processor to be loaded: the link that it boots by, and its image
pub record Site : Type 0 where
  pub boot : ℕ
  pub image : ImageBytes

-- a branch of one processor
abbrev pub one_processor : ℕ → ImageBytes → Branch Site
one_processor k image = alone (record { boot = k; image = image })

-- bytes that go on by a link, behind the command to send so many
abbrev pub forwarded : ℕ → List ℕ → List ℕ
forwarded link bytes = forward_command (out_channel_of link) (length bytes) ++ bytes

module _ {A : Type 0} (first last : A → List ℕ) where
  -- what the children of a node get: each its own part, behind a FORWARD
  unfoldable pub wave_below : Children A → List ℕ
  wave_below none = []
  wave_below (child link here below others) =
      forwarded link (first here ++ wave_below below ++ last here) ++ wave_below others

  -- what a branch gets: the first bytes of its root, what its children get, and the last bytes of its root
  unfoldable pub wave : Branch A → List ℕ
  wave branch = first branch.root ++ wave_below branch.below ++ last branch.root

-- the loader for a boot by link k: the primary behind its length, and the secondary behind its own
abbrev pub loader : ℕ → List ℕ
loader k = 57 ∷ primary_bytes k ++ bytes_of_word 55 ++ secondary_bytes

-- a LOAD with the bytes of a segment
abbrev pub load_of : SegmentBytes → List ℕ
load_of s = load_command s.base (length s.bytes) ++ s.bytes

-- a LOAD for each segment
abbrev pub loads_of : List SegmentBytes → List ℕ
loads_of segments = flat_map load_of segments

-- what loads a processor itself
abbrev pub own_load : Site → List ℕ
own_load site = loader site.boot ++ loads_of site.image.segments

-- a wave that has no bytes of its own for a processor
abbrev pub nothing : Site → List ℕ
nothing site = []

-- the command that ends a processor's sync part
abbrev pub nop_of : Site → List ℕ
nop_of site = nop_command

-- the command that starts a processor
abbrev pub run_of : Site → List ℕ
run_of site = run_command site.image.entry site.image.wptr

-- the part that loads all processors of a branch
abbrev pub load_part : Branch Site → List ℕ
load_part branch = wave own_load nothing branch

-- the part that each takes when all before it are loaded, so that none starts before all are whole
abbrev pub sync_part : Branch Site → List ℕ
sync_part branch = wave nothing nop_of branch

-- the part that starts all, a parent after its children
abbrev pub start_part : Branch Site → List ℕ
start_part branch = wave nothing run_of branch

-- the whole stream
unfoldable pub stream : Branch Site → List ℕ
stream branch = load_part branch ++ sync_part branch ++ start_part branch
