-- The acts of a processor of a tree, from its power-up to its entry, and what they leave in its memory.
use Rattle.std.specs.Prelude.{⊤, ℕ, zero, suc, ◌≡◌, ◌-◌, ◌/◌, ◌<◌, ◌%◌, ◌^◌, ◌==◌, List, [], ◌∷◌, ◌++◌, length}
use Rattle.std.specs.Prelude.{map, replicate, take, drop, if◌then◌else◌}
use Rattle.std.specs.List.{flat_map, AllByRecursion}
use Rattle.tn_word.specs.Words.{bytes_of_word}
use Rattle.tn_word.specs.Channels.{out_channel_of}
use Rattle.tn_mem.specs.Memories.{put}
use Rattle.tn_loader.specs.Commands.{load_command, forward_command, run_command, nop_command}
use Rattle.tn_loader.specs.Primary.{primary_bytes}
use Rattle.tn_loader.specs.Secondary.{secondary_bytes}
use Rattle.tn_net.specs.Trees.{LoadNode}
use Rattle.tn_stream.specs.Images.{SegmentBytes, ImageBytes}
use Rattle.tn_stream.specs.PlainImages.{LiesIn}
use Rattle.tn_stream.specs.LoadBranches.{branch_at}
use Rattle.tn_stream.specs.Branches.{Children}
use Rattle.tn_stream.specs.Branches.Children.{none, child}
use Rattle.tn_stream.specs.Streams.{Site, own_load, wave_below, nothing, nop_of, run_of}
use Rattle.tn_load.specs.Acts.{Act}
use Rattle.tn_load.specs.Acts.Act.{Step, Takes, Sends, Acks}

-- bytes taken, and bytes sent
abbrev pub takes : List ℕ → List Act
takes bytes = map Takes bytes

abbrev pub sends : ℕ → List ℕ → List Act
sends l [] = []
sends l (byte ∷ bytes) = Sends l byte ∷ (Acks l ∷ sends l bytes)

-- so many byte steps
abbrev pub steps : ℕ → List Act
steps n = replicate n Step

-- the acts of the loop that sends bytes by a link, with q chunks of 128 bytes before the last one
unfoldable pub forward_loop : ℕ → ℕ → List ℕ → List Act
forward_loop zero l bytes = steps 11 ++ (takes bytes ++ (steps 4 ++ (sends l bytes ++ steps 11)))
forward_loop (suc q) l bytes =
    steps 13 ++ (takes (take 128 bytes) ++ (steps 4 ++ (sends l (take 128 bytes) ++ (steps 9 ++ forward_loop q l (drop 128 bytes)))))

-- the acts that bring the loader in: a bootstrap, and the secondary behind its length
abbrev pub loader_acts : ℕ → List Act
loader_acts k = (Takes 57 ∷ takes (primary_bytes k)) ++
    (steps 33 ++ (takes (bytes_of_word 55) ++ (steps 9 ++ (takes secondary_bytes ++ steps 19))))

-- the commands
abbrev pub load_acts : SegmentBytes → List Act
load_acts s = takes (load_command s.base (length s.bytes)) ++ (steps 7 ++ (takes s.bytes ++ steps 6))

abbrev pub loads_acts : List SegmentBytes → List Act
loads_acts segments = flat_map load_acts segments

abbrev pub forward_acts : ℕ → List ℕ → List Act
forward_acts l bytes = takes (forward_command (out_channel_of l) (length bytes)) ++
    (steps 7 ++ forward_loop ((length bytes - 1) / 128) l bytes)

abbrev pub nop_acts : List Act
nop_acts = takes nop_command ++ steps 15

abbrev pub run_acts : ImageBytes → List Act
run_acts image = takes (run_command image.entry image.wptr) ++ steps 17

-- a FORWARD to each child
module _ {A : Type 0} (first last : A → List ℕ) where
  -- what a child gets
  abbrev pub part : A → Children A → List ℕ
  part here below = first here ++ wave_below first last below ++ last here

  unfoldable pub forwards_acts : Children A → List Act
  forwards_acts none = []
  forwards_acts (child link here below others) = forward_acts link (part here below) ++ forwards_acts others

  -- what the child at a link gets
  unfoldable pub part_at : ℕ → Children A → List ℕ
  part_at l none = []
  part_at l (child link here below others) = (if link == l then part here below else []) ++ part_at l others

-- all acts of a processor
unfoldable pub life : Site → Children Site → List Act
life site below =
    loader_acts site.boot
    ++ (loads_acts site.image.segments
    ++ (forwards_acts own_load nothing below
    ++ (forwards_acts nothing nop_of below
    ++ (nop_acts
    ++ (forwards_acts nothing run_of below
    ++ run_acts site.image)))))

-- a memory with the segments of an image in it
unfoldable pub with_segments : List SegmentBytes → List ℕ → List ℕ
with_segments [] m = m
with_segments (s ∷ rest) m = with_segments rest (put m s.base s.bytes)

-- segments that lie in a memory of so many bytes
abbrev pub LieIn : ℕ → List SegmentBytes → Type 0
LieIn size segments = AllByRecursion (LiesIn size) segments

-- an image that can run in such a memory
pub record Fits (size : ℕ) (image : ImageBytes) : Type 0 where
  pub segments : LieIn size image.segments
  pub entry : image.entry < 2 ^ 32
  pub wptr : image.wptr < 2 ^ 32
  pub aligned : image.wptr % 4 ≡ 0

-- each child hangs at a link
abbrev pub AreLinked : {A : Type 0} → Children A → Type 0
AreLinked none = ⊤
AreLinked (child link here below others) = (link < 4) × AreLinked others

-- the acts of the processor of the node at a place
abbrev pub acts_at : List ImageBytes → List LoadNode → ℕ → List Act
acts_at images nodes k = life (branch_at images nodes k).root (branch_at images nodes k).below
