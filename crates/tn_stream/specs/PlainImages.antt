-- Images that a processor's memory can hold beside the loader.
use Rattle.std.specs.Prelude.{◌≡◌, ⊤, ℕ, ◌+◌, ◌%◌, ◌^◌, ◌<◌, ◌≤◌, ◌⊎◌, List, [], ◌∷◌, length, All}
use Rattle.tn_word.specs.Words.{most_neg, load_base}
use Rattle.tn_stream.specs.Images.{SegmentBytes, ImageBytes}

-- the address after the last of a segment
abbrev pub end : SegmentBytes → ℕ
end s = s.base + length s.bytes

-- a segment with bytes, all of them from the least address of an image on, in a memory of so many bytes
pub record LiesIn (size : ℕ) (s : SegmentBytes) : Type 0 where
  pub some : 0 < length s.bytes
  pub low : load_base ≤ s.base
  pub high : end s ≤ most_neg + size

-- one segment ends before the other begins
abbrev pub AreApart : SegmentBytes → SegmentBytes → Type 0
AreApart s t = (end s ≤ t.base) ⊎ (end t ≤ s.base)

-- each segment is apart from those after it
abbrev pub AreAllApart : List SegmentBytes → Type 0
AreAllApart [] = ⊤
AreAllApart (s ∷ ss) = All (AreApart s) ss × AreAllApart ss

-- The image can be loaded into such a memory: its segments lie there, no two share an address, and it
-- begins at a word that is no address of the loader, with an aligned word as its workspace pointer.
pub record IsPlain (size : ℕ) (i : ImageBytes) : Type 0 where
  pub inside : All (LiesIn size) i.segments
  pub apart : AreAllApart i.segments
  pub entry : load_base ≤ i.entry
  pub entry_is_word : i.entry < 2 ^ 32
  pub wptr_is_word : i.wptr < 2 ^ 32
  pub aligned : i.wptr % 4 ≡ 0
