-- What a whole image is: its segments stand in memory, and all else from LOAD_BASE on is as it was.
use Rattle.std.proofs.Common.{◌≡◌, ◌⊎◌, inl, inr, ℕ, ◌+◌, ◌<◌, ◌≤◌, List, [], ◌∷◌, length, slice_index, refl, ◌∙◌, arith}
use Rattle.tn_word.specs.Words.{most_neg, load_base}
use Rattle.tn_mem.specs.Memories.{put}
use Rattle.tn_mem.proofs.Puts.{IsInside, byte_at, length-put, byte_at-put_below, byte_at-put_above, byte_at-put_inside}
use Rattle.tn_mem.proofs.Frames.{Changed}
use Rattle.tn_stream.specs.Images.{SegmentBytes, ImageBytes}
use Rattle.tn_stream.specs.PlainImages.{LiesIn}
use Rattle.tn_load.specs.Inner.Lives.{with_segments, LieIn}
use Rattle.tn_load.proofs.Lives.{Whole}

-- an address lies in no segment
abbrev pub IsOutside : ℕ → List SegmentBytes → Type 0
IsOutside x [] = Unit {0}
IsOutside x (s ∷ rest) = ((x < s.base) ⊎ (s.base + length s.bytes ≤ x)) × IsOutside x rest

-- no two segments share an address
abbrev pub AreApart : List SegmentBytes → Type 0
AreApart [] = Unit {0}
AreApart (s ∷ rest) = ((x : ℕ) → s.base ≤ x → x < s.base + length s.bytes → IsOutside x rest) × AreApart rest

-- the bytes of segments stand at their bases
abbrev pub Stand : List SegmentBytes → List ℕ → Type 0
Stand [] m = Unit {0}
Stand (s ∷ rest) m = ((i : ℕ) → i < length s.bytes → byte_at m (s.base + i) ≡ slice_index s.bytes i) × Stand rest m

inside-lies : (m : List ℕ) (size : ℕ) (s : SegmentBytes) → length m ≡ size → LiesIn size s → IsInside m s.base (length s.bytes)
inside-lies m size s is lies = record { low = omega (arith, lies.low); high = omega (arith, lies.high) }

pub with_segments-outside : (segments : List SegmentBytes) (m : List ℕ) (size x : ℕ) → length m ≡ size → LieIn size segments
    → most_neg ≤ x → IsOutside x segments → byte_at (with_segments segments m) x ≡ byte_at m x
unfolding with_segments
with_segments-outside [] m size x is lies low out = refl
with_segments-outside (s ∷ rest) m size x is lies low out =
    let inside : IsInside m s.base (length s.bytes) = inside-lies m size s is lies.0 in
    with_segments-outside rest (put m s.base s.bytes) size x (length-put m s.base s.bytes inside ∙ is) lies.1 low out.1
    ∙ elim out.0 [
      | inl below ↦ byte_at-put_below m s.base s.bytes x inside low below
      | inr above ↦ byte_at-put_above m s.base s.bytes x inside above
    ]

pub with_segments-stand : (segments : List SegmentBytes) (m : List ℕ) (size : ℕ) → length m ≡ size → LieIn size segments
    → AreApart segments → Stand segments (with_segments segments m)
unfolding with_segments
with_segments-stand [] m size is lies apart = tt
with_segments-stand (s ∷ rest) m size is lies apart =
    let inside : IsInside m s.base (length s.bytes) = inside-lies m size s is lies.0 in
    let same : length (put m s.base s.bytes) ≡ size = length-put m s.base s.bytes inside ∙ is in
    let low_base : load_base ≤ s.base = lies.0.low in (
      λ i below. with_segments-outside rest (put m s.base s.bytes) size (s.base + i) same lies.1 (omega arith)
          (apart.0 (s.base + i) (omega arith) (omega arith)) ∙ byte_at-put_inside m s.base s.bytes i inside below,
      with_segments-stand rest (put m s.base s.bytes) size same lies.1 apart.1,
    )

stand-changed : (segments : List SegmentBytes) (m n : List ℕ) (size : ℕ) → LieIn size segments → Changed m n 0x80000024 0x80000400
    → Stand segments m → Stand segments n
stand-changed [] m n size lies c stand = tt
stand-changed (s ∷ rest) m n size lies c stand =
    let low_base : load_base ≤ s.base = lies.0.low in
    (λ i below. c.above (s.base + i) (omega arith) (omega arith) ∙ stand.0 i below, stand-changed rest m n size lies.1 c stand.1)

-- the segments of a whole image stand in memory
pub whole-stands : (image : ImageBytes) (m n : List ℕ) → LieIn (length m) image.segments → AreApart image.segments → Whole image m n
    → Stand image.segments n
whole-stands image m n lies apart whole =
    stand-changed image.segments (with_segments image.segments m) n (length m) lies whole
    (with_segments-stand image.segments m (length m) refl lies apart)

-- and all else from LOAD_BASE on is as it was
pub whole-rest : (image : ImageBytes) (m n : List ℕ) (x : ℕ) → LieIn (length m) image.segments → Whole image m n → load_base ≤ x
    → IsOutside x image.segments → byte_at n x ≡ byte_at m x
whole-rest image m n x lies whole low out =
    whole.above x (omega arith) low ∙ with_segments-outside image.segments m (length m) x refl lies (omega arith) out
