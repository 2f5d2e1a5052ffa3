-- Images of processors, as contracts see them.
use Rattle.std.specs.Prelude.{ℕ, ◌^◌, ◌<◌, ◌≤◌, List, length, map, All}
use Rattle.tn_stream.specs.declared.images.Segment.{Segment}
use Rattle.tn_stream.specs.declared.images.Image.{Image}

-- bytes and the address of the first
pub record SegmentBytes : Type 0 where
  pub base : ℕ
  pub bytes : List ℕ

-- the segments of an image, the address of its first instruction, and its workspace pointer
pub record ImageBytes : Type 0 where
  pub segments : List SegmentBytes
  pub entry : ℕ
  pub wptr : ℕ

-- what contracts see of a segment
abbrev pub segment_of : Segment → SegmentBytes
segment_of s = record { base = s.base; bytes = s.bytes.items }

-- what contracts see of segments
abbrev pub segments_of : List Segment → List SegmentBytes
segments_of segments = map segment_of segments

-- what contracts see of an image
abbrev pub image_of : Image → ImageBytes
image_of i = record { segments = segments_of i.segments.items; entry = i.entry; wptr = i.wptr }

-- a segment that a LOAD can carry: not empty, and of fewer than 2 ^ 30 bytes
pub record IsLoadable (s : SegmentBytes) : Type 0 where
  pub some : 0 < length s.bytes
  pub bounded : length s.bytes < 2 ^ 30

-- every segment can be carried
abbrev pub AreLoadable : List SegmentBytes → Type 0
AreLoadable segments = All IsLoadable segments

-- the most bytes of a segment of a processor in a network, and the most segments
abbrev pub segment_limit : ℕ
segment_limit = 1048576

-- a segment of a processor in a network: not empty, and of at most so many bytes
pub record IsSegment (s : SegmentBytes) : Type 0 where
  pub some : 0 < length s.bytes
  pub bounded : length s.bytes ≤ segment_limit

-- an image of a processor in a network has at most three segments
pub record IsImage (i : ImageBytes) : Type 0 where
  pub few : length i.segments ≤ 3
  pub segments : All IsSegment i.segments

-- what contracts see of images
abbrev pub images_of : List Image → List ImageBytes
images_of images = map image_of images

abbrev pub AreImages : List ImageBytes → Type 0
AreImages images = All IsImage images
