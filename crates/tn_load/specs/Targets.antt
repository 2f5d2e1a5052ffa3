-- What a processor holds once its image is loaded.
use Rattle.std.specs.Prelude.{List, map}
use Rattle.tn_network.specs.Loads.{PlacedBytes, Target}
use Rattle.tn_stream.specs.Images.{SegmentBytes, ImageBytes}

abbrev pub placed : SegmentBytes → PlacedBytes
placed s = record { base = s.base; bytes = s.bytes }

abbrev pub placed_all : List SegmentBytes → List PlacedBytes
placed_all segments = map placed segments

-- The loader's RUN leaves in Areg the address behind its last instruction and in Breg the workspace
-- pointer with which it ran; Creg is 0.
abbrev pub target_of : ImageBytes → Target
target_of i =
    record {
      pieces = placed_all i.segments;
      entry = i.entry;
      wptr = i.wptr;
      a = 0x80000131;
      b = 0x80000200;
      c = 0;
    }

abbrev pub targets_of : List ImageBytes → List Target
targets_of images = map target_of images
