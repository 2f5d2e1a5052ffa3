-- What boots a single processor with code.
use Rattle.std.specs.Prelude.{ℕ, ◌+◌, ◌*◌, ◌/◌, List, [], ◌∷◌, length}
use Rattle.tn_word.specs.Words.{load_base}
use Rattle.tn_stream.specs.Images.{SegmentBytes, ImageBytes}
use Rattle.tn_stream.specs.Streams.{one_processor, stream}

-- the workspace pointer: sixteen words above the first word boundary at or behind the code's end
abbrev pub workspace_above : List ℕ → ℕ
workspace_above code = load_base + 4 * ((length code + 3) / 4) + 64

-- one segment, or none where there is no code
abbrev pub code_segments : List ℕ → List SegmentBytes
code_segments [] = []
code_segments (byte ∷ bytes) = record { base = load_base; bytes = byte ∷ bytes } ∷ []

-- the code at the least address that an image may use, where it also begins
abbrev pub code_image : List ℕ → ImageBytes
code_image code = record { segments = code_segments code; entry = load_base; wptr = workspace_above code }

-- the stream that loads the code through a link and starts it
unfoldable pub boot_stream : ℕ → List ℕ → List ℕ
boot_stream link code = stream (one_processor link (code_image code))
