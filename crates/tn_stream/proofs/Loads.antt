-- The segments of an image one after the other.
use Rattle.std.proofs.Common.{◌≡◌, ℕ, ◌+◌, ◌<◌, List, ◌++◌, length, get_or, take, drop, All, sym, ap, subst, ◌∙◌, arith}
use Rattle.std.proofs.lemmas.Grind.{common_steps}
use Rattle.std.proofs.lemmas.List.{get_or-map, length-map, map-append, take-append-drop}
use Rattle.std.proofs.lemmas.List.Concat.{flat_map-append}
use Rattle.std.proofs.lemmas.List.Elements.{All-get_or}
use Rattle.tn_stream.specs.declared.images.Segment.{Segment}
use Rattle.tn_stream.specs.Images.{SegmentBytes, segment_of, segments_of}
use Rattle.tn_stream.specs.Streams.{load_of, loads_of}

-- what holds of each of some segments holds of the one at an index
pub segment-at : (P : SegmentBytes → Type 0) (segments : List Segment) (i : ℕ) (s : Segment) → All P (segments_of segments)
    → i < length segments → s ≡ get_or segments i s → P (segment_of s)
segment-at P segments i s all inside is =
    let there : get_or (segments_of segments) i (segment_of s) ≡ segment_of s =
    get_or-map segment_of segments i s (segment_of s) inside ∙ ap segment_of (sym is) in
    subst P there (All-get_or P (segments_of segments) i (segment_of s) (omega (arith, length-map segments segment_of)) all)

-- a segment more is a LOAD more
pub loads_of-more : (segments : List Segment) (i : ℕ) (s : Segment) → i < length segments → s ≡ get_or segments i s
    → loads_of (segments_of (take (i + 1) segments)) ≡ loads_of (segments_of (take i segments)) ++ load_of (segment_of s)
loads_of-more segments i s inside is = grind (arith, common_steps)

-- the LOADs of some segments, with that of the one at an index apart
pub loads-split : (segments : List Segment) (i : ℕ) (s : Segment) → i < length segments → s ≡ get_or segments i s
    → loads_of (segments_of segments)
    ≡ (loads_of (segments_of (take i segments)) ++ load_of (segment_of s)) ++ loads_of (segments_of (drop (i + 1) segments))
loads-split segments i s inside is =
    ap (λ ss. loads_of (segments_of ss)) (sym (take-append-drop (i + 1) segments))
    ∙ (ap loads_of (map-append segment_of (take (i + 1) segments) (drop (i + 1) segments))
    ∙ (flat_map-append load_of (segments_of (take (i + 1) segments)) (segments_of (drop (i + 1) segments))
    ∙ ap (λ xs. xs ++ loads_of (segments_of (drop (i + 1) segments))) (loads_of-more segments i s inside is)))
