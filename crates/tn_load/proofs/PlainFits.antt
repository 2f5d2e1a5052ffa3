-- A plain image is one that a processor of its memory can be loaded with.
use Rattle.std.proofs.Common.{inl, inr, ℕ, ◌+◌, ◌<◌, ◌≤◌, List, [], ◌∷◌, length, arith}
use Rattle.std.specs.List.{AllByRecursion}
use Rattle.std.proofs.lemmas.List.Elements.{recursion_from_All}
use Rattle.tn_stream.specs.Images.{SegmentBytes, ImageBytes}
use Rattle.tn_stream.specs.PlainImages.{LiesIn, AreApart as AreTwoApart, AreAllApart, IsPlain}
use Rattle.tn_load.specs.Inner.Lives.{Fits}
use Rattle.tn_load.proofs.Segments.{IsOutside, AreApart}

outside : (s : SegmentBytes) (rest : List SegmentBytes) (x : ℕ) → s.base ≤ x → x < s.base + length s.bytes
    → AllByRecursion (AreTwoApart s) rest
    → IsOutside x rest
outside s [] x low high all = tt
outside s (t ∷ rest) x low high all = (
  elim all.0 [
    | inl before ↦ inl (omega (arith, before, high))
    | inr behind ↦ inr (omega (arith, behind, low))
  ],
  outside s rest x low high all.1,
)

apart-all : (segments : List SegmentBytes) → AreAllApart segments → AreApart segments
apart-all [] all = tt
apart-all (s ∷ rest) all =
    (λ x low high. outside s rest x low high (recursion_from_All (AreTwoApart s) rest all.0), apart-all rest all.1)

pub plain-fits : (size : ℕ) (image : ImageBytes) → IsPlain size image → Fits size image
plain-fits size image plain =
    record {
      segments = recursion_from_All (LiesIn size) image.segments plain.inside;
      entry = plain.entry_is_word;
      wptr = plain.wptr_is_word;
      aligned = plain.aligned;
    }

pub plain-apart : (size : ℕ) (image : ImageBytes) → IsPlain size image → AreApart image.segments
plain-apart size image plain = apart-all image.segments plain.apart
