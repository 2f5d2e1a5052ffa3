-- Images that pass the checks can be loaded.
use Rattle.std.proofs.Common.{◌≡◌, inl, inr, ℕ, ◌+◌, ◌%◌, ◌^◌, ◌<◌, ◌≤◌, Bool, true, false, List, [], ◌∷◌, length}
use Rattle.std.proofs.Common.{All, refl, sym, ap, ◌∙◌, subst, arith, filter, if◌then◌else◌}
use Rattle.std.specs.Prelude.{◌==◌}
use Rattle.std.proofs.lemmas.Bool.{eqb-false, not-true}
use Rattle.std.proofs.lemmas.Bool.Decides.{nat_tests}
use Rattle.std.proofs.lemmas.List.Elements.{All-cons, All-nil}
use Rattle.tn_text.specs.declared.limits.TheConstants.{CELL_LIMIT, CODE_LIMIT}
use Rattle.tn_word.specs.Words.{most_neg, load_base}
use Rattle.tn_config.specs.Configurations.{BlockState}
use Rattle.tn_stream.specs.Images.{SegmentBytes, ImageBytes, IsSegment, IsImage}
use Rattle.tn_image.specs.Images.{IsInRange, segment, segments, argument_bytes, has_bytes}
use Rattle.tn_stream.specs.PlainImages.{LiesIn, AreApart, AreAllApart, IsPlain}
use Rattle.tn_image.proofs.Laws.{argument-length}
use Rattle.tn_image.proofs.Passing.{HavePassed, code-end, cells-within, arguments-within, code-cells, code-arguments, cells-arguments}

-- what holds without a segment, and with it where it has bytes, holds where it is left out if it has none
kept : (P : List SegmentBytes → Type 0) (s : SegmentBytes) (ss : List SegmentBytes) → P (filter has_bytes ss)
    → (0 < length s.bytes → P (s ∷ filter has_bytes ss)) → P (filter has_bytes (s ∷ ss))
kept P s ss left_out taken = by (has_bytes s) refl
  where
    by : (t : Bool) → has_bytes s ≡ t → P (filter has_bytes (s ∷ ss))
    by true e = subst P (sym (ap (λ t. if t then s ∷ filter has_bytes ss else filter has_bytes ss) e)) (taken (some e))
      where
        some : has_bytes s ≡ true → 0 < length s.bytes
        some e = let d = eqb-false (length s.bytes) 0 (not-true (length s.bytes == 0) e) in omega (arith, d)
    by false e = subst P (sym (ap (λ t. if t then s ∷ filter has_bytes ss else filter has_bytes ss) e)) left_out

-- segments as they are to be in a memory of so many bytes
record Good (size most : ℕ) (ss : List SegmentBytes) : Type 0 where
  pub few : length ss ≤ most
  pub segments : All IsSegment ss
  pub inside : All (LiesIn size) ss
  pub apart : AreAllApart ss

none-good : (size : ℕ) → Good size 0 []
none-good size = record { few = omega arith; segments = All-nil IsSegment; inside = All-nil (LiesIn size); apart = tt }

one-more : (size most : ℕ) (s : SegmentBytes) (ss : List SegmentBytes) → Good size most (filter has_bytes ss)
    → (0 < length s.bytes → IsSegment s × LiesIn size s × All (AreApart s) (filter has_bytes ss))
    → Good size (most + 1) (filter has_bytes (s ∷ ss))
one-more size most s ss g h = kept (Good size (most + 1)) s ss
    (record { few = omega (arith, g.few); segments = g.segments; inside = g.inside; apart = g.apart })
    (λ some. (let f = h some in record {
      few = omega (arith, g.few);
      segments = All-cons IsSegment s (filter has_bytes ss) f.0 g.segments;
      inside = All-cons (LiesIn size) s (filter has_bytes ss) f.1 g.inside;
      apart = (f.2, g.apart);
    }))

module _ (b : BlockState) (range : IsInRange b) (code cells : List ℕ) (short_code : length code ≤ CODE_LIMIT)
    (few_cells : length cells ≤ CELL_LIMIT) (passed : HavePassed b (length code) (length cells)) where
  abbrev arguments : List ℕ
  arguments = argument_bytes b.args

  arguments-some : 0 < length arguments → 0 < length b.args
  arguments-some h = omega (arith, h, argument-length b.args)

  arguments-inside : 0 < length arguments → (load_base ≤ b.wptr) × (b.wptr + length arguments ≤ most_neg + b.size)
  arguments-inside h =
      let w = arguments-within b (length code) (length cells) passed (arguments-some h) in (
        w.0,
        omega
            (arith, w.1, argument-length b.args),
      )

  size-le : b.size ≤ 1048576
  size-le = let s = range.size in grind (arith, nat_tests, s)

  last-good : Good b.size 1 (filter has_bytes (segment b.wptr arguments ∷ []))
  last-good = one-more b.size 0 (segment b.wptr arguments) [] (none-good b.size) (λ h. (
    record { some = h; bounded = (let w = arguments-inside h in omega (arith, w.0, w.1, size-le)) },
    record { some = h; low = (arguments-inside h).0; high = (arguments-inside h).1 },
    All-nil (AreApart (segment b.wptr arguments)),
  ))

  cells-good : Good b.size 2 (filter has_bytes (segment b.cells cells ∷ segment b.wptr arguments ∷ []))
  cells-good = one-more b.size 1 (segment b.cells cells) (segment b.wptr arguments ∷ []) last-good (λ h. (
    record { some = h; bounded = omega (arith, few_cells) },
    (let w = cells-within b (length code) (length cells) passed h in record { some = h; low = w.0; high = w.1 }),
    kept (All (AreApart (segment b.cells cells))) (segment b.wptr arguments) [] (All-nil (AreApart (segment b.cells cells)))
        (λ x. All-cons (AreApart (segment b.cells cells)) (segment b.wptr arguments) []
        (elim (cells-arguments b (length code) (length cells) passed h (arguments-some x)) [
          | inl l ↦ inl l
          | inr g ↦ inr (omega (arith, g, argument-length b.args))
        ]) (All-nil (AreApart (segment b.cells cells)))),
  ))

  all-good : Good b.size 3 (segments b code cells)
  all-good =
      one-more b.size 2 (segment b.code code) (segment b.cells cells ∷ segment b.wptr arguments ∷ []) cells-good (λ h. (
        record { some = h; bounded = omega (arith, short_code) },
        record { some = h; low = passed.code_base; high = code-end b (length code) (length cells) passed h },
        kept (All (AreApart (segment b.code code))) (segment b.cells cells) (segment b.wptr arguments ∷ [])
            (from-arguments h)
            (λ x. All-cons (AreApart (segment b.code code)) (segment b.cells cells) (filter has_bytes (segment b.wptr arguments ∷ []))
            (code-cells b (length code) (length cells) passed h x) (from-arguments h)),
      ))
    where
      from-arguments : 0 < length code → All (AreApart (segment b.code code)) (filter has_bytes (segment b.wptr arguments ∷ []))
      from-arguments h = kept (All (AreApart (segment b.code code))) (segment b.wptr arguments) []
          (All-nil (AreApart (segment b.code code)))
          (λ x. All-cons (AreApart (segment b.code code)) (segment b.wptr arguments) []
          (elim (code-arguments b (length code) (length cells) passed h (arguments-some x)) [
            | inl l ↦ inl l
            | inr g ↦ inr (omega (arith, g, argument-length b.args))
          ]) (All-nil (AreApart (segment b.code code))))

  -- an image of these segments
  module _ (i : ImageBytes) (is : i.segments ≡ segments b code cells) where
    good : Good b.size 3 i.segments
    good = subst (Good b.size 3) (sym is) all-good

    pub network-image : IsImage i
    network-image = record { few = good.few; segments = good.segments }

    pub plain-image : i.wptr ≡ b.wptr → b.code ≤ i.entry → i.entry < 2 ^ 32 → IsPlain b.size i
    plain-image wptr entry word =
        let low = passed.code_base in let r = range.wptr in record {
          inside = good.inside;
          apart = good.apart;
          entry = omega (arith, low, entry);
          entry_is_word = word;
          wptr_is_word = below-word;
          aligned = ap (λ w. w % 4) wptr ∙ passed.wptr_aligned;
        }
      where
        below-word : i.wptr < 2 ^ 32
        below-word = let r = range.wptr in grind (arith, nat_tests, r, wptr)
