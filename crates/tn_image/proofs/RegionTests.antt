-- What the tests of regions tell of addresses.
use Rattle.std.proofs.Common.{◌≡◌, ◌⊎◌, inl, inr, ℕ, ◌<◌, ◌≤◌, Bool, true, false, ◌||◌, refl, arith}
use Rattle.std.specs.Prelude.{max, min, nat_le, ◌==◌}
use Rattle.std.proofs.lemmas.Bool.{cases_lt, cases_eq, lt-ltb, ltb-true, ltb-false, leb-true}
use Rattle.std.proofs.lemmas.Bool.{leb-false, eqb-true, eqb-false, not-true, not-false}
use Rattle.std.proofs.lemmas.Bool.{or_parts, or_cases, and_cases, and_parts}
use Rattle.tn_word.specs.Words.{load_base}
use Rattle.tn_image.specs.declared.regions.Extent.{Extent}
use Rattle.tn_image.specs.Regions.{IsIn, overlap, is_outside, lies_below, AreApart, IsInside, AreTestsOfAddresses}

-- ---- numbers

-- the lower of two ends and the higher of two beginnings
low_end : (a b x : ℕ) → x < min a b → (x < a) × (x < b)
low_end a b x h = (omega (arith, h), omega (arith, h))

high_start : (a b x : ℕ) → max a b ≤ x → (a ≤ x) × (b ≤ x)
high_start a b x h = (omega (arith, h), omega (arith, h))

-- where a test of a region fails
pub inside-parts : (end : ℕ) (e : Extent) → is_outside end e ≡ false → (e.from ≡ e.to) ⊎ ((load_base ≤ e.from) × (e.to ≤ end))
inside-parts end e h = elim (or_cases (e.from == e.to) (lies_below end e) (not-false (e.from == e.to || lies_below end e) h)) [
  | inl same ↦ inl (eqb-true e.from e.to same)
  | inr below ↦ (let p = and_parts (nat_le load_base e.from) (nat_le e.to end) below in
      inr (leb-true load_base e.from p.0, leb-true e.to end p.1))
]

pub outside-parts : (end : ℕ) (e : Extent) → is_outside end e ≡ true → (e.from ≡ e.to → ⊥) × ((e.from < load_base) ⊎ (end < e.to))
outside-parts end e h =
    let p = or_parts (e.from == e.to) (lies_below end e) (not-true (e.from == e.to || lies_below end e) h) in (
      eqb-false e.from e.to p.0,
      elim (and_cases (nat_le load_base e.from) (nat_le e.to end) p.1) [
        | inl low ↦ inl (leb-false load_base e.from low)
        | inr high ↦ inr (leb-false e.to end high)
      ],
    )

-- ---- addresses

pub apart-from : (one two : Extent) → overlap one two ≡ false → AreApart one two
apart-from one two h a x y = omega (arith, ltb-false (max one.from two.from) (min one.to two.to) h, x.from, x.to, y.from, y.to)

pub inside-from : (end : ℕ) (e : Extent) → is_outside end e ≡ false → IsInside end e
inside-from end e h a x = elim (inside-parts end e h) [
  | inl same ↦ absurd (omega (arith, same, x.from, x.to))
  | inr p ↦ (omega (arith, p.0, x.from), omega (arith, p.1, x.to))
]

pub tests_of_addresses : (one two : Extent) → AreTestsOfAddresses one two
tests_of_addresses one two = record {
  overlap = (
    λ h. (let l : max one.from two.from < min one.to two.to = ltb-true (max one.from two.from) (min one.to two.to) h in (
      max one.from two.from,
      record { from = omega arith; to = omega (arith, l) },
      record { from = omega arith; to = omega (arith, l) },
    )),
    λ (a, x, y). lt-ltb (max one.from two.from) (min one.to two.to) (omega (arith, x.from, x.to, y.from, y.to)),
  );
  outside = λ end order. (λ h. address end order (outside-parts end one h), λ (a, x, o). is end (is_outside end one) refl a x o);
}
  where
    address : (end : ℕ) → one.from ≤ one.to → (one.from ≡ one.to → ⊥) × ((one.from < load_base) ⊎ (end < one.to))
        → (a : ℕ) × IsIn a one × ((a < load_base) ⊎ (end ≤ a))
    address end order (some, inl low) = (
      one.from,
      record {
        from = omega arith;
        to = elim (cases_eq one.from one.to) [
          | inl e ↦ absurd (some e)
          | inr e ↦ elim (cases_lt one.from one.to) [ inl l ↦ l | inr g ↦ absurd (e (omega (arith, g, order))) ]
        ];
      },
      inl low,
    )
    address end order (some, inr high) = elim (cases_lt end one.from) [
      | inl l ↦ (
        one.from,
        record {
          from = omega arith;
          to = elim (cases_lt one.from one.to) [
            | inl l ↦ l
            | inr g ↦ absurd (some (omega (arith, g, order)))
          ];
        },
        inr (omega (arith, l)),
      )
      | inr g ↦ (end, record { from = g; to = high }, inr (omega arith))
    ]

    is : (end : ℕ) (b : Bool) → is_outside end one ≡ b → (a : ℕ) → IsIn a one → (a < load_base) ⊎ (end ≤ a) → is_outside end one ≡ true
    is end true e a x o = e
    is end false e a x o = let p = inside-from end one e a x in elim o [
      | inl low ↦ absurd (omega (arith, low, p.0))
      | inr high ↦ absurd (omega (arith, high, p.1))
    ]
