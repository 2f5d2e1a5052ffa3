-- A memory follows a guarded one that it covers.
use Rattle.std.proofs.Common.{
  ◌≡◌,
  ℕ,
  ◌+◌,
  ◌-◌,
  ◌<◌,
  ◌≤◌,
  Bool,
  true,
  false,
  List,
  [],
  ◌∷◌,
  length,
  Ok,
  Err,
  refl,
  sym,
  ap,
  ◌∙◌,
  ◌⊎◌,
  inl,
  inr,
  arith,
}
use Rattle.std.specs.Prelude.{⊤, ◌&&◌, if◌then◌else◌}
use Rattle.std.specs.Int.{w32, to_le_bytes, from_le_bytes}
use Rattle.std.proofs.lemmas.Bool.Decides.{nat_tests}
use Rattle.tn_mem.specs.declared.touches.Touch.TheVariants.{Code}
use Rattle.tn_mem.specs.Memories.{
  reachable,
  allows_block,
  allows_word,
  answer_if,
  put,
  block,
  fetch,
  store_byte,
  load,
  store,
  test_block,
  copy_block,
  plain_access,
}
use Rattle.tn_mem.specs.Guards.{Guarded, meets, unless_met, over, guarded}
use Rattle.tn_mem.proofs.Puts.{
  IsInside,
  byte_at,
  length-put,
  length-block,
  byte_at-put_below,
  byte_at-put_above,
  byte_at-put_inside,
  same_block,
  block-none,
  put-none,
}
use Rattle.tn_mem.proofs.Allowed.{inside-reachable, inside-word, block_cases}
use Rattle.tn_cpu.specs.Following.{answers_like, Follows}
use Rattle.tn_sym.specs.Inner.Covers.{IsApart, Covers}

-- an access that both memories allow is like where it doesn't meet the region
guards : {X Y : Type 0} (Rel : X → Y → Type 0) (s : Guarded) (a n : ℕ) (test : Bool) (x : X) (y : Y) →
    (test ≡ true → meets s.from s.to a n ≡ false → Rel x y) → answers_like Rel (answer_if test x) (unless_met s a n (answer_if test y))
guards Rel s a n false x y h = refl
guards Rel s a n true x y h = by_met (meets s.from s.to a n) (h refl)
  where
    by_met : (met : Bool) → (met ≡ false → Rel x y) → answers_like Rel (Ok x) (if met then Err Code else Ok y)
    by_met true g = refl
    by_met false g = (x, refl, g refl)

guards_over : {X : Type 0} (Rel : X → Guarded → Type 0) (s : Guarded) (a n : ℕ) (test : Bool) (x : X) (y : List ℕ) →
    (test ≡ true → meets s.from s.to a n ≡ false → Rel x (record s { bytes = y })) → answers_like Rel (answer_if test x)
    (unless_met s a n (over s (answer_if test y)))
guards_over Rel s a n false x y h = refl
guards_over Rel s a n true x y h = guards Rel s a n true x (record s { bytes = y }) h

guards_copy : {X : Type 0} (Rel : X → Guarded → Type 0) (s : Guarded) (from to n : ℕ) (test : Bool) (x : X) (y : List ℕ) →
    (test ≡ true → meets s.from s.to from n ≡ false → meets s.from s.to to n ≡ false → Rel x (record s { bytes = y })) → answers_like
    Rel (answer_if test x) (unless_met s from n (unless_met s to n (over s (answer_if test y))))
guards_copy Rel s from to n false x y h = refl
guards_copy Rel s from to n true x y h = by_met (meets s.from s.to to n) (λ e f. h refl f e)
  where
    by_met : (met : Bool) → (met ≡ false → meets s.from s.to from n ≡ false → Rel x (record s { bytes = y })) → answers_like Rel (Ok x)
        (unless_met s from n (if met then Err Code else Ok (record s { bytes = y })))
    by_met true g = refl
    by_met false g = guards Rel s from n true x (record s { bytes = y }) (λ e. g refl)

-- each byte of a block that doesn't meet the region is outside it, and each of the region is below or above the block
apart-meets : (from to a n i : ℕ) → meets from to a n ≡ false → i < n → IsApart from to (a + i)
apart-meets from to a n i e below = grind (arith, nat_tests)

apart-first : (from to a : ℕ) → meets from to a 1 ≡ false → IsApart from to a
apart-first from to a e = grind (arith, nat_tests)

beside-meets : (from to a n x : ℕ) → meets from to a n ≡ false → from ≤ x → x < to → (x < a) ⊎ (a + n ≤ x)
beside-meets from to a n x e low high = grind (arith, nat_tests)

where_is : (a n x : ℕ) → (x < a) ⊎ ((a + n ≤ x) ⊎ ((a ≤ x) × (x < a + n)))
where_is a n x = grind arith

both_true : (a b : Bool) → a && b ≡ true → (a ≡ true) × (b ≡ true)
both_true true b e = (refl, e)
both_true false b e = cc

module _ (code : List ℕ) (from to : ℕ) (m : List ℕ) (n : Guarded) (c : Covers code from to m n) where
  apart : (a k : ℕ) → meets n.from n.to a k ≡ false → meets from to a k ≡ false
  apart a k e = rw (c.first, c.end) at e

  same_bytes : (a k : ℕ) → IsInside n.bytes a k → meets n.from n.to a k ≡ false → block m a k ≡ block n.bytes a k
  same_bytes a k inside e =
      same_block m n.bytes a a k (record { low = inside.low; high = omega (arith, inside.high, c.size) }) inside
      (λ i below. c.outside (a + i) (omega (arith, inside.low)) (apart-meets from to a k i (apart a k e) below))

  same_byte : (a : ℕ) → IsInside n.bytes a 1 → meets n.from n.to a 1 ≡ false → byte_at m a ≡ byte_at n.bytes a
  same_byte a inside e = c.outside a inside.low (apart-first from to a (apart a 1 e))

  -- a write of the same bytes outside the region
  covers-put : (a : ℕ) (bytes : List ℕ) → IsInside n.bytes a (length bytes) → meets n.from n.to a (length bytes) ≡ false → Covers code
      from to (put m a bytes) (record n { bytes = put n.bytes a bytes })
  covers-put a bytes inside e =
      let inside_m : IsInside m a (length bytes) = record { low = inside.low; high = omega (arith, inside.high, c.size) } in
      record {
        first = c.first;
        end = c.end;
        size = length-put m a bytes inside_m ∙ (c.size ∙ sym (length-put n.bytes a bytes inside));
        whole = length-put m a bytes inside_m ∙ c.whole;
        outside = λ x low is. elim (where_is a (length bytes) x) [
          | inl below ↦ byte_at-put_below m a bytes x inside_m low below ∙
              (c.outside x low is ∙ sym (byte_at-put_below n.bytes a bytes x inside low below))
          | inr rest ↦ elim rest [
            | inl above ↦ byte_at-put_above m a bytes x inside_m above ∙
                (c.outside x low is ∙ sym (byte_at-put_above n.bytes a bytes x inside above))
            | inr within ↦
                let at : a + (x - a) ≡ x = omega (arith, within.0) in
                let below : x - a < length bytes = omega (arith, within.0, within.1) in
                rw at at (byte_at-put_inside m a bytes (x - a) inside_m below ∙ sym
                (byte_at-put_inside n.bytes a bytes (x - a) inside below))
          ]
        ];
        inside = λ x low f t. elim (beside-meets from to a (length bytes) x (apart a (length bytes) e) f t) [
          | inl below ↦ byte_at-put_below m a bytes x inside_m low below ∙ c.inside x low f t
          | inr above ↦ byte_at-put_above m a bytes x inside_m above ∙ c.inside x low f t
        ];
      }

  covers-copy : (source target k : ℕ) → allows_block (length n.bytes) source k ≡ true → allows_block (length n.bytes) target k ≡ true →
      meets n.from n.to source k ≡ false → meets n.from n.to target k ≡ false → Covers code from to (put m target (block m source k))
      (record n { bytes = put n.bytes target (block n.bytes source k) })
  covers-copy source target k read written e f =
      elim (block_cases (length n.bytes) source k read) [
        | inl is_none ↦ rw (is_none, block-none m source, block-none n.bytes source, put-none m target, put-none n.bytes target) c
        | inr readable ↦ elim (block_cases (length n.bytes) target k written) [
          | inl is_none ↦ rw (is_none, block-none m source, block-none n.bytes source, put-none m target, put-none n.bytes target) c
          | inr writable ↦
              let inside = inside-reachable n.bytes source k readable in
              let long = length-block n.bytes source k inside in
              rw (same_bytes source k inside e)
              (covers-put target (block n.bytes source k) (rw long (inside-reachable n.bytes target k writable)) (rw long f))
        ]
      ]

pub covers_follows : (code : List ℕ) (from to : ℕ) → Follows plain_access guarded (Covers code from to)
unfolding fetch store_byte load store test_block copy_block
covers_follows code from to =
    let Like = Covers code from to in
    record {
      byte = λ m n a c. record {
        says = rw c.size (guards (λ (x y : ℕ). x ≡ y) n a 1 (reachable (length n.bytes) a 1) (byte_at m a)
            (byte_at n.bytes a) (λ e f. same_byte code from to m n c a (inside-reachable n.bytes a 1 e) f));
      };
      set_byte = λ m n a v c. record {
        says = rw c.size (guards_over Like n a 1 (reachable (length n.bytes) a 1) (put m a (v ∷ []))
            (put n.bytes a (v ∷ [])) (λ e f. covers-put code from to m n c a (v ∷ []) (inside-reachable n.bytes a 1 e) f));
      };
      word = λ m n a c. record {
        says = rw c.size (guards (λ (x y : ℕ). x ≡ y) n a 4 (allows_word (length n.bytes) a)
            (from_le_bytes w32 (block m a 4)) (from_le_bytes w32 (block n.bytes a 4))
            (λ e f. ap (from_le_bytes w32) (same_bytes code from to m n c a 4 (inside-word n.bytes a e) f)));
      };
      set_word = λ m n a v c. record {
        says = rw c.size (guards_over Like n a 4 (allows_word (length n.bytes) a)
            (put m a (to_le_bytes w32 v)) (put n.bytes a (to_le_bytes w32 v))
            (λ e f. covers-put code from to m n c a (to_le_bytes w32 v) (inside-word n.bytes a e) f));
      };
      block = λ m n a k c. record {
        says = rw c.size (guards (λ (x y : ⊤). ⊤) n a k (allows_block (length n.bytes) a k) tt tt
            (λ e f. tt));
      };
      source = λ m n a k c. record {
        says = rw c.size (guards (λ (x y : ⊤). ⊤) n a k (allows_block (length n.bytes) a k) tt tt
            (λ e f. tt));
      };
      copy = λ m n source target k c. record {
        says = rw c.size
            (guards_copy Like n source target k (allows_block (length n.bytes) source k && allows_block (length n.bytes) target k)
            (put m target (block m source k)) (put n.bytes target (block n.bytes source k))
            (λ e f g. let both = both_true _ _ e in covers-copy code from to m n c source target k both.0 both.1 f g));
      };
    }
