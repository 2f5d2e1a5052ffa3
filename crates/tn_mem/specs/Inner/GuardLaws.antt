-- A guarded memory keeps the laws of spaces.
use Rattle.std.specs.Prelude.{◌≡◌, ℕ, ◌+◌, ◌-◌, ◌<◌, slice_index, ◌%◌, ◌==◌, Bool, true, false, if◌then◌else◌, List, length}
use Rattle.std.specs.Prelude.{Option, Some, None, Result, Ok, Err, is_ok, refl}
use Rattle.std.proofs.Common.{sym, ap, ◌∙◌, subst, arith}
use Rattle.std.specs.Result.{result_err}
use Rattle.tn_mem.specs.declared.touches.Touch.{Touch}
use Rattle.tn_mem.specs.declared.touches.Touch.TheVariants.{Outside, Code}
use Rattle.tn_mem.specs.Spaces.{SameExtents, ReadsBytes, IsSpace, first_refusal}
use Rattle.tn_mem.specs.Memories.{most_neg, reachable, fetch, store_byte, load, store, test_block, copy_block}
use Rattle.tn_mem.specs.Guards.{Guarded, meets, unless_met, over, guarded}
use Rattle.tn_mem.specs.Inner.AccessTests.{meets-part, meets-empty, answer_if-allowed, allowed-answer_if}
use Rattle.tn_mem.specs.Inner.Reads.{BytesWhere}
use Rattle.tn_mem.specs.Inner.MemoryLaws.{plain_lawful, refusal-store, same_by_length, length-store_byte, length-store}
use Rattle.tn_mem.specs.Inner.MemoryLaws.{length-copy_block, bytes-store_byte, bytes-store, bytes-copy_block, bytes-load}
use Rattle.tn_mem.specs.Inner.MemoryLaws.{load-unaligned}

-- a refusal of the memory, or else Code where the access meets the region
abbrev or_code : Bool → Option Touch → Option Touch
or_code met None = if met then Some Code else None
or_code met (Some touch) = Some touch

refusal-unless_met :
    {X : Type 0} (s : Guarded) (a n : ℕ) (r : Result X Touch)
    → result_err (unless_met s a n r) ≡ or_code (meets s.from s.to a n) (result_err r)
refusal-unless_met s a n (Ok x) = tested (meets s.from s.to a n)
  where
    tested : (met : Bool) → result_err (if met then Err Code else Ok x) ≡ (if met then Some Code else None)
    tested true = refl
    tested false = refl
refusal-unless_met s a n (Err touch) = refl

refusal-over : (s : Guarded) (r : Result (List ℕ) Touch) → result_err (over s r) ≡ result_err r
refusal-over s (Ok bytes) = refl
refusal-over s (Err touch) = refl

allowed_code : {X : Type 0} (met : Bool) (y x : X) → (if met then Err Code else Ok y) ≡ Ok x → (met ≡ false) × (y ≡ x)
allowed_code true y x e = cc
allowed_code false y x e = (refl, cc)

-- what an answer says: the region is not met, and the memory answers the same
pub allowed-unless_met :
    {X : Type 0} (s : Guarded) (a n : ℕ) (r : Result X Touch) (x : X) → unless_met s a n r ≡ Ok x
    → (meets s.from s.to a n ≡ false) × (r ≡ Ok x)
allowed-unless_met s a n (Ok y) x e = let h = allowed_code (meets s.from s.to a n) y x e in (h.0, ap Ok h.1)
allowed-unless_met s a n (Err touch) x e = cc

pub unless_met-apart : {X : Type 0} (s : Guarded) (a n : ℕ) (r : Result X Touch) → meets s.from s.to a n ≡ false → unless_met s a n r ≡ r
unless_met-apart s a n (Ok x) apart = rw apart refl
unless_met-apart s a n (Err touch) apart = refl

pub answer-over :
    (s t : Guarded) (r : Result (List ℕ) Touch) → over s r ≡ Ok t → (bytes : List ℕ) × (r ≡ Ok bytes) × (t ≡ record s { bytes = bytes })
answer-over s t (Ok bytes) e = (bytes, refl, cc)
answer-over s t (Err touch) e = cc

-- the region guards the same addresses after a store
same_guarded : (s : Guarded) (bytes : List ℕ) → length bytes ≡ length s.bytes → SameExtents guarded s (record s { bytes = bytes })
same_guarded s bytes e =
    let same = same_by_length s.bytes bytes e in
    record {
      byte = λ a. kept a 1 (fetch bytes a) (fetch s.bytes a) (same.byte a);
      word = λ a. kept a 4 (load bytes a) (load s.bytes a) (same.word a);
      block = λ a n. kept a n (test_block bytes a n) (test_block s.bytes a n) (same.block a n);
      source = λ a n. kept a n (test_block bytes a n) (test_block s.bytes a n) (same.source a n);
    }
  where
    kept :
        {X : Type 0} (a n : ℕ) (new old : Result X Touch) → result_err new ≡ result_err old
        → result_err (unless_met (record s { bytes = bytes }) a n new) ≡ result_err (unless_met s a n old)
    kept a n new old h =
        refusal-unless_met (record s { bytes = bytes }) a n new ∙
        (ap (or_code (meets s.from s.to a n)) h ∙ sym (refusal-unless_met s a n old))

stored :
    (s t : Guarded) (a n : ℕ) (r : Result (List ℕ) Touch) → ((bytes : List ℕ) → r ≡ Ok bytes → length bytes ≡ length s.bytes)
    → unless_met s a n (over s r) ≡ Ok t → SameExtents guarded s t
stored s t a n r keeps e =
    let made = answer-over s t r (allowed-unless_met s a n (over s r) t e).1 in
    subst (λ (u : Guarded). SameExtents guarded s u) (sym made.2) (same_guarded s made.0 (keeps made.0 made.1))

-- the refusals of two blocks together
or_code-first_refusal :
    (source target : Bool) (e f : Option Touch)
    → or_code source (or_code target (first_refusal e f)) ≡ first_refusal (or_code source e) (or_code target f)
or_code-first_refusal true true None None = refl
or_code-first_refusal true false None None = refl
or_code-first_refusal false true None None = refl
or_code-first_refusal false false None None = refl
or_code-first_refusal true target None (Some Outside) = refl
or_code-first_refusal true target None (Some Code) = refl
or_code-first_refusal false target None (Some touch) = refl
or_code-first_refusal source target (Some Outside) f = refl
or_code-first_refusal source true (Some Code) None = refl
or_code-first_refusal source false (Some Code) None = refl
or_code-first_refusal source target (Some Code) (Some Outside) = refl
or_code-first_refusal source target (Some Code) (Some Code) = refl

aligned_first :
    (met aligned : Bool) (e : Option Touch)
    → or_code met (if aligned then e else Some Outside) ≡ (if aligned then or_code met e else Some Outside)
aligned_first met true e = refl
aligned_first met false e = refl

pub refusal-set_word : (s : Guarded) (a v : ℕ) → result_err (guarded.set_word s a v) ≡ result_err (guarded.word s a)
refusal-set_word s a v =
    refusal-unless_met s a 4 (over s (store s.bytes a v))
    ∙ (ap (or_code (meets s.from s.to a 4)) (refusal-over s (store s.bytes a v) ∙ refusal-store s.bytes a v)
    ∙ sym (refusal-unless_met s a 4 (load s.bytes a)))

-- what is read of a guarded memory is its bytes outside the region
abbrev Unguarded : Guarded → ℕ → Type 0
Unguarded s a = meets s.from s.to a 1 ≡ false

unguarded-part : (s : Guarded) (a n : ℕ) → meets s.from s.to a n ≡ false → (k : ℕ) → k < n → Unguarded s (a + k)
unguarded-part s a n apart k below = meets-part s.from s.to a n k 1 apart (omega arith)

bytes_where-reads : (s : Guarded) → ReadsBytes guarded s → BytesWhere (Unguarded s) s.bytes
unfolding fetch
bytes_where-reads s reads =
    record {
      byte = λ a apart test.
          let here = slice_index s.bytes (a - most_neg) in
          reads a here (unless_met-apart s a 1 (fetch s.bytes a) apart ∙ answer_if-allowed (reachable (length s.bytes) a 1) here test);
    }

reads_over : (s t : Guarded) (bytes : List ℕ) → t ≡ record s { bytes = bytes } → BytesWhere (Unguarded s) bytes → ReadsBytes guarded t
unfolding fetch
reads_over s t bytes is are a v e =
    let at_t : guarded.byte (record s { bytes = bytes }) a ≡ Ok v = subst (λ (u : Guarded). guarded.byte u a ≡ Ok v) is e in
    let h = allowed-unless_met (record s { bytes = bytes }) a 1 (fetch bytes a) v at_t in
    let inside = allowed-answer_if (reachable (length bytes) a 1) (slice_index bytes (a - most_neg)) v h.1 in
    omega (arith, inside.1, are.byte a h.0 inside.0)

pub guarded_lawful : IsSpace guarded
guarded_lawful =
    record {
      empty_block = λ s a. unless_met-apart s a 0 (test_block s.bytes a 0) (meets-empty s.from s.to a) ∙ plain_lawful.empty_block s.bytes a;
      part = λ s a n k j whole within.
          let h = allowed-unless_met s a n (test_block s.bytes a n) tt whole in
          unless_met-apart s (a + k) j (test_block s.bytes (a + k) j) (meets-part s.from s.to a n k j h.0 within)
          ∙ plain_lawful.part s.bytes a n k j h.1 within;
      source_part = λ s a n k j whole within.
          let h = allowed-unless_met s a n (test_block s.bytes a n) tt whole in
          unless_met-apart s (a + k) j (test_block s.bytes (a + k) j) (meets-part s.from s.to a n k j h.0 within)
          ∙ plain_lawful.part s.bytes a n k j h.1 within;
      source_end =
          λ s a n some whole. plain_lawful.source_end s.bytes a n some (allowed-unless_met s a n (test_block s.bytes a n) tt whole).1;
      source_of_block = λ s a n h. h;
      source_as_block = λ s a n. refl;
      unaligned_word = λ s a unaligned. ap (λ (r : Result ℕ Touch). unless_met s a 4 r) (load-unaligned s.bytes a unaligned);
      word_below = λ s a w reads e.
          let h = allowed-unless_met s a 4 (load s.bytes a) w e in
          bytes-load (Unguarded s) s.bytes a w (unguarded-part s a 4 h.0) (bytes_where-reads s reads) h.1;
      set_byte_bytes = λ s t a v fits reads e.
          let made = answer-over s t (store_byte s.bytes a v) (allowed-unless_met s a 1 (over s (store_byte s.bytes a v)) t e).1 in
          reads_over s t made.0 made.2 (bytes-store_byte (Unguarded s) s.bytes made.0 a v fits (bytes_where-reads s reads) made.1);
      set_word_bytes = λ s t a v reads e.
          let made = answer-over s t (store s.bytes a v) (allowed-unless_met s a 4 (over s (store s.bytes a v)) t e).1 in
          reads_over s t made.0 made.2 (bytes-store (Unguarded s) s.bytes made.0 a v (bytes_where-reads s reads) made.1);
      copy_bytes = λ s t from to count reads e.
          let r = over s (copy_block s.bytes from to count) in
          let source = allowed-unless_met s from count (unless_met s to count r) t e in
          let made = answer-over s t (copy_block s.bytes from to count) (allowed-unless_met s to count r t source.1).1 in
          let unmet = unguarded-part s from count source.0 in
          reads_over s t made.0 made.2
          (bytes-copy_block (Unguarded s) s.bytes made.0 from to count unmet (bytes_where-reads s reads) made.1);
      byte_of_source = λ s a n k whole below.
          let h = allowed-unless_met s a n (test_block s.bytes a n) tt whole in
          ap is_ok (unless_met-apart s (a + k) 1 (fetch s.bytes (a + k)) (meets-part s.from s.to a n k 1 h.0 (omega arith)))
          ∙ plain_lawful.byte_of_source s.bytes a n k h.1 below;
      word_of_block = λ s a aligned whole.
          let h = allowed-unless_met s a 4 (test_block s.bytes a 4) tt whole in
          ap is_ok (unless_met-apart s a 4 (load s.bytes a) h.0) ∙ plain_lawful.word_of_block s.bytes a aligned h.1;
      set_byte_as_block = λ s a v.
          refusal-unless_met s a 1 (over s (store_byte s.bytes a v))
          ∙ (ap (or_code (meets s.from s.to a 1)) (refusal-over s (store_byte s.bytes a v) ∙ plain_lawful.set_byte_as_block s.bytes a v)
          ∙ sym (refusal-unless_met s a 1 (test_block s.bytes a 1)));
      set_word_as_block = λ s a v.
          refusal-unless_met s a 4 (over s (store s.bytes a v))
          ∙ (ap (or_code (meets s.from s.to a 4)) (refusal-over s (store s.bytes a v) ∙ plain_lawful.set_word_as_block s.bytes a v)
          ∙ (aligned_first (meets s.from s.to a 4) (a % 4 == 0) (result_err (test_block s.bytes a 4))
          ∙ ap (λ (e : Option Touch). if a % 4 == 0 then e else Some Outside) (sym (refusal-unless_met s a 4 (test_block s.bytes a 4)))));
      copy_as_blocks = λ s from to n.
          let r = over s (copy_block s.bytes from to n) in
          let source = meets s.from s.to from n in
          let target = meets s.from s.to to n in
          let e = result_err (test_block s.bytes from n) in
          let f = result_err (test_block s.bytes to n) in
          refusal-unless_met s from n (unless_met s to n r)
          ∙ (ap (or_code source)
          (refusal-unless_met s to n r ∙ ap (or_code target)
          (refusal-over s (copy_block s.bytes from to n) ∙ plain_lawful.copy_as_blocks s.bytes from to n))
          ∙ (or_code-first_refusal source target e f
          ∙ sym
          (ap (λ (x : Option Touch). first_refusal x (result_err (unless_met s to n (test_block s.bytes to n))))
          (refusal-unless_met s from n (test_block s.bytes from n))
          ∙ ap (λ (x : Option Touch). first_refusal (or_code source e) x) (refusal-unless_met s to n (test_block s.bytes to n)))));
      set_byte_keeps = λ s t a v e. stored s t a 1 (store_byte s.bytes a v) (λ bytes h. length-store_byte s.bytes bytes a v h) e;
      set_word_keeps = λ s t a v e. stored s t a 4 (store s.bytes a v) (λ bytes h. length-store s.bytes bytes a v h) e;
      copy_keeps = λ s t from to count e.
          stored s t to count (copy_block s.bytes from to count) (λ bytes h. length-copy_block s.bytes bytes from to count h)
          (allowed-unless_met s from count (unless_met s to count (over s (copy_block s.bytes from to count))) t e).1;
    }
