-- What the laws of a space give: a block that was allowed once stays so, and each of its bytes can be read and stored.
use Rattle.std.proofs.Common.{◌≡◌, ℕ, ◌+◌, ◌%◌, ◌^◌, ◌<◌, ◌≤◌, Option, Some, None, Result, Ok, Err, refl, ap, sym, ◌∙◌, arith}
use Rattle.std.specs.Prelude.{⊤, ◌==◌, if◌then◌else◌, IsOk}
use Rattle.std.specs.Result.{result_err}
use Rattle.tn_mem.specs.declared.touches.Touch.{Touch}
use Rattle.tn_mem.specs.declared.touches.Touch.TheVariants.{Outside, Code}
use Rattle.tn_mem.specs.Spaces.{Access, Leaves, SameExtents, IsSpace, first_refusal}

-- an answer with no refusal
pub answered : {X : Type 0} (r : Result X Touch) → result_err r ≡ None → IsOk r
answered (Ok x) e = refl
answered (Err touch) e = cc

pub allowed : (r : Result ⊤ Touch) → result_err r ≡ None → r ≡ Ok tt
allowed (Ok u) e = refl
allowed (Err touch) e = cc

no_refusal : {X : Type 0} (r : Result X Touch) → IsOk r → result_err r ≡ None
no_refusal (Ok x) e = refl
no_refusal (Err touch) e = cc

-- two accesses together are refused exactly where one of them is
first_refusal-none : (e f : Option Touch) → first_refusal e f ≡ None → (e ≡ None) × (f ≡ None)
first_refusal-none None f h = (refl, h)
first_refusal-none (Some Outside) f h = cc
first_refusal-none (Some Code) None h = cc
first_refusal-none (Some Code) (Some Outside) h = cc
first_refusal-none (Some Code) (Some Code) h = cc

-- a block that is allowed stays so
pub stays_allowed :
    {M : Type 0} (access : Access M) (old new : M) (a n : ℕ) → SameExtents access old new → access.block old a n ≡ Ok tt
    → access.block new a n ≡ Ok tt
stays_allowed access old new a n same whole =
    allowed (access.block new a n) (same.block a n ∙ ap result_err whole)

pub stays_source :
    {M : Type 0} (access : Access M) (old new : M) (a n : ℕ) → SameExtents access old new → access.source old a n ≡ Ok tt
    → access.source new a n ≡ Ok tt
stays_source access old new a n same whole =
    allowed (access.source new a n) (same.source a n ∙ ap result_err whole)

-- it ends at 2 ^ 32 at most, unless it is empty
pub block_end :
    {M : Type 0} (access : Access M) (m : M) (a n : ℕ) → IsSpace access → 0 < n → access.block m a n ≡ Ok tt → a + n ≤ 2 ^ 32
block_end access m a n laws some whole = laws.source_end m a n some (laws.source_of_block m a n whole)

-- each byte of it can be read and stored
pub byte_readable :
    {M : Type 0} (access : Access M) (m : M) (a n k : ℕ) → IsSpace access → access.block m a n ≡ Ok tt → k < n
    → IsOk (access.byte m (a + k))
byte_readable access m a n k laws whole below =
    laws.byte_of_source m a n k (laws.source_of_block m a n whole) below

pub byte_storable :
    {M : Type 0} (access : Access M) (m : M) (a n k v : ℕ) → IsSpace access → access.block m a n ≡ Ok tt → k < n
    → IsOk (access.set_byte m (a + k) v)
byte_storable access m a n k v laws whole below =
    answered (access.set_byte m (a + k) v) (laws.set_byte_as_block m (a + k) v ∙ ap result_err (laws.part m a n k 1 whole (omega arith)))

-- an aligned word whose block is allowed can be stored
pub word_storable :
    {M : Type 0} (access : Access M) (m : M) (a v : ℕ) → IsSpace access → a % 4 ≡ 0 → access.block m a 4 ≡ Ok tt
    → IsOk (access.set_word m a v)
word_storable access m a v laws aligned whole =
    answered (access.set_word m a v) (laws.set_word_as_block m a v ∙ (rw aligned (ap result_err whole)))

-- a copy is allowed exactly where its source and its target are
pub copy_allowed :
    {M : Type 0} (access : Access M) (m : M) (from to n : ℕ) → IsSpace access → access.source m from n ≡ Ok tt → access.block m to n ≡ Ok tt
    → IsOk (access.copy m from to n)
copy_allowed access m from to n laws source target =
    answered (access.copy m from to n) (laws.copy_as_blocks m from to n ∙ rw (source, target) refl)

pub copy_blocks :
    {M : Type 0} (access : Access M) (m : M) (from to n : ℕ) → IsSpace access → IsOk (access.copy m from to n)
    → (access.source m from n ≡ Ok tt) × (access.block m to n ≡ Ok tt)
copy_blocks access m from to n laws copy =
    let none = first_refusal-none (result_err (access.source m from n)) (result_err (access.block m to n))
    (sym (laws.copy_as_blocks m from to n) ∙ no_refusal (access.copy m from to n) copy) in
    (allowed (access.source m from n) none.0, allowed (access.block m to n) none.1)

-- ---- after a change that kept the extents

pub refusal-set_byte_after :
    {M : Type 0} (access : Access M) (old new : M) (a v w : ℕ) → IsSpace access → SameExtents access old new
    → result_err (access.set_byte new a v) ≡ result_err (access.set_byte old a w)
refusal-set_byte_after access old new a v w laws same =
    laws.set_byte_as_block new a v ∙ (same.block a 1 ∙ sym (laws.set_byte_as_block old a w))

pub refusal-set_word_after :
    {M : Type 0} (access : Access M) (old new : M) (a v w : ℕ) → IsSpace access → SameExtents access old new
    → result_err (access.set_word new a v) ≡ result_err (access.set_word old a w)
refusal-set_word_after access old new a v w laws same =
    laws.set_word_as_block new a v
    ∙ (ap (λ (e : Option Touch). if a % 4 == 0 then e else Some Outside) (same.block a 4)
    ∙ sym (laws.set_word_as_block old a w))

pub refusal-copy_after :
    {M : Type 0} (access : Access M) (old new : M) (from to n : ℕ) → IsSpace access → SameExtents access old new
    → result_err (access.copy new from to n) ≡ result_err (access.copy old from to n)
refusal-copy_after access old new from to n laws same =
    laws.copy_as_blocks new from to n
    ∙ (ap (λ (e : Option Touch). first_refusal e (result_err (access.block new to n))) (same.source from n)
    ∙ (ap (λ (e : Option Touch). first_refusal (result_err (access.source old from n)) e) (same.block to n)
    ∙ sym (laws.copy_as_blocks old from to n)))

pub extents-none : {M : Type 0} (access : Access M) (m : M) → SameExtents access m m
extents-none access m = record { byte = λ a. refl; word = λ a. refl; block = λ a n. refl; source = λ a n. refl }

pub extents-more : {M : Type 0} (access : Access M) (m n k : M) → SameExtents access m n → SameExtents access n k → SameExtents access m k
extents-more access m n k first second =
    record {
      byte = λ a. second.byte a ∙ first.byte a;
      word = λ a. second.word a ∙ first.word a;
      block = λ a count. second.block a count ∙ first.block a count;
      source = λ a count. second.source a count ∙ first.source a count;
    }

-- ---- what a call tells of the store

-- a store that is not refused answers so, and leaves what it makes
pub leaves-stored :
    {M : Type 0} (result : Result ⊤ Touch) (made : Result M Touch) (old new : M) → Leaves result made old new → result_err made ≡ None
    → (result ≡ Ok tt) × (made ≡ Ok new)
leaves-stored (Ok u) made old new h none = (refl, h)
leaves-stored (Err touch) made old new h none = absurd (clash (sym none ∙ ap result_err h.0))
  where
    clash : None ≡ Some touch → ⊥
    clash e = cc

-- a store that is refused answers why, and leaves the space as it was
pub leaves-refused :
    {M : Type 0} (result : Result ⊤ Touch) (made : Result M Touch) (old new : M) (touch : Touch) → Leaves result made old new
    → result_err made ≡ Some touch → (result ≡ Err touch) × (new ≡ old)
leaves-refused (Ok u) made old new touch h why = absurd (clash (ap result_err (sym h) ∙ why))
  where
    clash : None ≡ Some touch → ⊥
    clash e = cc
leaves-refused (Err other) made old new touch h why =
    let same : Some other ≡ Some touch = ap result_err (sym h.0) ∙ why in
    let equal : other ≡ touch = cc in
    (ap Err equal, h.1)
