-- What the tests of a row give in a space that keeps its laws: a word or a block that is not
-- refused is stored, loaded or copied, and no store changes what is refused.
use Rattle.std.proofs.Common.{◌≡◌, ℕ, ◌%◌, Option, Some, None, Result, Ok, Err, refl, ap, ◌∙◌}
use Rattle.std.proofs.lemmas.Bool.{eqb-true}
use Rattle.std.specs.Prelude.{⊤, IsOk, ◌==◌, if◌then◌else◌, Bool, true, false}
use Rattle.std.specs.Result.{result_err, result_unwrap_or}
use Rattle.tn_mem.specs.declared.touches.Touch.{Touch}
use Rattle.tn_mem.specs.declared.touches.Touch.TheVariants.{Outside}
use Rattle.tn_mem.specs.Spaces.{Access, Leaves, SameExtents, IsSpace}
use Rattle.tn_mem.proofs.SpaceLemmas.{allowed, extents-none}
use Rattle.tn_cpu.specs.Queues.{storable, loadable, block_refusal, source_refusal, stored, copied, word_at}

-- an answer that is not refused is what stands in its place
answer-unwrapped : {X : Type 0} (r : Result X Touch) (other : X) → result_err r ≡ None → r ≡ Ok (result_unwrap_or r other)
answer-unwrapped (Ok x) other e = refl
answer-unwrapped (Err touch) other e = cc

-- a word that is not refused is stored
pub stored-storable :
    {M : Type 0} (access : Access M) (m : M) (a word : ℕ) → IsSpace access → storable access m a ≡ None
    → access.set_word m a word ≡ Ok (stored access m a word)
unfolding storable stored
stored-storable access m a word laws e = answer-unwrapped (access.set_word m a word) m (laws.set_word_as_block m a word ∙ e)

-- and loaded
pub word_at-loadable :
    {M : Type 0} (access : Access M) (m : M) (a : ℕ) → loadable access m a ≡ None → access.word m a ≡ Ok (word_at access m a)
unfolding loadable word_at
word_at-loadable access m a e = answer-unwrapped (access.word m a) 0 e

-- a word that may be stored may be loaded
tested : (test : Bool) (e : Option Touch) → (if test then e else Some Outside) ≡ None → (test ≡ true) × (e ≡ None)
tested true e h = (refl, h)
tested false e h = cc

pub loadable-storable :
    {M : Type 0} (access : Access M) (m : M) (a : ℕ) → IsSpace access → storable access m a ≡ None → loadable access m a ≡ None
unfolding storable loadable
loadable-storable access m a laws e =
    let both = tested (a % 4 == 0) (result_err (access.block m a 4)) e in
    unrefused (access.word m a) (laws.word_of_block m a (eqb-true (a % 4) 0 both.0) (allowed (access.block m a 4) both.1))
  where
    unrefused : (r : Result ℕ Touch) → IsOk r → result_err r ≡ None
    unrefused (Ok x) h = refl
    unrefused (Err touch) h = cc

-- a block that may be read is copied over one that may be stored
pub copied-blocks :
    {M : Type 0} (access : Access M) (m : M) (from to n : ℕ) → IsSpace access → source_refusal access m from n ≡ None
    → block_refusal access m to n ≡ None → access.copy m from to n ≡ Ok (copied access m from to n)
unfolding block_refusal source_refusal copied
copied-blocks access m from to n laws source target =
    answer-unwrapped (access.copy m from to n) m (laws.copy_as_blocks m from to n ∙ rw (source, target) refl)

-- a store leaves the same accesses refused
kept :
    {M : Type 0} (access : Access M) (m : M) (r : Result M Touch) → ((n : M) → r ≡ Ok n → SameExtents access m n)
    → SameExtents access m (result_unwrap_or r m)
kept access m (Ok n) keeps = keeps n refl
kept access m (Err touch) keeps = extents-none access m

pub extents-stored : {M : Type 0} (access : Access M) (m : M) (a word : ℕ) → IsSpace access → SameExtents access m (stored access m a word)
unfolding stored
extents-stored access m a word laws = kept access m (access.set_word m a word) (λ n e. laws.set_word_keeps m n a word e)

-- a call on a space leaves them so, whatever it answers
pub extents-left :
    {M : Type 0} (access : Access M) (result : Result ⊤ Touch) (made : Result M Touch) (old new : M) → Leaves result made old new
    → ((n : M) → made ≡ Ok n → SameExtents access old n) → SameExtents access old new
extents-left access (Ok u) made old new h keeps = keeps new h
extents-left access (Err touch) made old new h keeps = rw (h.1) (extents-none access old)

pub extents-copied :
    {M : Type 0} (access : Access M) (m : M) (from to n : ℕ) → IsSpace access → SameExtents access m (copied access m from to n)
unfolding copied
extents-copied access m from to n laws = kept access m (access.copy m from to n) (λ k e. laws.copy_keeps m k from to n e)

-- so the tests of a row hold after each of its stores
pub storable-after :
    {M : Type 0} (access : Access M) (old new : M) (a : ℕ) → SameExtents access old new → storable access new a ≡ storable access old a
unfolding storable
storable-after access old new a same = ap (λ (e : Option Touch). if a % 4 == 0 then e else Some Outside) (same.block a 4)

pub loadable-after :
    {M : Type 0} (access : Access M) (old new : M) (a : ℕ) → SameExtents access old new → loadable access new a ≡ loadable access old a
unfolding loadable
loadable-after access old new a same = same.word a

pub block_refusal-after :
    {M : Type 0} (access : Access M) (old new : M) (a n : ℕ) → SameExtents access old new
    → block_refusal access new a n ≡ block_refusal access old a n
unfolding block_refusal
block_refusal-after access old new a n same = same.block a n

pub source_refusal-after :
    {M : Type 0} (access : Access M) (old new : M) (a n : ℕ) → SameExtents access old new
    → source_refusal access new a n ≡ source_refusal access old a n
unfolding source_refusal
source_refusal-after access old new a n same = same.source a n
