-- Of reading one file.
use Rattle.std.proofs.Common.{◌≡◌, ℕ, ◌+◌, ◌<◌, ◌≤◌, ◌⊎◌, inl, List, length, Option, Some, None, IfSome, IsSomeAnd, Ok, Err, Vec, Global}
use Rattle.tn_text.specs.Counts.{Rose}
use Rattle.tn_io.specs.FileLists.{Files, held}
use Rattle.tn_io.specs.Stores.{Stored, told}
use Rattle.tn_top.specs.declared.refusals.Refusal.TheVariants.{Unread, Limit}
use Rattle.tn_text.specs.declared.limits.TheConstants.{FILE_LIMIT}
use Rattle.tn_text.specs.declared.limits.Limit.TheVariants.{File}
use Rattle.tn_top.specs.Plans.{reads, gives, stays, reads_on, too_long}
use Rattle.tn_top.specs.Inner.Stages.{Unable, Staged}

told_held : (files : Option Files) (name text : List ℕ) → IfSome (told files name) (λ f. f ≡ Some text)
    → IfSome files (λ fs. held fs name ≡ Some text)
told_held None name text h = tt
told_held (Some fs) name text h = h

told_long : (files : Option Files) (name : List ℕ) → IfSome (told files name) (λ f. IsSomeAnd f (λ bs. FILE_LIMIT < length bs))
    → IfSome files (λ fs. IsSomeAnd (held fs name) (λ bs. FILE_LIMIT < length bs))
told_long None name h = tt
told_long (Some fs) name h = h

module _ (name : List ℕ) (before after : Stored) (same : after ≡ record before {
  read_faults =
      after.read_faults;
}) (count : before.read_faults ≤ after.read_faults) where
  pub read-ok : (text : Vec ℕ Global) → length text.items ≤ FILE_LIMIT → IfSome (told before.files name) (λ f. f ≡ Some text.items)
      → Staged {T = Vec ℕ Global} (λ t. t.items) (reads name gives) before after (Ok text)
  read-ok text short h = record {
    ok = reads_on text.items (told_held before.files name text.items h) short stays;
    err = tt;
    same =
        same;
    count = count;
  }

  pub read-failed : Rose before.read_faults after.read_faults ⊎ (told before.files name ≡ Some None)
      → Staged {T = Vec ℕ Global} (λ t. t.items) (reads name gives) before after (Err (Unread name))
  unfolding Unable
  read-failed h = record { ok = tt; err = inl (gives, stays, h); same = same; count = count }

  pub read-long : IfSome (told before.files name) (λ f. IsSomeAnd f (λ bs. FILE_LIMIT < length bs))
      → Staged {T = Vec ℕ Global} (λ t. t.items) (reads name gives) before after (Err (Limit File (FILE_LIMIT + 1)))
  unfolding Unable
  read-long h = record { ok = tt; err = too_long (told_long before.files name h); same = same; count = count }
