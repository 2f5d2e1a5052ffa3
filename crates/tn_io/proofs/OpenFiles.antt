-- What a write does to the open file of a store and to an output over it, and what the store holds
-- after an output over it has gone on.
use Rattle.std.proofs.Common.{◌≡◌, ◌≢◌, ℕ, ◌<◌, ◌⊎◌, inl, inr, List, [], ◌++◌, take, Option, Some, None, unwrap_or, IsSome, is_some}
use Rattle.std.proofs.Common.{Result, Ok, Err, refl, sym, ap, subst, ◌∙◌, arith}
use Rattle.std.proofs.lemmas.Grind.{common_steps}
use Rattle.std.proofs.lemmas.Bool.{false≢true}
use Rattle.tn_io.specs.declared.faults.OutFault.{OutFault}
use Rattle.tn_io.specs.declared.faults.PutKind.{PutKind}
use Rattle.tn_io.specs.declared.faults.PutKind.TheVariants.{Failed, NoMemory}
use Rattle.tn_text.specs.Counts.{Rose}
use Rattle.tn_io.specs.FileLists.{Files, held, with_more}
use Rattle.tn_io.specs.Outs.{told_then, Prints}
use Rattle.tn_io.specs.Stores.{Stored, told, told_more, Writes}
use Rattle.tn_io.specs.FileOuts.{OverFile, bytes_open, printed_to, IsThere, IsLater, GoesOn, Marks, answered}
use Rattle.tn_io.proofs.FileListLaws.{held-with_file, held-with_file-other}

-- more in the open file is more told of it
pub bytes_open-told_more : (opened : Option (List ℕ)) (more : List ℕ) (files : Option Files)
    → bytes_open opened (told_more opened more files) ≡ told_then more (bytes_open opened files)
unfolding bytes_open with_more
bytes_open-told_more None more files = refl
bytes_open-told_more (Some name) more None = refl
bytes_open-told_more (Some name) more (Some fs) = rw held-with_file refl

-- no more is told of it
told_then-nothing : (bytes : Option (List ℕ)) → bytes ≡ told_then [] bytes
told_then-nothing None = refl
told_then-nothing (Some bs) = grind (arith, common_steps)

-- other names hold what they held
pub told-told_more : (opened : Option (List ℕ)) (more : List ℕ) (files : Option Files) (name : List ℕ) → opened ≢ Some name
    → told (told_more opened more files) name ≡ told files name
unfolding with_more
told-told_more None more files name n = refl
told-told_more (Some here) more None name n = refl
told-told_more (Some here) more (Some fs) name n =
    ap Some (held-with_file-other here (unwrap_or (held fs here) [] ++ more) name fs (λ e. n (ap Some (sym e))))

-- an open file with more in it is there
pub there-told_more : (opened : Option (List ℕ)) (more : List ℕ) (files : Option Files) → IsThere opened (told_more opened more files)
unfolding with_more
there-told_more None more files = tt
there-told_more (Some name) more None = tt
there-told_more (Some name) more (Some fs) = rw held-with_file refl

-- the open file has a piece more, or is as it was
abbrev Grew : Stored → Stored → Type 0
Grew before after = (after.files ≡ before.files) ⊎ ((more : List ℕ) × (after.files ≡ told_more before.opened more before.files))

-- what of a piece was told, where some of it is in the open file
told_cut : (piece : List ℕ) (before after : Stored) → after.opened ≡ before.opened
    → (after.files ≡ before.files) ⊎ ((k : ℕ) × (after.files ≡ told_more before.opened (take k piece) before.files))
    → (k : ℕ) × (bytes_open after.opened after.files ≡ told_then (take k piece) (bytes_open before.opened before.files))
told_cut piece before after same (inl e) =
    (0, rw (same, e) (told_then-nothing (bytes_open before.opened before.files)))
told_cut piece before after same (inr (k, e)) =
    (k, rw (same, e) (bytes_open-told_more before.opened (take k piece) before.files))

-- names beside an open file that grew
others_kept : (before after : Stored) → Grew before after → (name : List ℕ) → before.opened ≢ Some name
    → told after.files name ≡ told before.files name
others_kept before after (inl e) name n = rw e refl
others_kept before after (inr (more, e)) name n = rw e (told-told_more before.opened more before.files name n)

-- an open file that grew
there_kept : (before after : Stored) → after.opened ≡ before.opened → Grew before after → IsThere before.opened before.files
    → IsThere after.opened after.files
there_kept before after same (inl e) h = rw (same, e) h
there_kept before after same (inr (more, e)) h = rw (same, e) (there-told_more before.opened more before.files)

module _ {T : Type 0} (piece : List ℕ) (before after : Stored) where
  -- a refused write, by the kind that it left
  cut : (e : OutFault) (kind : Option PutKind) → Writes {T = T} piece (answered (Err e) kind) before after
      → (after.files ≡ before.files) ⊎ ((k : ℕ) × (after.files ≡ told_more before.opened (take k piece) before.files))
  cut e None w = w.err
  cut e (Some Failed) w = w.err
  cut e (Some NoMemory) w = w.err

  -- a write, refused or not
  grew : (result : Result T OutFault) (kind : Option PutKind) → Writes piece (answered result kind) before after → Grew before after
  grew (Ok x) kind w = inr (piece, w.ok)
  grew (Err e) kind w = of_cut (cut e kind w)
    where
      of_cut : (after.files ≡ before.files) ⊎ ((k : ℕ) × (after.files ≡ told_more before.opened (take k piece) before.files))
          → Grew before after
      of_cut (inl q) = inl q
      of_cut (inr (k, q)) = inr (take k piece, q)

  -- a failed write to an open file
  write_failed : (e : OutFault) (kind : Option PutKind) → Writes {T = T} piece (answered (Err e) kind) before after → IsSome before.opened
      → kind ≡ Some Failed → Rose before.write_faults after.write_faults
  write_failed e None w is q = cc
  write_failed e (Some NoMemory) w is q = cc
  write_failed e (Some Failed) w is q = at (w.failed refl)
    where
      at : Rose before.write_faults after.write_faults ⊎ (before.opened ≡ None) → Rose before.write_faults after.write_faults
      at (inl r) = r
      at (inr n) = absurd (false≢true (ap is_some (sym n) ∙ is))

-- a write to an output over a file prints to it
pub prints-write : {T : Type 0} (piece : List ℕ) (result : Result T OutFault) (before after : OverFile)
    → Writes piece (answered result after.kind) before.stored after.stored → Marks result before after
    → Prints piece result (printed_to before) (printed_to after)
prints-write piece (Ok x) before after w m = record {
  ok = rw (w.opened, w.ok) (bytes_open-told_more before.stored.opened piece before.stored.files);
  err = tt;
  failed = tt;
  count = omega (arith, m.ok.1);
}
prints-write piece (Err e) before after w m = record {
  ok = tt;
  err = told_cut piece before.stored after.stored w.opened (cut piece before.stored after.stored e after.kind w);
  failed = m.rose;
  count = m.no_less;
}

module _ {T : Type 0} (piece : List ℕ) (before after : OverFile) where
  kept : (r : Result T OutFault) → Marks r before after → IsSome before.kind → IsSome after.kind
  kept (Ok x) m h = subst IsSome (sym m.ok.0) h
  kept (Err e) m h = m.err.0

  marked : (r : Result T OutFault) → Marks r before after → before.refused < after.refused → IsSome after.kind
  marked (Ok x) m h = absurd (omega (arith, m.ok.1))
  marked (Err e) m h = m.err.0

  failed : (r : Result T OutFault) → Writes piece (answered r after.kind) before.stored after.stored → Marks r before after
      → IsSome before.stored.opened → after.kind ≡ Some Failed → (before.kind ≡ Some Failed)
      ⊎ Rose before.stored.write_faults after.stored.write_faults
  failed (Ok x) w m is q = inl (sym m.ok.0 ∙ q)
  failed (Err e) w m is q = inr (write_failed piece before.stored after.stored e after.kind w is q)

  -- after a write it goes on
  pub goes_on-write : (r : Result T OutFault) → Writes piece (answered r after.kind) before.stored after.stored → Marks r before after
      → GoesOn before after
  goes_on-write r w m = λ is. record {
    same_reference = m.same_reference;
    still_open = w.opened;
    there = there_kept before.stored after.stored w.opened (grew piece before.stored after.stored r after.kind w);
    others = others_kept before.stored after.stored (grew piece before.stored after.stored r after.kind w);
    reading = w.reading;
    count = w.count;
    kept = kept r m;
    marked = marked r m;
    failed = failed r w m is;
  }

-- what the open file holds after text was told of it
pub told-later : (name old text : List ℕ) (files later : Option Files) → told files name ≡ Some (Some old)
    → (IsThere (Some name) files → IsThere (Some name) later) → bytes_open (Some name) later
    ≡ told_then text (bytes_open (Some name) files) → told later name ≡ Some (Some (old ++ text))
unfolding bytes_open
told-later name old text None later h there e = cc
told-later name old text (Some fs) None h there e = cc
told-later name old text (Some fs) (Some gs) h there e =
    let was : held fs name ≡ Some old = cc in
    at (held gs name) was (there (ap is_some was)) e
  where
    at : (is : Option (List ℕ)) → held fs name ≡ Some old → IsSome is
        → Some (unwrap_or is []) ≡ Some (unwrap_or (held fs name) [] ++ text) → Some is ≡ Some (Some (old ++ text))
    at None was there q = absurd (false≢true there)
    at (Some bytes) was there q =
        let told_before : unwrap_or (held fs name) [] ≡ old = ap (λ o. unwrap_or o []) was in
        cc

-- the same, of the file over which an output went on
pub told-goes_on : (text : List ℕ) (before after : OverFile) → IsLater before after
    → bytes_open after.stored.opened after.stored.files ≡ told_then text (bytes_open before.stored.opened before.stored.files)
    → (name old : List ℕ) → before.stored.opened ≡ Some name → told before.stored.files name ≡ Some (Some old)
    → told after.stored.files name ≡ Some (Some (old ++ text))
told-goes_on text before after l e name old is h =
    let after_is : after.stored.opened ≡ Some name = l.still_open ∙ is in
    told-later name old text before.stored.files after.stored.files h (rw (is, after_is) at l.there) (rw (is, after_is) at e)
