-- The place of a name's file, by the first place at which a search for the name stops.
use Rattle.std.proofs.Common.{◌≡◌, ℕ, suc, ◌+◌, ◌<◌, ◌≤◌, ◌⊎◌, inl, inr, one-add, Bool, true, false, cond, not, List, [], ◌∷◌, ◌++◌}
use Rattle.std.proofs.Common.{length, get_or, unwrap_or, MatchOption, Vec, refl, sym, ap, ◌∙◌, arith}
use Rattle.std.proofs.Math.ListN.{set}
use Rattle.std.proofs.Math.Seq.{map-set_same}
use Rattle.std.proofs.lemmas.List.{map-set, get_or-map, length-map}
use Rattle.std.specs.Str.{bytes_eq}
use Rattle.std.specs.List.{position, position_or_len}
use Rattle.std.proofs.lemmas.Bool.{lt-ltb, le-ltb}
use Rattle.std.proofs.lemmas.Slice.Eq.{bytes_eq-Decides}
use Rattle.std.specs.declared.alloc.Global.{Global}
use Rattle.tn_io.specs.FileLists.{Files, held, with_file, with_more, IsPlace, HasNoPlace}
use Rattle.tn_io.specs.MemStores.{file_of, files_of}

later : (name : List ℕ) (file : List ℕ × List ℕ) (files : Files) (i : ℕ) → bytes_eq file.0 name ≡ false → IsPlace files name i
    → IsPlace (file ∷ files) name (suc i)
unfolding held with_file
later name file files i e h = record {
  within = grind (arith, h.within);
  named = h.named;
  bytes = rw e h.bytes;
  replaced = λ bytes. rw e (ap (λ rest. file ∷ rest) (h.replaced bytes));
}

nowhere : (name : List ℕ) (file : List ℕ × List ℕ) (files : Files) → bytes_eq file.0 name ≡ false → HasNoPlace files name
    → HasNoPlace (file ∷ files) name
unfolding held with_file
nowhere name file files e h = record {
  bytes = rw e h.bytes;
  added = λ bytes. rw e (ap (λ rest. file ∷ rest) (h.added bytes));
}

first : (name : List ℕ) (file : List ℕ × List ℕ) (files : Files) → bytes_eq file.0 name ≡ true → IsPlace (file ∷ files) name 0
unfolding held with_file
first name file files e = record {
  within = omega arith;
  named = (bytes_eq-Decides file.0 name).0 e;
  bytes = rw e refl;
  replaced = λ bytes. rw e refl;
}

-- where a search for the name stops, over files as they lie in memory
abbrev stop_of : List ℕ → List (List ℕ × Vec ℕ Global) → ℕ
stop_of name files = position_or_len (λ file. bytes_eq file.0 name) files

either : (name : List ℕ) (files : List (List ℕ × Vec ℕ Global))
    → ((stop_of name files < length files) × IsPlace (files_of files) name (stop_of name files))
    ⊎ ((length files ≤ stop_of name files) × HasNoPlace (files_of files) name)
unfolding held with_file
either name [] = inr (omega arith, empty)
  where
    empty : HasNoPlace [] name
    empty = record { bytes = refl; added = λ _. refl }
either name (file ∷ files) = at (bytes_eq file.0 name) refl (either name files)
  where
    seen : List ℕ × List ℕ
    seen = (file.0, file.1.items)

    at : (b : Bool) → bytes_eq file.0 name ≡ b → ((stop_of name files < length files)
        × IsPlace (files_of files) name (stop_of name files)) ⊎ ((length files ≤ stop_of name files) × HasNoPlace (files_of files) name)
        → ((cond (not b) (1 + stop_of name files) 0 < length (file ∷ files))
        × IsPlace (files_of (file ∷ files)) name (cond (not b) (1 + stop_of name files) 0))
        ⊎ ((length (file ∷ files) ≤ cond (not b) (1 + stop_of name files) 0) × HasNoPlace (files_of (file ∷ files)) name)
    at true e h = inl (omega arith, first name (file.0, file.1.items) (files_of files) e)
    at false e (inl h) = inl (
      omega (arith, h.0),
      rw one-add (later name (file.0, file.1.items) (files_of files) (stop_of name files) e h.1),
    )
    at false e (inr h) = inr (omega (arith, h.0), nowhere name (file.0, file.1.items) (files_of files) e h.1)

-- the first file of the name is at its place, and where there is none it has no place
pub place-first : (name : List ℕ) (files : List (List ℕ × Vec ℕ Global))
    → MatchOption (position (λ file. bytes_eq file.0 name) files) (HasNoPlace (files_of files) name) (IsPlace (files_of files) name)
place-first name files = at (either name files)
  where
    at : ((stop_of name files < length files) × IsPlace (files_of files) name (stop_of name files))
        ⊎ ((length files ≤ stop_of name files) × HasNoPlace (files_of files) name)
        → MatchOption (position (λ file. bytes_eq file.0 name) files) (HasNoPlace (files_of files) name) (IsPlace (files_of files) name)
    at (inl h) = rw (lt-ltb (stop_of name files) (length files) h.0) h.1
    at (inr h) = rw (le-ltb (stop_of name files) (length files) h.0) h.1

module _ (name : List ℕ) (files : List (List ℕ × Vec ℕ Global)) (i : ℕ) (was : List ℕ
    × Vec ℕ Global) (bytes : Vec ℕ Global) (place : IsPlace (files_of files) name i) (there : was ≡ get_or files i was) where
  seen : get_or (files_of files) i ([], []) ≡ file_of was
  seen =
      let inside : i < length files = omega (arith, length-map files file_of, place.within) in
      get_or-map file_of files i was ([], []) inside ∙ sym (ap file_of there)

  key : was.0 ≡ name
  key = sym (ap (λ file. file.0) seen) ∙ place.named

  -- other bytes at the name's place
  pub put_at : files_of (set files i (was.0, bytes)) ≡ with_file name bytes.items (files_of files)
  put_at =
      map-set file_of files i (was.0, bytes) ∙ ap (λ k. set (files_of files) i (k, bytes.items)) key ∙ sym (place.replaced bytes.items)

  -- more bytes at the name's place
  pub more_at : (more : List ℕ) → bytes.items ≡ was.1.items ++ more
      → files_of (set files i (was.0, bytes)) ≡ with_more name more (files_of files)
  unfolding with_more
  more_at more e =
      put_at ∙ ap (λ b. with_file name b (files_of files)) (e ∙ ap (λ old. old
      ++ more) (sym (ap (λ o. unwrap_or o []) place.bytes ∙ ap (λ file. file.1) seen)))

  -- the same bytes at the name's place
  pub same_at : bytes.items ≡ was.1.items → files_of (set files i (was.0, bytes)) ≡ files_of files
  same_at e = map-set_same file_of files i (was.0, bytes) was (ap (λ b. (was.0, b)) e ∙ ap file_of there)
