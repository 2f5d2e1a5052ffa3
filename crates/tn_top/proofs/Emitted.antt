-- A file that was written through an output.
use Rattle.std.proofs.Common.{◌≡◌, ◌≢◌, ℕ, List, [], ◌++◌, take, Option, Some, None, unwrap_or, IsSome, IfSome, inr, refl, sym, ap, ◌∙◌}
use Rattle.std.proofs.Common.{subst}
use Rattle.std.specs.Option.{option_map}
use Rattle.tn_io.specs.FileLists.{Files, held}
use Rattle.tn_io.specs.FileOuts.{OverFile, printed_to, bytes_open, IsThere, IsLater}
use Rattle.tn_io.specs.Outs.{told_then}
use Rattle.tn_io.specs.Stores.{told, told_with}
use Rattle.tn_io.proofs.FileListLaws.{held-with_file}
use Rattle.tn_top.specs.Outcomes.{Told, Holds, HoldsPart}
use Rattle.tn_top.specs.Inner.Ends.{Grows, GrowsPart}
use Rattle.tn_top.proofs.Puts.{told-weaker}

same_some : {A : Type 0} {x y : A} → Some x ≡ Some y → x ≡ y
same_some e = cc

some_there : (o : Option (List ℕ)) → IsSome o → o ≡ Some (unwrap_or o [])
some_there None h = absurd cc
some_there (Some x) h = refl

-- what the bytes of the open file say of the files
grown : (name piece : List ℕ) (before after : Option Files) → IfSome (told before name) IsSome
    → (IfSome (told before name) IsSome → IfSome (told after name) IsSome)
    → ((other : List ℕ) → other ≢ name → told after other ≡ told before other)
    → option_map (λ fs. unwrap_or (held fs name) []) after ≡ told_then piece (option_map (λ fs. unwrap_or (held fs name) []) before)
    → Told before after (Grows name piece)
grown name piece None None h there others e = tt
grown name piece None (Some gs) h there others e = absurd cc
grown name piece (Some fs) None h there others e = absurd cc
grown name piece (Some fs) (Some gs) h there others e = record {
  grown = some_there (held gs name) (there h) ∙ ap Some (same_some e);
  others = λ other n. same_some (others other n);
}

module _ (name piece : List ℕ) (old new : OverFile) (opened : old.stored.opened
    ≡ Some name) (there : IsThere old.stored.opened old.stored.files) (later : IsLater old new) where
  -- all of a text was emitted to the open file
  pub grown-later : (printed_to new).bytes ≡ told_then piece (printed_to old).bytes
      → Told old.stored.files new.stored.files (Grows name piece)
  unfolding bytes_open
  grown-later e =
      let open_new : new.stored.opened ≡ Some name = later.still_open ∙ opened in
      let here : IfSome (told old.stored.files name) IsSome = subst (λ o. IsThere o old.stored.files) opened there in
      grown name piece old.stored.files new.stored.files here (λ h. subst (λ o. IsThere o new.stored.files) open_new
      (later.there (subst (λ o. IsThere o old.stored.files) (sym opened) h)))
      (λ other n. later.others other (λ q. n (sym (same_some (sym opened ∙ q)))))
      (sym (ap (λ o. bytes_open o new.stored.files) open_new) ∙ e ∙ ap (λ o. told_then piece (bytes_open o old.stored.files)) opened)

  -- a prefix of a text was emitted to it
  pub grown-part : (all : List ℕ) (k : ℕ) → piece ≡ take k all → (printed_to new).bytes ≡ told_then piece (printed_to old).bytes
      → Told old.stored.files new.stored.files (GrowsPart name all)
  grown-part all k e h =
      told-weaker old.stored.files new.stored.files (λ fs gs g. (k, subst (λ p. Grows name p fs gs) e g)) (grown-later h)

-- what a file has after it was made and then written through an output
pub grown-made : (name bytes piece : List ℕ) (before made after : Option Files) → Told before made (Holds name bytes)
    → Told made after (Grows name piece) → Told before after (Holds name (bytes ++ piece))
grown-made name bytes piece None None None h g = tt
grown-made name bytes piece None None (Some gs) h g = absurd g
grown-made name bytes piece None (Some fs) after h g = absurd h
grown-made name bytes piece (Some es) None after h g = absurd h
grown-made name bytes piece (Some es) (Some fs) None h g = absurd g
grown-made name bytes piece (Some es) (Some fs) (Some gs) h g = record {
  written = g.grown ∙ ap (λ o. Some (unwrap_or o [] ++ piece)) h.written;
  others = λ other n. g.others other n ∙ h.others other n;
}

-- the same where only a prefix was written
pub grown-made-part : (name piece : List ℕ) (before made after : Option Files) → Told before made (Holds name [])
    → Told made after (GrowsPart name piece) → Told before after (HoldsPart name piece)
grown-made-part name piece None None None h g = tt
grown-made-part name piece None None (Some gs) h g = absurd g
grown-made-part name piece None (Some fs) after h g = absurd h
grown-made-part name piece (Some es) None after h g = absurd h
grown-made-part name piece (Some es) (Some fs) None h g = absurd g
grown-made-part name piece (Some es) (Some fs) (Some gs) h g = record {
  part = inr (g.0, g.1.grown ∙ ap (λ o. Some (unwrap_or o [] ++ take g.0 piece)) h.written);
  others = λ other n. g.1.others other n ∙ h.others other n;
}

-- a file that was made is there
pub made-there : (name : List ℕ) (opened : Option (List ℕ)) (before made : Option Files) → opened ≡ Some name
    → made ≡ told_with name [] before → IsThere opened made
made-there name opened before made o m = subst (λ n. IsThere n made) (sym o) (subst (λ f. IsThere (Some name) f) (sym m) (at before))
  where
    at : (files : Option Files) → IsThere (Some name) (told_with name [] files)
    at None = tt
    at (Some fs) = rw held-with_file refl
