-- Files after a change under a name.
use Rattle.std.proofs.Common.{◌≡◌, ◌≢◌, ℕ, Bool, true, false, cond, List, [], ◌∷◌, ◌++◌, Option, Some, None, unwrap_or, IsSome, IfSome}
use Rattle.std.proofs.Common.{refl, sym, ap, subst, ◌∙◌}
use Rattle.std.specs.Str.{bytes_eq}
use Rattle.std.proofs.lemmas.Bool.{false≢true}
use Rattle.std.proofs.lemmas.Slice.Eq.{bytes_eq-Decides}
use Rattle.tn_io.specs.FileLists.{Files, held, with_file, with_more, HasDistinctNames, IsHeld}

-- a text equals itself
pub bytes_eq-same : (name : List ℕ) → bytes_eq name name ≡ true
bytes_eq-same name = (bytes_eq-Decides name name).1 refl

-- other texts are told apart
pub bytes_eq-other : (one two : List ℕ) → one ≢ two → bytes_eq one two ≡ false
bytes_eq-other one two h = at (bytes_eq one two) refl
  where
    at : (b : Bool) → bytes_eq one two ≡ b → bytes_eq one two ≡ false
    at true e = absurd (h ((bytes_eq-Decides one two).0 e))
    at false e = e

-- a name holds what was put under it
pub held-with_file : (name bytes : List ℕ) (files : Files) → held (with_file name bytes files) name ≡ Some bytes
unfolding held with_file
held-with_file name bytes [] = rw bytes_eq-same refl
held-with_file name bytes (file ∷ files) = at (bytes_eq file.0 name) refl (held-with_file name bytes files)
  where
    at : (b : Bool) → bytes_eq file.0 name ≡ b → held (with_file name bytes files) name ≡ Some bytes
        → held (cond b ((name, bytes) ∷ files) (file ∷ with_file name bytes files)) name ≡ Some bytes
    at true e h = rw bytes_eq-same refl
    at false e h = rw e h

-- other names hold what they held
pub held-with_file-other : (name bytes other : List ℕ) (files : Files) → other ≢ name
    → held (with_file name bytes files) other ≡ held files other
unfolding held with_file
held-with_file-other name bytes other [] n = rw (bytes_eq-other name other (λ e. n (sym e))) refl
held-with_file-other name bytes other (file ∷ files) n = at (bytes_eq file.0 name) refl (held-with_file-other name bytes other files n)
  where
    at : (b : Bool) → bytes_eq file.0 name ≡ b → held (with_file name bytes files) other ≡ held files other
        → held (cond b ((name, bytes) ∷ files) (file ∷ with_file name bytes files)) other
        ≡ cond (bytes_eq file.0 other) (Some file.1) (held files other)
    at true e h =
        let same : file.0 ≡ name = (bytes_eq-Decides file.0 name).0 e in
        rw (bytes_eq-other name other (λ q. n (sym q)), bytes_eq-other file.0 other (λ q. n (sym q ∙ same))) refl
    at false e h = ap (λ rest. cond (bytes_eq file.0 other) (Some file.1) rest) h

-- no name stands twice after a change under a name
pub distinct-with_file : (name bytes : List ℕ) (files : Files) → HasDistinctNames files → HasDistinctNames (with_file name bytes files)
unfolding held with_file HasDistinctNames
distinct-with_file name bytes [] d = (refl, tt)
distinct-with_file name bytes (file ∷ files) d = at (bytes_eq file.0 name) refl (distinct-with_file name bytes files d.1)
  where
    at : (b : Bool) → bytes_eq file.0 name ≡ b → HasDistinctNames (with_file name bytes files)
        → HasDistinctNames (cond b ((name, bytes) ∷ files) (file ∷ with_file name bytes files))
    at true e h =
        let same : file.0 ≡ name = (bytes_eq-Decides file.0 name).0 e in
        (ap (held files) (sym same) ∙ d.0, d.1)
    at false e h =
        let other : file.0 ≢ name = λ q. false≢true (sym e ∙ (bytes_eq-Decides file.0 name).1 q) in
        (held-with_file-other name bytes file.0 files other ∙ d.0, h)

-- what has a file keeps one
pub is_some-held-with_file : (name bytes other : List ℕ) (files : Files) → IsSome (held files other)
    → IsSome (held (with_file name bytes files) other)
is_some-held-with_file name bytes other files h = at (bytes_eq other name) refl
  where
    at : (b : Bool) → bytes_eq other name ≡ b → IsSome (held (with_file name bytes files) other)
    at true e =
        let same : other ≡ name = (bytes_eq-Decides other name).0 e in
        subst (λ n. IsSome (held (with_file name bytes files) n)) (sym same) (rw held-with_file refl)
    at false e =
        let differs : other ≢ name = λ q. false≢true (sym e ∙ (bytes_eq-Decides other name).1 q) in
        rw (held-with_file-other name bytes other files differs) h

-- names stay distinct, and an open file stays held, after a change under a name
pub kept-with_file : (opened : Option (List ℕ)) (name bytes : List ℕ) (files : Files) → HasDistinctNames files × IsHeld opened files
    → HasDistinctNames (with_file name bytes files) × IsHeld opened (with_file name bytes files)
kept-with_file None name bytes files h = (distinct-with_file name bytes files h.0, tt)
kept-with_file (Some other) name bytes files h =
    (distinct-with_file name bytes files h.0, is_some-held-with_file name bytes other files h.1)

pub kept-with_more : (opened : Option (List ℕ)) (name more : List ℕ) (files new : Files) → HasDistinctNames files × IsHeld opened files
    → new ≡ with_more name more files → HasDistinctNames new × IsHeld opened new
unfolding with_more
kept-with_more opened name more files new h e =
    subst (λ fs. HasDistinctNames fs × IsHeld opened fs) (sym e)
    (kept-with_file opened name (unwrap_or (held files name) [] ++ more) files h)

-- a file that was made is held
pub held-made : (opened : Option (List ℕ)) (name bytes : List ℕ) (files new : Files) → HasDistinctNames files
    → new ≡ with_file name bytes files → IfSome opened (λ n. n ≡ name) → HasDistinctNames new × IsHeld opened new
held-made None name bytes files new d e o = (subst HasDistinctNames (sym e) (distinct-with_file name bytes files d), tt)
held-made (Some other) name bytes files new d e o = (
  subst HasDistinctNames (sym e) (distinct-with_file name bytes files d),
  subst (λ n. IsSome (held new n)) (sym o) (rw (e, held-with_file) refl),
)
