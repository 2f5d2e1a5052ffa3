-- A file that is made, written and closed, by what each name holds.
use Rattle.std.proofs.Common.{◌≡◌, ℕ, List, [], ◌++◌, length, take, ◌⊎◌, inl, inr, Option, Some, None, unwrap_or, Result, Ok, Err, OnOk}
use Rattle.std.proofs.Common.{OnErr, refl, sym, ap, ◌∙◌, subst}
use Rattle.std.proofs.Math.Seq.{take-length}
use Rattle.tn_io.specs.FileLists.{Files, held, with_file, with_more, with_front}
use Rattle.tn_io.specs.Stores.{told_with, told_more, told_front}
use Rattle.tn_io.proofs.FileListLaws.{held-with_file, held-with_file-other}
use Rattle.tn_top.specs.Outcomes.{Told, SameFiles, Holds, HoldsPart}

-- facts of a result
pub on_err_always : {T E P : Type 0} (r : Result T E) → P → OnErr r P
on_err_always (Ok x) p = tt
on_err_always (Err e) p = p

pub on_ok_more : {T E P Q : Type 0} (r : Result T E) → OnOk r P → (P → Q) → OnOk r Q
on_ok_more (Ok x) p f = f p
on_ok_more (Err e) p f = tt

pub on_err_more : {T E P Q : Type 0} (r : Result T E) → OnErr r P → (P → Q) → OnErr r Q
on_err_more (Ok x) p f = tt
on_err_more (Err e) p f = f p

-- what follows from a relation between told files follows where they are told
pub told-weaker : {P Q : Files → Files → Type 0} (before after : Option Files) → ((fs gs : Files) → P fs gs → Q fs gs)
    → Told before after P → Told before after Q
told-weaker None None f t = t
told-weaker None (Some gs) f t = t
told-weaker (Some fs) None f t = t
told-weaker (Some fs) (Some gs) f t = f fs gs t

pub told-same : (files : Option Files) → Told files files SameFiles
told-same None = tt
told-same (Some fs) = λ name. refl

made : (name : List ℕ) (files : Files) → Holds name [] files (with_file name [] files)
made name files = record {
  written = held-with_file name [] files;
  others = λ other n. held-with_file-other name [] other files n;
}

more : (name bytes piece : List ℕ) (before after : Files) → Holds name bytes before after
    → Holds name (bytes ++ piece) before (with_more name piece after)
unfolding with_more
more name bytes piece before after h = record {
  written = held-with_file name (unwrap_or (held after name) [] ++ piece) after ∙ ap (λ o. Some (unwrap_or o [] ++ piece)) h.written;
  others = λ other n. held-with_file-other name (unwrap_or (held after name) [] ++ piece) other after n ∙ h.others other n;
}

front : (name bytes : List ℕ) (k : ℕ) (before after : Files) → Holds name bytes before after
    → Holds name (take k bytes) before (with_front name k after)
unfolding with_front
front name bytes k before after h = record {
  written = held-with_file name (take k (unwrap_or (held after name) [])) after ∙ ap (λ o. Some (take k (unwrap_or o []))) h.written;
  others = λ other n. held-with_file-other name (take k (unwrap_or (held after name) [])) other after n ∙ h.others other n;
}

part : (name bytes : List ℕ) (k : ℕ) (before after : Files) → Holds name (take k bytes) before after → HoldsPart name bytes before after
part name bytes k before after h = record { part = inr (k, h.written); others = h.others }

-- files that are the same hold a part of any bytes
pub part-same : (name bytes : List ℕ) (before after : Files) → SameFiles before after → HoldsPart name bytes before after
part-same name bytes before after h = record { part = inl (h name); others = λ other n. h other }

made-told : (name : List ℕ) (files : Option Files) → Told files (told_with name [] files) (Holds name [])
made-told name None = tt
made-told name (Some fs) = made name fs

more-told : (name bytes piece : List ℕ) (before after : Option Files) → Told before after (Holds name bytes)
    → Told before (told_more (Some name) piece after) (Holds name (bytes ++ piece))
more-told name bytes piece None None t = t
more-told name bytes piece None (Some gs) t = t
more-told name bytes piece (Some fs) None t = t
more-told name bytes piece (Some fs) (Some gs) t = more name bytes piece fs gs t

front-told : (name bytes : List ℕ) (k : ℕ) (before after : Option Files) → Told before after (Holds name bytes)
    → Told before (told_front (Some name) k after) (Holds name (take k bytes))
front-told name bytes k None None t = t
front-told name bytes k None (Some gs) t = t
front-told name bytes k (Some fs) None t = t
front-told name bytes k (Some fs) (Some gs) t = front name bytes k fs gs t

part-told : (name bytes : List ℕ) (k : ℕ) (before after : Option Files) → Told before after (Holds name (take k bytes))
    → Told before after (HoldsPart name bytes)
part-told name bytes k before after t = told-weaker before after (part name bytes k) t

-- a file that was made is empty
pub made-empty : (name : List ℕ) (before after : Option Files) → after ≡ told_with name [] before → Told before after (Holds name [])
made-empty name before after e = subst (λ f. Told before f (Holds name [])) (sym e) (made-told name before)

-- after a refused create
pub refused-create : (name bytes : List ℕ) (before after : Option Files) → (after ≡ before) ⊎ (after ≡ told_with name [] before)
    → Told before after (HoldsPart name bytes)
refused-create name bytes before after (inl e) =
    subst (λ f. Told before f (HoldsPart name bytes)) (sym e) (told-weaker before before (part-same name bytes) (told-same before))
refused-create name bytes before after (inr e) =
    subst (λ f. Told before f (HoldsPart name bytes)) (sym e) (part-told name bytes 0 before (told_with name [] before)
    (made-told name before))

module _ (name bytes : List ℕ) (before made after : Option Files) (opened : Option (List ℕ)) (is_made : made
    ≡ told_with name [] before) (is_open : opened ≡ Some name) where
  empty-told : Told before made (Holds name [])
  empty-told = subst (λ f. Told before f (Holds name [])) (sym is_made) (made-told name before)

  -- after a refused write
  pub refused-write : (after ≡ made) ⊎ ((k : ℕ) × (after ≡ told_more opened (take k bytes) made)) → Told before after (HoldsPart name bytes)
  refused-write (inl e) = subst (λ f. Told before f (HoldsPart name bytes)) (sym e) (part-told name bytes 0 before made empty-told)
  refused-write (inr p) =
      subst (λ f. Told before f (HoldsPart name bytes)) (sym (p.1 ∙ ap (λ o. told_more o (take p.0 bytes) made) is_open))
      (part-told name bytes p.0 before (told_more (Some name) (take p.0 bytes) made)
      (more-told name [] (take p.0 bytes) before made empty-told))

  -- after all was written
  pub written : after ≡ told_more opened bytes made → Told before after (Holds name bytes)
  written e =
      subst (λ f. Told before f (Holds name bytes)) (sym (e ∙ ap (λ o. told_more o bytes made) is_open))
      (more-told name [] bytes before made empty-told)

-- after a refused close
pub refused-close : (name bytes : List ℕ) (before written after : Option Files) (opened : Option (List ℕ)) → opened ≡ Some name
    → Told before written (Holds name bytes) → (after ≡ written) ⊎ ((k : ℕ) × (after ≡ told_front opened k written))
    → Told before after (HoldsPart name bytes)
refused-close name bytes before written after opened is_open t (inl e) =
    subst (λ f. Told before f (HoldsPart name bytes)) (sym e) (told-weaker before written (whole name bytes) t)
  where
    whole : (name bytes : List ℕ) (fs gs : Files) → Holds name bytes fs gs → HoldsPart name bytes fs gs
    whole name bytes fs gs h = record { part = inr (length bytes, h.written ∙ ap Some (sym (take-length bytes))); others = h.others }
refused-close name bytes before written after opened is_open t (inr p) =
    subst (λ f. Told before f (HoldsPart name bytes)) (sym (p.1 ∙ ap (λ o. told_front o p.0 written) is_open))
    (part-told name bytes p.0 before (told_front (Some name) p.0 written) (front-told name bytes p.0 before written t))
