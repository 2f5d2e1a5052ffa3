-- Loops that read one file after the other.
use Rattle.std.proofs.Common.{◌≡◌, ℕ, ◌+◌, ◌<◌, suc, List, [], ◌∷◌, ◌++◌, length, length-append, drop, get_or, drop-cons, All}
use Rattle.std.proofs.Common.{Ok, Err, refl, sym, ap, ◌∙◌, subst, arith}
use Rattle.std.proofs.lemmas.Grind.{common_steps}
use Rattle.std.proofs.lemmas.List.Elements.{All-nil, All-push}
use Rattle.tn_io.specs.Stores.{Stored}
use Rattle.tn_top.specs.declared.refusals.Refusal.{Refusal}
use Rattle.tn_top.specs.declared.refusals.Refusal.TheVariants.{NoMemory}
use Rattle.tn_top.specs.Plans.{Plan, each}
use Rattle.tn_top.specs.Inner.Stages.{Staged}
use Rattle.tn_top.proofs.StageLaws.{Walked, walked-start, walked-step, walked-stopped, walked-wanting, walked-end}

-- the files before a place were read, and so much holds of each value that one gave
pub record HasRead {A : Type 0} (P : A → Type 0) (f : List ℕ → Plan A) (names : List (List ℕ)) (i : ℕ) (so_far : List A)
    (before now : Stored) : Type 0 where
  pub walked : Walked f names (drop i names) so_far before now
  pub each : All P so_far
  pub count : length so_far ≡ i

module _ {A : Type 0} (P : A → Type 0) (f : List ℕ → Plan A) (names : List (List ℕ)) where
  pub none-read : (s : Stored) → HasRead P f names 0 [] s s
  none-read s = record { walked = walked-start f names s; each = All-nil P; count = refl }

  -- the file at the place comes next
  next : (i : ℕ) (name : List ℕ) (so_far : List A) (before now : Stored) → i < length names → name ≡ get_or names i name
      → HasRead P f names i so_far before now → Walked f names (name ∷ drop (i + 1) names) so_far before now
  next i name so_far before now inside is r =
      let one : suc i ≡ i + 1 = omega arith in
      let cut : drop i names ≡ name ∷ drop (i + 1) names =
      drop-cons names i name inside ∙ ap (λ k. get_or names i name ∷ drop k names) one ∙ ap (λ n. n ∷ drop (i + 1) names) (sym is) in
      subst (λ rest. Walked f names rest so_far before now) cut r.walked

  module _ {T : Type 0} (seen : T → A) (i : ℕ) (name : List ℕ) (so_far : List A) (before now after : Stored) (inside : i < length names)
      (is : name ≡ get_or names i name) (r : HasRead P f names i so_far before now) where
    pub one-read : (x : T) → Staged seen (f name) now after (Ok x) → P (seen x)
        → HasRead P f names (i + 1) (so_far ++ seen x ∷ []) before after
    one-read x s p = record {
      walked = walked-step seen f names (drop (i + 1) names) name so_far before now after (next i name so_far before now inside is r) x s;
      each = All-push P so_far (seen x) r.each p;
      count = length-append so_far (seen x ∷ []) ∙ ap (λ n. n + 1) r.count;
    }

    pub one-unread : {U : Type 0} (two : U → List A) (why : Refusal) → Staged seen (f name) now after (Err why)
        → Staged two (each f names) before after (Err why)
    one-unread two why s =
        walked-stopped seen f names (drop (i + 1) names) name so_far before now after (next i name so_far before now inside is r) two why s

  pub none-kept : {U : Type 0} (two : U → List A) (i : ℕ) (so_far : List A) (before now : Stored) → HasRead P f names i so_far before now
      → Staged two (each f names) before now (Err NoMemory)
  none-kept two i so_far before now r = walked-wanting two f names (drop i names) so_far before now r.walked

  pub all-read : {U : Type 0} (two : U → List A) (i : ℕ) (so_far : List A) (before now : Stored) (xs : U) → (i < length names → ⊥)
      → HasRead P f names i so_far before now → two xs ≡ so_far → Staged two (each f names) before now (Ok xs)
  all-read two i so_far before now xs out r is =
      let none : drop i names ≡ [] = grind (arith, common_steps) in
      walked-end two f names so_far before now xs (subst (λ rest. Walked f names rest so_far before now) none r.walked) is
