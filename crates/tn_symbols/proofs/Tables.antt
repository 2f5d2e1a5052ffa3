-- Tables of names, one name after the other.
use Rattle.std.proofs.Common.{◌≡◌, ℕ, ◌+◌, ◌<◌, Bool, true, false, ◌||◌, cond, List, [], length, get_or, take, Option, Some, None}
use Rattle.std.proofs.Common.{is_some, refl, sym, ap, ◌∙◌, if◌then◌else◌}
use Rattle.std.specs.Option.{option_or}
use Rattle.std.specs.Cmp.Lexicographic.{nat_list_eq_equiv}
use Rattle.tn_module.specs.Names.{same_name, is_among}
use Rattle.tn_symbols.specs.Inner.Tables.{TellsMore}
use Rattle.tn_symbols.proofs.NameLists.{same-names, among-more}

module _ {V : Type 0} where
  or-none : (o : Option V) → option_or o None ≡ o
  or-none None = refl
  or-none (Some x) = refl

  or-some : (o p : Option V) → is_some o ≡ true → option_or o p ≡ o
  or-some None p h = absurd cc
  or-some (Some x) p h = refl

  merged : (o : Option V) (a b : Bool) (v : V) → option_or (option_or o (if a then Some v else None)) (if b then Some v else None)
      ≡ option_or o (if (a || b) then Some v else None)
  merged None true b v = refl
  merged None false b v = refl
  merged (Some x) a b v = refl

  -- a new name that is told of
  pub told-new : (old new : List ℕ → Option V) (x : List ℕ) (v : V) (value : List ℕ → V) → is_some (old x) ≡ false → value x ≡ v
      → ((q : List ℕ) → new q ≡ cond (same_name x q) (Some v) (old q)) → (q : List ℕ)
      → new q ≡ option_or (old q) (if same_name q x then Some (value q) else None)
  told-new old new x v value none is updates q = updates q ∙ by (same_name x q) refl
    where
      empty : (o : Option V) → is_some o ≡ false → o ≡ None
      empty None h = refl
      empty (Some y) h = absurd cc

      by : (b : Bool) → same_name x q ≡ b → cond b (Some v) (old q) ≡ option_or (old q) (if same_name q x then Some (value q) else None)
      by true e =
          let same : x ≡ q = same-names x q e in
          let test : same_name q x ≡ true = nat_list_eq_equiv.symm q x ∙ e in
          ap Some (sym is ∙ ap value same)
          ∙ sym (ap (λ o. option_or o (Some (value q))) (empty (old q) (ap (λ y. is_some (old y)) (sym same) ∙ none)))
          ∙ ap (λ b. option_or (old q) (if b then Some (value q) else None)) (sym test)
      by false e =
          sym (or-none (old q)) ∙ ap (λ b. option_or (old q) (if b then Some (value q) else None)) (sym (nat_list_eq_equiv.symm q x ∙ e))

  -- a name that was told of
  pub told-before : (old : List ℕ → Option V) (x : List ℕ) (value : List ℕ → V) → is_some (old x) ≡ true → (q : List ℕ)
      → old q ≡ option_or (old q) (if same_name q x then Some (value q) else None)
  told-before old x value there q = by (same_name q x) refl
    where
      by : (b : Bool) → same_name q x ≡ b → old q ≡ option_or (old q) (if same_name q x then Some (value q) else None)
      by true e =
          sym (or-some (old q) (if same_name q x then Some (value q) else None) (ap (λ y. is_some (old y)) (same-names q x e) ∙ there))
      by false e = sym (or-none (old q)) ∙ ap (λ b. option_or (old q) (if b then Some (value q) else None)) (sym e)

  -- no name
  pub tells-none : (old : List ℕ → Option V) (value : List ℕ → V) → TellsMore old old [] value
  tells-none old value = record { told = λ q. sym (or-none (old q)) }

  -- one more name
  pub tells-grown : (old cur new : List ℕ → Option V) (names : List (List ℕ)) (i : ℕ) (x : List ℕ) (value : List ℕ → V) → i < length names
      → x ≡ get_or names i x → TellsMore old cur (take i names) value
      → ((q : List ℕ) → new q ≡ option_or (cur q) (if same_name q x then Some (value q) else None))
      → TellsMore old new (take (i + 1) names) value
  tells-grown old cur new names i x value h is so_far step =
      record {
        told = λ q. step q
            ∙ ap (λ o. option_or o (if same_name q x then Some (value q) else None)) (so_far.told q)
            ∙ merged (old q) (is_among (take i names) q) (same_name q x) (value q)
            ∙ ap (λ b. option_or (old q) (if b then Some (value q) else None)) (sym (among-more names i x q h is));
      }
