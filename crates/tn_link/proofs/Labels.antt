-- Labels of items and of cells, one after the other.
use Rattle.std.proofs.Common.{◌≡◌, ℕ, ◌+◌, ◌<◌, ◌≤◌, inl, inr, Bool, true, false, ◌||◌, not, cond, List, [], ◌∷◌, ◌++◌, length}
use Rattle.std.proofs.Common.{get_or, take}
use Rattle.std.proofs.Common.{Option, Some, None, refl, sym, ap, ◌∙◌, arith, position, if◌then◌else◌}
use Rattle.std.specs.Option.{option_or, option_map}
use Rattle.std.specs.List.{list_any, position_or_len}
use Rattle.std.specs.Prelude.{nat_lt}
use Rattle.std.proofs.lemmas.Bool.{cases_lt, lt-ltb, le-ltb, ne_eqb, eq-eqb}
use Rattle.std.proofs.lemmas.List.{length_push, take_more, length-take-le}
use Rattle.std.proofs.lemmas.List.Folds.{position_or_len_push}
use Rattle.tn_module.specs.declared.modules.Cell.{Cell}
use Rattle.tn_module.specs.declared.modules.Cell.TheVariants as cell
use Rattle.tn_module.specs.Names.{same_name, is_among, cell_labels}
use Rattle.tn_symbols.proofs.NameLists.{among-more, same-names}
use Rattle.tn_link.specs.declared.tables.Target.{Target}
use Rattle.tn_link.specs.Places.{is_cell_label}

found : (a b : ℕ) → a < b → cond (nat_lt a b) (Some a) None ≡ Some a
found a b h = ap (λ c. cond c (Some a) None) (lt-ltb a b h)

not-found : (a b : ℕ) → b ≤ a → cond (nat_lt a b) (Some a) None ≡ None
not-found a b h = ap (λ c. cond c (Some a) None) (le-ltb a b h)

module _ {X : Type 0} (p : X → Bool) where
  first-here : (x : X) (xs : List X) → p x ≡ true → position_or_len p (x ∷ xs) ≡ 0
  first-here x xs e = ap (λ b. cond (not b) (1 + position_or_len p xs) 0) e

  first-later : (x : X) (xs : List X) → p x ≡ false → position_or_len p (x ∷ xs) ≡ 1 + position_or_len p xs
  first-later x xs e = ap (λ b. cond (not b) (1 + position_or_len p xs) 0) e

  within : (xs : List X) → position_or_len p xs ≤ length xs
  within [] = omega arith
  within (x ∷ xs) = by (p x) refl (within xs)
    where
      by : (b : Bool) → p x ≡ b → position_or_len p xs ≤ length xs → position_or_len p (x ∷ xs) ≤ length (x ∷ xs)
      by true e h = omega (arith, first-here x xs e)
      by false e h = omega (arith, first-later x xs e)

  -- whether there is a first place
  below-from : (x : X) (xs : List X) → (list_any p xs ≡ true → position_or_len p xs < length xs) → (b : Bool) → p x ≡ b
      → (b || list_any p xs) ≡ true → position_or_len p (x ∷ xs) < length (x ∷ xs)
  below-from x xs rest true e h = omega (arith, first-here x xs e)
  below-from x xs rest false e h = omega (arith, first-later x xs e, rest h)

  any-below : (xs : List X) → list_any p xs ≡ true → position_or_len p xs < length xs
  any-below [] h = absurd cc
  any-below (x ∷ xs) h = below-from x xs (any-below xs) (p x) refl h

  past-from : (x : X) (xs : List X) → (list_any p xs ≡ false → position_or_len p xs ≡ length xs) → (b : Bool) → p x ≡ b
      → (b || list_any p xs) ≡ false → position_or_len p (x ∷ xs) ≡ length (x ∷ xs)
  past-from x xs rest true e h = absurd cc
  past-from x xs rest false e h = first-later x xs e ∙ omega (arith, rest h)

  none-past : (xs : List X) → list_any p xs ≡ false → position_or_len p xs ≡ length xs
  none-past [] h = refl
  none-past (x ∷ xs) h = past-from x xs (none-past xs) (p x) refl h

  pub position-some : (xs : List X) → list_any p xs ≡ true → position p xs ≡ Some (position_or_len p xs)
  position-some xs h = found (position_or_len p xs) (length xs) (any-below xs h)

  pub position-none : (xs : List X) → list_any p xs ≡ false → position p xs ≡ None
  position-none xs h = not-found (position_or_len p xs) (length xs) (omega (arith, none-past xs h))

  -- one more element
  position-push : (xs : List X) (y : X) → position p (xs ++ y ∷ []) ≡ option_or (position p xs) (if p y then Some (length xs) else None)
  position-push xs y = elim (cases_lt (position_or_len p xs) (length xs)) [
    | inl l ↦
        (let k : position_or_len p (xs ++ y ∷ []) ≡ position_or_len p xs =
        position_or_len_push p xs y
        ∙ ap (λ b. cond b (length xs + cond (p y) 0 1) (position_or_len p xs))
        (ne_eqb (position_or_len p xs) (length xs) (λ e. omega (arith, l, e))) in
        found (position_or_len p (xs ++ y ∷ [])) (length (xs ++ y ∷ [])) (omega (arith, k, l, length_push xs y))
        ∙ ap Some k
        ∙ ap (λ o. option_or o (if p y then Some (length xs) else None)) (sym (found (position_or_len p xs) (length xs) l)))
    | inr over ↦ behind (p y) refl (not-found (position_or_len p xs) (length xs) over) (
        position_or_len_push p xs y
        ∙ ap (λ b. cond b (length xs + cond (p y) 0 1) (position_or_len p xs))
        (eq-eqb (position_or_len p xs) (length xs) (omega (arith, over, within xs))))
  ]
    where
      behind : (b : Bool) → p y ≡ b → position p xs ≡ None → position_or_len p (xs ++ y ∷ []) ≡ length xs + cond (p y) 0 1
          → position p (xs ++ y ∷ []) ≡ option_or (position p xs) (if p y then Some (length xs) else None)
      behind true e past k =
          let is : position_or_len p (xs ++ y ∷ []) ≡ length xs = k ∙ ap (λ c. length xs + cond c 0 1) e ∙ omega arith in
          found (position_or_len p (xs ++ y ∷ [])) (length (xs ++ y ∷ [])) (omega (arith, is, length_push xs y))
          ∙ ap Some is
          ∙ ap (λ o. option_or o (Some (length xs))) (sym past)
          ∙ ap (λ c. option_or (position p xs) (if c then Some (length xs) else None)) (sym e)
      behind false e past k =
          let is : position_or_len p (xs ++ y ∷ []) ≡ length xs + 1 = k ∙ ap (λ c. length xs + cond c 0 1) e in
          not-found (position_or_len p (xs ++ y ∷ [])) (length (xs ++ y ∷ [])) (omega (arith, is, length_push xs y))
          ∙ ap (λ o. option_or o None) (sym past)
          ∙ ap (λ c. option_or (position p xs) (if c then Some (length xs) else None)) (sym e)

  pub position-more : (xs : List X) (i : ℕ) (x : X) → i < length xs → x ≡ get_or xs i x
      → position p (take (i + 1) xs) ≡ option_or (position p (take i xs)) (if p x then Some i else None)
  position-more xs i x h is =
      ap (position p) (take_more xs i x h ∙ ap (λ y. take i xs ++ y ∷ []) (sym is)) ∙ position-push (take i xs) x
      ∙ ap (λ n. option_or (position p (take i xs)) (if p x then Some n else None)) (length-take-le i xs (omega arith))

  -- a table of first places, after one more element
  pub noted : (f : ℕ → Target) (xs : List X) (i : ℕ) (x : X) (initial cur new : Option Target) (b : Bool) (t : Target) → i < length xs
      → x ≡ get_or xs i x → p x ≡ b → t ≡ f i → cur ≡ option_or initial (option_map f (position p (take i xs)))
      → new ≡ option_or cur (if b then Some t else None) → new ≡ option_or initial (option_map f (position p (take (i + 1) xs)))
  noted f xs i x initial cur new b t h is test place so_far step =
      step ∙ ap (λ o. option_or o (if b then Some t else None)) so_far
      ∙ by initial (position p (take i xs)) b
      ∙ ap (λ c. option_or initial (option_map f (option_or (position p (take i xs)) (if c then Some i else None)))) (sym test)
      ∙ ap (λ o. option_or initial (option_map f o)) (sym (position-more xs i x h is))
    where
      by : (o : Option Target) (q : Option ℕ) (b : Bool) → option_or (option_or o (option_map f q)) (if b then Some t else None)
          ≡ option_or o (option_map f (option_or q (if b then Some i else None)))
      by None None true = ap Some place
      by None None false = refl
      by None (Some k) b = refl
      by (Some v) q b = refl

  -- no element
  pub noted-none : (f : ℕ → Target) (o : Option Target) → o ≡ option_or o (option_map f (position p []))
  noted-none f None = refl
  noted-none f (Some v) = refl

  -- an element that is no label
  pub noted-not : (f : ℕ → Target) (xs : List X) (i : ℕ) (x : X) (initial cur : Option Target) → i < length xs → x ≡ get_or xs i x
      → p x ≡ false → cur ≡ option_or initial (option_map f (position p (take i xs)))
      → cur ≡ option_or initial (option_map f (position p (take (i + 1) xs)))
  noted-not f xs i x initial cur h is test so_far = noted f xs i x initial cur cur false (f i) h is test refl so_far (or-none cur)
    where
      or-none : (o : Option Target) → o ≡ option_or o None
      or-none None = refl
      or-none (Some v) = refl

-- a name is a label where one of the cells is
pub any-cell_label : (name : List ℕ) (cells : List Cell) → list_any (is_cell_label name) cells ≡ is_among (cell_labels cells) name
any-cell_label name [] = refl
any-cell_label name (cell.Word w ∷ xs) = any-cell_label name xs
any-cell_label name (cell.Address other ∷ xs) = any-cell_label name xs
any-cell_label name (cell.Byte b ∷ xs) = any-cell_label name xs
any-cell_label name (cell.Space n ∷ xs) = any-cell_label name xs
any-cell_label name (cell.Align ∷ xs) = any-cell_label name xs
any-cell_label name (cell.Label other ∷ xs) = ap (λ b. same_name name other || b) (any-cell_label name xs)

-- ---- exports

or-none : (o : Option Target) → option_or o None ≡ o
or-none None = refl
or-none (Some v) = refl

one-more : (o v : Option Target) (a b : Bool) (t : Target) → (b ≡ true → v ≡ Some t)
    → option_or (option_or o (if a then v else None)) (if b then Some t else None) ≡ option_or o (if (a || b) then v else None)
one-more (Some w) v a b t h = refl
one-more None v true true t h = ap (λ z. option_or z (Some t)) (h refl) ∙ sym (h refl)
one-more None v true false t h = or-none v
one-more None v false true t h = sym (h refl)
one-more None v false false t h = refl

none-more : (o v : Option Target) (a b : Bool) → (b ≡ true → v ≡ None)
    → option_or o (if a then v else None) ≡ option_or o (if (a || b) then v else None)
none-more (Some w) v a b h = refl
none-more None v true b h = refl
none-more None v false true h = sym (h refl)
none-more None v false false h = refl

module _ (own : List ℕ → Option Target) (names : List (List ℕ)) (i : ℕ) (x q : List ℕ) (h : i < length names) (is : x ≡ get_or names i x)
    (initial cur : Option Target) (so_far : cur ≡ option_or initial (if is_among (take i names) q then own q else None)) where
  -- an export that is noted
  pub exported-noted : (new : Option Target) (t : Target) → own x ≡ Some t → new ≡ option_or cur (if same_name q x then Some t else None)
      → new ≡ option_or initial (if is_among (take (i + 1) names) q then own q else None)
  exported-noted new t here step =
      step ∙ ap (λ o. option_or o (if same_name q x then Some t else None)) so_far
      ∙ one-more initial (own q) (is_among (take i names) q) (same_name q x) t (λ e. ap own (same-names q x e) ∙ here)
      ∙ ap (λ c. option_or initial (if c then own q else None)) (sym (among-more names i x q h is))

  -- an export that is none of the module's labels
  pub exported-skipped : own x ≡ None → cur ≡ option_or initial (if is_among (take (i + 1) names) q then own q else None)
  exported-skipped here =
      so_far ∙ none-more initial (own q) (is_among (take i names) q) (same_name q x) (λ e. ap own (same-names q x e) ∙ here)
      ∙ ap (λ c. option_or initial (if c then own q else None)) (sym (among-more names i x q h is))
