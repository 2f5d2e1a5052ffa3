-- The first of modules that exports a name.
use Rattle.std.proofs.Common.{◌≡◌, ℕ, ◌+◌, ◌<◌, ◌≤◌, inl, inr, Bool, true, false, ◌||◌, not, cond, nat_eq, zero, suc, List, [], ◌∷◌, ◌++◌}
use Rattle.std.proofs.Common.{length, get_or, map, Option, Some, None, is_some, refl, sym, ap, ◌∙◌, subst, arith, position, if◌then◌else◌}
use Rattle.std.specs.Option.{option_or, option_map}
use Rattle.std.specs.List.{list_any, position_or_len}
use Rattle.std.specs.Prelude.{nat_lt}
use Rattle.std.proofs.lemmas.Bool.{cases_lt, lt-ltb, le-ltb, ne_eqb, eq-eqb, eqb-true}
use Rattle.std.proofs.lemmas.Option.{none-some}
use Rattle.std.proofs.lemmas.List.{append-nil, length_push, get_or_push, get_or_append_left}
use Rattle.std.proofs.lemmas.List.Folds.{position_or_len_push}
use Rattle.std.proofs.lemmas.List.Concat.{flat_map-append}
use Rattle.std.proofs.lemmas.List.Sums.{fails_before_first}
use Rattle.std.proofs.lemmas.List.Quantifiers.{position-Some}
use Rattle.tn_module.specs.Modules.{Parts}
use Rattle.tn_module.specs.Names.{same_name, is_among, import_names}
use Rattle.tn_module.proofs.NameLists.{among-append}
use Rattle.tn_symbols.specs.Choices.{imported, exported, module_at}
use Rattle.tn_symbols.specs.Definitions.{first_exporter, definition_in, definition_of, kind_of}
use Rattle.tn_symbols.proofs.NameLists.{either, or-left, or-right, not-both, same-names, same-itself}

abbrev none : Parts
none = record { name = []; imports = []; exports = []; items = []; cells = [] }

found : (a b : ℕ) → a < b → cond (nat_lt a b) (Some a) None ≡ Some a
found a b h = ap (λ c. cond c (Some a) None) (lt-ltb a b h)

not-found : (a b : ℕ) → b ≤ a → cond (nat_lt a b) (Some a) None ≡ None
not-found a b h = ap (λ c. cond c (Some a) None) (le-ltb a b h)

-- where a test passes, the first place where it does is not behind
position-at : {X : Type 0} (p : X → Bool) (xs : List X) (j : ℕ) (d : X) → j < length xs → p (get_or xs j d) ≡ true
    → (k : ℕ) × (k ≤ j) × (position p xs ≡ Some k)
position-at p xs j d h t = (position_or_len p xs, not_behind, found (position_or_len p xs) (length xs) (omega (arith, not_behind)))
  where
    not_behind : position_or_len p xs ≤ j
    not_behind = elim (cases_lt j (position_or_len p xs)) [
      | inl l ↦ not-both (p (get_or xs j d)) t (fails_before_first p xs j d l)
      | inr over ↦ over
    ]

within : {X : Type 0} (p : X → Bool) (xs : List X) → position_or_len p xs ≤ length xs
within p [] = omega arith
within p (x ∷ xs) = by (p x) refl (within p xs)
  where
    by : (b : Bool) → p x ≡ b → position_or_len p xs ≤ length xs → position_or_len p (x ∷ xs) ≤ length (x ∷ xs)
    by true e h = let is : position_or_len p (x ∷ xs) ≡ 0 = ap (λ b. cond (not b) (1 + position_or_len p xs) 0) e in omega (arith, is)
    by false e h = let is : position_or_len p (x ∷ xs) ≡ 1 + position_or_len p xs = ap (λ b. cond (not b) (1 + position_or_len p xs) 0) e
        in omega (arith, is)

-- one more element
position-push : {X : Type 0} (p : X → Bool) (xs : List X) (y : X)
    → position p (xs ++ y ∷ []) ≡ option_or (position p xs) (if p y then Some (length xs) else None)
position-push p xs y = elim (cases_lt (position_or_len p xs) (length xs)) [
  | inl l ↦
      (let k : position_or_len p (xs ++ y ∷ []) ≡ position_or_len p xs =
      position_or_len_push p xs y
      ∙ ap (λ b. cond b (length xs + cond (p y) 0 1) (position_or_len p xs))
      (ne_eqb (position_or_len p xs) (length xs) (λ e. omega (arith, l, e))) in
      found (position_or_len p (xs ++ y ∷ [])) (length (xs ++ y ∷ [])) (omega (arith, k, l, length_push xs y))
      ∙ ap Some k
      ∙ ap (λ o. option_or o (if p y then Some (length xs) else None)) (sym (found (position_or_len p xs) (length xs) l)))
  | inr over ↦ behind (p y) refl (not-found (position_or_len p xs) (length xs) over) (
      position_or_len_push p xs y
      ∙ ap (λ b. cond b (length xs + cond (p y) 0 1) (position_or_len p xs))
      (eq-eqb (position_or_len p xs) (length xs) (omega (arith, over, within p xs))))
]
  where
    behind : (b : Bool) → p y ≡ b → position p xs ≡ None → position_or_len p (xs ++ y ∷ []) ≡ length xs + cond (p y) 0 1
        → position p (xs ++ y ∷ []) ≡ option_or (position p xs) (if p y then Some (length xs) else None)
    behind true e past k =
        let is : position_or_len p (xs ++ y ∷ []) ≡ length xs = k ∙ ap (λ c. length xs + cond c 0 1) e ∙ omega arith in
        found (position_or_len p (xs ++ y ∷ [])) (length (xs ++ y ∷ [])) (omega (arith, is, length_push xs y))
        ∙ ap Some is
        ∙ ap (λ o. option_or o (Some (length xs))) (sym past)
        ∙ ap (λ c. option_or (position p xs) (if c then Some (length xs) else None)) (sym e)
    behind false e past k =
        let is : position_or_len p (xs ++ y ∷ []) ≡ length xs + 1 = k ∙ ap (λ c. length xs + cond c 0 1) e in
        not-found (position_or_len p (xs ++ y ∷ [])) (length (xs ++ y ∷ [])) (omega (arith, is, length_push xs y))
        ∙ ap (λ o. option_or o None) (sym past)
        ∙ ap (λ c. option_or (position p xs) (if c then Some (length xs) else None)) (sym e)

module _ (stock : List Parts) where
  pub exporter-upto : (name : List ℕ) (j : ℕ) → j < length stock → is_among (module_at stock j).exports name ≡ true
      → (k : ℕ) × (k ≤ j) × (first_exporter stock name ≡ Some k)
  exporter-upto name j h t = position-at (λ m. is_among m.exports name) stock j none h t

  pub exporter-is : (name : List ℕ) (k : ℕ) → first_exporter stock name ≡ Some k → (k < length stock)
      × (is_among (module_at stock k).exports name ≡ true)
  exporter-is name k e = let f = position-Some (λ m. is_among m.exports name) stock k none e in (f.0, f.1)

  pub exporter-more : (name : List ℕ) (m : Parts)
      → first_exporter (stock ++ m ∷ []) name ≡ option_or (first_exporter stock name)
      (if is_among m.exports name then Some (length stock) else None)
  exporter-more name m = position-push (λ m. is_among m.exports name) stock m

-- a name among those that pass a test, and back
pub any-name : (p : List ℕ → Bool) (names : List (List ℕ)) → list_any p names ≡ true → (name : List ℕ) × (p name ≡ true)
    × (is_among names name ≡ true)
any-name p [] h = absurd cc
any-name p (x ∷ xs) h = elim (either (p x) (list_any p xs) h) [
  | inl e ↦ (x, e, or-left (same_name x x) (is_among xs x) (same-itself x))
  | inr r ↦ (let f = any-name p xs r in (f.0, f.1, or-right (same_name f.0 x) (is_among xs f.0) f.2))
]

pub any-from_name : (p : List ℕ → Bool) (names : List (List ℕ)) (name : List ℕ) → p name ≡ true → is_among names name ≡ true
    → list_any p names ≡ true
any-from_name p [] name e h = absurd cc
any-from_name p (x ∷ xs) name e h = elim (either (same_name name x) (is_among xs name) h) [
  | inl s ↦ or-left (p x) (list_any p xs) (ap p (sym (same-names name x s)) ∙ e)
  | inr r ↦ or-right (p x) (list_any p xs) (any-from_name p xs name e r)
]

-- the names of one more module
pub exported-more : (ms : List Parts) (m : Parts) → exported (ms ++ m ∷ []) ≡ exported ms ++ m.exports
exported-more ms m = flat_map-append (λ (m : Parts). m.exports) ms (m ∷ []) ∙ ap (λ l. exported ms ++ l) (append-nil m.exports)

pub imported-more : (ms : List Parts) (m : Parts) → imported (ms ++ m ∷ []) ≡ imported ms ++ import_names m.imports
imported-more ms m = flat_map-append (λ (m : Parts). import_names m.imports) ms (m ∷ [])
    ∙ ap (λ l. imported ms ++ l) (append-nil (import_names m.imports))

-- what a module of the list exports is exported
pub exported-at : (ms : List Parts) (k : ℕ) (name : List ℕ) → is_among (module_at ms k).exports name ≡ true → is_among (exported ms) name
    ≡ true
exported-at [] k name h = absurd cc
exported-at (m ∷ ms) zero name h = among-append m.exports (exported ms) name
    ∙ or-left (is_among m.exports name) (is_among (exported ms) name) h
exported-at (m ∷ ms) (suc k) name h =
    among-append m.exports (exported ms) name ∙ or-right (is_among m.exports name) (is_among (exported ms) name) (exported-at ms k name h)

-- and what a picked module exports
pub exported-picked : (stock : List Parts) (picks : List ℕ) (k : ℕ) (name : List ℕ) → list_any (nat_eq k) picks ≡ true
    → is_among (module_at stock k).exports name ≡ true → is_among (exported (map (module_at stock) picks)) name ≡ true
exported-picked stock [] k name p h = absurd cc
exported-picked stock (q ∷ qs) k name p h = elim (either (nat_eq k q) (list_any (nat_eq k) qs) p) [
  | inl e ↦ split (or-left (is_among (module_at stock q).exports name) (is_among (exported (map (module_at stock) qs)) name)
      (subst (λ r. is_among (module_at stock r).exports name ≡ true) (eqb-true k q e) h))
  | inr r ↦ split (or-right (is_among (module_at stock q).exports name) (is_among (exported (map (module_at stock) qs)) name)
      (exported-picked stock qs k name r h))
]
  where
    split : (is_among (module_at stock q).exports name || is_among (exported (map (module_at stock) qs)) name) ≡ true
        → is_among (exported (map (module_at stock) (q ∷ qs))) name ≡ true
    split e = among-append (module_at stock q).exports (exported (map (module_at stock) qs)) name ∙ e

pub exported-append : (ms ns : List Parts) → exported (ms ++ ns) ≡ exported ms ++ exported ns
exported-append ms ns = flat_map-append (λ (m : Parts). m.exports) ms ns

-- ---- definitions

exported-which : (ms : List Parts) (name : List ℕ) → is_among (exported ms) name ≡ true
    → (k : ℕ) × (k < length ms) × (is_among (module_at ms k).exports name ≡ true)
exported-which [] name h = absurd cc
exported-which (m ∷ ms) name h =
    elim (either (is_among m.exports name) (is_among (exported ms) name) (sym (among-append m.exports (exported ms) name) ∙ h)) [
      | inl here ↦ (0, omega arith, here)
      | inr later ↦ (let f = exported-which ms name later in (suc f.0, omega (arith, f.1), f.2))
    ]

-- a name has a definition where it is exported
pub defined-some : (ms : List Parts) (name : List ℕ) → is_some (definition_of ms name) ≡ is_among (exported ms) name
defined-some ms name = by (first_exporter ms name) refl (is_among (exported ms) name) refl
  where
    by : (o : Option ℕ) → first_exporter ms name ≡ o → (b : Bool) → is_among (exported ms) name ≡ b
        → is_some (option_map (definition_in ms name) (first_exporter ms name)) ≡ is_among (exported ms) name
    by None o true b =
        let f = exported-which ms name b in let g = exporter-upto ms name f.0 f.1 f.2 in absurd (none-some g.0 (sym o ∙ g.2))
    by None o false b = ap (λ o. is_some (option_map (definition_in ms name) o)) o ∙ sym b
    by (Some k) o true b = ap (λ o. is_some (option_map (definition_in ms name) o)) o ∙ sym b
    by (Some k) o false b = not-both (is_among (exported ms) name) (exported-at ms k name (exporter-is ms name k o).1) b

-- the definitions of one more module
pub definition-more : (ms : List Parts) (m : Parts) (name : List ℕ)
    → definition_of (ms ++ m ∷ []) name
    ≡ option_or (definition_of ms name) (if is_among m.exports name then Some (record { «module» = length ms; kind = kind_of m name })
    else None)
definition-more ms m name =
    ap (option_map (definition_in (ms ++ m ∷ []) name)) (exporter-more ms name m)
    ∙ by (first_exporter ms name) refl (is_among m.exports name)
  where
    by : (o : Option ℕ) → first_exporter ms name ≡ o → (b : Bool)
        → option_map (definition_in (ms ++ m ∷ []) name) (option_or (first_exporter ms name) (if b then Some (length ms) else None))
        ≡ option_or (definition_of ms name) (if b then Some (record { «module» = length ms; kind = kind_of m name }) else None)
    by None o true =
        ap (λ o. option_map (definition_in (ms ++ m ∷ []) name) (option_or o (Some (length ms)))) o
        ∙ ap (λ x. Some (record { «module» = length ms; kind = kind_of x name })) (get_or_push ms m none (length ms) refl)
        ∙ ap (λ o. option_or (option_map (definition_in ms name) o) (Some (record { «module» = length ms; kind = kind_of m name }))) (sym o)
    by None o false =
        ap (λ o. option_map (definition_in (ms ++ m ∷ []) name) (option_or o None)) o
        ∙ ap (λ o. option_or (option_map (definition_in ms name) o) None) (sym o)
    by (Some k) o b =
        ap (λ o. option_map (definition_in (ms ++ m ∷ []) name) (option_or o (if b then Some (length ms) else None))) o
        ∙ ap (λ x. Some (record { «module» = k; kind = kind_of x name }))
        (get_or_append_left ms (m ∷ []) none k (exporter-is ms name k o).0)
        ∙ ap (λ o. option_or (option_map (definition_in ms name) o)
        (if b then Some (record { «module» = length ms; kind = kind_of m name }) else None)) (sym o)

-- the first definition is found, or there is none
pub definition-here : (ms : List Parts) (name : List ℕ) (k : ℕ) → k < length ms
    → ((j : ℕ) → j < k → is_among (module_at ms j).exports name ≡ false)
    → is_among (module_at ms k).exports name ≡ true → definition_of ms name ≡ Some (definition_in ms name k)
definition-here ms name k h before here =
    let f = exporter-upto ms name k h here in
    let is : f.0 ≡ k = elim (cases_lt f.0 k) [
      | inl l ↦ not-both (is_among (module_at ms f.0).exports name) (exporter-is ms name f.0 f.2).1 (before f.0 l)
      | inr over ↦ omega (arith, f.1, over)
    ] in
    ap (option_map (definition_in ms name)) (f.2 ∙ ap Some is)

pub definition-none : (ms : List Parts) (name : List ℕ) → ((j : ℕ) → j < length ms → is_among (module_at ms j).exports name ≡ false)
    → definition_of ms name ≡ None
definition-none ms name all = by (first_exporter ms name) refl
  where
    by : (o : Option ℕ) → first_exporter ms name ≡ o → option_map (definition_in ms name) (first_exporter ms name) ≡ None
    by None o = ap (option_map (definition_in ms name)) o
    by (Some k) o = (let f = exporter-is ms name k o in not-both (is_among (module_at ms k).exports name) f.1 (all k f.0))
