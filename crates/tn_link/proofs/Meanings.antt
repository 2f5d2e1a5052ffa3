-- The names that valid modules use stand for something, and code for code.
use Rattle.std.proofs.Common.{◌≡◌, ℕ, zero, suc, ◌+◌, ◌<◌, ◌≤◌, inl, inr, Bool, true, false, ◌||◌, List, [], ◌∷◌, ◌++◌, length}
use Rattle.std.proofs.Common.{Option, Some, None}
use Rattle.std.proofs.Common.{is_some, refl, sym, ap, ◌∙◌, subst, arith, position, take, if◌then◌else◌}
use Rattle.std.specs.Prelude.{slice_get, option_and_then}
use Rattle.std.specs.Option.{option_or, option_map}
use Rattle.std.specs.List.{position_or_len, filter_map, cons_option, IsDistinct, AllByRecursion}
use Rattle.std.proofs.lemmas.Option.{none-some, same_Some}
use Rattle.std.proofs.lemmas.List.{take_more, length-take-le, get_or-take}
use Rattle.std.proofs.lemmas.List.Elements.{All-head, All-tail}
use Rattle.std.proofs.lemmas.List.Quantifiers.{position-Some}
use Rattle.std.proofs.lemmas.Map.Keys.{IsDistinct-head, IsDistinct-tail}
use Rattle.tn_text.specs.declared.limits.TheConstants.{ITEM_LIMIT, CELL_LIMIT}
use Rattle.tn_module.specs.declared.modules.Kind.{Kind}
use Rattle.tn_module.specs.declared.modules.Kind.TheVariants as kind
use Rattle.tn_module.specs.declared.modules.Import.{Import}
use Rattle.tn_module.specs.declared.modules.Item.TheVariants as item
use Rattle.tn_module.specs.Modules.{Parts}
use Rattle.tn_module.specs.Names.{same_name, is_among, is_code, imported_code, import_names, code_labels, cell_labels, labels}
use Rattle.tn_module.specs.Names.{defined_names, code_names}
use Rattle.tn_module.specs.Validity.{IsValid, AllAmong}
use Rattle.tn_module.proofs.Distinct.{distinct-front}
use Rattle.tn_module.proofs.NameLists.{among-append}
use Rattle.tn_module.proofs.Recursion.{rec-split}
use Rattle.tn_symbols.specs.Choices.{module_at}
use Rattle.tn_symbols.specs.Definitions.{first_exporter, kind_of, definition_in, same_kind, IsDefined, AreDefined}
use Rattle.tn_symbols.specs.declared.choices.Definition.{Definition}
use Rattle.tn_symbols.proofs.NameLists.{either, or-left, or-right, neither, not-both, same-names, same-itself}
use Rattle.tn_symbols.proofs.Exporting.{exporter-is, exporter-more}
use Rattle.tn_symbols.proofs.Labels.{any-label}
use Rattle.tn_link.specs.declared.tables.Start.{Start}
use Rattle.tn_link.specs.declared.tables.Target.{Target}
use Rattle.tn_link.specs.Places.{item_count, cells_end, start, is_code_label, is_cell_label, item_target, cell_target}
use Rattle.tn_link.specs.Places.{label_in, label}
use Rattle.tn_link.specs.Places.{exported_label, meaning, told, target}
use Rattle.tn_link.specs.Inner.Tables.{AreNear, label_among}
use Rattle.tn_link.specs.Inner.Elements.{AreValid}
use Rattle.tn_link.proofs.Ends.{offset-le, cells-within, items-within}
use Rattle.tn_link.proofs.Labels.{position-some, position-none, any-cell_label}

-- ---- lists of names

-- a name among names that are all among others
all-among : (those names : List (List ℕ)) → AllAmong those names → (q : List ℕ) → is_among names q ≡ true → is_among those q ≡ true
all-among those [] h q e = absurd cc
all-among those (x ∷ xs) h q e = elim (either (same_name q x) (is_among xs q) e) [
  | inl s ↦ subst (λ n. is_among those n ≡ true) (sym (same-names q x s)) (All-head (λ n. is_among those n ≡ true) x xs h)
  | inr r ↦ all-among those xs (All-tail (λ n. is_among those n ≡ true) x xs h) q r
]

-- what differs from each of some names is not among them
apart-all : (x : List ℕ) (ys : List (List ℕ)) → AllByRecursion (λ y. same_name x y ≡ false) ys → is_among ys x ≡ false
apart-all x [] h = refl
apart-all x (y ∷ ys) h = ap (λ b. b || is_among ys x) h.0 ∙ apart-all x ys h.1

-- of distinct names none stands in both parts
apart : (xs ys : List (List ℕ)) → IsDistinct same_name (xs ++ ys) → (q : List ℕ) → is_among xs q ≡ true → is_among ys q ≡ false
apart [] ys d q e = absurd cc
apart (x ∷ xs) ys d q e = elim (either (same_name q x) (is_among xs q) e) [
  | inl s ↦ subst (λ n. is_among ys n ≡ false) (sym (same-names q x s))
      (apart-all x ys (rec-split (λ y. same_name x y ≡ false) xs ys (IsDistinct-head same_name x (xs ++ ys) d)).1)
  | inr r ↦ apart xs ys (IsDistinct-tail same_name x (xs ++ ys) d) q r
]

-- the import of a name
record Found (imports : List Import) (q : List ℕ) : Type 0 where
  pub index : ℕ
  pub import : Import
  pub here : slice_get imports index ≡ Some import
  pub name : q ≡ import.name

import-of : (imports : List Import) (q : List ℕ) → is_among (import_names imports) q ≡ true → Found imports q
import-of [] q e = absurd cc
import-of (x ∷ xs) q e = elim (either (same_name q x.name) (is_among (import_names xs) q) e) [
  | inl s ↦ record { index = 0; import = x; here = refl; name = same-names q x.name s }
  | inr r ↦ (let f = import-of xs q r in record {
    index = f.index + 1;
    import = f.import;
    here = later f.index f.import f.here;
    name =
        f.name;
  })
]
  where
    later : (i : ℕ) (y : Import) → slice_get xs i ≡ Some y → slice_get (x ∷ xs) (i + 1) ≡ Some y
    later i y h = (let is : i + 1 ≡ suc i = omega arith in ap (slice_get (x ∷ xs)) is ∙ h)

abbrev CodeImport : List Import → List ℕ → Type 0
CodeImport imports q = (f : Found imports q) × (is_code f.import.kind ≡ true)

later : (x : Import) (xs : List Import) (q : List ℕ) → CodeImport xs q → CodeImport (x ∷ xs) q
later x xs q f = (
  record {
    index = f.0.index + 1;
    import = f.0.import;
    here = (let is : f.0.index + 1 ≡ suc f.0.index = omega arith in ap (slice_get (x ∷ xs)) is ∙ f.0.here);
    name = f.0.name;
  },
  f.1,
)

code_import-from : (x : Import) (xs : List Import) (q : List ℕ) → (is_among (filter_map imported_code xs) q ≡ true → CodeImport xs q) →
    (b : Bool)
    → is_code x.kind ≡ b → is_among (cons_option (if b then Some x.name else None) (filter_map imported_code xs)) q ≡ true → CodeImport
    (x ∷ xs) q
code_import-from x xs q rest true k e = elim (either (same_name q x.name) (is_among (filter_map imported_code xs) q) e) [
  | inl s ↦ (record { index = 0; import = x; here = refl; name = same-names q x.name s }, k)
  | inr r ↦ later x xs q (rest r)
]
code_import-from x xs q rest false k e = later x xs q (rest e)

code_import-of : (imports : List Import) (q : List ℕ) → is_among (filter_map imported_code imports) q ≡ true → CodeImport imports q
code_import-of [] q e = absurd cc
code_import-of (x ∷ xs) q e = code_import-from x xs q (code_import-of xs q) (is_code x.kind) refl e

-- ---- labels

module _ (m : Parts) (s : Start) (q : List ℕ) where
  -- a label of code stands for code
  pub code-label : is_among (code_labels m.items) q ≡ true → (t : Target) × (label_in m s q ≡ Some t) × (is_code t.kind ≡ true)
  code-label h = (
    item_target s (position_or_len (is_code_label q) m.items),
    ap (λ o. option_or (option_map (item_target s) o) (option_map (cell_target s m.cells) (position (is_cell_label q) m.cells)))
        (position-some (is_code_label q) m.items (any-label q m.items ∙ h)),
    refl,
  )

  -- a label stands for something
  pub label-some : is_among (labels m) q ≡ true → (t : Target) × (label_in m s q ≡ Some t)
  label-some h = by (is_among (code_labels m.items) q) refl
    where
      cells : is_among (code_labels m.items) q ≡ false → is_among (cell_labels m.cells) q ≡ true
      cells none_here = elim (either (is_among (code_labels m.items) q) (is_among (cell_labels m.cells) q)
          (sym (among-append (code_labels m.items) (cell_labels m.cells) q) ∙ h)) [
            | inl found_here ↦ not-both (is_among (code_labels m.items) q) found_here none_here
            | inr c ↦ c
          ]

      by : (b : Bool) → is_among (code_labels m.items) q ≡ b → (t : Target) × (label_in m s q ≡ Some t)
      by true e = (let c = code-label e in (c.0, c.1))
      by false e = (
        cell_target s m.cells (position_or_len (is_cell_label q) m.cells),
        ap (λ o. option_or (option_map (item_target s) o) (option_map (cell_target s m.cells) (position (is_cell_label q) m.cells)))
            (position-none (is_code_label q) m.items (any-label q m.items ∙ e))
            ∙ ap (option_map (cell_target s m.cells)) (position-some (is_cell_label q) m.cells (any-cell_label q m.cells ∙ cells e)),
      )

  -- no label stands for nothing
  pub label-none : is_among (labels m) q ≡ false → label_in m s q ≡ None
  label-none h =
      let n = neither (is_among (code_labels m.items) q) (is_among (cell_labels m.cells) q)
      (sym (among-append (code_labels m.items) (cell_labels m.cells) q) ∙ h) in
      ap (λ o. option_or (option_map (item_target s) o) (option_map (cell_target s m.cells) (position (is_cell_label q) m.cells)))
      (position-none (is_code_label q) m.items (any-label q m.items ∙ n.0))
      ∙ ap (option_map (cell_target s m.cells)) (position-none (is_cell_label q) m.cells (any-cell_label q m.cells ∙ n.1))

-- ---- modules

abbrev none : Target
none = record { kind = kind.Code; place = 0 }

module _ (modules : List Parts) where
  -- a target within the program
  record IsNear (t : Target) : Type 0 where
    pub near : t.place ≤ CELL_LIMIT
    pub code : is_code t.kind ≡ true → t.place ≤ item_count modules

  module _ (items : item_count modules ≤ ITEM_LIMIT) (cells : cells_end modules ≤ CELL_LIMIT) where
    near-label : (k : ℕ) → k < length modules → (q : List ℕ) (t : Target) → label modules k q ≡ Some t → IsNear t
    near-label k here q t h = by (position (is_code_label q) (module_at modules k).items) refl
        (position (is_cell_label q) (module_at modules k).cells) refl
      where
        by : (i : Option ℕ) → position (is_code_label q) (module_at modules k).items ≡ i → (c : Option ℕ)
            → position (is_cell_label q) (module_at modules k).cells ≡ c → IsNear t
        by (Some i) e c f =
            let is : item_target (start modules k) i ≡ t = same_Some (item_target (start modules k) i) t (sym (ap
            (λ o. option_or (option_map (item_target (start modules k)) o) (option_map (cell_target (start modules k)
            (module_at modules k).cells) (position (is_cell_label q) (module_at modules k).cells))) e) ∙ h) in
            let below : i < length (module_at modules k).items = (let p = position-Some (is_code_label q) (module_at modules k).items i
            (item.Byte 0) e in p.0) in
            subst IsNear is (record {
              near = omega (arith, items-within modules k here);
              code = λ _. omega
                  (arith, items-within modules k here);
            })
        by None e (Some c) f =
            let is : cell_target (start modules k) (module_at modules k).cells c ≡ t = same_Some
            (cell_target (start modules k) (module_at modules k).cells c) t (sym (ap
            (λ o. option_or (option_map (item_target (start modules k)) o) (option_map (cell_target (start modules k)
            (module_at modules k).cells) (position (is_cell_label q) (module_at modules k).cells))) e
            ∙ ap (option_map (cell_target (start modules k) (module_at modules k).cells)) f) ∙ h) in
            subst IsNear is (record {
              near = omega (arith, cells-within modules k here, offset-le (module_at modules k).cells c);
              code = λ h. absurd cc;
            })
        by None e None f = absurd (none-some t (sym (ap
            (λ o. option_or (option_map (item_target (start modules k)) o) (option_map (cell_target (start modules k)
            (module_at modules k).cells) (position (is_cell_label q) (module_at modules k).cells))) e
            ∙ ap (option_map (cell_target (start modules k) (module_at modules k).cells)) f) ∙ h))

    near-exported : (q : List ℕ) (t : Target) → exported_label modules q ≡ Some t → IsNear t
    near-exported q t h = by (first_exporter modules q) refl
      where
        by : (o : Option ℕ) → first_exporter modules q ≡ o → IsNear t
        by None e = absurd (none-some t (sym (ap (option_and_then (λ k. label modules k q)) e) ∙ h))
        by (Some k) e = near-label k (exporter-is modules q k e).0 q t (sym (ap (option_and_then (λ k. label modules k q)) e) ∙ h)

    -- what names stand for lies in the program
    pub near-targets : (m : ℕ) → m < length modules → AreNear (item_count modules) (target modules m)
    near-targets m here = record { near = λ q. (near q).near; code = λ q. (near q).code }
      where
        near : (q : List ℕ) → IsNear (target modules m q)
        near q = by (label modules m q) refl (exported_label modules q) refl
          where
            by : (o : Option Target) → label modules m q ≡ o → (p : Option Target) → exported_label modules q ≡ p
                → IsNear (told (λ (n : List ℕ). option_or o p) q)
            by (Some t) e p f = near-label m here q t e
            by None e (Some t) f = near-exported q t f
            by None e None f = record { near = omega arith; code = λ _. omega arith }

  -- what a valid module exports stands for something
  pub exported-some : (k : ℕ) (q : List ℕ) → IsValid (module_at modules k) → is_among (module_at modules k).exports q ≡ true
      → (t : Target) × (label modules k q ≡ Some t)
  exported-some k q valid h =
      label-some (module_at modules k) (start modules k) q
      (all-among (labels (module_at modules k)) (module_at modules k).exports valid.exported q h)

  -- the exports of one more module
  pub exports-grown : (m : ℕ) → m < length modules → ((k : ℕ) → k < m → IsValid (module_at modules k)) → (q : List ℕ)
      (cur new : Option Target)
      → cur ≡ label_among modules m q
      → new ≡ option_or cur (if is_among (module_at modules m).exports q then label modules m q else None)
      → new ≡ label_among modules (m + 1) q
  exports-grown m here valid q cur new so_far step =
      step ∙ ap (λ o. option_or o (if is_among (module_at modules m).exports q then label modules m q else None)) so_far
      ∙ by (first_exporter (take m modules) q) refl (is_among (module_at modules m).exports q)
      ∙ ap (option_and_then (λ k. label modules k q)) (sym more)
    where
      long : length (take m modules) ≡ m
      long = length-take-le m modules (omega arith)

      more : first_exporter (take (m + 1) modules) q
          ≡ option_or (first_exporter (take m modules) q) (if is_among (module_at modules m).exports q then Some m else None)
      more =
          ap (λ l. first_exporter l q) (take_more modules m (module_at [] 0) here)
          ∙ exporter-more (take m modules) q (module_at modules m)
          ∙ ap (λ n. option_or (first_exporter (take m modules) q) (if is_among (module_at modules m).exports q then Some n else None)) long

      by : (o : Option ℕ) → first_exporter (take m modules) q ≡ o → (b : Bool)
          → option_or (option_and_then (λ k. label modules k q) (first_exporter (take m modules) q)) (if b then label modules m q else None)
          ≡ option_and_then (λ k. label modules k q) (option_or (first_exporter (take m modules) q) (if b then Some m else None))
      by None e true =
          ap (λ o. option_or (option_and_then (λ k. label modules k q) o) (label modules m q)) e
          ∙ ap (λ o. option_and_then (λ k. label modules k q) (option_or o (Some m))) (sym e)
      by None e false =
          ap (λ o. option_or (option_and_then (λ k. label modules k q) o) None) e
          ∙ ap (λ o. option_and_then (λ k. label modules k q) (option_or o None)) (sym e)
      by (Some k) e b =
          let x = exporter-is (take m modules) q k e in
          let below : k < m = omega (arith, x.0, long) in
          let same : module_at (take m modules) k ≡ module_at modules k = get_or-take m modules k (module_at [] 0) below in
          let l = exported-some k q (valid k below) (ap (λ (p : Parts). is_among p.exports q) (sym same) ∙ x.1) in
          ap (λ o. option_or (option_and_then (λ k. label modules k q) o) (if b then label modules m q else None)) e
          ∙ ap (λ o. option_or o (if b then label modules m q else None)) l.1
          ∙ sym l.1
          ∙ ap (λ o. option_and_then (λ k. label modules k q) (option_or o (if b then Some m else None))) (sym e)

  module _ (valid : AreValid modules) where
    module _ (defined : AreDefined modules) (m : ℕ) (here : m < length modules) where
      abbrev known : Parts
      known = module_at modules m

      -- an imported name has a first exporter
      record Imported (q : List ℕ) (k : Kind) : Type 0 where
        pub place : ℕ
        pub first : first_exporter modules q ≡ Some place
        pub kind : same_kind (kind_of (module_at modules place) q) k ≡ true

      imported : (q : List ℕ) (f : Found known.imports q) → Imported q f.import.kind
      imported q f = by (first_exporter modules f.import.name) refl (defined m f.index f.import here f.here)
        where
          by : (o : Option ℕ) → first_exporter modules f.import.name ≡ o → IsDefined modules f.import → Imported q f.import.kind
          by None e d = absurd (none-some d.definition (sym (ap (option_map (definition_in modules f.import.name)) e) ∙ d.found))
          by (Some k) e d =
              let is : definition_in modules f.import.name k ≡ d.definition = same_Some (definition_in modules f.import.name k) d.definition
              (sym (ap (option_map (definition_in modules f.import.name)) e) ∙ d.found) in
              subst (λ n. Imported n f.import.kind) (sym f.name) (record {
                place = k;
                first = e;
                kind = subst (λ (d : Definition). same_kind d.kind f.import.kind ≡ true) (sym is) d.kind;
              })

      -- what an imported name stands for, which is no label of the module
      imported-meaning : (q : List ℕ) (i : Found known.imports q) (t : Target) → is_among (import_names known.imports) q ≡ true
          → label modules (imported q i).place q ≡ Some t → meaning modules m q ≡ Some t
      imported-meaning q i t among h =
          ap (λ o. option_or o (exported_label modules q)) (label-none known (start modules m) q unlabelled)
          ∙ ap (option_and_then (λ k. label modules k q)) (imported q i).first ∙ h
        where
          outer : is_among (import_names known.imports ++ code_labels known.items) q ≡ true
          outer = among-append (import_names known.imports) (code_labels known.items) q
              ∙ or-left (is_among (import_names known.imports) q) (is_among (code_labels known.items) q) among

          no_cell : is_among (cell_labels known.cells) q ≡ false
          no_cell = apart (import_names known.imports ++ code_labels known.items) (cell_labels known.cells) (valid m here).distinct q outer

          no_code : is_among (code_labels known.items) q ≡ false
          no_code = apart (import_names known.imports) (code_labels known.items)
              (distinct-front (import_names known.imports ++ code_labels known.items) (cell_labels known.cells)
              (valid m here).distinct) q among

          unlabelled : is_among (labels known) q ≡ false
          unlabelled = among-append (code_labels known.items) (cell_labels known.cells) q
              ∙ ap (λ b. b || is_among (cell_labels known.cells) q) no_code ∙ no_cell

      own : (q : List ℕ) (t : Target) → label modules m q ≡ Some t → meaning modules m q ≡ Some t
      own q t h = ap (λ o. option_or o (exported_label modules q)) h

      some : (q : List ℕ) (t : Target) → meaning modules m q ≡ Some t → is_some (meaning modules m q) ≡ true
      some q t h = ap is_some h

      -- a name that the module defines stands for something
      pub defined-some : (q : List ℕ) → is_among (defined_names known) q ≡ true → is_some (meaning modules m q) ≡ true
      defined-some q h = by (is_among (import_names known.imports) q) refl
        where
          by : (b : Bool) → is_among (import_names known.imports) q ≡ b → is_some (meaning modules m q) ≡ true
          by true e =
              let i = import-of known.imports q e in
              let x = exporter-is modules q (imported q i).place (imported q i).first in
              let l = exported-some (imported q i).place q (valid (imported q i).place x.0) x.1 in
              some q l.0 (imported-meaning q i l.0 e l.1)
          by false e = (let l = label-some known (start modules m) q labelled in some q l.0 (own q l.0 l.1))
            where
              labelled : is_among (labels known) q ≡ true
              labelled = among-append (code_labels known.items) (cell_labels known.cells) q ∙ shift
                  (is_among (import_names known.imports) q) (is_among (code_labels known.items) q) (is_among (cell_labels known.cells) q) e
                  (sym (ap (λ b. b || is_among (cell_labels known.cells) q) (among-append (import_names known.imports)
                  (code_labels known.items) q))
                  ∙ sym (among-append (import_names known.imports ++ code_labels known.items) (cell_labels known.cells) q) ∙ h)
                where
                  shift : (a b c : Bool) → a ≡ false → ((a || b) || c) ≡ true → (b || c) ≡ true
                  shift true b c n h = absurd cc
                  shift false b c n h = h

      -- a name of code stands for code
      pub code-meaning : (q : List ℕ) → is_among (code_names known) q ≡ true → is_code (target modules m q).kind ≡ true
      code-meaning q h = elim (either (is_among (filter_map imported_code known.imports) q) (is_among (code_labels known.items) q)
          (sym (among-append (filter_map imported_code known.imports) (code_labels known.items) q) ∙ h)) [
            | inl i ↦ from_import (code_import-of known.imports q i)
            | inr l ↦ (let c = code-label known (start modules m) q l in of c.0 (own q c.0 c.1) c.2)
          ]
        where
          of : (t : Target) → meaning modules m q ≡ Some t → is_code t.kind ≡ true → is_code (target modules m q).kind ≡ true
          of t e k = ap (λ o. is_code (told (λ (n : List ℕ). o) q).kind) e ∙ k

          coded : (a b : Kind) → same_kind a b ≡ true → is_code b ≡ true → is_code a ≡ true
          coded kind.Code b s k = refl
          coded kind.Cell kind.Code s k = absurd cc
          coded kind.Cell kind.Cell s k = absurd cc

          labelled : (b : Bool) → is_code (if b then kind.Code else kind.Cell) ≡ true → b ≡ true
          labelled true h = refl
          labelled false h = absurd cc

          from_import : (f : Found known.imports q) × (is_code f.import.kind ≡ true) → is_code (target modules m q).kind ≡ true
          from_import f =
              let i = imported q f.0 in
              let l = labelled (is_among (code_labels (module_at modules i.place).items) q)
              (coded (kind_of (module_at modules i.place) q) f.0.import.kind i.kind f.1) in
              let c = code-label (module_at modules i.place) (start modules i.place) q l in
              of c.0 (imported-meaning q f.0 c.0 (listed known.imports f.0) c.1) c.2
            where
              listed : (imports : List Import) (f : Found imports q) → is_among (import_names imports) q ≡ true
              listed imports f = at imports f.index f.import f.here f.name
                where
                  at : (imports : List Import) (i : ℕ) (x : Import) → slice_get imports i ≡ Some x → q ≡ x.name
                      → is_among (import_names imports) q ≡ true
                  at [] i x e n = absurd (none-some x e)
                  at (y ∷ ys) zero x e n = or-left (same_name q y.name) (is_among (import_names ys) q)
                      (ap (same_name q) (ap (λ (z : Import). z.name) (same_Some y x e) ∙ sym n) ∙ same-itself q)
                  at (y ∷ ys) (suc i) x e n = or-right (same_name q y.name) (is_among (import_names ys) q) (at ys i x e n)
