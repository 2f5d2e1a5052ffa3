-- What was read so far are the lines that were read, and the lines of a module lead to it.
use Rattle.std.proofs.Common.{◌≡◌, ℕ, Bool, true, false, List, [], ◌∷◌, ◌++◌, map, Option, Some, None, Ok, Err, refl, sym}
use Rattle.std.proofs.Common.{ap, ◌∙◌, subst, append_assoc, append-nil}
use Rattle.std.proofs.lemmas.List.{map-append}
use Rattle.tn_text.specs.declared.faults.Cause.{Cause}
use Rattle.tn_module.specs.declared.modules.Import.{Import}
use Rattle.tn_module.specs.declared.modules.Item.{Item}
use Rattle.tn_module.specs.declared.modules.Cell.{Cell}
use Rattle.tn_module.specs.Modules.{Parts}
use Rattle.tn_modtext.specs.declared.forms.Section.{Section}
use Rattle.tn_modtext.specs.declared.forms.Section.TheVariants as section
use Rattle.tn_modtext.specs.declared.lines.Line.{Line}
use Rattle.tn_modtext.specs.declared.lines.Line.TheVariants as line
use Rattle.tn_modtext.specs.Forms.{stands, section_after}
use Rattle.tn_modtext.specs.Lines.{line_form, lines_of}
use Rattle.tn_modtext.specs.LineFaults.{is_end, lacks_end}
use Rattle.tn_modtext.specs.Inner.Drafts.{Drawn, blank, after, parts_with, whole_named, whole}

-- ---- the lines so far

abbrev pub named_lines : Option (List ℕ) → List Line
named_lines None = []
named_lines (Some name) = line.Name name ∷ []

abbrev pub up_to_imports : Drawn → List Line
up_to_imports d = (line.Head ∷ named_lines d.name) ++ map line.Import d.imports

abbrev pub up_to_exports : Drawn → List Line
up_to_exports d = up_to_imports d ++ map line.Export d.exports

abbrev pub up_to_items : Drawn → List Line
up_to_items d = (up_to_exports d ++ line.Code ∷ []) ++ map line.Item d.items

abbrev pub up_to_cells : Drawn → List Line
up_to_cells d = (up_to_items d ++ line.Data ∷ []) ++ map line.Cell d.cells

abbrev pub written : Section → Drawn → List Line
written section.Head d = []
written section.Name d = line.Head ∷ []
written section.Imports d = up_to_imports d
written section.Exports d = up_to_exports d
written section.Items d = up_to_items d
written section.Cells d = up_to_cells d
written section.End d = up_to_cells d ++ line.End ∷ []

-- what stands behind was not read
pub record Unread (d : Drawn) : Type 0 where
  pub imports : d.imports ≡ []
  pub exports : d.exports ≡ []
  pub items : d.items ≡ []
  pub cells : d.cells ≡ []

pub record Named (d : Drawn) : Type 0 where
  pub name : List ℕ
  pub is : d.name ≡ Some name

pub record AtImports (d : Drawn) : Type 0 where
  pub named : Named d
  pub exports : d.exports ≡ []
  pub items : d.items ≡ []
  pub cells : d.cells ≡ []

pub record AtExports (d : Drawn) : Type 0 where
  pub named : Named d
  pub items : d.items ≡ []
  pub cells : d.cells ≡ []

pub record AtItems (d : Drawn) : Type 0 where
  pub named : Named d
  pub cells : d.cells ≡ []

abbrev pub Fresh : Section → Drawn → Type 0
Fresh section.Head d = Unread d
Fresh section.Name d = Unread d
Fresh section.Imports d = AtImports d
Fresh section.Exports d = AtExports d
Fresh section.Items d = AtItems d
Fresh section.Cells d = Named d
Fresh section.End d = Named d

pub fresh-blank : Fresh section.Head blank
fresh-blank = record { imports = refl; exports = refl; items = refl; cells = refl }

grown : {X : Type 0} (front : List Line) (put : X → Line) (xs : List X) (x : X)
    → front ++ map put (xs ++ x ∷ []) ≡ (front ++ map put xs) ++ put x ∷ []
grown front put xs x = ap (λ ls. front ++ ls) (map-append put xs (x ∷ [])) ∙ sym (append_assoc front (map put xs) (put x ∷ []))

begun : {X : Type 0} (front : List Line) (put : X → Line) (xs : List X) → xs ≡ [] → front ++ map put xs ≡ front
begun front put xs e = ap (λ ys. front ++ map put ys) e ∙ append-nil front

-- a line that may stand in the section comes behind the lines so far
pub record Grows (s : Section) (d : Drawn) (l : Line) : Type 0 where
  pub lines : written (section_after (line_form l)) (after d l) ≡ written s d ++ l ∷ []
  pub fresh : Fresh (section_after (line_form l)) (after d l)

pub grows : (s : Section) (d : Drawn) (l : Line) → stands s (line_form l) ≡ true → Fresh s d → Grows s d l
grows section.Head d line.Head h f =
    record { lines = refl; fresh = record { imports = f.imports; exports = f.exports; items = f.items; cells = f.cells } }
grows section.Name d (line.Name name) h f =
    record {
      lines = begun (line.Head ∷ line.Name name ∷ []) line.Import d.imports f.imports;
      fresh = record { named = record { name = name; is = refl }; exports = f.exports; items = f.items; cells = f.cells };
    }
grows section.Imports d (line.Import import) h f =
    record {
      lines = grown (line.Head ∷ named_lines d.name) line.Import d.imports import;
      fresh = record { named = record { name = f.named.name; is = f.named.is }; exports = f.exports; items = f.items; cells = f.cells };
    }
grows section.Imports d (line.Export name) h f =
    record {
      lines = ap (λ names. up_to_imports d ++ map line.Export (names ++ name ∷ [])) f.exports;
      fresh = record { named = record { name = f.named.name; is = f.named.is }; items = f.items; cells = f.cells };
    }
grows section.Imports d line.Code h f =
    record {
      lines = begun ((up_to_imports d ++ map line.Export d.exports) ++ line.Code ∷ []) line.Item d.items f.items
          ∙ ap (λ ls. ls ++ line.Code ∷ []) (begun (up_to_imports d) line.Export d.exports f.exports);
      fresh = record { named = record { name = f.named.name; is = f.named.is }; cells = f.cells };
    }
grows section.Exports d (line.Export name) h f =
    record {
      lines = grown (up_to_imports d) line.Export d.exports name;
      fresh = record { named = record { name = f.named.name; is = f.named.is }; items = f.items; cells = f.cells };
    }
grows section.Exports d line.Code h f =
    record {
      lines = begun (up_to_exports d ++ line.Code ∷ []) line.Item d.items f.items;
      fresh = record { named = record { name = f.named.name; is = f.named.is }; cells = f.cells };
    }
grows section.Items d (line.Item item) h f =
    record {
      lines = grown (up_to_exports d ++ line.Code ∷ []) line.Item d.items item;
      fresh = record { named = record { name = f.named.name; is = f.named.is }; cells = f.cells };
    }
grows section.Items d line.Data h f =
    record {
      lines = begun (up_to_items d ++ line.Data ∷ []) line.Cell d.cells f.cells;
      fresh = record { name = f.named.name; is = f.named.is };
    }
grows section.Cells d (line.Cell cell) h f =
    record {
      lines = grown (up_to_items d ++ line.Data ∷ []) line.Cell d.cells cell;
      fresh = record { name = f.name; is = f.is };
    }
grows section.Cells d line.End h f = record { lines = refl; fresh = record { name = f.name; is = f.is } }
grows s d l h f = absurd cc

-- ---- the end

pub at_end : (s : Section) → is_end s ≡ true → s ≡ section.End
at_end section.Head e = absurd cc
at_end section.Name e = absurd cc
at_end section.Imports e = absurd cc
at_end section.Exports e = absurd cc
at_end section.Items e = absurd cc
at_end section.Cells e = absurd cc
at_end section.End e = refl

-- a draft with a name that is at its end is whole
pub whole-at_end : (d : Drawn) (name : List ℕ) → d.name ≡ Some name → is_end d.section ≡ true → whole d ≡ Ok (parts_with d name)
whole-at_end d name named ended = rw (named, ended) refl

pub record IsWhole (d : Drawn) (m : Parts) : Type 0 where
  pub ended : d.section ≡ section.End
  pub lines : written section.End d ≡ lines_of m

-- a draft that is whole has the lines of its module
pub whole-found : (d : Drawn) (m : Parts) → whole d ≡ Ok m → IsWhole d m
unfolding lines_of
whole-found d m e = at d.name (is_end d.section) refl refl e
  where
    at : (o : Option (List ℕ)) (b : Bool) → d.name ≡ o → is_end d.section ≡ b → whole_named d o b ≡ Ok m → IsWhole d m
    at None b is test q = absurd cc
    at (Some name) false is test q = absurd cc
    at (Some name) true is test q =
        let same : parts_with d name ≡ m = cc in
        record {
          ended = at_end d.section test;
          lines = subst (λ p. written section.End d ≡ lines_of p) same
              (ap (λ n. ((((((line.Head ∷ named_lines n) ++ map line.Import d.imports) ++ map line.Export d.exports) ++ line.Code ∷ [])
              ++ map line.Item d.items) ++ line.Data ∷ []) ++ map line.Cell d.cells ++ line.End ∷ []) is);
        }

-- a draft that is not is told as a text that stops early, and only where it is not at its end
pub whole-lacks : (d : Drawn) → is_end d.section ≡ false → whole d ≡ Err lacks_end
whole-lacks d e = at d.name (is_end d.section) e
  where
    at : (o : Option (List ℕ)) (b : Bool) → b ≡ false → whole_named d o b ≡ Err lacks_end
    at None b e = refl
    at (Some name) false e = refl
    at (Some name) true e = absurd cc

pub whole-refused : (d : Drawn) (cause : Cause) → Fresh d.section d → whole d ≡ Err cause → (is_end d.section ≡ false) × (cause ≡ lacks_end)
whole-refused d cause f e = at d.section refl f (is_end d.section) refl e
  where
    known : Named d → whole_named d d.name true ≡ Err cause → ⊥
    known n q = by d.name n.is q
      where
        by : (o : Option (List ℕ)) → o ≡ Some n.name → whole_named d o true ≡ Err cause → ⊥
        by None is q = absurd cc
        by (Some name) is q = absurd cc

    lacks : whole_named d d.name false ≡ Err cause → cause ≡ lacks_end
    lacks q = by d.name q
      where
        by : (o : Option (List ℕ)) → whole_named d o false ≡ Err cause → cause ≡ lacks_end
        by None q = cc
        by (Some name) q = cc

    at : (s : Section) → d.section ≡ s → Fresh s d → (b : Bool) → is_end s ≡ b → whole_named d d.name b ≡ Err cause
        → (is_end s ≡ false) × (cause ≡ lacks_end)
    at s is f false test q = (test, lacks q)
    at s is f true test q = absurd (known (subst (λ t. Fresh t d) (at_end s test) f) q)

-- ---- the lines of a module, read one after the other

unfoldable pub Leads : Drawn → List Line → Drawn → Type 0
Leads d [] e = d ≡ e
Leads d (l ∷ ls) e = (stands d.section (line_form l) ≡ true) × Leads (after d l) ls e

leads-joined : (ls ms : List Line) (d e f : Drawn) → Leads d ls e → Leads e ms f → Leads d (ls ++ ms) f
unfolding Leads
leads-joined [] ms d e f p q = subst (λ c. Leads c ms f) (sym p) q
leads-joined (l ∷ ls) ms d e f p q = (p.0, leads-joined ls ms (after d l) e f p.1 q)

abbrev drawn_at : Section → List ℕ → List Import → List (List ℕ) → List Item → List Cell → Drawn
drawn_at s n is es its cs = record { section = s; name = Some n; imports = is; exports = es; items = its; cells = cs }

leads-imports : (n : List ℕ) (is xs : List Import)
    → Leads (drawn_at section.Imports n is [] [] []) (map line.Import xs) (drawn_at section.Imports n (is ++ xs) [] [] [])
unfolding Leads
leads-imports n is [] = ap (λ ys. drawn_at section.Imports n ys [] [] []) (sym (append-nil is))
leads-imports n is (x ∷ xs) = (
  refl,
  subst (λ ys. Leads (drawn_at section.Imports n (is ++ x ∷ []) [] [] []) (map line.Import xs) (drawn_at section.Imports n ys [] [] []))
      (append_assoc is (x ∷ []) xs) (leads-imports n (is ++ x ∷ []) xs),
)

leads-exports : (n : List ℕ) (is : List Import) (es xs : List (List ℕ))
    → Leads (drawn_at section.Exports n is es [] []) (map line.Export xs) (drawn_at section.Exports n is (es ++ xs) [] [])
unfolding Leads
leads-exports n is es [] = ap (λ ys. drawn_at section.Exports n is ys [] []) (sym (append-nil es))
leads-exports n is es (x ∷ xs) = (
  refl,
  subst (λ ys. Leads (drawn_at section.Exports n is (es ++ x ∷ []) [] []) (map line.Export xs) (drawn_at section.Exports n is ys [] []))
      (append_assoc es (x ∷ []) xs) (leads-exports n is (es ++ x ∷ []) xs),
)

-- exports, if any, and the line behind them
leads-code : (n : List ℕ) (is : List Import) (xs : List (List ℕ))
    → Leads (drawn_at section.Imports n is [] [] []) (map line.Export xs ++ line.Code ∷ []) (drawn_at section.Items n is xs [] [])
unfolding Leads
leads-code n is [] = (refl, refl)
leads-code n is (x ∷ xs) = (
  refl,
  leads-joined (map line.Export xs) (line.Code ∷ []) (drawn_at section.Exports n is (x ∷ []) [] [])
      (drawn_at section.Exports n is (x ∷ xs) [] []) (drawn_at section.Items n is (x ∷ xs) [] [])
      (leads-exports n is (x ∷ []) xs) (refl, refl),
)

leads-items : (n : List ℕ) (is : List Import) (es : List (List ℕ)) (its xs : List Item)
    → Leads (drawn_at section.Items n is es its []) (map line.Item xs) (drawn_at section.Items n is es (its ++ xs) [])
unfolding Leads
leads-items n is es its [] = ap (λ ys. drawn_at section.Items n is es ys []) (sym (append-nil its))
leads-items n is es its (x ∷ xs) = (
  refl,
  subst (λ ys. Leads (drawn_at section.Items n is es (its ++ x ∷ []) []) (map line.Item xs) (drawn_at section.Items n is es ys []))
      (append_assoc its (x ∷ []) xs) (leads-items n is es (its ++ x ∷ []) xs),
)

leads-cells : (n : List ℕ) (is : List Import) (es : List (List ℕ)) (its : List Item) (cs xs : List Cell)
    → Leads (drawn_at section.Cells n is es its cs) (map line.Cell xs) (drawn_at section.Cells n is es its (cs ++ xs))
unfolding Leads
leads-cells n is es its cs [] = ap (λ ys. drawn_at section.Cells n is es its ys) (sym (append-nil cs))
leads-cells n is es its cs (x ∷ xs) = (
  refl,
  subst (λ ys. Leads (drawn_at section.Cells n is es its (cs ++ x ∷ [])) (map line.Cell xs) (drawn_at section.Cells n is es its ys))
      (append_assoc cs (x ∷ []) xs) (leads-cells n is es its (cs ++ x ∷ []) xs),
)

abbrev pub whole_draft : Parts → Drawn
whole_draft m = drawn_at section.End m.name m.imports m.exports m.items m.cells

pub leads-module : (m : Parts) → Leads blank (lines_of m) (whole_draft m)
unfolding Leads lines_of
leads-module m =
    let n = m.name in
    let is = m.imports in
    let es = m.exports in
    let its = m.items in
    let named = drawn_at section.Imports n [] [] [] [] in
    let front : Leads blank (line.Head ∷ line.Name n ∷ []) named = (refl, (refl, refl)) in
    let imports = leads-joined (line.Head ∷ line.Name n ∷ []) (map line.Import is) blank named (drawn_at section.Imports n is [] [] [])
    front (leads-imports n [] is) in
    let code = leads-joined ((line.Head ∷ line.Name n ∷ []) ++ map line.Import is) (map line.Export es ++ line.Code ∷ []) blank
    (drawn_at section.Imports n is [] [] []) (drawn_at section.Items n is es [] []) imports (leads-code n is es) in
    let before : List Line = ((line.Head ∷ line.Name n ∷ []) ++ map line.Import is) ++ map line.Export es in
    let code_at : Leads blank (before ++ line.Code ∷ []) (drawn_at section.Items n is es [] []) =
    subst (λ ls. Leads blank ls (drawn_at section.Items n is es [] []))
    (sym (append_assoc ((line.Head ∷ line.Name n ∷ []) ++ map line.Import is) (map line.Export es) (line.Code ∷ []))) code in
    let items = leads-joined (before ++ line.Code ∷ []) (map line.Item its) blank (drawn_at section.Items n is es [] [])
    (drawn_at section.Items n is es its []) code_at (leads-items n is es [] its) in
    let data_line : Leads (drawn_at section.Items n is es its []) (line.Data ∷ []) (drawn_at section.Cells n is es its []) = (refl, refl) in
    let data_at = leads-joined ((before ++ line.Code ∷ []) ++ map line.Item its) (line.Data ∷ []) blank
    (drawn_at section.Items n is es its []) (drawn_at section.Cells n is es its []) items data_line in
    let cells = leads-joined (((before ++ line.Code ∷ []) ++ map line.Item its) ++ line.Data ∷ []) (map line.Cell m.cells) blank
    (drawn_at section.Cells n is es its []) (drawn_at section.Cells n is es its m.cells) data_at (leads-cells n is es its [] m.cells) in
    let end_line : Leads (drawn_at section.Cells n is es its m.cells) (line.End ∷ []) (whole_draft m) = (refl, refl) in
    leads-joined ((((before ++ line.Code ∷ []) ++ map line.Item its) ++ line.Data ∷ []) ++ map line.Cell m.cells) (line.End ∷ []) blank
    (drawn_at section.Cells n is es its m.cells) (whole_draft m) cells end_line

pub whole-draft : (m : Parts) → whole (whole_draft m) ≡ Ok m
whole-draft m = refl
