-- What was gathered is what the statements so far say, each with the number of its line.
use Rattle.std.specs.Prelude.{⊤}
use Rattle.std.proofs.Common.{◌≡◌, ℕ, List, [], ◌∷◌, ◌++◌, map, Option, Some, None, refl, sym, ap, ◌∙◌, subst, append-nil, append_assoc}
use Rattle.std.specs.List.{filter_map}
use Rattle.std.specs.Option.{option_to_list}
use Rattle.std.proofs.lemmas.List.{map-append}
use Rattle.std.proofs.lemmas.List.Elements.{filter_map-append}
use Rattle.tn_module.specs.declared.modules.Import.{Import}
use Rattle.tn_module.specs.declared.modules.Item.{Item}
use Rattle.tn_module.specs.declared.modules.Cell.{Cell}
use Rattle.tn_asm.specs.declared.statements.Section.{Section}
use Rattle.tn_asm.specs.declared.statements.Section.TheVariants as section
use Rattle.tn_asm.specs.declared.statements.Statement.{Statement}
use Rattle.tn_asm.specs.declared.statements.Statement.TheVariants as statement
use Rattle.tn_asm.specs.Numbered.{LineNumbers}
use Rattle.tn_asm.specs.Sources.{section_after, section_behind, at_line, module_in, import_in, export_in, item_in, cell_in, numbered}
use Rattle.tn_asm.specs.Sources.{parts_in, values_in, lines_in, numbers_in}
use Rattle.tn_asm.specs.Assembling.{Gathered, after, with_all}

abbrev pub first_of : {A : Type 0} → List A → Option A
first_of [] = None
first_of (x ∷ xs) = Some x

-- what so many lines have said
abbrev pub so_far : ℕ → List (ℕ × Statement) → Gathered
so_far n said =
    record {
      line = n;
      section = section_behind section.Head said;
      name = first_of (values_in module_in said);
      imports = values_in import_in said;
      exports = values_in export_in said;
      items = values_in item_in said;
      cells = values_in cell_in said;
      lines = numbers_in said;
    }

pub section-append : (s : Section) (said more : List (ℕ × Statement))
    → section_behind s (said ++ more) ≡ section_behind (section_behind s said) more
section-append s [] more = refl
section-append s (x ∷ said) more = section-append (section_after s x.1) said more

-- ---- one statement more

module _ {X : Type 0} (part : Statement → Option X) (said : List (ℕ × Statement)) (n : ℕ) (x : Statement) where
  parts-more : parts_in part (said ++ (n, x) ∷ []) ≡ parts_in part said ++ filter_map (numbered part) ((n, x) ∷ [])
  parts-more = filter_map-append (numbered part) said ((n, x) ∷ [])

  values-more : values_in part (said ++ (n, x) ∷ []) ≡ values_in part said ++ map (λ p. p.1) (filter_map (numbered part) ((n, x) ∷ []))
  values-more = ap (map (λ p. p.1)) parts-more ∙ map-append (λ p. p.1) (parts_in part said) (filter_map (numbered part) ((n, x) ∷ []))

  lines-more : lines_in part (said ++ (n, x) ∷ []) ≡ lines_in part said ++ map (λ p. p.0) (filter_map (numbered part) ((n, x) ∷ []))
  lines-more = ap (map (λ p. p.0)) parts-more ∙ map-append (λ p. p.0) (parts_in part said) (filter_map (numbered part) ((n, x) ∷ []))

  one : (o : Option X) → part x ≡ o → map (λ p. p.1) (filter_map (numbered part) ((n, x) ∷ [])) ≡ option_to_list o
  one None e = rw e refl
  one (Some p) e = rw e refl

  pub values-grown : values_in part (said ++ (n, x) ∷ []) ≡ values_in part said ++ option_to_list (part x)
  values-grown = values-more ∙ ap (λ ys. values_in part said ++ ys) (one (part x) refl)

  values-kept : part x ≡ None → values_in part said ≡ values_in part (said ++ (n, x) ∷ [])
  values-kept e =
      sym (values-more ∙ (ap (λ ys. values_in part said ++ ys) (one None e) ∙ append-nil (values_in part said)))

  values-put : (p : X) → part x ≡ Some p → values_in part said ++ p ∷ [] ≡ values_in part (said ++ (n, x) ∷ [])
  values-put p e = sym (values-more ∙ ap (λ ys. values_in part said ++ ys) (one (Some p) e))

  lines-kept : part x ≡ None → lines_in part said ≡ lines_in part (said ++ (n, x) ∷ [])
  lines-kept e = sym (lines-more ∙ (ap (λ ys. lines_in part said ++ ys) none ∙ append-nil (lines_in part said)))
    where
      none : map (λ p. p.0) (filter_map (numbered part) ((n, x) ∷ [])) ≡ []
      none = rw e refl

  lines-put : (p : X) → part x ≡ Some p → lines_in part said ++ n ∷ [] ≡ lines_in part (said ++ (n, x) ∷ [])
  lines-put p e = sym (lines-more ∙ ap (λ ys. lines_in part said ++ ys) some)
    where
      some : map (λ p. p.0) (filter_map (numbered part) ((n, x) ∷ [])) ≡ n ∷ []
      some = rw e refl

section-more : (said : List (ℕ × Statement)) (n : ℕ) (x : Statement)
    → section_after (section_behind section.Head said) x ≡ section_behind section.Head (said ++ (n, x) ∷ [])
section-more said n x = sym (section-append section.Head said ((n, x) ∷ []))

abbrev built : ℕ → Section → Option (List ℕ) → List Import → List (List ℕ) → List Item → List Cell → LineNumbers → Gathered
built n s name is es its cs ls =
    record { line = n; section = s; name = name; imports = is; exports = es; items = its; cells = cs; lines = ls }

abbrev lines_built : List ℕ → List ℕ → List ℕ → List ℕ → LineNumbers
lines_built is es its cs = record { imports = is; exports = es; items = its; cells = cs }

same_lines : {a b c d e f g h : List ℕ} → a ≡ e → b ≡ f → c ≡ g → d ≡ h → lines_built a b c d ≡ lines_built e f g h
same_lines p q r s = rw (p, q, r, s) refl

same_built : {n : ℕ} {s t : Section} {a b : Option (List ℕ)} {is js : List Import} {es fs : List (List ℕ)} {its jts : List Item}
    {cs ds : List Cell} {ls ms : LineNumbers} → s ≡ t → a ≡ b → is ≡ js → es ≡ fs → its ≡ jts → cs ≡ ds → ls ≡ ms
    → built n s a is es its cs ls ≡ built n t b js fs jts ds ms
same_built p q r u v w x = rw (p, q, r, u, v, w, x) refl

-- a module is named where none was
grown : (n : ℕ) (said : List (ℕ × Statement)) (x : Statement)
    → ((name : List ℕ) → module_in x ≡ Some name → values_in module_in said ≡ [])
    → after (so_far n said) x ≡ so_far n (said ++ (n, x) ∷ [])
grown n said (statement.Module name) first =
    let x = statement.Module name in
    same_built (section-more said n x)
    (sym (ap first_of (values-grown module_in said n x ∙ ap (λ v. v ++ name ∷ []) (first name refl))))
    (values-kept import_in said n x refl) (values-kept export_in said n x refl) (values-kept item_in said n x refl)
    (values-kept cell_in said n x refl)
    (same_lines (lines-kept import_in said n x refl) (lines-kept export_in said n x refl) (lines-kept item_in said n x refl)
    (lines-kept cell_in said n x refl))
grown n said (statement.Import import) first =
    let x = statement.Import import in
    same_built (section-more said n x) (ap first_of (values-kept module_in said n x refl)) (values-put import_in said n x import refl)
    (values-kept export_in said n x refl) (values-kept item_in said n x refl) (values-kept cell_in said n x refl)
    (same_lines (lines-put import_in said n x import refl) (lines-kept export_in said n x refl) (lines-kept item_in said n x refl)
    (lines-kept cell_in said n x refl))
grown n said (statement.Export name) first =
    let x = statement.Export name in
    same_built (section-more said n x) (ap first_of (values-kept module_in said n x refl)) (values-kept import_in said n x refl)
    (values-put export_in said n x name refl) (values-kept item_in said n x refl) (values-kept cell_in said n x refl)
    (same_lines (lines-kept import_in said n x refl) (lines-put export_in said n x name refl) (lines-kept item_in said n x refl)
    (lines-kept cell_in said n x refl))
grown n said statement.Code first =
    let x = statement.Code in
    same_built (section-more said n x) (ap first_of (values-kept module_in said n x refl)) (values-kept import_in said n x refl)
    (values-kept export_in said n x refl) (values-kept item_in said n x refl) (values-kept cell_in said n x refl)
    (same_lines (lines-kept import_in said n x refl) (lines-kept export_in said n x refl) (lines-kept item_in said n x refl)
    (lines-kept cell_in said n x refl))
grown n said statement.Data first =
    let x = statement.Data in
    same_built (section-more said n x) (ap first_of (values-kept module_in said n x refl)) (values-kept import_in said n x refl)
    (values-kept export_in said n x refl) (values-kept item_in said n x refl) (values-kept cell_in said n x refl)
    (same_lines (lines-kept import_in said n x refl) (lines-kept export_in said n x refl) (lines-kept item_in said n x refl)
    (lines-kept cell_in said n x refl))
grown n said (statement.Item i) first =
    let x = statement.Item i in
    same_built (section-more said n x) (ap first_of (values-kept module_in said n x refl)) (values-kept import_in said n x refl)
    (values-kept export_in said n x refl) (values-put item_in said n x i refl) (values-kept cell_in said n x refl)
    (same_lines (lines-kept import_in said n x refl) (lines-kept export_in said n x refl) (lines-put item_in said n x i refl)
    (lines-kept cell_in said n x refl))
grown n said (statement.Cell c) first =
    let x = statement.Cell c in
    same_built (section-more said n x) (ap first_of (values-kept module_in said n x refl)) (values-kept import_in said n x refl)
    (values-kept export_in said n x refl) (values-kept item_in said n x refl) (values-put cell_in said n x c refl)
    (same_lines (lines-kept import_in said n x refl) (lines-kept export_in said n x refl) (lines-kept item_in said n x refl)
    (lines-put cell_in said n x c refl))

-- ---- the name of the module

-- none was said before the first line with tokens, and one behind it
abbrev pub NamedBy : Section → List (List ℕ) → Type 0
NamedBy section.Head names = names ≡ []
NamedBy section.Code names = (name : List ℕ) × (names ≡ name ∷ [])
NamedBy section.Data names = (name : List ℕ) × (names ≡ name ∷ [])

abbrev pub Named : List (ℕ × Statement) → Type 0
Named said = NamedBy (section_behind section.Head said) (values_in module_in said)

-- a statement that may stand in a section names the module exactly in the first
abbrev pub Suits : Section → Statement → Type 0
Suits section.Head x = (name : List ℕ) × (x ≡ statement.Module name)
Suits section.Code x = module_in x ≡ None
Suits section.Data x = module_in x ≡ None

abbrev pub AllSuit : Section → List Statement → Type 0
AllSuit s [] = ⊤
AllSuit s (x ∷ xs) = Suits s x × AllSuit (section_after s x) xs

named_more : (s : Section) (names : List (List ℕ)) (x : Statement) → NamedBy s names → Suits s x
    → NamedBy (section_after s x) (names ++ option_to_list (module_in x))
named_more section.Head names x e (name, is) =
    subst (λ y. NamedBy (section_after section.Head y) (names ++ option_to_list (module_in y))) (sym is)
    (name, ap (λ v. v ++ name ∷ []) e)
named_more section.Code names (statement.Module name) p h = absurd cc
named_more section.Code names x p h = (p.0, append-nil names ∙ p.1)
named_more section.Data names (statement.Module name) p h = absurd cc
named_more section.Data names x p h = (p.0, append-nil names ∙ p.1)

named_first : (s : Section) (names : List (List ℕ)) (x : Statement) → NamedBy s names → Suits s x → (name : List ℕ)
    → module_in x ≡ Some name → names ≡ []
named_first section.Head names x e h name is = e
named_first section.Code names x p h name is = absurd (let no = sym h ∙ is in cc)
named_first section.Data names x p h name is = absurd (let no = sym h ∙ is in cc)

-- statements are gathered behind others
pub record Grows (n : ℕ) (said : List (ℕ × Statement)) (here : List Statement) : Type 0 where
  pub is : with_all (so_far n said) here ≡ so_far n (said ++ at_line n here)
  pub named : Named (said ++ at_line n here)

pub all_grown : (n : ℕ) (said : List (ℕ × Statement)) (here : List Statement) → Named said
    → AllSuit (section_behind section.Head said) here → Grows n said here
all_grown n said [] named suit =
    record { is = ap (so_far n) (sym (append-nil said)); named = subst Named (sym (append-nil said)) named }
all_grown n said (x ∷ xs) named suit =
    let s = section_behind section.Head said in
    let names = values_in module_in said in
    let more = said ++ (n, x) ∷ [] in
    let step = grown n said x (named_first s names x named suit.0) in
    let named_then : Named more =
    subst (λ t. NamedBy t (values_in module_in more)) (section-more said n x)
    (subst (NamedBy (section_after s x)) (sym (values-grown module_in said n x)) (named_more s names x named suit.0)) in
    let suit_then : AllSuit (section_behind section.Head more) xs = subst (λ t. AllSuit t xs) (section-more said n x) suit.1 in
    let rest = all_grown n more xs named_then suit_then in
    let joined : more ++ at_line n xs ≡ said ++ at_line n (x ∷ xs) = append_assoc said ((n, x) ∷ []) (at_line n xs) in
    record {
      is = ap (λ g. with_all g xs) step ∙ (rest.is ∙ ap (so_far n) joined);
      named = subst Named joined rest.named;
    }
