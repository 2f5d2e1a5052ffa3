-- A text is that of the valid module that its lines spell, or has one first fault.
use Rattle.std.proofs.Common.{◌≡◌, ℕ, ◌+◌, ◌^◌, ◌<◌, ◌≤◌, ◌⊎◌, inl, inr, true, List, [], ◌∷◌, ◌++◌, length, map, get_or, Option, Some}
use Rattle.std.proofs.Common.{None, All}
use Rattle.std.proofs.Common.{Result, Ok, Err, refl, sym, ap, ◌∙◌, arith, length-append}
use Rattle.std.specs.List.{flat_map, slice_get}
use Rattle.std.specs.Prelude.{option_and_then}
use Rattle.std.proofs.lemmas.List.{length-map}
use Rattle.std.proofs.lemmas.List.Elements.{All-nil, All-cons, All-append, All-map}
use Rattle.std.proofs.lemmas.Option.{slice_get_within}
use Rattle.tn_isa.specs.declared.functions.Fun.{Fun}
use Rattle.tn_isa.specs.declared.functions.Fun.TheVariants as fun
use Rattle.tn_text.specs.declared.faults.Fault.{Fault}
use Rattle.tn_text.specs.declared.faults.Cause.{Cause}
use Rattle.tn_text.specs.declared.faults.ReadFault.{ReadFault}
use Rattle.tn_text.specs.declared.faults.ReadFault.TheVariants as read
use Rattle.tn_text.specs.Reading.{Gives}
use Rattle.tn_module.specs.declared.faults.Place.{Place}
use Rattle.tn_module.specs.declared.faults.Place.TheVariants as place
use Rattle.tn_module.specs.declared.faults.ModuleFault.{ModuleFault}
use Rattle.tn_module.specs.declared.modules.Operand.{Operand}
use Rattle.tn_module.specs.declared.modules.Operand.TheVariants as operand
use Rattle.tn_module.specs.declared.modules.Item.{Item}
use Rattle.tn_module.specs.declared.modules.Item.TheVariants as item
use Rattle.tn_module.specs.Modules.{Parts, IsShort}
use Rattle.tn_module.specs.Names.{takes, has_its_operand}
use Rattle.tn_module.specs.Ranges.{IsInRange, IsItem}
use Rattle.tn_module.specs.Validity.{IsValid}
use Rattle.tn_module.specs.Faults.{IsFirstFault, cause_at}
use Rattle.tn_module.proofs.Laws.{invalid_at_fault}
use Rattle.tn_module.proofs.OneFirst.{one_first_fault}
use Rattle.tn_modtext.specs.declared.lines.Line.{Line}
use Rattle.tn_modtext.specs.declared.lines.Line.TheVariants as line
use Rattle.tn_modtext.specs.Lines.{line_text, line_spelling, lines_of, spelling, HasMnemonic, IsSpelledItem, IsSpelled, HasSpelling}
use Rattle.tn_modtext.specs.LineFaults.{IsLineFault}
use Rattle.tn_modtext.specs.ModuleTexts.{line_in, fault_in, IsModuleText, IsModuleTextFault, IsChecked}
use Rattle.tn_modtext.specs.Readers.{Reads}
use Rattle.tn_modtext.specs.Inner.Drafts.{parts_read}
use Rattle.tn_modtext.proofs.ReadLaws.{parts_reading}
use Rattle.tn_modtext.proofs.CheckLaws.{Checked, checked-reads, stopped-reads}

-- ---- a valid module has a spelling

-- a function that takes an operand is one that sources name
taken : (f : Fun) (o : Operand) → takes f o ≡ true → HasMnemonic f
taken fun.J o h = refl
taken fun.Ldlp o h = refl
taken fun.Pfix (operand.Number v) h = absurd cc
taken fun.Pfix (operand.To name) h = absurd cc
taken fun.Pfix (operand.Difference high low) h = absurd cc
taken fun.Pfix (operand.CellWord name) h = absurd cc
taken fun.Ldnl o h = refl
taken fun.Ldc o h = refl
taken fun.Ldnlp o h = refl
taken fun.Nfix (operand.Number v) h = absurd cc
taken fun.Nfix (operand.To name) h = absurd cc
taken fun.Nfix (operand.Difference high low) h = absurd cc
taken fun.Nfix (operand.CellWord name) h = absurd cc
taken fun.Ldl o h = refl
taken fun.Adc o h = refl
taken fun.Call o h = refl
taken fun.Cj o h = refl
taken fun.Ajw o h = refl
taken fun.Eqc o h = refl
taken fun.Stl o h = refl
taken fun.Stnl o h = refl
taken fun.Opr (operand.Number v) h = absurd cc
taken fun.Opr (operand.To name) h = absurd cc
taken fun.Opr (operand.Difference high low) h = absurd cc
taken fun.Opr (operand.CellWord name) h = absurd cc

spelled_item : (i : Item) → has_its_operand i ≡ true → IsItem i → IsSpelledItem i
spelled_item (item.Direct f o) h r = (taken f o h, r)
spelled_item (item.Plain op) h r = tt
spelled_item (item.Byte b) h r = r
spelled_item (item.Label name) h r = r

pub spelled-valid : (m : Parts) → IsValid m → IsInRange m → HasSpelling m
unfolding lines_of
spelled-valid m v r =
    let head = All-cons IsSpelled line.Head (line.Name m.name ∷ []) tt
    (All-cons IsSpelled (line.Name m.name) [] r.name (All-nil IsSpelled)) in
    let imports = All-append IsSpelled (line.Head ∷ line.Name m.name ∷ []) (map line.Import m.imports) head
    (All-map IsSpelled line.Import m.imports r.imports) in
    let exports = All-append IsSpelled ((line.Head ∷ line.Name m.name ∷ []) ++ map line.Import m.imports)
    (map line.Export m.exports) imports
    (All-map IsSpelled line.Export m.exports r.exports) in
    let front : List Line = ((line.Head ∷ line.Name m.name ∷ []) ++ map line.Import m.imports) ++ map line.Export m.exports in
    let code = All-append IsSpelled front (line.Code ∷ []) exports (All-cons IsSpelled line.Code [] tt (All-nil IsSpelled)) in
    let each : All IsSpelledItem m.items = λ k d k_lt. spelled_item (get_or m.items k d) (v.operands k d k_lt) (r.items k d k_lt) in
    let items = All-append IsSpelled (front ++ line.Code ∷ []) (map line.Item m.items) code (All-map IsSpelled line.Item m.items each) in
    let middle : List Line = (front ++ line.Code ∷ []) ++ map line.Item m.items in
    let data_at = All-append IsSpelled middle (line.Data ∷ []) items (All-cons IsSpelled line.Data [] tt (All-nil IsSpelled)) in
    let cells = All-append IsSpelled (middle ++ line.Data ∷ []) (map line.Cell m.cells) data_at
    (All-map IsSpelled line.Cell m.cells r.cells) in
    All-append IsSpelled ((middle ++ line.Data ∷ []) ++ map line.Cell m.cells) (line.End ∷ []) cells
    (All-cons IsSpelled line.End [] tt (All-nil IsSpelled))

-- ---- the lines of a module are counted

pub length-lines : (m : Parts) → length (lines_of m) ≡ 5 + length m.imports + length m.exports + length m.items + length m.cells
unfolding lines_of
length-lines m = simp (length-append, length-map) (omega arith)

pub lines_below : (ls : List Line) → length ls ≤ length (flat_map line_spelling ls)
lines_below [] = omega arith
lines_below (l ∷ ls) =
    omega (
      arith,
      lines_below ls,
      length-append (line_spelling l) (flat_map line_spelling ls),
      length-append (line_text l) (10 ∷ []),
    )

pub record HasRoom (m : Parts) : Type 0 where
  pub short : IsShort m
  pub room : length m.imports + length m.exports + length m.items + length m.cells + 5 < 2 ^ 30

pub room-spelled : (text : List ℕ) (m : Parts) → text ≡ spelling m → length text < 2 ^ 30 → HasRoom m
room-spelled text m e short =
    let below : length (lines_of m) ≤ length (spelling m) = lines_below (lines_of m) in
    let same : length text ≡ length (spelling m) = ap length e in
    let count = length-lines m in
    record {
      short = record {
        imports = omega (arith, below, same, count);
        exports = omega (arith, below, same, count);
        items = omega (arith, below, same, count);
        cells = omega (arith, below, same, count);
      };
      room = omega (arith, below, same, count);
    }

-- a place where something is wrong is one of the module's
wrong_within : {X : Type 0} (xs : List X) (i : ℕ) (test : X → Option Cause) (cause : Cause)
    → option_and_then test (slice_get xs i) ≡ Some cause → i < length xs
wrong_within {X = X} xs i test cause e = at (slice_get xs i) refl e
  where
    at : (o : Option X) → slice_get xs i ≡ o → option_and_then test o ≡ Some cause → i < length xs
    at None is q = absurd cc
    at (Some x) is q = slice_get_within xs i x is

pub place-within : (m : Parts) (p : Place) (cause : Cause) → cause_at m p ≡ Some cause
    → line_in m p ≤ 5 + length m.imports + length m.exports + length m.items + length m.cells
unfolding cause_at
place-within m (place.Import i) cause e = let within = wrong_within m.imports i _ cause e in omega (arith, within)
place-within m (place.Export i) cause e = let within = wrong_within m.exports i _ cause e in omega (arith, within)
place-within m (place.Item i) cause e = let within = wrong_within m.items i _ cause e in omega (arith, within)
place-within m (place.Cell i) cause e = let within = wrong_within m.cells i _ cause e in omega (arith, within)

-- ---- what a check of the parts makes of the text

abbrev IsWrongModule : Parts → Fault → Type 0
IsWrongModule m fault = (f : ModuleFault) × IsFirstFault m f × (fault ≡ fault_in 0 m f)

one_wrong : (m : Parts) (fault other : Fault) → IsWrongModule m fault → IsWrongModule m other → fault ≡ other
one_wrong m fault other (f, first, placed) (g, first_g, placed_g) =
    placed ∙ (ap (fault_in 0 m) (one_first_fault m f g first first_g) ∙ sym placed_g)

module _ (text : List ℕ) where
  abbrev IsSpelledText : Parts → Type 0
  IsSpelledText m = HasSpelling m × (text ≡ spelling m)

  fault_of : (fault : Fault) → IsModuleTextFault text fault
      → IsLineFault text fault ⊎ ((m : Parts) × IsSpelledText m × IsWrongModule m fault)
  fault_of fault (inl f) = inl f
  fault_of fault (inr f) = inr (f.parts, (f.has_spelling, f.spelled), (f.found, f.first, f.placed))

  of_fault : (fault : Fault) → IsLineFault text fault ⊎ ((m : Parts) × IsSpelledText m × IsWrongModule m fault)
      → IsModuleTextFault text fault
  of_fault fault (inl f) = inl f
  of_fault fault (inr (m, spelled, wrong)) =
      inr (record {
        parts = m;
        found = wrong.0;
        has_spelling = spelled.0;
        spelled = spelled.1;
        first = wrong.1;
        placed = wrong.2;
      })

  spells : (m : Parts) → IsModuleText text m → IsSpelledText m
  spells m is = (spelled-valid m is.valid is.ranges, is.spelled)

  fits : (m : Parts) (fault : Fault) → IsModuleText text m → IsWrongModule m fault → ⊥
  fits m fault is (f, first, placed) = invalid_at_fault m f first is.valid

  -- the parts were read, and checked
  pub module-read : (m : Parts) (result : Result Parts ReadFault) → parts_read text ≡ Ok m → IsChecked 0 m result
      → Reads (IsModuleText text) (IsModuleTextFault text) result
  module-read m result e c =
      checked-reads IsSpelledText (IsModuleText text) (IsLineFault text) IsWrongModule (parts_read text) (parts_reading text) spells fits
      one_wrong (IsModuleTextFault text) fault_of of_fault m result e (at result c)
    where
      at : (result : Result Parts ReadFault) → IsChecked 0 m result
          → Checked IsSpelledText (IsModuleText text) (IsLineFault text) IsWrongModule (parts_read text) (parts_reading text) spells fits
          one_wrong (IsModuleTextFault text) fault_of of_fault m result
      at (Ok n) (same, valid, ranges) =
          (same, record { valid = valid; ranges = ranges; spelled = ((parts_reading text).found m e).1 })
      at (Err (read.Fault why)) (f, first, placed, invalid) = (f, first, placed)
      at (Err read.NoMemory) c = tt

  -- a line was refused, or there was no memory
  pub module-stopped : (why : ReadFault) → Gives {T = Parts} (λ v. v) (Err why) (parts_read text)
      → Reads (IsModuleText text) (IsModuleTextFault text) (Err why)
  module-stopped =
      stopped-reads IsSpelledText (IsModuleText text) (IsLineFault text) IsWrongModule (parts_read text) (parts_reading text) spells fits
      one_wrong (IsModuleTextFault text) fault_of of_fault
