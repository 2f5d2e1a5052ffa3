-- Assembling a text gives the module that it stands for, or its first fault.
use Rattle.std.proofs.Common.{◌≡◌, ℕ, ◌+◌, ◌<◌, ◌^◌, ◌⊎◌, inl, inr, List, [], ◌∷◌, length, Option, Some, None, Result, Ok, Err, refl}
use Rattle.std.proofs.Common.{sym, ap, ◌∙◌, subst, arith}
use Rattle.std.specs.Prelude.{slice_get, option_and_then}
use Rattle.std.specs.Str.Lines.{lines}
use Rattle.std.proofs.lemmas.Option.{same_Some, slice_get_within}
use Rattle.std.proofs.lemmas.List.{length-map}
use Rattle.tn_text.specs.declared.faults.Cause.{Cause}
use Rattle.tn_text.specs.declared.faults.Fault.{Fault}
use Rattle.tn_text.specs.declared.faults.ReadFault.{ReadFault}
use Rattle.tn_text.specs.declared.faults.ReadFault.TheVariants as read
use Rattle.tn_text.specs.Faults.{fault_at}
use Rattle.tn_text.specs.Reading.{result_then, placed, Walks, IsFirstBadLine, IsLacking, IsReading, Gives}
use Rattle.tn_text.proofs.Results.{ok-ok, err-err, ok-err}
use Rattle.tn_text.proofs.Walking.{walk_of, of_walk, first_fault, of_first_bad, of_lacking}
use Rattle.tn_module.specs.declared.faults.ModuleFault.{ModuleFault}
use Rattle.tn_module.specs.Modules.{Parts, IsShort}
use Rattle.tn_module.specs.Validity.{IsValid}
use Rattle.tn_module.specs.declared.faults.Place.{Place}
use Rattle.tn_module.specs.declared.faults.Place.TheVariants as place
use Rattle.tn_module.specs.Faults.{cause_at, IsFirstFault}
use Rattle.tn_modtext.specs.ModuleReading.{first_fault as first_of_module}
use Rattle.tn_modtext.proofs.FirstFaults.{none-valid, valid-none, some-first, first-some}
use Rattle.tn_asm.specs.declared.statements.Section.{Section}
use Rattle.tn_asm.specs.declared.statements.Section.TheVariants as section
use Rattle.tn_asm.specs.declared.statements.Statement.{Statement}
use Rattle.tn_asm.specs.Numbered.{LineNumbers, NumberedParts, fault_in}
use Rattle.tn_asm.specs.Sources.{LinesSay, section_behind, values_in, lines_in, parts_in, module_in, import_in, export_in, item_in, cell_in}
use Rattle.tn_asm.specs.Sources.{numbers_in, AreParts, IsSource}
use Rattle.tn_asm.specs.SourceFaults.{IsBadLine, IsUnnamed, IsSourceFault}
use Rattle.tn_asm.specs.Assembling.{Gathered, source_line, finish, finished, nothing_gathered, lacks_module, source_read, judged, judged_by}
use Rattle.tn_asm.specs.Assembling.{assembled}
use Rattle.tn_asm.specs.Inner.Drafts.{HasLines, IsPlaceOf}
use Rattle.tn_asm.proofs.Gathering.{first_of, so_far, Named, NamedBy}
use Rattle.tn_asm.proofs.Lines.{line_wrong, wrong_line, Walked, walked, walk_of_says}
use Rattle.tn_asm.proofs.Counting.{total-text, lines_count, values_count}

named_nothing : Named []
named_nothing = refl

-- ---- the end of the lines

abbrev parts_of : List (ℕ × Statement) → List ℕ → NumberedParts
parts_of said name =
    record {
      parts = record {
        name = name;
        imports = values_in import_in said;
        exports = values_in export_in said;
        items = values_in item_in said;
        cells = values_in cell_in said;
      };
      lines = numbers_in said;
    }

-- one name at most was said
one_name : (s : Section) (names : List (List ℕ)) (name : List ℕ) → NamedBy s names → first_of names ≡ Some name → names ≡ name ∷ []
one_name section.Head names name e f = absurd (let no = sym (ap first_of e) ∙ f in cc)
one_name section.Code names name (other, e) f = e ∙ ap (λ n. n ∷ []) (same_Some other name (sym (ap first_of e) ∙ f))
one_name section.Data names name (other, e) f = e ∙ ap (λ n. n ∷ []) (same_Some other name (sym (ap first_of e) ∙ f))

no_name : (names : List (List ℕ)) → first_of names ≡ None → names ≡ []
no_name [] e = refl
no_name (n ∷ ns) e = absurd cc

module _ (n : ℕ) (said : List (ℕ × Statement)) where
  abbrev end : Option (List ℕ) → Result NumberedParts Cause
  end o = finished (so_far n said) o

  finish-named : (name : List ℕ) → values_in module_in said ≡ name ∷ [] → finish (so_far n said) ≡ Ok (parts_of said name)
  finish-named name e = ap end (ap first_of e)

  finish-unnamed : values_in module_in said ≡ [] → finish (so_far n said) ≡ Err lacks_module
  finish-unnamed e = ap end (ap first_of e)

-- ---- the lines of a text

-- parts that a text's lines say
pub record Said (text : List ℕ) (p : NumberedParts) : Type 0 where
  pub said : List (ℕ × Statement)
  pub say : LinesSay section.Head 0 (lines text) said
  pub are : AreParts said p.parts
  pub numbers : p.lines ≡ numbers_in said

pub read_said : (text : List ℕ) (p : NumberedParts) → source_read text ≡ Ok p → Said text p
read_said text p e = at (values_in module_in w.below) refl
  where
    k : (t : Gathered) × Walks source_line nothing_gathered (lines text) t × (finish t ≡ Ok p)
    k = walk_of source_line finish nothing_gathered 0 (lines text) p e

    w : Walked 0 [] (lines text) k.0
    w = walked (lines text) 0 [] k.0 named_nothing k.1

    ends : finish (so_far (0 + length (lines text)) w.below) ≡ Ok p
    ends = ap finish (sym w.is) ∙ k.2

    at : (names : List (List ℕ)) → values_in module_in w.below ≡ names → Said text p
    at [] is = ok-err (finish (so_far (0 + length (lines text)) w.below)) p lacks_module ends
        (finish-unnamed (0 + length (lines text)) w.below is)
    at (name ∷ more) is =
        let one = one_name (section_behind section.Head w.below) (values_in module_in w.below) name w.named (ap first_of is) in
        let same : p ≡ parts_of w.below name =
        ok-ok (finish (so_far (0 + length (lines text)) w.below)) p (parts_of w.below name) ends
        (finish-named (0 + length (lines text)) w.below name one) in
        record {
          said = w.below;
          say = w.say;
          are = subst (λ q. AreParts w.below q.parts) (sym same)
              (record { name = one; imports = refl; exports = refl; items = refl; cells = refl });
          numbers = ap (λ (q : NumberedParts). q.lines) same;
        }

abbrev numbered_of : List (ℕ × Statement) → Parts → NumberedParts
numbered_of said m = record { parts = m; lines = numbers_in said }

pub said_read : (text : List ℕ) (said : List (ℕ × Statement)) (m : Parts) → LinesSay section.Head 0 (lines text) said → AreParts said m
    → source_read text ≡ Ok (numbered_of said m)
said_read text said m say are =
    let walk = walk_of_says (lines text) 0 [] said named_nothing say in
    of_walk source_line finish nothing_gathered (so_far (0 + length (lines text)) said) 0 (lines text) walk.walks
    ∙ (ap (placed (0 + length (lines text) + 1)) (finish-named (0 + length (lines text)) said m.name are.name)
    ∙ ap Ok (rw (are.imports, are.exports, are.items, are.cells) refl))

pub read_wrong : (text : List ℕ) (fault : Fault) → source_read text ≡ Err fault → IsBadLine text fault ⊎ IsUnnamed text fault
read_wrong text fault e = at (first_fault source_line finish nothing_gathered (lines text) fault e)
  where
    bad : IsFirstBadLine source_line nothing_gathered (lines text) fault → IsBadLine text fault
    bad h =
        let w = walked h.before 0 [] h.state named_nothing h.walks in
        record {
          before = h.before;
          line = h.line;
          after = h.after;
          said = w.below;
          cause = h.cause;
          lines = h.lines;
          say = w.say;
          bad = line_wrong (so_far (0 + length h.before) w.below) h.line h.cause
              (ap (λ g. source_line g h.line) (sym w.is) ∙ h.refused);
          placed = h.placed;
        }

    lacking : IsLacking {A = NumberedParts} source_line finish nothing_gathered (lines text) fault → IsUnnamed text fault
    lacking h = by (values_in module_in w.below) refl
      where
        w : Walked 0 [] (lines text) h.state
        w = walked (lines text) 0 [] h.state named_nothing h.walks

        ends : finish (so_far (0 + length (lines text)) w.below) ≡ Err h.cause
        ends = ap finish (sym w.is) ∙ h.refused

        by : (names : List (List ℕ)) → values_in module_in w.below ≡ names → IsUnnamed text fault
        by [] is =
            let same : h.cause ≡ lacks_module =
            err-err (finish (so_far (0 + length (lines text)) w.below)) h.cause lacks_module ends
            (finish-unnamed (0 + length (lines text)) w.below is) in
            record { said = w.below; say = w.say; unnamed = is; placed = h.placed ∙ ap (fault_at (length (lines text) + 1)) same }
        by (name ∷ more) is =
            ok-err (finish (so_far (0 + length (lines text)) w.below)) (parts_of w.below name) h.cause
            (finish-named (0 + length (lines text)) w.below name
            (one_name (section_behind section.Head w.below) (values_in module_in w.below) name w.named (ap first_of is))) ends

    at : IsFirstBadLine source_line nothing_gathered (lines text) fault
        ⊎ IsLacking {A = NumberedParts} source_line finish nothing_gathered (lines text) fault → IsBadLine text fault ⊎ IsUnnamed text fault
    at (inl h) = inl (bad h)
    at (inr h) = inr (lacking h)

wrong_read : (text : List ℕ) (fault : Fault) → IsBadLine text fault → source_read text ≡ Err fault
wrong_read text fault h =
    let walk = walk_of_says h.before 0 [] h.said named_nothing h.say in
    of_first_bad source_line finish nothing_gathered (lines text) fault (record {
      before = h.before;
      line = h.line;
      after = h.after;
      state = so_far (0 + length h.before) h.said;
      cause = h.cause;
      lines = h.lines;
      walks = walk.walks;
      refused = wrong_line (so_far (0 + length h.before) h.said) h.line h.cause h.bad;
      placed = h.placed;
    })

unnamed_read : (text : List ℕ) (fault : Fault) → IsUnnamed text fault → source_read text ≡ Err fault
unnamed_read text fault h =
    let walk = walk_of_says (lines text) 0 [] h.said named_nothing h.say in
    of_lacking source_line finish nothing_gathered (lines text) fault (record {
      state = so_far (0 + length (lines text)) h.said;
      cause = lacks_module;
      walks = walk.walks;
      refused = finish-unnamed (0 + length (lines text)) h.said h.unnamed;
      placed = h.placed;
    })

-- ---- the module of the parts

module _ (text : List ℕ) where
  read-judged : (p : NumberedParts) → source_read text ≡ Ok p → assembled text ≡ judged p
  unfolding assembled
  read-judged p e = ap (λ r. result_then r judged) e

  refused-judged : (fault : Fault) → source_read text ≡ Err fault → assembled text ≡ Err fault
  unfolding assembled
  refused-judged fault e = ap (λ r. result_then r judged) e

  source_found : (m : Parts) → assembled text ≡ Ok m → IsSource text m
  source_found m e = at (source_read text) refl
    where
      by : (p : NumberedParts) → Said text p → (o : Option ModuleFault) → first_of_module p.parts ≡ o → judged_by p o ≡ Ok m
          → IsSource text m
      by p s None none q =
          subst (IsSource text) (ok-ok (judged_by p None) p.parts m refl q)
          (record { said = s.said; say = s.say; are = s.are; valid = valid-none p.parts none })
      by p s (Some f) some q = absurd cc

      at : (r : Result NumberedParts Fault) → source_read text ≡ r → IsSource text m
      at (Ok p) is = by p (read_said text p is) (first_of_module p.parts) refl (sym (read-judged p is) ∙ e)
      at (Err fault) is = ok-err (assembled text) m fault e (refused-judged fault is)

  source_only : (m : Parts) → IsSource text m → assembled text ≡ Ok m
  source_only m s =
      read-judged (numbered_of s.said m) (said_read text s.said m s.say s.are)
      ∙ ap (judged_by (numbered_of s.said m)) (none-valid m s.valid)

  source_fault : (fault : Fault) → assembled text ≡ Err fault → IsSourceFault text fault
  source_fault fault e = at (source_read text) refl
    where
      line_first : IsBadLine text fault ⊎ IsUnnamed text fault → IsSourceFault text fault
      line_first (inl h) = inl h
      line_first (inr h) = inr (inl h)

      by : (p : NumberedParts) → Said text p → (o : Option ModuleFault) → first_of_module p.parts ≡ o → judged_by p o ≡ Err fault
          → IsSourceFault text fault
      by p s None none q = absurd cc
      by p s (Some f) some q =
          let same : fault_in p.lines f ≡ fault = err-err (judged_by p (Some f)) (fault_in p.lines f) fault refl q in
          inr (inr (record {
            said = s.said;
            say = s.say;
            parts = p.parts;
            are = s.are;
            found = f;
            first = first-some p.parts f some;
            placed = sym same ∙ ap (λ l. fault_in l f) s.numbers;
          }))

      at : (r : Result NumberedParts Fault) → source_read text ≡ r → IsSourceFault text fault
      at (Ok p) is = by p (read_said text p is) (first_of_module p.parts) refl (sym (read-judged p is) ∙ e)
      at (Err why) is =
          let same : why ≡ fault = err-err (assembled text) why fault (refused-judged why is) e in
          line_first (read_wrong text fault (is ∙ ap Err same))

  source_refused : (fault : Fault) → IsSourceFault text fault → assembled text ≡ Err fault
  source_refused fault (inl h) = refused-judged fault (wrong_read text fault h)
  source_refused fault (inr (inl h)) = refused-judged fault (unnamed_read text fault h)
  source_refused fault (inr (inr h)) =
      read-judged (numbered_of h.said h.parts) (said_read text h.said h.parts h.say h.are)
      ∙ (ap (judged_by (numbered_of h.said h.parts)) (some-first h.parts h.found h.first) ∙ ap Err (sym h.placed))

-- what assembling a text gives is the module that it stands for, or its first fault
pub source_reading : (text : List ℕ) → IsReading (IsSource text) (IsSourceFault text) (assembled text)
source_reading text =
    record { found = source_found text; only = source_only text; fault = source_fault text; refused = source_refused text }

-- ---- the parts of a text are few enough to be numbered, and each has its line

lines_as_values : {X : Type 0} (part : Statement → Option X) (said : List (ℕ × Statement))
    → length (lines_in part said) ≡ length (values_in part said)
lines_as_values {X} part said =
    length-map (parts_in part said) (λ (p : ℕ × X). p.0) ∙ sym (length-map (parts_in part said) (λ (p : ℕ × X). p.1))

pub read_lines_held : (text : List ℕ) (p : NumberedParts) → source_read text ≡ Ok p → HasLines p
read_lines_held text p e =
    let s = read_said text p e in
    record {
      imports = ap (λ (l : LineNumbers). length l.imports) s.numbers ∙ (lines_as_values import_in s.said ∙ ap length s.are.imports);
      exports = ap (λ (l : LineNumbers). length l.exports) s.numbers ∙ (lines_as_values export_in s.said ∙ ap length s.are.exports);
      items = ap (λ (l : LineNumbers). length l.items) s.numbers ∙ (lines_as_values item_in s.said ∙ ap length s.are.items);
      cells = ap (λ (l : LineNumbers). length l.cells) s.numbers ∙ (lines_as_values cell_in s.said ∙ ap length s.are.cells);
    }

pub read_short : (text : List ℕ) (p : NumberedParts) → source_read text ≡ Ok p → length text < 2 ^ 30 → IsShort p.parts
read_short text p e short =
    let s = read_said text p e in
    let few : length s.said < 2 ^ 30 = omega (arith, lines_count (lines text) section.Head 0 s.said s.say, total-text text, short) in
    record {
      imports = omega (arith, few, values_count import_in s.said, ap length s.are.imports);
      exports = omega (arith, few, values_count export_in s.said, ap length s.are.exports);
      items = omega (arith, few, values_count item_in s.said, ap length s.are.items);
      cells = omega (arith, few, values_count cell_in s.said, ap length s.are.cells);
    }

-- ---- what the check of the parts makes of the text

pub judged-valid : (p : NumberedParts) → IsValid p.parts → judged p ≡ Ok p.parts
judged-valid p v = ap (judged_by p) (none-valid p.parts v)

pub judged-fault : (p : NumberedParts) (f : ModuleFault) → IsFirstFault p.parts f → judged p ≡ Err (fault_in p.lines f)
judged-fault p f first = ap (judged_by p) (some-first p.parts f first)

-- a place where something is wrong has its line
wrong_within : {X : Type 0} (xs : List X) (i : ℕ) (test : X → Option Cause) (cause : Cause)
    → option_and_then test (slice_get xs i) ≡ Some cause → i < length xs
wrong_within {X} xs i test cause e = at (slice_get xs i) refl e
  where
    at : (o : Option X) → slice_get xs i ≡ o → option_and_then test o ≡ Some cause → i < length xs
    at None is q = absurd cc
    at (Some x) is q = slice_get_within xs i x is

pub place-held : (p : NumberedParts) (q : Place) (cause : Cause) → HasLines p → cause_at p.parts q ≡ Some cause → IsPlaceOf p.lines q
unfolding cause_at
place-held p (place.Import i) cause h e = let within = wrong_within p.parts.imports i _ cause e in omega (arith, within, h.imports)
place-held p (place.Export i) cause h e = let within = wrong_within p.parts.exports i _ cause e in omega (arith, within, h.exports)
place-held p (place.Item i) cause h e = let within = wrong_within p.parts.items i _ cause e in omega (arith, within, h.items)
place-held p (place.Cell i) cause h e = let within = wrong_within p.parts.cells i _ cause e in omega (arith, within, h.cells)

-- what was refused as lines, or for want of memory, is refused as a text
abbrev pub failed : {T : Type 0} → ReadFault → Result T ReadFault
failed why = Err why

pub source-stopped : {S : Type 0} (seen : S → NumberedParts) (text : List ℕ) (why : ReadFault)
    → Gives seen (failed why) (source_read text) → Gives (λ (m : Parts). m) (failed why) (assembled text)
source-stopped seen text (read.Fault fault) g = sym (refused-judged text fault (sym g))
source-stopped seen text read.NoMemory g = tt

-- and what was read is judged
pub source-judged : (text : List ℕ) (p : NumberedParts) (result : Result Parts ReadFault) → source_read text ≡ Ok p
    → Gives (λ (m : Parts). m) result (judged p) → Gives (λ (m : Parts). m) result (assembled text)
source-judged text p result e g = subst (Gives (λ (m : Parts). m) result) (sym (read-judged text p e)) g
