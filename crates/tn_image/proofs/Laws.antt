-- What the checks find, and what images that pass them are.
use Rattle.std.proofs.Common.{◌≡◌, ℕ, ◌*◌, Bool, true, false, not, List, [], ◌∷◌}
use Rattle.std.proofs.Common.{length, None, Some, is_some, ◌++◌, filter, refl, sym, ap, ◌∙◌, arith, if◌then◌else◌}
use Rattle.std.specs.Option.{option_map_or}
use Rattle.std.proofs.lemmas.Option.{none-some}
use Rattle.std.proofs.lemmas.List.Elements.{filter-append}
use Rattle.std.proofs.lemmas.List.Concat.{flat_map-cons}
use Rattle.tn_text.specs.declared.faults.Fault.{Fault}
use Rattle.tn_text.specs.Firsts.{first_cause}
use Rattle.tn_word.specs.Words.{bytes_of_word}
use Rattle.tn_module.specs.Modules.{Parts}
use Rattle.tn_module.specs.Names.{is_among, is_code}
use Rattle.tn_symbols.specs.Choices.{exported}
use Rattle.tn_symbols.specs.declared.choices.Definition.{Definition}
use Rattle.tn_symbols.specs.Definitions.{definition_of}
use Rattle.tn_symbols.proofs.Exporting.{defined-some}
use Rattle.tn_config.specs.Configurations.{BlockState}
use Rattle.tn_image.specs.Regions.{code_extent, cells_extent, workspace_extent}
use Rattle.tn_image.specs.Checks.{is_entry, no_entry_fault, region_checks, checks}
use Rattle.tn_stream.specs.Images.{SegmentBytes}
use Rattle.tn_image.specs.Images.{argument_bytes, segment, segments, has_bytes}

-- where nothing is found, no test holds
abbrev pub NoneHolds : {C : Type 0} → List (Bool × C) → Type 0
NoneHolds [] = Unit {0}
NoneHolds (test ∷ tests) = (test.0 ≡ false) × NoneHolds tests

pub none-holds : {C : Type 0} (tests : List (Bool × C)) → first_cause tests ≡ None → NoneHolds tests
none-holds [] h = tt
none-holds (test ∷ tests) h = by test.0 refl (none-holds tests)
  where
    by : (t : Bool) → test.0 ≡ t → (first_cause tests ≡ None → NoneHolds tests) → NoneHolds (test ∷ tests)
    by true e rest = absurd (none-some test.1 (sym h ∙ ap (λ t. if t then Some test.1 else first_cause tests) e))
    by false e rest = (e, rest (sym (ap (λ t. if t then Some test.1 else first_cause tests) e) ∙ h))

-- the entry is checked before the regions
module _ (modules : List Parts) (b : BlockState) (code_length cells_length : ℕ) where
  abbrev regions : List (Bool × Fault)
  regions = region_checks b (code_extent b code_length) (cells_extent b cells_length) (workspace_extent b)

  pub entry-fault : is_entry modules b.entry ≡ false → first_cause (checks modules b code_length cells_length) ≡ Some (no_entry_fault b)
  entry-fault e = ap (λ t. if not t then Some (no_entry_fault b) else first_cause regions) e

  pub region-fault : is_entry modules b.entry ≡ true → first_cause (checks modules b code_length cells_length) ≡ first_cause regions
  region-fault e = ap (λ t. if not t then Some (no_entry_fault b) else first_cause regions) e

-- the bytes of arguments
pub argument-length : (args : List ℕ) → length (argument_bytes args) ≡ 4 * length args
argument-length [] = refl
argument-length (w ∷ ws) = omega (arith, ap length (flat_map-cons bytes_of_word w ws), argument-length ws)

-- a name that has a definition is exported, and is an entry where it is one of code
pub entry_is : (modules : List Parts) (name : List ℕ) (d : Definition) → definition_of modules name ≡ Some d
    → is_entry modules name ≡ is_code d.kind
entry_is modules name d found = ap (λ o. option_map_or (λ (x : Definition). is_code x.kind) o false) found

pub exported_is : (modules : List Parts) (name : List ℕ) (d : Definition) → definition_of modules name ≡ Some d
    → is_among (exported modules) name ≡ true
exported_is modules name d found = sym (defined-some modules name) ∙ ap is_some found

-- three lists of one element, each without what does not pass
pub three_kept : {X : Type 0} (p : X → Bool) (x y z : X)
    → (filter p (x ∷ []) ++ filter p (y ∷ [])) ++ filter p (z ∷ []) ≡ filter p (x ∷ y ∷ z ∷ [])
three_kept p x y z =
    ap (λ l. l ++ filter p (z ∷ [])) (sym (filter-append p (x ∷ []) (y ∷ []))) ∙ sym (filter-append p (x ∷ y ∷ []) (z ∷ []))

-- segments that were added one after the other
pub segments-added : (b : BlockState) (code cells arguments code_given cells_given : List ℕ) (none one two three : List SegmentBytes)
    → none ≡ [] → one ≡ none ++ filter has_bytes (segment b.code code ∷ [])
    → two ≡ one ++ filter has_bytes (segment b.cells cells ∷ []) → three ≡ two ++ filter has_bytes (segment b.wptr arguments ∷ [])
    → code ≡ code_given → cells ≡ cells_given → arguments ≡ argument_bytes b.args → three ≡ segments b code_given cells_given
segments-added b code cells arguments code_given cells_given none one two three e0 e1 e2 e3 same_code same_cells same_arguments =
    e3
    ∙ ap (λ l. l ++ filter has_bytes (segment b.wptr arguments ∷ []))
    (e2 ∙ ap (λ l. l ++ filter has_bytes (segment b.cells cells ∷ []))
    (e1 ∙ ap (λ l. l ++ filter has_bytes (segment b.code code ∷ [])) e0))
    ∙ three_kept has_bytes (segment b.code code) (segment b.cells cells) (segment b.wptr arguments)
    ∙ (λ j. filter has_bytes (segment b.code (same_code j) ∷ segment b.cells (same_cells j) ∷ segment b.wptr (same_arguments j) ∷ []))
