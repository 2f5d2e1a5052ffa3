-- A text is that of the library whose valid modules its lines spell, or has one first fault.
use Rattle.std.proofs.Common.{◌≡◌, ℕ, ◌+◌, ◌^◌, ◌<◌, ◌≤◌, ◌⊎◌, inl, inr, List, [], ◌∷◌, ◌++◌, length, map, All, Result, Ok, Err, refl}
use Rattle.std.proofs.Common.{sym, ap, ◌∙◌, subst}
use Rattle.std.proofs.Common.{arith, length-append}
use Rattle.std.specs.Prelude.{codes}
use Rattle.std.specs.List.{flat_map, AllByRecursion}
use Rattle.std.proofs.lemmas.List.{map-append}
use Rattle.std.proofs.lemmas.List.Concat.{flat_map-append}
use Rattle.std.proofs.lemmas.List.Elements.{All-nil, All-push, All-from_recursion, recursion_from_All}
use Rattle.tn_text.specs.declared.faults.Fault.{Fault}
use Rattle.tn_text.specs.declared.faults.ReadFault.{ReadFault}
use Rattle.tn_text.specs.declared.faults.ReadFault.TheVariants as read
use Rattle.tn_text.specs.Reading.{Gives}
use Rattle.tn_module.specs.declared.faults.ModuleFault.{ModuleFault}
use Rattle.tn_module.specs.declared.modules.RawModule.{RawModule}
use Rattle.tn_module.specs.Modules.{Parts, module_of, IsShort}
use Rattle.tn_module.specs.Ranges.{IsInRange}
use Rattle.tn_module.specs.Validity.{IsValid}
use Rattle.tn_module.specs.Faults.{IsFirstFault}
use Rattle.tn_module.proofs.Laws.{invalid_at_fault}
use Rattle.tn_module.proofs.OneFirst.{one_first_fault}
use Rattle.tn_modtext.specs.Lines.{lines_of, spelling, HasSpelling}
use Rattle.tn_modtext.specs.ModuleTexts.{fault_in, IsChecked}
use Rattle.tn_modtext.specs.LibraryFaults.{IsLibraryLineFault}
use Rattle.tn_modtext.specs.Libraries.{library_spelling, IsLibraryText, IsFirstModuleFault, IsLibraryTextFault, AreChecked}
use Rattle.tn_modtext.specs.Readers.{Reads}
use Rattle.tn_modtext.specs.Inner.LibraryDrafts.{library_read}
use Rattle.tn_modtext.proofs.LibraryReadLaws.{library_reading}
use Rattle.tn_modtext.proofs.CheckLaws.{Checked, checked-reads, stopped-reads}
use Rattle.tn_modtext.proofs.ModuleLaws.{spelled-valid, lines_below, length-lines}

-- ---- the lines of the modules are counted

lines-within : (ms : List Parts) → length (flat_map lines_of ms) ≤ length (flat_map spelling ms)
lines-within [] = omega arith
lines-within (m ∷ ms) =
    omega (
      arith,
      lines-within ms,
      lines_below (lines_of m),
      length-append (lines_of m) (flat_map lines_of ms),
      length-append (spelling m) (flat_map spelling ms),
    )

pub room-library : (text : List ℕ) (ms : List Parts) → text ≡ library_spelling ms → length text < 2 ^ 30
    → 1 + length (flat_map lines_of ms) < 2 ^ 30
room-library text ms e short =
    let same : length text ≡ length (library_spelling ms) = ap length e in
    omega (
      arith,
      same,
      short,
      lines-within ms,
      length-append (codes "tlib 1\n") (flat_map spelling ms ++ codes "endlib\n"),
      length-append (flat_map spelling ms) (codes "endlib\n"),
    )

-- ---- one fault is the first

-- the places where two lists of valid modules, each with a module that has a fault behind it, end are the same
same_place : (ms xs ys : List Parts) (m n : Parts) (x y : List Parts) (f g : ModuleFault) → ms ≡ xs ++ m ∷ x → ms ≡ ys ++ n ∷ y
    → AllByRecursion IsValid xs → AllByRecursion IsValid ys → IsFirstFault m f → IsFirstFault n g → (xs ≡ ys) × (m ≡ n)
same_place [] xs ys m n x y f g p q vx vy fm gn = at xs p
  where
    at : (zs : List Parts) → [] ≡ zs ++ m ∷ x → (xs ≡ ys) × (m ≡ n)
    at [] e = absurd cc
    at (z ∷ zs) e = absurd cc
same_place (a ∷ ms) xs ys m n x y f g p q vx vy fm gn = at xs ys p q vx vy (λ us vs. same_place ms us vs m n x y f g)
  where
    at : (xs ys : List Parts) → a ∷ ms ≡ xs ++ m ∷ x → a ∷ ms ≡ ys ++ n ∷ y → AllByRecursion IsValid xs → AllByRecursion IsValid ys
        → ((us vs : List Parts) → ms ≡ us ++ m ∷ x → ms ≡ vs ++ n ∷ y → AllByRecursion IsValid us → AllByRecursion IsValid vs
        → IsFirstFault m f → IsFirstFault n g → (us ≡ vs) × (m ≡ n))
        → (xs ≡ ys) × (m ≡ n)
    at [] [] p q vx vy more = let same : m ≡ n = cc in (refl, same)
    at [] (v ∷ vs) p q vx (valid, vy) more =
        let same : v ≡ m = cc in absurd (invalid_at_fault m f fm (subst IsValid same valid))
    at (u ∷ us) [] p q (valid, vx) vy more =
        let same : u ≡ n = cc in absurd (invalid_at_fault n g gn (subst IsValid same valid))
    at (u ∷ us) (v ∷ vs) p q (valid_u, vx) (valid_v, vy) more =
        let heads : u ≡ v = cc in
        let left : ms ≡ us ++ m ∷ x = cc in
        let right : ms ≡ vs ++ n ∷ y = cc in
        let rest = more us vs left right vx vy fm gn in
        (ap (λ w. w ∷ us) heads ∙ ap (λ ws. v ∷ ws) rest.0, rest.1)

one_wrong : (lines : ℕ) (ms : List Parts) (fault other : Fault) → IsFirstModuleFault lines ms fault → IsFirstModuleFault lines ms other
    → fault ≡ other
one_wrong lines ms fault other f g =
    let same = same_place ms f.before g.before f.parts g.parts f.behind g.behind f.found g.found f.split g.split
    (recursion_from_All IsValid f.before f.valid) (recursion_from_All IsValid g.before g.valid) f.first g.first in
    let first : IsFirstFault f.parts g.found = subst (λ m. IsFirstFault m g.found) (sym same.1) g.first in
    f.placed ∙ (ap (λ k. fault_in (lines + length (flat_map lines_of f.before)) f.parts k)
    (one_first_fault f.parts f.found g.found f.first first)
    ∙ (ap (λ b. fault_in (lines + length (flat_map lines_of b)) f.parts g.found) same.0
    ∙ (ap (λ m. fault_in (lines + length (flat_map lines_of g.before)) m g.found) same.1 ∙ sym g.placed)))

-- ---- what a check of the modules makes of the text

all_spelled : (ms : List Parts) → AllByRecursion IsValid ms → AllByRecursion IsInRange ms → AllByRecursion HasSpelling ms
all_spelled [] v r = tt
all_spelled (m ∷ ms) (v, vs) (r, rs) = (spelled-valid m v r, all_spelled ms vs rs)

-- where a module has a fault, not all are valid
not_all_valid : (ms : List Parts) (lines : ℕ) (fault : Fault) → AllByRecursion IsValid ms → IsFirstModuleFault lines ms fault → ⊥
not_all_valid ms lines fault valid f =
    at f.before (subst (AllByRecursion IsValid) f.split valid)
  where
    at : (xs : List Parts) → AllByRecursion IsValid (xs ++ f.parts ∷ f.behind) → ⊥
    at [] (v, vs) = invalid_at_fault f.parts f.found f.first v
    at (x ∷ xs) (v, vs) = at xs vs

module _ (text : List ℕ) where
  abbrev AreSpelled : List Parts → Type 0
  AreSpelled ms = All HasSpelling ms × (text ≡ library_spelling ms)

  fault_of : (fault : Fault) → IsLibraryTextFault text fault
      → IsLibraryLineFault text fault ⊎ ((ms : List Parts) × AreSpelled ms × IsFirstModuleFault 1 ms fault)
  fault_of fault (inl f) = inl f
  fault_of fault (inr f) = inr (f.modules, (f.have_spelling, f.spelled), f.first)

  of_fault : (fault : Fault) → IsLibraryLineFault text fault ⊎ ((ms : List Parts) × AreSpelled ms × IsFirstModuleFault 1 ms fault)
      → IsLibraryTextFault text fault
  of_fault fault (inl f) = inl f
  of_fault fault (inr (ms, spelled, wrong)) =
      inr (record { modules = ms; have_spelling = spelled.0; spelled = spelled.1; first = wrong })

  pub spells : (ms : List Parts) → IsLibraryText text ms → AreSpelled ms
  spells ms is = (
    All-from_recursion HasSpelling ms
        (all_spelled ms (recursion_from_All IsValid ms is.valid) (recursion_from_All IsInRange ms is.ranges)),
    is.spelled,
  )

  fits : (ms : List Parts) (fault : Fault) → IsLibraryText text ms → IsFirstModuleFault 1 ms fault → ⊥
  fits ms fault is wrong = not_all_valid ms 1 fault (recursion_from_All IsValid ms is.valid) wrong

  -- the parts were read, and checked
  pub library-read : (ms : List Parts) (result : Result (List Parts) ReadFault) → library_read text ≡ Ok ms → AreChecked 1 ms result
      → Reads (IsLibraryText text) (IsLibraryTextFault text) result
  library-read ms result e c =
      checked-reads AreSpelled (IsLibraryText text) (IsLibraryLineFault text) (IsFirstModuleFault 1) (library_read text)
      (library_reading text) spells fits (one_wrong 1) (IsLibraryTextFault text) fault_of of_fault ms result e (at result c)
    where
      at : (result : Result (List Parts) ReadFault) → AreChecked 1 ms result
          → Checked AreSpelled (IsLibraryText text) (IsLibraryLineFault text) (IsFirstModuleFault 1) (library_read text)
          (library_reading text) spells fits (one_wrong 1) (IsLibraryTextFault text) fault_of of_fault ms result
      at (Ok n) (same, valid, ranges) =
          (same, record { valid = valid; ranges = ranges; spelled = ((library_reading text).found ms e).1 })
      at (Err (read.Fault why)) wrong = wrong
      at (Err read.NoMemory) c = tt

  -- a line was refused, or there was no memory
  pub library-stopped : (why : ReadFault) → Gives {T = List Parts} (λ v. v) (Err why) (library_read text)
      → Reads (IsLibraryText text) (IsLibraryTextFault text) (Err why)
  library-stopped =
      stopped-reads AreSpelled (IsLibraryText text) (IsLibraryLineFault text) (IsFirstModuleFault 1) (library_read text)
      (library_reading text) spells fits (one_wrong 1) (IsLibraryTextFault text) fault_of of_fault

-- ---- the loop that checks the modules

-- the modules so far are valid, and so many lines stand before the next
pub record IsCheckedTo (ms checked : List Parts) (before : ℕ) : Type 0 where
  pub same : checked ≡ ms
  pub valid : All IsValid ms
  pub ranges : All IsInRange ms
  pub lines : before ≡ 1 + length (flat_map lines_of ms)

pub checked-none : IsCheckedTo [] [] 1
checked-none = record { same = refl; valid = All-nil IsValid; ranges = All-nil IsInRange; lines = refl }

-- the module behind them has room
pub record HasNextRoom (m : Parts) (before : ℕ) : Type 0 where
  pub short : IsShort m
  pub lines : before + length (lines_of m) < 2 ^ 31

pub next-room : (ms : List Parts) (m : Parts) (behind all checked : List Parts) (before : ℕ) → IsCheckedTo ms checked before
    → all ≡ ms ++ m ∷ behind → 1 + length (flat_map lines_of all) < 2 ^ 30 → HasNextRoom m before
next-room ms m behind all checked before is split room =
    let count = length-lines m in
    let lines = is.lines in
    let whole = ap (λ xs. length (flat_map lines_of xs)) split ∙ ap length (flat_map-append lines_of ms (m ∷ behind)) in
    let parts = length-append (flat_map lines_of ms) (lines_of m ++ flat_map lines_of behind) in
    let last = length-append (lines_of m) (flat_map lines_of behind) in
    record {
      short = record {
        imports = omega (arith, room, count, lines, whole, parts, last);
        exports = omega (arith, room, count, lines, whole, parts, last);
        items = omega (arith, room, count, lines, whole, parts, last);
        cells = omega (arith, room, count, lines, whole, parts, last);
      };
      lines = omega (arith, room, count, lines, whole, parts, last);
    }

pub checked-more : (ms checked : List Parts) (before : ℕ) (m n : Parts) → IsCheckedTo ms checked before → n ≡ m → IsValid m → IsInRange m
    → IsCheckedTo (ms ++ m ∷ []) (checked ++ n ∷ []) (before + length (lines_of m))
checked-more ms checked before m n is same valid ranges =
    let lines = is.lines in
    let all = ap length (flat_map-append lines_of ms (m ∷ [])) in
    let parts = length-append (flat_map lines_of ms) (lines_of m ++ []) in
    let last = length-append (lines_of m) [] in
    record {
      same = ap (λ xs. xs ++ n ∷ []) is.same ∙ ap (λ k. ms ++ k ∷ []) same;
      valid = All-push IsValid ms m is.valid valid;
      ranges = All-push IsInRange ms m is.ranges ranges;
      lines = omega (arith, lines, all, parts, last);
    }

-- the module behind them is the first with a fault
pub checked-fault : (ms checked : List Parts) (before : ℕ) (m : Parts) (behind all : List Parts) (f : ModuleFault) (fault : Fault)
    → IsCheckedTo ms checked before → all ≡ ms ++ m ∷ behind → IsFirstFault m f → fault ≡ fault_in before m f
    → IsFirstModuleFault 1 all fault
checked-fault ms checked before m behind all f fault is split first placed =
    record {
      before = ms;
      parts = m;
      behind = behind;
      found = f;
      split = split;
      valid = is.valid;
      first = first;
      placed = placed ∙ ap (λ k. fault_in k m f) is.lines;
    }

-- the parts as they were read, the next of which is looked at
pub split-next : (seen left rest all : List RawModule) (raw : RawModule) → seen ++ left ≡ all → left ≡ raw ∷ rest
    → map module_of all ≡ map module_of seen ++ module_of raw ∷ map module_of rest
split-next seen left rest all raw e is =
    ap (map module_of) (sym e ∙ ap (λ r. seen ++ r) is) ∙ map-append module_of seen (raw ∷ rest)

pub checked-next : (seen : List RawModule) (raw : RawModule) (checked out : List Parts) (before lines : ℕ) (n : Parts)
    → IsCheckedTo (map module_of seen) checked before → (n ≡ module_of raw) × IsValid (module_of raw) × IsInRange (module_of raw)
    → out ≡ checked ++ n ∷ [] → lines ≡ length (lines_of n) → IsCheckedTo (map module_of (seen ++ raw ∷ [])) out (before + lines)
checked-next seen raw checked out before lines n is (same, valid, ranges) pushed count =
    let more = checked-more (map module_of seen) checked before (module_of raw) n is same valid ranges in
    record {
      same = pushed ∙ (more.same ∙ sym (map-append module_of seen (raw ∷ [])));
      valid = subst (All IsValid) (sym (map-append module_of seen (raw ∷ []))) more.valid;
      ranges = subst (All IsInRange) (sym (map-append module_of seen (raw ∷ []))) more.ranges;
      lines = ap (λ k. before + k) (count ∙ ap (λ m. length (lines_of m)) same)
          ∙ (more.lines ∙ ap (λ ms. 1 + length (flat_map lines_of ms)) (sym (map-append module_of seen (raw ∷ []))));
    }

pub checked-stopped : (ms checked : List Parts) (before : ℕ) (m : Parts) (behind all : List Parts) (why : ReadFault)
    → IsCheckedTo ms checked before → all ≡ ms ++ m ∷ behind → IsChecked before m (Err why) → AreChecked 1 all (Err why)
checked-stopped ms checked before m behind all (read.Fault fault) is split (f, first, placed, invalid) =
    checked-fault ms checked before m behind all f fault is split first placed
checked-stopped ms checked before m behind all read.NoMemory is split c = tt
