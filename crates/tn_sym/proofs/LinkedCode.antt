-- The code of a linked program: what stands at each address of it.
use Rattle.std.proofs.Common.{◌≡◌, ℕ, map, ◌+◌, ◌-◌, ◌/◌, ◌^◌, ◌<◌, ◌≤◌, ◌==◌, ℤ, pos, List, [], ◌∷◌, ◌++◌, length, take}
use Rattle.std.proofs.Common.{drop, Option, Some, refl, sym, ap, subst, ◌∙◌, length-append, arith}
use Rattle.std.specs.Prelude.{◌-ℤ◌, All, find, slice_index, slice_index_or}
use Rattle.std.specs.Option.{option_map}
use Rattle.std.specs.Int.{w32}
use Rattle.std.specs.Int.RustNames.{FitsSigned}
use Rattle.std.specs.List.{sum, flat_map, range_with_len}
use Rattle.std.proofs.Math.Seq.{drop-append_seam}
use Rattle.std.proofs.lemmas.Int.{ints}
use Rattle.std.proofs.lemmas.Simd.{map-map}
use Rattle.std.proofs.lemmas.List.{length-take, length-drop, length-map, map-append, get_or-map, take-append-le}
use Rattle.std.proofs.lemmas.List.Elements.{All-get_or, All-map, All-weaker}
use Rattle.std.proofs.lemmas.List.Sums.{sum_by-take-le}
use Rattle.tn_text.specs.declared.limits.TheConstants.{ITEM_LIMIT, CELL_LIMIT, CODE_LIMIT}
use Rattle.tn_isa.specs.declared.functions.Fun.{Fun}
use Rattle.tn_isa.specs.declared.operations.Op.{Op}
use Rattle.tn_isa.specs.declared.operations.Op.TheVariants.{Rev}
use Rattle.tn_isa.specs.Operations.{operation_code}
use Rattle.tn_mem.specs.Memories.{most_neg, block}
use Rattle.tn_mem.proofs.Puts.{IsInside}
use Rattle.tn_prefix.specs.Coding.{coding}
use Rattle.tn_prefix.proofs.Lengths.{length-coding}
use Rattle.tn_module.specs.declared.modules.Operand.TheVariants as operand
use Rattle.tn_module.specs.declared.modules.Item.{Item}
use Rattle.tn_module.specs.declared.modules.Item.TheVariants as item
use Rattle.tn_module.specs.Modules.{Parts}
use Rattle.tn_module.specs.Validity.{IsValid}
use Rattle.tn_module.specs.Ranges.{IsInRange, IsItem}
use Rattle.tn_symbols.specs.Choices.{module_at}
use Rattle.tn_symbols.specs.Definitions.{AreDefined}
use Rattle.tn_layout.specs.declared.pieces.Piece.TheVariants.{Fixed}
use Rattle.tn_layout.specs.Sizes.{Least, IsExact, piece_at, position, needed}
use Rattle.tn_layout.proofs.LeastSizes.{one_is_least}
use Rattle.tn_link.specs.Places.{item_count, cells_end, target}
use Rattle.tn_link.specs.Programs.{element, module_elements, program, piece, pieces, element_at, element_bytes, operand_value}
use Rattle.tn_link.specs.Programs as link
use Rattle.tn_link.specs.Linking.{IsBase}
use Rattle.tn_link.specs.Inner.Elements.{IsFit, AreFit}
use Rattle.tn_link.proofs.Fitness.{fit-program}
use Rattle.tn_link.proofs.Meanings.{near-targets}
use Rattle.tn_link.proofs.Ranges.{all-joined}
use Rattle.tn_sym.specs.Inner.Items.{IsItem as IsItemAt}
use Rattle.tn_sym.proofs.WholeBeginnings.{item-linked}
use Rattle.tn_sym.specs.declared.codes.Instruction.{Instruction}
use Rattle.tn_sym.specs.Symbolic.{CodeState}
use Rattle.tn_sym.specs.Same.{code_end}
use Rattle.tn_sym.specs.Programs.{module_sites, sites, executed, instructions, AreModules}
use Rattle.tn_sym.proofs.Elements.{joined, flat-joined, joined-map, seam, bytes_of, Fits, IsAmong, made, looked, found, find-looked}

-- ---- operands fit

small-code : (op : Op) → operation_code op < 2 ^ 16
small-code Rev = omega arith
small-code op = omega arith

fits-small : (n : ℕ) → n < 2 ^ 31 → FitsSigned w32 (pos n)
fits-small n below = omega (arith, ints)

fits-distance : (a b : ℕ) → a < 2 ^ 31 → b < 2 ^ 31 → FitsSigned w32 (pos a -ℤ pos b)
fits-distance a b first second = omega (arith, ints)

-- ---- lists of items

pub map-flat : {X Y Z : Type 0} (f : Y → Z) (g : X → List Y) (xs : List X) → map f (flat_map g xs) ≡ flat_map (λ x. map f (g x)) xs
map-flat f g [] = refl
map-flat {X} {Y} {Z} f g (x ∷ xs) = map-append f (g x) (flat_map g xs) ∙ ap (λ (rest : List Z). map f (g x) ++ rest) (map-flat f g xs)

pub flat-same : {X Z : Type 0} (g h : X → List Z) (xs : List X) → ((x : X) → g x ≡ h x) → flat_map g xs ≡ flat_map h xs
flat-same g h [] same = refl
flat-same {X} {Z} g h (x ∷ xs) same =
    ap (λ (front : List Z). front ++ flat_map g xs) (same x) ∙ ap (λ (rest : List Z). h x ++ rest) (flat-same g h xs same)

-- ---- a linked program

module _ (modules : List Parts) (cell_base : ℕ) (base : IsBase cell_base) (valid : AreModules modules) (defined : AreDefined modules)
    (few : item_count modules ≤ ITEM_LIMIT) (few_cells : cells_end modules ≤ CELL_LIMIT) where
  valid-at : (m : ℕ) → m < length modules → IsValid (module_at modules m) × IsInRange (module_at modules m)
  valid-at m here = All-get_or (λ (x : Parts). IsValid x × IsInRange x) modules m _ here valid

  fit : AreFit (program modules cell_base)
  fit = fit-program modules (λ m here. (valid-at m here).0) defined few few_cells cell_base

  -- the program is the items with their names replaced
  program-sites : program modules cell_base ≡ map (λ site. element (target modules site.0) cell_base site.1) (sites modules)
  program-sites =
      sym
      (map-flat (λ (site : ℕ × Item). element (target modules site.0) cell_base site.1) (module_sites modules)
      (range_with_len 0 (length modules))
      ∙ flat-same (λ (m : ℕ). map (λ (site : ℕ × Item). element (target modules site.0) cell_base site.1) (module_sites modules m))
      (module_elements modules cell_base) (range_with_len 0 (length modules)) (λ m.
      map-map (λ (site : ℕ × Item). element (target modules site.0) cell_base site.1) (λ (x : Item). (m, x)) (module_at modules m).items))

  -- each item is in range, and so is the place of what it names
  IsSited : ℕ × Item → Type 0
  IsSited site = (site.0 < length modules) × IsItem site.1

  sited : All IsSited (sites modules)
  unfolding IsSited
  sited =
      all-joined (module_sites modules) (λ (site : ℕ × Item). (site.0 < length modules) × IsItem site.1) (length modules) (λ m here.
      All-map (λ (site : ℕ × Item). (site.0 < length modules) × IsItem site.1) (λ (x : Item). (m, x)) (module_at modules m).items
      (All-weaker IsItem (λ (x : Item). (m < length modules) × IsItem x) (λ x is. (here, is)) (module_at modules m).items
      (valid-at m here).1.items))

  module _ (sizes : List ℕ) (least : Least (pieces (program modules cell_base)) sizes) (short : sum sizes ≤ CODE_LIMIT) where
    exact : IsExact (pieces (program modules cell_base)) sizes
    exact =
        let one = one_is_least (pieces (program modules cell_base)) in
        subst (λ (s : List ℕ). IsExact (pieces (program modules cell_base)) s) (sym (one.only sizes least)) one.exact

    low-position : (k : ℕ) → position sizes k < 2 ^ 31
    low-position k = omega (arith, sum_by-take-le (λ (n : ℕ). n) sizes k, short)

    -- what an item executes can be coded
    fits-item : (i m n : ℕ) (x : Item) → m < length modules → IsItem x → IsFit n (element (target modules m) cell_base x)
        → Fits (executed modules cell_base sizes i m x)
    fits-item i m n (item.Direct f (operand.Number v)) here is can = (can.0, is)
    fits-item i m n (item.Direct f (operand.To name)) here is can = (
      can.0,
      fits-distance (position sizes (target modules m name).place) (position sizes (i + 1))
          (low-position (target modules m name).place) (low-position (i + 1)),
    )
    fits-item i m n (item.Direct f (operand.Difference high low)) here is can = (
      can.0,
      fits-distance (position sizes (target modules m high).place) (position sizes (target modules m low).place)
          (low-position (target modules m high).place) (low-position (target modules m low).place),
    )
    fits-item i m n (item.Direct f (operand.CellWord name)) here is can =
        let near = (near-targets modules few few_cells m here).near name in
        (can.0, fits-small ((cell_base + (target modules m name).place - most_neg) / 4) (omega (arith, near, base.below)))
    fits-item i m n (item.Plain op) here is can = (can.0, fits-small (operation_code op) (omega (arith, small-code op)))
    fits-item i m n (item.Byte b) here is can = tt
    fits-item i m n (item.Label name) here is can = tt

    -- and its size is the number of its bytes
    size-item : (i m : ℕ) (x : Item) → Fits (executed modules cell_base sizes i m x)
        → needed sizes i (piece (element (target modules m) cell_base x)) ≡ length (bytes_of modules cell_base sizes i (m, x))
    size-item i m (item.Direct f (operand.Number v)) can = sym (length-coding f v can.1)
    size-item i m (item.Direct f (operand.To name)) can = sym (length-coding f _ can.1)
    size-item i m (item.Direct f (operand.Difference high low)) can = sym (length-coding f _ can.1)
    size-item i m (item.Direct f (operand.CellWord name)) can = sym (length-coding f _ can.1)
    size-item i m (item.Plain op) can = sym (length-coding _ _ can.1)
    size-item i m (item.Byte b) can = refl
    size-item i m (item.Label name) can = refl

    -- an item at its place
    record IsPlace (i : ℕ) (site : ℕ × Item) : Type 0 where
      here : i < length (program modules cell_base)
      there : element_at (program modules cell_base) i ≡ element (target modules site.0) cell_base site.1
      right : (site.0 < length modules) × IsItem site.1

    place : (i : ℕ) (front : List (ℕ × Item)) (site : ℕ × Item) (rest : List (ℕ × Item)) → i ≡ length front
        → sites modules ≡ front ++ site ∷ rest → IsPlace i site
    unfolding IsSited
    place i front site rest at is =
        let other : ℕ × Item = (0, item.Label []) in
        let long : length (sites modules) ≡ length front + length (site ∷ rest) = ap length is ∙ length-append front (site ∷ rest) in
        let long_program : length (program modules cell_base) ≡ length (sites modules) =
        ap length program-sites ∙ length-map (sites modules) (λ (s : ℕ × Item). element (target modules s.0) cell_base s.1) in
        let within : i < length (sites modules) = omega (arith, at, long) in
        let own : slice_index_or (sites modules) i other ≡ site = seam other (sites modules) front site rest i at is in
        record {
          here = omega (arith, within, long_program);
          there = ap (λ xs. element_at xs i) program-sites
              ∙ (get_or-map (λ (s : ℕ × Item). element (target modules s.0) cell_base s.1) (sites modules) i other (element_at [] 0) within
              ∙ ap (λ (s : ℕ × Item). element (target modules s.0) cell_base s.1) own);
          right = subst (λ (s : ℕ × Item). (s.0 < length modules) × IsItem s.1) own
              (All-get_or (λ (s : ℕ × Item). (s.0 < length modules) × IsItem s.1) (sites modules) i other within sited);
        }

    pub fits : (i : ℕ) (front : List (ℕ × Item)) (site : ℕ × Item) (rest : List (ℕ × Item)) → i ≡ length front
        → sites modules ≡ front ++ site ∷ rest → Fits (executed modules cell_base sizes i site.0 site.1)
    fits i front site rest at is =
        let p = place i front site rest at is in
        fits-item i site.0 (length (program modules cell_base)) site.1 p.right.0 p.right.1
        (subst (IsFit (length (program modules cell_base))) p.there
        (All-get_or (IsFit (length (program modules cell_base))) (program modules cell_base) i (element_at [] 0) p.here fit))

    pub sized : (i : ℕ) (front : List (ℕ × Item)) (site : ℕ × Item) (rest : List (ℕ × Item)) → i ≡ length front
        → sites modules ≡ front ++ site ∷ rest → slice_index sizes i ≡ length (bytes_of modules cell_base sizes i site)
    sized i front site rest at is =
        let p = place i front site rest at is in
        let within : i < length (pieces (program modules cell_base)) =
        omega (arith, p.here, length-map (program modules cell_base) (λ x. piece x)) in
        let own : piece_at (pieces (program modules cell_base)) i ≡ piece (element (target modules site.0) cell_base site.1) =
        get_or-map (λ x. piece x) (program modules cell_base) i (element_at [] 0) (Fixed 0) p.here ∙ ap (λ x. piece x) p.there in
        exact i within ∙ (ap (needed sizes i) own ∙ size-item i site.0 site.1 (fits i front site rest at is))

    -- the bytes of it
    pub bytes-joined : link.code (program modules cell_base) sizes ≡ joined (bytes_of modules cell_base sizes) 0 (sites modules)
    bytes-joined =
        flat-joined (element_bytes sizes) (element_at [] 0) (program modules cell_base) [] (program modules cell_base) 0 refl refl
        ∙ (ap (joined (element_bytes sizes) 0) program-sites
        ∙ joined-map (λ (s : ℕ × Item). element (target modules s.0) cell_base s.1) (element_bytes sizes) 0 (sites modules))

    module _ (code_base : ℕ) where
      -- what begins at an address
      pub items : ℕ → Option (Fun × ℤ)
      items a = looked modules cell_base sizes code_base 0 (sites modules) a

      pub instructions-items : (a : ℕ)
          → find (λ (n : Instruction). n.address == a) (instructions modules code_base cell_base sizes) ≡ option_map (made a) (items a)
      unfolding items
      instructions-items a = find-looked modules cell_base sizes code_base (sites modules) sized fits 0 [] (sites modules) refl refl a

      pub items-among : (a : ℕ) (f : Fun) (e : ℤ) → items a ≡ Some (f, e)
          → IsAmong (link.code (program modules cell_base) sizes) code_base a f e
      unfolding items
      items-among a f e h =
          found modules cell_base sizes code_base (sites modules) sized fits (link.code (program modules cell_base) sizes) 0 []
          (sites modules) [] refl refl (sym bytes-joined) refl a f e h

-- ---- code that a memory holds

pub record IsHeld (code : CodeState) (memory : List ℕ) : Type 0 where
  pub whole : block memory code.base (length code.bytes) ≡ code.bytes
  pub low : most_neg ≤ code.base
  pub reached : 0 < length code.bytes → most_neg + 36 ≤ code.base
  pub high : code_end code < 2 ^ 32

inside_of : (m : List ℕ) (base : ℕ) (bytes : List ℕ) → block m base (length bytes) ≡ bytes → 0 < length bytes → most_neg ≤ base
    → base + length bytes ≤ most_neg + length m
unfolding block
inside_of m base bytes is some low =
    let long : length (take (length bytes) (drop (base - most_neg) m)) ≡ length bytes = ap length is in
    omega (arith, long, length-take (length bytes) (drop (base - most_neg) m), length-drop (base - most_neg) m)

pub held-inside : (code : CodeState) (memory : List ℕ) → IsHeld code memory → 0 < length code.bytes
    → IsInside memory code.base (length code.bytes)
held-inside code memory h some = record { low = h.low; high = inside_of memory code.base code.bytes h.whole some h.low }

some-coding : (code : List ℕ) (base a : ℕ) (f : Fun) (e : ℤ) (h : IsAmong code base a f e)
    → length code ≡ length h.front + (length (coding f e) + length h.back)
some-coding code base a f e h =
    ap length h.whole ∙ length-append h.front (coding f e ++ h.back)
    ∙ ap (λ (n : ℕ). length h.front + n) (length-append (coding f e) h.back)

-- an instruction among the bytes is an item of the memory
pub item-held : (code : CodeState) (memory : List ℕ) (a : ℕ) (f : Fun) (e : ℤ) → IsHeld code memory → IsAmong code.bytes code.base a f e
    → 0 < length (coding f e) → IsItemAt memory code.base (code_end code) f e a
item-held code memory a f e h among some =
    let long = some-coding code.bytes code.base a f e among in
    let bytes_some : 0 < length code.bytes = omega (arith, long, some) in
    let whole = among.whole in
    let inside = held-inside code memory h bytes_some in
    subst (λ (b : ℕ). IsItemAt memory code.base (code_end code) f e b) (sym among.address)
    (subst (λ (bytes : List ℕ). IsItemAt memory code.base (code.base + length bytes) f e (code.base + length among.front)) (sym whole)
    (item-linked memory code.base among.front among.back f e among.fits among.coded (h.reached bytes_some)
    (subst (λ (bytes : List ℕ). code.base + length bytes ≤ most_neg + length memory) whole inside.high)
    (subst (λ (bytes : List ℕ). code.base + length bytes ≤ 2 ^ 32) whole (omega (arith, h.high)))
    (subst (λ (bytes : List ℕ). block memory code.base (length bytes) ≡ bytes) whole h.whole)))

-- the first bytes of it are those of the code from its address on
pub take-among : (code : CodeState) (a k : ℕ) (f : Fun) (e : ℤ) → IsAmong code.bytes code.base a f e → k ≤ length (coding f e)
    → take k (drop (a - code.base) code.bytes) ≡ take k (coding f e)
take-among code a k f e among within =
    let there : a - code.base ≡ length among.front = omega (arith, among.address) in
    ap (λ (n : ℕ). take k (drop n code.bytes)) there
    ∙ (ap (λ (bytes : List ℕ). take k (drop (length among.front) bytes)) among.whole
    ∙ (ap (take k) (drop-append_seam among.front (coding f e ++ among.back)) ∙ take-append-le k (coding f e) among.back within))
