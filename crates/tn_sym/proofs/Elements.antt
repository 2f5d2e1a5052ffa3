-- Items of a program one after the other: their bytes, and the instructions among them.
use Rattle.std.proofs.Common.{◌≡◌, ℕ, suc, ◌+◌, ◌==◌, ℤ, Bool, true, false, List, [], ◌∷◌, ◌++◌, length, map, Option, Some, None, cond}
use Rattle.std.proofs.Common.{refl, sym, ap, subst, ◌∙◌, length-append, append_assoc, add-one, arith}
use Rattle.std.specs.Prelude.{⊤, if◌then◌else◌, slice_index, slice_index_or, find}
use Rattle.std.specs.Option.{option_map}
use Rattle.std.specs.List.{flat_map, range_with_len}
use Rattle.std.specs.Int.{w32}
use Rattle.std.specs.Int.RustNames.{FitsSigned}
use Rattle.std.proofs.Math.Seq.{get_or-append_seam}
use Rattle.std.proofs.lemmas.Bool.{eqb-true}
use Rattle.tn_isa.specs.declared.functions.Fun.{Fun}
use Rattle.tn_isa.specs.OperandRegister.{IsCoded}
use Rattle.tn_prefix.specs.Coding.{coding}
use Rattle.tn_prefix.specs.Operand.{word_of}
use Rattle.tn_module.specs.declared.modules.Item.{Item}
use Rattle.tn_module.specs.declared.modules.Item.TheVariants as item
use Rattle.tn_module.specs.Modules.{Parts}
use Rattle.tn_layout.specs.Sizes.{position}
use Rattle.tn_layout.proofs.Distances.{position-suc}
use Rattle.tn_link.specs.Places.{target}
use Rattle.tn_link.specs.Programs.{element, element_bytes}
use Rattle.tn_sym.specs.declared.codes.Instruction.{Instruction}
use Rattle.tn_sym.specs.Programs.{executed, instruction_of, instructions_from}

-- what each element gives, joined, the first being at place i
abbrev pub joined : {X B : Type 0} → (ℕ → X → List B) → ℕ → List X → List B
joined h i [] = []
joined h i (x ∷ xs) = h i x ++ joined h (i + 1) xs

pub step-at : {X : Type 0} (i : ℕ) (front : List X) (x : X) → i ≡ length front → i + 1 ≡ length (front ++ x ∷ [])
step-at i front x at = omega (arith, at, length-append front (x ∷ []))

pub step-is : {X : Type 0} (all front : List X) (x : X) (xs : List X) → all ≡ front ++ x ∷ xs → all ≡ (front ++ x ∷ []) ++ xs
step-is all front x xs is = is ∙ sym (append_assoc front (x ∷ []) xs)

-- the element behind others is at the place of their number
pub seam : {X : Type 0} (d : X) (all front : List X) (x : X) (xs : List X) (i : ℕ) → i ≡ length front → all ≡ front ++ x ∷ xs
    → slice_index_or all i d ≡ x
seam {X} d all front x xs i at is =
    ap (λ (p : List X). slice_index_or p i d) is
    ∙ (ap (λ (k : ℕ). slice_index_or (front ++ x ∷ xs) k d) at ∙ get_or-append_seam front x xs d)

pub flat-joined : {X B : Type 0} (h : ℕ → X → List B) (d : X) (all front xs : List X) (i : ℕ) → i ≡ length front → all ≡ front ++ xs
    → flat_map (λ k. h k (slice_index_or all k d)) (range_with_len i (length xs)) ≡ joined h i xs
flat-joined h d all front [] i at is = refl
flat-joined {X} {B} h d all front (x ∷ xs) i at is =
    ap (λ (y : X). h i y ++ flat_map (λ k. h k (slice_index_or all k d)) (range_with_len (i + 1) (length xs)))
    (seam d all front x xs i at is)
    ∙ ap (λ (rest : List B). h i x ++ rest)
    (flat-joined h d all (front ++ x ∷ []) xs (i + 1) (step-at i front x at) (step-is all front x xs is))

pub joined-map : {X Y B : Type 0} (f : Y → X) (h : ℕ → X → List B) (i : ℕ) (ys : List Y)
    → joined h i (map f ys) ≡ joined (λ k y. h k (f y)) i ys
joined-map f h i [] = refl
joined-map {X} {Y} {B} f h i (y ∷ ys) = ap (λ (rest : List B). h i (f y) ++ rest) (joined-map f h (i + 1) ys)

-- ---- instructions

-- an instruction among the bytes of code that begins at an address
pub record IsAmong (code : List ℕ) (base a : ℕ) (f : Fun) (e : ℤ) : Type 0 where
  pub front : List ℕ
  pub back : List ℕ
  pub whole : code ≡ front ++ (coding f e ++ back)
  pub address : a ≡ base + length front
  pub coded : IsCoded f
  pub fits : FitsSigned w32 e

-- an instruction that begins at an address
abbrev pub made : ℕ → Fun × ℤ → Instruction
made a t = record { address = a; size = length (coding t.0 t.1); fun = t.0; operand = word_of t.1 }

-- what executes can be coded
abbrev pub Fits : Option (Fun × ℤ) → Type 0
Fits (Some t) = IsCoded t.0 × FitsSigned w32 t.1
Fits None = ⊤

abbrev one_of : Fun × ℤ → Option (Fun × ℤ) → Fun × ℤ
one_of other None = other
one_of other (Some t) = t

-- what begins at an address is this, where it begins there, or else another
abbrev pub looked_one : ℕ → Option (Fun × ℤ) → ℕ → Option (Fun × ℤ) → Option (Fun × ℤ)
looked_one place None a rest = rest
looked_one place (Some t) a rest = if place == a then Some t else rest

module _ (modules : List Parts) (cell_base : ℕ) (sizes : List ℕ) where
  -- the bytes of an item
  abbrev pub bytes_of : ℕ → ℕ × Item → List ℕ
  bytes_of i site = element_bytes sizes i (element (target modules site.0) cell_base site.1)

  pub bytes-executed : (i m : ℕ) (x : Item) (t : Fun × ℤ) → executed modules cell_base sizes i m x ≡ Some t
      → bytes_of i (m, x) ≡ coding t.0 t.1
  bytes-executed i m (item.Direct f o) t e = ap (λ (s : Option (Fun × ℤ)). coding (one_of t s).0 (one_of t s).1) e
  bytes-executed i m (item.Plain op) t e = ap (λ (s : Option (Fun × ℤ)). coding (one_of t s).0 (one_of t s).1) e
  bytes-executed i m (item.Byte b) t e = cc
  bytes-executed i m (item.Label name) t e = cc

  module _ (base : ℕ) where
    -- the instruction at an address, if one begins there, the first item being at place i
    abbrev pub looked : ℕ → List (ℕ × Item) → ℕ → Option (Fun × ℤ)
    looked i [] a = None
    looked i (site ∷ sites) a =
        looked_one (base + position sizes i) (executed modules cell_base sizes i site.0 site.1) a (looked (i + 1) sites a)

    module _ (all : List (ℕ × Item))
        (sized : (i : ℕ) (front : List (ℕ × Item)) (site : ℕ × Item) (sites : List (ℕ × Item)) → i ≡ length front
        → all ≡ front ++ site ∷ sites → slice_index sizes i ≡ length (bytes_of i site))
        (fits : (i : ℕ) (front : List (ℕ × Item)) (site : ℕ × Item) (sites : List (ℕ × Item)) → i ≡ length front
        → all ≡ front ++ site ∷ sites → Fits (executed modules cell_base sizes i site.0 site.1)) where
      grown : (i : ℕ) (front : List (ℕ × Item)) (site : ℕ × Item) (sites : List (ℕ × Item)) (bytes : List ℕ) → i ≡ length front
          → all ≡ front ++ site ∷ sites → length bytes ≡ position sizes i → length (bytes ++ bytes_of i site) ≡ position sizes (i + 1)
      grown i front site sites bytes at is long =
          let next : position sizes (i + 1) ≡ position sizes (suc i) = ap (position sizes) (add-one i) in
          length-append bytes (bytes_of i site) ∙ omega (arith, long, sized i front site sites at is, next, position-suc sizes i)

      -- it stands among the bytes of the code
      pub found : (code : List ℕ) (i : ℕ) (front sites : List (ℕ × Item)) (bytes : List ℕ) → i ≡ length front → all ≡ front ++ sites
          → bytes ++ joined bytes_of i sites ≡ code → length bytes ≡ position sizes i
          → (a : ℕ) (f : Fun) (e : ℤ) → looked i sites a ≡ Some (f, e) → IsAmong code base a f e
      found code i front [] bytes at is whole long a f e h = cc
      found code i front (site ∷ sites) bytes at is whole long a f e h =
          by_item (executed modules cell_base sizes i site.0 site.1) refl h
          (found code (i + 1) (front ++ site ∷ []) sites (bytes ++ bytes_of i site) (step-at i front site at)
          (step-is all front site sites is) (append_assoc bytes (bytes_of i site) (joined bytes_of (i + 1) sites) ∙ whole)
          (grown i front site sites bytes at is long) a f e)
        where
          by_test : (t : Fun × ℤ) → executed modules cell_base sizes i site.0 site.1 ≡ Some t → (test : Bool)
              → ((base + position sizes i) == a) ≡ test → (if test then Some t else looked (i + 1) sites a) ≡ Some (f, e)
              → (looked (i + 1) sites a ≡ Some (f, e) → IsAmong code base a f e) → IsAmong code base a f e
          by_test t shape true place h again =
              let fit : Fits (Some t) = subst Fits shape (fits i front site sites at is) in
              let is_fun : t.0 ≡ f = ap (λ (o : Option (Fun × ℤ)). (one_of t o).0) h in
              let is_operand : t.1 ≡ e = ap (λ (o : Option (Fun × ℤ)). (one_of t o).1) h in
              let own : bytes_of i site ≡ coding t.0 t.1 = bytes-executed i site.0 site.1 t shape in
              subst (λ (g : Fun). IsAmong code base a g e) is_fun
              (subst (λ (d : ℤ). IsAmong code base a t.0 d) is_operand
              (record {
                front = bytes;
                back = joined bytes_of (i + 1) sites;
                whole = sym whole ∙ ap (λ (b : List ℕ). bytes ++ (b ++ joined bytes_of (i + 1) sites)) own;
                address = sym (eqb-true (base + position sizes i) a place) ∙ ap (λ (n : ℕ). base + n) (sym long);
                coded = fit.0;
                fits = fit.1;
              }))
          by_test t shape false place h again = again h

          by_item : (o : Option (Fun × ℤ)) → executed modules cell_base sizes i site.0 site.1 ≡ o
              → looked_one (base + position sizes i) o a (looked (i + 1) sites a) ≡ Some (f, e)
              → (looked (i + 1) sites a ≡ Some (f, e) → IsAmong code base a f e) → IsAmong code base a f e
          by_item None shape h again = again h
          by_item (Some t) shape h again = by_test t shape ((base + position sizes i) == a) refl h again

      -- and it is the one that is found among the instructions
      pub find-looked : (i : ℕ) (front sites : List (ℕ × Item)) → i ≡ length front → all ≡ front ++ sites → (a : ℕ)
          → find (λ (n : Instruction). n.address == a) (instructions_from modules cell_base sizes base i sites) ≡ option_map (made a)
          (looked i sites a)
      find-looked i front [] at is a = refl
      find-looked i front (site ∷ sites) at is a =
          by_item (executed modules cell_base sizes i site.0 site.1) refl
          (find-looked (i + 1) (front ++ site ∷ []) sites (step-at i front site at) (step-is all front site sites is) a)
        where
          by_test : (t : Fun × ℤ) → executed modules cell_base sizes i site.0 site.1 ≡ Some t → (test : Bool)
              → ((base + position sizes i) == a) ≡ test
              → find (λ (n : Instruction). n.address == a) (instructions_from modules cell_base sizes base (i + 1) sites) ≡ option_map
              (made a) (looked (i + 1) sites a)
              → cond test (Some (record {
                address = base + position sizes i;
                size = slice_index sizes i;
                fun = t.0;
                operand = word_of
                    t.1;
              }))
              (find (λ (n : Instruction). n.address == a) (instructions_from modules cell_base sizes base (i + 1) sites)) ≡ option_map
              (made a)
              (if test then Some t else looked (i + 1) sites a)
          by_test t shape true place again =
              let there : base + position sizes i ≡ a = eqb-true (base + position sizes i) a place in
              let size : slice_index sizes i ≡ length (coding t.0 t.1) =
              sized i front site sites at is ∙ ap length (bytes-executed i site.0 site.1 t shape) in
              rw (there, size) refl
          by_test t shape false place again = again

          by_item : (o : Option (Fun × ℤ)) → executed modules cell_base sizes i site.0 site.1 ≡ o
              → find (λ (n : Instruction). n.address == a) (instructions_from modules cell_base sizes base (i + 1) sites) ≡ option_map
              (made a) (looked (i + 1) sites a)
              → find (λ (n : Instruction). n.address == a)
              (instruction_of (base + position sizes i) (slice_index sizes i) o ++ instructions_from modules cell_base sizes base
              (i + 1) sites)
              ≡ option_map (made a) (looked_one (base + position sizes i) o a (looked (i + 1) sites a))
          by_item None shape again = again
          by_item (Some t) shape again = by_test t shape ((base + position sizes i) == a) refl again
