-- Names of instructions name them.
use Rattle.std.proofs.Common.{◌≡◌, ◌≢◌, ℕ, Bool, true, false, List, Option, Some, None, All, Contains, IfSome, IfNone, refl, sym, ap, ◌∙◌}
use Rattle.std.proofs.Common.{arith}
use Rattle.std.specs.Bool.{◌==◌}
use Rattle.std.specs.List.{find, list_all}
use Rattle.std.specs.Str.{bytes_eq}
use Rattle.std.proofs.lemmas.Bool.Decides.{nat_tests}
use Rattle.std.proofs.lemmas.Slice.Eq.{bytes_eq-Decides}
use Rattle.std.proofs.lemmas.List.Sums.{AllPass-from_list_all}
use Rattle.std.proofs.lemmas.List.Elements.{All-contains, All-weaker}
use Rattle.tn_isa.specs.declared.functions.Fun.{Fun}
use Rattle.tn_isa.specs.declared.mnemonics.Mnemonic.{Mnemonic}
use Rattle.tn_isa.specs.declared.mnemonics.Mnemonic.TheVariants.{Direct, Plain}
use Rattle.tn_isa.specs.Functions.{code_of, function_at}
use Rattle.tn_isa.specs.Operations.{operation_code}
use Rattle.tn_isa.specs.Mnemonics.{mnemonics, name_of, mnemonic_named}
use Rattle.tn_isa.proofs.Finding.{found-find, none-find}
use Rattle.tn_isa.proofs.FunctionCodes.{function_at-code_of}
use Rattle.tn_isa.proofs.OperationCodes.{same_operation}

-- a word that names an instruction is its name
pub found-named : (word : List ℕ) → IfSome (mnemonic_named word) (λ m. Contains mnemonics m × (name_of m ≡ word))
unfolding mnemonic_named
found-named word =
    named (find (λ m. bytes_eq (name_of m) word) mnemonics) (found-find (λ m. bytes_eq (name_of m) word) mnemonics)
  where
    named : (o : Option Mnemonic) → IfSome o (λ m. Contains mnemonics m × (bytes_eq (name_of m) word ≡ true))
        → IfSome o (λ m. Contains mnemonics m × (name_of m ≡ word))
    named None h = tt
    named (Some m) h = (h.0, (bytes_eq-Decides (name_of m) word).0 h.1)

-- a word that names none is no instruction's name
pub none-named : (word : List ℕ) → IfNone (mnemonic_named word) (All (λ m. name_of m ≢ word) mnemonics)
unfolding mnemonic_named
none-named word =
    named (find (λ m. bytes_eq (name_of m) word) mnemonics) (none-find (λ m. bytes_eq (name_of m) word) mnemonics)
  where
    other : (m : Mnemonic) → bytes_eq (name_of m) word ≡ false → name_of m ≢ word
    other m e s = let t : bytes_eq (name_of m) word ≡ true = (bytes_eq-Decides (name_of m) word).1 s in cc

    named : (o : Option Mnemonic) → IfNone o (All (λ m. bytes_eq (name_of m) word ≡ false) mnemonics)
        → IfNone o (All (λ m. name_of m ≢ word) mnemonics)
    named None h = All-weaker (λ m. bytes_eq (name_of m) word ≡ false) (λ m. name_of m ≢ word) other mnemonics h
    named (Some m) h = tt

-- no two functions have one code
pub same_function : (f g : Fun) → code_of f ≡ code_of g → f ≡ g
same_function f g e = sym (function_at-code_of f) ∙ ap function_at e ∙ function_at-code_of g

-- whether two instructions are one, by their codes
is_same : Mnemonic → Mnemonic → Bool
is_same (Direct f) (Direct g) = code_of f == code_of g
is_same (Plain a) (Plain b) = operation_code a == operation_code b
is_same (Direct f) (Plain b) = false
is_same (Plain a) (Direct g) = false

same-is_same : (m n : Mnemonic) → is_same m n ≡ true → m ≡ n
unfolding is_same
same-is_same (Direct f) (Direct g) e = ap Direct (same_function f g (grind (arith, nat_tests)))
same-is_same (Plain a) (Plain b) e = ap Plain (same_operation a b (grind (arith, nat_tests)))
same-is_same (Direct f) (Plain b) e = absurd cc
same-is_same (Plain a) (Direct g) e = absurd cc

-- whether what the word names is this instruction
is_this : Mnemonic → Option Mnemonic → Bool
is_this m None = false
is_this m (Some n) = is_same n m

is_read_back : Mnemonic → Bool
is_read_back m = is_this m (mnemonic_named (name_of m))

-- the check over the whole table
all_read_back : list_all is_read_back mnemonics ≡ true
unfolding is_same is_this is_read_back mnemonic_named
all_read_back = refl

-- an instruction's name names it, so that no two have one name
pub mnemonic_named-name_of : (m : Mnemonic) → Contains mnemonics m → mnemonic_named (name_of m) ≡ Some m
unfolding is_read_back is_this
mnemonic_named-name_of m h =
    this (mnemonic_named (name_of m)) (All-contains (λ n. is_read_back n
    ≡ true) mnemonics m (AllPass-from_list_all is_read_back mnemonics all_read_back) h)
  where
    this : (o : Option Mnemonic) → is_this m o ≡ true → o ≡ Some m
    this None e = absurd cc
    this (Some n) e = ap Some (same-is_same n m e)
