-- Names and words of a module text are what their tokens spell.
use Rattle.std.proofs.Common.{◌≡◌, ℕ, Bool, true, false, not, cond, List, [], ◌∷◌, Option, Some, None, All, Contains, IfSome, Result, Ok}
use Rattle.std.proofs.Common.{Err, refl, sym, ap, ◌∙◌, subst, arith}
use Rattle.std.specs.Bool.{◌==◌}
use Rattle.std.proofs.lemmas.Bool.Decides.{nat_tests}
use Rattle.std.specs.Prelude.{codes}
use Rattle.std.specs.Str.{bytes_eq}
use Rattle.std.proofs.lemmas.List.Elements.{All-contains}
use Rattle.std.proofs.lemmas.List.Sums.{AllPass-from_list_all}
use Rattle.std.proofs.lemmas.Slice.Eq.{bytes_eq-Decides}
use Rattle.tn_isa.specs.declared.functions.Fun.{Fun}
use Rattle.tn_isa.specs.declared.functions.Fun.TheVariants.{J, Ldlp, Pfix, Ldnl, Ldc, Ldnlp, Nfix, Ldl, Adc, Call, Cj, Ajw, Eqc, Stl}
use Rattle.tn_isa.specs.declared.functions.Fun.TheVariants.{Stnl, Opr}
use Rattle.tn_isa.specs.declared.operations.Op.{Op}
use Rattle.tn_isa.specs.declared.mnemonics.Mnemonic.{Mnemonic}
use Rattle.tn_isa.specs.declared.mnemonics.Mnemonic.TheVariants.{Direct, Plain}
use Rattle.tn_isa.specs.Mnemonics.{function_name, operation_name, name_of, mnemonics, mnemonic_named}
use Rattle.tn_isa.specs.Operations.{operations, operation_code, operation_with}
use Rattle.tn_isa.proofs.Finding.{found-find}
use Rattle.tn_isa.proofs.OperationCodes.{operation_with-operation_code, same_operation}
use Rattle.tn_isa.proofs.Naming.{found-named}
use Rattle.tn_text.specs.declared.faults.Cause.{Cause}
use Rattle.tn_text.specs.declared.faults.FaultCode.TheVariants.{BadLine, NameTooLong}
use Rattle.tn_text.specs.declared.limits.TheConstants.{NAME_LIMIT}
use Rattle.tn_text.specs.Faults.{bare}
use Rattle.tn_text.specs.Names.{is_name, is_name_up_to, is_name_spelling}
use Rattle.tn_text.specs.Places.{name_at}
use Rattle.tn_module.specs.declared.modules.Kind.{Kind}
use Rattle.tn_module.specs.declared.modules.Kind.TheVariants as kind
use Rattle.tn_module.specs.Names.{is_one_of}
use Rattle.tn_modtext.specs.Lines.{kind_word, HasMnemonic}
use Rattle.tn_modtext.specs.Tokens.{version_at, kind_at, function_of, operation_of}

-- ---- names

pub name-found : (t name : List ℕ) → name_at NAME_LIMIT t ≡ Ok name → (name ≡ t) × (is_name name ≡ true)
unfolding name_at
name-found t name e = at (is_name_up_to NAME_LIMIT t) refl e
  where
    at : (b : Bool) → is_name_up_to NAME_LIMIT t ≡ b
        → cond {A = Result (List ℕ) Cause} b (Ok t) (Err (bare (cond (is_name_spelling t) NameTooLong BadLine))) ≡ Ok name
        → (name ≡ t) × (is_name name ≡ true)
    at true is q = let same : name ≡ t = cc in (same, ap is_name same ∙ is)
    at false is q = absurd cc

pub name-only : (name : List ℕ) → is_name name ≡ true → name_at NAME_LIMIT name ≡ Ok name
unfolding name_at
name-only name h = rw h refl

-- ---- versions and kinds

pub version-found : (t : List ℕ) (x : Unit {0}) → version_at t ≡ Ok x → codes "1" ≡ t
version-found t x e = at (bytes_eq t (codes "1")) refl e
  where
    at : (b : Bool) → bytes_eq t (codes "1") ≡ b → cond {A = Result (Unit {0}) Cause} b (Ok tt) (Err (bare BadLine)) ≡ Ok x → codes "1" ≡ t
    at true is q = sym ((bytes_eq-Decides t (codes "1")).0 is)
    at false is q = absurd cc

pub kind-found : (t : List ℕ) (k : Kind) → kind_at t ≡ Ok k → kind_word k ≡ t
kind-found t k e = at (bytes_eq t (codes "code")) refl (bytes_eq t (codes "data")) refl e
  where
    at : (a : Bool) → bytes_eq t (codes "code") ≡ a → (b : Bool) → bytes_eq t (codes "data") ≡ b
        → cond {A = Result Kind Cause} a (Ok kind.Code) (cond b (Ok kind.Cell) (Err (bare BadLine))) ≡ Ok k → kind_word k ≡ t
    at true is b other q = let same : k ≡ kind.Code = cc in ap kind_word same ∙ sym ((bytes_eq-Decides t (codes "code")).0 is)
    at false is true other q = let same : k ≡ kind.Cell = cc in ap kind_word same ∙ sym ((bytes_eq-Decides t (codes "data")).0 other)
    at false is false other q = absurd cc

pub kind-only : (k : Kind) → kind_at (kind_word k) ≡ Ok k
kind-only kind.Code = refl
kind-only kind.Cell = refl

-- ---- mnemonics

-- a source names each function but three
sourced : Mnemonic → Bool
sourced (Direct f) = is_one_of (Pfix ∷ Nfix ∷ Opr ∷ []) f
sourced (Plain op) = false

none_sourced : All (λ m. not (sourced m) ≡ true) mnemonics
unfolding sourced
none_sourced = AllPass-from_list_all (λ m. not (sourced m)) mnemonics refl

has_mnemonic : (f : Fun) → Contains mnemonics (Direct f) → HasMnemonic f
unfolding sourced
has_mnemonic f h =
    at (is_one_of (Pfix ∷ Nfix ∷ Opr ∷ []) f) (All-contains (λ m. not (sourced m) ≡ true) mnemonics (Direct f) none_sourced h)
  where
    at : (b : Bool) → not b ≡ true → b ≡ false
    at true e = absurd cc
    at false e = refl

pub function-found : (t : List ℕ) (f : Fun) → function_of (mnemonic_named t) ≡ Ok f → (function_name f ≡ t) × HasMnemonic f
function-found t f e = at (mnemonic_named t) (found-named t) e
  where
    at : (o : Option Mnemonic) → IfSome o (λ m. Contains mnemonics m × (name_of m ≡ t)) → function_of o ≡ Ok f
        → (function_name f ≡ t) × HasMnemonic f
    at None h q = absurd cc
    at (Some (Direct g)) h q =
        let same : g ≡ f = cc in
        (ap function_name (sym same) ∙ h.1, has_mnemonic f (subst (λ k. Contains mnemonics (Direct k)) same h.0))
    at (Some (Plain op)) h q = absurd cc

pub function-only : (f : Fun) → HasMnemonic f → function_of (mnemonic_named (function_name f)) ≡ Ok f
unfolding mnemonic_named
function-only J h = refl
function-only Ldlp h = refl
function-only Pfix h = absurd cc
function-only Ldnl h = refl
function-only Ldc h = refl
function-only Ldnlp h = refl
function-only Nfix h = absurd cc
function-only Ldl h = refl
function-only Adc h = refl
function-only Call h = refl
function-only Cj h = refl
function-only Ajw h = refl
function-only Eqc h = refl
function-only Stl h = refl
function-only Stnl h = refl
function-only Opr h = absurd cc

pub operation-found : (t : List ℕ) (op : Op) → operation_of (mnemonic_named t) ≡ Ok op → operation_name op ≡ t
operation-found t op e = at (mnemonic_named t) (found-named t) e
  where
    at : (o : Option Mnemonic) → IfSome o (λ m. Contains mnemonics m × (name_of m ≡ t)) → operation_of o ≡ Ok op → operation_name op ≡ t
    at None h q = absurd cc
    at (Some (Direct g)) h q = absurd cc
    at (Some (Plain o)) h q = let same : o ≡ op = cc in ap operation_name (sym same) ∙ h.1

-- whether what a word names is this operation
names_this : Op → Option Mnemonic → Bool
names_this op None = false
names_this op (Some (Direct f)) = false
names_this op (Some (Plain o)) = operation_code o == operation_code op

is_read_back : Op → Bool
is_read_back op = names_this op (mnemonic_named (operation_name op))

all_read_back : All (λ op. is_read_back op ≡ true) operations
unfolding is_read_back names_this mnemonic_named
all_read_back = AllPass-from_list_all is_read_back operations refl

in_table : (op : Op) → Contains operations op
unfolding operation_with
in_table op =
    at (operation_with (operation_code op)) (operation_with-operation_code op)
    (found-find (λ o. operation_code o == operation_code op) operations)
  where
    at : (o : Option Op) → o ≡ Some op → IfSome o (λ p. Contains operations p × ((operation_code p == operation_code op) ≡ true))
        → Contains operations op
    at None e h = absurd cc
    at (Some p) e h = let same : p ≡ op = cc in subst (Contains operations) same h.0

pub operation-only : (op : Op) → operation_of (mnemonic_named (operation_name op)) ≡ Ok op
unfolding is_read_back names_this
operation-only op =
    at (mnemonic_named (operation_name op)) (All-contains (λ o. is_read_back o ≡ true) operations op all_read_back (in_table op))
  where
    at : (o : Option Mnemonic) → names_this op o ≡ true → operation_of o ≡ Ok op
    at None e = absurd cc
    at (Some (Direct f)) e = absurd cc
    at (Some (Plain o)) e = ap Ok (same_operation o op (grind (arith, nat_tests)))
