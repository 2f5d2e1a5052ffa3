-- What a line says may stand in its section: the module is named before all else, and never again.
use Rattle.std.proofs.Common.{◌≡◌, ℕ, Bool, true, false, not, List, [], ◌∷◌, Option, Some, None, Ok, refl, sym, ap, subst}
use Rattle.tn_isa.specs.declared.mnemonics.Mnemonic.{Mnemonic}
use Rattle.tn_isa.specs.declared.mnemonics.Mnemonic.TheVariants.{Direct, Plain}
use Rattle.tn_isa.specs.Mnemonics.{mnemonic_named}
use Rattle.tn_text.specs.declared.limits.TheConstants.{NAME_LIMIT}
use Rattle.tn_text.specs.Places.{name_at}
use Rattle.tn_modtext.proofs.Results.{then-ok}
use Rattle.tn_text.proofs.Results.{ok-ok}
use Rattle.tn_module.specs.declared.modules.Item.TheVariants as item
use Rattle.tn_module.specs.declared.modules.Cell.TheVariants as cell
use Rattle.tn_asm.specs.declared.directives.Directive.{Directive}
use Rattle.tn_asm.specs.declared.directives.Directive.TheVariants as directive
use Rattle.tn_asm.specs.declared.statements.Section.{Section}
use Rattle.tn_asm.specs.declared.statements.Section.TheVariants as section
use Rattle.tn_asm.specs.declared.statements.Statement.{Statement}
use Rattle.tn_asm.specs.declared.statements.Statement.TheVariants as statement
use Rattle.tn_asm.specs.declared.forms.Form.{Form}
use Rattle.tn_asm.specs.declared.forms.Form.TheVariants as form
use Rattle.tn_asm.specs.declared.forms.ItemForm.TheVariants as item_form
use Rattle.tn_asm.specs.declared.forms.CellForm.TheVariants as cell_form
use Rattle.tn_asm.specs.Directives.{directive_named}
use Rattle.tn_asm.specs.Forms.{directive_form, mnemonic_form, word_form, form_at, body_form}
use Rattle.tn_asm.specs.Labels.{label_of, label_said}
use Rattle.tn_asm.specs.Sources.{ArgumentsSay, StatementSays, FirstSays, WordsSay, section_after, module_in}
use Rattle.tn_asm.proofs.Gathering.{Suits, AllSuit}

-- ---- forms

abbrev is_module : Form → Bool
is_module form.Module = true
is_module form.Import = false
is_module form.Export = false
is_module form.Code = false
is_module form.Data = false
is_module (form.Item f) = false
is_module (form.Cell f) = false

abbrev suits_form : Section → Option Form → Bool
suits_form s None = true
suits_form section.Head (Some f) = is_module f
suits_form section.Code (Some f) = not (is_module f)
suits_form section.Data (Some f) = not (is_module f)

directive_suits : (s : Section) (d : Directive) → suits_form s (directive_form s d) ≡ true
directive_suits section.Head directive.Module = refl
directive_suits section.Head directive.Import = refl
directive_suits section.Head directive.Export = refl
directive_suits section.Head directive.Code = refl
directive_suits section.Head directive.Data = refl
directive_suits section.Head directive.Byte = refl
directive_suits section.Head directive.Word = refl
directive_suits section.Head directive.Address = refl
directive_suits section.Head directive.Space = refl
directive_suits section.Head directive.Align = refl
directive_suits section.Code directive.Import = refl
directive_suits section.Code directive.Export = refl
directive_suits section.Code directive.Code = refl
directive_suits section.Code directive.Data = refl
directive_suits section.Code directive.Byte = refl
directive_suits section.Code d = refl
directive_suits section.Data directive.Module = refl
directive_suits section.Data directive.Import = refl
directive_suits section.Data directive.Export = refl
directive_suits section.Data directive.Code = refl
directive_suits section.Data directive.Data = refl
directive_suits section.Data directive.Byte = refl
directive_suits section.Data directive.Word = refl
directive_suits section.Data directive.Address = refl
directive_suits section.Data directive.Space = refl
directive_suits section.Data directive.Align = refl

mnemonic_suits : (s : Section) (m : Mnemonic) → suits_form s (mnemonic_form s m) ≡ true
mnemonic_suits section.Head m = refl
mnemonic_suits section.Code (Direct f) = refl
mnemonic_suits section.Code (Plain op) = refl
mnemonic_suits section.Data m = refl

form_suits : (s : Section) (word : List ℕ) → suits_form s (form_at s word) ≡ true
form_suits s word = at (directive_named word) (mnemonic_named word)
  where
    none : (t : Section) → suits_form t None ≡ true
    none section.Head = refl
    none section.Code = refl
    none section.Data = refl

    at : (d : Option Directive) (m : Option Mnemonic) → suits_form s (word_form s d m) ≡ true
    at (Some d) m = directive_suits s d
    at None (Some m) = mnemonic_suits s m
    at None None = none s

-- ---- statements

-- what a statement of a form says of the module's name
abbrev Names : Bool → Statement → Type 0
Names true x = (name : List ℕ) × (x ≡ statement.Module name)
Names false x = module_in x ≡ None

names : (f : Form) (args : List (List ℕ)) (x : Statement) → ArgumentsSay f args x → Names (is_module f) x
unfolding ArgumentsSay
names form.Module args x says = (says.1, says.4)
names form.Import args x says = ap module_in says.7
names form.Export args x says = ap module_in says.4
names form.Code args x says = ap module_in says.1
names form.Data args x says = ap module_in says.1
names (form.Item (item_form.Function f)) args x says = ap module_in says.4
names (form.Item (item_form.Operation op)) args x says = ap module_in says.1
names (form.Item item_form.Byte) args x says = ap module_in says.4
names (form.Cell cell_form.Word) args x says = ap module_in says.4
names (form.Cell cell_form.Address) args x says = ap module_in says.4
names (form.Cell cell_form.Byte) args x says = ap module_in says.4
names (form.Cell cell_form.Space) args x says = ap module_in says.4
names (form.Cell cell_form.Align) args x says = ap module_in says.1

suits : (s : Section) (f : Form) (x : Statement) → suits_form s (Some f) ≡ true → Names (is_module f) x → Suits s x
suits section.Head f x e n = head (is_module f) e n
  where
    head : (b : Bool) → b ≡ true → Names b x → Suits section.Head x
    head true q n = n
    head false q n = absurd cc
suits section.Code f x e n = body (is_module f) e n
  where
    body : (b : Bool) → not b ≡ true → Names b x → module_in x ≡ None
    body true q n = absurd cc
    body false q n = n
suits section.Data f x e n = body (is_module f) e n
  where
    body : (b : Bool) → not b ≡ true → Names b x → module_in x ≡ None
    body true q n = absurd cc
    body false q n = n

statement_suits : (s : Section) (word : List ℕ) (args : List (List ℕ)) (x : Statement) → StatementSays (form_at s word) args x → Suits s x
statement_suits s word args x (f, is, says) =
    suits s f x (subst (λ o. suits_form s o ≡ true) is (form_suits s word)) (names f args x says)

-- ---- labels, and the statements behind them

label_suits : (s : Section) (label : List ℕ) (l : Statement) → label_said s label ≡ Ok l → Suits s l × (section_after s l ≡ s)
label_suits section.Head label l e = absurd cc
label_suits section.Code label l e =
    let k = then-ok (name_at NAME_LIMIT label) (λ n. Ok (statement.Item (item.Label n))) l e in
    let same : statement.Item (item.Label k.0) ≡ l =
    ok-ok (Ok (statement.Item (item.Label k.0))) (statement.Item (item.Label k.0)) l refl k.2 in
    (ap module_in (sym same), ap (section_after section.Code) (sym same))
label_suits section.Data label l e =
    let k = then-ok (name_at NAME_LIMIT label) (λ n. Ok (statement.Cell (cell.Label n))) l e in
    let same : statement.Cell (cell.Label k.0) ≡ l =
    ok-ok (Ok (statement.Cell (cell.Label k.0))) (statement.Cell (cell.Label k.0)) l refl k.2 in
    (ap module_in (sym same), ap (section_after section.Data) (sym same))

body_is : (o : Option Form) (f : Form) → body_form o ≡ Some f → o ≡ Some f
body_is None f e = absurd cc
body_is (Some form.Module) f e = absurd cc
body_is (Some form.Import) f e = absurd cc
body_is (Some form.Export) f e = absurd cc
body_is (Some form.Code) f e = absurd cc
body_is (Some form.Data) f e = absurd cc
body_is (Some (form.Item g)) f e = e
body_is (Some (form.Cell g)) f e = e

first_suits : (s : Section) (label : Option (List ℕ)) (word : List ℕ) (args : List (List ℕ)) (here : List Statement)
    → FirstSays s label word args here → AllSuit s here
first_suits s None word args here says =
    subst (AllSuit s) (sym says.2) (statement_suits s word args says.0 says.1, tt)
first_suits s (Some label) word [] here says =
    subst (AllSuit s) (sym says.2) ((label_suits s label says.0 says.1).0, tt)
first_suits s (Some label) word (next ∷ args) here (l, x, named, (f, is, said), e) =
    let suit = label_suits s label l named in
    let behind : Suits s x = statement_suits s next args x (f, body_is (form_at s next) f is, said) in
    subst (AllSuit s) (sym e) (suit.0, (subst (λ t. Suits t x) (sym suit.1) behind, tt))

pub words_suit : (s : Section) (words : List (List ℕ)) (here : List Statement) → WordsSay s words here → AllSuit s here
unfolding WordsSay
words_suit s [] here says = subst (AllSuit s) (sym says) tt
words_suit s (word ∷ args) here says = first_suits s (label_of word) word args here says
