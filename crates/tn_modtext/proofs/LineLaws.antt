-- The lines of a module text are what their tokens spell.
use Rattle.std.proofs.Common.{◌≡◌, ℕ, ◌≤◌, Bool, true, false, ◌&&◌, List, [], ◌∷◌, Option, Some, None, Contains, IfSome, Result, Ok, refl}
use Rattle.std.proofs.Common.{sym, ap, ◌∙◌, subst, arith}
use Rattle.std.specs.List.{find}
use Rattle.std.specs.Str.{bytes_eq}
use Rattle.std.specs.Fmt.{decimal}
use Rattle.std.proofs.lemmas.Slice.Eq.{bytes_eq-Decides}
use Rattle.tn_isa.proofs.Finding.{found-find}
use Rattle.tn_isa.specs.Mnemonics.{mnemonic_named}
use Rattle.tn_text.specs.declared.faults.Cause.{Cause}
use Rattle.tn_text.specs.declared.limits.TheConstants.{NAME_LIMIT}
use Rattle.tn_text.specs.Places.{name_at}
use Rattle.tn_text.specs.Reading.{result_then}
use Rattle.tn_module.specs.declared.modules.Item.{Item}
use Rattle.tn_module.specs.declared.modules.Item.TheVariants as item
use Rattle.tn_module.specs.declared.modules.Cell.{Cell}
use Rattle.tn_module.specs.declared.modules.Cell.TheVariants as cell
use Rattle.tn_module.specs.Ranges.{IsName, IsCell}
use Rattle.tn_modtext.specs.declared.forms.Section.{Section}
use Rattle.tn_modtext.specs.declared.forms.Section.TheVariants as section
use Rattle.tn_modtext.specs.declared.forms.Form.{Form}
use Rattle.tn_modtext.specs.declared.forms.Form.TheVariants as form
use Rattle.tn_modtext.specs.declared.forms.ItemForm.{ItemForm}
use Rattle.tn_modtext.specs.declared.forms.ItemForm.TheVariants as item_forms
use Rattle.tn_modtext.specs.declared.forms.CellForm.{CellForm}
use Rattle.tn_modtext.specs.declared.forms.CellForm.TheVariants as cell_forms
use Rattle.tn_modtext.specs.declared.lines.Line.{Line}
use Rattle.tn_modtext.specs.declared.lines.Line.TheVariants as line
use Rattle.tn_modtext.specs.Forms.{form_word, stands, forms, form_at}
use Rattle.tn_modtext.specs.Lines.{item_form, item_args, cell_form, cell_args, line_form, line_args, operand_text, IsSpelledItem}
use Rattle.tn_modtext.specs.Lines.{IsSpelled, line_words}
use Rattle.tn_modtext.specs.Numerals.{natural_at}
use Rattle.tn_modtext.specs.Operands.{operand_at}
use Rattle.tn_modtext.specs.Tokens.{version_at, kind_at, function_of, operation_of}
use Rattle.tn_modtext.specs.LinesAt.{no_token, one_token, two_tokens, named, counted, direct_said, item_said, cell_said}
use Rattle.tn_modtext.specs.LinesAt.{line_said, said_by, line_at}
use Rattle.tn_modtext.proofs.Results.{then-ok}
use Rattle.tn_modtext.proofs.NumeralLaws.{natural-found, natural-only}
use Rattle.tn_modtext.proofs.TokenLaws.{name-found, name-only, version-found, kind-found, kind-only, function-found, function-only}
use Rattle.tn_modtext.proofs.TokenLaws.{operation-found, operation-only}
use Rattle.tn_modtext.proofs.OperandLaws.{operand-found, operand-only}

-- ---- what is read of no token, of one and of two

module _ {A : Type 0} (P : List (List ℕ) → A → Type 0) (args : List (List ℕ)) (a : A) where
  said-none : (value : A) → P [] value → no_token args value ≡ Ok a → P args a
  said-none value p e = at args e
    where
      at : (ts : List (List ℕ)) → no_token ts value ≡ Ok a → P ts a
      at [] e = let same : value ≡ a = cc in subst (P []) same p
      at (t ∷ ts) e = absurd cc

  said-one : (read : List ℕ → Result A Cause) → ((t : List ℕ) → read t ≡ Ok a → P (t ∷ []) a) → one_token args read ≡ Ok a → P args a
  said-one read p e = at args e
    where
      at : (ts : List (List ℕ)) → one_token ts read ≡ Ok a → P ts a
      at [] e = absurd cc
      at (t ∷ []) e = p t e
      at (t ∷ u ∷ ts) e = absurd cc

  said-two : (read : List ℕ → List ℕ → Result A Cause) → ((t u : List ℕ) → read t u ≡ Ok a → P (t ∷ u ∷ []) a)
      → two_tokens args read ≡ Ok a → P args a
  said-two read p e = at args e
    where
      at : (ts : List (List ℕ)) → two_tokens ts read ≡ Ok a → P ts a
      at [] e = absurd cc
      at (t ∷ []) e = absurd cc
      at (t ∷ u ∷ []) e = p t u e
      at (t ∷ u ∷ v ∷ ts) e = absurd cc

  said-named : (put : List ℕ → A) → ((name : List ℕ) → IsName name → P (name ∷ []) (put name))
      → one_token args (named put) ≡ Ok a → P args a
  said-named put p e = said-one (named put) at e
    where
      at : (t : List ℕ) → named put t ≡ Ok a → P (t ∷ []) a
      at t q =
          let r = then-ok (name_at NAME_LIMIT t) (λ name. Ok (put name)) a q in
          let found = name-found t r.0 r.1 in
          let same : put r.0 ≡ a = cc in
          subst (λ b. P (t ∷ []) b) same (subst (λ u. P (u ∷ []) (put r.0)) found.0 (p r.0 found.1))

  said-counted : (limit : ℕ) (put : ℕ → A) → ((n : ℕ) → n ≤ limit → P (decimal n ∷ []) (put n)) → one_token args (counted limit put) ≡ Ok a
      → P args a
  said-counted limit put p e = said-one (counted limit put) at e
    where
      at : (t : List ℕ) → counted limit put t ≡ Ok a → P (t ∷ []) a
      at t q =
          let r = then-ok (natural_at limit t) (λ n. Ok (put n)) a q in
          let found = natural-found limit t r.0 r.1 in
          let same : put r.0 ≡ a = cc in
          subst (λ b. P (t ∷ []) b) same (subst (λ u. P (u ∷ []) (put r.0)) found.0 (p r.0 found.1))

-- ---- items

record IsItemOf (f : ItemForm) (args : List (List ℕ)) (i : Item) : Type 0 where
  form : item_form i ≡ f
  tokens : item_args i ≡ args
  spelled : IsSpelledItem i

item-found : (f : ItemForm) (args : List (List ℕ)) (i : Item) → item_said f args ≡ Ok i → IsItemOf f args i
item-found item_forms.Function args i e = said-two (IsItemOf item_forms.Function) args i direct_said at e
  where
    at : (t u : List ℕ) → direct_said t u ≡ Ok i → IsItemOf item_forms.Function (t ∷ u ∷ []) i
    at t u q =
        let r = then-ok (function_of (mnemonic_named t)) (λ f. result_then (operand_at u) (λ o. Ok (item.Direct f o))) i q in
        let s = then-ok (operand_at u) (λ o. Ok (item.Direct r.0 o)) i r.2 in
        let fun = function-found t r.0 r.1 in
        let operand = operand-found u s.0 s.1 in
        let same : item.Direct r.0 s.0 ≡ i = cc in
        subst (IsItemOf item_forms.Function (t ∷ u ∷ [])) same (record {
          form = refl;
          tokens = ap (λ name. name ∷ operand_text s.0 ∷ []) fun.0 ∙ ap (λ text. t ∷ text ∷ []) operand.0;
          spelled = (fun.1, operand.1);
        })
item-found item_forms.Operation args i e =
    said-one (IsItemOf item_forms.Operation) args i (λ t. result_then (operation_of (mnemonic_named t)) (λ op. Ok (item.Plain op))) at e
  where
    at : (t : List ℕ) → result_then (operation_of (mnemonic_named t)) (λ op. Ok (item.Plain op)) ≡ Ok i
        → IsItemOf item_forms.Operation (t ∷ []) i
    at t q =
        let r = then-ok (operation_of (mnemonic_named t)) (λ op. Ok (item.Plain op)) i q in
        let same : item.Plain r.0 ≡ i = cc in
        subst (IsItemOf item_forms.Operation (t ∷ [])) same
        (record { form = refl; tokens = ap (λ name. name ∷ []) (operation-found t r.0 r.1); spelled = tt })
item-found item_forms.Byte args i e =
    said-counted (IsItemOf item_forms.Byte) args i 255 item.Byte (λ n h. record { form = refl; tokens = refl; spelled = omega arith }) e
item-found item_forms.Label args i e =
    said-named (IsItemOf item_forms.Label) args i item.Label (λ name h. record { form = refl; tokens = refl; spelled = h }) e

item-only : (i : Item) → IsSpelledItem i → item_said (item_form i) (item_args i) ≡ Ok i
item-only (item.Direct f o) h = rw (function-only f h.0, operand-only o h.1) refl
item-only (item.Plain op) h = rw (operation-only op) refl
item-only (item.Byte b) h = let small : b ≤ 255 = omega (arith, h) in rw (natural-only 255 b small (omega arith)) refl
item-only (item.Label name) h = rw (name-only name h) refl

-- ---- cells

record IsCellOf (f : CellForm) (args : List (List ℕ)) (c : Cell) : Type 0 where
  form : cell_form c ≡ f
  tokens : cell_args c ≡ args
  spelled : IsCell c

cell-found : (f : CellForm) (args : List (List ℕ)) (c : Cell) → cell_said f args ≡ Ok c → IsCellOf f args c
cell-found cell_forms.Word args c e =
    said-counted (IsCellOf cell_forms.Word) args c 4294967295 cell.Word
    (λ n h. record { form = refl; tokens = refl; spelled = omega arith }) e
cell-found cell_forms.Address args c e =
    said-named (IsCellOf cell_forms.Address) args c cell.Address (λ name h. record { form = refl; tokens = refl; spelled = h }) e
cell-found cell_forms.Byte args c e =
    said-counted (IsCellOf cell_forms.Byte) args c 255 cell.Byte (λ n h. record { form = refl; tokens = refl; spelled = omega arith }) e
cell-found cell_forms.Space args c e =
    said-counted (IsCellOf cell_forms.Space) args c 4294967295 cell.Space
    (λ n h. record { form = refl; tokens = refl; spelled = omega arith }) e
cell-found cell_forms.Align args c e =
    said-none (IsCellOf cell_forms.Align) args c cell.Align (record { form = refl; tokens = refl; spelled = tt }) e
cell-found cell_forms.Label args c e =
    said-named (IsCellOf cell_forms.Label) args c cell.Label (λ name h. record { form = refl; tokens = refl; spelled = h }) e

cell-only : (c : Cell) → IsCell c → cell_said (cell_form c) (cell_args c) ≡ Ok c
cell-only (cell.Word w) h = let small : w ≤ 4294967295 = omega (arith, h) in rw (natural-only 4294967295 w small (omega arith)) refl
cell-only (cell.Address name) h = rw (name-only name h) refl
cell-only (cell.Byte b) h = let small : b ≤ 255 = omega (arith, h) in rw (natural-only 255 b small (omega arith)) refl
cell-only (cell.Space n) h = let small : n ≤ 4294967295 = omega (arith, h) in rw (natural-only 4294967295 n small (omega arith)) refl
cell-only cell.Align h = refl
cell-only (cell.Label name) h = rw (name-only name h) refl

-- ---- lines

record IsLineOf (f : Form) (args : List (List ℕ)) (l : Line) : Type 0 where
  form : line_form l ≡ f
  tokens : line_args l ≡ args
  spelled : IsSpelled l

said-found : (f : Form) (args : List (List ℕ)) (l : Line) → line_said f args ≡ Ok l → IsLineOf f args l
said-found form.Head args l e = said-one (IsLineOf form.Head) args l (λ t. result_then (version_at t) (λ _. Ok line.Head)) at e
  where
    at : (t : List ℕ) → result_then (version_at t) (λ _. Ok line.Head) ≡ Ok l → IsLineOf form.Head (t ∷ []) l
    at t q =
        let r = then-ok (version_at t) (λ _. Ok line.Head) l q in
        let same : line.Head ≡ l = cc in
        subst (IsLineOf form.Head (t ∷ [])) same
        (record { form = refl; tokens = ap (λ u. u ∷ []) (version-found t r.0 r.1); spelled = tt })
said-found form.Name args l e =
    said-named (IsLineOf form.Name) args l line.Name (λ name h. record { form = refl; tokens = refl; spelled = h }) e
said-found form.Import args l e =
    said-two (IsLineOf form.Import) args l
    (λ t u. result_then (kind_at t) (λ k. named (λ name. line.Import (record { kind = k; name = name })) u)) at e
  where
    at : (t u : List ℕ) → result_then (kind_at t) (λ k. named (λ name. line.Import (record { kind = k; name = name })) u) ≡ Ok l
        → IsLineOf form.Import (t ∷ u ∷ []) l
    at t u q =
        let r = then-ok (kind_at t) (λ k. named (λ name. line.Import (record { kind = k; name = name })) u) l q in
        let s = then-ok (name_at NAME_LIMIT u) (λ name. Ok (line.Import (record { kind = r.0; name = name }))) l r.2 in
        let found = name-found u s.0 s.1 in
        let same : line.Import (record { kind = r.0; name = s.0 }) ≡ l = cc in
        subst (IsLineOf form.Import (t ∷ u ∷ [])) same (record {
          form = refl;
          tokens = ap (λ k. k ∷ s.0 ∷ []) (kind-found t r.0 r.1) ∙ ap (λ n. t ∷ n ∷ []) found.0;
          spelled = found.1;
        })
said-found form.Export args l e =
    said-named (IsLineOf form.Export) args l line.Export (λ name h. record { form = refl; tokens = refl; spelled = h }) e
said-found form.Code args l e = said-none (IsLineOf form.Code) args l line.Code (record { form = refl; tokens = refl; spelled = tt }) e
said-found (form.Item f) args l e =
    let r = then-ok (item_said f args) (λ i. Ok (line.Item i)) l e in
    let found = item-found f args r.0 r.1 in
    let same : line.Item r.0 ≡ l = cc in
    subst (IsLineOf (form.Item f) args) same (record { form = ap form.Item found.form; tokens = found.tokens; spelled = found.spelled })
said-found form.Data args l e = said-none (IsLineOf form.Data) args l line.Data (record { form = refl; tokens = refl; spelled = tt }) e
said-found (form.Cell f) args l e =
    let r = then-ok (cell_said f args) (λ c. Ok (line.Cell c)) l e in
    let found = cell-found f args r.0 r.1 in
    let same : line.Cell r.0 ≡ l = cc in
    subst (IsLineOf (form.Cell f) args) same (record { form = ap form.Cell found.form; tokens = found.tokens; spelled = found.spelled })
said-found form.End args l e = said-none (IsLineOf form.End) args l line.End (record { form = refl; tokens = refl; spelled = tt }) e

said-only : (l : Line) → IsSpelled l → line_said (line_form l) (line_args l) ≡ Ok l
said-only line.Head h = refl
said-only (line.Name name) h = rw (name-only name h) refl
said-only (line.Import import) h = rw (kind-only import.kind, name-only import.name h) refl
said-only (line.Export name) h = rw (name-only name h) refl
said-only line.Code h = refl
said-only (line.Item i) h = rw (item-only i h) refl
said-only line.Data h = refl
said-only (line.Cell c) h = rw (cell-only c h) refl
said-only line.End h = refl

-- ---- first words

form-found : (s : Section) (word : List ℕ) (f : Form) → form_at s word ≡ Some f → (stands s f ≡ true) × (form_word f ≡ word)
unfolding form_at
form-found s word f e =
    at (find (λ g. stands s g && bytes_eq (form_word g) word) forms) e (found-find (λ g. stands s g && bytes_eq (form_word g) word) forms)
  where
    both : (a b : Bool) → (a && b) ≡ true → (a ≡ true) × (b ≡ true)
    both true b h = (refl, h)
    both false b h = absurd cc

    at : (o : Option Form) → o ≡ Some f → IfSome o (λ g. Contains forms g × ((stands s g && bytes_eq (form_word g) word) ≡ true))
        → (stands s f ≡ true) × (form_word f ≡ word)
    at None e h = absurd cc
    at (Some g) e h =
        let same : g ≡ f = cc in
        let tests = both (stands s g) (bytes_eq (form_word g) word) h.1 in
        (subst (λ k. stands s k ≡ true) same tests.0, ap form_word (sym same) ∙ (bytes_eq-Decides (form_word g) word).0 tests.1)

item-form-only : (f : ItemForm) → form_at section.Items (form_word (form.Item f)) ≡ Some (form.Item f)
unfolding form_at
item-form-only item_forms.Function = refl
item-form-only item_forms.Operation = refl
item-form-only item_forms.Byte = refl
item-form-only item_forms.Label = refl

cell-form-only : (f : CellForm) → form_at section.Cells (form_word (form.Cell f)) ≡ Some (form.Cell f)
unfolding form_at
cell-form-only cell_forms.Word = refl
cell-form-only cell_forms.Address = refl
cell-form-only cell_forms.Byte = refl
cell-form-only cell_forms.Space = refl
cell-form-only cell_forms.Align = refl
cell-form-only cell_forms.Label = refl

form-only : (s : Section) (f : Form) → stands s f ≡ true → form_at s (form_word f) ≡ Some f
unfolding form_at
form-only section.Head form.Head h = refl
form-only section.Name form.Name h = refl
form-only section.Imports form.Import h = refl
form-only section.Imports form.Export h = refl
form-only section.Imports form.Code h = refl
form-only section.Exports form.Export h = refl
form-only section.Exports form.Code h = refl
form-only section.Items (form.Item f) h = item-form-only f
form-only section.Items form.Data h = refl
form-only section.Cells (form.Cell f) h = cell-form-only f
form-only section.Cells form.End h = refl
form-only s f h = absurd cc

-- ---- the two laws

pub record IsLineAt (s : Section) (words : List (List ℕ)) (l : Line) : Type 0 where
  pub stands : stands s (line_form l) ≡ true
  pub tokens : line_words l ≡ words
  pub spelled : IsSpelled l

pub line-found : (s : Section) (words : List (List ℕ)) (l : Line) → line_at s words ≡ Ok l → IsLineAt s words l
line-found s [] l e = absurd cc
line-found s (word ∷ args) l e = at (form_at s word) refl e
  where
    at : (o : Option Form) → form_at s word ≡ o → said_by o args ≡ Ok l → IsLineAt s (word ∷ args) l
    at None is q = absurd cc
    at (Some f) is q =
        let first = form-found s word f is in
        let found = said-found f args l q in
        record {
          stands = ap (stands s) found.form ∙ first.0;
          tokens = ap (λ g. form_word g ∷ line_args l) found.form ∙ (ap (λ w. w ∷ line_args l) first.1 ∙ ap (λ ts. word ∷ ts) found.tokens);
          spelled = found.spelled;
        }

pub line-only : (s : Section) (l : Line) → stands s (line_form l) ≡ true → IsSpelled l → line_at s (line_words l) ≡ Ok l
line-only s l h spelled = rw (form-only s (line_form l) h) (said-only l spelled)
