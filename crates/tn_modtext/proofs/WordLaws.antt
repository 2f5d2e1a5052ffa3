-- What stands in a line of a module are tokens.
use Rattle.std.proofs.Common.{◌≡◌, ℕ, suc, ◌^◌, ◌<◌, pos, negsuc, true, ◌&&◌, List, [], ◌∷◌, ◌++◌, length, Option, Some, None}
use Rattle.std.proofs.Common.{All, Contains, IfSome, Ok, refl, ap, ◌∙◌, subst, arith, length-append}
use Rattle.std.specs.Prelude.{nat_le}
use Rattle.std.specs.List.{list_all}
use Rattle.std.specs.Char.{digit_value}
use Rattle.std.specs.Fmt.{decimal}
use Rattle.std.specs.Str.Parse.{AllDigits}
use Rattle.std.proofs.lemmas.Bool.Decides.{nat_tests}
use Rattle.std.proofs.lemmas.Fmt.{decimal_is_IsNumeral}
use Rattle.std.proofs.lemmas.List.Elements.{All-contains}
use Rattle.std.proofs.lemmas.List.Sums.{AllPass-from_list_all}
use Rattle.std.proofs.lemmas.Str.Parse.{digit_from_value}
use Rattle.tn_isa.specs.declared.functions.Fun.{Fun}
use Rattle.tn_isa.specs.declared.operations.Op.{Op}
use Rattle.tn_isa.specs.declared.mnemonics.Mnemonic.{Mnemonic}
use Rattle.tn_isa.specs.declared.mnemonics.Mnemonic.TheVariants.{Direct, Plain}
use Rattle.tn_isa.specs.Mnemonics.{function_name, operation_name, name_of, mnemonics, mnemonic_named}
use Rattle.tn_isa.proofs.Naming.{found-named}
use Rattle.tn_text.specs.declared.limits.TheConstants.{NAME_LIMIT}
use Rattle.tn_text.specs.Names.{begins_name, continues_name, is_name_spelling}
use Rattle.tn_module.specs.declared.modules.Kind.{Kind}
use Rattle.tn_module.specs.declared.modules.Kind.TheVariants as kind
use Rattle.tn_module.specs.declared.modules.Operand.{Operand}
use Rattle.tn_module.specs.declared.modules.Operand.TheVariants as operand
use Rattle.tn_module.specs.declared.modules.Item.{Item}
use Rattle.tn_module.specs.declared.modules.Item.TheVariants as item
use Rattle.tn_module.specs.declared.modules.Cell.{Cell}
use Rattle.tn_module.specs.declared.modules.Cell.TheVariants as cell
use Rattle.tn_module.specs.Ranges.{IsName, IsOperand, IsCell}
use Rattle.tn_modtext.specs.declared.lines.Line.{Line}
use Rattle.tn_modtext.specs.declared.lines.Line.TheVariants as line
use Rattle.tn_modtext.specs.Forms.{item_word, cell_word}
use Rattle.tn_modtext.specs.Lines.{item_form, cell_form, kind_word, operand_text, item_args, cell_args, line_words, HasMnemonic}
use Rattle.tn_modtext.specs.Lines.{IsSpelledItem, IsSpelled}
use Rattle.tn_modtext.specs.Tokens.{function_of, operation_of}
use Rattle.tn_modtext.proofs.TokenLaws.{function-only, operation-only}
use Rattle.tn_modtext.proofs.SplitLaws.{both, nonempty-cons, list_all-append, list_all-weaker, is_token_byte, is_token}

token : (word : List ℕ) → 0 < length word → list_all is_token_byte word ≡ true → is_token word ≡ true
token [] some h = absurd (omega arith)
token (c ∷ cs) some h = ap (λ b. b && list_all is_token_byte (c ∷ cs)) (nonempty-cons c cs) ∙ h

-- ---- names

name_byte : (c : ℕ) → continues_name c ≡ true → is_token_byte c ≡ true
unfolding is_token_byte
name_byte c h = grind (arith, nat_tests)

begins_byte : (c : ℕ) → begins_name c ≡ true → is_token_byte c ≡ true
unfolding is_token_byte
begins_byte c h = grind (arith, nat_tests)

record IsWord (word : List ℕ) : Type 0 where
  some : 0 < length word
  bytes : list_all is_token_byte word ≡ true

word_of : (name : List ℕ) → IsName name → IsWord name
unfolding is_name_spelling
word_of [] h = absurd cc
word_of (c ∷ cs) h =
    let parts = both (is_name_spelling (c ∷ cs)) (nat_le (length (c ∷ cs)) NAME_LIMIT) h in
    let bytes = both (begins_name c) (list_all continues_name cs) parts.0 in
    record {
      some = omega arith;
      bytes = rw (begins_byte c bytes.0, list_all-weaker continues_name is_token_byte name_byte cs bytes.1) refl;
    }

name-token : (name : List ℕ) → IsName name → is_token name ≡ true
name-token name h = let w = word_of name h in token name w.some w.bytes

-- ---- numbers

digit_byte : (c : ℕ) → digit_value c < 10 → is_token_byte c ≡ true
unfolding is_token_byte
digit_byte c h = let digit = digit_from_value c h in grind (arith, nat_tests, digit)

digit_bytes : (ds : List ℕ) → AllDigits 10 ds → list_all is_token_byte ds ≡ true
digit_bytes [] h = refl
digit_bytes (c ∷ cs) h = rw (digit_byte c h.0, digit_bytes cs h.1) refl

decimal_word : (n : ℕ) → n < 2 ^ 64 → IsWord (decimal n)
decimal_word n small =
    let numeral = decimal_is_IsNumeral n small in
    record { some = numeral.0.0; bytes = digit_bytes (decimal n) numeral.0.1 }

decimal-token : (n : ℕ) → n < 2 ^ 64 → is_token (decimal n) ≡ true
decimal-token n small = let w = decimal_word n small in token (decimal n) w.some w.bytes

-- ---- mnemonics

all_names : All (λ m. is_token (name_of m) ≡ true) mnemonics
unfolding is_token_byte
all_names = AllPass-from_list_all (λ m. is_token (name_of m)) mnemonics refl

named-token : (m : Mnemonic) → mnemonic_named (name_of m) ≡ Some m → is_token (name_of m) ≡ true
named-token m e = at (mnemonic_named (name_of m)) e (found-named (name_of m))
  where
    at : (o : Option Mnemonic) → o ≡ Some m → IfSome o (λ n. Contains mnemonics n × (name_of n ≡ name_of m)) → is_token (name_of m) ≡ true
    at None e h = absurd cc
    at (Some n) e h =
        let same : n ≡ m = cc in
        All-contains (λ k. is_token (name_of k) ≡ true) mnemonics m all_names (subst (Contains mnemonics) same h.0)

function-token : (f : Fun) → HasMnemonic f → is_token (function_name f) ≡ true
function-token f h = named-token (Direct f) (at (mnemonic_named (function_name f)) (function-only f h))
  where
    at : (o : Option Mnemonic) → function_of o ≡ Ok f → o ≡ Some (Direct f)
    at None e = absurd cc
    at (Some (Direct g)) e = cc
    at (Some (Plain op)) e = absurd cc

operation-token : (op : Op) → is_token (operation_name op) ≡ true
operation-token op = named-token (Plain op) (at (mnemonic_named (operation_name op)) (operation-only op))
  where
    at : (o : Option Mnemonic) → operation_of o ≡ Ok op → o ≡ Some (Plain op)
    at None e = absurd cc
    at (Some (Direct g)) e = absurd cc
    at (Some (Plain o)) e = cc

-- ---- operands and kinds

operand-token : (o : Operand) → IsOperand o → is_token (operand_text o) ≡ true
unfolding is_token_byte
operand-token (operand.Number (pos n)) h = let below : n < 2 ^ 31 = h.sfits in decimal-token n (omega arith)
operand-token (operand.Number (negsuc n)) h =
    let below : n < 2 ^ 31 = h.sfits in
    let w = decimal_word (suc n) (omega arith) in token (45 ∷ decimal (suc n)) (omega arith) w.bytes
operand-token (operand.To name) h = name-token name h
operand-token (operand.Difference high low) h =
    let first = word_of high h.0 in
    let second = word_of low h.1 in
    token (high ++ 45 ∷ low) (omega (arith, length-append high (45 ∷ low)))
    (list_all-append is_token_byte high (45 ∷ low) first.bytes second.bytes)
operand-token (operand.CellWord name) h = let w = word_of name h in token (64 ∷ name) (omega arith) w.bytes

kind-token : (k : Kind) → is_token (kind_word k) ≡ true
unfolding is_token_byte
kind-token kind.Code = refl
kind-token kind.Cell = refl

-- ---- lines

item-tokens : (i : Item) → IsSpelledItem i → list_all is_token (item_args i) ≡ true
item-tokens (item.Direct f o) h = rw (function-token f h.0, operand-token o h.1) refl
item-tokens (item.Plain op) h = rw (operation-token op) refl
item-tokens (item.Byte b) h = rw (decimal-token b (omega (arith, h))) refl
item-tokens (item.Label name) h = rw (name-token name h) refl

cell-tokens : (c : Cell) → IsCell c → list_all is_token (cell_args c) ≡ true
cell-tokens (cell.Word w) h = rw (decimal-token w (omega (arith, h))) refl
cell-tokens (cell.Address name) h = rw (name-token name h) refl
cell-tokens (cell.Byte b) h = rw (decimal-token b (omega (arith, h))) refl
cell-tokens (cell.Space n) h = rw (decimal-token n (omega (arith, h))) refl
cell-tokens cell.Align h = refl
cell-tokens (cell.Label name) h = rw (name-token name h) refl

behind : (word : List ℕ) (words : List (List ℕ)) → is_token word ≡ true → list_all is_token words ≡ true
    → list_all is_token (word ∷ words) ≡ true
behind word words h k = rw (h, k) refl

item_first : (i : Item) → is_token (item_word (item_form i)) ≡ true
unfolding is_token_byte
item_first (item.Direct f o) = refl
item_first (item.Plain op) = refl
item_first (item.Byte b) = refl
item_first (item.Label name) = refl

cell_first : (c : Cell) → is_token (cell_word (cell_form c)) ≡ true
unfolding is_token_byte
cell_first (cell.Word w) = refl
cell_first (cell.Address name) = refl
cell_first (cell.Byte b) = refl
cell_first (cell.Space n) = refl
cell_first cell.Align = refl
cell_first (cell.Label name) = refl

pub words-tokens : (l : Line) → IsSpelled l → list_all is_token (line_words l) ≡ true
unfolding is_token_byte
words-tokens line.Head h = refl
words-tokens (line.Name name) h = rw (name-token name h) refl
words-tokens (line.Import import) h = rw (kind-token import.kind, name-token import.name h) refl
words-tokens (line.Export name) h = rw (name-token name h) refl
words-tokens line.Code h = refl
words-tokens (line.Item i) h = behind (item_word (item_form i)) (item_args i) (item_first i) (item-tokens i h)
words-tokens line.Data h = refl
words-tokens (line.Cell c) h = behind (cell_word (cell_form c)) (cell_args c) (cell_first c) (cell-tokens c h)
words-tokens line.End h = refl
