-- The first words of statements that are no mnemonics.
use Rattle.std.specs.Prelude.{ℕ, List, [], ◌∷◌, Option, find, codes}
use Rattle.std.specs.Str.{bytes_eq}
use Rattle.tn_asm.specs.declared.directives.Directive.{Directive}
use Rattle.tn_asm.specs.declared.directives.Directive.TheVariants as directive

-- the word of a directive
abbrev pub directive_word : Directive → List ℕ
directive_word directive.Module = codes ".module"
directive_word directive.Import = codes ".import"
directive_word directive.Export = codes ".export"
directive_word directive.Code = codes ".code"
directive_word directive.Data = codes ".data"
directive_word directive.Byte = codes ".byte"
directive_word directive.Word = codes ".word"
directive_word directive.Address = codes ".address"
directive_word directive.Space = codes ".space"
directive_word directive.Align = codes ".align"

abbrev pub directives : List Directive
directives =
    directive.Module ∷ directive.Import ∷ directive.Export ∷ directive.Code ∷ directive.Data ∷ directive.Byte ∷ directive.Word
    ∷ directive.Address ∷ directive.Space ∷ directive.Align ∷ []

-- the directive that a word is
unfoldable pub directive_named : List ℕ → Option Directive
directive_named word = find (λ d. bytes_eq (directive_word d) word) directives
