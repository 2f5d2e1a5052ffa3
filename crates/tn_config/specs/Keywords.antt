-- The words that begin the lines of a configuration.
use Rattle.std.specs.Prelude.{ℕ, List, [], ◌∷◌, Option, find, codes}
use Rattle.std.specs.Str.{bytes_eq}
use Rattle.tn_config.specs.declared.keywords.Keyword.{Keyword}
use Rattle.tn_config.specs.declared.keywords.Keyword.TheVariants as keyword

-- the word of a keyword
abbrev pub keyword_word : Keyword → List ℕ
keyword_word keyword.Processor = codes "processor"
keyword_word keyword.Host = codes "host"
keyword_word keyword.Wire = codes "wire"
keyword_word keyword.Code = codes "code"
keyword_word keyword.Data = codes "data"
keyword_word keyword.Workspace = codes "workspace"
keyword_word keyword.Module = codes "module"
keyword_word keyword.Library = codes "library"
keyword_word keyword.Entry = codes "entry"
keyword_word keyword.Arg = codes "arg"
keyword_word keyword.End = codes "end"

abbrev pub keywords : List Keyword
keywords =
    keyword.Processor ∷ keyword.Host ∷ keyword.Wire ∷ keyword.Code ∷ keyword.Data ∷ keyword.Workspace ∷ keyword.Module
    ∷ keyword.Library ∷ keyword.Entry ∷ keyword.Arg ∷ keyword.End ∷ []

-- the keyword that a word is
unfoldable pub keyword_named : List ℕ → Option Keyword
keyword_named word = find (λ k. bytes_eq (keyword_word k) word) keywords
