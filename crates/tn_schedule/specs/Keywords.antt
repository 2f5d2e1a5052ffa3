-- The words that begin the lines of a schedule.
use Rattle.std.specs.Prelude.{ℕ, List, [], ◌∷◌, Option, find, codes}
use Rattle.std.specs.Str.{bytes_eq}
use Rattle.tn_schedule.specs.declared.keywords.Keyword.{Keyword}
use Rattle.tn_schedule.specs.declared.keywords.Keyword.TheVariants as keyword

-- the word of a keyword
abbrev pub keyword_word : Keyword → List ℕ
keyword_word keyword.Power = codes "power"
keyword_word keyword.Step = codes "p"
keyword_word keyword.Send = codes "s"
keyword_word keyword.Take = codes "t"
keyword_word keyword.HostSend = codes "hs"
keyword_word keyword.HostTake = codes "ht"
keyword_word keyword.Settle = codes "settle"
keyword_word keyword.Release = codes "release"
keyword_word keyword.Show = codes "show"
keyword_word keyword.Links = codes "links"
keyword_word keyword.Word = codes "word"
keyword_word keyword.Host = codes "host"
keyword_word keyword.Got = codes "got"
keyword_word keyword.Steps = codes "steps"
keyword_word keyword.Same = codes "same"

abbrev pub keywords : List Keyword
keywords =
    keyword.Power ∷ keyword.Step ∷ keyword.Send ∷ keyword.Take ∷ keyword.HostSend ∷ keyword.HostTake ∷ keyword.Settle
    ∷ keyword.Release ∷ keyword.Show ∷ keyword.Links ∷ keyword.Word ∷ keyword.Host ∷ keyword.Got ∷ keyword.Steps ∷ keyword.Same ∷ []

-- the keyword that a word is
unfoldable pub keyword_named : List ℕ → Option Keyword
keyword_named word = find (λ k. bytes_eq (keyword_word k) word) keywords
