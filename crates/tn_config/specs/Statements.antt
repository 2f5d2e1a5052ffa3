-- What the lines of a configuration say, and what reading the tokens behind a keyword gives.
use Rattle.std.specs.Prelude.{◌≡◌, ℕ, ◌+◌, true, List, [], ◌∷◌, ◌++◌, Some, Result, Ok, Err}
use Rattle.tn_text.specs.declared.faults.Cause.{Cause}
use Rattle.tn_text.specs.declared.faults.FaultCode.TheVariants.{BadLine}
use Rattle.tn_text.specs.Faults.{bare}
use Rattle.tn_text.specs.Lines.{is_ascii_line, tokens}
use Rattle.tn_text.specs.Places.{file_name_at}
use Rattle.tn_text.specs.Reading.{result_then}
use Rattle.tn_config.specs.declared.keywords.Keyword.{Keyword}
use Rattle.tn_config.specs.declared.keywords.Keyword.TheVariants as keyword
use Rattle.tn_config.specs.declared.statements.Setting.{Setting}
use Rattle.tn_config.specs.declared.statements.Setting.TheVariants as setting
use Rattle.tn_config.specs.declared.statements.Statement.{Statement}
use Rattle.tn_config.specs.declared.statements.Statement.TheVariants as statement
use Rattle.tn_config.specs.Keywords.{keyword_named}
use Rattle.tn_config.specs.Places.{size_at, address_at, count_at, link_at, argument_at, whole_name_at}

-- the tokens are so many, and each is what its place wants
abbrev pub One : {A : Type 0} → (List ℕ → Result A Cause) → List (List ℕ) → A → Type 0
One place arguments a = (token : List ℕ) × (arguments ≡ token ∷ []) × (place token ≡ Ok a)

abbrev pub Two : {A B : Type 0} → (List ℕ → Result A Cause) → (List ℕ → Result B Cause) → List (List ℕ) → A → B → Type 0
Two first second arguments a b =
    (one : List ℕ) × (two : List ℕ) × (arguments ≡ one ∷ two ∷ []) × (first one ≡ Ok a) × (second two ≡ Ok b)

abbrev pub Three : {A B C : Type 0} → (List ℕ → Result A Cause) → (List ℕ → Result B Cause) → (List ℕ → Result C Cause)
    → List (List ℕ) → A → B → C → Type 0
Three first second third arguments a b c =
    (one : List ℕ) × (two : List ℕ) × (three : List ℕ) × (arguments ≡ one ∷ two ∷ three ∷ []) × (first one ≡ Ok a)
    × (second two ≡ Ok b) × (third three ≡ Ok c)

abbrev pub Four : {A B C D : Type 0} → (List ℕ → Result A Cause) → (List ℕ → Result B Cause) → (List ℕ → Result C Cause)
    → (List ℕ → Result D Cause) → List (List ℕ) → A → B → C → D → Type 0
Four first second third fourth arguments a b c d =
    (one : List ℕ) × (two : List ℕ) × (three : List ℕ) × (four : List ℕ) × (arguments ≡ one ∷ two ∷ three ∷ four ∷ [])
    × (first one ≡ Ok a) × (second two ≡ Ok b) × (third three ≡ Ok c) × (fourth four ≡ Ok d)

-- what the tokens behind the keyword say, one case for each form of a line
unfoldable pub ArgumentsSay : List (List ℕ) → Statement → Type 0
ArgumentsSay arguments (statement.Processor name size) = Two whole_name_at size_at arguments name size
ArgumentsSay arguments (statement.Host name link) = Two whole_name_at link_at arguments name link
ArgumentsSay arguments (statement.Wire one l two m) = Four whole_name_at link_at whole_name_at link_at arguments one l two m
ArgumentsSay arguments (statement.Set (setting.Code address)) = One address_at arguments address
ArgumentsSay arguments (statement.Set (setting.Data address)) = One address_at arguments address
ArgumentsSay arguments (statement.Set (setting.Workspace wptr below above)) =
    Three address_at count_at count_at arguments wptr below above
ArgumentsSay arguments (statement.Set (setting.Module file)) = One file_name_at arguments file
ArgumentsSay arguments (statement.Set (setting.Library file)) = One file_name_at arguments file
ArgumentsSay arguments (statement.Set (setting.Entry label)) = One whole_name_at arguments label
ArgumentsSay arguments (statement.Set (setting.Arg word)) = One argument_at arguments word
ArgumentsSay arguments statement.End = arguments ≡ []

-- the keyword of a statement
abbrev pub setting_keyword : Setting → Keyword
setting_keyword (setting.Code address) = keyword.Code
setting_keyword (setting.Data address) = keyword.Data
setting_keyword (setting.Workspace wptr below above) = keyword.Workspace
setting_keyword (setting.Module file) = keyword.Module
setting_keyword (setting.Library file) = keyword.Library
setting_keyword (setting.Entry label) = keyword.Entry
setting_keyword (setting.Arg word) = keyword.Arg

abbrev pub keyword_of : Statement → Keyword
keyword_of (statement.Processor name size) = keyword.Processor
keyword_of (statement.Host name link) = keyword.Host
keyword_of (statement.Wire one l two m) = keyword.Wire
keyword_of (statement.Set s) = setting_keyword s
keyword_of statement.End = keyword.End

-- what the tokens of the line with this number say: nothing, or a statement
abbrev pub WordsSay : ℕ → List (List ℕ) → List (ℕ × Statement) → Type 0
WordsSay number [] said = said ≡ []
WordsSay number (word ∷ arguments) said =
    (s : Statement) × (keyword_named word ≡ Some (keyword_of s)) × ArgumentsSay arguments s × (said ≡ (number, s) ∷ [])

-- what the line with this number says
abbrev pub LineSays : ℕ → List ℕ → List (ℕ × Statement) → Type 0
LineSays number line said = (is_ascii_line line ≡ true) × WordsSay number (tokens line) said

-- what lines say, one after the other, where n lines stand before
unfoldable pub LinesSay : ℕ → List (List ℕ) → List (ℕ × Statement) → Type 0
LinesSay n [] said = said ≡ []
LinesSay n (line ∷ ls) said =
    (here : List (ℕ × Statement)) × (below : List (ℕ × Statement)) × LineSays (n + 1) line here × LinesSay (n + 1) ls below
    × (said ≡ here ++ below)

-- reading so many tokens, from the left
unfoldable pub none_of : Statement → List (List ℕ) → Result Statement Cause
none_of s [] = Ok s
none_of s (one ∷ others) = Err (bare BadLine)

unfoldable pub one_of : {A : Type 0} → (List ℕ → Result A Cause) → (A → Statement) → List (List ℕ) → Result Statement Cause
one_of place make [] = Err (bare BadLine)
one_of place make (one ∷ []) = result_then (place one) (λ a. Ok (make a))
one_of place make (one ∷ two ∷ others) = Err (bare BadLine)

unfoldable pub two_of : {A B : Type 0} → (List ℕ → Result A Cause) → (List ℕ → Result B Cause) → (A → B → Statement)
    → List (List ℕ) → Result Statement Cause
two_of first second make [] = Err (bare BadLine)
two_of first second make (one ∷ []) = Err (bare BadLine)
two_of first second make (one ∷ two ∷ []) = result_then (first one) (λ a. result_then (second two) (λ b. Ok (make a b)))
two_of first second make (one ∷ two ∷ three ∷ others) = Err (bare BadLine)

unfoldable pub three_of : {A B C : Type 0} → (List ℕ → Result A Cause) → (List ℕ → Result B Cause) → (List ℕ → Result C Cause)
    → (A → B → C → Statement) → List (List ℕ) → Result Statement Cause
three_of first second third make [] = Err (bare BadLine)
three_of first second third make (one ∷ []) = Err (bare BadLine)
three_of first second third make (one ∷ two ∷ []) = Err (bare BadLine)
three_of first second third make (one ∷ two ∷ three ∷ []) =
    result_then (first one) (λ a. result_then (second two) (λ b. result_then (third three) (λ c. Ok (make a b c))))
three_of first second third make (one ∷ two ∷ three ∷ four ∷ others) = Err (bare BadLine)

unfoldable pub four_of : {A B C D : Type 0} → (List ℕ → Result A Cause) → (List ℕ → Result B Cause) → (List ℕ → Result C Cause)
    → (List ℕ → Result D Cause) → (A → B → C → D → Statement) → List (List ℕ) → Result Statement Cause
four_of first second third fourth make [] = Err (bare BadLine)
four_of first second third fourth make (one ∷ []) = Err (bare BadLine)
four_of first second third fourth make (one ∷ two ∷ []) = Err (bare BadLine)
four_of first second third fourth make (one ∷ two ∷ three ∷ []) = Err (bare BadLine)
four_of first second third fourth make (one ∷ two ∷ three ∷ four ∷ []) =
    result_then (first one)
    (λ a. result_then (second two) (λ b. result_then (third three) (λ c. result_then (fourth four) (λ d. Ok (make a b c d)))))
four_of first second third fourth make (one ∷ two ∷ three ∷ four ∷ five ∷ others) = Err (bare BadLine)

-- reading the tokens behind each keyword, of which there are more than one
abbrev pub processor_of : List ℕ → List ℕ → Result Statement Cause
processor_of one two = result_then (whole_name_at one) (λ a. result_then (size_at two) (λ b. Ok (statement.Processor a b)))

abbrev pub host_of : List ℕ → List ℕ → Result Statement Cause
host_of one two = result_then (whole_name_at one) (λ a. result_then (link_at two) (λ b. Ok (statement.Host a b)))

abbrev pub wire_of : List ℕ → List ℕ → List ℕ → List ℕ → Result Statement Cause
wire_of one two three four =
    result_then (whole_name_at one) (λ a. result_then (link_at two)
    (λ b. result_then (whole_name_at three) (λ c. result_then (link_at four) (λ d. Ok (statement.Wire a b c d)))))

abbrev pub workspace_of : List ℕ → List ℕ → List ℕ → Result Statement Cause
workspace_of one two three =
    result_then (address_at one)
    (λ a. result_then (count_at two) (λ b. result_then (count_at three) (λ c. Ok (statement.Set (setting.Workspace a b c)))))

-- reading the tokens behind each keyword
abbrev pub processor : List (List ℕ) → Result Statement Cause
processor arguments = two_of whole_name_at size_at (λ name size. statement.Processor name size) arguments

abbrev pub host : List (List ℕ) → Result Statement Cause
host arguments = two_of whole_name_at link_at (λ name link. statement.Host name link) arguments

abbrev pub wire : List (List ℕ) → Result Statement Cause
wire arguments = four_of whole_name_at link_at whole_name_at link_at (λ one l two m. statement.Wire one l two m) arguments

abbrev pub code : List (List ℕ) → Result Statement Cause
code arguments = one_of address_at (λ address. statement.Set (setting.Code address)) arguments

abbrev pub data_address : List (List ℕ) → Result Statement Cause
data_address arguments = one_of address_at (λ address. statement.Set (setting.Data address)) arguments

abbrev pub workspace : List (List ℕ) → Result Statement Cause
workspace arguments =
    three_of address_at count_at count_at (λ wptr below above. statement.Set (setting.Workspace wptr below above)) arguments

abbrev pub module_file : List (List ℕ) → Result Statement Cause
module_file arguments = one_of file_name_at (λ file. statement.Set (setting.Module file)) arguments

abbrev pub library_file : List (List ℕ) → Result Statement Cause
library_file arguments = one_of file_name_at (λ file. statement.Set (setting.Library file)) arguments

abbrev pub entry : List (List ℕ) → Result Statement Cause
entry arguments = one_of whole_name_at (λ label. statement.Set (setting.Entry label)) arguments

abbrev pub argument : List (List ℕ) → Result Statement Cause
argument arguments = one_of argument_at (λ word. statement.Set (setting.Arg word)) arguments

abbrev pub end : List (List ℕ) → Result Statement Cause
end arguments = none_of statement.End arguments

unfoldable pub statement_said : Keyword → List (List ℕ) → Result Statement Cause
statement_said keyword.Processor arguments = processor arguments
statement_said keyword.Host arguments = host arguments
statement_said keyword.Wire arguments = wire arguments
statement_said keyword.Code arguments = code arguments
statement_said keyword.Data arguments = data_address arguments
statement_said keyword.Workspace arguments = workspace arguments
statement_said keyword.Module arguments = module_file arguments
statement_said keyword.Library arguments = library_file arguments
statement_said keyword.Entry arguments = entry arguments
statement_said keyword.Arg arguments = argument arguments
statement_said keyword.End arguments = end arguments
