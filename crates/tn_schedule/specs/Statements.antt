-- What the lines of a schedule say, and what reading the tokens behind a keyword gives.
use Rattle.std.specs.Prelude.{◌≡◌, ℕ, ◌+◌, Bool, true, false, List, [], ◌∷◌, ◌++◌, Some, Result, Ok, Err, codes, if◌then◌else◌}
use Rattle.std.specs.Str.{bytes_eq}
use Rattle.tn_text.specs.declared.faults.Cause.{Cause}
use Rattle.tn_text.specs.declared.faults.FaultCode.TheVariants.{BadLine}
use Rattle.tn_text.specs.Faults.{bare}
use Rattle.tn_text.specs.Lines.{is_ascii_line, tokens}
use Rattle.tn_text.specs.Reading.{result_then}
use Rattle.tn_network.specs.declared.picks.Pick.{Pick}
use Rattle.tn_network.specs.declared.picks.Pick.TheVariants as pick
use Rattle.tn_schedule.specs.declared.acts.Act.{Act}
use Rattle.tn_schedule.specs.declared.acts.Act.TheVariants as act
use Rattle.tn_schedule.specs.declared.keywords.Keyword.{Keyword}
use Rattle.tn_schedule.specs.declared.keywords.Keyword.TheVariants as keyword
use Rattle.tn_schedule.specs.declared.statements.Statement.{Statement}
use Rattle.tn_schedule.specs.declared.statements.Statement.TheVariants as statement
use Rattle.tn_schedule.specs.Keywords.{keyword_named}
use Rattle.tn_schedule.specs.Places.{byte_at, link_at, picks_at, place_at, flag_at, word_at, whole_name_at, IsProcessor, processor_named}

-- the tokens are so many, and each is what its place wants
abbrev pub One : {A : Type 0} → (List ℕ → Result A Cause) → List (List ℕ) → A → Type 0
One place arguments a = (token : List ℕ) × (arguments ≡ token ∷ []) × (place token ≡ Ok a)

abbrev pub Two : {A B : Type 0} → (List ℕ → Result A Cause) → (List ℕ → Result B Cause) → List (List ℕ) → A → B → Type 0
Two first second arguments a b =
    (one : List ℕ) × (two : List ℕ) × (arguments ≡ one ∷ two ∷ []) × (first one ≡ Ok a) × (second two ≡ Ok b)

abbrev pub Three : {A B C : Type 0} → (List ℕ → Result A Cause) → (List ℕ → Result B Cause) → (List ℕ → Result C Cause)
    → List (List ℕ) → A → B → C → Type 0
Three first second third arguments a b c =
    (one : List ℕ) × (two : List ℕ) × (three : List ℕ) × (arguments ≡ one ∷ two ∷ three ∷ []) × (first one ≡ Ok a)
    × (second two ≡ Ok b) × (third three ≡ Ok c)

-- a word that stands at the end of a line, or not
abbrev pub marked : List ℕ → Bool → List (List ℕ)
marked word true = word ∷ []
marked word false = []

abbrev pub OneMarked : {A : Type 0} → (List ℕ → Result A Cause) → List ℕ → List (List ℕ) → A → Bool → Type 0
OneMarked place word arguments a mark = (token : List ℕ) × (arguments ≡ token ∷ marked word mark) × (place token ≡ Ok a)

abbrev pub TwoMarked : {A B : Type 0} → (List ℕ → Result A Cause) → (List ℕ → Result B Cause) → List ℕ → List (List ℕ) → A → B → Bool
    → Type 0
TwoMarked first second word arguments a b mark =
    (one : List ℕ) × (two : List ℕ) × (arguments ≡ one ∷ two ∷ marked word mark) × (first one ≡ Ok a) × (second two ≡ Ok b)

-- what the tokens behind the keyword of a pick say
unfoldable pub PickSays : List (List ℕ) → List (List ℕ) → Pick → Type 0
PickSays names arguments pick.HostSend = arguments ≡ []
PickSays names arguments pick.HostTake = arguments ≡ []
PickSays names arguments (pick.Proc p slice clock) =
    (name : List ℕ) × TwoMarked whole_name_at word_at (codes "slice") arguments name clock slice × IsProcessor names name p
PickSays names arguments (pick.Send p l) = (name : List ℕ) × Two whole_name_at link_at arguments name l × IsProcessor names name p
PickSays names arguments (pick.Take p l) = (name : List ℕ) × Two whole_name_at link_at arguments name l × IsProcessor names name p

-- what the tokens behind the keyword say, one case for each form of a line
unfoldable pub ArgumentsSay : List (List ℕ) → List (List ℕ) → Statement → Type 0
ArgumentsSay names arguments (statement.Power byte error halt) = Three byte_at flag_at flag_at arguments byte error halt
ArgumentsSay names arguments (statement.Does (act.Pick x)) = PickSays names arguments x
ArgumentsSay names arguments (statement.Does (act.Settle most back)) = OneMarked picks_at (codes "back") arguments most back
ArgumentsSay names arguments (statement.Does act.Release) = arguments ≡ []
ArgumentsSay names arguments (statement.Does (act.Show p)) =
    (name : List ℕ) × One whole_name_at arguments name × IsProcessor names name p
ArgumentsSay names arguments (statement.Does (act.Links p)) =
    (name : List ℕ) × One whole_name_at arguments name × IsProcessor names name p
ArgumentsSay names arguments (statement.Does (act.Word p address)) =
    (name : List ℕ) × Two whole_name_at word_at arguments name address × IsProcessor names name p
ArgumentsSay names arguments (statement.Does act.Host) = arguments ≡ []
ArgumentsSay names arguments (statement.Does (act.Got place)) = One place_at arguments place
ArgumentsSay names arguments (statement.Does act.Steps) = arguments ≡ []
ArgumentsSay names arguments (statement.Does act.Same) = arguments ≡ []

-- the keyword of a statement
abbrev pub pick_keyword : Pick → Keyword
pick_keyword pick.HostSend = keyword.HostSend
pick_keyword pick.HostTake = keyword.HostTake
pick_keyword (pick.Proc p slice clock) = keyword.Step
pick_keyword (pick.Send p l) = keyword.Send
pick_keyword (pick.Take p l) = keyword.Take

abbrev pub act_keyword : Act → Keyword
act_keyword (act.Pick x) = pick_keyword x
act_keyword (act.Settle most back) = keyword.Settle
act_keyword act.Release = keyword.Release
act_keyword (act.Show p) = keyword.Show
act_keyword (act.Links p) = keyword.Links
act_keyword (act.Word p address) = keyword.Word
act_keyword act.Host = keyword.Host
act_keyword (act.Got place) = keyword.Got
act_keyword act.Steps = keyword.Steps
act_keyword act.Same = keyword.Same

abbrev pub keyword_of : Statement → Keyword
keyword_of (statement.Power byte error halt) = keyword.Power
keyword_of (statement.Does a) = act_keyword a

-- what the tokens of the line with this number say: nothing, or a statement
abbrev pub WordsSay : List (List ℕ) → ℕ → List (List ℕ) → List (ℕ × Statement) → Type 0
WordsSay names number [] said = said ≡ []
WordsSay names number (word ∷ arguments) said =
    (s : Statement) × (keyword_named word ≡ Some (keyword_of s)) × ArgumentsSay names arguments s × (said ≡ (number, s) ∷ [])

-- what the line with this number says
abbrev pub LineSays : List (List ℕ) → ℕ → List ℕ → List (ℕ × Statement) → Type 0
LineSays names number line said = (is_ascii_line line ≡ true) × WordsSay names number (tokens line) said

-- what lines say, one after the other, where n lines stand before
unfoldable pub LinesSay : List (List ℕ) → ℕ → List (List ℕ) → List (ℕ × Statement) → Type 0
LinesSay names n [] said = said ≡ []
LinesSay names n (line ∷ ls) said =
    (here : List (ℕ × Statement)) × (below : List (ℕ × Statement)) × LineSays names (n + 1) line here × LinesSay names (n + 1) ls below
    × (said ≡ here ++ below)

-- reading so many tokens, from the left
unfoldable pub none_of : Statement → List (List ℕ) → Result Statement Cause
none_of s [] = Ok s
none_of s (one ∷ others) = Err (bare BadLine)

unfoldable pub one_of : {A : Type 0} → (List ℕ → Result A Cause) → (A → Result Statement Cause) → List (List ℕ)
    → Result Statement Cause
one_of place make [] = Err (bare BadLine)
one_of place make (one ∷ []) = result_then (place one) make
one_of place make (one ∷ two ∷ others) = Err (bare BadLine)

unfoldable pub two_of : {A B : Type 0} → (List ℕ → Result A Cause) → (List ℕ → Result B Cause) → (A → B → Result Statement Cause)
    → List (List ℕ) → Result Statement Cause
two_of first second make [] = Err (bare BadLine)
two_of first second make (one ∷ []) = Err (bare BadLine)
two_of first second make (one ∷ two ∷ []) = result_then (first one) (λ a. result_then (second two) (λ b. make a b))
two_of first second make (one ∷ two ∷ three ∷ others) = Err (bare BadLine)

unfoldable pub three_of : {A B C : Type 0} → (List ℕ → Result A Cause) → (List ℕ → Result B Cause) → (List ℕ → Result C Cause)
    → (A → B → C → Result Statement Cause) → List (List ℕ) → Result Statement Cause
three_of first second third make [] = Err (bare BadLine)
three_of first second third make (one ∷ []) = Err (bare BadLine)
three_of first second third make (one ∷ two ∷ []) = Err (bare BadLine)
three_of first second third make (one ∷ two ∷ three ∷ []) =
    result_then (first one) (λ a. result_then (second two) (λ b. result_then (third three) (λ c. make a b c)))
three_of first second third make (one ∷ two ∷ three ∷ four ∷ others) = Err (bare BadLine)

-- the token is the word
unfoldable pub mark_at : List ℕ → List ℕ → Result Bool Cause
mark_at word token = if bytes_eq token word then Ok true else Err (bare BadLine)

-- reading one token or two, and then a word or nothing
abbrev pub one_or_marked : {A : Type 0} → (List ℕ → Result A Cause) → List ℕ → (A → Bool → Result Statement Cause) → List (List ℕ)
    → Result Statement Cause
one_or_marked place word make [] = Err (bare BadLine)
one_or_marked place word make (one ∷ []) = one_of place (λ a. make a false) (one ∷ [])
one_or_marked place word make (one ∷ two ∷ others) = two_of place (mark_at word) make (one ∷ two ∷ others)

abbrev pub two_or_marked : {A B : Type 0} → (List ℕ → Result A Cause) → (List ℕ → Result B Cause) → List ℕ
    → (A → B → Bool → Result Statement Cause) → List (List ℕ) → Result Statement Cause
two_or_marked first second word make [] = Err (bare BadLine)
two_or_marked first second word make (one ∷ []) = Err (bare BadLine)
two_or_marked first second word make (one ∷ two ∷ []) = two_of first second (λ a b. make a b false) (one ∷ two ∷ [])
two_or_marked first second word make (one ∷ two ∷ three ∷ others) =
    three_of first second (mark_at word) make (one ∷ two ∷ three ∷ others)

-- what is done with the processor of a name
unfoldable pub of_processor : List (List ℕ) → (ℕ → Act) → List ℕ → Result Statement Cause
of_processor names make name = result_then (processor_named names name) (λ p. Ok (statement.Does (make p)))

-- reading the tokens behind a keyword, from the left
abbrev pub power_of : List ℕ → List ℕ → List ℕ → Result Statement Cause
power_of one two three =
    result_then (byte_at one)
    (λ byte. result_then (flag_at two) (λ error. result_then (flag_at three) (λ halt. Ok (statement.Power byte error halt))))

abbrev pub step_of : List (List ℕ) → List ℕ → List ℕ → Result Statement Cause
step_of names one two =
    result_then (whole_name_at one)
    (λ name. result_then (word_at two) (λ clock. of_processor names (λ p. act.Pick (pick.Proc p false clock)) name))

abbrev pub sliced_of : List (List ℕ) → List ℕ → List ℕ → List ℕ → Result Statement Cause
sliced_of names one two three =
    result_then (whole_name_at one)
    (λ name. result_then (word_at two) (λ clock. result_then (mark_at (codes "slice") three)
    (λ slice. of_processor names (λ p. act.Pick (pick.Proc p slice clock)) name)))

abbrev pub send_of : List (List ℕ) → List ℕ → List ℕ → Result Statement Cause
send_of names one two =
    result_then (whole_name_at one) (λ name. result_then (link_at two) (λ l. of_processor names (λ p. act.Pick (pick.Send p l)) name))

abbrev pub take_of : List (List ℕ) → List ℕ → List ℕ → Result Statement Cause
take_of names one two =
    result_then (whole_name_at one) (λ name. result_then (link_at two) (λ l. of_processor names (λ p. act.Pick (pick.Take p l)) name))

abbrev pub settle_back : List ℕ → List ℕ → Result Statement Cause
settle_back one two =
    result_then (picks_at one)
    (λ most. result_then (mark_at (codes "back") two) (λ back. Ok (statement.Does (act.Settle most back))))

abbrev pub show_of : List (List ℕ) → List ℕ → Result Statement Cause
show_of names one = result_then (whole_name_at one) (λ name. of_processor names (λ p. act.Show p) name)

abbrev pub links_of : List (List ℕ) → List ℕ → Result Statement Cause
links_of names one = result_then (whole_name_at one) (λ name. of_processor names (λ p. act.Links p) name)

abbrev pub word_of : List (List ℕ) → List ℕ → List ℕ → Result Statement Cause
word_of names one two =
    result_then (whole_name_at one)
    (λ name. result_then (word_at two) (λ address. of_processor names (λ p. act.Word p address) name))

-- reading so many tokens behind each keyword
abbrev pub power : List (List ℕ) → Result Statement Cause
power arguments = three_of byte_at flag_at flag_at (λ byte error halt. Ok (statement.Power byte error halt)) arguments

abbrev pub step : List (List ℕ) → List (List ℕ) → Result Statement Cause
step names arguments =
    two_or_marked whole_name_at word_at (codes "slice")
    (λ name clock slice. of_processor names (λ p. act.Pick (pick.Proc p slice clock)) name) arguments

abbrev pub send : List (List ℕ) → List (List ℕ) → Result Statement Cause
send names arguments = two_of whole_name_at link_at (λ name l. of_processor names (λ p. act.Pick (pick.Send p l)) name) arguments

abbrev pub take : List (List ℕ) → List (List ℕ) → Result Statement Cause
take names arguments = two_of whole_name_at link_at (λ name l. of_processor names (λ p. act.Pick (pick.Take p l)) name) arguments

abbrev pub settle : List (List ℕ) → Result Statement Cause
settle arguments = one_or_marked picks_at (codes "back") (λ most back. Ok (statement.Does (act.Settle most back))) arguments

abbrev pub show : List (List ℕ) → List (List ℕ) → Result Statement Cause
show names arguments = one_of whole_name_at (λ name. of_processor names (λ p. act.Show p) name) arguments

abbrev pub links : List (List ℕ) → List (List ℕ) → Result Statement Cause
links names arguments = one_of whole_name_at (λ name. of_processor names (λ p. act.Links p) name) arguments

abbrev pub word : List (List ℕ) → List (List ℕ) → Result Statement Cause
word names arguments = two_of whole_name_at word_at (λ name address. of_processor names (λ p. act.Word p address) name) arguments

abbrev pub got : List (List ℕ) → Result Statement Cause
got arguments = one_of place_at (λ place. Ok (statement.Does (act.Got place))) arguments

unfoldable pub statement_said : List (List ℕ) → Keyword → List (List ℕ) → Result Statement Cause
statement_said names keyword.Power arguments = power arguments
statement_said names keyword.Step arguments = step names arguments
statement_said names keyword.Send arguments = send names arguments
statement_said names keyword.Take arguments = take names arguments
statement_said names keyword.HostSend arguments = none_of (statement.Does (act.Pick pick.HostSend)) arguments
statement_said names keyword.HostTake arguments = none_of (statement.Does (act.Pick pick.HostTake)) arguments
statement_said names keyword.Settle arguments = settle arguments
statement_said names keyword.Release arguments = none_of (statement.Does act.Release) arguments
statement_said names keyword.Show arguments = show names arguments
statement_said names keyword.Links arguments = links names arguments
statement_said names keyword.Word arguments = word names arguments
statement_said names keyword.Host arguments = none_of (statement.Does act.Host) arguments
statement_said names keyword.Got arguments = got arguments
statement_said names keyword.Steps arguments = none_of (statement.Does act.Steps) arguments
statement_said names keyword.Same arguments = none_of (statement.Does act.Same) arguments
