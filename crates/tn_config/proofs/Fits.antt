-- What a line can say: statements whose numbers lie in their ranges and whose names are tokens.
use Rattle.std.proofs.Common.{◌≡◌, ℕ, ◌<◌, ◌^◌, Bool, true, false, cond, List, [], ◌∷◌, length, get_or, take}
use Rattle.std.proofs.Common.{Some, Result, Ok, Err, refl, sym, ap, ◌∙◌, subst, arith, All}
use Rattle.std.specs.Prelude.{nat_le}
use Rattle.std.specs.Bool.{⊤}
use Rattle.std.specs.List.{list_all, slice_split, onto_first, before_first, position_or_len}
use Rattle.std.specs.Fmt.{decimal}
use Rattle.std.proofs.lemmas.Bool.Decides.{nat_tests}
use Rattle.std.proofs.lemmas.List.{get_or-take, length-take}
use Rattle.std.proofs.lemmas.List.Elements.{All-head, All-tail, All-filter}
use Rattle.std.proofs.lemmas.List.Sums.{AllPass-from_list_all, list_all-from_AllPass, fails_before_first}
use Rattle.tn_text.specs.declared.faults.Cause.{Cause}
use Rattle.tn_text.specs.declared.faults.FaultCode.TheVariants.{BadLine, NameTooLong}
use Rattle.tn_text.specs.declared.limits.TheConstants.{NAME_LIMIT}
use Rattle.tn_text.specs.Faults.{bare}
use Rattle.tn_text.specs.FileNames.{is_file_name}
use Rattle.tn_text.specs.Lines.{is_line_byte, is_ascii_line, is_blank, begins_comment, is_nonempty, tokens}
use Rattle.tn_text.specs.Names.{begins_name, continues_name, is_name_spelling, is_name_up_to, is_name}
use Rattle.tn_text.specs.Places.{name_at, file_name_at}
use Rattle.tn_text.specs.WordTexts.{word_text}
use Rattle.tn_config.specs.declared.keywords.Keyword.{Keyword}
use Rattle.tn_config.specs.declared.keywords.Keyword.TheVariants as keyword
use Rattle.tn_config.specs.declared.statements.Setting.{Setting}
use Rattle.tn_config.specs.declared.statements.Setting.TheVariants as setting
use Rattle.tn_config.specs.declared.statements.Statement.{Statement}
use Rattle.tn_config.specs.declared.statements.Statement.TheVariants as statement
use Rattle.tn_config.specs.Keywords.{keyword_word, keyword_named}
use Rattle.tn_config.specs.Places.{is_size, is_address, is_count, is_link, whole_name_at}
use Rattle.tn_config.specs.Statements.{ArgumentsSay, keyword_of, WordsSay, LineSays}
use Rattle.tn_config.specs.Spellings.{argument_tokens, statement_line}
use Rattle.tn_config.specs.Writable.{is_token_byte, is_file_token}
use Rattle.tn_config.proofs.TextLaws.{both, list_all-weaker, is_plain_byte, is_token, plain_words, plain_ascii, tokens-spaced}
use Rattle.tn_config.proofs.NumberLaws.{token, decimal-token, word-token, size_below, count_below, link_below}
use Rattle.tn_config.proofs.NumberLaws.{size-range, address-range, count-range, link-range}
use Rattle.tn_config.proofs.NumberLaws.{argument-below, size-read, address-read, count-read, link-read, argument-read}

abbrev pub SettingFits : Setting → Type 0
SettingFits (setting.Code address) = is_address address ≡ true
SettingFits (setting.Data address) = is_address address ≡ true
SettingFits (setting.Workspace wptr below above) = (is_address wptr ≡ true) × (is_count below ≡ true) × (is_count above ≡ true)
SettingFits (setting.Module file) = is_file_token file ≡ true
SettingFits (setting.Library file) = is_file_token file ≡ true
SettingFits (setting.Entry label) = is_name label ≡ true
SettingFits (setting.Arg word) = word < 2 ^ 32

abbrev pub Fits : Statement → Type 0
Fits (statement.Processor name size) = (is_name name ≡ true) × (is_size size ≡ true)
Fits (statement.Host name link) = (is_name name ≡ true) × (is_link link ≡ true)
Fits (statement.Wire one l two m) = (is_name one ≡ true) × (is_link l ≡ true) × (is_name two ≡ true) × (is_link m ≡ true)
Fits (statement.Set s) = SettingFits s
Fits statement.End = ⊤

-- ---- the tokens of a line

-- only such bytes stand in the token
abbrev HasTokenBytes : List ℕ → Type 0
HasTokenBytes word = list_all is_token_byte word ≡ true

split_bytes : (q s p : ℕ → Bool) → ((c : ℕ) → q c ≡ true → p c ≡ false → s c ≡ true) → (xs : List ℕ) → list_all q xs ≡ true
    → list_all (list_all s) (slice_split p xs) ≡ true
split_bytes q s p more [] h = refl
split_bytes q s p more (x ∷ xs) h =
    let parts = both (q x) (list_all q xs) h in at (p x) refl (slice_split p xs) parts.0 (split_bytes q s p more xs parts.1)
  where
    onto : (parts : List (List ℕ)) → s x ≡ true → list_all (list_all s) parts ≡ true → list_all (list_all s) (onto_first x parts) ≡ true
    onto [] e h = rw e refl
    onto (part ∷ parts) e h = rw e h

    at : (b : Bool) → p x ≡ b → (parts : List (List ℕ)) → q x ≡ true → list_all (list_all s) parts ≡ true
        → list_all (list_all s) (cond b ([] ∷ parts) (onto_first x parts)) ≡ true
    at true e parts f h = h
    at false e parts f h = onto parts (more x f e) h

plain_byte : (c : ℕ) → is_line_byte c ≡ true → begins_comment c ≡ false → is_plain_byte c ≡ true
plain_byte c h e = grind (arith, nat_tests)

token_byte : (c : ℕ) → is_plain_byte c ≡ true → is_blank c ≡ false → is_token_byte c ≡ true
token_byte c h e = grind (arith, nat_tests)

-- what stands before a comment
plain_before : (line : List ℕ) → list_all is_line_byte line ≡ true → list_all is_plain_byte (before_first begins_comment line) ≡ true
plain_before line h =
    list_all-from_AllPass is_plain_byte (before_first begins_comment line) (λ k d k_lt.
    let at : ℕ = position_or_len begins_comment line in
    let before : k < at = omega (arith, length-take {A = ℕ}) in
    let here : k < length line = omega (arith, length-take {A = ℕ}) in
    let same : get_or (take at line) k d ≡ get_or line k d = get_or-take at line k d before in
    subst (λ c. is_plain_byte c ≡ true) (sym same)
    (plain_byte (get_or line k d) (AllPass-from_list_all is_line_byte line h k d here) (fails_before_first begins_comment line k d before)))

tokens_bytes : (line : List ℕ) → is_ascii_line line ≡ true → All HasTokenBytes (tokens line)
unfolding is_ascii_line tokens
tokens_bytes line h =
    All-filter is_nonempty HasTokenBytes (slice_split is_blank (before_first begins_comment line))
    (AllPass-from_list_all (list_all is_token_byte) (slice_split is_blank (before_first begins_comment line))
    (split_bytes is_plain_byte is_token_byte is_blank token_byte (before_first begins_comment line) (plain_before line h)))

-- ---- what is said fits

name-valid : (token name : List ℕ) → whole_name_at token ≡ Ok name → is_name name ≡ true
unfolding whole_name_at name_at
name-valid token name e = at (is_name_up_to NAME_LIMIT token) refl e
  where
    at : (b : Bool) → is_name_up_to NAME_LIMIT token ≡ b
        → cond {A = Result (List ℕ) Cause} b (Ok token) (Err (bare (cond (is_name_spelling token) NameTooLong BadLine))) ≡ Ok name
        → is_name name ≡ true
    at true t q = let same : token ≡ name = cc in ap is_name (sym same) ∙ t
    at false t q = absurd cc

file-valid : (token file : List ℕ) → HasTokenBytes token → file_name_at token ≡ Ok file → is_file_token file ≡ true
unfolding file_name_at
file-valid token file h e = at (is_file_name token) refl e
  where
    at : (b : Bool) → is_file_name token ≡ b → cond {A = Result (List ℕ) Cause} b (Ok token) (Err (bare NameTooLong)) ≡ Ok file
        → is_file_token file ≡ true
    at true t q =
        let same : token ≡ file = cc in
        let all : is_file_token token ≡ true = rw (t, h) refl in
        ap is_file_token (sym same) ∙ all
    at false t q = absurd cc

file_said : (arguments : List (List ℕ)) (token file : List ℕ) → All HasTokenBytes arguments → arguments ≡ token ∷ []
    → file_name_at token ≡ Ok file → is_file_token file ≡ true
file_said arguments token file all are e = file-valid token file (All-head HasTokenBytes token [] (subst (All HasTokenBytes) are all)) e

arguments_fit : (arguments : List (List ℕ)) (st : Statement) → All HasTokenBytes arguments → ArgumentsSay arguments st → Fits st
unfolding ArgumentsSay
arguments_fit arguments (statement.Processor name size) all (one, two, are, a, b) = (name-valid one name a, size-range two size b)
arguments_fit arguments (statement.Host name link) all (one, two, are, a, b) = (name-valid one name a, link-range two link b)
arguments_fit arguments (statement.Wire x l y m) all (one, two, three, four, are, a, b, c, d) =
    (name-valid one x a, link-range two l b, name-valid three y c, link-range four m d)
arguments_fit arguments (statement.Set (setting.Code address)) all (one, are, a) = address-range one address a
arguments_fit arguments (statement.Set (setting.Data address)) all (one, are, a) = address-range one address a
arguments_fit arguments (statement.Set (setting.Workspace wptr below above)) all (one, two, three, are, a, b, c) =
    (address-range one wptr a, count-range two below b, count-range three above c)
arguments_fit arguments (statement.Set (setting.Module file)) all (one, are, a) = file_said arguments one file all are a
arguments_fit arguments (statement.Set (setting.Library file)) all (one, are, a) = file_said arguments one file all are a
arguments_fit arguments (statement.Set (setting.Entry label)) all (one, are, a) = name-valid one label a
arguments_fit arguments (statement.Set (setting.Arg word)) all (one, are, a) = argument-below one word a
arguments_fit arguments statement.End all are = tt

-- a line says nothing, or a statement that fits
pub data Fitting (n : ℕ) (here : List (ℕ × Statement)) : Type 0 where
  silent : here ≡ [] → Fitting n here
  telling : (s : Statement) → Fits s → here ≡ (n, s) ∷ [] → Fitting n here

pub line_fits : (n : ℕ) (line : List ℕ) (here : List (ℕ × Statement)) → LineSays n line here → Fitting n here
line_fits n line here says = at (tokens line) (tokens_bytes line says.0) says.1
  where
    at : (ws : List (List ℕ)) → All HasTokenBytes ws → WordsSay n ws here → Fitting n here
    at [] all w = silent w
    at (word ∷ ts) all (s, e, h, is) = telling s (arguments_fit ts s (All-tail HasTokenBytes word ts all) h) is

-- ---- what fits is said

name_byte : (c : ℕ) → continues_name c ≡ true → is_token_byte c ≡ true
name_byte c h = grind (arith, nat_tests)

begins_byte : (c : ℕ) → begins_name c ≡ true → is_token_byte c ≡ true
begins_byte c h = grind (arith, nat_tests)

name-token : (name : List ℕ) → is_name name ≡ true → is_token name ≡ true
unfolding is_name_spelling
name-token [] h = absurd cc
name-token (c ∷ cs) h =
    let parts = both (is_name_spelling (c ∷ cs)) (nat_le (length (c ∷ cs)) NAME_LIMIT) h in
    let bytes = both (begins_name c) (list_all continues_name cs) parts.0 in
    token (c ∷ cs) (omega arith) (rw (begins_byte c bytes.0, list_all-weaker continues_name is_token_byte name_byte cs bytes.1) refl)

file-token : (file : List ℕ) → is_file_token file ≡ true → is_token file ≡ true
file-token [] h = absurd cc
file-token (c ∷ cs) h = token (c ∷ cs) (omega arith) (both (is_file_name (c ∷ cs)) (list_all is_token_byte (c ∷ cs)) h).1

name-read : (name : List ℕ) → is_name name ≡ true → whole_name_at name ≡ Ok name
unfolding whole_name_at name_at
name-read name h = rw h refl

file-read : (file : List ℕ) → is_file_token file ≡ true → file_name_at file ≡ Ok file
unfolding file_name_at
file-read file h = let parts = both (is_file_name file) (list_all is_token_byte file) h in rw parts.0 refl

arguments_said : (st : Statement) → Fits st → ArgumentsSay (argument_tokens st) st
unfolding ArgumentsSay
arguments_said (statement.Processor name size) (a, b) = (name, decimal size, refl, name-read name a, size-read size b)
arguments_said (statement.Host name link) (a, b) = (name, decimal link, refl, name-read name a, link-read link b)
arguments_said (statement.Wire one l two m) (a, b, c, d) =
    (one, decimal l, two, decimal m, refl, name-read one a, link-read l b, name-read two c, link-read m d)
arguments_said (statement.Set (setting.Code address)) a = (word_text address, refl, address-read address a)
arguments_said (statement.Set (setting.Data address)) a = (word_text address, refl, address-read address a)
arguments_said (statement.Set (setting.Workspace wptr below above)) (a, b, c) =
    (word_text wptr, decimal below, decimal above, refl, address-read wptr a, count-read below b, count-read above c)
arguments_said (statement.Set (setting.Module file)) a = (file, refl, file-read file a)
arguments_said (statement.Set (setting.Library file)) a = (file, refl, file-read file a)
arguments_said (statement.Set (setting.Entry label)) a = (label, refl, name-read label a)
arguments_said (statement.Set (setting.Arg word)) a = (word_text word, refl, argument-read word a)
arguments_said statement.End a = refl

number-token : (n : ℕ) → n < 2 ^ 31 → is_token (decimal n) ≡ true
number-token n small = decimal-token n (omega arith)

argument-tokens : (st : Statement) → Fits st → list_all is_token (argument_tokens st) ≡ true
argument-tokens (statement.Processor name size) (a, b) = rw (name-token name a, number-token size (size_below size b)) refl
argument-tokens (statement.Host name link) (a, b) = rw (name-token name a, number-token link (link_below link b)) refl
argument-tokens (statement.Wire one l two m) (a, b, c, d) =
    rw (name-token one a, number-token l (link_below l b), name-token two c, number-token m (link_below m d)) refl
argument-tokens (statement.Set (setting.Code address)) a = rw (word-token address) refl
argument-tokens (statement.Set (setting.Data address)) a = rw (word-token address) refl
argument-tokens (statement.Set (setting.Workspace wptr below above)) (a, b, c) =
    rw (word-token wptr, number-token below (count_below below b), number-token above (count_below above c)) refl
argument-tokens (statement.Set (setting.Module file)) a = rw (file-token file a) refl
argument-tokens (statement.Set (setting.Library file)) a = rw (file-token file a) refl
argument-tokens (statement.Set (setting.Entry label)) a = rw (name-token label a) refl
argument-tokens (statement.Set (setting.Arg word)) a = rw (word-token word) refl
argument-tokens statement.End a = refl

keyword-token : (k : Keyword) → is_token (keyword_word k) ≡ true
keyword-token keyword.Processor = refl
keyword-token keyword.Host = refl
keyword-token keyword.Wire = refl
keyword-token keyword.Code = refl
keyword-token keyword.Data = refl
keyword-token keyword.Workspace = refl
keyword-token keyword.Module = refl
keyword-token keyword.Library = refl
keyword-token keyword.Entry = refl
keyword-token keyword.Arg = refl
keyword-token keyword.End = refl

keyword-named : (k : Keyword) → keyword_named (keyword_word k) ≡ Some k
unfolding keyword_named
keyword-named keyword.Processor = refl
keyword-named keyword.Host = refl
keyword-named keyword.Wire = refl
keyword-named keyword.Code = refl
keyword-named keyword.Data = refl
keyword-named keyword.Workspace = refl
keyword-named keyword.Module = refl
keyword-named keyword.Library = refl
keyword-named keyword.Entry = refl
keyword-named keyword.Arg = refl
keyword-named keyword.End = refl

line_tokens : (st : Statement) → Fits st → list_all is_token (keyword_word (keyword_of st) ∷ argument_tokens st) ≡ true
line_tokens st fits = rw (keyword-token (keyword_of st), argument-tokens st fits) refl

-- the line of a statement that fits has no comment
pub line_plain : (st : Statement) → Fits st → list_all is_plain_byte (statement_line st) ≡ true
unfolding statement_line
line_plain st fits = plain_words (keyword_word (keyword_of st)) (argument_tokens st) (line_tokens st fits)

cut_line : (st : Statement) → Fits st → tokens (statement_line st) ≡ keyword_word (keyword_of st) ∷ argument_tokens st
unfolding statement_line
cut_line st fits = tokens-spaced (keyword_word (keyword_of st)) (argument_tokens st) (line_tokens st fits)

-- and it says the statement
pub line_says : (n : ℕ) (st : Statement) → Fits st → LineSays n (statement_line st) ((n, st) ∷ [])
line_says n st fits = (
  plain_ascii (statement_line st) (line_plain st fits),
  subst (λ ws. WordsSay n ws ((n, st) ∷ [])) (sym (cut_line st fits)) (st, keyword-named (keyword_of st), arguments_said st fits, refl),
)
