-- The tokens behind a keyword say a statement, which is read, or something is wrong with them, and
-- they are refused.
use Rattle.std.proofs.Common.{◌≡◌, ℕ, suc, ◌⊎◌, inl, inr, Bool, true, false, List, [], ◌∷◌, length, Option, Some, None}
use Rattle.std.proofs.Common.{Result, Ok, Err, refl, sym, ap, ◌∙◌, arith, cond}
use Rattle.std.specs.Bool.{◌==◌}
use Rattle.std.specs.Prelude.{codes, position, ◌||◌}
use Rattle.std.specs.Str.{bytes_eq}
use Rattle.std.proofs.lemmas.Bool.Decides.{nat_tests}
use Rattle.std.proofs.lemmas.Slice.Eq.{bytes_eq-Decides}
use Rattle.tn_text.specs.declared.faults.Cause.{Cause}
use Rattle.tn_text.specs.declared.faults.FaultCode.TheVariants.{BadLine, NameTooLong}
use Rattle.tn_text.specs.declared.limits.TheConstants.{NAME_LIMIT}
use Rattle.tn_text.specs.Faults.{bare}
use Rattle.tn_text.specs.Names.{is_name_spelling, is_name_up_to}
use Rattle.tn_text.specs.Places.{name_at}
use Rattle.tn_text.specs.Reading.{result_then}
use Rattle.tn_network.specs.declared.picks.Pick.TheVariants as pick
use Rattle.tn_schedule.specs.declared.acts.Act.{Act}
use Rattle.tn_schedule.specs.declared.acts.Act.TheVariants as act
use Rattle.tn_schedule.specs.declared.keywords.Keyword.{Keyword}
use Rattle.tn_schedule.specs.declared.keywords.Keyword.TheVariants as keyword
use Rattle.tn_schedule.specs.declared.statements.Statement.{Statement}
use Rattle.tn_schedule.specs.declared.statements.Statement.TheVariants as statement
use Rattle.tn_schedule.specs.Places.{byte_at, link_at, picks_at, place_at, flag_at, word_at, whole_name_at, IsProcessor, processor_named}
use Rattle.tn_schedule.specs.Places.{unknown, or_unknown}
use Rattle.tn_schedule.specs.Statements.{One, Two, Three, TwoMarked, PickSays, ArgumentsSay, keyword_of, none_of, one_of}
use Rattle.tn_schedule.specs.Statements.{two_of, three_of, mark_at, of_processor, statement_said}
use Rattle.tn_schedule.specs.ScheduleFaults.{refusal, not_word, has_count, places, names_processor, first_refusal, or_else, unknown_in}
use Rattle.tn_schedule.specs.ScheduleFaults.{arguments_cause}

pub record GoodArguments (names : List (List ℕ)) (k : Keyword) (ts : List (List ℕ)) : Type 0 where
  pub s : Statement
  pub says : ArgumentsSay names ts s
  pub kind : keyword_of s ≡ k
  pub read : statement_said names k ts ≡ Ok s
  pub fine : arguments_cause names k ts ≡ None

pub record WrongArguments (names : List (List ℕ)) (k : Keyword) (ts : List (List ℕ)) : Type 0 where
  pub cause : Cause
  pub read : statement_said names k ts ≡ Err cause
  pub wrong : arguments_cause names k ts ≡ Some cause

-- the same of what a last step makes, where each token is what its place wants
record Takes (names : List (List ℕ)) (k : Keyword) (ts : List (List ℕ)) (r : Result Statement Cause) : Type 0 where
  s : Statement
  says : ArgumentsSay names ts s
  kind : keyword_of s ≡ k
  is : r ≡ Ok s
  fine : unknown_in names (names_processor k) ts ≡ None

record Refuses (names : List (List ℕ)) (k : Keyword) (ts : List (List ℕ)) (r : Result Statement Cause) : Type 0 where
  cause : Cause
  is : r ≡ Err cause
  wrong : unknown_in names (names_processor k) ts ≡ Some cause

past_none : (n : ℕ) → (suc n == 0) ≡ false
past_none n = grind (arith, nat_tests)

past_one : (n : ℕ) → (suc (suc n) == 1) ≡ false
past_one n = grind (arith, nat_tests)

past_two : (n : ℕ) → (suc (suc (suc n)) == 2) ≡ false
past_two n = grind (arith, nat_tests)

past_three : (n : ℕ) → (suc (suc (suc (suc n))) == 3) ≡ false
past_three n = grind (arith, nat_tests)

module _ (names : List (List ℕ)) (k : Keyword) (ts : List (List ℕ)) where
  abbrev Ruled : Type 0
  Ruled = GoodArguments names k ts ⊎ WrongArguments names k ts

  -- tokens of a number that may not stand there
  miscounted : statement_said names k ts ≡ Err (bare BadLine) → has_count k (length ts) ≡ false → Ruled
  miscounted read e = inr (record { cause = bare BadLine; read = read; wrong = rw e refl })

  module _ (many : has_count k (length ts) ≡ true) where
    -- a token that its place does not want
    unwanted : (cause : Cause) → statement_said names k ts ≡ Err cause → first_refusal (places k) ts ≡ Some cause → Ruled
    unwanted cause read e = inr (record { cause = cause; read = read; wrong = rw (many, e) refl })

    -- tokens that their places want
    wanted : (r : Result Statement Cause) → statement_said names k ts ≡ r → first_refusal (places k) ts ≡ None
        → Takes names k ts r ⊎ Refuses names k ts r → Ruled
    wanted r read e (inl t) =
        inl (record { s = t.s; says = t.says; kind = t.kind; read = read ∙ t.is; fine = rw (many, e) t.fine })
    wanted r read e (inr t) = inr (record { cause = t.cause; read = read ∙ t.is; wrong = rw (many, e) t.wrong })

-- the places of tokens that are read so
abbrev one_place : {A : Type 0} → (List ℕ → Result A Cause) → List (List ℕ → Option Cause)
one_place p = (λ t. refusal (p t)) ∷ []

abbrev two_places : {A B : Type 0} → (List ℕ → Result A Cause) → (List ℕ → Result B Cause) → List (List ℕ → Option Cause)
two_places p q = (λ t. refusal (p t)) ∷ one_place q

abbrev three_places : {A B C : Type 0} → (List ℕ → Result A Cause) → (List ℕ → Result B Cause) → (List ℕ → Result C Cause)
    → List (List ℕ → Option Cause)
three_places p q r = (λ t. refusal (p t)) ∷ two_places q r

-- no token is read
none_read : (names : List (List ℕ)) (k : Keyword) (s : Statement) (ts : List (List ℕ))
    → statement_said names k ts ≡ none_of s ts → places k ≡ [] → has_count k (length ts) ≡ (length ts == 0)
    → names_processor k ≡ false → (ts ≡ [] → ArgumentsSay names ts s) → keyword_of s ≡ k
    → GoodArguments names k ts ⊎ WrongArguments names k ts
unfolding none_of
none_read names k s [] is are many b says kind =
    wanted names k [] many (Ok s) is (ap (λ ps. first_refusal ps []) are)
    (inl (record { s = s; says = says refl; kind = kind; is = refl; fine = refl }))
none_read names k s (t ∷ ts) is are many b says kind = miscounted names k (t ∷ ts) is (many ∙ past_none (length ts))

-- one token is read
one_token : {A : Type 0} (names : List (List ℕ)) (k : Keyword) (p : List ℕ → Result A Cause) (make : A → Result Statement Cause)
    (t : List ℕ) → statement_said names k (t ∷ []) ≡ one_of p make (t ∷ []) → first_refusal (places k) (t ∷ []) ≡ first_refusal
    (one_place p) (t ∷ []) → has_count k 1 ≡ true
    → ((a : A) → One p (t ∷ []) a → Takes names k (t ∷ []) (make a) ⊎ Refuses names k (t ∷ []) (make a))
    → GoodArguments names k (t ∷ []) ⊎ WrongArguments names k (t ∷ [])
unfolding one_of
one_token {A} names k p make t is are many ends = at (p t) refl
  where
    at : (r : Result A Cause) → p t ≡ r → GoodArguments names k (t ∷ []) ⊎ WrongArguments names k (t ∷ [])
    at (Ok a) e = wanted names k (t ∷ []) many (make a) (is ∙ rw e refl) (are ∙ rw e refl) (ends a (t, refl, e))
    at (Err cause) e = unwanted names k (t ∷ []) many cause (is ∙ rw e refl) (are ∙ rw e refl)

-- two are
two_tokens : {A B : Type 0} (names : List (List ℕ)) (k : Keyword) (p : List ℕ → Result A Cause) (q : List ℕ → Result B Cause)
    (make : A → B → Result Statement Cause) (t u : List ℕ) → statement_said names k (t ∷ u ∷ []) ≡ two_of p q make (t ∷ u ∷ [])
    → first_refusal (places k) (t ∷ u ∷ []) ≡ first_refusal (two_places p q) (t ∷ u ∷ []) → has_count k 2 ≡ true
    → ((a : A) (b : B) → Two p q (t ∷ u ∷ []) a b → Takes names k (t ∷ u ∷ []) (make a b) ⊎ Refuses names k (t ∷ u ∷ []) (make a b))
    → GoodArguments names k (t ∷ u ∷ []) ⊎ WrongArguments names k (t ∷ u ∷ [])
unfolding two_of
two_tokens {A} {B} names k p q make t u is are many ends = at (p t) refl (q u) refl
  where
    at : (x : Result A Cause) → p t ≡ x → (y : Result B Cause) → q u ≡ y
        → GoodArguments names k (t ∷ u ∷ []) ⊎ WrongArguments names k (t ∷ u ∷ [])
    at (Ok a) e (Ok b) f =
        wanted names k (t ∷ u ∷ []) many (make a b) (is ∙ rw (e, f) refl) (are ∙ rw (e, f) refl) (ends a b (t, u, refl, e, f))
    at (Ok a) e (Err cause) f = unwanted names k (t ∷ u ∷ []) many cause (is ∙ rw (e, f) refl) (are ∙ rw (e, f) refl)
    at (Err cause) e y f = unwanted names k (t ∷ u ∷ []) many cause (is ∙ rw e refl) (are ∙ rw e refl)

-- three are
three_tokens : {A B C : Type 0} (names : List (List ℕ)) (k : Keyword) (p : List ℕ → Result A Cause) (q : List ℕ → Result B Cause)
    (r : List ℕ → Result C Cause) (make : A → B → C → Result Statement Cause) (t u v : List ℕ)
    → statement_said names k (t ∷ u ∷ v ∷ []) ≡ three_of p q r make (t ∷ u ∷ v ∷ [])
    → first_refusal (places k) (t ∷ u ∷ v ∷ []) ≡ first_refusal (three_places p q r) (t ∷ u ∷ v ∷ []) → has_count k 3 ≡ true
    → ((a : A) (b : B) (c : C) → Three p q r (t ∷ u ∷ v ∷ []) a b c → Takes names k (t ∷ u ∷ v ∷ []) (make a b c) ⊎ Refuses names k
    (t ∷ u ∷ v ∷ []) (make a b c)) → GoodArguments names k (t ∷ u ∷ v ∷ []) ⊎ WrongArguments names k (t ∷ u ∷ v ∷ [])
unfolding three_of
three_tokens {A} {B} {C} names k p q r make t u v is are many ends = at (p t) refl (q u) refl (r v) refl
  where
    no : (cause : Cause) → three_of p q r make (t ∷ u ∷ v ∷ []) ≡ Err cause
        → first_refusal (three_places p q r) (t ∷ u ∷ v ∷ []) ≡ Some cause
        → GoodArguments names k (t ∷ u ∷ v ∷ []) ⊎ WrongArguments names k (t ∷ u ∷ v ∷ [])
    no cause e w = unwanted names k (t ∷ u ∷ v ∷ []) many cause (is ∙ e) (are ∙ w)

    at : (x : Result A Cause) → p t ≡ x → (y : Result B Cause) → q u ≡ y → (z : Result C Cause) → r v ≡ z
        → GoodArguments names k (t ∷ u ∷ v ∷ []) ⊎ WrongArguments names k (t ∷ u ∷ v ∷ [])
    at (Ok a) e (Ok b) f (Ok c) g =
        wanted names k (t ∷ u ∷ v ∷ []) many (make a b c) (is ∙ rw (e, f, g) refl) (are ∙ rw (e, f, g) refl)
        (ends a b c (t, u, v, refl, e, f, g))
    at (Ok a) e (Ok b) f (Err cause) g = no cause (rw (e, f, g) refl) (rw (e, f, g) refl)
    at (Ok a) e (Err cause) f z g = no cause (rw (e, f) refl) (rw (e, f) refl)
    at (Err cause) e y f z g = no cause (rw e refl) (rw e refl)

-- the token of a mark is the word
mark_is : (word token : List ℕ) (b : Bool) → mark_at word token ≡ Ok b → (token ≡ word) × (b ≡ true)
unfolding mark_at
mark_is word token b e = at (bytes_eq token word) refl e
  where
    at : (c : Bool) → bytes_eq token word ≡ c → cond {A = Result Bool Cause} c (Ok true) (Err (bare BadLine)) ≡ Ok b
        → (token ≡ word) × (b ≡ true)
    at true q f = let same : true ≡ b = cc in ((bytes_eq-Decides token word).0 q, sym same)
    at false q f = absurd cc

mark_same : (word : List ℕ) → mark_at word word ≡ Ok true
unfolding mark_at
mark_same word = rw ((bytes_eq-Decides word word).1 refl) refl

-- why a mark is refused
mark_refusal : (word token : List ℕ) → refusal (mark_at word token) ≡ not_word word token
unfolding mark_at
mark_refusal word token = at (bytes_eq token word) refl
  where
    at : (c : Bool) → bytes_eq token word ≡ c → refusal (mark_at word token) ≡ not_word word token
    at true q = rw q refl
    at false q = rw q refl

-- a name is its token
name_same : (token name : List ℕ) → whole_name_at token ≡ Ok name → name ≡ token
unfolding whole_name_at name_at
name_same token name e = at (is_name_up_to NAME_LIMIT token) e
  where
    at : (b : Bool)
        → cond {A = Result (List ℕ) Cause} b (Ok token) (Err (bare (cond (is_name_spelling token) NameTooLong BadLine))) ≡ Ok name
        → name ≡ token
    at true q = let same : token ≡ name = cc in sym same
    at false q = absurd cc

-- where the keyword names no processor, nothing more is wrong
no_processor : (names : List (List ℕ)) (k : Keyword) (ts : List (List ℕ)) → names_processor k ≡ false
    → unknown_in names (names_processor k) ts ≡ None
no_processor names k [] e = refl
no_processor names k (t ∷ ts) e = rw e refl

-- what is done with the processor that the first token names
processor_ends : (names : List (List ℕ)) (k : Keyword) (t : List ℕ) (ts : List (List ℕ)) (make : ℕ → Act) (name : List ℕ)
    → whole_name_at t ≡ Ok name → names_processor k ≡ true
    → ((p : ℕ) → IsProcessor names name p → ArgumentsSay names (t ∷ ts) (statement.Does (make p)))
    → ((p : ℕ) → keyword_of (statement.Does (make p)) ≡ k)
    → Takes names k (t ∷ ts) (of_processor names make name) ⊎ Refuses names k (t ∷ ts) (of_processor names make name)
unfolding of_processor processor_named
processor_ends names k t ts make name e b says kind = at (position (λ n. bytes_eq n name) names) refl
  where
    named : (o : Option ℕ) → position (λ n. bytes_eq n name) names ≡ o → processor_named names name ≡ or_unknown name o
    named o q = ap (or_unknown name) q

    told : (c : Option Cause) → refusal (processor_named names name) ≡ c → unknown_in names (names_processor k) (t ∷ ts) ≡ c
    told c q =
        ap (λ b. unknown_in names b (t ∷ ts)) b ∙ (ap (λ n. refusal (processor_named names n)) (sym (name_same t name e)) ∙ q)

    at : (o : Option ℕ) → position (λ n. bytes_eq n name) names ≡ o
        → Takes names k (t ∷ ts) (of_processor names make name) ⊎ Refuses names k (t ∷ ts) (of_processor names make name)
    at (Some p) q =
        inl (record {
          s = statement.Does (make p);
          says = says p q;
          kind = kind p;
          is = ap (λ r. result_then r (λ p. Ok (statement.Does (make p)))) (named (Some p) q);
          fine = told None (ap refusal (named (Some p) q));
        })
    at None q =
        inr (record {
          cause = unknown name;
          is = ap (λ r. result_then r (λ p. Ok (statement.Does (make p)))) (named None q);
          wrong = told (Some (unknown name)) (ap refusal (named None q));
        })

-- exactly one token, and exactly two
one_all : {A : Type 0} (names : List (List ℕ)) (k : Keyword) (p : List ℕ → Result A Cause) (make : A → Result Statement Cause)
    → ((ts : List (List ℕ)) → statement_said names k ts ≡ one_of p make ts) → ((n : ℕ) → has_count k n ≡ (n == 1))
    → places k ≡ one_place p → (ts : List (List ℕ))
    → ((a : A) → One p ts a → Takes names k ts (make a) ⊎ Refuses names k ts (make a))
    → GoodArguments names k ts ⊎ WrongArguments names k ts
unfolding one_of
one_all names k p make is many are [] ends = miscounted names k [] (is []) (many 0)
one_all names k p make is many are (t ∷ []) ends =
    one_token names k p make t (is (t ∷ [])) (ap (λ ps. first_refusal ps (t ∷ [])) are) (many 1) ends
one_all names k p make is many are (t ∷ u ∷ ts) ends =
    miscounted names k (t ∷ u ∷ ts) (is (t ∷ u ∷ ts)) (many (suc (suc (length ts))) ∙ past_one (length ts))

two_all : {A B : Type 0} (names : List (List ℕ)) (k : Keyword) (p : List ℕ → Result A Cause) (q : List ℕ → Result B Cause)
    (make : A → B → Result Statement Cause) → ((ts : List (List ℕ)) → statement_said names k ts ≡ two_of p q make ts)
    → ((n : ℕ) → has_count k n ≡ (n == 2)) → places k ≡ two_places p q → (ts : List (List ℕ))
    → ((a : A) (b : B) → Two p q ts a b → Takes names k ts (make a b) ⊎ Refuses names k ts (make a b))
    → GoodArguments names k ts ⊎ WrongArguments names k ts
unfolding two_of
two_all names k p q make is many are [] ends = miscounted names k [] (is []) (many 0)
two_all names k p q make is many are (t ∷ []) ends = miscounted names k (t ∷ []) (is (t ∷ [])) (many 1)
two_all names k p q make is many are (t ∷ u ∷ []) ends =
    two_tokens names k p q make t u (is (t ∷ u ∷ [])) (ap (λ ps. first_refusal ps (t ∷ u ∷ [])) are) (many 2) ends
two_all names k p q make is many are (t ∷ u ∷ v ∷ ts) ends =
    miscounted names k (t ∷ u ∷ v ∷ ts) (is (t ∷ u ∷ v ∷ ts)) (many (suc (suc (suc (length ts)))) ∙ past_two (length ts))

-- a keyword with a name and another token behind it, or with a name alone
named_two : {B : Type 0} (names : List (List ℕ)) (k : Keyword) (q : List ℕ → Result B Cause) (make : ℕ → B → Act)
    → ((ts : List (List ℕ)) → statement_said names k ts ≡ two_of whole_name_at q (λ name b. of_processor names (λ p. make p b) name) ts)
    → ((n : ℕ) → has_count k n ≡ (n == 2)) → places k ≡ two_places whole_name_at q → names_processor k ≡ true
    → ((ts : List (List ℕ)) (p : ℕ) (b : B) → (name : List ℕ) × Two whole_name_at q ts name b × IsProcessor names name p
    → ArgumentsSay names ts (statement.Does (make p b)))
    → ((p : ℕ) (b : B) → keyword_of (statement.Does (make p b)) ≡ k) → (ts : List (List ℕ))
    → GoodArguments names k ts ⊎ WrongArguments names k ts
named_two {B} names k q make is many are named says kind ts =
    two_all names k whole_name_at q (λ name b. of_processor names (λ p. make p b) name) is many are ts ends
  where
    at : (us : List (List ℕ)) → ts ≡ us → (name : List ℕ) (b : B) → Two whole_name_at q us name b
        → Takes names k us (of_processor names (λ p. make p b) name) ⊎ Refuses names k us (of_processor names (λ p. make p b) name)
    at [] e name b (t, u, f, g, h) = absurd cc
    at (v ∷ us) e name b (t, u, f, g, h) =
        let same : v ≡ t = cc in
        processor_ends names k v us (λ p. make p b) name (ap whole_name_at same ∙ g) named
        (λ p i. says (v ∷ us) p b (name, (t, u, f, g, h), i)) (λ p. kind p b)

    ends : (name : List ℕ) (b : B) → Two whole_name_at q ts name b
        → Takes names k ts (of_processor names (λ p. make p b) name) ⊎ Refuses names k ts (of_processor names (λ p. make p b) name)
    ends name b two = at ts refl name b two

named_one : (names : List (List ℕ)) (k : Keyword) (make : ℕ → Act)
    → ((ts : List (List ℕ)) → statement_said names k ts ≡ one_of whole_name_at (λ name. of_processor names make name) ts)
    → ((n : ℕ) → has_count k n ≡ (n == 1)) → places k ≡ one_place whole_name_at → names_processor k ≡ true
    → ((ts : List (List ℕ)) (p : ℕ) → (name : List ℕ) × One whole_name_at ts name × IsProcessor names name p
    → ArgumentsSay names ts (statement.Does (make p)))
    → ((p : ℕ) → keyword_of (statement.Does (make p)) ≡ k) → (ts : List (List ℕ))
    → GoodArguments names k ts ⊎ WrongArguments names k ts
named_one names k make is many are named says kind ts =
    one_all names k whole_name_at (λ name. of_processor names make name) is many are ts ends
  where
    at : (us : List (List ℕ)) → ts ≡ us → (name : List ℕ) → One whole_name_at us name
        → Takes names k us (of_processor names make name) ⊎ Refuses names k us (of_processor names make name)
    at [] e name (t, f, g) = absurd cc
    at (v ∷ us) e name (t, f, g) =
        let same : v ≡ t = cc in
        processor_ends names k v us make name (ap whole_name_at same ∙ g) named (λ p i. says (v ∷ us) p (name, (t, f, g), i)) kind

    ends : (name : List ℕ) → One whole_name_at ts name
        → Takes names k ts (of_processor names make name) ⊎ Refuses names k ts (of_processor names make name)
    ends name one = at ts refl name one

past_one_two : (n : ℕ) → (suc (suc (suc n)) == 1 || suc (suc (suc n)) == 2) ≡ false
past_one_two n = grind (arith, nat_tests)

past_two_three : (n : ℕ) → (suc (suc (suc (suc n))) == 2 || suc (suc (suc (suc n))) == 3) ≡ false
past_two_three n = grind (arith, nat_tests)

-- the tokens behind `settle`
settle_read : (names ts : List (List ℕ)) → GoodArguments names keyword.Settle ts ⊎ WrongArguments names keyword.Settle ts
unfolding statement_said ArgumentsSay two_of
settle_read names [] = miscounted names keyword.Settle [] refl refl
settle_read names (t ∷ []) =
    one_token names keyword.Settle picks_at (λ most. Ok (statement.Does (act.Settle most false))) t refl refl refl
    (λ a one. inl (record { s = statement.Does (act.Settle a false); says = one; kind = refl; is = refl; fine = refl }))
settle_read names (t ∷ u ∷ []) =
    two_tokens names keyword.Settle picks_at (mark_at (codes "back")) (λ most back. Ok (statement.Does (act.Settle most back))) t u refl
    (ap (λ c. or_else (refusal (picks_at t)) (or_else c None)) (sym (mark_refusal (codes "back") u))) refl ends
  where
    ends : (a : ℕ) (b : Bool) → Two picks_at (mark_at (codes "back")) (t ∷ u ∷ []) a b
        → Takes names keyword.Settle (t ∷ u ∷ []) (Ok (statement.Does (act.Settle a b)))
        ⊎ Refuses names keyword.Settle (t ∷ u ∷ []) (Ok (statement.Does (act.Settle a b)))
    ends a b (one, two, e, f, g) =
        let mark = mark_is (codes "back") two b g in
        inl (record {
          s = statement.Does (act.Settle a b);
          says = (one, e ∙ rw (mark.0, mark.1) refl, f);
          kind = refl;
          is = refl;
          fine = refl;
        })
settle_read names (t ∷ u ∷ v ∷ ts) = miscounted names keyword.Settle (t ∷ u ∷ v ∷ ts) refl (past_one_two (length ts))

-- the tokens behind `p`
step_ends : (names : List (List ℕ)) (t : List ℕ) (ts : List (List ℕ)) (name : List ℕ) (clock : ℕ) (slice : Bool)
    → TwoMarked whole_name_at word_at (codes "slice") (t ∷ ts) name clock slice
    → Takes names keyword.Step (t ∷ ts) (of_processor names (λ p. act.Pick (pick.Proc p slice clock)) name)
    ⊎ Refuses names keyword.Step (t ∷ ts) (of_processor names (λ p. act.Pick (pick.Proc p slice clock)) name)
unfolding ArgumentsSay PickSays
step_ends names t ts name clock slice (one, two, e, f, g) =
    let same : t ≡ one = cc in
    processor_ends names keyword.Step t ts (λ p. act.Pick (pick.Proc p slice clock)) name (ap whole_name_at same ∙ f) refl
    (λ p i. (name, (one, two, e, f, g), i)) (λ p. refl)

step_read : (names ts : List (List ℕ)) → GoodArguments names keyword.Step ts ⊎ WrongArguments names keyword.Step ts
unfolding statement_said three_of
step_read names [] = miscounted names keyword.Step [] refl refl
step_read names (t ∷ []) = miscounted names keyword.Step (t ∷ []) refl refl
step_read names (t ∷ u ∷ []) =
    two_tokens names keyword.Step whole_name_at word_at
    (λ name clock. of_processor names (λ p. act.Pick (pick.Proc p false clock)) name) t u refl refl refl
    (λ name clock two. step_ends names t (u ∷ []) name clock false two)
step_read names (t ∷ u ∷ v ∷ []) =
    three_tokens names keyword.Step whole_name_at word_at (mark_at (codes "slice"))
    (λ name clock slice. of_processor names (λ p. act.Pick (pick.Proc p slice clock)) name) t u v refl
    (ap (λ c. or_else (refusal (whole_name_at t)) (or_else (refusal (word_at u)) (or_else c None)))
    (sym (mark_refusal (codes "slice") v))) refl ends
  where
    ends : (name : List ℕ) (clock : ℕ) (slice : Bool) → Three whole_name_at word_at (mark_at (codes "slice")) (t ∷ u ∷ v ∷ []) name clock
        slice
        → Takes names keyword.Step (t ∷ u ∷ v ∷ []) (of_processor names (λ p. act.Pick (pick.Proc p slice clock)) name)
        ⊎ Refuses names keyword.Step (t ∷ u ∷ v ∷ []) (of_processor names (λ p. act.Pick (pick.Proc p slice clock)) name)
    ends name clock slice (one, two, three, e, f, g, h) =
        let mark = mark_is (codes "slice") three slice h in
        step_ends names t (u ∷ v ∷ []) name clock slice (one, two, e ∙ rw (mark.0, mark.1) refl, f, g)
step_read names (t ∷ u ∷ v ∷ w ∷ ts) = miscounted names keyword.Step (t ∷ u ∷ v ∷ w ∷ ts) refl (past_two_three (length ts))

-- the tokens behind `power`
power_read : (names ts : List (List ℕ)) → GoodArguments names keyword.Power ts ⊎ WrongArguments names keyword.Power ts
unfolding statement_said ArgumentsSay three_of
power_read names [] = miscounted names keyword.Power [] refl refl
power_read names (t ∷ []) = miscounted names keyword.Power (t ∷ []) refl refl
power_read names (t ∷ u ∷ []) = miscounted names keyword.Power (t ∷ u ∷ []) refl refl
power_read names (t ∷ u ∷ v ∷ []) =
    three_tokens names keyword.Power byte_at flag_at flag_at (λ a b c. Ok (statement.Power a b c)) t u v refl refl refl
    (λ a b c three. inl (record { s = statement.Power a b c; says = three; kind = refl; is = refl; fine = refl }))
power_read names (t ∷ u ∷ v ∷ w ∷ ts) = miscounted names keyword.Power (t ∷ u ∷ v ∷ w ∷ ts) refl (past_three (length ts))

-- the tokens behind any keyword
pub arguments_read : (names : List (List ℕ)) (k : Keyword) (ts : List (List ℕ)) → GoodArguments names k ts ⊎ WrongArguments names k ts
unfolding statement_said ArgumentsSay PickSays
arguments_read names keyword.Power ts = power_read names ts
arguments_read names keyword.Step ts = step_read names ts
arguments_read names keyword.Send ts =
    named_two names keyword.Send link_at (λ p l. act.Pick (pick.Send p l)) (λ ts. refl) (λ n. refl) refl refl (λ ts p l h. h)
    (λ p l. refl) ts
arguments_read names keyword.Take ts =
    named_two names keyword.Take link_at (λ p l. act.Pick (pick.Take p l)) (λ ts. refl) (λ n. refl) refl refl (λ ts p l h. h)
    (λ p l. refl) ts
arguments_read names keyword.HostSend ts =
    none_read names keyword.HostSend (statement.Does (act.Pick pick.HostSend)) ts refl refl refl refl (λ e. e) refl
arguments_read names keyword.HostTake ts =
    none_read names keyword.HostTake (statement.Does (act.Pick pick.HostTake)) ts refl refl refl refl (λ e. e) refl
arguments_read names keyword.Settle ts = settle_read names ts
arguments_read names keyword.Release ts =
    none_read names keyword.Release (statement.Does act.Release) ts refl refl refl refl (λ e. e) refl
arguments_read names keyword.Show ts =
    named_one names keyword.Show (λ p. act.Show p) (λ ts. refl) (λ n. refl) refl refl (λ ts p h. h) (λ p. refl) ts
arguments_read names keyword.Links ts =
    named_one names keyword.Links (λ p. act.Links p) (λ ts. refl) (λ n. refl) refl refl (λ ts p h. h) (λ p. refl) ts
arguments_read names keyword.Word ts =
    named_two names keyword.Word word_at (λ p a. act.Word p a) (λ ts. refl) (λ n. refl) refl refl (λ ts p a h. h) (λ p a. refl) ts
arguments_read names keyword.Host ts = none_read names keyword.Host (statement.Does act.Host) ts refl refl refl refl (λ e. e) refl
arguments_read names keyword.Got ts =
    one_all names keyword.Got place_at (λ place. Ok (statement.Does (act.Got place))) (λ ts. refl) (λ n. refl) refl ts
    (λ a one. inl (record {
      s = statement.Does (act.Got a);
      says = one;
      kind = refl;
      is = refl;
      fine = no_processor names keyword.Got ts refl;
    }))
arguments_read names keyword.Steps ts = none_read names keyword.Steps (statement.Does act.Steps) ts refl refl refl refl (λ e. e) refl
arguments_read names keyword.Same ts = none_read names keyword.Same (statement.Does act.Same) ts refl refl refl refl (λ e. e) refl

processor_is : (names : List (List ℕ)) (name : List ℕ) (p : ℕ) → IsProcessor names name p → processor_named names name ≡ Ok p
unfolding processor_named
processor_is names name p e = ap (or_unknown name) e

-- tokens that say a statement are read so
pub said_of : (names ts : List (List ℕ)) (s : Statement) → ArgumentsSay names ts s → statement_said names (keyword_of s) ts ≡ Ok s
unfolding statement_said ArgumentsSay PickSays none_of one_of two_of three_of of_processor
said_of names ts (statement.Power byte error halt) (t, u, v, is, e, f, g) = rw (is, e, f, g) refl
said_of names ts (statement.Does (act.Pick pick.HostSend)) is = rw is refl
said_of names ts (statement.Does (act.Pick pick.HostTake)) is = rw is refl
said_of names ts (statement.Does (act.Pick (pick.Proc p true clock))) (name, (t, u, is, e, f), i) =
    rw (is, e, f, mark_same (codes "slice"), processor_is names name p i) refl
said_of names ts (statement.Does (act.Pick (pick.Proc p false clock))) (name, (t, u, is, e, f), i) =
    rw (is, e, f, processor_is names name p i) refl
said_of names ts (statement.Does (act.Pick (pick.Send p l))) (name, (t, u, is, e, f), i) =
    rw (is, e, f, processor_is names name p i) refl
said_of names ts (statement.Does (act.Pick (pick.Take p l))) (name, (t, u, is, e, f), i) =
    rw (is, e, f, processor_is names name p i) refl
said_of names ts (statement.Does (act.Settle most true)) (t, is, e) = rw (is, e, mark_same (codes "back")) refl
said_of names ts (statement.Does (act.Settle most false)) (t, is, e) = rw (is, e) refl
said_of names ts (statement.Does act.Release) is = rw is refl
said_of names ts (statement.Does (act.Show p)) (name, (t, is, e), i) = rw (is, e, processor_is names name p i) refl
said_of names ts (statement.Does (act.Links p)) (name, (t, is, e), i) = rw (is, e, processor_is names name p i) refl
said_of names ts (statement.Does (act.Word p address)) (name, (t, u, is, e, f), i) = rw (is, e, f, processor_is names name p i) refl
said_of names ts (statement.Does act.Host) is = rw is refl
said_of names ts (statement.Does (act.Got place)) (t, is, e) = rw (is, e) refl
said_of names ts (statement.Does act.Steps) is = rw is refl
said_of names ts (statement.Does act.Same) is = rw is refl
