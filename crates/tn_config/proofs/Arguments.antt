-- The tokens behind a keyword say a statement, which is read, or something is wrong with them, and
-- they are refused.
use Rattle.std.proofs.Common.{◌≡◌, ℕ, suc, ◌⊎◌, inl, inr, true, false, List, [], ◌∷◌, length, Option, Some, None}
use Rattle.std.proofs.Common.{Result, Ok, Err, refl, ap, ◌∙◌, arith}
use Rattle.std.specs.Bool.{◌==◌}
use Rattle.std.proofs.lemmas.Bool.Decides.{nat_tests}
use Rattle.tn_text.specs.declared.faults.Cause.{Cause}
use Rattle.tn_text.specs.declared.faults.FaultCode.TheVariants.{BadLine}
use Rattle.tn_text.specs.Faults.{bare}
use Rattle.tn_text.specs.Places.{file_name_at}
use Rattle.tn_text.specs.Reading.{result_then}
use Rattle.tn_config.specs.declared.keywords.Keyword.{Keyword}
use Rattle.tn_config.specs.declared.keywords.Keyword.TheVariants as keyword
use Rattle.tn_config.specs.declared.statements.Setting.TheVariants as setting
use Rattle.tn_config.specs.declared.statements.Statement.{Statement}
use Rattle.tn_config.specs.declared.statements.Statement.TheVariants as statement
use Rattle.tn_config.specs.Places.{size_at, address_at, count_at, link_at, argument_at, whole_name_at}
use Rattle.tn_config.specs.Statements.{One, Two, Three, Four, ArgumentsSay, keyword_of, none_of, one_of, two_of, three_of, four_of}
use Rattle.tn_config.specs.Statements.{statement_said}
use Rattle.tn_config.specs.ConfigFaults.{refusal, places, first_refusal, arguments_cause}

pub record GoodArguments (k : Keyword) (ts : List (List ℕ)) : Type 0 where
  pub s : Statement
  pub says : ArgumentsSay ts s
  pub kind : keyword_of s ≡ k
  pub read : statement_said k ts ≡ Ok s
  pub fine : arguments_cause (places k) ts ≡ None

pub record WrongArguments (k : Keyword) (ts : List (List ℕ)) : Type 0 where
  pub cause : Cause
  pub read : statement_said k ts ≡ Err cause
  pub wrong : arguments_cause (places k) ts ≡ Some cause

-- tokens of another number than there are places
miscounted : (ps : List (List ℕ → Option Cause)) (ts : List (List ℕ)) → (length ts == length ps) ≡ false
    → arguments_cause ps ts ≡ Some (bare BadLine)
miscounted ps ts e = rw e refl

-- tokens of the number of places
as_many : (ps : List (List ℕ → Option Cause)) (ts : List (List ℕ)) (c : Option Cause) → (length ts == length ps) ≡ true
    → first_refusal ps ts ≡ c → arguments_cause ps ts ≡ c
as_many ps ts c e r = rw e r

past_none : (n : ℕ) → (suc n == 0) ≡ false
past_none n = grind (arith, nat_tests)

past_one : (n : ℕ) → (suc (suc n) == 1) ≡ false
past_one n = grind (arith, nat_tests)

past_two : (n : ℕ) → (suc (suc (suc n)) == 2) ≡ false
past_two n = grind (arith, nat_tests)

past_three : (n : ℕ) → (suc (suc (suc (suc n))) == 3) ≡ false
past_three n = grind (arith, nat_tests)

past_four : (n : ℕ) → (suc (suc (suc (suc (suc n)))) == 4) ≡ false
past_four n = grind (arith, nat_tests)

-- where a reading refuses, and places do
refused : (k : Keyword) (ts : List (List ℕ)) (r : Result Statement Cause) (ps : List (List ℕ → Option Cause)) (cause : Cause)
    → statement_said k ts ≡ r → places k ≡ ps → r ≡ Err cause → arguments_cause ps ts ≡ Some cause
    → GoodArguments k ts ⊎ WrongArguments k ts
refused k ts r ps cause is are e w =
    inr (record { cause = cause; read = is ∙ e; wrong = ap (λ ps. arguments_cause ps ts) are ∙ w })

-- where a reading takes, and places do
taken : (k : Keyword) (ts : List (List ℕ)) (r : Result Statement Cause) (ps : List (List ℕ → Option Cause)) (s : Statement)
    → statement_said k ts ≡ r → places k ≡ ps → r ≡ Ok s → arguments_cause ps ts ≡ None → ArgumentsSay ts s → keyword_of s ≡ k
    → GoodArguments k ts ⊎ WrongArguments k ts
taken k ts r ps s is are e w says kind =
    inl (record { s = s; says = says; kind = kind; read = is ∙ e; fine = ap (λ ps. arguments_cause ps ts) are ∙ w })

-- the places of tokens that are read so
abbrev one_place : {A : Type 0} → (List ℕ → Result A Cause) → List (List ℕ → Option Cause)
one_place p = (λ t. refusal (p t)) ∷ []

abbrev two_places : {A B : Type 0} → (List ℕ → Result A Cause) → (List ℕ → Result B Cause) → List (List ℕ → Option Cause)
two_places p q = (λ t. refusal (p t)) ∷ one_place q

abbrev three_places : {A B C : Type 0} → (List ℕ → Result A Cause) → (List ℕ → Result B Cause) → (List ℕ → Result C Cause)
    → List (List ℕ → Option Cause)
three_places p q r = (λ t. refusal (p t)) ∷ two_places q r

abbrev four_places : {A B C D : Type 0} → (List ℕ → Result A Cause) → (List ℕ → Result B Cause) → (List ℕ → Result C Cause)
    → (List ℕ → Result D Cause) → List (List ℕ → Option Cause)
four_places p q r s = (λ t. refusal (p t)) ∷ three_places q r s

none_read : (k : Keyword) (ts : List (List ℕ)) (s : Statement) → statement_said k ts ≡ none_of s ts → places k ≡ []
    → (ts ≡ [] → ArgumentsSay ts s) → keyword_of s ≡ k → GoodArguments k ts ⊎ WrongArguments k ts
unfolding none_of
none_read k [] s is are says kind = taken k [] (Ok s) [] s is are refl refl (says refl) kind
none_read k (t ∷ others) s is are says kind =
    refused k (t ∷ others) (Err (bare BadLine)) [] (bare BadLine) is are refl (miscounted [] (t ∷ others) (past_none (length others)))

one_read : {A : Type 0} (k : Keyword) (ts : List (List ℕ)) (p : List ℕ → Result A Cause) (make : A → Statement)
    → statement_said k ts ≡ one_of p make ts → places k ≡ one_place p
    → ((a : A) → One p ts a → ArgumentsSay ts (make a)) → ((a : A) → keyword_of (make a) ≡ k)
    → GoodArguments k ts ⊎ WrongArguments k ts
unfolding one_of
one_read k [] p make is are says kind =
    refused k [] (Err (bare BadLine)) (one_place p) (bare BadLine) is are refl refl
one_read {A} k (t ∷ []) p make is are says kind = at (p t) refl
  where
    at : (r : Result A Cause) → p t ≡ r → GoodArguments k (t ∷ []) ⊎ WrongArguments k (t ∷ [])
    at (Ok a) e =
        taken k (t ∷ []) (result_then (p t) (λ a. Ok (make a))) (one_place p) (make a) is are (rw e refl)
        (as_many (one_place p) (t ∷ []) None refl (rw e refl)) (says a (t, refl, e)) (kind a)
    at (Err cause) e =
        refused k (t ∷ []) (result_then (p t) (λ a. Ok (make a))) (one_place p) cause is are (rw e refl)
        (as_many (one_place p) (t ∷ []) (Some cause) refl (rw e refl))
one_read k (t ∷ u ∷ others) p make is are says kind =
    refused k (t ∷ u ∷ others) (Err (bare BadLine)) (one_place p) (bare BadLine) is are refl
    (miscounted (one_place p) (t ∷ u ∷ others) (past_one (length others)))

two_read : {A B : Type 0} (k : Keyword) (ts : List (List ℕ)) (p : List ℕ → Result A Cause) (q : List ℕ → Result B Cause)
    (make : A → B → Statement) → statement_said k ts ≡ two_of p q make ts
    → places k ≡ two_places p q
    → ((a : A) (b : B) → Two p q ts a b → ArgumentsSay ts (make a b)) → ((a : A) (b : B) → keyword_of (make a b) ≡ k)
    → GoodArguments k ts ⊎ WrongArguments k ts
unfolding two_of
two_read k [] p q make is are says kind =
    refused k [] (Err (bare BadLine)) (two_places p q) (bare BadLine) is are refl refl
two_read k (t ∷ []) p q make is are says kind =
    refused k (t ∷ []) (Err (bare BadLine)) (two_places p q) (bare BadLine) is are refl refl
two_read {A} {B} k (t ∷ u ∷ []) p q make is are says kind = at (p t) refl (q u) refl
  where
    at : (r : Result A Cause) → p t ≡ r → (s : Result B Cause) → q u ≡ s
        → GoodArguments k (t ∷ u ∷ []) ⊎ WrongArguments k (t ∷ u ∷ [])
    at (Ok a) e (Ok b) f =
        taken k (t ∷ u ∷ []) (two_of p q make (t ∷ u ∷ [])) (two_places p q) (make a b) is are
        (rw (e, f) refl) (as_many (two_places p q) (t ∷ u ∷ []) None refl (rw (e, f) refl))
        (says a b (t, u, refl, e, f)) (kind a b)
    at (Ok a) e (Err cause) f =
        refused k (t ∷ u ∷ []) (two_of p q make (t ∷ u ∷ [])) (two_places p q) cause is are
        (rw (e, f) refl) (as_many (two_places p q) (t ∷ u ∷ []) (Some cause) refl (rw (e, f) refl))
    at (Err cause) e s f =
        refused k (t ∷ u ∷ []) (two_of p q make (t ∷ u ∷ [])) (two_places p q) cause is are
        (rw e refl) (as_many (two_places p q) (t ∷ u ∷ []) (Some cause) refl (rw e refl))
two_read k (t ∷ u ∷ v ∷ others) p q make is are says kind =
    refused k (t ∷ u ∷ v ∷ others) (Err (bare BadLine)) (two_places p q) (bare BadLine) is are refl
    (miscounted (two_places p q) (t ∷ u ∷ v ∷ others) (past_two (length others)))

three_read : {A B C : Type 0} (k : Keyword) (ts : List (List ℕ)) (p : List ℕ → Result A Cause) (q : List ℕ → Result B Cause)
    (r : List ℕ → Result C Cause) (make : A → B → C → Statement) → statement_said k ts ≡ three_of p q r make ts
    → places k ≡ three_places p q r
    → ((a : A) (b : B) (c : C) → Three p q r ts a b c → ArgumentsSay ts (make a b c))
    → ((a : A) (b : B) (c : C) → keyword_of (make a b c) ≡ k) → GoodArguments k ts ⊎ WrongArguments k ts
unfolding three_of
three_read k [] p q r make is are says kind = refused k [] (Err (bare BadLine)) (three_places p q r) (bare BadLine) is are refl refl
three_read k (t ∷ []) p q r make is are says kind =
    refused k (t ∷ []) (Err (bare BadLine)) (three_places p q r) (bare BadLine) is are refl refl
three_read k (t ∷ u ∷ []) p q r make is are says kind =
    refused k (t ∷ u ∷ []) (Err (bare BadLine)) (three_places p q r) (bare BadLine) is are refl refl
three_read {A} {B} {C} k (t ∷ u ∷ v ∷ []) p q r make is are says kind = at (p t) refl (q u) refl (r v) refl
  where
    no : (cause : Cause) → three_of p q r make (t ∷ u ∷ v ∷ []) ≡ Err cause
        → first_refusal (three_places p q r) (t ∷ u ∷ v ∷ []) ≡ Some cause
        → GoodArguments k (t ∷ u ∷ v ∷ []) ⊎ WrongArguments k (t ∷ u ∷ v ∷ [])
    no cause e w =
        refused k (t ∷ u ∷ v ∷ []) (three_of p q r make (t ∷ u ∷ v ∷ [])) (three_places p q r) cause is are e
        (as_many (three_places p q r) (t ∷ u ∷ v ∷ []) (Some cause) refl w)

    at : (x : Result A Cause) → p t ≡ x → (y : Result B Cause) → q u ≡ y → (z : Result C Cause) → r v ≡ z
        → GoodArguments k (t ∷ u ∷ v ∷ []) ⊎ WrongArguments k (t ∷ u ∷ v ∷ [])
    at (Ok a) e (Ok b) f (Ok c) g =
        taken k (t ∷ u ∷ v ∷ []) (three_of p q r make (t ∷ u ∷ v ∷ [])) (three_places p q r) (make a b c) is are
        (rw (e, f, g) refl) (as_many (three_places p q r) (t ∷ u ∷ v ∷ []) None refl (rw (e, f, g) refl))
        (says a b c (t, u, v, refl, e, f, g)) (kind a b c)
    at (Ok a) e (Ok b) f (Err cause) g = no cause (rw (e, f, g) refl) (rw (e, f, g) refl)
    at (Ok a) e (Err cause) f z g = no cause (rw (e, f) refl) (rw (e, f) refl)
    at (Err cause) e y f z g = no cause (rw e refl) (rw e refl)
three_read k (t ∷ u ∷ v ∷ w ∷ others) p q r make is are says kind =
    refused k (t ∷ u ∷ v ∷ w ∷ others) (Err (bare BadLine)) (three_places p q r) (bare BadLine) is are refl
    (miscounted (three_places p q r) (t ∷ u ∷ v ∷ w ∷ others) (past_three (length others)))

four_read : {A B C D : Type 0} (k : Keyword) (ts : List (List ℕ)) (p : List ℕ → Result A Cause) (q : List ℕ → Result B Cause)
    (r : List ℕ → Result C Cause) (s : List ℕ → Result D Cause) (make : A → B → C → D → Statement)
    → statement_said k ts ≡ four_of p q r s make ts
    → places k ≡ four_places p q r s
    → ((a : A) (b : B) (c : C) (d : D) → Four p q r s ts a b c d → ArgumentsSay ts (make a b c d))
    → ((a : A) (b : B) (c : C) (d : D) → keyword_of (make a b c d) ≡ k) → GoodArguments k ts ⊎ WrongArguments k ts
unfolding four_of
four_read k [] p q r s make is are says kind = refused k [] (Err (bare BadLine)) (four_places p q r s) (bare BadLine) is are refl refl
four_read k (t ∷ []) p q r s make is are says kind =
    refused k (t ∷ []) (Err (bare BadLine)) (four_places p q r s) (bare BadLine) is are refl refl
four_read k (t ∷ u ∷ []) p q r s make is are says kind =
    refused k (t ∷ u ∷ []) (Err (bare BadLine)) (four_places p q r s) (bare BadLine) is are refl refl
four_read k (t ∷ u ∷ v ∷ []) p q r s make is are says kind =
    refused k (t ∷ u ∷ v ∷ []) (Err (bare BadLine)) (four_places p q r s) (bare BadLine) is are refl refl
four_read {A} {B} {C} {D} k (t ∷ u ∷ v ∷ w ∷ []) p q r s make is are says kind = at (p t) refl (q u) refl (r v) refl (s w) refl
  where
    no : (cause : Cause) → four_of p q r s make (t ∷ u ∷ v ∷ w ∷ []) ≡ Err cause
        → first_refusal (four_places p q r s) (t ∷ u ∷ v ∷ w ∷ []) ≡ Some cause
        → GoodArguments k (t ∷ u ∷ v ∷ w ∷ []) ⊎ WrongArguments k (t ∷ u ∷ v ∷ w ∷ [])
    no cause e f =
        refused k (t ∷ u ∷ v ∷ w ∷ []) (four_of p q r s make (t ∷ u ∷ v ∷ w ∷ [])) (four_places p q r s) cause is are e
        (as_many (four_places p q r s) (t ∷ u ∷ v ∷ w ∷ []) (Some cause) refl f)

    at : (x : Result A Cause) → p t ≡ x → (y : Result B Cause) → q u ≡ y → (z : Result C Cause) → r v ≡ z
        → (o : Result D Cause) → s w ≡ o → GoodArguments k (t ∷ u ∷ v ∷ w ∷ []) ⊎ WrongArguments k (t ∷ u ∷ v ∷ w ∷ [])
    at (Ok a) e (Ok b) f (Ok c) g (Ok d) h =
        taken k (t ∷ u ∷ v ∷ w ∷ []) (four_of p q r s make (t ∷ u ∷ v ∷ w ∷ [])) (four_places p q r s) (make a b c d) is are
        (rw (e, f, g, h) refl) (as_many (four_places p q r s) (t ∷ u ∷ v ∷ w ∷ []) None refl (rw (e, f, g, h) refl))
        (says a b c d (t, u, v, w, refl, e, f, g, h)) (kind a b c d)
    at (Ok a) e (Ok b) f (Ok c) g (Err cause) h = no cause (rw (e, f, g, h) refl) (rw (e, f, g, h) refl)
    at (Ok a) e (Ok b) f (Err cause) g o h = no cause (rw (e, f, g) refl) (rw (e, f, g) refl)
    at (Ok a) e (Err cause) f z g o h = no cause (rw (e, f) refl) (rw (e, f) refl)
    at (Err cause) e y f z g o h = no cause (rw e refl) (rw e refl)
four_read k (t ∷ u ∷ v ∷ w ∷ x ∷ others) p q r s make is are says kind =
    refused k (t ∷ u ∷ v ∷ w ∷ x ∷ others) (Err (bare BadLine)) (four_places p q r s) (bare BadLine) is are refl
    (miscounted (four_places p q r s) (t ∷ u ∷ v ∷ w ∷ x ∷ others) (past_four (length others)))

-- the tokens behind any keyword
pub arguments_read : (k : Keyword) (ts : List (List ℕ)) → GoodArguments k ts ⊎ WrongArguments k ts
unfolding statement_said ArgumentsSay
arguments_read keyword.Processor ts =
    two_read keyword.Processor ts whole_name_at size_at (λ a b. statement.Processor a b) refl refl (λ a b h. h) (λ a b. refl)
arguments_read keyword.Host ts =
    two_read keyword.Host ts whole_name_at link_at (λ a b. statement.Host a b) refl refl (λ a b h. h) (λ a b. refl)
arguments_read keyword.Wire ts =
    four_read keyword.Wire ts whole_name_at link_at whole_name_at link_at (λ a b c d. statement.Wire a b c d) refl refl
    (λ a b c d h. h) (λ a b c d. refl)
arguments_read keyword.Code ts =
    one_read keyword.Code ts address_at (λ a. statement.Set (setting.Code a)) refl refl (λ a h. h) (λ a. refl)
arguments_read keyword.Data ts =
    one_read keyword.Data ts address_at (λ a. statement.Set (setting.Data a)) refl refl (λ a h. h) (λ a. refl)
arguments_read keyword.Workspace ts =
    three_read keyword.Workspace ts address_at count_at count_at (λ a b c. statement.Set (setting.Workspace a b c)) refl refl
    (λ a b c h. h) (λ a b c. refl)
arguments_read keyword.Module ts =
    one_read keyword.Module ts file_name_at (λ a. statement.Set (setting.Module a)) refl refl (λ a h. h) (λ a. refl)
arguments_read keyword.Library ts =
    one_read keyword.Library ts file_name_at (λ a. statement.Set (setting.Library a)) refl refl (λ a h. h) (λ a. refl)
arguments_read keyword.Entry ts =
    one_read keyword.Entry ts whole_name_at (λ a. statement.Set (setting.Entry a)) refl refl (λ a h. h) (λ a. refl)
arguments_read keyword.Arg ts =
    one_read keyword.Arg ts argument_at (λ a. statement.Set (setting.Arg a)) refl refl (λ a h. h) (λ a. refl)
arguments_read keyword.End ts = none_read keyword.End ts statement.End refl refl (λ e. e) refl

-- tokens that say a statement are read so
pub said_of : (ts : List (List ℕ)) (s : Statement) → ArgumentsSay ts s → statement_said (keyword_of s) ts ≡ Ok s
unfolding statement_said ArgumentsSay none_of one_of two_of three_of four_of
said_of ts (statement.Processor name size) (t, u, is, e, f) = rw (is, e, f) refl
said_of ts (statement.Host name link) (t, u, is, e, f) = rw (is, e, f) refl
said_of ts (statement.Wire one l two m) (t, u, v, w, is, e, f, g, h) = rw (is, e, f, g, h) refl
said_of ts (statement.Set (setting.Code a)) (t, is, e) = rw (is, e) refl
said_of ts (statement.Set (setting.Data a)) (t, is, e) = rw (is, e) refl
said_of ts (statement.Set (setting.Workspace a b c)) (t, u, v, is, e, f, g) = rw (is, e, f, g) refl
said_of ts (statement.Set (setting.Module a)) (t, is, e) = rw (is, e) refl
said_of ts (statement.Set (setting.Library a)) (t, is, e) = rw (is, e) refl
said_of ts (statement.Set (setting.Entry a)) (t, is, e) = rw (is, e) refl
said_of ts (statement.Set (setting.Arg a)) (t, is, e) = rw (is, e) refl
said_of ts statement.End is = rw is refl
