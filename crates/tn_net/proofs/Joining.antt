-- What joining a line gives.
use Rattle.std.proofs.Common.{◌≡◌, ℕ, ◌+◌, ◌*◌, ◌≢◌, List, Some, None, Result, Ok, Err, set, subst, sym, ◌∙◌, ap}
use Rattle.std.specs.Result.{MatchResult, IsErrAnd, IsErr, IfOk}
use Rattle.tn_net.specs.declared.lines.LinkEnd.{LinkEnd}
use Rattle.tn_net.specs.declared.lines.EndLine.{EndLine}
use Rattle.tn_net.specs.declared.lines.Refusal.{Refusal}
use Rattle.tn_net.specs.declared.lines.Refusal.TheVariants.{Taken}
use Rattle.tn_net.specs.declared.networks.Far.{Far}
use Rattle.tn_net.specs.declared.networks.Far.TheVariants.{Nothing, Host, Link}
use Rattle.tn_net.specs.Lines.{IsNamed, IsKnown}
use Rattle.tn_net.specs.Inner.Tables.{entry, Joins, joins_host, joins_ends, Refuses, taken_one, taken_two}
use Rattle.tn_net.proofs.Places.{some_same}

-- what a line of one end gives
pub host_joined : (names : List (List ℕ × ℕ × ℕ)) (line : EndLine) (old new : List Far) (p : ℕ) (put : Result (Unit {0}) Refusal)
    → IsNamed names line.one.name p → line.two ≡ None → MatchResult put
    (λ _. (entry old p line.one.link ≡ Nothing) × (new ≡ set old (4 * p + line.one.link) Host))
    (λ refusal. (entry old p line.one.link ≢ Nothing) × (refusal ≡ Taken line.one))
    → MatchResult put (λ _. Joins names line old new) (λ refusal. Refuses names line old refusal)
host_joined names line old new p (Ok x) named none h = joins_host p none named h.0 h.1
host_joined names line old new p (Err e) named none h = taken_one p named (λ end some. cc) h.0 h.1

-- what a line of two ends gives, where the first is free
pub ends_joined : (names : List (List ℕ × ℕ × ℕ)) (line : EndLine) (old middle new : List Far) (p q : ℕ) (end : LinkEnd)
    (put : Result (Unit {0}) Refusal) → IsNamed names line.one.name p → line.two ≡ Some end → IsNamed names end.name q
    → entry old p line.one.link ≡ Nothing → middle ≡ set old (4 * p + line.one.link) (Link q end.link)
    → MatchResult put (λ _. (entry middle q end.link ≡ Nothing) × (new ≡ set middle (4 * q + end.link) (Link p line.one.link)))
    (λ refusal. (entry middle q end.link ≢ Nothing) × (refusal ≡ Taken end))
    → MatchResult put (λ _. Joins names line old new) (λ refusal. Refuses names line old refusal)
ends_joined names line old middle new p q end (Ok x) named some other free is h =
    joins_ends p q end some named other free (subst (λ fars. entry fars q end.link ≡ Nothing) is h.0)
    (h.1 ∙ ap (λ fars. set fars (4 * q + end.link) (Link p line.one.link)) is)
ends_joined names line old middle new p q end (Err e) named some other free is h =
    taken_two p q end some named other free (subst (λ fars. entry fars q end.link ≢ Nothing) is h.0) h.1

-- a line whose first end is not free
pub one_taken : (names : List (List ℕ × ℕ × ℕ)) (line : EndLine) (old : List Far) (p q : ℕ) (end : LinkEnd) (refusal : Refusal)
    → IsNamed names line.one.name p → line.two ≡ Some end → IsNamed names end.name q → entry old p line.one.link ≢ Nothing
    → refusal ≡ Taken line.one → Refuses names line old refusal
one_taken names line old p q end refusal named some other taken is =
    taken_one p named (λ e two. subst (λ x. IsKnown names x.name) (some_same end e (sym some ∙ two)) (q, other)) taken is

-- a passed on error
pub passed_on : {A E : Type 0} (P : A → Type 0) (Q : E → Type 0) (r : Result A E) (e : E) → IsErr r × IsErrAnd r (λ x. x ≡ e) → Q e
    → MatchResult r P Q
passed_on P Q (Ok x) e h q = absurd h.1
passed_on P Q (Err x) e h q = subst Q (sym h.1) q

-- what a passed on error tells of the error
pub error_is : {A E : Type 0} (r : Result A E) (e f : E) → IsErrAnd r (λ x. x ≡ e) → r ≡ Err f → e ≡ f
error_is (Ok x) e f h is = absurd h
error_is (Err x) e f h is = let same : x ≡ f = cc in sym h ∙ same

-- an error is no value
pub no_value : {A E : Type 0} (P : A → Type 0) (r : Result A E) → IsErr r → IfOk r P
no_value P (Ok x) h = cc
no_value P (Err e) h = tt
