-- Of plans.
use Rattle.std.proofs.Common.{◌≡◌, ◌≢◌, ℕ, ◌+◌, ◌<◌, ◌≤◌, ◌⊎◌, inl, inr, Bool, true, false, not, cond, List, [], ◌∷◌, length, Option, Some}
use Rattle.std.proofs.Common.{None, IsSomeAnd, refl, sym, ap, ◌∙◌, subst, arith}
use Rattle.std.proofs.lemmas.Bool.{false≢true}
use Rattle.std.proofs.lemmas.Slice.Eq.{bytes_eq-Decides}
use Rattle.std.specs.Str.{bytes_eq}
use Rattle.tn_io.specs.FileLists.{Files, held}
use Rattle.tn_io.proofs.FileListLaws.{bytes_eq-other}
use Rattle.tn_text.specs.declared.limits.TheConstants.{FILE_LIMIT}
use Rattle.tn_text.specs.declared.limits.Limit.TheVariants.{File}
use Rattle.tn_system.specs.Sources.{Sources}
use Rattle.tn_system.specs.Systems.{SystemState, IsSystem}
use Rattle.tn_top.specs.Plans.{Answer, unread, limit, IsRefused, Plan, gives, stops, reads, settles, then_plan, Goes, stays, reads_on}
use Rattle.tn_top.specs.Plans.{too_long, settles_on, settles_not, Reaches, at_end, at_stop, at_gap}
use Rattle.tn_system.proofs.OneAnswer.{one_system}
use Rattle.tn_top.proofs.SystemLaws.{not_both, one_refusal}
use Rattle.tn_top.specs.Commands.{Answers}
use Rattle.tn_top.specs.Outcomes.{without, AllGiven}

-- from a place on
pub goes-joined : {A : Type 0} (files : Option Files) (p q r : Plan A) → Goes files p q → Goes files q r → Goes files p r
goes-joined files p q r stays g = g
goes-joined files p q r (reads_on {next} text held short rest) g = reads_on text held short (goes-joined files (next text) q r rest g)
goes-joined files p q r (too_long long) stays = too_long long
goes-joined files p q r (settles_on {next} system is rest) g = settles_on system is (goes-joined files (next system) q r rest g)
goes-joined files p q r (settles_not answer is) stays = settles_not answer is

-- a plan that goes on behind another
pub goes-then : {A B : Type 0} (files : Option Files) (k : A → Plan B) (p q : Plan A) → Goes files p q
    → Goes files (then_plan p k) (then_plan q k)
unfolding then_plan
goes-then files k p q stays = stays
goes-then files k p q (reads_on {next} text held short rest) = reads_on text held short (goes-then files k (next text) q rest)
goes-then files k p q (too_long long) = too_long long
goes-then files k p q (settles_on {next} system is rest) = settles_on system is (goes-then files k (next system) q rest)
goes-then files k p q (settles_not answer is) = settles_not answer is

-- a name holds nothing once its files are left out
pub held-without : (files : Files) (name : List ℕ) → held (without files name) name ≡ None
unfolding held without
held-without [] name = refl
held-without (file ∷ files) name = at (bytes_eq file.0 name) refl (held-without files name)
  where
    at : (b : Bool) → bytes_eq file.0 name ≡ b → held (without files name) name ≡ None
        → held (cond (not b) (file ∷ without files name) (without files name)) name ≡ None
    at true e h = h
    at false e h = rw e h

-- and each other name what it held
pub held-without-other : (files : Files) (name other : List ℕ) → other ≢ name → held (without files name) other ≡ held files other
unfolding held without
held-without-other [] name other n = refl
held-without-other (file ∷ files) name other n = at (bytes_eq file.0 name) refl (held-without-other files name other n)
  where
    at : (b : Bool) → bytes_eq file.0 name ≡ b → held (without files name) other ≡ held files other
        → held (cond (not b) (file ∷ without files name) (without files name)) other
        ≡ cond (bytes_eq file.0 other) (Some file.1) (held files other)
    at true e h =
        let same : file.0 ≡ name = (bytes_eq-Decides file.0 name).0 e in
        rw (bytes_eq-other file.0 other (λ q. n (sym q ∙ same))) h
    at false e h = ap (λ rest. cond (bytes_eq file.0 other) (Some file.1) rest) h

-- an answer that is reached behind a text that is read, and behind a system that is settled
pub reaches-behind : (fs : Files) (file text : List ℕ) (next : List ℕ → Plan Answer) (a : Answer) → held fs file ≡ Some text
    → length text ≤ FILE_LIMIT → Reaches fs (next text) a → Reaches fs (reads file next) a
reaches-behind fs file text next a is short (at_end answer g) = at_end answer (reads_on text is short g)
reaches-behind fs file text next a is short (at_stop answer g) = at_stop answer (reads_on text is short g)
reaches-behind fs file text next a is short (at_gap other rest g gone) = at_gap other rest (reads_on text is short g) gone

pub reaches-settled : (fs : Files) (sources : Sources) (next : SystemState → Plan Answer) (system : SystemState) (a : Answer)
    → IsSystem sources system → Reaches fs (next system) a → Reaches fs (settles sources next) a
reaches-settled fs sources next system a is (at_end answer g) = at_end answer (settles_on system is g)
reaches-settled fs sources next system a is (at_stop answer g) = at_stop answer (settles_on system is g)
reaches-settled fs sources next system a is (at_gap other rest g gone) = at_gap other rest (settles_on system is g) gone

-- a file that isn't there
reaches-gap : (fs : Files) (file : List ℕ) (next : List ℕ → Plan Answer) → held fs file ≡ None
    → Reaches fs (reads file next) (unread file)
reaches-gap fs file next gone = at_gap file next stays gone

-- Wherever a plan comes to read a file: without the file, the answer is that it isn't there.
pub without-goes : (fs : Files) (file : List ℕ) (next : List ℕ → Plan Answer) (p q : Plan Answer) → q ≡ reads file next
    → Goes (Some fs) p q → Reaches (without fs file) p (unread file)
without-goes fs file next p q e stays =
    subst (λ r. Reaches (without fs file) r (unread file)) (sym e) (reaches-gap (without fs file) file next (held-without fs file))
without-goes fs file next p q e (reads_on {file = first} {next = others} text is short rest) =
    at (bytes_eq first file) refl (without-goes fs file next (others text) q e rest)
  where
    at : (b : Bool) → bytes_eq first file ≡ b → Reaches (without fs file) (others text) (unread file)
        → Reaches (without fs file) (reads first others) (unread file)
    at true same h =
        let is_file : first ≡ file = (bytes_eq-Decides first file).0 same in
        subst (λ f. Reaches (without fs file) (reads f others) (unread file)) (sym is_file)
        (reaches-gap (without fs file) file others (held-without fs file))
    at false differs h =
        let other : first ≢ file = λ s. false≢true (sym differs ∙ (bytes_eq-Decides first file).1 s) in
        reaches-behind (without fs file) first text others (unread file) (held-without-other fs file first other ∙ is) short h
without-goes fs file next p q e (too_long long) = absurd cc
without-goes fs file next p q e (settles_on {sources} {next = others} system is rest) =
    reaches-settled (without fs file) sources others system (unread file) is (without-goes fs file next (others system) q e rest)
without-goes fs file next p q e (settles_not answer is) = absurd cc

-- what a plan can give, it can give from any place that it goes to
pub given-goes : {A : Type 0} (files : Option Files) (P : A → Type 0) (p q : Plan A) → Goes files p q → AllGiven P p → AllGiven P q
unfolding AllGiven
given-goes files P p q stays all = all
given-goes files P p q (reads_on {next} text is short rest) all = given-goes files P (next text) q rest (all text)
given-goes files P p q (too_long long) all = tt
given-goes files P p q (settles_on {next} system is rest) all = given-goes files P (next system) q rest (all system)
given-goes files P p q (settles_not answer is) all = tt

-- what a plan can give that goes on behind another
pub given-then : {A B : Type 0} (P : B → Type 0) (k : A → Plan B) (p : Plan A) → ((x : A) → AllGiven P (k x)) → AllGiven P (then_plan p k)
unfolding AllGiven then_plan
given-then P k (gives x) all = all x
given-then P k (stops answer) all = tt
given-then P k (reads file next) all = λ text. given-then P k (next text) all
given-then P k (settles sources next) all = λ system. given-then P k (next system) all

-- ---- one answer

-- how the answer of a plan is reached from where the plan begins
Opens : Files → Plan Answer → Answer → Type 0
Opens fs (gives x) a = a ≡ x
Opens fs (stops x) a = a ≡ x
Opens fs (reads file next) a =
    ((text : List ℕ) × (held fs file ≡ Some text) × (length text ≤ FILE_LIMIT) × Reaches fs (next text) a)
    ⊎ ((IsSomeAnd (held fs file) (λ text. FILE_LIMIT < length text) × (a ≡ limit File (FILE_LIMIT + 1)))
    ⊎ ((held fs file ≡ None) × (a ≡ unread file)))
Opens fs (settles sources next) a = ((system : SystemState) × IsSystem sources system × Reaches fs (next system) a) ⊎ IsRefused sources a

opens_end : (fs : Files) (p q : Plan Answer) (a : Answer) → q ≡ gives a → Goes (Some fs) p q → Opens fs p a
unfolding Opens
opens_end fs p q a e stays = subst (λ r. Opens fs r a) (sym e) refl
opens_end fs p q a e (reads_on {next} text is short rest) =
    inl (text, is, short, at_end a (subst (λ r. Goes (Some fs) (next text) r) e rest))
opens_end fs p q a e (too_long long) = absurd cc
opens_end fs p q a e (settles_on {next} system is rest) = inl (system, is, at_end a (subst (λ r. Goes (Some fs) (next system) r) e rest))
opens_end fs p q a e (settles_not answer is) = absurd cc

opens_stop : (fs : Files) (p q : Plan Answer) (a : Answer) → q ≡ stops a → Goes (Some fs) p q → Opens fs p a
unfolding Opens
opens_stop fs p q a e stays = subst (λ r. Opens fs r a) (sym e) refl
opens_stop fs p q a e (reads_on {next} text is short rest) =
    inl (text, is, short, at_stop a (subst (λ r. Goes (Some fs) (next text) r) e rest))
opens_stop fs p q a e (too_long long) = inr (inl (long, cc))
opens_stop fs p q a e (settles_on {next} system is rest) = inl (system, is, at_stop a (subst (λ r. Goes (Some fs) (next system) r) e rest))
opens_stop fs p q a e (settles_not {sources} answer is) =
    let same : answer ≡ a = cc in inr (subst (λ b. IsRefused sources b) same is)

opens_gap : (fs : Files) (p q : Plan Answer) (file : List ℕ) (next : List ℕ → Plan Answer) → held fs file ≡ None → q ≡ reads file next
    → Goes (Some fs) p q → Opens fs p (unread file)
unfolding Opens
opens_gap fs p q file next gone e stays = subst (λ r. Opens fs r (unread file)) (sym e) (inr (inr (gone, refl)))
opens_gap fs p q file next gone e (reads_on {next = others} text is short rest) =
    inl (text, is, short, at_gap file next (subst (λ r. Goes (Some fs) (others text) r) e rest) gone)
opens_gap fs p q file next gone e (too_long long) = absurd cc
opens_gap fs p q file next gone e (settles_on {next = others} system is rest) =
    inl (system, is, at_gap file next (subst (λ r. Goes (Some fs) (others system) r) e rest) gone)
opens_gap fs p q file next gone e (settles_not answer is) = absurd cc

opens : (fs : Files) (p : Plan Answer) (a : Answer) → Reaches fs p a → Opens fs p a
opens fs p a (at_end answer g) = opens_end fs p (gives answer) answer refl g
opens fs p a (at_stop answer g) = opens_stop fs p (stops answer) answer refl g
opens fs p a (at_gap file next g gone) = opens_gap fs p (reads file next) file next gone refl g

same_read : (fs : Files) (file : List ℕ) (next : List ℕ → Plan Answer) (a b : Answer)
    → ((text : List ℕ) (c d : Answer) → Reaches fs (next text) c → Reaches fs (next text) d → c ≡ d) → Opens fs (reads file next) a
    → Opens fs (reads file next) b → a ≡ b
unfolding Opens
same_read fs file next a b one (inl h) (inl k) =
    let text : h.0 ≡ k.0 = cc in one k.0 a b (subst (λ t. Reaches fs (next t) a) text h.3) k.3
same_read fs file next a b one (inl h) (inr (inl k)) =
    let over : FILE_LIMIT < length h.0 = subst (λ o. IsSomeAnd o (λ text. FILE_LIMIT < length text)) h.1 k.0 in
    absurd (omega (arith, over, h.2))
same_read fs file next a b one (inl h) (inr (inr k)) = absurd cc
same_read fs file next a b one (inr (inl h)) (inl k) =
    let over : FILE_LIMIT < length k.0 = subst (λ o. IsSomeAnd o (λ text. FILE_LIMIT < length text)) k.1 h.0 in
    absurd (omega (arith, over, k.2))
same_read fs file next a b one (inr (inl h)) (inr (inl k)) = h.1 ∙ sym k.1
same_read fs file next a b one (inr (inl h)) (inr (inr k)) =
    absurd (subst (λ o. IsSomeAnd o (λ text. FILE_LIMIT < length text)) k.0 h.0)
same_read fs file next a b one (inr (inr h)) (inl k) = absurd cc
same_read fs file next a b one (inr (inr h)) (inr (inl k)) =
    absurd (subst (λ o. IsSomeAnd o (λ text. FILE_LIMIT < length text)) h.0 k.0)
same_read fs file next a b one (inr (inr h)) (inr (inr k)) = h.1 ∙ sym k.1

same_settled : (fs : Files) (sources : Sources) (next : SystemState → Plan Answer) (a b : Answer)
    → ((system : SystemState) (c d : Answer) → Reaches fs (next system) c → Reaches fs (next system) d → c ≡ d)
    → Opens fs (settles sources next) a → Opens fs (settles sources next) b → a ≡ b
unfolding Opens
same_settled fs sources next a b one (inl h) (inl k) =
    one k.0 a b (subst (λ y. Reaches fs (next y) a) (one_system sources h.0 k.0 h.1 k.1) h.2) k.2
same_settled fs sources next a b one (inl h) (inr k) = absurd (not_both sources h.0 b h.1 k)
same_settled fs sources next a b one (inr h) (inl k) = absurd (not_both sources k.0 a k.1 h)
same_settled fs sources next a b one (inr h) (inr k) = one_refusal sources a b h k

-- over files a plan comes to one answer at most
pub one_answer : (fs : Files) (p : Plan Answer) (a b : Answer) → Reaches fs p a → Reaches fs p b → a ≡ b
unfolding Opens
one_answer fs (gives x) a b h k = opens fs (gives x) a h ∙ sym (opens fs (gives x) b k)
one_answer fs (stops x) a b h k = opens fs (stops x) a h ∙ sym (opens fs (stops x) b k)
one_answer fs (reads file next) a b h k =
    same_read fs file next a b (λ text c d. one_answer fs (next text) c d) (opens fs (reads file next) a h)
    (opens fs (reads file next) b k)
one_answer fs (settles sources next) a b h k =
    same_settled fs sources next a b (λ system c d. one_answer fs (next system) c d) (opens fs (settles sources next) a h)
    (opens fs (settles sources next) b k)

-- what was asked for has one answer at most
pub one_of_asked : (asked : Option (Plan Answer)) (fs : Files) (a b : Answer) → Answers asked fs a → Answers asked fs b → a ≡ b
one_of_asked None fs a b h k = h ∙ sym k
one_of_asked (Some plan) fs a b h k = one_answer fs plan a b h k
