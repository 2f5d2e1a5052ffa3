-- A plan over files of its own goes as the plan does over these files, and the other way round.
use Rattle.std.proofs.Common.{◌≡◌, ◌⊎◌, inl, inr, ℕ, ◌+◌, ◌<◌, ◌≤◌, Bool, true, false, List, length, Option, Some, None, IsSomeAnd}
use Rattle.std.proofs.Common.{Result, Ok, Err, refl, sym, ap, ◌∙◌, subst, arith}
use Rattle.std.specs.Prelude.{nat_lt, if◌then◌else◌}
use Rattle.std.proofs.lemmas.Bool.Decides.{nat_tests}
use Rattle.tn_text.specs.Counts.{Rose}
use Rattle.tn_text.specs.declared.limits.TheConstants.{FILE_LIMIT}
use Rattle.tn_text.specs.declared.limits.Limit.TheVariants.{File}
use Rattle.tn_io.specs.FileLists.{Files, held}
use Rattle.tn_io.specs.Stores.{Stored, told}
use Rattle.tn_top.specs.declared.refusals.Refusal.{Refusal}
use Rattle.tn_top.specs.declared.refusals.Refusal.TheVariants as refusal
use Rattle.tn_system.specs.Sources.{Sources}
use Rattle.tn_system.specs.Systems.{SystemState}
use Rattle.tn_top.specs.Plans.{Answer, unread, fault, limit, Plan, gives, stops, reads, settles, Goes, stays, reads_on}
use Rattle.tn_top.specs.Plans.{too_long, settles_on, settles_not}
use Rattle.tn_top.specs.OwnFiles.{read_own, over}
use Rattle.tn_top.specs.Inner.Stages.{Unreadable, Unable, Staged}

short-test : (text : List ℕ) → length text ≤ FILE_LIMIT → nat_lt FILE_LIMIT (length text) ≡ false
short-test text short = grind (arith, nat_tests)

long-test : (text : List ℕ) → FILE_LIMIT < length text → nat_lt FILE_LIMIT (length text) ≡ true
long-test text long = grind (arith, nat_tests)

short-of : (text : List ℕ) → nat_lt FILE_LIMIT (length text) ≡ false → length text ≤ FILE_LIMIT
short-of text is = grind (arith, nat_tests)

-- what is read of a file of one's own
own-text : {A : Type 0} (fs : Files) (file text : List ℕ) (next : List ℕ → Plan A) → held fs file ≡ Some text
    → length text ≤ FILE_LIMIT → read_own file (held fs file) next ≡ next text
own-text fs file text next is short = rw (is, short-test text short) refl

own-long : {A : Type 0} (file : List ℕ) (o : Option (List ℕ)) (next : List ℕ → Plan A)
    → IsSomeAnd o (λ text. FILE_LIMIT < length text) → read_own file o next ≡ stops (limit File (FILE_LIMIT + 1))
own-long file None next h = absurd h
own-long file (Some text) next h = rw (long-test text h) refl

own-gap : {A : Type 0} (fs : Files) (file : List ℕ) (next : List ℕ → Plan A) → held fs file ≡ None
    → over fs (reads file next) ≡ stops (unread file)
unfolding over
own-gap fs file next gone = rw gone refl

-- as a plan goes over files, so it goes where they are its own
pub goes-over : {A : Type 0} (fs : Files) (files : Option Files) (p q : Plan A) → Goes (Some fs) p q
    → Goes files (over fs p) (over fs q)
unfolding over
goes-over fs files p q stays = stays
goes-over {A} fs files p q (reads_on {file} {next} text is short rest) =
    subst (λ (r : Plan A). Goes files r (over fs q)) (sym (own-text fs file text (λ t. over fs (next t)) is short))
    (goes-over fs files (next text) q rest)
goes-over {A} fs files p q (too_long {file} {next} long) =
    subst (λ (r : Plan A). Goes files r (stops (limit File (FILE_LIMIT + 1))))
    (sym (own-long file (held fs file) (λ t. over fs (next t)) long)) stays
goes-over fs files p q (settles_on {next} y is rest) = settles_on y is (goes-over fs files (next y) q rest)
goes-over fs files p q (settles_not answer is) = settles_not answer is

-- what a plan gives where the files are its own, it gives over them
module _ {A : Type 0} (fs : Files) (files : Option Files) (x : A) where
  gave : (a : A) (q : Plan A) → q ≡ gives x → Goes files (gives a) q → Goes (Some fs) (gives a) (gives x)
  gave a q e stays = subst (λ (r : Plan A). Goes (Some fs) (gives a) r) e stays

  never : (answer : Answer) (q : Plan A) → q ≡ gives x → Goes files (stops answer) q → ⊥
  never answer q e stays = absurd cc

  settled : (sources : Sources) (next later : SystemState → Plan A) (q : Plan A) → q ≡ gives x
      → ((y : SystemState) → Goes files (later y) (gives x) → Goes (Some fs) (next y) (gives x)) → Goes files (settles sources later) q
      → Goes (Some fs) (settles sources next) (gives x)
  settled sources next later q e f stays = absurd cc
  settled sources next later q e f (settles_on y is rest) =
      settles_on y is (f y (subst (λ (r : Plan A). Goes files (later y) r) e rest))
  settled sources next later q e f (settles_not answer is) = absurd cc

  read : (file : List ℕ) (next later : List ℕ → Plan A) (o : Option (List ℕ)) → held fs file ≡ o
      → ((text : List ℕ) → Goes files (later text) (gives x) → Goes (Some fs) (next text) (gives x))
      → Goes files (read_own file o later) (gives x) → Goes (Some fs) (reads file next) (gives x)
  read file next later None is f g = absurd (never (unread file) (gives x) refl g)
  read file next later (Some text) is f g = at (nat_lt FILE_LIMIT (length text)) refl g
    where
      at : (b : Bool) → nat_lt FILE_LIMIT (length text) ≡ b
          → Goes files (if b then stops (limit File (FILE_LIMIT + 1)) else later text) (gives x)
          → Goes (Some fs) (reads file next) (gives x)
      at true long h = absurd (never (limit File (FILE_LIMIT + 1)) (gives x) refl h)
      at false short h = reads_on text is (short-of text short) (f text h)

  pub given-over : (p : Plan A) → Goes files (over fs p) (gives x) → Goes (Some fs) p (gives x)
  unfolding over
  given-over (gives a) g = gave a (gives x) refl g
  given-over (stops answer) g = absurd (never answer (gives x) refl g)
  given-over (reads file next) g =
      read file next (λ text. over fs (next text)) (held fs file) refl (λ text. given-over (next text)) g
  given-over (settles sources next) g =
      settled sources next (λ y. over fs (next y)) (gives x) refl (λ y. given-over (next y)) g

-- A stage over a store that never fails and holds the files is a stage with files of its own, whatever the
-- store outside.
module _ {T A : Type 0} (seen : T → A) (fs : Files) (p : Plan A) (s own_before own_after : Stored) (told_all : own_before.files ≡ Some fs)
    (calm : Rose own_before.read_faults own_after.read_faults → ⊥) where
  unread-over : (file : List ℕ) → Unreadable p own_before own_after file → Unreadable (over fs p) s s file
  unfolding over
  unread-over file (inl u) = inr (at u.2)
    where
      there : Goes s.files (over fs p) (over fs (reads file u.0))
      there = goes-over fs s.files p (reads file u.0) (subst (λ f. Goes f p (reads file u.0)) told_all u.1)

      at : Rose own_before.read_faults own_after.read_faults ⊎ (told own_before.files file ≡ Some None)
          → Goes s.files (over fs p) (stops (unread file))
      at (inl rose) = absurd (calm rose)
      at (inr e) =
          let all : Some (held fs file) ≡ Some None = ap (λ f. told f file) (sym told_all) ∙ e in
          let gone : held fs file ≡ None = cc in
          subst (λ (r : Plan A). Goes s.files (over fs p) r) (own-gap fs file u.0 gone) there
  unread-over file (inr u) =
      inr (goes-over fs s.files p (stops (unread file)) (subst (λ f. Goes f p (stops (unread file))) told_all u))

  unable-over : (why : Refusal) → Unable p own_before own_after why → Unable (over fs p) s s why
  unfolding Unable over
  unable-over (refusal.Fault file first) u =
      goes-over fs s.files p (stops (fault file first)) (subst (λ f. Goes f p (stops (fault file first))) told_all u)
  unable-over (refusal.Limit word count) u =
      goes-over fs s.files p (stops (limit word count)) (subst (λ f. Goes f p (stops (limit word count))) told_all u)
  unable-over (refusal.Unread file) u = unread-over file u
  unable-over (refusal.Unwritten file) u = u
  unable-over refusal.Unprinted u = u
  unable-over (refusal.NotEnabled file line tokens) u = u
  unable-over refusal.NoMemory u = u

  pub staged-over : (r : Result T Refusal) → Staged seen p own_before own_after r → Staged seen (over fs p) s s r
  unfolding over
  staged-over (Ok x) h = record {
    ok = goes-over fs s.files p (gives (seen x)) (subst (λ f. Goes f p (gives (seen x))) told_all h.ok);
    err = tt;
    same = refl;
    count = omega arith;
  }
  staged-over (Err why) h = record { ok = tt; err = unable-over why h.err; same = refl; count = omega arith }
