-- Of stages, one after the other.
use Rattle.std.proofs.Common.{◌≡◌, ℕ, ◌≤◌, ◌⊎◌, inl, inr, List, [], ◌∷◌, ◌++◌, Some, None, Result, Ok, Err, IfOk, IfErr, refl, sym, ap}
use Rattle.std.proofs.Common.{◌∙◌, subst, arith, Vec, Global}
use Rattle.tn_text.specs.Counts.{Rose}
use Rattle.tn_io.specs.Stores.{Stored, told}
use Rattle.tn_top.specs.declared.refusals.Refusal.{Refusal}
use Rattle.tn_top.specs.declared.refusals.Refusal.TheVariants.{Fault, Limit, Unread, Unwritten, Unprinted, NotEnabled, NoMemory}
use Rattle.tn_system.specs.Sources.{Sources}
use Rattle.tn_system.specs.Systems.{SystemState}
use Rattle.tn_top.specs.Plans.{Answer, unread, fault, limit, Plan, gives, stops, reads, settles, then_plan, at_once, each_from, each}
use Rattle.tn_top.specs.Plans.{Goes, stays, settles_on, settles_not}
use Rattle.tn_top.specs.Inner.Stages.{Unreadable, Unable, Staged, Makes, Settles}
use Rattle.tn_top.proofs.PlanLaws.{goes-joined, goes-then}

rose-later : (a b c : ℕ) → a ≤ b → Rose b c → Rose a c
rose-later a b c h (inl r) = inl (omega arith)
rose-later a b c h (inr r) = inr r

-- what stops a plan stops it with another behind it
unread-then : {A B : Type 0} (k : A → Plan B) (p : Plan A) (before after : Stored) (file : List ℕ) → Unreadable p before after file
    → Unreadable (then_plan p k) before after file
unfolding then_plan
unread-then k p before after file (inl h) =
    inl ((λ text. then_plan (h.0 text) k), goes-then before.files k p (reads file h.0) h.1, h.2)
unread-then k p before after file (inr g) = inr (goes-then before.files k p (stops (unread file)) g)

pub unable-then : {A B : Type 0} (k : A → Plan B) (p : Plan A) (before after : Stored) (why : Refusal) → Unable p before after why
    → Unable (then_plan p k) before after why
unfolding Unable then_plan
unable-then k p before after (Fault file first) h = goes-then before.files k p (stops (fault file first)) h
unable-then k p before after (Limit word count) h = goes-then before.files k p (stops (limit word count)) h
unable-then k p before after (Unread file) h = unread-then k p before after file h
unable-then k p before after (Unwritten file) h = h
unable-then k p before after Unprinted h = h
unable-then k p before after (NotEnabled file line tokens) h = h
unable-then k p before after NoMemory h = h

-- what stops a plan behind a place that was reached stops the whole
unread-behind : {A : Type 0} (p q : Plan A) (before mid after : Stored) (file : List ℕ) → mid.files ≡ before.files
    → before.read_faults ≤ mid.read_faults → Goes before.files p q → Unreadable q mid after file → Unreadable p before after file
unread-behind p q before mid after file e c g (inl h) =
    inl (h.0, goes-joined before.files p q _ g (subst (λ f. Goes f q (reads file h.0)) e h.1), at h.2)
  where
    at : Rose mid.read_faults after.read_faults ⊎ (told mid.files file ≡ Some None)
        → Rose before.read_faults after.read_faults ⊎ (told before.files file ≡ Some None)
    at (inl r) = inl (rose-later before.read_faults mid.read_faults after.read_faults c r)
    at (inr m) = inr (ap (λ f. told f file) (sym e) ∙ m)
unread-behind p q before mid after file e c g (inr h) =
    inr (goes-joined before.files p q _ g (subst (λ f. Goes f q (stops (unread file))) e h))

pub unable-behind : {A : Type 0} (p q : Plan A) (before mid after : Stored) (why : Refusal) → mid.files ≡ before.files
    → before.read_faults ≤ mid.read_faults → Goes before.files p q → Unable q mid after why → Unable p before after why
unfolding Unable
unable-behind p q before mid after (Fault file first) e c g h =
    goes-joined before.files p q _ g (subst (λ f. Goes f q (stops (fault file first))) e h)
unable-behind p q before mid after (Limit word count) e c g h =
    goes-joined before.files p q _ g (subst (λ f. Goes f q (stops (limit word count))) e h)
unable-behind p q before mid after (Unread file) e c g h = unread-behind p q before mid after file e c g h
unable-behind p q before mid after (Unwritten file) e c g h = h
unable-behind p q before mid after Unprinted e c g h = h
unable-behind p q before mid after (NotEnabled file line tokens) e c g h = h
unable-behind p q before mid after NoMemory e c g h = h

-- a first stage that gave nothing
pub staged-stopped : {T U A B : Type 0} (one : T → A) (two : U → B) (k : A → Plan B) (p : Plan A) (before after : Stored) (why : Refusal)
    → Staged one p before after (Err why) → Staged two (then_plan p k) before after (Err why)
staged-stopped one two k p before after why s = record {
  ok = tt;
  err = unable-then k p before after why s.err;
  same = s.same;
  count =
      s.count;
}

-- a first stage that gave a value, and what follows
pub staged-then : {T U A B : Type 0} (one : T → A) (two : U → B) (k : A
    → Plan B) (p : Plan A) (before mid after : Stored) (x : T) (result : Result U Refusal) → Staged one p before mid (Ok x)
    → Staged two (k (one x)) mid after result → Staged two (then_plan p k) before after result
unfolding then_plan
staged-then {U} one two k p before mid after x result s t =
    let files : mid.files ≡ before.files = ap (λ m. m.files) s.same in
    let there : Goes before.files (then_plan p k) (k (one x)) = goes-then before.files k p (gives (one x)) s.ok in
    record {
      ok = at_ok result files there t.ok;
      err = at_err result files there t.err;
      same = t.same ∙ ap {A = Stored} (λ m. record m { read_faults = after.read_faults }) s.same;
      count = omega (arith, s.count, t.count);
    }
  where
    at_ok : (r : Result U Refusal) → mid.files ≡ before.files → Goes before.files (then_plan p k) (k (one x))
        → IfOk r (λ y. Goes mid.files (k (one x)) (gives (two y))) → IfOk r (λ y. Goes before.files (then_plan p k) (gives (two y)))
    at_ok (Ok y) e g h = goes-joined before.files (then_plan p k) (k (one x)) (gives (two y)) g
        (subst (λ f. Goes f (k (one x)) (gives (two y))) e h)
    at_ok (Err w) e g h = tt

    at_err : (r : Result U Refusal) → mid.files ≡ before.files → Goes before.files (then_plan p k) (k (one x))
        → IfErr r (Unable (k (one x)) mid after) → IfErr r (Unable (then_plan p k) before after)
    at_err (Ok y) e g h = tt
    at_err (Err w) e g h = unable-behind (then_plan p k) (k (one x)) before mid after w e s.count g h

-- a stage that reads nothing
pub staged-made : {T A : Type 0} (seen : T → A) (made : Result A Answer) (s : Stored) (result : Result T Refusal) → Makes seen made result
    → Staged seen (at_once made) s s result
unfolding Unable
staged-made seen made s (Ok x) h = record {
  ok = subst (λ m. Goes s.files (at_once m) (gives (seen x))) (sym h) stays;
  err = tt;
  same =
      refl;
  count = omega arith;
}
staged-made seen made s (Err (Fault file first)) h = record {
  ok = tt;
  err =
      subst (λ m. Goes s.files (at_once m) (stops (fault file first))) (sym h) stays;
  same = refl;
  count = omega arith;
}
staged-made seen made s (Err (Limit word count)) h = record {
  ok = tt;
  err =
      subst (λ m. Goes s.files (at_once m) (stops (limit word count))) (sym h) stays;
  same = refl;
  count = omega arith;
}
staged-made seen made s (Err (Unread file)) h = absurd h
staged-made seen made s (Err (Unwritten file)) h = absurd h
staged-made seen made s (Err Unprinted) h = absurd h
staged-made seen made s (Err (NotEnabled file line tokens)) h = absurd h
staged-made seen made s (Err NoMemory) h = record { ok = tt; err = tt; same = refl; count = omega arith }

-- a file is read, and something made of its text
module _ {T A : Type 0} (seen : T → A) (made : List ℕ → Result A Answer) (file : List ℕ) (before after : Stored) where
  pub staged-read : (text : Vec ℕ Global) (result : Result T Refusal)
      → Staged {T = Vec ℕ Global} (λ t. t.items) (reads file gives) before after (Ok text) → Makes seen (made text.items) result
      → Staged seen (then_plan (reads file gives) (λ t. at_once (made t))) before after result
  staged-read text result read makes =
      staged-then (λ t. t.items) seen (λ t. at_once (made t)) (reads file gives) before after after text result read
      (staged-made seen (made text.items) after result makes)

  pub staged-unread : (why : Refusal) → Staged {T = Vec ℕ Global} (λ t. t.items) (reads file gives) before after (Err why)
      → Staged {T = T} seen (then_plan (reads file gives) (λ t. at_once (made t))) before after (Err why)
  staged-unread why failed =
      staged-stopped (λ t. t.items) seen (λ t. at_once (made t)) (reads file gives) before after why failed

-- a stage that settles a system
pub staged-settled : {T : Type 0} (seen : T → SystemState) (sources : Sources) (s : Stored) (result : Result T Refusal)
    → Settles seen sources result → Staged seen (settles sources gives) s s result
unfolding Unable
staged-settled seen sources s (Ok x) h = record {
  ok = settles_on (seen x) h stays;
  err = tt;
  same = refl;
  count = omega arith;
}
staged-settled seen sources s (Err (Fault file first)) h = record {
  ok = tt;
  err = settles_not (fault file first) h;
  same = refl;
  count = omega arith;
}
staged-settled seen sources s (Err (Limit word count)) h = record {
  ok = tt;
  err = settles_not (limit word count) h;
  same = refl;
  count = omega arith;
}
staged-settled seen sources s (Err (Unread file)) h = absurd h
staged-settled seen sources s (Err (Unwritten file)) h = absurd h
staged-settled seen sources s (Err Unprinted) h = absurd h
staged-settled seen sources s (Err (NotEnabled file line tokens)) h = absurd h
staged-settled seen sources s (Err NoMemory) h = record { ok = tt; err = tt; same = refl; count = omega arith }

-- a stage for which there was no memory
pub staged-wanting : {T A : Type 0} (seen : T → A) (p : Plan A) (before after : Stored)
    → after ≡ record before { read_faults = after.read_faults } → before.read_faults ≤ after.read_faults
    → Staged {T = T} seen p before after (Err NoMemory)
unfolding Unable
staged-wanting seen p before after same count = record { ok = tt; err = tt; same = same; count = count }

-- a stage whose value is seen in another way, with nothing more read
pub staged-seen : {T U A B : Type 0} (one : T → A) (two : U → B) (k : A → B) (p : Plan A) (before after : Stored) (x : T) (y : U)
    → two y ≡ k (one x) → Staged one p before after (Ok x) → Staged two (then_plan p (λ a. gives (k a))) before after (Ok y)
unfolding then_plan
staged-seen one two k p before after x y is s = record {
  ok = subst (λ v. Goes before.files (then_plan p (λ a. gives (k a))) (gives v)) (sym is)
      (goes-then before.files (λ a. gives (k a)) p (gives (one x)) s.ok);
  err = tt;
  same = s.same;
  count = s.count;
}

-- in a loop over several: those before were done, one after the other
pub record Walked {A B : Type 0} (f : B → Plan A) (all rest : List B) (so_far : List A) (before now : Stored) : Type 0 where
  pub goes : Goes before.files (each f all) (each_from f so_far rest)
  pub same : now ≡ record before { read_faults = now.read_faults }
  pub count : before.read_faults ≤ now.read_faults

pub walked-start : {A B : Type 0} (f : B → Plan A) (all : List B) (s : Stored) → Walked f all all [] s s
walked-start f all s = record { goes = stays; same = refl; count = omega arith }

module _ {T A B : Type 0} (seen : T → A) (f : B → Plan A) (all rest : List B) (b : B) (so_far : List A) (before now after : Stored)
    (w : Walked f all (b ∷ rest) so_far before now) where
  pub walked-step : (x : T) → Staged seen (f b) now after (Ok x) → Walked f all rest (so_far ++ seen x ∷ []) before after
  unfolding each_from then_plan
  walked-step x s = record {
    goes = goes-joined before.files (each f all) (each_from f so_far (b ∷ rest)) (each_from f (so_far ++ seen x ∷ []) rest) w.goes
        (subst (λ files. Goes files (each_from f so_far (b ∷ rest)) (each_from f (so_far ++ seen x ∷ []) rest)) (ap (λ m. m.files) w.same)
        (goes-then now.files (λ y. each_from f (so_far ++ y ∷ []) rest) (f b) (gives (seen x)) s.ok));
    same = s.same ∙ ap {A = Stored} (λ m. record m { read_faults = after.read_faults }) w.same;
    count = omega (arith, w.count, s.count);
  }

  pub walked-stopped : {U : Type 0} (two : U → List A) (why : Refusal) → Staged seen (f b) now after (Err why)
      → Staged two (each f all) before after (Err why)
  unfolding each_from then_plan
  walked-stopped two why s = record {
    ok = tt;
    err = unable-behind (each f all) (each_from f so_far (b ∷ rest)) before now after why (ap (λ m. m.files) w.same) w.count w.goes
        (unable-then (λ y. each_from f (so_far ++ y ∷ []) rest) (f b) now after why s.err);
    same = s.same ∙ ap {A = Stored} (λ m. record m { read_faults = after.read_faults }) w.same;
    count = omega (arith, w.count, s.count);
  }

pub walked-wanting : {U A B : Type 0} (two : U → List A) (f : B → Plan A) (all rest : List B) (so_far : List A) (before now : Stored)
    → Walked f all rest so_far before now → Staged two (each f all) before now (Err NoMemory)
unfolding Unable
walked-wanting two f all rest so_far before now w = record { ok = tt; err = tt; same = w.same; count = w.count }

pub walked-end : {U A B : Type 0} (two : U → List A) (f : B → Plan A) (all : List B) (so_far : List A) (before now : Stored) (xs : U)
    → Walked f all [] so_far before now → two xs ≡ so_far → Staged two (each f all) before now (Ok xs)
unfolding each_from
walked-end two f all so_far before now xs w e = record {
  ok = subst (λ v. Goes before.files (each f all) (gives v)) (sym e) w.goes;
  err = tt;
  same = w.same;
  count = w.count;
}
