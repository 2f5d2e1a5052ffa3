-- A plan that gives something came to it through each of its parts.
use Rattle.std.proofs.Common.{◌≡◌, ◌⊎◌, inl, inr, ℕ, ◌≤◌, List, [], length, Option, Some, None, IfSome, Result}
use Rattle.std.proofs.Common.{refl, sym, ap, ◌∙◌, subst, codes}
use Rattle.tn_io.specs.FileLists.{Files, held}
use Rattle.tn_text.specs.declared.limits.TheConstants.{FILE_LIMIT}
use Rattle.tn_io.specs.Outs.{Printed, told_then}
use Rattle.tn_io.specs.Stores.{Stored}
use Rattle.tn_config.specs.Configurations.{ConfigState}
use Rattle.tn_system.specs.Sources.{Sources, module_files, library_files}
use Rattle.tn_system.specs.Systems.{SystemState, IsSystem}
use Rattle.tn_top.specs.declared.refusals.Refusal.{Refusal}
use Rattle.tn_top.specs.declared.refusals.Refusal.TheVariants as refusal
use Rattle.tn_top.specs.declared.statuses.Status.TheVariants as status
use Rattle.tn_top.specs.Plans.{Answer, done, Plan, gives, stops, reads, settles, then_plan, each, Goes, stays, reads_on, too_long}
use Rattle.tn_top.specs.Plans.{settles_on, settles_not}
use Rattle.tn_top.specs.ModulePlans.{module_plan}
use Rattle.tn_top.specs.Commands.{code_plan, written_from}
use Rattle.tn_top.specs.OneProcessor.{boot_stream}
use Rattle.tn_top.specs.SystemPlans.{config_plan, library_file_plan, sources_of, files_plan, system_plan, system_stream, stream_written}
use Rattle.tn_top.specs.SystemPlans.{system_tree, tree_printed}
use Rattle.tn_top.specs.Refusals.{end_status}
use Rattle.tn_top.specs.Outcomes.{Told, Holds}
use Rattle.tn_schedule.specs.declared.acts.Line.{Line}
use Rattle.tn_top.specs.ReplayPlans.{processor_names, schedule_plan, ReplaySources, replay_sources, replay_sources_plan}
use Rattle.tn_top.specs.ReplayPlans.{replay_of, said_of}
use Rattle.tn_top.specs.ReplayPlans.{replay_answer, replay_printed, replay_plan}
use Rattle.tn_top.specs.GridPlans.{grid_files, grid_text, grid_printed, grid_system, grid_plan}
use Rattle.tn_top.specs.Builds.{IsBuilt, IsShown, IsReplayed, IsGridShown, IsStarted}
use Rattle.tn_top.specs.Inner.Ends.{Ends, wrote_all, showed_all, unable, wrote_part, wrote_for_want, showed_part, showed_for_want}
use Rattle.tn_top.specs.Inner.Ends.{not_enabled}
use Rattle.tn_top.proofs.OwnFileLaws.{given-over}
use Rattle.tn_system.proofs.Executing.{executes}
use Rattle.tn_top.proofs.SystemBoots.{system-boots, system-truth, one-boots}

module _ {B : Type 0} (files : Option Files) (b : B) where
  -- a plan that gives a value comes to no other
  given-same : (a : B) (q : Plan B) → q ≡ gives b → Goes files (gives a) q → a ≡ b
  given-same a q e stays = cc

  stopped-never : (a : Answer) (q : Plan B) → q ≡ gives b → Goes files (stops a) q → ⊥
  stopped-never a q e stays = absurd cc

  -- behind a file, and behind a system
  behind-file : (P : Type 0) (file : List ℕ) (next : List ℕ → Plan B) (q : Plan B) → q ≡ gives b
      → ((text : List ℕ) → IfSome files (λ fs. held fs file ≡ Some text) → length text ≤ FILE_LIMIT → Goes files (next text) (gives b) → P)
      → Goes files (reads file next) q → P
  behind-file P file next q e f stays = absurd cc
  behind-file P file next q e f (reads_on text is short rest) = f text is short (subst (λ r. Goes files (next text) r) e rest)
  behind-file P file next q e f (too_long long) = absurd cc

  behind-system : (sources : Sources) (next : SystemState → Plan B) (q : Plan B) → q ≡ gives b → Goes files (settles sources next) q
      → (y : SystemState) × IsSystem sources y × Goes files (next y) (gives b)
  behind-system sources next q e stays = absurd cc
  behind-system sources next q e (settles_on y is rest) = (y, is, subst (λ r. Goes files (next y) r) e rest)
  behind-system sources next q e (settles_not answer is) = absurd cc

-- a plan with another behind it
pub came-through : {A B : Type 0} (files : Option Files) (b : B) (p : Plan A) (k : A → Plan B) → Goes files (then_plan p k) (gives b)
    → (x : A) × Goes files p (gives x) × Goes files (k x) (gives b)
unfolding then_plan
came-through files b (gives x) k g = (x, stays, g)
came-through files b (stops answer) k g = absurd (stopped-never files b answer (gives b) refl g)
came-through {A} {B} files b (reads file next) k g =
    behind-file files b ((x : A) × Goes files (reads file next) (gives x) × Goes files (k x) (gives b)) file
    (λ text. then_plan (next text) k) (gives b) refl
    (λ text is short rest.
    let inner = came-through files b (next text) k rest in (inner.0, reads_on text is short inner.1, inner.2)) g
came-through files b (settles sources next) k g =
    let found = behind-system files b sources (λ y. then_plan (next y) k) (gives b) refl g in
    let inner = came-through files b (next found.0) k found.2 in
    (inner.0, settles_on found.0 found.1 inner.1, inner.2)

-- a system that a plan gives is that of its sources
pub system-found : (files : Option Files) (file : List ℕ) (c : ConfigState) (y : SystemState)
    → Goes files (system_plan file) (gives (c, y)) → (s : Sources) × (s.config_file ≡ file) × (s.config ≡ c) × IsSystem s y
system-found files file c y g =
    let config = came-through files (c, y) (config_plan file) (λ k. then_plan (files_plan file k) (λ z. gives (k, z))) g in
    let made = came-through files (c, y) (files_plan file config.0) (λ z. gives (config.0, z)) config.2 in
    let same : (config.0, made.0) ≡ (c, y) = given-same files (c, y) (config.0, made.0) (gives (c, y)) refl made.2 in
    let pool = came-through files made.0 (each module_plan (module_files config.0))
    (λ ms. then_plan (each library_file_plan (library_files config.0)) (λ ls. settles (sources_of file config.0 ms ls) gives)) made.1 in
    let shelf = came-through files made.0 (each library_file_plan (library_files config.0))
    (λ ls. settles (sources_of file config.0 pool.0 ls) gives) pool.2 in
    let sources : Sources = sources_of file config.0 pool.0 shelf.0 in
    let found = behind-system files made.0 sources gives (gives made.0) refl shelf.2 in
    let value : found.0 ≡ made.0 = given-same files made.0 found.0 (gives made.0) refl found.2 in
    (sources, refl, ap (λ p. p.0) same, subst (IsSystem sources) (value ∙ ap (λ p. p.1) same) found.1)

same-written : (target file made bytes : List ℕ) → done (Some (target, made)) [] ≡ done (Some (file, bytes)) []
    → (file ≡ target) × (bytes ≡ made)
same-written target file made bytes e =
    let pair : ◌≡◌ {A = List ℕ × List ℕ} (target, made) (file, bytes) = cc in (ap (λ p. p.0) (sym pair), ap (λ p. p.1) (sym pair))

same-text : (made text : List ℕ) → done None made ≡ done None text → text ≡ made
same-text made text e = cc

-- ---- how a command that is done ended

-- the plan gave a file, which was written, or a text, which was printed
record Wrote (plan : Plan Answer) (before after : Stored) : Type 0 where
  file : List ℕ
  bytes : List ℕ
  goes : Goes before.files plan (gives (done (Some (file, bytes)) []))
  told : Told before.files after.files (Holds file bytes)

record Showed (plan : Plan Answer) (before : Stored) (old new : Printed) : Type 0 where
  text : List ℕ
  goes : Goes before.files plan (gives (done None text))
  printed : new.bytes ≡ told_then text old.bytes

ends-done : {T : Type 0} (plan : Plan Answer) (before after : Stored) (old new : Printed) (r : Result T Refusal)
    → Ends plan before after old new r → end_status r ≡ status.Done → Wrote plan before after ⊎ Showed plan before old new
ends-done plan before after old new r (wrote_all x file bytes g t o p) e =
    inl (record { file = file; bytes = bytes; goes = g; told = t })
ends-done plan before after old new r (showed_all x text g f p) e = inr (record { text = text; goes = g; printed = p })
ends-done plan before after old new r (unable (refusal.Fault file first) u f p) e = absurd cc
ends-done plan before after old new r (unable (refusal.Limit word count) u f p) e = absurd cc
ends-done plan before after old new r (unable (refusal.Unread file) u f p) e = absurd cc
ends-done plan before after old new r (unable (refusal.Unwritten file) u f p) e = absurd cc
ends-done plan before after old new r (unable refusal.Unprinted u f p) e = absurd cc
ends-done plan before after old new r (unable (refusal.NotEnabled file line tokens) u f p) e = absurd cc
ends-done plan before after old new r (unable refusal.NoMemory u f p) e = absurd cc
ends-done plan before after old new r (wrote_part file bytes g t rose p) e = absurd cc
ends-done plan before after old new r (wrote_for_want file bytes g t p) e = absurd cc
ends-done plan before after old new r (showed_part text answer is g f rose b) e = absurd cc
ends-done plan before after old new r (showed_for_want text answer is g f b) e = absurd cc
ends-done plan before after old new r (not_enabled file line tokens text g f p) e = absurd cc

-- ---- build

built : (config target : List ℕ) (before after : Stored) → Wrote (then_plan (system_plan config) (stream_written target)) before after
    → IsBuilt config target before after
built config target before after w =
    let made = came-through before.files (done (Some (w.file, w.bytes)) []) (system_plan config) (stream_written target) w.goes in
    let same : done (Some (target, system_stream made.0.1)) [] ≡ done (Some (w.file, w.bytes)) [] =
    given-same before.files (done (Some (w.file, w.bytes)) []) (done (Some (target, system_stream made.0.1)) [])
    (gives (done (Some (w.file, w.bytes)) [])) refl made.2 in
    let of = system-found before.files config made.0.0 made.0.1 made.1 in
    let written = same-written target w.file (system_stream made.0.1) w.bytes same in
    record {
      sources = of.0;
      system = made.0.1;
      of_file = of.1;
      makes = of.3;
      found = subst (λ c. Goes before.files (system_plan config) (gives (c, made.0.1))) (sym of.2) made.1;
      written = subst (λ n. Told before.files after.files (Holds n (system_stream made.0.1))) written.0
          (subst (λ b. Told before.files after.files (Holds w.file b)) written.1 w.told);
      boots = system-boots of.0 made.0.1 of.3;
      executes = executes of.0 made.0.1 of.3;
    }

pub ends-built : {T : Type 0} (config target : List ℕ) (before after : Stored) (old new : Printed) (r : Result T Refusal)
    → Ends (then_plan (system_plan config) (stream_written target)) before after old new r → end_status r ≡ status.Done
    → IsBuilt config target before after
ends-built config target before after old new r ends e =
    elim (ends-done (then_plan (system_plan config) (stream_written target)) before after old new r ends e) [
      | inl w ↦ built config target before after w
      | inr s ↦ (let made = came-through before.files (done None s.text) (system_plan config) (stream_written target) s.goes in
          let same : done (Some (target, system_stream made.0.1)) [] ≡ done None s.text =
          given-same before.files (done None s.text) (done (Some (target, system_stream made.0.1)) []) (gives (done None s.text)) refl
          made.2 in
          absurd cc)
    ]

-- ---- tree

shown : (config : List ℕ) (before : Stored) (old new : Printed) → Showed (then_plan (system_plan config) tree_printed) before old new
    → IsShown config before old new
shown config before old new s =
    let made = came-through before.files (done None s.text) (system_plan config) tree_printed s.goes in
    let same : done None (system_tree made.0) ≡ done None s.text =
    given-same before.files (done None s.text) (done None (system_tree made.0)) (gives (done None s.text)) refl made.2 in
    let of = system-found before.files config made.0.0 made.0.1 made.1 in
    record {
      sources = of.0;
      system = made.0.1;
      of_file = of.1;
      makes = of.3;
      found = subst (λ c. Goes before.files (system_plan config) (gives (c, made.0.1))) (sym of.2) made.1;
      printed = subst (λ c. new.bytes ≡ told_then (system_tree (c, made.0.1)) old.bytes) (sym of.2)
          (s.printed ∙ ap (λ text. told_then text old.bytes) (same-text (system_tree made.0) s.text same));
      boots = system-boots of.0 made.0.1 of.3;
    }

pub ends-shown : {T : Type 0} (config : List ℕ) (before after : Stored) (old new : Printed) (r : Result T Refusal)
    → Ends (then_plan (system_plan config) tree_printed) before after old new r → end_status r ≡ status.Done
    → IsShown config before old new
ends-shown config before after old new r ends e =
    elim (ends-done (then_plan (system_plan config) tree_printed) before after old new r ends e) [
      | inl w ↦ (let made = came-through before.files (done (Some (w.file, w.bytes)) []) (system_plan config) tree_printed w.goes in
          let same : done None (system_tree made.0) ≡ done (Some (w.file, w.bytes)) [] =
          given-same before.files (done (Some (w.file, w.bytes)) []) (done None (system_tree made.0))
          (gives (done (Some (w.file, w.bytes)) [])) refl made.2 in
          absurd cc)
      | inr s ↦ shown config before old new s
    ]

-- ---- replay

-- the system of a replay is that of its sources
pub replay-found : (files : Option Files) (config schedule : List ℕ) (r : ReplaySources)
    → Goes files (replay_sources_plan config schedule) (gives r)
    → (s : Sources) × (s.config_file ≡ config) × (s.config ≡ r.config) × IsSystem s r.system
replay-found files config schedule r g =
    let first = came-through files r (system_plan config)
    (λ x. then_plan (schedule_plan schedule (processor_names x.0)) (λ t. gives (replay_sources x t))) g in
    let second = came-through files r (schedule_plan schedule (processor_names first.0.0)) (λ t. gives (replay_sources first.0 t))
    first.2 in
    let is : replay_sources first.0 second.0 ≡ r =
    given-same files r (replay_sources first.0 second.0) (gives r) refl second.2 in
    let of = system-found files config first.0.0 first.0.1 first.1 in
    (of.0, of.1, of.2 ∙ ap (λ t. t.config) is, subst (IsSystem of.0) (ap (λ t. t.system) is) of.3)

-- an answer of a replay that is all done
all-done : (file text : List ℕ) (acts : List Line) (printed : List ℕ) (o : Option ℕ) (said : List ℕ)
    → said_of file text acts printed o ≡ done None said → (o ≡ None) × (said ≡ printed)
all-done file text acts printed None said e = (refl, same-text printed said e)
all-done file text acts printed (Some i) said e = absurd cc

never-written : (file text : List ℕ) (acts : List Line) (printed : List ℕ) (o : Option ℕ) (written : List ℕ × List ℕ)
    → said_of file text acts printed o ≡ done (Some written) [] → ⊥
never-written file text acts printed None written e = absurd cc
never-written file text acts printed (Some i) written e = absurd cc

replayed : (config schedule : List ℕ) (before : Stored) (old new : Printed) → Showed (replay_plan config schedule) before old new
    → IsReplayed config schedule before old new
replayed config schedule before old new s =
    let made = came-through before.files (done None s.text) (replay_sources_plan config schedule) (replay_printed schedule) s.goes in
    let r = made.0 in
    let same : replay_answer schedule r ≡ done None s.text =
    given-same before.files (done None s.text) (replay_answer schedule r) (gives (done None s.text)) refl made.2 in
    let all = all-done schedule r.text r.schedule.lines (replay_of r).text (replay_of r).refused s.text same in
    let of = replay-found before.files config schedule r made.1 in
    record {
      sources = of.0;
      replayed = r;
      of_file = of.1;
      of_config = of.2;
      makes = of.3;
      found = made.1;
      whole = all.0;
      printed = s.printed ∙ ap (λ text. told_then text old.bytes) all.1;
      boots = system-boots of.0 r.system of.3;
      executes = executes of.0 r.system of.3;
      truth = system-truth of.0 r of.2 of.3;
    }

pub ends-replayed : {T : Type 0} (config schedule : List ℕ) (before after : Stored) (old new : Printed) (r : Result T Refusal)
    → Ends (replay_plan config schedule) before after old new r → end_status r ≡ status.Done
    → IsReplayed config schedule before old new
ends-replayed config schedule before after old new r ends e =
    elim (ends-done (replay_plan config schedule) before after old new r ends e) [
      | inl w ↦ (let made = came-through before.files (done (Some (w.file, w.bytes)) []) (replay_sources_plan config schedule)
          (replay_printed schedule) w.goes in
          let same : replay_answer schedule made.0 ≡ done (Some (w.file, w.bytes)) [] =
          given-same before.files (done (Some (w.file, w.bytes)) []) (replay_answer schedule made.0)
          (gives (done (Some (w.file, w.bytes)) [])) refl made.2 in
          absurd (never-written schedule made.0.text made.0.schedule.lines (replay_of made.0).text (replay_of made.0).refused
          (w.file, w.bytes) same))
      | inr s ↦ replayed config schedule before old new s
    ]

-- ---- grid

gridded : (n : ℕ) (before : Stored) (old new : Printed) → Showed (grid_plan n) before old new → IsGridShown n old new
gridded n before old new s =
    let made = came-through before.files (done None s.text) (grid_system n) (grid_printed n) s.goes in
    let same : done None (grid_text n made.0.1) ≡ done None s.text =
    given-same before.files (done None s.text) (done None (grid_text n made.0.1)) (gives (done None s.text)) refl made.2 in
    let own : Goes (Some (grid_files n)) (system_plan (codes "grid.cfg")) (gives made.0) =
    given-over (grid_files n) before.files made.0 (system_plan (codes "grid.cfg")) made.1 in
    let of = system-found (Some (grid_files n)) (codes "grid.cfg") made.0.0 made.0.1 own in
    record {
      sources = of.0;
      system = made.0.1;
      of_file = of.1;
      makes = of.3;
      found = subst (λ c. Goes (Some (grid_files n)) (system_plan (codes "grid.cfg")) (gives (c, made.0.1))) (sym of.2) own;
      printed = s.printed ∙ ap (λ text. told_then text old.bytes) (same-text (grid_text n made.0.1) s.text same);
      boots = system-boots of.0 made.0.1 of.3;
    }

pub ends-gridded : {T : Type 0} (n : ℕ) (before after : Stored) (old new : Printed) (r : Result T Refusal)
    → Ends (grid_plan n) before after old new r → end_status r ≡ status.Done → IsGridShown n old new
ends-gridded n before after old new r ends e =
    elim (ends-done (grid_plan n) before after old new r ends e) [
      | inl w ↦ (let made = came-through before.files (done (Some (w.file, w.bytes)) []) (grid_system n) (grid_printed n) w.goes in
          let same : done None (grid_text n made.0.1) ≡ done (Some (w.file, w.bytes)) [] =
          given-same before.files (done (Some (w.file, w.bytes)) []) (done None (grid_text n made.0.1))
          (gives (done (Some (w.file, w.bytes)) [])) refl made.2 in
          absurd cc)
      | inr s ↦ gridded n before old new s
    ]

-- ---- one

started : (source target : List ℕ) (link : ℕ) (before after : Stored)
    → Wrote (then_plan (code_plan source) (written_from target (boot_stream link))) before after → IsStarted source target link before after
started source target link before after w =
    let made = came-through before.files (done (Some (w.file, w.bytes)) []) (code_plan source) (written_from target (boot_stream link))
    w.goes in
    let same : done (Some (target, boot_stream link made.0)) [] ≡ done (Some (w.file, w.bytes)) [] =
    given-same before.files (done (Some (w.file, w.bytes)) []) (done (Some (target, boot_stream link made.0)) [])
    (gives (done (Some (w.file, w.bytes)) [])) refl made.2 in
    let written = same-written target w.file (boot_stream link made.0) w.bytes same in
    record {
      code = made.0;
      found = made.1;
      written = subst (λ n. Told before.files after.files (Holds n (boot_stream link made.0))) written.0
          (subst (λ b. Told before.files after.files (Holds w.file b)) written.1 w.told);
      boots = one-boots link made.0;
    }

pub ends-started : {T : Type 0} (source target : List ℕ) (link : ℕ) (before after : Stored) (old new : Printed) (r : Result T Refusal)
    → Ends (then_plan (code_plan source) (written_from target (boot_stream link))) before after old new r
    → end_status r ≡ status.Done → IsStarted source target link before after
ends-started source target link before after old new r ends e =
    elim (ends-done (then_plan (code_plan source) (written_from target (boot_stream link))) before after old new r ends e) [
      | inl w ↦ started source target link before after w
      | inr s ↦ (let made = came-through before.files (done None s.text) (code_plan source) (written_from target (boot_stream link))
          s.goes in
          let same : done (Some (target, boot_stream link made.0)) [] ≡ done None s.text =
          given-same before.files (done None s.text) (done (Some (target, boot_stream link made.0)) []) (gives (done None s.text)) refl
          made.2 in
          absurd cc)
    ]
