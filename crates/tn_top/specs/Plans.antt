-- What a command reads, one file after the other, and what it makes of it.
use Rattle.std.specs.Prelude.{◌≡◌, ℕ, ◌+◌, ◌<◌, ◌≤◌, List, [], ◌∷◌, ◌++◌, length, Option, Some, None, IfSome, IsSomeAnd, Result}
use Rattle.std.specs.Prelude.{Ok, Err}
use Rattle.tn_io.specs.FileLists.{Files, held}
use Rattle.tn_text.specs.declared.faults.Fault.{Fault}
use Rattle.tn_text.specs.declared.limits.TheConstants.{FILE_LIMIT}
use Rattle.tn_text.specs.declared.limits.Limit.{Limit}
use Rattle.tn_text.specs.declared.limits.Limit.TheVariants.{File}
use Rattle.tn_net.specs.Lines.{IsAdmitted}
use Rattle.tn_config.specs.Networks.{described}
use Rattle.tn_system.specs.declared.systems.SystemFault.TheVariants as system
use Rattle.tn_system.specs.Sources.{Sources}
use Rattle.tn_system.specs.Systems.{SystemState, IsSystem}
use Rattle.tn_system.specs.Faults.{IsSystemFault}

-- What is answered on words and files, where nothing fails and memory suffices. usage: the words spell no
-- command; unread: this file isn't there; fault: this file has this fault, the first of all; limit: this
-- limit is passed, by this count; refused: the step of this line of a file isn't enabled, and what the
-- lines before it print is printed; done: with a file written, if the command writes one, and a text printed.
pub data Answer : Type 0 where
  usage : Answer
  unread : (file : List ℕ) → Answer
  fault : (file : List ℕ) (first : Fault) → Answer
  limit : (word : Limit) (count : ℕ) → Answer
  refused : (file : List ℕ) (line : ℕ) (tokens : List ℕ) (printed : List ℕ) → Answer
  done : (written : Option (List ℕ × List ℕ)) (printed : List ℕ) → Answer

-- the sources of a system are refused with this answer; as of each configuration that is read, what theirs
-- says of a network may be checked
abbrev pub IsRefused : Sources → Answer → Type 0
IsRefused sources (fault file first) = IsAdmitted (described sources.config) × IsSystemFault sources (system.Fault file first)
IsRefused sources (limit word count) = IsAdmitted (described sources.config) × IsSystemFault sources (system.Limit word count)
IsRefused sources _ = ⊥

-- a plan gives a value; stops with an answer; reads a file, and goes on by its text; or settles the system
-- that sources make, and goes on by it
pub data Plan (A : Type 0) : Type 0 where
  gives : (value : A) → Plan A
  stops : (answer : Answer) → Plan A
  reads : (file : List ℕ) (next : List ℕ → Plan A) → Plan A
  settles : (sources : Sources) (next : SystemState → Plan A) → Plan A

-- one plan after the other
unfoldable pub then_plan : {A B : Type 0} → Plan A → (A → Plan B) → Plan B
then_plan (gives x) k = k x
then_plan (stops answer) k = stops answer
then_plan (reads file next) k = reads file (λ text. then_plan (next text) k)
then_plan (settles sources next) k = settles sources (λ y. then_plan (next y) k)

-- a plan that reads nothing
abbrev pub at_once : {A : Type 0} → Result A Answer → Plan A
at_once (Ok x) = gives x
at_once (Err answer) = stops answer

-- a plan for each of several, one after the other, behind the values so far
unfoldable pub each_from : {A B : Type 0} → (B → Plan A) → List A → List B → Plan (List A)
each_from f so_far [] = gives so_far
each_from f so_far (b ∷ bs) = then_plan (f b) (λ x. each_from f (so_far ++ x ∷ []) bs)

abbrev pub each : {A B : Type 0} → (B → Plan A) → List B → Plan (List A)
each f bs = each_from f [] bs

-- A plan was followed from one place to another: each text that it read has the length that a file
-- may have, and is the file's where the files are told; what was settled is the system of its
-- sources, or was refused for what is wrong with them.
pub data Goes {A : Type 0} (files : Option Files) : Plan A → Plan A → Type 0 where
  stays : {p : Plan A} → Goes files p p
  reads_on : {file : List ℕ} {next : List ℕ → Plan A} {q : Plan A} (text : List ℕ) → IfSome files (λ fs. held fs file ≡ Some text)
      → length text ≤ FILE_LIMIT → Goes files (next text) q → Goes files (reads file next) q
  too_long : {file : List ℕ} {next : List ℕ → Plan A} → IfSome files (λ fs. IsSomeAnd (held fs file) (λ text. FILE_LIMIT < length text))
      → Goes files (reads file next) (stops (limit File (FILE_LIMIT + 1)))
  settles_on : {sources : Sources} {next : SystemState → Plan A} {q : Plan A} (y : SystemState) → IsSystem sources y
      → Goes files (next y) q → Goes files (settles sources next) q
  settles_not : {sources : Sources} {next : SystemState → Plan A} (answer : Answer) → IsRefused sources answer
      → Goes files (settles sources next) (stops answer)

-- what a plan comes to over files: what it gives, what it stops with, or that a file isn't there
pub data Reaches (files : Files) (plan : Plan Answer) : Answer → Type 0 where
  at_end : (answer : Answer) → Goes (Some files) plan (gives answer) → Reaches files plan answer
  at_stop : (answer : Answer) → Goes (Some files) plan (stops answer) → Reaches files plan answer
  at_gap : (file : List ℕ) (next : List ℕ → Plan Answer) → Goes (Some files) plan (reads file next) → held files file ≡ None
      → Reaches files plan (unread file)
