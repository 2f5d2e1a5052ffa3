-- The stages of a command.
use Rattle.std.specs.Prelude.{◌≡◌, ⊤, ℕ, ◌≤◌, ◌⊎◌, List, Some, None, Result, Ok, Err, IfOk, IfErr}
use Rattle.tn_text.specs.Counts.{Rose}
use Rattle.tn_io.specs.Stores.{Stored, told}
use Rattle.tn_top.specs.declared.refusals.Refusal.{Refusal}
use Rattle.tn_top.specs.declared.refusals.Refusal.TheVariants.{Fault, Limit, Unread, Unwritten, Unprinted, NotEnabled, NoMemory}
use Rattle.tn_system.specs.Sources.{Sources}
use Rattle.tn_system.specs.Systems.{SystemState, IsSystem}
use Rattle.tn_top.specs.Plans.{Answer, unread, fault, limit, IsRefused, Plan, gives, stops, reads, Goes}

-- a plan came to a file that isn't there, or that was not read; or it lacks one of its own
abbrev pub Unreadable : {A : Type 0} → Plan A → Stored → Stored → List ℕ → Type 0
Unreadable {A} plan before after file =
    ((next : List ℕ → Plan A) × Goes before.files plan (reads file next)
    × (Rose before.read_faults after.read_faults ⊎ (told before.files file ≡ Some None)))
    ⊎ Goes before.files plan (stops (unread file))

-- why a plan gave no value over a store
unfoldable pub Unable : {A : Type 0} → Plan A → Stored → Stored → Refusal → Type 0
Unable plan before after (Fault file first) = Goes before.files plan (stops (fault file first))
Unable plan before after (Limit word count) = Goes before.files plan (stops (limit word count))
Unable plan before after (Unread file) = Unreadable plan before after file
Unable plan before after (Unwritten file) = ⊥
Unable plan before after Unprinted = ⊥
Unable plan before after (NotEnabled file line tokens) = ⊥
Unable plan before after NoMemory = ⊤

-- a stage, which only reads, gave the plan's value, or says why not
pub record Staged {T A : Type 0} (seen : T → A) (plan : Plan A) (before after : Stored) (result : Result T Refusal) : Type 0 where
  pub ok : IfOk result (λ x. Goes before.files plan (gives (seen x)))
  pub err : IfErr result (Unable plan before after)
  pub same : after ≡ record before { read_faults = after.read_faults }
  pub count : before.read_faults ≤ after.read_faults

-- a value, or an answer in place of one; memory may be wanting
abbrev pub Makes : {T A : Type 0} → (T → A) → Result A Answer → Result T Refusal → Type 0
Makes seen made (Ok x) = made ≡ Ok (seen x)
Makes seen made (Err (Fault file first)) = made ≡ Err (fault file first)
Makes seen made (Err (Limit word count)) = made ≡ Err (limit word count)
Makes seen made (Err NoMemory) = ⊤
Makes seen made (Err _) = ⊥

-- the system of sources, or why there is none; memory may be wanting
abbrev pub Settles : {T : Type 0} → (T → SystemState) → Sources → Result T Refusal → Type 0
Settles seen sources (Ok x) = IsSystem sources (seen x)
Settles seen sources (Err (Fault file first)) = IsRefused sources (fault file first)
Settles seen sources (Err (Limit word count)) = IsRefused sources (limit word count)
Settles seen sources (Err NoMemory) = ⊤
Settles seen sources (Err _) = ⊥
