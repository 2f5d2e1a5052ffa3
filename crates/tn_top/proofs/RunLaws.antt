-- What `run` promises of a command that ended, by the plan that the words ask for.
use Rattle.std.proofs.Common.{◌≡◌, ℕ, List, Option, Some, None, IfSome, Result, sym, subst}
use Rattle.tn_text.specs.Counts.{Rose}
use Rattle.tn_text.specs.declared.faults.Fault.{Fault}
use Rattle.tn_text.specs.declared.limits.Limit.{Limit}
use Rattle.tn_io.specs.Outs.{Printed}
use Rattle.tn_io.specs.Stores.{Stored}
use Rattle.tn_top.specs.declared.refusals.Refusal.{Refusal}
use Rattle.tn_top.specs.declared.statuses.Status.{Status}
use Rattle.tn_top.specs.declared.statuses.Status.TheVariants as status
use Rattle.tn_top.specs.Plans.{Answer, fault, limit, refused, Plan}
use Rattle.tn_top.specs.Commands.{Answers}
use Rattle.tn_top.specs.Outcomes.{Told, HasCause, NothingFailed, HasStatus, Unless, FilesAfter, PrintedAfter, Writes}
use Rattle.tn_top.specs.Refusals.{end_status, end_line}
use Rattle.tn_top.specs.ErrLines.{IsLine}
use Rattle.tn_top.specs.Inner.Ends.{Ends}
use Rattle.tn_top.proofs.EndLaws.{ends_cause, ends_status, ends_fault, ends_limit, ends_not_enabled, ends_files, ends_closed, ends_print}
use Rattle.tn_top.proofs.EndLaws.{ends_line}

module _
    {T : Type 0} (asked : Option (Plan Answer)) (plan : Plan Answer) (is : asked ≡ Some plan) (before after : Stored) (old new : Printed)
    (r : Result T Refusal) (ends : Ends plan before after old new r) (s : Status) (said : s ≡ end_status r)
  where
    -- what holds of the plan and of the status of the end holds of what was asked and of the status
    carried : (P : Option (Plan Answer) → Status → Type 0) → P (Some plan) (end_status r) → P asked s
    carried P h = subst (λ a. P a s) (sym is) (subst (P (Some plan)) (sym said) h)

    pub run_cause : HasCause asked before after old new s
    run_cause = carried (λ a t. HasCause a before after old new t) (ends_cause plan before after old new r ends)

    pub run_status : NothingFailed before after old new → IfSome before.files (λ fs. HasStatus asked fs s)
    run_status = carried (λ a t. NothingFailed before after old new
        → IfSome before.files (λ fs. HasStatus a fs t)) (ends_status plan before after old new r ends)

    pub run_fault : (Rose before.read_faults after.read_faults → ⊥)
        → IfSome before.files (λ fs. (file : List ℕ) (first : Fault) → Answers asked fs (fault file first) → Unless s status.Fault)
    run_fault =
        carried (λ a t. (Rose before.read_faults after.read_faults → ⊥)
        → IfSome before.files (λ fs. (file : List ℕ) (first : Fault) → Answers a fs (fault file first) → Unless t status.Fault))
        (ends_fault plan before after old new r ends)

    pub run_limit : (Rose before.read_faults after.read_faults → ⊥)
        → IfSome before.files (λ fs. (which : Limit) (count : ℕ) → Answers asked fs (limit which count) → Unless s status.Limit)
    run_limit =
        carried (λ a t. (Rose before.read_faults after.read_faults → ⊥)
        → IfSome before.files (λ fs. (which : Limit) (count : ℕ) → Answers a fs (limit which count) → Unless t status.Limit))
        (ends_limit plan before after old new r ends)

    pub run_not_enabled : (Rose before.read_faults after.read_faults → ⊥) → (Rose old.faults new.faults → ⊥)
        → IfSome before.files (λ fs. (file : List ℕ) (line : ℕ) (tokens text : List ℕ) → Answers asked fs (refused file line tokens text)
        → Unless s status.NotEnabled)
    run_not_enabled =
        carried (λ a t. (Rose before.read_faults after.read_faults → ⊥) → (Rose old.faults new.faults → ⊥)
        → IfSome before.files (λ fs. (file : List ℕ) (line : ℕ) (tokens text : List ℕ) → Answers a fs (refused file line tokens text)
        → Unless t status.NotEnabled))
        (ends_not_enabled plan before after old new r ends)

    pub run_files : IfSome before.files (λ fs. Told before.files after.files (FilesAfter asked s))
    run_files = carried (λ a t. IfSome before.files (λ fs. Told before.files after.files (FilesAfter a t)))
        (ends_files plan before after old new r ends)

    pub run_closed : (target : List ℕ) → Writes asked target → s ≡ status.Done → after.opened ≡ None
    run_closed = carried (λ a t. (target : List ℕ) → Writes a target → t ≡ status.Done
        → after.opened ≡ None) (λ target w. ends_closed plan before after old new target r w ends)

    pub run_print : IfSome before.files (λ fs. PrintedAfter asked fs s old new)
    run_print = carried (λ a t. IfSome before.files (λ fs. PrintedAfter a fs t old new))
        (ends_print plan before after old new r ends)

    pub run_line : IsLine asked before after s (end_line r)
    run_line = carried (λ a t. IsLine a before after t (end_line r)) (ends_line plan before after old new r ends)

-- all that holds of a command that ended
pub record Runs (asked : Option (Plan Answer)) (before after : Stored) (old new : Printed) (s : Status) : Type 0 where
  pub cause : HasCause asked before after old new s
  pub status_is : NothingFailed before after old new → IfSome before.files (λ fs. HasStatus asked fs s)
  pub fault : (Rose before.read_faults after.read_faults → ⊥)
      → IfSome before.files (λ fs. (file : List ℕ) (first : Fault) → Answers asked fs (fault file first) → Unless s status.Fault)
  pub limit : (Rose before.read_faults after.read_faults → ⊥)
      → IfSome before.files (λ fs. (which : Limit) (count : ℕ) → Answers asked fs (limit which count) → Unless s status.Limit)
  pub not_enabled : (Rose before.read_faults after.read_faults → ⊥) → (Rose old.faults new.faults → ⊥)
      → IfSome before.files (λ fs. (file : List ℕ) (line : ℕ) (tokens text : List ℕ) → Answers asked fs (refused file line tokens text)
      → Unless s status.NotEnabled)
  pub files : IfSome before.files (λ fs. Told before.files after.files (FilesAfter asked s))
  pub closed : (target : List ℕ) → Writes asked target → s ≡ status.Done → after.opened ≡ None
  pub print : IfSome before.files (λ fs. PrintedAfter asked fs s old new)

pub runs : {T : Type 0} (asked : Option (Plan Answer)) (plan : Plan Answer) → asked ≡ Some plan → (before after : Stored)
    (old new : Printed)
    (r : Result T Refusal) → Ends plan before after old new r → (s : Status) → s ≡ end_status r → Runs asked before after old new s
runs asked plan is before after old new r ends s said = record {
  cause = run_cause asked plan is before after old new r ends s said;
  status_is = run_status asked plan is before after old new r ends s said;
  fault = run_fault asked plan is before after old new r ends s said;
  limit = run_limit asked plan is before after old new r ends s said;
  not_enabled = run_not_enabled asked plan is before after old new r ends s said;
  files = run_files asked plan is before after old new r ends s said;
  closed = run_closed asked plan is before after old new r ends s said;
  print = run_print asked plan is before after old new r ends s said;
}
