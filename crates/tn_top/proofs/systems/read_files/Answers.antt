use Rattle.std.proofs.Common.{◌≡◌, ℕ, List, Vec, Global, map, refl, ap, arith}
use Rattle.tn_text.proofs.Results.{of-error}
use Rattle.tn_module.specs.declared.modules.Library.{Library}
use Rattle.tn_module.specs.Modules.{Parts}
use Rattle.tn_config.specs.Configurations.{ConfigState, config_of}
use Rattle.tn_system.specs.declared.systems.System.{System}
use Rattle.tn_system.specs.Sources.{module_files, library_files}
use Rattle.tn_system.specs.Systems.{SystemState, system_of}
use Rattle.tn_top.specs.Plans.{Plan, gives, settles, then_plan, each}
use Rattle.tn_top.specs.ModulePlans.{module_plan}
use Rattle.tn_top.specs.SystemPlans.{library_file_plan, sources_of, files_plan}
use Rattle.tn_top.specs.Inner.Stages.{Staged}
use Rattle.tn_top.specs.declared.refusals.Refusal.TheVariants.{NoMemory}
use Rattle.tn_top.proofs.StageLaws.{staged-stopped, staged-then, staged-settled, staged-wanting}
use Rattle.std.proofs.Common.{◌∙◌, length}
use Rattle.std.proofs.lemmas.List.{length-map}
use Rattle.tn_top.proofs.systems.read_files.Goals as goal

abbrev pool_seen : Vec Parts Global → List Parts
pool_seen pool = pool.items

abbrev shelf_seen : Vec Library Global → List (List Parts)
shelf_seen shelf = map (λ l. l.modules.items) shelf.items

abbrev seen : System → SystemState
seen y = system_of y

abbrev behind : List ℕ → ConfigState → List Parts → Plan SystemState
behind file config pool =
    then_plan (each library_file_plan (library_files config)) (λ shelf. settles (sources_of file config pool shelf) gives)

pub returns-in_err-pool-clause-staged : goal.returns-in_err-pool-clause-staged
returns-in_err-pool-clause-staged g c =
    let file = c.args.file.now in
    let config = config_of c.args.config.now in
    let before = g.S.Store.stored c.args.store.now in
    let after = g.S.Store.stored c.read_modules.new.store in
    let named : c.in_ok-files.files.modules.items ≡ module_files config = ap (λ f. f.modules) c.in_ok-files.ensures in
    of-error (Staged seen (files_plan file config) before after) c.from_residual-in_err-pool.result c.in_err-pool.field-0.0
    c.from_residual-in_err-pool.ensures.1
    (staged-stopped pool_seen seen (behind file config) (each module_plan (module_files config)) before after c.in_err-pool.field-0.0
    (rw (c.deref.ensures.value, named) at c.in_err-pool.ensures.staged))

pub returns-in_err-files-clause-staged : goal.returns-in_err-files-clause-staged
returns-in_err-files-clause-staged g c =
    let before = g.S.Store.stored c.args.store.now in
    of-error (Staged seen (files_plan c.args.file.now (config_of c.args.config.now)) before before) c.from_residual.result NoMemory
    c.from_residual.ensures.1
    (staged-wanting seen (files_plan c.args.file.now (config_of c.args.config.now)) before before refl (omega arith))

pub returns-in_err-shelf-clause-staged : goal.returns-in_err-shelf-clause-staged
returns-in_err-shelf-clause-staged g c =
    let file = c.args.file.now in
    let config = config_of c.args.config.now in
    let before = g.S.Store.stored c.args.store.now in
    let mid = g.S.Store.stored c.read_modules.new.store in
    let after = g.S.Store.stored c.read_libraries.new.store in
    let modules : c.in_ok-files.files.modules.items ≡ module_files config = ap (λ f. f.modules) c.in_ok-files.ensures in
    let libraries : c.in_ok-files.files.libraries.items ≡ library_files config = ap (λ f. f.libraries) c.in_ok-files.ensures in
    let pool = c.in_ok-pool.pool in
    of-error (Staged seen (files_plan file config) before after) c.from_residual-in_err-shelf.result c.in_err-shelf.field-0.0
    c.from_residual-in_err-shelf.ensures.1
    (staged-then pool_seen seen (behind file config) (each module_plan (module_files config)) before mid after pool _
    (rw (c.deref.ensures.value, modules) at c.in_ok-pool.ensures.staged)
    (staged-stopped shelf_seen seen (λ shelf. settles (sources_of file config pool.items shelf) gives)
    (each library_file_plan (library_files config)) mid after c.in_err-shelf.field-0.0
    (rw (c.deref-2.ensures.value, libraries) at c.in_err-shelf.ensures.staged)))

pub returns-clause-staged : goal.returns-clause-staged
returns-clause-staged g c =
    let file = c.args.file.now in
    let config = config_of c.args.config.now in
    let before = g.S.Store.stored c.args.store.now in
    let mid = g.S.Store.stored c.read_modules.new.store in
    let after = g.S.Store.stored c.read_libraries.new.store in
    let modules : c.in_ok-files.files.modules.items ≡ module_files config = ap (λ f. f.modules) c.in_ok-files.ensures in
    let libraries : c.in_ok-files.files.libraries.items ≡ library_files config = ap (λ f. f.libraries) c.in_ok-files.ensures in
    let pool = c.in_ok-pool.pool in
    let shelf = c.in_ok-shelf.shelf in
    staged-then pool_seen seen (behind file config) (each module_plan (module_files config)) before mid after pool c.settled.result
    (rw (c.deref.ensures.value, modules) at c.in_ok-pool.ensures.staged)
    (staged-then shelf_seen seen (λ s. settles (sources_of file config pool.items s) gives)
    (each library_file_plan (library_files config)) mid after after shelf c.settled.result
    (rw (c.deref-2.ensures.value, libraries) at c.in_ok-shelf.ensures.staged)
    (staged-settled seen (sources_of file config pool.items (shelf_seen shelf)) after c.settled.result
    (rw (c.deref-3.ensures.value, c.deref-4.ensures.value) at c.settled.ensures.settles)))

pub settled-requires-clause-read : goal.settled-requires-clause-read
settled-requires-clause-read g c = record {
  writable = c.requires.writable;
  admitted = c.requires.admitted;
  few_files = c.requires.few_files;
  pool = rw c.deref-3.ensures.value (c.in_ok-pool.ensures.as_many
      ∙ ap (λ xs. length xs) (c.deref.ensures.value ∙ ap (λ f. f.modules) c.in_ok-files.ensures));
  shelf = rw c.deref-4.ensures.value (length-map c.in_ok-shelf.shelf.items (λ (l : Library). l.modules.items)
      ∙ (c.in_ok-shelf.ensures.as_many
      ∙ ap (λ xs. length xs) (c.deref-2.ensures.value ∙ ap (λ f. f.libraries) c.in_ok-files.ensures)));
  few_lines = rw c.deref-3.ensures.value c.in_ok-pool.ensures.few_lines;
  short = rw c.deref-4.ensures.value c.in_ok-shelf.ensures.short;
}
