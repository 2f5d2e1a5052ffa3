use Rattle.std.proofs.Common.{None, take, ap, sym, ◌∙◌, subst}
use Rattle.std.specs.Ordering.{nat_cmp}
use Rattle.std.specs.BTreeSet.{contains}
use Rattle.std.proofs.lemmas.List.{map_more}
use Rattle.indexmap.specs.IndexMap.{get}
use Rattle.tn_module.specs.Modules.{Parts}
use Rattle.tn_module.specs.Names.{same_name, import_names}
use Rattle.tn_symbols.specs.Choices.{imported}
use Rattle.tn_symbols.specs.Sources.{source, source_at, module_of, modules_of}
use Rattle.tn_symbols.specs.Inner.Tables.{missing, AreWanted, WantsMore}
use Rattle.tn_symbols.specs.Inner.Sourcing.{offered}
use Rattle.tn_symbols.proofs.Exporting.{imported-more}
use Rattle.tn_symbols.proofs.Wanting.{wanted-more}
use Rattle.tn_symbols.proofs.closing.wanted_places.Goals as goal

pub loop-source-preserved : goal.loop-source-preserved
loop-source-preserved c =
    let found = missing (get same_name c.args.places.now) c.args.exported.now.keys in
    let before = modules_of (offered c.args.offer.now) (take c.loop-source.source-index c.args.sources.now) in
    let m = module_of (offered c.args.offer.now) (source_at c.args.sources.now c.loop-source.source-index) in
    let imports = ap import_names c.deref.ensures.value ∙ ap (λ (m : Parts). import_names m.imports)
    (c.raw-module.ensures.parts ∙ c.module_of.ensures) in
    subst (AreWanted (contains nat_cmp c.want.new.wanted) found)
    (sym (imported-more before m)
    ∙ ap imported (sym (map_more (module_of (offered c.args.offer.now)) c.args.sources.now c.loop-source.source-index (source None 0)
    c.loop-source-test.true)))
    (wanted-more found (contains nat_cmp c.loop-source.wanted) (contains nat_cmp c.want.new.wanted) (imported before)
    (import_names m.imports)
    c.loop-source.invariant (subst (WantsMore (contains nat_cmp c.loop-source.wanted) (contains nat_cmp c.want.new.wanted) found) imports
    c.in_ok-want.ensures))
