use Rattle.std.proofs.Common.{ℕ, [], ◌∷◌, ◌++◌, ap, sym, ◌∙◌, subst, take}
use Rattle.std.specs.Ordering.{nat_cmp}
use Rattle.std.specs.BTreeSet.{BTreeSet, contains}
use Rattle.indexmap.specs.IndexMap.{get}
use Rattle.tn_module.specs.Names.{same_name, import_names}
use Rattle.tn_symbols.specs.Inner.Tables.{missing, WantsMore}
use Rattle.tn_symbols.proofs.Wanting.{wants-skipped, wants-added, imports-more}
use Rattle.tn_symbols.proofs.names.want.Goals as goal
use Rattle.tn_symbols.proofs.names.want.Goals.{in-Some+in_ok-insert, in_default}

pub loop-import-preserved : goal.loop-import-preserved
loop-import-preserved c =
    subst (λ names. WantsMore (contains nat_cmp c.args.wanted.now) (contains nat_cmp c.match-missing.wanted)
    (missing (get same_name c.args.places.now) c.args.exported.now.keys) names)
    (sym (imports-more c.args.imports.now c.loop-import.import-index c.import-item.result c.loop-import-test.true c.import-item.is))
    (elim c.match-missing.branch [
      | in-Some+in_ok-insert w ↦
          wants-added (missing (get same_name c.args.places.now) c.args.exported.now.keys) (contains nat_cmp c.args.wanted.now)
          (contains nat_cmp c.loop-import.wanted) (contains nat_cmp c.match-missing.wanted)
          (import_names (take c.loop-import.import-index c.args.imports.now)) c.import-item.result.name w.in-Some.place
          (sym c.missing.ensures ∙ w.in-Some.is)
          (λ q. ap (λ (s : BTreeSet ℕ). contains nat_cmp s q) w.wanted-is ∙ w.in_ok-insert.ensures.updates.0 q)
          (ap (λ (s : BTreeSet ℕ). contains nat_cmp s w.in-Some.place) w.wanted-is ∙ w.in_ok-insert.ensures.updates.1)
          c.loop-import.invariant
      | in_default w ↦
          subst (λ (s : BTreeSet ℕ). WantsMore (contains nat_cmp c.args.wanted.now) (contains nat_cmp s)
          (missing (get same_name c.args.places.now) c.args.exported.now.keys)
          (import_names (take c.loop-import.import-index c.args.imports.now)
          ++ c.import-item.result.name ∷ [])) (sym w.wanted-is)
          (wants-skipped (missing (get same_name c.args.places.now) c.args.exported.now.keys) (contains nat_cmp c.args.wanted.now)
          (contains nat_cmp c.loop-import.wanted) (import_names (take c.loop-import.import-index c.args.imports.now))
          c.import-item.result.name (sym c.missing.ensures ∙ w.in_default.is) c.loop-import.invariant)
    ])
