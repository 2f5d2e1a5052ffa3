use Rattle.std.proofs.Common.{sym, ◌∙◌, below_more, arith}
use Rattle.indexmap.specs.IndexMap.{get}
use Rattle.tn_module.specs.Names.{same_name}
use Rattle.tn_module.specs.declared.modules.Import.{Import}
use Rattle.tn_symbols.specs.Faults.{import_fault}
use Rattle.tn_symbols.proofs.FirstFaults.{at-read, at-past, none-at}
use Rattle.tn_symbols.proofs.faults.refused.Goals as goal

pub returns-in-Some : goal.returns-in-Some
returns-in-Some c = record {
  index = c.loop-i.i;
  here =
      at-read (λ (import : Import). import_fault c.args.place c.loop-i.i import.kind (get same_name c.args.definitions.now import.name))
      c.args.imports.now c.loop-i.i c.index-imports-i.result c.loop-i-test.true c.index-imports-i.is
      ∙ sym c.import_fault.ensures ∙ c.in-Some.is;
  before = c.loop-i.invariant;
}

pub loop-i-preserved : goal.loop-i-preserved
loop-i-preserved c =
    below_more _ _ c.loop-i.invariant
    (at-read (λ (import : Import). import_fault c.args.place c.loop-i.i import.kind (get same_name c.args.definitions.now import.name))
    c.args.imports.now c.loop-i.i c.index-imports-i.result c.loop-i-test.true c.index-imports-i.is
    ∙ sym c.import_fault.ensures ∙ c.in_default.is)

pub returns : goal.returns
returns c =
    none-at _ c.loop-i.i c.loop-i.invariant
    (λ i h. at-past (λ (import : Import). import_fault c.args.place i import.kind (get same_name c.args.definitions.now import.name))
    c.args.imports.now i (omega (arith, h, c.loop-i-test.false)))
