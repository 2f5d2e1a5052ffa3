use Rattle.std.proofs.Common.{List, ℕ, Some, None, is_some, sym, ap, ◌∙◌, below_more, arith, if◌then◌else◌}
use Rattle.indexmap.specs.IndexMap.{get}
use Rattle.tn_module.specs.Names.{same_name}
use Rattle.tn_symbols.specs.declared.choices.ChooseFault.TheVariants.{Duplicate}
use Rattle.tn_symbols.proofs.FirstFaults.{at-read, at-past, none-at}
use Rattle.tn_symbols.proofs.faults.repeated.Goals as goal

pub returns-then-contains_key : goal.returns-then-contains_key
returns-then-contains_key c = record {
  index = c.loop-i.i;
  here =
      at-read (λ (name : List ℕ). if is_some (get same_name c.args.definitions.now name) then Some (Duplicate c.args.place c.loop-i.i)
      else None)
      c.args.exports.now c.loop-i.i c.index-exports-i.result c.loop-i-test.true c.index-exports-i.is
      ∙ ap (λ b. if b then Some (Duplicate c.args.place c.loop-i.i) else None) (sym c.contains_key.ensures ∙ c.if-contains_key.true);
  before = c.loop-i.invariant;
}

pub loop-i-preserved : goal.loop-i-preserved
loop-i-preserved c =
    below_more _ _ c.loop-i.invariant
    (at-read (λ (name : List ℕ). if is_some (get same_name c.args.definitions.now name) then Some (Duplicate c.args.place c.loop-i.i)
    else None)
    c.args.exports.now c.loop-i.i c.index-exports-i.result c.loop-i-test.true c.index-exports-i.is
    ∙ ap (λ b. if b then Some (Duplicate c.args.place c.loop-i.i) else None) (sym c.contains_key.ensures ∙ c.if-contains_key.false))

pub returns : goal.returns
returns c =
    none-at _ c.loop-i.i c.loop-i.invariant
    (λ i h. at-past (λ (name : List ℕ). if is_some (get same_name c.args.definitions.now name) then Some (Duplicate c.args.place i)
    else None)
    c.args.exports.now i (omega (arith, h, c.loop-i-test.false)))
