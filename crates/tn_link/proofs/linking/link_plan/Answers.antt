use Rattle.std.proofs.Common.{length, get_or, ap, ◌∙◌, arith}
use Rattle.std.proofs.lemmas.List.{length-map}
use Rattle.tn_link.specs.declared.programs.Element.{Element}
use Rattle.tn_link.specs.Programs.{piece}
use Rattle.tn_link.proofs.Fitness.{program-length}
use Rattle.tn_link.proofs.linking.link_plan.Goals as goal

pub sizes-requires-clause-short : goal.sizes-requires-clause-short
sizes-requires-clause-short c = omega (
  arith,
  ap length (c.deref.ensures.value ∙ c.in_ok-program.ensures.program),
  program-length c.args.plan.now.modules.now c.args.cell_base,
  c.requires.plan.items,
)

pub positions-requires : goal.positions-requires
positions-requires c = omega (
  arith,
  ap length c.deref-2.ensures.value,
  c.in_ok-sizes.ensures.least.valid.as_many,
  length-map c.deref.result.now (λ (x : Element). piece x),
  ap length (c.deref.ensures.value ∙ c.in_ok-program.ensures.program),
  program-length c.args.plan.now.modules.now c.args.cell_base,
  c.requires.plan.items,
)

pub link_at-requires-clause-frame : goal.link_at-requires-clause-frame
link_at-requires-clause-frame c = record {
  code = c.requires.code_base;
  cells = c.requires.cell_base;
  as_many = omega (
    arith,
    ap length c.deref-3.ensures.value,
    c.in_ok-positions.ensures.as_many,
    ap length c.deref-2.ensures.value,
    c.in_ok-sizes.ensures.least.valid.as_many,
    length-map c.deref.result.now (λ (x : Element). piece x),
    ap length (c.deref.ensures.value ∙ c.in_ok-program.ensures.program),
    program-length c.args.plan.now.modules.now c.args.cell_base,
  );
  bounded = λ k. omega (arith, ap (λ l. get_or l k 0) c.deref-3.ensures.value, c.in_ok-positions.ensures.bounded k);
}
