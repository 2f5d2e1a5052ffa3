use Rattle.std.proofs.Common.{◌≡◌, ℕ, ◌<◌, length, ap, sym, ◌∙◌, subst, arith}
use Rattle.std.specs.List.{flat_map, range_with_len}
use Rattle.tn_link.specs.Programs.{module_elements}
use Rattle.tn_link.specs.Inner.Elements.{AreFit}
use Rattle.tn_link.proofs.Ranges.{joined-grown}
use Rattle.tn_link.proofs.Fitness.{fit-program}
use Rattle.tn_link.proofs.programs.program.Goals as goal

pub loop-m-preserved : goal.loop-m-preserved
loop-m-preserved c =
    joined-grown (module_elements c.args.plan.now.modules.now c.args.cell_base) c.loop-m.m c.loop-m.elements.items
    c.add_module.new.elements.items c.loop-m.invariant c.in_ok-add_module.ensures

pub returns-clause-fit : goal.returns-clause-fit
returns-clause-fit c =
    let all : c.loop-m.m ≡ length c.args.plan.now.modules.now = omega (arith, c.loop-m-test.false, c.loop-m.auto.m-end) in
    subst AreFit
    (sym (c.loop-m.invariant ∙ ap (λ n. flat_map (module_elements c.args.plan.now.modules.now c.args.cell_base) (range_with_len 0 n)) all))
    (fit-program c.args.plan.now.modules.now c.requires.plan.valid c.requires.plan.linkable.defined c.requires.plan.items
    c.requires.plan.cells
    c.args.cell_base)
