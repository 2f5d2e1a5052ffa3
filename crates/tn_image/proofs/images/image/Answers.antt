use Rattle.std.proofs.Common.{sym, ◌∙◌, refl, arith, rules}
use Rattle.tn_config.specs.Configurations.{BlockState, block_of}
use Rattle.tn_image.specs.declared.images.Built.{Built}
use Rattle.tn_image.specs.Images.{segments}
use Rattle.tn_image.proofs.RegionTests.{tests_of_addresses}
use Rattle.tn_image.proofs.Building.{IsWell, well, region-none}
use Rattle.tn_image.proofs.images.image.Goals as goal

pub returns-in_err-linked-clause-tests : goal.returns-in_err-linked-clause-tests
returns-in_err-linked-clause-tests c = tests_of_addresses

pub returns-in_default-clause-tests : goal.returns-in_default-clause-tests
returns-in_default-clause-tests c = tests_of_addresses

pub returns-in-Some-region_fault-clause-tests : goal.returns-in-Some-region_fault-clause-tests
returns-in-Some-region_fault-clause-tests c = tests_of_addresses

pub returns-in_err-segments-clause-tests : goal.returns-in_err-segments-clause-tests
returns-in_err-segments-clause-tests c = tests_of_addresses

pub returns-clause-tests : goal.returns-clause-tests
returns-clause-tests c = tests_of_addresses

built : goal.In_ok-segments → Built
built c = record {
  image = record { segments = c.in_ok-segments.segments; entry = c.in-Some.entry; wptr = c.args.block.now.wptr };
  linked = c.in_ok-linked.linked;
}

is-well : (c : goal.In_ok-segments) → IsWell c.args.chosen.now.modules.items (block_of c.args.block.now) (built c)
unfolding built
is-well c =
    let b : BlockState = block_of c.args.block.now in
    well c.args.chosen.now.modules.items b c.requires.range (built c) c.in_ok-linked.ensures.linked (sym c.in-Some.ensures.entry)
    (region-none b c.len.result c.len-2.result c.in_ok-linked.linked.code.items c.in_ok-linked.linked.cells.items
    (omega (arith, c.len.ensures, c.in_ok-linked.linked.code.ok.0))
    (omega (arith, c.len-2.ensures, c.in_ok-linked.linked.cells.ok.0)) (sym c.in_default-region_fault.ensures))
    (c.in_ok-segments.ensures ∙ (λ j. segments b (c.deref.ensures.value j) (c.deref-2.ensures.value j)))
    (λ sizes least. c.in-Some.ensures.address sizes least refl) (search rules) refl

pub returns-clause-built : goal.returns-clause-built
unfolding built
returns-clause-built c = (is-well c).is_built

pub returns-clause-shortest : goal.returns-clause-shortest
unfolding built
returns-clause-shortest c = (is-well c).is_shortest

pub returns-clause-image : goal.returns-clause-image
unfolding built
returns-clause-image c = (is-well c).is_image

pub returns-clause-plain : goal.returns-clause-plain
unfolding built
returns-clause-plain c = (is-well c).is_plain

pub returns-clause-separate : goal.returns-clause-separate
unfolding built
returns-clause-separate c = (is-well c).are_separate
