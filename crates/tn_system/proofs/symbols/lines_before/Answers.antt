use Rattle.std.proofs.Common.{ℕ, Option, sym, ap, ◌∙◌, ◌+◌, subst, arith}
use Rattle.tn_module.specs.declared.modules.Library.{Library}
use Rattle.tn_symbols.specs.Inner.Sourcing.{IsIn}
use Rattle.tn_config.specs.Configurations.{block_of}
use Rattle.tn_system.specs.Inner.Offers.{offer_of, text_in}
use Rattle.tn_system.proofs.Telling.{before-few, before-is}
use Rattle.tn_system.proofs.symbols.lines_before.Goals as goal

pub lines_of-requires : goal.lines_of-requires
lines_of-requires c =
    let here = subst (IsIn (offer_of c.args.offer.now) c.args.source.index) c.in-Some.is c.requires.here in
    omega (
      arith,
      before-few (offer_of c.args.offer.now) (block_of c.args.offer.now.block.now) c.requires.offer c.args.source.index c.in-Some.library
          c.index.result.now here c.index.ensures c.index-offer-place.result c.index-offer-place.is c.deref-modules.result.now
          (c.deref-modules.ensures.value ∙ ap (λ (l : Library). l.modules.items) (sym c.index-offer-place.is)),
    )

pub overflow_add-result : goal.overflow_add-result
overflow_add-result c =
    let here = subst (IsIn (offer_of c.args.offer.now) c.args.source.index) c.in-Some.is c.requires.here in
    omega (
      arith,
      c.lines_of.ensures,
      before-few (offer_of c.args.offer.now) (block_of c.args.offer.now.block.now) c.requires.offer c.args.source.index c.in-Some.library
          c.index.result.now here c.index.ensures c.index-offer-place.result c.index-offer-place.is c.deref-modules.result.now
          (c.deref-modules.ensures.value ∙ ap (λ (l : Library). l.modules.items) (sym c.index-offer-place.is)),
    )

pub returns-in-Some-clause-before : goal.returns-in-Some-clause-before
returns-in-Some-clause-before c =
    let here = subst (IsIn (offer_of c.args.offer.now) c.args.source.index) c.in-Some.is c.requires.here in
    ap (λ n. 1 + n) c.lines_of.ensures
    ∙ before-is (offer_of c.args.offer.now) (block_of c.args.offer.now.block.now) c.requires.offer c.args.source.index c.in-Some.library
    c.index.result.now here c.index.ensures c.index-offer-place.result c.index-offer-place.is c.deref-modules.result.now
    (c.deref-modules.ensures.value ∙ ap (λ (l : Library). l.modules.items) (sym c.index-offer-place.is))
    ∙ ap (λ (l : Option ℕ). (text_in (offer_of c.args.offer.now) (block_of c.args.offer.now.block.now) c.args.source.index l).before)
    (sym c.in-Some.is)

pub returns-in-Some-clause-few : goal.returns-in-Some-clause-few
returns-in-Some-clause-few c =
    let here = subst (IsIn (offer_of c.args.offer.now) c.args.source.index) c.in-Some.is c.requires.here in
    omega (
      arith,
      c.lines_of.ensures,
      before-few (offer_of c.args.offer.now) (block_of c.args.offer.now.block.now) c.requires.offer c.args.source.index c.in-Some.library
          c.index.result.now here c.index.ensures c.index-offer-place.result c.index-offer-place.is c.deref-modules.result.now
          (c.deref-modules.ensures.value ∙ ap (λ (l : Library). l.modules.items) (sym c.index-offer-place.is)),
    )
