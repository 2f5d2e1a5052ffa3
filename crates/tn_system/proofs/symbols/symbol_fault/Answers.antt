use Rattle.std.proofs.Common.{subst, arith}
use Rattle.tn_symbols.specs.declared.choices.ChooseFault.{ChooseFault}
use Rattle.tn_symbols.specs.Faults.{IfFault as IfNameFault}
use Rattle.tn_symbols.specs.Faults.{IsFaultOf}
use Rattle.tn_symbols.specs.Sources.{Offer, IsChoice}
use Rattle.tn_config.specs.Configurations.{block_of}
use Rattle.tn_system.specs.Faults.{IsSymbolFault}
use Rattle.tn_system.specs.Inner.Offers.{offer_of, OfChoice}
use Rattle.tn_system.proofs.Telling.{offer-same, if-fault}
use Rattle.tn_system.proofs.Making.{undefined-index, undefined-source, undefined-within, undefined-told}
use Rattle.tn_system.proofs.Making.{kind-index, kind-source, kind-within, kind-told, duplicate-index, duplicate-source}
use Rattle.tn_system.proofs.Making.{duplicate-within, duplicate-told}
use Rattle.tn_system.proofs.symbols.symbol_fault.Goals as goal

pub index-requires : goal.index-requires
index-requires c =
    let choice = subst (λ (o : Offer). IsChoice o c.in-Ok.sources.items)
    (offer-same c.args.offer.now.pool.now c.args.offer.now.shelf.now c.deref.result.now c.args.offer.now.places.now.modules.items
    c.deref-2.result.now c.args.offer.now.places.now.libraries.items c.deref.ensures.value c.deref-2.ensures.value)
    c.in-Ok.ensures.choice in
    let fault = subst (λ (f : ChooseFault). IfNameFault f (IsFaultOf (offer_of c.args.offer.now))) c.in-Undefined.is c.requires.fault in
    omega (
      arith,
      c.in-Ok.sources.ok.0,
      undefined-index (offer_of c.args.offer.now) (block_of c.args.offer.now.block.now)
          c.requires.offer c.in-Ok.sources.items choice c.in-Undefined.m c.in-Undefined.i fault,
    )

pub import_fault-requires-clause-here : goal.import_fault-requires-clause-here
import_fault-requires-clause-here c =
    let choice = subst (λ (o : Offer). IsChoice o c.in-Ok.sources.items)
    (offer-same c.args.offer.now.pool.now c.args.offer.now.shelf.now c.deref.result.now c.args.offer.now.places.now.modules.items
    c.deref-2.result.now c.args.offer.now.places.now.libraries.items c.deref.ensures.value c.deref-2.ensures.value)
    c.in-Ok.ensures.choice in
    let fault = subst (λ (f : ChooseFault). IfNameFault f (IsFaultOf (offer_of c.args.offer.now))) c.in-Undefined.is c.requires.fault in
    undefined-source (offer_of c.args.offer.now) (block_of c.args.offer.now.block.now) c.requires.offer c.in-Ok.sources.items choice
    c.in-Undefined.m c.in-Undefined.i fault c.index.result.now c.index.ensures

pub import_fault-requires-clause-within : goal.import_fault-requires-clause-within
import_fault-requires-clause-within c =
    let choice = subst (λ (o : Offer). IsChoice o c.in-Ok.sources.items)
    (offer-same c.args.offer.now.pool.now c.args.offer.now.shelf.now c.deref.result.now c.args.offer.now.places.now.modules.items
    c.deref-2.result.now c.args.offer.now.places.now.libraries.items c.deref.ensures.value c.deref-2.ensures.value)
    c.in-Ok.ensures.choice in
    let fault = subst (λ (f : ChooseFault). IfNameFault f (IsFaultOf (offer_of c.args.offer.now))) c.in-Undefined.is c.requires.fault in
    undefined-within (offer_of c.args.offer.now) (block_of c.args.offer.now.block.now) c.requires.offer c.in-Ok.sources.items choice
    c.in-Undefined.m c.in-Undefined.i fault c.index.result.now c.index.ensures

pub returns-in-Undefined : goal.returns-in-Undefined
returns-in-Undefined c =
    let choice = subst (λ (o : Offer). IsChoice o c.in-Ok.sources.items)
    (offer-same c.args.offer.now.pool.now c.args.offer.now.shelf.now c.deref.result.now c.args.offer.now.places.now.modules.items
    c.deref-2.result.now c.args.offer.now.places.now.libraries.items c.deref.ensures.value c.deref-2.ensures.value)
    c.in-Ok.ensures.choice in
    let fault = subst (λ (f : ChooseFault). IfNameFault f (IsFaultOf (offer_of c.args.offer.now))) c.in-Undefined.is c.requires.fault in
    if-fault (λ told. OfChoice (offer_of c.args.offer.now) (block_of c.args.offer.now.block.now) (IsSymbolFault told)) c.import_fault.result
    (undefined-told (offer_of c.args.offer.now) (block_of c.args.offer.now.block.now) c.requires.offer c.in-Ok.sources.items choice
    c.in-Undefined.m c.in-Undefined.i fault c.index.result.now c.index.ensures c.import_fault.result c.import_fault.ensures)

pub index-requires-in-Duplicate : goal.index-requires-in-Duplicate
index-requires-in-Duplicate c =
    let choice = subst (λ (o : Offer). IsChoice o c.in-Ok.sources.items)
    (offer-same c.args.offer.now.pool.now c.args.offer.now.shelf.now c.deref.result.now c.args.offer.now.places.now.modules.items
    c.deref-2.result.now c.args.offer.now.places.now.libraries.items c.deref.ensures.value c.deref-2.ensures.value)
    c.in-Ok.ensures.choice in
    let fault = subst (λ (f : ChooseFault). IfNameFault f (IsFaultOf (offer_of c.args.offer.now))) c.in-Duplicate.is c.requires.fault in
    omega (
      arith,
      c.in-Ok.sources.ok.0,
      duplicate-index (offer_of c.args.offer.now) (block_of c.args.offer.now.block.now)
          c.requires.offer c.in-Ok.sources.items choice c.in-Duplicate.m c.in-Duplicate.i fault,
    )

pub export_fault-requires-clause-here : goal.export_fault-requires-clause-here
export_fault-requires-clause-here c =
    let choice = subst (λ (o : Offer). IsChoice o c.in-Ok.sources.items)
    (offer-same c.args.offer.now.pool.now c.args.offer.now.shelf.now c.deref.result.now c.args.offer.now.places.now.modules.items
    c.deref-2.result.now c.args.offer.now.places.now.libraries.items c.deref.ensures.value c.deref-2.ensures.value)
    c.in-Ok.ensures.choice in
    let fault = subst (λ (f : ChooseFault). IfNameFault f (IsFaultOf (offer_of c.args.offer.now))) c.in-Duplicate.is c.requires.fault in
    duplicate-source (offer_of c.args.offer.now) (block_of c.args.offer.now.block.now) c.requires.offer c.in-Ok.sources.items choice
    c.in-Duplicate.m c.in-Duplicate.i fault c.index-in-Duplicate.result.now c.index-in-Duplicate.ensures

pub export_fault-requires-clause-within : goal.export_fault-requires-clause-within
export_fault-requires-clause-within c =
    let choice = subst (λ (o : Offer). IsChoice o c.in-Ok.sources.items)
    (offer-same c.args.offer.now.pool.now c.args.offer.now.shelf.now c.deref.result.now c.args.offer.now.places.now.modules.items
    c.deref-2.result.now c.args.offer.now.places.now.libraries.items c.deref.ensures.value c.deref-2.ensures.value)
    c.in-Ok.ensures.choice in
    let fault = subst (λ (f : ChooseFault). IfNameFault f (IsFaultOf (offer_of c.args.offer.now))) c.in-Duplicate.is c.requires.fault in
    duplicate-within (offer_of c.args.offer.now) (block_of c.args.offer.now.block.now) c.requires.offer c.in-Ok.sources.items choice
    c.in-Duplicate.m c.in-Duplicate.i fault c.index-in-Duplicate.result.now c.index-in-Duplicate.ensures

pub returns-in-Duplicate : goal.returns-in-Duplicate
returns-in-Duplicate c =
    let choice = subst (λ (o : Offer). IsChoice o c.in-Ok.sources.items)
    (offer-same c.args.offer.now.pool.now c.args.offer.now.shelf.now c.deref.result.now c.args.offer.now.places.now.modules.items
    c.deref-2.result.now c.args.offer.now.places.now.libraries.items c.deref.ensures.value c.deref-2.ensures.value)
    c.in-Ok.ensures.choice in
    let fault = subst (λ (f : ChooseFault). IfNameFault f (IsFaultOf (offer_of c.args.offer.now))) c.in-Duplicate.is c.requires.fault in
    if-fault (λ told. OfChoice (offer_of c.args.offer.now) (block_of c.args.offer.now.block.now) (IsSymbolFault told)) c.export_fault.result
    (duplicate-told (offer_of c.args.offer.now) (block_of c.args.offer.now.block.now) c.requires.offer c.in-Ok.sources.items choice
    c.in-Duplicate.m c.in-Duplicate.i fault c.index-in-Duplicate.result.now c.index-in-Duplicate.ensures c.export_fault.result
    c.export_fault.ensures)

pub index-requires-in-WrongKind : goal.index-requires-in-WrongKind
index-requires-in-WrongKind c =
    let choice = subst (λ (o : Offer). IsChoice o c.in-Ok.sources.items)
    (offer-same c.args.offer.now.pool.now c.args.offer.now.shelf.now c.deref.result.now c.args.offer.now.places.now.modules.items
    c.deref-2.result.now c.args.offer.now.places.now.libraries.items c.deref.ensures.value c.deref-2.ensures.value)
    c.in-Ok.ensures.choice in
    let fault = subst (λ (f : ChooseFault). IfNameFault f (IsFaultOf (offer_of c.args.offer.now))) c.in-WrongKind.is c.requires.fault in
    omega (
      arith,
      c.in-Ok.sources.ok.0,
      kind-index (offer_of c.args.offer.now) (block_of c.args.offer.now.block.now) c.requires.offer
          c.in-Ok.sources.items choice c.in-WrongKind.m c.in-WrongKind.i fault,
    )

pub import_fault-requires-in-WrongKind-clause-here : goal.import_fault-requires-in-WrongKind-clause-here
import_fault-requires-in-WrongKind-clause-here c =
    let choice = subst (λ (o : Offer). IsChoice o c.in-Ok.sources.items)
    (offer-same c.args.offer.now.pool.now c.args.offer.now.shelf.now c.deref.result.now c.args.offer.now.places.now.modules.items
    c.deref-2.result.now c.args.offer.now.places.now.libraries.items c.deref.ensures.value c.deref-2.ensures.value)
    c.in-Ok.ensures.choice in
    let fault = subst (λ (f : ChooseFault). IfNameFault f (IsFaultOf (offer_of c.args.offer.now))) c.in-WrongKind.is c.requires.fault in
    kind-source (offer_of c.args.offer.now) (block_of c.args.offer.now.block.now) c.requires.offer c.in-Ok.sources.items choice
    c.in-WrongKind.m c.in-WrongKind.i fault c.index-in-WrongKind.result.now c.index-in-WrongKind.ensures

pub import_fault-requires-in-WrongKind-clause-within : goal.import_fault-requires-in-WrongKind-clause-within
import_fault-requires-in-WrongKind-clause-within c =
    let choice = subst (λ (o : Offer). IsChoice o c.in-Ok.sources.items)
    (offer-same c.args.offer.now.pool.now c.args.offer.now.shelf.now c.deref.result.now c.args.offer.now.places.now.modules.items
    c.deref-2.result.now c.args.offer.now.places.now.libraries.items c.deref.ensures.value c.deref-2.ensures.value)
    c.in-Ok.ensures.choice in
    let fault = subst (λ (f : ChooseFault). IfNameFault f (IsFaultOf (offer_of c.args.offer.now))) c.in-WrongKind.is c.requires.fault in
    kind-within (offer_of c.args.offer.now) (block_of c.args.offer.now.block.now) c.requires.offer c.in-Ok.sources.items choice
    c.in-WrongKind.m c.in-WrongKind.i fault c.index-in-WrongKind.result.now c.index-in-WrongKind.ensures

pub returns-in-WrongKind : goal.returns-in-WrongKind
returns-in-WrongKind c =
    let choice = subst (λ (o : Offer). IsChoice o c.in-Ok.sources.items)
    (offer-same c.args.offer.now.pool.now c.args.offer.now.shelf.now c.deref.result.now c.args.offer.now.places.now.modules.items
    c.deref-2.result.now c.args.offer.now.places.now.libraries.items c.deref.ensures.value c.deref-2.ensures.value)
    c.in-Ok.ensures.choice in
    let fault = subst (λ (f : ChooseFault). IfNameFault f (IsFaultOf (offer_of c.args.offer.now))) c.in-WrongKind.is c.requires.fault in
    if-fault (λ told. OfChoice (offer_of c.args.offer.now) (block_of c.args.offer.now.block.now) (IsSymbolFault told))
    c.import_fault-in-WrongKind.result
    (kind-told (offer_of c.args.offer.now) (block_of c.args.offer.now.block.now) c.requires.offer c.in-Ok.sources.items choice
    c.in-WrongKind.m c.in-WrongKind.i fault c.index-in-WrongKind.result.now c.index-in-WrongKind.ensures
    c.import_fault-in-WrongKind.result c.import_fault-in-WrongKind.ensures)
