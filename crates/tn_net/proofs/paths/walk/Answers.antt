use Rattle.std.proofs.Common.{◌≡◌, ◌<◌, List, [], ◌∷◌, ◌++◌, length, sym, ◌∙◌, ap, subst, arith}
use Rattle.tn_net.specs.declared.paths.Reached.{Reached}
use Rattle.tn_net.specs.Inner.Visits.{IsVisited}
use Rattle.tn_net.proofs.Visiting.{root_alone, next_processor, few_found, all_reached}
use Rattle.tn_net.proofs.paths.walk.Goals as goal

pub loop-i-init : goal.loop-i-init
loop-i-init c =
    subst (λ order. IsVisited c.args.network.now order 0 0) (sym is) (root_alone c.args.network.now c.root-processor.ensures.pairing)
  where
    is : c.push.new.self.items ≡ record {
      processor = c.args.network.now.root;
      parent = 0;
      parent_link = 0;
      boot_link = c.args.network.now.root_link;
    } ∷ []
    is =
        c.in_ok-push.ensures.items ∙ ap (λ (xs : List Reached). xs
        ++ record {
          processor = c.root-processor.result.0;
          parent = 0;
          parent_link = 0;
          boot_link = c.root-processor.result.1;
        } ∷ []) c.new-order.ensures.items
        ∙ ap (λ p. record { processor = p.0; parent = 0; parent_link = 0; boot_link = p.1 } ∷ []) c.root-processor.ensures.value

pub loop-i-smaller : goal.loop-i-smaller
loop-i-smaller c = omega (arith, few_found c.args.network.now c.loop-i.order.items c.loop-i.i 0 c.loop-i.invariant, before)
  where
    before : c.loop-i.i < length c.loop-i.order.items
    before = omega (arith, c.len.ensures, c.loop-i-test.true, c.loop-i.order.ok.0)

pub loop-i-preserved : goal.loop-i-preserved
loop-i-preserved c =
    next_processor c.args.network.now c.visit_links.new.order.items c.loop-i.i c.in_ok-visit_links.ensures.here
    c.in_ok-visit_links.ensures.visited

pub returns : goal.returns
returns c = record {
  reached =
      all_reached c.args.network.now c.loop-i.order.items c.loop-i.i c.loop-i.invariant
      (omega (arith, c.len.ensures, c.loop-i-test.false, c.loop-i.order.ok.0));
  few =
      omega (
        arith,
        few_found c.args.network.now c.loop-i.order.items c.loop-i.i 0 c.loop-i.invariant,
        c.root-processor.ensures.pairing.few,
      );
}
