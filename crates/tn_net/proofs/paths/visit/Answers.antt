use Rattle.std.proofs.Common.{◌≡◌, ◌+◌, true, false, sym, ◌∙◌, ap, subst}
use Rattle.std.proofs.lemmas.List.{get_or_read}
use Rattle.std.specs.Prelude.{nat_eq}
use Rattle.std.specs.List.{list_any}
use Rattle.tn_net.specs.declared.networks.Far.TheVariants.{Link}
use Rattle.tn_net.specs.declared.paths.Reached.{Reached}
use Rattle.tn_net.specs.Networks.{far_at}
use Rattle.tn_net.specs.Inner.Walks.{step_at}
use Rattle.tn_net.specs.Inner.Visits.{IsVisited}
use Rattle.tn_net.proofs.Visiting.{passed, passed_found, pushed}
use Rattle.tn_net.proofs.paths.visit.Goals as goal

pub returns-in_ok-push-clause-visited : goal.returns-in_ok-push-clause-visited
returns-in_ok-push-clause-visited c =
    subst (λ order. IsVisited c.args.network.now order c.args.i (c.args.l + 1)) (sym c.in_ok-push.ensures.items)
    (pushed c.args.network.now c.args.order.now.items c.args.i c.args.l c.in-Link.processor c.in-Link.boot_link c.requires.pairing
    c.requires.visited c.requires.here c.requires.link wire new)
  where
    wire : far_at c.args.network.now (step_at c.args.order.now.items c.args.i).processor c.args.l
        ≡ Link c.in-Link.processor c.in-Link.boot_link
    wire =
        ap (λ (s : Reached). far_at c.args.network.now s.processor c.args.l)
        (sym (get_or_read c.args.order.now.items c.args.i c.index.result.now c.requires.here c.index.ensures _))
        ∙ sym c.in-Link.ensures.value

    new : list_any (λ reached. nat_eq c.in-Link.processor reached.processor) c.args.order.now.items ≡ false
    new =
        ap (λ order. list_any (λ (reached : Reached). nat_eq c.in-Link.processor reached.processor) order) (sym c.deref.ensures.value)
        ∙ sym c.is_reached.ensures ∙ c.if-not-is_reached.true

pub returns-else-not-is_reached-clause-visited : goal.returns-else-not-is_reached-clause-visited
returns-else-not-is_reached-clause-visited c =
    passed_found c.args.network.now c.args.order.now.items c.args.i c.args.l c.in-Link.processor c.in-Link.boot_link c.requires.visited
    c.requires.here wire old
  where
    wire : far_at c.args.network.now (step_at c.args.order.now.items c.args.i).processor c.args.l
        ≡ Link c.in-Link.processor c.in-Link.boot_link
    wire =
        ap (λ (s : Reached). far_at c.args.network.now s.processor c.args.l)
        (sym (get_or_read c.args.order.now.items c.args.i c.index.result.now c.requires.here c.index.ensures _))
        ∙ sym c.in-Link.ensures.value

    old : list_any (λ reached. nat_eq c.in-Link.processor reached.processor) c.args.order.now.items ≡ true
    old =
        ap (λ order. list_any (λ (reached : Reached). nat_eq c.in-Link.processor reached.processor) order) (sym c.deref.ensures.value)
        ∙ sym c.is_reached.ensures ∙ c.if-not-is_reached.false

pub returns-in_default : goal.returns-in_default
returns-in_default c = record {
  here = c.requires.here;
  visited =
      passed c.args.network.now c.args.order.now.items c.args.i c.args.l c.requires.visited c.requires.here
      (λ q b is. absurd (c.in_default.not-Link q b (c.far.ensures.value ∙ read ∙ is)));
}
  where
    read : far_at c.args.network.now c.index.result.now.processor c.args.l ≡ far_at c.args.network.now
        (step_at c.args.order.now.items c.args.i).processor c.args.l
    read =
        ap (λ (s : Reached). far_at c.args.network.now s.processor c.args.l)
        (get_or_read c.args.order.now.items c.args.i c.index.result.now c.requires.here c.index.ensures _)
