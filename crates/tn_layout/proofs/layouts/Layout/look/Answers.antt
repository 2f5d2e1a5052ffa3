use Rattle.std.proofs.Common.{◌≡◌, ℕ, suc, ◌+◌, ◌<◌, ◌≤◌, ◌==◌, if◌then◌else◌, length, get_or, ap, ◌∙◌, subst, arith}
use Rattle.std.proofs.lemmas.Grind.{get_or_default_zero}
use Rattle.std.proofs.lemmas.List.Elements.{All-head}
use Rattle.tn_layout.specs.Sizes.{piece_at}
use Rattle.std.specs.List.{count_by}
use Rattle.tn_layout.specs.Spans.{span_to, is_within}
use Rattle.tn_layout.specs.Inner.SegmentTrees.{leaf}
use Rattle.tn_layout.specs.Inner.Marks.{to_at, AreMarks, IsMarked}
use Rattle.tn_layout.specs.Inner.Layouts.{IsLayout}
use Rattle.tn_layout.proofs.LayoutLaws.{sum-small, summed-set, look-still, look-grown, look-counted}
use Rattle.tn_layout.proofs.layouts.Layout.look.Goals as goal

pub needed-size-requires-clause-bounded : goal.needed-size-requires-clause-bounded
needed-size-requires-clause-bounded g c k l =
    sum-small c.args.self.now.sizes.items c.args.self.now.sums.nodes.items c.args.self.now.sums.width c.requires.kept.summed k l

pub returns-in_ok-mark-clause-kept : goal.returns-in_ok-mark-clause-kept
returns-in_ok-mark-clause-kept g c =
    let a = c.args.self.now in
    let kept = c.requires.kept in
    let so = subst (λ q. IsLayout c.args.pieces.now a.sizes.items a.order.items (λ x. leaf a.ends.nodes.items a.ends.width x) q)
    c.in-Some.ensures.items kept.state in
    let here : c.in-Some.j < length a.order.items = All-head (λ x. x < length a.order.items) c.in-Some.j c.pop_front.new.self.items
    so.below in
    let read : c.index.result.now ≡ get_or a.order.items c.in-Some.j 0 =
    c.index.ensures ∙ get_or_default_zero a.order.items c.in-Some.j c.index.result.now here in
    let place = so.ordered.places c.in-Some.j 0 here in
    let inside : c.index.result.now < length a.sizes.items = omega (arith, read, place.0, so.low.as_many) in
    let had : c.index-2.result.now ≡ get_or a.sizes.items c.index.result.now 0 =
    c.index-2.ensures ∙ get_or_default_zero a.sizes.items c.index.result.now c.index-2.result.now inside in
    let to : c.span.result.1 + 1 ≡ suc (to_at c.args.pieces.now a.order.items c.in-Some.j) =
    omega (arith, c.span.ensures.to, ap (λ n. span_to n (piece_at c.args.pieces.now n)) read) in
    record {
      state = look-grown c.args.pieces.now a.sizes.items a.order.items (λ x. leaf a.ends.nodes.items a.ends.width x)
          (λ x. leaf c.set.new.self.nodes.items c.set.new.self.width x) c.in-Some.j c.pop_front.new.self.items so
          (λ x. c.set.ensures.leaves x
          ∙ ap {B = ℕ} (λ n. if x == c.in-Some.j then n else leaf a.ends.nodes.items a.ends.width x) to)
          c.index.result.now c.needed-size.result read (c.needed-size.ensures.needed a.sizes.items kept.summed)
          (λ x. leaf c.mark.new.ends.nodes.items c.mark.new.ends.width x) c.mark.new.waiting.items
          (subst (λ o. AreMarks c.args.pieces.now o (λ x. leaf c.mark.new.ends.nodes.items c.mark.new.ends.width x))
          c.deref.ensures.value c.in_ok-mark.ensures.marks)
          (omega (arith, had, c.if-size-index.true))
          (subst (λ o. IsMarked c.args.pieces.now o c.index.result.now (λ x. leaf c.set.new.self.nodes.items c.set.new.self.width x)
          (λ x. leaf c.mark.new.ends.nodes.items c.mark.new.ends.width x) c.pop_front.new.self.items c.mark.new.waiting.items)
          c.deref.ensures.value c.in_ok-mark.ensures.marked);
      summed = summed-set a.sizes.items a.sums.nodes.items c.set-then-size-index.new.self.nodes.items a.sums.width
          c.set-then-size-index.new.self.width c.index.result.now c.needed-size.result c.from.result kept.summed inside
          (omega (arith, c.needed-size.type_inv)) c.set-then-size-index.ensures.width c.from.ensures
          (c.set-then-size-index.ensures.joined kept.summed.joined) c.set-then-size-index.ensures.leaves;
      joined = c.in_ok-mark.ensures.joined;
      wide = omega (arith, c.in_ok-mark.ensures.width, c.set.ensures.width, kept.wide);
      few = kept.few;
    }

pub returns-in_ok-mark-clause-fewer : goal.returns-in_ok-mark-clause-fewer
returns-in_ok-mark-clause-fewer g c more =
    let a = c.args.self.now in
    let kept = c.requires.kept in
    let so = subst (λ q. IsLayout c.args.pieces.now a.sizes.items a.order.items (λ x. leaf a.ends.nodes.items a.ends.width x) q)
    c.in-Some.ensures.items kept.state in
    let here : c.in-Some.j < length a.order.items = All-head (λ x. x < length a.order.items) c.in-Some.j c.pop_front.new.self.items
    so.below in
    let read : c.index.result.now ≡ get_or a.order.items c.in-Some.j 0 =
    c.index.ensures ∙ get_or_default_zero a.order.items c.in-Some.j c.index.result.now here in
    let place = so.ordered.places c.in-Some.j 0 here in
    let inside : c.index.result.now < length a.sizes.items = omega (arith, read, place.0, so.low.as_many) in
    let had : c.index-2.result.now ≡ get_or a.sizes.items c.index.result.now 0 =
    c.index-2.ensures ∙ get_or_default_zero a.sizes.items c.index.result.now c.index-2.result.now inside in
    let to : c.span.result.1 + 1 ≡ suc (to_at c.args.pieces.now a.order.items c.in-Some.j) =
    omega (arith, c.span.ensures.to, ap (λ n. span_to n (piece_at c.args.pieces.now n)) read) in
    let counted = look-counted c.args.pieces.now a.sizes.items a.order.items (λ x. leaf a.ends.nodes.items a.ends.width x)
    (λ x. leaf c.set.new.self.nodes.items c.set.new.self.width x) c.in-Some.j c.pop_front.new.self.items so
    (λ x. c.set.ensures.leaves x
    ∙ ap {B = ℕ} (λ n. if x == c.in-Some.j then n else leaf a.ends.nodes.items a.ends.width x) to)
    c.index.result.now c.needed-size.result read (c.needed-size.ensures.needed a.sizes.items kept.summed)
    (λ x. leaf c.mark.new.ends.nodes.items c.mark.new.ends.width x) c.mark.new.waiting.items
    (subst (λ o. AreMarks c.args.pieces.now o (λ x. leaf c.mark.new.ends.nodes.items c.mark.new.ends.width x))
    c.deref.ensures.value c.in_ok-mark.ensures.marks)
    (omega (arith, had, c.if-size-index.true))
    (subst (λ o. IsMarked c.args.pieces.now o c.index.result.now (λ x. leaf c.set.new.self.nodes.items c.set.new.self.width x)
    (λ x. leaf c.mark.new.ends.nodes.items c.mark.new.ends.width x) c.pop_front.new.self.items c.mark.new.waiting.items)
    c.deref.ensures.value c.in_ok-mark.ensures.marked)
    (subst (λ o. length c.mark.new.waiting.items ≤ length c.pop_front.new.self.items
    + count_by (λ i. is_within c.args.pieces.now i c.index.result.now) o) c.deref.ensures.value c.in_ok-mark.ensures.count) in
    omega (arith, counted, ap length c.in-Some.ensures.items)

pub returns-else-size-index-clause-kept : goal.returns-else-size-index-clause-kept
returns-else-size-index-clause-kept g c =
    let a = c.args.self.now in
    let kept = c.requires.kept in
    let so = subst (λ q. IsLayout c.args.pieces.now a.sizes.items a.order.items (λ x. leaf a.ends.nodes.items a.ends.width x) q)
    c.in-Some.ensures.items kept.state in
    let here : c.in-Some.j < length a.order.items = All-head (λ x. x < length a.order.items) c.in-Some.j c.pop_front.new.self.items
    so.below in
    let read : c.index.result.now ≡ get_or a.order.items c.in-Some.j 0 =
    c.index.ensures ∙ get_or_default_zero a.order.items c.in-Some.j c.index.result.now here in
    let place = so.ordered.places c.in-Some.j 0 here in
    let inside : c.index.result.now < length a.sizes.items = omega (arith, read, place.0, so.low.as_many) in
    let had : c.index-2.result.now ≡ get_or a.sizes.items c.index.result.now 0 =
    c.index-2.ensures ∙ get_or_default_zero a.sizes.items c.index.result.now c.index-2.result.now inside in
    let to : c.span.result.1 + 1 ≡ suc (to_at c.args.pieces.now a.order.items c.in-Some.j) =
    omega (arith, c.span.ensures.to, ap (λ n. span_to n (piece_at c.args.pieces.now n)) read) in
    record {
      state = look-still c.args.pieces.now a.sizes.items a.order.items (λ x. leaf a.ends.nodes.items a.ends.width x)
          (λ x. leaf c.set.new.self.nodes.items c.set.new.self.width x) c.in-Some.j c.pop_front.new.self.items so
          (λ x. c.set.ensures.leaves x
          ∙ ap {B = ℕ} (λ n. if x == c.in-Some.j then n else leaf a.ends.nodes.items a.ends.width x) to)
          c.index.result.now c.needed-size.result read (c.needed-size.ensures.needed a.sizes.items kept.summed)
          (omega (arith, had, c.if-size-index.false));
      summed = kept.summed;
      joined = c.set.ensures.joined kept.joined;
      wide = omega (arith, c.set.ensures.width, kept.wide);
      few = kept.few;
    }
