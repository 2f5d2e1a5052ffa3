use Rattle.std.proofs.Common.{◌≡◌, inl, inr, length, sym, ◌∙◌, arith}
use Rattle.std.proofs.lemmas.Bool.{cases_lt}
use Rattle.std.proofs.lemmas.List.{get_or_past}
use Rattle.tn_layout.proofs.LayoutLaws.{leaf-set, leaf-others}
use Rattle.tn_layout.proofs.layouts.sums_of.Goals as goal

pub loop-i-preserved : goal.loop-i-preserved
loop-i-preserved c = record {
  joined = c.set.ensures.joined c.loop-i.invariant.joined;
  wide = omega (arith, c.set.ensures.width, c.loop-i.invariant.wide);
  done = λ k l. elim (cases_lt k c.loop-i.i) [
    | inl before ↦ leaf-others _ _ c.loop-i.i _ c.set.ensures.leaves k (λ e. absurd (omega (arith, e, before))) ∙
        c.loop-i.invariant.done k before
    | inr after ↦ (let is : k ≡ c.loop-i.i = omega (arith, l, after) in
        rw (is) (leaf-set _ _ c.loop-i.i _ c.set.ensures.leaves ∙ c.from.ensures))
  ];
  rest = λ k l. leaf-others _ _ c.loop-i.i _ c.set.ensures.leaves k (λ e. absurd (omega (arith, e, l)))
      ∙ c.loop-i.invariant.rest k (omega (arith, l));
}

pub returns : goal.returns
returns c = record {
  joined = c.loop-i.invariant.joined;
  leaves = λ k. elim (cases_lt k (length c.args.sizes.now)) [
    | inl here ↦ c.loop-i.invariant.done k (omega (arith, here, c.loop-i-test.false))
    | inr past ↦ c.loop-i.invariant.rest k (omega (arith, past, c.loop-i.auto.i-end)) ∙ sym (get_or_past c.args.sizes.now k 0 past)
  ];
  wide = c.loop-i.invariant.wide;
  small = λ k. omega (arith, c.type_inv.sizes k);
}
