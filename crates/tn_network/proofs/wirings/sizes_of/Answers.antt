use Rattle.std.proofs.Common.{ℕ, ◌<◌, ◌≤◌, ◌++◌, ◌∷◌, [], List, length, take, sym, ap, subst, ◌∙◌}
use Rattle.std.proofs.lemmas.List.{take_all, take_more}
use Rattle.tn_network.proofs.wirings.sizes_of.Goals as goal

pub size-requires : goal.size-requires
size-requires c = subst (λ (n : ℕ). c.loop-p.p < n) c.count-p-end.ensures.value c.loop-p-test.true

pub loop-p-preserved : goal.loop-p-preserved
loop-p-preserved c =
    let sizes : List ℕ = c.args.network.now.sizes in
    let within : c.loop-p.p < length sizes = subst (λ (n : ℕ). c.loop-p.p < n) c.count-p-end.ensures.value c.loop-p-test.true in
    c.in_ok-push.ensures.items ∙ ap (λ xs. xs ++ c.size.result ∷ []) c.loop-p.invariant
    ∙ ap (λ x. take c.loop-p.p sizes ++ x ∷ []) c.size.ensures.value ∙ sym (take_more sizes c.loop-p.p 0 within)

pub returns : goal.returns
returns c =
    let sizes : List ℕ = c.args.network.now.sizes in
    let past : length sizes ≤ c.loop-p.p = subst (λ (n : ℕ). n ≤ c.loop-p.p) c.count-p-end.ensures.value c.loop-p-test.false in
    c.loop-p.invariant ∙ take_all c.loop-p.p sizes past
