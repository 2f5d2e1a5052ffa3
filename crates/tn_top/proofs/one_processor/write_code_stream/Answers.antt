use Rattle.std.proofs.Common.{◌≡◌, ◌∙◌, [], ◌∷◌, ◌++◌, ap, subst}
use Rattle.tn_top.specs.Inner.Ends.{Puts}
use Rattle.tn_top.proofs.OneStreams.{boot-is}
use Rattle.tn_top.proofs.one_processor.write_code_stream.Goals as goal

pub returns : goal.returns
returns g c =
    let image = c.in_ok-image.image in
    let images_are : c.deref.result.now ≡ image ∷ [] =
    c.deref.ensures.value ∙ (c.in_ok-push.ensures.items ∙ ap (λ xs. xs ++ image ∷ []) c.new-images.ensures.items) in
    subst (λ text. Puts c.args.name.now text (g.S.Store.stored c.args.store.now) (g.S.Store.stored c.write_stream.new.store)
    c.write_stream.result)
    (boot-is c.args.link c.args.code.items c.deref.result.now image c.in_ok-tree.tree.nodes.items images_are c.in_ok-image.ensures.image
    c.in_ok-tree.ensures) c.write_stream.ensures
