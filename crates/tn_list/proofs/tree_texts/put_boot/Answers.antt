use Rattle.std.proofs.Common.{◌<◌, length, refl, sym, subst, codes}
use Rattle.tn_net.specs.Trees.{LoadNode}
use Rattle.tn_text.proofs.Putting.{Puts-as, Puts-joined, Puts-stopped, Puts-refused}
use Rattle.tn_list.specs.TreeTexts.{word_and_number}
use Rattle.tn_list.proofs.TreeLaws.{name_read, boot_made}
use Rattle.tn_list.proofs.tree_texts.put_boot.Goals as goal

pub returns-in_err-put-clause-puts : goal.returns-in_err-put-clause-puts
returns-in_err-put-clause-puts g c =
    let inside : c.node.inside.processor < length c.args.names.now =
    subst (λ (n : LoadNode). n.processor < length c.args.names.now) (sym c.node.view_is) c.requires in
    Puts-refused c.from_residual.ensures.0 (Puts-as
    (boot_made c.args.names.now c.bytes.result.now c.node.inside.boot_link c.node.view_is
    (name_read c.args.names.now c.node.inside.processor c.bytes.result.now c.index-names-node.result c.bytes.ensures.bytes inside
    c.index-names-node.is) refl)
    (Puts-stopped (word_and_number (codes "boot") c.node.inside.boot_link) c.in_err-put.ensures.puts))

pub returns-clause-puts : goal.returns-clause-puts
returns-clause-puts g c =
    let inside : c.node.inside.processor < length c.args.names.now =
    subst (λ (n : LoadNode). n.processor < length c.args.names.now) (sym c.node.view_is) c.requires in
    Puts-as
    (boot_made c.args.names.now c.bytes.result.now c.from.result c.node.view_is
    (name_read c.args.names.now c.node.inside.processor c.bytes.result.now c.index-names-node.result c.bytes.ensures.bytes inside
    c.index-names-node.is) c.from.ensures)
    (Puts-joined c.in_ok-put.ensures.puts c.put_word_and_number.ensures.puts)
