use Rattle.std.proofs.Common.{◌≡◌, length, arith, sym, ap, ◌∙◌}
use Rattle.tn_word.specs.Channels.{out_channel_of}
use Rattle.tn_loader.specs.Commands.{command_bytes}
use Rattle.tn_net.specs.Trees.{LoadNode, node_at}
use Rattle.tn_stream.specs.Images.{images_of}
use Rattle.tn_stream.specs.LoadBranches.{branch_at}
use Rattle.tn_stream.specs.Waves.{part_of, length_in}
use Rattle.tn_stream.proofs.NodeReads.{node-read}
use Rattle.tn_stream.proofs.LengthLaws.{length_in-of}
use Rattle.tn_stream.proofs.TableLaws.{table-at, table-length}
use Rattle.tn_stream.proofs.Printing.{Prints-as}
use Rattle.tn_stream.proofs.collects.emit_forward.Goals as goal

pub at-requires : goal.at-requires
at-requires g c =
    let size = table-length (images_of c.args.images.now) c.args.tree.now.nodes.items c.args.lengths.now c.requires.lengths in
    omega (arith, size, c.requires.here)

pub returns-clause-prints : goal.returns-clause-prints
returns-clause-prints g c =
    let channel : c.out_channel-channel.result ≡ out_channel_of (node_at c.args.tree.now.nodes.items c.args.c).parent_link =
    c.out_channel-channel.ensures ∙ ap (λ (n : LoadNode). out_channel_of n.parent_link)
    (sym (node-read c.args.tree.now.nodes.items c.args.c c.behind-tree.view_is c.index.ensures c.requires.here)) in
    let size : c.of.result ≡ length (part_of c.args.wave (branch_at (images_of c.args.images.now) c.args.tree.now.nodes.items c.args.c)) =
    c.of.ensures ∙ (ap (length_in c.args.wave)
    (table-at (images_of c.args.images.now) c.args.tree.now.nodes.items c.args.lengths.now c.args.c c.at.result c.requires.lengths
    c.requires.here c.at.ensures.value)
    ∙ length_in-of c.args.wave (images_of c.args.images.now) c.args.tree.now.nodes.items c.args.c) in
    Prints-as
    (c.command.ensures.bytes ∙ (ap (λ n. command_bytes 1 n c.of.result) channel
    ∙ ap (command_bytes 1 (out_channel_of (node_at c.args.tree.now.nodes.items c.args.c).parent_link)) size))
    c.write.ensures.prints
