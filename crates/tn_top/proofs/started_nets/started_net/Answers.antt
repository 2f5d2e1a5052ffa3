use Rattle.std.proofs.Common.{◌≡◌, ◌∙◌, List, ℕ, sym, ap, subst}
use Rattle.tn_stream.specs.Images.{images_of}
use Rattle.tn_stream.specs.LoadBranches.{whole_branch}
use Rattle.tn_stream.specs.Streams.{stream}
use Rattle.tn_network.specs.Resets.{PowerState, AreSized, reset_net}
use Rattle.tn_load.specs.Boots.{entries_of}
use Rattle.tn_top.specs.SystemNets.{filled_powers}
use Rattle.tn_top.proofs.SettledNets.{filled-sized, entries-same}
use Rattle.std.proofs.Common.{length}
use Rattle.std.proofs.lemmas.List.{length-map}
use Rattle.tn_stream.specs.declared.images.Image.{Image}
use Rattle.tn_top.proofs.started_nets.started_net.Goals as goal

pub reset-requires-clause-powers : goal.reset-requires-clause-powers
reset-requires-clause-powers c =
    subst (λ (powers : List PowerState). AreSized powers c.args.system.now.network) (sym c.in_ok-powers.ensures)
    (filled-sized c.args.fill c.args.system.now.network)

pub returns-in-Ok : goal.returns-in-Ok
returns-in-Ok c =
    let system = c.args.system.now in
    let host : c.in_ok-host.host.items ≡ stream (whole_branch (images_of system.images.items) system.tree.nodes.items) =
    rw c.deref.ensures.value at c.in_ok-host.ensures in
    let entries : c.deref-3.result.now ≡ entries_of (images_of system.images.items) =
    c.deref-3.ensures.value ∙ ((rw c.deref-2.ensures.value at c.in_ok-entries.ensures) ∙ entries-same system.images.items) in
    c.in-Ok.ensures
    ∙ (ap (λ (powers : List PowerState). reset_net system.network powers c.in_ok-host.host.items c.deref-3.result.now)
    c.in_ok-powers.ensures
    ∙ (ap (λ (bytes : List ℕ). reset_net system.network (filled_powers c.args.fill system.network.sizes) bytes c.deref-3.result.now) host
    ∙ ap (λ (holds : List ℕ). reset_net system.network (filled_powers c.args.fill system.network.sizes)
    (stream (whole_branch (images_of system.images.items) system.tree.nodes.items)) holds) entries))

pub stream_of-requires-clause-whole : goal.stream_of-requires-clause-whole
stream_of-requires-clause-whole c = rw c.deref.ensures.value c.requires.loadable.whole

pub reset-requires-clause-holds : goal.reset-requires-clause-holds
reset-requires-clause-holds c =
    ap (λ xs. length xs) (c.deref-3.ensures.value ∙ (rw c.deref-2.ensures.value at c.in_ok-entries.ensures))
    ∙ (length-map c.args.system.now.images.items (λ (i : Image). i.entry) ∙ c.requires.entries)
