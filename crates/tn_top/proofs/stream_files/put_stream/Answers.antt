use Rattle.std.proofs.Common.{rules, [], sym, subst}
use Rattle.tn_stream.specs.Images.{images_of}
use Rattle.tn_stream.specs.LoadBranches.{whole_branch}
use Rattle.tn_stream.specs.Streams.{stream}
use Rattle.tn_top.specs.Outcomes.{Told, Holds}
use Rattle.tn_top.proofs.Puts.{on_err_always, on_ok_more, on_err_more, refused-create, made-empty, refused-close}
use Rattle.tn_top.proofs.Emitted.{grown-made, grown-made-part, made-there}
use Rattle.tn_top.proofs.stream_files.put_stream.Goals as goal

pub returns-in_err-create : goal.returns-in_err-create
returns-in_err-create g c = record {
  ok = search rules;
  closed = search rules;
  err = on_err_always c.from_residual.result (refused-create c.args.name.now
      (stream (whole_branch (images_of c.args.images.now) c.args.tree.now.nodes.items)) (g.S.Store.stored c.args.store.now).files
      (g.S.Store.stored c.create.new.self).files c.in_err-create.ensures.creates.err.0);
  failed = search rules;
  count = search rules;
  reading = search rules;
}

pub emit-requires-clause-there : goal.emit-requires-clause-there
emit-requires-clause-there g c =
    made-there c.args.name.now (g.S.Store.stored c.create.new.self).opened (g.S.Store.stored c.args.store.now).files
    (g.S.Store.stored c.create.new.self).files c.in_ok-create.ensures.creates.ok.1 c.in_ok-create.ensures.creates.ok.0

pub returns-in_err-emit : goal.returns-in_err-emit
returns-in_err-emit g c =
    let text = stream (whole_branch (images_of c.args.images.now) c.args.tree.now.nodes.items) in
    let before = (g.S.Store.stored c.args.store.now).files in
    let made = (g.S.Store.stored c.create.new.self).files in
    record {
      ok = search rules;
      closed = search rules;
      err = on_err_always c.from_residual-in_err-emit.result (grown-made-part c.args.name.now text before made
          (g.S.Store.stored c.emit.new.store).files (made-empty c.args.name.now before made c.in_ok-create.ensures.creates.ok.0)
          c.in_err-emit.ensures.err);
      failed = search rules;
      count = search rules;
      reading = search rules;
    }

pub returns : goal.returns
returns g c =
    let text = stream (whole_branch (images_of c.args.images.now) c.args.tree.now.nodes.items) in
    let before = (g.S.Store.stored c.args.store.now).files in
    let made = (g.S.Store.stored c.create.new.self).files in
    let full = g.S.Store.stored c.emit.new.store in
    let all = grown-made c.args.name.now [] text before made full.files
    (made-empty c.args.name.now before made c.in_ok-create.ensures.creates.ok.0) c.in_ok-emit.ensures.ok in
    record {
      ok = on_ok_more c.close.result c.close.ensures.closes.ok (λ e. subst (λ f. Told before f (Holds c.args.name.now text)) (sym e) all);
      closed = search rules;
      err = on_err_more c.close.result c.close.ensures.closes.err
          (λ e. refused-close c.args.name.now text before full.files (g.S.Store.stored c.close.new.self).files full.opened
          c.in_ok-emit.ensures.still_open all e);
      failed = search rules;
      count = search rules;
      reading = search rules;
    }
