use Rattle.std.proofs.Common.{rules, subst, sym, ◌∙◌}
use Rattle.tn_top.specs.Outcomes.{Told, Holds}
use Rattle.tn_top.proofs.Puts.{on_err_always, on_ok_more, on_err_more, refused-create, refused-write, written, refused-close}
use Rattle.tn_top.proofs.endings.put_file.Goals as goal

pub returns-in_err-create : goal.returns-in_err-create
returns-in_err-create g c = record {
  ok = search rules;
  closed = search rules;
  err = on_err_always c.from_residual.result (refused-create c.args.name.now c.args.bytes.now (g.S.Store.stored c.args.store.now).files
      (g.S.Store.stored c.create.new.self).files c.in_err-create.ensures.creates.err.0);
  failed = search rules;
  count = search rules;
  reading = search rules;
}

pub returns-in_err-write : goal.returns-in_err-write
returns-in_err-write g c =
    let before = g.S.Store.stored c.args.store.now in
    let made = g.S.Store.stored c.create.new.self in
    record {
      ok = search rules;
      closed = search rules;
      err = on_err_always c.from_residual-in_err-write.result (refused-write c.args.name.now c.args.bytes.now before.files made.files
          (g.S.Store.stored c.write.new.self).files made.opened c.in_ok-create.ensures.creates.ok.0 c.in_ok-create.ensures.creates.ok.1
          c.in_err-write.ensures.writes.err);
      failed = search rules;
      count = search rules;
      reading = search rules;
    }

pub returns : goal.returns
returns g c =
    let before = g.S.Store.stored c.args.store.now in
    let made = g.S.Store.stored c.create.new.self in
    let full = g.S.Store.stored c.write.new.self in
    let all = written c.args.name.now c.args.bytes.now before.files made.files full.files made.opened c.in_ok-create.ensures.creates.ok.0
    c.in_ok-create.ensures.creates.ok.1 c.in_ok-write.ensures.writes.ok in
    record {
      ok = on_ok_more c.close.result c.close.ensures.closes.ok (λ e. subst
          (λ f. Told before.files f (Holds c.args.name.now c.args.bytes.now)) (sym e) all);
      closed = search rules;
      err = on_err_more c.close.result c.close.ensures.closes.err
          (λ e. refused-close c.args.name.now c.args.bytes.now before.files full.files (g.S.Store.stored c.close.new.self).files
          full.opened (c.in_ok-write.ensures.writes.opened ∙ c.in_ok-create.ensures.creates.ok.1) all e);
      failed = search rules;
      count = search rules;
      reading = search rules;
    }
