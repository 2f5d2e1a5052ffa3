use Rattle.std.proofs.Common.{rules, refl, take}
use Rattle.tn_stream.specs.Images.{images_of}
use Rattle.tn_stream.specs.LoadBranches.{whole_branch}
use Rattle.tn_stream.specs.Streams.{stream}
use Rattle.tn_io.specs.FileOuts.{over_file}
use Rattle.tn_top.proofs.Emitted.{grown-later, grown-part}
use Rattle.tn_top.proofs.stream_files.emit_to.Goals as goal

pub returns-in-Ok-clause-extends : goal.returns-in-Ok-clause-extends
returns-in-Ok-clause-extends g c =
    let text = stream (whole_branch (images_of c.args.images.now) c.args.tree.now.nodes.items) in
    let old = over_file g.S.Store.stored c.args.out.now in
    let new = over_file g.S.Store.stored c.collect_with.new.emit in
    record {
      ok = grown-later c.args.name.now text old new c.requires.is_open c.requires.there
          (c.in-Ok.ensures.goes_on (rw c.requires.is_open refl)) c.in-Ok.ensures.prints.ok;
      err = search rules;
      still_open = search rules;
      failed = search rules;
      count = search rules;
      reading = search rules;
    }

pub returns-in-Some-NoMemory-clause-extends : goal.returns-in-Some-NoMemory-clause-extends
returns-in-Some-NoMemory-clause-extends g c =
    let text = stream (whole_branch (images_of c.args.images.now) c.args.tree.now.nodes.items) in
    let old = over_file g.S.Store.stored c.args.out.now in
    let new = over_file g.S.Store.stored c.collect_with.new.emit in
    let front = c.in-Err.ensures.prints.err in
    record {
      ok = search rules;
      err = grown-part c.args.name.now (take front.0 text) old new c.requires.is_open c.requires.there
          (c.in-Err.ensures.goes_on (rw c.requires.is_open refl)) text front.0 refl front.1;
      still_open = search rules;
      failed = search rules;
      count = search rules;
      reading = search rules;
    }

pub returns-in_default-clause-extends : goal.returns-in_default-clause-extends
returns-in_default-clause-extends g c =
    let text = stream (whole_branch (images_of c.args.images.now) c.args.tree.now.nodes.items) in
    let old = over_file g.S.Store.stored c.args.out.now in
    let new = over_file g.S.Store.stored c.collect_with.new.emit in
    let front = c.in-Err.ensures.prints.err in
    record {
      ok = search rules;
      err = grown-part c.args.name.now (take front.0 text) old new c.requires.is_open c.requires.there
          (c.in-Err.ensures.goes_on (rw c.requires.is_open refl)) text front.0 refl front.1;
      still_open = search rules;
      failed = search rules;
      count = search rules;
      reading = search rules;
    }
