use Rattle.std.proofs.Common.{arith}
use Rattle.tn_system.proofs.EachOnce.{keys-more, keys-fit, places-more}
use Rattle.tn_system.proofs.files.add_files.Goals as goal

pub overflow_cast-place : goal.overflow_cast-place
overflow_cast-place c =
    omega (
      arith,
      c.requires,
      c.in_ok-place.ensures.within,
      keys-fit c.args.files.now.keys c.args.named.now c.loop-file.files.keys c.insert_full.new.self.keys c.loop-file.file-index c.of.result
          c.file-item.result c.loop-file-test.true c.file-item.is c.of.ensures c.loop-file.invariant.0 c.in_ok-place.ensures.keys,
    )

pub loop-file-preserved : goal.loop-file-preserved
loop-file-preserved c = (
  keys-more c.args.files.now.keys c.args.named.now c.loop-file.files.keys c.insert_full.new.self.keys c.loop-file.file-index c.of.result
      c.file-item.result c.loop-file-test.true c.file-item.is c.of.ensures c.loop-file.invariant.0 c.in_ok-place.ensures.keys,
  places-more c.args.files.now.keys c.args.named.now c.loop-file.files.keys c.insert_full.new.self.keys c.loop-file.file-index c.of.result
      c.file-item.result c.loop-file-test.true c.file-item.is c.of.ensures c.loop-file.invariant.0 c.in_ok-place.ensures.keys
      c.loop-file.places.items c.push.new.self.items c.in_ok-place.place c.loop-file.invariant.1 c.in_ok-place.ensures.index
      c.in_ok-push.ensures.items,
)
