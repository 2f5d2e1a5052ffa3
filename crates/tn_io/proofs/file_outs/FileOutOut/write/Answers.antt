use Rattle.tn_io.specs.FileOuts.{over_file}
use Rattle.tn_io.proofs.OpenFiles.{prints-write, goes_on-write}
use Rattle.tn_io.proofs.file_outs.FileOutOut.write.Goals as goal

pub returns-clause-prints : goal.returns-clause-prints
returns-clause-prints g c =
    prints-write c.args.bytes.now c.pass_on.result (over_file g.S.Store.stored c.args.self.now)
    (over_file g.S.Store.stored c.pass_on.new.self) c.pass_on.ensures.passed_on c.pass_on.ensures.marks

pub returns-clause-goes_on : goal.returns-clause-goes_on
returns-clause-goes_on g c =
    goes_on-write c.args.bytes.now (over_file g.S.Store.stored c.args.self.now) (over_file g.S.Store.stored c.pass_on.new.self)
    c.pass_on.result c.pass_on.ensures.passed_on c.pass_on.ensures.marks
