use Rattle.std.proofs.Common.{rules}
use Rattle.tn_io.proofs.file_outs.FileOut.pass_on.Goals as goal

pub returns-clause-passed_on : goal.returns-clause-passed_on
returns-clause-passed_on g c = search rules

pub returns-clause-marks : goal.returns-clause-marks
returns-clause-marks g c = search rules
