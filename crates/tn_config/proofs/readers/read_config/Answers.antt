use Rattle.std.proofs.Common.{◌-◌, ◌≤◌, length, arith}
use Rattle.std.proofs.lemmas.Result.{IfOk-weaker}
use Rattle.std.proofs.lemmas.List.{length-map}
use Rattle.tn_text.specs.declared.limits.TheConstants.{PROCESSOR_LIMIT}
use Rattle.tn_net.specs.Lines.{IsAdmitted}
use Rattle.tn_text.proofs.Readers.{gives-found, gives-only, gives-fault}
use Rattle.tn_config.specs.Configurations.{block_of, config_of, file_lines}
use Rattle.tn_config.specs.Networks.{described}
use Rattle.tn_config.specs.Writable.{IsWritable}
use Rattle.tn_config.specs.Parts.{IsConfig}
use Rattle.tn_config.specs.ConfigFaults.{IsConfigFault}
use Rattle.tn_config.specs.ConfigReading.{config_read}
use Rattle.tn_config.specs.declared.configurations.Config.{Config}
use Rattle.tn_config.proofs.ConfigLaws.{config_reading}
use Rattle.tn_config.proofs.Admitted.{config_writable, config_admitted}
use Rattle.tn_config.proofs.FileLines.{files_few}
use Rattle.tn_config.proofs.readers.read_config.Goals as goal

pub returns-clause-found : goal.returns-clause-found
returns-clause-found c =
    gives-found (λ (found : Config). config_of found) (IsConfig c.args.text.now) (IsConfigFault c.args.text.now)
    (config_read c.args.text.now) (config_reading c.args.text.now) c.read_all.result c.read_all.ensures

pub returns-clause-only : goal.returns-clause-only
returns-clause-only c =
    gives-only (λ (found : Config). config_of found) (IsConfig c.args.text.now) (IsConfigFault c.args.text.now)
    (config_read c.args.text.now) (config_reading c.args.text.now) c.read_all.result c.read_all.ensures

pub returns-clause-fault : goal.returns-clause-fault
returns-clause-fault c =
    gives-fault (λ (found : Config). config_of found) (IsConfig c.args.text.now) (IsConfigFault c.args.text.now)
    (config_read c.args.text.now) (config_reading c.args.text.now) c.read_all.result c.read_all.ensures

pub returns-clause-writable : goal.returns-clause-writable
returns-clause-writable c =
    IfOk-weaker c.read_all.result (λ (found : Config). IsConfig c.args.text.now (config_of found))
    (λ (found : Config). IsWritable (config_of found))
    (λ found is. config_writable c.args.text.now (config_of found) is)
    (gives-found (λ (found : Config). config_of found) (IsConfig c.args.text.now) (IsConfigFault c.args.text.now)
    (config_read c.args.text.now) (config_reading c.args.text.now) c.read_all.result c.read_all.ensures)

pub returns-clause-admitted : goal.returns-clause-admitted
returns-clause-admitted c =
    IfOk-weaker c.read_all.result (λ (found : Config). IsConfig c.args.text.now (config_of found))
    (λ (found : Config). length found.blocks.items ≤ PROCESSOR_LIMIT → IsAdmitted (described (config_of found)))
    (λ found is few. config_admitted c.args.text.now (config_of found) is c.requires
    (omega (arith, few, length-map found.blocks.items block_of)))
    (gives-found (λ (found : Config). config_of found) (IsConfig c.args.text.now) (IsConfigFault c.args.text.now)
    (config_read c.args.text.now) (config_reading c.args.text.now) c.read_all.result c.read_all.ensures)

pub returns-clause-files : goal.returns-clause-files
returns-clause-files c =
    IfOk-weaker c.read_all.result (λ (found : Config). IsConfig c.args.text.now (config_of found))
    (λ (found : Config). file_lines (config_of found) ≤ length c.args.text.now - 1)
    (λ found is. files_few c.args.text.now (config_of found) is)
    (gives-found (λ (found : Config). config_of found) (IsConfig c.args.text.now) (IsConfigFault c.args.text.now)
    (config_read c.args.text.now) (config_reading c.args.text.now) c.read_all.result c.read_all.ensures)
