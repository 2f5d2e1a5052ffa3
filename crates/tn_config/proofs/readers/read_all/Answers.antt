use Rattle.std.proofs.Common.{◌≡◌, ◌+◌, ◌≤◌, length, Result, Err, sym, ap, ◌∙◌, arith}
use Rattle.tn_text.specs.declared.faults.ReadFault.{ReadFault}
use Rattle.tn_text.specs.Reading.{placed, Gives}
use Rattle.tn_text.proofs.ReadingLoops.{reads-end}
use Rattle.tn_text.proofs.Results.{of-error}
use Rattle.tn_config.specs.declared.configurations.Config.{Config}
use Rattle.tn_config.specs.Configurations.{config_of}
use Rattle.tn_config.specs.ConfigReading.{config_line, finish, config_read}
use Rattle.tn_config.specs.Inner.Readers.{reader_of}
use Rattle.tn_config.proofs.ReadLoop.{line_good, line_longer, line_stopped}
use Rattle.tn_config.proofs.readers.read_all.Goals as goal

pub returns-in_err-read_line : goal.returns-in_err-read_line
returns-in_err-read_line c =
    of-error (λ (read : Result Config ReadFault). Gives config_of read (config_read c.args.text.now)) c.from_residual.result
    c.in_err-read_line.field-0.0 c.from_residual.ensures.1
    (line_stopped (reader_of c.loop-line.reader) c.loop-line.rest.now (config_read c.args.text.now) c.loop-line.invariant.0
    c.in-Some.line.now c.in-Some.behind.now c.in-Some.ensures.value (λ (u : Unit {0}). reader_of c.read_line.new.reader)
    (λ (found : Config). config_of found) c.in_err-read_line.field-0.0 c.in_err-read_line.ensures)

pub loop-line-preserved : goal.loop-line-preserved
loop-line-preserved c = (
  line_good (reader_of c.loop-line.reader) c.loop-line.rest.now (config_read c.args.text.now) c.loop-line.invariant.0
      c.in-Some.line.now c.in-Some.behind.now c.in-Some.ensures.value (reader_of c.read_line.new.reader) c.in_ok-read_line.ensures,
  counted,
)
  where
    longer : c.read_line.new.reader.lines ≡ c.loop-line.reader.lines + 1
    longer =
        line_longer (reader_of c.loop-line.reader) c.loop-line.rest.now (config_read c.args.text.now) c.loop-line.invariant.0
        c.in-Some.line.now c.in-Some.behind.now c.in-Some.ensures.value (reader_of c.read_line.new.reader) c.in_ok-read_line.ensures

    counted : c.read_line.new.reader.lines + length c.in-Some.behind.now ≤ length c.args.text.now
    counted = omega (arith, longer, c.loop-line.invariant.1, c.in-Some.ensures.shorter)

pub returns-in-Ok : goal.returns-in-Ok
returns-in-Ok c =
    ap (λ r. placed (c.loop-line.reader.lines + 1) r) c.in-Ok.ensures
    ∙ sym (reads-end config_line finish (reader_of c.loop-line.reader) c.loop-line.reader.lines c.loop-line.rest.now
    (config_read c.args.text.now) c.loop-line.invariant.0 c.in_default.ensures.value)

pub returns-in-Err : goal.returns-in-Err
returns-in-Err c =
    ap Err c.at.ensures ∙ (ap (λ r. placed (c.loop-line.reader.lines + 1) r) c.in-Err.ensures
    ∙ sym (reads-end config_line finish (reader_of c.loop-line.reader) c.loop-line.reader.lines c.loop-line.rest.now
    (config_read c.args.text.now) c.loop-line.invariant.0 c.in_default.ensures.value))
