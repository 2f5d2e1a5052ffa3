use Rattle.std.proofs.Common.{◌≡◌, ◌∙◌, ap, sym, Err, arith, length, map}
use Rattle.std.proofs.lemmas.List.{length-map}
use Rattle.tn_text.specs.declared.limits.Limit.TheVariants.{Processors}
use Rattle.tn_config.specs.Configurations.{block_of, config_of}
use Rattle.tn_top.specs.Plans.{limit}
use Rattle.tn_top.proofs.SystemTexts.{config-within, config-above, config-fault}
use Rattle.tn_top.proofs.systems.config_in.Goals as goal

pub returns-in-Err-Fault-clause-made : goal.returns-in-Err-Fault-clause-made
returns-in-Err-Fault-clause-made c =
    rw (c.copied.ensures, c.in-Err-Fault.first-is) (config-fault c.args.file.now c.args.text.now c.in-Err-Fault.first
    (rw c.in-Err-Fault.field-0-is at c.in-Err-Fault.ensures.gives))

pub returns-then-len-gt-PROCESSOR_LIMIT-clause-made : goal.returns-then-len-gt-PROCESSOR_LIMIT-clause-made
returns-then-len-gt-PROCESSOR_LIMIT-clause-made c =
    let config = c.in-Ok.config in
    let many : length (map block_of config.blocks.items) ≡ length config.blocks.items = length-map config.blocks.items block_of in
    config-above c.args.file.now c.args.text.now (config_of config) c.in-Ok.ensures.gives
    (omega (arith, many, config.blocks.ok.0, c.len.ensures, c.if-len-gt-PROCESSOR_LIMIT.true))
    ∙ ap (λ n. Err (limit Processors n)) (many ∙ sym (c.len-then-len-gt-PROCESSOR_LIMIT.ensures ∙ config.blocks.ok.0))

pub returns-clause-made : goal.returns-clause-made
returns-clause-made c =
    let config = c.in-Ok.config in
    let many : length (map block_of config.blocks.items) ≡ length config.blocks.items = length-map config.blocks.items block_of in
    config-within c.args.file.now c.args.text.now (config_of config) c.in-Ok.ensures.gives
    (omega (arith, many, config.blocks.ok.0, c.len.ensures, c.if-len-gt-PROCESSOR_LIMIT.false))

pub returns-clause-right : goal.returns-clause-right
returns-clause-right c =
    let config = c.in-Ok.config in
    record {
      writable = c.in-Ok.ensures.writable;
      admitted = c.in-Ok.ensures.admitted (omega (arith, config.blocks.ok.0, c.len.ensures, c.if-len-gt-PROCESSOR_LIMIT.false));
      few_files = omega (arith, c.in-Ok.ensures.files, c.requires);
    }

pub returns-clause-few : goal.returns-clause-few
returns-clause-few c =
    let config = c.in-Ok.config in
    omega (arith, config.blocks.ok.0, c.len.ensures, c.if-len-gt-PROCESSOR_LIMIT.false)
