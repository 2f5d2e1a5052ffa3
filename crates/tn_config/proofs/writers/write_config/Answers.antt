use Rattle.std.proofs.Common.{◌++◌, ap, sym, ◌∙◌, subst}
use Rattle.tn_config.specs.Configurations.{config_of}
use Rattle.tn_config.specs.Spellings.{config_spelling}
use Rattle.tn_config.specs.Writable.{IsReadBack}
use Rattle.tn_config.proofs.ReadBack.{read_back}
use Rattle.tn_config.proofs.writers.write_config.Goals as goal

pub returns-clause-read_back : goal.returns-clause-read_back
returns-clause-read_back c =
    λ writable. subst (λ text. IsReadBack text (config_of c.args.config.now))
    (sym (c.in_ok-put_config.ensures ∙ ap (λ text. text ++ config_spelling (config_of c.args.config.now)) c.new-text.ensures.items))
    (read_back (config_of c.args.config.now) writable)
