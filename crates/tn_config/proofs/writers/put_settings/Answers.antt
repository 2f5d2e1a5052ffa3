use Rattle.std.proofs.Common.{◌++◌, map, ap, ◌∙◌}
use Rattle.std.specs.List.{flat_map}
use Rattle.std.proofs.lemmas.Result.{on_ok_weaker}
use Rattle.tn_config.specs.declared.statements.Setting.TheVariants as setting
use Rattle.tn_config.specs.declared.statements.Statement.TheVariants as statement
use Rattle.tn_config.specs.Configurations.{block_of}
use Rattle.tn_config.specs.Spellings.{statement_spelling}
use Rattle.tn_config.proofs.WriterLaws.{settings-put}
use Rattle.tn_config.proofs.writers.put_settings.Goals as goal

pub returns : goal.returns
returns c =
    on_ok_weaker c.put_args.result (λ args. settings-put (block_of c.args.block.now) c.args.out.now.items c.put_setting.new.out.items
    c.put_setting-2.new.out.items c.put_setting-3.new.out.items c.put_modules.new.out.items c.put_libraries.new.out.items
    c.put_setting-4.new.out.items c.put_args.new.out.items (record {
      code = c.in_ok-put_setting.ensures;
      cells = c.in_ok-put_setting-2.ensures;
      workspace = c.in_ok-put_setting-3.ensures;
      modules = c.in_ok-put_modules.ensures
          ∙ ap (λ xs. c.put_setting-3.new.out.items ++ flat_map statement_spelling (map statement.Set (map setting.Module xs)))
          c.deref.ensures.value;
      libraries = c.in_ok-put_libraries.ensures
          ∙ ap (λ xs. c.put_modules.new.out.items ++ flat_map statement_spelling (map statement.Set (map setting.Library xs)))
          c.deref-2.ensures.value;
      entry = c.in_ok-put_setting-4.ensures;
      args = args
          ∙ ap (λ xs. c.put_setting-4.new.out.items ++ flat_map statement_spelling (map statement.Set (map setting.Arg xs)))
          c.deref-3.ensures.value;
    })) c.put_args.ensures
