use Rattle.std.proofs.Common.{◌∙◌, map, string_bytes, ◌∷◌}
use Rattle.std.specs.List.{list_all}
use Rattle.tn_words.specs.CommandWords.{is_file_word}
use Rattle.tn_words.proofs.Options.{both}
use Rattle.tn_words.proofs.WordReading.{all_plain, lib_reads}
use Rattle.tn_words.proofs.commands.read_lib.Goals as goal

pub returns : goal.returns
returns c =
    lib_reads (map string_bytes c.args.words.now) c.lib_command.result
    (λ command target source sources same files.
    let told = c.in_ok-matches.ensures.values command target source sources same (all_plain (target ∷ source ∷ sources) files) in
    let parts = both (is_file_word target) (list_all is_file_word (source ∷ sources)) files in
    c.lib_command.ensures target (source ∷ sources) (c.get_str-target.ensures ∙ told.0) (c.get_raw.ensures ∙ told.1) parts.0 parts.1)
