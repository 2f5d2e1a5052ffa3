use Rattle.std.proofs.Common.{◌∙◌, Ok, map, string_bytes, ap, option_map}
use Rattle.tn_words.specs.CommandWords.{grid}
use Rattle.tn_words.proofs.WordReading.{size_plain, grid_reads, seen-some}
use Rattle.tn_words.specs.ReadWords.{asked_by}
use Rattle.tn_words.proofs.commands.read_grid.Goals as goal

pub returns : goal.returns
returns c =
    grid_reads (map string_bytes c.args.words.now) (Ok c.grid_command.result)
    (λ command word size same named.
    let told = c.in_ok-matches.ensures.values command word same (size_plain word size named) in
    seen-some asked_by c.grid_command.result (grid size)
    (c.grid_command.ensures word (c.get_str.ensures ∙ told)
    ∙ ap (option_map grid) named))
