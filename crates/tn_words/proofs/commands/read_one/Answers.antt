use Rattle.std.proofs.Common.{◌∙◌, Ok, map, string_bytes, ap, option_map}
use Rattle.tn_words.specs.CommandWords.{one}
use Rattle.tn_words.proofs.WordReading.{three_plain, one_reads, seen-some}
use Rattle.tn_words.specs.ReadWords.{asked_by}
use Rattle.tn_words.proofs.commands.read_one.Goals as goal

pub returns : goal.returns
returns c =
    one_reads (map string_bytes c.args.words.now) (Ok c.one_command.result)
    (λ command source target word link same f s l.
    let told = c.in_ok-matches.ensures.values command source target word same (three_plain source target word link f s l) in
    seen-some asked_by c.one_command.result (one source target link)
    (c.one_command.ensures source target word (c.get_str-source.ensures ∙ told.0) (c.get_str-target.ensures ∙ told.1)
    (c.get_str-link.ensures ∙ told.2) f s
    ∙ ap (option_map (λ k. one source target k)) l))
