use Rattle.std.proofs.Common.{◌∙◌, Ok, refl, map, string_bytes}
use Rattle.tn_words.proofs.WordReading.{plain, file_reads}
use Rattle.tn_words.proofs.commands.read_one_file.Goals as goal

pub returns : goal.returns
returns c =
    file_reads (map string_bytes c.args.words.now) (Ok c.file_of.result)
    (λ command file same f.
    let told = c.in_ok-matches.ensures.values command file same (plain file f) in
    let read = c.file_of.ensures file (c.get_str.ensures ∙ told) f in
    rw read refl)
