use Rattle.std.proofs.Common.{◌∙◌, Ok, refl, map, string_bytes}
use Rattle.tn_words.proofs.WordReading.{two_plain, two_reads}
use Rattle.tn_words.proofs.commands.read_two.Goals as goal

pub returns : goal.returns
returns c =
    two_reads (map string_bytes c.args.words.now) (Ok c.zip.result)
    (λ command first second same f s.
    let told = c.in_ok-matches.ensures.values command first second same (two_plain first second f s) in
    let one = c.file_of.ensures first (c.get_str-first.ensures ∙ told.0) f in
    let two = c.file_of-2.ensures second (c.get_str-second.ensures ∙ told.1) s in
    rw (c.zip.ensures, one, two) refl)
