use Rattle.std.proofs.Common.{Option, None, string_bytes, sym, subst}
use Rattle.tn_words.specs.CommandWords.{Asked}
use Rattle.tn_words.specs.ReadWords.{IsReadAs, asked_by}
use Rattle.tn_words.proofs.WordReading.{unasked}
use Rattle.tn_words.proofs.commands.command_of.Goals as goal

pub returns-in_default-as_str : goal.returns-in_default-as_str
returns-in_default-as_str c =
    let other = c.in_default-as_str in
    subst (λ (o : Option Asked). IsReadAs asked_by o None)
    (sym (unasked string_bytes c.args.words.now c.command-item.result c.as_str.result.now c.in-len1-up.len_at_least c.command-item.is
    c.as_str.ensures.value other.not-flat other.not-one other.not-asm other.not-lib other.not-build other.not-list other.not-tree
    other.not-replay other.not-grid)) tt
