use Rattle.std.proofs.Common.{rules, ap, ap₂, codes, ◌≡◌, ◌∙◌}
use Rattle.std.proofs.lemmas.Result.{IfErr-weaker, IfOk-weaker}
use Rattle.clap.specs.Words.{app_of, first_of, is_simple, rule_of, takes, with_rule, found_of, matches_of}
use Rattle.clap.proofs.WalkLemmas.{first_value-rows}
use Rattle.tn_words.proofs.Options.{required}
use Rattle.tn_words.proofs.FewWords.{one, one_read}
use Rattle.tn_words.proofs.positionals.one_match.Goals as goal

pub returns : goal.returns
returns c =
    let first_rule : rule_of c.required-first.result ≡ required (codes "first") = search rules in
    let command_is : app_of c.in_ok-command.command ≡ one =
    c.in_ok-command.ensures.shape (search rules) ∙ ap₂ with_rule c.new-2.ensures.app first_rule in
    let parse = c.try_get_matches_from in
    record {
      values = λ command first same h. IfOk-weaker parse.result _ _ (λ m has.
          let rows = (has (ap is_simple command_is)).0 ∙ ap₂ matches_of command_is same in
          first_value-rows (found_of m) (codes "first") ∙ (ap (first_of (codes "first")) rows ∙ (one_read command first h).first_is))
          parse.ensures.matches;
      wanting = λ command first same h. IfErr-weaker parse.result _ _
          (λ e has. has (ap₂ takes command_is same ∙ (one_read command first h).taken)) parse.ensures.passes;
    }
