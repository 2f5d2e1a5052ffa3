use Rattle.std.proofs.Common.{rules, ap, ap₂, codes, ◌≡◌, ◌∙◌}
use Rattle.std.proofs.lemmas.Result.{IfErr-weaker, IfOk-weaker}
use Rattle.clap.specs.Words.{app_of, first_of, is_simple, rule_of, takes, with_rule, found_of, matches_of}
use Rattle.clap.proofs.WalkLemmas.{first_value-rows}
use Rattle.tn_words.proofs.Options.{required}
use Rattle.tn_words.proofs.FewWords.{two, two_read}
use Rattle.tn_words.proofs.positionals.two_matches.Goals as goal

pub returns : goal.returns
returns c =
    let first_rule : rule_of c.required-first.result ≡ required (codes "first") = search rules in
    let second_rule : rule_of c.required-second.result ≡ required (codes "second") = search rules in
    let command_is : app_of c.in_ok-command.command ≡ two =
    c.in_ok-command.ensures.shape (search rules)
    ∙ ap₂ with_rule (c.in_ok-arg.ensures.shape (search rules) ∙ ap₂ with_rule c.new-3.ensures.app first_rule) second_rule in
    let parse = c.try_get_matches_from in
    record {
      values = λ command first second same h. IfOk-weaker parse.result _ _ (λ m has.
          let rows = (has (ap is_simple command_is)).0 ∙ ap₂ matches_of command_is same in
          let read = two_read command first second h in (
            first_value-rows (found_of m) (codes "first") ∙ (ap (first_of (codes "first")) rows ∙ read.first_is),
            first_value-rows (found_of m) (codes "second") ∙ (ap (first_of (codes "second")) rows ∙ read.second_is),
          )) parse.ensures.matches;
      wanting = λ command first second same h. IfErr-weaker parse.result _ _
          (λ e has. has (ap₂ takes command_is same ∙ (two_read command first second h).taken)) parse.ensures.passes;
    }
