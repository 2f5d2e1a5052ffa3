use Rattle.std.proofs.Common.{rules, ap, ap₂, codes, Some, ◌≡◌, ◌∙◌}
use Rattle.std.proofs.lemmas.Result.{IfErr-weaker, IfOk-weaker}
use Rattle.clap.specs.Words.{app_of, first_of, all_of, is_simple, rule_of, takes, with_rule, found_of, matches_of}
use Rattle.clap.proofs.WalkLemmas.{first_value-rows, raw_values-rows}
use Rattle.clap.specs.Lexer.{usize_max}
use Rattle.tn_words.proofs.Options.{some_is, required}
use Rattle.tn_words.proofs.SeveralWords.{others, several, first_is, others_are, taken}
use Rattle.tn_words.proofs.positionals.several_matches.Goals as goal

pub returns : goal.returns
returns c =
    let first_rule : rule_of c.required-first.result ≡ required (codes "first") = search rules in
    let range_is : c.num_args-others.result.num_vals ≡ Some (record { start_inclusive = 1; end_inclusive = usize_max }) =
    some_is c.num_args-others.result.num_vals _ c.num_args-others.ensures.1 in
    let others_rule : rule_of c.num_args-others.result ≡ others = search (rules, range_is) in
    let command_is : app_of c.in_ok-command.command ≡ several =
    c.in_ok-command.ensures.shape (search rules) ∙ ap₂ with_rule
    (c.in_ok-arg.ensures.shape (search rules) ∙ ap₂ with_rule c.new-3.ensures.app first_rule) others_rule in
    let parse = c.try_get_matches_from in
    record {
      values = λ command first second rest same h. IfOk-weaker parse.result _ _ (λ m has.
          let rows = (has (ap is_simple command_is)).0 ∙ ap₂ matches_of command_is same in (
            first_value-rows (found_of m) (codes "first") ∙ (ap (first_of (codes "first")) rows ∙ first_is command first second rest h),
            raw_values-rows (found_of m) (codes "others") ∙ (ap (all_of (codes "others")) rows ∙ others_are command first second rest h),
          )) parse.ensures.matches;
      wanting = λ command first second rest same h few. IfErr-weaker parse.result _ _
          (λ e has. has (ap₂ takes command_is same ∙ taken command first second rest h few)) parse.ensures.passes;
    }
