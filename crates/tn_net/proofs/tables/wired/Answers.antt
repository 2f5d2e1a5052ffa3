use Rattle.std.proofs.Common.{◌≡◌, ◌+◌, ◌<◌, length, sym, ◌∙◌, ap, subst, arith}
use Rattle.std.proofs.lemmas.List.{with_items_is}
use Rattle.tn_text.specs.Faults.{fault_at}
use Rattle.tn_net.specs.declared.lines.EndLine.{EndLine}
use Rattle.tn_net.specs.Lines.{line_at, HasLinks}
use Rattle.tn_net.specs.Faults.{IsRight, IsWrongLine}
use Rattle.tn_net.specs.Inner.Tables.{IsTable, Joins, Refuses, cause_of, IsFirstWrongLine}
use Rattle.tn_net.proofs.Reading.{joined_table, joins_right, refused_wrong, right_more, first_wrong, line_read}
use Rattle.tn_net.proofs.tables.wired.Goals as goal

pub returns-in-Err-clause-fault : goal.returns-in-Err-clause-fault
returns-in-Err-clause-fault c =
    λ fault is. let e : c.at.result ≡ fault = cc in subst (λ f. IsFirstWrongLine c.args.names.now c.args.lines.now f) (told ∙ e)
    (first_wrong c.args.names.now c.args.lines.now c.loop-k.from c.in-Some.k
    (cause_of c.in-Err.refusal) c.in-Some.ensures c.loop-k.invariant.1 wrong)
  where
    line_is : c.index-lines-k.result ≡ line_at c.args.lines.now c.in-Some.k
    line_is = line_read c.args.lines.now c.in-Some.k c.index-lines-k.result c.in-Some.ensures.here c.index-lines-k.is

    table : IsTable c.args.names.now c.args.lines.now c.loop-k.from c.deref_mut.result.now
    table =
        subst (λ fars. IsTable c.args.names.now c.args.lines.now c.loop-k.from fars) (sym c.deref_mut.ensures.value) c.loop-k.invariant.0

    wrong : IsWrongLine c.args.names.now c.args.lines.now (line_at c.args.lines.now c.in-Some.k) (cause_of c.in-Err.refusal)
    wrong =
        refused_wrong c.args.names.now c.args.lines.now c.loop-k.from c.in-Some.k c.deref_mut.result.now c.in-Err.refusal
        (c.requires.links c.in-Some.k c.in-Some.ensures.here) table c.in-Some.ensures
        (subst (λ line. Refuses c.args.names.now line c.deref_mut.result.now c.in-Err.refusal) line_is c.in-Err.ensures)

    told : fault_at (line_at c.args.lines.now c.in-Some.k).line (cause_of c.in-Err.refusal) ≡ c.at.result
    told =
        ap (λ (line : EndLine). fault_at line.line (cause_of c.in-Err.refusal)) (sym line_is)
        ∙ ap (λ cause. fault_at c.index-lines-k.result.line cause) (sym c.cause.ensures) ∙ sym c.at.ensures

pub overflow_add-from : goal.overflow_add-from
overflow_add-from c =
    let line_is : c.index-lines-k.result
    ≡ line_at c.args.lines.now c.in-Some.k =
    line_read c.args.lines.now c.in-Some.k c.index-lines-k.result c.in-Some.ensures.here c.index-lines-k.is in
    let n : c.index-lines-k.result.line ≡ (line_at c.args.lines.now c.in-Some.k).line = ap (λ (line : EndLine). line.line) line_is in
    omega (arith, c.from-from.ensures, c.in-Some.ensures.word, n)

pub loop-k-smaller : goal.loop-k-smaller
loop-k-smaller c =
    let line_is : c.index-lines-k.result
    ≡ line_at c.args.lines.now c.in-Some.k =
    line_read c.args.lines.now c.in-Some.k c.index-lines-k.result c.in-Some.ensures.here c.index-lines-k.is in
    let n : c.index-lines-k.result.line ≡ (line_at c.args.lines.now c.in-Some.k).line = ap (λ (line : EndLine). line.line) line_is in
    omega (arith, c.from-from.ensures, c.in-Some.ensures.word, c.in-Some.ensures.from, n)

pub loop-k-preserved : goal.loop-k-preserved
loop-k-preserved c = (
  subst (λ fars. IsTable c.args.names.now c.args.lines.now (c.from-from.result + 1) fars)
      (sym (with_items_is c.loop-k.fars c.join.new.fars (omega (arith, c.join.auto.fars, c.deref_mut.ensures.len, c.loop-k.fars.ok.0))))
      (subst (λ n. IsTable c.args.names.now c.args.lines.now n c.join.new.fars) (ap (λ n. n + 1) (sym number_is))
      (joined_table c.args.names.now c.args.lines.now c.loop-k.from c.in-Some.k c.deref_mut.result.now c.join.new.fars c.requires.distinct
      c.requires.numbers links table c.in-Some.ensures joins)),
  subst (λ n. (j : _) → j < length c.args.lines.now → (line_at c.args.lines.now j).line < n
      → IsRight c.args.names.now c.args.lines.now (line_at c.args.lines.now j)) (ap (λ n. n + 1) (sym number_is))
      (right_more c.args.names.now c.args.lines.now c.loop-k.from c.in-Some.k c.requires.numbers c.in-Some.ensures c.loop-k.invariant.1
      (joins_right c.args.names.now c.args.lines.now c.loop-k.from c.in-Some.k c.deref_mut.result.now c.join.new.fars c.requires.distinct
      links table c.in-Some.ensures joins)),
  omega (arith, c.in-Some.ensures.word, number_is),
)
  where
    line_is : c.index-lines-k.result ≡ line_at c.args.lines.now c.in-Some.k
    line_is = line_read c.args.lines.now c.in-Some.k c.index-lines-k.result c.in-Some.ensures.here c.index-lines-k.is

    number_is : c.from-from.result ≡ (line_at c.args.lines.now c.in-Some.k).line
    number_is = c.from-from.ensures ∙ ap (λ (line : EndLine). line.line) line_is

    links : HasLinks (line_at c.args.lines.now c.in-Some.k)
    links = c.requires.links c.in-Some.k c.in-Some.ensures.here

    table : IsTable c.args.names.now c.args.lines.now c.loop-k.from c.deref_mut.result.now
    table =
        subst (λ fars. IsTable c.args.names.now c.args.lines.now c.loop-k.from fars) (sym c.deref_mut.ensures.value) c.loop-k.invariant.0

    joins : Joins c.args.names.now (line_at c.args.lines.now c.in-Some.k) c.deref_mut.result.now c.join.new.fars
    joins = subst (λ line. Joins c.args.names.now line c.deref_mut.result.now c.join.new.fars) line_is c.in_default-join.ensures
