use Rattle.tn_net.specs.Inner.Tables.{Joins, Refuses, refuses_two}
use Rattle.tn_net.proofs.Joining.{host_joined, ends_joined, one_taken, passed_on}
use Rattle.tn_net.proofs.tables.join.Goals as goal

pub returns-in_default : goal.returns-in_default
returns-in_default c =
    host_joined c.args.names.now c.args.line.now c.args.fars.now c.put.new.fars c.in_ok-p.p c.put.result c.in_ok-p.ensures c.in_default.is
    c.put.ensures

pub returns-in_err-q : goal.returns-in_err-q
returns-in_err-q c =
    passed_on (λ _. Joins c.args.names.now c.args.line.now c.args.fars.now c.args.fars.now)
    (λ refusal. Refuses c.args.names.now c.args.line.now c.args.fars.now refusal) c.from_residual-in_err-q.result c.in_err-q.field-0.0
    c.from_residual-in_err-q.ensures
    (refuses_two c.in-Some.two c.in-Some.is (c.in_ok-p.p, c.in_ok-p.ensures) c.in_err-q.ensures.0 c.in_err-q.ensures.1)

pub returns-in_err-put : goal.returns-in_err-put
returns-in_err-put c =
    passed_on (λ _. Joins c.args.names.now c.args.line.now c.args.fars.now c.put-2.new.fars)
    (λ refusal. Refuses c.args.names.now c.args.line.now c.args.fars.now refusal) c.from_residual-in_err-put.result c.in_err-put.field-0.0
    c.from_residual-in_err-put.ensures
    (one_taken c.args.names.now c.args.line.now c.args.fars.now c.in_ok-p.p c.in_ok-q.q c.in-Some.two c.in_err-put.field-0.0
    c.in_ok-p.ensures c.in-Some.is c.in_ok-q.ensures c.in_err-put.ensures.0 c.in_err-put.ensures.1)

pub returns : goal.returns
returns c =
    ends_joined c.args.names.now c.args.line.now c.args.fars.now c.put-2.new.fars c.put-3.new.fars c.in_ok-p.p c.in_ok-q.q c.in-Some.two
    c.put-3.result c.in_ok-p.ensures c.in-Some.is c.in_ok-q.ensures c.in_ok-put.ensures.0 c.in_ok-put.ensures.1 c.put-3.ensures
