use Rattle.std.proofs.Common.{List, sym, ap, ◌∙◌, arith}
use Rattle.std.proofs.lemmas.Option.{slice_get_within}
use Rattle.tn_mem.specs.Guards.{Guarded}
use Rattle.tn_cpu.specs.States.{State}
use Rattle.tn_node.specs.Nodes.{NodeState}
use Rattle.tn_network.specs.Boards.{WiredBoard}
use Rattle.tn_sym.specs.Symbolic.{instruction_at}
use Rattle.tn_sym.proofs.Stepping.{seen-at, code-read, stop-proc, item-same, stray-board, stray-stop}
use Rattle.tn_sym.proofs.nets.execute.Goals as goal

pub returns-in-Some-clause-board : goal.returns-in-Some-clause-board
returns-in-Some-clause-board c =
    let within = slice_get_within c.args.board.now.state.nodes c.args.p c.node.result.now c.node.ensures in
    let code = code-read c.args.codes.now c.args.p c.index-codes-p.result (omega (arith, within, c.requires.count)) c.index-codes-p.is in
    let iptr = ap (λ (s : State Guarded). s.iptr) (sym c.cpu.ensures ∙ c.view-iptr.ensures) in
    let found = ap (instruction_at c.index-codes-p.result) iptr ∙ (sym c.instruction_at.ensures.value ∙ c.in-Some.is) in
    ap (λ (nodes : List (NodeState Guarded)). record c.run_item.new.self { state = record c.run_item.new.self.state { nodes = nodes } })
    (seen-at c.run_item.new.self.state.nodes c.args.p c.stop_at.result (sym c.stop_at.ensures))
    ∙ (c.run_item.ensures.state
    ∙ item-same c.args.board.now c.args.codes.now c.args.p c.args.clock c.args.slice c.node.result.now c.index-codes-p.result c.node.ensures
    code c.in-Some.i found)

pub returns-in-Some-clause-stop : goal.returns-in-Some-clause-stop
returns-in-Some-clause-stop c =
    let within = slice_get_within c.args.board.now.state.nodes c.args.p c.node.result.now c.node.ensures in
    let code = code-read c.args.codes.now c.args.p c.index-codes-p.result (omega (arith, within, c.requires.count)) c.index-codes-p.is in
    let iptr = ap (λ (s : State Guarded). s.iptr) (sym c.cpu.ensures ∙ c.view-iptr.ensures) in
    let found = ap (instruction_at c.index-codes-p.result) iptr ∙ (sym c.instruction_at.ensures.value ∙ c.in-Some.is) in
    c.stop_at.ensures
    ∙ stop-proc c.args.board.now c.args.codes.now c.args.p c.args.clock c.args.slice c.node.result.now c.index-codes-p.result c.node.ensures
    code c.run_item.new.self.state.nodes
    (ap (λ (b : WiredBoard (NodeState Guarded)). b.state.nodes)
    (c.run_item.ensures.state
    ∙ item-same c.args.board.now c.args.codes.now c.args.p c.args.clock c.args.slice c.node.result.now c.index-codes-p.result c.node.ensures
    code c.in-Some.i found))

pub returns-in-None-clause-board : goal.returns-in-None-clause-board
returns-in-None-clause-board c =
    let within = slice_get_within c.args.board.now.state.nodes c.args.p c.node.result.now c.node.ensures in
    let code = code-read c.args.codes.now c.args.p c.index-codes-p.result (omega (arith, within, c.requires.count)) c.index-codes-p.is in
    let iptr = ap (λ (s : State Guarded). s.iptr) (sym c.cpu.ensures ∙ c.view-iptr.ensures) in
    let found = ap (instruction_at c.index-codes-p.result) iptr ∙ (sym c.instruction_at.ensures.value ∙ c.in-None.is) in
    stray-board c.args.board.now c.args.codes.now c.args.p c.args.clock c.args.slice c.node.result.now c.index-codes-p.result c.node.ensures
    code found c.requires.enabled

pub returns-in-None-clause-stop : goal.returns-in-None-clause-stop
returns-in-None-clause-stop c =
    let within = slice_get_within c.args.board.now.state.nodes c.args.p c.node.result.now c.node.ensures in
    let code = code-read c.args.codes.now c.args.p c.index-codes-p.result (omega (arith, within, c.requires.count)) c.index-codes-p.is in
    let iptr = ap (λ (s : State Guarded). s.iptr) (sym c.cpu.ensures ∙ c.view-iptr.ensures) in
    let found = ap (instruction_at c.index-codes-p.result) iptr ∙ (sym c.instruction_at.ensures.value ∙ c.in-None.is) in
    sym
    (stray-stop c.args.board.now c.args.codes.now c.args.p c.args.clock c.args.slice c.node.result.now c.index-codes-p.result c.node.ensures
    code found c.requires.enabled)
