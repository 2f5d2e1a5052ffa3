use Rattle.tn_cpu.specs.Views.{state_of}
use Rattle.tn_replay.proofs.TextLaws.{state_put}
use Rattle.tn_replay.proofs.printed_lines.put_state.Goals as goal

pub returns : goal.returns
returns c =
    let registers = c.view-registers.result in
    let state = c.cpu.result.now in
    state_put c.args.name.now c.args.symbol c.args.node.now c.mode-mode.result state (state_of state.memory registers state.life)
    c.mode-mode.ensures.value c.cpu.ensures c.view-registers.ensures c.args.out.now.items c.put_mode.new.out.items
    c.put_pointers.new.out.items c.put_stack.new.out.items c.put_flags.new.out.items c.put_symbol.new.out.items c.push.new.self.items
    c.in_ok-put_mode.ensures c.in_ok-put_pointers.ensures c.in_ok-put_stack.ensures c.in_ok-put_flags.ensures
    c.in_ok-put_symbol.ensures c.in_ok-push.ensures.items
