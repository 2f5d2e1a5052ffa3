use Rattle.std.proofs.Common.{ℕ, List, refl, ap, ◌∙◌}
use Rattle.tn_network.specs.GuardedBoards.{guarded_wired}
use Rattle.tn_sym.specs.Inner.Readings.{IsLow, IsLinkedProgram}
use Rattle.tn_sym.proofs.Begun.{belong-all, low-program, linked-program, regions-are, quiet-nodes}
use Rattle.tn_sym.proofs.nets.SymNet.begin.Goals as goal

pub regions-requires : goal.regions-requires
regions-requires c = belong-all (λ p. IsLow p) c.args.network.now c.args.programs.now _ low-program c.requires.belong

pub guarded-requires-clause-quiet : goal.guarded-requires-clause-quiet
guarded-requires-clause-quiet c = quiet-nodes c.args.net.now.board.state.nodes c.requires.loaded.targets c.requires.loaded.loaded.nodes

pub codes-requires : goal.codes-requires
codes-requires c = belong-all (λ p. IsLinkedProgram p) c.args.network.now c.args.programs.now _ linked-program c.requires.belong

pub returns : goal.returns
returns c =
    record {
      copy =
          c.in-Ok-guarded.ensures
          ∙ ap (λ (regions : List (ℕ × ℕ)). guarded_wired regions c.args.net.now.board)
          (c.deref.ensures.value ∙ (c.in-Ok.ensures ∙ regions-are c.args.programs.now));
      count = c.in_ok-codes.ensures.count;
      codes = c.in_ok-codes.ensures.each;
      stop = refl;
    }
