use Rattle.std.proofs.Common.{rules, ◌≡◌, ℕ, ◌*◌, List, [], ◌∷◌, ◌++◌, length, take, arith, sym, ap, ◌∙◌}
use Rattle.std.specs.Prelude.{slice_index_or}
use Rattle.std.proofs.lemmas.List.{take_all}
use Rattle.tn_network.specs.GuardedBoards.{guarded_node, guarded_nodes}
use Rattle.tn_network.proofs.GuardLaws.{guarded-more, guarded-none, quiet-at}
use Rattle.tn_network.proofs.guards.guarded_nodes.Goals as goal

pub loop-p-init : goal.loop-p-init
loop-p-init c = guarded-none c.args.empty.items c.requires.empty

pub guarded-requires : goal.guarded-requires
guarded-requires c = quiet-at c.args.nodes.now c.loop-p.p c.index-nodes-p.result c.requires.quiet c.loop-p-test.true c.index-nodes-p.is

pub loop-p-preserved : goal.loop-p-preserved
loop-p-preserved c =
    let pushed : c.push.new.self.items ≡ c.loop-p.copies.items ++ c.in-Ok.copy ∷ [] = grind arith in
    guarded-more c.args.regions.now c.args.nodes.now c.loop-p.p c.index-nodes-p.result c.in-Ok.copy c.loop-p.copies.items
    c.push.new.self.items c.requires.regions c.loop-p-test.true c.index-nodes-p.is c.in-Ok.ensures c.loop-p.invariant pushed
