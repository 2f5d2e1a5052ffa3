-- What a grid comes to is what is printed of it.
use Rattle.std.proofs.Common.{◌≡◌, ℕ, Bool, length, refl, ap, ap₂, ◌∙◌}
use Rattle.tn_io.specs.FileLists.{held, HasDistinctNames}
use Rattle.tn_network.specs.Nets.{NetState, released}
use Rattle.tn_system.specs.Systems.{SystemState}
use Rattle.tn_top.specs.SystemPlans.{system_stream}
use Rattle.tn_top.specs.SystemNets.{settled_net, outcome}
use Rattle.tn_top.specs.GridPlans.{grid_files, summary_text, grid_start, grid_text}

-- no two sources of a grid have one name
pub grid-distinct : (n : ℕ) → HasDistinctNames (grid_files n)
unfolding grid_files HasDistinctNames held
grid-distinct n = (refl, (refl, (refl, tt)))

pair-same : (came wanted : ℕ × Bool) → came.0 ≡ wanted.0 → came.1 ≡ wanted.1 → came ≡ wanted
pair-same came wanted steps rested = ap₂ (λ a b. (a, b)) steps rested

module _ (n : ℕ) (y : SystemState) (start loaded ready : NetState) (is : start ≡ grid_start y) (settled : loaded ≡ settled_net start)
    (free : ready ≡ released loaded) (processors bytes : ℕ) (load run : ℕ × Bool) (many : processors ≡ length y.network.sizes)
    (left : bytes ≡ length start.board.state.host.left) (load_steps : load.0 ≡ (outcome start).0) (load_rest : load.1 ≡ (outcome start).1)
    (run_steps : run.0 ≡ (outcome ready).0) (run_rest : run.1 ≡ (outcome ready).1) where
  bytes-are : bytes ≡ length (system_stream y)
  bytes-are = left ∙ ap (λ (x : NetState). length x.board.state.host.left) is

  load-is : load ≡ outcome (grid_start y)
  load-is = pair-same load (outcome start) load_steps load_rest ∙ ap outcome is

  run-is : run ≡ outcome (released (settled_net (grid_start y)))
  run-is =
      pair-same run (outcome ready) run_steps run_rest
      ∙ ap outcome (free ∙ ap released (settled ∙ ap settled_net is))

  pub grid-same : summary_text n processors bytes load run ≡ grid_text n y
  unfolding grid_text
  grid-same =
      ap₂ (λ p b. summary_text n p b load run) many bytes-are
      ∙ ap₂ (λ l r. summary_text n (length y.network.sizes) (length (system_stream y)) l r) load-is run-is
