use Rattle.std.proofs.Common.{◌≡◌, ◌++◌, ℕ, List, Bor, map, take}
use Rattle.std.specs.List.{flat_map}
use Rattle.tn_text.specs.WordTexts.{spaced}
use Rattle.tn_top.proofs.replays.put_spaced_all.Given as goal

-- the tokens so far were put
abbrev pub invariant-loop-token : goal.invariant-loop-token
invariant-loop-token l =
    l.text.items ≡ l.initial.text.items ++ flat_map spaced (map (λ (t : Bor (List ℕ)). t.now) (take l.token-index l.tokens))
