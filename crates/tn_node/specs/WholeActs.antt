-- Many bytes of one link: taken one after the other, and sent one after the other.
use Rattle.std.specs.Prelude.{◌≡◌, ℕ, true, List, [], ◌∷◌, Some}
use Rattle.tn_mem.specs.Spaces.{Access}
use Rattle.tn_node.specs.Nodes.{NodeState}
use Rattle.tn_node.specs.Links.{wants, taken, offers, marked_sent, acknowledged}

-- the node wants each of the bytes as it comes, and is another behind the last
abbrev pub TakesAll : {M : Type 0} → Access M → ℕ → List ℕ → NodeState M → NodeState M → Type 0
TakesAll access l [] n end = n ≡ end
TakesAll access l (byte ∷ bytes) n end = (wants l n ≡ true) × TakesAll access l bytes (taken access l byte n) end

-- the node offers each of the bytes, each once the one before is acknowledged, and is another behind
-- the last acknowledge
abbrev pub SendsAll : {M : Type 0} → Access M → ℕ → List ℕ → NodeState M → NodeState M → Type 0
SendsAll access l [] n end = n ≡ end
SendsAll access l (byte ∷ bytes) n end =
    (offers access l n ≡ Some byte) × SendsAll access l bytes (acknowledged access l (marked_sent l n)) end
