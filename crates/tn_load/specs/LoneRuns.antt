-- Lone runs: what a processor does when it is alone with the bytes that come to it.
use Rattle.std.specs.Prelude.{◌≡◌, ℕ, ◌+◌, ◌==◌, Bool, false, List, [], ◌∷◌, if◌then◌else◌}
use Rattle.tn_network.specs.NodeOps.{NodeOps}
use Rattle.tn_load.specs.Acts.{Act, Post, Does}
use Rattle.tn_load.specs.Acts.Act.{Step, Takes, Sends, Acks}

-- the bytes that acts take, and those that they send by a link
unfoldable pub takes_of : List Act → List ℕ
takes_of [] = []
takes_of (Step ∷ acts) = takes_of acts
takes_of (Takes byte ∷ acts) = byte ∷ takes_of acts
takes_of (Sends l byte ∷ acts) = takes_of acts
takes_of (Acks l ∷ acts) = takes_of acts

unfoldable pub sends_of : ℕ → List Act → List ℕ
sends_of l [] = []
sends_of l (Step ∷ acts) = sends_of l acts
sends_of l (Takes byte ∷ acts) = sends_of l acts
sends_of l (Sends link byte ∷ acts) = if link == l then byte ∷ sends_of l acts else sends_of l acts
sends_of l (Acks link ∷ acts) = sends_of l acts

-- how many picks they are; an acknowledge is part of the pick that takes the byte
unfoldable pub weight : List Act → ℕ
weight [] = 0
weight (Step ∷ acts) = 1 + weight acts
weight (Takes byte ∷ acts) = 1 + weight acts
weight (Sends l byte ∷ acts) = 1 + weight acts
weight (Acks l ∷ acts) = weight acts

-- whether an act sends by a link, and whether acts begin with the acknowledge of a byte sent by it
abbrev pub is_sending : ℕ → Act → Bool
is_sending l Step = false
is_sending l (Takes byte) = false
is_sending l (Sends link byte) = link == l
is_sending l (Acks link) = false

abbrev pub is_waiting : ℕ → List Act → Bool
is_waiting l [] = false
is_waiting l (Step ∷ acts) = false
is_waiting l (Takes byte ∷ acts) = false
is_waiting l (Sends link byte ∷ acts) = false
is_waiting l (Acks link ∷ acts) = link == l

-- an acknowledge comes behind each byte that is sent, and nowhere else
abbrev pub AreAnswered : List Act → Type 0
AreAnswered [] = Unit {0}
AreAnswered (act ∷ acts) = ((l : ℕ) → is_waiting l acts ≡ is_sending l act) × AreAnswered acts

-- The acts, one after the other, lead from a node to another. Of each node on the way, and of the acts
-- that are left there, something holds.
abbrev pub Lone : {N : Type 0} → NodeOps N → Post → (N → List Act → Type 0) → List Act → N → N → Type 0
Lone ops post Q [] n end = Q n [] × (n ≡ end)
Lone {N = N} ops post Q (act ∷ acts) n end =
    Q n (act ∷ acts) × ((t : N) × (Does ops post act n t × Lone ops post Q acts t end))
