-- A whole poke stores its word, and a whole peek replies with one.
use Rattle.std.proofs.Common.{◌≡◌, ℕ, zero, suc, ◌+◌, ◌*◌, ◌/◌, ◌%◌, ◌^◌, ◌==◌, ◌<◌, true, List, ◌∷◌, ◌++◌}
use Rattle.std.proofs.Common.{Option, Result, Ok, Err, refl, sym, ap, ◌∙◌, subst, arith}
use Rattle.std.proofs.lemmas.Bool.Decides.{nat_tests}
use Rattle.tn_mem.specs.declared.touches.Touch.{Touch}
use Rattle.tn_mem.specs.Spaces.{Access}
use Rattle.tn_word.specs.Words.{bytes_of_word}
use Rattle.tn_cpu.specs.States.{State}
use Rattle.tn_node.specs.declared.engines.Engine.{Engine}
use Rattle.tn_node.specs.declared.modes.Expects.{Expects}
use Rattle.tn_node.specs.declared.modes.Stage.{Stage}
use Rattle.tn_node.specs.declared.modes.Stage.TheVariants.{Reset}
use Rattle.tn_node.specs.Nodes.{NodeState, nothing_expected, ExpectsAt, IsNode}
use Rattle.tn_node.specs.Bootstraps.{poked, peeked, bootstrapped}
use Rattle.tn_node.specs.Links.{taken, offers, marked_sent, acknowledged}
use Rattle.tn_node.specs.WholeActs.{TakesAll, SendsAll}

-- a node in reset
abbrev pub in_reset : {M : Type 0} → State M → List (Option Engine) → List (Option Engine) → NodeState M
in_reset cpu inputs outputs = record { cpu = cpu; stage = Reset; expects = nothing_expected; inputs = inputs; outputs = outputs }

pub is_in_reset : {M : Type 0} (n : NodeState M) → IsNode n → n.stage ≡ Reset → n ≡ in_reset n.cpu n.inputs n.outputs
is_in_reset n h is =
    let nothing : n.expects ≡ nothing_expected = subst (λ s. ExpectsAt s n.expects) is h.expected in
    ap (λ s. record n { stage = s }) is ∙ ap (λ e. record n { stage = Reset; expects = e }) nothing

-- four bytes that come in, the lowest first, make their word
whole_word : (w : ℕ) → w < 2 ^ 32
    → (((0 % 256 ^ 0 + w % 256 * 256 ^ 0) % 256 ^ 1 + w / 256 % 256 * 256 ^ 1) % 256 ^ 2 + w / 256 ^ 2 % 256 * 256 ^ 2) % 256 ^ 3
    + w / 256 ^ 3 % 256 * 256 ^ 3 ≡ w
whole_word w h = omega arith

-- what was refused or stored leaves nothing of the stage before
poked_same : {M : Type 0} (r : Result M Touch) (n : NodeState M) (s : Stage) (e : Expects)
    → poked r (record n { stage = s; expects = e }) ≡ poked r n
poked_same (Ok m) n s e = refl
poked_same (Err touch) n s e = refl

peeked_same : {M : Type 0} (r : Result ℕ Touch) (l address : ℕ) (n : NodeState M) (s : Stage) (e : Expects)
    → peeked r l address (record n { stage = s; expects = e }) ≡ peeked r l address n
peeked_same (Ok word) l address n s e = refl
peeked_same (Err touch) l address n s e = refl

module _ {M : Type 0} (access : Access M) (l : ℕ) (cpu : State M) (inputs outputs : List (Option Engine)) where
  abbrev start : NodeState M
  start = in_reset cpu inputs outputs

  same_link : l == l ≡ true
  same_link = grind (arith, nat_tests)

  -- a poke stores its word, or is refused
  poke_computes : (address word : ℕ) → address < 2 ^ 32 → word < 2 ^ 32
      → TakesAll access l (0 ∷ (bytes_of_word address ++ bytes_of_word word)) start (poked (access.set_word cpu.memory address word) start)
  unfolding taken bootstrapped
  poke_computes address word small fits = (
    refl,
    (
      same_link,
      (
        same_link,
        (
          same_link,
          (
            same_link,
            (
              same_link,
              (
                same_link,
                (
                  same_link,
                  (
                    same_link,
                    rw (whole_word address small, whole_word word fits)
                        (poked_same (access.set_word cpu.memory address word) start _ _),
                  ),
                ),
              ),
            ),
          ),
        ),
      ),
    ),
  )

  peek_computes : (address : ℕ) → address < 2 ^ 32
      → TakesAll access l (1 ∷ bytes_of_word address) start (peeked (access.word cpu.memory address) l address start)
  unfolding taken bootstrapped
  peek_computes address small = (
    refl,
    (
      same_link,
      (
        same_link,
        (
          same_link,
          (
            same_link,
            rw (whole_word address small)
                (peeked_same (access.word cpu.memory address) l address start _ _),
          ),
        ),
      ),
    ),
  )

-- what holds of each of the four links
pub each_link : (P : ℕ → Type 0) → P 0 → P 1 → P 2 → P 3 → (l : ℕ) → l < 4 → P l
each_link P a b c d zero h = a
each_link P a b c d (suc zero) h = b
each_link P a b c d (suc (suc zero)) h = c
each_link P a b c d (suc (suc (suc zero))) h = d
each_link P a b c d (suc (suc (suc (suc l)))) h = absurd (omega (arith, h))

module _ {M : Type 0} (access : Access M) (cpu : State M) (inputs outputs : List (Option Engine)) where
  -- the four bytes of a reply, the lowest first, bring the node back into reset
  replies : (address word l : ℕ) → l < 4
      → SendsAll access l (bytes_of_word word) (peeked (Ok word) l address (in_reset cpu inputs outputs)) (in_reset cpu inputs outputs)
  unfolding offers marked_sent acknowledged
  replies address word =
      each_link (λ l. SendsAll access l (bytes_of_word word) (peeked (Ok word) l address (in_reset cpu inputs outputs))
      (in_reset cpu inputs outputs))
      (refl, (refl, (refl, (refl, refl)))) (refl, (refl, (refl, (refl, refl)))) (refl, (refl, (refl, (refl, refl))))
      (refl, (refl, (refl, (refl, refl))))

-- A whole poke by a link, its control byte and the bytes of an address and a word, stores the word and
-- brings the node back into reset, or the space refuses that.
pub poke : {M : Type 0} (access : Access M) (n : NodeState M) (l address word : ℕ) → IsNode n → n.stage ≡ Reset → address < 2 ^ 32
    → word < 2 ^ 32
    → TakesAll access l (0 ∷ (bytes_of_word address ++ bytes_of_word word)) n (poked (access.set_word n.cpu.memory address word) n)
poke access n l address word h at small fits =
    let same : in_reset n.cpu n.inputs n.outputs ≡ n = sym (is_in_reset n h at) in
    subst (λ m. TakesAll access l (0 ∷ (bytes_of_word address ++ bytes_of_word word)) m
    (poked (access.set_word n.cpu.memory address word) m)) same
    (poke_computes access l n.cpu n.inputs n.outputs address word small fits)

-- A whole peek by a link, its control byte and the bytes of an address, begins the reply, or the space
-- refuses that.
pub peek : {M : Type 0} (access : Access M) (n : NodeState M) (l address : ℕ) → IsNode n → n.stage ≡ Reset → address < 2 ^ 32
    → TakesAll access l (1 ∷ bytes_of_word address) n (peeked (access.word n.cpu.memory address) l address n)
peek access n l address h at small =
    let same : in_reset n.cpu n.inputs n.outputs ≡ n = sym (is_in_reset n h at) in
    subst (λ m. TakesAll access l (1 ∷ bytes_of_word address) m (peeked (access.word n.cpu.memory address) l address m)) same
    (peek_computes access l n.cpu n.inputs n.outputs address small)

-- the reply is the bytes of the word, behind which the node is as it was
pub reply : {M : Type 0} (access : Access M) (n : NodeState M) (l address word : ℕ) → IsNode n → n.stage ≡ Reset → l < 4
    → SendsAll access l (bytes_of_word word) (peeked (Ok word) l address n) n
reply access n l address word h at link =
    let same : in_reset n.cpu n.inputs n.outputs ≡ n = sym (is_in_reset n h at) in
    subst (λ m. SendsAll access l (bytes_of_word word) (peeked (Ok word) l address m) m) same
    (replies access n.cpu n.inputs n.outputs address word l link)
