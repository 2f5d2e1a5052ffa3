-- Bytes of code that read and store no memory, run by computing.
use Rattle.std.proofs.Common.{◌≡◌, ℕ, zero, suc, ◌+◌, ◌<◌, Bool, true, false, List, [], Ok, refl, sym, ap, ◌∙◌, subst, arith}
use Rattle.std.specs.Prelude.{nat_le, nat_lt, ◌&&◌, ◌-◌, slice_index, length}
use Rattle.std.proofs.lemmas.Bool.Decides.{nat_tests}
use Rattle.tn_mem.specs.Spaces.{Access}
use Rattle.tn_word.specs.Words.{load_base}
use Rattle.tn_cpu.specs.declared.outcomes.Outcome.{Outcome}
use Rattle.tn_cpu.specs.declared.outcomes.Outcome.TheVariants as outcome
use Rattle.tn_cpu.specs.States.{State}
use Rattle.tn_cpu.specs.Turns.{Ended}
use Rattle.tn_cpu.specs.Steps.{execute_byte, step}
use Rattle.tn_node.specs.Nodes.{NodeState}
use Rattle.tn_node.specs.Runs.{node_step, ended}
use Rattle.tn_load.specs.Inner.NodeActs.{NodeDoes, Leads, is_running}
use Rattle.tn_load.specs.Acts.Act.{Step}
use Rattle.tn_load.specs.Inner.NodeActs.Leads.{done, more}
use Rattle.tn_load.proofs.Leading.{running}
use Rattle.tn_load.specs.Inner.Lives.{steps}

-- these bytes are fetched from a place on
abbrev pub Code : {M : Type 0} → Access M → M → ℕ → List ℕ → Type 0
Code access m at bytes = (i : ℕ) → i < length bytes → access.byte m (at + i) ≡ Ok (slice_index bytes i)

-- a step that opens no engine
abbrev pub is_quiet : Outcome → Bool
is_quiet outcome.Prefix = true
is_quiet outcome.Ran = true
is_quiet (outcome.OpensIn t) = false
is_quiet (outcome.OpensOut t) = false
is_quiet (outcome.Stopped why) = false

-- it runs inside the code
abbrev pub is_inside : {M : Type 0} → ℕ → List ℕ → State M → Bool
is_inside at code s = is_running s.life && (nat_le at s.iptr && (nat_lt s.iptr (at + length code) && nat_lt s.iptr load_base))

abbrev pub turn : {M : Type 0} → Access M → ℕ → List ℕ → Bool → ℕ → State M → Ended M
turn access at code slice clock s = execute_byte access (slice_index code (s.iptr - at)) 0 slice clock s

-- the next n bytes lead from one state to another, and change no memory
abbrev pub Walks : {M : Type 0} → Access M → ℕ → List ℕ → ℕ → State M → State M → Type 0
Walks access at code zero s t = s ≡ t
Walks access at code (suc n) s t =
    (is_inside at code s ≡ true)
    × ((slice : Bool) (clock : ℕ) → turn access at code slice clock s ≡ turn access at code false 0 s)
    × (is_quiet (turn access at code false 0 s).outcome ≡ true)
    × ((turn access at code false 0 s).state.memory ≡ s.memory)
    × Walks access at code n (turn access at code false 0 s).state t

quietly : {M : Type 0} (e : Ended M) (n : NodeState M) → is_quiet e.outcome ≡ true → ended e n ≡ record n { cpu = e.state }
quietly e n h = go e.outcome h
  where
    go : (o : Outcome) → is_quiet o ≡ true → ended (record { state = e.state; outcome = o }) n ≡ record n { cpu = e.state }
    go outcome.Prefix h = refl
    go outcome.Ran h = refl
    go (outcome.OpensIn t) h = cc
    go (outcome.OpensOut t) h = cc
    go (outcome.Stopped why) h = cc

-- a step executes the byte that is fetched
step-byte : {M : Type 0} (access : Access M) (busy : ℕ) (slice : Bool) (clock : ℕ) (s : State M) (byte : ℕ)
    → access.byte s.memory s.iptr ≡ Ok byte
    → step access busy slice clock s ≡ execute_byte access byte busy slice clock s
unfolding step
step-byte access busy slice clock s byte fetched = rw fetched refl

-- one byte step whose byte is known
pub byte-steps : {M : Type 0} (access : Access M) (k : ℕ) (s : State M) (byte : ℕ) (e : Ended M)
    → is_running s.life && nat_lt s.iptr load_base ≡ true → access.byte s.memory s.iptr ≡ Ok byte
    → ((slice : Bool) (clock : ℕ) → execute_byte access byte 0 slice clock s ≡ e)
    → NodeDoes access k Step (running s) (ended e (running s))
unfolding node_step
byte-steps access k s byte e test fetched h = (
  grind (arith, nat_tests),
  λ slice clock. ap (λ (x : Ended _). ended x (running s))
      (step-byte access 0 slice clock s byte fetched ∙ h slice clock),
)

pub walks : {M : Type 0} (access : Access M) (space : List ℕ → M) (Q : List ℕ
    → Type 0) (k at : ℕ) (code : List ℕ) (n : ℕ) (s t : State M) (m : List ℕ) → s.memory ≡ space m → Q m → Code access s.memory at code
    → Walks access at code n s t → Leads access space Q k (steps n) (running s) (running t)
walks access space Q k at code zero s t m is q c w = subst (λ (u : State _). Leads access space Q k [] (running s) (running u)) w done
walks access space Q k at code (suc n) s t m is q c w =
    let next : State _ = (turn access at code false 0 s).state in
    let low : s.iptr ≡ at + (s.iptr - at) = grind (arith, nat_tests, w.0) in
    let within : s.iptr - at < length code = grind (arith, nat_tests, w.0) in
    let fetched : access.byte s.memory s.iptr ≡ Ok (slice_index code (s.iptr - at)) =
    subst (λ (i : ℕ). access.byte s.memory i ≡ Ok (slice_index code (s.iptr - at))) (sym low) (c (s.iptr - at) within) in
    let goes = byte-steps access k s (slice_index code (s.iptr - at)) (turn access at code false 0 s) (grind (arith, nat_tests, w.0))
    fetched w.1 in
    let quiet = quietly (turn access at code false 0 s) (running s) w.2 in
    let rest = walks access space Q k at code n next t m (w.3 ∙ is) q (subst (λ m. Code access m at code) (sym w.3) c) w.4 in
    more (subst (λ u. NodeDoes access k Step (running s) u) quiet goes) (record { memory = m; is = w.3 ∙ is; fact = q }) rest
