-- Lists of acts that lead from one node to another.
use Rattle.std.proofs.Common.{◌≡◌, ℕ, zero, suc, ◌<◌, true, List, [], ◌∷◌, ◌++◌, Option, Some, None, refl, subst, arith}
use Rattle.std.specs.Prelude.{slice_set}
use Rattle.tn_mem.specs.Spaces.{Access}
use Rattle.tn_cpu.specs.States.{State}
use Rattle.tn_node.specs.declared.engines.Engine.{Engine}
use Rattle.tn_node.specs.declared.modes.Stage.TheVariants.{Over}
use Rattle.tn_node.specs.Engines.{engine_of}
use Rattle.tn_node.specs.Nodes.{NodeState, nothing_expected, all_closed}
use Rattle.tn_load.specs.Acts.{Act}
use Rattle.tn_load.specs.Inner.NodeActs.{NodeDoes, Leads, only_at}
use Rattle.tn_load.specs.Inner.NodeActs.Leads.{done, more}

-- a processor that runs, with no engine open; and one whose process waits for an input, or an output
abbrev pub running : {M : Type 0} → State M → NodeState M
running s = record { cpu = s; stage = Over; expects = nothing_expected; inputs = all_closed; outputs = all_closed }

abbrev pub inputting : {M : Type 0} → ℕ → Engine → State M → NodeState M
inputting k e s = record {
  cpu = s;
  stage = Over;
  expects = nothing_expected;
  inputs = slice_set all_closed k (Some e);
  outputs = all_closed;
}

abbrev pub outputting : {M : Type 0} → ℕ → Engine → State M → NodeState M
outputting l e s = record {
  cpu = s;
  stage = Over;
  expects = nothing_expected;
  inputs = all_closed;
  outputs = slice_set all_closed l (Some e);
}

-- one act, and then others
infixr 20 ◌⨾◌
pub ◌⨾◌ : {M : Type 0} {access : Access M} {space : List ℕ → M} {Q : List ℕ → Type 0} {k : ℕ} {xs ys : List Act} {n t u : NodeState M}
    → Leads access space Q k xs n t → Leads access space Q k ys t u → Leads access space Q k (xs ++ ys) n u
done ⨾ b = b
more a q r ⨾ b = more a q (r ⨾ b)

pub one : {M : Type 0} {access : Access M} {space : List ℕ → M} {Q : List ℕ → Type 0} {k : ℕ} {x : Act} {n t : NodeState M}
    → NodeDoes access k x n t → (m : List ℕ) → t.cpu.memory ≡ space m → Q m → Leads access space Q k (x ∷ []) n t
one d m is q = more d (record { memory = m; is = is; fact = q }) done

-- what holds of each memory may be less
pub weaken : {M : Type 0} {access : Access M} {space : List ℕ → M} {k : ℕ} (Q R : List ℕ → Type 0) → ((m : List ℕ) → Q m → R m)
    → {xs : List Act} {n t : NodeState M} → Leads access space Q k xs n t → Leads access space R k xs n t
weaken Q R h done = done
weaken Q R h (more a q r) = more a (record { memory = q.memory; is = q.is; fact = h q.memory q.fact }) (weaken Q R h r)

-- the same for any list of acts that is equal
pub along : {M : Type 0} {access : Access M} {space : List ℕ → M} {Q : List ℕ → Type 0} {k : ℕ} {xs ys : List Act} {n t : NodeState M}
    → xs ≡ ys → Leads access space Q k xs n t → Leads access space Q k ys n t
along {access = access} {space = space} {Q = Q} {k = k} {n = n} {t = t} e h = subst (λ zs. Leads access space Q k zs n t) e h

-- a fact of each of the four links
pub each_link : (P : ℕ → Type 0) → P 0 → P 1 → P 2 → P 3 → (k : ℕ) → k < 4 → P k
each_link P a b c d zero h = a
each_link P a b c d (suc zero) h = b
each_link P a b c d (suc (suc zero)) h = c
each_link P a b c d (suc (suc (suc zero))) h = d
each_link P a b c d (suc (suc (suc (suc k)))) h = absurd (omega arith)

-- the engine of one link open, and all others closed
pub only-open : (e : Engine) (k : ℕ) → k < 4 → only_at k (slice_set all_closed k (Some e)) ≡ true
only-open e = each_link (λ k. only_at k (slice_set all_closed k (Some e)) ≡ true) refl refl refl refl

pub engine-open : (e : Option Engine) (k : ℕ) → k < 4 → engine_of (slice_set all_closed k e) k ≡ e
engine-open e = each_link (λ k. engine_of (slice_set all_closed k e) k ≡ e) refl refl refl refl

pub set-open : (e f : Option Engine) (k : ℕ) → k < 4 → slice_set (slice_set all_closed k e) k f ≡ slice_set all_closed k f
set-open e f = each_link (λ k. slice_set (slice_set all_closed k e) k f ≡ slice_set all_closed k f) refl refl refl refl

pub set-closed : (k : ℕ) → k < 4 → slice_set all_closed k None ≡ all_closed
set-closed = each_link (λ k. slice_set all_closed k None ≡ all_closed) refl refl refl refl
