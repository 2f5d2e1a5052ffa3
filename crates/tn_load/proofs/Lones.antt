-- The lone run of a processor, with what holds at each of its states.
use Rattle.std.proofs.Common.{◌≡◌, ℕ, ◌^◌, ◌<◌, ◌≤◌, Bool, List, [], ◌∷◌, ◌++◌, length, refl, ap, ◌∙◌, subst, append_assoc, length-append}
use Rattle.std.proofs.Common.{arith}
use Rattle.tn_mem.specs.Spaces.{Access}
use Rattle.tn_mem.specs.Sizes.{IsMemorySize}
use Rattle.tn_loader.specs.Commands.{command_bytes, nop_command}
use Rattle.tn_stream.specs.Branches.{Children}
use Rattle.tn_stream.specs.Streams.{Site, own_load, wave, wave_below, start_part, nothing, nop_of, run_of}
use Rattle.tn_node.specs.Nodes.{NodeState}
use Rattle.tn_load.specs.Inner.PlainSpaces.{IsPlainSpace}
use Rattle.tn_load.specs.Acts.{Act}
use Rattle.tn_load.specs.LoneRuns.{takes_of}
use Rattle.tn_load.specs.Inner.NodeActs.{NodeLone, Holds, Leads}
use Rattle.tn_load.specs.Inner.NodeActs.Leads.{done, more}
use Rattle.tn_load.specs.Inner.Lives.{loader_acts, life, loads_acts, forwards_acts, nop_acts, run_acts, Fits, AreLinked}
use Rattle.tn_load.proofs.Bootstraps.{in_reset}
use Rattle.tn_load.proofs.LoaderActs.{takes_of-append, takes_of-forwards, takes_of-nop, takes_of-run}
use Rattle.tn_load.proofs.Primaries.{HasTimers}
use Rattle.tn_load.proofs.Lives.{Lives, lives, starting, Any, Whole, at_entry}

-- a run that keeps a fact of each memory, where the fact implies what is to hold at each state
pub lone-kept : {M : Type 0} (access : Access M) (space : List ℕ → M) (Q : List ℕ → Type 0) (k : ℕ) (R : NodeState M → List Act → Type 0)
    → ((n : NodeState M) (left : List Act) → Holds space Q n → R n left) → {acts : List Act} {n t : NodeState M} → Holds space Q n
    → Leads access space Q k acts n t → NodeLone access k R acts n t
lone-kept access space Q k R h {n = n} q done = (h n [] q, refl)
lone-kept access space Q k R h {n = n} q (more {act = act} {acts = acts} {t = t} d r rest) =
    (h n (act ∷ acts) q, (t, (d, lone-kept access space Q k R h r rest)))

-- acts before a lone run, where something holds at every state with more acts left than those of the lone run
pub lone-before : {M : Type 0} (access : Access M) (space : List ℕ → M) (Q : List ℕ → Type 0) (k : ℕ) (R : NodeState M → List Act
    → Type 0) (after : List Act) (end : NodeState M) → ((n : NodeState M) (left : List Act) → R n (left ++ after))
    → {acts : List Act} {n t : NodeState M} → Leads access space Q k acts n t → NodeLone access k R after t end
    → NodeLone access k R (acts ++ after) n end
lone-before access space Q k R after end h done lone = lone
lone-before access space Q k R after end h {n = n} (more {act = act} {acts = acts} {t = t} d r rest) lone =
    (h n (act ∷ acts), (t, (d, lone-before access space Q k R after end h rest lone)))

-- once a processor has no more to take than its part of the last wave, its image is whole
abbrev pub WholeBeforeStart : {M : Type 0} → (List ℕ → M) → Site → Children Site → List ℕ → NodeState M → List Act → Type 0
WholeBeforeStart space site below m n left =
    length (takes_of left) ≤ length (start_part (record { root = site; below = below })) → Holds space (Whole site.image m) n

-- what is taken from the second wave on is more than that
starting-more : (site : Site) (below : Children Site) (left : List Act)
    → length (start_part (record { root = site; below = below })) < length (takes_of (left ++ starting site below))
unfolding wave command_bytes
starting-more site below left =
    let sync_part : List ℕ = wave_below nothing nop_of below in
    let start_part : List ℕ = wave_below nothing run_of below in
    let run = run_of site in
    let a = takes_of-append left (starting site below) in
    let b = takes_of-append (forwards_acts nothing nop_of below)
    (nop_acts ++ (forwards_acts nothing run_of below ++ run_acts site.image)) in
    let c = takes_of-append nop_acts (forwards_acts nothing run_of below ++ run_acts site.image) in
    let d = takes_of-append (forwards_acts nothing run_of below) (run_acts site.image) in
    let whole : takes_of (left ++ starting site below) ≡ takes_of left ++ (sync_part ++ (nop_command ++ (start_part ++ run))) =
    cc (takes_of-forwards nothing nop_of below, takes_of-nop, takes_of-forwards nothing run_of below, takes_of-run site.image) in
    let s1 = length-append (takes_of left) (sync_part ++ (nop_command ++ (start_part ++ run))) in
    let s2 = length-append sync_part (nop_command ++ (start_part ++ run)) in
    let s3 = length-append nop_command (start_part ++ run) in
    rw whole (omega arith)

module _ {M : Type 0} (access : Access M) (space : List ℕ → M) (laws : IsPlainSpace access space) where
  -- where the lone run of a processor leads to, and what stands in its memory there
  pub record LoneLife (error halt : Bool) (site : Site) (below : Children Site) (m : List ℕ) : Type 0 where
    pub after : List ℕ
    pub run : NodeLone access site.boot (WholeBeforeStart space site below m) (life site below)
        (in_reset access space laws site.boot error halt m) (at_entry space site.image after)
    pub timers : HasTimers after
    pub whole : Whole site.image m after

  -- the lone run of any processor of a tree
  pub lone : (error halt : Bool) (site : Site) (below : Children Site) → site.boot < 4 → (m : List ℕ) → IsMemorySize (length m)
      → Fits (length m) site.image → AreLinked below → length (wave_below own_load nothing below) < 2 ^ 31
      → length (wave_below nothing nop_of below) < 2 ^ 31 → length (wave_below nothing run_of below) < 2 ^ 31
      → LoneLife error halt site below m
  unfolding life
  lone error halt site below link m size fits linked few_load few_sync few_start =
      let run : Lives access space error halt site below laws m =
      lives access space laws error halt site below link m size fits linked few_load few_sync few_start in
      let R : NodeState M → List Act → Type 0 = WholeBeforeStart space site below m in
      let last = lone-kept access space (Whole site.image m) site.boot R (λ n left q few. q)
      (record { memory = run.middle; is = refl; fact = run.whole }) run.second in
      let all = lone-before access space Any site.boot R (starting site below) (at_entry space site.image run.after)
      (λ n left few. absurd (clash n left few)) run.first last in
      record {
        after = run.after;
        run = subst (λ acts. NodeLone access site.boot R acts (in_reset access space laws site.boot error halt m)
            (at_entry space site.image run.after)) (append_assoc (loader_acts site.boot) _ _
            ∙ ap (λ acts. loader_acts site.boot ++ acts) (append_assoc (loads_acts site.image.segments) _ _)) all;
        timers = run.timers;
        whole = run.changed;
      }
    where
      clash : (n : NodeState M) (left : List Act)
          → length (takes_of (left ++ starting site below)) ≤ length (start_part (record { root = site; below = below })) → ⊥
      clash n left few = let more_left = starting-more site below left in omega arith
