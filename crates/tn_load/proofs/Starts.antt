-- The commands NOP and RUN of the secondary loader.
use Rattle.tn_loader.specs.Commands.{run_command, nop_command}
use Rattle.std.proofs.Common.{◌≡◌, ℕ, ◌==◌, ◌<◌, ◌%◌, ◌^◌, false, List, ◌++◌, Ok, refl, arith}
use Rattle.std.specs.Int.{w32, to_le_bytes}
use Rattle.tn_isa.specs.Operations.{operation_with}
use Rattle.tn_mem.specs.Spaces.{Access}
use Rattle.tn_mem.specs.Memories.{put}
use Rattle.tn_mem.proofs.Frames.{Changed, changed-more}
use Rattle.tn_loader.specs.Secondary.{secondary_bytes}
use Rattle.tn_cpu.specs.declared.registers.Reg.{Reg}
use Rattle.tn_cpu.specs.declared.registers.Reg.TheVariants.{Undefined, Word}
use Rattle.tn_cpu.specs.declared.outcomes.Outcome.TheVariants.{Ran}
use Rattle.tn_cpu.specs.Steps.{execute_byte}
use Rattle.tn_node.specs.Nodes.{NodeState}
use Rattle.tn_load.specs.Inner.PlainSpaces.{IsPlainSpace}
use Rattle.tn_load.specs.Inner.NodeActs.{Kept, Leads}
use Rattle.tn_load.proofs.Leading.{◌⨾◌, one, running}
use Rattle.tn_load.proofs.Walking.{byte-steps, walks}
use Rattle.tn_load.proofs.Moving.{awake, byte-known}
use Rattle.tn_load.proofs.Secondary.{base, sec, at_top, ldl, walk, to_top}
use Rattle.tn_load.proofs.Commands.{IsTop, HasCommand, Serves, changed-workspace, saved_at, top-saved, has_command, command-length}
use Rattle.tn_load.proofs.Commands.{takes-command}
use Rattle.tn_load.proofs.Secondary.{secondary_code}
use Rattle.tn_load.specs.Inner.Lives.{takes, steps}

module _ {M : Type 0} (access : Access M) (space : List ℕ → M) (laws : IsPlainSpace access space) (Q : List ℕ → Type 0)
    (keeps : Kept Q 0x800001FC 0x80000400) (k : ℕ) (link : k < 4) where
  -- up to offset 39, where the operation is neither 0 nor 1: 7 steps
  not_load : (op x n : ℕ) (m : List ℕ) → HasCommand k Q op x n m → op == 0 ≡ false → op == 1 ≡ false
      → Leads access space Q k (steps 7) (sec access space laws Q keeps k link Undefined Undefined Undefined 0x80000104 m)
      (sec access space laws Q keeps k link (Word 0) Undefined Undefined 0x80000127 m)
  unfolding execute_byte secondary_bytes
  not_load op x n m c no_load no_forward =
      let U : Reg = Undefined in
      let fetch_cj : access.byte (space m) 0x80000106 ≡ Ok 0xAA =
      byte-known access space laws m 0x80000106 0xAA (c.ready.code 6 (omega arith)) in
      let fetch_eqc : access.byte (space m) 0x80000108 ≡ Ok 0xC1 =
      byte-known access space laws m 0x80000108 0xC1 (c.ready.code 8 (omega arith)) in
      let drops = byte-steps access k (awake space (Word op) U U 0x20 0x80000106 0x80000200 m) 0xAA
      (record { state = awake space U U U 0 0x80000107 0x80000200 m; outcome = Ran }) refl fetch_cj
      (λ slice clock. rw no_load refl) in
      let compares = byte-steps access k (awake space (Word op) U U 0 0x80000108 0x80000200 m) 0xC1
      (record { state = awake space (Word 0) U U 0 0x80000109 0x80000200 m; outcome = Ran }) refl fetch_eqc
      (λ slice clock. rw no_forward refl) in
      ldl access space laws Q keeps k link U U U 4 0 op m c.ready (omega arith) refl (omega arith) c.op_is ⨾
      (walk access space laws Q keeps k link 1 (Word op) U U 0x80000105 m (awake space (Word op) U U 0x20 0x80000106 0x80000200 m) c.ready
      (assumption) ⨾
      (one drops m refl c.ready.holds ⨾
      (ldl access space laws Q keeps k link U U U 7 0 op m c.ready (omega arith) refl (omega arith) c.op_is ⨾
      (one compares m refl c.ready.holds ⨾
      walk access space laws Q keeps k link 2 (Word 0) U U 0x80000109 m (awake space (Word 0) U U 0 0x80000127 0x80000200 m) c.ready
      (assumption)))))

  nop-ends : (x n : ℕ) (m : List ℕ) → HasCommand k Q 3 x n m
      → Leads access space Q k (steps 15) (sec access space laws Q keeps k link Undefined Undefined Undefined 0x80000104 m)
      (at_top access space laws Q keeps k link (saved_at 0x80000104 m))
  unfolding execute_byte secondary_bytes
  nop-ends x n m c =
      not_load 3 x n m c refl refl ⨾
      (ldl access space laws Q keeps k link (Word 0) Undefined Undefined 39 0 3 m c.ready (omega arith) refl (omega arith) c.op_is ⨾
      (walk access space laws Q keeps k link 3 (Word 3) (Word 0) Undefined 0x80000128 m
      (awake space (Word 0) (Word 0) Undefined 0 base 0x80000200 m) c.ready (assumption) ⨾
      to_top access space laws Q keeps k link (Word 0) (Word 0) Undefined m c.ready))

  pub serves-nop : (m : List ℕ) → IsTop k Q m → Serves access space Q k (takes nop_command ++ steps 15) m m
  serves-nop m top =
      let m1 : List ℕ = put m 0x80000200 nop_command in
      let c : HasCommand k Q 3 0 0 m1 = has_command k Q keeps 3 0 0 m top.ready (omega arith) (omega arith) (omega arith) in
      record {
        after = saved_at 0x80000104 m1;
        leads = takes-command access space laws Q keeps k link 3 0 0 m top ⨾ nop-ends 0 0 m1 c;
        top = top-saved k Q keeps m1 c.ready;
        changed = changed-more m m1 (saved_at 0x80000104 m1) 0x800001FC 0x80000400
            (changed-workspace m 0x80000200 nop_command top.ready.size (omega arith) (omega (arith, command-length 3 0 0)))
            (changed-workspace m1 0x800001FC (to_le_bytes w32 0x80000104) c.ready.size (omega arith) (omega arith));
      }

  -- a started program: 17 steps from the command to its entry
  abbrev pub started : ℕ → ℕ → List ℕ → NodeState M
  started entry wptr m = running (awake space (Word 0x80000131) (Word 0x80000200) (Word 0) 0 entry wptr m)

  run-ends : (entry wptr : ℕ) (m : List ℕ) → HasCommand k Q 2 entry wptr m → wptr % 4 ≡ 0
      → Leads access space Q k (steps 17) (sec access space laws Q keeps k link Undefined Undefined Undefined 0x80000104 m)
      (started entry wptr m)
  unfolding execute_byte secondary_bytes operation_with
  run-ends entry wptr m c aligned =
      let U : Reg = Undefined in
      let fetched : access.byte (space m) 0x8000012E ≡ Ok 0xFC =
      byte-known access space laws m 0x8000012E 0xFC (c.ready.code 46 (omega arith)) in
      let swaps = byte-steps access k (awake space (Word wptr) (Word entry) (Word 0) 0x30 0x8000012E 0x80000200 m) 0xFC
      (record { state = awake space (Word 0x80000200) (Word entry) (Word 0) 0 0x8000012F wptr m; outcome = Ran }) refl fetched
      (λ slice clock. rw aligned refl) in
      not_load 2 entry wptr m c refl refl ⨾
      (ldl access space laws Q keeps k link (Word 0) U U 39 0 2 m c.ready (omega arith) refl (omega arith) c.op_is ⨾
      (walk access space laws Q keeps k link 3 (Word 2) (Word 0) U 0x80000128 m (awake space (Word 0) U U 0 0x8000012B 0x80000200 m)
      c.ready (assumption) ⨾
      (ldl access space laws Q keeps k link (Word 0) U U 43 1 entry m c.ready (omega arith) refl (omega arith) c.x_is ⨾
      (ldl access space laws Q keeps k link (Word entry) (Word 0) U 44 2 wptr m c.ready (omega arith) refl (omega arith) c.n_is ⨾
      (walk access space laws Q keeps k link 1 (Word wptr) (Word entry) (Word 0) 0x8000012D m
      (awake space (Word wptr) (Word entry) (Word 0) 0x30 0x8000012E 0x80000200 m) c.ready (assumption) ⨾
      (one swaps m refl c.ready.holds ⨾
      walks access space Q k base secondary_bytes 2 (awake space (Word 0x80000200) (Word entry) (Word 0) 0 0x8000012F wptr m)
      (awake space (Word 0x80000131) (Word 0x80000200) (Word 0) 0 entry wptr m) m refl c.ready.holds
      (secondary_code access space laws Q keeps k link m c.ready) (assumption)))))))

  pub runs : (entry wptr : ℕ) (m : List ℕ) → IsTop k Q m → entry < 2 ^ 32 → wptr < 2 ^ 32 → wptr % 4 ≡ 0
      → Leads access space Q k (takes (run_command entry wptr) ++ steps 17) (at_top access space laws Q keeps k link m)
      (started entry wptr (put m 0x80000200 (run_command entry wptr)))
  runs entry wptr m top entry_word wptr_word aligned =
      takes-command access space laws Q keeps k link 2 entry wptr m top ⨾ run-ends entry wptr (put m 0x80000200 (run_command entry wptr))
      (has_command k Q keeps 2 entry wptr m top.ready (omega arith) entry_word wptr_word) aligned

  pub runs-changed : (entry wptr : ℕ) (m : List ℕ) → IsTop k Q m
      → Changed m (put m 0x80000200 (run_command entry wptr)) 0x800001FC 0x80000400
  runs-changed entry wptr m top = changed-workspace m 0x80000200 (run_command entry wptr) top.ready.size (omega arith)
      (omega (arith, command-length 2 entry wptr))
