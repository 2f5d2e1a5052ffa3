-- No turn depends on the clock or on whether another process takes its turn, but where the table says so.
use Rattle.std.proofs.Common.{◌≡◌, ℕ, Bool, false, Option, Some, None, refl}
use Rattle.tn_mem.specs.Spaces.{Access}
use Rattle.tn_isa.specs.declared.functions.Fun.{Fun}
use Rattle.tn_isa.specs.declared.functions.Fun.TheVariants.{J, Opr}
use Rattle.tn_isa.specs.declared.operations.Op.{Op}
use Rattle.tn_isa.specs.declared.operations.Op.TheVariants.{Ldtimer, Lend}
use Rattle.tn_isa.specs.Operations.{operation_with}
use Rattle.tn_cpu.specs.declared.turns.Turn.{Turn}
use Rattle.tn_cpu.specs.States.{State}
use Rattle.tn_cpu.specs.Effects.{operate, operate_found, effect}
use Rattle.tn_cpu.specs.TurnEnds.{is_ldtimer, is_lend, reads_clock, may_slice}

module _ {M : Type 0} (access : Access M) (t : Turn) (s : State M) where
  module _ (clock : ℕ) where
    operation-clock : (op : Op) → is_ldtimer (Some op) ≡ false → operate access op (record t { clock = clock }) s ≡ operate access op t s
    operation-clock Ldtimer other = cc
    operation-clock op other = refl

    found-clock :
        (op : Option Op) → is_ldtimer op ≡ false → operate_found access op (record t { clock = clock }) s ≡ operate_found access op t s
    found-clock (Some op) other = operation-clock op other
    found-clock None other = refl

    pub effect-clock :
        (fun : Fun) (e : ℕ) → reads_clock fun e ≡ false → effect access fun e (record t { clock = clock }) s ≡ effect access fun e t s
    effect-clock Opr e other = found-clock (operation_with e) other
    effect-clock fun e other = refl

  module _ (slice : Bool) where
    operation-slice : (op : Op) → is_lend (Some op) ≡ false → operate access op (record t { slice = slice }) s ≡ operate access op t s
    operation-slice Lend other = cc
    operation-slice op other = refl

    found-slice :
        (op : Option Op) → is_lend op ≡ false → operate_found access op (record t { slice = slice }) s ≡ operate_found access op t s
    found-slice (Some op) other = operation-slice op other
    found-slice None other = refl

    pub effect-slice :
        (fun : Fun) (e : ℕ) → may_slice fun e ≡ false → effect access fun e (record t { slice = slice }) s ≡ effect access fun e t s
    effect-slice J e other = cc
    effect-slice Opr e other = found-slice (operation_with e) other
    effect-slice fun e other = refl
