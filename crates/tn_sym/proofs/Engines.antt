-- Engines whose blocks are allowed.
use Rattle.std.proofs.Common.{
  ◌≡◌,
  ℕ,
  zero,
  suc,
  ◌+◌,
  ◌-◌,
  ◌≤◌,
  true,
  false,
  List,
  [],
  ◌∷◌,
  length,
  Option,
  Some,
  None,
  Ok,
  refl,
  sym,
  ◌∙◌,
  inl,
  inr,
  ◌⊎◌,
  arith,
}
use Rattle.std.specs.Prelude.{slice_set}
use Rattle.std.specs.Result.{result_err}
use Rattle.std.proofs.lemmas.Bool.Decides.{nat_tests}
use Rattle.tn_mem.specs.Memories.{allows_block, test_block}
use Rattle.tn_mem.specs.Guards.{Guarded, meets, unless_met, guarded}
use Rattle.tn_mem.specs.Inner.GuardLaws.{allowed-unless_met, unless_met-apart}
use Rattle.tn_mem.proofs.SpaceLemmas.{allowed}
use Rattle.tn_mem.proofs.Allowed.{allowed-test_block, test_block-allowed}
use Rattle.tn_cpu.specs.States.{wrap}
use Rattle.tn_cpu.specs.declared.channels.Way.{Way}
use Rattle.tn_cpu.specs.declared.channels.Way.TheVariants.{Input, Output}
use Rattle.tn_cpu.specs.Queues.{block_refusal, source_refusal}
use Rattle.tn_cpu.specs.Channels.{bytes_refusal}
use Rattle.tn_node.specs.declared.engines.Engine.{Engine}
use Rattle.tn_node.specs.Engines.{engine_of, moved}
use Rattle.tn_sym.specs.Inner.Covers.{Covers}
use Rattle.tn_sym.specs.Inner.Beside.{Allows, AllowedEngines, HaveBytes}

-- after one of them is set, each is that one or as before
engine-set : (engines : List (Option Engine)) (l j : ℕ) (x : Option Engine) → (engine_of (slice_set engines l x) j ≡ x) ⊎
    (engine_of (slice_set engines l x) j ≡ engine_of engines j)
engine-set [] l j x = inr refl
engine-set (e ∷ engines) zero zero x = inl refl
engine-set (e ∷ engines) zero (suc j) x = inr refl
engine-set (e ∷ engines) (suc l) zero x = inr refl
engine-set (e ∷ engines) (suc l) (suc j) x = engine-set engines l j x

pub engines-set : (size from to : ℕ) (engines : List (Option Engine)) (l : ℕ) (x : Option Engine) → AllowedEngines size from to engines
    → ((e : Engine) → x ≡ Some e → Allows size from to e.pointer e.left) → AllowedEngines size from to (slice_set engines l x)
engines-set size from to engines l x all one = record {
  block = λ j e is. elim (engine-set engines l j x) [
    | inl new ↦ one e (sym new ∙ is)
    | inr old ↦ all.block j e (sym old ∙ is)
  ];
}

-- what is left of a block behind its first byte
pub allows-moved : (size from to : ℕ) (e : Engine) → 1 ≤ e.left → Allows size from to e.pointer e.left
    → Allows size from to (moved e).pointer (moved e).left
allows-moved size from to e some h =
    record { block = rest_block size e.pointer e.left some h.block; apart = rest_apart size from to e.pointer e.left some h.block h.apart }
  where
    rest_block : (size a n : ℕ) → 1 ≤ n → allows_block size a n ≡ true → allows_block size (wrap (a + 1)) (n - 1) ≡ true
    rest_block size a n some e = grind (arith, nat_tests)

    rest_apart : (size from to a n : ℕ) → 1 ≤ n → allows_block size a n ≡ true → meets from to a n ≡ false → meets from to
        (wrap (a + 1)) (n - 1) ≡ false
    rest_apart size from to a n some e f = grind (arith, nat_tests)

-- a block that a guarded memory doesn't refuse
allows-test : (code : List ℕ) (from to : ℕ) (m : List ℕ) (n : Guarded) (a k : ℕ) → Covers code from to m n
    → result_err (unless_met n a k (test_block n.bytes a k)) ≡ None → Allows (length code) from to a k
allows-test code from to m n a k c e =
    let h = allowed-unless_met n a k (test_block n.bytes a k) tt (allowed (unless_met n a k (test_block n.bytes a k)) e) in
    let sizes : length n.bytes ≡ length code = sym c.size ∙ c.whole in
    record { block = rw sizes at (allowed-test_block n.bytes a k h.1); apart = rw (c.first, c.end) at h.0 }

pub allows-refusal : (code : List ℕ) (from to : ℕ) (m : List ℕ) (n : Guarded) (way : Way) (a k : ℕ) → Covers code from to m n
    → bytes_refusal guarded way n a k ≡ None → Allows (length code) from to a k
unfolding block_refusal source_refusal
allows-refusal code from to m n Input a k c e = allows-test code from to m n a k c e
allows-refusal code from to m n Output a k c e = allows-test code from to m n a k c e

pub refusal-allows : (code : List ℕ) (from to : ℕ) (m : List ℕ) (n : Guarded) (a k : ℕ) → Covers code from to m n → Allows (length code)
    from to a k → guarded.block n a k ≡ Ok tt
refusal-allows code from to m n a k c h =
    let sizes : length n.bytes ≡ length code = sym c.size ∙ c.whole in
    unless_met-apart n a k (test_block n.bytes a k) (rw (c.first, c.end) h.apart) ∙ test_block-allowed n.bytes a k (rw sizes h.block)

-- the first byte of a block
pub allows-first : (size from to a n : ℕ) → 1 ≤ n → Allows size from to a n → Allows size from to a 1
allows-first size from to a n some h = record { block = first_block size a n some h.block; apart = first_apart from to a n some h.apart }
  where
    first_block : (size a n : ℕ) → 1 ≤ n → allows_block size a n ≡ true → allows_block size a 1 ≡ true
    first_block size a n some e = grind (arith, nat_tests)

    first_apart : (from to a n : ℕ) → 1 ≤ n → meets from to a n ≡ false → meets from to a 1 ≡ false
    first_apart from to a n some e = grind (arith, nat_tests)

pub have-set : (engines : List (Option Engine)) (l : ℕ) (x : Option Engine) → HaveBytes engines →
    ((e : Engine) → x ≡ Some e → 1 ≤ e.left) → HaveBytes (slice_set engines l x)
have-set engines l x all one = record {
  some = λ j e is. elim (engine-set engines l j x) [
    | inl new ↦ one e (sym new ∙ is)
    | inr old ↦ all.some j e (sym old ∙ is)
  ];
}
