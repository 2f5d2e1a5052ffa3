-- Steps of a node beside those of one over whole items.
use Rattle.std.proofs.Common.{
  add-zero,
  ◌≡◌,
  ℕ,
  ◌+◌,
  ◌^◌,
  ◌≤◌,
  ◌==◌,
  ℤ,
  Bool,
  true,
  false,
  List,
  length,
  take,
  Option,
  Some,
  None,
  Result,
  Ok,
  Err,
  refl,
  sym,
  ap,
  subst,
  ◌∙◌,
  inl,
  inr,
  ◌⊎◌,
  arith,
}
use Rattle.std.specs.Prelude.{if◌then◌else◌, IsOk}
use Rattle.std.specs.Result.{result_err, result_unwrap_or}
use Rattle.tn_isa.specs.declared.functions.Fun.{Fun}
use Rattle.tn_mem.specs.declared.touches.Touch.{Touch}
use Rattle.tn_mem.specs.Spaces.{Access}
use Rattle.tn_mem.specs.Memories.{plain_access}
use Rattle.tn_mem.specs.Guards.{Guarded, guarded}
use Rattle.tn_mem.specs.Inner.GuardLaws.{guarded_lawful}
use Rattle.tn_prefix.specs.Coding.{coding}
use Rattle.tn_isa.specs.OperandRegister.{register_after}
use Rattle.tn_cpu.specs.declared.registers.Reg.{Reg}
use Rattle.tn_cpu.specs.declared.registers.Reg.TheVariants.{Undefined, Word}
use Rattle.tn_cpu.specs.declared.outcomes.Why.{Why}
use Rattle.tn_cpu.specs.declared.outcomes.Life.{Life}
use Rattle.tn_cpu.specs.declared.outcomes.Life.TheVariants.{Running, Idle, Stopped}
use Rattle.tn_cpu.specs.States.{State, wrap, below, over_memory}
use Rattle.tn_word.specs.Words.{not_process}
use Rattle.tn_cpu.specs.Codes.{placed}
use Rattle.tn_cpu.specs.Queues.{loadable, enqueued_behind, enqueued, woken_idle, woken_running, woken_behind, woken_by, woken}
use Rattle.tn_node.specs.Links.{byte_stored}
use Rattle.tn_cpu.specs.Following.{answers_like, WokenLike}
use Rattle.tn_cpu.specs.Following.WokenLike.{halts, wakes}
use Rattle.tn_sym.specs.Inner.Covers.{Covers}
use Rattle.tn_sym.specs.Inner.Items.{AreItems, StandsAs}
use Rattle.tn_sym.specs.Inner.Beside.{StandsBy, SameCpu, Allows}
use Rattle.tn_sym.proofs.Covering.{covers_follows}
use Rattle.tn_cpu.proofs.Followings.{woken-follows}
use Rattle.tn_sym.proofs.Bytes.{length-coding_prefixes}
use Rattle.tn_sym.proofs.Engines.{allows-first, refusal-allows}

-- ---- waking a process

-- what waking leaves of a running processor
pub record Kept {M : Type 0} (old new : State M) : Type 0 where
  pub oreg : new.oreg ≡ old.oreg
  pub iptr : new.iptr ≡ old.iptr
  pub life : new.life ≡ old.life

-- a processor stops, or keeps these
abbrev pub StopsOr : {M : Type 0} → Type 0 → State M → Type 0
StopsOr Else t = ((why : Why) × (t.life ≡ Stopped why)) ⊎ Else

chosen : {A B : Type 0} (f : A → B) (test : Bool) (x y : A) (x' y' : B) → x' ≡ f x → y' ≡ f y → (if test then x' else y') ≡ f
    (if test then x else y)
chosen f true x y x' y' h g = h
chosen f false x y x' y' h g = g

module _ {M : Type 0} (access : Access M) (process : ℕ) where
  kept_if : (test : Bool) (t x y : State M) → Kept t x → Kept t y → Kept t (if test then x else y)
  kept_if true t x y h g = h
  kept_if false t x y h g = g

  behind-kept : (front : Reg) (t : State M) → Kept t (enqueued_behind access front process t)
  behind-kept Undefined t = record { oreg = refl; iptr = refl; life = refl }
  behind-kept (Word front) t = kept_if (front == not_process) t _ _ (record { oreg = refl; iptr = refl; life = refl })
      (record { oreg = refl; iptr = refl; life = refl })

  running-kept : (r : Option Touch) (t : State M) → StopsOr (Kept t (woken_running r access process t)) (woken_running r access process t)
  unfolding enqueued
  running-kept None t = inr (behind-kept t.front t)
  running-kept (Some touch) t = inl (_, refl)

  front-kept : (front : Reg) (t : State M) → StopsOr (Kept t (woken_behind access front process t)) (woken_behind access front process t)
  front-kept Undefined t = inl (_, refl)
  front-kept (Word front) t = running-kept _ t

  pub woken-kept : (t : State M) → t.life ≡ Running → StopsOr (Kept t (woken access process t)) (woken access process t)
  unfolding woken
  woken-kept t is = subst (λ (life : Life). StopsOr (Kept t (woken_by access life process t)) (woken_by access life process t)) (sym is)
      (front-kept t.front t)

  idle-oreg : (r : Option Touch) (t : State M) → (woken_idle r access process t).oreg ≡ t.oreg
  idle-oreg None t = refl
  idle-oreg (Some touch) t = refl

  pub woken-oreg : (t : State M) → t.life ≡ Idle → (woken access process t).oreg ≡ t.oreg
  unfolding woken
  woken-oreg t is = subst (λ (life : Life). (woken_by access life process t).oreg ≡ t.oreg) (sym is)
      (idle-oreg (loadable access t.memory (below process 4)) t)

  -- a running processor may stand within an item
  behind-placed : (o i : ℕ) (front : Reg) (t : State M) → enqueued_behind access front process (placed o i t) ≡ placed o i
      (enqueued_behind access front process t)
  behind-placed o i Undefined t = refl
  behind-placed o i (Word front) t = chosen (placed o i) (front == not_process) _ _ _ _ refl refl

  running-placed : (o i : ℕ) (r : Option Touch) (t : State M) → woken_running r access process (placed o i t) ≡ placed o i
      (woken_running r access process t)
  unfolding enqueued
  running-placed o i None t = behind-placed o i t.front t
  running-placed o i (Some touch) t = refl

  front-placed : (o i : ℕ) (front : Reg) (t : State M) → woken_behind access front process (placed o i t) ≡ placed o i
      (woken_behind access front process t)
  front-placed o i Undefined t = refl
  front-placed o i (Word front) t = running-placed o i _ t

  pub woken-placed : (o i : ℕ) (t : State M) → t.life ≡ Running → woken access process (placed o i t) ≡ placed o i (woken access process t)
  unfolding woken
  woken-placed o i t is = subst (λ (life : Life). woken_by access life process (placed o i t) ≡ placed o i
      (woken_by access life process t)) (sym is) (front-placed o i t.front t)

-- ---- processors

module _ (code : List ℕ) (from to : ℕ) (items : ℕ → Option (Fun × ℤ)) (are : AreItems code from to items) (high : to ≤ 2 ^ 32) where
  -- at the first byte of an item, or where none begins
  pub starts : (m : List ℕ) (u : State Guarded) → u.oreg ≡ 0 → StandsAs (items u.iptr) (over_memory m u) m u
  starts m u is_clear = by_item (items u.iptr) refl
    where
      by_item : (item : Option (Fun × ℤ)) → items u.iptr ≡ item → StandsAs item (over_memory m u) m u
      by_item None is = (u.oreg, u.iptr, refl)
      by_item (Some item) is =
          let it = are u.iptr item.0 item.1 is in
          let long = length-coding_prefixes item.0 item.1 it.fits in
          let same : u.iptr ≡ wrap (u.iptr + 0) = omega (arith, it.high, long, high) in (
            0,
            omega (arith, long),
            ap (λ (o : ℕ). placed o u.iptr (over_memory m u)) is_clear ∙ ap
                (λ (i : ℕ). placed 0 i (over_memory m u)) same,
          )

  pub start-same : (m : List ℕ) (u : State Guarded) → Covers code from to m u.memory → u.oreg ≡ 0 → StopsOr
      (SameCpu code from to items (over_memory m u) u) u
  start-same m u c is_clear = by_life u.life refl
    where
      by_life : (life : Life) → u.life ≡ life → StopsOr (SameCpu code from to items (over_memory m u) u) u
      by_life Running is = inr (record {
        memory = m;
        covers = c;
        clear = is_clear;
        stands = subst
            (λ (life : Life). StandsBy life (items u.iptr) (over_memory m u) m u) (sym is) (starts m u is_clear);
      })
      by_life Idle is = inr (record {
        memory = m;
        covers = c;
        clear = is_clear;
        stands = subst
            (λ (life : Life). StandsBy life (items u.iptr) (over_memory m u) m u) (sym is) refl;
      })
      by_life (Stopped why) is = inl (why, is)

  -- the other processor stands beside it with another memory, or after a change of both that leaves where they stand
  moves : (life : Life) (item : Option (Fun × ℤ)) (s : State (List ℕ)) (m n : List ℕ) (u v : State Guarded)
      (F : State (List ℕ) → State (List ℕ)) → ((o i : ℕ) → F (placed o i (over_memory m u)) ≡ placed o i (over_memory n v)) → v.oreg ≡
      u.oreg → v.iptr ≡ u.iptr → StandsBy life item s m u → StandsBy life item (F s) n v
  moves Running None s m n u v F same oreg iptr h = (h.0, h.1, ap F h.2 ∙ same h.0 h.1)
  moves Running (Some item) s m n u v F same oreg iptr h = (
    h.0,
    h.1,
    ap F h.2 ∙
        (same _ _ ∙ ap (λ (i : ℕ). placed (register_after 0 (take h.0 (coding item.0 item.1))) (wrap (i + h.0)) (over_memory n v))
        (sym iptr)),
  )
  moves Idle item s m n u v F same oreg iptr h = ap F h ∙ (same u.oreg u.iptr ∙
      (ap (λ (o : ℕ). placed o u.iptr (over_memory n v)) (sym oreg) ∙ ap (λ (i : ℕ). placed v.oreg i (over_memory n v)) (sym iptr)))
  moves (Stopped why) item s m n u v F same oreg iptr h = h

  pub memory-stands : (life : Life) (item : Option (Fun × ℤ)) (s : State (List ℕ)) (m : List ℕ) (u : State Guarded) → StandsBy life item
      s m u → (s.memory ≡ m) × (s.life ≡ u.life)
  memory-stands Running None s m u h = (ap (λ (t : State (List ℕ)). t.memory) h.2, ap (λ (t : State (List ℕ)). t.life) h.2)
  memory-stands Running (Some item) s m u h = (ap (λ (t : State (List ℕ)). t.memory) h.2, ap (λ (t : State (List ℕ)). t.life) h.2)
  memory-stands Idle item s m u h = (ap (λ (t : State (List ℕ)). t.memory) h, ap (λ (t : State (List ℕ)). t.life) h)
  memory-stands (Stopped why) item s m u h = absurd h

  -- a process is woken in both
  pub woken-same : (process : ℕ) (s : State (List ℕ)) (u : State Guarded) → SameCpu code from to items s u → StopsOr
      (SameCpu code from to items (woken plain_access process s) (woken guarded process u)) (woken guarded process u)
  woken-same process s u same = by_life u.life refl same.stands
      (woken-follows plain_access guarded (Covers code from to) (covers_follows code from to) guarded_lawful same.memory u same.covers
      process)
    where
      by_life : (life : Life) → u.life ≡ life → StandsBy life (items u.iptr) s same.memory u → WokenLike (Covers code from to)
          (woken plain_access process (over_memory same.memory u)) (woken guarded process u) → StopsOr
          (SameCpu code from to items (woken plain_access process s) (woken guarded process u)) (woken guarded process u)
      by_life life is h (halts why stop) = inl (why, stop)
      by_life Idle is h (wakes m like e) =
          rw (ap (woken plain_access process) h ∙ e) (start-same m (woken guarded process u) like
          (woken-oreg guarded process u is ∙ same.clear))
      by_life Running is h (wakes m like e) = elim (woken-kept guarded process u is) [
        | inl stop ↦ inl stop
        | inr kept ↦ inr (record {
          memory = m;
          covers = like;
          clear = kept.oreg ∙ same.clear;
          stands =
              let there = moves Running (items u.iptr) s same.memory m u (woken guarded process u) (woken plain_access process)
              (λ o i. woken-placed plain_access process o i (over_memory same.memory u) is ∙ ap (placed o i) e) kept.oreg kept.iptr
              h in
              subst (λ (life : Life). StandsBy life (items (woken guarded process u).iptr) (woken plain_access process s) m
              (woken guarded process u)) (sym (kept.life ∙ is))
              (subst (λ (i : ℕ). StandsBy Running (items i) (woken plain_access process s) m (woken guarded process u)) (sym kept.iptr)
              there);
        })
      ]
      by_life (Stopped why) is h (wakes m like e) = absurd h

  -- ---- bytes that engines move

  unrefused : (p : Result (List ℕ) Touch) (r : Result Guarded Touch) (n : Guarded) → result_err r ≡ None → answers_like
      (Covers code from to) p r → (k : List ℕ) × (p ≡ Ok k) × Covers code from to k (result_unwrap_or r n)
  unrefused p (Ok v) n none h = h
  unrefused p (Err touch) n none h = cc

  pub stored-same : (a k byte : ℕ) (s : State (List ℕ)) (u : State Guarded) → SameCpu code from to items s u → 1 ≤ k → Allows
      (length code) from to a k → SameCpu code from to items (byte_stored plain_access a byte s) (byte_stored guarded a byte u)
  stored-same a k byte s u same some allows =
      let first = refusal-allows code from to same.memory u.memory a 1 same.covers (allows-first (length code) from to a k some allows) in
      let made = unrefused (plain_access.set_byte same.memory a byte) (guarded.set_byte u.memory a byte) u.memory
      (guarded_lawful.set_byte_as_block u.memory a byte ∙ ap result_err first)
      ((covers_follows code from to).set_byte same.memory u.memory a byte same.covers).says in
      record {
        memory = made.0;
        covers = made.2;
        clear = same.clear;
        stands = moves u.life (items u.iptr) s same.memory made.0 u (byte_stored guarded a byte u) (byte_stored plain_access a byte)
            (λ o i. ap (λ (r : Result (List ℕ) Touch). placed o i (over_memory (result_unwrap_or r same.memory) u)) made.1) refl refl
            same.stands;
      }

  unrefused_byte : (p r : Result ℕ Touch) → IsOk r → answers_like (λ (x y : ℕ). x ≡ y) p r → result_unwrap_or p 0 ≡ result_unwrap_or r 0
  unrefused_byte p (Ok byte) ok h = ap (λ (r : Result ℕ Touch). result_unwrap_or r 0) h.1 ∙ h.2
  unrefused_byte p (Err touch) ok h = cc

  pub byte-same : (a k : ℕ) (s : State (List ℕ)) (u : State Guarded) → SameCpu code from to items s u → 1 ≤ k → Allows (length code)
      from to a k → result_unwrap_or (plain_access.byte s.memory a) 0 ≡ result_unwrap_or (guarded.byte u.memory a) 0
  byte-same a k s u same some allows =
      let whole = guarded_lawful.source_of_block u.memory a k (refusal-allows code from to same.memory u.memory a k same.covers allows) in
      let ok : IsOk (guarded.byte u.memory a) = rw add-zero at (guarded_lawful.byte_of_source u.memory a k 0 whole some) in
      let own = (memory-stands u.life (items u.iptr) s same.memory u same.stands).0 in
      ap (λ (m : List ℕ). result_unwrap_or (plain_access.byte m a) 0) own
      ∙ unrefused_byte (plain_access.byte same.memory a) (guarded.byte u.memory a) ok
      ((covers_follows code from to).byte same.memory u.memory a same.covers).says
