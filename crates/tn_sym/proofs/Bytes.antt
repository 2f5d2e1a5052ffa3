-- A byte step of a processor beside one over whole items.
use Rattle.std.proofs.Common.{
  ◌≡◌,
  ◌≢◌,
  ℕ,
  zero,
  suc,
  ◌+◌,
  ◌^◌,
  ◌<◌,
  ◌≤◌,
  ℤ,
  Bool,
  true,
  false,
  List,
  [],
  ◌∷◌,
  ◌++◌,
  length,
  take,
  All,
  Option,
  Some,
  None,
  Result,
  Ok,
  Err,
  refl,
  sym,
  ap,
  subst,
  ◌∙◌,
  length-append,
  add-one,
  inl,
  inr,
  ◌⊎◌,
  arith,
}
use Rattle.std.specs.Int.{w32}
use Rattle.std.specs.Int.RustNames.{FitsSigned}
use Rattle.std.proofs.lemmas.List.{take-append-le, take_all}
use Rattle.std.proofs.lemmas.List.Elements.{All-head, All-tail}
use Rattle.tn_isa.specs.declared.functions.Fun.{Fun}
use Rattle.tn_mem.specs.declared.touches.Touch.{Touch}
use Rattle.tn_mem.specs.Spaces.{Access}
use Rattle.tn_mem.specs.Memories.{plain_access, fetch}
use Rattle.tn_mem.specs.Guards.{Guarded, guarded}
use Rattle.tn_mem.specs.Inner.GuardLaws.{guarded_lawful}
use Rattle.tn_mem.proofs.Allowed.{allowed-fetch, fetch-allowed, inside-reachable}
use Rattle.tn_isa.specs.OperandRegister.{is_prefix, IsCoded, IsPrefix, operand_after, register_after}
use Rattle.tn_prefix.specs.Coding.{instruction, coding}
use Rattle.tn_prefix.specs.Operand.{word_of}
use Rattle.tn_prefix.proofs.Instructions.{function_of-instruction}
use Rattle.tn_prefix.proofs.Codings.{coding_prefixes, low_bits, coding-prefixes}
use Rattle.tn_prefix.proofs.CodingLoads.{IsPrefix-coding_prefixes}
use Rattle.tn_cpu.specs.declared.turns.Turn.{Turn}
use Rattle.tn_cpu.specs.declared.outcomes.Why.{Why}
use Rattle.tn_cpu.specs.declared.outcomes.Outcome.{Outcome}
use Rattle.tn_cpu.specs.declared.outcomes.Outcome.TheVariants.{Prefix, Ran, OpensIn, OpensOut, Stopped}
use Rattle.tn_cpu.specs.declared.outcomes.Why.TheVariants.{Stray, Code as WhyCode}
use Rattle.tn_cpu.specs.States.{State, wrap, over_memory}
use Rattle.tn_cpu.specs.Turns.{Ended}
use Rattle.tn_cpu.specs.Steps.{prefixed, step}
use Rattle.tn_cpu.specs.Effects.{effect}
use Rattle.tn_cpu.specs.Codes.{StandsAt, placed, begun_at}
use Rattle.tn_node.proofs.Chains.{stands-front, stands-back, step-prefix, chain}
use Rattle.tn_cpu.specs.Following.{ended_over, EndsLike}
use Rattle.tn_cpu.specs.Following.EndsLike.{code as meets_code, same}
use Rattle.tn_sym.specs.Inner.Covers.{Covers}
use Rattle.tn_sym.specs.Inner.Items.ItemFollows.{stops as it_stops, goes}
use Rattle.tn_sym.specs.Inner.Items.{ItemFollows, IsItem, AreItems, reading, item_step, is_prefix_byte, StandsAs, SameRunning}
use Rattle.tn_sym.proofs.Covering.{covers_follows}
use Rattle.tn_cpu.proofs.Followings.{effect-follows}
use Rattle.tn_cpu.proofs.Ends.{effect-tells, effect-not_prefix}
use Rattle.tn_cpu.specs.TurnEnds.{ByOutcome}

-- the byte behind the first k of some prefix bytes
pub record Next {M : Type 0} (access : Access M) (m : M) (a : ℕ) (bytes : List ℕ) (k o : ℕ) : Type 0 where
  pub byte : ℕ
  pub here : access.byte m (wrap (a + k)) ≡ Ok byte
  pub prefix : IsPrefix byte
  pub folds : register_after o (take (suc k) bytes) ≡ operand_after (register_after o (take k bytes)) byte

next_prefix : {M : Type 0} (access : Access M) (m : M) (a : ℕ) (bytes : List ℕ) (k o : ℕ) → a < 2 ^ 32 → k < length bytes → All IsPrefix
    bytes → StandsAt access m a bytes → Next access m a bytes k o
next_prefix access m a [] k o in_word below all h = absurd (omega arith)
next_prefix access m a (byte ∷ bytes) zero o in_word below all h =
    let same : a ≡ wrap (a + 0) = omega arith in
    record { byte = byte; here = rw same at h.0; prefix = All-head IsPrefix byte bytes all; folds = refl }
next_prefix access m a (byte ∷ bytes) (suc k) o in_word below all h =
    let next = next_prefix access m (wrap (a + 1)) bytes k (operand_after o byte) (omega arith) (omega arith)
    (All-tail IsPrefix byte bytes all) h.1 in
    let same : wrap (wrap (a + 1) + k) ≡ wrap (a + suc k) = omega arith in
    record { byte = next.byte; here = rw same at next.here; prefix = next.prefix; folds = next.folds }

fetch-covers : (code : List ℕ) (from to : ℕ) (m : List ℕ) (n : Guarded) (a byte : ℕ) → Covers code from to m n → from ≤ a → a < to →
    fetch code a ≡ Ok byte → fetch m a ≡ Ok byte
fetch-covers code from to m n a byte c low high e =
    let h = allowed-fetch code a byte e in
    let inside = inside-reachable code a 1 h.0 in
    fetch-allowed m a (rw c.whole h.0) ∙ ap Ok (c.inside a inside.low low high ∙ sym h.1)

-- fewer bytes than the whole coding are prefix bytes
take-coding : (f : Fun) (e : ℤ) (k : ℕ) → FitsSigned w32 e → k ≤ length (coding_prefixes e) → take k (coding f e) ≡ take k
    (coding_prefixes e)
take-coding f e k fits within = ap (take k) (coding-prefixes f e fits) ∙ take-append-le k (coding_prefixes e)
    (instruction f (low_bits e) ∷ []) within

pub length-coding_prefixes : (f : Fun) (e : ℤ) → FitsSigned w32 e → length (coding f e) ≡ length (coding_prefixes e) + 1
length-coding_prefixes f e fits = ap length (coding-prefixes f e fits) ∙ length-append (coding_prefixes e) (instruction f (low_bits e) ∷ [])

module _ {M : Type 0} (access : Access M) (f : Fun) (e : ℤ) (t : State M) (fits : FitsSigned w32 e) (in_word : t.iptr < 2 ^ 32)
    (h : StandsAt access t.memory t.iptr (coding f e)) where
  parts : StandsAt access t.memory t.iptr (coding_prefixes e ++ instruction f (low_bits e) ∷ [])
  parts = subst (λ (bytes : List ℕ). StandsAt access t.memory t.iptr bytes) (coding-prefixes f e fits) h

  next_of : (k : ℕ) → k + 2 ≤ length (coding f e) → Next access t.memory t.iptr (coding_prefixes e) k 0
  next_of k within =
      let long = length-coding_prefixes f e fits in
      next_prefix access t.memory t.iptr (coding_prefixes e) k 0 in_word (omega arith) (IsPrefix-coding_prefixes e)
      (stands-front access t.memory t.iptr (coding_prefixes e) (instruction f (low_bits e) ∷ []) parts)

  -- which of the bytes are prefixes
  pub reading-prefix : (k : ℕ) → k + 2 ≤ length (coding f e) → is_prefix_byte (access.byte t.memory (wrap (t.iptr + k))) ≡ true
  reading-prefix k within = let next = next_of k within in ap is_prefix_byte next.here ∙ next.prefix

  pub reading-last : (k : ℕ) → k + 1 ≡ length (coding f e) → IsCoded f → is_prefix_byte (access.byte t.memory (wrap (t.iptr + k))) ≡ false
  reading-last k whole coded =
      let long = length-coding_prefixes f e fits in
      let all : k ≡ length (coding_prefixes e) = omega arith in
      let byte = (stands-back access t.memory t.iptr (coding_prefixes e) (instruction f (low_bits e) ∷ []) in_word parts).0 in
      rw all (ap is_prefix_byte byte ∙ (ap is_prefix (function_of-instruction f (low_bits e)) ∙ coded))

  -- a byte before the last one is a prefix
  pub step-reading : (busy : ℕ) (slice : Bool) (clock k : ℕ) → k + 2 ≤ length (coding f e) → step access busy slice clock
      (reading f e k t) ≡ record { state = reading f e (k + 1) t; outcome = Prefix }
  step-reading busy slice clock k within =
      let long = length-coding_prefixes f e fits in
      let next = next_of k within in
      let now = take-coding f e k fits (omega arith) in
      let later = take-coding f e (suc k) fits (omega arith) in
      let folds : operand_after (register_after 0 (take k (coding f e))) next.byte ≡ register_after 0 (take (k + 1) (coding f e)) = rw
      (add-one, now, later) (sym next.folds) in
      let behind : wrap (wrap (t.iptr + k) + 1) ≡ wrap (t.iptr + (k + 1)) = omega arith in
      step-prefix access busy slice clock (reading f e k t) next.byte next.here next.prefix
      ∙ (ap (λ (o : ℕ). record { state = placed o (wrap (wrap (t.iptr + k) + 1)) t; outcome = Prefix }) folds
      ∙ ap (λ (i : ℕ). record { state = placed (register_after 0 (take (k + 1) (coding f e))) i t; outcome = Prefix }) behind)

  -- the last byte has the effect of the item
  pub step-whole : (busy : ℕ) (slice : Bool) (clock k : ℕ) → k + 1 ≡ length (coding f e) → IsCoded f → t.oreg ≡ 0 → step access busy
      slice clock (reading f e k t) ≡ begun_at (register_after 0 (take k (coding f e))) (wrap (t.iptr + k))
      (effect access f (word_of e) (record {
        following = wrap (t.iptr + length (coding f e));
        busy = busy;
        slice = slice;
        clock =
            clock;
      }) t)
  step-whole busy slice clock k whole coded is_clear =
      let long = length-coding_prefixes f e fits in
      let all : k ≡ length (coding_prefixes e) = omega arith in
      let now : take k (coding f e) ≡ coding_prefixes e = take-coding f e k fits (omega arith) ∙ take_all k (coding_prefixes e)
      (omega arith) in
      let before : register_after 0 (take k (coding f e)) ≡ register_after t.oreg (coding_prefixes e) = rw (now, is_clear) in
      rw (before, all) (chain access f e t fits coded in_word is_clear h busy slice clock)

-- ---- beside a processor over whole items

-- code that stands in the region of another memory stands in each memory that covers
pub stands-covers : (code : List ℕ) (from to : ℕ) (m : List ℕ) (n : Guarded) (a : ℕ) (bytes : List ℕ) → Covers code from to m n → to ≤ 2
    ^ 32 → from ≤ a → a + length bytes ≤ to → StandsAt plain_access code a bytes → StandsAt plain_access m a bytes
stands-covers code from to m n a [] c high low within h = tt
stands-covers code from to m n a (byte ∷ []) c high low within h = (fetch-covers code from to m n a byte c low (omega arith) h.0, tt)
stands-covers code from to m n a (byte ∷ next ∷ rest) c high low within h =
    let same : wrap (a + 1) ≡ a + 1 = omega arith in (
      fetch-covers code from to m n a byte c low (omega arith) h.0,
      stands-covers code from to m n (wrap (a + 1)) (next ∷ rest) c high
          (omega arith) (omega arith) h.1,
    )

bool_clash : (a : Bool) → a ≡ true → a ≡ false → ⊥
bool_clash true e f = cc
bool_clash false e f = cc

or_last : (k n : ℕ) → k + 1 ≤ n → (k + 2 ≤ n) ⊎ (k + 1 ≡ n)
or_last k n h = grind arith

-- a prefix byte at the instruction pointer is read
prefix_byte : (s : State (List ℕ)) (busy : ℕ) (slice : Bool) (clock : ℕ) (r : Result ℕ Touch) → fetch s.memory s.iptr ≡ r →
    is_prefix_byte r ≡ true → (byte : ℕ) × (step plain_access busy slice clock s ≡ prefixed byte s)
prefix_byte s busy slice clock (Ok byte) e prefix = (byte, step-prefix plain_access busy slice clock s byte e prefix)
prefix_byte s busy slice clock (Err touch) e prefix = cc

-- the effect of an item that does not stop is the whole state, and leaves the operand register clear
kept_by : {M N : Type 0} (guard : Access N) (o i busy : ℕ) (m : M) (u : State N) (g : Ended N) (outcome : Outcome) → g.outcome ≡ outcome
    → ByOutcome guard busy u g.state outcome → outcome ≢ Prefix
    → ((why : Why) × (g.outcome ≡ Stopped why)) ⊎ ((g.state.oreg ≡ 0) × (begun_at o i (ended_over m g) ≡ ended_over m g))
kept_by guard o i busy m u g Prefix is tells not = absurd (not refl)
kept_by guard o i busy m u g Ran is tells not = inr (tells, rw is)
kept_by guard o i busy m u g (OpensIn transfer) is tells not = inr (tells.1, rw is)
kept_by guard o i busy m u g (OpensOut transfer) is tells not = inr (tells.1, rw is)
kept_by guard o i busy m u g (Stopped why) is tells not = inl (why, is)

ends_item : {code : List ℕ} {from to : ℕ} (r e : Ended (List ℕ)) (g : Ended Guarded) (o i busy : ℕ) (u : State Guarded) → r ≡ begun_at o i e
    → EndsLike (Covers code from to) e g → ByOutcome guarded busy u g.state g.outcome → g.outcome ≢ Prefix → ItemFollows code from to r g
ends_item r e g o i busy u made (meets_code is) tells other = it_stops WhyCode is
ends_item r e g o i busy u made (same m like is) tells other = elim (kept_by guarded o i busy m u g g.outcome refl tells other) [
  | inl stop ↦ it_stops stop.0 stop.1
  | inr kept ↦ goes m like kept.0 (made ∙ (ap (begun_at o i) is ∙ kept.1))
]

module _ (code : List ℕ) (from to : ℕ) (items : ℕ → Option (Fun × ℤ)) (are : AreItems code from to items) (high : to ≤ 2 ^ 32)
    (busy : ℕ) (slice : Bool) (clock : ℕ) where
  -- the item stands in the memory over bytes
  item_of : (u : State Guarded) (m : List ℕ) (f : Fun) (e : ℤ) → Covers code from to m u.memory → items u.iptr ≡ Some (f, e) → StandsAt
      plain_access m u.iptr (coding f e)
  item_of u m f e c is = let item = are u.iptr f e is in stands-covers code from to m u.memory u.iptr (coding f e) c high item.low
      item.high item.bytes

  word_of_item : (a : ℕ) (f : Fun) (e : ℤ) → IsItem code from to f e a → 1 ≤ length (coding f e) → a < 2 ^ 32
  word_of_item a f e item some = omega (arith, item.high)

  -- a prefix byte leaves the two processors as they stand to one another
  pub prefix-same : (s : State (List ℕ)) (u : State Guarded) → SameRunning code from to items s u → is_prefix_byte
      (fetch s.memory s.iptr) ≡ true → ((step plain_access busy slice clock s).outcome ≡ Prefix) × SameRunning code from to items
      (step plain_access busy slice clock s).state u
  prefix-same s u beside prefix = by_item (items u.iptr) refl beside.stands
    where
      by_item : (item : Option (Fun × ℤ)) → items u.iptr ≡ item → StandsAs item s beside.memory u →
          ((step plain_access busy slice clock s).outcome ≡ Prefix) × SameRunning code from to items
          (step plain_access busy slice clock s).state u
      by_item None is h =
          let read = prefix_byte s busy slice clock (fetch s.memory s.iptr) refl prefix in
          rw read.1 (
            refl,
            record {
              memory = beside.memory;
              covers = beside.covers;
              clear = beside.clear;
              stands = rw is
                  (_, _, ap (λ (t : State (List ℕ)). (prefixed read.0 t).state) h.2);
            },
          )
      by_item (Some item) is h =
          let t : State (List ℕ) = over_memory beside.memory u in
          let it = are u.iptr item.0 item.1 is in
          let stands = item_of u beside.memory item.0 item.1 beside.covers is in
          let in_word = word_of_item u.iptr item.0 item.1 it (omega (arith, h.1)) in
          elim (or_last h.0 (length (coding item.0 item.1)) h.1) [
            | inl more ↦
                let made = ap (step plain_access busy slice clock) h.2 ∙ step-reading plain_access item.0 item.1 t it.fits in_word
                stands busy slice clock h.0 more in
                rw made (
                  refl,
                  record {
                    memory = beside.memory;
                    covers = beside.covers;
                    clear = beside.clear;
                    stands = rw is
                        (h.0 + 1, omega (arith, more), refl);
                  },
                )
            | inr last ↦ absurd (bool_clash _ (rw h.2 at prefix)
                (reading-last plain_access item.0 item.1 t it.fits in_word stands h.0 last it.coded))
          ]

  -- any other byte has the effect of the whole item, unless the processor over whole items stops
  pub item-same : (s : State (List ℕ)) (u : State Guarded) → SameRunning code from to items s u → is_prefix_byte (fetch s.memory s.iptr)
      ≡ false → ItemFollows code from to (step plain_access busy slice clock s) (item_step (items u.iptr) busy slice clock u)
  item-same s u beside other = by_item (items u.iptr) refl beside.stands
    where
      by_item : (item : Option (Fun × ℤ)) → items u.iptr ≡ item → StandsAs item s beside.memory u → ItemFollows code from to
          (step plain_access busy slice clock s) (item_step item busy slice clock u)
      by_item None is h = it_stops Stray refl
      by_item (Some item) is h =
          let t : State (List ℕ) = over_memory beside.memory u in
          let it = are u.iptr item.0 item.1 is in
          let stands = item_of u beside.memory item.0 item.1 beside.covers is in
          let in_word = word_of_item u.iptr item.0 item.1 it (omega (arith, h.1)) in
          elim (or_last h.0 (length (coding item.0 item.1)) h.1) [
            | inl more ↦ absurd (bool_clash _ (reading-prefix plain_access item.0 item.1 t it.fits in_word stands h.0 more)
                (rw h.2 at other))
            | inr last ↦
                let turn : Turn = record {
                  following = wrap (u.iptr + length (coding item.0 item.1));
                  busy = busy;
                  slice = slice;
                  clock
                      = clock;
                } in
                ends_item (step plain_access busy slice clock s) (effect plain_access item.0 (word_of item.1) turn t)
                (effect guarded item.0 (word_of item.1) turn u) _ _ busy u
                (ap (step plain_access busy slice clock) h.2 ∙ step-whole plain_access item.0 item.1 t it.fits in_word stands busy slice
                clock h.0 last it.coded beside.clear)
                (effect-follows plain_access guarded (Covers code from to) (covers_follows code from to) guarded_lawful beside.memory u
                beside.covers item.0 (word_of item.1) turn)
                (effect-tells guarded turn u item.0 (word_of item.1)) (effect-not_prefix guarded turn u item.0 (word_of item.1))
          ]
