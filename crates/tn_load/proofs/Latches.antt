-- What a byte that goes out, or is taken, does to what a plan says of the wires.
use Rattle.std.proofs.Common.{◌≡◌, ◌≢◌, ℕ, ◌⊎◌, inl, inr, true, false, List, ◌∷◌, ◌++◌, Option, Some, None, refl, sym, ap, subst, ◌∙◌}
use Rattle.std.specs.Prelude.{is_some}
use Rattle.std.proofs.lemmas.Bool.{cases_eq}
use Rattle.tn_net.specs.declared.networks.Far.{Far}
use Rattle.tn_net.specs.declared.networks.Far.TheVariants.{Nothing, Host, Link}
use Rattle.tn_net.specs.Networks.{NetworkState, IsPairing, far_at}
use Rattle.tn_network.specs.Boards.{BoardState}
use Rattle.tn_load.specs.Plans.{Plan}
use Rattle.tn_load.specs.Shares.{IsWireEnd, other_end, incoming, outgoing, waiting, latch_of, bytes_in}

-- two ends are the same or not
pub cases_far : (e d : Far) → (e ≡ d) ⊎ (e ≢ d)
cases_far Nothing Nothing = inl refl
cases_far Nothing Host = inr (λ x. cc)
cases_far Nothing (Link p l) = inr (λ x. cc)
cases_far Host Nothing = inr (λ x. cc)
cases_far Host Host = inl refl
cases_far Host (Link p l) = inr (λ x. cc)
cases_far (Link p l) Nothing = inr (λ x. cc)
cases_far (Link p l) Host = inr (λ x. cc)
cases_far (Link p l) (Link q m) = elim (cases_eq p q) [
  | inl e ↦ elim (cases_eq l m) [ inl f ↦ inl cc | inr g ↦ inr (λ x. g cc) ]
  | inr g ↦ inr (λ x. g cc)
]

pub empty-latch : (o : Option ℕ) → is_some o ≡ false → o ≡ None
empty-latch None is = refl
empty-latch (Some byte) is = cc

pub full-latch : (o : Option ℕ) → is_some o ≡ true → (byte : ℕ) × (o ≡ Some byte)
full-latch None is = cc
full-latch (Some byte) is = (byte, refl)

-- the other end of a wire has it as its other end
pub other_end-twice : (network : NetworkState) → IsPairing network → (e : Far) → IsWireEnd network e → other_end network e ≢ Nothing
    → IsWireEnd network (other_end network e) × (other_end network (other_end network e) ≡ e)
other_end-twice network pairing Nothing place wired = absurd (wired refl)
other_end-twice network pairing Host place wired = (pairing.root, pairing.hosted)
other_end-twice network pairing (Link p l) place wired = go (far_at network p l) refl
  where
    go : (far : Far) → far_at network p l ≡ far
        → IsWireEnd network (far_at network p l) × (other_end network (far_at network p l) ≡ Link p l)
    go Nothing is = absurd (wired is)
    go Host is =
        let root = pairing.once p l place is in (
          subst (IsWireEnd network) (sym is) tt,
          ap (other_end network) is ∙ ap (λ x. Link x network.root_link) (sym root.0) ∙ ap (Link p)
              (sym root.1),
        )
    go (Link q m) is =
        (subst (IsWireEnd network) (sym is) (pairing.ends p l q m place is), ap (other_end network) is ∙ pairing.ways p l q m place is)

-- what holds at an end
pub record Fits {N : Type 0} (network : NetworkState) (missing : Far → List ℕ) (plan : Plan N) (s : BoardState N) (e : Far) : Type 0 where
  pub bytes : incoming plan e ≡ bytes_in (latch_of s e) ++ (outgoing plan (other_end network e) ++ missing e)
  pub full : is_some (latch_of s e) ≡ waiting plan (other_end network e)

module _ {N : Type 0} (network : NetworkState) (pairing : IsPairing network) (missing : Far → List ℕ) (plan new : Plan N)
    (s t : BoardState N) (fits : (e : Far) → IsWireEnd network e → Fits network missing plan s e) where
  -- nothing happens at an end
  pub fits-same : (e : Far) → IsWireEnd network e → incoming new e ≡ incoming plan e
      → outgoing new (other_end network e) ≡ outgoing plan (other_end network e)
      → waiting new (other_end network e) ≡ waiting plan (other_end network e)
      → latch_of t e ≡ latch_of s e → Fits network missing new t e
  fits-same e place comes goes waits latch = record {
    bytes = rw (comes, goes, latch) (fits e place).bytes;
    full = rw (waits, latch) (fits e place).full;
  }

  -- a byte goes out from an end
  pub record Sent (from : Far) (byte : ℕ) : Type 0 where
    pub place : IsWireEnd network from
    pub wired : other_end network from ≢ Nothing
    pub comes : (e : Far) → incoming new e ≡ incoming plan e
    pub goes : outgoing plan from ≡ byte ∷ outgoing new from
    pub goes_else : (e : Far) → e ≢ from → outgoing new e ≡ outgoing plan e
    pub free : waiting plan from ≡ false
    pub waits : waiting new from ≡ true
    pub waits_else : (e : Far) → e ≢ from → waiting new e ≡ waiting plan e
    pub latch : latch_of t (other_end network from) ≡ Some byte
    pub latch_else : (e : Far) → IsWireEnd network e → e ≢ other_end network from → latch_of t e ≡ latch_of s e

  pub fits-sent : (from : Far) (byte : ℕ) → Sent from byte → (e : Far) → IsWireEnd network e → Fits network missing new t e
  fits-sent from byte h e place = elim (cases_far e (other_end network from)) [
    | inl is ↦
        let from_it : other_end network e ≡ from = ap (other_end network) is ∙ (other_end-twice network pairing from h.place h.wired).1 in
        let empty : latch_of s e ≡ None = empty-latch (latch_of s e) ((fits e place).full ∙ ap (waiting plan) from_it ∙ h.free) in
        let latch : latch_of t e ≡ Some byte = ap (latch_of t) is ∙ h.latch in
        let old : incoming plan e ≡ outgoing plan from ++ missing e =
        (fits e place).bytes ∙ ap (λ o. bytes_in o ++ (outgoing plan (other_end network e) ++ missing e)) empty
        ∙ ap (λ d. outgoing plan d ++ missing e) from_it in
        record {
          bytes = h.comes e ∙ old ∙ ap (λ bs. bs ++ missing e) h.goes ∙ sym (rw (latch, from_it) refl);
          full = ap is_some latch ∙ sym h.waits ∙ ap (waiting new) (sym from_it);
        }
    | inr apart ↦
        let others : other_end network e ≢ from = λ is.
        let some : other_end network e ≢ Nothing = λ none. h.wired (ap (other_end network) (sym is ∙ none)) in
        apart (sym (other_end-twice network pairing e place some).1 ∙ ap (other_end network) is) in
        fits-same e place (h.comes e) (h.goes_else (other_end network e) others) (h.waits_else (other_end network e) others)
        (h.latch_else e place apart)
  ]

  -- a byte is taken at an end
  pub record Taken (here : Far) (byte : ℕ) : Type 0 where
    pub place : IsWireEnd network here
    pub comes : incoming plan here ≡ byte ∷ incoming new here
    pub comes_else : (e : Far) → e ≢ here → incoming new e ≡ incoming plan e
    pub goes : (e : Far) → outgoing new e ≡ outgoing plan e
    pub waits : waiting new (other_end network here) ≡ false
    pub waits_else : (e : Far) → e ≢ other_end network here → waiting new e ≡ waiting plan e
    pub held : latch_of s here ≡ Some byte
    pub latch : latch_of t here ≡ None
    pub latch_else : (e : Far) → IsWireEnd network e → e ≢ here → latch_of t e ≡ latch_of s e

  pub fits-taken : (here : Far) (byte : ℕ) → Taken here byte → (e : Far) → IsWireEnd network e → Fits network missing new t e
  fits-taken here byte h e place = elim (cases_far e here) [
    | inl is ↦
        let latch : latch_of t e ≡ None = ap (latch_of t) is ∙ h.latch in
        let old : byte ∷ incoming new here ≡ byte ∷ (outgoing plan (other_end network here) ++ missing here) =
        sym h.comes ∙ (fits here h.place).bytes ∙ ap (λ o. bytes_in o ++ (outgoing plan (other_end network here) ++ missing here)) h.held in
        let rest : incoming new here ≡ outgoing plan (other_end network here) ++ missing here = cc in
        record {
          bytes = subst (λ d. incoming new d ≡ bytes_in (latch_of t d) ++ (outgoing new (other_end network d) ++ missing d)) (sym is)
              (rest ∙ ap (λ bs. bs ++ missing here) (sym (h.goes (other_end network here))) ∙ sym (rw h.latch refl));
          full = ap is_some latch ∙ sym h.waits ∙ ap (λ d. waiting new (other_end network d)) (sym is);
        }
    | inr apart ↦
        let others : other_end network e ≢ other_end network here = λ is.
        let waits : waiting plan (other_end network here) ≡ true = sym (fits here h.place).full ∙ ap is_some h.held in
        let some : other_end network here ≢ Nothing = λ none. let never : waiting plan Nothing ≡ true = ap (waiting plan) (sym none) ∙
        waits in cc in
        apart (sym (other_end-twice network pairing e place (λ none. some (sym is ∙ none))).1 ∙ ap (other_end network) is
        ∙ (other_end-twice network pairing here h.place some).1) in
        fits-same e place (h.comes_else e apart) (h.goes (other_end network e)) (h.waits_else (other_end network e) others)
        (h.latch_else e place apart)
  ]
