-- A network under way is in the one state that its plan tells.
use Rattle.std.proofs.Common.{◌≡◌, ℕ, suc, ◌+◌, ◌*◌, ◌/◌, ◌%◌, ◌<◌, List, [], ◌∷◌, ◌++◌, length, Option, Some, None, refl, sym, ap, subst}
use Rattle.std.proofs.Common.{◌∙◌, arith}
use Rattle.std.specs.Prelude.{slice_get, slice_index_or}
use Rattle.std.proofs.lemmas.List.{append_cancel_right}
use Rattle.std.proofs.lemmas.Option.{same_Some}
use Rattle.tn_net.specs.declared.networks.Far.{Far}
use Rattle.tn_net.specs.declared.networks.Far.TheVariants.{Nothing, Host, Link}
use Rattle.tn_net.specs.Networks.{NetworkState, IsEnd}
use Rattle.tn_network.specs.Boards.{BoardState}
use Rattle.tn_network.specs.NodeOps.{NodeOps}
use Rattle.tn_network.specs.Holds.{HoldState}
use Rattle.tn_load.specs.Acts.{Act}
use Rattle.tn_load.specs.LoneRuns.{sends_of}
use Rattle.tn_load.specs.Plans.{Plan, now, acts_left}
use Rattle.tn_load.specs.Shares.{IsWireEnd, other_end, taken_by, incoming, outgoing, latch_of, bytes_in}
use Rattle.tn_load.specs.UnderWay.{IsUnderWay}
use Rattle.tn_load.proofs.Ending.{same_host, same_board}

same_list : {X : Type 0} (xs ys : List X) → length xs ≡ length ys → ((k : ℕ) → k < length xs → slice_get xs k ≡ slice_get ys k) → xs ≡ ys
same_list [] [] size each = refl
same_list [] (y ∷ ys) size each = absurd (let bad : 0 ≡ suc (length ys) = size in omega (arith, bad))
same_list (x ∷ xs) [] size each = absurd (let bad : suc (length xs) ≡ 0 = size in omega (arith, bad))
same_list (x ∷ xs) (y ∷ ys) size each =
    let more : suc (length xs) ≡ suc (length ys) = size in
    let first : x ≡ y = same_Some x y (each 0 (omega arith)) in
    let rest : xs ≡ ys = same_list xs ys (omega (arith, more)) (λ k h. each (suc k) (omega (arith, h))) in
    ap (λ z. z ∷ xs) first ∙ ap (λ zs. y ∷ zs) rest

same_latches : (xs ys : List (Option ℕ)) → length xs ≡ length ys
    → ((k : ℕ) → k < length xs → slice_index_or xs k None ≡ slice_index_or ys k None) → xs ≡ ys
same_latches [] [] size each = refl
same_latches [] (y ∷ ys) size each = absurd (let bad : 0 ≡ suc (length ys) = size in omega (arith, bad))
same_latches (x ∷ xs) [] size each = absurd (let bad : suc (length xs) ≡ 0 = size in omega (arith, bad))
same_latches (x ∷ xs) (y ∷ ys) size each =
    let more : suc (length xs) ≡ suc (length ys) = size in
    let first : x ≡ y = each 0 (omega arith) in
    let rest : xs ≡ ys = same_latches xs ys (omega (arith, more)) (λ k h. each (suc k) (omega (arith, h))) in
    ap (λ z. z ∷ xs) first ∙ ap (λ zs. y ∷ zs) rest

same_latch : (x y : Option ℕ) → bytes_in x ≡ bytes_in y → x ≡ y
same_latch None None e = refl
same_latch None (Some b) e = cc
same_latch (Some a) None e = cc
same_latch (Some a) (Some b) e = cc

-- plans that tell the same
pub record SamePlan {N : Type 0} (new plan : Plan N) : Type 0 where
  pub courses : (q : ℕ) → new.courses q ≡ plan.courses q
  pub sends : new.sends ≡ plan.sends
  pub waits : new.waits ≡ plan.waits
  pub keeps : new.keeps ≡ plan.keeps

module _ {N : Type 0} (ops : NodeOps N) (network : NetworkState) (holds : HoldState) (Q : ℕ → N → List Act → Type 0)
    (missing : Far → List ℕ) (kept : List ℕ) (plan new : Plan N) (s t : BoardState N)
    (u : IsUnderWay ops network holds Q missing kept plan s) (v : IsUnderWay ops network holds Q missing kept new t)
    (same : SamePlan new plan) where
  comes : (e : Far) → incoming new e ≡ incoming plan e
  comes Nothing = refl
  comes Host = same.keeps
  comes (Link p l) = ap (λ c. taken_by l c) (same.courses p)

  goes : (e : Far) → outgoing new e ≡ outgoing plan e
  goes Nothing = refl
  goes Host = same.sends
  goes (Link p l) = ap (λ c. sends_of l (acts_left c)) (same.courses p)

  latch : (e : Far) → IsWireEnd network e → latch_of t e ≡ latch_of s e
  latch e place =
      same_latch (latch_of t e) (latch_of s e)
      (append_cancel_right (bytes_in (latch_of t e)) (bytes_in (latch_of s e)) (outgoing plan (other_end network e) ++ missing e)
      (ap (λ bs. bytes_in (latch_of t e) ++ (bs ++ missing e)) (sym (goes (other_end network e))) ∙ sym (v.bytes e place) ∙ comes e ∙
      u.bytes e place))

  nodes : t.nodes ≡ s.nodes
  nodes =
      same_list t.nodes s.nodes (v.count ∙ sym u.count)
      (λ k h. let inside : k < length network.sizes = omega (arith, h, v.count) in
      v.nodes k inside ∙ ap (λ c. Some (now c)) (same.courses k) ∙ sym (u.nodes k inside))

  latches : t.latches ≡ s.latches
  latches =
      same_latches t.latches s.latches (v.latches ∙ sym u.latches)
      (λ j h. let place : IsEnd network (j / 4) (j % 4) = record { processor = omega (arith, h, v.latches); link = omega arith } in
      let at : 4 * (j / 4) + j % 4 ≡ j = omega arith in
      subst (λ k. slice_index_or t.latches k None ≡ slice_index_or s.latches k None) at (latch (Link (j / 4) (j % 4)) place))

  pub same-state : t ≡ s
  same-state =
      same_board t s nodes latches
      (same_host t.host s.host (v.sends ∙ same.sends ∙ sym u.sends) (v.waits ∙ same.waits ∙ sym u.waits) (latch Host tt)
      (append_cancel_right t.host.kept s.host.kept plan.keeps (ap (λ bs. t.host.kept ++ bs) (sym same.keeps) ∙ v.keeps ∙ sym u.keeps)))
