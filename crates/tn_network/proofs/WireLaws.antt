-- Every pick that is enabled keeps what holds of a board.
use Rattle.std.proofs.Common.{◌≡◌, ◌≢◌, ℕ, zero, suc, ◌+◌, ◌*◌, ◌<◌, ◌≤◌, ◌⊎◌, inl, inr, Bool, true, false, List, [], ◌∷◌, length}
use Rattle.std.proofs.Common.{Option, Some, None, refl, sym, ap, subst, ◌∙◌, arith}
use Rattle.std.specs.Prelude.{slice_get, slice_set, slice_index_or, is_some, unwrap_or, nat_lt, ◌&&◌, ◌^◌, not}
use Rattle.std.proofs.Math.ListN.{length-set}
use Rattle.std.proofs.lemmas.List.{length-append}
use Rattle.std.proofs.lemmas.Bool.{cases_eq}
use Rattle.std.proofs.lemmas.Bool.Decides.{nat_tests}
use Rattle.std.proofs.lemmas.Option.{slice_get_within}
use Rattle.tn_net.specs.declared.networks.Far.{Far}
use Rattle.tn_net.specs.declared.networks.Far.TheVariants.{Nothing, Host, Link}
use Rattle.tn_net.specs.Networks.{NetworkState, IsEnd, IsPairing, far_at}
use Rattle.tn_network.specs.declared.picks.Pick.{Pick}
use Rattle.tn_network.specs.declared.picks.Pick.TheVariants.{HostSend, HostTake, Proc, Send, Take}
use Rattle.tn_network.specs.Hosts.{HostState, next_byte, other_bytes, kept_with}
use Rattle.tn_network.specs.Boards.{BoardState, given, at_node, changed, latch_at}
use Rattle.tn_network.specs.NodeOps.{NodeOps}
use Rattle.tn_network.specs.Steps.{is_wired, offered, ready, step, latched, host_latched, nodes_acknowledged, host_acknowledged}
use Rattle.tn_network.specs.Wires.{AreLawful, IsBoard, MovesByte, sender_waits}
use Rattle.tn_network.proofs.NodeLists.{slice_get-changed_other, slice_get-changed_same, length-changed, at_node-met, at_node-given}
use Rattle.tn_network.proofs.NodeLists.{at_node-changed, at_node-changed_other, each-changed, cases_end, latch-set, latch-set_same}
use Rattle.tn_network.proofs.NodeLists.{latch-set_other}

-- ---- parts of what is enabled

pub both : (a b : Bool) → (a && b) ≡ true → (a ≡ true) × (b ≡ true)
both true b h = (refl, h)
both false b h = cc

pub has_byte : (o : Option ℕ) → is_some o ≡ true → (byte : ℕ) × (o ≡ Some byte)
has_byte None h = cc
has_byte (Some byte) h = (byte, refl)

below : (l : ℕ) → nat_lt l 4 ≡ true → l < 4
below l h = grind (arith, nat_tests)

module _ {N : Type 0} (ops : NodeOps N) (IsSound : N → Type 0) (laws : AreLawful ops IsSound) (network : NetworkState) (s : BoardState N)
    (b : IsBoard ops IsSound network s) where
  -- the sender of link m of processor q waits, among these nodes
  abbrev waits_in : List N → ℕ → ℕ → Bool
  waits_in nodes q m = at_node false (ops.awaits m) nodes q

  root_link : network.root_link < 4
  root_link = b.pairing.root.link

  within : (p l : ℕ) → IsEnd network p l → 4 * p + l < length s.latches
  within p l end = let few = end.processor in let low = end.link in omega (arith, b.latches, b.nodes)

  place_of : (p : ℕ) (n : N) → slice_get s.nodes p ≡ Some n → p < length network.sizes
  place_of p n at = omega (arith, slice_get_within s.nodes p n at, b.nodes)

  -- a latch that is set to a byte, or emptied, leaves bytes in all
  bytes-set : (i : ℕ) (x : Option ℕ) → ((byte : ℕ) → x ≡ Some byte → byte < 2 ^ 8)
      → (j byte : ℕ) → slice_index_or (slice_set s.latches i x) j None ≡ Some byte → byte < 2 ^ 8
  bytes-set i x one j byte full = elim (latch-set s.latches i j x) [
    | inl new ↦ one byte (sym new ∙ full)
    | inr old ↦ b.bytes j byte (sym old ∙ full)
  ]

  -- ---- a byte that goes out leaves each byte that waits

  sent-waits : (p l byte q m : ℕ) → offered ops s.nodes p l ≡ Some byte → waits_in s.nodes q m ≡ true
      → waits_in (changed (ops.send l) s.nodes p) q m ≡ true
  sent-waits p l byte q m out waits = elim (cases_end p l q m) [
    | inl same ↦
        let n = at_node-given (ops.offers l) s.nodes p byte out in
        rw (same.0, same.1, slice_get-changed_same (ops.send l) s.nodes p n.0 n.1) (laws.send_awaits l byte n.0 n.2)
    | inr apart ↦ elim (cases_eq m l) [
      | inl e ↦ at_node-changed_other false (ops.awaits m) (ops.send l) s.nodes p q (λ at. apart (at, e)) ∙ waits
      | inr other ↦ at_node-changed false (ops.awaits m) (ops.send l) s.nodes p q (λ n at. laws.send_others l m n other) ∙ waits
    ]
  ]

  -- an acknowledge leaves each but its own
  acknowledged-waits : (nodes : List N) (p l q m : ℕ) → ((q ≡ p) × (m ≡ l) → ⊥)
      → waits_in (changed (ops.acknowledge l) nodes p) q m ≡ waits_in nodes q m
  acknowledged-waits nodes p l q m apart = elim (cases_eq m l) [
    | inl e ↦ at_node-changed_other false (ops.awaits m) (ops.acknowledge l) nodes p q (λ at. apart (at, e))
    | inr other ↦ at_node-changed false (ops.awaits m) (ops.acknowledge l) nodes p q (λ n at. laws.acknowledge_others l m n other)
  ]

  -- ---- the host sends

  host_send : ready ops network s HostSend ≡ true → MovesByte ops s HostSend
      → IsBoard ops IsSound network (step ops network HostSend s)
  host_send r moves = record {
    pairing = b.pairing;
    nodes = b.nodes;
    latches = length-set s.latches (4 * network.root + network.root_link) (next_byte s.host.left) ∙ b.latches;
    kept = b.kept;
    bytes = bytes-set (4 * network.root + network.root_link) (next_byte s.host.left) moves;
    sound = b.sound;
    waits = λ p l byte end full. elim (cases_end network.root network.root_link p l) [
      | inl same ↦
          let at : far_at network p l ≡ Host = rw (same.0, same.1) b.pairing.hosted in
          rw at refl
      | inr apart ↦
          let old : latch_at s.latches p l ≡ Some byte =
          sym (latch-set_other s.latches network.root network.root_link p l (next_byte s.host.left) root_link end.link apart) ∙ full in
          go (far_at network p l) (b.waits p l byte end old)
    ];
    host_waits = b.host_waits;
  }
    where
      go : (far : Far) → sender_waits ops s far ≡ true → sender_waits ops (step ops network HostSend s) far ≡ true
      go Nothing h = cc
      go Host h = refl
      go (Link q m) h = h

  -- ---- the host takes

  host_take : ready ops network s HostTake ≡ true → IsBoard ops IsSound network (step ops network HostTake s)
  host_take r = record {
    pairing = b.pairing;
    nodes = length-changed (ops.acknowledge network.root_link) s.nodes network.root ∙ b.nodes;
    latches = b.latches ∙ ap (λ n. 4 * n) (sym (length-changed (ops.acknowledge network.root_link) s.nodes network.root));
    kept = room s.host.latch (both (is_some s.host.latch) (nat_lt (length s.host.kept) 65536) r).1;
    bytes = b.bytes;
    sound = each-changed IsSound (ops.acknowledge network.root_link) s.nodes network.root (λ n at sound.
        laws.acknowledge_sound network.root_link n root_link (awaits n at) sound) b.sound;
    waits = λ p l byte end full. go p l end (far_at network p l) refl (b.waits p l byte end full);
    host_waits = λ byte full. let none : None ≡ Some byte = full in cc;
  }
    where
      byte : (byte : ℕ) × (s.host.latch ≡ Some byte)
      byte = has_byte s.host.latch (both (is_some s.host.latch) (nat_lt (length s.host.kept) 65536) r).0

      awaits : (n : N) → slice_get s.nodes network.root ≡ Some n → ops.awaits network.root_link n ≡ true
      awaits n at = ap (λ o. given false (ops.awaits network.root_link) o) (sym at) ∙ b.host_waits byte.0 byte.1

      room : (o : Option ℕ) → nat_lt (length s.host.kept) 65536 ≡ true → length (kept_with o s.host.kept) ≤ 65536
      room None h = b.kept
      room (Some x) h = let few : length s.host.kept < 65536 = grind (arith, nat_tests) in simp length-append (omega arith)

      go : (p l : ℕ) → IsEnd network p l → (far : Far) → far_at network p l ≡ far → sender_waits ops s far ≡ true
          → sender_waits ops (step ops network HostTake s) far ≡ true
      go p l end Nothing is h = cc
      go p l end Host is h = h
      go p l end (Link q m) is h =
          acknowledged-waits s.nodes network.root network.root_link q m (λ same.
          let back : far_at network q m ≡ Link p l = b.pairing.ways p l q m end is in
          let host : far_at network q m ≡ Host = rw (same.0, same.1) b.pairing.hosted in
          cc) ∙ h

  -- ---- a processor steps

  proc : (p clock : ℕ) (slice : Bool) → ready ops network s (Proc p slice clock) ≡ true
      → IsBoard ops IsSound network (step ops network (Proc p slice clock) s)
  proc p clock slice r = record {
    pairing = b.pairing;
    nodes = length-changed (ops.run p slice clock) s.nodes p ∙ b.nodes;
    latches = b.latches ∙ ap (λ n. 4 * n) (sym (length-changed (ops.run p slice clock) s.nodes p));
    kept = b.kept;
    bytes = b.bytes;
    sound = each-changed IsSound (ops.run p slice clock) s.nodes p (λ n at sound. laws.run_sound p clock slice n (runs n at) sound) b.sound;
    waits = λ q l byte end full. go (far_at network q l) (b.waits q l byte end full);
    host_waits = λ byte full. same network.root network.root_link ∙ b.host_waits byte full;
  }
    where
      runs : (n : N) → slice_get s.nodes p ≡ Some n → ops.runs n ≡ true
      runs n at = ap (λ o. given false ops.runs o) (sym at) ∙ (both (nat_lt clock (2 ^ 32)) (at_node false ops.runs s.nodes p) r).1

      same : (q m : ℕ) → waits_in (changed (ops.run p slice clock) s.nodes p) q m ≡ waits_in s.nodes q m
      same q m =
          at_node-changed false (ops.awaits m) (ops.run p slice clock) s.nodes p q (λ n at.
          laws.run_awaits p clock m slice n (runs n at) (b.sound p n at))

      go : (far : Far) → sender_waits ops s far ≡ true → sender_waits ops (step ops network (Proc p slice clock) s) far ≡ true
      go Nothing h = cc
      go Host h = h
      go (Link q m) h = same q m ∙ h

  -- ---- a processor sends

  abbrev sent_board : ℕ → ℕ → Far → BoardState N
  sent_board p l far =
      record {
        nodes = changed (ops.send l) s.nodes p;
        latches = latched far (offered ops s.nodes p l) s.latches;
        host = host_latched far (offered ops s.nodes p l) s.host;
      }

  send : (p l : ℕ) → ready ops network s (Send p l) ≡ true → MovesByte ops s (Send p l)
      → IsBoard ops IsSound network (step ops network (Send p l) s)
  send p l r moves = go (far_at network p l) refl
    where
      low : l < 4
      low = below l (both (nat_lt l 4) (is_some (offered ops s.nodes p l) && is_wired (far_at network p l)) r).0

      wired : is_wired (far_at network p l) ≡ true
      wired =
          (both (is_some (offered ops s.nodes p l)) (is_wired (far_at network p l))
          (both (nat_lt l 4) (is_some (offered ops s.nodes p l) && is_wired (far_at network p l)) r).1).1

      out : (byte : ℕ) × (offered ops s.nodes p l ≡ Some byte)
      out =
          has_byte (offered ops s.nodes p l)
          (both (is_some (offered ops s.nodes p l)) (is_wired (far_at network p l))
          (both (nat_lt l 4) (is_some (offered ops s.nodes p l) && is_wired (far_at network p l)) r).1).0

      node : (n : N) × (slice_get s.nodes p ≡ Some n) × (ops.offers l n ≡ Some out.0)
      node = at_node-given (ops.offers l) s.nodes p out.0 out.1

      end : IsEnd network p l
      end = record { processor = place_of p node.0 node.1; link = low }

      now_waits : waits_in (changed (ops.send l) s.nodes p) p l ≡ true
      now_waits = rw (slice_get-changed_same (ops.send l) s.nodes p node.0 node.1) (laws.send_awaits l out.0 node.0 node.2)

      stay : (q m : ℕ) → waits_in s.nodes q m ≡ true → waits_in (changed (ops.send l) s.nodes p) q m ≡ true
      stay q m h = sent-waits p l out.0 q m out.1 h

      others : (h : HostState) (latches : List (Option ℕ)) (far : Far) → h.sent ≡ s.host.sent → sender_waits ops s far ≡ true
          → sender_waits ops (record { nodes = changed (ops.send l) s.nodes p; latches = latches; host = h }) far ≡ true
      others h latches Nothing same w = cc
      others h latches Host same w = same ∙ w
      others h latches (Link q m) same w = stay q m w

      sound : (q : ℕ) (n : N) → slice_get (changed (ops.send l) s.nodes p) q ≡ Some n → IsSound n
      sound =
          each-changed IsSound (ops.send l) s.nodes p (λ n at sound.
          laws.send_sound l out.0 n low (ap (λ o. given None (ops.offers l) o) (sym at) ∙ out.1) sound) b.sound

      go : (far : Far) → far_at network p l ≡ far → IsBoard ops IsSound network (sent_board p l far)
      go Nothing is = let no_wire : is_wired Nothing ≡ true = rw is at wired in cc
      go Host is = record {
        pairing = b.pairing;
        nodes = length-changed (ops.send l) s.nodes p ∙ b.nodes;
        latches = b.latches ∙ ap (λ n. 4 * n) (sym (length-changed (ops.send l) s.nodes p));
        kept = b.kept;
        bytes = b.bytes;
        sound = sound;
        waits = λ q m byte e full. others (host_latched Host (offered ops s.nodes p l) s.host) s.latches (far_at network q m) refl
            (b.waits q m byte e full);
        host_waits = λ byte full. let at = b.pairing.once p l end is in rw (sym at.0, sym at.1) now_waits;
      }
      go (Link q m) is = record {
        pairing = b.pairing;
        nodes = length-changed (ops.send l) s.nodes p ∙ b.nodes;
        latches =
            length-set s.latches (4 * q + m) (offered ops s.nodes p l)
            ∙ b.latches ∙ ap (λ n. 4 * n) (sym (length-changed (ops.send l) s.nodes p));
        kept = b.kept;
        bytes = bytes-set (4 * q + m) (offered ops s.nodes p l) moves;
        sound = sound;
        waits = λ t k byte e full. elim (cases_end q m t k) [
          | inl same ↦
              let back : far_at network q m ≡ Link p l = b.pairing.ways p l q m end is in
              let at : far_at network t k ≡ Link p l = rw (same.0, same.1) back in
              rw at now_waits
          | inr apart ↦
              let far_end = b.pairing.ends p l q m end is in
              let old : latch_at s.latches t k ≡ Some byte =
              sym (latch-set_other s.latches q m t k (offered ops s.nodes p l) far_end.link e.link apart) ∙ full in
              others s.host (slice_set s.latches (4 * q + m) (offered ops s.nodes p l)) (far_at network t k) refl (b.waits t k byte e old)
        ];
        host_waits = λ byte full. stay network.root network.root_link (b.host_waits byte full);
      }

  -- ---- a processor takes

  abbrev taken_byte : ℕ → ℕ → ℕ
  taken_byte p l = unwrap_or (latch_at s.latches p l) 0

  abbrev taken_nodes : ℕ → ℕ → List N
  taken_nodes p l = changed (ops.take l (taken_byte p l)) s.nodes p

  abbrev taken_board : ℕ → ℕ → Far → BoardState N
  taken_board p l far =
      record {
        nodes = nodes_acknowledged ops far (taken_nodes p l);
        latches = slice_set s.latches (4 * p + l) None;
        host = host_acknowledged far s.host;
      }

  take : (p l : ℕ) → ready ops network s (Take p l) ≡ true → IsBoard ops IsSound network (step ops network (Take p l) s)
  take p l r = go (far_at network p l) refl
    where
      parts : (nat_lt l 4 ≡ true) × ((at_node false (ops.wants l) s.nodes p && is_some (latch_at s.latches p l)) ≡ true)
      parts = both (nat_lt l 4) (at_node false (ops.wants l) s.nodes p && is_some (latch_at s.latches p l)) r

      low : l < 4
      low = below l parts.0

      wanted : at_node false (ops.wants l) s.nodes p ≡ true
      wanted = (both (at_node false (ops.wants l) s.nodes p) (is_some (latch_at s.latches p l)) parts.1).0

      node : (n : N) × (slice_get s.nodes p ≡ Some n) × (ops.wants l n ≡ true)
      node = at_node-met (ops.wants l) s.nodes p wanted

      held : (byte : ℕ) × (latch_at s.latches p l ≡ Some byte)
      held = has_byte (latch_at s.latches p l) (both (at_node false (ops.wants l) s.nodes p) (is_some (latch_at s.latches p l)) parts.1).1

      end : IsEnd network p l
      end = record { processor = place_of p node.0 node.1; link = low }

      small : taken_byte p l < 2 ^ 8
      small = subst (λ (x : ℕ). x < 2 ^ 8) (ap (λ o. unwrap_or o 0) (sym held.1)) (b.bytes (4 * p + l) held.0 held.1)

      same : (q m : ℕ) → waits_in (taken_nodes p l) q m ≡ waits_in s.nodes q m
      same q m =
          at_node-changed false (ops.awaits m) (ops.take l (taken_byte p l)) s.nodes p q (λ n at.
          laws.take_awaits l (taken_byte p l) m n (b.sound p n at))

      sound : (q : ℕ) (n : N) → slice_get (taken_nodes p l) q ≡ Some n → IsSound n
      sound =
          each-changed IsSound (ops.take l (taken_byte p l)) s.nodes p (λ n at sound.
          laws.take_sound l (taken_byte p l) n low small (ap (λ o. given false (ops.wants l) o) (sym at) ∙ wanted) sound) b.sound

      emptied : (j x : ℕ) → slice_index_or (slice_set s.latches (4 * p + l) None) j None ≡ Some x → x < 2 ^ 8
      emptied = bytes-set (4 * p + l) None (λ x full. absurd (let none : None ≡ Some x = full in cc))

      sizes : (nodes : List N) → length nodes ≡ length (taken_nodes p l) → length nodes ≡ length s.nodes
      sizes nodes e = e ∙ length-changed (ops.take l (taken_byte p l)) s.nodes p

      -- what is still in a latch was there before, and at another link
      before : (q m x : ℕ) → IsEnd network q m → latch_at (slice_set s.latches (4 * p + l) None) q m ≡ Some x
          → ((q ≡ p) × (m ≡ l) → ⊥) × (latch_at s.latches q m ≡ Some x)
      before q m x e full = elim (cases_end p l q m) [
        | inl at ↦ absurd
            (let empty : latch_at (slice_set s.latches (4 * p + l) None) q m ≡ None =
            rw (at.0, at.1) (latch-set_same s.latches p l None (within p l end)) in
            let none : Some x ≡ None = sym full ∙ empty in
            cc)
        | inr apart ↦ (apart, sym (latch-set_other s.latches p l q m None low e.link apart) ∙ full)
      ]

      go : (far : Far) → far_at network p l ≡ far → IsBoard ops IsSound network (taken_board p l far)
      go Nothing is = let no_sender : sender_waits ops s Nothing ≡ true = rw is at (b.waits p l held.0 end held.1) in cc
      go Host is = record {
        pairing = b.pairing;
        nodes = sizes (taken_nodes p l) refl ∙ b.nodes;
        latches = length-set s.latches (4 * p + l) None ∙ b.latches ∙ ap (λ n. 4 * n) (sym (sizes (taken_nodes p l) refl));
        kept = b.kept;
        bytes = emptied;
        sound = sound;
        waits = λ q m x e full.
            let old = before q m x e full in
            still q m e old.0 (far_at network q m) refl (b.waits q m x e old.1);
        host_waits = λ x full. same network.root network.root_link ∙ b.host_waits x full;
      }
        where
          still : (q m : ℕ) → IsEnd network q m → ((q ≡ p) × (m ≡ l) → ⊥) → (far : Far) → far_at network q m ≡ far
              → sender_waits ops s far ≡ true → sender_waits ops (taken_board p l Host) far ≡ true
          still q m e apart Nothing at w = cc
          still q m e apart Host at w =
              let one = b.pairing.once p l end is in
              let two = b.pairing.once q m e at in
              absurd (apart (two.0 ∙ sym one.0, two.1 ∙ sym one.1))
          still q m e apart (Link t k) at w = same t k ∙ w
      go (Link t k) is = record {
        pairing = b.pairing;
        nodes = sizes (taken_board p l (Link t k)).nodes (length-changed (ops.acknowledge k) (taken_nodes p l) t) ∙ b.nodes;
        latches =
            length-set s.latches (4 * p + l) None ∙ b.latches
            ∙ ap (λ n. 4 * n) (sym (sizes (taken_board p l (Link t k)).nodes (length-changed (ops.acknowledge k) (taken_nodes p l) t)));
        kept = b.kept;
        bytes = emptied;
        sound = each-changed IsSound (ops.acknowledge k) (taken_nodes p l) t (λ n at sound.
            laws.acknowledge_sound k n far_end.link (ap (λ o. given false (ops.awaits k) o) (sym at) ∙ same t k ∙ waiting) sound) sound;
        waits = λ q m x e full.
            let old = before q m x e full in
            still q m e old.0 (far_at network q m) refl (b.waits q m x e old.1);
        host_waits = λ x full.
            acknowledged-waits (taken_nodes p l) t k network.root network.root_link (λ at.
            let host : far_at network t k ≡ Host = rw (sym at.0, sym at.1) b.pairing.hosted in
            let one_end : Host ≡ Link p l = sym host ∙ back in
            cc) ∙ same network.root network.root_link ∙ b.host_waits x full;
      }
        where
          far_end : IsEnd network t k
          far_end = b.pairing.ends p l t k end is

          back : far_at network t k ≡ Link p l
          back = b.pairing.ways p l t k end is

          waiting : waits_in s.nodes t k ≡ true
          waiting = rw is at (b.waits p l held.0 end held.1)

          still : (q m : ℕ) → IsEnd network q m → ((q ≡ p) × (m ≡ l) → ⊥) → (far : Far) → far_at network q m ≡ far
              → sender_waits ops s far ≡ true → sender_waits ops (taken_board p l (Link t k)) far ≡ true
          still q m e apart Nothing at w = cc
          still q m e apart Host at w = w
          still q m e apart (Link u j) at w =
              acknowledged-waits (taken_nodes p l) t k u j (λ one.
              let here : far_at network u j ≡ Link q m = b.pairing.ways q m u j e at in
              let there : far_at network u j ≡ Link p l = rw (one.0, one.1) back in
              let same_end : Link q m ≡ Link p l = sym here ∙ there in
              apart (cc, cc)) ∙ same u j ∙ w

  -- ---- all picks

  pub step-board : (pick : Pick) → ready ops network s pick ≡ true → MovesByte ops s pick
      → IsBoard ops IsSound network (step ops network pick s)
  step-board HostSend r moves = host_send r moves
  step-board HostTake r moves = host_take r
  step-board (Proc p slice clock) r moves = proc p clock slice r
  step-board (Send p l) r moves = send p l r moves
  step-board (Take p l) r moves = take p l r
