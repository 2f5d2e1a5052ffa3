-- A network whose nodes follow those of another follows it.
use Rattle.std.proofs.Common.{
  ◌≡◌,
  ◌≢◌,
  ◌⊎◌,
  inl,
  inr,
  ℕ,
  zero,
  suc,
  Bool,
  true,
  false,
  List,
  [],
  ◌∷◌,
  length,
  Option,
  Some,
  None,
  refl,
  sym,
  ap,
  subst,
  ◌∙◌,
}
use Rattle.std.specs.Prelude.{◌&&◌, ◌^◌, nat_lt, is_some, unwrap_or, slice_get}
use Rattle.std.proofs.lemmas.Bool.{cases_eq}
use Rattle.std.proofs.lemmas.Option.{same_Some}
use Rattle.tn_net.specs.declared.networks.Far.{Far}
use Rattle.tn_net.specs.declared.networks.Far.TheVariants.{Nothing, Host, Link}
use Rattle.tn_net.specs.Networks.{NetworkState, far_at}
use Rattle.tn_network.specs.declared.picks.Pick.{Pick}
use Rattle.tn_network.specs.declared.picks.Pick.TheVariants.{HostSend, HostTake, Proc, Send, Take}
use Rattle.tn_network.specs.Hosts.{HostState}
use Rattle.tn_network.specs.Boards.{BoardState, board_of, given, at_node, changed, latch_at}
use Rattle.tn_network.specs.NodeOps.{NodeOps}
use Rattle.tn_network.specs.Steps.{is_wired, offered, ready, step, made_by_pick, latched, host_latched, nodes_acknowledged}
use Rattle.tn_network.proofs.NodeLists.{slice_get-changed_same, slice_get-changed_other, slice_get-changed_was, length-changed}
use Rattle.tn_network.proofs.WireLaws.{both, has_byte}
use Rattle.tn_sym.specs.Inner.NetsBeside.{is_prefix, AreBeside, IsBeside, NodesFollow, IsAt, IsThere, IsOneOver}

-- ---- lists of nodes beside each other

-- a place has a node of each kind or of neither
data Got {N K : Type 0} (nodes : List N) (others : List K) (p : ℕ) : Type 0 where
  neither : slice_get nodes p ≡ None → slice_get others p ≡ None → Got nodes others p
  of_both : (x : N) (y : K) → slice_get nodes p ≡ Some x → slice_get others p ≡ Some y → Got nodes others p

got : {N K : Type 0} (nodes : List N) (others : List K) (p : ℕ) → length nodes ≡ length others → Got nodes others p
got [] [] p e = neither refl refl
got [] (y ∷ others) p e = cc
got (x ∷ nodes) [] p e = cc
got (x ∷ nodes) (y ∷ others) zero e = of_both x y refl refl
got (x ∷ nodes) (y ∷ others) (suc p) e = behind (got nodes others p (let same : length nodes ≡ length others = cc in same))
  where
    behind : Got nodes others p → Got (x ∷ nodes) (y ∷ others) (suc p)
    behind (neither h g) = neither h g
    behind (of_both a b h g) = of_both a b h g

module _ {N K : Type 0} (R : ℕ → N → K → Type 0) (nodes : List N) (others : List K) (b : AreBeside R nodes others) where
  -- what functions give of nodes beside each other
  pub at_node-same : {Y : Type 0} (other : Y) (f : N → Y) (g : K → Y) (p : ℕ) → ((x : N) (y : K) → R p x y → f x ≡ g y)
      → at_node other f nodes p ≡ at_node other g others p
  at_node-same {Y = Y} other f g p same = go (got nodes others p b.count)
    where
      go : Got nodes others p → given other f (slice_get nodes p) ≡ given other g (slice_get others p)
      go (neither h k) = ap (given other f) h ∙ sym (ap (given other g) k)
      go (of_both x y h k) = ap (given other f) h ∙ (same x y (b.each p x y h k) ∙ sym (ap (given other g) k))

  -- one place changes
  beside-set : (new : List N) (news : List K) (p : ℕ) → length new ≡ length nodes → length news ≡ length others
      → ((q : ℕ) → q ≢ p → slice_get new q ≡ slice_get nodes q) → ((q : ℕ) → q ≢ p → slice_get news q ≡ slice_get others q)
      → ((x : N) (y : K) → slice_get new p ≡ Some x → slice_get news p ≡ Some y → R p x y) → AreBeside R new news
  beside-set new news p long longs same sames here = record {
    count = long ∙ (b.count ∙ sym longs);
    each = λ q x y at there. elim (cases_eq q p) [
      | inl e ↦ subst (λ (r : ℕ). R r x y) (sym e) (here x y (ap (slice_get new) (sym e) ∙ at) (ap (slice_get news) (sym e) ∙ there))
      | inr apart ↦ b.each q x y (sym (same q apart) ∙ at) (sym (sames q apart) ∙ there)
    ];
  }

  pub beside-changed : (IsOver : K → Type 0) (f : N → N) (g : K → K) (p : ℕ)
      → ((x : N) (y : K) → slice_get nodes p ≡ Some x → R p x y → IsOver (g y) ⊎ R p (f x) (g y))
      → IsAt IsOver (changed g others p) p ⊎ AreBeside R (changed f nodes p) (changed g others p)
  beside-changed IsOver f g p h = go (got nodes others p b.count)
    where
      set : ((x : N) (y : K) → slice_get (changed f nodes p) p ≡ Some x → slice_get (changed g others p) p ≡ Some y → R p x y)
          → AreBeside R (changed f nodes p) (changed g others p)
      set here = beside-set (changed f nodes p) (changed g others p) p (length-changed f nodes p) (length-changed g others p)
          (λ q apart. slice_get-changed_other f nodes p q apart) (λ q apart. slice_get-changed_other g others p q apart) here

      clash : (x : N) → slice_get nodes p ≡ None → slice_get nodes p ≡ Some x → ⊥
      clash x e k = cc

      go : Got nodes others p → IsAt IsOver (changed g others p) p ⊎ AreBeside R (changed f nodes p) (changed g others p)
      go (neither e k) = inr (set (λ x y at there. let was = slice_get-changed_was f nodes p x at in absurd (clash was.0 e was.1)))
      go (of_both x y e k) = elim (h x y e (b.each p x y e k)) [
        | inl over ↦ inl (g y, slice_get-changed_same g others p y k, over)
        | inr same ↦ inr (set (λ v w at there.
            subst (λ (m : N). R p m w) (same_Some (f x) v (sym (slice_get-changed_same f nodes p x e) ∙ at))
            (subst (λ (m : K). R p (f x) m) (same_Some (g y) w (sym (slice_get-changed_same g others p y k) ∙ there)) same)))
      ]

  -- or of the one kind alone
  pub beside-left : (f : N → N) (p : ℕ) → ((x : N) (y : K) → slice_get nodes p ≡ Some x → R p x y → R p (f x) y)
      → AreBeside R (changed f nodes p) others
  beside-left f p h =
      beside-set (changed f nodes p) others p (length-changed f nodes p) refl (λ q apart. slice_get-changed_other f nodes p q apart)
      (λ q apart. refl) (λ x y at there.
      let was = slice_get-changed_was f nodes p x at in
      subst (λ (m : N). R p m y) (sym was.2) (h was.0 y was.1 (b.each p was.0 y was.1 there)))

-- ---- picks

-- what is known of the node at a place
tells : {N Y : Type 0} (other y : Y) (f : N → Y) (nodes : List N) (p : ℕ) (x : N) → at_node other f nodes p ≡ y → slice_get nodes p ≡ Some x
    → f x ≡ y
tells other y f nodes p x is at = sym (ap (given other f) at) ∙ is

module _ {N K : Type 0} (ops : NodeOps N) (others : NodeOps K) (R : ℕ → N → K → Type 0) (IsOver : K → Type 0)
    (laws : NodesFollow ops others R IsOver) (network : NetworkState) where
  -- the boards, which share all but their nodes
  module _ (nodes : List N) (ms : List K) (latches : List (Option ℕ)) (host : HostState) (b : AreBeside R nodes ms) where
    abbrev s : BoardState N
    s = board_of nodes latches host

    abbrev t : BoardState K
    t = board_of ms latches host

    offered-same : (p l : ℕ) → offered ops nodes p l ≡ offered others ms p l
    offered-same p l = at_node-same R nodes ms b None (ops.offers l) (others.offers l) p (λ x y. laws.offers p l x y)

    same-ready : (pick : Pick) → ready ops network s pick ≡ ready others network t pick
    same-ready HostSend = refl
    same-ready HostTake = refl
    same-ready (Proc p slice clock) =
        ap (λ (runs : Bool). nat_lt clock (2 ^ 32) && runs) (at_node-same R nodes ms b false ops.runs others.runs p (laws.runs p))
    same-ready (Send p l) =
        ap (λ (byte : Option ℕ). nat_lt l 4 && (is_some byte && is_wired (far_at network p l))) (offered-same p l)
    same-ready (Take p l) =
        ap (λ (wanted : Bool). nat_lt l 4 && (wanted && is_some (latch_at latches p l)))
        (at_node-same R nodes ms b false (ops.wants l) (others.wants l) p (λ x y. laws.wants p l x y))

    -- an acknowledge keeps a node over
    over-acknowledged : (ns : List K) (p : ℕ) (far : Far) → IsAt IsOver ns p → IsAt IsOver (nodes_acknowledged others far ns) p
    over-acknowledged ns p Nothing h = h
    over-acknowledged ns p Host h = h
    over-acknowledged ns p (Link q m) h = elim (cases_eq p q) [
      | inl e ↦
          let at : slice_get ns q ≡ Some h.0 = ap (slice_get ns) (sym e) ∙ h.1 in (
            others.acknowledge m h.0,
            ap (slice_get (changed (others.acknowledge m) ns q)) e ∙ slice_get-changed_same (others.acknowledge m) ns q h.0 at,
            laws.acknowledge_over m h.0 h.2,
          )
      | inr apart ↦ (h.0, slice_get-changed_other (others.acknowledge m) ns q p apart ∙ h.1, h.2)
    ]

    acknowledges : (far : Far) (ns : List N) (ks : List K) → AreBeside R ns ks
        → IsThere IsOver (nodes_acknowledged others far ks) far ⊎ AreBeside R (nodes_acknowledged ops far ns)
        (nodes_acknowledged others far ks)
    acknowledges Nothing ns ks c = inr c
    acknowledges Host ns ks c = inr c
    acknowledges (Link q m) ns ks c =
        beside-changed R ns ks c IsOver (ops.acknowledge m) (others.acknowledge m) q (λ x y at same. laws.acknowledge q m x y same)

    abbrev After : Pick → Type 0
    After pick = IsOneOver IsOver network pick (step others network pick t) ⊎ IsBeside R (step ops network pick s)
        (step others network pick t)

    -- what becomes of a step, by its nodes
    ends : (pick : Pick) → (step ops network pick s).latches ≡ (step others network pick t).latches
        → (step ops network pick s).host ≡ (step others network pick t).host
        → IsOneOver IsOver network pick (step others network pick t)
        ⊎ AreBeside R (step ops network pick s).nodes (step others network pick t).nodes → After pick
    ends pick latches_same host_same (inl over) = inl over
    ends pick latches_same host_same (inr c) = inr (record { nodes = c; latches = latches_same; host = host_same })

    own : (pick : Pick) (p : ℕ) (ns : List N) (ks : List K) → IsAt IsOver ks p ⊎ AreBeside R ns ks
        → (IsAt IsOver ks p ⊎ IsThere IsOver ks Nothing) ⊎ AreBeside R ns ks
    own pick p ns ks (inl over) = inl (inl over)
    own pick p ns ks (inr c) = inr c

    own_of : (far : Far) (p : ℕ) (ns : List N) (ks : List K) → IsAt IsOver ks p ⊎ AreBeside R ns ks
        → (IsAt IsOver ks p ⊎ IsThere IsOver ks far) ⊎ AreBeside R ns ks
    own_of far p ns ks (inl over) = inl (inl over)
    own_of far p ns ks (inr c) = inr c

    takes : (far : Far) (p l byte : ℕ)
        → (IsAt IsOver (nodes_acknowledged others far (changed (others.take l byte) ms p)) p
        ⊎ IsThere IsOver (nodes_acknowledged others far (changed (others.take l byte) ms p)) far)
        ⊎ AreBeside R (nodes_acknowledged ops far (changed (ops.take l byte) nodes p))
        (nodes_acknowledged others far (changed (others.take l byte) ms p))
    takes far p l byte =
        elim (beside-changed R nodes ms b IsOver (ops.take l byte) (others.take l byte) p (λ x y at same. laws.take p l byte x y same)) [
          | inl over ↦ inl (inl (over-acknowledged (changed (others.take l byte) ms p) p far over))
          | inr c ↦ elim (acknowledges far (changed (ops.take l byte) nodes p) (changed (others.take l byte) ms p) c) [
            | inl over ↦ inl (inr over)
            | inr d ↦ inr d
          ]
        ]

    -- a pick that is not dropped is made in both
    same-step : (pick : Pick) → ready ops network s pick ≡ true → is_prefix (made_by_pick ops pick s) ≡ false → After pick
    same-step HostSend e d = inr (record { nodes = b; latches = refl; host = refl })
    same-step HostTake e d =
        ends HostTake refl refl
        (own_of Host network.root (step ops network HostTake s).nodes (step others network HostTake t).nodes
        (beside-changed R nodes ms b IsOver (ops.acknowledge network.root_link) (others.acknowledge network.root_link) network.root
        (λ x y at same. laws.acknowledge network.root network.root_link x y same)))
    same-step (Proc p slice clock) e d =
        ends (Proc p slice clock) refl refl
        (own_of Nothing p (step ops network (Proc p slice clock) s).nodes (step others network (Proc p slice clock) t).nodes
        (beside-changed R nodes ms b IsOver (ops.run p slice clock) (others.run p slice clock) p (λ x y at same.
        laws.whole p clock slice x y same (tells false true ops.runs nodes p x (both (nat_lt clock (2 ^ 32)) _ e).1 at)
        (ap is_prefix (sym (ap (given _ (ops.made p slice clock)) at)) ∙ d))))
    same-step (Send p l) e d =
        let byte = has_byte (offered ops nodes p l) (both (is_some (offered ops nodes p l)) _ (both (nat_lt l 4) _ e).1).0 in
        ends (Send p l) (ap (λ (o : Option ℕ). latched (far_at network p l) o latches) (offered-same p l))
        (ap (λ (o : Option ℕ). host_latched (far_at network p l) o host) (offered-same p l))
        (own_of (far_at network p l) p (step ops network (Send p l) s).nodes (step others network (Send p l) t).nodes
        (beside-changed R nodes ms b IsOver (ops.send l) (others.send l) p (λ x y at same.
        inr (laws.send p l byte.0 x y same
        (sym (laws.offers p l x y same) ∙ tells None (Some byte.0) (ops.offers l) nodes p x byte.1 at)))))
    same-step (Take p l) e d = ends (Take p l) refl refl (takes (far_at network p l) p l (unwrap_or (latch_at latches p l) 0))

    -- one that is dropped is made in the one alone
    left-step : (pick : Pick) → ready ops network s pick ≡ true → is_prefix (made_by_pick ops pick s) ≡ true
        → IsBeside R (step ops network pick s) t
    left-step HostSend e d = cc
    left-step HostTake e d = cc
    left-step (Proc p slice clock) e d = record {
      nodes = beside-left R nodes ms b (ops.run p slice clock) p (λ x y at same.
          laws.prefix p clock slice x y same (tells false true ops.runs nodes p x (both (nat_lt clock (2 ^ 32)) _ e).1 at)
          (ap is_prefix (sym (ap (given _ (ops.made p slice clock)) at)) ∙ d));
      latches = refl;
      host = refl;
    }
    left-step (Send p l) e d = cc
    left-step (Take p l) e d = cc

  -- ---- the same of any two boards beside each other

  module _ (s : BoardState N) (t : BoardState K) (h : IsBeside R s t) where
    along : (P : BoardState K → Type 0) → P (board_of t.nodes s.latches s.host) → P t
    along P p =
        subst (λ (host : HostState). P (board_of t.nodes t.latches host)) h.host
        (subst (λ (latches : List (Option ℕ)). P (board_of t.nodes latches s.host)) h.latches p)

    pub ready-same : (pick : Pick) → ready ops network s pick ≡ ready others network t pick
    ready-same pick =
        along (λ (u : BoardState K). ready ops network s pick ≡ ready others network u pick)
        (same-ready s.nodes t.nodes s.latches s.host h.nodes pick)

    pub step-same : (pick : Pick) → ready ops network s pick ≡ true → is_prefix (made_by_pick ops pick s) ≡ false
        → IsOneOver IsOver network pick (step others network pick t) ⊎ IsBeside R (step ops network pick s) (step others network pick t)
    step-same pick e d =
        along
        (λ (u : BoardState K). IsOneOver IsOver network pick (step others network pick u)
        ⊎ IsBeside R (step ops network pick s) (step others network pick u))
        (same-step s.nodes t.nodes s.latches s.host h.nodes pick e d)

    pub step-left : (pick : Pick) → ready ops network s pick ≡ true → is_prefix (made_by_pick ops pick s) ≡ true
        → IsBeside R (step ops network pick s) t
    step-left pick e d =
        along (λ (u : BoardState K). IsBeside R (step ops network pick s) u)
        (left-step s.nodes t.nodes s.latches s.host h.nodes pick e d)
