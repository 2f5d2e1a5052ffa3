-- The network that a description gives.
use Rattle.std.proofs.Common.{◌≡◌, ℕ, zero, suc, ◌*◌, ◌<◌, ◌≢◌, List, [], ◌∷◌, ◌++◌, map, length, get_or, refl, sym, ◌∙◌, ap, subst, arith}
use Rattle.std.proofs.Common.{Option, Some, None, inl, inr}
use Rattle.std.proofs.lemmas.List.{length-map}
use Rattle.tn_mem.specs.Sizes.{IsMemorySize}
use Rattle.tn_net.specs.declared.lines.LinkEnd.{LinkEnd}
use Rattle.tn_net.specs.declared.lines.EndLine.{EndLine}
use Rattle.tn_net.specs.declared.networks.Far.{Far}
use Rattle.tn_net.specs.declared.networks.Far.TheVariants.{Nothing, Host, Link}
use Rattle.tn_net.specs.RawNetworks.{RawLists}
use Rattle.tn_net.specs.Lines.{name_at, size_at, IsNamed, IsKnown, AreDistinct, host_lines, wire_line, end_lines, line_at, HasEnd, Wires}
use Rattle.tn_net.specs.Lines.{IsTakenBefore, DifferInNumber, IsAdmitted}
use Rattle.tn_net.specs.Faults.{IsRight, AreRight, IsFaultless}
use Rattle.tn_net.specs.Networks.{NetworkState, far_at, IsEnd, IsPairing, end_of, Joined, HostAt, IsNetwork}
use Rattle.tn_net.specs.Inner.Tables.{HostBefore, Shows, IsWired}
use Rattle.tn_net.proofs.Places.{one_place, some_same}
use Rattle.tn_net.proofs.Reading.{one_line}

-- ---- the lines

-- a wire has two ends
pub wire_two : (wires : List (List ℕ × ℕ × List ℕ × ℕ × ℕ)) (k : ℕ) → k < length (map wire_line wires)
    → (line_at (map wire_line wires) k).two ≡ None → ⊥
wire_two [] k h none = omega (arith, h)
wire_two (w ∷ ws) zero h none = cc
wire_two (w ∷ ws) (suc k) h none = wire_two ws k (omega (arith, h)) none

-- a line of one end is the host's
pub host_of_line : (host : Option (List ℕ × ℕ × ℕ)) (wires : List (List ℕ × ℕ × List ℕ × ℕ × ℕ)) (k : ℕ)
    → k < length (host_lines host ++ map wire_line wires) → (line_at (host_lines host ++ map wire_line wires) k).two ≡ None
    → host ≡ Some (
      (line_at (host_lines host ++ map wire_line wires) k).one.name,
      (line_at (host_lines host ++ map wire_line wires) k).one.link,
      (line_at (host_lines host ++ map wire_line wires) k).line,
    )
host_of_line None wires k h none = absurd (wire_two wires k h none)
host_of_line (Some host) wires zero h none = refl
host_of_line (Some host) wires (suc k) h none = absurd (wire_two wires k (omega (arith, h)) none)

-- the host's line is the first
pub line_of_host : (host : Option (List ℕ × ℕ × ℕ)) (wires : List EndLine) (h : List ℕ × ℕ × ℕ) → host ≡ Some h
    → line_at (host_lines host ++ wires) 0 ≡ record { one = record { name = h.0; link = h.1 }; two = None; line = h.2 }
line_of_host None wires h is = cc
line_of_host (Some x) wires h is =
    ap (λ (y : List ℕ × ℕ × ℕ). let line : EndLine = record { one = record { name = y.0; link = y.1 }; two = None; line = y.2 } in line)
    (some_same x h is)

pub host_line_here : (host : Option (List ℕ × ℕ × ℕ)) (wires : List EndLine) (h : List ℕ × ℕ × ℕ) → host ≡ Some h
    → 0 < length (host_lines host ++ wires)
host_line_here None wires h is = cc
host_line_here (Some x) wires h is = omega arith

-- a line that wires two ends names the one
pub wires_has : (line : EndLine) (a b : LinkEnd) → Wires line a b → HasEnd line a
wires_has line a b (inl w) = inl w.0
wires_has line a b (inr w) = inr w.1

pub wires_swap : (line : EndLine) (a b : LinkEnd) → Wires line a b → Wires line b a
wires_swap line a b (inl w) = inr w
wires_swap line a b (inr w) = inl w

pub wires_two : (line : EndLine) (a b : LinkEnd) → Wires line a b → line.two ≡ None → ⊥
wires_two line a b (inl w) none = let e : line.two ≡ Some b = w.1 in cc
wires_two line a b (inr w) none = let e : line.two ≡ Some a = w.1 in cc

-- a line wires an end to one other
pub wires_one : (line : EndLine) (a b c : LinkEnd) → line.two ≢ Some line.one → Wires line a b → Wires line a c → b ≡ c
wires_one line a b c apart (inl w) (inl v) = some_same b c (sym w.1 ∙ v.1)
wires_one line a b c apart (inl w) (inr v) = absurd (apart (v.1 ∙ ap (λ (e : LinkEnd). Some e) (sym w.0)))
wires_one line a b c apart (inr w) (inl v) = absurd (apart (w.1 ∙ ap (λ (e : LinkEnd). Some e) (sym v.0)))
wires_one line a b c apart (inr w) (inr v) = sym w.0 ∙ v.0

-- an end of a right line stands on no line before it
pub stands_once : (names : List (List ℕ × ℕ × ℕ)) (lines : List EndLine) (line : EndLine) (end : LinkEnd) → IsRight names lines line
    → HasEnd line end → IsTakenBefore lines line.line end → ⊥
stands_once names lines line end right (inl one) stands = right.one (subst (λ e. IsTakenBefore lines line.line e) (sym one) stands)
stands_once names lines line end right (inr two) stands = right.two end two stands

-- an end stands on one line
pub one_standing : (names : List (List ℕ × ℕ × ℕ)) (lines : List EndLine) (j k : ℕ) (end : LinkEnd) → AreRight names lines
    → DifferInNumber lines → j < length lines → k < length lines → HasEnd (line_at lines j) end → HasEnd (line_at lines k) end → j ≡ k
one_standing names lines j k end right differ hj hk at_j at_k =
    let a : (line_at lines j).line < (line_at lines k).line → ⊥ = λ h. stands_once names lines (line_at lines k) end (right k hk) at_k
    (record { place = j; here = hj; before = h; named = at_j }) in
    let b : (line_at lines k).line < (line_at lines j).line → ⊥ = λ h. stands_once names lines (line_at lines j) end (right j hj) at_j
    (record { place = k; here = hk; before = h; named = at_k }) in
    one_line lines j k differ hj hk (omega (arith, a, b))

-- ---- the network

-- the table of a description, with the sizes of the memories and the host's end
pub record Gives (raw : RawLists) (n : NetworkState) : Type 0 where
  pub admitted : IsAdmitted raw
  pub distinct : AreDistinct raw.names (length raw.names)
  pub wired : IsWired raw.names (end_lines raw) n.fars
  pub sizes : n.sizes ≡ map (λ processor. processor.1) raw.names
  pub here : n.root < length raw.names
  pub root : HostAt raw n.root n.root_link

pub count_is : (raw : RawLists) (n : NetworkState) → Gives raw n → length n.sizes ≡ length raw.names
count_is raw n g = ap length g.sizes ∙ length-map raw.names (λ processor. processor.1)

-- what the table shows
pub shown : (raw : RawLists) (n : NetworkState) (p l : ℕ) (v : Far) (g : Gives raw n) → IsEnd n p l → far_at n p l ≡ v
    → Shows raw.names (end_lines raw) g.wired.number (end_of raw.names p l) v
shown raw n p l v g e is =
    subst (λ w. Shows raw.names (end_lines raw) g.wired.number (end_of raw.names p l) w) is
    (g.wired.table.shows p l (omega (arith, e.processor, count_is raw n g)) e.link)

-- an end that stands on a line isn't free
pub some_shown : (raw : RawLists) (n : NetworkState) (p l k : ℕ) (g : Gives raw n) → IsEnd n p l → k < length (end_lines raw)
    → HasEnd (line_at (end_lines raw) k) (end_of raw.names p l) → far_at n p l ≢ Nothing
some_shown raw n p l k g e hk has is =
    shown raw n p l Nothing g e is (record { place = k; here = hk; before = g.wired.all k hk; named = has })

-- a link with a far end is joined
pub joined : (raw : RawLists) (n : NetworkState) (p l q m : ℕ) → Gives raw n → IsEnd n p l → far_at n p l ≡ Link q m → Joined raw p l q m
joined raw n p l q m g e is =
    let h : Shows raw.names (end_lines raw) g.wired.number (end_of raw.names p l) (Link q m) = shown raw n p l (Link q m) g e is in
    record { one = omega (arith, e.processor, count_is raw n g); two = h.0; place = h.2.place; here = h.2.here; wires = h.2.wires }

-- a link that is joined has its far end
pub linked : (raw : RawLists) (n : NetworkState) (p l q m : ℕ) → Gives raw n → IsEnd n p l → Joined raw p l q m → far_at n p l ≡ Link q m
linked raw n p l q m g e j = by (far_at n p l) refl
  where
    has : HasEnd (line_at (end_lines raw) j.place) (end_of raw.names p l)
    has = wires_has (line_at (end_lines raw) j.place) (end_of raw.names p l) (end_of raw.names q m) j.wires

    by : (v : Far) → far_at n p l ≡ v → far_at n p l ≡ Link q m
    by Nothing is = absurd (some_shown raw n p l j.place g e j.here has is)
    by Host is =
        let h : HostBefore (end_lines raw) g.wired.number (end_of raw.names p l) = shown raw n p l Host g e is in
        let same : h.place ≡ j.place = one_standing raw.names (end_lines raw) h.place j.place
        (end_of raw.names p l) g.wired.right g.admitted.numbers h.here j.here (inl h.one) has in
        absurd (wires_two (line_at (end_lines raw) j.place) (end_of raw.names p l) (end_of raw.names q m) j.wires
        (ap (λ k. (line_at (end_lines raw) k).two) (sym same) ∙ h.two))
    by (Link u v) is =
        let h : Joined raw p l u v = joined raw n p l u v g e is in
        let same : h.place ≡ j.place = one_standing raw.names (end_lines raw) h.place j.place
        (end_of raw.names p l) g.wired.right g.admitted.numbers h.here j.here
        (wires_has (line_at (end_lines raw) h.place) (end_of raw.names p l) (end_of raw.names u v) h.wires) has in
        let both : end_of raw.names u v ≡ end_of raw.names q m = wires_one (line_at (end_lines raw) j.place) (end_of raw.names p l)
        (end_of raw.names u v) (end_of raw.names q m) (g.wired.right j.place j.here).apart
        (subst (λ k. Wires (line_at (end_lines raw) k) (end_of raw.names p l) (end_of raw.names u v)) same h.wires) j.wires in
        let a : u ≡ q = one_place raw.names u q g.distinct h.two j.two (ap (λ (end : LinkEnd). end.name) both) in
        let b : v ≡ m = ap (λ (end : LinkEnd). end.link) both in
        is ∙ ap (λ i. Link i v) a ∙ ap (λ i. Link q i) b

-- the host's line, by its place
pub host_line : (raw : RawLists) (p l : ℕ) (h : HostAt raw p l)
    → line_at (end_lines raw) 0 ≡ record { one = end_of raw.names p l; two = None; line = h.0 }
host_line raw p l h = line_of_host raw.host (map wire_line raw.wires) (name_at raw.names p, l, h.0) h.1

-- the end of the host's line has the host
pub host_there : (raw : RawLists) (n : NetworkState) (p l : ℕ) → Gives raw n → IsEnd n p l → HostAt raw p l → far_at n p l ≡ Host
host_there raw n p l g e h = by (far_at n p l) refl
  where
    here : 0 < length (end_lines raw)
    here = host_line_here raw.host (map wire_line raw.wires) (name_at raw.names p, l, h.0) h.1

    one : (line_at (end_lines raw) 0).one ≡ end_of raw.names p l
    one = ap (λ (line : EndLine). line.one) (host_line raw p l h)

    two : (line_at (end_lines raw) 0).two ≡ None
    two = ap (λ (line : EndLine). line.two) (host_line raw p l h)

    by : (v : Far) → far_at n p l ≡ v → far_at n p l ≡ Host
    by Nothing is = absurd (some_shown raw n p l 0 g e here (inl one) is)
    by Host is = is
    by (Link q m) is =
        let j : Joined raw p l q m = joined raw n p l q m g e is in
        let same : j.place ≡ 0 = one_standing raw.names (end_lines raw) j.place 0
        (end_of raw.names p l) g.wired.right g.admitted.numbers j.here here
        (wires_has (line_at (end_lines raw) j.place) (end_of raw.names p l) (end_of raw.names q m) j.wires) (inl one) in
        absurd (wires_two (line_at (end_lines raw) j.place) (end_of raw.names p l) (end_of raw.names q m) j.wires
        (ap (λ k. (line_at (end_lines raw) k).two) same ∙ two))

-- the end that has the host is that of its line
pub host_said : (raw : RawLists) (n : NetworkState) (p l : ℕ) → Gives raw n → IsEnd n p l → far_at n p l ≡ Host → HostAt raw p l
host_said raw n p l g e is =
    let h : HostBefore (end_lines raw) g.wired.number (end_of raw.names p l) = shown raw n p l Host g e is in (
      (line_at (end_lines raw) h.place).line,
      host_of_line raw.host raw.wires h.place h.here h.two
          ∙ ap (λ (end : LinkEnd). Some (end.name, end.link, (line_at (end_lines raw) h.place).line)) h.one,
    )

-- the host's end is a link of a processor
pub root_end : (raw : RawLists) (n : NetworkState) → Gives raw n → IsEnd n n.root n.root_link
root_end raw n g = record {
  processor = omega (arith, g.here, count_is raw n g);
  link =
      subst (λ (line : EndLine). line.one.link < 4) (host_line raw n.root n.root_link g.root)
      (g.admitted.links 0 (host_line_here raw.host (map wire_line raw.wires)
      (name_at raw.names n.root, n.root_link, g.root.0) g.root.1)).one;
}

-- the network is the one described
pub described : (raw : RawLists) (n : NetworkState) → Gives raw n → IsNetwork raw n
described raw n g = record {
  sizes = g.sizes;
  links = λ p l q m e. (joined raw n p l q m g e, linked raw n p l q m g e);
  host = λ p l e. (host_said raw n p l g e, host_there raw n p l g e);
  root = g.root;
}

-- the size of a memory, in the list of sizes
pub size_read : (names : List (List ℕ × ℕ × ℕ)) (p : ℕ) → p < length names
    → get_or (map (λ processor. processor.1) names) p 0 ≡ size_at names p
size_read [] p h = omega (arith, h)
size_read (x ∷ xs) zero h = refl
size_read (x ∷ xs) (suc p) h = size_read xs p (omega (arith, h))

-- its links are paired
pub paired : (raw : RawLists) (n : NetworkState) → Gives raw n → IsPairing n
paired raw n g = record {
  few = omega (arith, count_is raw n g, g.admitted.few);
  sizes =
      λ p hp. let h : p < length raw.names = omega (arith, hp, count_is raw n g) in
      subst (λ s. IsMemorySize s) (sym (ap (λ s. get_or s p 0) g.sizes ∙ size_read raw.names p h)) (g.admitted.sizes p h);
  room = g.wired.table.room ∙ ap (λ i. 4 * i) (sym (count_is raw n g));
  root = root_end raw n g;
  ends = other;
  ways = λ p l q m e is. linked raw n q m p l g (other p l q m e is) (back p l q m (joined raw n p l q m g e is));
  apart = λ p l e is. self p l (joined raw n p l p l g e is);
  hosted = host_there raw n n.root n.root_link g (root_end raw n g) g.root;
  once = λ p l e is. once p l e (host_said raw n p l g e is);
}
  where
    other : (p l q m : ℕ) → IsEnd n p l → far_at n p l ≡ Link q m → IsEnd n q m
    other p l q m e is =
        let h : Shows raw.names (end_lines raw) g.wired.number (end_of raw.names p l) (Link q m) = shown raw n p l (Link q m) g e is in
        record { processor = omega (arith, h.0, count_is raw n g); link = h.1 }

    back : (p l q m : ℕ) → Joined raw p l q m → Joined raw q m p l
    back p l q m j =
        record {
          one = j.two;
          two = j.one;
          place = j.place;
          here = j.here;
          wires = wires_swap (line_at (end_lines raw) j.place) (end_of raw.names p l) (end_of raw.names q m) j.wires;
        }

    self : (p l : ℕ) → Joined raw p l p l → ⊥
    self p l j = (g.wired.right j.place j.here).apart (same j.wires)
      where
        same : Wires (line_at (end_lines raw) j.place) (end_of raw.names p l) (end_of raw.names p l)
            → (line_at (end_lines raw) j.place).two ≡ Some (line_at (end_lines raw) j.place).one
        same (inl w) = w.1 ∙ ap (λ (end : LinkEnd). Some end) (sym w.0)
        same (inr w) = w.1 ∙ ap (λ (end : LinkEnd). Some end) (sym w.0)

    once : (p l : ℕ) → IsEnd n p l → HostAt raw p l → (p ≡ n.root) × (l ≡ n.root_link)
    once p l e h =
        let u : p < length raw.names = omega (arith, e.processor, count_is raw n g) in
        let t : (name_at raw.names p, l, h.0) ≡ (name_at raw.names n.root, n.root_link, g.root.0) = some_same
        (name_at raw.names p, l, h.0) (name_at raw.names n.root, n.root_link, g.root.0) (sym h.1 ∙ g.root.1) in
        (one_place raw.names p n.root g.distinct u g.here (ap (λ (x : List ℕ × ℕ × ℕ). x.0) t), ap (λ (x : List ℕ × ℕ × ℕ). x.1) t)

-- the table of a description, from that of equal lists
pub wired_read : (raw : RawLists) (names : List (List ℕ × ℕ × ℕ)) (lines : List EndLine) (fars : List Far) → names ≡ raw.names
    → lines ≡ end_lines raw → IsWired names lines fars → IsWired raw.names (end_lines raw) fars
wired_read raw names lines fars same same_lines wired =
    subst (λ n. IsWired n (end_lines raw) fars) same (subst (λ l. IsWired names l fars) same_lines wired)

-- the same with the sizes and the host's end, each read from an equal list
pub gives : (raw : RawLists) (one two three four : List (List ℕ × ℕ × ℕ)) (lines : List EndLine) (n : NetworkState) (name : List ℕ)
    (line : ℕ) → IsAdmitted raw → one ≡ raw.names → AreDistinct one (length one) → two ≡ raw.names → lines ≡ end_lines raw
    → IsWired two lines n.fars → raw.host ≡ Some (name, n.root_link, line) → three ≡ raw.names → IsNamed three name n.root
    → four ≡ raw.names → n.sizes ≡ map (λ processor. processor.1) four → Gives raw n
gives raw one two three four lines n name line admitted same_one distinct same_two same_lines wired is same_three named same_four
    sizes = record {
      admitted = admitted;
      distinct = subst (λ names. AreDistinct names (length names)) same_one distinct;
      wired = wired_read raw two lines n.fars same_two same_lines wired;
      sizes = sizes ∙ ap (λ (names : List (List ℕ × ℕ × ℕ)). map (λ processor. processor.1) names) same_four;
      here = here.here;
      root = (line, is ∙ ap (λ (x : List ℕ). Some (x, n.root_link, line)) (sym here.called));
    }
  where
    here : IsNamed raw.names name n.root
    here = subst (λ names. IsNamed names name n.root) same_three named

-- the processor of the host's line is one of those described
pub root_known : (raw : RawLists) (host : List ℕ × ℕ × ℕ) → AreRight raw.names (end_lines raw) → raw.host ≡ Some host
    → IsKnown raw.names host.0
root_known raw host right is =
    subst (λ (line : EndLine). IsKnown raw.names line.one.name) (line_of_host raw.host (map wire_line raw.wires) host is)
    (right 0 (host_line_here raw.host (map wire_line raw.wires) host is)).known.one

-- no fault stands in its description
pub faultless : (raw : RawLists) (n : NetworkState) → Gives raw n → IsFaultless raw
faultless raw n g = record { distinct = g.distinct; right = g.wired.right; hosted = λ none. hostless none }
  where
    hostless : raw.host ≡ None → ⊥
    hostless none = let some : raw.host ≡ Some (name_at raw.names n.root, n.root_link, g.root.0) = g.root.1 in cc
