-- One more line is read.
use Rattle.std.proofs.Common.{◌≡◌, ℕ, ◌+◌, ◌*◌, ◌<◌, ◌≤◌, ◌≢◌, List, length, refl, sym, ◌∙◌, ap, subst, arith, Some, get_or, ◌⊎◌, inl, inr}
use Rattle.std.proofs.Common.{replicate, set}
use Rattle.std.proofs.lemmas.List.{length-set, get_or-set_same, get_or-set_other, length-replicate, get_or-replicate, get_or_read}
use Rattle.tn_text.specs.declared.faults.Cause.{Cause}
use Rattle.tn_text.specs.Faults.{fault_at}
use Rattle.tn_net.specs.declared.lines.LinkEnd.{LinkEnd}
use Rattle.tn_net.specs.declared.lines.EndLine.{EndLine}
use Rattle.tn_net.specs.declared.lines.Refusal.{Refusal}
use Rattle.tn_net.specs.declared.networks.Far.{Far}
use Rattle.tn_net.specs.declared.networks.Far.TheVariants.{Nothing, Host, Link}
use Rattle.tn_net.specs.Lines.{IsNamed, IsKnown, AreDistinct, line_at, HasEnd, Wires, IsTakenBefore, HasLinks, DifferInNumber}
use Rattle.tn_net.specs.Faults.{IsRight, IsWrongLine, one_unknown, two_unknown, one_twice, two_twice}
use Rattle.tn_net.specs.Networks.{end_of}
use Rattle.tn_net.specs.Inner.Tables.{entry, Shows, IsTable, IsNext, Joins, joins_host, joins_ends, Refuses, refuses_one, refuses_two}
use Rattle.tn_net.specs.Inner.Tables.{taken_one, taken_two, cause_of, AllBefore, IsWired, IsFirstWrongLine}
use Rattle.tn_net.proofs.Places.{end_is, one_end, some_same}

same_or_other : (i j : ℕ) → (i ≡ j) ⊎ (i ≢ j)
same_or_other i j = grind arith

-- what stands in an entry of the table shows that the end stands on a line
pub stands_shown : (names : List (List ℕ × ℕ × ℕ)) (lines : List EndLine) (n : ℕ) (end : LinkEnd) (v : Far) → v ≢ Nothing
    → Shows names lines n end v → IsTakenBefore lines n end
stands_shown names lines n end Nothing some h = absurd (some refl)
stands_shown names lines n end Host some h = record { place = h.place; here = h.here; before = h.before; named = inl h.one }
stands_shown names lines n end (Link q m) some h =
    record { place = h.2.place; here = h.2.here; before = h.2.before; named = either h.2.wires }
  where
    either : Wires (line_at lines h.2.place) end (end_of names q m) → HasEnd (line_at lines h.2.place) end
    either (inl w) = inl w.0
    either (inr w) = inr w.1

-- a line before a number is one before a greater number
pub stands_later : (lines : List EndLine) (a b : ℕ) (end : LinkEnd) → a ≤ b → IsTakenBefore lines a end → IsTakenBefore lines b end
stands_later lines a b end h s = record { place = s.place; here = s.here; before = omega (arith, h, s.before); named = s.named }

-- a line before the next stands before the number
pub below_next : (lines : List EndLine) (n k j : ℕ) → IsNext lines n (length lines) k → j < length lines
    → (line_at lines j).line < (line_at lines k).line → (line_at lines j).line < n
below_next lines n k j next hj less = below (line_at lines j).line n (line_at lines k).line less (next.least j hj)
  where
    below : (a b m : ℕ) → a < m → (b ≤ a → m ≤ a) → a < b
    below a b m h g = grind arith

-- a number is that of one line
pub one_line : (lines : List EndLine) (j k : ℕ) → DifferInNumber lines → j < length lines → k < length lines
    → (line_at lines j).line ≡ (line_at lines k).line → j ≡ k
one_line lines j k differ hj hk same =
    let a : j < k → ⊥ = λ h. differ j k h hk same in
    let b : k < j → ⊥ = λ h. differ k j h hj (sym same) in
    omega (arith, a, b)

-- no line stands between the next and the number
pub stands_earlier : (lines : List EndLine) (n k : ℕ) (end : LinkEnd) → IsNext lines n (length lines) k
    → IsTakenBefore lines (line_at lines k).line end → IsTakenBefore lines n end
stands_earlier lines n k end next s =
    record { place = s.place; here = s.here; before = below_next lines n k s.place next s.here s.before; named = s.named }

-- a line up to the next stands before the number, or is the next
pub stands_there : (lines : List EndLine) (n k : ℕ) (end : LinkEnd) → DifferInNumber lines → IsNext lines n (length lines) k
    → (HasEnd (line_at lines k) end → ⊥) → IsTakenBefore lines ((line_at lines k).line + 1) end → IsTakenBefore lines n end
stands_there lines n k end differ next off s =
    elim cases [
      | inl below ↦ stands_earlier lines n k end next
          (record { place = s.place; here = s.here; before = below; named = s.named })
      | inr same ↦ absurd (off (subst (λ i. HasEnd (line_at lines i) end) (one_line lines s.place k differ s.here next.here same) s.named))
    ]
  where
    cases : ((line_at lines s.place).line < (line_at lines k).line) ⊎ ((line_at lines s.place).line ≡ (line_at lines k).line)
    cases = grind (arith, s.before)

-- what an entry shows stays so, where its end doesn't stand on the next line
pub shows_later : (names : List (List ℕ × ℕ × ℕ)) (lines : List EndLine) (n k : ℕ) (end : LinkEnd) (v : Far) → DifferInNumber lines
    → IsNext lines n (length lines) k → (HasEnd (line_at lines k) end → ⊥) → Shows names lines n end v
    → Shows names lines ((line_at lines k).line + 1) end v
shows_later names lines n k end Nothing differ next off h = λ s. h (stands_there lines n k end differ next off s)
shows_later names lines n k end Host differ next off h =
    record { place = h.place; here = h.here; before = omega (arith, h.before, next.from); one = h.one; two = h.two }
shows_later names lines n k end (Link q m) differ next off h =
    (h.0, h.1, record { place = h.2.place; here = h.2.here; before = omega (arith, h.2.before, next.from); wires = h.2.wires })

-- the table before any line
pub begins : (names : List (List ℕ × ℕ × ℕ)) (lines : List EndLine) (fars : List Far) → fars ≡ replicate (4 * length names) Nothing
    → IsTable names lines 0 fars
begins names lines fars is = record {
  room = ap length is ∙ length-replicate (4 * length names) Nothing;
  shows =
      λ p l hp hl. subst (λ v. Shows names lines 0 (end_of names p l) v)
      (sym (ap (λ t. entry t p l) is ∙ get_or-replicate (4 * length names) (4 * p + l) Nothing Nothing (omega arith)))
      (λ s. absurd (omega (arith, s.before)));
}

-- an end with an empty entry stands on no line before the next
pub free_end : (names : List (List ℕ × ℕ × ℕ)) (lines : List EndLine) (n k : ℕ) (fars : List Far) (end : LinkEnd) (p : ℕ)
    → IsTable names lines n fars → IsNext lines n (length lines) k → IsNamed names end.name p → end.link < 4
    → entry fars p end.link ≡ Nothing → IsTakenBefore lines (line_at lines k).line end → ⊥
free_end names lines n k fars end p table next named hl free s =
    let shown : Shows names lines n (end_of names p end.link) Nothing = subst (λ v. Shows names lines n (end_of names p end.link) v) free
    (table.shows p end.link named.here hl) in
    shown (subst (λ e. IsTakenBefore lines n e) (end_is names end p named) (stands_earlier lines n k end next s))

-- an end with a full entry stands on a line before the next
pub taken_end : (names : List (List ℕ × ℕ × ℕ)) (lines : List EndLine) (n k : ℕ) (fars : List Far) (end : LinkEnd) (p : ℕ)
    → IsTable names lines n fars → IsNext lines n (length lines) k → IsNamed names end.name p → end.link < 4
    → entry fars p end.link ≢ Nothing → IsTakenBefore lines (line_at lines k).line end
taken_end names lines n k fars end p table next named hl taken =
    stands_later lines n (line_at lines k).line end next.from
    (subst (λ e. IsTakenBefore lines n e) (sym (end_is names end p named))
    (stands_shown names lines n (end_of names p end.link) (entry fars p end.link) taken (table.shows p end.link named.here hl)))

-- another entry than the one written
pub other_entry : (fars : List Far) (i : ℕ) (v : Far) (p l : ℕ) → i ≢ 4 * p + l → entry (set fars i v) p l ≡ entry fars p l
other_entry fars i v p l ne = get_or-set_other fars i (4 * p + l) v Nothing (λ e. ne (sym e))

-- the entry written
pub same_entry : (fars : List Far) (i : ℕ) (v : Far) (p l : ℕ) → i ≡ 4 * p + l → i < length fars → entry (set fars i v) p l ≡ v
same_entry fars i v p l e h = ap (λ j. get_or (set fars i v) j Nothing) (sym e) ∙ get_or-set_same fars i v Nothing h

-- entries of two ends of one line lie apart
pub apart_entries : (names : List (List ℕ × ℕ × ℕ)) (fars : List Far) (p l q m : ℕ) → length fars ≡ 4 * length names → p < length names
    → l < 4 → entry (set fars (4 * p + l) (Link q m)) q m ≡ Nothing → (4 * p + l) ≢ (4 * q + m)
apart_entries names fars p l q m room hp hl free same =
    let full : entry (set fars (4 * p + l) (Link q m)) q m ≡ Link q m = same_entry fars (4 * p + l) (Link q m) q m same (omega arith) in
    cc

-- nothing is wrong with a line that joins
pub joins_right : (names : List (List ℕ × ℕ × ℕ)) (lines : List EndLine) (n k : ℕ) (old new : List Far) → AreDistinct names (length names)
    → HasLinks (line_at lines k) → IsTable names lines n old → IsNext lines n (length lines) k → Joins names (line_at lines k) old new
    → IsRight names lines (line_at lines k)
joins_right names lines n k old new distinct links table next (joins_host p none named free is) = record {
  known = record { one = (p, named); two = λ e some. cc };
  one = free_end names lines n k old (line_at lines k).one p table next named links.one free;
  two = λ e some. cc;
  apart = λ some. cc;
}
joins_right names lines n k old new distinct links table next (joins_ends p q end two named other free clear is) = record {
  known = record { one = (p, named); two = λ e some. subst (λ x. IsKnown names x.name) (some_same end e (sym two ∙ some)) (q, other) };
  one = free_end names lines n k old (line_at lines k).one p table next named links.one free;
  two =
      λ e some. subst (λ x. IsTakenBefore lines (line_at lines k).line x → ⊥) (some_same end e (sym two ∙ some))
      (free_end names lines n k old end q table next other (links.two end two)
      (sym (other_entry old (4 * p + (line_at lines k).one.link) (Link q end.link) q end.link ne) ∙ clear));
  apart = λ some. again (some_same end (line_at lines k).one (sym two ∙ some));
}
  where
    ne : (4 * p + (line_at lines k).one.link) ≢ (4 * q + end.link)
    ne = apart_entries names old p (line_at lines k).one.link q end.link table.room named.here links.one clear

    again : end ≡ (line_at lines k).one → ⊥
    again same =
        let both : (p ≡ q) × ((line_at lines k).one.link ≡ end.link) = one_end names end q p
        (line_at lines k).one.link distinct other named.here (same ∙ end_is names (line_at lines k).one p named) in
        ne (ap (λ i. 4 * i + (line_at lines k).one.link) both.0 ∙ ap (λ i. 4 * q + i) both.1)

-- what is wrong with a line that is refused
pub refused_wrong : (names : List (List ℕ × ℕ × ℕ)) (lines : List EndLine) (n k : ℕ) (old : List Far) (refusal : Refusal)
    → HasLinks (line_at lines k) → IsTable names lines n old → IsNext lines n (length lines) k
    → Refuses names (line_at lines k) old refusal → IsWrongLine names lines (line_at lines k) (cause_of refusal)
refused_wrong names lines n k old refusal links table next (refuses_one none is) = one_unknown none (ap cause_of is)
refused_wrong names lines n k old refusal links table next (refuses_two end two known none is) =
    two_unknown end two known none (ap cause_of is)
refused_wrong names lines n k old refusal links table next (taken_one p named known taken is) =
    one_twice (record { one = (p, named); two = known })
    (taken_end names lines n k old (line_at lines k).one p table next named links.one taken) (ap cause_of is)
refused_wrong names lines n k old refusal links table next (taken_two p q end two named other free taken is) =
    two_twice end two (record {
      one = (p, named);
      two = λ e some. subst (λ x. IsKnown names x.name) (some_same end e (sym two ∙ some))
          (q, other);
    })
    (free_end names lines n k old (line_at lines k).one p table next named links.one free)
    (elim cases [
      | inl same ↦ inr (again same)
      | inr ne ↦ inl
          (taken_end names lines n k old end q table next other (links.two end two)
          (λ e. taken (other_entry old (4 * p + (line_at lines k).one.link) (Link q end.link) q end.link ne ∙ e)))
    ]) (ap cause_of is)
  where
    cases : (4 * p + (line_at lines k).one.link ≡ 4 * q + end.link) ⊎ ((4 * p + (line_at lines k).one.link) ≢ (4 * q + end.link))
    cases = same_or_other (4 * p + (line_at lines k).one.link) (4 * q + end.link)

    again : 4 * p + (line_at lines k).one.link ≡ 4 * q + end.link → (line_at lines k).one ≡ end
    again same =
        let l : (line_at lines k).one.link < 4 = links.one in
        let m : end.link < 4 = links.two end two in
        let a : p ≡ q = omega arith in
        let b : (line_at lines k).one.link ≡ end.link = omega arith in
        end_is names (line_at lines k).one p named ∙ ap (λ i. end_of names i (line_at lines k).one.link) a ∙ ap (λ i. end_of names q i) b
        ∙ sym (end_is names end q other)

-- what is shown of an end by its place
pub shows_moved : (names : List (List ℕ × ℕ × ℕ)) (lines : List EndLine) (n p l u m : ℕ) (v : Far) → l < 4 → m < 4 → 4 * p + l ≡ 4 * u + m
    → Shows names lines n (end_of names p l) v → Shows names lines n (end_of names u m) v
shows_moved names lines n p l u m v hl hm same h =
    let a : p ≡ u = omega arith in
    let b : l ≡ m = omega arith in
    subst (λ j. Shows names lines n (end_of names u j) v) b (subst (λ i. Shows names lines n (end_of names i l) v) a h)

-- a table with an entry more
pub written_table : (names : List (List ℕ × ℕ × ℕ)) (lines : List EndLine) (n p l : ℕ) (v : Far) (old new : List Far) → p < length names
    → l < 4 → length old ≡ 4 * length names → new ≡ set old (4 * p + l) v → Shows names lines n (end_of names p l) v
    → ((u m : ℕ) → u < length names → m < 4 → (4 * p + l) ≢ (4 * u + m) → Shows names lines n (end_of names u m) (entry old u m))
    → IsTable names lines n new
written_table names lines n p l v old new hp hl room is shown others = record {
  room = ap length is ∙ length-set old (4 * p + l) v ∙ room;
  shows = λ u m hu hm. elim (same_or_other (4 * p + l) (4 * u + m)) [ inl same ↦ here u m hm same | inr ne ↦ there u m hu hm ne ];
}
  where
    here : (u m : ℕ) → m < 4 → 4 * p + l ≡ 4 * u + m → Shows names lines n (end_of names u m) (entry new u m)
    here u m hm same =
        subst (λ w. Shows names lines n (end_of names u m) w)
        (sym (ap (λ t. entry t u m) is ∙ same_entry old (4 * p + l) v u m same (omega arith)))
        (shows_moved names lines n p l u m v hl hm same shown)

    there : (u m : ℕ) → u < length names → m < 4 → (4 * p + l) ≢ (4 * u + m) → Shows names lines n (end_of names u m) (entry new u m)
    there u m hu hm ne =
        subst (λ w. Shows names lines n (end_of names u m) w) (sym (ap (λ t. entry t u m) is ∙ other_entry old (4 * p + l) v u m ne))
        (others u m hu hm ne)

-- a link of another place is no end of the line
pub off_end : (names : List (List ℕ × ℕ × ℕ)) (end : LinkEnd) (p u m : ℕ) → AreDistinct names (length names) → IsNamed names end.name p
    → u < length names → (4 * p + end.link) ≢ (4 * u + m) → end ≡ end_of names u m → ⊥
off_end names end p u m distinct named hu ne same =
    let both : (u ≡ p) × (m ≡ end.link) = one_end names end p u m distinct named hu same in
    ne (ap (λ i. 4 * i + end.link) (sym both.0) ∙ ap (λ j. 4 * u + j) (sym both.1))

-- the table after a line that joins
pub joined_table : (names : List (List ℕ × ℕ × ℕ)) (lines : List EndLine) (n k : ℕ) (old new : List Far)
    → AreDistinct names (length names) → DifferInNumber lines → HasLinks (line_at lines k) → IsTable names lines n old
    → IsNext lines n (length lines) k → Joins names (line_at lines k) old new → IsTable names lines ((line_at lines k).line + 1) new
joined_table names lines n k old new distinct differ links table next (joins_host p none named free is) =
    written_table names lines ((line_at lines k).line + 1) p (line_at lines k).one.link Host old new named.here links.one table.room is
    (record { place = k; here = next.here; before = omega arith; one = end_is names (line_at lines k).one p named; two = none })
    (λ u m hu hm ne. shows_later names lines n k (end_of names u m) (entry old u m) differ next (off u m hu ne) (table.shows u m hu hm))
  where
    off : (u m : ℕ) → u < length names → (4 * p + (line_at lines k).one.link) ≢ (4 * u + m) → HasEnd (line_at lines k) (end_of names u m)
        → ⊥
    off u m hu ne (inl one) = off_end names (line_at lines k).one p u m distinct named hu ne one
    off u m hu ne (inr two) = cc
joined_table names lines n k old new distinct differ links table next (joins_ends p q end two named other free clear is) =
    written_table names lines ((line_at lines k).line + 1) q end.link (Link p (line_at lines k).one.link)
    (set old (4 * p + (line_at lines k).one.link) (Link q end.link)) new other.here (links.two end two) middle_room is
    (named.here, links.one, record { place = k; here = next.here; before = omega arith; wires = inr (at_one, at_two) })
    rest
  where
    middle_room : length (set old (4 * p + (line_at lines k).one.link) (Link q end.link)) ≡ 4 * length names
    middle_room = length-set old (4 * p + (line_at lines k).one.link) (Link q end.link) ∙ table.room

    at_one : (line_at lines k).one ≡ end_of names p (line_at lines k).one.link
    at_one = end_is names (line_at lines k).one p named

    at_two : (line_at lines k).two ≡ Some (end_of names q end.link)
    at_two = two ∙ ap (λ (e : LinkEnd). Some e) (end_is names end q other)

    off : (u m : ℕ) → u < length names → (4 * p + (line_at lines k).one.link) ≢ (4 * u + m) → (4 * q + end.link) ≢ (4 * u + m)
        → HasEnd (line_at lines k) (end_of names u m) → ⊥
    off u m hu ne not_two (inl one) = off_end names (line_at lines k).one p u m distinct named hu ne one
    off u m hu ne not_two (inr other_end) =
        off_end names end q u m distinct other hu not_two (some_same end (end_of names u m) (sym two ∙ other_end))

    same_below : (p l : ℕ) → p < length names → l < 4 → 4 * p + l < length old
    same_below p l hp hl = omega (arith, table.room)

    rest : (u m : ℕ) → u < length names → m < 4 → (4 * q + end.link) ≢ (4 * u + m)
        → Shows names lines ((line_at lines k).line + 1) (end_of names u m)
        (entry (set old (4 * p + (line_at lines k).one.link) (Link q end.link)) u m)
    rest u m hu hm not_two = elim (same_or_other (4 * p + (line_at lines k).one.link) (4 * u + m)) [
      | inl same ↦ subst (λ w. Shows names lines ((line_at lines k).line + 1) (end_of names u m) w)
          (sym (same_entry old (4 * p + (line_at lines k).one.link) (Link q end.link) u m same
          (same_below p (line_at lines k).one.link named.here links.one)))
          (shows_moved names lines ((line_at lines k).line + 1) p (line_at lines k).one.link u m (Link q end.link) links.one hm same
          (other.here, links.two end two, record { place = k; here = next.here; before = omega arith; wires = inl (at_one, at_two) }))
      | inr ne ↦ subst (λ w. Shows names lines ((line_at lines k).line + 1) (end_of names u m) w)
          (sym (other_entry old (4 * p + (line_at lines k).one.link) (Link q end.link) u m ne))
          (shows_later names lines n k (end_of names u m) (entry old u m) differ next (off u m hu ne not_two) (table.shows u m hu hm))
    ]

-- nothing is wrong with the lines up to the one that joins
pub right_more : (names : List (List ℕ × ℕ × ℕ)) (lines : List EndLine) (n k : ℕ) → DifferInNumber lines → IsNext lines n (length lines) k
    → ((j : ℕ) → j < length lines → (line_at lines j).line < n → IsRight names lines (line_at lines j))
    → IsRight names lines (line_at lines k) → (j : ℕ) → j < length lines → (line_at lines j).line < (line_at lines k).line + 1
    → IsRight names lines (line_at lines j)
right_more names lines n k differ next before right j hj below =
    elim cases [
      | inl less ↦ before j hj less
      | inr same ↦ subst (λ i. IsRight names lines (line_at lines i))
          (sym (one_line lines j k differ hj next.here same)) right
    ]
  where
    split : (a b m : ℕ) → a < m + 1 → (b ≤ a → m ≤ a) → (a < b) ⊎ (a ≡ m)
    split a b m h g = grind arith

    cases : ((line_at lines j).line < n) ⊎ ((line_at lines j).line ≡ (line_at lines k).line)
    cases = split (line_at lines j).line n (line_at lines k).line below (next.least j hj)

-- the fault of a line that is refused is the first
pub first_wrong : (names : List (List ℕ × ℕ × ℕ)) (lines : List EndLine) (n k : ℕ) (cause : Cause) → IsNext lines n (length lines) k
    → ((j : ℕ) → j < length lines → (line_at lines j).line < n → IsRight names lines (line_at lines j))
    → IsWrongLine names lines (line_at lines k) cause → IsFirstWrongLine names lines (fault_at (line_at lines k).line cause)
first_wrong names lines n k cause next before wrong = record {
  place = k;
  here = next.here;
  before = λ j hj less. before j hj (below_next lines n k j next hj less);
  cause = cause;
  wrong = wrong;
  told = refl;
}

-- what a read of a line tells
pub line_read : (lines : List EndLine) (k : ℕ) (x : EndLine) → k < length lines → x ≡ get_or lines k x → x ≡ line_at lines k
line_read lines k x h is = get_or_read lines k x h is _

-- after all lines nothing is wrong with any
pub all_wired : (names : List (List ℕ × ℕ × ℕ)) (lines : List EndLine) (n : ℕ) (fars : List Far) → AllBefore lines n (length lines)
    → ((j : ℕ) → j < length lines → (line_at lines j).line < n → IsRight names lines (line_at lines j)) → IsTable names lines n fars
    → IsWired names lines fars
all_wired names lines n fars all before table = record { number = n; all = all; right = λ k h. before k h (all k h); table = table }
