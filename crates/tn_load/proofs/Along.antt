-- What is left of the bytes of a processor's children, while it takes its part of the last wave and before.
use Rattle.std.proofs.Common.{◌≡◌, ℕ, zero, suc, ◌+◌, ◌==◌, ◌<◌, ◌≤◌, Bool, true, false, List, [], ◌∷◌, ◌++◌, length, refl, sym, ap, ◌∙◌}
use Rattle.std.proofs.Common.{subst, append_assoc, append-nil, arith}
use Rattle.std.specs.Prelude.{if◌then◌else◌, ◌-◌, ◌/◌}
use Rattle.tn_word.specs.Channels.{out_channel_of}
use Rattle.tn_loader.specs.Commands.{command_bytes, forward_command, run_command, nop_command}
use Rattle.tn_stream.specs.Branches.{Children}
use Rattle.tn_stream.specs.Branches.Children.{none, child}
use Rattle.tn_stream.specs.Streams.{Site, own_load, nothing, nop_of, run_of, wave, start_part}
use Rattle.tn_load.specs.Acts.{Act}
use Rattle.tn_load.specs.Acts.Act.{Step, Takes, Sends, Acks}
use Rattle.tn_load.specs.LoneRuns.{takes_of, sends_of, is_waiting, Lone}
use Rattle.tn_load.specs.Inner.Lives.{takes, steps, loader_acts, loads_acts, part, part_at, forwards_acts, forward_loop, nop_acts}
use Rattle.tn_load.specs.Inner.Lives.{run_acts, life}
use Rattle.tn_load.proofs.LoaderActs.{takes_of-append, takes_of-forwards, takes_of-run}
use Rattle.tn_load.proofs.LoaderActs.{sends_of-append, sends_of-forwards, sends_of-run}
use Rattle.tn_load.proofs.Answered.{Settled, settled-waits, settled-append, settled-forwards, settled-run}
use Rattle.tn_load.proofs.Answered.Settled.{settled, stepped, took, sent_off}

-- 1 where acts begin with the acknowledge of a byte sent by a link
abbrev pub waits : ℕ → List Act → ℕ
waits l left = if is_waiting l left then 1 else 0

-- a fact of acts and of all that is left of them later
abbrev pub AllLater : (List Act → Type 0) → List Act → Type 0
AllLater F [] = F []
AllLater F (act ∷ acts) = F (act ∷ acts) × AllLater F acts

pub later-first : (F : List Act → Type 0) (acts : List Act) → AllLater F acts → F acts
later-first F [] all = all
later-first F (act ∷ acts) all = all.0

-- a fact of what is left, beside that of a lone run
pub lone-with : {N : Type 0} (ops : _) (post : _) (Q : N → List Act → Type 0) (F : List Act → Type 0) (acts : List Act) (n end : N)
    → Lone ops post Q acts n end → AllLater F acts → Lone ops post (λ m left. Q m left × F left) acts n end
lone-with ops post Q F [] n end run all = ((run.0, all), run.1)
lone-with ops post Q F (act ∷ acts) n end run all =
    ((run.0, all.0), (run.1.0, (run.1.1.0, lone-with ops post Q F acts run.1.0 end run.1.1.1 all.1)))

-- Of a processor whose last part has `most` bytes, and of which each child gets `parts` bytes: with at most
-- so many to take, no more than that is left for a child; and less only once its last part has begun.
pub record IsAlong (most : ℕ) (parts : ℕ → ℕ) (left : List Act) : Type 0 where
  pub least : (l : ℕ) → length (takes_of left) ≤ most → waits l left + length (sends_of l left) ≤ parts l
  pub less : (l : ℕ) → length (sends_of l left) < parts l → length (takes_of left) < most

module _ (most : ℕ) (parts : ℕ → ℕ) where
  -- ---- before the last part

  record IsBefore (left : List Act) : Type 0 where
    pub more : most < length (takes_of left)
    pub all : (l : ℕ) → parts l ≤ length (sends_of l left)

  before-along : (left : List Act) → IsBefore left → IsAlong most parts left
  before-along left b =
      record {
        least = λ l few. absurd (let more = b.more in omega (arith, more, few));
        less = λ l few. absurd (let all = b.all l in omega (arith, all, few));
      }

  before-more : (act : Act) (left : List Act) → IsBefore left → IsBefore (act ∷ left)
  unfolding takes_of sends_of
  before-more Step left b = record { more = b.more; all = b.all }
  before-more (Takes byte) left b = record { more = let more = b.more in omega (arith, more); all = b.all }
  before-more (Sends m byte) left b = record { more = b.more; all = λ l. longer (m == l) l }
    where
      longer : (test : Bool) (l : ℕ) → parts l ≤ length (if test then byte ∷ sends_of l left else sends_of l left)
      longer true l = let all = b.all l in omega (arith, all)
      longer false l = b.all l
  before-more (Acks m) left b = record { more = b.more; all = b.all }

  later-before : (xs ys : List Act) → IsBefore ys → AllLater (IsAlong most parts) ys → AllLater (IsAlong most parts) (xs ++ ys)
  later-before [] ys b all = all
  later-before (x ∷ xs) ys b all = (before-along (x ∷ xs ++ ys) (before-more x (xs ++ ys) (run xs)), later-before xs ys b all)
    where
      run : (xs : List Act) → IsBefore (xs ++ ys)
      run [] = b
      run (x ∷ xs) = before-more x (xs ++ ys) (run xs)

  -- ---- where the last part is to come

  record IsAt (left : List Act) : Type 0 where
    pub count : length (takes_of left) ≡ most
    pub all : (l : ℕ) → length (sends_of l left) ≡ parts l
    pub calm : (l : ℕ) → is_waiting l left ≡ false

  at-along : (left : List Act) → IsAt left → IsAlong most parts left
  at-along left a =
      record {
        least = λ l few. let none : waits l left ≡ 0 = rw (a.calm l) refl in let all = a.all l in omega (arith, none, all);
        less = λ l few. absurd (let all = a.all l in omega (arith, all, few));
      }

  at-steps : (n : ℕ) (left : List Act) → IsAt left → IsAt (steps n ++ left)
  unfolding takes_of sends_of
  at-steps zero left a = a
  at-steps (suc n) left a = let b = at-steps n left a in record { count = b.count; all = b.all; calm = λ l. refl }

  later-steps : (n : ℕ) (left : List Act) → IsAt left → AllLater (IsAlong most parts) left → AllLater (IsAlong most parts) (steps n ++ left)
  later-steps zero left a all = all
  later-steps (suc n) left a all = (at-along (Step ∷ steps n ++ left) (at-steps (suc n) left a), later-steps n left a all)

  before-takes : (byte : ℕ) (bytes : List ℕ) (left : List Act) → IsAt left → IsBefore (takes (byte ∷ bytes) ++ left)
  unfolding takes_of sends_of
  before-takes byte [] left a =
      record { more = let count = a.count in omega (arith, count); all = λ l. let all = a.all l in omega (arith, all) }
  before-takes byte (next ∷ bytes) left a = before-more (Takes byte) (takes (next ∷ bytes) ++ left) (before-takes next bytes left a)

  later-takes : (bytes : List ℕ) (left : List Act) → IsAt left → AllLater (IsAlong most parts) left
      → AllLater (IsAlong most parts) (takes bytes ++ left)
  later-takes [] left a all = all
  later-takes (byte ∷ bytes) left a all =
      (before-along (takes (byte ∷ bytes) ++ left) (before-takes byte bytes left a), later-takes bytes left a all)

  -- ---- in the last part

  within-part : (acts : List Act) → Settled acts → ((l : ℕ) → length (sends_of l acts) ≤ parts l) → length (takes_of acts) < most
      → AllLater (IsAlong most parts) acts
  unfolding takes_of sends_of
  within-part _ settled few less = record { least = λ l h. let e = few l in omega (arith, e); less = λ l h. less }
  within-part _ (stepped {acts = acts} s) few less =
      (record { least = λ l h. let e = few l in omega (arith, e); less = λ l h. less }, within-part acts s few less)
  within-part _ (took {byte = byte} {acts = acts} s) few less =
      (record { least = λ l h. let e = few l in omega (arith, e); less = λ l h. less }, within-part acts s few (omega (arith, less)))
  within-part _ (sent_off {l = m} {byte = byte} {acts = acts} s) few less = (
    record { least = λ l h. let e = few l in omega (arith, e); less = λ l h. less },
    (record { least = λ l h. waiting (m == l) l (few l); less = λ l h. less }, within-part acts s (λ l. fewer (m == l) l (few l)) less),
  )
    where
      waiting : (test : Bool) (l : ℕ) → length (if test then byte ∷ sends_of l acts else sends_of l acts) ≤ parts l
          → (if test then 1 else 0) + length (sends_of l acts) ≤ parts l
      waiting true l h = omega (arith, h)
      waiting false l h = omega (arith, h)

      fewer : (test : Bool) (l : ℕ) → length (if test then byte ∷ sends_of l acts else sends_of l acts) ≤ parts l
          → length (sends_of l acts) ≤ parts l
      fewer true l h = omega (arith, h)
      fewer false l h = h

-- ---- the acts of a processor

-- its last part
abbrev last_acts : Site → Children Site → List Act
last_acts site below = forwards_acts nothing run_of below ++ run_acts site.image

abbrev pub last_count : Site → Children Site → ℕ
last_count site below = length (start_part (record { root = site; below = below }))

abbrev pub last_parts : Children Site → ℕ → ℕ
last_parts below l = length (part_at nothing run_of l below)

takes-last : (site : Site) (below : Children Site) → takes_of (last_acts site below) ≡ start_part (record { root = site; below = below })
unfolding wave
takes-last site below =
    takes_of-append (forwards_acts nothing run_of below) (run_acts site.image)
    ∙ cc (takes_of-forwards nothing run_of below, takes_of-run site.image)

sends-last : (site : Site) (below : Children Site) (l : ℕ) → sends_of l (last_acts site below) ≡ part_at nothing run_of l below
sends-last site below l =
    sends_of-append l (forwards_acts nothing run_of below) (run_acts site.image)
    ∙ (cc (sends_of-forwards nothing run_of l below, sends_of-run l site.image) ∙ append-nil (part_at nothing run_of l below))

settled-last : (site : Site) (below : Children Site) → Settled (last_acts site below)
settled-last site below = settled-append (settled-forwards nothing run_of below) (settled-run site.image)

-- it begins with a byte to take
first-taken : (bytes : List ℕ) (rest : List Act) → 0 < length bytes
    → (x : ℕ) × ((others : List Act) × (takes bytes ++ rest ≡ Takes x ∷ others))
first-taken [] rest some = absurd (omega (arith, some))
first-taken (byte ∷ bytes) rest some = (byte, (takes bytes ++ rest, refl))

last-begins : (site : Site) (below : Children Site) → (x : ℕ) × ((others : List Act) × (last_acts site below ≡ Takes x ∷ others))
unfolding forwards_acts command_bytes
last-begins site none = first-taken (run_command site.image.entry site.image.wptr) (steps 17) (omega arith)
last-begins site (child l here below others) =
    let bytes : List ℕ = part nothing run_of here below in
    let command : List ℕ = forward_command (out_channel_of l) (length bytes) in
    let middle : List Act = steps 7 ++ forward_loop ((length bytes - 1) / 128) l bytes in
    let rest : List Act = forwards_acts nothing run_of others ++ run_acts site.image in
    let e = first-taken command (middle ++ rest) (omega arith) in (
      e.0,
      (
        e.1.0,
        append_assoc (takes command ++ middle) (forwards_acts nothing run_of others) (run_acts site.image)
            ∙ (append_assoc (takes command) middle rest ∙ e.1.1),
      ),
    )

last-later : (site : Site) (below : Children Site) → AllLater (IsAlong (last_count site below) (last_parts below)) (last_acts site below)
unfolding takes_of sends_of
last-later site below =
    let start = last-begins site below in
    go start.0 start.1.0 start.1.1 (settled-last site below) (λ l. ap length (sends-last site below l)) (ap length (takes-last site below))
  where
    from : (x : ℕ) (others : List Act) → Settled (Takes x ∷ others)
        → ((l : ℕ) → length (sends_of l (Takes x ∷ others)) ≡ last_parts below l)
        → length (takes_of (Takes x ∷ others)) ≡ last_count site below
        → AllLater (IsAlong (last_count site below) (last_parts below)) (Takes x ∷ others)
    from x others (took s) sends count = (
      at-along (last_count site below) (last_parts below) (Takes x ∷ others) (record { count = count; all = sends; calm = λ l. refl }),
      within-part (last_count site below) (last_parts below) others s (λ l. let e = sends l in omega (arith, e)) (omega (arith, count)),
    )

    go : (x : ℕ) (others : List Act) → last_acts site below ≡ Takes x ∷ others → Settled (last_acts site below)
        → ((l : ℕ) → length (sends_of l (last_acts site below)) ≡ last_parts below l)
        → length (takes_of (last_acts site below)) ≡ last_count site below
        → AllLater (IsAlong (last_count site below) (last_parts below)) (last_acts site below)
    go x others is s sends count = subst (AllLater (IsAlong (last_count site below) (last_parts below))) (sym is)
        (from x others (subst Settled is s)
        (λ l. ap (λ acts. length (sends_of l acts)) (sym is) ∙ sends l) (ap (λ acts. length (takes_of acts)) (sym is) ∙ count))

at-last : (site : Site) (below : Children Site) → IsAt (last_count site below) (last_parts below) (last_acts site below)
at-last site below =
    record {
      count = ap length (takes-last site below);
      all = λ l. ap length (sends-last site below l);
      calm = settled-waits (settled-last site below);
    }

pub life-along : (site : Site) (below : Children Site) → AllLater (IsAlong (last_count site below) (last_parts below)) (life site below)
unfolding life command_bytes
life-along site below =
    let most : ℕ = last_count site below in
    let parts : ℕ → ℕ = last_parts below in
    let last : List Act = last_acts site below in
    let stepped_in = later-steps most parts 15 last (at-last site below) (last-later site below) in
    let taken_in = later-takes most parts nop_command (steps 15 ++ last) (at-steps most parts 15 last (at-last site below)) stepped_in in
    let before = before-takes most parts 3 (0 ∷ 0 ∷ 0 ∷ 0 ∷ 0 ∷ 0 ∷ 0 ∷ 0 ∷ 0 ∷ 0 ∷ 0 ∷ []) (steps 15 ++ last)
    (at-steps most parts 15 last (at-last site below)) in
    let front : List Act = loader_acts site.boot ++
    (loads_acts site.image.segments ++ (forwards_acts own_load nothing below ++ forwards_acts nothing nop_of below)) in
    let all = later-before most parts front (nop_acts ++ last) before taken_in in
    subst (AllLater (IsAlong most parts))
    (append_assoc (loader_acts site.boot) _ (nop_acts ++ last) ∙ ap (λ rest. loader_acts site.boot ++ rest)
    (append_assoc (loads_acts site.image.segments) _ (nop_acts ++ last) ∙ ap (λ rest. loads_acts site.image.segments ++ rest)
    (append_assoc (forwards_acts own_load nothing below) _ (nop_acts ++ last)))) all
