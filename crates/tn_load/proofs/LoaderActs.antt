-- What the acts of a processor take, send and weigh.
use Rattle.std.proofs.Common.{◌≡◌, ℕ, zero, suc, ◌+◌, ◌*◌, ◌-◌, ◌==◌, Bool, true, false, List, [], ◌∷◌, ◌++◌, length, take, drop, refl}
use Rattle.std.proofs.Common.{sym, ap, ◌∙◌, append_assoc, append-nil, length-append, arith}
use Rattle.std.specs.Prelude.{if◌then◌else◌, ◌/◌}
use Rattle.std.proofs.lemmas.List.{take-append-drop}
use Rattle.tn_word.specs.Channels.{out_channel_of}
use Rattle.tn_loader.specs.Primary.{primary_bytes}
use Rattle.tn_loader.specs.Secondary.{secondary_bytes}
use Rattle.tn_loader.specs.Commands.{command_bytes, load_command, forward_command, run_command, nop_command}
use Rattle.tn_stream.specs.Images.{SegmentBytes, ImageBytes}
use Rattle.tn_stream.specs.Lengths.{forward_steps}
use Rattle.tn_stream.specs.Branches.{Children}
use Rattle.tn_stream.specs.Branches.Children.{none, child}
use Rattle.tn_stream.specs.Streams.{Site, own_load, wave, wave_below, forwarded, loader, load_of, loads_of, load_part, sync_part}
use Rattle.tn_stream.specs.Streams.{start_part, nothing, nop_of, run_of}
use Rattle.tn_load.specs.Acts.{Act}
use Rattle.tn_load.specs.LoneRuns.{takes_of, sends_of, weight}
use Rattle.tn_load.specs.Acts.Act.{Step, Takes, Sends, Acks}
use Rattle.tn_load.specs.Inner.Lives.{takes, sends, steps, forward_loop, loader_acts, load_acts, loads_acts, forward_acts, nop_acts}
use Rattle.tn_load.specs.Inner.Lives.{run_acts, part, part_at, forwards_acts, life}

-- ---- what is taken

pub takes_of-append : (xs ys : List Act) → takes_of (xs ++ ys) ≡ takes_of xs ++ takes_of ys
unfolding takes_of
takes_of-append [] ys = refl
takes_of-append (Step ∷ xs) ys = takes_of-append xs ys
takes_of-append (Takes byte ∷ xs) ys = ap (λ (bytes : List ℕ). byte ∷ bytes) (takes_of-append xs ys)
takes_of-append (Sends l byte ∷ xs) ys = takes_of-append xs ys
takes_of-append (Acks l ∷ xs) ys = takes_of-append xs ys

pub takes_of-takes : (bytes : List ℕ) → takes_of (takes bytes) ≡ bytes
unfolding takes_of
takes_of-takes [] = refl
takes_of-takes (byte ∷ bytes) = ap (λ (rest : List ℕ). byte ∷ rest) (takes_of-takes bytes)

pub takes_of-steps : (n : ℕ) → takes_of (steps n) ≡ []
unfolding takes_of
takes_of-steps zero = refl
takes_of-steps (suc n) = takes_of-steps n

pub takes_of-sends : (l : ℕ) (bytes : List ℕ) → takes_of (sends l bytes) ≡ []
unfolding takes_of
takes_of-sends l [] = refl
takes_of-sends l (byte ∷ bytes) = takes_of-sends l bytes

-- bytes, and then what other acts take
then_takes : (bytes : List ℕ) (rest : List Act) → takes_of (takes bytes ++ rest) ≡ bytes ++ takes_of rest
then_takes bytes rest = takes_of-append (takes bytes) rest ∙ ap (λ (front : List ℕ). front ++ takes_of rest) (takes_of-takes bytes)

then_sends : (l : ℕ) (bytes : List ℕ) (rest : List Act) → takes_of (sends l bytes ++ rest) ≡ takes_of rest
then_sends l bytes rest = takes_of-append (sends l bytes) rest ∙ ap (λ (front : List ℕ). front ++ takes_of rest) (takes_of-sends l bytes)

then_steps : (n : ℕ) (rest : List Act) → takes_of (steps n ++ rest) ≡ takes_of rest
then_steps n rest = takes_of-append (steps n) rest ∙ ap (λ (front : List ℕ). front ++ takes_of rest) (takes_of-steps n)

pub takes_of-forward_loop : (q l : ℕ) (bytes : List ℕ) → takes_of (forward_loop q l bytes) ≡ bytes
unfolding forward_loop
takes_of-forward_loop zero l bytes = simp (then_steps, then_takes, then_sends, takes_of-steps, append-nil)
takes_of-forward_loop (suc q) l bytes = simp (
  then_steps,
  then_takes,
  then_sends,
  takes_of-forward_loop q l (drop 128 bytes),
  take-append-drop,
)

pub takes_of-forwards : {A : Type 0} (first last : A → List ℕ) (children : Children A)
    → takes_of (forwards_acts first last children) ≡ wave_below first last children
unfolding forwards_acts wave_below takes_of
takes_of-forwards first last none = refl
takes_of-forwards first last (child l here below others) =
    let bytes : List ℕ = part first last here below in
    takes_of-append (forward_acts l bytes) (forwards_acts first last others)
    ∙ (ap (λ (front : List ℕ). front ++ takes_of (forwards_acts first last others))
    (then_takes (forward_command (out_channel_of l) (length bytes)) (steps 7 ++ forward_loop ((length bytes - 1) / 128) l bytes)
    ∙ ap (λ (rest : List ℕ). forward_command (out_channel_of l) (length bytes) ++ rest)
    (takes_of-forward_loop ((length bytes - 1) / 128) l bytes))
    ∙ ap (λ (back : List ℕ). forwarded l bytes ++ back) (takes_of-forwards first last others))

pub takes_of-loads : (segments : List SegmentBytes) → takes_of (loads_acts segments) ≡ loads_of segments
unfolding takes_of
takes_of-loads [] = refl
takes_of-loads (s ∷ rest) =
    takes_of-append (load_acts s) (loads_acts rest)
    ∙ (ap (λ (front : List ℕ). front ++ takes_of (loads_acts rest))
    (then_takes (load_command s.base (length s.bytes)) (steps 7 ++ (takes s.bytes ++ steps 6))
    ∙ ap (λ (back : List ℕ). load_command s.base (length s.bytes) ++ back) (then_takes s.bytes (steps 6) ∙ append-nil s.bytes))
    ∙ ap (λ (back : List ℕ). load_of s ++ back) (takes_of-loads rest))

joined : (xs ys : List Act) (a b : List ℕ) → takes_of xs ≡ a → takes_of ys ≡ b → takes_of (xs ++ ys) ≡ a ++ b
joined xs ys a b e f = takes_of-append xs ys ∙ cc

pub takes_of-loader : (k : ℕ) → takes_of (loader_acts k) ≡ loader k
unfolding takes_of primary_bytes secondary_bytes
takes_of-loader k = refl

pub takes_of-nop : takes_of nop_acts ≡ nop_command
unfolding takes_of command_bytes
takes_of-nop = refl

pub takes_of-run : (image : ImageBytes) → takes_of (run_acts image) ≡ run_command image.entry image.wptr
unfolding takes_of command_bytes
takes_of-run image = refl

arranged : (a b c d e f g : List ℕ) → a ++ (b ++ (c ++ (d ++ (e ++ (f ++ g))))) ≡ (a ++ b ++ c ++ []) ++ (d ++ e) ++ (f ++ g)
arranged a b c d e f g = simp (append_assoc, append-nil)

-- a processor takes its part of the stream
pub takes_of-life : (site : Site) (below : Children Site)
    → takes_of (life site below) ≡ load_part (record { root = site; below = below }) ++ sync_part (record { root = site; below = below })
    ++ start_part (record { root = site; below = below })
unfolding life wave
takes_of-life site below =
    let image : ImageBytes = site.image in
    joined (loader_acts site.boot) _ (loader site.boot) _ (takes_of-loader site.boot)
    (joined (loads_acts image.segments) _ (loads_of image.segments) _ (takes_of-loads image.segments)
    (joined (forwards_acts own_load nothing below) _ (wave_below own_load nothing below) _ (takes_of-forwards own_load nothing below)
    (joined (forwards_acts nothing nop_of below) _ (wave_below nothing nop_of below) _ (takes_of-forwards nothing nop_of below)
    (joined nop_acts _ nop_command _ takes_of-nop
    (joined (forwards_acts nothing run_of below) (run_acts image) (wave_below nothing run_of below) (run_command image.entry image.wptr)
    (takes_of-forwards nothing run_of below) (takes_of-run image))))))
    ∙ arranged (loader site.boot) (loads_of image.segments) (wave_below own_load nothing below) (wave_below nothing nop_of below)
    nop_command (wave_below nothing run_of below) (run_command image.entry image.wptr)

-- ---- what is sent by a link

pub sends_of-append : (l : ℕ) (xs ys : List Act) → sends_of l (xs ++ ys) ≡ sends_of l xs ++ sends_of l ys
unfolding sends_of
sends_of-append l [] ys = refl
sends_of-append l (Step ∷ xs) ys = sends_of-append l xs ys
sends_of-append l (Takes byte ∷ xs) ys = sends_of-append l xs ys
sends_of-append l (Sends link byte ∷ xs) ys = go (sends_of-append l xs ys) (link == l)
  where
    go : sends_of l (xs ++ ys) ≡ sends_of l xs ++ sends_of l ys → (test : Bool)
        → (if test then byte ∷ sends_of l (xs ++ ys) else sends_of l (xs ++ ys)) ≡ (if test then byte ∷ sends_of l xs else sends_of l xs)
        ++ sends_of l ys
    go rest true = ap (λ (bytes : List ℕ). byte ∷ bytes) rest
    go rest false = rest
sends_of-append l (Acks link ∷ xs) ys = sends_of-append l xs ys

pub sends_of-takes : (l : ℕ) (bytes : List ℕ) → sends_of l (takes bytes) ≡ []
unfolding sends_of
sends_of-takes l [] = refl
sends_of-takes l (byte ∷ bytes) = sends_of-takes l bytes

pub sends_of-steps : (l n : ℕ) → sends_of l (steps n) ≡ []
unfolding sends_of
sends_of-steps l zero = refl
sends_of-steps l (suc n) = sends_of-steps l n

pub sends_of-same : (l m : ℕ) (bytes : List ℕ) → m == l ≡ true → sends_of l (sends m bytes) ≡ bytes
unfolding sends_of
sends_of-same l m [] same = refl
sends_of-same l m (byte ∷ bytes) same = rw same (ap (λ (rest : List ℕ). byte ∷ rest) (sends_of-same l m bytes same))

pub sends_of-other : (l m : ℕ) (bytes : List ℕ) → m == l ≡ false → sends_of l (sends m bytes) ≡ []
unfolding sends_of
sends_of-other l m [] other = refl
sends_of-other l m (byte ∷ bytes) other = rw other (sends_of-other l m bytes other)

sends_joined : (l : ℕ) (xs ys : List Act) (a b : List ℕ) → sends_of l xs ≡ a → sends_of l ys ≡ b → sends_of l (xs ++ ys) ≡ a ++ b
sends_joined l xs ys a b e f = sends_of-append l xs ys ∙ cc

sends_of-forward_loop : (l : ℕ) (f : List ℕ → List ℕ) (test : Bool) (m : ℕ)
    → ((bytes : List ℕ) → sends_of l (sends m bytes) ≡ (if test then bytes else [])) → (q : ℕ) (bytes : List ℕ)
    → sends_of l (forward_loop q m bytes) ≡ (if test then bytes else [])
unfolding forward_loop
sends_of-forward_loop l f test m each zero bytes =
    sends_joined l (steps 11) _ [] _ (sends_of-steps l 11)
    (sends_joined l (takes bytes) _ [] _ (sends_of-takes l bytes)
    (sends_joined l (steps 4) _ [] _ (sends_of-steps l 4)
    (sends_joined l (sends m bytes) (steps 11) (if test then bytes else []) [] (each bytes) (sends_of-steps l 11))))
    ∙ append-nil (if test then bytes else [])
sends_of-forward_loop l f test m each (suc q) bytes =
    sends_joined l (steps 13) _ [] _ (sends_of-steps l 13)
    (sends_joined l (takes (take 128 bytes)) _ [] _ (sends_of-takes l (take 128 bytes))
    (sends_joined l (steps 4) _ [] _ (sends_of-steps l 4)
    (sends_joined l (sends m (take 128 bytes)) _ (if test then take 128 bytes else []) (if test then drop 128 bytes else [])
    (each (take 128 bytes))
    (sends_joined l (steps 9) (forward_loop q m (drop 128 bytes)) [] (if test then drop 128 bytes else []) (sends_of-steps l 9)
    (sends_of-forward_loop l f test m each q (drop 128 bytes))))))
    ∙ both test
  where
    both : (t : Bool) → (if t then take 128 bytes else []) ++ (if t then drop 128 bytes else []) ≡ (if t then bytes else [])
    both true = take-append-drop 128 bytes
    both false = refl

each_test : (l m : ℕ) (test : Bool) → m == l ≡ test → (bytes : List ℕ) → sends_of l (sends m bytes) ≡ (if test then bytes else [])
each_test l m true e bytes = sends_of-same l m bytes e
each_test l m false e bytes = sends_of-other l m bytes e

sends_of-command : (l op x n : ℕ) → sends_of l (takes (command_bytes op x n)) ≡ []
sends_of-command l op x n = sends_of-takes l (command_bytes op x n)

pub sends_of-forwards : {A : Type 0} (first last : A → List ℕ) (l : ℕ) (children : Children A)
    → sends_of l (forwards_acts first last children) ≡ part_at first last l children
unfolding forwards_acts part_at sends_of
sends_of-forwards first last l none = refl
sends_of-forwards first last l (child m here below others) =
    let bytes : List ℕ = part first last here below in
    let q : ℕ = (length bytes - 1) / 128 in
    sends_joined l (forward_acts m bytes) (forwards_acts first last others) (if m == l then bytes else []) (part_at first last l others)
    (sends_joined l (takes (forward_command (out_channel_of m) (length bytes))) _ [] _
    (sends_of-takes l (forward_command (out_channel_of m) (length bytes)))
    (sends_joined l (steps 7) (forward_loop q m bytes) [] (if m == l then bytes else []) (sends_of-steps l 7)
    (sends_of-forward_loop l (λ x. x) (m == l) m (each_test l m (m == l) refl) q bytes)))
    (sends_of-forwards first last l others)

sends_of-loads : (l : ℕ) (segments : List SegmentBytes) → sends_of l (loads_acts segments) ≡ []
unfolding sends_of
sends_of-loads l [] = refl
sends_of-loads l (s ∷ rest) =
    sends_joined l (load_acts s) (loads_acts rest) [] []
    (sends_joined l (takes (load_command s.base (length s.bytes))) (steps 7 ++ (takes s.bytes ++ steps 6)) [] []
    (sends_of-takes l (load_command s.base (length s.bytes)))
    (sends_joined l (steps 7) (takes s.bytes ++ steps 6) [] [] (sends_of-steps l 7)
    (sends_joined l (takes s.bytes) (steps 6) [] [] (sends_of-takes l s.bytes) (sends_of-steps l 6))))
    (sends_of-loads l rest)

sends_of-loader : (l k : ℕ) → sends_of l (loader_acts k) ≡ []
unfolding sends_of primary_bytes secondary_bytes
sends_of-loader l k = refl

sends_of-nop : (l : ℕ) → sends_of l nop_acts ≡ []
unfolding sends_of command_bytes
sends_of-nop l = refl

pub sends_of-run : (l : ℕ) (image : ImageBytes) → sends_of l (run_acts image) ≡ []
unfolding sends_of command_bytes
sends_of-run l image = refl

-- by each link a processor sends what the child there gets, and nothing by any other link
pub sends_of-life : (l : ℕ) (site : Site) (below : Children Site)
    → sends_of l (life site below) ≡ part_at own_load nothing l below ++
    (part_at nothing nop_of l below ++ part_at nothing run_of l below)
unfolding life
sends_of-life l site below =
    let image : ImageBytes = site.image in
    let x : List ℕ = part_at own_load nothing l below in
    let y : List ℕ = part_at nothing nop_of l below in
    let z : List ℕ = part_at nothing run_of l below in
    sends_joined l (loader_acts site.boot) _ [] (x ++ (y ++ ([] ++ (z ++ [])))) (sends_of-loader l site.boot)
    (sends_joined l (loads_acts image.segments) _ [] _ (sends_of-loads l image.segments)
    (sends_joined l (forwards_acts own_load nothing below) _ x _ (sends_of-forwards own_load nothing l below)
    (sends_joined l (forwards_acts nothing nop_of below) _ y _ (sends_of-forwards nothing nop_of l below)
    (sends_joined l nop_acts _ [] _ (sends_of-nop l)
    (sends_joined l (forwards_acts nothing run_of below) (run_acts image) z [] (sends_of-forwards nothing run_of l below)
    (sends_of-run l image))))))
    ∙ rw (append-nil z) refl

-- ---- how many picks

pub weight-append : (xs ys : List Act) → weight (xs ++ ys) ≡ weight xs + weight ys
unfolding weight
weight-append [] ys = omega arith
weight-append (Step ∷ xs) ys = let e = weight-append xs ys in omega arith
weight-append (Takes byte ∷ xs) ys = let e = weight-append xs ys in omega arith
weight-append (Sends link byte ∷ xs) ys = let e = weight-append xs ys in omega arith
weight-append (Acks link ∷ xs) ys = let e = weight-append xs ys in omega arith

pub weight-takes : (bytes : List ℕ) → weight (takes bytes) ≡ length bytes
unfolding weight
weight-takes [] = refl
weight-takes (byte ∷ bytes) = let e = weight-takes bytes in omega arith

pub weight-sends : (l : ℕ) (bytes : List ℕ) → weight (sends l bytes) ≡ length bytes
unfolding weight
weight-sends l [] = refl
weight-sends l (byte ∷ bytes) = let e = weight-sends l bytes in omega arith

pub weight-steps : (n : ℕ) → weight (steps n) ≡ n
unfolding weight
weight-steps zero = refl
weight-steps (suc n) = let e = weight-steps n in omega arith

weighs : (xs ys : List Act) (a b : ℕ) → weight xs ≡ a → weight ys ≡ b → weight (xs ++ ys) ≡ a + b
weighs xs ys a b e f = weight-append xs ys ∙ cc

weight-forward_loop : (q l : ℕ) (bytes : List ℕ) → weight (forward_loop q l bytes) ≡ 2 * length bytes + 26 + 26 * q
unfolding forward_loop
weight-forward_loop zero l bytes =
    let e = weighs (steps 11) _ 11 _ (weight-steps 11)
    (weighs (takes bytes) _ (length bytes) _ (weight-takes bytes)
    (weighs (steps 4) _ 4 _ (weight-steps 4) (weighs (sends l bytes) (steps 11) (length bytes) 11 (weight-sends l bytes)
    (weight-steps 11)))) in
    omega arith
weight-forward_loop (suc q) l bytes =
    let front : List ℕ = take 128 bytes in
    let rest : List ℕ = drop 128 bytes in
    let whole : length front + length rest ≡ length bytes = sym (length-append front rest) ∙ ap length (take-append-drop 128 bytes) in
    let e = weighs (steps 13) _ 13 _ (weight-steps 13)
    (weighs (takes front) _ (length front) _ (weight-takes front)
    (weighs (steps 4) _ 4 _ (weight-steps 4) (weighs (sends l front) _ (length front) _ (weight-sends l front)
    (weighs (steps 9) (forward_loop q l rest) 9 (2 * length rest + 26 + 26 * q) (weight-steps 9) (weight-forward_loop q l rest))))) in
    omega arith

pub weight-forward : (l : ℕ) (bytes : List ℕ) → weight (forward_acts l bytes) ≡ 12 + 2 * length bytes + forward_steps (length bytes)
unfolding command_bytes
weight-forward l bytes =
    let q : ℕ = (length bytes - 1) / 128 in
    let e = weighs (takes (forward_command (out_channel_of l) (length bytes))) _ 12 _
    (weight-takes (forward_command (out_channel_of l) (length bytes)))
    (weighs (steps 7) (forward_loop q l bytes) 7 (2 * length bytes + 26 + 26 * q) (weight-steps 7) (weight-forward_loop q l bytes)) in
    omega arith
