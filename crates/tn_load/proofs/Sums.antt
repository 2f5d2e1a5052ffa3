-- How many picks the acts of a processor are: what it receives, its own steps, and what it sends.
use Rattle.std.proofs.Common.{◌≡◌, ℕ, ◌+◌, ◌*◌, List, [], ◌∷◌, ◌++◌, length, refl, ap, ◌∙◌, append-nil, length-append, arith}
use Rattle.tn_word.specs.Channels.{out_channel_of}
use Rattle.tn_loader.specs.Primary.{primary_bytes}
use Rattle.tn_loader.specs.Secondary.{secondary_bytes}
use Rattle.tn_loader.specs.Commands.{command_bytes, load_command, forward_command, run_command, nop_command}
use Rattle.tn_stream.specs.Images.{SegmentBytes, ImageBytes}
use Rattle.tn_stream.specs.Lengths.{bytes_received, forward_steps}
use Rattle.tn_stream.specs.Branches.{Children}
use Rattle.tn_stream.specs.Branches.Children.{none, child}
use Rattle.tn_stream.specs.Streams.{Site, own_load, wave, wave_below, loader, load_of, loads_of, nothing, nop_of, run_of}
use Rattle.tn_load.specs.Acts.{Act}
use Rattle.tn_load.specs.LoneRuns.{weight}
use Rattle.tn_load.specs.Inner.Lives.{takes, steps, loader_acts, load_acts, loads_acts, forward_acts, nop_acts, run_acts, part}
use Rattle.tn_load.specs.Inner.Lives.{forwards_acts, life}
use Rattle.tn_load.proofs.LoaderActs.{weight-append, weight-takes, weight-steps, weight-forward}

weighs : (xs ys : List Act) (a b : ℕ) → weight xs ≡ a → weight ys ≡ b → weight (xs ++ ys) ≡ a + b
weighs xs ys a b e f = weight-append xs ys ∙ cc

-- the steps of the FORWARDs to the children of one wave
unfoldable pub forwards_steps : {A : Type 0} → (A → List ℕ) → (A → List ℕ) → Children A → ℕ
forwards_steps first last none = 0
forwards_steps first last (child link here below others) =
    forward_steps (length (part first last here below)) + forwards_steps first last others

-- a processor's own steps
abbrev pub own_steps : Site → Children Site → ℕ
own_steps site below =
    57 + 13 * length site.image.segments + 36
    + (forwards_steps own_load nothing below + forwards_steps nothing nop_of below + forwards_steps nothing run_of below)

-- the bytes that go to the children in one wave, and in all
unfoldable pub sent_below : {A : Type 0} → (A → List ℕ) → (A → List ℕ) → Children A → ℕ
sent_below first last none = 0
sent_below first last (child link here below others) = length (part first last here below) + sent_below first last others

load-length : (x n : ℕ) → length (load_command x n) ≡ 12
unfolding command_bytes
load-length x n = refl

command-length : (x n : ℕ) → length (forward_command x n) ≡ 12
unfolding command_bytes
command-length x n = refl

weight-forwards : {A : Type 0} (first last : A → List ℕ) (children : Children A)
    → weight (forwards_acts first last children) ≡ length (wave_below first last children) + sent_below first last children +
    forwards_steps first last children
unfolding forwards_acts wave_below sent_below forwards_steps weight
weight-forwards first last none = refl
weight-forwards first last (child l here below others) =
    let bytes : List ℕ = part first last here below in
    let command : List ℕ = forward_command (out_channel_of l) (length bytes) in
    let e = weighs (forward_acts l bytes) (forwards_acts first last others) (12 + 2 * length bytes + forward_steps (length bytes)) _
    (weight-forward l bytes) (weight-forwards first last others) in
    let size : length (command ++ bytes ++ wave_below first last others) ≡ length command + length bytes + length
    (wave_below first last others) = length-append (command ++ bytes) (wave_below first last others)
    ∙ ap (λ n. n + length (wave_below first last others)) (length-append command bytes) in
    let twelve : length command ≡ 12 = command-length (out_channel_of l) (length bytes) in
    e ∙ omega arith

weight-loads : (segments : List SegmentBytes) → weight (loads_acts segments) ≡ length (loads_of segments) + 13 * length segments
unfolding weight
weight-loads [] = refl
weight-loads (s ∷ rest) =
    let n : ℕ = length s.bytes in
    let own : weight (load_acts s) ≡ 12 + (7 + (n + 6)) =
    weighs (takes (load_command s.base n)) (steps 7 ++ (takes s.bytes ++ steps 6)) 12 (7 + (n + 6))
    (weight-takes (load_command s.base n) ∙ load-length s.base n)
    (weighs (steps 7) (takes s.bytes ++ steps 6) 7 (n + 6) (weight-steps 7)
    (weighs (takes s.bytes) (steps 6) n 6 (weight-takes s.bytes) (weight-steps 6))) in
    let e : weight (load_acts s ++ loads_acts rest) ≡ 12 + (7 + (n + 6)) + (length (loads_of rest) + 13 * length rest) =
    weighs (load_acts s) (loads_acts rest) (12 + (7 + (n + 6))) (length (loads_of rest) + 13 * length rest) own (weight-loads rest) in
    let size : length (load_of s ++ loads_of rest) ≡ 12 + n + length (loads_of rest) =
    omega (arith, length-append (load_of s) (loads_of rest), length-append (load_command s.base n) s.bytes, load-length s.base n) in
    e ∙ omega arith

weight-loader : (k : ℕ) → weight (loader_acts k) ≡ length (loader k) + 61
unfolding weight primary_bytes secondary_bytes
weight-loader k = refl

weight-nop : weight nop_acts ≡ length nop_command + 15
unfolding weight command_bytes
weight-nop = refl

weight-run : (image : ImageBytes) → weight (run_acts image) ≡ length (run_command image.entry image.wptr) + 17
unfolding weight command_bytes
weight-run image = refl

abbrev pub sent : Children Site → ℕ
sent below = sent_below own_load nothing below + sent_below nothing nop_of below + sent_below nothing run_of below

-- what a processor's lone run weighs: what it receives, its own steps, and what it sends
pub weight-life : (site : Site) (below : Children Site)
    → weight (life site below) ≡ bytes_received (record { root = site; below = below }) + own_steps site below + sent below
unfolding life wave
weight-life site below =
    let image : ImageBytes = site.image in
    let a = weighs (forwards_acts nothing run_of below) (run_acts image) _ _ (weight-forwards nothing run_of below) (weight-run image) in
    let b = weighs nop_acts (forwards_acts nothing run_of below ++ run_acts image) _ _ weight-nop a in
    let c = weighs (forwards_acts nothing nop_of below) (nop_acts ++ (forwards_acts nothing run_of below ++ run_acts image)) _ _
    (weight-forwards nothing nop_of below) b in
    let d = weighs (forwards_acts own_load nothing below)
    (forwards_acts nothing nop_of below ++ (nop_acts ++ (forwards_acts nothing run_of below ++ run_acts image))) _ _
    (weight-forwards own_load nothing below) c in
    let e = weighs (loads_acts image.segments)
    (forwards_acts own_load nothing below ++ (forwards_acts nothing nop_of below ++
    (nop_acts ++ (forwards_acts nothing run_of below ++ run_acts image)))) _ _ (weight-loads image.segments) d in
    let f = weighs (loader_acts site.boot) (loads_acts image.segments ++
    (forwards_acts own_load nothing below ++ (forwards_acts nothing nop_of below ++
    (nop_acts ++ (forwards_acts nothing run_of below ++ run_acts image))))) _ _ (weight-loader site.boot) e in
    let load_size : length (loader site.boot ++ loads_of image.segments ++ wave_below own_load nothing below ++ []) ≡ length
    (loader site.boot) + length (loads_of image.segments) + length (wave_below own_load nothing below) =
    three (loader site.boot) (loads_of image.segments) (wave_below own_load nothing below) in
    let sync_size : length (wave_below nothing nop_of below ++ nop_command) ≡ length (wave_below nothing nop_of below) + length
    nop_command = length-append (wave_below nothing nop_of below) nop_command in
    let start_size : length (wave_below nothing run_of below ++ run_of site) ≡ length (wave_below nothing run_of below) + length
    (run_of site) = length-append (wave_below nothing run_of below) (run_of site) in
    f ∙ omega arith
  where
    three : (x y z : List ℕ) → length (x ++ y ++ z ++ []) ≡ length x + length y + length z
    three x y z = simp (append-nil, length-append) refl
