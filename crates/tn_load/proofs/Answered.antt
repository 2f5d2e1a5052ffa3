-- Behind each byte that a processor of a load tree sends comes its acknowledge, and nowhere else one.
use Rattle.std.proofs.Common.{◌≡◌, ℕ, zero, suc, ◌-◌, false, List, [], ◌∷◌, ◌++◌, length, take, drop, refl}
use Rattle.std.specs.Prelude.{◌/◌}
use Rattle.tn_word.specs.Words.{bytes_of_word}
use Rattle.tn_word.specs.Channels.{out_channel_of}
use Rattle.tn_loader.specs.Primary.{primary_bytes}
use Rattle.tn_loader.specs.Secondary.{secondary_bytes}
use Rattle.tn_loader.specs.Commands.{load_command, forward_command, run_command, nop_command}
use Rattle.tn_stream.specs.Images.{SegmentBytes, ImageBytes}
use Rattle.tn_stream.specs.Branches.{Children}
use Rattle.tn_stream.specs.Branches.Children.{none, child}
use Rattle.tn_stream.specs.Streams.{Site, own_load, nothing, nop_of, run_of}
use Rattle.tn_load.specs.Acts.{Act}
use Rattle.tn_load.specs.Acts.Act.{Step, Takes, Sends, Acks}
use Rattle.tn_load.specs.LoneRuns.{AreAnswered, is_waiting}
use Rattle.tn_load.specs.Inner.Lives.{takes, sends, steps, forward_loop, loader_acts, loads_acts}
use Rattle.tn_load.specs.Inner.Lives.{run_acts, part, forwards_acts, life}

-- each act that sends comes with its acknowledge
pub data Settled : List Act → Type 0 where
  settled : Settled []
  stepped : {acts : List Act} → Settled acts → Settled (Step ∷ acts)
  took : {byte : ℕ} {acts : List Act} → Settled acts → Settled (Takes byte ∷ acts)
  sent_off : {l byte : ℕ} {acts : List Act} → Settled acts → Settled (Sends l byte ∷ (Acks l ∷ acts))

pub settled-append : {xs ys : List Act} → Settled xs → Settled ys → Settled (xs ++ ys)
settled-append settled t = t
settled-append (stepped s) t = stepped (settled-append s t)
settled-append (took s) t = took (settled-append s t)
settled-append (sent_off s) t = sent_off (settled-append s t)

-- acts that come with their acknowledges begin with none
pub settled-waits : {acts : List Act} → Settled acts → (l : ℕ) → is_waiting l acts ≡ false
settled-waits settled l = refl
settled-waits (stepped s) l = refl
settled-waits (took s) l = refl
settled-waits (sent_off s) l = refl

pub settled-answered : {acts : List Act} → Settled acts → AreAnswered acts
settled-answered settled = tt
settled-answered (stepped s) = (settled-waits s, settled-answered s)
settled-answered (took s) = (settled-waits s, settled-answered s)
settled-answered (sent_off s) = (λ l. refl, (settled-waits s, settled-answered s))

settled-steps : (n : ℕ) → Settled (steps n)
settled-steps zero = settled
settled-steps (suc n) = stepped (settled-steps n)

settled-takes : (bytes : List ℕ) → Settled (takes bytes)
settled-takes [] = settled
settled-takes (byte ∷ bytes) = took (settled-takes bytes)

settled-sends : (l : ℕ) (bytes : List ℕ) → Settled (sends l bytes)
settled-sends l [] = settled
settled-sends l (byte ∷ bytes) = sent_off (settled-sends l bytes)

settled-loop : (q l : ℕ) (bytes : List ℕ) → Settled (forward_loop q l bytes)
unfolding forward_loop
settled-loop zero l bytes =
    settled-append (settled-steps 11) (settled-append (settled-takes bytes) (settled-append (settled-steps 4)
    (settled-append (settled-sends l bytes) (settled-steps 11))))
settled-loop (suc q) l bytes =
    settled-append (settled-steps 13) (settled-append (settled-takes (take 128 bytes)) (settled-append (settled-steps 4)
    (settled-append (settled-sends l (take 128 bytes)) (settled-append (settled-steps 9) (settled-loop q l (drop 128 bytes))))))

pub settled-forwards : {A : Type 0} (first last : A → List ℕ) (children : Children A) → Settled (forwards_acts first last children)
unfolding forwards_acts
settled-forwards first last none = settled
settled-forwards first last (child l here below others) =
    settled-append (settled-append (settled-takes (forward_command (out_channel_of l) (length (part first last here below))))
    (settled-append (settled-steps 7) (settled-loop ((length (part first last here below) - 1) / 128) l (part first last here below))))
    (settled-forwards first last others)

settled-loads : (segments : List SegmentBytes) → Settled (loads_acts segments)
settled-loads [] = settled
settled-loads (s ∷ rest) =
    settled-append (settled-append (settled-takes (load_command s.base (length s.bytes))) (settled-append (settled-steps 7)
    (settled-append (settled-takes s.bytes) (settled-steps 6)))) (settled-loads rest)

settled-loader : (k : ℕ) → Settled (loader_acts k)
settled-loader k =
    took (settled-append (settled-takes (primary_bytes k))
    (settled-append (settled-steps 33) (settled-append (settled-takes (bytes_of_word 55))
    (settled-append (settled-steps 9) (settled-append (settled-takes secondary_bytes) (settled-steps 19))))))

pub settled-run : (image : ImageBytes) → Settled (run_acts image)
settled-run image = settled-append (settled-takes (run_command image.entry image.wptr)) (settled-steps 17)

pub settled-life : (site : Site) (below : Children Site) → Settled (life site below)
unfolding life
settled-life site below =
    settled-append (settled-loader site.boot) (settled-append (settled-loads site.image.segments)
    (settled-append (settled-forwards own_load nothing below) (settled-append (settled-forwards nothing nop_of below)
    (settled-append (settled-append (settled-takes nop_command) (settled-steps 15)) (settled-append (settled-forwards nothing run_of below)
    (settled-run site.image))))))
