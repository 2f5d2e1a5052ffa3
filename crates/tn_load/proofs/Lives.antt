-- The lone run of a processor of a tree, from any power-up to its entry.
use Rattle.std.proofs.Common.{◌≡◌, ℕ, ◌+◌, ◌-◌, ◌<◌, ◌≤◌, ◌^◌, Bool, List, [], ◌∷◌, ◌++◌, refl, ◌∙◌, arith}
use Rattle.std.specs.Prelude.{length}
use Rattle.tn_mem.specs.Spaces.{Access}
use Rattle.tn_mem.specs.Sizes.{IsMemorySize}
use Rattle.tn_mem.specs.Memories.{put}
use Rattle.tn_mem.proofs.Puts.{IsInside, length-put}
use Rattle.tn_mem.proofs.Stored.{load-put_below}
use Rattle.tn_mem.proofs.Frames.{Changed, changed-none, changed-put, changed-wider, changed-more, load-changed_below}
use Rattle.tn_word.specs.Channels.{out_channel_of}
use Rattle.tn_loader.specs.Commands.{command_bytes}
use Rattle.tn_cpu.specs.declared.registers.Reg.TheVariants.{Word}
use Rattle.tn_cpu.specs.States.{below}
use Rattle.tn_node.specs.Nodes.{NodeState}
use Rattle.tn_load.specs.Inner.PlainSpaces.{IsPlainSpace}
use Rattle.tn_load.specs.Acts.{Act}
use Rattle.tn_load.specs.Inner.NodeActs.{Kept, Leads}
use Rattle.tn_load.specs.Inner.NodeActs.Leads.{done}
use Rattle.tn_load.proofs.Leading.{◌⨾◌, running, inputting}
use Rattle.tn_load.proofs.Moving.{engine, awake, asleep}
use Rattle.std.proofs.Common.{length-append}
use Rattle.std.specs.Prelude.{◌/◌}
use Rattle.std.proofs.Common.{length-append}
use Rattle.tn_loader.specs.Commands.{run_command, nop_command, forward_command}
use Rattle.tn_stream.specs.Images.{SegmentBytes, ImageBytes}
use Rattle.tn_stream.specs.Branches.{Children}
use Rattle.tn_stream.specs.Branches.Children.{none, child}
use Rattle.tn_stream.specs.Streams.{Site, own_load, wave_below, forwarded, nothing, nop_of, run_of}
use Rattle.tn_load.proofs.Commands.{IsTop, Serves, serves-load, changed-put_both}
use Rattle.tn_load.proofs.Starts.{serves-nop, runs, runs-changed}
use Rattle.tn_load.proofs.Forwards.{serves-forward}
use Rattle.tn_load.proofs.Bootstraps.{in_reset}
use Rattle.tn_load.proofs.Primaries.{HasTimers, Loads, loads}
use Rattle.tn_load.specs.Inner.Lives.{loader_acts, load_acts, loads_acts, forward_acts, nop_acts, run_acts, part, forwards_acts}
use Rattle.tn_load.specs.Inner.Lives.{with_segments, LieIn, Fits, AreLinked}

-- the same segments over memories that are the same but for the loader's region
pub length-with_segments : (segments : List SegmentBytes) (m : List ℕ) (size : ℕ) → length m ≡ size → LieIn size segments
    → length (with_segments segments m) ≡ size
unfolding with_segments
length-with_segments [] m size is lies = is
length-with_segments (s ∷ rest) m size is lies =
    length-with_segments rest (put m s.base s.bytes) size
    (length-put m s.base s.bytes (record { low = omega (arith, lies.0.low); high = omega (arith, lies.0.high) }) ∙ is) lies.1

changed-with_segments : (segments : List SegmentBytes) (m n : List ℕ) (from to size : ℕ) → length m ≡ size → LieIn size segments
    → Changed m n from to → Changed (with_segments segments m) (with_segments segments n) from to
unfolding with_segments
changed-with_segments [] m n from to size is lies c = c
changed-with_segments (s ∷ rest) m n from to size is lies c =
    let inside : IsInside m s.base (length s.bytes) = record { low = omega (arith, lies.0.low); high = omega (arith, lies.0.high) } in
    changed-with_segments rest (put m s.base s.bytes) (put n s.base s.bytes) from to size (length-put m s.base s.bytes inside ∙ is) lies.1
    (changed-put_both m n s.base from to s.bytes inside c)

-- one command after others
module _ {M : Type 0} (access : Access M) (space : List ℕ → M) (laws : IsPlainSpace access space) (Q : List ℕ → Type 0)
    (keeps : Kept Q 0x800001FC 0x80000400) (k : ℕ) (link : k < 4) where
  serves-segments : (comes : (x n : ℕ) → Kept Q x n) (segments : List SegmentBytes) (m : List ℕ) → IsTop k Q m → LieIn (length m) segments
      → Serves access space Q k (loads_acts segments) m (with_segments segments m)
  unfolding with_segments
  serves-segments comes [] m top lies = record { after = m; leads = done; top = top; changed = changed-none m 0x800001FC 0x80000400 }
  serves-segments comes (s ∷ rest) m top lies =
      let first : Serves access space Q k (load_acts s) m (put m s.base s.bytes) =
      serves-load access space laws Q keeps k link s.base s.bytes m top lies.0.some lies.0.low lies.0.high
      (comes s.base (s.base + length s.bytes)) in
      let inside : IsInside m s.base (length s.bytes) = record { low = omega (arith, lies.0.low); high = omega (arith, lies.0.high) } in
      let put_size : length (put m s.base s.bytes) ≡ length m = length-put m s.base s.bytes inside in
      let size : length first.after ≡ length m = first.changed.size ∙ put_size in
      let later : Serves access space Q k (loads_acts rest) first.after (with_segments rest first.after) =
      serves-segments comes rest first.after first.top (rw size lies.1) in
      record {
        after = later.after;
        leads = first.leads ⨾ later.leads;
        top = later.top;
        changed = changed-more (with_segments rest (put m s.base s.bytes)) (with_segments rest first.after) later.after 0x800001FC
            0x80000400 (changed-with_segments rest (put m s.base s.bytes) first.after 0x800001FC 0x80000400 (length m) put_size lies.1
            first.changed) later.changed;
      }

  -- a FORWARD to each child
  serves-forwards : {A : Type 0} (first last : A → List ℕ) (children : Children A) (m : List ℕ)
      → ((here : A) (below : Children A) → 0 < length (part first last here below)) → AreLinked children
      → length (wave_below first last children) < 2 ^ 31 → IsTop k Q m → Serves access space Q k (forwards_acts first last children) m m
  unfolding forwards_acts wave_below
  serves-forwards first last none m some linked few top =
      record { after = m; leads = done; top = top; changed = changed-none m 0x800001FC 0x80000400 }
  serves-forwards first last (child l here below others) m some linked few top =
      let bytes : List ℕ = part first last here below in
      let sizes = length-append (forwarded l bytes) (wave_below first last others) in
      let own = length-append (forward_command (out_channel_of l) (length bytes)) bytes in
      let all_few : length (forwarded l bytes ++ wave_below first last others) < 2 ^ 31 = few in
      let one_at_least : 0 < length bytes = some here below in
      let one : Serves access space Q k (forward_acts l bytes) m m =
      serves-forward access space laws Q keeps k link ((length bytes - 1) / 128) l bytes m linked.0 top (omega arith) (omega arith)
      (omega arith) in
      let later : Serves access space Q k (forwards_acts first last others) one.after one.after =
      serves-forwards first last others one.after some linked.1 (omega arith) one.top in
      record {
        after = later.after;
        leads = one.leads ⨾ later.leads;
        top = later.top;
        changed = changed-more m one.after later.after 0x800001FC 0x80000400 one.changed later.changed;
      }

-- every part of each wave has bytes
load-some : (here : Site) (below : Children Site) → 0 < length (part own_load nothing here below)
load-some here below = omega arith

sync-some : (here : Site) (below : Children Site) → 0 < length (part nothing nop_of here below)
unfolding command_bytes
sync-some here below = omega (arith, length-append (wave_below nothing nop_of below) nop_command)

pub start-some : (here : Site) (below : Children Site) → 0 < length (part nothing run_of here below)
unfolding command_bytes
start-some here below = omega (arith, length-append (wave_below nothing run_of below) (run_of here))

-- what the acts are up to its NOP's wave, and from there on
abbrev pub loading : Site → Children Site → List Act
loading site below = loader_acts site.boot ++ (loads_acts site.image.segments ++ forwards_acts own_load nothing below)

abbrev pub starting : Site → Children Site → List Act
starting site below = forwards_acts nothing nop_of below ++ (nop_acts ++ (forwards_acts nothing run_of below ++ run_acts site.image))

-- nothing is said of a memory
abbrev pub Any : List ℕ → Type 0
Any m = Unit {0}

-- the image is whole, and all else from LOAD_BASE on is as it was at power-up
abbrev pub Whole : ImageBytes → List ℕ → List ℕ → Type 0
Whole image m n = Changed (with_segments image.segments m) n 0x80000024 0x80000400

abbrev pub top_of : {M : Type 0} → (List ℕ → M) → ℕ → List ℕ → NodeState M
top_of space k m = inputting k (engine 0x80000200 12 0x80000200) (asleep space m)

abbrev pub at_entry : {M : Type 0} → (List ℕ → M) → ImageBytes → List ℕ → NodeState M
at_entry space image m = running (awake space (Word 0x80000131) (Word 0x80000200) (Word 0) 0 image.entry image.wptr m)

-- where a processor has come from its power-up, by its lone run: it stands at its entry, its image is
-- whole, both timer queues are empty, and all else from LOAD_BASE on is as it was; from the first
-- byte of its part of the second wave on the image is whole at each state
pub record Lives {M : Type 0} (access : Access M) (space : List ℕ → M) (error halt : Bool) (site : Site) (below : Children Site)
    (laws : IsPlainSpace access space) (m : List ℕ) : Type 0 where
  pub middle : List ℕ
  pub after : List ℕ
  pub first : Leads access space Any site.boot (loading site below) (in_reset access space laws site.boot error halt m)
      (top_of space site.boot middle)
  pub whole : Whole site.image m middle
  pub second : Leads access space (Whole site.image m) site.boot (starting site below) (top_of space site.boot middle)
      (at_entry space site.image after)
  pub timers : HasTimers after
  pub changed : Whole site.image m after

timers-kept : (m n : List ℕ) → HasTimers m → Changed m n 0x800001FC 0x80000400 → HasTimers n
timers-kept m n t c =
    record {
      high = load-changed_below m n 0x800001FC 0x80000400 0x80000024 c (omega arith) ∙ t.high;
      low = load-changed_below m n 0x800001FC 0x80000400 0x80000028 c (omega arith) ∙ t.low;
    }

timers-with_segments : (segments : List SegmentBytes) (m : List ℕ) (size : ℕ) → length m ≡ size → LieIn size segments → HasTimers m
    → HasTimers (with_segments segments m)
unfolding with_segments
timers-with_segments [] m size is lies t = t
timers-with_segments (s ∷ rest) m size is lies t =
    let inside : IsInside m s.base (length s.bytes) = record { low = omega (arith, lies.0.low); high = omega (arith, lies.0.high) } in
    let low_base : 0x80000400 ≤ s.base = lies.0.low in
    timers-with_segments rest (put m s.base s.bytes) size (length-put m s.base s.bytes inside ∙ is) lies.1 (record {
      high = load-put_below m s.base s.bytes 0x80000024 inside (omega arith) (omega arith) ∙ t.high;
      low = load-put_below m s.base s.bytes 0x80000028 inside (omega arith) (omega arith) ∙ t.low;
    })

-- the workspace of the loader is no part of an image
kept-whole : (image : ImageBytes) (m : List ℕ) → IsMemorySize (length (with_segments image.segments m))
    → Kept (Whole image m) 0x800001FC 0x80000400
kept-whole image m size n a bytes low high c =
    let inside : IsInside n a (length bytes) = record { low = omega arith; high = omega (arith, c.size, size.0) } in
    changed-more (with_segments image.segments m) n (put n a bytes) 0x80000024 0x80000400 c
    (changed-wider n (put n a bytes) a (a + length bytes) 0x80000024 0x80000400 (omega arith) high (changed-put n a bytes inside))

module _ {M : Type 0} (access : Access M) (space : List ℕ → M) (laws : IsPlainSpace access space) where
  wider : (m n : List ℕ) → Changed m n 0x800001FC 0x80000400 → Changed m n 0x80000024 0x80000400
  wider m n c = changed-wider m n 0x800001FC 0x80000400 0x80000024 0x80000400 (omega arith) (omega arith) c

  pub lives : (error halt : Bool) (site : Site) (below : Children Site) → site.boot < 4 → (m : List ℕ) → IsMemorySize (length m)
      → Fits (length m) site.image → AreLinked below → length (wave_below own_load nothing below) < 2 ^ 31
      → length (wave_below nothing nop_of below) < 2 ^ 31 → length (wave_below nothing run_of below) < 2 ^ 31
      → Lives access space error halt site below laws m
  lives error halt site below link m size fits linked few_load few_sync few_start =
      let k : ℕ = site.boot in
      let image : ImageBytes = site.image in
      let any : (from to : ℕ) → Kept Any from to = λ from to n a bytes low high q. tt in
      let keeps : Kept Any 0x800001FC 0x80000400 = any 0x800001FC 0x80000400 in
      let up : Loads access space laws Any (any 0x80000024 0x80000400) k link error halt m =
      loads access space laws Any (any 0x80000024 0x80000400) k link error halt m size tt in
      let m1 : List ℕ = up.after in
      let s1 : length m1 ≡ length m = up.changed.size in
      let lies1 : LieIn (length m1) image.segments = rw s1 fits.segments in
      let own : Serves access space Any k (loads_acts image.segments) m1 (with_segments image.segments m1) =
      serves-segments access space laws Any keeps k link any image.segments m1 up.top lies1 in
      let m2 : List ℕ = own.after in
      let others : Serves access space Any k (forwards_acts own_load nothing below) m2 m2 =
      serves-forwards access space laws Any keeps k link own_load nothing below m2 load-some linked few_load own.top in
      let m3 : List ℕ = others.after in
      let w : List ℕ = with_segments image.segments m1 in
      let target : List ℕ = with_segments image.segments m in
      let to_w : Changed target w 0x80000024 0x80000400 =
      changed-with_segments image.segments m m1 0x80000024 0x80000400 (length m) refl fits.segments up.changed in
      let c3 : Changed w m3 0x800001FC 0x80000400 = changed-more w m2 m3 0x800001FC 0x80000400 own.changed others.changed in
      let whole3 : Whole image m m3 = changed-more target w m3 0x80000024 0x80000400 to_w (wider w m3 c3) in
      let target_size : IsMemorySize (length target) = rw (length-with_segments image.segments m (length m) refl fits.segments) size in
      let keeps_whole : Kept (Whole image m) 0x800001FC 0x80000400 = kept-whole image m target_size in
      let top3 : IsTop k (Whole image m) m3 = record {
        ready = record { size = others.top.ready.size; code = others.top.ready.code; channel = others.top.ready.channel; holds = whole3 };
        saved = others.top.saved;
      } in
      let syncs : Serves access space (Whole image m) k (forwards_acts nothing nop_of below) m3 m3 =
      serves-forwards access space laws (Whole image m) keeps_whole k link nothing nop_of below m3 sync-some linked few_sync top3 in
      let m4 : List ℕ = syncs.after in
      let nop : Serves access space (Whole image m) k nop_acts m4 m4 =
      serves-nop access space laws (Whole image m) keeps_whole k link m4 syncs.top in
      let m5 : List ℕ = nop.after in
      let starts : Serves access space (Whole image m) k (forwards_acts nothing run_of below) m5 m5 =
      serves-forwards access space laws (Whole image m) keeps_whole k link nothing run_of below m5 start-some linked few_start
      nop.top in
      let m6 : List ℕ = starts.after in
      let m7 : List ℕ = put m6 0x80000200 (run_command image.entry image.wptr) in
      let runs_on = runs access space laws (Whole image m) keeps_whole k link image.entry image.wptr m6 starts.top fits.entry fits.wptr
      fits.aligned in
      let c6 : Changed m6 m7 0x800001FC 0x80000400 =
      runs-changed access space laws (Whole image m) keeps_whole k link image.entry image.wptr m6 starts.top in
      let c : Changed w m7 0x800001FC 0x80000400 =
      changed-more w m3 m7 0x800001FC 0x80000400 c3
      (changed-more m3 m4 m7 0x800001FC 0x80000400 syncs.changed
      (changed-more m4 m5 m7 0x800001FC 0x80000400 nop.changed
      (changed-more m5 m6 m7 0x800001FC 0x80000400 starts.changed c6))) in
      record {
        middle = m3;
        after = m7;
        first = up.leads ⨾ (own.leads ⨾ others.leads);
        whole = whole3;
        second = syncs.leads ⨾ (nop.leads ⨾ (starts.leads ⨾ runs_on));
        timers = timers-kept w m7 (timers-with_segments image.segments m1 (length m1) refl lies1 up.timers) c;
        changed = changed-more target w m7 0x80000024 0x80000400 to_w (wider w m7 c);
      }
