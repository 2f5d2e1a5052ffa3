-- The stream of one processor.
use Rattle.std.proofs.Common.{◌≡◌, ℕ, ◌+◌, List, ◌++◌, length, length-append, ap, ◌∙◌, arith}
use Rattle.std.proofs.lemmas.Grind.{common_steps}
use Rattle.tn_word.specs.Words.{bytes_of_word}
use Rattle.tn_loader.specs.Primary.{primary_bytes}
use Rattle.tn_loader.specs.Secondary.{secondary_bytes}
use Rattle.tn_loader.specs.Commands.{run_command, nop_command}
use Rattle.tn_loader.proofs.CommandWords.{length-command_bytes}
use Rattle.tn_loader.proofs.Tables.{length-primary_bytes, length-secondary_bytes}
use Rattle.tn_stream.specs.Branches.{alone}
use Rattle.tn_stream.specs.Streams.{Site, wave, wave_below, loader, loads_of, stream}

-- what a tree of one node gets
pub wave-alone : {A : Type 0} (first last : A → List ℕ) (here : A) → wave first last (alone here) ≡ first here ++ last here
unfolding wave wave_below
wave-alone first last here = grind (arith, common_steps)

-- the stream of one processor: its own load, the command that does nothing, and the command to start
pub stream-alone : (site : Site) → stream (alone site) ≡ ((loader site.boot ++ loads_of site.image.segments) ++ nop_command)
    ++ run_command site.image.entry site.image.wptr
unfolding stream wave wave_below
stream-alone site = grind (arith, common_steps)

-- the bytes of the loader
pub length-loader : (k : ℕ) → length (loader k) ≡ 117
length-loader k =
    grind (
      arith,
      length-append (primary_bytes k ++ bytes_of_word 55) secondary_bytes,
      length-append (primary_bytes k) (bytes_of_word 55),
      length-primary_bytes k,
      length-secondary_bytes,
    )

-- how many bytes the stream of one processor has
pub length-stream_alone : (site : Site) → length (stream (alone site)) ≡ 141 + length (loads_of site.image.segments)
length-stream_alone site =
    let own = loader site.boot ++ loads_of site.image.segments in
    let run = run_command site.image.entry site.image.wptr in
    let sizes = length-append (loader site.boot) (loads_of site.image.segments) in
    let and_nop = length-append own nop_command in
    let and_run = length-append (own ++ nop_command) run in
    ap length (stream-alone site) ∙ omega (
      arith,
      sizes,
      and_nop,
      and_run,
      length-loader site.boot,
      length-command_bytes 3 0 0,
      length-command_bytes 2 site.image.entry site.image.wptr,
    )
