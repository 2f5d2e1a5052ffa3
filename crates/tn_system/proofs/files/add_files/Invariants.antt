use Rattle.std.proofs.Common.{◌≡◌, fold, map, take}
use Rattle.tn_system.specs.Sources.{with_file, place_of}
use Rattle.tn_system.proofs.files.add_files.Given as goal

abbrev pub invariant-loop-file : goal.invariant-loop-file
invariant-loop-file l =
    (l.files.keys ≡ fold with_file l.initial.files.keys (take l.file-index l.named))
    × (l.places.items ≡ map (place_of l.files.keys) (take l.file-index l.named))
