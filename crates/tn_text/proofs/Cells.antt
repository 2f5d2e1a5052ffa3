-- The cells of a name.
use Rattle.std.proofs.Common.{◌≡◌, ℕ, ◌-◌, ◌≤◌, List, ◌++◌, length, drop, replicate, refl, true, arith, length-append}
use Rattle.std.proofs.lemmas.List.{drop-replicate, length-replicate}
use Rattle.std.proofs.Math.Seq.{take-append_seam, drop-append_seam}
use Rattle.tn_text.specs.declared.limits.TheConstants.{NAME_LIMIT}
use Rattle.tn_text.specs.Names.{is_name}
use Rattle.tn_text.specs.Inner.HeldNames.{IsHeldName, cells_of}

-- bytes that were copied over zeros
pub cells-copied : (bytes copy : List ℕ) → copy ≡ bytes → length bytes ≤ NAME_LIMIT
    → copy ++ drop (length bytes) (replicate {A = ℕ} NAME_LIMIT 0) ≡ cells_of bytes
cells-copied bytes copy e h = rw (e, drop-replicate {X = ℕ} (length bytes) NAME_LIMIT 0) refl

-- a name's cells
pub held : (bytes : List ℕ) → is_name bytes ≡ true → length bytes ≤ NAME_LIMIT → IsHeldName (cells_of bytes) (length bytes)
held bytes valid short = record {
  valid = rw take-append_seam valid;
  short = short;
  room = omega (
    arith,
    length-append bytes (replicate (NAME_LIMIT - length bytes) 0),
    length-replicate {A = ℕ}
        (NAME_LIMIT - length bytes) 0,
  );
  clear = drop-append_seam bytes (replicate (NAME_LIMIT - length bytes) 0);
}
