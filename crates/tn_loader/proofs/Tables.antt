-- The loader's listed bytes are its tables, assembled, and each row stands at its offset.
use Rattle.std.proofs.Common.{◌≡◌, ℕ, zero, suc, ◌<◌, length, map, refl, arith}
use Rattle.tn_prefix.specs.Coding.{coding, coding_up_to, coding_length}
use Rattle.tn_loader.specs.Instructions.{assembled_from, assembled, StandAtOffsets}
use Rattle.tn_loader.specs.Primary.{primary_table, primary_bytes}
use Rattle.tn_loader.specs.Secondary.{secondary_table, secondary_bytes}
use Rattle.tn_loader.proofs.Assembling.{starts, stand_at_offsets}

-- a fact of each of the four links
each_link : (P : ℕ → Type 0) → P 0 → P 1 → P 2 → P 3 → (k : ℕ) → k < 4 → P k
each_link P a b c d zero h = a
each_link P a b c d (suc zero) h = b
each_link P a b c d (suc (suc zero)) h = c
each_link P a b c d (suc (suc (suc zero))) h = d
each_link P a b c d (suc (suc (suc (suc k)))) h = absurd (omega arith)

-- the listed bytes of the primary are those of its table
pub assembled-primary_table : (k : ℕ) → k < 4 → assembled (primary_table k) ≡ primary_bytes k
unfolding primary_table primary_bytes assembled assembled_from coding coding_up_to coding_length
assembled-primary_table = each_link (λ k. assembled (primary_table k) ≡ primary_bytes k) refl refl refl refl

-- the rows of the primary stand where they say
pub primary_table_stands : (k : ℕ) → k < 4 → StandAtOffsets (primary_table k)
unfolding primary_table assembled_from coding coding_up_to coding_length starts
primary_table_stands = each_link (λ k. StandAtOffsets (primary_table k)) (stands 0 refl) (stands 1 refl) (stands 2 refl) (stands 3 refl)
  where
    stands : (k : ℕ) → map (λ r. r.offset) (primary_table k) ≡ starts 0 (primary_table k) → StandAtOffsets (primary_table k)
    stands k = stand_at_offsets (primary_table k)

-- the listed bytes of the secondary are those of its table
pub assembled-secondary_table : assembled secondary_table ≡ secondary_bytes
unfolding secondary_table secondary_bytes assembled assembled_from coding coding_up_to coding_length
assembled-secondary_table = refl

-- the rows of the secondary stand where they say
pub secondary_table_stands : StandAtOffsets secondary_table
unfolding secondary_table assembled_from coding coding_up_to coding_length starts
secondary_table_stands = stand_at_offsets secondary_table refl

-- the primary has 57 bytes
pub length-primary_bytes : (k : ℕ) → length (primary_bytes k) ≡ 57
unfolding primary_bytes
length-primary_bytes k = refl

-- the secondary has 55 bytes
pub length-secondary_bytes : length secondary_bytes ≡ 55
unfolding secondary_bytes
length-secondary_bytes = refl
