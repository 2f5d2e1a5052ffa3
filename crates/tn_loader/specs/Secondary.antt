-- The secondary loader, which the primary stores at 64 words above MostNeg and calls with the
-- workspace pointer at 128 words above it. It takes commands from the boot link until one of them
-- starts a program. Locals 0, 1 and 2 are the words of the command at hand, local 3 is the boot
-- link's input channel, local 4 the size of a chunk, and the chunk itself begins at local 5.
use Rattle.std.specs.Prelude.{ℕ, List, [], ◌∷◌}
use Rattle.tn_loader.specs.Instructions.{Row, row}
use Rattle.tn_loader.specs.Mnemonics.{j_to, ldlp, ldc, ldl, cj_to, eqc, stl, rev, diff, gcall, input, gt, output, gajw}

-- the instructions
unfoldable pub secondary_table : List Row
secondary_table =
    row 0 (ldlp 0 ∷ ldl 3 ∷ ldc 12 ∷ input ∷ [])
    ∷ row 4 (ldl 0 ∷ cj_to 49 ∷ [])
    ∷ row 7 (ldl 0 ∷ eqc 1 ∷ cj_to 39 ∷ [])
    ∷ row 11 (ldl 2 ∷ ldc 128 ∷ gt ∷ cj_to 20 ∷ [])
    ∷ row 16 (ldc 128 ∷ stl 4 ∷ j_to 22 ∷ [])
    ∷ row 20 (ldl 2 ∷ stl 4 ∷ [])
    ∷ row 22 (ldlp 5 ∷ ldl 3 ∷ ldl 4 ∷ input ∷ [])
    ∷ row 26 (ldlp 5 ∷ ldl 1 ∷ ldl 4 ∷ output ∷ [])
    ∷ row 30 (ldl 2 ∷ ldl 4 ∷ diff ∷ stl 2 ∷ [])
    ∷ row 34 (ldl 2 ∷ cj_to 0 ∷ j_to 11 ∷ [])
    ∷ row 39 (ldl 0 ∷ eqc 2 ∷ cj_to 0 ∷ [])
    ∷ row 43 (ldl 1 ∷ ldl 2 ∷ gajw ∷ rev ∷ gcall ∷ [])
    ∷ row 49 (ldl 1 ∷ ldl 3 ∷ ldl 2 ∷ input ∷ j_to 0 ∷ [])
    ∷ []

-- its bytes, a line for each row of the table
unfoldable pub secondary_bytes : List ℕ
secondary_bytes =
    0x10 ∷ 0x73 ∷ 0x4C ∷ 0xF7
    ∷ 0x70 ∷ 0x22 ∷ 0xAA
    ∷ 0x70 ∷ 0xC1 ∷ 0x21 ∷ 0xAC
    ∷ 0x72 ∷ 0x28 ∷ 0x40 ∷ 0xF9 ∷ 0xA4
    ∷ 0x28 ∷ 0x40 ∷ 0xD4 ∷ 0x02
    ∷ 0x72 ∷ 0xD4
    ∷ 0x15 ∷ 0x73 ∷ 0x74 ∷ 0xF7
    ∷ 0x15 ∷ 0x71 ∷ 0x74 ∷ 0xFB
    ∷ 0x72 ∷ 0x74 ∷ 0xF4 ∷ 0xD2
    ∷ 0x72 ∷ 0x62 ∷ 0xAB ∷ 0x61 ∷ 0x04
    ∷ 0x70 ∷ 0xC2 ∷ 0x62 ∷ 0xA5
    ∷ 0x71 ∷ 0x72 ∷ 0x23 ∷ 0xFC ∷ 0xF0 ∷ 0xF6
    ∷ 0x71 ∷ 0x73 ∷ 0x72 ∷ 0xF7 ∷ 0x63 ∷ 0x09 ∷ []
