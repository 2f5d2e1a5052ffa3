-- The primary bootstrap, which the T425 stores at MemStart as it comes by link k and then runs.
use Rattle.std.specs.Prelude.{ℕ, ◌+◌, List, [], ◌∷◌}
use Rattle.tn_loader.specs.Instructions.{Row, row}
use Rattle.tn_loader.specs.Mnemonics.{ldlp, ldc, ldnlp, ldl, ajw, stl, stnl, gcall, input, sthf, stlf, testerr, gajw, mint, sttimer}
use Rattle.tn_loader.specs.Mnemonics.{clrhalterr}

-- the instructions for a boot by link k, whose input channel is 4 + k words above MostNeg
unfoldable pub primary_table : ℕ → List Row
primary_table k =
    row 0 (ajw 4 ∷ [])
    ∷ row 1 (testerr ∷ clrhalterr ∷ [])
    ∷ row 5 (mint ∷ sthf ∷ mint ∷ stlf ∷ [])
    ∷ row 13 (mint ∷ sttimer ∷ [])
    ∷ row 17 (mint ∷ mint ∷ stnl 9 ∷ mint ∷ mint ∷ stnl 10 ∷ [])
    ∷ row 27 (ldlp 0 ∷ mint ∷ ldnlp (4 + k) ∷ ldc 4 ∷ input ∷ [])
    ∷ row 33 (mint ∷ ldnlp 64 ∷ mint ∷ ldnlp (4 + k) ∷ ldl 0 ∷ input ∷ [])
    ∷ row 42 (mint ∷ ldnlp 128 ∷ gajw ∷ [])
    ∷ row 48 (mint ∷ ldnlp (4 + k) ∷ stl 3 ∷ [])
    ∷ row 52 (mint ∷ ldnlp 64 ∷ gcall ∷ [])
    ∷ []

-- its bytes, a line for each row of the table
unfoldable pub primary_bytes : ℕ → List ℕ
primary_bytes k =
    0xB4
    ∷ 0x22 ∷ 0xF9 ∷ 0x25 ∷ 0xF7
    ∷ 0x24 ∷ 0xF2 ∷ 0x21 ∷ 0xF8 ∷ 0x24 ∷ 0xF2 ∷ 0x21 ∷ 0xFC
    ∷ 0x24 ∷ 0xF2 ∷ 0x25 ∷ 0xF4
    ∷ 0x24 ∷ 0xF2 ∷ 0x24 ∷ 0xF2 ∷ 0xE9 ∷ 0x24 ∷ 0xF2 ∷ 0x24 ∷ 0xF2 ∷ 0xEA
    ∷ 0x10 ∷ 0x24 ∷ 0xF2 ∷ (0x54 + k) ∷ 0x44 ∷ 0xF7
    ∷ 0x24 ∷ 0xF2 ∷ 0x24 ∷ 0x50 ∷ 0x24 ∷ 0xF2 ∷ (0x54 + k) ∷ 0x70 ∷ 0xF7
    ∷ 0x24 ∷ 0xF2 ∷ 0x28 ∷ 0x50 ∷ 0x23 ∷ 0xFC
    ∷ 0x24 ∷ 0xF2 ∷ (0x54 + k) ∷ 0xD3
    ∷ 0x24 ∷ 0xF2 ∷ 0x24 ∷ 0x50 ∷ 0xF6 ∷ []
