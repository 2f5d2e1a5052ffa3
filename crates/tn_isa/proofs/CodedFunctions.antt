-- Functions that can be coded with an operand.
use Rattle.std.proofs.Common.{◌≡◌, ◌≢◌, Bool, true, not, Contains, refl}
use Rattle.std.proofs.lemmas.Bool.{not-true}
use Rattle.std.proofs.lemmas.List.Sums.{AllPass-from_list_all}
use Rattle.std.proofs.lemmas.List.Elements.{All-contains}
use Rattle.tn_isa.specs.declared.functions.Fun.{Fun}
use Rattle.tn_isa.specs.declared.functions.Fun.TheVariants.{J, Ldlp, Pfix, Ldnl, Ldc, Ldnlp, Nfix, Ldl, Adc, Call, Cj, Ajw, Eqc, Stl}
use Rattle.tn_isa.specs.declared.functions.Fun.TheVariants.{Stnl, Opr}
use Rattle.tn_isa.specs.declared.mnemonics.Mnemonic.{Mnemonic}
use Rattle.tn_isa.specs.declared.mnemonics.Mnemonic.TheVariants.{Direct, Plain}
use Rattle.tn_isa.specs.Mnemonics.{mnemonics}
use Rattle.tn_isa.specs.OperandRegister.{is_prefix, IsCoded}

-- a function that is neither pfix nor nfix is coded
pub IsCoded-other : (f : Fun) → f ≢ Pfix → f ≢ Nfix → IsCoded f
IsCoded-other Pfix p n = absurd (p refl)
IsCoded-other Nfix p n = absurd (n refl)
IsCoded-other J p n = refl
IsCoded-other Ldlp p n = refl
IsCoded-other Ldnl p n = refl
IsCoded-other Ldc p n = refl
IsCoded-other Ldnlp p n = refl
IsCoded-other Ldl p n = refl
IsCoded-other Adc p n = refl
IsCoded-other Call p n = refl
IsCoded-other Cj p n = refl
IsCoded-other Ajw p n = refl
IsCoded-other Eqc p n = refl
IsCoded-other Stl p n = refl
IsCoded-other Stnl p n = refl
IsCoded-other Opr p n = refl

-- whether a mnemonic is of a function that is coded
is_coded_mnemonic : Mnemonic → Bool
is_coded_mnemonic (Direct f) = not (is_prefix f)
is_coded_mnemonic (Plain op) = true

-- each function that a source may name is coded
pub IsCoded-mnemonic : (f : Fun) → Contains mnemonics (Direct f) → IsCoded f
unfolding is_coded_mnemonic
IsCoded-mnemonic f h =
    not-true (is_prefix f) (All-contains (λ m. is_coded_mnemonic m
    ≡ true) mnemonics (Direct f) (AllPass-from_list_all is_coded_mnemonic mnemonics refl) h)

-- what shows that a function is coded
pub ruleset coded_functions = (IsCoded-mnemonic, IsCoded-other)
