use Rattle.std.proofs.Common.{◌≡◌, ℕ, ◌∙◌, ◌++◌, length, refl, sym, ap, subst, List}
use Rattle.std.specs.Int.{w32}
use Rattle.std.proofs.lemmas.Int.{to_z-of_z}
use Rattle.tn_prefix.specs.Coding.{coding, coding_length}
use Rattle.tn_prefix.specs.Operand.{loads, LoadsAll, word_of}
use Rattle.tn_prefix.proofs.Cases.{same_found}
use Rattle.tn_prefix.proofs.Loads.{loads-LoadsAll}
use Rattle.tn_prefix.proofs.CodingLoads.{LoadsAll-coding}
use Rattle.tn_prefix.proofs.Lengths.{length-coding}
use Rattle.tn_prefix.proofs.coding.encode.Goals as goal

pub returns : goal.returns
returns c =
    let f = c.args.fun in
    let e = c.args.e in
    let bytes : c.coded.result.items ≡ coding f e = c.coded.ensures ∙ ap (coding f) (c.new.ensures.value ∙ to_z-of_z w32 e c.ranges.e) in
    record {
      coding = bytes;
      loads = subst (λ (items : List ℕ). LoadsAll items f (word_of e)) (sym bytes) (LoadsAll-coding f e c.ranges.e c.requires);
      length = ap length bytes ∙ length-coding f e c.ranges.e;
      followed = λ rest. ap (λ items. loads (items ++ rest)) bytes
          ∙ (loads-LoadsAll (LoadsAll-coding f e c.ranges.e c.requires) rest
          ∙ same_found f f (word_of e) (word_of e) (length (coding f e)) (coding_length e) refl refl (length-coding f e c.ranges.e));
    }
