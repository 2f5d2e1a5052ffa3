use Rattle.std.proofs.Common.{◌≡◌, ℕ, ◌<◌, List, [], ◌∷◌, length, true, ap, ◌∙◌, sym, Ok, arith}
use Rattle.std.proofs.lemmas.Bool.Decides.{nat_tests}
use Rattle.tn_mem.specs.Memories.{store_byte, reachable, put}
use Rattle.tn_mem.specs.Inner.AccessTests.{answer_if-allowed}
use Rattle.tn_mem.proofs.Puts.{set_is_put}
use Rattle.tn_mem.proofs.memories.MemorySpace.set_byte.Goals as goal

pub returns : goal.returns
unfolding store_byte
returns c =
    let m = c.self.inside.bytes.items in
    let v = c.args.v in
    let inside : reachable (length m) c.args.a 1 ≡ true = cc in
    let below : c.place.result < length m = grind (arith, nat_tests) in
    ap (λ (x : List ℕ). store_byte x c.args.a v) (sym c.self.view_is)
    ∙ (answer_if-allowed (reachable (length m) c.args.a 1) (put m c.args.a (v ∷ [])) inside
    ∙ ap Ok (sym (set_is_put m c.args.a c.place.result v c.place.ensures below)))
