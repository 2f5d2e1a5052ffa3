use Rattle.std.proofs.Common.{[], ◌∷◌, ◌++◌, map, ap, ◌∙◌}
use Rattle.std.proofs.lemmas.List.{map-append}
use Rattle.tn_sym.specs.Inner.Readings.{region_at}
use Rattle.tn_sym.proofs.Pushing.{put-more, put-all}
use Rattle.tn_sym.proofs.beginnings.regions.Goals as goal

pub loop-program-preserved : goal.loop-program-preserved
loop-program-preserved c =
    put-more (map region_at) (λ p. region_at p ∷ []) (λ ps p. map-append region_at ps (p ∷ [])) c.args.programs.now []
    c.loop-program.regions.items c.loop-program.program-index c.loop-program.invariant c.program-item.result c.push.new.self.items
    c.loop-program-test.true c.program-item.is
    (c.in_ok-push.ensures.items ∙ ap (λ r. c.loop-program.regions.items ++ r ∷ []) c.region_of.ensures)

pub returns : goal.returns
returns c =
    put-all (map region_at) (λ p. region_at p ∷ []) (λ ps p. map-append region_at ps (p ∷ [])) c.args.programs.now []
    c.loop-program.regions.items c.loop-program.program-index c.loop-program.invariant c.loop-program-test.false
