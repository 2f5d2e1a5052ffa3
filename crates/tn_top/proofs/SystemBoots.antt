-- The stream of a system loads its network, and that of one processor loads it.
use Rattle.std.proofs.Common.{◌≡◌, ℕ, zero, suc, ◌<◌, List, [], ◌∷◌, map, length, get_or, sym, ap, ◌∙◌, subst, arith}
use Rattle.std.specs.List.{AllZip}
use Rattle.std.proofs.lemmas.List.{length-map}
use Rattle.std.proofs.lemmas.Slice.Zip.{AllZip-long}
use Rattle.tn_config.specs.Configurations.{BlockState, ConfigState}
use Rattle.tn_net.specs.WholeTrees.{IsWholeTree}
use Rattle.tn_stream.specs.Images.{ImageBytes}
use Rattle.tn_stream.specs.PlainImages.{IsPlain}
use Rattle.tn_stream.specs.LoadBranches.{no_image}
use Rattle.tn_stream.specs.Lengths.{load_steps}
use Rattle.tn_stream.specs.Streams.{one_processor, stream}
use Rattle.tn_system.specs.Sources.{Sources}
use Rattle.tn_system.specs.Systems.{SystemState, IsPlainFor, IsSystem}
use Rattle.tn_system.proofs.Executing.{sizes, many, belong, valid}
use Rattle.tn_sym.proofs.FourLinks.{reset-four}
use Rattle.tn_replay.specs.ReplayEnds.{IsKnownOf}
use Rattle.tn_replay.specs.Truth.{AreTrue}
use Rattle.tn_replay.proofs.TruthLaws.{truth}
use Rattle.tn_load.specs.Boots.{AreFor, alone_node, Boots}
use Rattle.tn_load.proofs.Booting.{boots}
use Rattle.tn_load.proofs.BootingOne.{boots-one}
use Rattle.tn_top.specs.OneProcessor.{code_image, boot_stream}
use Rattle.tn_top.specs.Builds.{SystemBoots, OneBoots}
use Rattle.tn_top.specs.ReplayPlans.{ReplaySources, known_of, power_up}
use Rattle.tn_top.specs.SystemNets.{filled_powers, system_net}
use Rattle.tn_top.specs.SystemPlans.{system_stream}

-- ---- systems

-- images that are plain for the memories of blocks are so for their sizes
plain-at : (blocks : List BlockState) (images : List ImageBytes) (p : ℕ) → AllZip IsPlainFor blocks images → p < length blocks
    → IsPlain (get_or (map (λ b. b.size) blocks) p 0) (get_or images p no_image)
plain-at [] images p zip here = absurd (omega arith)
plain-at (b ∷ blocks) [] p zip here = absurd zip
plain-at (b ∷ blocks) (i ∷ images) zero zip here = zip.0
plain-at (b ∷ blocks) (i ∷ images) (suc p) zip here = plain-at blocks images p zip.1 (omega arith)

module _ (s : Sources) (y : SystemState) (is : IsSystem s y) where
  whole : IsWholeTree y.nodes (length y.network.sizes)
  whole = subst (IsWholeTree y.nodes) (sym (many s y is)) is.whole

  -- there is an image for each processor
  pub system-images : length y.images ≡ length y.network.sizes
  system-images = AllZip-long IsPlainFor s.config.blocks y.images is.plain ∙ sym (many s y is)

  for : AreFor y.network y.images
  for = record {
    count = system-images;
    segments = is.short;
    plain = λ p here. subst (λ sizes. IsPlain (get_or sizes p 0) (get_or y.images p no_image)) (sym (sizes s y is))
        (plain-at s.config.blocks y.images p is.plain (omega (arith, here, many s y is)));
  }

  pub system-boots : SystemBoots y
  system-boots = boots y.network y.nodes y.images is.pairing is.tree whole for

-- ---- replays

-- what the lines of a replay look up is that of the network
pub system-known : (s : Sources) (r : ReplaySources) → s.config ≡ r.config → IsSystem s r.system
    → IsKnownOf r.system.network (known_of r)
system-known s r of_config is = record {
  names = length-map r.config.blocks (λ (b : BlockState). b.name)
      ∙ (ap (λ (c : ConfigState). length c.blocks) (sym of_config) ∙ sym (many s r.system is));
  valid = valid s r.system is;
  belong = belong s r.system is;
}

-- what the lines tell is true
pub system-truth : (s : Sources) (r : ReplaySources) → s.config ≡ r.config → IsSystem s r.system
    → AreTrue (known_of r) r.schedule.lines (power_up r)
system-truth s r of_config is =
    truth (known_of r) (system_net r.schedule.power r.system) r.schedule.lines (system-known s r of_config is)
    (reset-four (filled_powers r.schedule.power r.system.network.sizes) (system_stream r.system))

-- ---- one processor

pub one-boots : (link : ℕ) (code : List ℕ) → OneBoots link code
unfolding boot_stream
one-boots link code network pairing one is for =
    subst (λ k. Boots network (code_image code ∷ []) (stream (one_processor k (code_image code)))
    (load_steps (code_image code ∷ []) (alone_node k ∷ []))) is
    (boots-one network (code_image code) pairing one for)
