use Rattle.std.proofs.Common.{◌≡◌, ℕ, Some, sym, ◌∙◌, subst}
use Rattle.std.specs.Prelude.{slice_get, option_map}
use Rattle.std.proofs.lemmas.List.{length-map}
use Rattle.std.proofs.lemmas.Slice.Zip.{AllZip-long}
use Rattle.tn_text.specs.declared.faults.Fault.{Fault}
use Rattle.tn_config.specs.Configurations.{block_of, config_of}
use Rattle.tn_config.specs.Networks.{described}
use Rattle.tn_net.specs.Faults.{IsNetworkFault}
use Rattle.tn_net.specs.Trees.{IsFirstUnreachable}
use Rattle.tn_net.specs.WholeTrees.{IsWholeTree}
use Rattle.tn_stream.specs.Images.{image_of, images_of}
use Rattle.tn_system.specs.declared.systems.SystemFault.TheVariants as fault
use Rattle.tn_system.specs.Sources.{sources}
use Rattle.tn_system.specs.Systems.{IsProcessorImage}
use Rattle.tn_system.specs.Faults.{unreachable, IsProcessorFault, IsSystemFault, at_processor, at_network, at_tree}
use Rattle.tn_system.proofs.Telling.{if-weaker}
use Rattle.tn_system.proofs.EachProcessor.{have-images}
use Rattle.tn_system.proofs.OneAnswer.{one_answers}
use Rattle.tn_system.proofs.building.system.Goals as goal

pub returns-in-Err-clause-one : goal.returns-in-Err-clause-one
returns-in-Err-clause-one c = λ s admitted. one_answers s admitted

pub returns-in-Err-clause-fault : goal.returns-in-Err-clause-fault
returns-in-Err-clause-fault c =
    let s = sources c.args.config_file.now c.args.config.now c.args.pool.now c.args.shelf.now in
    if-weaker (IsProcessorFault s) (IsSystemFault s) c.in-Err.fault (λ told h. at_processor h) c.in-Err.ensures.fault

pub returns-in-Err-network-clause-one : goal.returns-in-Err-network-clause-one
returns-in-Err-network-clause-one c = λ s admitted. one_answers s admitted

pub returns-in-Err-network-clause-fault : goal.returns-in-Err-network-clause-fault
returns-in-Err-network-clause-fault c =
    let s = sources c.args.config_file.now c.args.config.now c.args.pool.now c.args.shelf.now in
    if-weaker (λ told. (found : Fault) × IsNetworkFault (described (config_of c.args.config.now)) found
    × (fault.Fault c.args.config_file.now found ≡ told))
    (IsSystemFault s) c.in-Err-network.fault
    (λ told h. at_network (record {
      passed = have-images s (config_of c.args.config.now).blocks (images_of c.in-Ok.made.images.items) c.in-Ok.ensures.made;
      found = h.0;
      first = h.1;
      told = h.2;
    })) c.in-Err-network.ensures.fault

pub returns-in-Ok-tree-clause-whole : goal.returns-in-Ok-tree-clause-whole
returns-in-Ok-tree-clause-whole c =
    let s = sources c.args.config_file.now c.args.config.now c.args.pool.now c.args.shelf.now in
    let count = AllZip-long (IsProcessorImage s) (config_of c.args.config.now).blocks (images_of c.in-Ok.made.images.items)
    c.in-Ok.ensures.made in
    subst (IsWholeTree c.in-Ok-tree.tree.nodes.items)
    (sym (length-map c.args.config.now.blocks.items block_of) ∙ sym count ∙ length-map c.in-Ok.made.images.items image_of)
    c.in-Ok-tree.ensures.whole

pub returns-in-Err-tree-clause-fault : goal.returns-in-Err-tree-clause-fault
returns-in-Err-tree-clause-fault c =
    let s = sources c.args.config_file.now c.args.config.now c.args.pool.now c.args.shelf.now in
    if-weaker (λ told. (p : ℕ) × IsFirstUnreachable c.in-Ok-network.network p
    × (option_map (unreachable c.args.config_file.now) (slice_get (config_of c.args.config.now).blocks p) ≡ Some told))
    (IsSystemFault s) c.in-Err-tree.fault
    (λ told h. at_tree (record {
      passed = have-images s (config_of c.args.config.now).blocks (images_of c.in-Ok.made.images.items) c.in-Ok.ensures.made;
      faultless = c.in-Ok-network.ensures.faultless;
      network = c.in-Ok-network.network;
      is_network = c.in-Ok-network.ensures.network;
      pairing = c.in-Ok-network.ensures.pairing;
      processor = h.0;
      first = h.1;
      told = h.2;
    })) c.in-Err-tree.ensures.fault

pub returns-in-Err-tree-clause-one : goal.returns-in-Err-tree-clause-one
returns-in-Err-tree-clause-one c = λ s admitted. one_answers s admitted

pub returns-in-Ok-tree-clause-one : goal.returns-in-Ok-tree-clause-one
returns-in-Ok-tree-clause-one c = λ s admitted. one_answers s admitted

pub returns-in-Ok-tree-clause-system : goal.returns-in-Ok-tree-clause-system
returns-in-Ok-tree-clause-system c = record {
  images = c.in-Ok.ensures.made;
  short = c.in-Ok.ensures.images;
  plain = c.in-Ok.ensures.plain;
  programs = c.in-Ok.ensures.programs;
  belong = c.in-Ok.ensures.belong;
  faultless = c.in-Ok-network.ensures.faultless;
  network = c.in-Ok-network.ensures.network;
  pairing = c.in-Ok-network.ensures.pairing;
  tree = c.in-Ok-tree.ensures.tree;
  whole = subst (IsWholeTree c.in-Ok-tree.tree.nodes.items) (sym (length-map c.args.config.now.blocks.items block_of))
      c.in-Ok-tree.ensures.whole;
}
