-- One processor after the other.
use Rattle.std.proofs.Common.{◌≡◌, ℕ, suc, ◌+◌, ◌<◌, List, [], ◌∷◌, ◌++◌, length, get_or, take, drop, map, refl, sym, ap, ◌∙◌, subst, arith}
use Rattle.std.specs.Prelude.{All}
use Rattle.std.specs.List.{AllZip}
use Rattle.std.proofs.lemmas.List.{length-map, get_or-map, map-append, take_more, take-append-drop}
use Rattle.std.proofs.Math.Seq.{drop-cons}
use Rattle.std.proofs.lemmas.List.Elements.{All-cons, All-nil, All-append, All-get_or}
use Rattle.indexmap.proofs.SetLemmas.{AllZip-push}
use Rattle.tn_module.specs.declared.modules.Library.{Library}
use Rattle.tn_module.specs.Modules.{Parts}
use Rattle.tn_symbols.specs.Sources.{Offer, offer}
use Rattle.tn_config.specs.declared.configurations.Block.{Block}
use Rattle.tn_config.specs.declared.configurations.Config.{Config}
use Rattle.tn_config.specs.Configurations.{BlockState, block_of, config_of}
use Rattle.tn_config.specs.Writable.{IsWritableBlock}
use Rattle.tn_stream.specs.declared.images.Image.{Image}
use Rattle.tn_stream.specs.Images.{ImageBytes, image_of, images_of, IsImage, AreImages}
use Rattle.tn_image.specs.Images.{IsInRange}
use Rattle.tn_sym.specs.declared.programs.Program.{Program}
use Rattle.tn_sym.specs.ProgramStates.{program_of}
use Rattle.tn_system.specs.declared.files.BlockFiles.{BlockFiles}
use Rattle.tn_system.specs.declared.files.NamedFiles.{NamedFiles}
use Rattle.tn_system.specs.declared.systems.SystemFault.{SystemFault}
use Rattle.tn_system.specs.Sources.{module_files, library_files, Sources, sources, AreRead, OfChosen}
use Rattle.tn_system.specs.NamedFiles.{places_in, lists_of, block_places, named_files}
use Rattle.tn_system.specs.Systems.{programs_of, IsProcessorImage, IsPlainFor, IsProcessorProgram, BelongTogether}
use Rattle.tn_system.specs.Faults.{HasImage, IsModulesFault, IsProcessorFault}
use Rattle.tn_system.specs.Inner.Offers.{IsOfferOf}
use Rattle.tn_system.proofs.Choosing.{IsOffered}
use Rattle.tn_system.proofs.Reading.{offer-of}

-- processors of a system have images
pub have-images : (s : Sources) (bs : List BlockState) (xs : List ImageBytes) → AllZip (IsProcessorImage s) bs xs → All (HasImage s) bs
have-images s [] xs x = All-nil (HasImage s)
have-images s (b ∷ bs) [] x = absurd x
have-images s (b ∷ bs) (i ∷ xs) x = All-cons (HasImage s) b bs (i, x.0) (have-images s bs xs x.1)

-- a list around the element at a place
pub around : {X : Type 0} (xs : List X) (k : ℕ) (x : X) → k < length xs → x ≡ get_or xs k x → xs ≡ take k xs ++ x ∷ drop (suc k) xs
around xs k x l is =
    sym (take-append-drop k xs)
    ∙ ap (λ l. take k xs ++ l) (drop-cons xs k x l ∙ ap (λ y. y ∷ drop (suc k) xs) (sym is))

module _ (config_file : List ℕ) (config : Config) (files : NamedFiles) (pool : List Parts) (shelf : List Library) where
  abbrev s : Sources
  s = sources config_file config pool shelf

  module _ (read : AreRead s) (are : lists_of files ≡ named_files (config_of config)) where
    pub as-many : length files.blocks.items ≡ length config.blocks.items
    as-many =
        sym (length-map files.blocks.items places_in) ∙ ap (λ f. length f.blocks) are
        ∙ length-map (map block_of config.blocks.items)
        (block_places (module_files (config_of config)) (library_files (config_of config)))
        ∙ length-map config.blocks.items block_of

    module _ (k : ℕ) (block : Block) (l : k < length config.blocks.items) (is : block ≡ get_or config.blocks.items k block) where
      block-at : get_or (config_of config).blocks k (block_of block) ≡ block_of block
      block-at = get_or-map block_of config.blocks.items k block (block_of block) l ∙ ap block_of (sym is)

      here : k < length (config_of config).blocks
      here = omega (arith, l, length-map config.blocks.items block_of)

      module _ (places : BlockFiles) (at : places ≡ get_or files.blocks.items k places) where
        abbrev o : Offer
        o = offer pool places.modules.items shelf places.libraries.items

        places-are : places_in places ≡ block_places (module_files (config_of config)) (library_files (config_of config)) (block_of block)
        places-are =
            ap places_in at ∙ sym (get_or-map places_in files.blocks.items k places (places_in places) (omega (arith, l, as-many)))
            ∙ ap (λ f. get_or f.blocks k (places_in places)) are
            ∙ get_or-map (block_places (module_files (config_of config)) (library_files (config_of config))) (config_of config).blocks k
            (block_of block) (places_in places) here
            ∙ ap (block_places (module_files (config_of config)) (library_files (config_of config))) block-at

        pub offered-at : IsOffered s (block_of block) o
        offered-at = record {
          pool = refl;
          named = ap (λ p. p.modules) places-are;
          shelf = refl;
          used = ap (λ p. p.libraries) places-are;
        }

        pub offer-at : IsOfferOf o (block_of block)
        offer-at =
            subst (IsOfferOf o) block-at
            (offer-of s read k (block_of block) here o (subst (λ b. IsOffered s b o) (sym block-at) offered-at))

      -- its numbers are in their ranges
      pub range-at : IsInRange (block_of block)
      range-at =
          let w : IsWritableBlock (block_of block) = subst IsWritableBlock block-at
          (All-get_or IsWritableBlock (config_of config).blocks k (block_of block) here read.writable.blocks) in
          record { size = w.size; code = w.code; cells = w.cells; wptr = w.wptr; below = w.below; above = w.above }

      abbrev before : List BlockState
      before = map block_of (take k config.blocks.items)

      -- one more of what each has
      pub one-more : {X : Type 0} (P : BlockState → X → Type 0) (xs : List X) (x : X) → AllZip P before xs → P (block_of block) x
          → AllZip P (map block_of (take (k + 1) config.blocks.items)) (xs ++ x ∷ [])
      one-more P xs x so_far this =
          subst (λ l. AllZip P l (xs ++ x ∷ []))
          (sym (ap (map block_of) (take_more config.blocks.items k block l ∙ ap (λ b. take k config.blocks.items ++ b ∷ []) (sym is))
          ∙ map-append block_of (take k config.blocks.items) (block ∷ [])))
          (AllZip-push P before xs (block_of block) x so_far this)

      -- or the first that is refused
      pub refused-at : (images : List ImageBytes) (fault : SystemFault) → AllZip (IsProcessorImage s) before images
          → OfChosen s (block_of block) (IsModulesFault config_file (block_of block) fault) → IsProcessorFault s fault
      refused-at images fault so_far this = record {
        before = before;
        processor = block_of block;
        behind = map block_of (drop (suc k) config.blocks.items);
        split =
            ap (map block_of) (around config.blocks.items k block l is)
            ∙ map-append block_of (take k config.blocks.items) (block ∷ drop (suc k) config.blocks.items);
        passed = have-images s before images so_far;
        wrong = this;
      }

      -- what holds of the images and the programs, where one more of each is pushed
      pub images-pushed : (images new : List Image) (image : Image) → new ≡ images ++ image ∷ []
          → AllZip (IsProcessorImage s) before (images_of images) × AreImages (images_of images)
          × AllZip IsPlainFor before (images_of images)
          → IsProcessorImage s (block_of block) (image_of image) → IsImage (image_of image) → IsPlainFor (block_of block) (image_of image)
          → AllZip (IsProcessorImage s) (map block_of (take (k + 1) config.blocks.items)) (images_of new) × AreImages (images_of new)
          × AllZip IsPlainFor (map block_of (take (k + 1) config.blocks.items)) (images_of new)
      images-pushed images new image new_is so_far this is_image is_plain =
          let same : images_of new ≡ images_of images ++ image_of image ∷ [] = ap images_of new_is ∙ map-append image_of images
          (image ∷ []) in (
            subst (AllZip (IsProcessorImage s) (map block_of (take (k + 1) config.blocks.items))) (sym same)
                (one-more (IsProcessorImage s) (images_of images) (image_of image) so_far.0 this),
            subst AreImages (sym same) (All-append IsImage (images_of images) (image_of image ∷ []) so_far.1
                (All-cons IsImage (image_of image) [] is_image (All-nil IsImage))),
            subst (AllZip IsPlainFor (map block_of (take (k + 1) config.blocks.items))) (sym same)
                (one-more IsPlainFor (images_of images) (image_of image) so_far.2 is_plain),
          )

      pub programs-pushed : (programs new : List Program) (program : Program) → new ≡ programs ++ program ∷ []
          → AllZip (IsProcessorProgram s) before (programs_of programs) → IsProcessorProgram s (block_of block) (program_of program)
          → AllZip (IsProcessorProgram s) (map block_of (take (k + 1) config.blocks.items)) (programs_of new)
      programs-pushed programs new program new_is so_far this =
          subst (AllZip (IsProcessorProgram s) (map block_of (take (k + 1) config.blocks.items)))
          (sym (ap programs_of new_is ∙ map-append program_of programs (program ∷ [])))
          (one-more (IsProcessorProgram s) (programs_of programs) (program_of program) so_far this)

-- programs that belong to images, where one more of each is pushed
pub belong-pushed : (programs new_programs : List Program) (program : Program) (images new_images : List Image) (image : Image)
    → new_programs ≡ programs ++ program ∷ [] → new_images ≡ images ++ image ∷ []
    → AllZip BelongTogether (programs_of programs) (images_of images) → BelongTogether (program_of program) (image_of image)
    → AllZip BelongTogether (programs_of new_programs) (images_of new_images)
belong-pushed programs new_programs program images new_images image programs_are images_are so_far this =
    let programs_same : programs_of new_programs ≡ programs_of programs ++ program_of program ∷ [] =
    ap programs_of programs_are ∙ map-append program_of programs (program ∷ []) in
    let images_same : images_of new_images ≡ images_of images ++ image_of image ∷ [] =
    ap images_of images_are ∙ map-append image_of images (image ∷ []) in
    subst (λ ps. AllZip BelongTogether ps (images_of new_images)) (sym programs_same)
    (subst (AllZip BelongTogether (programs_of programs ++ program_of program ∷ [])) (sym images_same)
    (AllZip-push BelongTogether (programs_of programs) (images_of images) (program_of program) (image_of image) so_far this))
