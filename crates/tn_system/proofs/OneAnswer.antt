-- What sources come to is one thing.
use Rattle.std.proofs.Common.{◌≡◌, inl, inr, ℕ, List, [], ◌∷◌, ◌++◌, length, map}
use Rattle.std.proofs.Common.{Some, Result, Ok, Err, refl, sym, ap, ◌∙◌, subst}
use Rattle.std.specs.Prelude.{All, slice_get, option_map}
use Rattle.std.specs.List.{AllZip}
use Rattle.std.proofs.lemmas.List.Elements.{All-head, All-tail}
use Rattle.std.proofs.lemmas.List.{length-map}
use Rattle.std.proofs.lemmas.Option.{same_Some, none-some}
use Rattle.tn_symbols.proofs.OneChoice.{one_is_chosen}
use Rattle.tn_config.specs.Configurations.{BlockState}
use Rattle.tn_config.specs.Networks.{named_size, described}
use Rattle.tn_net.specs.Lines.{IsAdmitted}
use Rattle.tn_net.specs.Trees.{IsLoadTree, IsFirstUnreachable}
use Rattle.tn_net.proofs.Faultless.{faultless_or_fault, one_first_fault}
use Rattle.tn_stream.specs.Images.{ImageBytes}
use Rattle.tn_image.specs.declared.images.ImageFault.{ImageFault}
use Rattle.tn_image.specs.declared.images.ImageFault.TheVariants as image
use Rattle.tn_image.specs.Images.{IsImageFault, IsRight, OneIsRight}
use Rattle.tn_image.proofs.OneAnswer.{one_is_right}
use Rattle.tn_sym.specs.ProgramStates.{ProgramState}
use Rattle.tn_system.specs.declared.systems.SystemFault.{SystemFault}
use Rattle.tn_system.specs.declared.systems.SystemFault.TheVariants as system
use Rattle.tn_system.specs.Sources.{Sources, TextModule, parts_of, named, stock, text_module_at, IsChosenFor, OfChosen}
use Rattle.tn_system.specs.Systems.{SystemState, IsImageOf, IsProcessorImage, IsProgramOf, IsProcessorProgram, IsSystem}
use Rattle.tn_system.specs.Faults.{symbol_fault, image_fault, unreachable, HasImage, IsCheckFault, IsModulesFault}
use Rattle.tn_system.specs.Faults.{IsProcessorFault, IsDescriptionFault, IsReachFault, IsSystemFault, at_processor, at_network, at_tree}
use Rattle.tn_system.specs.Answers.{OneAnswers}
use Rattle.tn_system.proofs.FirstFaults.{one-fault, sound-or-fault}
use Rattle.tn_system.proofs.EachProcessor.{have-images}
use Rattle.tn_system.proofs.Programs.{one-program}
use Rattle.tn_system.proofs.OneTree.{one-tree}
use Rattle.tn_system.proofs.OneNetwork.{one-network, one-unreachable, tree-reaches}

ok-same : {A E : Type 0} (r : Result A E) (x y : A) → Ok x ≡ r → Ok y ≡ r → x ≡ y
ok-same r x y e f = cc

err-same : {A E : Type 0} (r : Result A E) (x y : E) → Err x ≡ r → Err y ≡ r → x ≡ y
err-same r x y e f = cc

-- ---- what is made of modules

module _ (config_file : List ℕ) (b : BlockState) (modules : List TextModule) where
  abbrev answer : OneIsRight (parts_of modules) b
  answer = one_is_right (parts_of modules) b

  pub one-image : (i j : ImageBytes) → IsImageOf b i modules → IsImageOf b j modules → i ≡ j
  one-image i j x y = ok-same answer.answer i j (answer.only (Ok i) x.image) (answer.only (Ok j) y.image)

  -- a fault that is told is right
  right : (found : ImageFault) (fault : SystemFault) → IsImageFault (parts_of modules) b found → image_fault config_file found ≡ Some fault
      → IsRight (parts_of modules) b (Err found)
  right (image.Fault f) fault is told = is
  right (image.Link f) fault is told = is
  right image.NoMemory fault is told = absurd (none-some fault told)

  image-or-check : (i : ImageBytes) (fault : SystemFault) → IsImageOf b i modules → IsCheckFault config_file b fault modules → ⊥
  image-or-check i fault x y =
      let same : Ok i ≡ Err y.found =
      answer.only (Ok i) x.image ∙ sym (answer.only (Err y.found) (right y.found fault y.first y.told)) in cc

  pub image-or-fault : (i : ImageBytes) (fault : SystemFault) → IsImageOf b i modules → IsModulesFault config_file b fault modules → ⊥
  image-or-fault i fault x (inl y) = sound-or-fault (parts_of modules) y.found x.sound y.first
  image-or-fault i fault x (inr y) = image-or-check i fault x y

  pub one-modules-fault : (f g : SystemFault) → IsModulesFault config_file b f modules → IsModulesFault config_file b g modules → f ≡ g
  one-modules-fault f g (inl x) (inl y) =
      same_Some f g (sym x.told
      ∙ ap (symbol_fault modules) (one-fault (parts_of modules) x.found y.found x.first y.first) ∙ y.told)
  one-modules-fault f g (inl x) (inr y) = absurd (sound-or-fault (parts_of modules) x.found y.sound x.first)
  one-modules-fault f g (inr x) (inl y) = absurd (sound-or-fault (parts_of modules) y.found x.sound y.first)
  one-modules-fault f g (inr x) (inr y) =
      let same : x.found ≡ y.found = err-same answer.answer x.found y.found
      (answer.only (Err x.found) (right x.found f x.first x.told)) (answer.only (Err y.found) (right y.found g y.first y.told)) in
      same_Some f g (sym x.told ∙ ap (image_fault config_file) same ∙ y.told)

-- ---- processors

module _ (s : Sources) where
  module _ (b : BlockState) where
    -- one list of modules is chosen
    one-chosen : (ms ns : List TextModule) → IsChosenFor s b ms → IsChosenFor s b ns → ms ≡ ns
    one-chosen ms ns x y =
        let one = one_is_chosen (parts_of (named s b)) (parts_of (stock s b)) in
        let picks : x.picks ≡ y.picks = one.only x.picks x.chosen ∙ sym (one.only y.picks y.chosen) in
        x.modules_are ∙ ap (λ picks. named s b ++ map (text_module_at (stock s b)) picks) picks ∙ sym y.modules_are

    of-both : {R : Type 0} (P Q : List TextModule → Type 0) → OfChosen s b P → OfChosen s b Q → ((ms : List TextModule) → P ms → Q ms → R)
        → R
    of-both P Q x y f = f x.modules x.holds (subst Q (one-chosen y.modules x.modules y.chosen x.chosen) y.holds)

    pub one-processor-image : (i j : ImageBytes) → IsProcessorImage s b i → IsProcessorImage s b j → i ≡ j
    one-processor-image i j x y = of-both (IsImageOf b i) (IsImageOf b j) x y (λ ms p q. one-image s.config_file b ms i j p q)

    pub one-processor-program : (g h : ProgramState) → IsProcessorProgram s b g → IsProcessorProgram s b h → g ≡ h
    one-processor-program g h x y = of-both (IsProgramOf b g) (IsProgramOf b h) x y (λ ms p q. one-program b ms g h p q)

    refused : (f : SystemFault) → HasImage s b → OfChosen s b (IsModulesFault s.config_file b f) → ⊥
    refused f x y = of-both (IsImageOf b x.0) (IsModulesFault s.config_file b f) x.1 y
        (λ ms p q. image-or-fault s.config_file b ms x.0 f p q)

    one-refusal : (f g : SystemFault) → OfChosen s b (IsModulesFault s.config_file b f) → OfChosen s b (IsModulesFault s.config_file b g)
        → f ≡ g
    one-refusal f g x y = of-both (IsModulesFault s.config_file b f) (IsModulesFault s.config_file b g) x y
        (λ ms p q. one-modules-fault s.config_file b ms f g p q)

  -- what each has is one thing where each has one
  one-each : {X : Type 0} (P : BlockState → X → Type 0) → ((b : BlockState) (x y : X) → P b x → P b y → x ≡ y) → (bs : List BlockState)
      (xs ys : List X) → AllZip P bs xs → AllZip P bs ys → xs ≡ ys
  one-each P one [] [] [] x y = refl
  one-each P one [] [] (j ∷ ys) x y = absurd y
  one-each P one [] (i ∷ xs) ys x y = absurd x
  one-each P one (b ∷ bs) [] ys x y = absurd x
  one-each P one (b ∷ bs) (i ∷ xs) [] x y = absurd y
  one-each {X} P one (b ∷ bs) (i ∷ xs) (j ∷ ys) x y =
      let first : i ≡ j = one b i j x.0 y.0 in
      let rest : xs ≡ ys = one-each P one bs xs ys x.1 y.1 in λ k. first k ∷ rest k

  -- where all have images, none is refused
  none-refused : (f : SystemFault) → All (HasImage s) s.config.blocks → IsProcessorFault s f → ⊥
  none-refused f all x = refused x.processor f (here x.before (subst (All (HasImage s)) x.split all)) x.wrong
    where
      here : (before : List BlockState) → All (HasImage s) (before ++ x.processor ∷ x.behind) → HasImage s x.processor
      here [] h = All-head (HasImage s) x.processor x.behind h
      here (b ∷ before) h = here before (All-tail (HasImage s) b (before ++ x.processor ∷ x.behind) h)

  -- the first that is refused is one
  one-refused : (f g : SystemFault) → IsProcessorFault s f → IsProcessorFault s g → f ≡ g
  one-refused f g x y = one-refusal x.processor f g x.wrong
      (subst (λ b. OfChosen s b (IsModulesFault s.config_file b g)) (sym (at x.before y.before (sym x.split ∙ y.split) x.passed y.passed))
      y.wrong)
    where
      at : (before after : List BlockState) → before ++ x.processor ∷ x.behind ≡ after ++ y.processor ∷ y.behind
          → All (HasImage s) before → All (HasImage s) after → x.processor ≡ y.processor
      at [] [] e p q = cc
      at [] (c ∷ after) e p q =
          let same : x.processor ≡ c = cc in
          absurd (refused x.processor f (subst (HasImage s) (sym same) (All-head (HasImage s) c after q)) x.wrong)
      at (b ∷ before) [] e p q =
          let same : b ≡ y.processor = cc in
          absurd (refused y.processor g (subst (HasImage s) same (All-head (HasImage s) b before p)) y.wrong)
      at (b ∷ before) (c ∷ after) e p q =
          let rest : before ++ x.processor ∷ x.behind ≡ after ++ y.processor ∷ y.behind = cc in
          at before after rest (All-tail (HasImage s) b before p) (All-tail (HasImage s) c after q)

  -- ---- systems

  described-or-not : (f g : SystemFault) → IsDescriptionFault s f → IsReachFault s g → ⊥
  described-or-not f g x y = faultless_or_fault (described s.config) x.found y.faultless x.first

  one-description-fault : IsAdmitted (described s.config) → (f g : SystemFault) → IsDescriptionFault s f → IsDescriptionFault s g → f ≡ g
  one-description-fault admitted f g x y =
      sym x.told ∙ ap (system.Fault s.config_file) (one_first_fault (described s.config) x.found y.found admitted.numbers x.first y.first)
      ∙ y.told

  one-reach-fault : (f g : SystemFault) → IsReachFault s f → IsReachFault s g → f ≡ g
  one-reach-fault f g x y =
      let network : x.network ≡ y.network =
      one-network (described s.config) x.network y.network x.is_network y.is_network x.pairing y.pairing in
      let first : IsFirstUnreachable x.network y.processor = subst (λ n. IsFirstUnreachable n y.processor) (sym network) y.first in
      let processor : x.processor ≡ y.processor = one-unreachable x.network x.processor y.processor x.first first in
      same_Some f g (sym x.told
      ∙ ap (λ p. option_map (unreachable s.config_file) (slice_get s.config.blocks p)) processor ∙ y.told)

  pub one_system_fault : IsAdmitted (described s.config) → (f g : SystemFault) → IsSystemFault s f → IsSystemFault s g → f ≡ g
  one_system_fault admitted f g (at_processor x) (at_processor y) = one-refused f g x y
  one_system_fault admitted f g (at_processor x) (at_network y) = absurd (none-refused f y.passed x)
  one_system_fault admitted f g (at_processor x) (at_tree y) = absurd (none-refused f y.passed x)
  one_system_fault admitted f g (at_network x) (at_processor y) = absurd (none-refused g x.passed y)
  one_system_fault admitted f g (at_network x) (at_network y) = one-description-fault admitted f g x y
  one_system_fault admitted f g (at_network x) (at_tree y) = absurd (described-or-not f g x y)
  one_system_fault admitted f g (at_tree x) (at_processor y) = absurd (none-refused g x.passed y)
  one_system_fault admitted f g (at_tree x) (at_network y) = absurd (described-or-not g f y x)
  one_system_fault admitted f g (at_tree x) (at_tree y) = one-reach-fault f g x y

  pub system_or_fault : (y : SystemState) (f : SystemFault) → IsSystem s y → IsSystemFault s f → ⊥
  system_or_fault y f good (at_processor x) = none-refused f (have-images s s.config.blocks y.images good.images) x
  system_or_fault y f good (at_network x) = faultless_or_fault (described s.config) x.found good.faultless x.first
  system_or_fault y f good (at_tree x) =
      let network : x.network ≡ y.network =
      one-network (described s.config) x.network y.network x.is_network good.network x.pairing good.pairing in
      tree-reaches y.network y.nodes x.processor good.tree (subst (λ n. IsFirstUnreachable n x.processor) network x.first)

  count-is : (y : SystemState) → IsSystem s y → length y.network.sizes ≡ length s.config.blocks
  count-is y a =
      ap length a.network.sizes ∙ length-map (map named_size s.config.blocks) (λ (x : List ℕ × ℕ × ℕ). x.1)
      ∙ length-map s.config.blocks named_size

  pub one_system : (y z : SystemState) → IsSystem s y → IsSystem s z → y ≡ z
  one_system y z a b =
      let images = one-each (IsProcessorImage s) one-processor-image s.config.blocks y.images z.images a.images b.images in
      let programs = one-each (IsProcessorProgram s) one-processor-program s.config.blocks y.programs z.programs a.programs b.programs in
      let network = one-network (described s.config) y.network z.network a.network b.network a.pairing b.pairing in
      let nodes = one-tree y.network y.nodes z.nodes (length s.config.blocks) (count-is y a) a.tree a.whole
      (subst (λ n. IsLoadTree n z.nodes) (sym network) b.tree) b.whole in
      λ j. record { images = images j; programs = programs j; network = network j; nodes = nodes j }

  pub one_answers : IsAdmitted (described s.config) → OneAnswers s
  one_answers admitted = record { systems = one_system; faults = one_system_fault admitted; either = system_or_fault }
