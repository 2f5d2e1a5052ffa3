-- Lists in which each file stands once.
use Rattle.std.proofs.Common.{◌≡◌, ℕ, ◌+◌, ◌≤◌, ◌<◌, Bool, true, false, ◌||◌}
use Rattle.std.proofs.Common.{cond, List, [], ◌∷◌, ◌++◌, length, map, fold, get_or, take, drop}
use Rattle.std.proofs.Common.{refl, sym, ap, ◌∙◌, subst, arith, length-append, if◌then◌else◌}
use Rattle.std.specs.Prelude.{All}
use Rattle.std.specs.List.{flat_map}
use Rattle.std.specs.Cmp.Lexicographic.{nat_list_eq_equiv}
use Rattle.std.proofs.lemmas.Bool.{ne_eqb, eq-eqb}
use Rattle.std.proofs.lemmas.List.Elements.{All-cons, All-nil, All-head, All-tail, All-weaker}
use Rattle.std.proofs.lemmas.List.{map-append, append-nil, take_more, take-append-drop}
use Rattle.std.proofs.lemmas.List.Folds.{list_any-append, position_or_len_push, flat_map-map, length-flat_map-take}
use Rattle.std.proofs.lemmas.List.Sums.{fold-append}
use Rattle.std.proofs.lemmas.List.Concat.{flat_map-append, flat_map-cons}
use Rattle.tn_module.specs.Names.{same_name, is_among}
use Rattle.tn_config.specs.declared.configurations.Block.{Block}
use Rattle.tn_config.specs.Configurations.{BlockState, block_of}
use Rattle.tn_system.specs.Sources.{with_file, each_once, place_of}
use Rattle.tn_system.specs.declared.files.BlockFiles.{BlockFiles}
use Rattle.tn_system.specs.NamedFiles.{FilePlaces, places_in, block_places}
use Rattle.tn_system.specs.Inner.Files.{AreNamed}
use Rattle.tn_system.proofs.Lists.{all_parts, map_same, place-below, place-none}

-- ---- one file more

module _ (files : List (List ℕ)) (file : List ℕ) where
  -- what holds of the files with this one, where it is one of them, and where it is not
  pub cases : (P : List (List ℕ) → Type 0) → (is_among files file ≡ true → P files) → (is_among files file ≡ false → P (files ++ file ∷ []))
      → P (with_file files file)
  cases P old new = by (is_among files file) refl
    where
      by : (b : Bool) → is_among files file ≡ b → P (with_file files file)
      by true e = subst P (sym (ap (λ b. if b then files else files ++ file ∷ []) e)) (old e)
      by false e = subst P (sym (ap (λ b. if b then files else files ++ file ∷ []) e)) (new e)

  itself : is_among (files ++ file ∷ []) file ≡ true
  itself = list_any-append (same_name file) files (file ∷ []) ∙ ap (λ b. is_among files file || (b || false)) (nat_list_eq_equiv.refl file)
      ∙ or-true (is_among files file)
    where
      or-true : (b : Bool) → (b || true) ≡ true
      or-true true = refl
      or-true false = refl

  -- it is one of them
  pub there : is_among (with_file files file) file ≡ true
  there = cases (λ l. is_among l file ≡ true) (λ e. e) (λ e. itself)

  -- and its place is where it was looked for
  pub place-itself : place_of (with_file files file) file ≡ place_of files file
  place-itself = cases (λ l. place_of l file ≡ place_of files file) (λ e. refl) (λ e.
      position_or_len_push (same_name file) files file
      ∙ ap (λ b. cond b (length files + cond (same_name file file) 0 1) (place_of files file))
      (eq-eqb (place_of files file) (length files) (place-none (same_name file) files e))
      ∙ ap (λ b. length files + cond b 0 1) (nat_list_eq_equiv.refl file)
      ∙ omega (arith, place-none (same_name file) files e))

  -- the others stay, at their places
  pub stays : (other : List ℕ) → is_among files other ≡ true → is_among (with_file files file) other ≡ true
  stays other h = cases (λ l. is_among l other ≡ true) (λ e. h) (λ e.
      list_any-append (same_name other) files (file ∷ []) ∙ ap (λ b. b || (same_name other file || false)) h)

  pub place-stays : (other : List ℕ) → is_among files other ≡ true → place_of (with_file files file) other ≡ place_of files other
  place-stays other h = cases (λ l. place_of l other ≡ place_of files other) (λ e. refl) (λ e.
      position_or_len_push (same_name other) files file
      ∙ ap (λ b. cond b (length files + cond (same_name other file) 0 1) (place_of files other))
      (ne_eqb (place_of files other) (length files)
      (λ same. absurd (omega (arith, same, place-below (same_name other) files h)))))

  pub longer : length (with_file files file) ≤ length files + 1
  longer = cases (λ l. length l ≤ length files + 1) (λ e. omega arith) (λ e. omega (arith, length-append files (file ∷ [])))

-- ---- several files more

pub stays-all : (more files : List (List ℕ)) (other : List ℕ) → is_among files other ≡ true → is_among
    (fold with_file files more) other ≡ true
stays-all [] files other h = h
stays-all (file ∷ more) files other h = stays-all more (with_file files file) other (stays files file other h)

pub place-stays-all : (more files : List (List ℕ)) (other : List ℕ) → is_among files other ≡ true
    → place_of (fold with_file files more) other ≡ place_of files other
place-stays-all [] files other h = refl
place-stays-all (file ∷ more) files other h =
    place-stays-all more (with_file files file) other (stays files file other h) ∙ place-stays files file other h

abbrev pub AreAmong : List (List ℕ) → List (List ℕ) → Type 0
AreAmong files others = All (λ other. is_among files other ≡ true) others

pub all-there : (more files : List (List ℕ)) → AreAmong (fold with_file files more) more
all-there [] files = All-nil (λ other. is_among files other ≡ true)
all-there (file ∷ more) files =
    All-cons (λ other. is_among (fold with_file (with_file files file) more) other ≡ true) file more
    (stays-all more (with_file files file) file (there files file)) (all-there more (with_file files file))

pub longer-all : (more files : List (List ℕ)) → length (fold with_file files more) ≤ length files + length more
longer-all [] files = omega arith
longer-all (file ∷ more) files = omega (arith, longer files file, longer-all more (with_file files file))

-- the places of files that are there stay
pub places-stay : (more files others : List (List ℕ)) → AreAmong files others
    → map (place_of (fold with_file files more)) others ≡ map (place_of files) others
places-stay more files others h =
    map_same (place_of (fold with_file files more)) (place_of files) others
    (All-weaker (λ other. is_among files other ≡ true) (λ other. place_of (fold with_file files more) other ≡ place_of files other)
    (λ other there. place-stays-all more files other there) others h)

-- ---- the files of several processors

-- the files of one more processor
pub once-more : {X : Type 0} (f : X → List (List ℕ)) (xs : List X) (x : X)
    → each_once (flat_map f (xs ++ x ∷ [])) ≡ fold with_file (each_once (flat_map f xs)) (f x)
once-more f xs x =
    let single : flat_map f (x ∷ []) ≡ f x = flat_map-cons f x [] ∙ append-nil (f x) in
    ap each_once (flat_map-append f xs (x ∷ [])) ∙ fold-append with_file [] (flat_map f xs) (flat_map f (x ∷ []))
    ∙ ap (fold with_file (each_once (flat_map f xs))) single

pub each-there : {X : Type 0} (f : X → List (List ℕ)) (xs : List X) → All (λ x. AreAmong (each_once (flat_map f xs)) (f x)) xs
each-there f xs =
    all_parts (λ other. is_among (each_once (flat_map f xs)) other ≡ true) f xs (all-there (flat_map f xs) [])

module _ (modules libraries more_modules more_libraries : List (List ℕ)) where
  -- the places of a processor's files stay
  block-stays : (b : BlockState) → AreAmong modules b.modules → AreAmong libraries b.libraries
      → block_places (fold with_file modules more_modules) (fold with_file libraries more_libraries) b ≡ block_places modules libraries b
  block-stays b m l =
      let first = places-stay more_modules modules b.modules m in
      let second = places-stay more_libraries libraries b.libraries l in
      λ j. record { modules = first j; libraries = second j }

  blocks-stay : (blocks : List BlockState) → All (λ (b : BlockState). AreAmong modules b.modules) blocks
      → All (λ (b : BlockState). AreAmong libraries b.libraries) blocks
      → map (block_places (fold with_file modules more_modules) (fold with_file libraries more_libraries)) blocks
      ≡ map (block_places modules libraries) blocks
  blocks-stay [] m l = refl
  blocks-stay (b ∷ bs) m l =
      let first = block-stays b (All-head (λ (b : BlockState). AreAmong modules b.modules) b bs m)
      (All-head (λ (b : BlockState). AreAmong libraries b.libraries) b bs l) in
      let rest = blocks-stay bs (All-tail (λ (b : BlockState). AreAmong modules b.modules) b bs m)
      (All-tail (λ (b : BlockState). AreAmong libraries b.libraries) b bs l) in
      λ j. first j ∷ rest j

-- one processor more
pub named-more : (blocks : List BlockState) (modules libraries : List (List ℕ)) (places : List FilePlaces) (b : BlockState)
    → AreNamed blocks modules libraries places
    → AreNamed (blocks ++ b ∷ []) (fold with_file modules b.modules) (fold with_file libraries b.libraries)
    (places ++ block_places (fold with_file modules b.modules) (fold with_file libraries b.libraries) b ∷ [])
named-more blocks modules libraries places b n = record {
  modules_are = ap (λ l. fold with_file l b.modules) n.modules_are ∙ sym (once-more (λ (b : BlockState). b.modules) blocks b);
  libraries_are = ap (λ l. fold with_file l b.libraries) n.libraries_are ∙ sym (once-more (λ (b : BlockState). b.libraries) blocks b);
  places_are =
      ap (λ l. l ++ block_places (fold with_file modules b.modules) (fold with_file libraries b.libraries) b ∷ [])
      (n.places_are ∙ sym (blocks-stay modules libraries b.modules b.libraries blocks modules-there libraries-there))
      ∙ sym (map-append (block_places (fold with_file modules b.modules) (fold with_file libraries b.libraries)) blocks (b ∷ []));
}
  where
    modules-there : All (λ (x : BlockState). AreAmong modules x.modules) blocks
    modules-there = subst (λ l. All (λ (x : BlockState). AreAmong l x.modules) blocks) (sym n.modules_are)
        (each-there (λ (x : BlockState). x.modules) blocks)

    libraries-there : All (λ (x : BlockState). AreAmong libraries x.libraries) blocks
    libraries-there = subst (λ l. All (λ (x : BlockState). AreAmong l x.libraries) blocks) (sym n.libraries_are)
        (each-there (λ (x : BlockState). x.libraries) blocks)

-- ---- as the code goes on

-- one file more of several
module _ (initial named keys now : List (List ℕ)) (i : ℕ) (v x : List ℕ) (l : i < length named) (x_is : x ≡ get_or named i x) (v_is : v ≡ x)
    (so_far : keys ≡ fold with_file initial (take i named)) (now_is : now ≡ with_file keys v) where
  taken : take (i + 1) named ≡ take i named ++ x ∷ []
  taken = take_more named i x l ∙ ap (λ y. take i named ++ y ∷ []) (sym x_is)

  now-more : now ≡ with_file keys x
  now-more = now_is ∙ ap (with_file keys) v_is

  pub keys-more : now ≡ fold with_file initial (take (i + 1) named)
  keys-more =
      now-more ∙ ap (λ l. with_file l x) so_far ∙ sym (fold-append with_file initial (take i named) (x ∷ []))
      ∙ ap (fold with_file initial) (sym taken)

  pub keys-fit : length now ≤ length initial + length named
  keys-fit = omega (
    arith,
    ap length keys-more,
    longer-all (take (i + 1) named) initial,
    ap length (take-append-drop (i + 1) named),
    length-append (take (i + 1) named) (drop (i + 1) named),
  )

  pub places-more : (places new : List ℕ) (place : ℕ) → places ≡ map (place_of keys) (take i named) → place ≡ place_of keys v
      → new ≡ places ++ place ∷ [] → new ≡ map (place_of now) (take (i + 1) named)
  places-more places new place places_are place_is new_is =
      let there : AreAmong keys (take i named) = subst (λ l. AreAmong l (take i named)) (sym so_far) (all-there (take i named) initial) in
      let stay : map (place_of (with_file keys x)) (take i named) ≡ map (place_of keys) (take i named) =
      places-stay (x ∷ []) keys (take i named) there in
      let last : place ≡ place_of (with_file keys x) x = place_is ∙ ap (place_of keys) v_is ∙ sym (place-itself keys x) in
      new_is ∙ (λ j. (places_are ∙ sym stay) j ++ last j ∷ [])
      ∙ sym (map-append (place_of (with_file keys x)) (take i named) (x ∷ []))
      ∙ (λ j. map (place_of (sym now-more j)) (sym taken j))

-- the files of one block more
module _ (items blocks : List Block) (same : items ≡ blocks) (i : ℕ) (x : Block) (l : i < length items) (x_is : x ≡ get_or items i x) where
  within : i < length blocks
  within = omega (arith, l, ap length same)

  is-here : x ≡ get_or blocks i x
  is-here = x_is ∙ ap (λ l. get_or l i x) same

  -- they are few
  pub files-fit : (f : BlockState → List (List ℕ)) (keys files : List (List ℕ))
      → keys ≡ each_once (flat_map f (map block_of (take i blocks))) → files ≡ f (block_of x)
      → length keys + length files ≤ length (flat_map f (map block_of blocks))
  files-fit f keys files keys_are files_are = omega (
    arith,
    ap length keys_are,
    ap length files_are,
    longer-all (flat_map f (map block_of (take i blocks))) [],
    ap length (flat_map-map f block_of (take i blocks)),
    ap length (flat_map-map f block_of blocks),
    length-flat_map-take (λ b. f (block_of b)) blocks i x within,
    ap (λ b. length (f (block_of b))) is-here,
  )

  pub block-more : (modules libraries now_modules now_libraries files others : List (List ℕ)) (held new : List BlockFiles)
      (places : BlockFiles) → files ≡ x.modules.items → others ≡ x.libraries.items
      → AreNamed (map block_of (take i blocks)) modules libraries (map places_in held) → now_modules ≡ fold with_file modules files
      → now_libraries ≡ fold with_file libraries others → places.modules.items ≡ map (place_of now_modules) files
      → places.libraries.items ≡ map (place_of now_libraries) others → new ≡ held ++ places ∷ []
      → AreNamed (map block_of (take (i + 1) blocks)) now_modules now_libraries (map places_in new)
  block-more modules libraries now_modules now_libraries files others held new places files_are others_are named now_m now_l p_m p_l
      new_is =
      let m : now_modules ≡ fold with_file modules x.modules.items = now_m ∙ ap (fold with_file modules) files_are in
      let n : now_libraries ≡ fold with_file libraries x.libraries.items = now_l ∙ ap (fold with_file libraries) others_are in
      let first : places.modules.items ≡ map (place_of (fold with_file modules x.modules.items)) x.modules.items =
      p_m ∙ (λ j. map (place_of (m j)) (files_are j)) in
      let second : places.libraries.items ≡ map (place_of (fold with_file libraries x.libraries.items)) x.libraries.items =
      p_l ∙ (λ j. map (place_of (n j)) (others_are j)) in
      let last : places_in places ≡ block_places (fold with_file modules x.modules.items) (fold with_file libraries x.libraries.items)
      (block_of x) = (λ j. record { modules = first j; libraries = second j }) in
      let blocks_are : map block_of (take (i + 1) blocks) ≡ map block_of (take i blocks) ++ block_of x ∷ [] =
      ap (map block_of) (take_more blocks i x within ∙ ap (λ y. take i blocks ++ y ∷ []) (sym is-here))
      ∙ map-append block_of (take i blocks) (x ∷ []) in
      let places_are : map places_in new ≡ map places_in held
      ++ block_places (fold with_file modules x.modules.items) (fold with_file libraries x.libraries.items) (block_of x) ∷ [] =
      ap (map places_in) new_is ∙ map-append places_in held (places ∷ []) ∙ ap (λ p. map places_in held ++ p ∷ []) last in
      let all = named-more (map block_of (take i blocks)) modules libraries (map places_in held) (block_of x) named in
      let m_all : List (List ℕ) = fold with_file modules x.modules.items in
      let l_all : List (List ℕ) = fold with_file libraries x.libraries.items in
      let p_all : List FilePlaces = map places_in held ++ block_places m_all l_all (block_of x) ∷ [] in
      subst (λ p. AreNamed (map block_of (take (i + 1) blocks)) now_modules now_libraries p) (sym places_are)
      (subst (λ l. AreNamed (map block_of (take (i + 1) blocks)) now_modules l p_all) (sym n)
      (subst (λ l. AreNamed (map block_of (take (i + 1) blocks)) l l_all p_all) (sym m)
      (subst (λ b. AreNamed b m_all l_all p_all) (sym blocks_are) all)))
