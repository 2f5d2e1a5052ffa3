-- Words that spell a command, and what is read of them.
use Rattle.std.proofs.Common.{◌≡◌, ℕ, ◌-◌, ◌<◌, Bool, true, false, not, ◌&&◌, cond, List, [], ◌∷◌, length, get_or, Option, Some, None}
use Rattle.std.proofs.Common.{is_some, Result, Ok, Err}
use Rattle.std.proofs.Common.{IfSome, IfOk, refl, sym, ap, ◌∙◌, arith, Bor, map, le-leb, codes, ◌≤◌}
use Rattle.std.specs.Prelude.{nat_le, IsSomeAnd, if◌then◌else◌}
use Rattle.std.specs.Bool.{◌==◌}
use Rattle.std.proofs.lemmas.Bool.Decides.{nat_tests}
use Rattle.std.proofs.lemmas.List.Folds.{list_all-map}
use Rattle.std.proofs.lemmas.List.Sums.{AllPass-from_list_all}
use Rattle.tn_text.specs.declared.limits.TheConstants.{FILE_NAME_LIMIT}
use Rattle.std.proofs.lemmas.Option.{same_Some}
use Rattle.tn_io.proofs.FileListLaws.{bytes_eq-other}
use Rattle.tn_text.specs.FileNames.{is_file_name}
use Rattle.std.specs.List.{list_all}
use Rattle.std.specs.Option.{option_map}
use Rattle.std.specs.Result.{result_transpose}
use Rattle.tn_words.specs.PlainWords.{is_plain_word}
use Rattle.tn_words.specs.declared.faults.NoMemory.{NoMemory}
use Rattle.tn_words.specs.declared.commands.Command.{Command}
use Rattle.tn_words.specs.CommandWords.{Asked, one, lib, grid, is_file_word, link_named}
use Rattle.tn_words.specs.CommandWords.{size_named, one_file, two_files, one_asked, lib_asked, grid_asked, asked}
use Rattle.tn_words.specs.ReadWords.{IsReadAs, asked_by}
use Rattle.tn_words.specs.Inner.WordReading.{behind, ReadsAs}
use Rattle.tn_words.proofs.Options.{both}

-- what was read of words that ask for something
pub read-transposed : {A B : Type 0} (seen : B → A) (asked : Option A) (r : Result (Option B) NoMemory) → is_some asked ≡ true
    → ReadsAs seen asked r → IsReadAs seen asked (result_transpose r)
read-transposed seen None r some reads = absurd cc
read-transposed seen (Some a) (Ok None) some reads = absurd reads
read-transposed seen (Some a) (Ok (Some b)) some reads = reads
read-transposed seen (Some a) (Err want) some reads = tt

-- words that may name files are plain
pub plain : (word : List ℕ) → is_file_word word ≡ true → is_plain_word word ≡ true
plain word h = (both (is_plain_word word) (nat_le (length word) FILE_NAME_LIMIT) h).0

pub all_plain : (words : List (List ℕ)) → list_all is_file_word words ≡ true → list_all is_plain_word words ≡ true
all_plain [] h = refl
all_plain (word ∷ words) h =
    let parts = both (is_file_word word) (list_all is_file_word words) h in rw (plain word parts.0, all_plain words parts.1) refl

pub two_plain : (first second : List ℕ) → is_file_word first ≡ true → is_file_word second ≡ true
    → list_all is_plain_word (first ∷ second ∷ []) ≡ true
two_plain first second h k = rw (plain first h, plain second k) refl

link_plain : (word : List ℕ) (link : ℕ) → link_named word ≡ Some link → is_plain_word word ≡ true
unfolding link_named
link_plain [] link e = absurd cc
link_plain (c ∷ d ∷ ds) link e = absurd cc
link_plain (c ∷ []) link e = at (nat_le 48 c && nat_le c 51) refl e
  where
    at : (t : Bool) → (nat_le 48 c && nat_le c 51) ≡ t → cond {A = Option ℕ} t (Some (c - 48)) None ≡ Some link → not (c == 45) ≡ true
    at false t q = absurd cc
    at true t q = grind (arith, nat_tests, both (nat_le 48 c) (nat_le c 51) t)

pub three_plain : (source target word : List ℕ) (link : ℕ) → is_file_word source ≡ true → is_file_word target ≡ true
    → link_named word ≡ Some link → list_all is_plain_word (source ∷ target ∷ word ∷ []) ≡ true
three_plain source target word link h k l = rw (plain source h, plain target k, link_plain word link l) refl

pub size_plain : (word : List ℕ) (size : ℕ) → size_named word ≡ Some size → is_plain_word word ≡ true
unfolding size_named
size_plain [] size e = absurd cc
size_plain (c ∷ d ∷ ds) size e = absurd cc
size_plain (c ∷ []) size e = at (nat_le 49 c && nat_le c 56) refl e
  where
    at : (t : Bool) → (nat_le 49 c && nat_le c 56) ≡ t → cond {A = Option ℕ} t (Some (c - 48)) None ≡ Some size → not (c == 45) ≡ true
    at false t q = absurd cc
    at true t q = grind (arith, nat_tests, both (nat_le 49 c) (nat_le c 56) t)

-- such words are names of files
pub file_named : (word : List ℕ) → is_file_word word ≡ true → is_file_name word ≡ true
file_named [] h = absurd cc
file_named (c ∷ cs) h =
    let tests = both (not (c == 45)) (nat_le (length (c ∷ cs)) FILE_NAME_LIMIT) h in
    let some : nat_le 1 (length (c ∷ cs)) ≡ true = le-leb 1 (length (c ∷ cs)) (omega arith) in
    rw (some, tests.1) refl

-- each of such words is
pub named-at : (words : List (Bor (List ℕ))) (i : ℕ) (d : Bor (List ℕ)) → i < length words
    → list_all is_file_word (map (λ (w : Bor (List ℕ)). w.now) words) ≡ true → is_file_name (get_or words i d).now ≡ true
named-at words i d here h =
    file_named (get_or words i d).now
    (AllPass-from_list_all (λ (w : Bor (List ℕ)). is_file_word w.now) words
    (sym (list_all-map is_file_word (λ (w : Bor (List ℕ)). w.now) words) ∙ h) i d here)

-- a word that is a name of a file is taken for one
pub unnamed : (o : Option (List ℕ)) (word : List ℕ) → is_file_name word ≡ true → o ≡ (if is_file_name word then Some word else None)
    → o ≡ None → ⊥
unnamed o word h e n = at (is_file_name word) h (sym n ∙ e)
  where
    at : (b : Bool) → b ≡ true → None ≡ (if b then Some word else None) → ⊥
    at true t q = absurd cc
    at false t q = absurd cc

pub seen-some : {A B : Type 0} (seen : B → A) (o : Option B) (a : A) → option_map seen o ≡ Some a → IsSomeAnd o (λ b. seen b ≡ a)
seen-some seen None a e = absurd cc
seen-some seen (Some b) a e = same_Some (seen b) a e

-- ---- what is read of words, by what they ask for

some-same : {A B : Type 0} (seen : B → A) (a : A) (r : Result (Option B) NoMemory) → IfOk r (λ o. IsSomeAnd o (λ b. seen b ≡ a))
    → IfOk r (λ o. IsSomeAnd o (λ b. a ≡ seen b))
some-same seen a (Ok None) h = h
some-same seen a (Ok (Some b)) h = sym h
some-same seen a (Err why) h = tt

module _ (words : List (List ℕ)) where
  pub file_reads : (r : Result (Option (List ℕ)) NoMemory)
      → ((command file : List ℕ) → words ≡ command ∷ file ∷ [] → is_file_word file ≡ true → IfOk r (λ o. IsSomeAnd o (λ f. f ≡ file)))
      → ReadsAs (λ file. file) (one_file (behind words)) r
  file_reads r ok = at words refl
    where
      by : (command file : List ℕ) → words ≡ command ∷ file ∷ [] → (t : Bool) → is_file_word file ≡ t
          → IfSome (cond {A = Option (List ℕ)} t (Some file) None) (λ what. IfOk r (λ o. IsSomeAnd o (λ f. what ≡ f)))
      by command file e false t = tt
      by command file e true t = some-same (λ f. f) file r (ok command file e t)

      at : (ws : List (List ℕ)) → words ≡ ws → IfSome (one_file (behind ws)) (λ what. IfOk r (λ o. IsSomeAnd o (λ f. what ≡ f)))
      at [] e = tt
      at (a ∷ []) e = tt
      at (a ∷ b ∷ []) e = by a b e (is_file_word b) refl
      at (a ∷ b ∷ c ∷ cs) e = tt

  pub two_reads : (r : Result (Option (List ℕ × List ℕ)) NoMemory)
      → ((command first second : List ℕ) → words ≡ command ∷ first ∷ second ∷ [] → is_file_word first ≡ true
      → is_file_word second ≡ true → IfOk r (λ o. IsSomeAnd o (λ files. files ≡ (first, second))))
      → ReadsAs (λ files. files) (two_files (behind words)) r
  two_reads r ok = at words refl
    where
      by : (command first second : List ℕ) → words ≡ command ∷ first ∷ second ∷ [] → (t : Bool)
          → (is_file_word first && is_file_word second) ≡ t
          → IfSome (cond {A = Option (List ℕ × List ℕ)} t (Some (first, second)) None)
          (λ what. IfOk r (λ o. IsSomeAnd o (λ files. what ≡ files)))
      by command first second e false t = tt
      by command first second e true t =
          let files = both (is_file_word first) (is_file_word second) t in
          some-same (λ files. files) (first, second) r (ok command first second e files.0 files.1)

      at : (ws : List (List ℕ)) → words ≡ ws → IfSome (two_files (behind ws)) (λ what. IfOk r (λ o. IsSomeAnd o (λ files. what ≡ files)))
      at [] e = tt
      at (a ∷ []) e = tt
      at (a ∷ b ∷ []) e = tt
      at (a ∷ b ∷ c ∷ []) e = by a b c e (is_file_word b && is_file_word c) refl
      at (a ∷ b ∷ c ∷ d ∷ ds) e = tt

  pub one_reads : (r : Result (Option Command) NoMemory)
      → ((command source target word : List ℕ) (link : ℕ) → words ≡ command ∷ source ∷ target ∷ word ∷ []
      → is_file_word source ≡ true → is_file_word target ≡ true → link_named word ≡ Some link
      → IfOk r (λ o. IsSomeAnd o (λ c. asked_by c ≡ one source target link))) → ReadsAs asked_by (one_asked (behind words)) r
  one_reads r ok = at words refl
    where
      link_is : (command source target word : List ℕ) → words ≡ command ∷ source ∷ target ∷ word ∷ [] → is_file_word source ≡ true
          → is_file_word target ≡ true → (o : Option ℕ) → link_named word ≡ o
          → IfSome (option_map (λ k. one source target k) o) (λ what. IfOk r (λ o. IsSomeAnd o (λ c. what ≡ asked_by c)))
      link_is command source target word e h k None q = tt
      link_is command source target word e h k (Some link) q =
          some-same asked_by (one source target link) r (ok command source target word link e h k q)

      by : (command source target word : List ℕ) → words ≡ command ∷ source ∷ target ∷ word ∷ [] → (t : Bool)
          → (is_file_word source && is_file_word target) ≡ t
          → IfSome (cond {A = Option Asked} t (option_map (λ k. one source target k) (link_named word)) None)
          (λ what. IfOk r (λ o. IsSomeAnd o (λ c. what ≡ asked_by c)))
      by command source target word e false t = tt
      by command source target word e true t =
          let files = both (is_file_word source) (is_file_word target) t in
          link_is command source target word e files.0 files.1 (link_named word) refl

      at : (ws : List (List ℕ)) → words ≡ ws → IfSome (one_asked (behind ws)) (λ what. IfOk r (λ o. IsSomeAnd o (λ c. what ≡ asked_by c)))
      at [] e = tt
      at (a ∷ []) e = tt
      at (a ∷ b ∷ []) e = tt
      at (a ∷ b ∷ c ∷ []) e = tt
      at (a ∷ b ∷ c ∷ d ∷ []) e = by a b c d e (is_file_word b && is_file_word c) refl
      at (a ∷ b ∷ c ∷ d ∷ f ∷ fs) e = tt

  pub grid_reads : (r : Result (Option Command) NoMemory)
      → ((command word : List ℕ) (size : ℕ) → words ≡ command ∷ word ∷ [] → size_named word ≡ Some size
      → IfOk r (λ o. IsSomeAnd o (λ c. asked_by c ≡ grid size))) → ReadsAs asked_by (grid_asked (behind words)) r
  grid_reads r ok = at words refl
    where
      by : (command word : List ℕ) → words ≡ command ∷ word ∷ [] → (o : Option ℕ) → size_named word ≡ o
          → IfSome (option_map grid o) (λ what. IfOk r (λ o. IsSomeAnd o (λ c. what ≡ asked_by c)))
      by command word e None q = tt
      by command word e (Some size) q = some-same asked_by (grid size) r (ok command word size e q)

      at : (ws : List (List ℕ)) → words ≡ ws → IfSome (grid_asked (behind ws)) (λ what. IfOk r (λ o. IsSomeAnd o (λ c. what ≡ asked_by c)))
      at [] e = tt
      at (a ∷ []) e = tt
      at (a ∷ b ∷ []) e = by a b e (size_named b) refl
      at (a ∷ b ∷ c ∷ cs) e = tt

  pub lib_reads : (r : Result (Option Command) NoMemory)
      → ((command target source : List ℕ) (sources : List (List ℕ)) → words ≡ command ∷ target ∷ source ∷ sources
      → list_all is_file_word (target ∷ source ∷ sources) ≡ true
      → IfOk r (λ o. IsSomeAnd o (λ c. asked_by c ≡ lib target (source ∷ sources)))) → ReadsAs asked_by (lib_asked (behind words)) r
  lib_reads r ok = at words refl
    where
      by : (command target source : List ℕ) (sources : List (List ℕ)) → words ≡ command ∷ target ∷ source ∷ sources → (t : Bool)
          → list_all is_file_word (target ∷ source ∷ sources) ≡ t
          → IfSome (cond {A = Option Asked} t (Some (lib target (source ∷ sources))) None)
          (λ what. IfOk r (λ o. IsSomeAnd o (λ c. what ≡ asked_by c)))
      by command target source sources e false t = tt
      by command target source sources e true t =
          some-same asked_by (lib target (source ∷ sources)) r (ok command target source sources e t)

      at : (ws : List (List ℕ)) → words ≡ ws → IfSome (lib_asked (behind ws)) (λ what. IfOk r (λ o. IsSomeAnd o (λ c. what ≡ asked_by c)))
      at [] e = tt
      at (a ∷ []) e = tt
      at (a ∷ b ∷ []) e = tt
      at (a ∷ b ∷ c ∷ cs) e = by a b c cs e (list_all is_file_word (b ∷ c ∷ cs)) refl

-- ---- words of no command

pub unasked : {X : Type 0} (f : X → List ℕ) (words : List X) (first : X) (command : List ℕ) → 1 ≤ length words
    → first ≡ get_or words 0 first → command ≡ f first → (command ≡ codes "flat" → ⊥) → (command ≡ codes "one" → ⊥)
    → (command ≡ codes "asm" → ⊥) → (command ≡ codes "lib" → ⊥) → (command ≡ codes "build" → ⊥) → (command ≡ codes "list" → ⊥)
    → (command ≡ codes "tree" → ⊥) → (command ≡ codes "replay" → ⊥) → (command ≡ codes "grid" → ⊥) → asked (map f words) ≡ None
unfolding asked
unasked f [] first command some is same no_flat no_one no_asm no_lib no_build no_list no_tree no_replay no_grid = absurd (omega arith)
unasked f (word ∷ words) first command some is same no_flat no_one no_asm no_lib no_build no_list no_tree no_replay no_grid =
    let named : command ≡ f word = same ∙ ap f is in
    rw (
      ← named,
      bytes_eq-other command (codes "flat") no_flat,
      bytes_eq-other command (codes "one") no_one,
      bytes_eq-other command (codes "asm") no_asm,
      bytes_eq-other command (codes "lib") no_lib,
      bytes_eq-other command (codes "build") no_build,
      bytes_eq-other command (codes "list") no_list,
      bytes_eq-other command (codes "tree") no_tree,
      bytes_eq-other command (codes "replay") no_replay,
      bytes_eq-other command (codes "grid") no_grid,
    ) refl
