-- What words ask for, and the ranges of its numbers.
use Rattle.std.proofs.Common.{◌≡◌, ℕ, ◌-◌, Bool, true, false, ◌&&◌, cond, List, [], ◌∷◌, Option, Some, None, Result, Ok, Err}
use Rattle.std.proofs.Common.{IfSome, IfOk, refl, subst, arith, codes, ◌≤◌}
use Rattle.std.specs.Prelude.{nat_le}
use Rattle.std.specs.Str.{bytes_eq}
use Rattle.std.proofs.lemmas.Bool.{leb-true}
use Rattle.std.specs.List.{list_all}
use Rattle.std.specs.Option.{option_map}
use Rattle.tn_words.specs.declared.faults.NoMemory.{NoMemory}
use Rattle.tn_words.specs.declared.commands.Command.{Command}
use Rattle.tn_words.specs.CommandWords.{Asked, IsInRange, flat, one, asm, lib, build, list, tree, replay, grid, is_file_word, link_named}
use Rattle.tn_words.specs.CommandWords.{size_named, one_file, two_files, one_asked, lib_asked, grid_asked, asked}
use Rattle.tn_words.specs.ReadWords.{IsReadAs, IsFor, asked_by}
use Rattle.tn_words.proofs.Options.{both}

either : (b : Bool) (x y : Option Asked) → IfSome x IsInRange → IfSome y IsInRange → IfSome (cond b x y) IsInRange
either true x y h k = h
either false x y h k = k

asm-ranges : (files : Option (List ℕ × List ℕ)) → IfSome (option_map (λ f. asm f.0 f.1) files) IsInRange
asm-ranges None = tt
asm-ranges (Some f) = tt

build-ranges : (files : Option (List ℕ × List ℕ)) → IfSome (option_map (λ f. build f.0 f.1) files) IsInRange
build-ranges None = tt
build-ranges (Some f) = tt

list-ranges : (file : Option (List ℕ)) → IfSome (option_map list file) IsInRange
list-ranges None = tt
list-ranges (Some f) = tt

tree-ranges : (file : Option (List ℕ)) → IfSome (option_map tree file) IsInRange
tree-ranges None = tt
tree-ranges (Some f) = tt

flat-ranges : (files : Option (List ℕ × List ℕ)) → IfSome (option_map (λ f. flat f.0 f.1) files) IsInRange
flat-ranges None = tt
flat-ranges (Some f) = tt

link-below : (source target word : List ℕ) → IfSome (option_map (λ k. one source target k) (link_named word)) IsInRange
unfolding link_named
link-below source target [] = tt
link-below source target (c ∷ d ∷ ds) = tt
link-below source target (c ∷ []) = at (nat_le 48 c && nat_le c 51) refl
  where
    at : (t : Bool) → (nat_le 48 c && nat_le c 51) ≡ t
        → IfSome (option_map (λ k. one source target k) (cond {A = Option ℕ} t (Some (c - 48)) None)) IsInRange
    at false t = tt
    at true t =
        let tests = both (nat_le 48 c) (nat_le c 51) t in
        let high : c ≤ 51 = leb-true c 51 tests.1 in
        omega (arith, high)

one-ranges : (words : List (List ℕ)) → IfSome (one_asked words) IsInRange
one-ranges [] = tt
one-ranges (a ∷ []) = tt
one-ranges (a ∷ b ∷ []) = tt
one-ranges (a ∷ b ∷ c ∷ []) =
    either (is_file_word a && is_file_word b) (option_map (λ k. one a b k) (link_named c)) None (link-below a b c) tt
one-ranges (a ∷ b ∷ c ∷ d ∷ ds) = tt

lib-ranges : (words : List (List ℕ)) → IfSome (lib_asked words) IsInRange
lib-ranges [] = tt
lib-ranges (a ∷ []) = tt
lib-ranges (a ∷ b ∷ bs) = either (list_all is_file_word (a ∷ b ∷ bs)) (Some (lib a (b ∷ bs))) None tt tt

size-within : (word : List ℕ) → IfSome (option_map grid (size_named word)) IsInRange
unfolding size_named
size-within [] = tt
size-within (c ∷ d ∷ ds) = tt
size-within (c ∷ []) = at (nat_le 49 c && nat_le c 56) refl
  where
    at : (t : Bool) → (nat_le 49 c && nat_le c 56) ≡ t
        → IfSome (option_map grid (cond {A = Option ℕ} t (Some (c - 48)) None)) IsInRange
    at false t = tt
    at true t =
        let tests = both (nat_le 49 c) (nat_le c 56) t in
        let low : 49 ≤ c = leb-true 49 c tests.0 in
        let high : c ≤ 56 = leb-true c 56 tests.1 in
        (omega (arith, low), omega (arith, high))

replay-ranges : (files : Option (List ℕ × List ℕ)) → IfSome (option_map (λ f. replay f.0 f.1) files) IsInRange
replay-ranges None = tt
replay-ranges (Some f) = tt

grid-ranges : (words : List (List ℕ)) → IfSome (grid_asked words) IsInRange
grid-ranges [] = tt
grid-ranges (a ∷ []) = size-within a
grid-ranges (a ∷ b ∷ bs) = tt

-- what is asked for has a link below 4, and the size of a grid is 1 to 8
pub asked-ranges : (words : List (List ℕ)) → IfSome (asked words) IsInRange
unfolding asked
asked-ranges [] = tt
asked-ranges (command ∷ words) =
    either (bytes_eq command (codes "flat")) (option_map (λ f. flat f.0 f.1) (two_files words)) _ (flat-ranges (two_files words))
    (either (bytes_eq command (codes "one")) (one_asked words) _ (one-ranges words)
    (either (bytes_eq command (codes "asm")) (option_map (λ f. asm f.0 f.1) (two_files words)) _ (asm-ranges (two_files words))
    (either (bytes_eq command (codes "lib")) (lib_asked words) _ (lib-ranges words)
    (either (bytes_eq command (codes "build")) (option_map (λ f. build f.0 f.1) (two_files words)) _ (build-ranges (two_files words))
    (either (bytes_eq command (codes "list")) (option_map list (one_file words)) _ (list-ranges (one_file words))
    (either (bytes_eq command (codes "tree")) (option_map tree (one_file words)) _ (tree-ranges (one_file words))
    (either (bytes_eq command (codes "replay")) (option_map (λ f. replay f.0 f.1) (two_files words)) _ (replay-ranges (two_files words))
    (either (bytes_eq command (codes "grid")) (grid_asked words) None (grid-ranges words) tt))))))))

-- ---- what was read is what is asked for

pub record IsAskedFor (asked : Option Asked) (r : Result Command NoMemory) : Type 0 where
  pub what : Asked
  pub is : asked ≡ Some what
  pub reads : IsFor what r

pub read-some : (asked : Option Asked) (r : Result Command NoMemory) → IsReadAs asked_by asked (Some r) → IsAskedFor asked r
read-some None r h = absurd h
read-some (Some a) (Ok c) h = record { what = a; is = refl; reads = h }
read-some (Some a) (Err want) h = record { what = a; is = refl; reads = tt }

pub read-range : (asked : Option Asked) (r : Result Command NoMemory) → IfSome asked IsInRange → IsReadAs asked_by asked (Some r)
    → IfOk r (λ c. IsInRange (asked_by c))
read-range None (Ok c) h k = absurd k
read-range (Some a) (Ok c) h k = subst IsInRange k h
read-range asked (Err want) h k = tt
