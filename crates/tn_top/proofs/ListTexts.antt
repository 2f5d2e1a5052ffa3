-- Listings that are printed one behind the other.
use Rattle.std.proofs.Common.{◌≡◌, ℕ, zero, suc, ◌+◌, ◌<◌, List, [], ◌∷◌, ◌++◌, length, get_or, map, drop, Ok, Err}
use Rattle.std.proofs.Common.{refl, sym, ap, ◌∙◌, append_assoc, append-nil, arith}
use Rattle.tn_io.specs.Outs.{Printed}
use Rattle.tn_config.specs.declared.configurations.Block.{Block}
use Rattle.tn_config.specs.Configurations.{BlockState, block_of}
use Rattle.tn_stream.specs.declared.images.Image.{Image}
use Rattle.tn_stream.specs.Images.{ImageBytes, image_of, images_of}
use Rattle.tn_sym.specs.declared.programs.Program.{Program}
use Rattle.tn_sym.specs.ProgramStates.{ProgramState, program_of}
use Rattle.tn_system.specs.Systems.{programs_of}
use Rattle.tn_list.specs.declared.faults.ListFault.{ListFault}
use Rattle.tn_list.specs.Lists.{Lists}
use Rattle.tn_list.proofs.PrintingLaws.{Lists-joined, Lists-stopped, Lists-as}
use Rattle.tn_top.specs.ListPlans.{block_listing, listings}
use Rattle.tn_top.specs.Inner.Listings.{listings_from, Leaves}

-- ---- what is left

-- the next listing, and those behind it
from-next : (blocks : List Block) (programs : List Program) (images : List Image) (k : ℕ) (b : Block) (g : Program) (i : Image)
    → k < length blocks → k < length programs → k < length images
    → listings_from k blocks programs images
    ≡ block_listing (block_of (get_or blocks k b)) (program_of (get_or programs k g)) (image_of (get_or images k i))
    ++ listings_from (suc k) blocks programs images
unfolding listings
from-next [] programs images k b g i h l m = absurd (omega arith)
from-next (x ∷ xs) [] images k b g i h l m = absurd (omega arith)
from-next (x ∷ xs) (y ∷ ys) [] k b g i h l m = absurd (omega arith)
from-next (x ∷ xs) (y ∷ ys) (z ∷ zs) zero b g i h l m = refl
from-next (x ∷ xs) (y ∷ ys) (z ∷ zs) (suc k) b g i h l m = from-next xs ys zs k b g i (omega arith) (omega arith) (omega arith)

pub from-first : (blocks : List Block) (programs : List Program) (images : List Image) (k : ℕ) (b : Block) (g : Program) (i : Image)
    → k < length blocks → k < length programs → k < length images → b ≡ get_or blocks k b → g ≡ get_or programs k g
    → i ≡ get_or images k i → listings_from k blocks programs images
    ≡ block_listing (block_of b) (program_of g) (image_of i) ++ listings_from (k + 1) blocks programs images
from-first blocks programs images k b g i h l m b_is g_is i_is =
    let behind : suc k ≡ k + 1 = omega arith in
    let block : get_or blocks k b ≡ b = sym b_is in
    let program : get_or programs k g ≡ g = sym g_is in
    let image : get_or images k i ≡ i = sym i_is in
    let same : block_listing (block_of (get_or blocks k b)) (program_of (get_or programs k g)) (image_of (get_or images k i))
    ++ listings_from (suc k) blocks programs images
    ≡ block_listing (block_of b) (program_of g) (image_of i) ++ listings_from (k + 1) blocks programs images =
    λ j. block_listing (block_of (block j)) (program_of (program j)) (image_of (image j))
    ++ listings_from (behind j) blocks programs images in
    from-next blocks programs images k b g i h l m ∙ same

no_programs : (blocks : List BlockState) (images : List ImageBytes) → listings blocks [] images ≡ []
unfolding listings
no_programs [] images = refl
no_programs (b ∷ blocks) images = refl

no_images : (blocks : List BlockState) (programs : List ProgramState) → listings blocks programs [] ≡ []
unfolding listings
no_images [] programs = refl
no_images (b ∷ blocks) [] = refl
no_images (b ∷ blocks) (g ∷ programs) = refl

-- none is left where one of the three is at its end
pub from-end : (blocks : List Block) (programs : List Program) (images : List Image) (k : ℕ)
    → (k < length blocks → k < length programs → k < length images → ⊥) → listings_from k blocks programs images ≡ []
unfolding listings
from-end [] programs images zero end = refl
from-end [] programs images (suc k) end = refl
from-end (x ∷ xs) [] images zero end = refl
from-end (x ∷ xs) (y ∷ ys) [] zero end = refl
from-end (x ∷ xs) (y ∷ ys) (z ∷ zs) zero end = absurd (end (omega arith) (omega arith) (omega arith))
from-end (x ∷ xs) [] images (suc k) end = no_programs (map block_of (drop k xs)) (images_of (drop (suc k) images))
from-end (x ∷ xs) (y ∷ ys) [] (suc k) end = no_images (map block_of (drop k xs)) (programs_of (drop k ys))
from-end (x ∷ xs) (y ∷ ys) (z ∷ zs) (suc k) end = from-end xs ys zs k (λ h l m. end (omega arith) (omega arith) (omega arith))

-- ---- what was printed

-- one listing more
pub leaves-less : {text left one rest : List ℕ} {p q s : Printed} → left ≡ one ++ rest → Leaves text left p q
    → Lists {T = Unit {0}} one (Ok tt) q s → Leaves text rest p s
leaves-less {one} {rest} is l h = record {
  so_far = l.so_far ++ one;
  lists = Lists-joined l.lists h;
  whole = append_assoc l.so_far one rest ∙ ap (λ more. l.so_far ++ more) (sym is) ∙ l.whole;
}

-- a listing that was refused
pub leaves-stopped : {e : ListFault} {text left one : List ℕ} {p q s : Printed} (rest : List ℕ) → left ≡ one ++ rest
    → Leaves text left p q → Lists {T = Unit {0}} one (Err e) q s → Lists {T = Unit {0}} text (Err e) p s
leaves-stopped {one} rest is l h =
    Lists-as (append_assoc l.so_far one rest ∙ ap (λ more. l.so_far ++ more) (sym is) ∙ l.whole)
    (Lists-stopped rest (Lists-joined l.lists h))

-- nothing is left
pub leaves-nothing : {text left : List ℕ} {p q : Printed} → left ≡ [] → Leaves text left p q → Lists {T = Unit {0}} text (Ok tt) p q
leaves-nothing is l = Lists-as (sym (append-nil l.so_far) ∙ ap (λ more. l.so_far ++ more) (sym is) ∙ l.whole) l.lists
