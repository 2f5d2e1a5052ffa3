-- Listings that are printed one behind the other.
use Rattle.std.specs.Prelude.{◌≡◌, ℕ, List, ◌++◌, map, drop, Ok}
use Rattle.tn_io.specs.Outs.{Printed}
use Rattle.tn_config.specs.declared.configurations.Block.{Block}
use Rattle.tn_config.specs.Configurations.{block_of}
use Rattle.tn_stream.specs.declared.images.Image.{Image}
use Rattle.tn_stream.specs.Images.{images_of}
use Rattle.tn_sym.specs.declared.programs.Program.{Program}
use Rattle.tn_system.specs.Systems.{programs_of}
use Rattle.tn_list.specs.Lists.{Lists}
use Rattle.tn_top.specs.ListPlans.{listings}

-- the listings of all processors but the first few
abbrev pub listings_from : ℕ → List Block → List Program → List Image → List ℕ
listings_from k blocks programs images =
    listings (map block_of (drop k blocks)) (programs_of (drop k programs)) (images_of (drop k images))

-- so much of a text was printed that this is left
pub record Leaves (text rest : List ℕ) (before after : Printed) : Type 0 where
  pub so_far : List ℕ
  pub lists : Lists {T = Unit {0}} so_far (Ok tt) before after
  pub whole : so_far ++ rest ≡ text
