-- Texts that are printed line by line.
use Rattle.std.specs.Prelude.{◌≡◌, ℕ, List, ◌++◌, Ok}
use Rattle.tn_io.specs.Outs.{Printed}
use Rattle.tn_list.specs.Lists.{Lists}

-- so much of the text was printed that this is left
pub record Remains (text rest : List ℕ) (before after : Printed) : Type 0 where
  pub done : List ℕ
  pub lists : Lists {T = Unit {0}} done (Ok tt) before after
  pub whole : done ++ rest ≡ text
