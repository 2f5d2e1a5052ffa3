-- Labels of code.
use Rattle.std.proofs.Common.{◌≡◌, false, ◌||◌, List, [], ◌∷◌, ℕ, refl, ap}
use Rattle.std.specs.List.{list_any}
use Rattle.std.specs.Option.{option_map_or}
use Rattle.tn_module.specs.declared.modules.Item.{Item}
use Rattle.tn_module.specs.declared.modules.Item.TheVariants as item
use Rattle.tn_module.specs.Names.{same_name, is_among, code_label, code_labels}

-- a name is a label where one of the items is
pub any-label : (name : List ℕ) (items : List Item) → list_any (λ x. option_map_or (same_name name) (code_label x) false) items
    ≡ is_among (code_labels items) name
any-label name [] = refl
any-label name (item.Direct f o ∷ xs) = any-label name xs
any-label name (item.Plain op ∷ xs) = any-label name xs
any-label name (item.Byte b ∷ xs) = any-label name xs
any-label name (item.Label other ∷ xs) = ap (λ b. same_name name other || b) (any-label name xs)
