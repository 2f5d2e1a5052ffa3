-- Sources that the code looks up.
use Rattle.std.specs.Prelude.{ℕ, ◌<◌, length, slice_index, Option, Some, None}
use Rattle.tn_symbols.specs.declared.choices.Source.{Source}
use Rattle.tn_symbols.specs.declared.sources.Offer.{Offer as Held}
use Rattle.tn_symbols.specs.Sources.{Offer, offer, modules_at}

-- a module that is named, or that stands in a used library
abbrev pub IsIn : Offer → ℕ → Option ℕ → Type 0
IsIn o index None = (index < length o.named) × (slice_index o.named index < length o.pool)
IsIn o index (Some u) =
    (u < length o.used) × (slice_index o.used u < length o.shelf) × (index < length (modules_at o.shelf (slice_index o.used u)))

abbrev pub IsHere : Offer → Source → Type 0
IsHere o s = IsIn o s.index s.library

-- the offer as the code holds it
abbrev pub offered : Held → Offer
offered held = offer held.pool.now held.named.now held.shelf.now held.used.now
