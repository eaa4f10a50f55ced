-- The state of a page that is being resolved (own).
use Rattle.std.specs.Prelude.{◌≡◌, ℕ, List, map, nat_le, nat_lt, take}
use Rattle.doc_maker.specs.Building.{depth}
use Rattle.doc_maker.specs.Made.{building}
use Rattle.conref_spec.specs.Content as content
use Rattle.conref_spec.specs.Content.{resolve_depth_limit}
use Rattle.conref_pull.specs.declared.place.Place.{Place}
use Rattle.conref_pull.specs.declared.resolver.Resolver.{Resolver}

abbrev pub place_shown : Place → content.Place
place_shown place = record { doc = place.doc; at = place.at }

-- the targets within which nodes are resolved: the first so many of the path
abbrev pub path_within : Resolver → ℕ → List content.Place
path_within resolver links = take links (map place_shown resolver.path.items)

-- what is put next stands at this depth, as far as the limit is concerned
pub record IsDepth (resolver : Resolver) (at : ℕ) : Type 0 where
  pub is : nat_lt resolve_depth_limit at ≡ nat_le resolver.deepest (depth (building resolver.maker))

-- the page is the same, and so is how it is judged
pub record IsSamePage (old new : Resolver) : Type 0 where
  pub context : new.context ≡ old.context
  pub rules : new.rules ≡ old.rules
  pub deepest : new.deepest ≡ old.deepest
