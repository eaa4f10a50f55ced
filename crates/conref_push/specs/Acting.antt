-- Elements that act, in a document as a whole (own).
use Rattle.std.specs.Prelude.{Bool, false, ℕ, List}
use Rattle.std.specs.List.{list_any}
use Rattle.std.specs.Option.{option_map_or}
use Rattle.map_spec.specs.Written.{Whole, Written, document, elements_below}
use Rattle.map_spec.specs.Pushes.{has_conaction}
use Rattle.reader_spec.specs.World.{World}

abbrev pub acts_there : Whole → Bool
acts_there whole = has_conaction whole.0

-- an element among these nodes or below acts
abbrev pub any_acts : Written → Bool
any_acts nodes = list_any acts_there (elements_below nodes)

-- an element of the document of this name acts
abbrev pub has_conaction_in : World → List ℕ → Bool
has_conaction_in world name = option_map_or any_acts (document world name) false
