-- Whether a target can be taken within the targets that are being resolved, and how they go on with it (own).
use Rattle.std.specs.Prelude.{◌≡◌, ◌||◌, ℕ, Bool, List, [], ◌∷◌, ◌++◌, Option, Some, None, map, nat_le, take, if◌then◌else◌}
use Rattle.dita_doc.specs.declared.fault.FaultCode.{FaultCode}
use Rattle.dita_doc.specs.declared.fault.FaultCode.TheVariants as faults
use Rattle.conref_spec.specs.Content.{Place, is_place, path_limit}
use Rattle.conref_targets.specs.declared.find.Found.{Found}
use Rattle.conref_pull.specs.State.{place_shown}
use Rattle.conref_pull.specs.declared.chain.TakenTarget.{TakenTarget}
use Rattle.conref_pull.specs.declared.place.Place as kept

abbrev pub place_of : Found → Place
place_of found = record { doc = found.name; at = found.place }

abbrev pub is_at : Found → kept.Place → Bool
is_at found place = is_place (place_of found) (place_shown place)

-- why a target can't be taken, by whether it is one of those that are being resolved, and whether they or the elements
-- around it are too many
abbrev pub refusal_by : Bool → Bool → Option FaultCode
refusal_by on_path too_deep =
    if on_path then Some faults.ConrefCycle else if too_deep then Some faults.ConrefDepth else None

-- so many targets, or so many open elements of those that may be open, are too many
abbrev pub is_too_deep : ℕ → ℕ → ℕ → Bool
is_too_deep links deepest opened = nat_le path_limit links || nat_le deepest opened

abbrev pub link_of : Found → List (List ℕ) → ℕ → ℕ → TakenTarget
link_of found declared from to =
    record { doc = found.doc; place = found.place; declared = declared; from = from; to = to }

-- a path goes on with the target, behind its first so many
abbrev pub GoesOn : List kept.Place → List kept.Place → Found → ℕ → Type 0
GoesOn old new found links = map place_shown new ≡ take links (map place_shown old) ++ place_of found ∷ []
