-- The nodes that rules leave, made from the first node to the last (own): a node that is excluded is passed over with
-- all that stands before its end, and each node that is kept finds the new place of its parent.
use Rattle.std.specs.Prelude.{◌&&◌, ℕ, Bool, false, List, [], ◌∷◌, ◌++◌, Option, length, nat_lt, option_map, slice_get, unwrap_or, if◌then◌else◌}
use Rattle.std.specs.Borrow.{Bor}
use Rattle.std.specs.Option.{option_map_or}
use Rattle.dita_doc.specs.declared.content.Rule.{Rule}
use Rattle.dita_doc.specs.declared.doc.Node as doc
use Rattle.dita_doc.specs.declared.fault.Fault.{Fault}
use Rattle.dita_doc.specs.declared.plan.PlanNode.{PlanNode}
use Rattle.ditaval_rules.specs.Verdict.{excluded}
use Rattle.doc_elements.specs.Walk.{element_of}
use Rattle.map_spec.specs.Cascade.{whole_at}
use Rattle.map_spec.specs.Judged.{group_faults}
use Rattle.map_spec.specs.Written.{Element, Whole}
use Rattle.reader_spec.specs.World.{World}
use Rattle.node_filter.specs.Domains.{names_at}
use Rattle.node_filter.specs.declared.sieve.Sieve.{Sieve}

-- the element of a node that stands in a document of this name
abbrev pub element_found : List ℕ → Option (Bor doc.Node) → Option Element
element_found name found = option_map (λ (node : Bor doc.Node). element_of name node.now) found

-- the same in a world
abbrev pub element_in_world : World → PlanNode → Option Element
element_in_world world node = option_map (λ (whole : Whole). whole.0) (whole_at world node)

-- what is wrong with an element for which these names are declared, and whether it is excluded
abbrev pub faults_of : List (List ℕ) → Option Element → List Fault
faults_of declared element = option_map_or (group_faults declared) element []

abbrev pub is_sieved_out : List Rule → List (List ℕ) → Option Element → Bool
is_sieved_out rules declared element =
    option_map_or (λ (written : Element). excluded rules declared written.attributes) element false

-- the node, whose parent stands at its new place
abbrev pub moved : List ℕ → PlanNode → PlanNode
moved places node = record node { parent = unwrap_or (slice_get places node.parent) 0 }

abbrev pub empty : Sieve
empty = record { places = []; kept = []; faults = []; next = 0 }

-- the next node, which stands for this element, for which these names are declared
abbrev pub passed : List Rule → List (List ℕ) → Option Element → PlanNode → Sieve → Sieve
passed rules declared element node sieve =
    let places : List ℕ = sieve.places ++ length sieve.kept ∷ [] in
    let faults : List Fault = sieve.faults ++ faults_of declared element in
    if nat_lt (length sieve.places) sieve.next
    then record { places = places; kept = sieve.kept; faults = sieve.faults; next = sieve.next }
    else if nat_lt 0 (length sieve.places) && is_sieved_out rules declared element
    then record { places = places; kept = sieve.kept; faults = faults; next = node.end }
    else record { places = places; kept = sieve.kept ++ moved places node ∷ []; faults = faults; next = sieve.next }

-- these nodes, one after the other
abbrev pub all_passed : World → List Rule → List PlanNode → Sieve → Sieve
all_passed world rules [] sieve = sieve
all_passed world rules (node ∷ nodes) sieve =
    all_passed world rules nodes (passed rules (names_at world node) (element_in_world world node) node sieve)
