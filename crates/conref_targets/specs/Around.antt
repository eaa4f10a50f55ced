-- Where a node of a document stands (own): what is around it, and how many elements are around it.
use Rattle.std.specs.Prelude.{◌+◌, ◌-◌, ◌==◌, ℕ, List, [], ◌∷◌, nat_lt, if◌then◌else◌}
use Rattle.dita_doc.specs.declared.doc.Node as doc
use Rattle.ditaval_rules.specs.Domains.{declared_by}
use Rattle.doc_elements.specs.Walk.{element_of}
use Rattle.map_spec.specs.Titles.{id_of}
use Rattle.map_spec.specs.Written.{Element, Written, End, Chars, Node, size}
use Rattle.map_spec.specs.Places.{is_topic}
use Rattle.conref_spec.specs.Content as content
use Rattle.conref_spec.specs.Content.{ContentAround}
use Rattle.conref_targets.specs.declared.standing.NodeStanding.{NodeStanding}

pub record StandsAround : Type 0 where
  pub around : ContentAround
  pub depth : ℕ

abbrev pub nothing_around : StandsAround
nothing_around = record { around = content.nothing_around; depth = 0 }

abbrev pub within_element : Element → StandsAround → StandsAround
within_element element stands = record {
  around = record {
    topic = if is_topic element then id_of element else stands.around.topic;
    declared = declared_by stands.around.declared element.attributes;
  };
  depth = stands.depth + 1;
}

-- where the node at a place stands, counted from the first of these nodes
abbrev pub around_at : StandsAround → Written → ℕ → StandsAround
around_at around End place = around
around_at around (Chars text doc rest) place = if place == 0 then around else around_at around rest (place - 1)
around_at around (Node element inside rest) place =
    if place == 0 then around
    else if nat_lt (size inside) place then around_at around rest (place - (1 + size inside))
    else around_at (within_element element around) inside (place - 1)

-- the node at a place alone, with what it holds
abbrev pub alone_at : Written → ℕ → Written
alone_at End place = End
alone_at (Chars text doc rest) place = if place == 0 then Chars text doc End else alone_at rest (place - 1)
alone_at (Node element inside rest) place =
    if place == 0 then Node element inside End
    else if nat_lt (size inside) place then alone_at rest (place - (1 + size inside)) else alone_at inside (place - 1)

-- The same by the nodes in front of the place: those that end behind it are around it

abbrev pub entered : ℕ → doc.Node → StandsAround → StandsAround
entered place node around = if nat_lt place node.end then within_element (element_of [] node) around else around

abbrev pub entered_all : ℕ → List doc.Node → StandsAround → StandsAround
entered_all place [] around = around
entered_all place (node ∷ nodes) around = entered_all place nodes (entered place node around)

abbrev pub standing_shown : NodeStanding → StandsAround
standing_shown standing =
    record { around = record { topic = standing.topic.now; declared = standing.declared }; depth = standing.depth }
