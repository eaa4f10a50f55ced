-- Where marks stand (own).
use Rattle.std.specs.Prelude.{◌≡◌, ◌≤◌, ℕ, Bool, true, false, List, [], ◌∷◌, slice_get}
use Rattle.std.specs.List.{All}
use Rattle.std.specs.Option.{option_map_or}
use Rattle.dita_doc.specs.declared.content.Mark.{Mark}
use Rattle.dita_doc.specs.declared.doc.Node.{Node}
use Rattle.dita_doc.specs.declared.doc.NodeKind.{NodeKind}
use Rattle.dita_doc.specs.declared.doc.NodeKind.TheVariants as kinds

abbrev pub is_element_kind : NodeKind → Bool
is_element_kind kinds.Chars = false
is_element_kind kinds.Element = true

abbrev pub is_element : Node → Bool
is_element node = is_element_kind node.kind

-- an element stands at this place
abbrev pub is_element_at : List Node → ℕ → Bool
is_element_at nodes place = option_map_or is_element (slice_get nodes place) false

-- no mark stands before this place, and none before the one in front of it
abbrev pub RiseFrom : ℕ → List Mark → Type 0
RiseFrom least [] = Unit {0}
RiseFrom least (mark ∷ marks) = (least ≤ mark.place) × RiseFrom mark.place marks

-- marks of elements among these nodes, in their order
pub record AreAtElements (nodes : List Node) (marks : List Mark) : Type 0 where
  pub each : All (λ (mark : Mark). is_element_at nodes mark.place ≡ true) marks
  pub rising : RiseFrom 0 marks
