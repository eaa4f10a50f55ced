-- Which map an element includes, as it is asked for.
use Rattle.std.specs.Prelude.{◌≡◌, ◌&&◌, ℕ, Bool, List, Option, Some, None, not, codes, if◌then◌else◌}
use Rattle.dita_doc.specs.declared.plan.PlanKind.{PlanKind}
use Rattle.dita_doc.specs.declared.plan.PlanKind.TheVariants as kinds
use Rattle.map_spec.specs.Elements.{attribute, has_value}
use Rattle.map_spec.specs.Included.{is_reference}
use Rattle.map_spec.specs.Target.{named_of}
use Rattle.map_spec.specs.Written.{Element}
use Rattle.targets.specs.Named.{named_shown}
use Rattle.map_expand.specs.declared.node.Inclusion.{Inclusion}

-- the href by which an element includes a map
abbrev pub map_href : PlanKind → Bool → Element → Option (List ℕ)
map_href kind in_table element =
    if is_reference kind && not in_table && has_value (codes "format") (codes "ditamap") element
    then attribute (codes "href") element else None

abbrev pub IsAskedBy : Element → Option (List ℕ) → Option Inclusion → Type 0
IsAskedBy element href None = href ≡ None
IsAskedBy element href (Some asked) = (href ≡ Some asked.href) × (named_shown asked.named ≡ named_of element asked.href)

-- this is what the element asks for, if it makes a node of this kind
abbrev pub IsAsked : PlanKind → Bool → Element → Option Inclusion → Type 0
IsAsked kind in_table element asked = IsAskedBy element (map_href kind in_table element) asked

abbrev pub kind_with : Option Inclusion → PlanKind → PlanKind
kind_with None kind = kind
kind_with (Some asked) kind = kinds.Included
