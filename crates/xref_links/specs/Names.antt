-- The documents that the elements of a body may ask about (own): those of the nodes of the map, in which keys are
-- defined; the page's own; and those that hrefs of the elements are joined to.
use Rattle.std.specs.Prelude.{ℕ, List, ◌∷◌, ◌++◌}
use Rattle.std.specs.Option.{option_to_list}
use Rattle.dita_doc.specs.declared.content.Resolved.{Resolved}
use Rattle.dita_doc.specs.declared.plan.Context.{Context}
use Rattle.dita_doc.specs.declared.plan.PlanNode.{PlanNode}
use Rattle.dita_doc.specs.declared.plan.Target.{Target}
use Rattle.map_spec.specs.Pages.{local_name}
use Rattle.readers.specs.Founded.{homes}
use Rattle.readers.specs.Named.{linked_in}
use Rattle.xref_links.specs.Body.{written_of}

abbrev pub names_with : List PlanNode → List ℕ → List (List ℕ) → List (List ℕ)
names_with nodes page links = homes nodes ++ page ∷ links

abbrev pub names_asked : List PlanNode → Context → Resolved → List (List ℕ)
names_asked nodes context body = names_with nodes context.page.doc (linked_in (written_of body))

-- the document that a target names
abbrev pub names_of_target : Target → List (List ℕ)
names_of_target target = option_to_list (local_name target)
