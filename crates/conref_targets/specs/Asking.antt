-- Which documents are asked about where references are followed (own): those of a list, and those that answers name
-- which were told before. Of the references of a document's elements each `conref` counts, and no `href`.
use Rattle.std.specs.Prelude.{ℕ, List, [], ◌++◌, Option, Some, None, map, option_map}
use Rattle.std.specs.Arc.{arc_value}
use Rattle.std.specs.Option.{option_and_then, option_to_list}
use Rattle.dita_doc.specs.Siblings as siblings
use Rattle.dita_doc.specs.declared.content.Push.{Push}
use Rattle.dita_doc.specs.declared.doc.Doc.{Doc}
use Rattle.dita_doc.specs.declared.doc.Node.{Node}
use Rattle.dita_doc.specs.declared.plan.PlanNode.{PlanNode}
use Rattle.dita_doc.specs.declared.siblings.Siblings.{Siblings}
use Rattle.doc_elements.specs.Walk.{element_of}
use Rattle.map_spec.specs.Pages.{local_name}
use Rattle.map_spec.specs.Written.{Element, Written, written_in}
use Rattle.readers.specs.Documents.{AsksOnly, Covers, Follows, IsGiven, MayAsk}
use Rattle.readers.specs.Founded.{AreAllowed, StaysFounded, homes}
use Rattle.readers.specs.Named.{name_at, name_joined, named_tree, reused_by, reused_in, reused_of_found}
use Rattle.readers.specs.Told.{Told, document, kind, title, first, key, pushes, page_of, pending, pending_document}
use Rattle.conref_targets.specs.Origin.{named_content, whole_of}
use Rattle.conref_targets.specs.declared.find.Found.{Found}
use Rattle.conref_targets.specs.declared.origin.Whole.{Whole}

-- the documents that follow for content: those that content references name, by themselves or by keys, and those that
-- pushes come from
abbrev pub of_content : Follows
of_content (document name tree) = reused_of_found (option_map (written_in name) tree)
of_content (kind name answer) = []
of_content (title name topic text) = []
of_content (first name id) = []
of_content (key nodes scope text answer) = option_to_list (local_name answer.target)
of_content (pushes documents name answer) = map (λ (push : Push). push.from) answer.pushes
of_content (page_of pages name context answer) = []
of_content (pending names) = []
of_content (pending_document name) = []

-- answers that were told name all of these: they may be asked about, and asked for by each rule that gives what follows
-- for content
pub record AreGiven (told : List Told) (names : List (List ℕ)) : Type 0 where
  pub allowed : (roots : List (List ℕ)) → AreAllowed roots told names
  pub may : (rule : Follows) (roots : List (List ℕ)) → Covers rule of_content → MayAsk rule roots told names

-- what a call does that asks about these documents, about those in which the nodes of the map stand, and about those
-- that answers name; as a whole it asks for these documents, and for those that follow for content, and for no others
pub record Asks (nodes : List PlanNode) (names : List (List ℕ)) (old new : List Told) : Type 0 where
  pub founded : StaysFounded (homes nodes ++ names) old new
  pub asks : AsksOnly of_content names old new

-- what the content references of an element name, and those of all that it holds
abbrev pub reused_below : Element → Written → List (List ℕ)
reused_below element inside = reused_by element ++ reused_in inside

-- the element of a node that holds these siblings
abbrev pub element_around : Siblings → Node → Element
element_around inside node = element_of (name_at (siblings.doc_of_siblings inside).origins node.origin) node

abbrev pub reused_of_node : Siblings → Node → List (List ℕ)
reused_of_node inside node = reused_below (element_around inside node) (named_content inside)

abbrev pub reused_of_whole : Whole → List (List ℕ)
reused_of_whole whole = reused_below (whole_of whole).0 (whole_of whole).1

abbrev pub reused_of_doc : Doc → List (List ℕ)
reused_of_doc doc = reused_in (named_tree doc)

-- the document that a value names, if it names one
abbrev pub names_of_value : List ℕ → Option (List ℕ) → List (List ℕ)
names_of_value doc value = option_to_list (option_and_then (name_joined doc) value)

-- answers name all that these documents name
abbrev pub IsGivenIn : List Told → Option Found → Type 0
IsGivenIn told None = Unit {0}
IsGivenIn told (Some found) = IsGiven told (Some (named_tree (arc_value found.doc)))
