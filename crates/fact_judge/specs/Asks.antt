-- For which documents as a whole the parts of a build may ask (own), each rule by itself.
use Rattle.std.specs.Prelude.{◌≡◌, ◌||◌, ◌⊎◌, ℕ, Bool, List, [], ◌∷◌, All, IsSomeAnd, IsTrue, Option, Result, Ok, Err, codes, option_map, slice_get, if◌then◌else◌}
use Rattle.std.specs.Arc.{arc_value}
use Rattle.std.specs.List.{flat_map}
use Rattle.std.specs.Option.{option_map_or}
use Rattle.conref_spec.specs.PageDocuments.{IsPageDocument}
use Rattle.dita_doc.specs.declared.fact.Part.{Part}
use Rattle.dita_doc.specs.declared.fact.Part.TheVariants as parts
use Rattle.dita_doc.specs.declared.plan.Plan.{Plan}
use Rattle.dita_doc.specs.declared.plan.PlanStop.{PlanStop}
use Rattle.dita_doc.specs.declared.question.Answered.{Answered}
use Rattle.dita_doc.specs.declared.question.Answered.TheVariants as answers
use Rattle.dita_doc.specs.declared.question.Asked.{Asked}
use Rattle.dita_doc.specs.declared.question.Question.{Question}
use Rattle.dita_doc.specs.declared.question.Question.TheVariants as questions
use Rattle.fact_judge.specs.Agreed.{OwnAnswers, PlanAnswers}
use Rattle.fact_judge.specs.Founded.{roots_of}
use Rattle.fact_judge.specs.Order.{InOrder}
use Rattle.facts.specs.Rows.{Stands}
use Rattle.facts.specs.declared.fact.Fact.{Fact}
use Rattle.facts.specs.declared.fact.PlanFact.{PlanFact}
use Rattle.map_spec.specs.Elements.{attribute, has_value, is_a}
use Rattle.map_spec.specs.Pushes.{pushes_into}
use Rattle.map_spec.specs.Target.{Named, Document, Elsewhere, Unreadable, named_of}
use Rattle.map_spec.specs.Written.{Element, written_in}
use Rattle.part_spec.specs.Parts.{setting_of}
use Rattle.reader_spec.specs.World.{World}
use Rattle.readers.specs.Founded.{is_among}
use Rattle.readers.specs.Named.{given_in_found}
use Rattle.readers.specs.Told.{tree_found}

-- the document that a question asks for as a whole
abbrev pub document_in : Question → List (List ℕ)
document_in (questions.Document name) = name ∷ []
document_in _ = []

-- the documents that were asked for
abbrev pub whole_documents : List Asked → List (List ℕ)
whole_documents asked = flat_map (λ (one : Asked). document_in one.question) asked

-- what the elements of an answered document give, each by itself
abbrev pub given_in_answer : (Element → List (List ℕ)) → Question → Answered → List (List ℕ)
given_in_answer names (questions.Document name) (answers.Document found) =
    given_in_found names (option_map (written_in name) (tree_found found))
given_in_answer names question answered = []

-- A plan asks for the map, for the targets of references with the format ditamap in documents that were answered, and
-- for DITAVALs: that of the build, and those of ditavalrefs in such documents

abbrev pub named_document : Named → List (List ℕ)
named_document (Document name) = name ∷ []
named_document Elsewhere = []
named_document Unreadable = []

-- the document that the href of an element names
abbrev pub named_by_href : Element → List (List ℕ)
named_by_href element =
    option_map_or (λ href. named_document (named_of element href)) (attribute (codes "href") element) []

abbrev pub is_map_reference : Element → Bool
is_map_reference element = has_value (codes "format") (codes "ditamap") element

abbrev pub is_ditavalref_element : Element → Bool
is_ditavalref_element element = is_a (codes "ditavalref-d/ditavalref") element

abbrev pub planned_by : Element → List (List ℕ)
planned_by element = if is_map_reference element || is_ditavalref_element element then named_by_href element else []

abbrev pub planned_in : Asked → List (List ℕ)
planned_in one = given_in_answer planned_by one.question one.answered

abbrev pub PlanAsks : List (List ℕ) → PlanFact → Type 0
PlanAsks roots plan = InOrder document_in planned_in roots plan.asked

-- A page asks for what the plan asks for, and for its documents: its own, those that content references in its documents
-- name, by themselves or by keys, and those from which the pushes into its documents come. Which these are, is said by
-- the definition of a page, in every world of the answers

-- a document of the page at an index of a plan; without a plan there is no page
abbrev pub IsPageDocumentAt : World → Result Plan PlanStop → Option (List ℕ) → ℕ → List ℕ → Type 0
IsPageDocumentAt world (Err stop) val index name = ⊥
IsPageDocumentAt world (Ok plan) val index name = IsSomeAnd (slice_get plan.pages index)
    (λ page. IsPageDocument (setting_of world plan val page) (pushes_into world plan.documents) name)

-- the plan asked for it too
abbrev pub IsPlanned : PlanFact → List ℕ → Type 0
IsPlanned plan name = IsTrue (is_among (whole_documents plan.asked) name)

pub record PageAsks (fact : Fact) (index : ℕ) : Type 0 where
  pub each : (world : World) → PlanAnswers (arc_value fact.plan) world → OwnAnswers fact world
      → All (λ name. ∥ IsPlanned (arc_value fact.plan) name
      ⊎ IsPageDocumentAt world (arc_value fact.plan).value fact.key.val index name ∥₁) (whole_documents fact.asked)

-- The contents page asks for what the plan asks for

abbrev pub nothing_given : Asked → List (List ℕ)
nothing_given one = []

abbrev pub ContentsAsks : PlanFact → List Asked → Type 0
ContentsAsks plan own = InOrder document_in nothing_given (whole_documents plan.asked) own

-- Neither a plan nor the contents page asks what a key gives

abbrev pub IsNoKey : Question → Type 0
IsNoKey (questions.Key scope text) = ⊥
IsNoKey _ = Unit {0}

pub record AskNoKey (asked : List Asked) : Type 0 where
  pub each : (one : Asked) → Stands asked one → IsNoKey one.question

-- All of it, by the part

abbrev pub OwnAsks : Part → Fact → Type 0
OwnAsks parts.Plan fact = fact.asked ≡ []
OwnAsks (parts.Page index) fact = PageAsks fact index
OwnAsks parts.Contents fact = ContentsAsks (arc_value fact.plan) fact.asked × AskNoKey fact.asked

pub record AsksAsItMay (fact : Fact) : Type 0 where
  pub plan : PlanAsks (roots_of fact) (arc_value fact.plan)
  pub no_key : AskNoKey (arc_value fact.plan).asked
  pub own : OwnAsks fact.key.part fact
