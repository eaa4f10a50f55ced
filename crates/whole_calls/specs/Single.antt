-- Parts of a build that stand alone, in a world (own).
use Rattle.std.specs.Prelude.{◌≡◌, ◌++◌, ℕ, List, [], Option, Some, None, Ok, slice_get}
use Rattle.std.specs.Option.{option_copied, option_map_or, option_to_list}
use Rattle.conref_pull.specs.Resolved.{IsResolved}
use Rattle.dita_doc.specs.declared.content.Resolved.{Resolved}
use Rattle.dita_doc.specs.declared.fact.Html.{Html}
use Rattle.dita_doc.specs.declared.plan.Plan.{Plan}
use Rattle.map_spec.specs.PlanOf.{limits, plan_of}
use Rattle.part_spec.specs.Parts.{contents_part, page_content, page_part, rooms}
use Rattle.reader_spec.specs.World.{World}
use Rattle.readers.specs.Founded.{AreAllowed, IsFounded, homes}
use Rattle.readers.specs.Setting.{Setting}
use Rattle.readers.specs.Told.{Told}
use Rattle.build_plan.specs.Documents.{build_names}
use Rattle.clean_build.specs.BuildInput.{IsReady}
use Rattle.clean_build.specs.Names.{names_of_build, names_of_content, names_of_plan}
use Rattle.whole_calls.specs.Tables.{AreTables}
use Rattle.clean_build.specs.declared.build_input.BuildInput.{BuildInput}
use Rattle.whole_calls.specs.declared.found.Found.{Found}
use Rattle.whole_calls.specs.declared.resolved.ContentCall.{ContentCall}
use Rattle.whole_calls.specs.declared.resolved.ContentWork.{ContentWork}
use Rattle.whole_calls.specs.declared.single_parts.Part.{Part}
use Rattle.whole_calls.specs.declared.single_parts.Part.TheVariants as parts
use Rattle.whole_calls.specs.declared.single_parts.PartCall.{PartCall}
use Rattle.whole_calls.specs.declared.single_parts.PartWork.{PartWork}

-- What a call tells and makes

-- the plan of a build is the same in both worlds
abbrev pub HaveSamePlan : World → World → List ℕ → Option (List ℕ) → Type 0
HaveSamePlan own world map val = plan_of limits world map val ≡ plan_of limits own map val

-- what is made of a plan, as a world has it that agrees with what was told: the plan is that of the reader's own world,
-- and this holds of what is made
pub record IsOfPlan (own world : World) (map : List ℕ) (val : Option (List ℕ)) (IsMade : Plan → Type 0) : Type 0 where
  pub same : HaveSamePlan own world map val
  pub made : (plan : Plan) → plan_of limits world map val ≡ Ok plan → IsMade plan

-- A plan that is found anew

abbrev pub IsPlanFound : Plan → Option Found → Type 0
IsPlanFound plan None = ⊥
IsPlanFound plan (Some found) = found.plan ≡ plan

abbrev pub HasTables : List Told → Option Found → Type 0
HasTables told None = Unit {0}
HasTables told (Some found) = AreTables told found.plan found.tables

-- if the documents of these names may be asked about, so may those that the parts of the plan are about
abbrev pub MayBeAsked : Option (List ℕ) → List (List ℕ) → List Told → List Told → Option Found → Type 0
MayBeAsked val names old new None = Unit {0}
MayBeAsked val names old new (Some found) = (roots : List (List ℕ)) → AreAllowed roots old names → IsFounded roots old
    → AreAllowed roots new (homes found.plan.nodes ++ (option_to_list val ++ names_of_plan found.plan))

-- A part of it

abbrev pub part_html : Part → World → Plan → Option (List ℕ) → Html
part_html (parts.Page index) world plan val = page_part rooms world plan val index
part_html parts.Contents world plan val = contents_part world plan

abbrev pub MakesPart : PartWork → World → World → Setting → Html → Type 0
MakesPart work here world setting made = IsReady world work.ground setting
    → made ≡ part_html work.part world work.ground.plan.now (option_copied work.ground.val)

abbrev pub MakesPartOf : PartCall → World → World → Html → Type 0
MakesPartOf call own world made = IsOfPlan own world call.map.now (option_copied call.val)
    (λ plan. made ≡ part_html call.part world plan (option_copied call.val))

abbrev pub about_call : PartCall → List (List ℕ)
about_call call = build_names call.map.now (option_copied call.val)

abbrev pub about_part : PartWork → List (List ℕ)
about_part work = names_of_build work.ground

-- What is asked for as a whole. A page that stands alone finds the links of its plan for itself.

-- the content of the page at an index, if there is one
abbrev pub names_at : BuildInput → ℕ → List (List ℕ)
names_at given index = option_map_or (names_of_content given) (slice_get given.plan.now.pages index) []

abbrev pub documents_of_alone : BuildInput → ℕ → List (List ℕ)
documents_of_alone given index = homes given.plan.now.nodes ++ names_at given index

abbrev pub documents_for : BuildInput → Part → List (List ℕ)
documents_for given (parts.Page index) = documents_of_alone given index
documents_for given parts.Contents = homes given.plan.now.nodes

abbrev pub documents_of_part : PartWork → List (List ℕ)
documents_of_part work = documents_for work.ground work.part

-- The content of a page

abbrev pub MakesContent : ContentWork → World → World → Setting → Resolved → Type 0
MakesContent work here world setting made = IsReady world work.ground setting
    → IsResolved made (page_content rooms world work.ground.plan.now (option_copied work.ground.val) work.index)

abbrev pub MakesContentOf : ContentCall → World → World → Resolved → Type 0
MakesContentOf call own world made = IsOfPlan own world call.map.now (option_copied call.val)
    (λ plan. IsResolved made (page_content rooms world plan (option_copied call.val) call.index))

abbrev pub about_content_call : ContentCall → List (List ℕ)
about_content_call call = build_names call.map.now (option_copied call.val)

abbrev pub about_content : ContentWork → List (List ℕ)
about_content work = names_of_build work.ground

abbrev pub documents_of_content : ContentWork → List (List ℕ)
documents_of_content work = names_at work.ground work.index
