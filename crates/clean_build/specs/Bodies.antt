-- The body of a page, as it is made in a world (own): of content that is resolved, with the links of its elements and
-- their marks; and the terms of the content.
use Rattle.std.specs.Prelude.{◌≡◌, ◌++◌, ℕ, List, [], Option, Some, None}
use Rattle.conref_pull.specs.Resolved.{page_made}
use Rattle.conref_targets.specs.Rules.{AreRules, ditavals, page_rules}
use Rattle.conref_targets.specs.Tables as kept
use Rattle.conref_pull.specs.declared.tables.Tables.{Tables}
use Rattle.dita_doc.specs.declared.content.Rule.{Rule}
use Rattle.dita_doc.specs.declared.content.TermEntry.{TermEntry}
use Rattle.dita_doc.specs.declared.fact.Html.{Html}
use Rattle.dita_doc.specs.declared.fault.Fault.{Fault}
use Rattle.dita_doc.specs.declared.plan.Context.{Context}
use Rattle.dita_doc.specs.declared.plan.PagePlan.{PagePlan}
use Rattle.dita_doc.specs.declared.plan.Plan.{Plan}
use Rattle.html_spec.specs.Anchors.{Here, anchor_faults, anchors, element_links}
use Rattle.html_spec.specs.Blocks.{body_html}
use Rattle.html_spec.specs.Terms.{terms_of}
use Rattle.conref_spec.specs.Content.{Made}
use Rattle.map_spec.specs.Pushes.{pushed}
use Rattle.map_spec.specs.Written.{Written}
use Rattle.part_spec.specs.Parts.{here_of, marks_in}
use Rattle.reader_spec.specs.World.{World}
use Rattle.clean_build.specs.Told.{made_for}
use Rattle.clean_build.specs.declared.body.BodyMade.{BodyMade}

-- the tables of content: their rules are those of the world on which a reader stands, and what else they have is right in
-- the other world, for the documents of the plan with their pushes
pub record AreKnown (here world : World) (plan : Plan) (tables : Tables) : Type 0 where
  pub rules : AreRules here tables.rules
  pub places : kept.AreTables (pushed world plan.documents) tables.places

-- the same HTML with other faults around its own
abbrev pub with_faults : Html → List Fault → List Fault → List Fault → Html
with_faults html before next behind =
    record { bytes = html.bytes; faults = before ++ next ++ html.faults ++ behind }

-- the body of content that is resolved, marked by these rules, with these faults behind its own
abbrev pub body_of : Here → List (List Rule) → List Fault → Made → Html
body_of here rules behind made = with_faults (body_html (anchors here made.nodes) (marks_in rules made) made.nodes)
    made.faults (anchor_faults here made.nodes) behind

abbrev pub content_of : World → Plan → Context → Made
content_of world plan context = page_made world (made_for plan) context.val context.page

-- the rules by which the page of a context is judged
abbrev pub rules_for : World → Context → List (List Rule)
rules_for world context = page_rules world (ditavals context.val context.page.filters)

-- the terms of content as those of the page of this number, if they are wanted
abbrev pub terms_wanted : Option ℕ → Written → List TermEntry
terms_wanted None nodes = []
terms_wanted (Some number) nodes = terms_of number nodes

pub record IsBodyMade (here world : World) (plan : Plan) (context : Context) (page : PagePlan) (index : ℕ)
    (behind : List Fault) (wanted : Option ℕ) (made : BodyMade) : Type 0 where
  pub body :
      made.body ≡
      body_of (here_of world plan page index) (rules_for world context) behind (content_of world plan context)
  pub links : made.links ≡ element_links (here_of world plan page index) (content_of world plan context).nodes
  pub terms : made.terms ≡ terms_wanted wanted (content_of world plan context).nodes
  pub content : AreKnown here world plan made.content
