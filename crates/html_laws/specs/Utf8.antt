-- Which texts are UTF-8 where a page is made (own): those of content, of anchors, of marks, of links and of a plan.
use Rattle.std.specs.Prelude.{ℕ, List, IfSome}
use Rattle.std.specs.List.{AllByRecursion}
use Rattle.std.specs.Str.{IsUtf8}
use Rattle.dita_doc.specs.declared.content.Anchor.{Anchor}
use Rattle.dita_doc.specs.declared.content.Mark.{Mark}
use Rattle.dita_doc.specs.declared.content.PageLink.{PageLink}
use Rattle.dita_doc.specs.declared.doc.Attribute.{Attribute}
use Rattle.dita_doc.specs.declared.plan.PagePlan.{PagePlan}
use Rattle.dita_doc.specs.declared.plan.Plan.{Plan}
use Rattle.dita_doc.specs.declared.plan.PlanNode.{PlanNode}
use Rattle.dita_doc.specs.declared.plan.Target.{Target}
use Rattle.dita_doc.specs.declared.plan.Target.TheVariants as targets
use Rattle.reader_spec.specs.World.{World}
use Rattle.map_spec.specs.Written.{Element, Written, End, Chars, Node, document}

-- Content: its texts, the values of its elements, and the documents that these were written in

abbrev pub HasUtf8Value : Attribute → Type 0
HasUtf8Value attribute = IsUtf8 attribute.value

abbrev pub IsUtf8Element : Element → Type 0
IsUtf8Element element =
    AllByRecursion HasUtf8Value element.attributes × IsUtf8 element.doc × IsUtf8 element.href_doc

abbrev pub IsUtf8Content : Written → Type 0
IsUtf8Content End = Unit {0}
IsUtf8Content (Chars text doc rest) = IsUtf8 text × IsUtf8Content rest
IsUtf8Content (Node element inside rest) = IsUtf8Element element × IsUtf8Content inside × IsUtf8Content rest

-- Anchors, marks and links

abbrev pub IsUtf8Anchor : Anchor → Type 0
IsUtf8Anchor anchor = IfSome anchor.href IsUtf8 × IfSome anchor.label IsUtf8

abbrev pub IsUtf8Mark : Mark → Type 0
IsUtf8Mark mark = IsUtf8 mark.text

abbrev pub IsUtf8Link : PageLink → Type 0
IsUtf8Link link = IsUtf8 link.href × IsUtf8 link.label

-- The documents of a world whose names are UTF-8

abbrev pub IsUtf8World : World → Type 0
IsUtf8World world = (name : List ℕ) → IsUtf8 name → IfSome (document world name) IsUtf8Content

-- A plan: the documents of its nodes and the values that are passed down to them, its targets, the documents and the names
-- of its pages, and the documents that it uses

abbrev pub IsUtf8Node : PlanNode → Type 0
IsUtf8Node node = IsUtf8 node.doc × AllByRecursion HasUtf8Value node.cascaded

abbrev pub IsUtf8Target : Target → Type 0
IsUtf8Target targets.Nothing = Unit {0}
IsUtf8Target (targets.Local name reference) = IsUtf8 name × IsUtf8 reference.topic × IsUtf8 reference.element
IsUtf8Target (targets.File name rest) = IsUtf8 name × IsUtf8 rest
IsUtf8Target (targets.Other value) = IsUtf8 value

abbrev pub IsUtf8Page : PagePlan → Type 0
IsUtf8Page page = IsUtf8 page.id.doc × IsUtf8 page.name

pub record IsUtf8Plan (plan : Plan) : Type 0 where
  pub nodes : AllByRecursion IsUtf8Node plan.nodes
  pub targets : AllByRecursion IsUtf8Target plan.targets
  pub pages : AllByRecursion IsUtf8Page plan.pages
  pub documents : AllByRecursion IsUtf8 plan.documents
