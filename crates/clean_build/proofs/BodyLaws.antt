-- The body of a page and its terms, from the content that was resolved.
use Rattle.std.specs.Prelude.{◌≡◌, ◌+◌, ◌++◌, ℕ, List, ◌∷◌, Option, IsTrue, bytes_eq, map}
use Rattle.std.proofs.Common.{refl, ap, subst, ◌∙◌}
use Rattle.std.proofs.Math.Logic.{⊎_elim}
use Rattle.std.proofs.lemmas.Bool.{or_cases, or_left}
use Rattle.conref_pull.specs.Resolved.{IsResolved}
use Rattle.conref_targets.specs.Rules.{all_kept, ditavals}
use Rattle.conref_targets.specs.declared.rules.RuleLists.{RuleLists}
use Rattle.dita_doc.specs.Tree as tree
use Rattle.dita_doc.specs.Tree.{Content, size_of, tree_of}
use Rattle.dita_doc.specs.declared.content.Mark.{Mark}
use Rattle.dita_doc.specs.declared.content.Resolved.{Resolved}
use Rattle.dita_doc.specs.declared.content.Rule.{Rule}
use Rattle.dita_doc.specs.declared.content.TermEntry.{TermEntry}
use Rattle.dita_doc.specs.declared.fact.Html.{Html}
use Rattle.dita_doc.specs.declared.fault.Fault.{Fault}
use Rattle.dita_doc.specs.declared.plan.Context.{Context}
use Rattle.doc_maker.specs.Made.{resolved_tree, written_from}
use Rattle.flag_marks.specs.Marks.{attributes_at, marks_from}
use Rattle.map_spec.specs.Written.{Element, Written, Chars, Node}
use Rattle.html_spec.specs.Anchors.{Here, anchor_faults, anchors, element_links}
use Rattle.html_spec.specs.Blocks.{body_html}
use Rattle.conref_spec.specs.Content.{Made}
use Rattle.part_spec.specs.Parts.{marks_in}
use Rattle.reader_spec.specs.World.{World}
use Rattle.readers.specs.Founded.{AreAllowed, Grows, StaysFounded, homes, is_allowed, is_among}
use Rattle.readers.specs.Named.{AreNodesOf, linked_in, under_names, with_own_hrefs}
use Rattle.readers.specs.Setting.{Stand}
use Rattle.readers.specs.Told.{Told}
use Rattle.readers.proofs.AmongLaws.{among_back, among_either, among_front}
use Rattle.readers.proofs.FoundedLaws.{stays_then}
use Rattle.readers.proofs.GrowthLaws.{allowed_before}
use Rattle.xref_links.specs.Body.{written_at, written_of}
use Rattle.xref_links.specs.declared.made.AnchorsMade.{AnchorsMade}
use Rattle.xref_links.specs.Here.{AreMade}
use Rattle.xref_links.specs.Names.{names_asked}
use Rattle.clean_build.specs.Bodies.{body_of, rules_for, terms_wanted, with_faults}
use Rattle.clean_build.proofs.MarkLaws.{marks_made}

chars_same : (text doc : List ℕ) (one other : Written) → one ≡ other → Chars text doc one ≡ Chars text doc other
chars_same text doc one other same = ap (Chars text doc) same

node_same : (element : Element) (inside other rest more : Written) → inside ≡ other → rest ≡ more
    → Node element inside rest ≡ Node element other more
node_same element inside other rest more same behind = λ i. Node element (same i) (behind i)

-- what is read of a body is what was resolved
same_at : (body : Resolved) (place : ℕ) (content : Content)
    → written_at body place content ≡ written_from body.doc.origins body.hrefs place content
same_at body place tree.End = refl
same_at body place (tree.Chars text origin line rest) = chars_same _ _ _ _ (same_at body (place + 1) rest)
same_at body place (tree.Element name attributes origin line inside rest) =
    node_same _ _ _ _ _ (same_at body (place + 1) inside) (same_at body (place + 1 + size_of inside) rest)

pub same_written : (body : Resolved) → written_of body ≡ resolved_tree body
same_written body = same_at body 0 (tree_of body.doc.nodes)

-- and it is that of the document
own_at : (body : Resolved) (place : ℕ) (content : Content)
    → with_own_hrefs (written_at body place content) ≡ under_names body.doc.origins content
own_at body place tree.End = refl
own_at body place (tree.Chars text origin line rest) = chars_same _ _ _ _ (own_at body (place + 1) rest)
own_at body place (tree.Element name attributes origin line inside rest) =
    node_same _ _ _ _ _ (own_at body (place + 1) inside) (own_at body (place + 1 + size_of inside) rest)

pub own_nodes : (body : Resolved) → AreNodesOf body (written_of body)
own_nodes body = own_at body 0 (tree_of body.doc.nodes)

-- The faults, one after another
pub all_faults : (html : Html) (before next behind one two three : List Fault) → one ≡ before ++ next
    → two ≡ one ++ html.faults → three ≡ two ++ behind
    → (let made : Html = record { bytes = html.bytes; faults = three } in made) ≡ with_faults html before next behind
all_faults html before next behind one two three first second third =
    ap (λ (all : List Fault). let made : Html = record { bytes = html.bytes; faults = all } in made)
    (third ∙ ap (λ all. all ++ behind) (second ∙ ap (λ all. all ++ html.faults) first))

-- The body of what was resolved, with the links and the marks of its elements, and its terms
module _ (made : Made) (resolved : Resolved) (is : IsResolved resolved made) where
  nodes_are : written_of resolved ≡ made.nodes
  nodes_are = same_written resolved ∙ is.nodes

  -- by the rules of the page, all of which were read
  pub marks_are : (world : World) (context : Context) (lists : RuleLists) (marks : List Mark)
      → all_kept lists (ditavals context.val context.page.filters) ≡ rules_for world context
      → marks ≡ marks_from (all_kept lists (ditavals context.val context.page.filters)) 0 resolved.declared
      (map attributes_at resolved.doc.nodes)
      → marks ≡ marks_in (rules_for world context) made
  marks_are world context lists marks read found =
      marks_made (rules_for world context) made resolved marks is.nodes is.declared
      (found ∙ ap (λ (rules : List (List Rule)). marks_from rules 0 resolved.declared (map attributes_at resolved.doc.nodes))
      read)

  pub terms_are : (number : Option ℕ) (entries : List TermEntry) → entries ≡ terms_wanted number (written_of resolved)
      → entries ≡ terms_wanted number made.nodes
  terms_are number entries found = found ∙ ap (terms_wanted number) nodes_are

  module _ (here : Here) (added : AnchorsMade) (links : AreMade here (written_of resolved) added) where
    pub body_links : added.links ≡ element_links here made.nodes
    body_links = links.links ∙ ap (element_links here) nodes_are

    pub body_is : (rules : List (List Rule)) (marks : List Mark) (body : Html) (behind : List Fault)
        → marks ≡ marks_in rules made
        → body ≡ with_faults (body_html added.anchors marks (written_of resolved)) resolved.faults added.faults behind
        → body ≡ body_of here rules behind made
    body_is rules marks body behind marked with_all = with_all
        ∙ ap (λ a. with_faults (body_html a marks (written_of resolved)) resolved.faults added.faults behind) links.anchors
        ∙ ap (λ f. with_faults (body_html (anchors here (written_of resolved)) marks (written_of resolved)) resolved.faults
        f behind) links.faults
        ∙ ap (λ n. with_faults (body_html (anchors here n) marks n) resolved.faults (anchor_faults here n) behind) nodes_are
        ∙ ap (λ m. with_faults (body_html (anchors here made.nodes) m made.nodes) resolved.faults
        (anchor_faults here made.nodes) behind) marked
        ∙ ap (λ f. with_faults (body_html (anchors here made.nodes) (marks_in rules made) made.nodes) f
        (anchor_faults here made.nodes) behind) is.faults

-- What is asked about over a body: its content, and then what its elements' links name, which documents gave that were
-- told
pub stays_body : (after before : Stand) (context : Context) (resolved : Resolved) (a b c : List Told) → after ≡ before
    → Grows a b
    → StaysFounded (homes before.setting.nodes ++ context.page.doc ∷ ditavals context.val context.page.filters) a b
    → ((roots : List (List ℕ)) → AreAllowed roots b (linked_in (resolved_tree resolved)))
    → StaysFounded (names_asked after.setting.nodes context resolved) b c
    → StaysFounded (homes before.setting.nodes ++ context.page.doc ∷ ditavals context.val context.page.filters) a c
stays_body after before context resolved a b c same grows content given links =
    let page = context.page.doc in
    let vals = ditavals context.val context.page.filters in
    let nodes = before.setting.nodes in
    stays_then (homes nodes ++ page ∷ vals) (names_asked nodes context resolved) a b c content
    (λ roots allowed. record {
      each = λ m among. among_either (homes nodes) (page ∷ linked_in (written_of resolved)) m
          (IsTrue (is_allowed roots b m))
          (λ home. allowed_before roots a b m grows (allowed.each m (among_front (homes nodes) (page ∷ vals) m home)))
          (λ more. ⊎_elim
          (λ own. allowed_before roots a b m grows
          (allowed.each m (among_back (homes nodes) (page ∷ vals) m (or_left (bytes_eq page m) _ own))))
          (λ linked. (given roots).each m
          (subst (λ (w : Written). IsTrue (is_among (linked_in w) m)) (same_written resolved) linked))
          (or_cases (bytes_eq page m) _ more)) among;
    }) (subst (λ (s : Stand). StaysFounded (names_asked s.setting.nodes context resolved) b c) same links)
