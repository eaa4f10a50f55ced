-- A text among siblings, and a node at a place of a document, where nodes are resolved.
use Rattle.std.specs.Prelude.{◌≡◌, ℕ, Bool, true, List, None, Some, Result, OnOk, slice_get}
use Rattle.std.proofs.Common.{refl, ap, subst, ◌∙◌}
use Rattle.dita_doc.specs.Siblings.{IsElementAt, content, doc_of_siblings, content_at}
use Rattle.dita_doc.specs.Tree.{Content, End, Chars, tree_of}
use Rattle.dita_doc.specs.declared.doc.Doc.{Doc}
use Rattle.dita_doc.specs.declared.doc.Node.{Node}
use Rattle.dita_doc.specs.declared.siblings.Siblings.{Siblings}
use Rattle.dita_doc.specs.declared.stop.Stop.{Stop}
use Rattle.conref_spec.specs.Content.{ContentAround, Made, nothing_made, text_made}
use Rattle.reader_spec.specs.World.{World}
use Rattle.readers.specs.Founded.{AreAmong}
use Rattle.readers.specs.Named.{name_at, under_names, reused_in}
use Rattle.readers.specs.Setting.{Stand}
use Rattle.readers.specs.Told.{Told}
use Rattle.conref_targets.specs.Asking.{element_around}
use Rattle.conref_targets.specs.Hrefs.{HasNamed, HaveNamed}
use Rattle.conref_targets.specs.Origin.{named_content}
use Rattle.conref_targets.specs.Parts.{AreSiblingsAt, has_first, first_alone}
use Rattle.conref_targets.specs.declared.tables.PlaceTables.{PlaceTables}
use Rattle.conref_targets.proofs.EachLaws.{text_each}
use Rattle.conref_targets.proofs.OriginLaws.{text_among, text_is}
use Rattle.conref_pull.specs.PutHrefs.{PutNamed}
use Rattle.conref_pull.specs.Putting.{IsPut, Puts}
use Rattle.conref_pull.specs.Walking.{Here, IsReady, IsWalked, Walks, among_made, whole_made}
use Rattle.conref_pull.specs.declared.resolver.Resolver.{Resolver}
use Rattle.conref_pull.specs.declared.resolver.TooMany.{TooMany}
use Rattle.conref_pull.proofs.ElementLaws.{alone_element, alone_text}
use Rattle.conref_pull.proofs.HrefWalkLaws.{more_put}
use Rattle.conref_pull.proofs.NodeLaws.{node_element, node_text, puts_walks}
use Rattle.conref_pull.proofs.PutLaws.{put_nothing}
use Rattle.conref_pull.proofs.SiblingLaws.{none_next, text_next}
use Rattle.conref_pull.proofs.WalkLaws.{SoFar, so_far_begin, walks_as}

-- Siblings

-- all of them are left
pub siblings_ready : {world : World} {stand : Stand} {links : ℕ} {here : Here} {a : Resolver} {places : PlaceTables}
    (all : Made) → IsReady world stand links here a places → SoFar here.setting.pushed links all all a a places
siblings_ready {links = links} {here = here} {a = a} {places = places} all ready =
    so_far_begin here.setting.pushed links all a places ready.room ready.within ready.tables

-- none is left
pub siblings_end : {links : ℕ} {all : Made} {a b : Resolver} {places : PlaceTables} (here : Here) (is_range : Bool)
    (around : ContentAround) (left : Siblings) → content left ≡ End
    → SoFar here.setting.pushed links (among_made here is_range around (named_content left)) all a b places
    → IsWalked here.setting.pushed links all a b places
siblings_end {links} {all} {a} {b} {places} here is_range around left is before =
    none_next here links is_range around (named_content left) all a b places before
    (ap (under_names (doc_of_siblings left).origins) is)

-- a text that was put, in a document that is the same
pub put_there : {doc other : Doc} {node : Node} {a b : Resolver} (place : ℕ) → doc ≡ other
    → (slice_get doc.nodes place ≡ Some node → IsPut (text_made node.text (name_at doc.origins node.origin)) a b)
    → slice_get other.nodes place ≡ Some node → IsPut (text_made node.text (name_at other.origins node.origin)) a b
put_there {node = node} {a = a} {b = b} place same put there = subst (λ (d : Doc). slice_get d.nodes place ≡ Some node
    → IsPut (text_made node.text (name_at d.origins node.origin)) a b) same put there

module _ (left rest : Siblings) (node : Node)
    (is : content left ≡ Chars node.text node.origin node.line (content rest))
    (behind : doc_of_siblings rest ≡ doc_of_siblings left)
  where
    pub behind_among : AreAmong (reused_in (named_content rest)) (reused_in (named_content left))
    behind_among = text_among left rest node.text node.origin node.line is behind

    pub text_put : {a b : Resolver} (old new : List Told)
        → IsPut (text_made node.text (name_at (doc_of_siblings left).origins node.origin)) a b
        → HaveNamed old (named_content left) × PutNamed new a → HaveNamed old (named_content rest) × PutNamed new b
    text_put {a} {b} old new put before = (
      text_each (HasNamed old) left rest node.text node.origin node.line is behind before.0,
      more_put new (text_made node.text (name_at (doc_of_siblings left).origins node.origin)) a b put tt before.1,
    )

    pub sibling_text : {links : ℕ} {all : Made} {a b c : Resolver} {places : PlaceTables} (here : Here) (is_range : Bool)
        (around : ContentAround) → IsPut (text_made node.text (name_at (doc_of_siblings left).origins node.origin)) b c → c.path ≡ b.path
        → SoFar here.setting.pushed links (among_made here is_range around (named_content left)) all a b places
        → SoFar here.setting.pushed links (among_made here is_range around (named_content rest)) all a c places
    sibling_text {links} {all} {a} {b} {c} {places} here is_range around put path before =
        text_next here links is_range around (named_content left) all a b places before node.text
        (name_at (doc_of_siblings left).origins node.origin) (named_content rest) c
        (text_is left rest node.text node.origin node.line is behind) put path

-- At a place of a document

-- an element
pub place_walks : {doc : Doc} {place : ℕ} {part : Content} {node : Node} {inside : Siblings} (here : Here) (links : ℕ)
    (is_range : Bool) (around : ContentAround) (result : Result (Unit {0}) (Stop TooMany)) (a b : Resolver)
    (after : PlaceTables)
    → IsElementAt doc place node inside → AreSiblingsAt (tree_of doc.nodes) place part → has_first part ≡ true
    → (slice_get (doc_of_siblings inside).nodes place ≡ Some node → Walks result here.setting.pushed links
    (whole_made here is_range around (element_around inside node) (named_content inside)) a b after)
    → Walks result here.setting.pushed links (among_made here is_range around (first_alone (under_names doc.origins part))) a b
    after
place_walks {doc} {place} {part} {node} {inside} here links is_range around result a b after is there first walked =
    walks_as result here.setting.pushed links
    (whole_made here is_range around (element_around inside node) (named_content inside))
    (among_made here is_range around (first_alone (under_names doc.origins part))) a b after
    (alone_element here is_range around (element_around inside node) (named_content inside)
    ∙ ap (among_made here is_range around) (node_element doc place part node inside there first is))
    (walked (ap (λ (d : Doc). slice_get d.nodes place) is.within ∙ is.here))

-- a text
pub place_puts : {world : World} {stand : Stand} {links : ℕ} {here : Here} {a : Resolver} {places : PlaceTables}
    {place : ℕ} {part : Content} {node : Node} (doc : Doc) (is_range : Bool) (around : ContentAround)
    (result : Result (Unit {0}) (Stop TooMany)) (b : Resolver) → IsReady world stand links here a places
    → AreSiblingsAt (tree_of doc.nodes) place part → has_first part ≡ true → content_at (tree_of doc.nodes) place ≡ None
    → slice_get doc.nodes place ≡ Some node
    → Puts result (text_made node.text (name_at doc.origins node.origin)) a b → OnOk result (b.path ≡ a.path)
    → Walks result here.setting.pushed links (among_made here is_range around (first_alone (under_names doc.origins part))) a b
    places
place_puts {links = links} {here = here} {a = a} {places = places} {place = place} {part = part} {node = node}
    doc is_range around result b ready there first none is put path =
    let text = text_made node.text (name_at doc.origins node.origin) in
    walks_as result here.setting.pushed links text
    (among_made here is_range around (first_alone (under_names doc.origins part))) a b places
    (alone_text here is_range around node.text (name_at doc.origins node.origin) text refl
    ∙ ap (among_made here is_range around) (node_text doc place part node there first none is))
    (puts_walks result here.setting.pushed links text a b places put path ready.within ready.tables)

-- nothing
pub place_nothing : {world : World} {stand : Stand} {links : ℕ} {here : Here} {a : Resolver} {places : PlaceTables}
    → IsReady world stand links here a places → IsWalked here.setting.pushed links nothing_made a a places
place_nothing {a = a} ready = record {
  put = put_nothing a a refl ready.room;
  path = refl;
  within = ready.within;
  tables = ready.tables;
}
