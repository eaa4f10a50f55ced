-- The documents in which nodes stand, one put behind the other, and the homes of nodes in them.
use Rattle.std.specs.Prelude.{◌≡◌, ◌+◌, ◌<◌, ◌≤◌, ℕ, Bool, true, false, List, [], ◌∷◌, ◌++◌, Option, Some, None, MatchOption, length, map, option_map, slice_get, take}
use Rattle.std.specs.Arc.{arc_value}
use Rattle.std.specs.BTreeMap.{insert_entry, is_at}
use Rattle.std.specs.Cmp.Lexicographic.{slice_cmp}
use Rattle.std.specs.Map.{lookup}
use Rattle.std.specs.Option.{option_and_then}
use Rattle.std.specs.Ordering.{nat_cmp}
use Rattle.std.specs.declared.alloc.Global.{Global}
use Rattle.std.specs.declared.sync.Arc.{Arc}
use Rattle.std.proofs.Common.{refl, sym, ap, subst, ◌∙◌, arith, append-nil, get_or, length-append}
use Rattle.std.proofs.lemmas.List.{map-append, take_more}
use Rattle.std.proofs.lemmas.Option.{slice_get-map, slice_get_past}
use Rattle.dita_doc.specs.Siblings as siblings
use Rattle.dita_doc.specs.Siblings.{IsElementAt}
use Rattle.dita_doc.specs.Tree.{tree_of}
use Rattle.dita_doc.specs.declared.doc.Doc.{Doc}
use Rattle.dita_doc.specs.declared.doc.Node.{Node}
use Rattle.dita_doc.specs.declared.doc.NodeKind.TheVariants as kinds
use Rattle.doc_elements.specs.Walk.{FoundElement, element_of, found_in}
use Rattle.dita_doc.specs.declared.plan.PlanNode.{PlanNode}
use Rattle.dita_doc.proofs.Lists.{get_pushed}
use Rattle.map_spec.specs.Cascade.{attribute_at, whole_at}
use Rattle.map_spec.specs.Judged.{has_element}
use Rattle.map_spec.specs.Written.{Whole, document, element_at, written_in}
use Rattle.reader_spec.specs.World.{World}
use Rattle.plan_nodes.specs.Home.{value_at}
use Rattle.plan_nodes.specs.HomeDocs.{element_of as home_element}
use Rattle.plan_nodes.specs.HomeDocs.{AreHomesOf, AreKnown, AreWithin, IsDocOf, IsHomeOf, IsKnown, IsWithin, Known, Longer, doc_of, document_at, name_of, whole_in, whole_of, written_of}
use Rattle.plan_nodes.specs.declared.node_elements.Home.{Home}
use Rattle.plan_nodes.specs.declared.node_elements.NamedDoc.{NamedDoc}
use Rattle.plan_nodes.proofs.ElementLaws.{element_found, element_here, of_node}
use Rattle.plan_nodes.proofs.ListLaws.{get_more}
use Rattle.plan_nodes.proofs.MemoLaws.{IsEach, each_found, each_kept, each_put}
use Rattle.map_spec.specs.Elements.{attribute}

document_more : (docs more : List NamedDoc) (place : Option ℕ) → IsWithin (length docs) place
    → document_at (docs ++ more) place ≡ document_at docs place
document_more docs more None within = refl
document_more docs more (Some at) within = ap (option_map written_of) (get_more docs more at within)

whole_more : (docs more : List NamedDoc) (home : Option Home) → IsWithin (length docs) (doc_of home)
    → whole_of (docs ++ more) home ≡ whole_of docs home
whole_more docs more None within = refl
whole_more docs more (Some home) within =
    ap (λ nodes. whole_in nodes home.place) (document_more docs more (Some home.doc) within)

pub within_more : (count larger : ℕ) (place : Option ℕ) → count ≤ larger → IsWithin count place → IsWithin larger place
within_more count larger None grows within = tt
within_more count larger (Some at) grows within = omega (arith, within)

within_longer : (docs more : List NamedDoc) (place : Option ℕ) → IsWithin (length docs) place
    → IsWithin (length (docs ++ more)) place
within_longer docs more place within =
    within_more (length docs) (length (docs ++ more)) place (omega (arith, length-append docs more)) within

-- what was known before is still known
known_more : (world : World) (docs more : List NamedDoc) (name : List ℕ) (place : Option ℕ)
    → IsKnown world docs name place → IsKnown world (docs ++ more) name place
known_more world docs more name place known = record {
  within = within_longer docs more place known.within;
  is = document_more docs more place known.within ∙ known.is;
}

known_each : (world : World) (docs : List NamedDoc) → IsEach (IsKnown world docs) (AreKnown world docs)
known_each world docs = record {
  none = tt;
  first = λ entry more known. known.0;
  behind = λ entry more known. known.1;
  both = λ entry more here known. (here, known);
}

pub known_longer : (world : World) (old new : List NamedDoc) (entries : List Known) → Longer old new
    → AreKnown world old entries → AreKnown world new entries
known_longer world old new entries longer known =
    subst (λ docs. AreKnown world docs entries) (sym longer.1)
    (each_kept (IsKnown world old) (IsKnown world (old ++ longer.0)) (AreKnown world old)
    (AreKnown world (old ++ longer.0)) (known_each world old) (known_each world (old ++ longer.0))
    (known_more world old longer.0) entries known)

pub place_found : (world : World) (docs : List NamedDoc) (name : List ℕ) (entries : List Known) (place : Option ℕ)
    → Some place ≡ lookup (is_at (slice_cmp nat_cmp name)) entries → AreKnown world docs entries
    → IsDocOf world docs docs entries name place
place_found world docs name entries place is known = record {
  longer = ([], sym (append-nil docs));
  known = known;
  here = each_found (IsKnown world docs) (AreKnown world docs) (known_each world docs) name entries place is known;
}

-- the place of a document that was put behind the others
pub known_put : (world : World) (old new : List NamedDoc) (name copy : List ℕ) (doc : Arc Doc Global) (at : ℕ)
    → copy ≡ name → at ≡ length old → new ≡ old ++ record { name = copy; doc = doc } ∷ []
    → world name ≡ Some (tree_of (arc_value doc).nodes) → IsKnown world new name (Some at)
known_put world old new name copy doc at same count put found =
    let one : NamedDoc = record { name = copy; doc = doc } in
    let all = old ++ one ∷ [] in
    record {
      within = rw put (omega (arith, count, length-append old (one ∷ [])));
      is =
          ap (λ docs. option_map written_of (slice_get docs at)) put
          ∙ ap (λ place. option_map written_of (slice_get all place)) count
          ∙ ap (option_map written_of) (get_pushed old one)
          ∙ ap (λ n. Some (written_in n (tree_of (arc_value doc).nodes))) same
          ∙ sym (ap (option_map (written_in name)) found);
    }

-- a document was put behind the others, and its place into the table
pub place_put : (world : World) (old new : List NamedDoc) (name key : List ℕ) (place : Option ℕ)
    (entries later : List Known) → Longer old new → key ≡ name
    → later ≡ insert_entry (slice_cmp nat_cmp) entries key place → AreKnown world old entries
    → IsKnown world new name place → IsDocOf world old new later name place
place_put world old new name key place entries later longer same is known here = record {
  longer = longer;
  known = each_put (IsKnown world new) (AreKnown world new) (known_each world new) name key place entries later same is
      (known_longer world old new entries longer known) here;
  here = here;
}

-- Homes

pub whole_found : (docs : List NamedDoc) (home : Home) (named : NamedDoc) (doc : Doc) (found : Option FoundElement)
    → Some named ≡ slice_get docs home.doc → doc ≡ arc_value named.doc
    → MatchOption found (siblings.content_at (tree_of doc.nodes) home.place ≡ None)
    (λ (f : FoundElement). IsElementAt doc home.place f.0.now f.1)
    → found_in (name_of docs home.doc) found ≡ whole_of docs (Some home)
whole_found docs home named doc found is same there =
    rw (← is) (
    element_found named.name doc home.place found there
    ∙ ap (λ (d : Doc). element_at (written_in named.name (tree_of d.nodes)) home.place) same
    )

-- the element at a home is the node there, if that is an element
module _ (docs : List NamedDoc) (home : Home) (named : NamedDoc) (doc : Doc) (nodes : List Node)
    (is : Some named ≡ slice_get docs home.doc) (same : doc ≡ arc_value named.doc) (all : nodes ≡ doc.nodes) where
  element_known : of_node (name_of docs home.doc) (slice_get nodes home.place) ≡ home_element docs home
  element_known = rw (← is) (
      ap (λ ns. of_node named.name (slice_get ns home.place)) (all ∙ ap (λ (d : Doc). d.nodes) same)
      ∙ sym (element_here named.name (arc_value named.doc).nodes home.place (arc_value named.doc).tree)
      )

  pub element_there : (node : Node) → node.kind ≡ kinds.Element → slice_get nodes home.place ≡ Some node
      → Some (element_of (name_of docs home.doc) node) ≡ home_element docs home
  element_there node kind read =
      let here : Some (element_of (name_of docs home.doc) node) ≡ of_node (name_of docs home.doc) (Some node) = rw kind refl in
      here ∙ ap (of_node (name_of docs home.doc)) (sym read) ∙ element_known

  pub chars_there : (node : Node) → node.kind ≡ kinds.Chars → slice_get nodes home.place ≡ Some node
      → None ≡ home_element docs home
  chars_there node kind read =
      let here : None ≡ of_node (name_of docs home.doc) (Some node) = rw kind refl in
      here ∙ ap (of_node (name_of docs home.doc)) (sym read) ∙ element_known

  pub nothing_there : length nodes ≤ home.place → None ≡ home_element docs home
  nothing_there past = ap (of_node (name_of docs home.doc)) (sym (slice_get_past nodes home.place past)) ∙ element_known

abbrev home_with : ℕ → Option ℕ → Option Home
home_with place doc = option_map (λ (at : ℕ). record { doc = at; place = place }) doc

home_within : (count place : ℕ) (doc : Option ℕ) → IsWithin count doc → IsWithin count (doc_of (home_with place doc))
home_within count place None within = tt
home_within count place (Some at) within = within

home_whole : (docs : List NamedDoc) (place : ℕ) (doc : Option ℕ)
    → whole_of docs (home_with place doc) ≡ whole_in (document_at docs doc) place
home_whole docs place None = refl
home_whole docs place (Some at) = refl

whole_by : (world : World) (node : PlanNode) (has : Bool) → has ≡ has_element node.kind → has ≡ true
    → whole_in (document world node.doc) node.place ≡ whole_at world node
whole_by world node true is has = rw (← is) refl
whole_by world node false is has = cc

pub home_found : (world : World) (old new : List NamedDoc) (entries : List Known) (node : PlanNode) (has : Bool)
    (doc : Option ℕ) (home : Option Home) → has ≡ has_element node.kind → has ≡ true
    → home ≡ home_with node.place doc → IsDocOf world old new entries node.doc doc
    → IsHomeOf world old new entries node home
home_found world old new entries node has doc home is has_one made found = record {
  longer = found.longer;
  known = found.known;
  within = rw made (home_within (length new) node.place doc found.here.within);
  is = rw made (
      home_whole new node.place doc ∙ ap (λ nodes. whole_in nodes node.place) found.here.is
      ∙ whole_by world node has is has_one
      );
}

-- all homes so far, and one more

homes_within : (docs more : List NamedDoc) (homes : List (Option Home)) → AreWithin (length docs) homes
    → AreWithin (length (docs ++ more)) homes
homes_within docs more [] within = tt
homes_within docs more (home ∷ homes) within =
    (within_longer docs more (doc_of home) within.0, homes_within docs more homes within.1)

homes_more : (docs more : List NamedDoc) (homes : List (Option Home)) → AreWithin (length docs) homes
    → map (whole_of (docs ++ more)) homes ≡ map (whole_of docs) homes
homes_more docs more [] within = refl
homes_more docs more (home ∷ homes) within =
    ap (λ whole. whole ∷ map (whole_of (docs ++ more)) homes) (whole_more docs more home within.0)
    ∙ ap (λ wholes. whole_of docs home ∷ wholes) (homes_more docs more homes within.1)

within_push : (count : ℕ) (homes : List (Option Home)) (home : Option Home) → AreWithin count homes
    → IsWithin count (doc_of home) → AreWithin count (homes ++ home ∷ [])
within_push count [] home within here = (here, tt)
within_push count (first ∷ homes) home within here = (within.0, within_push count homes home within.1 here)

pub push_of : {X : Type 0} (xs : List X) (at : ℕ) (x : X) → at < length xs → x ≡ get_or xs at x
    → take (at + 1) xs ≡ take at xs ++ x ∷ []
push_of xs at x within is = take_more xs at x within ∙ ap (λ y. take at xs ++ y ∷ []) (sym is)

pub homes_push : (world : World) (old new : List NamedDoc) (before entries : List Known) (some more : List PlanNode)
    (node : PlanNode) (homes all : List (Option Home)) (home : Option Home) → more ≡ some ++ node ∷ []
    → all ≡ homes ++ home ∷ [] → AreHomesOf world old before some homes → IsHomeOf world old new entries node home
    → AreHomesOf world new entries more all
homes_push world old new before entries some more node homes all home nodes_are homes_are so_far next =
    let docs = old ++ next.longer.0 in
    let kept : map (whole_of new) homes ≡ map (whole_at world) some =
    ap (λ ds. map (whole_of ds) homes) next.longer.1 ∙ homes_more old next.longer.0 homes so_far.within ∙ so_far.are in
    record {
      known = next.known;
      within = rw homes_are (within_push (length new) homes home
          (subst (λ ds. AreWithin (length ds) homes) (sym next.longer.1)
          (homes_within old next.longer.0 homes so_far.within)) next.within);
      are =
          ap (map (whole_of new)) homes_are
          ∙ map-append (whole_of new) homes (home ∷ [])
          ∙ ap (λ wholes. wholes ++ whole_of new home ∷ []) kept
          ∙ ap (λ whole. map (whole_at world) some ++ whole ∷ []) next.is
          ∙ sym (map-append (whole_at world) some (node ∷ []))
          ∙ sym (ap (map (whole_at world)) nodes_are);
    }

-- the value of a node by the elements of all nodes
pub value_same : (world : World) (homes : List (Option Whole)) (nodes : List PlanNode) (at : ℕ) (node : PlanNode)
    (name : List ℕ) → homes ≡ map (whole_at world) nodes → slice_get nodes at ≡ Some node
    → value_at homes at name ≡ attribute_at world name node
value_same world homes nodes at node name same there =
    ap (λ all. value_at all at name) same
    ∙ rw (slice_get-map (whole_at world) nodes at, there) refl

pub value_by : (world : World) (name : List ℕ) (node : Option PlanNode)
    → option_and_then (λ (whole : Whole). attribute name whole.0)
    (option_and_then (λ (whole : Option Whole). whole) (option_map (whole_at world) node))
    ≡ option_and_then (attribute_at world name) node
value_by world name None = refl
value_by world name (Some node) = refl
