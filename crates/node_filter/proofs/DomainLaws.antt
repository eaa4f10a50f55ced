-- What documents declare, one put behind the other, and which of them are those of nodes.
use Rattle.std.specs.Prelude.{◌≡◌, ◌+◌, ◌<◌, ℕ, zero, suc, List, [], ◌∷◌, ◌++◌, Option, Some, None, drop, length, map, slice_get}
use Rattle.std.specs.BTreeMap.{insert_entry, is_at}
use Rattle.std.specs.Borrow.{Bor}
use Rattle.std.specs.Cmp.Lexicographic.{slice_cmp}
use Rattle.std.specs.Map.{lookup}
use Rattle.std.specs.Option.{option_map_or}
use Rattle.std.specs.Ordering.{nat_cmp}
use Rattle.std.proofs.Common.{refl, sym, ap, subst, ◌∙◌, arith, append-nil, append_assoc, get_or, length-append}
use Rattle.std.proofs.lemmas.List.{at_drop_more, map-append}
use Rattle.dita_doc.specs.Tree.{Content}
use Rattle.dita_doc.specs.declared.plan.PlanNode.{PlanNode}
use Rattle.dita_doc.proofs.Lists.{get_pushed}
use Rattle.ditaval_rules.specs.Declarations.{AreDeclarations, Declaring}
use Rattle.ditaval_rules.specs.Domains.{declared_at}
use Rattle.plan_nodes.proofs.HomeLaws.{within_more}
use Rattle.plan_nodes.proofs.ListLaws.{get_more}
use Rattle.plan_nodes.proofs.MemoLaws.{IsEach, each_found, each_kept, each_put}
use Rattle.readers.proofs.DocumentLaws.{asks_after}
use Rattle.readers.proofs.FoundedLaws.{stays_after}
use Rattle.readers.proofs.GrowthLaws.{growing}
use Rattle.reader_spec.specs.World.{World}
use Rattle.plan_nodes.specs.HomeDocs.{IsWithin, Known}
use Rattle.node_filter.specs.Domains.{AreHomes, AreHomesOf, AreKnown, Declares, Documents, IsDocumentOf, IsKnown, Longer, document_at, home_at, names_at, shown}

document_more : (documents more : Documents) (place : Option ℕ) → IsWithin (length documents) place
    → document_at (documents ++ more) place ≡ document_at documents place
document_more documents more None within = refl
document_more documents more (Some at) within = get_more documents more at within

-- what was known before is still known
known_more : (world : World) (documents more : Documents) (name : List ℕ) (place : Option ℕ)
    → IsKnown world documents name place → IsKnown world (documents ++ more) name place
known_more world documents more name place known = record {
  within = within_more (length documents) (length (documents ++ more)) place
      (omega (arith, length-append documents more)) known.within;
  is = subst (λ found. Declares found (world name)) (sym (document_more documents more place known.within)) known.is;
}

known_each : (world : World) (documents : Documents) → IsEach (IsKnown world documents) (AreKnown world documents)
known_each world documents = record {
  none = tt;
  first = λ entry more known. known.0;
  behind = λ entry more known. known.1;
  both = λ entry more here known. (here, known);
}

known_longer : (world : World) (old new : Documents) (entries : List Known) → Longer old new
    → AreKnown world old entries → AreKnown world new entries
known_longer world old new entries longer known =
    subst (λ documents. AreKnown world documents entries) (sym longer.1)
    (each_kept (IsKnown world old) (IsKnown world (old ++ longer.0)) (AreKnown world old)
    (AreKnown world (old ++ longer.0)) (known_each world old) (known_each world (old ++ longer.0))
    (known_more world old longer.0) entries known)

pub place_found : (world : World) (documents : Documents) (name : List ℕ) (entries : List Known) (place : Option ℕ)
    → Some place ≡ lookup (is_at (slice_cmp nat_cmp name)) entries → AreKnown world documents entries
    → IsDocumentOf world documents documents entries name place
place_found world documents name entries place is known = record {
  longer = ([], sym (append-nil documents));
  known = known;
  here = each_found (IsKnown world documents) (AreKnown world documents) (known_each world documents) name entries place
      is known;
}

pub place_put : (world : World) (old new : Documents) (name key : List ℕ) (place : Option ℕ)
    (entries later : List Known) → Longer old new → key ≡ name
    → later ≡ insert_entry (slice_cmp nat_cmp) entries key place → AreKnown world old entries
    → IsKnown world new name place → IsDocumentOf world old new later name place
place_put world old new name key place entries later longer same is known here = record {
  longer = longer;
  known = each_put (IsKnown world new) (AreKnown world new) (known_each world new) name key place entries later same is
      (known_longer world old new entries longer known) here;
  here = here;
}

-- what a document declares was put behind the others
pub known_put : (world : World) (old new : Documents) (name : List ℕ) (made : List Declaring) (tree : Content) (at : ℕ)
    → at ≡ length old → new ≡ old ++ made ∷ [] → world name ≡ Some tree → AreDeclarations tree made
    → IsKnown world new name (Some at)
known_put world old new name made tree at count put found declares = record {
  within = rw put (omega (arith, count, length-append old (made ∷ [])));
  is =
      let there : slice_get new at ≡ Some made =
      ap (λ all. slice_get all at) put ∙ ap (slice_get (old ++ made ∷ [])) count ∙ get_pushed old made in
      subst (λ tree_found. Declares (slice_get new at) tree_found) (sym found)
      (subst (λ declaring. Declares declaring (Some tree)) (sym there) declares);
}

-- no document
pub known_none : (world : World) (documents : Documents) (name : List ℕ) → world name ≡ None
    → IsKnown world documents name None
known_none world documents name found = record {
  within = tt;
  is = subst (λ tree_found. Declares None tree_found) (sym found) tt;
}

-- Nodes

homes_more : (world : World) (documents more : Documents) (nodes : List PlanNode) (places : List (Option ℕ))
    → AreHomes world documents nodes places → AreHomes world (documents ++ more) nodes places
homes_more world documents more [] [] are = tt
homes_more world documents more [] (place ∷ places) are = absurd are
homes_more world documents more (node ∷ nodes) [] are = absurd are
homes_more world documents more (node ∷ nodes) (place ∷ places) are =
    (known_more world documents more node.doc place are.0, homes_more world documents more nodes places are.1)

homes_one : (world : World) (documents : Documents) (nodes : List PlanNode) (node : PlanNode) (places : List (Option ℕ))
    (place : Option ℕ) → AreHomes world documents nodes places → IsKnown world documents node.doc place
    → AreHomes world documents (nodes ++ node ∷ []) (places ++ place ∷ [])
homes_one world documents [] node [] place are here = (here, tt)
homes_one world documents [] node (other ∷ places) place are here = absurd are
homes_one world documents (first ∷ nodes) node [] place are here = absurd are
homes_one world documents (first ∷ nodes) node (other ∷ places) place are here =
    (are.0, homes_one world documents nodes node places place are.1 here)

pub homes_push : (world : World) (old new : Documents) (before entries : List Known) (some more : List PlanNode)
    (node : PlanNode) (places all : List (Option ℕ)) (place : Option ℕ) → more ≡ some ++ node ∷ []
    → all ≡ places ++ place ∷ [] → AreHomesOf world old before some places
    → IsDocumentOf world old new entries node.doc place → AreHomesOf world new entries more all
homes_push world old new before entries some more node places all place nodes_are places_are so_far next = record {
  known = next.known;
  are =
      subst (λ ns. AreHomes world new ns all) (sym nodes_are)
      (subst (λ ps. AreHomes world new (some ++ node ∷ []) ps) (sym places_are)
      (homes_one world new some node places place
      (subst (λ documents. AreHomes world documents some places) (sym next.longer.1)
      (homes_more world old next.longer.0 some places so_far.are)) next.here));
}

home_there : (world : World) (documents : Documents) (nodes : List PlanNode) (places : List (Option ℕ)) (at : ℕ)
    (node : PlanNode) → AreHomes world documents nodes places → slice_get nodes at ≡ Some node
    → IsKnown world documents node.doc (home_at places at)
home_there world documents [] [] at node are here = cc
home_there world documents [] (place ∷ places) at node are here = absurd are
home_there world documents (first ∷ nodes) [] at node are here = absurd are
home_there world documents (first ∷ nodes) (place ∷ places) zero node are here =
    let same : first ≡ node = cc in subst (λ (n : PlanNode). IsKnown world documents n.doc place) same are.0
home_there world documents (first ∷ nodes) (place ∷ places) (suc at) node are here =
    home_there world documents nodes places at node are.1 here

-- the names of a node, by what its document declares

some_names : (found : Option Content) (declaring : List Declaring) (names : List (List ℕ)) (place : ℕ)
    → Declares (Some declaring) found
    → ((tree : Content) → AreDeclarations tree declaring → names ≡ declared_at [] tree place)
    → names ≡ option_map_or (λ (tree : Content). declared_at [] tree place) found []
some_names None declaring names place declares read = absurd declares
some_names (Some tree) declaring names place declares read = read tree declares

no_names : (found : Option Content) (place : ℕ) → Declares None found
    → [] ≡ option_map_or (λ (tree : Content). declared_at [] tree place) found []
no_names None place declares = refl
no_names (Some tree) place declares = absurd declares

module _ (world : World) (documents : Documents) (nodes : List PlanNode) (places : List (Option ℕ)) (at : ℕ)
    (node : PlanNode) (are : AreHomes world documents nodes places) (here : slice_get nodes at ≡ Some node)
    (found : Option (List Declaring)) (is : found ≡ document_at documents (home_at places at)) where
  declares : Declares found (world node.doc)
  declares = subst (λ f. Declares f (world node.doc)) (sym is)
      (home_there world documents nodes places at node are here).is

  pub names_some : (declaring : List Declaring) (names : List (List ℕ)) → found ≡ Some declaring
      → ((tree : Content) → AreDeclarations tree declaring → names ≡ declared_at [] tree node.place)
      → names ≡ names_at world node
  names_some declaring names one read =
      some_names (world node.doc) declaring names node.place
      (subst (λ f. Declares f (world node.doc)) one declares) read

  pub names_none : (names : List (List ℕ)) → found ≡ None → names ≡ [] → names ≡ names_at world node
  names_none names one empty =
      empty ∙ no_names (world node.doc) node.place (subst (λ f. Declares f (world node.doc)) one declares)

-- the names of one node more
pub each_next : (world : World) (nodes : List PlanNode) (at : ℕ) (node : PlanNode)
    (names more : List (Bor (List (List ℕ)))) (own : Bor (List (List ℕ))) → at < length nodes
    → node ≡ get_or nodes at node → own.now ≡ names_at world node
    → more ≡ names ++ own ∷ []
    → shown more ++ map (names_at world) (drop (at + 1) nodes) ≡ shown names ++ map (names_at world) (drop at nodes)
each_next world nodes at node names more own less is own_is put =
    let rest = map (names_at world) (drop (at + 1) nodes) in
    ap (λ all. shown all ++ rest) put
    ∙ ap (λ all. all ++ rest) (map-append (λ (one : Bor (List (List ℕ))). one.now) names (own ∷ []))
    ∙ append_assoc (shown names) (own.now ∷ []) rest
    ∙ ap (λ n. shown names ++ n ∷ rest) (own_is ∙ ap (names_at world) is)
    ∙ sym (at_drop_more (λ (all : List PlanNode). shown names ++ map (names_at world) all) nodes at node less)

-- what closes most claims on what was told of both
pub ruleset reading = (growing, stays_after, asks_after)
