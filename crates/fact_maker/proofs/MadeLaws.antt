-- What the plan of a map is made of, in each world: the DITAVAL of the build was read, and each node of the plan stands at
-- an element of its document, and is filtered by DITAVALs that were read.
use Rattle.std.specs.Prelude.{◌≡◌, ◌+◌, ℕ, List, [], ◌∷◌, Option, Some, None, Ok, IsTrue, bytes_eq, codes, option_map, slice_get}
use Rattle.std.specs.Option.{option_to_list}
use Rattle.std.proofs.Common.{refl, ap, subst, ◌∙◌}
use Rattle.std.proofs.Math.Logic.{⊎_elim}
use Rattle.std.proofs.lemmas.Bool.{false≢true, or_cases}
use Rattle.std.proofs.lemmas.Slice.Eq.{bytes_eq-Decides}
use Rattle.build_plan.proofs.CopyLaws.{IsCarried, heads_copied}
use Rattle.build_plan.proofs.IncludedLaws.{HasNoFilters, included_new}
use Rattle.build_plan.proofs.PlanPagesLaws.{IsPlanMade, tree_left}
use Rattle.dita_doc.specs.declared.plan.Plan.{Plan}
use Rattle.dita_doc.specs.declared.plan.PlanNode.{PlanNode}
use Rattle.ditaval_rules.specs.declared.rules.RulesRead.{RulesRead}
use Rattle.map_lemmas.proofs.AlikeLaws.{same_node}
use Rattle.map_lemmas.proofs.CarriedLaws.{alike_made}
use Rattle.map_lemmas.proofs.GrownLaws.{included_made}
use Rattle.map_lemmas.proofs.HeadLaws.{AllHeads, heads_filtered, node_at}
use Rattle.map_lemmas.proofs.StandingLaws.{included_stand}
use Rattle.map_lemmas.specs.Alike.{AreAlike, plain}
use Rattle.map_lemmas.specs.Carried.{made}
use Rattle.map_lemmas.specs.Standing.{HasElement}
use Rattle.map_spec.specs.Branches.{Branch, copied, ditaval_in, filter_by, filter_named, filter_read, marked}
use Rattle.map_spec.specs.Elements.{attribute}
use Rattle.map_spec.specs.Included.{included}
use Rattle.map_spec.specs.Judged.{filtered}
use Rattle.map_spec.specs.MapTree.{Grown, Head, MapTree, MapNode, NoNodes, plan_nodes}
use Rattle.map_spec.specs.PlanOf.{limits}
use Rattle.map_spec.specs.Target.{Named, Document, Elsewhere, Unreadable, named_of}
use Rattle.map_spec.specs.Written.{Element, Whole, element_in}
use Rattle.reader_spec.specs.World.{World}
use Rattle.readers.proofs.AmongLaws.{among_either}
use Rattle.readers.specs.Founded.{is_among}

-- Elements and DITAVALs that there are

abbrev pub IsThere : World → List ℕ → ℕ → Type 0
IsThere world doc place = (whole : Whole) × (element_in world doc place ≡ Some whole)

abbrev pub IsDitaval : World → List ℕ → Type 0
IsDitaval world name = (read : RulesRead) × (ditaval_in world name ≡ Some read)

abbrev pub AreDitavals : World → List (List ℕ) → Type 0
AreDitavals world names = (m : List ℕ) → IsTrue (is_among names m) → IsDitaval world m

-- what a ditavalref filters by was read

read_ditaval : (world : World) (element : Element) (name : List ℕ) (found : Option RulesRead) (m : List ℕ)
    → ditaval_in world name ≡ found → (filter_read element name found).name ≡ Some m → IsDitaval world m
read_ditaval world element name None m there is = cc
read_ditaval world element name (Some read) m there is =
    let same : name ≡ m = cc in subst (IsDitaval world) same (read, there)

named_ditaval : (world : World) (element : Element) (href : List ℕ) (named : Named) (m : List ℕ)
    → (filter_named world element href named).name ≡ Some m → IsDitaval world m
named_ditaval world element href (Document name) m is =
    read_ditaval world element name (ditaval_in world name) m refl is
named_ditaval world element href Elsewhere m is = cc
named_ditaval world element href Unreadable m is = cc

href_ditaval : (world : World) (element : Element) (href : Option (List ℕ)) (m : List ℕ)
    → (filter_by world element href).name ≡ Some m → IsDitaval world m
href_ditaval world element None m is = cc
href_ditaval world element (Some href) m is = named_ditaval world element href (named_of element href) m is

-- Nodes stand at elements, and are filtered by DITAVALs

abbrev IsGrounded : World → Head → Type 0
IsGrounded world head = IsThere world head.doc head.place × AreDitavals world head.filters

-- before branches are copied
abbrev IsNew : World → Head → Type 0
IsNew world head = HasElement world head × HasNoFilters head

both_heads : (P Q : Head → Type 0) (tree : MapTree) → AllHeads P tree → AllHeads Q tree
    → AllHeads (λ head. P head × Q head) tree
both_heads P Q NoNodes first second = tt
both_heads P Q (MapNode head below more) first second = (
  (first.0, second.0),
  both_heads P Q below first.1 second.1,
  both_heads P Q more first.2 second.2,
)

abbrev IsBranch : World → Branch → Type 0
IsBranch world branch =
    IsGrounded world branch.head × ((m : List ℕ) → branch.filter.name ≡ Some m → IsDitaval world m)

no_ditavals : (world : World) (names : List (List ℕ)) → names ≡ [] → AreDitavals world names
no_ditavals world names none m among =
    absurd (false≢true (subst (λ all. IsTrue (is_among all m)) none among))

new_grounded : (world : World) (head : Head) → IsNew world head → IsGrounded world head
new_grounded world head new = ((new.0.whole, new.0.is), no_ditavals world head.filters new.1)

one_ditaval : (world : World) (found : Option (List ℕ)) → ((m : List ℕ) → found ≡ Some m → IsDitaval world m)
    → AreDitavals world (option_to_list found)
one_ditaval world None is m among = absurd (false≢true among)
one_ditaval world (Some name) is m among = ⊎_elim
    (λ here. subst (IsDitaval world) ((bytes_eq-Decides name m).0 here) (is name refl))
    (λ no. absurd (false≢true no)) (or_cases (bytes_eq name m) _ among)

more_ditavals : (world : World) (branch : Branch) (head : Head) → IsBranch world branch
    → AreDitavals world head.filters → AreDitavals world (marked branch head).filters
more_ditavals world branch head is all m among =
    among_either head.filters (option_to_list branch.filter.name) m (IsDitaval world m) (all m)
    (one_ditaval world branch.filter.name is.1 m) among

grounded_carried : (world : World) → IsCarried world (IsNew world) (IsGrounded world) (IsBranch world)
grounded_carried world = record {
  holds = new_grounded world;
  reads = λ head whole found new. (
    new_grounded world head new,
    λ m is. href_ditaval world whole.0 (attribute (codes "href") whole.0) m is,
  );
  names = λ head names grounded. grounded;
  marks = λ branch head is grounded. (grounded.0, more_ditavals world branch head is grounded.1);
  groups = λ branch level names is. (is.0.0, more_ditavals world branch branch.head is is.0.1);
}

tree_grounded : (limit : ℕ) (world : World) (map : List ℕ) (read : RulesRead) (grown : Grown)
    → included limit world map ≡ Ok grown
    → AllHeads (IsGrounded world) (copied world (filtered world read.rules grown.tree).tree)
tree_grounded limit world map read grown was =
    let root = included_made limit world map grown was in
    let no_filters : AllHeads HasNoFilters grown.tree =
    subst (λ (g : Grown). AllHeads HasNoFilters g.tree) root.is (included_new (limit + 1) world (map ∷ []) 0 root.root) in
    heads_copied world (IsNew world) (IsGrounded world) (IsBranch world) (grounded_carried world)
    (filtered world read.rules grown.tree).tree
    (heads_filtered (IsNew world) world read.rules grown.tree
    (both_heads (HasElement world) HasNoFilters grown.tree (included_stand limit world map grown was) no_filters))

-- The nodes of a plan

abbrev pub IsNodeGrounded : World → PlanNode → Type 0
IsNodeGrounded world node = IsThere world node.doc node.place × AreDitavals world node.filters

node_like : (world : World) (found : Option PlanNode) (node : PlanNode) → option_map plain found ≡ Some (plain node)
    → ((own : PlanNode) → found ≡ Some own → IsNodeGrounded world own) → IsNodeGrounded world node
node_like world None node same all = cc
node_like world (Some own) node same all =
    let like : plain own ≡ plain node = cc in subst (IsNodeGrounded world) like (all own refl)

nodes_like : (world : World) (nodes others : List PlanNode) → AreAlike nodes others
    → ((at : ℕ) (node : PlanNode) → slice_get nodes at ≡ Some node → IsNodeGrounded world node)
    → (at : ℕ) (node : PlanNode) → slice_get others at ≡ Some node → IsNodeGrounded world node
nodes_like world nodes others alike all at node there = node_like world (slice_get nodes at) node
    (same_node nodes others alike at ∙ ap (option_map plain) there) (all at)

pub nodes_grounded : (world : World) (map : List ℕ) (val : Option (List ℕ)) (plan : Plan)
    → IsPlanMade limits world map val plan
    → (at : ℕ) (node : PlanNode) → slice_get plan.nodes at ≡ Some node → IsNodeGrounded world node
nodes_grounded world map val plan is at node there =
    let tree = tree_left world is.read is.grown in
    let all = tree_grounded limits.nodes world map is.read is.grown is.was in
    nodes_like world (plan_nodes tree) (made world (plan_nodes tree)) (alike_made world (plan_nodes tree))
    (λ own found is_there. node_at (IsGrounded world) (IsNodeGrounded world) (λ head parent end grounded. grounded) 0 0
    tree own found all is_there) at node (subst (λ (p : Plan). slice_get p.nodes at ≡ Some node) is.of.is there)
