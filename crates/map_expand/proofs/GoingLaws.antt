-- The steps of the walk over a map.
use Rattle.std.specs.Prelude.{◌≡◌, ◌+◌, ◌-◌, ◌^◌, ◌<◌, ◌≤◌, ℕ, suc, false, List, [], ◌∷◌, ◌++◌, Some, length, slice_get}
use Rattle.std.proofs.Common.{sym, ap, ◌∙◌, arith, subst, length-append}
use Rattle.dita_doc.specs.declared.doc.Node as doc
use Rattle.dita_doc.specs.declared.fault.Fault.{Fault}
use Rattle.dita_doc.specs.declared.plan.PlanKind.TheVariants as kinds
use Rattle.dita_doc.specs.declared.plan.PlanNode.{PlanNode}
use Rattle.dita_doc.specs.declared.plan.PlanStop.{PlanStop}
use Rattle.dita_doc.specs.declared.stop.Stop.{Stop}
use Rattle.dita_doc.specs.declared.stop.Stop.TheVariants as stop
use Rattle.map_spec.specs.Included.{ignored_references, map_included, new_head, map_node_limit, nodes_among, root_place}
use Rattle.map_spec.specs.MapTree.{Grown, beneath, count, node_of, nodes_below}
use Rattle.doc_elements.specs.Walk.{element_of}
use Rattle.map_spec.specs.Written.{Whole}
use Rattle.reader_spec.specs.World.{World}
use Rattle.map_lemmas.proofs.TreeLaws.{length_below}
use Rattle.map_expand.specs.Going.{HasNoRoom, IsOver}
use Rattle.map_expand.specs.Homes.{Home, IsFirst, IsPlaced, content_between, home_at, root_in, name_at}
use Rattle.map_expand.specs.Making.{IsRootWalk, MadeNodes, after, content, done_by, grown_of, made_of, path_in, path_of, put, put_faults, submap_at, whole_map, without_ends}
use Rattle.map_expand.specs.declared.work.Walk.{Walk}
use Rattle.map_expand.specs.declared.work.Work.{Work}
use Rattle.map_expand.specs.declared.work.Work.TheVariants as works
use Rattle.map_expand.specs.Left as measure
use Rattle.map_expand.specs.Left.{steps_left}
use Rattle.map_expand.proofs.LeftLaws.{steps_left_push}
use Rattle.map_expand.proofs.MakingLaws.{after_both, length_without, made_same, path_both, put_beneath, put_node, put_with_faults, without_both}

-- No room

pub length_put : (parent : ℕ) (grown : Grown) (made : MadeNodes)
    → length (put parent grown made).nodes ≡ length made.nodes + count grown.tree
length_put parent grown made = omega (
  arith,
  length-append made.nodes (without_ends (nodes_below parent (length made.nodes) grown.tree)),
  length_without (nodes_below parent (length made.nodes) grown.tree),
  length_below parent (length made.nodes) grown.tree,
)

module _ (world : World) (homes : List Home) where
  done_longer : (path : List (List ℕ)) (work : Work) (made : MadeNodes)
      → length made.nodes ≤ length (done_by world homes path work made).nodes
  done_longer path (works.Walk walk) made =
      omega (arith, length_put walk.parent (grown_of world path (home_at homes walk.map) walk) made)
  done_longer path (works.Leave at) made = omega arith

  pub after_longer : (path : List (List ℕ)) (all : List Work) (made : MadeNodes)
      → length made.nodes ≤ length (after world homes path all made).nodes
  after_longer path [] made = omega arith
  after_longer path (work ∷ all) made = omega (
    arith,
    after_longer (path_in homes path work) all made,
    done_longer path work (after world homes (path_in homes path work) all made),
  )

-- a node is to be made, and there is no room
pub full_over : (world : World) (homes : List Home) (left : List Work) (end : Stop PlanStop) (parent : ℕ) (grown : Grown)
    (nodes : List PlanNode) (faults : List Fault) → HasNoRoom end (length nodes) → 0 < count grown.tree
    → IsOver end (after world homes [] left (put parent grown (made_of nodes faults)))
full_over world homes left (stop.Fault fault) parent grown nodes faults full some = (
  full.0,
  omega (
    arith,
    full.1,
    length_without nodes,
    length_put parent grown (made_of nodes faults),
    after_longer world homes [] left (put parent grown (made_of nodes faults)),
  ),
)
full_over world homes left stop.NoMemory parent grown nodes faults full some = tt

-- a stop of what comes first is one of all
pub over_more : (end : Stop PlanStop) (made all : MadeNodes) → length made.nodes ≤ length all.nodes → IsOver end made → IsOver end all
over_more (stop.Fault fault) made all longer over = (over.0, omega (arith, over.1))
over_more stop.NoMemory made all longer over = tt

-- A map is entered

pub some_map : (world : World) (path : List (List ℕ)) (level : ℕ) (root : Whole) → level ≤ map_node_limit
    → 0 < count (whole_map world path level root).tree
unfolding map_included
some_map world path level root fits =
    let fuel : map_node_limit + 1 - level ≡ suc (map_node_limit - level) = omega arith in
    subst (λ n. 0 < count (map_included n world path level root).tree) (sym fuel) (omega arith)

pub path_entered : (homes : List Home) (left now : List Work) (at : ℕ) (walk : Walk)
    → now ≡ (left ++ works.Leave at ∷ []) ++ works.Walk walk ∷ []
    → path_of homes now ≡ path_of homes left ++ name_at homes at ∷ []
path_entered homes left now at walk is =
    ap (path_of homes) is ∙ path_both homes [] (left ++ works.Leave at ∷ []) (works.Walk walk ∷ [])
    ∙ path_both homes [] left (works.Leave at ∷ [])

-- the root of a map was put, and what it holds is left
map_begun : (world : World) (path : List (List ℕ)) (home : Home) (walk : Walk) (parent : ℕ) (root : Whole)
    (made : MadeNodes)
    → walk.level ≤ map_node_limit → walk.place ≡ root_place world root.0.doc + 1 → walk.in_table ≡ false
    → walk.parent ≡ length made.nodes → root.1 ≡ content_between home (root_place world root.0.doc + 1) walk.end
    → put walk.parent (grown_of world path home walk)
    (put_node (new_head kinds.Map root.0 walk.level (root_place world root.0.doc)) parent
    (put_faults (ignored_references root.0) made))
    ≡ put parent (whole_map world path walk.level root) made
unfolding map_included
map_begun world path home walk parent root made fits place table below holds =
    let fuel : map_node_limit + 1 - walk.level ≡ suc (map_node_limit - walk.level) = omega arith in
    let at = root_place world root.0.doc in
    let inner : Grown =
    nodes_among (submap_at world path walk.level) (record { level = walk.level; in_table = false }) (at + 1) root.1 in
    let head = new_head kinds.Map root.0 walk.level at in
    rw (fuel, place, table, below, ← holds) (sym (put_with_faults parent (ignored_references root.0) (beneath head inner) made
    ∙ put_beneath parent head inner (put_faults (ignored_references root.0) made)))

pub map_entered : (world : World) (homes : List Home) (left now : List Work) (at : ℕ) (walk : Walk) (parent : ℕ)
    (root : Whole) (nodes more : List PlanNode) (faults others : List Fault)
    → now ≡ (left ++ works.Leave at ∷ []) ++ works.Walk walk ∷ []
    → more ≡ nodes ++ node_of (new_head kinds.Map root.0 walk.level (root_place world root.0.doc)) parent 0 ∷ []
    → others ≡ faults ++ ignored_references root.0
    → walk.level ≤ map_node_limit → walk.map ≡ at → walk.place ≡ root_place world root.0.doc + 1 → walk.in_table ≡ false
    → walk.parent ≡ length nodes
    → root.1 ≡ content_between (home_at homes at) (root_place world root.0.doc + 1) walk.end
    → after world homes [] now (made_of more others)
    ≡ after world homes [] left (put parent (whole_map world (path_of homes left ++ name_at homes at ∷ []) walk.level root) (made_of nodes faults))
map_entered world homes left now at walk parent root nodes more faults others is made put_too fits map place table below holds =
    let path = path_of homes left ++ name_at homes at ∷ [] in
    ap (λ l. after world homes [] l (made_of more others)) is
    ∙ after_both world homes [] (left ++ works.Leave at ∷ []) (works.Walk walk ∷ []) (made_of more others)
    ∙ after_both world homes [] left (works.Leave at ∷ []) _
    ∙ ap (λ p. after world homes [] left (put walk.parent (grown_of world p (home_at homes walk.map) walk) (made_of more others)))
    (path_both homes [] left (works.Leave at ∷ []))
    ∙ ap (λ m. after world homes [] left (put walk.parent (grown_of world path (home_at homes m) walk) (made_of more others))) map
    ∙ ap (λ m. after world homes [] left (put walk.parent (grown_of world path (home_at homes at) walk) m))
    (made_same _ _ _ _ (ap without_ends made ∙ without_both nodes _) put_too)
    ∙ ap (after world homes [] left) (map_begun world path (home_at homes at) walk parent root (made_of nodes faults) fits
    place table (below ∙ sym (length_without nodes)) holds)

pub entered_less : (nodes new : List PlanNode) (node : PlanNode) (left one two : List Work) (at : ℕ) (walk : Walk)
    → length nodes < 65536 → new ≡ nodes ++ node ∷ [] → one ≡ left ++ works.Leave at ∷ []
    → two ≡ one ++ works.Walk walk ∷ [] → walk.end < 2 ^ 32 → measure.left new two ≤ measure.left nodes left
entered_less nodes new node left one two at walk room made first second fits = omega (
  arith,
  ap (λ l. length l) made,
  length-append nodes (node ∷ []),
  ap steps_left first,
  steps_left_push left (works.Leave at),
  ap steps_left second,
  steps_left_push one (works.Walk walk),
)

some_whole : (one other : Whole) → Some one ≡ Some other → one ≡ other
some_whole one other same = cc

-- all that is known where a map is entered
pub enter_all : (world : World) (homes : List Home) (left now : List Work) (at parent level : ℕ) (first walk : Walk)
    (name : List ℕ) (node : doc.Node) (root : Whole) (nodes more : List PlanNode) (faults others : List Fault)
    → IsRootWalk homes at parent level first → walk ≡ record (content first first.end) { parent = length nodes }
    → IsFirst (home_at homes first.map) first name node → root_in (home_at homes at) ≡ Some root
    → IsPlaced world (home_at homes at)
    → now ≡ (left ++ works.Leave at ∷ []) ++ works.Walk walk ∷ []
    → more ≡ nodes ++ node_of (new_head kinds.Map (element_of name node) first.level first.place) first.parent 0 ∷ []
    → others ≡ faults ++ ignored_references (element_of name node) → level ≤ map_node_limit
    → after world homes [] now (made_of more others)
    ≡ after world homes [] left
    (put parent (whole_map world (path_of homes left ++ name_at homes at ∷ []) level root) (made_of nodes faults))
enter_all world homes left now at parent level first walk name node root nodes more faults others r walked f
    rooted placed is made put_too fits =
    let home = home_at homes at in
    let here : slice_get home.nodes home.root ≡ Some node =
    sym (ap (slice_get home.nodes) r.place)
    ∙ subst (λ m. slice_get (home_at homes m).nodes first.place ≡ Some node) r.map f.here in
    let whole : root ≡ (element_of home.name node, content_between home (home.root + 1) first.end) =
    some_whole _ _ (sym rooted ∙ r.root node here) in
    let there : home.root ≡ root_place world root.0.doc =
    sym (ap (λ (w : Whole). root_place world w.0.doc) whole ∙ placed) in
    let named : name ≡ home.name = f.named ∙ ap (λ m. (home_at homes m).name) r.map in
    let element : element_of name node ≡ root.0 =
    ap (λ n. element_of n node) named ∙ sym (ap (λ (w : Whole). w.0) whole) in
    let level_is : walk.level ≡ level = ap (λ (w : Walk). w.level) walked ∙ r.level in
    let end_is : walk.end ≡ first.end = ap (λ (w : Walk). w.end) walked in
    let place = root_place world root.0.doc in
    let head : more ≡ nodes ++ node_of (new_head kinds.Map root.0 walk.level place) parent 0 ∷ [] =
    made
    ∙ ap (λ e. nodes ++ node_of (new_head kinds.Map e first.level first.place) first.parent 0 ∷ []) element
    ∙ ap (λ l. nodes ++ node_of (new_head kinds.Map root.0 l first.place) first.parent 0 ∷ []) (r.level ∙ sym level_is)
    ∙ ap (λ p. nodes ++ node_of (new_head kinds.Map root.0 walk.level p) first.parent 0 ∷ []) (r.place ∙ there)
    ∙ ap (λ p. nodes ++ node_of (new_head kinds.Map root.0 walk.level place) p 0 ∷ []) r.parent in
    let one : walk.place ≡ place + 1 =
    ap (λ (w : Walk). w.place) walked ∙ ap (λ p. p + 1) (r.place ∙ there) in
    let holds : root.1 ≡ content_between home (place + 1) walk.end =
    ap (λ (w : Whole). w.1) whole ∙ ap (λ n. content_between home (home.root + 1) n) (sym end_is)
    ∙ ap (λ p. content_between home (p + 1) walk.end) there in
    subst (λ l. after world homes [] now (made_of more others)
    ≡ after world homes [] left
    (put parent (whole_map world (path_of homes left ++ name_at homes at ∷ []) l root) (made_of nodes faults))) level_is
    (map_entered world homes left now at walk parent root nodes more faults others is head
    (put_too ∙ ap (λ e. faults ++ ignored_references e) element) (omega arith)
    (ap (λ (w : Walk). w.map) walked ∙ r.map) one (ap (λ (w : Walk). w.in_table) walked ∙ r.in_table)
    (ap (λ (w : Walk). w.parent) walked) holds)
