-- The steps of the copying.
use Rattle.std.specs.Prelude.{◌≡◌, ◌+◌, ◌<◌, ◌++◌, ℕ, Bool, true, false, List, [], ◌∷◌, drop, length, take, Vec}
use Rattle.std.specs.List.{list_any}
use Rattle.std.specs.declared.alloc.Global.{Global}
use Rattle.std.proofs.Common.{refl, sym, ap, subst, ◌∙◌, arith, length-append}
use Rattle.dita_doc.specs.declared.plan.PlanNode.{PlanNode}
use Rattle.dita_doc.specs.declared.plan.PlanStop.{PlanStop}
use Rattle.dita_doc.specs.declared.stop.Stop.{Stop}
use Rattle.dita_doc.specs.declared.stop.Stop.TheVariants as stop
use Rattle.map_spec.specs.Branches.{Branch, branches_of, copied, copies, is_ditavalref, is_map_node, with_scope_names}
use Rattle.map_spec.specs.MapTree.{Head, MapTree, MapNode, NoNodes, count, node_of, trees_beside}
use Rattle.reader_spec.specs.World.{World}
use Rattle.branch_copies.specs.Chained.{chain_at, shown}
use Rattle.branch_copies.specs.Going.{Going, HasNoRoom, IsNext, IsOver, chains_of, copies_left, first_copied}
use Rattle.branch_copies.specs.Leaves.{CopiesMake, Leaves, WalkMakes, WorkMakes, around, chain_in, copies_of, parent_of, put}
use Rattle.branch_copies.specs.Marks.{copied_node}
use Rattle.branch_copies.specs.Read.{HaveBranches, branches_in}
use Rattle.branch_copies.specs.Originals.{IsFirst, IsSource, excludes_at}
use Rattle.branch_copies.specs.Stands.{StandsAt}
use Rattle.branch_copies.specs.Through.{excluded_by, marked_by, through}
use Rattle.branch_copies.specs.declared.chains.Chains.{Chains}
use Rattle.branch_copies.specs.declared.copying.Copying.{Copying}
use Rattle.branch_copies.specs.declared.node.Seen.{Seen}
use Rattle.branch_copies.specs.declared.node.Originals.{Originals}
use Rattle.branch_copies.specs.declared.work.Walk.{Walk}
use Rattle.branch_copies.specs.declared.work.Work.{Work}
use Rattle.branch_copies.specs.declared.work.Work.TheVariants as works
use Rattle.branch_copies.proofs.FirstLaws as firsts
use Rattle.branch_copies.proofs.LeavesLaws.{chain_shown, leaves_longer, pushed}
use Rattle.branch_copies.proofs.ReadLaws.{chain_excludes, copied_is}
use Rattle.branch_copies.proofs.SightLaws.{span_length}
use Rattle.branch_copies.proofs.ThroughLaws.{through_beside, through_none}
use Rattle.branch_copies.proofs.TreeLaws.{length_put, put_beside, put_node, put_none}

-- No room

-- a node is to be made, and there is no room
pub full_over : (world : World) (source : Originals) (defined : List Branch) (x : Copying) (end : Stop PlanStop)
    (parent : ℕ) (tree below : MapTree) (head : Head) (all : List PlanNode) → tree ≡ MapNode head below NoNodes
    → HasNoRoom end (length x.made.items) → Going world source defined x (put parent tree x.made.items) all
    → IsOver end all
full_over world source defined x (stop.Fault fault) parent tree below head all is full going = (
  full.0,
  omega (
    arith,
    full.1,
    length_put parent tree x.made.items,
    ap count is,
    leaves_longer world source defined (chains_of x) x.left.items (put parent tree x.made.items) all going.leaves,
  ),
)
full_over world source defined x stop.NoMemory parent tree below head all is full going = tt

module _ (world : World) (source : Originals) (defined : List Branch) where
  -- a tree of no nodes is made at once
  pub none_made : (x : Copying) (parent : ℕ) (tree : MapTree) (all : List PlanNode) → tree ≡ NoNodes
      → Going world source defined x (put parent tree x.made.items) all
      → Going world source defined x x.made.items all
  none_made x parent tree all is going =
      subst (λ made. Going world source defined x made all)
      (ap (λ t. put parent t x.made.items) is ∙ put_none parent x.made.items) going

  -- work is left for the second of two trees
  pub one_left : (x y : Copying) (work : Work) (tree first rest : MapTree) (all : List PlanNode)
      → tree ≡ trees_beside first rest → WorkMakes world source defined (chains_of x) work rest
      → y.made ≡ x.made → y.chains ≡ x.chains → y.left.items ≡ x.left.items ++ work ∷ []
      → Going world source defined x (put (parent_of work) tree x.made.items) all
      → Going world source defined y (put (parent_of work) first y.made.items) all
  one_left x y work tree first rest all is makes made chains put_too going =
      let chains_are : chains_of y ≡ chains_of x = ap (λ (c : Chains). shown c.chains.items) chains in
      let made_are : y.made.items ≡ x.made.items = ap (λ (v : Vec PlanNode Global). v.items) made in
      let whole : Leaves world source defined (chains_of x) (x.left.items ++ work ∷ [])
      (put (parent_of work) first x.made.items) all =
      pushed world source defined (chains_of x) x.left.items work rest (put
      (parent_of work) first x.made.items) all makes
      (subst (λ nodes. Leaves world source defined (chains_of x) x.left.items nodes all)
      (ap (λ t. put (parent_of work) t x.made.items) is ∙ put_beside (parent_of work) first rest x.made.items)
      going.leaves) in
      record {
        few = omega (arith, ap (λ l. length l) made_are, going.few);
        leaves = subst (λ cs. Leaves world source defined cs y.left.items (put (parent_of work) first y.made.items) all)
            (sym chains_are)
            (subst (λ l. Leaves world source defined (chains_of x) l (put (parent_of work) first y.made.items) all)
            (sym put_too)
            (subst (λ m. Leaves world source defined (chains_of x) (x.left.items ++ work ∷ [])
            (put (parent_of work) first m) all) (sym made_are) whole));
      }

  -- a node was made, and work is left for those below it
  pub node_made : (x y : Copying) (parent : ℕ) (work : Work) (tree below : MapTree) (head : Head) (node : PlanNode)
      (all : List PlanNode) → tree ≡ MapNode head below NoNodes → node ≡ node_of head parent 0
      → WorkMakes world source defined (chains_of y) work below → parent_of work ≡ length x.made.items
      → length x.made.items < 65536 → y.made.items ≡ x.made.items ++ node ∷ []
      → y.left.items ≡ x.left.items ++ work ∷ []
      → Leaves world source defined (chains_of y) x.left.items (put parent tree x.made.items) all
      → Going world source defined y y.made.items all
  node_made x y parent work tree below head node all is same makes under room made put_too leaves =
      let made_is : y.made.items ≡ x.made.items ++ node_of head parent 0 ∷ [] =
      made ∙ ap (λ n. x.made.items ++ n ∷ []) same in
      let long : length y.made.items ≡ length x.made.items + 1 = ap (λ l. length l) made
      ∙ length-append x.made.items (node ∷ []) in
      record {
        few = omega (arith, long, room);
        leaves = subst (λ l. Leaves world source defined (chains_of y) l y.made.items all) (sym put_too)
            (pushed world source defined (chains_of y) x.left.items work below y.made.items all makes
            (subst (λ made. Leaves world source defined (chains_of y) x.left.items made all)
            (ap (λ t. put parent t x.made.items) is ∙ put_node parent head below x.made.items
            ∙ ap (λ m. put (length x.made.items) below m) (sym made_is)
            ∙ ap (λ p. put p below y.made.items) (sym under)) leaves));
      }

  -- so it is if no chain was put
  pub node_same : (x y : Copying) (parent : ℕ) (work : Work) (tree below : MapTree) (head : Head) (node : PlanNode)
      (all : List PlanNode) → tree ≡ MapNode head below NoNodes → node ≡ node_of head parent 0
      → WorkMakes world source defined (chains_of x) work below → parent_of work ≡ length x.made.items
      → length x.made.items < 65536 → y.made.items ≡ x.made.items ++ node ∷ [] → y.chains ≡ x.chains
      → y.left.items ≡ x.left.items ++ work ∷ [] → Going world source defined x (put parent tree x.made.items) all
      → Going world source defined y y.made.items all
  node_same x y parent work tree below head node all is same makes under room made chains put_too going =
      let chains_are : chains_of y ≡ chains_of x = ap (λ (c : Chains). shown c.chains.items) chains in
      node_made x y parent work tree below head node all is same
      (subst (λ cs. WorkMakes world source defined cs work below) (sym chains_are) makes) under room made put_too
      (subst (λ cs. Leaves world source defined cs x.left.items (put parent tree x.made.items) all) (sym chains_are)
      going.leaves)

  -- The first node of a walk

  pub record IsSplit (chains : List (List ℕ)) (walk : Walk) (tree : MapTree) : Type 0 where
    pub above : ℕ
    pub head : Head
    pub below : MapTree
    pub more : MapTree
    pub stands : StandsAt source.nodes.now above walk.at (MapNode head below more)
    pub have : HaveBranches world source.spans.now defined walk.at (MapNode head below more)
    pub ends : walk.at + count (MapNode head below more) ≡ walk.end
    pub chain : walk.chain < length chains
    pub is : tree ≡ through world (around defined chains walk.chain) (copied world (MapNode head below more))

  split_by : (chains : List (List ℕ)) (walk : Walk) (tree : MapTree) (above : ℕ) (original : MapTree)
      → walk.at < walk.end → StandsAt source.nodes.now above walk.at original
      → HaveBranches world source.spans.now defined walk.at original → walk.at + count original ≡ walk.end
      → walk.chain < length chains → tree ≡ through world (around defined chains walk.chain) (copied world original)
      → IsSplit chains walk tree
  split_by chains walk tree above NoNodes some stands have ends chain is = absurd (omega (arith, some, ends))
  split_by chains walk tree above (MapNode head below more) some stands have ends chain is = record {
    above = above;
    head = head;
    below = below;
    more = more;
    stands = stands;
    have = have;
    ends = ends;
    chain = chain;
    is = is;
  }

  pub walk_split : (chains : List (List ℕ)) (walk : Walk) (tree : MapTree) → walk.at < walk.end
      → WalkMakes world source defined chains walk tree → IsSplit chains walk tree
  walk_split chains walk tree some makes =
      split_by chains walk tree makes.above makes.original some makes.stands makes.have makes.ends makes.chain makes.is

  -- nothing is seen where no node is left
  none_by : (chains : List (List ℕ)) (walk : Walk) (tree : MapTree) (above : ℕ) (original : MapTree)
      → StandsAt source.nodes.now above walk.at original
      → HaveBranches world source.spans.now defined walk.at original → walk.at + count original ≡ walk.end
      → tree ≡ through world (around defined chains walk.chain) (copied world original)
      → ((a : ℕ) (head : Head) (below more : MapTree) → StandsAt source.nodes.now a walk.at (MapNode head below more)
      → HaveBranches world source.spans.now defined walk.at (MapNode head below more)
      → walk.at + count (MapNode head below more) ≡ walk.end → ⊥)
      → tree ≡ NoNodes
  none_by chains walk tree above NoNodes stands have ends is never =
      is ∙ through_none world (around defined chains walk.chain)
  none_by chains walk tree above (MapNode head below more) stands have ends is never =
      absurd (never above head below more stands have ends)

  pub walk_none : (chains : List (List ℕ)) (walk : Walk) (tree : MapTree)
      → WalkMakes world source defined chains walk tree
      → ((a : ℕ) (head : Head) (below more : MapTree) → StandsAt source.nodes.now a walk.at (MapNode head below more)
      → HaveBranches world source.spans.now defined walk.at (MapNode head below more)
      → walk.at + count (MapNode head below more) ≡ walk.end → ⊥)
      → tree ≡ NoNodes
  walk_none chains walk tree makes never =
      none_by chains walk tree makes.above makes.original makes.stands makes.have makes.ends makes.is never

  -- the nodes behind it
  abbrev pub rest_of : (chains : List (List ℕ)) (walk : Walk) → MapTree → MapTree
  rest_of chains walk more = through world (around defined chains walk.chain) (copied world more)

  pub behind_makes : (chains : List (List ℕ)) (walk : Walk) (tree : MapTree) (end : ℕ)
      (split : IsSplit chains walk tree)
      → end ≡ walk.at + 1 + count split.below
      → WalkMakes world source defined chains (record walk { at = end }) (rest_of chains walk split.more)
  behind_makes chains walk tree end split is = record {
    above = split.above;
    original = split.more;
    stands = subst (λ at. StandsAt source.nodes.now split.above at split.more) (sym is) split.stands.2;
    have = subst (λ at. HaveBranches world source.spans.now defined at split.more) (sym is) split.have.1;
    ends = omega (arith, is, split.ends);
    chain = split.chain;
    is = refl;
  }

  pub split_ref : (chains : List (List ℕ)) (walk : Walk) (tree : MapTree) (split : IsSplit chains walk tree)
      → is_ditavalref split.head.kind ≡ true → tree ≡ trees_beside NoNodes (rest_of chains walk split.more)
  split_ref chains walk tree split ref =
      split.is ∙ ap (through world (around defined chains walk.chain))
      (firsts.copied_ref world split.head split.below split.more ref)

  abbrev first_in : List (List ℕ) → Walk → Head → MapTree → MapTree
  first_in chains walk head below = through world (around defined chains walk.chain)
      (copies world (with_scope_names world head below) (copied world below) (branches_of world head below))

  pub split_other : (chains : List (List ℕ)) (walk : Walk) (tree : MapTree) (split : IsSplit chains walk tree)
      → is_ditavalref split.head.kind ≡ false
      → tree ≡ trees_beside (first_in chains walk split.head split.below) (rest_of chains walk split.more)
  split_other chains walk tree split other =
      split.is
      ∙ ap (through world (around defined chains walk.chain))
      (firsts.copied_node world split.head split.below split.more other)
      ∙ through_beside world (around defined chains walk.chain)
      (copies world (with_scope_names world split.head split.below) (copied world split.below)
      (branches_of world split.head split.below)) (copied world split.more)

  split_out : (chains : List (List ℕ)) (walk : Walk) (tree : MapTree) (split : IsSplit chains walk tree) (ref : Bool)
      → is_ditavalref split.head.kind ≡ ref
      → excluded_by world (around defined chains walk.chain) split.head ≡ true
      → tree ≡ trees_beside NoNodes (rest_of chains walk split.more)
  split_out chains walk tree split true is out = split_ref chains walk tree split is
  split_out chains walk tree split false is out =
      split_other chains walk tree split is
      ∙ ap (λ t. trees_beside t (rest_of chains walk split.more))
      (firsts.first_excluded world (around defined chains walk.chain) split.head split.below
      (branches_of world split.head split.below) out)

  pub split_excluded : (chains : List (List ℕ)) (walk : Walk) (tree : MapTree) (split : IsSplit chains walk tree)
      → excluded_by world (around defined chains walk.chain) split.head ≡ true
      → tree ≡ trees_beside NoNodes (rest_of chains walk split.more)
  split_excluded chains walk tree split out =
      split_out chains walk tree split (is_ditavalref split.head.kind) refl out

  abbrev Sees : Walk → Seen → Type 0
  Sees walk seen = (above : ℕ) (head : Head) (below more : MapTree) → IsSource world source defined
      → StandsAt source.nodes.now above walk.at (MapNode head below more)
      → HaveBranches world source.spans.now defined walk.at (MapNode head below more)
      → walk.at + count (MapNode head below more) ≡ walk.end → IsFirst world source defined walk.at seen head below

  sees_split : (x : Copying) (walk : Walk) (seen : Seen) (tree : MapTree) → IsSource world source defined
      → Sees walk seen → (split : IsSplit (chains_of x) walk tree)
      → IsFirst world source defined walk.at seen split.head split.below
  sees_split x walk seen tree is sees split =
      sees split.above split.head split.below split.more is split.stands split.have split.ends

  -- it is not copied
  pub step_ref : (x y : Copying) (walk : Walk) (seen : Seen) (tree : MapTree) (all : List PlanNode)
      → IsSource world source defined → WalkMakes world source defined (chains_of x) walk tree
      → walk.at < walk.end → Sees walk seen → is_ditavalref seen.original.node.now.kind ≡ true
      → y.made ≡ x.made → y.chains ≡ x.chains
      → y.left.items ≡ x.left.items ++ works.Walk (record walk { at = seen.end }) ∷ []
      → Going world source defined x (put walk.parent tree x.made.items) all
      → Going world source defined y y.made.items all
  step_ref x y walk seen tree all is makes some sees ref made chains put_too going =
      let split = walk_split (chains_of x) walk tree some makes in
      let first = sees_split x walk seen tree is sees split in
      let kind : is_ditavalref split.head.kind
      ≡ true = sym (ap (λ (n : PlanNode). is_ditavalref n.kind) first.node) ∙ ref in
      none_made y walk.parent NoNodes all refl
      (one_left x y (works.Walk (record walk { at = seen.end })) tree NoNodes (rest_of
      (chains_of x) walk split.more) all
      (split_ref (chains_of x) walk tree split kind)
      (behind_makes (chains_of x) walk tree seen.end split first.end) made chains put_too going)

  pub step_excluded : (x y : Copying) (walk : Walk) (seen : Seen) (tree : MapTree) (all : List PlanNode)
      → IsSource world source defined → WalkMakes world source defined (chains_of x) walk tree
      → walk.at < walk.end → Sees walk seen
      → list_any (excludes_at source walk.at) (chain_at x.chains.chains.items walk.chain) ≡ true
      → y.made ≡ x.made → y.chains ≡ x.chains
      → y.left.items ≡ x.left.items ++ works.Walk (record walk { at = seen.end }) ∷ []
      → Going world source defined x (put walk.parent tree x.made.items) all
      → Going world source defined y y.made.items all
  step_excluded x y walk seen tree all is makes some sees out made chains put_too going =
      let split = walk_split (chains_of x) walk tree some makes in
      let first = sees_split x walk seen tree is sees split in
      let by_chain : excluded_by world (around defined (chains_of x) walk.chain) split.head ≡ true =
      sym (chain_excludes world source defined split.above walk.at (walk.at + 1 + count split.below) split.head
      (chain_in (chains_of x) walk.chain) is split.stands.0)
      ∙ sym (ap (list_any (excludes_at source walk.at)) (chain_shown x.chains.chains.items walk.chain)) ∙ out in
      none_made y walk.parent NoNodes all refl
      (one_left x y (works.Walk (record walk { at = seen.end })) tree NoNodes (rest_of
      (chains_of x) walk split.more) all
      (split_excluded (chains_of x) walk tree split by_chain)
      (behind_makes (chains_of x) walk tree seen.end split first.end) made chains put_too going)

  -- it is copied next
  pub record Steps (y : Copying) (walk : Walk) (seen : Seen) (all : List PlanNode) : Type 0 where
    pub head : Head
    pub below : MapTree
    pub next : IsNext world source defined y walk seen head below
    pub going : Going world source defined y
        (put walk.parent (first_copied world defined y walk head below) y.made.items) all

  pub step_next : (x y : Copying) (walk : Walk) (seen : Seen) (tree : MapTree) (all : List PlanNode)
      → IsSource world source defined → WalkMakes world source defined (chains_of x) walk tree
      → walk.at < walk.end → Sees walk seen → is_ditavalref seen.original.node.now.kind ≡ false
      → list_any (excludes_at source walk.at) (chain_at x.chains.chains.items walk.chain) ≡ false
      → y.made ≡ x.made → y.chains ≡ x.chains
      → y.left.items ≡ x.left.items ++ works.Walk (record walk { at = seen.end }) ∷ []
      → Going world source defined x (put walk.parent tree x.made.items) all
      → Steps y walk seen all
  step_next x y walk seen tree all is makes some sees ref out made chains put_too going =
      let split = walk_split (chains_of x) walk tree some makes in
      let first = sees_split x walk seen tree is sees split in
      let kind : is_ditavalref split.head.kind
      ≡ false = sym (ap (λ (n : PlanNode). is_ditavalref n.kind) first.node) ∙ ref in
      let by_chain : excluded_by world (around defined (chains_of x) walk.chain) split.head ≡ false =
      sym (chain_excludes world source defined split.above walk.at (walk.at + 1 + count split.below) split.head
      (chain_in (chains_of x) walk.chain) is split.stands.0)
      ∙ sym (ap (list_any (excludes_at source walk.at)) (chain_shown x.chains.chains.items walk.chain)) ∙ out in
      let chains_are : chains_of x ≡ chains_of y = sym (ap (λ (c : Chains). shown c.chains.items) chains) in
      record {
        head = split.head;
        below = split.below;
        next = record {
          first = first;
          other = kind;
          chain = subst (λ cs. walk.chain < length cs) chains_are split.chain;
          stays = subst (λ cs. excluded_by world (around defined cs walk.chain) split.head ≡ false) chains_are by_chain;
        };
        going = subst (λ cs. Going world source defined y
            (put walk.parent (first_in cs walk split.head split.below) y.made.items) all) chains_are
            (one_left x y (works.Walk (record walk { at = seen.end })) tree
            (first_in (chains_of x) walk split.head split.below) (rest_of (chains_of x) walk split.more) all
            (split_other (chains_of x) walk tree split kind)
            (behind_makes (chains_of x) walk tree seen.end split first.end) made chains put_too going);
      }

  -- Its copies

  module _ (x : Copying) (walk : Walk) (seen : Seen) (head : Head) (below : MapTree)
      (is : IsSource world source defined) (next : IsNext world source defined x walk seen head below) where
    pub named_node : (node : PlanNode) → node
        ≡ copied_node source.branches.now (chain_at x.chains.chains.items walk.chain)
        seen.original.node.now seen.original.names.now walk.parent
        → node ≡ node_of (marked_by (around defined (chains_of x) walk.chain)
        (with_scope_names world head below)) walk.parent 0
    named_node node made =
        made
        ∙ ap (λ c. copied_node source.branches.now c seen.original.node.now seen.original.names.now walk.parent)
        (chain_shown x.chains.chains.items walk.chain)
        ∙ ap (λ n. copied_node source.branches.now (chain_in
        (chains_of x) walk.chain) n seen.original.names.now walk.parent)
        next.first.node
        ∙ ap (λ names. copied_node source.branches.now (chain_in (chains_of x) walk.chain)
        (node_of head next.first.above (walk.at + 1 + count below)) names walk.parent) next.first.names
        ∙ copied_is is.ditavals source.nodes.now source.branches.now defined (chain_in (chains_of x) walk.chain) head
        next.first.above (walk.at + 1 + count below) walk.parent (with_scope_names world head below).scope_names is.read

    -- it has no branches
    none_of : (count : ℕ) → count ≡ 0 → take count (drop seen.span.first defined) ≡ []
    none_of count none = ap (λ n. take n (drop seen.span.first defined)) none

    pub whole_tree : seen.span.count ≡ 0
        → first_copied world defined x walk head below
        ≡ MapNode (marked_by (around defined (chains_of x) walk.chain) (with_scope_names world head below))
        (through world (around defined (chains_of x) walk.chain) (copied world below)) NoNodes
    whole_tree none = firsts.first_whole world (around defined (chains_of x) walk.chain) head below
        (branches_of world head below)
        (sym (next.first.branches next.other).are ∙ none_of seen.span.count none) next.stays

    pub inside_makes : (place : ℕ) → WalkMakes world source defined (chains_of x)
        (record { at = walk.at + 1; end = seen.end; parent = place; chain = walk.chain })
        (through world (around defined (chains_of x) walk.chain) (copied world below))
    inside_makes place = record {
      above = walk.at;
      original = below;
      stands = next.first.stands.1;
      have = next.first.inside next.other;
      ends = sym next.first.end;
      chain = next.chain;
      is = refl;
    }

    -- it has some
    pub copies_make : (place : ℕ) → WorkMakes world source defined (chains_of x) (works.Copies
        (copies_left walk seen place))
        (through world (around defined (chains_of x) walk.chain)
        (copies_of world head below (branches_in defined seen.span)))
    copies_make place = made
      where
        made : CopiesMake world source defined (chains_of x) (copies_left walk seen place)
            (through world (around defined (chains_of x) walk.chain)
            (copies_of world head below (branches_in defined seen.span)))
        made = record {
          above = next.first.above;
          head = head;
          below = below;
          stands = next.first.stands;
          have = next.first.inside next.other;
          ends = sym next.first.end;
          fits = (next.first.branches next.other).fits;
          chain = next.chain;
          stays = next.stays;
          is = refl;
        }

    map_by : (branches : List Branch) → 0 < length branches → is_map_node head.kind ≡ true
        → through world (around defined (chains_of x) walk.chain)
        (copies world (with_scope_names world head below) (copied world below) branches)
        ≡ MapNode (marked_by (around defined (chains_of x) walk.chain) (with_scope_names world head below))
        (through world (around defined (chains_of x) walk.chain) (copies_of world head below branches)) NoNodes
    map_by [] some kind = absurd (omega (arith, some))
    map_by (branch ∷ branches) some kind =
        firsts.first_map world (around defined (chains_of x) walk.chain) head below branch branches kind next.stays

    other_by : (branches : List Branch) → 0 < length branches → is_map_node head.kind ≡ false
        → through world (around defined (chains_of x) walk.chain)
        (copies world (with_scope_names world head below) (copied world below) branches)
        ≡ through world (around defined (chains_of x) walk.chain) (copies_of world head below branches)
    other_by [] some kind = absurd (omega (arith, some))
    other_by (branch ∷ branches) some kind =
        firsts.first_copies world (around defined (chains_of x) walk.chain) head below branch branches kind

    many : 0 < seen.span.count → 0 < length (branches_in defined seen.span)
    many some = omega (arith, some, span_length defined seen.span (next.first.branches next.other).fits)

    pub map_tree : 0 < seen.span.count → is_map_node head.kind ≡ true
        → first_copied world defined x walk head below
        ≡ MapNode (marked_by (around defined (chains_of x) walk.chain) (with_scope_names world head below))
        (through world (around defined (chains_of x) walk.chain)
        (copies_of world head below (branches_in defined seen.span))) NoNodes
    map_tree some kind =
        ap (λ branches. through world (around defined (chains_of x) walk.chain)
        (copies world (with_scope_names world head below) (copied world below) branches))
        (sym (next.first.branches next.other).are)
        ∙ map_by (branches_in defined seen.span) (many some) kind

    pub other_tree : 0 < seen.span.count → is_map_node head.kind ≡ false
        → first_copied world defined x walk head below
        ≡ through world (around defined (chains_of x) walk.chain)
        (copies_of world head below (branches_in defined seen.span))
    other_tree some kind =
        ap (λ branches. through world (around defined (chains_of x) walk.chain)
        (copies world (with_scope_names world head below) (copied world below) branches))
        (sym (next.first.branches next.other).are)
        ∙ other_by (branches_in defined seen.span) (many some) kind

    -- its copies are left, for its branches
    pub other_left : (y : Copying) (all : List PlanNode) → 0 < seen.span.count → is_map_node head.kind ≡ false
        → y.made ≡ x.made → y.chains ≡ x.chains
        → y.left.items ≡ x.left.items ++ works.Copies (copies_left walk seen walk.parent) ∷ []
        → Going world source defined x (put walk.parent (first_copied world defined x walk head below) x.made.items) all
        → Going world source defined y y.made.items all
    other_left y all some other made chains put_too going =
        none_made y walk.parent NoNodes all refl
        (one_left x y (works.Copies (copies_left walk seen walk.parent))
        (first_copied world defined x walk head below) NoNodes
        (through world (around defined (chains_of x) walk.chain)
        (copies_of world head below (branches_in defined seen.span))) all (other_tree some other)
        (copies_make walk.parent) made chains put_too going)
