-- Copies of a node for its branches, one after the other.
use Rattle.std.specs.Prelude.{◌≡◌, ◌+◌, ◌-◌, ◌<◌, ◌≤◌, ◌++◌, ◌&&◌, ◌||◌, ℕ, zero, suc, Bool, true, false, not, List, [], ◌∷◌, Option, Some, None, drop, length, option_map, slice_get, take, if◌then◌else◌, Vec}
use Rattle.std.specs.declared.alloc.Global.{Global}
use Rattle.std.specs.Option.{option_map_or, option_to_list}
use Rattle.std.proofs.Common.{refl, sym, ap, subst, ◌∙◌, arith, length-append}
use Rattle.dita_doc.specs.declared.plan.PlanKind.TheVariants as kinds
use Rattle.dita_doc.specs.declared.plan.PlanNode.{PlanNode}
use Rattle.ditaval_rules.specs.declared.rules.RulesRead.{RulesRead}
use Rattle.map_spec.specs.Branches as branches
use Rattle.map_spec.specs.Branches.{copied, is_map_node, names_in_copy, scope_names_of, with_scope_names}
use Rattle.map_spec.specs.Judged.{is_excluded}
use Rattle.map_spec.specs.MapTree.{Head, MapTree, MapNode, NoNodes, count, node_of, trees_beside}
use Rattle.reader_spec.specs.World.{World}
use Rattle.branch_copies.specs.Chained.{chain_at, shown}
use Rattle.branch_copies.specs.Going.{Going, IsTop, chains_of, top_copied}
use Rattle.branch_copies.specs.Leaves.{CopiesMake, Leaves, WalkMakes, around, chain_in, chosen, copies_of, copy_of, put}
use Rattle.branch_copies.specs.Marks.{copied_node, group_of, top_node}
use Rattle.branch_copies.specs.Read.{IsRead}
use Rattle.branch_copies.specs.Originals.{IsSource, excludes_at, excludes_top_at}
use Rattle.branch_copies.specs.Stands.{is_map_at}
use Rattle.branch_copies.specs.Through.{excluded_by, marked_by, through}
use Rattle.branch_copies.specs.declared.branch.Branch.{Branch}
use Rattle.branch_copies.specs.declared.copying.Copying.{Copying}
use Rattle.branch_copies.specs.declared.node.Originals.{Originals}
use Rattle.branch_copies.specs.declared.work.Copies.{Copies}
use Rattle.branch_copies.specs.declared.work.Walk.{Walk}
use Rattle.branch_copies.specs.declared.work.Work.TheVariants as works
use Rattle.branch_copies.proofs.FirstLaws as firsts
use Rattle.branch_copies.proofs.LeavesLaws.{chain_put, chain_shown, leaves_still}
use Rattle.branch_copies.proofs.ReadLaws.{AtBoth, copied_is, excludes_is, read_at}
use Rattle.branch_copies.proofs.StepLaws.{none_made, node_made, one_left}
use Rattle.branch_copies.proofs.ThroughLaws.{through_beside, through_none}

pub shown_length : (chains : List (Vec ℕ Global)) → length (shown chains) ≡ length chains
shown_length [] = refl
shown_length (chain ∷ chains) = ap suc (shown_length chains)

-- the first of some items, and the others
pub record IsFirstOf {X : Type 0} (xs : List X) (first count : ℕ) : Type 0 where
  pub item : X
  pub here : slice_get xs first ≡ Some item
  pub is : take count (drop first xs) ≡ item ∷ take (count - 1) (drop (first + 1) xs)

first_of_all : {X : Type 0} (x : X) (xs : List X) (count : ℕ) → take (suc count) (x ∷ xs) ≡ x ∷ take (suc count - 1) xs
first_of_all x xs count = let same : count ≡ suc count - 1 = omega arith in ap (λ n. x ∷ take n xs) same

pub take_first : {X : Type 0} (xs : List X) (first count : ℕ) → 0 < count → first + count ≤ length xs
    → IsFirstOf xs first count
take_first [] first count some fits = absurd (omega (arith, some, fits))
take_first (x ∷ xs) zero zero some fits = absurd (omega (arith, some))
take_first (x ∷ xs) zero (suc count) some fits = record { item = x; here = refl; is = first_of_all x xs count }
take_first (x ∷ xs) (suc first) count some fits =
    let inner = take_first xs first count some (omega (arith, fits)) in
    let same : suc (first + 1) ≡ suc first + 1 = omega arith in
    record {
      item = inner.item;
      here = inner.here;
      is = inner.is ∙ ap (λ n. inner.item ∷ take (count - 1) (drop n (x ∷ xs))) same;
    }

module _ (world : World) (source : Originals) (defined : List branches.Branch) where
  -- none is left
  pub copies_done : (chains : List (List ℕ)) (copies : Copies) (tree : MapTree) → copies.count ≡ 0
      → CopiesMake world source defined chains copies tree → tree ≡ NoNodes
  copies_done chains copies tree none makes =
      makes.is
      ∙ ap (λ n. through world (around defined chains copies.chain)
      (copies_of world makes.head makes.below (take n (drop copies.branch defined)))) none
      ∙ through_none world (around defined chains copies.chain)

  abbrev one_of : (chains : List (List ℕ)) (copies : Copies) (tree : MapTree)
      → CopiesMake world source defined chains copies tree → branches.Branch → MapTree
  one_of chains copies tree makes branch = through world (around defined chains copies.chain)
      (copy_of world (with_scope_names world makes.head makes.below) (copied world makes.below) branch)

  pub record IsCopySplit (chains : List (List ℕ)) (copies : Copies) (tree : MapTree)
      (makes : CopiesMake world source defined chains copies tree) : Type 0 where
    pub branch : branches.Branch
    pub here : slice_get defined copies.branch ≡ Some branch
    pub rest : MapTree
    pub is : tree ≡ trees_beside (through world (around defined chains copies.chain)
        (copy_of world (with_scope_names world makes.head makes.below) (copied world makes.below) branch)) rest
    pub others : CopiesMake world source defined chains
        (record copies { branch = copies.branch + 1; count = copies.count - 1 }) rest

  pub copies_split : (chains : List (List ℕ)) (copies : Copies) (tree : MapTree)
      (makes : CopiesMake world source defined chains copies tree) → 0 < copies.count
      → IsCopySplit chains copies tree makes
  copies_split chains copies tree makes some =
      let first = take_first defined copies.branch copies.count some makes.fits in
      let chain = around defined chains copies.chain in
      let others : List branches.Branch = take (copies.count - 1) (drop (copies.branch + 1) defined) in
      record {
        branch = first.item;
        here = first.here;
        rest = through world chain (copies_of world makes.head makes.below others);
        is = makes.is
            ∙ ap (λ all. through world chain (copies_of world makes.head makes.below all)) first.is
            ∙ through_beside world chain
            (copy_of world (with_scope_names world makes.head makes.below) (copied world makes.below) first.item)
            (copies_of world makes.head makes.below others);
        others = record {
          above = makes.above;
          head = makes.head;
          below = makes.below;
          stands = makes.stands;
          have = makes.have;
          ends = makes.ends;
          fits = omega (arith, some, makes.fits);
          chain = makes.chain;
          stays = makes.stays;
          is = refl;
        };
      }

  -- What a branch excludes

  or_both : (a b : Bool) → b ≡ false → (a || b) ≡ (a || false)
  or_both true b is = refl
  or_both false b is = is

  not_and : (m e : Bool) → (not m && e) ≡ false → m ≡ false → e ≡ false
  not_and true e neither one = absurd (cc)
  not_and false e neither one = neither

  and_parts : (m e : Bool) → (not m && e) ≡ true → (m ≡ false) × (e ≡ true)
  and_parts true e is = absurd (cc)
  and_parts false e is = (refl, is)

  module _ (at branch above end : ℕ) (head : Head) (one : branches.Branch) (chain : List branches.Branch)
      (is : IsSource world source defined) (stands : slice_get source.nodes.now at ≡ Some (node_of head above end))
      (here : slice_get defined branch ≡ Some one) (stays : excluded_by world chain head ≡ false) where
    map_is : is_map_at source.nodes.now at ≡ is_map_node head.kind
    map_is = ap (λ node. option_map_or (λ (n : PlanNode). is_map_node n.kind) node false) stands

    one_is : excludes_at source at branch ≡ excluded_by world (one ∷ chain) head
    one_is =
        excludes_is world source defined above at end branch head is stands
        ∙ ap (λ o. excluded_by world (option_to_list o) head) here
        ∙ sym (or_both (is_excluded world one.filter.rules head) (excluded_by world chain head) stays)

    pub top_in : excludes_top_at source at branch ≡ false → is_map_node head.kind ≡ false
        → excluded_by world (one ∷ chain) head ≡ false
    top_in top kind =
        sym one_is ∙ not_and (is_map_at source.nodes.now at) (excludes_at source at branch) top (map_is ∙ kind)

    pub top_gone : excludes_top_at source at branch ≡ true
        → (is_map_node head.kind ≡ false) × (excluded_by world (one ∷ chain) head ≡ true)
    top_gone top =
        let parts = and_parts (is_map_at source.nodes.now at) (excludes_at source at branch) top in
        (sym map_is ∙ parts.0, sym one_is ∙ parts.1)

  -- the copies for the other branches are left
  pub others_left : (x y : Copying) (copies : Copies) (next : ℕ) (tree : MapTree) (all : List PlanNode)
      (makes : CopiesMake world source defined (chains_of x) copies tree)
      (split : IsCopySplit (chains_of x) copies tree makes) → next ≡ copies.branch + 1
      → y.made ≡ x.made → y.chains ≡ x.chains
      → y.left.items ≡ x.left.items ++ works.Copies (record copies { branch = next; count = copies.count - 1 }) ∷ []
      → Going world source defined x (put copies.parent tree x.made.items) all
      → Going world source defined y (put copies.parent (one_of
      (chains_of x) copies tree makes split.branch) y.made.items) all
  others_left x y copies next tree all makes split is made chains put_too going =
      one_left world source defined x y
      (works.Copies (record copies { branch = copies.branch + 1; count = copies.count - 1 })) tree
      (one_of (chains_of x) copies tree makes split.branch) split.rest all split.is split.others made chains
      (put_too ∙ ap (λ n. x.left.items
      ++ works.Copies (let c : Copies = record copies { branch = n; count = copies.count - 1 } in c) ∷ []) is)
      going

  -- the first is excluded
  pub one_excluded : (x y : Copying) (copies : Copies) (tree : MapTree) (all : List PlanNode)
      → IsSource world source defined → (makes : CopiesMake world source defined (chains_of x) copies tree)
      → (split : IsCopySplit (chains_of x) copies tree makes)
      → excludes_top_at source copies.at copies.branch ≡ true
      → Going world source defined y (put copies.parent (one_of
      (chains_of x) copies tree makes split.branch) y.made.items) all
      → Going world source defined y y.made.items all
  one_excluded x y copies tree all is makes split top going =
      let chain = around defined (chains_of x) copies.chain in
      let gone = top_gone copies.at copies.branch makes.above
      (copies.at + 1 + count makes.below) makes.head split.branch
      chain is makes.stands.0 split.here makes.stays top in
      none_made world source defined y copies.parent (one_of (chains_of x) copies tree makes split.branch) all
      (firsts.top_out world chain makes.head makes.below split.branch gone.0 gone.1) going

  -- or it is made next
  pub one_next : (x y : Copying) (copies : Copies) (tree : MapTree)
      (makes : CopiesMake world source defined (chains_of x) copies tree)
      (split : IsCopySplit (chains_of x) copies tree makes) → chains_of x ≡ chains_of y
      → excludes_top_at source copies.at copies.branch ≡ false
      → IsTop world source defined y copies makes.head makes.below split.branch
  one_next x y copies tree makes split chains top = record {
    above = makes.above;
    stands = makes.stands;
    have = makes.have;
    ends = makes.ends;
    here = split.here;
    chain = subst (λ cs. copies.chain < length cs) chains makes.chain;
    stays = subst (λ cs. excluded_by world (around defined cs copies.chain) makes.head ≡ false) chains makes.stays;
    top = top;
  }

  -- The top of a copy

  own_is : (read : List RulesRead) (nodes : List PlanNode) (found : Option Branch) (one : branches.Branch)
      → AtBoth read nodes found (Some one) → (own : Branch) × (found ≡ Some own) × IsRead read nodes own one
  own_is read nodes None one both = absurd both
  own_is read nodes (Some own) one both = (own, refl, both)

  pub record IsMade (x : Copying) (next : Copies) (head : Head) (below : MapTree) (branch : branches.Branch) (above : ℕ)
      : Type 0 where
    pub own : Branch
    pub here : slice_get source.branches.now next.branch ≡ Some own
    pub top : Head
    pub node : top_node source.nodes.now source.branches.now (next.branch ∷ chain_in (chains_of x) next.chain)
        (node_of head above (next.at + 1 + count below)) (scope_names_of world head below head.kind) next.parent own
        ≡ Some (node_of top next.parent 0)
    pub tree : top_copied world defined x next head below branch
        ≡ MapNode top (through world (branch ∷ around defined (chains_of x) next.chain) (copied world below)) NoNodes

  module _ (x : Copying) (next : Copies) (head : Head) (below : MapTree) (branch : branches.Branch)
      (is : IsSource world source defined) (top : IsTop world source defined x next head below branch) where
    pub chosen_is : chosen defined (next.branch ∷ chain_in (chains_of x) next.chain)
        ≡ branch ∷ around defined (chains_of x) next.chain
    chosen_is = ap (λ o. option_to_list o ++ around defined (chains_of x) next.chain) top.here

    marked_is : (own : Head) (above end : ℕ) (names : List (List ℕ))
        → copied_node source.branches.now (next.branch ∷ chain_in (chains_of x) next.chain)
        (node_of own above end) names
        next.parent
        ≡ node_of (marked_by (branch ∷ around defined (chains_of x) next.chain) (record own { scope_names = names }))
        next.parent 0
    marked_is own above end names =
        copied_is is.ditavals source.nodes.now source.branches.now defined
        (next.branch ∷ chain_in (chains_of x) next.chain) own above end next.parent names is.read
        ∙ ap (λ c. node_of (marked_by c (let named : Head = record own { scope_names = names } in named)) next.parent 0)
        chosen_is

    made_by : (is_map : Bool) → is_map_node head.kind ≡ is_map → IsMade x next head below branch top.above
    made_by true kind =
        let found = own_is is.ditavals source.nodes.now (slice_get source.branches.now next.branch) branch
        (subst (AtBoth is.ditavals source.nodes.now (slice_get source.branches.now next.branch)) top.here
        (read_at is.ditavals source.nodes.now source.branches.now defined next.branch is.read)) in
        let own : Branch = found.0 in
        let read = found.2 in
        let names = names_in_copy own.keyscope [] in
        let chain : List ℕ = next.branch ∷ chain_in (chains_of x) next.chain in
        let node : PlanNode = node_of head top.above (next.at + 1 + count below) in
        let group : Head = record branch.head { kind = kinds.Group; level = head.level } in
        record {
          own = own;
          here = found.1;
          top = marked_by (branch ∷ around defined (chains_of x) next.chain)
              (record group { scope_names = names_in_copy branch.keyscope [] });
          node = ap (λ b. if b
              then option_map (λ (ditavalref : PlanNode).
              copied_node source.branches.now chain (group_of node ditavalref) names next.parent)
              (slice_get source.nodes.now own.place)
              else Some (copied_node source.branches.now chain node
              (names_in_copy own.keyscope (scope_names_of world head below head.kind)) next.parent)) kind
              ∙ ap (option_map (λ (ditavalref : PlanNode).
              copied_node source.branches.now chain (group_of node ditavalref) names next.parent)) read.here
              ∙ ap Some (marked_is group read.parent read.end names)
              ∙ ap (λ affix. Some (node_of (marked_by (branch ∷ around defined (chains_of x) next.chain)
              (let h : Head = record group { scope_names = names_in_copy affix [] } in h)) next.parent 0)) read.keyscope;
          tree = firsts.top_group world (around defined (chains_of x) next.chain) head below branch kind;
        }
    made_by false kind =
        let found = own_is is.ditavals source.nodes.now (slice_get source.branches.now next.branch) branch
        (subst (AtBoth is.ditavals source.nodes.now (slice_get source.branches.now next.branch)) top.here
        (read_at is.ditavals source.nodes.now source.branches.now defined next.branch is.read)) in
        let own : Branch = found.0 in
        let read = found.2 in
        let scope = scope_names_of world head below head.kind in
        let chain : List ℕ = next.branch ∷ chain_in (chains_of x) next.chain in
        let node : PlanNode = node_of head top.above (next.at + 1 + count below) in
        record {
          own = own;
          here = found.1;
          top = marked_by (branch ∷ around defined (chains_of x) next.chain)
              (record head { scope_names = names_in_copy branch.keyscope scope });
          node = ap (λ b. if b
              then option_map (λ (ditavalref : PlanNode).
              copied_node source.branches.now chain (group_of node ditavalref)
              (names_in_copy own.keyscope []) next.parent)
              (slice_get source.nodes.now own.place)
              else Some (copied_node source.branches.now chain node
              (names_in_copy own.keyscope scope) next.parent)) kind
              ∙ ap Some (marked_is head top.above (next.at + 1 + count below) (names_in_copy own.keyscope scope))
              ∙ ap (λ affix. Some (node_of (marked_by (branch ∷ around defined (chains_of x) next.chain)
              (let h : Head = record head { scope_names = names_in_copy affix scope } in h)) next.parent 0)) read.keyscope;
          tree = firsts.top_copy world (around defined (chains_of x) next.chain) head below branch kind
              (top_in next.at next.branch top.above (next.at + 1 + count below) head branch
              (around defined (chains_of x) next.chain) is top.stands.0 top.here top.stays top.top kind);
        }

    pub top_made : IsMade x next head below branch top.above
    top_made = made_by (is_map_node head.kind) refl

    pub chains_put : (new : List (Vec ℕ Global))
        → shown new ≡ chains_of x ++ (next.branch ∷ chain_at x.chains.chains.items next.chain) ∷ []
        → shown new ≡ chains_of x ++ (next.branch ∷ chain_in (chains_of x) next.chain) ∷ []
    chains_put new put_too =
        put_too ∙ ap (λ ids. chains_of x ++ (next.branch ∷ ids) ∷ []) (chain_shown x.chains.chains.items next.chain)

    pub copy_is : (new : List (Vec ℕ Global)) (ids : List ℕ) (place : ℕ) (found : Option PlanNode)
        (made : IsMade x next head below branch top.above) → place ≡ length x.chains.chains.items
        → shown new ≡ chains_of x ++ (next.branch ∷ chain_at x.chains.chains.items next.chain) ∷ []
        → ids ≡ chain_at new place
        → ((node : PlanNode) (names : List (List ℕ)) (own : Branch) → slice_get source.nodes.now next.at ≡ Some node
        → slice_get source.names.now next.at ≡ Some names → slice_get source.branches.now next.branch ≡ Some own
        → found ≡ top_node source.nodes.now source.branches.now ids node names next.parent own)
        → found ≡ Some (node_of made.top next.parent 0)
    copy_is new ids place found made there put_too ids_are gives =
        let whole : List ℕ = next.branch ∷ chain_in (chains_of x) next.chain in
        let node : PlanNode = node_of head top.above (next.at + 1 + count below) in
        let names = scope_names_of world head below head.kind in
        let same : ids ≡ whole =
        ids_are ∙ chain_shown new place ∙ ap (λ cs. chain_in cs place) (chains_put new put_too)
        ∙ chain_put (chains_of x) whole place (there ∙ sym (shown_length x.chains.chains.items)) in
        gives node names made.own top.stands.0 (is.names top.above next.at head below NoNodes top.stands) made.here
        ∙ ap (λ chain. top_node source.nodes.now source.branches.now chain node names next.parent made.own) same
        ∙ made.node

    -- the nodes below it are left
    pub top_goes : (y : Copying) (node : PlanNode) (place at : ℕ) (all : List PlanNode)
        (made : IsMade x next head below branch top.above) → node ≡ node_of made.top next.parent 0
        → length x.made.items < 65536 → y.made.items ≡ x.made.items ++ node ∷ []
        → chains_of y ≡ chains_of x ++ (next.branch ∷ chain_in (chains_of x) next.chain) ∷ []
        → place ≡ length x.made.items → at ≡ length (chains_of x)
        → y.left.items ≡ x.left.items
        ++ works.Walk (record { at = next.at + 1; end = next.end; parent = place; chain = at }) ∷ []
        → Going world source defined x
        (put next.parent (top_copied world defined x next head below branch) x.made.items) all
        → Going world source defined y y.made.items all
    top_goes y node place at all made same room put_node chains under there left going =
        let walk : Walk = record { at = next.at + 1; end = next.end; parent = place; chain = at } in
        let ids : List ℕ = next.branch ∷ chain_in (chains_of x) next.chain in
        let inner = through world (branch ∷ around defined (chains_of x) next.chain) (copied world below) in
        let ids_are : chain_in (chains_of y) at ≡ ids =
        ap (λ cs. chain_in cs at) chains ∙ chain_put (chains_of x) ids at there in
        let around_is : branch ∷ around defined (chains_of x) next.chain ≡ around defined (chains_of y) at =
        sym chosen_is ∙ ap (chosen defined) (sym ids_are) in
        let within : at < length (chains_of y) =
        omega (arith, there, ap (λ cs. length cs) chains, length-append (chains_of x) (ids ∷ [])) in
        let makes : WalkMakes world source defined (chains_of y) walk inner = record {
          above = next.at;
          original = below;
          stands = top.stands.1;
          have = top.have;
          ends = top.ends;
          chain = within;
          is = ap (λ c. through world c (copied world below)) around_is;
        } in
        node_made world source defined x y next.parent (works.Walk walk)
        (top_copied world defined x next head below branch) inner made.top node all made.tree same makes under room put_node
        left
        (subst (λ cs. Leaves world source defined cs x.left.items
        (put next.parent (top_copied world defined x next head below branch) x.made.items) all) (sym chains)
        (leaves_still world source defined (chains_of x) (ids ∷ []) x.left.items
        (put next.parent (top_copied world defined x next head below branch) x.made.items) all going.leaves))
