-- Nodes that no rules exclude: those that filtering keeps, and the copies of branches.
use Rattle.std.specs.Prelude.{◌≡◌, ◌||◌, ℕ, Bool, true, false, List, [], Option, Some, None, codes, if◌then◌else◌}
use Rattle.std.specs.List.{list_any}
use Rattle.std.specs.Option.{option_map_or, option_to_list}
use Rattle.std.proofs.Common.{refl, ◌∙◌, ap}
use Rattle.std.proofs.lemmas.List.Folds.{list_any-append}
use Rattle.dita_doc.specs.declared.content.Rule.{Rule}
use Rattle.dita_doc.specs.declared.plan.PlanKind.TheVariants as kinds
use Rattle.dita_doc.proofs.Lists.{any_never}
use Rattle.ditaval_rules.specs.declared.rules.RulesRead.{RulesRead}
use Rattle.reader_spec.specs.World.{World}
use Rattle.map_spec.specs.Branches.{Branch, Filter, all_marked, copy_below, copy_for, ditaval_in, filter_by, filter_named, filter_of, filter_read, group_for, marked, names_in_copy}
use Rattle.map_spec.specs.Elements.{attribute}
use Rattle.map_spec.specs.Judged.{is_excluded, judged, kept}
use Rattle.map_spec.specs.MapTree.{Grown, Head, MapTree, NoNodes, MapNode, beside}
use Rattle.map_spec.specs.Target.{Named, Document, Elsewhere, Unreadable, named_of}
use Rattle.map_spec.specs.Written.{Element}
use Rattle.map_lemmas.proofs.HeadLaws.{AllHeads, heads_unless}

-- What rules leave

-- at one node: if it is so below it and behind it, what is judged and stays is what is kept
node_judged : (b : Bool) (head : Head) (inside others : Grown) (below more : MapTree) → inside.tree ≡ below
    → others.tree ≡ more
    → (if b then others
    else beside (record { tree = MapNode head inside.tree NoNodes; faults = inside.faults }) others).tree
    ≡ (if b then more else MapNode head below more)
node_judged true head inside others below more within behind = behind
node_judged false head inside others below more within behind =
    ap (λ tree. MapNode head tree others.tree) within ∙ ap (MapNode head below) behind

-- at all: the nodes that are judged and stay are those that are kept
pub judged_kept : (world : World) (rules : List Rule) (tree : MapTree)
    → (judged world rules tree).tree ≡ kept world rules tree
judged_kept world rules NoNodes = refl
judged_kept world rules (MapNode head below more) =
    node_judged (is_excluded world rules head) head (judged world rules below) (judged world rules more)
    (kept world rules below) (kept world rules more) (judged_kept world rules below) (judged_kept world rules more)

-- a node of which this holds, and that rules do not exclude
pub record IsLeft (P : Head → Type 0) (world : World) (rules : List Rule) (head : Head) : Type 0 where
  pub held : P head
  pub left : is_excluded world rules head ≡ false

-- rules leave nodes that they do not exclude
pub kept_left : (P : Head → Type 0) (world : World) (rules : List Rule) (tree : MapTree) → AllHeads P tree
    → AllHeads (IsLeft P world rules) (kept world rules tree)
kept_left P world rules NoNodes all = tt
kept_left P world rules (MapNode head below more) all =
    heads_unless (IsLeft P world rules) (is_excluded world rules head) (kept world rules more)
    (MapNode head (kept world rules below) (kept world rules more)) (kept_left P world rules more all.2)
    (λ left. (
      record { held = all.0; left = left },
      kept_left P world rules below all.1,
      kept_left P world rules more all.2,
    ))

-- The filters of a node

-- a DITAVAL excludes a node
abbrev pub is_excluded_in : World → Head → List ℕ → Bool
is_excluded_in world head name =
    option_map_or (λ (read : RulesRead). is_excluded world read.rules head) (ditaval_in world name) false

-- neither these rules nor those of a filter exclude a node
pub record IsKept (world : World) (rules : List Rule) (head : Head) : Type 0 where
  pub by_rules : is_excluded world rules head ≡ false
  pub by_filters : list_any (is_excluded_in world head) head.filters ≡ false

-- the rules of a filter are those of its DITAVAL
abbrev pub AreItsRules : World → Filter → Type 0
AreItsRules world own = (head : Head) → is_excluded world own.rules head ≡ false
    → list_any (is_excluded_in world head) (option_to_list own.name) ≡ false

-- of a DITAVAL that was looked for
rules_read : (world : World) (element : Element) (name : List ℕ) (found : Option RulesRead)
    → ditaval_in world name ≡ found → AreItsRules world (filter_read element name found)
rules_read world element name None is head left = refl
rules_read world element name (Some read) is head left =
    ap (λ found. option_map_or (λ (own : RulesRead). is_excluded world own.rules head) found false || false) is
    ∙ ap (λ b. b || false) left

-- of one that a reference names
rules_named : (world : World) (element : Element) (href : List ℕ) (named : Named)
    → AreItsRules world (filter_named world element href named)
rules_named world element href (Document name) head left =
    rules_read world element name (ditaval_in world name) refl head left
rules_named world element href Elsewhere head left = refl
rules_named world element href Unreadable head left = refl

-- of one that an href names
rules_by : (world : World) (element : Element) (href : Option (List ℕ))
    → AreItsRules world (filter_by world element href)
rules_by world element None head left = refl
rules_by world element (Some href) head left = rules_named world element href (named_of element href) head left

-- of one that a ditavalref names
pub rules_of_filter : (world : World) (element : Element) → AreItsRules world (filter_of world element)
rules_of_filter world element = rules_by world element (attribute (codes "href") element)

-- Copies

-- what no rules exclude, no filter excludes
kept_by_all : (world : World) (rules : List Rule) (head : Head)
    → ((own : List Rule) → is_excluded world own head ≡ false) → IsKept world rules head
kept_by_all world rules head left = record {
  by_rules = left rules;
  by_filters = any_never (is_excluded_in world head) (λ name. by_read (ditaval_in world name)) head.filters;
}
  where
    by_read : (found : Option RulesRead)
        → option_map_or (λ (read : RulesRead). is_excluded world read.rules head) found false ≡ false
    by_read None = refl
    by_read (Some read) = left read.rules

module _ (world : World) (rules : List Rule) (branch : Branch) (its : AreItsRules world branch.filter) where
  -- a node that a branch leaves is kept with the branch's filter
  marked_kept : (head : Head) → IsKept world rules head → is_excluded world branch.filter.rules head ≡ false
      → IsKept world rules (marked branch head)
  marked_kept head is left = record {
    by_rules = is.by_rules;
    by_filters = list_any-append (is_excluded_in world head) head.filters (option_to_list branch.filter.name)
        ∙ ap (λ b. b || list_any (is_excluded_in world head) (option_to_list branch.filter.name)) is.by_filters
        ∙ its head left;
  }

  -- so are all nodes that it leaves
  all_marked_kept : (tree : MapTree) → AllHeads (IsLeft (IsKept world rules) world branch.filter.rules) tree
      → AllHeads (IsKept world rules) (all_marked branch tree)
  all_marked_kept NoNodes all = tt
  all_marked_kept (MapNode head below more) all =
      (marked_kept head all.0.held all.0.left, all_marked_kept below all.1, all_marked_kept more all.2)

  -- and those below a copy
  below_kept : (below : MapTree) → AllHeads (IsKept world rules) below
      → AllHeads (IsKept world rules) (copy_below world branch below)
  below_kept below all = all_marked_kept (kept world branch.filter.rules below)
      (kept_left (IsKept world rules) world branch.filter.rules below all)

  -- a copy of a node
  pub copy_kept : (head : Head) (below : MapTree) → IsKept world rules head → AllHeads (IsKept world rules) below
      → AllHeads (IsKept world rules) (copy_for world head below branch)
  copy_kept head below is all =
      let top : Head = record (marked branch head) { scope_names = names_in_copy branch.keyscope head.scope_names } in
      heads_unless (IsKept world rules) (is_excluded world branch.filter.rules head) NoNodes
      (MapNode top (copy_below world branch below) NoNodes) tt
      (λ left.
      let own = marked_kept head is left in
      (record { by_rules = own.by_rules; by_filters = own.by_filters }, below_kept below all, tt))

  -- a group under a map: rules exclude none
  pub group_for_kept : (head : Head) (below : MapTree) → AllHeads (IsKept world rules) below
      → AllHeads (IsKept world rules) (group_for world head below branch)
  group_for_kept head below all =
      let group : Head = record (marked branch branch.head) {
        kind = kinds.Group;
        level = head.level;
        scope_names = names_in_copy branch.keyscope [];
      } in
      (kept_by_all world rules group (λ own. refl), below_kept below all, tt)
