-- One step of the loops of the walk: over siblings, over the nodes of a range, and over the ranges behind targets.
use Rattle.std.specs.Prelude.{◌≡◌, ◌+◌, ◌-◌, ◌<◌, ◌≤◌, ℕ, Bool, true, List, [], None, Some, Result, Ok, Err, IsErrAnd, drop, get_or, length, slice_get, suc}
use Rattle.std.specs.Arc.{arc_value}
use Rattle.std.proofs.Common.{refl, sym, ap, subst, ◌∙◌}
use Rattle.dita_doc.specs.Siblings.{content, doc_of_siblings}
use Rattle.dita_doc.specs.Tree.{Content, Element, tree_of}
use Rattle.dita_doc.specs.declared.doc.Doc.{Doc}
use Rattle.dita_doc.specs.declared.doc.Node.{Node}
use Rattle.dita_doc.specs.declared.siblings.Siblings.{Siblings}
use Rattle.dita_doc.specs.declared.stop.Stop.{Stop}
use Rattle.conref_spec.specs.Content.{ContentAround, Made, Place, declared_there}
use Rattle.reader_spec.specs.World.{World}
use Rattle.readers.specs.Founded.{AreAmong}
use Rattle.readers.specs.Named.{under_names, reused_in}
use Rattle.readers.specs.Setting.{Stand}
use Rattle.conref_targets.specs.Asking.{element_around, reused_of_node}
use Rattle.conref_targets.specs.Origin.{named_content}
use Rattle.conref_targets.specs.Parts.{AreSiblingsAt, has_first, first_alone}
use Rattle.conref_targets.specs.declared.tables.PlaceTables.{PlaceTables}
use Rattle.conref_pull.specs.Linked.{AreLinks, IsLink}
use Rattle.conref_pull.specs.State.{IsSamePage, path_within}
use Rattle.conref_pull.specs.Step.{Taken}
use Rattle.conref_pull.specs.Walking.{Here, IsReady, IsWalked, Walks, among_made, ranges_put, whole_made}
use Rattle.conref_pull.specs.declared.chain.TakenTarget.{TakenTarget}
use Rattle.conref_pull.specs.declared.resolver.Resolver.{Resolver}
use Rattle.conref_pull.specs.declared.resolver.TooMany.{TooMany}
pub use Rattle.std.proofs.lemmas.List.{drop_all}
use Rattle.conref_targets.proofs.OriginLaws.{among_then, first_among, rest_among, split_is}
pub use Rattle.conref_pull.proofs.LinkLaws.{given_links, links_are}
pub use Rattle.conref_pull.proofs.NodeLaws.{node_none, some_node}
use Rattle.conref_pull.proofs.SiblingLaws.{element_next, element_stops}
use Rattle.conref_pull.proofs.SpanLaws.{Behind, Left, Nearest, behind_all, behind_begins, behind_none, behind_ready, behind_step, behind_stop, left_missing, left_none, left_some, left_step, left_stop, nearest, next_link, range_begins, steps_left, there}
pub use Rattle.conref_pull.proofs.SizeLaws.{element_smaller, siblings_smaller}
use Rattle.conref_pull.proofs.WalkLaws.{SoFar, ready_after, walks_err}
pub use Rattle.conref_pull.proofs.WalkLaws.{seen_as}

-- An element, and the siblings behind it

-- these are the first of siblings, what it holds, and those behind it
pub record Splits (left : Siblings) (node : Node) (inside rest : Siblings) : Type 0 where
  pub is : content left ≡ Element node.text node.attributes node.origin node.line (content inside) (content rest)
  pub held : doc_of_siblings inside ≡ doc_of_siblings left
  pub behind : doc_of_siblings rest ≡ doc_of_siblings left

pub splits : (left : Siblings) (node : Node) (inside rest : Siblings)
    → content left ≡ Element node.text node.attributes node.origin node.line (content inside) (content rest)
    → (doc_of_siblings inside ≡ doc_of_siblings left) × (doc_of_siblings rest ≡ doc_of_siblings left)
    → Splits left node inside rest
splits left node inside rest is same = record { is = is; held = same.0; behind = same.1 }

module _ {left : Siblings} {node : Node} {inside rest : Siblings} {names : List (List ℕ)}
    (split : Splits left node inside rest) (within : AreAmong (reused_in (named_content left)) names) where
  pub first_within : AreAmong (reused_of_node inside node) names
  first_within = among_then (reused_of_node inside node) (reused_in (named_content left)) names
      (first_among left node inside rest split.is split.held split.behind) within

  pub rest_within : AreAmong (reused_in (named_content rest)) names
  rest_within = among_then (reused_in (named_content rest)) (reused_in (named_content left)) names
      (rest_among left node inside rest split.is split.held split.behind) within

module _ {world : World} {stand later : Stand} {links : ℕ} {here : Here} {all : Made} {a b : Resolver}
    {places between : PlaceTables} {left : Siblings} {node : Node} {inside rest : Siblings} (is_range : Bool)
    (around : ContentAround) (place : ℕ) (split : Splits left node inside rest)
    (there : slice_get (doc_of_siblings left).nodes place ≡ Some node)
    (ready : IsReady world stand links here a places) (same : IsSamePage a b) (stands : later ≡ stand)
    (before : SoFar here.setting.pushed links (among_made here is_range around
    (named_content left)) all a b between) where
  there_too : slice_get (doc_of_siblings inside).nodes place ≡ Some node
  there_too = ap (λ (d : Doc). slice_get d.nodes place) split.held ∙ there

  ready_next : IsReady world later links here b between
  ready_next = ready_after world stand later links here before.made a b places between ready same stands before.walked

  pub sibling_next : (c : Resolver) (after : PlaceTables)
      → (IsReady world later links here b between → slice_get (doc_of_siblings inside).nodes place ≡ Some node
      → IsWalked here.setting.pushed links
      (whole_made here is_range around (element_around inside node) (named_content inside)) b c after)
      → SoFar here.setting.pushed links (among_made here is_range around (named_content rest)) all a c after
  sibling_next c after walked = element_next here links is_range around (named_content left) all a b between before
      (element_around inside node) (named_content inside) (named_content rest) c after
      (split_is left node inside rest split.is split.held split.behind) (walked ready_next there_too)

  pub sibling_stops : (result : Result (Unit {0}) (Stop TooMany)) (stop : Stop TooMany) (c : Resolver)
      (after : PlaceTables) → IsErrAnd result (λ e. e ≡ stop)
      → (IsReady world later links here b between → slice_get (doc_of_siblings inside).nodes place ≡ Some node
      → Walks (Err stop) here.setting.pushed links
      (whole_made here is_range around (element_around inside node) (named_content inside)) b c after)
      → Walks result here.setting.pushed links all a c after
  sibling_stops result stop c after ended walked = walks_err result stop here.setting.pushed links all a c after ended
      (element_stops here links is_range around (named_content left) all a b between before stop
      (element_around inside node) (named_content inside) (named_content rest) c after
      (split_is left node inside rest split.is split.held split.behind) (walked ready_next there_too))

-- A node of a range, which is resolved in a document that is the same

pub range_ready : {world : World} {stand : Stand} {links : ℕ} {here : Here} {link : TakenTarget} {one : Taken}
    {a : Resolver}
    {places : PlaceTables} (is_range : Bool) (around : ContentAround) → IsReady world stand links here a places
    → IsLink link one
    → Left (arc_value link.doc) here links is_range around link.to (among_made here is_range around one.range) a a places
    link.from link.from
range_ready {links = links} {here = here} {link = link} {one = one} {a = a} {places = places} is_range around ready is =
    range_begins (arc_value link.doc) link one here links is_range around a places refl is ready.room ready.within
    ready.tables

module _ {doc : Doc} {here : Here} {links : ℕ} {is_range : Bool} {around : ContentAround} {to : ℕ} {all : Made}
    {a b : Resolver} {places : PlaceTables} {place counter : ℕ}
    (left : Left doc here links is_range around to all a b places place counter) where
  pub range_ends : to ≤ place → IsWalked here.setting.pushed links all a b places
  range_ends none = left_none doc here links is_range around to all a b places place counter left none

  -- a node of a document that is the same is there
  pub range_goes_on : {other : Doc} → other ≡ doc → place < to → None ≡ slice_get other.nodes place → ⊥
  range_goes_on alike within none = left_missing doc here links is_range around to all a b places place counter left
      within (ap (λ (d : Doc). slice_get d.nodes place) (sym alike) ∙ sym none)

module _ {world : World} {stand later : Stand} {links : ℕ} {here : Here} {is_range : Bool} {around : ContentAround}
    {doc other node-of : Doc} {to : ℕ} {all : Made} {a b : Resolver} {places between : PlaceTables}
    {place counter : ℕ} {node : Node} (alike : other ≡ doc) (there-too : node-of ≡ doc)
    (ready : IsReady world stand links here a places) (same : IsSamePage a b) (stands : later ≡ stand)
    (within : place < to) (is : Some node ≡ slice_get node-of.nodes place)
    (left : Left doc here links is_range around to all a b between place counter) where
  node_is : slice_get doc.nodes place ≡ Some node
  node_is = ap (λ (d : Doc). slice_get d.nodes place) (sym there-too) ∙ sym is

  first_walks : (result : Result (Unit {0}) (Stop TooMany)) (c : Resolver) (after : PlaceTables)
      → ((part : Content) → IsReady world later links here b between → AreSiblingsAt (tree_of other.nodes) place part
      → has_first part ≡ true → Walks result here.setting.pushed links
      (among_made here is_range around (first_alone (under_names other.origins part))) b c after)
      → Walks result here.setting.pushed links
      (among_made here is_range around (first_alone (under_names doc.origins left.rest))) b c after
  first_walks result c after walked = subst (λ (d : Doc). AreSiblingsAt (tree_of d.nodes) place left.rest
      → Walks result here.setting.pushed links
      (among_made here is_range around (first_alone (under_names d.origins left.rest))) b c after) alike
      (λ part. walked left.rest
      (ready_after world stand later links here left.so_far.made a b places between ready same stands
      left.so_far.walked)
      part (left_some doc here links is_range around to all a b between place counter left within)) left.there

  pub node_next : (c : Resolver) (after : PlaceTables)
      → ((part : Content) → IsReady world later links here b between → AreSiblingsAt (tree_of other.nodes) place part
      → has_first part ≡ true → IsWalked here.setting.pushed links
      (among_made here is_range around (first_alone (under_names other.origins part))) b c after)
      → Left doc here links is_range around to all a c after node.end (counter + 1)
  node_next c after walked = left_step doc here links is_range around to all a b c between after place counter node left
      within node_is (first_walks (Ok tt) c after walked)

  pub node_stops : (result : Result (Unit {0}) (Stop TooMany)) (stop : Stop TooMany) (c : Resolver)
      (after : PlaceTables)
      → IsErrAnd result (λ e. e ≡ stop)
      → ((part : Content) → IsReady world later links here b between → AreSiblingsAt (tree_of other.nodes) place part
      → has_first part ≡ true → Walks (Err stop) here.setting.pushed links
      (among_made here is_range around (first_alone (under_names other.origins part))) b c after)
      → Walks result here.setting.pushed links all a c after
  node_stops result stop c after ended walked = walks_err result stop here.setting.pushed links all a c after ended
      (left_stop doc here links is_range around to stop all a b c between after place counter node left within node_is
      (first_walks (Err stop) c after walked))

-- The range behind a target

pub ranges_ready : {world : World} {stand : Stand} {links end : ℕ} {here : Here} {path : List Place}
    {items some : List TakenTarget} {a : Resolver} {places : PlaceTables} (around : ContentAround) (taken : List Taken)
    → IsReady world stand links here a places → items ≡ some → AreLinks path end taken some → end ≡ links + length taken
    → path ≡ path_within a end → end ≤ length a.path.items → end ≤ 32
    → Behind here links around path items (ranges_put here around taken) a a places end 0
ranges_ready {links = links} {end = end} {here = here} {path = path} {items = items} {a = a} {places = places} around
    taken ready is linked count same far limit =
    behind_begins here links end around path items taken a places (links_are path end taken is linked) count same far
    limit ready.room ready.tables

module _ {here : Here} {links : ℕ} {around : ContentAround} {path : List Place} {items : List TakenTarget} {all : Made}
    {a b : Resolver} {places : PlaceTables} {count index : ℕ}
    (left : Behind here links around path items all a b places count index) where
  pub ranges_end : count ≤ links → IsWalked here.setting.pushed links all a b places
  ranges_end none = behind_none here links around path items all a b places count index left none

  pub ranges_over : drop index items ≡ [] → IsWalked here.setting.pushed links all a b places
  ranges_over none = behind_all here links around path items all a b places count index left none

module _ {world : World} {stand later : Stand} {links : ℕ} {here : Here} {around : ContentAround} {path : List Place}
    {items : List TakenTarget} {all : Made} {a b : Resolver} {places between : PlaceTables} {count index : ℕ}
    {link : TakenTarget}
    (ready : IsReady world stand links here a places) (same : IsSamePage a b) (stands : later ≡ stand)
    (some : links < count) (within : index < length items) (is : link ≡ get_or items index link)
    (left : Behind here links around path items all a b between count index) where
  less : (steps : ℕ) × (here.steps ≡ suc steps)
  less = steps_left here.steps links count ready.steps some left.limit

  near : Nearest here links around path link count left.taken (drop (index + 1) items)
  near = nearest here links around path items all a b between count index link left
      (next_link items index link within is)

  range_walks : (result : Result (Unit {0}) (Stop TooMany)) (c : Resolver) (after : PlaceTables)
      → ((at : Here) (one : Taken) → IsReady world later count at b between → IsLink link one
      → Walks result at.setting.pushed count (among_made at true (declared_there link.declared around) one.range) b c
      after)
      → Walks result here.setting.pushed count (among_made (there here links around path less.0 count) true
      (declared_there near.one.around around) near.one.range) b c after
  range_walks result c after walked = subst (λ (names : List (List ℕ)). Walks result here.setting.pushed count
      (among_made (there here links around path less.0 count) true (declared_there names around) near.one.range) b c
      after) near.is.declared
      (walked (there here links around path less.0 count) near.one
      (behind_ready here links around path world later items all a b between count index less.0 left
      (ready_after world stand later links here left.so_far.made a b places between ready same stands
      left.so_far.walked) less.1 some) near.is)

  pub range_next : (c : Resolver) (after : PlaceTables)
      → ((at : Here) (one : Taken) → IsReady world later count at b between → IsLink link one
      → IsWalked at.setting.pushed count (among_made at true (declared_there link.declared around) one.range) b c after)
      → Behind here links around path items all a c after (count - 1) (index + 1)
  range_next c after walked = behind_step here links around path items all a b c between after count index less.0 link
      left near less.1 some (range_walks (Ok tt) c after walked)

  pub range_stops : (result : Result (Unit {0}) (Stop TooMany)) (stop : Stop TooMany) (c : Resolver)
      (after : PlaceTables) → IsErrAnd result (λ e. e ≡ stop)
      → ((at : Here) (one : Taken) → IsReady world later count at b between → IsLink link one
      → Walks (Err stop) at.setting.pushed count (among_made at true (declared_there link.declared around) one.range) b c after)
      → Walks result here.setting.pushed links all a c after
  range_stops result stop c after ended walked = walks_err result stop here.setting.pushed links all a c after ended
      (behind_stop here links around path stop items all a b c between after count index less.0 link left near less.1
      some (range_walks (Err stop) c after walked))
