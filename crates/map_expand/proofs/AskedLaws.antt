-- What an element asks for is what it includes.
use Rattle.std.specs.Prelude.{◌≡◌, ◌&&◌, ◌||◌, ◌^◌, ◌<◌, ◌≤◌, ℕ, Bool, true, false, not, List, [], ◌∷◌, ◌++◌, Option, Some, None, codes, is_some, length, unwrap_or, if◌then◌else◌}
use Rattle.std.proofs.Common.{refl, sym, ap, ◌∙◌, arith, subst, length-append}
use Rattle.std.proofs.lemmas.Option.{same_Some}
use Rattle.dita_doc.specs.declared.doc.Node as doc
use Rattle.dita_doc.specs.declared.fault.Fault.{Fault}
use Rattle.dita_doc.specs.declared.plan.PlanKind.{PlanKind}
use Rattle.dita_doc.specs.declared.plan.PlanKind.TheVariants as kinds
use Rattle.dita_doc.specs.declared.plan.PlanNode.{PlanNode}
use Rattle.doc_elements.specs.Walk.{element_of}
use Rattle.map_spec.specs.Elements.{attribute, has_value}
use Rattle.map_spec.specs.Included.{MapAround, ignored_references, includes_map, is_reference, is_table, new_head, submap_named}
use Rattle.map_spec.specs.MapTree.{Grown, beneath, beside, count, node_of, with_faults}
use Rattle.map_spec.specs.Target.{Named, Document, Elsewhere, Unreadable, named_of}
use Rattle.map_spec.specs.Written.{Element}
use Rattle.reader_spec.specs.World.{World}
use Rattle.targets.specs.Named.{named_shown}
use Rattle.map_expand.specs.Asking.{IsAsked}
use Rattle.map_expand.specs.Below.{below}
use Rattle.map_expand.specs.Homes.{AreSiblings, Home, IsFirst, IsNodeOf, home_at}
use Rattle.map_expand.specs.Including.{grow_at, submap_for}
use Rattle.map_expand.specs.Left as measure
use Rattle.map_expand.specs.Left.{steps_left}
use Rattle.map_expand.specs.Making.{after, around_of, grown_of, made_of, node_grown, path_of, put, submap_at}
use Rattle.readers.specs.Told.{Told}
use Rattle.map_expand.specs.Telling.{IsTold, MayFind}
use Rattle.map_expand.proofs.TellingLaws.{has_kind, may_name}
use Rattle.map_expand.specs.declared.node.Inclusion.{Inclusion}
use Rattle.map_expand.specs.declared.work.Walk.{Walk}
use Rattle.map_expand.specs.declared.work.Work.{Work}
use Rattle.map_expand.specs.declared.work.Work.TheVariants as works
use Rattle.map_expand.proofs.LeftLaws.{steps_left_push}
use Rattle.map_expand.proofs.MakingLaws.{path_both, put_beside}
use Rattle.map_expand.proofs.MakeLaws.{made_alone, made_including, node_put, walk_left}

pub same_element : (home : Home) (walk : Walk) (name : List ℕ) (first node : doc.Node) → IsFirst home walk name first
    → IsNodeOf home walk node → element_of name first ≡ element_of home.name node
same_element home walk name first node is here =
    ap (λ n. element_of n first) is.named ∙ ap (element_of home.name) (same_Some first node (sym is.here ∙ here))

-- By tests

no_href : (a b c : Bool) (href : Option (List ℕ)) → (if a && b && c then href else None) ≡ None
    → (a && b && c && is_some href) ≡ false
no_href false b c href e = refl
no_href true false c href e = refl
no_href true true false href e = refl
no_href true true true None e = refl
no_href true true true (Some h) e = cc

one_href : (a b c : Bool) (href : Option (List ℕ)) (h : List ℕ) → (if a && b && c then href else None) ≡ Some h
    → (a ≡ true) × (href ≡ Some h) × ((a && b && c && is_some href) ≡ true) × (c ≡ true)
one_href false b c href h e = cc
one_href true false c href h e = cc
one_href true true false href h e = cc
one_href true true true None h e = cc
one_href true true true (Some x) h e = (refl, e, refl, refl)

no_table : (kind : PlanKind) → is_reference kind ≡ true → is_table kind ≡ false
no_table kinds.Reference is = refl
no_table kinds.RelTable is = sym is
no_table _ is = refl

module _ (kind : PlanKind) (around : MapAround) (element : Element) where
  pub asks_nothing : IsAsked kind around.in_table element None → includes_map kind around element ≡ false
  asks_nothing is = no_href (is_reference kind) (not around.in_table) (has_value (codes "format") (codes "ditamap") element)
      (attribute (codes "href") element) is

  pub asks_one : (asked : Inclusion) → IsAsked kind around.in_table element (Some asked)
      → (is_reference kind ≡ true) × (attribute (codes "href") element ≡ Some asked.href)
      × (includes_map kind around element ≡ true)
      × (has_value (codes "format") (codes "ditamap") element ≡ true)
  asks_one asked is = one_href (is_reference kind) (not around.in_table)
      (has_value (codes "format") (codes "ditamap") element) (attribute (codes "href") element) asked.href is.0

submap_asked : (world : World) (path : List (List ℕ)) (level : ℕ) (element : Element) (href : List ℕ) (named : Named)
    → attribute (codes "href") element ≡ Some href → named ≡ named_of element href
    → submap_at world path level element ≡ submap_for world path level element href named
submap_asked world path level element href named is shown =
    ap (λ o. submap_named (grow_at world path level) world path element (unwrap_or o []) (named_of element (unwrap_or o []))) is
    ∙ ap (λ n. submap_named (grow_at world path level) world path element href n) (sym shown)

-- The node of an element is made

some_if : (test : Bool) (one other : Grown) → 0 < count one.tree → 0 < count other.tree
    → 0 < count ((if test then one else other).tree)
some_if true one other first second = first
some_if false one other first second = second

pub some_made : (world : World) (path : List (List ℕ)) (home : Home) (walk : Walk) (kind : PlanKind) (element : Element)
    (end : ℕ) → 0 < count (node_grown world path home walk kind element end).tree
some_made world path home walk kind element end =
    some_if (includes_map kind (around_of walk) element) _ _ (omega arith) (omega arith)

pub made_less : (nodes new : List PlanNode) (node : PlanNode) (left now : List Work) (walk : Walk)
    → length nodes < 65536 → new ≡ nodes ++ node ∷ [] → now ≡ left ++ works.Walk walk ∷ [] → walk.end < 2 ^ 32
    → measure.left new now ≤ measure.left nodes left
made_less nodes new node left now walk room made is fits = omega (
  arith,
  ap (λ l. length l) made,
  length-append nodes (node ∷ []),
  ap steps_left is,
  steps_left_push left (works.Walk walk),
)

module _ (world : World) (homes : List Home) (left now : List Work) (walk : Walk) (end place : ℕ) (element : Element)
    (nodes new : List PlanNode) (faults others : List Fault) (begins : place ≡ length nodes)
    (added : others ≡ faults ++ ignored_references element) where
  -- it includes nothing
  pub made_without : (kind : PlanKind) → new ≡ nodes ++ node_of (new_head kind element walk.level walk.place) walk.parent 0 ∷ []
      → now ≡ left ++ works.Walk (below walk end place kind) ∷ [] → IsAsked kind walk.in_table element None
      → after world homes [] now (made_of new others)
      ≡ after world homes [] left
      (put walk.parent (node_grown world (path_of homes left) (home_at homes walk.map) walk kind element end) (made_of nodes faults))
  made_without kind made is asked =
      let path = path_of homes left in
      let home = home_at homes walk.map in
      let inner : Grown = grown_of world path home (below walk end place kind) in
      walk_left world homes left now (below walk end place kind) (made_of new others) is
      ∙ ap (after world homes [] left)
      (node_put walk.parent place (new_head kind element walk.level walk.place) faults (ignored_references element) others inner nodes
      new begins made added)
      ∙ ap (λ g. after world homes [] left (put walk.parent g (made_of nodes faults)))
      (made_alone (submap_at world path walk.level) kind (around_of walk) walk.place element inner
      (asks_nothing kind (around_of walk) element asked))

  -- it includes a map, which comes before what it holds
  pub made_with : (kind : PlanKind) (asked : Inclusion)
      → new ≡ nodes ++ node_of (new_head kinds.Included element walk.level walk.place) walk.parent 0 ∷ []
      → now ≡ left ++ works.Walk (below walk end place kinds.Included) ∷ [] → IsAsked kind walk.in_table element (Some asked)
      → after world homes [] now
      (put place (submap_for world (path_of homes now) walk.level element asked.href (named_shown asked.named)) (made_of new others))
      ≡ after world homes [] left
      (put walk.parent (node_grown world (path_of homes left) (home_at homes walk.map) walk kind element end) (made_of nodes faults))
  made_with kind asked made is asks =
      let path = path_of homes left in
      let home = home_at homes walk.map in
      let one = asks_one kind (around_of walk) element asked asks in
      let walked = below walk end place kinds.Included in
      let inner : Grown = grown_of world path home (below walk end place kind) in
      let within : grown_of world path home walked ≡ inner =
      ap (λ b. grown_of world path home (record (below walk end place kind) { in_table = walk.in_table || b })) (sym (no_table kind one.0)) in
      let path_is : path_of homes now ≡ path = ap (path_of homes) is ∙ path_both homes [] left (works.Walk walked ∷ []) in
      let sub : Grown = submap_for world path walk.level element asked.href (named_shown asked.named) in
      ap (λ p. after world homes [] now
      (put place (submap_for world p walk.level element asked.href (named_shown asked.named)) (made_of new others))) path_is
      ∙ walk_left world homes left now walked (put place sub (made_of new others)) is
      ∙ ap (λ g. after world homes [] left (put place g (put place sub (made_of new others)))) within
      ∙ ap (after world homes [] left) (sym (put_beside place sub inner (made_of new others)))
      ∙ ap (after world homes [] left)
      (node_put walk.parent place (new_head kinds.Included element walk.level walk.place) faults (ignored_references element) others
      (beside sub inner) nodes new begins made added)
      ∙ ap (λ s. after world homes [] left (put walk.parent (with_faults (ignored_references element)
      (beneath (new_head kinds.Included element walk.level walk.place) (beside s inner))) (made_of nodes faults)))
      (sym (submap_asked world path walk.level element asked.href (named_shown asked.named) one.1 asks.1))
      ∙ ap (λ g. after world homes [] left (put walk.parent g (made_of nodes faults)))
      (made_including (submap_at world path walk.level) kind (around_of walk) walk.place element inner one.2)

-- what it asks for may be asked about
pub may_find : (told : List Told) (home : Home) (walk : Walk) (end : ℕ) (kind : PlanKind) (name : List ℕ) (first : doc.Node)
    (asked : Inclusion) → IsTold told home → AreSiblings home walk.place end → walk.place < end → IsFirst home walk name first
    → IsAsked kind walk.in_table (element_of name first) (Some asked) → MayFind told (named_shown asked.named)
may_find told home walk end kind name first asked is fits some begins asks = by_named (named_shown asked.named) refl
  where
    by_named : (named : Named) → named_shown asked.named ≡ named → MayFind told named
    by_named (Document other) e =
        let named : element_of name first ≡ element_of home.name first = ap (λ n. element_of n first) begins.named in
        let here : IsAsked kind walk.in_table (element_of home.name first) (Some asked) =
        subst (λ x. IsAsked kind walk.in_table x (Some asked)) named asks in
        let one = asks_one kind (around_of walk) (element_of home.name first) asked here in
        may_name told home walk.place first asked.href other is begins.here
        (has_kind home walk.place end fits some first begins.here asked.href one.1) one.1 one.3 (sym here.1 ∙ e)
    by_named Elsewhere e = tt
    by_named Unreadable e = tt
