-- What the first of the nodes of a walk makes.
use Rattle.std.specs.Prelude.{◌≡◌, ◌+◌, ◌-◌, ◌<◌, ◌≤◌, ℕ, Bool, true, false, List, Option, Some, None, length, take, drop, slice_get, if◌then◌else◌}
use Rattle.std.proofs.Common.{refl, sym, ap, ◌∙◌, arith, subst}
use Rattle.std.proofs.lemmas.Option.{same_Some}
use Rattle.dita_doc.specs.Tree.{ArePreorder}
use Rattle.dita_doc.specs.declared.doc.Node.{Node}
use Rattle.dita_doc.specs.declared.doc.NodeKind.TheVariants as kinds
use Rattle.dita_doc.specs.declared.plan.PlanKind.{PlanKind}
use Rattle.doc_elements.specs.Walk.{element_of}
use Rattle.map_spec.specs.Elements.{class_faults, is_transparent}
use Rattle.map_spec.specs.Included.{kind_of, nodes_by, nodes_of_element}
use Rattle.map_spec.specs.MapTree.{beside, with_faults}
use Rattle.map_spec.specs.Written.{Element, size}
use Rattle.reader_spec.specs.World.{World}
use Rattle.map_expand.specs.Homes.{AreSiblings, Home, content_between}
use Rattle.map_expand.specs.Makes.{made, makes_kind}
use Rattle.map_expand.specs.Making.{IsSeen, Makes, among, around_of, behind, content, grown_of, submap_at}
use Rattle.map_expand.specs.declared.element.Makes.TheVariants as makes
use Rattle.map_expand.specs.declared.work.Walk.{Walk}
use Rattle.map_expand.proofs.SiblingLaws.{AfterElement, after_chars, size_between}

none_inside : (home : Home) (place end : ℕ) → place ≤ end → end ≤ length home.nodes
    → AreSiblings home place place
none_inside home place end order within =
    let none : 0 ≡ place - place = omega arith in
    record {
      order = omega arith;
      within = omega arith;
      tree = subst (λ n. ArePreorder (take n (drop place home.nodes)) place) none refl;
    }

made_grown : (world : World) (path : List (List ℕ)) (home : Home) (walk : Walk) (end : ℕ) (element : Element)
    (transparent : Bool) (kind : Option PlanKind)
    → grown_of world path home walk
    ≡ beside (if transparent then with_faults (class_faults element) (grown_of world path home (content walk end))
    else nodes_by (submap_at world path walk.level) kind (around_of walk) walk.place element
    (λ around. among world path walk around (walk.place + 1) (content_between home (walk.place + 1) end)))
    (grown_of world path home (behind walk end))
    → Makes world path home walk end element (if transparent then makes.Content else makes_kind kind)
made_grown world path home walk end element true kind is = is
made_grown world path home walk end element false None is = is
made_grown world path home walk end element false (Some kind) is = is

module _ (home : Home) (walk : Walk) (node : Node) (end : ℕ) (what : makes.the_data)
    (fits : AreSiblings home walk.place walk.end) (some : walk.place < walk.end)
    (here : slice_get home.nodes walk.place ≡ Some node) where
  -- a text makes nothing
  pub seen_chars : node.kind ≡ kinds.Chars → end ≡ walk.place + 1 → what ≡ makes.Nothing → IsSeen home walk what end
  seen_chars kind is nothing =
      let after = after_chars home walk.place walk.end fits some node here kind in
      let back = after.behind in
      record {
        inside = subst (λ n. AreSiblings home (walk.place + 1) n) (sym is)
            (none_inside home (walk.place + 1) walk.end back.order back.within);
        behind = subst (λ n. AreSiblings home n walk.end) (sym is) back;
        made = λ other there world path.
            subst (Makes world path home walk end (element_of home.name other)) (sym nothing)
            (ap (λ nodes. among world path walk (around_of walk) walk.place nodes) after.is
            ∙ ap (λ n. grown_of world path home (behind walk n)) (sym is));
      }

  -- an element makes what it makes, and then goes what stands behind it
  grown_here : (after : AfterElement home walk.place walk.end fits some node here) (world : World) (path : List (List ℕ))
      → grown_of world path home walk
      ≡ beside (nodes_of_element (submap_at world path walk.level) (around_of walk) walk.place (element_of home.name node)
      (λ around. among world path walk around (walk.place + 1) (content_between home (walk.place + 1) node.end)))
      (grown_of world path home (behind walk node.end))
  grown_here after world path =
      let order = after.order in
      let there : walk.place + 1 + size (content_between home (walk.place + 1) node.end) ≡ node.end = omega (
        arith,
        size_between home (walk.place + 1) node.end after.inside,
      ) in
      ap (λ nodes. among world path walk (around_of walk) walk.place nodes) after.is
      ∙ ap (λ n. beside (nodes_of_element (submap_at world path walk.level) (around_of walk) walk.place (element_of home.name node)
      (λ around. among world path walk around (walk.place + 1) (content_between home (walk.place + 1) node.end)))
      (among world path walk (around_of walk) n (content_between home node.end walk.end))) there

  pub seen_element : (after : AfterElement home walk.place walk.end fits some node here) → end ≡ node.end
      → ((name : List ℕ) → what ≡ made (element_of name node)) → IsSeen home walk what end
  seen_element after is makes_it = record {
    inside = subst (λ n. AreSiblings home (walk.place + 1) n) (sym is) after.inside;
    behind = subst (λ n. AreSiblings home n walk.end) (sym is) after.behind;
    made = λ other there world path.
        let same : node ≡ other = same_Some node other (sym here ∙ there) in
        subst (λ (n : Node). Makes world path home walk end (element_of home.name n) what) same
        (subst (Makes world path home walk end (element_of home.name node)) (sym (makes_it home.name))
        (subst (λ n. Makes world path home walk n (element_of home.name node) (made (element_of home.name node))) (sym is)
        (made_grown world path home walk node.end (element_of home.name node)
        (is_transparent (element_of home.name node)) (kind_of (element_of home.name node))
        (grown_here after world path))));
  }
