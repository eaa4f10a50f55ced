-- The root of a document.
use Rattle.std.specs.Prelude.{◌≡◌, ◌+◌, ◌<◌, ℕ, Bool, true, false, List, [], Some, None, length, slice_get, if◌then◌else◌}
use Rattle.std.specs.Option.{option_and_then}
use Rattle.std.proofs.Common.{sym, ap, ◌∙◌, arith}
use Rattle.dita_doc.specs.Tree.{tree_of}
use Rattle.dita_doc.specs.declared.doc.Node.{Node}
use Rattle.dita_doc.specs.declared.doc.NodeKind.TheVariants as kinds
use Rattle.doc_elements.specs.Walk.{element_of}
use Rattle.map_spec.specs.Included.{if_map, is_map}
use Rattle.map_spec.specs.Written.{Whole, first_place, first_sibling, written_in}
use Rattle.map_expand.specs.Homes.{AreSiblings, Home, content_between, whole_by}
use Rattle.map_expand.specs.Known.{IsRoot, map_wanted, root_wanted}
use Rattle.map_expand.proofs.SiblingLaws.{after_chars, after_element}

-- a document whose root stands at this place
abbrev rooted : List ℕ → List Node → ℕ → Home
rooted name nodes root = record { name = name; nodes = nodes; root = root }

-- siblings are the same wherever the root stands
same_siblings : (name : List ℕ) (nodes : List Node) (one other place end : ℕ)
    → AreSiblings (rooted name nodes one) place end → AreSiblings (rooted name nodes other) place end
same_siblings name nodes one other place end fits =
    record { order = fits.order; within = fits.within; tree = fits.tree }

module _ (name : List ℕ) (nodes : List Node) (place : ℕ) (node : Node) (some : place < length nodes)
    (here : slice_get nodes place ≡ Some node) (fits : AreSiblings (rooted name nodes 0) place (length nodes))
    (same : root_wanted name nodes ≡ first_sibling (content_between (rooted name nodes 0) place (length nodes)))
    (texts : first_place (written_in name (tree_of nodes))
    ≡ place + first_place (content_between (rooted name nodes 0) place (length nodes))) where
  -- a text stands in front of it
  pub behind_chars : node.kind ≡ kinds.Chars → AreSiblings (rooted name nodes 0) (place + 1) (length nodes)
  behind_chars kind = (after_chars (rooted name nodes 0) place (length nodes) fits some node here kind).behind

  pub root_behind : node.kind ≡ kinds.Chars
      → root_wanted name nodes ≡ first_sibling (content_between (rooted name nodes 0) (place + 1) (length nodes))
  root_behind kind =
      same ∙ ap first_sibling (after_chars (rooted name nodes 0) place (length nodes) fits some node here kind).is

  pub texts_behind : node.kind ≡ kinds.Chars → first_place (written_in name (tree_of nodes))
      ≡ (place + 1) + first_place (content_between (rooted name nodes 0) (place + 1) (length nodes))
  texts_behind kind =
      let one : first_place (content_between (rooted name nodes 0) place (length nodes))
      ≡ 1 + first_place (content_between (rooted name nodes 0) (place + 1) (length nodes)) =
      ap first_place (after_chars (rooted name nodes 0) place (length nodes) fits some node here kind).is in
      omega (arith, texts, one)

  -- it stands here
  pub root_here : node.kind ≡ kinds.Element → IsRoot name nodes (root_wanted name nodes) place
  root_here kind =
      let after = after_element (rooted name nodes 0) place (length nodes) fits some node here kind in
      let none : first_place (content_between (rooted name nodes 0) place (length nodes)) ≡ 0 =
      ap first_place after.is in
      record {
        fits = record {
          node = node;
          here = here;
          after = omega (arith, after.order);
          inside = same_siblings name nodes 0 place (place + 1) node.end after.inside;
        };
        here = ap (whole_by (rooted name nodes place)) here ∙ sym (same ∙ ap first_sibling after.is);
        behind = omega (arith, texts, none);
      }

-- Maps

module _ (name : List ℕ) (nodes : List Node) (place : ℕ) (node : Node) (here : slice_get nodes place ≡ Some node)
    (root : IsRoot name nodes (root_wanted name nodes) place) where
  abbrev pub whole : Whole
  whole = (element_of name node, content_between (rooted name nodes place) (place + 1) node.end)

  wanted : Some whole ≡ root_wanted name nodes
  wanted = sym (ap (whole_by (rooted name nodes place)) here) ∙ root.here

  pub root_is_map : (is : Bool) → is ≡ is_map whole → is ≡ true → IsRoot name nodes (map_wanted name nodes) place
  root_is_map is test so = record {
    fits = root.fits;
    here = ap (whole_by (rooted name nodes place)) here
        ∙ sym (ap (λ found. option_and_then if_map found) (sym wanted)
        ∙ ap (λ (b : Bool). if b then Some whole else None) (sym test ∙ so));
    behind = root.behind;
  }

  pub root_no_map : (is : Bool) → is ≡ is_map whole → is ≡ false → map_wanted name nodes ≡ None
  root_no_map is test so =
      ap (λ found. option_and_then if_map found) (sym wanted)
      ∙ ap (λ (b : Bool). if b then Some whole else None) (sym test ∙ so)
