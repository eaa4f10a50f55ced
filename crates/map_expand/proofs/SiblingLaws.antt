-- Siblings in a map's document, and the first of them.
use Rattle.std.specs.Prelude.{◌≡◌, ◌+◌, ◌-◌, ◌<◌, ◌≤◌, ℕ, zero, suc, List, [], ◌∷◌, Some, length, take, drop, slice_get}
use Rattle.std.proofs.Common.{refl, sym, ap, ◌∙◌, arith, subst}
use Rattle.std.proofs.lemmas.List.{drop-drop, drop-take, length-drop, length-take, take-take}
use Rattle.dita_doc.specs.Tree as tree
use Rattle.dita_doc.specs.Tree.{ArePreorder, content_of, content_within, nodes_of}
use Rattle.dita_doc.specs.declared.doc.Node.{Node}
use Rattle.dita_doc.specs.declared.doc.NodeKind.TheVariants as kinds
use Rattle.dita_doc.proofs.TreeLaws.{BeginsElement, begins_element, length_nodes}
use Rattle.doc_elements.specs.Walk.{element_of}
use Rattle.map_spec.specs.Written as written
use Rattle.map_spec.specs.Written.{Written, size, written_in}
use Rattle.map_lemmas.proofs.TreeLaws.{size_written}
use Rattle.map_expand.specs.Homes.{AreSiblings, Home, content_between, nodes_between}

drop_first : (n : ℕ) (nodes : List Node) (node : Node) → slice_get nodes n ≡ Some node
    → drop n nodes ≡ node ∷ drop (suc n) nodes
drop_first n [] node is = cc
drop_first zero (first ∷ nodes) node is = let same : first ≡ node = cc in ap (λ x. x ∷ nodes) same
drop_first (suc n) (first ∷ nodes) node is = drop_first n nodes node is

-- as many nodes as there are places
pub size_between : (home : Home) (place end : ℕ) → AreSiblings home place end
    → size (content_between home place end) ≡ end - place
size_between home place end fits =
    let nodes = nodes_between home place end in
    let content = content_of nodes place in
    let all = length_nodes content place in
    let same : length nodes ≡ length (nodes_of content place) = ap (λ l. length l) fits.tree in
    let order = fits.order in
    let within = fits.within in
    omega (
      arith,
      size_written home.name content,
      length-take (end - place) (drop place home.nodes),
      length-drop place home.nodes,
    )

-- none
pub none_between : (home : Home) (place end : ℕ) → end ≡ place → content_between home place end ≡ written.End
none_between home place end is =
    let zero_many : end - place ≡ 0 = omega arith in
    ap (λ n. written_in home.name (content_of (take n (drop place home.nodes)) place)) zero_many

module _ (home : Home) (place end : ℕ) (fits : AreSiblings home place end) (some : place < end) (node : Node)
    (here : slice_get home.nodes place ≡ Some node) where
  -- the first of them, and what stands behind it
  pub begin : nodes_between home place end ≡ node ∷ nodes_between home (place + 1) end
  begin =
      let more : end - place ≡ suc (end - (place + 1)) = omega arith in
      let next : suc place ≡ place + 1 = omega arith in
      ap (λ n. take n (drop place home.nodes)) more
      ∙ ap (λ l. take (suc (end - (place + 1))) l) (drop_first place home.nodes node here)
      ∙ ap (λ n. node ∷ take (end - (place + 1)) (drop n home.nodes)) next

  -- what stands behind is that of a text
  pub record AfterChars : Type 0 where
    pub behind : AreSiblings home (place + 1) end
    pub is : content_between home place end ≡ written.Chars node.text home.name (content_between home (place + 1) end)

  pub after_chars : node.kind ≡ kinds.Chars → AfterChars
  after_chars kind =
      let more = nodes_between home (place + 1) end in
      let whole : content_of (node ∷ more) place
      ≡ tree.Chars node.text node.origin node.line (content_of more (place + 1)) = rw kind refl in
      let nodes : node ∷ more
      ≡ nodes_of (tree.Chars node.text node.origin node.line (content_of more (place + 1))) place =
      sym begin ∙ fits.tree ∙ ap (λ l. nodes_of (content_of l place) place) begin ∙ ap (λ c. nodes_of c place) whole in
      let rest : more ≡ nodes_of (content_of more (place + 1)) (place + 1) = cc in
      record {
        behind = record {
          order = omega arith;
          within = fits.within;
          tree = rest;
        };
        is = ap (written_in home.name) (ap (λ l. content_of l place) begin ∙ whole);
      }

  -- or of an element
  pub record AfterElement : Type 0 where
    pub order : place + 1 ≤ node.end
    pub within : node.end ≤ end
    pub inside : AreSiblings home (place + 1) node.end
    pub behind : AreSiblings home node.end end
    pub is : content_between home place end ≡ written.Node (element_of home.name node)
        (content_between home (place + 1) node.end) (content_between home node.end end)

  pub after_element : node.kind ≡ kinds.Element → AfterElement
  after_element kind =
      let more = nodes_between home (place + 1) end in
      let begins : BeginsElement (nodes_between home place end) node more place =
      begins_element (nodes_between home place end) node more place begin fits.tree kind in
      let within = fits.within in
      let last = node.end in
      let after = begins.after in
      let room = begins.fits in
      let many : length more ≡ end - (place + 1) = omega (
        arith,
        length-take (end - (place + 1)) (drop (place + 1) home.nodes),
        length-drop (place + 1) home.nodes,
      ) in
      let front : take (last - (place + 1)) more ≡ nodes_between home (place + 1) last =
      take-take (last - (place + 1)) (end - (place + 1)) (drop (place + 1) home.nodes) (omega arith) in
      let split : end - (place + 1) ≡ (last - (place + 1)) + (end - last) = omega arith in
      let onward : place + 1 + (last - (place + 1)) ≡ last = omega arith in
      let back : drop (last - (place + 1)) more ≡ nodes_between home last end =
      ap (λ n. drop (last - (place + 1)) (take n (drop (place + 1) home.nodes))) split
      ∙ drop-take (last - (place + 1)) (end - last) (drop (place + 1) home.nodes)
      ∙ ap (λ l. take (end - last) l) (drop-drop (last - (place + 1)) (place + 1) home.nodes)
      ∙ ap (λ n. take (end - last) (drop n home.nodes)) onward in
      record {
        order = after;
        within = omega arith;
        inside = record {
          order = after;
          within = omega arith;
          tree = subst (λ l. ArePreorder l (place + 1)) front begins.inside;
        };
        behind = record {
          order = omega arith;
          within = within;
          tree = subst (λ l. ArePreorder l last) back begins.rest;
        };
        is = ap (written_in home.name) (begins.all
            ∙ ap (λ l. tree.Element node.text node.attributes node.origin node.line (content_of l (place + 1))
            (content_of (drop (last - (place + 1)) more) last)) front
            ∙ ap (λ l. tree.Element node.text node.attributes node.origin node.line
            (content_of (nodes_between home (place + 1) last) (place + 1)) (content_of l last)) back);
      }
