-- The end of a range, sibling by sibling.
use Rattle.std.specs.Prelude.{◌≡◌, ◌+◌, ◌&&◌, ◌<◌, ◌≤◌, ℕ, Bool, true, false, List, [], Option, Some, None, slice_get, if◌then◌else◌}
use Rattle.std.proofs.Common.{refl, sym, ap, subst, ◌∙◌, arith}
use Rattle.dita_doc.specs.Tree.{Content, End, Chars, Element, chars_node, element_node, is_element, size_of, tree_of}
use Rattle.dita_doc.specs.declared.doc.Doc.{Doc}
use Rattle.dita_doc.specs.declared.doc.Node.{Node}
use Rattle.doc_elements.specs.Walk.{element_of}
use Rattle.map_spec.specs.Written.{size}
use Rattle.conref_spec.specs.Content.{has_end_id}
use Rattle.readers.specs.Named.{name_at, under_names}
use Rattle.readers.proofs.GivenLaws.{size_named}
use Rattle.conref_targets.specs.Parts.{AreSiblingsAt, end_place, past, past_text}
use Rattle.conref_targets.proofs.PartLaws.{element_node_there, text_there}

-- the siblings that are left stand at a place, and the end is sought among them
pub record Left (doc : Doc) (id : List ℕ) (found : Option ℕ) (to place counter : ℕ) : Type 0 where
  pub rest : Content
  pub there : AreSiblingsAt (tree_of doc.nodes) place rest
  pub ends : place + size_of rest ≡ to
  pub far : counter ≤ place
  pub same : end_place id place (under_names doc.origins rest) ≡ found

module _ (doc : Doc) (id : List ℕ) (found : Option ℕ) (to place counter : ℕ) (left : Left doc id found to place counter)
  where
    none_by : (rest : Content) → place + size_of rest ≡ to → to ≤ place
        → end_place id place (under_names doc.origins rest) ≡ None
    none_by End ends past_end = refl
    none_by (Chars text origin line rest) ends past_end = absurd (omega arith)
    none_by (Element name attributes origin line inside rest) ends past_end = absurd (omega arith)

    pub left_none : to ≤ place → None ≡ found
    left_none past_end = sym (none_by left.rest left.ends past_end) ∙ left.same

    missing_by : (rest : Content) → AreSiblingsAt (tree_of doc.nodes) place rest → place + size_of rest ≡ to
        → place < to
        → slice_get doc.nodes place ≡ None → ⊥
    missing_by End there ends within none = omega arith
    missing_by (Chars text origin line rest) there ends within none =
        let some = text_there doc.nodes doc.tree place text origin line rest there in cc
    missing_by (Element name attributes origin line inside rest) there ends within none =
        let some = element_node_there doc.nodes doc.tree place name attributes origin line inside rest there in cc

    -- each of them has a node
    pub left_missing : place < to → slice_get doc.nodes place ≡ None → None ≡ found
    left_missing within none = absurd (missing_by left.rest left.there left.ends within none)

    module _ (node : Node) (within : place < to) (here : slice_get doc.nodes place ≡ Some node) where
      abbrev is_end : Bool
      is_end = is_element node.kind && has_end_id id (element_of [] node)

      -- the first of them ends the range
      found_by : (rest : Content) → AreSiblingsAt (tree_of doc.nodes) place rest → place + size_of rest ≡ to
          → is_end ≡ true → end_place id place (under_names doc.origins rest) ≡ Some node.end
      found_by End there ends is_it = absurd (omega arith)
      found_by (Chars text origin line rest) there ends is_it =
          let some = text_there doc.nodes doc.tree place text origin line rest there in
          let same : node ≡ chars_node text origin line (place + 1) = cc in
          let is_not : is_end ≡ false =
          ap (λ (n : Node). is_element n.kind && has_end_id id (element_of [] n)) same in cc
      found_by (Element name attributes origin line inside rest) there ends is_it =
          let some = element_node_there doc.nodes doc.tree place name attributes origin line inside rest there in
          let same : node ≡ element_node name attributes origin line (place + 1 + size_of inside) = cc in
          let is : has_end_id id (element_of (name_at doc.origins origin) (element_node name attributes origin line 0))
          ≡ true =
          sym (ap (λ (n : Node). is_element n.kind && has_end_id id (element_of [] n)) same) ∙ is_it in
          let end : node.end ≡ place + 1 + size (under_names doc.origins inside) =
          ap (λ (n : Node). n.end) same ∙ ap (λ n. place + 1 + n) (sym (size_named doc.origins inside)) in
          ap (λ (test : Bool). if test then Some (place + 1 + size (under_names doc.origins inside))
          else end_place id (place + 1 + size (under_names doc.origins inside)) (under_names doc.origins rest)) is
          ∙ ap Some (sym end)

      pub left_found : is_end ≡ true → Some node.end ≡ found
      left_found is_it = sym (found_by left.rest left.there left.ends is_it) ∙ left.same

      -- or it does not, and those behind it are left
      step_by : (rest : Content) → AreSiblingsAt (tree_of doc.nodes) place rest → place + size_of rest ≡ to
          → end_place id place (under_names doc.origins rest) ≡ found → is_end ≡ false
          → Left doc id found to node.end (counter + 1)
      step_by End there ends same is_not = absurd (omega arith)
      step_by (Chars text origin line rest) there ends same is_not =
          let some = text_there doc.nodes doc.tree place text origin line rest there in
          let is : node ≡ chars_node text origin line (place + 1) = cc in
          let end : place + 1 ≡ node.end = sym (ap (λ (n : Node). n.end) is) in
          subst (λ n. Left doc id found to n (counter + 1)) end
          (record {
            rest = rest;
            there = past_text there;
            ends = omega arith;
            far = (let far = left.far in omega arith);
            same = same;
          })
      step_by (Element name attributes origin line inside rest) there ends same is_not =
          let some = element_node_there doc.nodes doc.tree place name attributes origin line inside rest there in
          let is : node ≡ element_node name attributes origin line (place + 1 + size_of inside) = cc in
          let other : has_end_id id (element_of (name_at doc.origins origin) (element_node name attributes origin line 0))
          ≡ false =
          sym (ap (λ (n : Node). is_element n.kind && has_end_id id (element_of [] n)) is) ∙ is_not in
          let end : place + 1 + size_of inside ≡ node.end = sym (ap (λ (n : Node). n.end) is) in
          let later : end_place id (place + 1 + size_of inside) (under_names doc.origins rest) ≡ found =
          ap (λ n. end_place id (place + 1 + n) (under_names doc.origins rest)) (sym (size_named doc.origins inside))
          ∙ sym (ap (λ (test : Bool). if test then Some (place + 1 + size (under_names doc.origins inside))
          else end_place id (place + 1 + size (under_names doc.origins inside)) (under_names doc.origins rest)) other)
          ∙ same in
          subst (λ n. Left doc id found to n (counter + 1)) end
          (record {
            rest = rest;
            there = past there;
            ends = omega arith;
            far = (let far = left.far in omega arith);
            same = later;
          })

      pub left_step : is_end ≡ false → Left doc id found to node.end (counter + 1)
      left_step is_not = step_by left.rest left.there left.ends left.same is_not
