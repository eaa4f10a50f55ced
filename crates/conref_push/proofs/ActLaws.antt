-- A document of which an element acts, by its nodes in preorder.
use Rattle.std.specs.Prelude.{◌≡◌, ◌+◌, ◌<◌, ◌||◌, ℕ, Bool, true, false, List, ◌∷◌, drop, length}
use Rattle.std.specs.List.{list_any}
use Rattle.std.proofs.Common.{refl, sym, ap, ◌∙◌, get_or}
use Rattle.std.proofs.lemmas.List.{drop_more}
use Rattle.std.proofs.lemmas.List.Folds.{list_any-append}
use Rattle.dita_doc.specs.Tree as tree
use Rattle.dita_doc.specs.Tree.{ArePreorder, Content, nodes_of, size_of, tree_of}
use Rattle.dita_doc.specs.declared.doc.Node as doc
use Rattle.doc_elements.specs.Walk.{element_of}
use Rattle.map_spec.specs.Written.{elements_below, written_in}
use Rattle.map_spec.specs.Pushes.{has_conaction}
use Rattle.conref_push.specs.Acting.{acts_there, any_acts}

module _ (name : List ℕ) where
  abbrev pub node_acts : doc.Node → Bool
  node_acts node = has_conaction (element_of name node)

  nodes_act : (all : Content) (place : ℕ) → list_any node_acts (nodes_of all place) ≡ any_acts (written_in name all)
  nodes_act tree.End place = refl
  nodes_act (tree.Chars text origin line rest) place = nodes_act rest (place + 1)
  nodes_act (tree.Element text attributes origin line inside rest) place =
      let end = place + 1 + size_of inside in
      let own = node_acts (tree.element_node text attributes origin line end) in
      ap (λ b. own || b) (list_any-append node_acts (nodes_of inside (place + 1)) (nodes_of rest end)
      ∙ ap (λ b. b || list_any node_acts (nodes_of rest end)) (nodes_act inside (place + 1))
      ∙ ap (λ b. any_acts (written_in name inside) || b) (nodes_act rest end)
      ∙ sym (list_any-append acts_there (elements_below (written_in name inside))
      (elements_below (written_in name rest))))

  pub any_node : (nodes : List doc.Node) → ArePreorder nodes 0
      → list_any node_acts nodes ≡ any_acts (written_in name (tree_of nodes))
  any_node nodes preorder = ap (list_any node_acts) preorder ∙ nodes_act (tree_of nodes) 0

-- a node more
pub any_more : (test : doc.Node → Bool) (nodes : List doc.Node) (at : ℕ) (one : doc.Node) → at < length nodes
    → one ≡ get_or nodes at one → list_any test (drop at nodes) ≡ (test one || list_any test (drop (at + 1) nodes))
any_more test nodes at one within is =
    ap (list_any test) (drop_more nodes at one within ∙ ap (λ n. n ∷ drop (at + 1) nodes) (sym is))

pub any_here : (here there all : Bool) → true ≡ here → all ≡ (here || there) → true ≡ all
any_here true there all is whole = sym whole
any_here false there all is whole = cc

pub any_there : (here there all : Bool) → false ≡ here → all ≡ (here || there) → all ≡ there
any_there true there all is whole = cc
any_there false there all is whole = whole
