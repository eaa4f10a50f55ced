-- What has stood has the answers that it had; and what a comparison tells of an answer.
use Rattle.std.proofs.Common.{◌≡◌, ◌≤◌, ◌∙◌, ℕ, List, Bool, true, false, Option, Some, None, option_map, refl, ap, sym, subst}
use Rattle.std.specs.Bool.{Decides}
use Rattle.std.specs.Option.{option_map_or}
use Rattle.dita_doc.specs.Desk.{State, Stored, stored_under}
use Rattle.dita_doc.specs.Sources.{version_and_nodes}
use Rattle.dita_doc.specs.Tree.{ArePreorder, Content, nodes_of, tree_of}
use Rattle.dita_doc.specs.declared.doc.Node.{Node}
use Rattle.facts.specs.Judged.{HasStood, Tells}
use Rattle.reader_spec.specs.World.{stored_tree, world_of}
use Rattle.fact_judge.specs.Judging.{HasStoodAt, WasSo}

-- What stands under a name

tree_there : (found : Option Stored) (version : ℕ) (nodes : List Node)
    → Some (version, nodes) ≡ option_map version_and_nodes found → option_map stored_tree found ≡ Some (tree_of nodes)
tree_there None version nodes got = cc
tree_there (Some stored) version nodes got =
    ap (λ (o : Option (ℕ × List Node)). option_map (λ (p : ℕ × List Node). tree_of p.1) o) (sym got)

pub stands : (state : State) (name : List ℕ) (version : ℕ) (nodes : List Node)
    → Some (version, nodes) ≡ option_map version_and_nodes (stored_under state name)
    → world_of state name ≡ Some (tree_of nodes)
stands state name version nodes got = tree_there (stored_under state name) version nodes got

nothing_there : (found : Option Stored) → None ≡ option_map version_and_nodes found
    → option_map stored_tree found ≡ None
nothing_there None got = refl
nothing_there (Some stored) got = cc

pub stands_not : (state : State) (name : List ℕ)
    → None ≡ option_map version_and_nodes (stored_under state name) → world_of state name ≡ None
stands_not state name got = nothing_there (stored_under state name) got

-- What has stood

stood_there : (since : ℕ) (older newer : State) (name : List ℕ) (found : Option Stored) (version : ℕ)
    (nodes : List Node) → stored_under newer name ≡ found → Some (version, nodes) ≡ option_map version_and_nodes found
    → version ≤ since → HasStood since older newer → world_of older name ≡ world_of newer name
stood_there since older newer name None version nodes is got low stood = cc
stood_there since older newer name (Some stored) version nodes is got low stood =
    let number : version ≡ stored.version =
    ap (λ (o : Option (ℕ × List Node)). option_map_or (λ (p : ℕ × List Node). p.0) o 0) got in
    ap (option_map stored_tree) (stood.each name stored is (subst (λ n. n ≤ since) number low) ∙ sym is)

pub stood_at : (since : ℕ) (newer : State) (name : List ℕ) (version : ℕ) (nodes : List Node)
    → Some (version, nodes) ≡ option_map version_and_nodes (stored_under newer name) → version ≤ since
    → HasStoodAt since newer name
stood_at since newer name version nodes got low = record {
  same = λ older stood. stood_there since older newer name (stored_under newer name) version nodes refl got low stood;
}

-- an answer that rests on this document alone is the one that was
pub stood_answer : {X : Type 0} (answer : Option Content → X) (since : ℕ) (newer : State) (name : List ℕ) (x : X)
    → WasSo (λ state. answer (world_of state name) ≡ x) since newer → HasStoodAt since newer name
    → answer (world_of newer name) ≡ x
stood_answer answer since newer name x before at = ap answer (sym (at.same before.older before.stood)) ∙ before.was

-- Comparisons

pub tells_value : {X : Type 0} (r : Bool) (value given x : X) → value ≡ given → Decides r (given ≡ x)
    → Tells r (value ≡ x)
tells_value true value given x is decides = is ∙ decides.0 refl
tells_value false value given x is decides = λ same.
    let clash : false ≡ true = decides.1 (sym is ∙ same) in absurd (cc)

-- two documents have the same tree exactly if they have the same nodes
same_nodes : (xs ys : List Node) → ArePreorder xs 0 → ArePreorder ys 0 → tree_of xs ≡ tree_of ys → xs ≡ ys
same_nodes xs ys one other same = one ∙ ap (λ tree. nodes_of tree 0) same ∙ sym other

pub tells_tree : (r : Bool) (xs ys : List Node) (tree : Option Content) → ArePreorder xs 0 → ArePreorder ys 0
    → tree ≡ Some (tree_of xs) → Decides r (xs ≡ ys) → Tells r (tree ≡ Some (tree_of ys))
tells_tree true xs ys tree one other is decides = is ∙ ap (λ nodes. Some (tree_of nodes)) (decides.0 refl)
tells_tree false xs ys tree one other is decides = λ same.
    let both : Some (tree_of xs) ≡ Some (tree_of ys) = sym is ∙ same in
    let trees : tree_of xs ≡ tree_of ys = cc in
    let clash : false ≡ true = decides.1 (same_nodes xs ys one other trees) in absurd (cc)
