-- The documents in which the nodes of a tree stand: filtering and copying bring in no other.
use Rattle.std.specs.Prelude.{ℕ, List, [], ◌∷◌, IsTrue, bytes_eq}
use Rattle.std.specs.List.{AllByRecursion}
use Rattle.std.proofs.Common.{subst}
use Rattle.std.proofs.Math.Logic.{⊎_elim}
use Rattle.std.proofs.lemmas.Bool.{false≢true, or_cases}
use Rattle.std.proofs.lemmas.Slice.Eq.{bytes_eq-Decides}
use Rattle.dita_doc.specs.declared.content.Rule.{Rule}
use Rattle.dita_doc.specs.declared.plan.PlanNode.{PlanNode}
use Rattle.map_spec.specs.Branches.{Branch, copied}
use Rattle.map_spec.specs.Judged.{filtered}
use Rattle.map_spec.specs.MapTree.{Head, MapTree, nodes_below}
use Rattle.map_lemmas.proofs.HeadLaws.{AllHeads, each_below, heads_filtered}
use Rattle.reader_spec.specs.World.{World}
use Rattle.readers.specs.Founded.{homes, is_among}
use Rattle.build_plan.proofs.CopyLaws.{IsCarried, heads_copied}
use Rattle.build_plan.proofs.EachLaws.{heads_of}

module _ (P : List ℕ → Type 0) where
  -- of the document of each node
  abbrev IsIn : Head → Type 0
  IsIn head = P head.doc

  abbrev pub AllIn : MapTree → Type 0
  AllIn tree = AllHeads IsIn tree

  abbrev pub Each : List PlanNode → Type 0
  Each nodes = AllByRecursion (λ (node : PlanNode). P node.doc) nodes

  pub each_of : (tree : MapTree) (parent place : ℕ) → AllIn tree → Each (nodes_below parent place tree)
  each_of tree parent place all =
      each_below IsIn (λ (node : PlanNode). P node.doc) (λ head at end is. is) parent place tree all

  pub all_of : (tree : MapTree) (parent place : ℕ) → Each (nodes_below parent place tree) → AllIn tree
  all_of = heads_of IsIn (λ (node : PlanNode). P node.doc) (λ head at end is. is)

  pub each_among : (nodes : List PlanNode) (m : List ℕ) → Each nodes → IsTrue (is_among (homes nodes) m) → P m
  each_among [] m all among = absurd (false≢true among)
  each_among (node ∷ nodes) m all among = ⊎_elim
      (λ here. subst P ((bytes_eq-Decides node.doc m).0 here) all.0)
      (λ there. each_among nodes m all.1 there) (or_cases (bytes_eq node.doc m) (is_among (homes nodes) m) among)

  pub all_filtered : (world : World) (rules : List Rule) (tree : MapTree) → AllIn tree
      → AllIn (filtered world rules tree).tree
  all_filtered = heads_filtered IsIn

  -- a group stands in the document of its ditavalref
  doc_carried : (world : World) → IsCarried world IsIn IsIn (λ (branch : Branch). IsIn branch.head)
  doc_carried world = record {
    holds = λ head is. is;
    reads = λ head whole found is. is;
    names = λ head names is. is;
    marks = λ branch head known is. is;
    groups = λ branch level names known. known;
  }

  pub all_copied : (world : World) (tree : MapTree) → AllIn tree → AllIn (copied world tree)
  all_copied world = heads_copied world IsIn IsIn (λ (branch : Branch). IsIn branch.head) (doc_carried world)
