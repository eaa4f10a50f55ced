-- The documents of nodes that are filtered, copied or cascaded are among those of the nodes before.
use Rattle.std.specs.Prelude.{◌≡◌, ℕ, List, [], ◌∷◌, IsTrue, map}
use Rattle.std.proofs.Common.{refl, sym, ap, ◌∙◌}
use Rattle.dita_doc.specs.declared.content.Rule.{Rule}
use Rattle.dita_doc.specs.declared.plan.PlanNode.{PlanNode}
use Rattle.map_spec.specs.Branches.{copied}
use Rattle.map_spec.specs.Cascade.{cascaded}
use Rattle.map_spec.specs.Judged.{filtered}
use Rattle.map_spec.specs.MapTree.{MapTree, plan_nodes}
use Rattle.map_lemmas.specs.Alike.{AreAlike, plain}
use Rattle.map_lemmas.proofs.AlikeLaws.{by_plain}
use Rattle.map_lemmas.proofs.CarriedLaws.{alike_cascaded}
use Rattle.reader_spec.specs.World.{World}
use Rattle.readers.specs.Founded.{homes, is_among}
use Rattle.readers.specs.Told.{Told}
use Rattle.readers.proofs.FoundedLaws.{among_behind, among_first}
use Rattle.map_expand.specs.AskedFor.{AreAsked}
use Rattle.build_plan.proofs.DocLaws.{Each, all_copied, all_filtered, all_of, each_among, each_of}

-- names that are among others
abbrev pub Fewer : List (List ℕ) → List (List ℕ) → Type 0
Fewer some names = (m : List ℕ) → IsTrue (is_among some m) → IsTrue (is_among names m)

abbrev IsIn : List (List ℕ) → List ℕ → Type 0
IsIn names name = IsTrue (is_among names name)

each_in : (names : List (List ℕ)) (nodes : List PlanNode) → Fewer (homes nodes) names → Each (IsIn names) nodes
each_in names [] fewer = tt
each_in names (node ∷ nodes) fewer = (
  fewer node.doc (among_first node.doc (homes nodes)),
  each_in names nodes (λ m among. fewer m (among_behind node.doc (homes nodes) m among)),
)

pub fewer_filtered : (world : World) (rules : List Rule) (tree : MapTree)
    → Fewer (homes (plan_nodes (filtered world rules tree).tree)) (homes (plan_nodes tree))
fewer_filtered world rules tree m among =
    let names = homes (plan_nodes tree) in
    each_among (IsIn names) (plan_nodes (filtered world rules tree).tree) m
    (each_of (IsIn names) (filtered world rules tree).tree 0 0
    (all_filtered (IsIn names) world rules tree
    (all_of (IsIn names) tree 0 0 (each_in names (plan_nodes tree) (λ other is. is))))) among

pub fewer_copied : (world : World) (tree : MapTree) → Fewer (homes (plan_nodes (copied world tree))) (homes (plan_nodes tree))
fewer_copied world tree m among =
    let names = homes (plan_nodes tree) in
    each_among (IsIn names) (plan_nodes (copied world tree)) m
    (each_of (IsIn names) (copied world tree) 0 0
    (all_copied (IsIn names) world tree
    (all_of (IsIn names) tree 0 0 (each_in names (plan_nodes tree) (λ other is. is))))) among

pub plain_homes : (nodes : List PlanNode) → homes (map plain nodes) ≡ homes nodes
plain_homes [] = refl
plain_homes (node ∷ nodes) = ap (λ more. node.doc ∷ more) (plain_homes nodes)

pub homes_alike : (nodes others : List PlanNode) → AreAlike nodes others → homes nodes ≡ homes others
homes_alike nodes others alike = by_plain homes plain_homes nodes others alike

pub homes_cascaded : (world : World) (nodes made : List PlanNode) → made ≡ cascaded world nodes → homes made ≡ homes nodes
homes_cascaded world nodes made are =
    ap homes are ∙ sym (homes_alike nodes (cascaded world nodes) (alike_cascaded world nodes))

-- what was asked for, of fewer names
pub asked_fewer : (told : List Told) (some names : List (List ℕ)) → Fewer some names → AreAsked told names
    → AreAsked told some
asked_fewer told some names fewer asked = record { each = λ m among. asked.each m (fewer m among) }
