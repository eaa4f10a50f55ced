-- The documents that the parts of a plan are about may be asked about by the time that the plan is there.
use Rattle.std.specs.Prelude.{◌≡◌, ◌++◌, ℕ, List, [], ◌∷◌, IsTrue, Option, Ok, map}
use Rattle.std.specs.List.{filter_map, flat_map}
use Rattle.std.specs.Option.{option_to_list}
use Rattle.std.proofs.Common.{sym, subst}
use Rattle.build_plan.specs.Documents.{build_names, filters_of, names_of_nodes}
use Rattle.dita_doc.specs.declared.plan.Plan.{Plan}
use Rattle.map_spec.specs.Cascade.{whole_at}
use Rattle.map_spec.specs.Pages.{local_name}
use Rattle.map_spec.specs.PlanOf.{limits, plan_of}
use Rattle.map_spec.specs.Written.{Whole}
use Rattle.plan_nodes.specs.Given.{AreTold}
use Rattle.reader_spec.specs.World.{World}
use Rattle.readers.specs.Founded.{AreAllowed, homes, is_allowed}
use Rattle.readers.specs.Told.{Told}
use Rattle.readers.proofs.AmongLaws.{among_back, among_either, among_front}
use Rattle.clean_build.specs.Names.{names_of_page, names_of_plan}
use Rattle.clean_build.proofs.GivenLaws.{documents_allowed, pages_allowed, targets_allowed}
use Rattle.clean_build.proofs.PlanLaws.{IsOfNodes, plan_facts}

allowed_both : (roots : List (List ℕ)) (told : List Told) (a b : List (List ℕ)) → AreAllowed roots told a
    → AreAllowed roots told b → AreAllowed roots told (a ++ b)
allowed_both roots told a b first second = record {
  each = λ m among. among_either a b m (IsTrue (is_allowed roots told m)) (first.each m) (second.each m) among;
}

-- the names of the plan of a map, whose nodes' elements were told
module _ (world : World) (name : List ℕ) (val : Option (List ℕ)) (plan : Plan) (told : List Told)
    (wholes : List (Option Whole)) (is : plan_of limits world name val ≡ Ok plan)
    (are : wholes ≡ map (whole_at world) plan.nodes) (were : AreTold told wholes) (roots : List (List ℕ)) where
  names : IsOfNodes world plan
  names = (plan_facts world name val plan is).names

  nodes_told : AreTold told (map (whole_at world) plan.nodes)
  nodes_told = subst (AreTold told) are were

  pub documents_may : AreAllowed roots told plan.documents
  documents_may = subst (AreAllowed roots told) (sym names.documents)
      (documents_allowed told roots world plan.nodes nodes_told)

  targets_may : AreAllowed roots told (filter_map local_name plan.targets)
  targets_may = subst (λ targets. AreAllowed roots told (filter_map local_name targets)) (sym names.targets)
      (targets_allowed told roots world plan.nodes nodes_told)

  pages_may : AreAllowed roots told (filters_of plan.nodes) → AreAllowed roots told (flat_map names_of_page plan.pages)
  pages_may filters = subst (λ pages. AreAllowed roots told (flat_map names_of_page pages)) (sym names.pages)
      (pages_allowed told roots world plan.nodes nodes_told filters)

  pub plan_may : AreAllowed roots told (names_of_nodes plan.nodes) → AreAllowed roots told (names_of_plan plan)
  plan_may allowed =
      allowed_both roots told (homes plan.nodes) _
      (record { each = λ m among. allowed.each m (among_front (homes plan.nodes) (filters_of plan.nodes) m among) })
      (allowed_both roots told (filter_map local_name plan.targets) _ targets_may
      (allowed_both roots told plan.documents (flat_map names_of_page plan.pages) documents_may
      (pages_may (record {
        each = λ m among. allowed.each m (among_back (homes plan.nodes) (filters_of plan.nodes) m among);
      }))))

-- and with the DITAVAL of its build, behind the documents in which its nodes stand
pub parts_may : (roots : List (List ℕ)) (told : List Told) (name : List ℕ) (val : Option (List ℕ)) (plan : Plan)
    → AreAllowed roots told (build_names name val) → AreAllowed roots told (names_of_nodes plan.nodes)
    → AreAllowed roots told (names_of_plan plan)
    → AreAllowed roots told (homes plan.nodes ++ (option_to_list val ++ names_of_plan plan))
parts_may roots told name val plan build nodes names =
    allowed_both roots told (homes plan.nodes) (option_to_list val ++ names_of_plan plan)
    (record { each = λ m among. nodes.each m (among_front (homes plan.nodes) (filters_of plan.nodes) m among) })
    (allowed_both roots told (option_to_list val) (names_of_plan plan)
    (record { each = λ m among. build.each m (among_back (name ∷ []) (option_to_list val) m among) }) names)
