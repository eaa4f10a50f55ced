-- The pages of all uses, with their names.
use Rattle.std.specs.Prelude.{◌≡◌, ◌+◌, ◌<◌, ◌≤◌, ℕ, suc, Bool, true, false, List, [], ◌∷◌, ◌++◌, Ok, Err, length, map, nat_le, if◌then◌else◌}
use Rattle.std.specs.List.{filter_map, flat_map}
use Rattle.std.proofs.Common.{refl, sym, ap, ◌∙◌, arith}
use Rattle.std.proofs.lemmas.Bool.Decides.{nat_tests}
use Rattle.std.proofs.lemmas.List.{length-map}
use Rattle.dita_doc.specs.declared.fault.Fault.{Fault}
use Rattle.dita_doc.specs.declared.plan.PagePlan.{PagePlan}
use Rattle.dita_doc.specs.declared.plan.PlanNode.{PlanNode}
use Rattle.dita_doc.specs.declared.plan.PlanStop.TheVariants as stops
use Rattle.dita_doc.specs.declared.plan.Target.{Target}
use Rattle.map_spec.specs.Branches.{each_once}
use Rattle.map_spec.specs.Pages as pages_spec
use Rattle.map_spec.specs.Pages.{contents_name, first_uses, free_name, good_base, base_of, name_fault, named_from, pages_of, use_at, used_at, uses_of}
use Rattle.map_spec.specs.Scopes.{places}
use Rattle.reader_spec.specs.World.{World}
use Rattle.page_names.specs.Made.{all_made, pages_made}
use Rattle.page_names.specs.Shown.{use_shown, uses_shown}
use Rattle.page_names.specs.Uses.{AreUses, faults_of, target_at}
use Rattle.page_names.specs.declared.made.PagesMade.{PagesMade}
use Rattle.page_names.specs.declared.uses.Uses.{Uses}
use Rattle.page_names.proofs.UseLaws.{all_places}

pub count_named : (index : ℕ) (taken : List (List ℕ)) (uses : List pages_spec.Use)
    → length (named_from index taken uses) ≡ length uses
count_named index taken [] = refl
count_named index taken (first ∷ uses) =
    ap suc (count_named (index + 1) (free_name taken (good_base index (base_of first.id)) ∷ taken) uses)

uses_are : (world : World) (nodes : List PlanNode) (uses : Uses) → AreUses world nodes (length nodes) uses
    → uses_shown uses.pages.uses.items ≡ uses_of world nodes
uses_are world nodes uses are =
    are.pages.are ∙ ap (λ at. first_uses (filter_map (use_at world nodes) at)) (all_places nodes)

count_pages : (world : World) (nodes : List PlanNode) (uses : Uses) → AreUses world nodes (length nodes) uses
    → length (pages_of world nodes) ≡ length uses.pages.uses.items
count_pages world nodes uses are =
    count_named 0 (contents_name ∷ []) (uses_of world nodes)
    ∙ sym (ap length (uses_are world nodes uses are))
    ∙ length-map uses.pages.uses.items use_shown

by_count : (world : World) (nodes : List PlanNode) (limit : ℕ) (fits : Bool)
    → nat_le (length (pages_of world nodes)) limit ≡ fits
    → pages_made limit world nodes ≡ (if fits then Ok (all_made world nodes) else Err stops.TooManyPages)
by_count world nodes limit fits is =
    ap (λ b. if b then Ok (all_made world nodes) else Err stops.TooManyPages) is

-- more pages than the limit
pub too_many : (world : World) (nodes : List PlanNode) (uses : Uses) (count limit : ℕ)
    → AreUses world nodes (length nodes) uses → count ≡ length uses.pages.uses.items → limit < count
    → pages_made limit world nodes ≡ Err stops.TooManyPages
too_many world nodes uses count limit are is more =
    let long = count_pages world nodes uses are in
    let no : nat_le (length (pages_of world nodes)) limit ≡ false = grind (arith, nat_tests) in
    by_count world nodes limit false no

-- no more than that
pub all_named : (world : World) (nodes : List PlanNode) (uses : Uses) (count limit : ℕ) (pages : List PagePlan)
    (faults : List Fault) → AreUses world nodes (length nodes) uses → count ≡ length uses.pages.uses.items
    → count ≤ limit → pages ≡ named_from 0 (contents_name ∷ []) (uses_shown uses.pages.uses.items)
    → faults ≡ uses.faults ++ flat_map (name_fault nodes) pages
    → pages_made limit world nodes ≡ Ok (record {
      pages = pages;
      targets = uses.targets;
      documents = uses.documents.names;
      faults = faults;
    })
all_named world nodes uses count limit pages faults are is few named met =
    let long = count_pages world nodes uses are in
    let yes : nat_le (length (pages_of world nodes)) limit ≡ true = grind (arith, nat_tests) in
    let pages_are : pages ≡ pages_of world nodes =
    named ∙ ap (named_from 0 (contents_name ∷ [])) (uses_are world nodes uses are) in
    let targets_are : uses.targets ≡ map (target_at world nodes) (places nodes) =
    are.targets ∙ ap (map (target_at world nodes)) (all_places nodes) in
    let documents_are : uses.documents.names ≡ each_once (filter_map (used_at world nodes) (places nodes)) =
    are.documents.are ∙ ap (λ at. each_once (filter_map (used_at world nodes) at)) (all_places nodes) in
    let faults_are : faults ≡ flat_map (faults_of world nodes) (places nodes) ++ flat_map (name_fault nodes)
    (pages_of world nodes) =
    met ∙ ap (λ fs. fs ++ flat_map (name_fault nodes) pages) (are.faults ∙ ap (flat_map (faults_of world nodes))
    (all_places nodes))
    ∙ ap (λ ps. flat_map (faults_of world nodes) (places nodes) ++ flat_map (name_fault nodes) ps) pages_are in
    by_count world nodes limit true yes
    ∙ ap Ok (sym (
    ap (λ ps. made ps uses.targets uses.documents.names faults) pages_are
    ∙ ap (λ ts. made (pages_of world nodes) ts uses.documents.names faults) targets_are
    ∙ ap (λ ds. made (pages_of world nodes) (map (target_at world nodes) (places nodes)) ds faults) documents_are
    ∙ ap (made (pages_of world nodes) (map (target_at world nodes) (places nodes))
    (each_once (filter_map (used_at world nodes) (places nodes)))) faults_are))
  where
    made : List PagePlan → List Target → List (List ℕ) → List Fault → PagesMade
    made pages targets documents faults =
        record { pages = pages; targets = targets; documents = documents; faults = faults }
