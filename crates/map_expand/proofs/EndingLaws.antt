-- A whole map is begun and ended.
use Rattle.std.specs.Prelude.{◌≡◌, ◌+◌, ◌-◌, ◌<◌, ◌≤◌, ℕ, suc, Bool, true, false, List, [], ◌∷◌, ◌++◌, Option, Some, None, Result, Ok, Err, length, if◌then◌else◌}
use Rattle.std.specs.BTreeMap.{get}
use Rattle.std.specs.Cmp.Lexicographic.{slice_cmp}
use Rattle.std.specs.Option.{option_and_then}
use Rattle.std.specs.Ordering.{nat_cmp}
use Rattle.std.specs.Result.{result_map_both}
use Rattle.std.proofs.Common.{refl, sym, ap, ◌∙◌, arith, subst}
use Rattle.std.proofs.lemmas.Bool.{le-leb, lt-leb}
use Rattle.dita_doc.specs.Gives.{Gives}
use Rattle.dita_doc.specs.declared.fault.Fault.{Fault}
use Rattle.dita_doc.specs.declared.plan.Expanded.{Expanded}
use Rattle.dita_doc.specs.declared.plan.PlanNode.{PlanNode}
use Rattle.dita_doc.specs.declared.plan.PlanStop.{PlanStop}
use Rattle.dita_doc.specs.declared.plan.PlanStop.TheVariants as stops
use Rattle.dita_doc.specs.declared.stop.Stop.{Stop}
use Rattle.dita_doc.specs.declared.stop.Stop.TheVariants as stop
use Rattle.map_spec.specs.Included.{expanded, if_map, included, included_from, is_map, limited, map_in, map_included, map_node_limit, root_in}
use Rattle.map_spec.specs.MapTree.{Grown, count, plan_nodes}
use Rattle.map_spec.specs.Written.{Whole}
use Rattle.plan_nodes.specs.Preorder.{HasOneRoot}
use Rattle.reader_spec.specs.World.{World}
use Rattle.map_lemmas.proofs.TreeLaws.{length_below}
use Rattle.readers.specs.Told.{Told}
use Rattle.map_expand.specs.Ending.{why_none}
use Rattle.map_expand.specs.Going.{AreApart, IsOver, Ready, homes_of}
use Rattle.map_expand.specs.Homes.{Home, flag_at, homes}
use Rattle.map_expand.specs.Known.{MapsFit}
use Rattle.map_expand.specs.Making.{AllFit, MadeNodes, after, made_of, path_of, put, whole_map, without_ends}
use Rattle.map_expand.specs.declared.expansion.Expansion.{Expansion}
use Rattle.map_expand.specs.declared.maps.Maps.{Maps}
use Rattle.map_expand.specs.declared.work.Work.{Work}
use Rattle.map_expand.proofs.AskedForLaws.{none_asked}
use Rattle.map_expand.proofs.MakingLaws.{length_without}

-- Begins

-- no maps are known yet
pub maps_new : (told : List Told) (maps : Maps) → ((name : List ℕ) → get (slice_cmp nat_cmp) maps.known name ≡ None)
    → maps.maps.items ≡ [] → MapsFit told maps
maps_new told maps empty none =
    let homes_none : homes_of maps ≡ [] = ap homes none in
    record {
      knows = λ world agrees name. rw (empty name) tt;
      stored = λ at within. absurd (outside (homes_of maps) at homes_none within);
      fits = λ at within. absurd (outside (homes_of maps) at homes_none within);
      names = λ name at is. absurd (none_some _ (sym (empty name) ∙ is));
      tells = λ at within. absurd (outside (homes_of maps) at homes_none within);
    }
  where
    outside : (all : List Home) (at : ℕ) → all ≡ [] → at < length all → ⊥
    outside all at is within = omega (arith, ap (λ l. length l) is, within)

    none_some : (a : Option ℕ) → None ≡ Some a → ⊥
    none_some a same = cc

pub ready_new : (told : List Told) (maps : Maps) (x : Expansion) → MapsFit told maps
    → ((at : ℕ) → flag_at maps.maps.items at ≡ false) → x.left.items ≡ [] → x.nodes ≡ []
    → Ready told maps x
ready_new told maps x fits free none empty = record {
  maps_fit = fits;
  work = subst (AllFit (homes_of maps) (length x.nodes)) (sym none) tt;
  around = λ at within. rw none (free at);
  apart = subst (λ l. AreApart (path_of (homes_of maps) l)) (sym none) tt;
  asked = none_asked told x.nodes empty;
}

pub begun : (world : World) (homes : List Home) (left : List Work) (nodes : List PlanNode) (faults : List Fault) (name : List ℕ)
    (root : Whole) → left ≡ [] → nodes ≡ [] → faults ≡ []
    → after world homes [] left
    (put 0 (whole_map world (path_of homes left ++ name ∷ []) 0 root) (made_of nodes faults))
    ≡ put 0 (whole_map world (name ∷ []) 0 root) (made_of [] [])
begun world homes left nodes faults name root none empty clean =
    ap (λ l. after world homes [] l (put 0 (whole_map world (path_of homes l ++ name ∷ []) 0 root) (made_of nodes faults))) none
    ∙ ap (λ n. put 0 (whole_map world (name ∷ []) 0 root) (made_of n faults)) empty
    ∙ ap (λ f. put 0 (whole_map world (name ∷ []) 0 root) (made_of [] f)) clean

-- Ends

pub one_root : (world : World) (path : List (List ℕ)) (level : ℕ) (root : Whole) → level ≤ map_node_limit
    → HasOneRoot (whole_map world path level root).tree
unfolding map_included
one_root world path level root fits =
    let fuel : map_node_limit + 1 - level ≡ suc (map_node_limit - level) = omega arith in
    subst (λ n. HasOneRoot (map_included n world path level root).tree) (sym fuel) refl

abbrev pub given : Result Grown PlanStop → Result Expanded PlanStop
given grown = result_map_both expanded (λ stop. stop) grown

pub all_of : (grown : Grown) (nodes : List PlanNode) (faults : List Fault)
    → made_of nodes faults ≡ put 0 grown (made_of [] [])
    → (without_ends nodes ≡ without_ends (plan_nodes grown.tree)) × (faults ≡ grown.faults)
    × (length nodes ≡ count grown.tree)
all_of grown nodes faults is =
    let same : without_ends nodes ≡ without_ends (plan_nodes grown.tree) = ap (λ (m : MadeNodes). m.nodes) is in (
      same,
      ap (λ (m : MadeNodes). m.faults) is,
      sym (length_without nodes) ∙ ap (λ l. length l) same ∙ length_without (plan_nodes grown.tree)
          ∙ length_below 0 0 grown.tree,
    )

pub finished : (grown : Grown) (made : Expanded) → made.nodes ≡ plan_nodes grown.tree → made.faults ≡ grown.faults
    → count grown.tree ≤ map_node_limit → given (limited map_node_limit grown) ≡ Ok made
finished grown made nodes faults fits =
    ap (λ (t : Bool). given (if t then Ok grown else Err stops.TooManyNodes))
    (le-leb (count grown.tree) map_node_limit fits)
    ∙ ap Ok (same_expanded (plan_nodes grown.tree) made.nodes grown.faults made.faults (sym nodes) (sym faults))
  where
    same_expanded : (a b : List PlanNode) (f h : List Fault) → a ≡ b → f ≡ h
        → (let one : Expanded = record { nodes = a; faults = f } in one) ≡ record { nodes = b; faults = h }
    same_expanded a b f h e g = rw (e, g) refl

pub stopped : (end : Stop PlanStop) (grown : Grown) (all : MadeNodes) → all ≡ put 0 grown (made_of [] [])
    → IsOver end all
    → Gives {A = Expanded} (Err end) (given (limited map_node_limit grown))
stopped (stop.Fault fault) grown all is over =
    let many : length all.nodes ≡ count grown.tree =
    ap (λ (m : MadeNodes). length m.nodes) is ∙ length_without (plan_nodes grown.tree) ∙ length_below 0 0 grown.tree in
    ap (λ (t : Bool). given (if t then Ok grown else Err stops.TooManyNodes))
    (lt-leb (count grown.tree) map_node_limit (omega (arith, many, over.1)))
    ∙ ap Err (sym over.0)
stopped stop.NoMemory grown all is over = tt

pub none_left : (world : World) (homes : List Home) (left : List Work) (made all : MadeNodes) → left ≡ []
    → after world homes [] left made ≡ all → made ≡ all
none_left world homes left made all none is = sym (ap (λ l. after world homes [] l made) none) ∙ is

-- By the root

pub is_map_root : (limit : ℕ) (world : World) (name : List ℕ) (found : Option Whole) (root : Whole)
    → option_and_then if_map found ≡ Some root
    → included_from limit world name found ≡ limited limit (map_included (limit + 1) world (name ∷ []) 0 root)
is_map_root limit world name None root is = cc
is_map_root limit world name (Some one) root is = by_test (is_map one) refl is
  where
    by_test : (test : Bool) → is_map one ≡ test → (if test then Some one else None) ≡ Some root
        → (if test then limited limit (map_included (limit + 1) world (name ∷ []) 0 one) else Err stops.NotMap)
        ≡ limited limit (map_included (limit + 1) world (name ∷ []) 0 root)
    by_test true t e = let same : one ≡ root = cc in
        ap (λ r. limited limit (map_included (limit + 1) world (name ∷ []) 0 r)) same
    by_test false t e = cc

pub no_map_root : (limit : ℕ) (world : World) (name : List ℕ) (found : Option Whole)
    → option_and_then if_map found ≡ None → included_from limit world name found ≡ Err (why_none found)
no_map_root limit world name None is = refl
no_map_root limit world name (Some one) is = by_test (is_map one) is
  where
    by_test : (test : Bool) → (if test then Some one else None) ≡ None
        → (if test then limited limit (map_included (limit + 1) world (name ∷ []) 0 one) else Err stops.NotMap)
        ≡ Err stops.NotMap
    by_test true e = cc
    by_test false e = refl

-- which is what the definition gives for the name
pub given_map : (world : World) (name other : List ℕ) (root : Whole) → other ≡ name → map_in world name ≡ Some root
    → given (limited map_node_limit (whole_map world (other ∷ []) 0 root)) ≡ given (included map_node_limit world name)
given_map world name other root same is =
    ap (λ n. given (limited map_node_limit (whole_map world (n ∷ []) 0 root))) same
    ∙ ap given (sym (is_map_root map_node_limit world name (root_in world name) root is))

pub given_none : (world : World) (name : List ℕ) (end : PlanStop) → map_in world name ≡ None
    → end ≡ why_none (root_in world name) → given (included map_node_limit world name) ≡ Err end
given_none world name end none is =
    ap given (no_map_root map_node_limit world name (root_in world name) none) ∙ ap Err (sym is)
