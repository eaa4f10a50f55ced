-- The documents that nodes use may be asked about: an answer of a key gives them, or an href of a told element.
use Rattle.std.specs.Prelude.{◌≡◌, ℕ, Bool, true, false, List, [], ◌∷◌, Option, Some, None, Result, Ok, Err, IfOk, codes, map, option_map, slice_get, if◌then◌else◌}
use Rattle.std.specs.Option.{option_and_then, option_to_list}
use Rattle.std.proofs.Common.{refl, sym, ap, subst, ◌∙◌}
use Rattle.std.proofs.lemmas.Option.{slice_get-map}
use Rattle.dita_doc.specs.declared.content.KeyAnswer.{KeyAnswer}
use Rattle.dita_doc.specs.declared.fault.Fault.{Fault}
use Rattle.dita_doc.specs.declared.plan.PlanNode.{PlanNode}
use Rattle.dita_doc.specs.declared.plan.Target.{Target}
use Rattle.dita_doc.specs.declared.plan.Target.TheVariants as targets
use Rattle.dita_doc.specs.declared.stop.NoMemory.{NoMemory}
use Rattle.map_spec.specs.Cascade.{whole_at}
use Rattle.map_spec.specs.Elements.{attribute}
use Rattle.map_spec.specs.Pages.{aim_read, local_name}
use Rattle.map_spec.specs.Target.{target_by}
use Rattle.map_spec.specs.Written.{Whole}
use Rattle.plan_nodes.specs.Given.{AreTold}
use Rattle.plan_nodes.specs.Home as home
use Rattle.plan_nodes.proofs.GivenLaws.{element_told_later, may_target}
use Rattle.plan_nodes.proofs.TargetLaws.{doc_there}
use Rattle.reader_spec.specs.World.{World}
use Rattle.readers.specs.Founded.{AreAllowed, Grows, StaysFounded, homes}
use Rattle.readers.specs.Told.{Told, key}
use Rattle.readers.proofs.FoundedLaws.{given_allowed, none_allowed, one_allowed, stays_after, stays_then}
use Rattle.page_names.specs.Aims.{IsAim, IsGiven, IsHrefOf, MayName, names_of_target}

-- The href of a node

href_found : (told : List Told) (homes : List (Option Whole)) (at : ℕ) (world : World) (nodes : List PlanNode)
    (node : PlanNode) (value : List ℕ) (found : Option (Option Whole)) → AreTold told homes
    → homes ≡ map (whole_at world) nodes → slice_get nodes at ≡ Some node → slice_get homes at ≡ found
    → option_and_then (λ (whole : Whole). attribute (codes "href") whole.0)
    (option_and_then (λ (whole : Option Whole). whole) found) ≡ Some value → IsHrefOf told node.doc value
href_found told homes at world nodes node value None are is there same has = cc
href_found told homes at world nodes node value (Some None) are is there same has = cc
href_found told homes at world nodes node value (Some (Some whole)) are is there same has =
    let here : Some (whole_at world node) ≡ Some (Some whole) =
    sym (ap (λ all. slice_get all at) is ∙ slice_get-map (whole_at world) nodes at ∙ ap
    (option_map (whole_at world)) there)
    ∙ same in
    let whole_is : whole_at world node ≡ Some whole = cc in
    record {
      element = whole.0;
      was = are.each at whole same;
      stands = doc_there world node whole whole_is;
      has = has;
    }

pub given_home : (told : List Told) (homes : List (Option Whole)) (at : ℕ) (world : World) (nodes : List PlanNode)
    (node : PlanNode) → AreTold told homes → homes ≡ map (whole_at world) nodes → slice_get nodes at ≡ Some node
    → IsGiven told node.doc (home.value_at homes at (codes "href"))
given_home told homes at world nodes node are is there = record {
  each = λ value has. href_found told homes at world nodes node value (slice_get homes at) are is there refl has;
}

-- what was given goes on to be
pub given_later : (old new : List Told) (doc : List ℕ) (href : Option (List ℕ)) → Grows old new → IsGiven old doc href
    → IsGiven new doc href
given_later old new doc href grows given = record {
  each = λ value is. (let before = given.each value is in record {
    element = before.element;
    was = element_told_later old new before.element grows before.was;
    stands = before.stands;
    has = before.has;
  });
}

-- The document of a target

pub nothing_named : (told : List Told) (target : Target) → names_of_target target ≡ [] → MayName told target
nothing_named told target none =
    record { by = λ roots. subst (AreAllowed roots told) (sym none) (none_allowed roots told) }

read_named : (told : List Told) (doc href format scope : List ℕ) (read : Target) → IsHrefOf told doc href
    → target_by href format scope doc ≡ Some read → MayName told read
read_named told doc href format scope targets.Nothing given is = nothing_named told targets.Nothing refl
read_named told doc href format scope (targets.File name rest) given is = nothing_named told
    (targets.File name rest) refl
read_named told doc href format scope (targets.Other value) given is = nothing_named told (targets.Other value) refl
read_named told doc href format scope (targets.Local name reference) given is = record {
  by = λ roots. one_allowed roots told name
      (may_target told given.element href format scope name reference given.was given.has
      (ap (target_by href format scope) given.stands ∙ is) roots);
}

aim_named : (told : List Told) (node : PlanNode) (href format scope : List ℕ) (read : Option Target) (target : Target)
    → IsHrefOf told node.doc href → read ≡ target_by href format scope node.doc
    → target ≡ (aim_read node href read).target → MayName told target
aim_named told node href format scope None target given is leads =
    subst (MayName told) (sym leads) (nothing_named told targets.Nothing refl)
aim_named told node href format scope (Some read) target given is leads =
    subst (MayName told) (sym leads) (read_named told node.doc href format scope read given (sym is))

-- what an href leads to
pub href_named : (told : List Told) (node : PlanNode) (found : Option (List ℕ)) (href format scope : List ℕ)
    (read : Option Target) (result : Result Target NoMemory) (old new : List Fault) → IsGiven told node.doc found
    → found ≡ Some href → read ≡ target_by href format scope node.doc
    → IfOk result (λ target. IsAim (aim_read node href read) target old new)
    → IfOk result (λ target. MayName told target)
href_named told node found href format scope read (Ok target) old new given some is leads =
    aim_named told node href format scope read target (given.each href some) is leads.leads
href_named told node found href format scope read (Err stop) old new given some is leads = tt

-- what the answer of a key leads to
pub answer_named : (nodes : List PlanNode) (scope : ℕ) (text : List ℕ) (answer : KeyAnswer) (old new : List Told)
    → new ≡ key nodes scope text answer ∷ old → MayName new answer.target
answer_named nodes scope text answer old new is =
    record { by = λ roots. given_allowed roots (key nodes scope text answer) old new is }

-- Calls

-- a call about a document that may not be used
pub some_founded : (found : Option (List ℕ)) (name : List ℕ) (old new : List Told) → found ≡ Some name
    → StaysFounded (name ∷ []) old new → StaysFounded (option_to_list found) old new
some_founded found name old new some stays =
    subst (λ f. StaysFounded (option_to_list f) old new) (sym some) stays

none_or_named : (told : List Told) (roots : List (List ℕ)) (target : Target) (is_in : Bool) (used : Option (List ℕ))
    → MayName told target → used ≡ (if is_in then None else local_name target)
    → AreAllowed roots told (option_to_list used)
none_or_named told roots target true used may is =
    subst (λ u. AreAllowed roots told (option_to_list u)) (sym is) (none_allowed roots told)
none_or_named told roots target false used may is =
    subst (λ u. AreAllowed roots told (option_to_list u)) (sym is) (may.by roots)

-- a call about the document that a node uses
pub used_founded : (names : List (List ℕ)) (a b c : List Told) (target : Target) (is_in : Bool)
    (used : Option (List ℕ)) → StaysFounded names a b → MayName b target
    → used ≡ (if is_in then None else local_name target) → StaysFounded (option_to_list used) b c
    → StaysFounded names a c
used_founded names a b c target is_in used before may is next = stays_then names (option_to_list used) a b c before
    (λ roots allowed. none_or_named b roots target is_in used may is) next

-- a call about the homes of nodes that are known
pub known_founded : (known nodes : List PlanNode) (a b c : List Told) → known ≡ nodes → Grows a b
    → StaysFounded (homes nodes) a b → StaysFounded (homes known) b c → StaysFounded (homes nodes) a c
known_founded known nodes a b c same grows before next = stays_after (homes nodes) a b c grows before
    (subst (λ ns. StaysFounded (homes ns) b c) same next)
