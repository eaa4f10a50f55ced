use Rattle.std.proofs.Common.{◌∙◌, ap, sym, subst}
use Rattle.std.specs.Option.{option_copied}
use Rattle.std.specs.Result.{result_map_both}
use Rattle.std.proofs.lemmas.Result.{IfOk-weaker}
use Rattle.dita_doc.specs.Gives.{GivesSeen}
use Rattle.map_spec.specs.PlanOf.{build_rules, few_pages, limits, plan_of, plan_with}
use Rattle.map_expand.proofs.AskedForLaws.{asked_allowed}
use Rattle.readers.proofs.DocumentLaws.{asks_after}
use Rattle.readers.proofs.FoundedLaws.{stays_after}
use Rattle.readers.proofs.GrowthLaws.{agrees_before, founded_before, grows_trans}
use Rattle.build_plan.specs.Documents.{build_names, plan_targets}
use Rattle.build_plan.specs.Stages.{cascaded_map, copied_map}
use Rattle.build_plan.specs.declared.scoped.Planned.{Planned}
use Rattle.build_plan.proofs.GivenLaws.{nodes_may}
use Rattle.build_plan.proofs.PlanLaws.{no_map, no_nodes, no_rules, stops_by, with_nodes}
use Rattle.build_plan.proofs.TellLaws.{asks_again, asks_map, asks_root, asks_val, stays_given, stays_map, stays_val}
use Rattle.build_plan.proofs.steps.planned.Goals as goal

pub returns-in-Some-clause-known : goal.returns-in-Some-clause-known
returns-in-Some-clause-known g c = λ world agrees.
    no_map world c.args.map.now (option_copied c.args.val) c.in-Some.stop
    (sym c.in-Some.is ∙ c.in_ok-stop.ensures.known world agrees)

pub returns-in-Err-clause-known : goal.returns-in-Err-clause-known
returns-in-Err-clause-known g c = λ world agrees.
    let name = c.args.map.now in
    let val = option_copied c.args.val in
    let there = sym c.in_default.is
    ∙ c.in_ok-stop.ensures.known world (agrees_before world _ _ c.rules_of_build.ensures.grows agrees) in
    stops_by (λ (p : Planned). p.plan) c.in-Err.stop (build_rules world val) (plan_of limits world name val)
    (no_rules world name val there) (c.in-Err.ensures.known world agrees)

pub returns-in-Err-clause-founded : goal.returns-in-Err-clause-founded
returns-in-Err-clause-founded g c =
    let name = c.args.map.now in
    let val = option_copied c.args.val in
    stays_after _ _ _ _ c.why_no_map.ensures.grows (stays_map name val _ _ c.why_no_map.ensures.founded)
    (stays_val name val _ _ c.rules_of_build.ensures.founded)

pub returns-in-Err-nodes_of_map-clause-known : goal.returns-in-Err-nodes_of_map-clause-known
returns-in-Err-nodes_of_map-clause-known g c = λ world agrees.
    let name = c.args.map.now in
    let val = option_copied c.args.val in
    let read = c.in-Ok.read in
    let at_rules = agrees_before world _ _ c.nodes_of_map.ensures.grows agrees in
    let at_map = agrees_before world _ _ c.rules_of_build.ensures.grows at_rules in
    let there = sym c.in_default.is ∙ c.in_ok-stop.ensures.known world at_map in
    stops_by (λ (p : Planned). p.plan) c.in-Err-nodes_of_map.stop
    (result_map_both (cascaded_map world) (λ e. e) (copied_map world read.rules name)) (plan_of limits world name val)
    (no_nodes world name val there read (c.in-Ok.ensures.known world at_rules))
    (c.in-Err-nodes_of_map.ensures.known world agrees)

pub returns-in-Err-nodes_of_map-clause-founded : goal.returns-in-Err-nodes_of_map-clause-founded
returns-in-Err-nodes_of_map-clause-founded g c =
    let name = c.args.map.now in
    let val = option_copied c.args.val in
    stays_after _ _ _ _ (grows_trans _ _ _ c.why_no_map.ensures.grows c.rules_of_build.ensures.grows)
    (stays_after _ _ _ _ c.why_no_map.ensures.grows (stays_map name val _ _ c.why_no_map.ensures.founded)
    (stays_val name val _ _ c.rules_of_build.ensures.founded))
    (stays_map name val _ _ c.nodes_of_map.ensures.founded)

pub returns-in_err-append_faults-clause-founded : goal.returns-in_err-append_faults-clause-founded
returns-in_err-append_faults-clause-founded g c =
    let name = c.args.map.now in
    let val = option_copied c.args.val in
    stays_after _ _ _ _ (grows_trans _ _ _ c.why_no_map.ensures.grows c.rules_of_build.ensures.grows)
    (stays_after _ _ _ _ c.why_no_map.ensures.grows (stays_map name val _ _ c.why_no_map.ensures.founded)
    (stays_val name val _ _ c.rules_of_build.ensures.founded))
    (stays_map name val _ _ c.nodes_of_map.ensures.founded)

pub returns-clause-known : goal.returns-clause-known
returns-clause-known g c = λ world agrees.
    let name = c.args.map.now in
    let val = option_copied c.args.val in
    let read = c.in-Ok.read in
    let made = c.in-Ok-nodes_of_map.made in
    let at_nodes = agrees_before world _ _ c.plan_of_nodes.ensures.grows agrees in
    let at_rules = agrees_before world _ _ c.nodes_of_map.ensures.grows at_nodes in
    let at_map = agrees_before world _ _ c.rules_of_build.ensures.grows at_rules in
    let there = sym c.in_default.is ∙ c.in_ok-stop.ensures.known world at_map in
    subst (GivesSeen (λ (p : Planned). p.plan) c.plan_of_nodes.result)
    (ap (λ faults. few_pages limits.pages (plan_with world faults made.nodes)) c.in_ok-append_faults.ensures
    ∙ sym (with_nodes world name val there read (c.in-Ok.ensures.known world at_rules) made
    (c.in-Ok-nodes_of_map.ensures.known world at_nodes)))
    (c.plan_of_nodes.ensures.known world agrees)

pub returns-clause-founded : goal.returns-clause-founded
returns-clause-founded g c =
    let name = c.args.map.now in
    let val = option_copied c.args.val in
    let first = grows_trans _ _ _ c.why_no_map.ensures.grows c.rules_of_build.ensures.grows in
    stays_after _ _ _ _ (grows_trans _ _ _ first c.nodes_of_map.ensures.grows)
    (stays_after _ _ _ _ first
    (stays_after _ _ _ _ c.why_no_map.ensures.grows (stays_map name val _ _ c.why_no_map.ensures.founded)
    (stays_val name val _ _ c.rules_of_build.ensures.founded))
    (stays_map name val _ _ c.nodes_of_map.ensures.founded))
    (stays_given (build_names name val) _ _ _
    (λ roots founded. asked_allowed roots _ _ founded c.in-Ok-nodes_of_map.ensures.asked) c.plan_of_nodes.ensures.founded)

pub returns-clause-grows : goal.returns-clause-grows
returns-clause-grows g c = grows_trans _ _ _ (grows_trans _ _ _
    (grows_trans _ _ _ c.why_no_map.ensures.grows c.rules_of_build.ensures.grows) c.nodes_of_map.ensures.grows)
    c.plan_of_nodes.ensures.grows

pub returns-in_err-stop-clause-asks : goal.returns-in_err-stop-clause-asks
returns-in_err-stop-clause-asks g c =
    let name = c.args.map.now in
    let val = option_copied c.args.val in
    asks_root name val _ _ c.why_no_map.ensures.asks

pub returns-in-Some-clause-asks : goal.returns-in-Some-clause-asks
returns-in-Some-clause-asks g c =
    let name = c.args.map.now in
    let val = option_copied c.args.val in
    asks_root name val _ _ c.why_no_map.ensures.asks

pub returns-in-Err-clause-asks : goal.returns-in-Err-clause-asks
returns-in-Err-clause-asks g c =
    let name = c.args.map.now in
    let val = option_copied c.args.val in
    asks_after _ _ _ _ _ c.why_no_map.ensures.grows (asks_root name val _ _ c.why_no_map.ensures.asks)
    (asks_val name val _ _ c.rules_of_build.ensures.asks)

pub returns-in-Err-nodes_of_map-clause-asks : goal.returns-in-Err-nodes_of_map-clause-asks
returns-in-Err-nodes_of_map-clause-asks g c =
    let name = c.args.map.now in
    let val = option_copied c.args.val in
    let first = grows_trans _ _ _ c.why_no_map.ensures.grows c.rules_of_build.ensures.grows in
    asks_after _ _ _ _ _ first (asks_after _ _ _ _ _ c.why_no_map.ensures.grows (asks_root name val _ _ c.why_no_map.ensures.asks)
    (asks_val name val _ _ c.rules_of_build.ensures.asks))
    (asks_map plan_targets name val _ _ c.nodes_of_map.ensures.asks)

pub returns-in_err-append_faults-clause-asks : goal.returns-in_err-append_faults-clause-asks
returns-in_err-append_faults-clause-asks g c =
    let name = c.args.map.now in
    let val = option_copied c.args.val in
    let first = grows_trans _ _ _ c.why_no_map.ensures.grows c.rules_of_build.ensures.grows in
    asks_after _ _ _ _ _ first (asks_after _ _ _ _ _ c.why_no_map.ensures.grows (asks_root name val _ _ c.why_no_map.ensures.asks)
    (asks_val name val _ _ c.rules_of_build.ensures.asks))
    (asks_map plan_targets name val _ _ c.nodes_of_map.ensures.asks)

pub returns-clause-asks : goal.returns-clause-asks
returns-clause-asks g c =
    let name = c.args.map.now in
    let val = option_copied c.args.val in
    let first = grows_trans _ _ _ c.why_no_map.ensures.grows c.rules_of_build.ensures.grows in
    asks_again (build_names name val) _ _ _ _ (asks_after _ _ _ _ _ first (asks_after _ _ _ _ _ c.why_no_map.ensures.grows (asks_root name val _ _ c.why_no_map.ensures.asks)
    (asks_val name val _ _ c.rules_of_build.ensures.asks))
    (asks_map plan_targets name val _ _ c.nodes_of_map.ensures.asks))
    c.in-Ok-nodes_of_map.ensures.asked c.plan_of_nodes.ensures.asks

pub returns-clause-given : goal.returns-clause-given
returns-clause-given g c =
    let grows = c.plan_of_nodes.ensures.grows in
    IfOk-weaker c.plan_of_nodes.result _ _ (λ planned are roots founded.
    nodes_may roots _ _ c.in-Ok-nodes_of_map.made.nodes _ are grows
    (asked_allowed roots _ _ (founded_before roots _ _ grows founded) c.in-Ok-nodes_of_map.ensures.asked)
    (c.in-Ok-nodes_of_map.ensures.filters roots)) c.plan_of_nodes.ensures.nodes

pub returns-in_err-stop-clause-founded : goal.returns-in_err-stop-clause-founded
returns-in_err-stop-clause-founded g c =
    stays_map c.args.map.now (option_copied c.args.val) _ _ c.why_no_map.ensures.founded

pub returns-in-Some-clause-founded : goal.returns-in-Some-clause-founded
returns-in-Some-clause-founded g c =
    stays_map c.args.map.now (option_copied c.args.val) _ _ c.why_no_map.ensures.founded
