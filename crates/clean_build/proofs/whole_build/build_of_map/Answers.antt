use Rattle.std.specs.Option.{option_copied}
use Rattle.std.specs.Prelude.{◌≡◌, Err, Ok, Option}
use Rattle.std.proofs.Common.{sym, ap, subst, ◌∙◌}
use Rattle.std.proofs.lemmas.Result.{IfOk-weaker}
use Rattle.build_plan.specs.declared.scoped.Planned.{Planned}
use Rattle.dita_doc.specs.declared.fact.Html.{Html}
use Rattle.map_spec.specs.PlanOf.{limits, plan_of}
use Rattle.part_spec.specs.Parts.{clean_build, parts_of, rooms}
use Rattle.plan_reader.specs.Keyed.{AreKeyed}
use Rattle.reader_spec.specs.World.{world_of}
use Rattle.readers.specs.Setting.{Stand}
use Rattle.clean_build.specs.Clean.{HasPageNames, clean_seen}
use Rattle.clean_build.specs.Gathering.{IsBuilt}
use Rattle.clean_build.specs.Terms.{page_of_build, page_of_plan}
use Rattle.clean_build.specs.declared.built.Clean.{Clean}
use Rattle.clean_build.proofs.PartLaws.{built_of_plan, plan_named, stop_given, stopped}
use Rattle.clean_build.proofs.TermLaws.{no_terms, terms_built}
use Rattle.clean_build.proofs.whole_build.build_of_map.Goals as goal

abbrev Given : Type 0
Given = Clean × Option Html

pub build_of_plan-requires-clause-sources : goal.build_of_plan-requires-clause-sources
build_of_plan-requires-clause-sources c =
    ap (λ (s : Stand). s.world) c.in-Ok.ensures.stand ∙ ap world_of c.new-reader.ensures.sources
    ∙ ap world_of c.new.ensures

pub build_of_plan-requires-clause-keyed : goal.build_of_plan-requires-clause-keyed
build_of_plan-requires-clause-keyed c =
    let found = c.in-Ok.found in
    let at_start = ap (λ (s : Stand). s.world) c.in-Ok.ensures.stand ∙ ap world_of c.new-reader.ensures.sources
    ∙ ap world_of c.new.ensures in
    let world = world_of c.planned.new.asker.known.sources.now in
    let agrees = c.planned.new.asker.agrees in
    subst (λ w. AreKeyed w found.plan.nodes found.homes found.table) at_start (record {
      elements = c.in-Ok.ensures.ready.elements world agrees;
      values = c.in-Ok.ensures.ready.values world agrees;
      scopes = c.in-Ok.ensures.ready.scopes;
      tabled = c.in-Ok.ensures.tabled world agrees;
    })

pub build_of_plan-requires-clause-plan : goal.build_of_plan-requires-clause-plan
build_of_plan-requires-clause-plan c =
    let at_start = ap (λ (s : Stand). s.world) c.in-Ok.ensures.stand ∙ ap world_of c.new-reader.ensures.sources
    ∙ ap world_of c.new.ensures in
    subst (λ w. plan_of limits w c.args.map.now (option_copied c.args.val) ≡ Ok c.in-Ok.found.plan) at_start
    (c.in-Ok.ensures.known _ c.planned.new.asker.agrees)

pub returns-in-Ok-clause-built : goal.returns-in-Ok-clause-built
returns-in-Ok-clause-built c =
    let world = world_of c.args.sources.now in
    let map = c.args.map.now in
    let val = option_copied c.args.val in
    let plan = c.in-Ok.found.plan in
    let at_start = ap (λ (s : Stand). s.world) c.in-Ok.ensures.stand ∙ ap world_of c.new-reader.ensures.sources
    ∙ ap world_of c.new.ensures in
    let is = subst (λ w. plan_of limits w map val ≡ Ok plan) at_start
    (c.in-Ok.ensures.known _ c.planned.new.asker.agrees) in
    IfOk-weaker c.build_of_plan.result (λ (gave : Given). IsBuilt plan (parts_of rooms world plan val) gave.0)
    (λ (gave : Given). clean_seen gave.0 ≡ clean_build world map val)
    (λ gave built. built_of_plan world map val plan gave.0 is built)
    c.build_of_plan.ensures.built

pub returns-in-Ok-clause-names : goal.returns-in-Ok-clause-names
returns-in-Ok-clause-names c =
    let world = world_of c.args.sources.now in
    let map = c.args.map.now in
    let val = option_copied c.args.val in
    let plan = c.in-Ok.found.plan in
    let at_start = ap (λ (s : Stand). s.world) c.in-Ok.ensures.stand ∙ ap world_of c.new-reader.ensures.sources
    ∙ ap world_of c.new.ensures in
    let is = subst (λ w. plan_of limits w map val ≡ Ok plan) at_start
    (c.in-Ok.ensures.known _ c.planned.new.asker.agrees) in
    IfOk-weaker c.build_of_plan.result (λ (gave : Given). IsBuilt plan (parts_of rooms world plan val) gave.0)
    (λ (gave : Given). HasPageNames gave.0)
    (λ gave built. built.names (plan_named world map val plan is))
    c.build_of_plan.ensures.built

pub returns-in-Ok-clause-terms : goal.returns-in-Ok-clause-terms
returns-in-Ok-clause-terms c =
    let world = world_of c.args.sources.now in
    let map = c.args.map.now in
    let val = option_copied c.args.val in
    let plan = c.in-Ok.found.plan in
    let at_start = ap (λ (s : Stand). s.world) c.in-Ok.ensures.stand ∙ ap world_of c.new-reader.ensures.sources
    ∙ ap world_of c.new.ensures in
    let is = subst (λ w. plan_of limits w map val ≡ Ok plan) at_start
    (c.in-Ok.ensures.known _ c.planned.new.asker.agrees) in
    let wanted = c.args.with_terms in
    IfOk-weaker c.build_of_plan.result (λ (gave : Given). gave.1 ≡ page_of_plan wanted world plan val)
    (λ (gave : Given). gave.1 ≡ page_of_build wanted world map val)
    (λ gave made. terms_built wanted world map val plan gave.1 is made)
    c.build_of_plan.ensures.terms

pub returns-in-Err-Fault-clause-built : goal.returns-in-Err-Fault-clause-built
returns-in-Err-Fault-clause-built c =
    let map = c.args.map.now in
    let val = option_copied c.args.val in
    let at_start = ap (λ (s : Stand). s.world) c.in-Err-Fault.ensures.stand ∙ ap world_of c.new-reader.ensures.sources
    ∙ ap world_of c.new.ensures in
    let is = stop_given (λ (p : Planned). p.plan) _ _ _ c.in-Err-Fault.field-0-is
    (c.in-Err-Fault.ensures.known _ c.planned.new.asker.agrees) in
    stopped (world_of c.args.sources.now) map val _
    (ap (λ w. plan_of limits w map val) (sym at_start) ∙ is ∙ ap (λ stop. Err stop) (sym c.in-Err-Fault.stop-is))

pub returns-in-Err-Fault-clause-terms : goal.returns-in-Err-Fault-clause-terms
returns-in-Err-Fault-clause-terms c =
    let map = c.args.map.now in
    let val = option_copied c.args.val in
    let at_start = ap (λ (s : Stand). s.world) c.in-Err-Fault.ensures.stand ∙ ap world_of c.new-reader.ensures.sources
    ∙ ap world_of c.new.ensures in
    let is = stop_given (λ (p : Planned). p.plan) _ _ _ c.in-Err-Fault.field-0-is
    (c.in-Err-Fault.ensures.known _ c.planned.new.asker.agrees) in
    no_terms c.args.with_terms (world_of c.args.sources.now) map val _
    (ap (λ w. plan_of limits w map val) (sym at_start) ∙ is ∙ ap (λ stop. Err stop) (sym c.in-Err-Fault.stop-is))
