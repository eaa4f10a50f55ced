use Rattle.std.specs.Option.{option_copied}
use Rattle.std.specs.Prelude.{◌≤◌, List, length, map, slice_get, take}
use Rattle.std.proofs.Common.{refl, sym, ap, subst, ◌∙◌}
use Rattle.dita_doc.specs.declared.fact.Html.{Html}
use Rattle.dita_doc.specs.declared.fault.Fault.{Fault}
use Rattle.dita_doc.specs.declared.plan.PagePlan.{PagePlan}
use Rattle.map_spec.specs.Pushes.{pushed}
use Rattle.part_spec.specs.Parts.{page_part, page_parts, rooms}
use Rattle.reader_spec.specs.World.{world_of}
use Rattle.clean_build.specs.Bodies.{terms_wanted}
use Rattle.clean_build.specs.Made.{number_wanted, page_behind, page_content_of}
use Rattle.clean_build.proofs.PartLaws.{all_put, next_put, none_put, page_at, without_rows}
use Rattle.clean_build.proofs.PlanLaws.{plan_facts}
use Rattle.clean_build.proofs.TermLaws.{all_terms, next_terms}
use Rattle.clean_build.proofs.whole_build.put_parts.Goals as goal

pub loop-index-init : goal.loop-index-init
loop-index-init c =
    let world = world_of c.args.sources.now in
    let plan = c.args.ground.plan.now in record {
      goes_on = c.requires.goes_on;
      content = record {
        rules = c.new-content.ensures.rules world;
        places = c.new-content.ensures.places (pushed world plan.documents);
      };
      put = none_put world plan (option_copied c.args.ground.val) c.args.gathered.now c.requires.gathered;
      terms = c.new-terms.ensures;
    }

pub loop-index-preserved : goal.loop-index-preserved
loop-index-preserved c =
    let world = world_of c.args.sources.now in
    let ground = c.args.ground in
    let plan = ground.plan.now in
    let val = option_copied ground.val in
    let index = c.loop-index.index in
    let page = c.page-item.result in
    let names = map (λ (p : PagePlan). p.name) plan.pages in
    let parts = page_parts rooms world plan val in
    let wanted = c.args.with_terms in
    let topics = (plan_facts world ground.map.now val plan c.requires.plan).topics in
    let there = page_at plan.pages c.as_slice-page-items.result.now index page c.as_slice-page-items.ensures
    c.loop-index-test.true c.page-item.is in
    let place = c.in_ok-place_of.ensures.place in
    let made = c.in_ok-made.ensures.made.page (record { is = c.requires.plan; made = refl })
    (ap (slice_get plan.pages) place ∙ there) c.requires.links c.loop-index.invariant.content in
    let html = made.html ∙ ap (λ n. page_behind rooms world plan val n page c.new.result) place
    ∙ ap (λ (behind : List Fault). page_behind rooms world plan val index page behind) c.new.ensures in
    let same = (without_rows world plan val topics index page there).bytes ∙ ap (λ (h : Html). h.bytes) (sym html) in
    record {
      goes_on = c.in_ok-made.ensures.goes_on;
      content = made.content;
      put = next_put world plan val topics index page c.in_ok-clone.field-0 c.in_ok-made.made.html _ there
          c.in_ok-clone.ensures.cases html
          (c.in_ok-put.ensures.pages (take index names) (take index parts) (page_part rooms world plan val index)
          c.loop-index.invariant.put.put same)
          (c.in_ok-put.ensures.faults _ c.loop-index.invariant.put.good);
      terms = next_terms wanted world plan val index page c.in_ok-made.made.terms _ _ there
          (made.terms ∙ ap (λ n. terms_wanted (number_wanted wanted n) (page_content_of world plan val page).nodes) place)
          c.in_ok-append_terms.ensures c.loop-index.invariant.terms;
    }

pub put_contents-requires-clause-put : goal.put_contents-requires-clause-put
put_contents-requires-clause-put c =
    let enough = subst (λ (pages : List PagePlan). length pages ≤ c.loop-index.index) c.as_slice-page-items.ensures
    c.loop-index-test.false in
    all_put (world_of c.args.sources.now) c.args.ground.plan.now (option_copied c.args.ground.val) c.loop-index.index
    c.loop-index.gathered enough c.loop-index.invariant.put

pub returns-clause-terms : goal.returns-clause-terms
returns-clause-terms c =
    let enough = subst (λ (pages : List PagePlan). length pages ≤ c.loop-index.index) c.as_slice-page-items.ensures
    c.loop-index-test.false in
    all_terms c.args.with_terms (world_of c.args.sources.now) c.args.ground.plan.now (option_copied c.args.ground.val)
    c.loop-index.index c.loop-index.terms enough c.loop-index.invariant.terms
