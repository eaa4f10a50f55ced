use Rattle.std.specs.Option.{option_copied}
use Rattle.std.specs.Prelude.{map}
use Rattle.std.proofs.Common.{refl, sym, ap}
use Rattle.dita_doc.specs.declared.fact.Html.{Html}
use Rattle.dita_doc.specs.declared.plan.PagePlan.{PagePlan}
use Rattle.part_spec.specs.Parts.{contents_part, page_parts, rooms}
use Rattle.reader_spec.specs.World.{world_of}
use Rattle.clean_build.proofs.PartLaws.{contents_put}
use Rattle.clean_build.proofs.whole_build.put_contents.Goals as goal

pub returns-clause-put : goal.returns-clause-put
returns-clause-put c =
    let world = world_of c.args.sources.now in
    let plan = c.args.ground.plan.now in
    let val = option_copied c.args.ground.val in
    let has = c.requires.put in
    let html = c.in_ok-html.ensures.made (record { is = c.requires.plan; made = refl }) in
    contents_put world plan val c.in_ok-contents_name.field-0 c.in_ok-html.html c.put.new.self
    c.in_ok-contents_name.ensures html
    (c.in_ok-put.ensures.pages (map (λ (p : PagePlan). p.name) plan.pages) (page_parts rooms world plan val)
    (contents_part world plan) has.put (ap (λ (h : Html). h.bytes) (sym html)))
    (c.in_ok-put.ensures.faults _ has.good)
