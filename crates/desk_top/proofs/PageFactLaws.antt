-- A sound page or contents page that agrees with some sources has HTML, whose last line is ended.
use Rattle.std.proofs.Common.{◌≡◌, ◌++◌, ℕ, Bool, List, [], ◌∷◌, Option, Some, None, Result, Ok, Err, true, false, IsSome, codes, refl, sym, ap, ◌∙◌, subst, append_assoc, nat_le, length, true≢false, if◌then◌else◌, slice_get}
use Rattle.std.specs.Arc.{arc_value}
use Rattle.std.specs.Option.{option_map_or}
use Rattle.std.specs.declared.alloc.Global.{Global}
use Rattle.std.specs.declared.sync.Arc.{Arc}
use Rattle.dita_doc.specs.Lines.{ends_with_line, line}
use Rattle.dita_doc.specs.HtmlEscapes.{escaped}
use Rattle.dita_doc.proofs.LinesLaws.{ends_after}
use Rattle.dita_doc.specs.declared.content.PageLink.{PageLink}
use Rattle.dita_doc.specs.declared.fact.Html.{Html}
use Rattle.dita_doc.specs.declared.fact.Part.{Part}
use Rattle.dita_doc.specs.declared.fact.Part.TheVariants as parts
use Rattle.dita_doc.specs.declared.plan.PagePlan.{PagePlan}
use Rattle.dita_doc.specs.declared.plan.Plan.{Plan}
use Rattle.dita_doc.specs.declared.plan.PlanStop.{PlanStop}
use Rattle.fact_judge.specs.Agreed.{own_agrees, plan_agrees}
use Rattle.fact_judge.specs.Sound.{IsPartOf, IsSound}
use Rattle.conref_spec.specs.Content.{Made}
use Rattle.dita_doc.specs.declared.content.Rule.{Rule}
use Rattle.html_spec.specs.Anchors.{anchor_faults, anchors, element_links}
use Rattle.html_spec.specs.Blocks.{body_html}
use Rattle.html_spec.specs.Contents.{contents, contents_body, contents_title}
use Rattle.html_spec.specs.PageHtml.{page_text, page_within, related_line, too_large}
use Rattle.link_spec.specs.Links.{row_faults}
use Rattle.map_spec.specs.Included.{root_in}
use Rattle.map_spec.specs.Titles.{title_in}
use Rattle.map_spec.specs.Written.{Whole}
use Rattle.part_spec.specs.Parts.{Rooms, all_page_links, content_of_root, contents_part, here_of, marks_in, no_html, page_of_root, page_part, page_rules, page_with, rooms}
use Rattle.reader_spec.specs.World.{World, world_of}
use Rattle.row_text.specs.RowWritten.{part_shown}
use Rattle.desk_lock.specs.Meaning.{meant_by}
use Rattle.desk_top.proofs.PageLaws.{HavePagesIfRight}

-- Texts

abbrev IsEnded : List ℕ → Type 0
IsEnded bytes = (front : List ℕ) × (bytes ≡ front ++ 10 ∷ [])

behind : (front back : List ℕ) → IsEnded back → IsEnded (front ++ back)
behind front back ended =
    (front ++ ended.0, ap (λ rest. front ++ rest) ended.1 ∙ sym (append_assoc front ended.0 (10 ∷ [])))

last_line : (text : List ℕ) → IsEnded (line text)
last_line text = (text, refl)

ends : (bytes : List ℕ) → IsEnded bytes → ends_with_line bytes ≡ true
ends bytes ended = ap ends_with_line ended.1 ∙ ends_after ended.0 []

page_front : (title body : List ℕ) → List PageLink → List ℕ
page_front title body related = line (codes "<!DOCTYPE html>")
    ++ line (codes "<html><head><meta charset=\"utf-8\"><title>" ++ escaped title ++ codes "</title></head>")
    ++ line (codes "<body>") ++ line body ++ related_line related

page_ends : (title body : List ℕ) (related : List PageLink) → ends_with_line (page_text title body related) ≡ true
unfolding page_front
page_ends title body related = ends (page_text title body related)
    (behind (page_front title body related) (line (codes "</body></html>")) (last_line (codes "</body></html>")))

-- the page, or the one without a body in its place
abbrev page_by : Bool → (name : List ℕ) → (at : ℕ) → (title : List ℕ) → Html → List PageLink → Html
page_by fits name at title body related =
    if fits then record { bytes = page_text title body.bytes related; faults = body.faults }
    else record { bytes = page_text title [] []; faults = body.faults ++ too_large name at ∷ [] }

either_ends : (fits : Bool) (name : List ℕ) (at : ℕ) (title : List ℕ) (body : Html) (related : List PageLink)
    → ends_with_line (page_by fits name at title body related).bytes ≡ true
either_ends true name at title body related = page_ends title body.bytes related
either_ends false name at title body related = page_ends title [] []

within_ends : (limit : ℕ) (name : List ℕ) (at : ℕ) (title : List ℕ) (body : Html) (related : List PageLink)
    → ends_with_line (page_within limit name at title body related).bytes ≡ true
within_ends limit name at title body related =
    either_ends (nat_le (length (page_text title body.bytes related)) limit) name at title body related

-- Parts

with_ends : (room : Rooms) (world : World) (plan : Plan) (index : ℕ) (page : PagePlan) (root : Whole)
    (rules : List (List Rule)) (made : Made) → ends_with_line (page_with room world plan index page root rules made).bytes ≡ true
with_ends room world plan index page root rules made =
    let here = here_of world plan page index in
    let body = body_html (anchors here made.nodes) (marks_in rules made) made.nodes in
    within_ends room.bytes root.0.doc root.0.line (title_in world page.id.doc [])
    (record { bytes = body.bytes; faults = made.faults ++ anchor_faults here made.nodes ++ body.faults ++ row_faults plan })
    (all_page_links world plan index (element_links here made.nodes))

root_ends : (room : Rooms) (world : World) (plan : Plan) (val : Option (List ℕ)) (index : ℕ) (page : PagePlan)
    (root : Option Whole)
    → ends_with_line (option_map_or (page_of_root room world plan val index page) root no_html).bytes ≡ true
root_ends room world plan val index page None = refl
root_ends room world plan val index page (Some root) = with_ends room world plan index page root
    (page_rules world val page) (content_of_root room world plan val page root)

page_found_ends : (room : Rooms) (world : World) (plan : Plan) (val : Option (List ℕ)) (index : ℕ) (found : Option PagePlan)
    → ends_with_line (option_map_or (λ (page : PagePlan).
    option_map_or (page_of_root room world plan val index page) (root_in world page.id.doc) no_html) found no_html).bytes ≡ true
page_found_ends room world plan val index None = refl
page_found_ends room world plan val index (Some page) =
    root_ends room world plan val index page (root_in world page.id.doc)

pub part_ends : (room : Rooms) (world : World) (plan : Plan) (val : Option (List ℕ)) (index : ℕ)
    → ends_with_line (page_part room world plan val index).bytes ≡ true
unfolding page_part
part_ends room world plan val index = page_found_ends room world plan val index (slice_get plan.pages index)

pub contents_end : (world : World) (plan : Plan) → ends_with_line (contents_part world plan).bytes ≡ true
unfolding contents
contents_end world plan = page_ends (contents_title world plan) (contents_body world plan) []

abbrev bytes_in : Option (Arc Html Global) → List ℕ
bytes_in html = option_map_or (λ (one : Arc Html Global). (arc_value one).bytes) html []

part_has : (part : Part) (value : Result Plan PlanStop) (val : Option (List ℕ)) (html : Option (Arc Html Global)) (world : World)
    → IsPartOf part value val html world → IsSome (part_shown part) → IsSome html × (ends_with_line (bytes_in html) ≡ true)
part_has parts.Plan value val html world is shown = absurd (true≢false (sym shown))
part_has (parts.Page index) (Ok plan) val (Some html) world is shown =
    (refl, ap (λ (one : Html). ends_with_line one.bytes) is.made ∙ part_ends rooms world plan val index)
part_has (parts.Page index) (Ok plan) val None world is shown = absurd is
part_has (parts.Page index) (Err stop) val html world is shown = absurd is
part_has parts.Contents (Ok plan) val (Some html) world is shown =
    (refl, ap (λ (one : Html). ends_with_line one.bytes) is ∙ contents_end world plan)
part_has parts.Contents (Ok plan) val None world is shown = absurd is
part_has parts.Contents (Err stop) val html world is shown = absurd is

pub right_have_pages : HavePagesIfRight (meant_by plan_agrees own_agrees IsSound)
right_have_pages row key state right shown =
    let here = subst (λ k. IsSome (part_shown k.part)) (sym right.key) shown in
    let is = right.sound.part (world_of state) right.agrees.plan right.agrees.own in
    let has = part_has row.fact.key.part (arc_value row.fact.plan).value row.fact.key.val row.fact.html (world_of state) is here in
    record { part = here; made = has.0; ended = has.1 }
