use Rattle.std.proofs.Common.{◌++◌, ◌∙◌, List, ℕ, ap, append_assoc, subst, sym}
use Rattle.std.specs.Option.{option_copied}
use Rattle.html_blocks.specs.Opened.{content_begun, href_within, start_by}
use Rattle.html_blocks.specs.Walk.{element_of, inside_of, origins_of}
use Rattle.html_forms.specs.Shown.{form_shown_of}
use Rattle.html_tables.specs.Walk.{HasColumns, columns_within}
use Rattle.map_spec.specs.Elements.{tokens_of}
use Rattle.html_spec.specs.Blocks.{marks_at}
use Rattle.readers.specs.Named.{name_at}
use Rattle.html_blocks.proofs.ContextLaws.{within_some}
use Rattle.html_blocks.proofs.WayLaws.{more_text}
use Rattle.html_blocks.proofs.page.BodyText.open_named.Goals as goal

pub returns-clause-begun : goal.returns-clause-begun
returns-clause-begun c = λ around is words.
    let element = element_of c.args.element in
    let inside = inside_of c.args.element in
    let form = form_shown_of c.args.form in
    let href = option_copied c.args.link.href in
    let label = c.args.link.label.now in
    let groups = c.enter.new.self.groups in
    let near = subst (λ (tokens : List (List ℕ)). HasColumns groups c.in_ok-group.group
    (columns_within tokens inside around.columns)) words
    (c.in_ok-group.ensures.nearest around.columns is.tables.columns) in
    let own = subst (λ group. HasColumns groups group (columns_within (tokens_of element) inside around.columns))
    (sym c.within.ensures.group) near in
    let next = c.within.ensures in
    let marks = marks_at c.args.marks.now.marks.now c.args.element.place in
    let start = start_by around href marks element c.args.name.now form in
    let begun = content_begun (href_within form href) inside label in
    record {
      within = within_some c.args.self.now.groups groups c.args.context c.within.result element inside around is own
          (c.args.token.now, form)
          (next.topic (name_at (origins_of c.args.element.inside) c.args.element.node.now.origin)) next.depth
          next.nearest
          next.head next.simple_head;
      more = more_text _ _ _ c.in_ok-group.ensures.kept
          (c.in_ok-is_linked.ensures.begun
          ∙ ap (λ to. c.enter.new.self.text ++ content_begun to inside label) c.href_within-href.ensures
          ∙ ap (λ bytes. bytes ++ begun) (c.in_ok-group.ensures.text ∙ c.in_ok-append_start.ensures around is)
          ∙ append_assoc c.args.self.now.text start begun)
          c.in_ok-group.ensures.faults;
    }
