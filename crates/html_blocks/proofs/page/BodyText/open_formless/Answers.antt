use Rattle.std.proofs.Common.{◌++◌, ◌∙◌, List, ℕ, ap, subst, sym}
use Rattle.std.specs.Option.{option_copied}
use Rattle.html_blocks.specs.Opened.{content_begun}
use Rattle.html_blocks.specs.Walk.{element_of, inside_of}
use Rattle.html_tables.specs.Walk.{HasColumns, columns_within}
use Rattle.map_spec.specs.Elements.{tokens_of}
use Rattle.html_blocks.proofs.ContextLaws.{within_none}
use Rattle.html_blocks.proofs.WayLaws.{more_text}
use Rattle.html_blocks.proofs.page.BodyText.open_formless.Goals as goal

pub returns-clause-begun : goal.returns-clause-begun
returns-clause-begun c = λ around is words.
    let element = element_of c.args.element in
    let inside = inside_of c.args.element in
    let groups = c.enter.new.self.groups in
    let near = subst (λ (tokens : List (List ℕ)). HasColumns groups c.in_ok-group.group
    (columns_within tokens inside around.columns)) words
    (c.in_ok-group.ensures.nearest around.columns is.tables.columns) in
    let own = subst (λ group. HasColumns groups group (columns_within (tokens_of element) inside around.columns))
    (sym c.in_group.ensures.group) near in
    let next = c.in_group.ensures in
    record {
      within = within_none c.args.self.now.groups groups c.args.context c.in_group.result element inside around is own
          next.topic next.depth next.nearest next.head next.simple_head;
      more = more_text _ _ _ c.in_ok-group.ensures.kept
          (c.in_ok-is_linked.ensures.begun
          ∙ ap (λ bytes. bytes ++ content_begun (option_copied c.args.link.href) inside c.args.link.label.now)
          c.in_ok-group.ensures.text)
          c.in_ok-group.ensures.faults;
    }
