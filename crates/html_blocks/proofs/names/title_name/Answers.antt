use Rattle.std.proofs.Common.{◌+◌, ◌-◌, ◌^◌, min, sym, ap, ◌∙◌}
use Rattle.html_blocks.specs.Shown.{around_shown}
use Rattle.html_spec.specs.Blocks.{heading, title_tag}
use Rattle.html_blocks.proofs.NameLaws.{heading_capped, heading_next}
use Rattle.html_blocks.proofs.names.title_name.Goals as goal

pub returns-in-Topic : goal.returns-in-Topic
returns-in-Topic c = λ depth is.
    c.heading.ensures ∙ ap heading is ∙ heading_capped depth
    ∙ ap (λ around. title_tag (around_shown around) depth) (sym c.in-Topic.is)

pub returns-in-Section : goal.returns-in-Section
returns-in-Section c = λ depth is.
    c.heading_below.ensures
    ∙ ap (λ n. heading (min (n + 1) (2 ^ 32 - 1))) is
    ∙ heading_next depth
    ∙ ap (λ around. title_tag (around_shown around) depth) (sym c.in-Section.is)
