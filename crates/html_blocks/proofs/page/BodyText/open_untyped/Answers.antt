use Rattle.std.proofs.Common.{◌++◌, ◌∙◌, [], ap, refl, sym}
use Rattle.std.proofs.lemmas.List.{append-nil}
use Rattle.html_blocks.specs.Walk.{element_of}
use Rattle.map_spec.specs.Elements.{class_faults}
use Rattle.html_spec.specs.Blocks.{shown, shown_with}
use Rattle.html_blocks.proofs.ContextLaws.{kept_within}
use Rattle.html_blocks.proofs.OpenLaws.{open_untyped}
use Rattle.html_blocks.proofs.WayLaws.{more_faults, same_groups}
use Rattle.html_blocks.proofs.page.BodyText.open_untyped.Goals as goal

pub returns : goal.returns
returns c = λ around overlay is none.
    let old = c.args.self.now in
    let new = c.append_class_fault.new.self in
    let faults = class_faults (element_of c.args.element) in
    let kept = same_groups old.groups new.groups c.append_class_fault.ensures.groups in
    open_untyped old new _ overlay c.args.element around none
    (kept_within old.groups new.groups c.args.context around kept is)
    (more_faults old new (shown_with faults (shown [])) refl kept c.append_class_fault.ensures.text
    (c.in_ok-append_class_fault.ensures.faults ∙ ap (λ some. old.faults ++ some) (sym (append-nil faults))))
    refl
