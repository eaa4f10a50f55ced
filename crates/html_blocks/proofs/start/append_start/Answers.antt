use Rattle.std.proofs.Common.{◌∙◌, None, Some, ap, if◌then◌else◌}
use Rattle.std.specs.Option.{option_copied}
use Rattle.html_blocks.specs.Opened.{class_by, is_topic, more_by, start_by}
use Rattle.html_blocks.specs.Walk.{element_of, origins_of}
use Rattle.html_forms.specs.Shown.{form_shown_of}
use Rattle.html_spec.specs.Blocks.{class_with, marks_at}
use Rattle.readers.specs.Named.{name_at}
use Rattle.html_blocks.proofs.TagLaws.{start_parts, text_last}
use Rattle.html_blocks.proofs.start.append_start.Goals as goal

pub returns : goal.returns
returns c = λ around is.
    let form = form_shown_of c.args.form in
    let element = element_of c.args.element in
    let name = name_at (origins_of c.args.element.inside) c.args.element.node.now.origin in
    let href = option_copied c.args.link.href in
    let marks = marks_at c.args.marks.now.marks.now c.args.element.place in
    text_last c.append.result c.args.out.now c.append_name.new.out c.append_class.new.out c.append_more.new.out
    c.append.new.self _ _ _ _ (start_by around href marks element c.args.name.now form)
    (c.in_ok-append_name.ensures name) (c.in_ok-append_class.ensures name)
    (c.in_ok-append_more.ensures name around is.tables.columns) c.append.ensures
    (start_parts around (is_topic form) (option_copied c.topic_before.result) element c.args.name.now
    (class_with marks (class_by element form)) (more_by around href element form)
    (c.topic_before.ensures ∙ ap (λ topic. if is_topic form then None else Some topic) is.topic))
