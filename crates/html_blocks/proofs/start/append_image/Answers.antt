use Rattle.std.proofs.Common.{[], Some, ap, codes, false}
use Rattle.std.specs.Option.{option_copied}
use Rattle.html_blocks.specs.Opened.{file_text, image_by}
use Rattle.html_blocks.specs.Walk.{element_of, inside_of, origins_of}
use Rattle.html_spec.specs.Blocks.{class_with, marks_at}
use Rattle.readers.specs.Named.{name_at}
use Rattle.html_blocks.proofs.TagLaws.{start_parts, text_last}
use Rattle.html_blocks.proofs.start.append_image.Goals as goal

pub returns : goal.returns
returns c = λ around topic.
    let element = element_of c.args.image in
    let name = name_at (origins_of c.args.image.inside) c.args.image.node.now.origin in
    let href = option_copied c.args.link.href in
    let marks = marks_at c.args.marks.now.marks.now c.args.image.place in
    let file = file_text href element (inside_of c.args.image) in
    text_last c.append.result c.args.out.now c.append_name.new.out c.append_class.new.out c.append_file.new.out
    c.append.new.self _ _ _ _ (image_by around href marks element (inside_of c.args.image))
    (c.in_ok-append_name.ensures name) (c.in_ok-append_class.ensures name) c.in_ok-append_file.ensures c.append.ensures
    (start_parts around false (Some c.args.context.topic.now) element (codes "img") (class_with marks []) file
    (ap Some topic))
