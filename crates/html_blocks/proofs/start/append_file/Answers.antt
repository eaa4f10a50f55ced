use Rattle.std.proofs.Common.{◌++◌, Some, ap, codes}
use Rattle.std.specs.Option.{option_copied}
use Rattle.html_blocks.specs.Opened.{file_text}
use Rattle.html_blocks.specs.Walk.{element_of, inside_of}
use Rattle.html_spec.specs.Blocks.{alt_of, attribute_text}
use Rattle.html_blocks.proofs.TagLaws.{text_then, unwrap_now}
use Rattle.html_blocks.proofs.start.append_file.Goals as goal

pub returns : goal.returns
returns c =
    let element = element_of c.args.image in
    let inside = inside_of c.args.image in
    let alt = attribute_text (codes "alt") (Some (alt_of element inside)) in
    text_then c.append_alt.result c.args.out.now c.append_attribute.new.out c.append_alt.new.out _ alt
    (file_text (option_copied c.args.link.href) element inside) c.in_ok-append_attribute.ensures
    (ap (λ text. attribute_text (codes "src") (Some text) ++ alt)
    (unwrap_now c.args.link.href _ c.unwrap_or.result c.unwrap_or.ensures))
    c.append_alt.ensures
