use Rattle.std.proofs.Common.{◌∙◌, sym}
use Rattle.std.specs.Option.{option_copied}
use Rattle.html_blocks.specs.Walk.{overlaid}
use Rattle.html_forms.specs.Shown.{form_shown_of}
use Rattle.html_blocks.proofs.OpenLaws.{open_some, tag_around, whole_none}
use Rattle.html_blocks.proofs.page.BodyText.open_row.Goals as goal

pub returns-in_ok-opened-in-Some : goal.returns-in_ok-opened-in-Some
returns-in_ok-opened-in-Some c = λ around anchors is words types row link.
    let form = form_shown_of c.args.form in
    let href = option_copied c.args.link.href in
    open_some c.args.self.now c.open_named.new.self c.in_ok-opened-in-Some.opened
    (overlaid anchors c.args.marks.now) c.args.element around href
    c.args.link.label.now link types c.args.token.now form row c.in-Some.name.now
    (sym (c.in-Some.ensures around.depth is.depth
    ∙ tag_around c.args.self.now.groups c.args.context around form href is))
    (c.in_ok-opened-in-Some.ensures.begun around is words) c.in_ok-opened-in-Some.ensures.ended

pub returns-in_ok-append_whole-in-None : goal.returns-in_ok-append_whole-in-None
returns-in_ok-append_whole-in-None c = λ around anchors is words types row link.
    let form = form_shown_of c.args.form in
    let href = option_copied c.args.link.href in
    whole_none c.args.self.now c.append_whole.new.self (overlaid anchors c.args.marks.now) c.args.element around href
    c.args.link.label.now link
    types c.args.token.now form row
    (sym (c.in-None.ensures around.depth is.depth
    ∙ tag_around c.args.self.now.groups c.args.context around form href is))
    (c.in_ok-append_whole-in-None.ensures around is.topic)
