use Rattle.std.proofs.Common.{◌∙◌, ap, false, sym, true}
use Rattle.std.specs.Option.{option_copied}
use Rattle.dita_doc.specs.ClassValue.{words_of}
use Rattle.html_blocks.specs.Walk.{origins_of, overlay_of}
use Rattle.html_forms.specs.Shown.{row_among}
use Rattle.readers.specs.Named.{name_at}
use Rattle.html_blocks.proofs.OpenLaws.{open_none, typed}
use Rattle.html_blocks.proofs.page.BodyText.open.Goals as goal

pub returns-then-has_no_token : goal.returns-then-has_no_token
returns-then-has_no_token c = λ around is.
    let element = c.args.element in
    let words = c.tokens_of-tokens.ensures (name_at (origins_of element.inside) element.node.now.origin) in
    c.in_ok-untyped.ensures around (overlay_of c.args.overlay.now) is
    (typed (words_of c.tokens_of-tokens.result.now) element true c.if-has_no_token.ensures words)

pub returns-in_ok-opened-in-Some : goal.returns-in_ok-opened-in-Some
returns-in_ok-opened-in-Some c = λ around is.
    let element = c.args.element in
    let words = c.tokens_of-tokens.ensures (name_at (origins_of element.inside) element.node.now.origin) in
    c.in_ok-opened-in-Some.ensures around c.args.overlay.now.links.anchors.now is words
    (typed (words_of c.tokens_of-tokens.result.now) element false c.if-has_no_token.ensures words)
    (sym (c.in-Some.ensures ∙ ap row_among words)) c.at-link.ensures

pub returns-in_ok-formless-in-None : goal.returns-in_ok-formless-in-None
returns-in_ok-formless-in-None c = λ around is.
    let element = c.args.element in
    let words = c.tokens_of-tokens.ensures (name_at (origins_of element.inside) element.node.now.origin) in
    open_none c.args.self.now c.open_formless.new.self c.in_ok-formless-in-None.formless
    (overlay_of c.args.overlay.now) element around (option_copied c.at-link.result.href) c.at-link.result.label.now
    c.at-link.ensures
    (typed (words_of c.tokens_of-tokens.result.now) element false c.if-has_no_token.ensures words)
    (sym (c.in-None.ensures ∙ ap row_among words))
    (c.in_ok-formless-in-None.ensures.begun around is words) c.in_ok-formless-in-None.ensures.ended
