use Rattle.std.proofs.Common.{◌≡◌, ◌∙◌, length, rules, vec_len}
use Rattle.page_names.proofs.MadeLaws.{all_named, too_many}
use Rattle.page_names.proofs.made.pages_named.Goals as goal

pub returns-then-len-gt-PAGE_LIMIT : goal.returns-then-len-gt-PAGE_LIMIT
returns-then-len-gt-PAGE_LIMIT c = λ world are.
    let counted : vec_len c.args.uses.pages.uses ≡ length c.args.uses.pages.uses.items = search rules in
    too_many world c.args.nodes.now c.args.uses c.len.result 4096 are (c.len.ensures ∙ counted)
    c.if-len-gt-PAGE_LIMIT.true

pub returns : goal.returns
returns c = λ world are.
    let counted : vec_len c.args.uses.pages.uses ≡ length c.args.uses.pages.uses.items = search rules in
    all_named world c.args.nodes.now c.args.uses c.len.result 4096 c.in_ok-pages.pages c.name_pages.new.faults are
    (c.len.ensures ∙ counted) c.if-len-gt-PAGE_LIMIT.false c.in_ok-pages.ensures.pages c.in_ok-pages.ensures.faults
