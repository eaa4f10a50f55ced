use Rattle.std.proofs.Common.{◌≡◌, ◌∙◌, ap, sym, length, rules}
use Rattle.std.specs.Option.{option_copied}
use Rattle.dita_doc.specs.ClassValue.{words_of}
use Rattle.map_spec.specs.Cascade.{with_new}
use Rattle.attr_cascade.specs.Tokens.{AreTexts, texts, tokens_of}
use Rattle.attr_cascade.proofs.TextLaws.{match_weaker, merged_none}
use Rattle.attr_cascade.proofs.tokens.merged.Goals as goal

pub returns : goal.returns
returns c =
    let all = tokens_of (option_copied c.args.above) in
    let own = words_of c.args.own.now in
    let old = c.put_above.new.tokens.items in
    let new = c.put_new.new.tokens.items in
    let are : AreTexts old c.put_above.new.known.keys all =
    c.in_ok-put_above.ensures c.new-tokens.ensures.items c.new-known.ensures.empty in
    let is : texts new ≡ with_new all own =
    c.in_ok-put_new.ensures all are
    ∙ ap (with_new all) (ap texts c.deref.ensures.value ∙ c.in_ok-words_in.ensures) in
    match_weaker c.if_longer.result (length new ≡ c.len-count.result) _ _ _
    (λ same. merged_none old new all own c.len-count.result are.are (search rules) is same)
    (λ tokens same. sym is ∙ sym (ap texts same)) c.if_longer.ensures
