use Rattle.std.proofs.Common.{◌∙◌, ap, get_or, subst, sym}
use Rattle.std.specs.Prelude.{take}
use Rattle.map_spec.specs.Cascade.{with_new}
use Rattle.attr_cascade.specs.Tokens.{AreTexts, texts}
use Rattle.attr_cascade.proofs.TextLaws.{no_str, take_texts, with_more}
use Rattle.attr_cascade.proofs.tokens.put_new.Goals as goal

pub loop-text-preserved : goal.loop-text-preserved
loop-text-preserved c = λ all are.
    let texts_all = c.args.texts.now in
    let at = c.loop-text.text-index in
    let old = texts (take at texts_all) in
    subst (AreTexts c.put_one.new.tokens.items c.put_one.new.known.keys)
    (sym (ap (with_new all) (take_texts texts_all at c.loop-text-test.true)
    ∙ with_more all old (get_or texts_all at no_str).now))
    (c.in_ok-put_one.ensures (with_new all old) (c.loop-text.invariant all are))
