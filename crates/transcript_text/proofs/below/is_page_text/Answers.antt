use Rattle.std.proofs.Common.{[], ◌∷◌, ⊎_elim, inl, inr, refl, ap, ◌∙◌}
use Rattle.transcript_text.proofs.TextLaws.{page_text_words, page_text_by}
use Rattle.transcript_text.proofs.below.is_page_text.Goals as goal

pub returns-in_default : goal.returns-in_default
returns-in_default c = λ is. let told = page_text_words _ is in c.in_default.ensures _ told.words

pub returns-in_default-take_name : goal.returns-in_default-take_name
returns-in_default-take_name c = λ is.
    let told = page_text_words _ is in
    c.in_default-take_name.ensures told.name (told.mark ∷ told.rest) told.named
    (let first = c.in-Some.ensures in cc (told.words))

pub returns-in-Some-take_word : goal.returns-in-Some-take_word
returns-in-Some-take_word c =
    page_text_by c.args.text.now c.in-Some-take_name.field-0-0.now _ _ c.ends_with_number.result
    c.in-Some-take_name.ensures.1
    (c.in-Some.ensures ∙ ap (λ words. (112 ∷ 97 ∷ 103 ∷ 101 ∷ []) ∷ words)
    (c.in-Some-take_name.ensures.0
    ∙ ap (λ words. c.in-Some-take_name.field-0-0.now ∷ words) c.in-Some-take_word.ensures))
    (inl refl) c.ends_with_number.ensures

pub returns-in-Some-take_word-2 : goal.returns-in-Some-take_word-2
returns-in-Some-take_word-2 c =
    page_text_by c.args.text.now c.in-Some-take_name.field-0-0.now _ _ c.ends_with_number-in-Some-take_word-2.result
    c.in-Some-take_name.ensures.1
    (c.in-Some.ensures ∙ ap (λ words. (112 ∷ 97 ∷ 103 ∷ 101 ∷ []) ∷ words)
    (c.in-Some-take_name.ensures.0
    ∙ ap (λ words. c.in-Some-take_name.field-0-0.now ∷ words) c.in-Some-take_word-2.ensures))
    (inr refl) c.ends_with_number-in-Some-take_word-2.ensures

pub returns-in-None-take_word : goal.returns-in-None-take_word
returns-in-None-take_word c = λ is.
    let told = page_text_words _ is in
    let first = c.in-Some.ensures in
    let second = c.in-Some-take_name.ensures.0 in
    ⊎_elim (λ kind. c.in-None.ensures told.rest (cc (told.words, kind)))
    (λ kind. c.in-None-take_word.ensures told.rest (cc (told.words, kind))) told.kind
