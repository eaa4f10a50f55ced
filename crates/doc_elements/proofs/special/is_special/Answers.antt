use Rattle.std.proofs.Common.{List, ap, sym, ◌∙◌, ℕ}
use Rattle.dita_doc.specs.ClassValue.{words_of}
use Rattle.doc_elements.specs.Walk.{element_of}
use Rattle.map_spec.specs.Elements.{tokens_of}
use Rattle.map_spec.specs.Elements.{begins_with}
use Rattle.doc_elements.proofs.SpecialLaws.{none_wanted, some_wanted}
use Rattle.doc_elements.proofs.special.is_special.Goals as goal

pub returns-in-None : goal.returns-in-None
returns-in-None c = λ name other.
    none_wanted (tokens_of (element_of name c.args.special.now)) (tokens_of (element_of other c.args.base.now))
    (sym (c.tokens_of-wanted.ensures other) ∙ c.in-None.ensures)

pub returns-in-Some : goal.returns-in-Some
returns-in-Some c = λ name other.
    let own = tokens_of (element_of name c.args.special.now) in
    let wanted = tokens_of (element_of other c.args.base.now) in
    c.begins_with.ensures
    ∙ ap (λ (words : List (List ℕ)). begins_with words (words_of c.tokens_of-wanted.result.now)) (c.tokens_of.ensures name)
    ∙ ap (begins_with own) (c.tokens_of-wanted.ensures other)
    ∙ some_wanted own wanted _ _ (sym (c.tokens_of-wanted.ensures other) ∙ c.in-Some.ensures.words)
