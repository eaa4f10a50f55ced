use Rattle.std.proofs.Common.{◌≡◌, ◌∷◌, ◌∙◌, ◌+◌, ◌||◌, arith, ap, drop, is_some, sym}
use Rattle.std.proofs.lemmas.Grind.{common_steps}
use Rattle.dita_doc.specs.ClassValue.{value_of}
use Rattle.conref_pull.specs.NameSet.{is_name_in}
use Rattle.conref_pull.proofs.NameSetLaws.{name_put}
use Rattle.conref_pull.proofs.name_set.NameSet.of.Goals as goal

pub loop-attribute-preserved : goal.loop-attribute-preserved
loop-attribute-preserved c = λ name.
    let items = c.as_slice-attribute-items.result.now in
    let at = c.loop-attribute.attribute-index in
    let first = c.attribute-item.result in
    let within = c.loop-attribute-test.true in
    let cut : drop at items ≡ first ∷ drop (at + 1) items = grind (arith, common_steps) in
    name_put c.loop-attribute.names c.insert.new.self c.as_str.result name first (drop (at + 1) items)
    c.in_ok-insert.ensures.updates c.as_str.ensures
    ∙ ap (λ some. is_name_in c.loop-attribute.names name || is_some (value_of name.now some)) (sym cut)
    ∙ c.loop-attribute.invariant name
