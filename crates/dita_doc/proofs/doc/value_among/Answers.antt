use Rattle.std.proofs.Common.{rules, tests, bytes_eq}
use Rattle.std.proofs.lemmas.Iterator.{YieldsList-from_slice}
use Rattle.std.proofs.lemmas.Iterator.Search.{find_from_yields_List}
use Rattle.dita_doc.specs.declared.doc.Attribute.{Attribute}
use Rattle.dita_doc.proofs.ClassLaws.{value_told}
use Rattle.dita_doc.proofs.doc.value_among.Goals as goal

pub returns-in_err-attribute : goal.returns-in_err-attribute
returns-in_err-attribute c =
    let found = find_from_yields_List (λ (a : Attribute). bytes_eq a.name c.args.name.now) _ _ c.find.result
    c.find.ensures.ran (YieldsList-from_slice _ c.iter.ensures.rest) (λ x b q k. search (rules, tests)) in
    let told = value_told c.args.name.now c.args.attributes.now c.find.result found in
    rw c.from_residual.ensures (rw c.in_err-attribute.was at told)

pub returns : goal.returns
returns c =
    let found = find_from_yields_List (λ (a : Attribute). bytes_eq a.name c.args.name.now) _ _ c.find.result
    c.find.ensures.ran (YieldsList-from_slice _ c.iter.ensures.rest) (λ x b q k. search (rules, tests)) in
    let told = value_told c.args.name.now c.args.attributes.now c.find.result found in
    rw c.as_str.ensures (rw c.in_ok-attribute.was at told)
