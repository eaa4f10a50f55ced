use Rattle.std.proofs.Common.{rules, tests, ap, find, ◌∙◌}
use Rattle.std.proofs.lemmas.Iterator.{YieldsList-from_slice}
use Rattle.std.proofs.lemmas.Iterator.Search.{find_from_yields_List}
use Rattle.dita_doc.specs.declared.doc.Node.{Node}
use Rattle.doc_elements.proofs.RootLaws.{is_element_node, root_first}
use Rattle.doc_elements.proofs.root.root_of.Goals as goal

pub returns : goal.returns
returns c = λ name.
    (let found = find_from_yields_List (λ (n : Node). is_element_node n) _ _ c.find.result
    c.find.ensures.ran (YieldsList-from_slice _ c.iter.ensures.rest) (λ x b q k. search (rules, tests)) in
    root_first name c.args.doc.now _ (found ∙ ap (find is_element_node) c.as_slice.ensures))
