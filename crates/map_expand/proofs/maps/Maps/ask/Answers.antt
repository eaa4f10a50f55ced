use Rattle.std.proofs.Common.{ap, ◌∙◌, ◌∷◌}
use Rattle.std.proofs.lemmas.Result.{IfOk-weaker}
use Rattle.std.specs.Arc.{arc_value}
use Rattle.readers.specs.Told.{document, tree_found}
use Rattle.readers.proofs.GrowthLaws.{told_answer}
use Rattle.map_expand.proofs.FindLaws.{found_put, put_is_told}
use Rattle.map_expand.proofs.maps.Maps.ask.Goals as goal

pub returns-in-Some-clause-found : goal.returns-in-Some-clause-found
returns-in-Some-clause-found g c = λ world agrees.
    let name = c.args.name.now in
    let nodes = (arc_value c.in-Some.doc).nodes in
    let holds = told_answer world (document name (tree_found c.in_ok-doc.field-0)) _ _ c.in_ok-doc.ensures.told agrees in
    IfOk-weaker c.put_if_map.result _ _
    (λ found put. found_put world name nodes _ _ found (holds ∙ ap tree_found c.in-Some.is) put)
    c.put_if_map.ensures.map

pub returns-in-Some-clause-told : goal.returns-in-Some-clause-told
returns-in-Some-clause-told g c =
    let name = c.args.name.now in
    let nodes = (arc_value c.in-Some.doc).nodes in
    let told = c.in_ok-doc.ensures.told ∙ ap (λ f. document name (tree_found f) ∷ g.R.Reader.told c.args.reader.now) c.in-Some.is in
    IfOk-weaker c.put_if_map.result _ _ (λ found put. put_is_told name nodes _ _ _ _ found told put)
    c.put_if_map.ensures.map
