use Rattle.std.proofs.Common.{◌∙◌, ap}
use Rattle.dita_doc.specs.Siblings.{content}
use Rattle.dita_doc.specs.Tree.{Content, tree_of}
use Rattle.doc_maker.specs.Building.{Building, behind, nothing, own_hrefs, whole}
use Rattle.doc_maker.proofs.BuildingLaws.{whole_of_behind}
use Rattle.map_spec.specs.Written.{written_in}
use Rattle.map_spec.specs.Pushes.{pushed_from}
use Rattle.topic_find.proofs.WalkLaws.{root_fits}
use Rattle.conref_push.proofs.OwnLaws.{own_pushed}
use Rattle.conref_push.proofs.pushed_doc.PushedInto.doc_from.Goals as goal

pub put-requires : goal.put-requires
put-requires c =
    root_fits c.args.found.now.nodes (content c.of.result) c.args.found.now.tree c.of.ensures.content
    c.args.found.now.small

pub returns : goal.returns
returns c = λ world pushes into.
    let name = c.args.self.now.name.now in
    let nodes = written_in name (tree_of c.args.found.now.nodes) in
    let all = pushed_from world pushes 0 nodes in
    c.finish.ensures.content
    ∙ ap (λ (b : Building). own_hrefs (whole b)) (c.in_ok-put.ensures world pushes into
    ∙ ap (λ (b : Building). behind b (pushed_from world pushes 0 (written_in name (content c.of.result))))
    c.new-maker.ensures.nothing
    ∙ ap (λ (t : Content). behind nothing (pushed_from world pushes 0 (written_in name t))) c.of.ensures.content)
    ∙ ap own_hrefs (whole_of_behind all)
    ∙ own_pushed world pushes 0 name (tree_of c.args.found.now.nodes)
