use Rattle.std.proofs.Common.{◌∙◌, ap, ap₂, subst, sym}
use Rattle.dita_doc.specs.Tree.{ArePreorder, tree_of}
use Rattle.readers.specs.Named as named_spec
use Rattle.doc_maker.specs.Building as spec
use Rattle.doc_maker.specs.Made as made_spec
use Rattle.doc_maker.proofs.MakerLaws.{finish_named, finish_tree}
use Rattle.doc_maker.proofs.maker.DocMaker.finish.Goals as goal

pub invariant_of-result : goal.invariant_of-result
invariant_of-result c =
    let content = spec.whole (made_spec.building c.args.self) in
    let is = ap made_spec.building c.maker.view_is ∙ c.close_all.ensures.top in
    record {
      tree = subst (λ ns. ArePreorder ns 0) (sym c.from_vec.ensures)
          (finish_tree c.maker.inside.origins c.maker.inside.nodes.items c.maker.inside.hrefs.items
          c.maker.inside.opened.items content c.maker.invariant is);
      small = rw c.from_vec.ensures c.maker.invariant.small;
      placed = rw (c.from_vec.ensures, c.into_names.ensures.names) c.maker.invariant.placed;
    }

pub returns-clause-content : goal.returns-clause-content
returns-clause-content c =
    let content = spec.whole (made_spec.building c.args.self) in
    let is = ap made_spec.building c.maker.view_is ∙ c.close_all.ensures.top in
    ap₂ (λ origins nodes. named_spec.under_names origins (tree_of nodes)) c.into_names.ensures.names c.from_vec.ensures
    ∙ finish_named c.maker.inside.origins c.maker.inside.nodes.items c.maker.inside.hrefs.items
    c.maker.inside.opened.items content is
