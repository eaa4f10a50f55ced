use Rattle.std.specs.Prelude.{[], ◌∷◌, Some, codes}
use Rattle.std.proofs.Common.{◌∙◌, ap, sym}
use Rattle.link_spec.specs.Links.{is_one_of}
use Rattle.link_groups.specs.LinkNodes.{link_node_of}
use Rattle.link_groups.proofs.link_nodes.link_node.Goals as goal

pub returns : goal.returns
returns c =
    let linking = c.linking_of-linking.ensures in
    (λ i. Some (record {
      at = c.args.at;
      page = c.in_ok-page.page;
      is_source = (c.is_either.ensures ∙ ap (is_one_of (codes "normal" ∷ codes "sourceonly" ∷ [])) linking) i;
      is_target = (c.is_either-2.ensures ∙ ap (is_one_of (codes "normal" ∷ codes "targetonly" ∷ [])) linking) i;
    }))
    ∙ ap (λ page. link_node_of page c.args.at c.args.node.now) (sym c.in_ok-page.was)
