use Rattle.std.proofs.Common.{◌≡◌, None, refl, map, subst}
use Rattle.dita_doc.specs.Siblings.{content}
use Rattle.dita_doc.specs.Tree.{Content}
use Rattle.map_spec.specs.Written.{written_in}
use Rattle.map_spec.specs.Places.{all_standing}
use Rattle.topic_find.proofs.WalkLaws.{root_fits}
use Rattle.conref_push.specs.Sight.{all_seen, sight_of}
use Rattle.conref_push.proofs.SightLaws.{from_none}
use Rattle.conref_push.proofs.pushing.pushing_in.Goals as goal

pub append_pushing-requires : goal.append_pushing-requires
append_pushing-requires c =
    root_fits c.args.doc.now.nodes (content c.of.result) c.args.doc.now.tree c.of.ensures.content c.args.doc.now.small

pub returns : goal.returns
returns c = λ name.
    let Is : Content → Type 0 = λ tree. map (sight_of name) c.append_pushing.new.out.items
    ≡ all_seen (all_standing (written_in name tree)) in
    subst Is c.of.ensures.content (from_none name c.new-found.result.items c.append_pushing.new.out.items _
    c.new-found.ensures.items (c.in_ok-append_pushing.ensures.seen name None refl))
