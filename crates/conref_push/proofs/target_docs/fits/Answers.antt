use Rattle.std.proofs.Common.{◌∙◌, None, Some, ap}
use Rattle.dita_doc.specs.Tree.{tree_of}
use Rattle.dita_doc.specs.declared.doc.Doc.{Doc}
use Rattle.map_spec.specs.Written.{element_at, written_in}
use Rattle.plan_nodes.proofs.ElementLaws.{element_found}
use Rattle.conref_push.specs.Sight.{sight_of}
use Rattle.conref_push.specs.Targets.{target_tree}
use Rattle.conref_push.proofs.PlaceLaws.{fits_by}
use Rattle.conref_push.proofs.target_docs.fits.Goals as goal

pub returns-in-Some : goal.returns-in-Some
returns-in-Some c = λ name from.
    c.is_special.ensures from name
    ∙ fits_by (sight_of from c.args.pushing) (written_in name (target_tree c.args.target.now)) c.args.place _
    (element_found name c.deref.result.now c.args.place (Some (c.in-Some.element, c.in-Some.field-0-1))
    c.in-Some.ensures
    ∙ ap (λ (doc : Doc). element_at (written_in name (tree_of doc.nodes)) c.args.place) c.deref.ensures)

pub returns-in-None : goal.returns-in-None
returns-in-None c = λ name from.
    fits_by (sight_of from c.args.pushing) (written_in name (target_tree c.args.target.now)) c.args.place None
    (element_found name c.deref.result.now c.args.place None c.in-None.ensures
    ∙ ap (λ (doc : Doc). element_at (written_in name (tree_of doc.nodes)) c.args.place) c.deref.ensures)
