use Rattle.std.proofs.Common.{List, [], ◌∷◌, ◌++◌, refl, ap, subst, sym, ◌∙◌}
use Rattle.std.specs.Arc.{arc_value}
use Rattle.dita_doc.specs.Tree.{tree_of}
use Rattle.dita_doc.specs.declared.doc.Doc.{Doc}
use Rattle.dita_doc.specs.declared.fault.Fault.{Fault}
use Rattle.doc_maker.specs.Building.{whole}
use Rattle.map_spec.specs.Written.{written_in}
use Rattle.readers.specs.Told.{Agrees, Told, tree_found}
use Rattle.conref_targets.specs.Hrefs.{HaveNamed}
use Rattle.doc_elements.specs.Root.{root_element}
use Rattle.conref_targets.proofs.AskingLaws.{about_doc}
use Rattle.conref_pull.proofs.RootLaws.{faults_none, faults_rootless, faults_some}
use Rattle.conref_targets.proofs.PageAskingLaws.{asks_document, own_of}
use Rattle.conref_pull.proofs.calls.too_many.Goals as goal
use Rattle.conref_pull.proofs.calls.too_many.Goals.{in-Some, in-Some-root_of+in_ok-fault_at+in_ok-push, in_default-root_of, in_default}

pub returns-clause-known : goal.returns-clause-known
returns-clause-known g c = λ world agrees.
    (let name = c.args.context.now.page.doc in
    let told = (subst (λ (all : List Told). Agrees world all) c.in_ok-doc.ensures.told agrees).0 in
    record {
      nodes = c.finish_resolved.ensures.content ∙ ap whole c.new.ensures.nothing;
      declared = c.finish_resolved.ensures.declared ∙ c.new.ensures.declared;
      count = c.finish_resolved.ensures.count;
      faults = c.finish_resolved.ensures.faults ∙ elim c.match-branch-2.branch [
        | in-Some w ↦ elim w.match-root_of.branch [
          | in-Some-root_of+in_ok-fault_at+in_ok-push v ↦
              faults_some world name (tree_of (arc_value w.in-Some.doc).nodes) v.in-Some-root_of.root.now
              c.match-branch-2.faults (told ∙ ap tree_found w.in-Some.is)
              (v.in-Some-root_of.ensures name
              ∙ ap (λ (d : Doc). root_element (written_in name (tree_of d.nodes))) w.deref.ensures)
              (w.faults-is ∙ v.faults-is ∙ v.in_ok-push.ensures
              ∙ ap (λ (fs : List Fault). fs ++ v.in_ok-fault_at.field-0 ∷ []) c.new-faults.ensures
              ∙ ap (λ (f : Fault). f ∷ []) v.in_ok-fault_at.ensures)
          | in_default-root_of v ↦
              w.faults-is ∙ v.faults-is ∙ c.new-faults.ensures
              ∙ faults_rootless world name (tree_of (arc_value w.in-Some.doc).nodes) (told ∙ ap tree_found w.in-Some.is)
              (v.in_default-root_of.ensures name
              ∙ ap (λ (d : Doc). root_element (written_in name (tree_of d.nodes))) w.deref.ensures)
        ]
        | in_default w ↦ w.faults-is ∙ c.new-faults.ensures
            ∙ faults_none world name (told ∙ ap tree_found w.in_default.is)
      ];
    })

pub returns-clause-hrefs : goal.returns-clause-hrefs
returns-clause-hrefs g c = λ told.
    subst (HaveNamed told) (sym (c.finish_resolved.ensures.content ∙ ap whole c.new.ensures.nothing)) tt

pub returns-in_err-doc-clause-asks : goal.returns-in_err-doc-clause-asks
returns-in_err-doc-clause-asks g c = λ nodes.
    about_doc nodes c.args.context.now.page.doc _ _ c.doc.ensures.founded c.doc.ensures.asks

pub returns-in_err-fault_at-clause-asks : goal.returns-in_err-fault_at-clause-asks
returns-in_err-fault_at-clause-asks g c = λ nodes.
    about_doc nodes c.args.context.now.page.doc _ _ c.doc.ensures.founded c.doc.ensures.asks

pub returns-in_err-push-clause-asks : goal.returns-in_err-push-clause-asks
returns-in_err-push-clause-asks g c = λ nodes.
    about_doc nodes c.args.context.now.page.doc _ _ c.doc.ensures.founded c.doc.ensures.asks

pub returns-clause-asks : goal.returns-clause-asks
returns-clause-asks g c = λ nodes.
    about_doc nodes c.args.context.now.page.doc _ _ c.doc.ensures.founded c.doc.ensures.asks

pub returns-clause-only : goal.returns-clause-only
returns-clause-only g c = λ page agrees at.
    asks_document page c.args.context.now.page.doc (tree_found c.in_ok-doc.field-0) _ _ (own_of at refl)
    c.in_ok-doc.ensures.told
