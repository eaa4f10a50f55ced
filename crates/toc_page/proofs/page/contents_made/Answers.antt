use Rattle.std.proofs.Common.{◌∙◌, ap}
use Rattle.std.specs.List.{flat_map}
use Rattle.readers.proofs.FoundedLaws.{stays_after}
use Rattle.readers.proofs.GrowthLaws.{agrees_before}
use Rattle.readers.specs.Setting.{Stand}
use Rattle.toc_page.specs.Made.{faults_in}
use Rattle.toc_page.proofs.FaultLaws.{all_faults}
use Rattle.toc_page.proofs.NameLaws.{documents_stay}
use Rattle.readers.proofs.OnlyLaws.{only_after}
use Rattle.toc_page.proofs.AskedLaws.{pushes_asked}
use Rattle.toc_page.proofs.page.contents_made.Goals as goal

pub returns-in_err-push_faults-clause-founded : goal.returns-in_err-push_faults-clause-founded
returns-in_err-push_faults-clause-founded g c =
    stays_after _ _ _ _ c.in_ok-bytes_of.ensures.grows c.in_ok-bytes_of.ensures.founded
    (documents_stay c.args.plan.now c.as_slice.result.now _ _ c.as_slice.ensures c.push_faults.ensures.founded)

pub returns-clause-known : goal.returns-clause-known
returns-clause-known g c = λ world agrees ready.
    let plan = c.args.plan.now in
    record {
      bytes = c.in_ok-bytes_of.ensures.known world
          (agrees_before world _ _ c.in_ok-push_faults.ensures.grows agrees) ready.tree ready.pages;
      faults = c.in_ok-push_faults.ensures.known world agrees
          ∙ ap (λ (s : Stand). flat_map (faults_in world s.setting.documents) c.as_slice.result.now)
          c.in_ok-bytes_of.ensures.stand
          ∙ ap (λ documents. flat_map (faults_in world documents) c.as_slice.result.now) ready.documents
          ∙ ap (flat_map (faults_in world plan.documents)) c.as_slice.ensures
          ∙ all_faults world plan.documents ready.once;
    }

pub returns-clause-founded : goal.returns-clause-founded
returns-clause-founded g c =
    stays_after _ _ _ _ c.in_ok-bytes_of.ensures.grows c.in_ok-bytes_of.ensures.founded
    (documents_stay c.args.plan.now c.as_slice.result.now _ _ c.as_slice.ensures c.push_faults.ensures.founded)

pub returns-clause-only : goal.returns-clause-only
returns-clause-only g c = only_after _ _ _ _ c.in_ok-bytes_of.ensures.only
    (pushes_asked c.args.plan.now _ _ c.as_slice.result.now c.as_slice.ensures c.in_ok-push_faults.ensures.only)
