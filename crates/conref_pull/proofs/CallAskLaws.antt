-- Questions for a page, told by the calls that resolve it.
use Rattle.std.specs.Prelude.{◌≡◌, List, Some}
use Rattle.std.proofs.Common.{refl, ap, sym}
use Rattle.dita_doc.specs.declared.plan.Context.{Context}
use Rattle.map_spec.specs.Pushes.{pushed}
use Rattle.map_spec.specs.Written.{Written}
use Rattle.conref_spec.specs.PageDocuments.{own}
use Rattle.reader_spec.specs.World.{World}
use Rattle.readers.specs.Only.{TellsOnly, is_document_of, is_of_pushed}
use Rattle.readers.specs.Setting.{Stand}
use Rattle.readers.specs.Told.{Told}
use Rattle.conref_targets.specs.PageAsking.{AreMet, AsksPage, IsAt, PageAt, page_at}
use Rattle.conref_targets.specs.Rules.{ditavals}
use Rattle.conref_targets.proofs.PageAskingLaws.{asks_ditavals, asks_pushed, asks_then, document_met}
pub use Rattle.conref_targets.proofs.PageAskingLaws.{at_later, at_next}
pub use Rattle.conref_pull.proofs.MetLaws.{asks_done, asks_unless, met_as}

module _ (world : World) (context : Context) {stand later : Stand} (same : later ≡ stand) where
  abbrev page : PageAt
  page = page_at world stand.setting context.val context.page

  pub begins_at : IsAt page later context.page
  begins_at = record { setting = ap (λ (s : Stand). s.setting) (sym same); is = refl }

  -- the document of the page
  pub asks_first : {a b : List Told} → TellsOnly (is_of_pushed world later.setting.documents context.page.doc) a b
      → AsksPage page a b
  asks_first {a} {b} only = asks_pushed page context.page.doc own later context.page a b begins_at only

  -- its DITAVALs, and then its document
  pub asks_rules_first : {a b c : List Told}
      → TellsOnly (is_document_of (ditavals context.val context.page.filters)) a b
      → TellsOnly (is_of_pushed world later.setting.documents context.page.doc) b c → AsksPage page a c
  asks_rules_first {a} {b} {c} rules only = asks_then page a b c
      (asks_ditavals page (ditavals context.val context.page.filters) a b refl rules) (asks_first only)

  -- its document, and then its DITAVALs
  pub asks_rules : {a b c : List Told}
      → TellsOnly (is_of_pushed world later.setting.documents context.page.doc) a b
      → TellsOnly (is_document_of (ditavals context.val context.page.filters)) b c → AsksPage page a c
  asks_rules {a} {b} {c} only rules = asks_then page a b c (asks_first only)
      (asks_ditavals page (ditavals context.val context.page.filters) b c refl rules)

  -- the elements of its document are met
  pub root_met : (nodes : Written) → Some nodes ≡ pushed world later.setting.documents context.page.doc
      → AreMet page nodes
  root_met nodes stored = document_met page context.page.doc own later context.page nodes begins_at stored
