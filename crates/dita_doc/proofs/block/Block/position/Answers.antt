use Rattle.std.proofs.Common.{rules}
use Rattle.std.proofs.lemmas.Fn.{always_returns_same}
use Rattle.std.specs.Ordering.{nat_cmp}
use Rattle.std.specs.Cmp.Lexicographic.{slice_cmp}
use Rattle.dita_doc.specs.declared.sources.StoredDoc.{StoredDoc}
use Rattle.dita_doc.specs.Sources.{document_seen}
use Rattle.dita_doc.proofs.SourcesLaws.{searched}
use Rattle.dita_doc.proofs.block.Block.position.Goals as goal

-- the closure compares a document's name with the one that it keeps, and the slice is the documents
pub returns : goal.returns
returns c =
    let facts = c.binary_search_by.ensures in
    let by_name = facts.position (λ (document : StoredDoc). slice_cmp nat_cmp document.name c.args.name.now)
    (always_returns_same _ _ _ (λ a r g called. (search rules, search rules))) in
    let bound = rw c.deref.ensures.value at facts.bound in
    let found = rw c.deref.ensures.value at by_name in
    rw (← c.self.view_is) (searched document_seen c.self.inside.documents.items c.args.name.now _ c.self.invariant.sorted
    bound found)
