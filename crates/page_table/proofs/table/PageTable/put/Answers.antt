use Rattle.std.proofs.Common.{sym, ap, subst, ◌∙◌}
use Rattle.page_table.specs.Pages.{doc_in, doc_with}
use Rattle.page_table.specs.declared.table.PageTable.{PageTable}
use Rattle.page_table.proofs.PageLaws.{IsFresh, PutsPage, page_kept, page_put}
use Rattle.page_table.proofs.table.PageTable.put.Goals as goal

pub returns-in_ok-insert : goal.returns-in_ok-insert
returns-in_ok-insert c = λ pages size before.
    let same = c.in_ok-doc.ensures.pages in
    let name = c.in_ok-clone.ensures.cases in
    let doc = c.in_ok-doc.doc in
    let new : PageTable = record { docs = c.put_doc.new.self.docs; pages = c.insert.new.self } in
    page_put pages c.args.page.now c.args.self.now new doc c.in_ok-clone.field-0 c.in_ok-key.key c.in_ok-place.place
    before (c.in_ok-place.ensures.place ∙ sym size) name c.in_ok-key.ensures
    (c.in_ok-doc.ensures.doc ∙ ap (λ n. doc_with (doc_in c.args.self.now n) c.in_ok-place.place) name)
    c.in_ok-doc.ensures.docs
    (c.if-is_fresh.ensures
    ∙ ap (λ ps. IsFresh (record { docs = c.put_doc.new.self.docs; pages = ps }) doc c.in_ok-key.key) same)
    (subst (λ ps. PutsPage (record { docs = c.put_doc.new.self.docs; pages = ps }) new c.in_ok-key.key c.in_ok-place.place)
    same c.in_ok-insert.ensures.updates.0)

pub returns-else-is_fresh : goal.returns-else-is_fresh
returns-else-is_fresh c = λ pages size before.
    let same = c.in_ok-doc.ensures.pages in
    let name = c.in_ok-clone.ensures.cases in
    let doc = c.in_ok-doc.doc in
    page_kept pages c.args.page.now c.args.self.now c.put_doc.new.self doc c.in_ok-clone.field-0 c.in_ok-key.key
    c.in_ok-place.place before (c.in_ok-place.ensures.place ∙ sym size) name c.in_ok-key.ensures
    (c.in_ok-doc.ensures.doc ∙ ap (λ n. doc_with (doc_in c.args.self.now n) c.in_ok-place.place) name)
    c.in_ok-doc.ensures.docs
    (c.if-is_fresh.ensures
    ∙ ap (λ ps. IsFresh (record { docs = c.put_doc.new.self.docs; pages = ps }) doc c.in_ok-key.key) same) same
