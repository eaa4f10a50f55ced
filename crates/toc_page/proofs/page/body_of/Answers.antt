use Rattle.std.proofs.Common.{◌∙◌, ◌++◌, ap, subst, sym}
use Rattle.std.specs.Prelude.{codes}
use Rattle.dita_doc.specs.HtmlEscapes.{escaped}
use Rattle.html_spec.specs.Contents.{items, list_text}
use Rattle.plan_nodes.specs.Preorder.{HasParentsBefore, tables_around}
use Rattle.readers.proofs.DocumentLaws.{asks_none}
use Rattle.key_scopes.proofs.TreeLaws.{tree_parents}
use Rattle.toc_page.proofs.page.body_of.Goals as goal

pub returns-in_err-append_items-clause-asks : goal.returns-in_err-append_items-clause-asks
returns-in_err-append_items-clause-asks g c = asks_none _ _ _ _ c.append_items.ensures.asks

pub returns-in_err-append-clause-asks : goal.returns-in_err-append-clause-asks
returns-in_err-append-clause-asks g c = asks_none _ _ _ _ c.append_items.ensures.asks

pub returns-clause-asks : goal.returns-clause-asks
returns-clause-asks g c = asks_none _ _ _ _ c.append_items.ensures.asks

pub returns-clause-known : goal.returns-clause-known
returns-clause-known g c = λ world agrees tree pages same title.
    let plan = c.args.plan.now in
    let inside =
    c.as_slice-inside.ensures.value
    ∙ c.in_ok-in_tables.ensures (subst HasParentsBefore (sym c.as_slice-nodes.ensures) (tree_parents plan.nodes tree))
    ∙ ap tables_around c.as_slice-nodes.ensures in
    let keys = c.in_ok-keys.ensures world tree same in
    let written = c.in_ok-append_items.ensures.known world agrees
    (record { homes = same; keys = keys; in_tables = inside }) pages tree in
    c.in_ok-append.ensures
    ∙ ap (λ l. l ++ codes "</nav>") (written
    ∙ ap (λ l. l ++ list_text (items world plan)) (c.in_ok-body.ensures
    ∙ ap (λ text. codes "<nav class=\"toc\"><h1>" ++ escaped text ++ codes "</h1>") title))
