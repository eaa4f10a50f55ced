use Rattle.std.proofs.Common.{[], sym, ◌∙◌}
use Rattle.readers.specs.Founded.{homes}
use Rattle.readers.specs.Only.{is_document_of, is_title_at}
use Rattle.readers.proofs.GrowthLaws.{agrees_before, grows_trans}
use Rattle.readers.proofs.OnlyLaws.{only_then}
use Rattle.std.proofs.lemmas.Bool.{false≢true, or_left, or_right}
use Rattle.readers.specs.Documents.{nothing}
use Rattle.readers.proofs.DocumentLaws.{asks_after, asks_none}
use Rattle.readers.proofs.FoundedLaws.{stays_after, stays_among}
use Rattle.plan_nodes.proofs.WorldLaws.{values_over}
use Rattle.key_scopes.proofs.WorldLaws.{table_over}
use Rattle.key_answers.proofs.given.answer_asked.Goals as goal

pub returns-clause-known : goal.returns-clause-known
returns-clause-known g c = λ table values scopes world agrees.
    let nodes = c.args.nodes.now in
    let own = (g.T.Reader.stand c.args.asker.now).world in
    let there = c.in_ok-homes.ensures.known world (agrees_before world _ _ c.answer_with.ensures.grows agrees) in
    let same = sym c.in_ok-homes.ensures.value ∙ there in
    c.answer_with.ensures.known world agrees there (table_over own world nodes same c.args.table.now table)
    (values_over own world nodes same values) scopes

pub returns-clause-only : goal.returns-clause-only
returns-clause-only g c = only_then c.answer_with.result (is_document_of (homes c.args.nodes.now))
    (λ answer. is_title_at answer.target) _ _ _ _ (λ answer t. or_left _ _) (λ answer t. or_right _ _)
    c.in_ok-homes.ensures.only c.answer_with.ensures.only

pub returns-clause-grows : goal.returns-clause-grows
returns-clause-grows g c = grows_trans _ _ _ c.in_ok-homes.ensures.grows c.answer_with.ensures.grows

pub returns-clause-founded : goal.returns-clause-founded
returns-clause-founded g c =
    let names = homes c.args.nodes.now in
    stays_after names _ _ _ c.in_ok-homes.ensures.grows c.in_ok-homes.ensures.founded
    (stays_among [] names _ _ (λ m here. absurd (false≢true here))
    (c.answer_with.ensures.founded c.in_ok-homes.ensures.given))

pub returns-clause-asks : goal.returns-clause-asks
returns-clause-asks g c =
    let names = homes c.args.nodes.now in
    asks_after nothing names _ _ _ c.in_ok-homes.ensures.grows c.in_ok-homes.ensures.asks
    (asks_none nothing names _ _ c.answer_with.ensures.asks)
