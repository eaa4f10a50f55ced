use Rattle.std.proofs.Common.{[], ◌∙◌, ap, arith}
use Rattle.std.specs.Prelude.{map}
use Rattle.std.specs.List.{filter_map}
use Rattle.std.proofs.lemmas.List.{take_all}
use Rattle.readers.proofs.GrowthLaws.{agrees_before, grows_trans}
use Rattle.link_groups.specs.LinkLists.{link_shown, page_link_in}
use Rattle.link_groups.proofs.ListLaws.{written_more}
use Rattle.readers.specs.Documents.{nothing}
use Rattle.readers.proofs.DocumentLaws.{asks_after}
use Rattle.readers.proofs.FoundedLaws.{stays_after}
use Rattle.readers.proofs.OnlyLaws.{only_after}
use Rattle.link_groups.proofs.link_list.all_written.Goals as goal

pub loop-link-preserved : goal.loop-link-preserved
loop-link-preserved g c = record {
  written = λ world agrees.
      written_more world c.args.pages.now c.args.own.now c.args.links.now c.loop-link.link-index _
      c.loop-link.written c.put_link.new.written c.loop-link-test.true
      (c.loop-link.invariant.written world (agrees_before world _ _ c.in_ok-put_link.ensures.grows agrees))
      (c.in_ok-put_link.ensures.known world agrees);
  stand = c.in_ok-put_link.ensures.stand ∙ c.loop-link.invariant.stand;
  founded = stays_after _ _ _ _ c.loop-link.invariant.grows c.loop-link.invariant.founded c.in_ok-put_link.ensures.founded;
  asks = asks_after nothing [] _ _ _ c.loop-link.invariant.grows c.loop-link.invariant.asks c.in_ok-put_link.ensures.asks;
  only = only_after _ _ _ _ c.loop-link.invariant.only c.in_ok-put_link.ensures.only;
  grows = grows_trans _ _ _ c.loop-link.invariant.grows c.in_ok-put_link.ensures.grows;
}

pub returns-clause-known : goal.returns-clause-known
returns-clause-known g c = λ world agrees.
    c.loop-link.invariant.written world agrees
    ∙ ap (λ links. filter_map (page_link_in world c.args.pages.now c.args.own.now) (map link_shown links))
    (take_all c.loop-link.link-index c.args.links.now (omega arith))

pub returns-in_err-put_link-clause-stand : goal.returns-in_err-put_link-clause-stand
returns-in_err-put_link-clause-stand g c = c.put_link.ensures.stand ∙ c.loop-link.invariant.stand

pub returns-in_err-put_link-clause-founded : goal.returns-in_err-put_link-clause-founded
returns-in_err-put_link-clause-founded g c =
    stays_after _ _ _ _ c.loop-link.invariant.grows c.loop-link.invariant.founded c.put_link.ensures.founded

pub returns-in_err-put_link-clause-asks : goal.returns-in_err-put_link-clause-asks
returns-in_err-put_link-clause-asks g c =
    asks_after nothing [] _ _ _ c.loop-link.invariant.grows c.loop-link.invariant.asks c.put_link.ensures.asks

pub returns-in_err-put_link-clause-grows : goal.returns-in_err-put_link-clause-grows
returns-in_err-put_link-clause-grows g c =
    grows_trans _ _ _ c.loop-link.invariant.grows c.put_link.ensures.grows

pub returns-clause-stand : goal.returns-clause-stand
returns-clause-stand g c = c.loop-link.invariant.stand

pub returns-clause-founded : goal.returns-clause-founded
returns-clause-founded g c = c.loop-link.invariant.founded

pub returns-clause-asks : goal.returns-clause-asks
returns-clause-asks g c = c.loop-link.invariant.asks

pub returns-clause-grows : goal.returns-clause-grows
returns-clause-grows g c = c.loop-link.invariant.grows

pub returns-clause-only : goal.returns-clause-only
returns-clause-only g c = c.loop-link.invariant.only
