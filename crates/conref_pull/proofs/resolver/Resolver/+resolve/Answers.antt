use Rattle.std.proofs.Common.{arith, rules, ◌∷◌, refl, ap, sym, ◌∙◌, slice_get}
use Rattle.std.proofs.lemmas.Option.{none-some}
use Rattle.dita_doc.specs.Siblings.{doc_of_siblings}
use Rattle.dita_doc.specs.declared.doc.Doc.{Doc}
use Rattle.doc_elements.specs.Walk.{element_of}
use Rattle.conref_targets.specs.Origin.{named_content}
use Rattle.conref_targets.specs.PageAsking.{IsMet}
use Rattle.conref_pull.specs.Step.{declared_inside, merged_onto}
use Rattle.conref_pull.specs.Walking.{around_of, inside_of, seen_by}
use Rattle.dita_doc.specs.Tree.{size_of}
use Rattle.conref_pull.proofs.ElementWalkLaws.{asked_kept, asked_not, asked_took, judged_gone, judged_plain}
use Rattle.conref_pull.proofs.MetLaws.{asks_unless, asks_same, asks_stopped, asks_then, at_on, ends_same, link_met, met_as, origin_met, place_asks, sibling_asks, text_each, unless_out}
use Rattle.conref_pull.proofs.OpenedLaws.{kept_not, kept_put, taken_goes, taken_not, taken_put}
use Rattle.conref_pull.proofs.WalkNodeLaws.{behind_among, place_nothing, place_puts, place_walks, put_there, sibling_text, siblings_end, siblings_ready, text_put}
use Rattle.conref_pull.proofs.WalkAskLaws.{about_same, agrees_before, among_same, among_then, asks_behind, asks_call, asks_counted, asks_followed, asks_last, asks_next, asks_on, asks_part, asks_target, given_later, given_some, grows_same, grows_trans, inside_among, link_later, links_later, node_reused, none_among, origin_there, page_around, page_faults, page_judged, page_on, page_one, page_same, page_then, reused_given}
use Rattle.conref_pull.proofs.WalkHrefLaws.{around_put, counted_put, left_named, maker_counted, maker_faults, maker_then, named_later, nodes_later, origin_later, origin_named, place_put, place_text, put_later, same_put, sibling_put, written_named}
use Rattle.conref_pull.proofs.WalkLoopLaws.{drop_all, element_smaller, first_within, given_links, links_are, node_next, node_none, node_stops, range_ends, range_goes_on, range_next, range_ready, range_stops, ranges_end, ranges_over, ranges_ready, rest_within, sibling_next, seen_as, siblings_smaller, some_node, sibling_stops, splits}
use Rattle.conref_pull.proofs.resolver.Resolver.+resolve.Goals as goal

pub node_at-element-requires : goal.node_at-element-requires
node_at-element-requires g t c =
    let smaller = element_smaller c.in-Some.inside c.args.at.links in search rules

pub merged-siblings-requires : goal.merged-siblings-requires
merged-siblings-requires g t c =
    let smaller = siblings_smaller c.in-Some.target.inside c.args.chain.now.end in search rules

pub siblings-loop-node-init : goal.siblings-loop-node-init
siblings-loop-node-init g t c = record {
  small = omega arith;
  within = among_same _;
  page = page_same _ _ refl;
  asks = λ nodes same. about_same nodes _ _ _ refl;
  stand = refl;
  grows = grows_same _;
  only = λ page agrees at met. (asks_same page _ _ refl, met);
  hrefs = λ given put. (given, put);
  walked = λ world here agrees ready. siblings_ready _ ready;
}

pub range-loop-init : goal.range-loop-init
range-loop-init g t c = record {
  page = page_same _ _ refl;
  asks = λ nodes same given. about_same nodes _ _ _ refl;
  stand = refl;
  grows = grows_same _;
  only = λ page agrees at met. asks_same page _ _ refl;
  hrefs = λ given put. put;
  walked = λ world here one agrees ready is. range_ready c.args.at.is_range (around_of c.args.at) ready is;
}

pub ranges-loop-link-init : goal.ranges-loop-link-init
ranges-loop-link-init g t c = record {
  page = page_same _ _ refl;
  asks = λ nodes same given. about_same nodes _ _ _ refl;
  stand = refl;
  grows = grows_same _;
  only = λ page agrees at met. asks_same page _ _ refl;
  hrefs = λ given put. put;
  walked = λ world here path taken agrees ready far limit same count linked.
      ranges_ready (around_of c.args.at) taken ready c.deref-link-items.ensures.value linked count same far limit;
}

pub element_with-returns-then-is_none-clause-asks : goal.element_with-returns-then-is_none-clause-asks
element_with-returns-then-is_none-clause-asks g t c =
    asks_part (g.A.Reader.stand c.args.asker.now) (page_faults c.args.self.now _ _ c.in_ok-is_excluded.ensures.state)
    (inside_among c.args.inside c.args.node.now) c.unchanged.ensures.asks

pub element_with-returns-in_err-chain-clause-asks : goal.element_with-returns-in_err-chain-clause-asks
element_with-returns-in_err-chain-clause-asks g t c =
    asks_followed c.args.self.now c.args.inside c.args.node.now c.in-Some.origin.now c.doc.ensures c.in-Some.ensures
    c.in_ok-is_excluded.ensures.state (g.A.Reader.stand c.args.asker.now) c.chain.ensures.asks

pub element_with-returns-then-chain-at-clause-asks : goal.element_with-returns-then-chain-at-clause-asks
element_with-returns-then-chain-at-clause-asks g t c =
    asks_behind c.args.self.now c.args.inside c.args.node.now c.in-Some.origin.now c.doc.ensures c.in-Some.ensures
    c.in_ok-is_excluded.ensures.state c.in_ok-chain.ensures.page (inside_among c.args.inside c.args.node.now)
    c.in_ok-chain.ensures.stand c.in_ok-chain.ensures.grows c.chain.ensures.asks c.unchanged-then-chain-at.ensures.asks

pub element_with-returns-in_err-merged-clause-asks : goal.element_with-returns-in_err-merged-clause-asks
element_with-returns-in_err-merged-clause-asks g t c =
    asks_behind c.args.self.now c.args.inside c.args.node.now c.in-Some.origin.now c.doc.ensures c.in-Some.ensures
    c.in_ok-is_excluded.ensures.state c.in_ok-chain.ensures.page (none_among _) c.in_ok-chain.ensures.stand
    c.in_ok-chain.ensures.grows c.chain.ensures.asks
    (λ nodes same. c.merged.ensures.asks nodes same c.in_ok-chain.ensures.given)

pub element_with-returns-clause-asks : goal.element_with-returns-clause-asks
element_with-returns-clause-asks g t c =
    asks_last c.args.self.now c.args.inside c.args.node.now c.in-Some.origin.now c.doc.ensures c.in-Some.ensures
    c.in_ok-is_excluded.ensures.state c.in_ok-chain.ensures.page c.in_ok-merged.ensures.page c.in_ok-chain.ensures.stand
    c.in_ok-merged.ensures.stand c.in_ok-chain.ensures.grows c.in_ok-merged.ensures.grows c.chain.ensures.asks
    (λ nodes same. c.merged.ensures.asks nodes same c.in_ok-chain.ensures.given) (λ nodes same. c.ranges-2.ensures.asks
    nodes same (links_later _ _ _ c.in_ok-merged.ensures.grows c.in_ok-chain.ensures.given))

pub merged-returns-in_err-siblings-clause-asks : goal.merged-returns-in_err-siblings-clause-asks
merged-returns-in_err-siblings-clause-asks g t c = λ nodes same given.
    asks_target (g.A.Reader.stand c.args.asker.now) c.in-Some.target c.in_ok-count_one.ensures
    c.in_ok-is_excluded.ensures.state (c.in-Some.ensures.given (g.A.Reader.told c.args.asker.now) given)
    c.siblings.ensures.asks nodes same

pub merged-returns-clause-asks : goal.merged-returns-clause-asks
merged-returns-clause-asks g t c = λ nodes same given.
    asks_target (g.A.Reader.stand c.args.asker.now) c.in-Some.target c.in_ok-count_one.ensures
    c.in_ok-is_excluded.ensures.state (c.in-Some.ensures.given (g.A.Reader.told c.args.asker.now) given)
    c.siblings.ensures.asks nodes same

pub node_at-returns-in-Some-clause-asks : goal.node_at-returns-in-Some-clause-asks
node_at-returns-in-Some-clause-asks g t c = λ nodes same given.
    asks_call (g.A.Reader.stand c.args.asker.now) (page_same c.args.self.now _ refl) (given_some _ _ _
    (node_reused c.args.doc.now c.args.place c.in-Some.node.now c.in-Some.inside c.in-Some.ensures) given)
    c.element.ensures.asks nodes same

pub range-loop-preserved : goal.range-loop-preserved
range-loop-preserved g t c = record {
  page = page_then _ _ _ c.loop.invariant.page c.in_ok-node_at.ensures.page;
  asks = λ nodes same given. asks_on c.loop.invariant.page c.loop.invariant.stand c.loop.invariant.grows
      (λ ns is. c.loop.invariant.asks ns is given) (λ ns is. c.node_at.ensures.asks ns is
      (reused_given c.deref-in-loop.ensures (given_later _ _ _ c.loop.invariant.grows given))) nodes same;
  stand = c.in_ok-node_at.ensures.stand ∙ c.loop.invariant.stand;
  grows = grows_trans _ _ _ c.loop.invariant.grows c.in_ok-node_at.ensures.grows;
  only = λ page agrees at met. asks_then page _ _ _
      (c.loop.invariant.only page (agrees_before page.world _ _ c.in_ok-node_at.ensures.grows agrees) at met)
      (c.in_ok-node_at.ensures.only page agrees (at_on c.loop.invariant.page c.loop.invariant.stand at)
      (met_as page c.deref-in-loop.ensures met));
  hrefs = λ given put. c.in_ok-node_at.ensures.hrefs
      (named_later c.loop.invariant.grows c.args.link.now c.deref-in-loop.ensures given)
      (c.loop.invariant.hrefs given put);
  walked = λ world here one agrees ready is.
      node_next c.deref-in-loop.ensures c.deref.ensures ready c.loop.invariant.page c.loop.invariant.stand
      c.if-place-link.false c.in-Some.ensures
      (c.loop.invariant.walked world here one (agrees_before world _ _ c.in_ok-node_at.ensures.grows agrees) ready is) _
      _ (λ part. c.in_ok-node_at.ensures.known world here part agrees);
}

pub range-returns-in_err-node_at-clause-asks : goal.range-returns-in_err-node_at-clause-asks
range-returns-in_err-node_at-clause-asks g t c = λ nodes same given.
    asks_on c.loop.invariant.page c.loop.invariant.stand c.loop.invariant.grows
    (λ ns is. c.loop.invariant.asks ns is given) (λ ns is. c.node_at.ensures.asks ns is
    (reused_given c.deref-in-loop.ensures (given_later _ _ _ c.loop.invariant.grows given))) nodes same

pub ranges-loop-link-preserved : goal.ranges-loop-link-preserved
ranges-loop-link-preserved g t c = record {
  page = page_then _ _ _ c.loop-link.invariant.page c.in_ok-range.ensures.page;
  asks = λ nodes same given. asks_on c.loop-link.invariant.page c.loop-link.invariant.stand c.loop-link.invariant.grows
      (λ ns is. c.loop-link.invariant.asks ns is given) (λ ns is. c.range.ensures.asks ns is (link_later
      c.loop-link.link-index c.loop-link.invariant.grows c.deref-link-items.ensures.value c.loop-link-test.true
      c.link-item.is given)) nodes same;
  stand = c.in_ok-range.ensures.stand ∙ c.loop-link.invariant.stand;
  grows = grows_trans _ _ _ c.loop-link.invariant.grows c.in_ok-range.ensures.grows;
  only = λ page agrees at met. asks_then page _ _ _
      (c.loop-link.invariant.only page (agrees_before page.world _ _ c.in_ok-range.ensures.grows agrees) at met)
      (c.in_ok-range.ensures.only page agrees (at_on c.loop-link.invariant.page c.loop-link.invariant.stand at)
      (link_met page c.loop-link.link-index c.deref-link-items.ensures.value c.loop-link-test.true c.link-item.is met));
  hrefs = λ given put. c.in_ok-range.ensures.hrefs (link_later c.loop-link.link-index c.loop-link.invariant.grows
      c.deref-link-items.ensures.value c.loop-link-test.true c.link-item.is given) (c.loop-link.invariant.hrefs given
      put);
  walked = λ world here path taken agrees ready far limit same count linked.
      range_next ready c.loop-link.invariant.page c.loop-link.invariant.stand c.if-count-at.false c.loop-link-test.true
      c.link-item.is (c.loop-link.invariant.walked world here path taken
      (agrees_before world _ _ c.in_ok-range.ensures.grows agrees) ready far limit same count linked) _ _
      (λ at one. c.in_ok-range.ensures.known world at one agrees);
}

pub ranges-returns-in_err-range-clause-asks : goal.ranges-returns-in_err-range-clause-asks
ranges-returns-in_err-range-clause-asks g t c = λ nodes same given.
    asks_on c.loop-link.invariant.page c.loop-link.invariant.stand c.loop-link.invariant.grows
    (λ ns is. c.loop-link.invariant.asks ns is given) (λ ns is. c.range.ensures.asks ns is (link_later
    c.loop-link.link-index c.loop-link.invariant.grows c.deref-link-items.ensures.value c.loop-link-test.true
    c.link-item.is given)) nodes same

pub siblings-returns-in_err-element-in-Element-clause-asks : goal.siblings-returns-in_err-element-in-Element-clause-asks
siblings-returns-in_err-element-in-Element-clause-asks g t c =
    asks_next c.loop-node.invariant.page (first_within (splits c.loop-node.left c.in-Element.node.now
    c.in-Element.inside c.in-Element.rest c.in-Element.ensures.content c.in-Element.ensures.document)
    c.loop-node.invariant.within) c.loop-node.invariant.stand c.loop-node.invariant.grows c.loop-node.invariant.asks
    c.element.ensures.asks

pub siblings-loop-node-preserved : goal.siblings-loop-node-preserved
siblings-loop-node-preserved g t c =
    let split = splits c.loop-node.left c.in-Element.node.now c.in-Element.inside c.in-Element.rest
    c.in-Element.ensures.content c.in-Element.ensures.document in
    record {
      small = omega (arith, ap size_of c.in-Element.ensures.content, c.loop-node.invariant.small);
      within = rest_within split c.loop-node.invariant.within;
      page = page_then _ _ _ c.loop-node.invariant.page c.in_ok-element-in-Element.ensures.page;
      asks = asks_next c.loop-node.invariant.page (first_within split c.loop-node.invariant.within)
          c.loop-node.invariant.stand c.loop-node.invariant.grows c.loop-node.invariant.asks c.element.ensures.asks;
      stand = c.in_ok-element-in-Element.ensures.stand ∙ c.loop-node.invariant.stand;
      grows = grows_trans _ _ _ c.loop-node.invariant.grows c.in_ok-element-in-Element.ensures.grows;
      only = λ page agrees at met.
          (let before = c.loop-node.invariant.only page
          (agrees_before page.world _ _ c.in_ok-element-in-Element.ensures.grows agrees) at met in
          sibling_asks page split before.1 (λ first held. asks_then page _ _ _ before.0
          (c.in_ok-element-in-Element.ensures.only page agrees
          (at_on c.loop-node.invariant.page c.loop-node.invariant.stand at) first held)));
      hrefs = λ given put. sibling_put c.loop-node.invariant.grows split (c.loop-node.invariant.hrefs given put)
          c.in_ok-element-in-Element.ensures.hrefs;
      walked = λ world here agrees ready.
          sibling_next c.args.at.is_range (around_of c.args.at) c.in-Element.place split c.in-Element.ensures.node ready
          c.loop-node.invariant.page c.loop-node.invariant.stand (c.loop-node.invariant.walked world here
          (agrees_before world _ _ c.in_ok-element-in-Element.ensures.grows agrees) ready) _ _
          (c.in_ok-element-in-Element.ensures.known world here c.in-Element.place agrees);
    }

pub unchanged-returns-in_err-siblings-clause-asks : goal.unchanged-returns-in_err-siblings-clause-asks
unchanged-returns-in_err-siblings-clause-asks g t c =
    asks_counted (g.A.Reader.stand c.args.asker.now) c.in_ok-count_one.ensures c.siblings.ensures.asks

pub unchanged-returns-clause-asks : goal.unchanged-returns-clause-asks
unchanged-returns-clause-asks g t c =
    asks_counted (g.A.Reader.stand c.args.asker.now) c.in_ok-count_one.ensures c.siblings.ensures.asks

pub element_with-returns-then-chain-at-clause-grows : goal.element_with-returns-then-chain-at-clause-grows
element_with-returns-then-chain-at-clause-grows g t c =
    grows_trans _ _ _ c.in_ok-chain.ensures.grows c.unchanged-then-chain-at.ensures.grows

pub element_with-returns-in_err-merged-clause-grows : goal.element_with-returns-in_err-merged-clause-grows
element_with-returns-in_err-merged-clause-grows g t c = grows_trans _ _ _ c.in_ok-chain.ensures.grows c.merged.ensures.grows

pub element_with-returns-clause-grows : goal.element_with-returns-clause-grows
element_with-returns-clause-grows g t c = grows_trans _ _ _ c.in_ok-chain.ensures.grows
    (grows_trans _ _ _ c.in_ok-merged.ensures.grows c.ranges-2.ensures.grows)

pub element_with-returns-then-chain-at-clause-page : goal.element_with-returns-then-chain-at-clause-page
element_with-returns-then-chain-at-clause-page g t c = page_on c.unchanged-then-chain-at.result
    c.unchanged-then-chain-at.new.self (page_then _ _ _ (page_faults c.args.self.now _ _
    c.in_ok-is_excluded.ensures.state) c.in_ok-chain.ensures.page) c.unchanged-then-chain-at.ensures.page

pub element_with-returns-clause-page : goal.element_with-returns-clause-page
element_with-returns-clause-page g t c = page_on c.ranges-2.result c.ranges-2.new.self (page_then _ _ _ (page_then _ _ _
    (page_faults c.args.self.now _ _ c.in_ok-is_excluded.ensures.state) c.in_ok-chain.ensures.page)
    c.in_ok-merged.ensures.page) c.ranges-2.ensures.page

pub unchanged-returns-clause-page : goal.unchanged-returns-clause-page
unchanged-returns-clause-page g t c = page_around c.open.new.self c.close.new.self
    (page_one _ _ c.in_ok-count_one.ensures) c.in_ok-siblings.ensures.page

pub merged-returns-clause-page : goal.merged-returns-clause-page
merged-returns-clause-page g t c = page_around c.open.new.self c.close.new.self (page_judged _ c.args.self.now _
    _ c.in_ok-count_one.ensures c.in_ok-is_excluded.ensures.state) c.in_ok-siblings.ensures.page

-- The documents that hrefs name

pub siblings-returns-in-End-clause-hrefs : goal.siblings-returns-in-End-clause-hrefs
siblings-returns-in-End-clause-hrefs g t c = λ given put. (c.loop-node.invariant.hrefs given put).1

pub node_at-returns-in-Some-clause-hrefs : goal.node_at-returns-in-Some-clause-hrefs
node_at-returns-in-Some-clause-hrefs g t c = λ all put.
    place_put _ c.in-Some.ensures all c.element.ensures.hrefs put

pub node_at-returns-in-Some-node_of-clause-hrefs : goal.node_at-returns-in-Some-node_of-clause-hrefs
node_at-returns-in-Some-node_of-clause-hrefs g t c = λ all put.
    place_text _ c.args.doc.now c.in-Some-node_of.node.now c.put_chars.result _ _
    (c.put_chars.ensures.put c.args.place (sym c.in-Some-node_of.ensures)) put

pub element_with-returns-then-branch-clause-hrefs : goal.element_with-returns-then-branch-clause-hrefs
element_with-returns-then-branch-clause-hrefs g t c = λ named held put.
    same_put _ _ _ (maker_faults c.args.self.now _ _ c.in_ok-is_excluded.ensures.state) put

pub element_with-returns-then-is_none-clause-hrefs : goal.element_with-returns-then-is_none-clause-hrefs
element_with-returns-then-is_none-clause-hrefs g t c = λ named held put.
    c.unchanged.ensures.hrefs (origin_named _ c.args.inside c.args.node.now c.in-Some.origin.now c.doc.result.now
    c.doc.ensures c.in-Some.ensures named) held
    (same_put _ c.args.self.now c.is_excluded.new.self (maker_faults _ _ _ c.in_ok-is_excluded.ensures.state) put)

pub element_with-returns-then-chain-at-clause-hrefs : goal.element_with-returns-then-chain-at-clause-hrefs
element_with-returns-then-chain-at-clause-hrefs g t c = λ named held put.
    (let grows = c.in_ok-chain.ensures.grows in
    c.unchanged-then-chain-at.ensures.hrefs
    (origin_later grows c.args.inside c.args.node.now c.in-Some.origin.now c.doc.ensures c.in-Some.ensures named)
    (nodes_later _ _ grows (named_content c.args.inside) held) (put_later grows (maker_then c.args.self.now
    c.is_excluded.new.self c.chain.new.self (maker_faults _ _ _ c.in_ok-is_excluded.ensures.state)
    c.in_ok-chain.ensures.maker) put))

pub element_with-returns-clause-hrefs : goal.element_with-returns-clause-hrefs
element_with-returns-clause-hrefs g t c = λ named held put.
    (let grows = c.in_ok-chain.ensures.grows in
    c.ranges-2.ensures.hrefs (links_later _ _ _ c.in_ok-merged.ensures.grows c.in_ok-chain.ensures.given)
    (c.in_ok-merged.ensures.hrefs
    (origin_later grows c.args.inside c.args.node.now c.in-Some.origin.now c.doc.ensures c.in-Some.ensures named)
    c.in_ok-chain.ensures.given (put_later grows (maker_then c.args.self.now c.is_excluded.new.self c.chain.new.self
    (maker_faults _ _ _ c.in_ok-is_excluded.ensures.state) c.in_ok-chain.ensures.maker) put)))

pub merged-returns-then-branch-clause-hrefs : goal.merged-returns-then-branch-clause-hrefs
merged-returns-then-branch-clause-hrefs g t c = λ named given put.
    counted_put _ c.in_ok-count_one.ensures c.in_ok-is_excluded.ensures.state put

pub merged-returns-in_default-clause-hrefs : goal.merged-returns-in_default-clause-hrefs
merged-returns-in_default-clause-hrefs g t c = λ named given put.
    counted_put _ c.in_ok-count_one.ensures c.in_ok-is_excluded.ensures.state put

pub merged-returns-clause-hrefs : goal.merged-returns-clause-hrefs
merged-returns-clause-hrefs g t c = λ named given put.
    (let told = g.A.Reader.told c.args.asker.now in
    around_put told _ _ c.is_excluded.new.self c.siblings.new.self c.in_ok-open.ensures.opened (written_named told
    c.args.at.is_range c.in_ok-merged.merged c.in_ok-attributes.ensures
    (c.in_ok-merged.ensures.hrefs told named (given_links told c.deref.ensures.value given)))
    (counted_put _ c.in_ok-count_one.ensures c.in_ok-is_excluded.ensures.state put)
    (c.in_ok-siblings.ensures.hrefs (c.in-Some.ensures.hrefs told given).1) c.close.ensures.closed)

pub unchanged-returns-clause-hrefs : goal.unchanged-returns-clause-hrefs
unchanged-returns-clause-hrefs g t c = λ named held put.
    (let told = g.A.Reader.told c.args.asker.now in
    let element = element_of c.args.origin.now c.args.node.now in
    around_put told _ c.args.origin.now c.count_one.new.self c.siblings.new.self c.in_ok-open.ensures.opened
    (left_named told c.args.at.is_range element (c.in_ok-attributes.ensures element c.in_ok-own.ensures).attributes
    named) (same_put _ c.args.self.now _ (maker_counted _ _ c.in_ok-count_one.ensures) put)
    (c.in_ok-siblings.ensures.hrefs held) c.close.ensures.closed)

-- The questions for the page

pub siblings-returns-in-End-clause-only : goal.siblings-returns-in-End-clause-only
siblings-returns-in-End-clause-only g t c = λ page agrees at met. (c.loop-node.invariant.only page agrees at met).0

pub siblings-returns-in_err-put_chars-in-Chars-clause-only : goal.siblings-returns-in_err-put_chars-in-Chars-clause-only
siblings-returns-in_err-put_chars-in-Chars-clause-only g t c = λ page agrees at met.
    unless_out _ _ (c.loop-node.invariant.only page agrees at met).0

pub siblings-returns-in_err-element-in-Element-clause-only : goal.siblings-returns-in_err-element-in-Element-clause-only
siblings-returns-in_err-element-in-Element-clause-only g t c = λ page agrees at met.
    (let before = c.loop-node.invariant.only page (agrees_before page.world _ _ c.element.ensures.grows agrees) at met in
    (sibling_asks page (splits c.loop-node.left c.in-Element.node.now c.in-Element.inside c.in-Element.rest
    c.in-Element.ensures.content c.in-Element.ensures.document) before.1
    (λ first held. asks_stopped page _ _ _ c.from_residual-in_err-element-in-Element.result c.in_err-element-in-Element.field-0.0
    c.from_residual-in_err-element-in-Element.ensures.1 before.0
    (c.in_err-element-in-Element.ensures.only page agrees
    (at_on c.loop-node.invariant.page c.loop-node.invariant.stand at) first held))).0)

pub element-returns-clause-only : goal.element-returns-clause-only
element-returns-clause-only g t c = c.element_with.ensures.only

pub element_with-returns-in_default-clause-only : goal.element_with-returns-in_default-clause-only
element_with-returns-in_default-clause-only g t c = λ page agrees at met held. asks_same page _ _ refl

pub element_with-returns-then-branch-clause-only : goal.element_with-returns-then-branch-clause-only
element_with-returns-then-branch-clause-only g t c = λ page agrees at met held. asks_same page _ _ refl

pub element_with-returns-then-is_none-clause-only : goal.element_with-returns-then-is_none-clause-only
element_with-returns-then-is_none-clause-only g t c = λ page agrees at met held.
    c.unchanged.ensures.only page agrees
    (at_on (page_faults c.args.self.now _ _ c.in_ok-is_excluded.ensures.state) refl at) held

pub element_with-returns-then-chain-at-clause-only : goal.element_with-returns-then-chain-at-clause-only
element_with-returns-then-chain-at-clause-only g t c = λ page agrees at met held.
    (let judged = at_on (page_faults c.args.self.now _ _ c.in_ok-is_excluded.ensures.state) refl at in
    asks_unless page _ _ _ c.unchanged-then-chain-at.result
    (c.in_ok-chain.ensures.only page (agrees_before page.world _ _ c.unchanged-then-chain-at.ensures.grows agrees)
    judged (origin_met page c.args.inside c.args.node.now c.in-Some.origin.now c.doc.ensures c.in-Some.ensures met)).asks
    (c.unchanged-then-chain-at.ensures.only page agrees
    (at_on c.in_ok-chain.ensures.page c.in_ok-chain.ensures.stand judged) held))

pub element_with-returns-in_err-merged-clause-only : goal.element_with-returns-in_err-merged-clause-only
element_with-returns-in_err-merged-clause-only g t c = λ page agrees at met held.
    (let judged = at_on (page_faults c.args.self.now _ _ c.in_ok-is_excluded.ensures.state) refl at in
    let chain = c.in_ok-chain.ensures.only page (agrees_before page.world _ _ c.merged.ensures.grows agrees) judged
    (origin_met page c.args.inside c.args.node.now c.in-Some.origin.now c.doc.ensures c.in-Some.ensures met) in
    asks_stopped page _ _ _ c.from_residual-in_err-merged.result c.in_err-merged.field-0.0 c.from_residual-in_err-merged.ensures.1
    chain.asks (c.in_err-merged.ensures.only page agrees
    (at_on c.in_ok-chain.ensures.page c.in_ok-chain.ensures.stand judged) chain.met))

pub element_with-returns-clause-only : goal.element_with-returns-clause-only
element_with-returns-clause-only g t c = λ page agrees at met held.
    (let judged = at_on (page_faults c.args.self.now _ _ c.in_ok-is_excluded.ensures.state) refl at in
    let later = agrees_before page.world _ _ c.ranges-2.ensures.grows agrees in
    let chain = c.in_ok-chain.ensures.only page (agrees_before page.world _ _ c.in_ok-merged.ensures.grows later) judged
    (origin_met page c.args.inside c.args.node.now c.in-Some.origin.now c.doc.ensures c.in-Some.ensures met) in
    let followed = at_on c.in_ok-chain.ensures.page c.in_ok-chain.ensures.stand judged in
    asks_unless page _ _ _ c.ranges-2.result
    (asks_then page _ _ _ chain.asks (c.in_ok-merged.ensures.only page later followed chain.met))
    (c.ranges-2.ensures.only page agrees
    (at_on c.in_ok-merged.ensures.page c.in_ok-merged.ensures.stand followed) chain.met))

pub unchanged-returns-in_err-count_one-clause-only : goal.unchanged-returns-in_err-count_one-clause-only
unchanged-returns-in_err-count_one-clause-only g t c = λ page agrees at held. ends_same page _ _

pub unchanged-returns-in_err-siblings-clause-only : goal.unchanged-returns-in_err-siblings-clause-only
unchanged-returns-in_err-siblings-clause-only g t c = λ page agrees at held.
    asks_stopped page _ _ _ c.from_residual-in_err-siblings.result c.in_err-siblings.field-0.0
    c.from_residual-in_err-siblings.ensures.1 (asks_same page _ _ refl) (c.in_err-siblings.ensures.only page agrees
    (at_on (page_one c.args.self.now c.count_one.new.self c.in_ok-count_one.ensures) refl at) held)

pub unchanged-returns-clause-only : goal.unchanged-returns-clause-only
unchanged-returns-clause-only g t c = λ page agrees at held.
    c.in_ok-siblings.ensures.only page agrees
    (at_on (page_one c.args.self.now c.count_one.new.self c.in_ok-count_one.ensures) refl at) held

pub merged-returns-in_err-count_one-clause-only : goal.merged-returns-in_err-count_one-clause-only
merged-returns-in_err-count_one-clause-only g t c = λ page agrees at met. ends_same page _ _

pub merged-returns-then-branch-clause-only : goal.merged-returns-then-branch-clause-only
merged-returns-then-branch-clause-only g t c = λ page agrees at met. asks_same page _ _ refl

pub merged-returns-in_default-clause-only : goal.merged-returns-in_default-clause-only
merged-returns-in_default-clause-only g t c = λ page agrees at met. asks_same page _ _ refl

pub merged-returns-in_err-siblings-clause-only : goal.merged-returns-in_err-siblings-clause-only
merged-returns-in_err-siblings-clause-only g t c = λ page agrees at met.
    asks_stopped page _ _ _ c.from_residual-in_err-siblings.result c.in_err-siblings.field-0.0
    c.from_residual-in_err-siblings.ensures.1 (asks_same page _ _ refl) (c.in_err-siblings.ensures.only page agrees
    (at_on (page_judged _ c.args.self.now _ _ c.in_ok-count_one.ensures c.in_ok-is_excluded.ensures.state) refl at)
    (c.in-Some.ensures.met page met).1)

pub merged-returns-clause-only : goal.merged-returns-clause-only
merged-returns-clause-only g t c = λ page agrees at met.
    c.in_ok-siblings.ensures.only page agrees
    (at_on (page_judged _ c.args.self.now _ _ c.in_ok-count_one.ensures c.in_ok-is_excluded.ensures.state) refl at)
    (c.in-Some.ensures.met page met).1

pub ranges-returns-then-count-at-clause-only : goal.ranges-returns-then-count-at-clause-only
ranges-returns-then-count-at-clause-only g t c = c.loop-link.invariant.only

pub ranges-returns-in_err-range-clause-only : goal.ranges-returns-in_err-range-clause-only
ranges-returns-in_err-range-clause-only g t c = λ page agrees at met.
    asks_stopped page _ _ _ c.from_residual.result c.in_err-range.field-0.0 c.from_residual.ensures.1
    (c.loop-link.invariant.only page (agrees_before page.world _ _ c.range.ensures.grows agrees) at met)
    (c.in_err-range.ensures.only page agrees (at_on c.loop-link.invariant.page c.loop-link.invariant.stand at)
    (link_met page c.loop-link.link-index c.deref-link-items.ensures.value c.loop-link-test.true c.link-item.is met))

pub ranges-returns-clause-only : goal.ranges-returns-clause-only
ranges-returns-clause-only g t c = c.loop-link.invariant.only

pub range-returns-then-place-link-clause-only : goal.range-returns-then-place-link-clause-only
range-returns-then-place-link-clause-only g t c = c.loop.invariant.only

pub range-returns-in_default-clause-only : goal.range-returns-in_default-clause-only
range-returns-in_default-clause-only g t c = c.loop.invariant.only

pub range-returns-in_err-node_at-clause-only : goal.range-returns-in_err-node_at-clause-only
range-returns-in_err-node_at-clause-only g t c = λ page agrees at met.
    asks_stopped page _ _ _ c.from_residual.result c.in_err-node_at.field-0.0 c.from_residual.ensures.1
    (c.loop.invariant.only page (agrees_before page.world _ _ c.node_at.ensures.grows agrees) at met)
    (c.in_err-node_at.ensures.only page agrees (at_on c.loop.invariant.page c.loop.invariant.stand at)
    (met_as page c.deref-in-loop.ensures met))

pub range-returns-clause-only : goal.range-returns-clause-only
range-returns-clause-only g t c = c.loop.invariant.only

pub node_at-returns-in-Some-clause-only : goal.node_at-returns-in-Some-clause-only
node_at-returns-in-Some-clause-only g t c = λ page agrees at met.
    place_asks page c.in-Some.ensures met (c.element.ensures.only page agrees at)

pub node_at-returns-in-Some-node_of-clause-only : goal.node_at-returns-in-Some-node_of-clause-only
node_at-returns-in-Some-node_of-clause-only g t c = λ page agrees at met.
    ends_same page c.put_chars.result _

pub node_at-returns-in-None-node_of-clause-only : goal.node_at-returns-in-None-node_of-clause-only
node_at-returns-in-None-node_of-clause-only g t c = λ page agrees at met. asks_same page _ _ refl

-- What was put

pub node_at-returns-in-Some-clause-known : goal.node_at-returns-in-Some-clause-known
node_at-returns-in-Some-clause-known g t c = λ world here part agrees ready there first.
    place_walks here c.args.at.links c.args.at.is_range (around_of c.args.at) c.element.result _ _ _ c.in-Some.ensures
    there first (c.element.ensures.known world here c.args.place agrees ready)

pub siblings-returns-in-End-clause-known : goal.siblings-returns-in-End-clause-known
siblings-returns-in-End-clause-known g t c = λ world here agrees ready.
    siblings_end here c.args.at.is_range (around_of c.args.at) c.loop-node.left c.in-End.ensures.content
    (c.loop-node.invariant.walked world here agrees ready)

pub siblings-returns-in_err-element-in-Element-clause-known : goal.siblings-returns-in_err-element-in-Element-clause-known
siblings-returns-in_err-element-in-Element-clause-known g t c = λ world here agrees ready.
    sibling_stops c.args.at.is_range (around_of c.args.at) c.in-Element.place (splits c.loop-node.left
    c.in-Element.node.now c.in-Element.inside c.in-Element.rest c.in-Element.ensures.content
    c.in-Element.ensures.document) c.in-Element.ensures.node ready c.loop-node.invariant.page
    c.loop-node.invariant.stand
    (c.loop-node.invariant.walked world here (agrees_before world _ _ c.element.ensures.grows agrees) ready)
    c.from_residual-in_err-element-in-Element.result c.in_err-element-in-Element.field-0.0 _ _
    c.from_residual-in_err-element-in-Element.ensures.1
    (c.in_err-element-in-Element.ensures.known world here c.in-Element.place agrees)

pub siblings-loop-node-preserved-in-Chars : goal.siblings-loop-node-preserved-in-Chars
siblings-loop-node-preserved-in-Chars g t c =
    let put = put_there c.in-Chars.place c.doc.ensures (c.in_ok-put_chars-in-Chars.ensures.put c.in-Chars.place)
    c.in-Chars.ensures.node in
    record {
      small = omega (arith, ap size_of c.in-Chars.ensures.content, c.loop-node.invariant.small);
      within = among_then _ _ _ (behind_among c.loop-node.left c.in-Chars.rest c.in-Chars.node.now
          c.in-Chars.ensures.content c.in-Chars.ensures.document) c.loop-node.invariant.within;
      page = page_then _ _ _ c.loop-node.invariant.page c.in_ok-put_chars-in-Chars.ensures.page;
      asks = c.loop-node.invariant.asks;
      stand = c.loop-node.invariant.stand;
      grows = c.loop-node.invariant.grows;
      only = λ page agrees at met.
          (let before = c.loop-node.invariant.only page agrees at met in (
            before.0,
            text_each (IsMet page) c.loop-node.left c.in-Chars.rest c.in-Chars.node.now.text
                c.in-Chars.node.now.origin c.in-Chars.node.now.line c.in-Chars.ensures.content c.in-Chars.ensures.document
                before.1,
          ));
      hrefs = λ given held. text_put c.loop-node.left c.in-Chars.rest c.in-Chars.node.now c.in-Chars.ensures.content
          c.in-Chars.ensures.document _ _ put (c.loop-node.invariant.hrefs given held);
      walked = λ world here agrees ready. sibling_text c.loop-node.left c.in-Chars.rest c.in-Chars.node.now
          c.in-Chars.ensures.content c.in-Chars.ensures.document here c.args.at.is_range (around_of c.args.at) put
          c.in_ok-put_chars-in-Chars.ensures.path (c.loop-node.invariant.walked world here agrees ready);
    }

pub element-returns-clause-known : goal.element-returns-clause-known
element-returns-clause-known g t c = λ world here place agrees ready there.
    c.element_with.ensures.known world here place agrees ready there
    (c.declared_for-declared.ensures ∙ sym (c.in_ok-own.ensures c.args.at.declared.now))

pub element_with-returns-in_default-clause-known : goal.element_with-returns-in_default-clause-known
element_with-returns-in_default-clause-known g t c = λ world here place agrees ready there declares.
    absurd (origin_there (doc_of_siblings c.args.inside) place c.args.node.now there
    (ap (λ (d : Doc). slice_get d.origins c.args.node.now.origin) (sym c.doc.ensures) ∙ sym c.in_default.ensures))

pub element_with-returns-then-branch-clause-known : goal.element_with-returns-then-branch-clause-known
element_with-returns-then-branch-clause-known g t c = λ world here place agrees ready there declares.
    judged_gone c.args.at.is_range (around_of c.args.at) c.args.inside c.args.node.now c.in-Some.origin.now
    c.args.declared.now c.doc.ensures c.in-Some.ensures declares c.in_ok-is_excluded.ensures.state ready (sym c.if-branch.true ∙ c.in_ok-is_excluded.ensures.goes)

pub element_with-returns-then-is_none-clause-known : goal.element_with-returns-then-is_none-clause-known
element_with-returns-then-is_none-clause-known g t c = λ world here place agrees ready there declares.
    judged_plain c.args.at.is_range (around_of c.args.at) c.args.inside c.args.node.now c.in-Some.origin.now
    c.args.declared.now c.doc.ensures c.in-Some.ensures declares c.in_ok-is_excluded.ensures.state ready
    c.unchanged.result c.by.result _ _ (sym c.if-branch.false ∙ c.in_ok-is_excluded.ensures.goes)
    (c.by.ensures c.in-Some.origin.now) c.if-is_none.ensures (c.unchanged.ensures.known world here agrees)

pub element_with-returns-then-chain-at-clause-known : goal.element_with-returns-then-chain-at-clause-known
element_with-returns-then-chain-at-clause-known g t c = λ world here place agrees ready there declares.
    asked_kept c.args.at.is_range (around_of c.args.at) c.args.inside c.args.node.now c.in-Some.origin.now
    c.args.declared.now c.doc.ensures c.in-Some.ensures declares c.in_ok-is_excluded.ensures.state (sym c.if-branch.false ∙ c.in_ok-is_excluded.ensures.goes)
    (c.topic_seen-topic.ensures c.in-Some.origin.now) c.in_ok-chain.ensures.page c.in_ok-chain.ensures.stand ready
    (c.in_ok-chain.ensures.known world here.depth (named_content c.args.inside)
    (agrees_before world _ _ c.unchanged-then-chain-at.ensures.grows agrees)) c.unchanged-then-chain-at.result _ _
    c.if-chain-at.true (c.unchanged-then-chain-at.ensures.known world here agrees)

pub element_with-returns-in_err-merged-clause-known : goal.element_with-returns-in_err-merged-clause-known
element_with-returns-in_err-merged-clause-known g t c = λ world here place agrees ready there declares.
    asked_not c.args.at.is_range (around_of c.args.at) c.args.inside c.args.node.now c.in-Some.origin.now
    c.args.declared.now c.doc.ensures c.in-Some.ensures declares c.in_ok-is_excluded.ensures.state (sym c.if-branch.false ∙ c.in_ok-is_excluded.ensures.goes)
    (c.topic_seen-topic.ensures c.in-Some.origin.now) c.in_ok-chain.ensures.page c.in_ok-chain.ensures.stand ready
    (c.in_ok-chain.ensures.known world here.depth (named_content c.args.inside)
    (agrees_before world _ _ c.merged.ensures.grows agrees)) c.from_residual-in_err-merged.result
    c.in_err-merged.field-0.0 _ _ c.from_residual-in_err-merged.ensures.1 c.if-chain-at.false
    c.in_ok-chain.ensures.limit (λ at farthest nearer. c.in_err-merged.ensures.known world at farthest nearer agrees)

pub element_with-returns-clause-known : goal.element_with-returns-clause-known
element_with-returns-clause-known g t c = λ world here place agrees ready there declares.
    (let later = agrees_before world _ _ c.ranges-2.ensures.grows agrees in
    asked_took c.args.at.is_range (around_of c.args.at) c.args.inside c.args.node.now c.in-Some.origin.now
    c.args.declared.now c.doc.ensures c.in-Some.ensures declares c.in_ok-is_excluded.ensures.state (sym c.if-branch.false ∙ c.in_ok-is_excluded.ensures.goes)
    (c.topic_seen-topic.ensures c.in-Some.origin.now) c.in_ok-chain.ensures.page c.in_ok-chain.ensures.stand ready
    (c.in_ok-chain.ensures.known world here.depth (named_content c.args.inside)
    (agrees_before world _ _ c.in_ok-merged.ensures.grows later)) c.ranges-2.result _ _ c.if-chain-at.false
    c.in_ok-chain.ensures.limit c.in_ok-merged.ensures.page c.in_ok-merged.ensures.stand
    (λ at farthest nearer. c.in_ok-merged.ensures.known world at farthest nearer later)
    (λ path taken. c.ranges-2.ensures.known world here path taken agrees))

pub merged-returns-then-branch-clause-known : goal.merged-returns-then-branch-clause-known
merged-returns-then-branch-clause-known g t c = λ world here farthest nearer agrees ready linked types.
    taken_goes c.args.at.is_range (seen_by c.args.topic.now c.args.declared.now) (declared_inside farthest)
    (element_of c.args.origin.now c.args.node.now) (merged_onto farthest.element nearer) farthest.inside c.in_ok-count_one.ensures (c.in_ok-merged.ensures.merged
    here.path c.args.chain.now.end (farthest ∷ nearer) farthest.inside
    (links_are here.path c.args.chain.now.end (farthest ∷ nearer) c.deref.ensures.value linked))
    c.in_ok-is_excluded.ensures.state ready (sym c.if-branch.true ∙ c.in_ok-is_excluded.ensures.goes)

pub merged-returns-in_default-clause-known : goal.merged-returns-in_default-clause-known
merged-returns-in_default-clause-known g t c = λ world here farthest nearer agrees ready linked types.
    absurd (none-some _ (c.in_default.ensures.target here.path c.args.chain.now.end farthest nearer linked))

pub merged-returns-in_err-siblings-clause-known : goal.merged-returns-in_err-siblings-clause-known
merged-returns-in_err-siblings-clause-known g t c = λ world here farthest nearer agrees ready linked types.
    (taken_not c.args.at.is_range (seen_by c.args.topic.now c.args.declared.now) (declared_inside farthest)
    (element_of c.args.origin.now c.args.node.now) (merged_onto farthest.element nearer) farthest.inside c.open.new.self c.in_ok-own.own refl
    c.in_ok-count_one.ensures (c.in_ok-merged.ensures.merged here.path c.args.chain.now.end (farthest ∷ nearer) farthest.inside
    (links_are here.path c.args.chain.now.end (farthest ∷ nearer) c.deref.ensures.value linked))
    c.in_ok-is_excluded.ensures.state (sym c.if-branch.false ∙ c.in_ok-is_excluded.ensures.goes)
    c.in_ok-name.ensures.cases c.in_ok-attributes.ensures c.in_ok-open.ensures.opened c.in_ok-own.ensures.cases
    c.in_ok-open.ensures.declared (seen_as (c.topic_taken.ensures c.args.origin.now
    (merged_onto farthest.element nearer) types) (c.in_ok-there.ensures here.path c.args.chain.now.end farthest nearer
    linked)) ready c.from_residual-in_err-siblings.result c.in_err-siblings.field-0.0 _ _
    c.from_residual-in_err-siblings.ensures.1 (c.in-Some.ensures.target here.path c.args.chain.now.end farthest nearer
    linked) (c.in_err-siblings.ensures.known world (inside_of here) agrees))

pub merged-returns-clause-known : goal.merged-returns-clause-known
merged-returns-clause-known g t c = λ world here farthest nearer agrees ready linked types.
    (taken_put c.args.at.is_range (seen_by c.args.topic.now c.args.declared.now) (declared_inside farthest)
    (element_of c.args.origin.now c.args.node.now) (merged_onto farthest.element nearer) farthest.inside c.open.new.self c.in_ok-own.own refl
    c.in_ok-count_one.ensures (c.in_ok-merged.ensures.merged here.path c.args.chain.now.end (farthest ∷ nearer) farthest.inside
    (links_are here.path c.args.chain.now.end (farthest ∷ nearer) c.deref.ensures.value linked))
    c.in_ok-is_excluded.ensures.state (sym c.if-branch.false ∙ c.in_ok-is_excluded.ensures.goes)
    c.in_ok-name.ensures.cases c.in_ok-attributes.ensures c.in_ok-open.ensures.opened c.in_ok-own.ensures.cases
    c.in_ok-open.ensures.declared (seen_as (c.topic_taken.ensures c.args.origin.now
    (merged_onto farthest.element nearer) types) (c.in_ok-there.ensures here.path c.args.chain.now.end farthest nearer
    linked)) ready c.close.new.self (c.in-Some.ensures.target here.path c.args.chain.now.end farthest nearer linked)
    (c.in_ok-siblings.ensures.known world (inside_of here) agrees) c.close.ensures.closed c.close.ensures.declared)

pub node_at-returns-in-Some-node_of-clause-known : goal.node_at-returns-in-Some-node_of-clause-known
node_at-returns-in-Some-node_of-clause-known g t c = λ world here part agrees ready there first.
    place_puts c.args.doc.now c.args.at.is_range (around_of c.args.at) c.put_chars.result _ ready there first
    c.in-None.ensures (sym c.in-Some-node_of.ensures)
    (c.put_chars.ensures.put c.args.place (sym c.in-Some-node_of.ensures)) c.put_chars.ensures.path

pub node_at-returns-in-None-node_of-clause-known : goal.node_at-returns-in-None-node_of-clause-known
node_at-returns-in-None-node_of-clause-known g t c = λ world here part agrees ready there first.
    absurd (node_none c.args.doc.now c.args.place part there first (sym c.in-None-node_of.ensures))

pub range-returns-then-place-link-clause-known : goal.range-returns-then-place-link-clause-known
range-returns-then-place-link-clause-known g t c = λ world here one agrees ready is.
    range_ends (c.loop.invariant.walked world here one agrees ready is) c.if-place-link.true

pub range-returns-in_default-clause-known : goal.range-returns-in_default-clause-known
range-returns-in_default-clause-known g t c = λ world here one agrees ready is.
    absurd (range_goes_on (c.loop.invariant.walked world here one agrees ready is) c.deref.ensures c.if-place-link.false
    c.in_default.ensures)

pub range-returns-in_err-node_at-clause-known : goal.range-returns-in_err-node_at-clause-known
range-returns-in_err-node_at-clause-known g t c = λ world here one agrees ready is.
    node_stops c.deref-in-loop.ensures c.deref.ensures ready c.loop.invariant.page c.loop.invariant.stand
    c.if-place-link.false c.in-Some.ensures
    (c.loop.invariant.walked world here one (agrees_before world _ _ c.node_at.ensures.grows agrees) ready is)
    c.from_residual.result c.in_err-node_at.field-0.0 _ _ c.from_residual.ensures.1
    (λ part. c.in_err-node_at.ensures.known world here part agrees)

pub range-returns-clause-known : goal.range-returns-clause-known
range-returns-clause-known g t c = λ world here one agrees ready is.
    (let left = c.loop.invariant.walked world here one agrees ready is in
    range_ends left (omega (arith, left.far, c.loop-test.false)))

pub ranges-returns-then-count-at-clause-known : goal.ranges-returns-then-count-at-clause-known
ranges-returns-then-count-at-clause-known g t c = λ world here path taken agrees ready far limit same count linked.
    ranges_end (c.loop-link.invariant.walked world here path taken agrees ready far limit same count linked)
    c.if-count-at.true

pub ranges-returns-in_err-range-clause-known : goal.ranges-returns-in_err-range-clause-known
ranges-returns-in_err-range-clause-known g t c = λ world here path taken agrees ready far limit same count linked.
    range_stops ready c.loop-link.invariant.page c.loop-link.invariant.stand c.if-count-at.false c.loop-link-test.true
    c.link-item.is (c.loop-link.invariant.walked world here path taken
    (agrees_before world _ _ c.range.ensures.grows agrees) ready far limit same count linked) c.from_residual.result
    c.in_err-range.field-0.0 _ _ c.from_residual.ensures.1 (λ at one. c.in_err-range.ensures.known world at one agrees)

pub ranges-returns-clause-known : goal.ranges-returns-clause-known
ranges-returns-clause-known g t c = λ world here path taken agrees ready far limit same count linked.
    ranges_over (c.loop-link.invariant.walked world here path taken agrees ready far limit same count linked)
    (drop_all c.loop-link.link-index c.deref-link-items.result.now (omega (arith, c.loop-link-test.false)))

pub unchanged-returns-in_err-siblings-clause-known : goal.unchanged-returns-in_err-siblings-clause-known
unchanged-returns-in_err-siblings-clause-known g t c = λ world here agrees ready.
    kept_not c.args.at.is_range _ (element_of c.args.origin.now c.args.node.now) (named_content c.args.inside)
    c.open.new.self c.in_ok-names.names refl c.in_ok-count_one.ensures c.in_ok-name.ensures.cases
    (c.in_ok-attributes.ensures _ c.in_ok-own.ensures).attributes c.in_ok-open.ensures.opened
    c.in_ok-names.ensures.cases c.in_ok-open.ensures.declared (seen_as (c.topic_within.ensures c.args.origin.now) refl) ready
    c.from_residual-in_err-siblings.result c.in_err-siblings.field-0.0 _ _ c.from_residual-in_err-siblings.ensures.1 (c.in_err-siblings.ensures.known world (inside_of here) agrees)

pub unchanged-returns-clause-known : goal.unchanged-returns-clause-known
unchanged-returns-clause-known g t c = λ world here agrees ready.
    kept_put c.args.at.is_range _ (element_of c.args.origin.now c.args.node.now) (named_content c.args.inside)
    c.open.new.self c.in_ok-names.names refl c.in_ok-count_one.ensures c.in_ok-name.ensures.cases
    (c.in_ok-attributes.ensures _ c.in_ok-own.ensures).attributes c.in_ok-open.ensures.opened
    c.in_ok-names.ensures.cases c.in_ok-open.ensures.declared (seen_as (c.topic_within.ensures c.args.origin.now) refl) ready c.close.new.self
    (c.in_ok-siblings.ensures.known world (inside_of here) agrees) c.close.ensures.closed c.close.ensures.declared

pub node_at-returns-in-Some-clause-missing : goal.node_at-returns-in-Some-clause-missing
node_at-returns-in-Some-clause-missing g t c = λ world here agrees ready none.
    absurd (some_node c.in-Some.node.now _ c.in-Some.ensures.here none)

pub node_at-returns-in-Some-node_of-clause-missing : goal.node_at-returns-in-Some-node_of-clause-missing
node_at-returns-in-Some-node_of-clause-missing g t c = λ world here agrees ready none.
    absurd (some_node c.in-Some-node_of.node.now _ (sym c.in-Some-node_of.ensures) none)

pub node_at-returns-in-None-node_of-clause-missing : goal.node_at-returns-in-None-node_of-clause-missing
node_at-returns-in-None-node_of-clause-missing g t c = λ world here agrees ready none.
    place_nothing ready
