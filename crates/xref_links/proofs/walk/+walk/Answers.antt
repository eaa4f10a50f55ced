use Rattle.std.specs.Arc.{arc_value}
use Rattle.std.proofs.Common.{◌≡◌, ◌∙◌, ◌+◌, ap, arith, refl, rules, subst, sym, IsTrue}
use Rattle.std.specs.Prelude.{[], slice_get, Some}
use Rattle.dita_doc.specs.Siblings.{content}
use Rattle.dita_doc.specs.Tree.{size_of}
use Rattle.dita_doc.specs.declared.doc.Doc.{Doc}
use Rattle.dita_doc.proofs.TreeLaws.{origin_fits}
use Rattle.map_spec.specs.Written.{End, Node, Written}
use Rattle.readers.proofs.DocumentLaws.{asks_after, asks_same}
use Rattle.readers.proofs.FoundedLaws.{stays_same}
use Rattle.readers.proofs.GrowthLaws.{agrees_before, grows_same, grows_trans}
use Rattle.readers.specs.Documents.{nothing}
use Rattle.readers.specs.Founded.{is_among}
use Rattle.readers.specs.Setting.{Stand}
use Rattle.map_spec.specs.Places.{topic_inside}
use Rattle.xref_links.specs.Adding.{added_from}
use Rattle.xref_links.specs.Body.{body_element, written_at}
use Rattle.readers.specs.Named.{link_names, linked_in}
use Rattle.xref_links.proofs.BodyLaws.{size_written}
use Rattle.xref_links.proofs.HereLaws.{here_kept, types_at}
use Rattle.xref_links.proofs.NameLaws.{link_behind, link_first, link_inside, step_founded}
use Rattle.xref_links.proofs.WayLaws.{added_first, one_at, topic_of_one, topic_within, way_begins, way_ends, way_goes, way_same}
use Rattle.xref_links.proofs.walk.+walk.Goals as goal

pub loop-rest-init : goal.loop-rest-init
loop-rest-init g t c = record {
  way = λ here around agrees is topic. way_begins c.args.made.now _;
  size = omega arith;
  room = refl;
  fits = search rules;
  home = search rules;
  stand = refl;
  founded = λ nodes same. stays_same _ _ _ refl;
  within = λ m among. among;
  asks = asks_same _ _ _ _ refl;
  grows = grows_same _;
}

pub returns-in-End-clause-past : goal.returns-in-End-clause-past
returns-in-End-clause-past g t c = omega (arith, c.loop-rest.invariant.room, ap size_of c.in-End.ensures.content)

pub returns-in-End-clause-known : goal.returns-in-End-clause-known
returns-in-End-clause-known g t c = λ here around agrees is topic.
    way_ends c.args.made.now c.loop-rest.made _ _
    (ap (λ all. added_from here c.loop-rest.here around (written_at c.args.page.body.now c.loop-rest.here all))
    c.in-End.ensures.content)
    (c.loop-rest.invariant.way here around agrees is topic)

pub loop-rest-preserved-in-Chars : goal.loop-rest-preserved-in-Chars
loop-rest-preserved-in-Chars g t c =
    let first = ap (written_at c.args.page.body.now c.loop-rest.here) c.in-Chars.ensures.content in
    record {
      way = λ here around agrees is topic.
          way_same c.args.made.now c.loop-rest.made _ _ _
          (ap (added_from here c.loop-rest.here around) first)
          (c.loop-rest.invariant.way here around agrees is topic);
      size = omega (arith, ap size_of c.in-Chars.ensures.content);
      room = omega (arith, ap size_of c.in-Chars.ensures.content);
      fits = omega (arith, c.loop-rest.invariant.fits, ap size_of c.in-Chars.ensures.content);
      home = c.in-Chars.ensures.document ∙ c.loop-rest.invariant.home;
      stand = c.loop-rest.invariant.stand;
      founded = c.loop-rest.invariant.founded;
      within = λ m among. c.loop-rest.invariant.within m
          (subst (λ (all : Written). IsTrue (is_among (linked_in all) m)) (sym first) among);
      asks = c.loop-rest.invariant.asks;
      grows = c.loop-rest.invariant.grows;
    }

pub add-requires : goal.add-requires
add-requires g t c =
    let there : slice_get c.args.page.body.now.doc.nodes c.in-Element.place ≡ Some c.in-Element.node.now =
    ap (λ (doc : Doc). slice_get doc.nodes c.in-Element.place) (sym c.loop-rest.invariant.home)
    ∙ c.in-Element.ensures.node in
    record {
      place = omega (arith, c.loop-rest.invariant.fits, ap size_of c.in-Element.ensures.content);
      origin = origin_fits _ c.args.page.body.now.doc.nodes c.in-Element.place c.in-Element.node.now
          c.args.page.body.now.doc.placed there;
    }

pub loop-rest-preserved : goal.loop-rest-preserved
loop-rest-preserved g t c =
    let body = c.args.page.body.now in
    let at = c.loop-rest.here in
    let node = c.in-Element.node.now in
    let element = body_element body at node in
    let held = content c.in-Element.inside in
    let later = content c.in-Element.rest in
    let past = c.in_ok-here-in-Element.ensures.past in
    let inside = written_at body (at + 1) held in
    let rest = written_at body c.in_ok-here-in-Element.here later in
    let first : written_at body at (content c.loop-rest.left) ≡ Node element inside rest =
    ap (written_at body at) c.in-Element.ensures.content
    ∙ ap (λ n. Node element inside (written_at body n later)) (sym past) in
    record {
      way = λ here around agrees is topic.
          (let middle = agrees_before here.world _ _ c.in_ok-here-in-Element.ensures.grows agrees in
          let before = agrees_before here.world _ _ c.in_ok-add-in-Element.ensures.grows middle in
          let types = types_at body at node c.of-types.result (c.of-types.ensures []) in
          let outer = here_kept _ _ c.args.page here c.loop-rest.invariant.stand is in
          let inner = here_kept _ _ c.args.page here c.in_ok-add-in-Element.ensures.stand outer in
          way_goes c.args.made.now c.loop-rest.made c.add.new.made c.walk.new.made _
          (added_from here at around (written_at body at (content c.loop-rest.left)))
          _ (added_from here (at + 1) (topic_inside at element around) inside)
          (added_from here c.in_ok-here-in-Element.here around rest)
          (added_first here at c.in_ok-here-in-Element.here around _ element inside rest first
          (past ∙ ap (λ n. at + 1 + n) (sym (size_written body (at + 1) held))))
          (c.in_ok-add-in-Element.ensures.known here around middle outer types
          (topic_of_one c.of-types.result.is_topic (one_at at around element inside End) c.args.topic.now
          c.topic_inside-nearest.result.now types.topic topic
          (c.topic_inside-nearest.ensures [])))
          (c.in_ok-here-in-Element.ensures.known here (topic_inside at element around) agrees inner
          (topic_within c.of-types.result.is_topic at element around c.args.topic.now
          c.topic_inside-nearest.result.now types.topic topic (c.topic_inside-nearest.ensures [])))
          (c.loop-rest.invariant.way here around before is topic));
      size = omega (arith, ap size_of c.in-Element.ensures.content);
      room = omega (arith, past, ap size_of c.in-Element.ensures.content);
      fits = omega (arith, c.loop-rest.invariant.fits, past, ap size_of c.in-Element.ensures.content);
      home = c.in-Element.ensures.document.1 ∙ c.loop-rest.invariant.home;
      stand = c.in_ok-here-in-Element.ensures.stand ∙ c.in_ok-add-in-Element.ensures.stand
          ∙ c.loop-rest.invariant.stand;
      founded = λ nodes same.
          (let known = ap (λ (stand : Stand). stand.setting.nodes) c.loop-rest.invariant.stand ∙ same in
          let then_known = ap (λ (stand : Stand). stand.setting.nodes) c.in_ok-add-in-Element.ensures.stand ∙ known in
          step_founded nodes (arc_value c.args.page.context.now).page.doc _
          (linked_in (written_at body at (content c.loop-rest.left))) (linked_in inside) _ _ _
          (grows_trans _ _ _ c.loop-rest.invariant.grows c.in_ok-add-in-Element.ensures.grows)
          (step_founded nodes (arc_value c.args.page.context.now).page.doc _
          (linked_in (written_at body at (content c.loop-rest.left))) (link_names element) _ _ _
          c.loop-rest.invariant.grows (c.loop-rest.invariant.founded nodes same) c.loop-rest.invariant.within
          (λ m among. link_first _ element inside rest first m among)
          (c.in_ok-add-in-Element.ensures.founded nodes known))
          c.loop-rest.invariant.within (λ m among. link_inside _ element inside rest first m among)
          (c.in_ok-here-in-Element.ensures.founded nodes then_known));
      within = λ m among. c.loop-rest.invariant.within m (link_behind _ element inside rest first m among);
      asks = asks_after nothing [] _ _ _ c.loop-rest.invariant.grows c.loop-rest.invariant.asks
          (asks_after nothing [] _ _ _ c.in_ok-add-in-Element.ensures.grows c.in_ok-add-in-Element.ensures.asks c.in_ok-here-in-Element.ensures.asks);
      grows = grows_trans _ _ _ c.loop-rest.invariant.grows
          (grows_trans _ _ _ c.in_ok-add-in-Element.ensures.grows c.in_ok-here-in-Element.ensures.grows);
    }

pub returns-in_err-add-in-Element-clause-founded : goal.returns-in_err-add-in-Element-clause-founded
returns-in_err-add-in-Element-clause-founded g t c = λ nodes same.
    let body = c.args.page.body.now in
    let at = c.loop-rest.here in
    let element = body_element body at c.in-Element.node.now in
    step_founded nodes (arc_value c.args.page.context.now).page.doc _
    (linked_in (written_at body at (content c.loop-rest.left))) (link_names element) _ _ _
    c.loop-rest.invariant.grows (c.loop-rest.invariant.founded nodes same) c.loop-rest.invariant.within
    (λ m among. link_first _ element _ _ (ap (written_at body at) c.in-Element.ensures.content) m among)
    (c.in_err-add-in-Element.ensures.founded nodes
    (ap (λ (stand : Stand). stand.setting.nodes) c.loop-rest.invariant.stand ∙ same))

pub returns-in_err-here-in-Element-clause-founded : goal.returns-in_err-here-in-Element-clause-founded
returns-in_err-here-in-Element-clause-founded g t c = λ nodes same.
    let body = c.args.page.body.now in
    let at = c.loop-rest.here in
    let element = body_element body at c.in-Element.node.now in
    let known = ap (λ (stand : Stand). stand.setting.nodes) c.loop-rest.invariant.stand ∙ same in
    let then_known = ap (λ (stand : Stand). stand.setting.nodes) c.in_ok-add-in-Element.ensures.stand ∙ known in
    let first = ap (written_at body at) c.in-Element.ensures.content in
    step_founded nodes (arc_value c.args.page.context.now).page.doc _
    (linked_in (written_at body at (content c.loop-rest.left)))
    (linked_in (written_at body (at + 1) (content c.in-Element.inside))) _ _ _
    (grows_trans _ _ _ c.loop-rest.invariant.grows c.in_ok-add-in-Element.ensures.grows)
    (step_founded nodes (arc_value c.args.page.context.now).page.doc _
    (linked_in (written_at body at (content c.loop-rest.left))) (link_names element) _ _ _
    c.loop-rest.invariant.grows (c.loop-rest.invariant.founded nodes same) c.loop-rest.invariant.within
    (λ m among. link_first _ element _ _ first m among) (c.in_ok-add-in-Element.ensures.founded nodes known))
    c.loop-rest.invariant.within (λ m among. link_inside _ element _ _ first m among)
    (c.in_err-here-in-Element.ensures.founded nodes then_known)

pub returns-in-End-clause-stand : goal.returns-in-End-clause-stand
returns-in-End-clause-stand g t c = c.loop-rest.invariant.stand

pub returns-in-End-clause-founded : goal.returns-in-End-clause-founded
returns-in-End-clause-founded g t c = c.loop-rest.invariant.founded

pub returns-in-End-clause-asks : goal.returns-in-End-clause-asks
returns-in-End-clause-asks g t c = c.loop-rest.invariant.asks

pub returns-in-End-clause-grows : goal.returns-in-End-clause-grows
returns-in-End-clause-grows g t c = c.loop-rest.invariant.grows

pub returns-in_err-add-in-Element-clause-stand : goal.returns-in_err-add-in-Element-clause-stand
returns-in_err-add-in-Element-clause-stand g t c =
    c.in_err-add-in-Element.ensures.stand ∙ c.loop-rest.invariant.stand

pub returns-in_err-add-in-Element-clause-asks : goal.returns-in_err-add-in-Element-clause-asks
returns-in_err-add-in-Element-clause-asks g t c =
    asks_after nothing [] _ _ _ c.loop-rest.invariant.grows c.loop-rest.invariant.asks c.in_err-add-in-Element.ensures.asks

pub returns-in_err-add-in-Element-clause-grows : goal.returns-in_err-add-in-Element-clause-grows
returns-in_err-add-in-Element-clause-grows g t c =
    grows_trans _ _ _ c.loop-rest.invariant.grows c.in_err-add-in-Element.ensures.grows

pub returns-in_err-here-in-Element-clause-stand : goal.returns-in_err-here-in-Element-clause-stand
returns-in_err-here-in-Element-clause-stand g t c =
    c.in_err-here-in-Element.ensures.stand ∙ c.in_ok-add-in-Element.ensures.stand ∙ c.loop-rest.invariant.stand

pub returns-in_err-here-in-Element-clause-asks : goal.returns-in_err-here-in-Element-clause-asks
returns-in_err-here-in-Element-clause-asks g t c =
    asks_after nothing [] _ _ _ c.loop-rest.invariant.grows c.loop-rest.invariant.asks
    (asks_after nothing [] _ _ _ c.in_ok-add-in-Element.ensures.grows c.in_ok-add-in-Element.ensures.asks c.in_err-here-in-Element.ensures.asks)

pub returns-in_err-here-in-Element-clause-grows : goal.returns-in_err-here-in-Element-clause-grows
returns-in_err-here-in-Element-clause-grows g t c =
    grows_trans _ _ _ c.loop-rest.invariant.grows (grows_trans _ _ _ c.in_ok-add-in-Element.ensures.grows c.in_err-here-in-Element.ensures.grows)
