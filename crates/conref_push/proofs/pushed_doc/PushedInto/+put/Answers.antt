use Rattle.std.proofs.Common.{◌≡◌, ◌+◌, ◌∙◌, ap, arith, subst, sym}
use Rattle.std.specs.Prelude.{◌-◌, OnOk}
use Rattle.std.specs.Option.{option_copied}
use Rattle.dita_doc.specs.Siblings.{content}
use Rattle.dita_doc.specs.Tree.{Content, size_of}
use Rattle.doc_elements.specs.Walk.{content_in, element_of}
use Rattle.doc_maker.specs.Building.{behind}
use Rattle.doc_maker.specs.Made.{building}
use Rattle.map_spec.specs.Written.{Chars, End, side_by_side, size, written_in}
use Rattle.map_spec.specs.Pushes.{itself_or, pushed_from}
use Rattle.map_lemmas.proofs.TreeLaws.{size_written}
use Rattle.conref_push.specs.Into.{froms}
use Rattle.conref_push.specs.Making.{IsFrom, at_place_or_none}
use Rattle.conref_push.proofs.MakingLaws.{among_group, end_there, from_group, place_acting, place_put, pushed_node, way_end, way_on}
use Rattle.conref_push.proofs.pushed_doc.PushedInto.+put.Goals as goal

pub put-returns-in-End : goal.put-returns-in-End
put-returns-in-End t c = λ world pushes into.
    let name = c.args.self.now.name.now in
    way_end (building c.loop-node.maker) _ (pushed_from world pushes c.loop-node.here (content_in name c.loop-node.left))
    (ap (λ (all : Content). pushed_from world pushes c.loop-node.here (written_in name all)) c.in-End.ensures.content)
    (c.loop-node.invariant.put world pushes into)

pub put-loop-node-preserved-in-Chars : goal.put-loop-node-preserved-in-Chars
put-loop-node-preserved-in-Chars t c =
    let name = c.args.self.now.name.now in
    record {
      put = λ world pushes into.
          way_on (building c.loop-node.maker) (building c.put_chars.new.self) _
          (pushed_from world pushes c.loop-node.here (content_in name c.loop-node.left))
          (Chars c.in-Chars.node.now.text name End)
          (pushed_from world pushes (c.loop-node.here + 1) (content_in name c.in-Chars.rest))
          (ap (λ (all : Content). pushed_from world pushes c.loop-node.here (written_in name all))
          c.in-Chars.ensures.content)
          (c.in_ok-put_chars-in-Chars.ensures.put
          ∙ ap (λ text. behind (building c.loop-node.maker) (Chars text name End)) c.in_ok-clone-in-Chars.ensures.cases)
          (c.loop-node.invariant.put world pushes into);
      size = omega (arith, ap size_of c.in-Chars.ensures.content, c.loop-node.invariant.size);
      room = omega (arith, ap size_of c.in-Chars.ensures.content, c.loop-node.invariant.room);
    }

pub put_itself_or-returns-in-Some : goal.put_itself_or-returns-in-Some
put_itself_or-returns-in-Some t c = λ world pushes into from.
    let name = c.args.self.now.name.now in
    let below = pushed_from world pushes (c.args.place + 1) (content_in name c.args.inside) in
    subst (λ found. OnOk c.put_copy.result (building c.put_copy.new.maker ≡ behind (building c.args.maker.now)
    (itself_or world (element_of name c.args.node.now) below (option_copied found)))) (sym c.in-Some.is)
    (c.put_copy.ensures world (froms pushes) name into.sources
    (subst (λ found. IsFrom (froms pushes) (option_copied found)) c.in-Some.is from))

pub put_unless_acts-returns-then-acts : goal.put_unless_acts-returns-then-acts
put_unless_acts-returns-then-acts t c = λ world pushes into.
    let name = c.args.self.now.name.now in
    place_acting world pushes c.args.place (building c.args.maker.now) (element_of name c.args.node.now)
    (content_in name c.args.inside) (c.if-acts.ensures name)

pub put_unless_acts-returns : goal.put_unless_acts-returns
put_unless_acts-returns t c = λ world pushes into.
    let name = c.args.self.now.name.now in
    let group = c.group-group.result.now in
    let is = c.group-group.ensures pushes into.groups in
    let among = among_group c.args.place pushes group is in
    place_put world pushes group c.args.place (building c.args.maker.now) (building c.put_beside.new.maker)
    (building c.put_itself_or.new.maker) (building c.put_beside-2.new.maker) (element_of name c.args.node.now)
    (content_in name c.args.inside) (c.if-acts.ensures name) is
    (c.in_ok-put_beside.ensures world (froms pushes) into.sources among)
    (c.in_ok-put_itself_or.ensures world pushes into
    (from_group c.args.place pushes group _ is c.replacement.ensures)
    ∙ ap (λ found. behind (building c.put_beside.new.maker) (itself_or world (element_of name c.args.node.now)
    (pushed_from world pushes (c.args.place + 1) (content_in name c.args.inside)) found)) c.replacement.ensures)
    (c.in_ok-put_beside-2.ensures world (froms pushes) into.sources among)

pub put-loop-node-preserved : goal.put-loop-node-preserved
put-loop-node-preserved t c =
    let name = c.args.self.now.name.now in
    let element = element_of name c.in-Element.node.now in
    let inside = content_in name c.in-Element.inside in
    let here = c.loop-node.here in
    let past = end_there c.loop-node.left c.in-Element.place c.in-Element.node.now (content c.in-Element.inside)
    (content c.in-Element.rest) c.in-Element.ensures.content c.in-Element.ensures.node c.in-Element.ensures.place in
    let on : here + 1 + size inside ≡ here + (c.in-Element.node.now.end - c.in-Element.place) =
    let same = size_written name (content c.in-Element.inside) in omega (arith, past) in
    record {
      put = λ world pushes into.
          way_on (building c.loop-node.maker) (building c.put_unless_acts.new.maker) _
          (pushed_from world pushes here (content_in name c.loop-node.left))
          (at_place_or_none world pushes here element inside)
          (pushed_from world pushes (here + (c.in-Element.node.now.end - c.in-Element.place))
          (content_in name c.in-Element.rest))
          (ap (λ (all : Content). pushed_from world pushes here (written_in name all)) c.in-Element.ensures.content
          ∙ pushed_node world pushes here element inside (content_in name c.in-Element.rest)
          ∙ ap (λ at. side_by_side (at_place_or_none world pushes here element inside)
          (pushed_from world pushes at (content_in name c.in-Element.rest))) on)
          (c.in_ok-put_unless_acts-in-Element.ensures world pushes into)
          (c.loop-node.invariant.put world pushes into);
      size = omega (arith, ap size_of c.in-Element.ensures.content, c.loop-node.invariant.size);
      room = omega (arith, past, ap size_of c.in-Element.ensures.content, c.loop-node.invariant.room);
    }
