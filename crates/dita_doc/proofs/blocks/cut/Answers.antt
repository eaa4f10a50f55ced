use Rattle.std.proofs.Common.{◌++◌, length, sym, ap, ◌∙◌, arith}
use Rattle.std.specs.Arc.{arc_value}
use Rattle.dita_doc.specs.Sources.{begins_above, block_limit}
use Rattle.dita_doc.proofs.BlockLaws.{cut_same, half_for, half_room}
use Rattle.dita_doc.proofs.blocks.cut.Goals as goal

pub returns-clause-all : goal.returns-clause-all
returns-clause-all c =
    let block = c.index.result.now in
    let first = c.in_ok-front-2.front in
    let second = c.in_ok-back.back in
    let halves = ap (λ held. held ++ arc_value second) c.in_ok-front-2.ensures.ok
    ∙ ap (λ held. c.in_ok-front.front ++ held) c.in_ok-back.ensures.ok
    ∙ c.in_ok-front.ensures.whole ∙ c.deref.ensures in
    rw c.in_ok-insert.ensures.items
    (cut_same c.args.blocks.now.items c.args.name.now c.args.at c.requires.here block first second c.index.ensures
    halves)

pub returns-clause-here : goal.returns-clause-here
returns-clause-here c =
    let block = c.index.result.now in
    let first = c.in_ok-front-2.front in
    let second = c.in_ok-back.back in
    let halves = ap (λ held. held ++ arc_value second) c.in_ok-front-2.ensures.ok
    ∙ ap (λ held. c.in_ok-front.front ++ held) c.in_ok-back.ensures.ok
    ∙ c.in_ok-front.ensures.whole ∙ c.deref.ensures in
    let name = c.args.name.now in
    let begins = ap (begins_above name) c.in_ok-back.ensures.ok ∙ sym c.begins_above-behind.ensures.value in
    let some = c.begins_above-behind.ensures.some in
    rw c.in_ok-insert.ensures.items
    (half_for c.args.blocks.now.items name c.args.at c.requires.here block first second c.index.ensures
    halves c.begins_above-behind.result c.from.result c.from.ensures begins c.requires.sorted
    (omega (arith, some, ap length c.in_ok-back.ensures.ok)))

pub returns-clause-room : goal.returns-clause-room
returns-clause-room c =
    let block = c.index.result.now in
    let first = c.in_ok-front-2.front in
    let second = c.in_ok-back.back in
    let halves = ap (λ held. held ++ arc_value second) c.in_ok-front-2.ensures.ok
    ∙ ap (λ held. c.in_ok-front.front ++ held) c.in_ok-back.ensures.ok
    ∙ c.in_ok-front.ensures.whole ∙ c.deref.ensures in
    let room = c.in_ok-front.ensures.room in
    rw c.in_ok-insert.ensures.items
    (half_room c.args.blocks.now.items c.args.name.now c.args.at c.requires.here block first second
    c.index.ensures halves block_limit c.begins_above-behind.result c.from.result c.from.ensures
    (omega (arith, room.0, ap length c.in_ok-front-2.ensures.ok))
    (omega (arith, room.1, ap length c.in_ok-back.ensures.ok)))
