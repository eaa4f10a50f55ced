use Rattle.std.proofs.Common.{◌≡◌, ◌∷◌, [], ◌∙◌, arith, subst, sym, refl}
use Rattle.map_spec.specs.MapTree.{Grown}
use Rattle.map_expand.specs.AskedFor.{AreAsked}
use Rattle.map_expand.specs.Going.{homes_of}
use Rattle.map_expand.specs.Homes.{name_at}
use Rattle.map_expand.specs.Making.{made_of, put, whole_map}
use Rattle.map_expand.proofs.EndingLaws.{all_of, begun, finished, none_left, one_root, stopped}
use Rattle.readers.proofs.DocumentLaws.{asks_same}
use Rattle.readers.proofs.FoundedLaws.{stays_same}
use Rattle.readers.proofs.GrowthLaws.{grows_same}
use Rattle.map_expand.proofs.whole_map.expand_root.Goals as goal

pub returns-in-Err-clause-known : goal.returns-in-Err-clause-known
returns-in-Err-clause-known g c = λ world agrees whole here placed.
    let homes = homes_of c.args.maps.now in
    let name = name_at homes c.args.root in
    let new = c.new-expansion in
    let grown : Grown = whole_map world (name ∷ []) 0 whole in
    stopped c.in-Err.stop grown _
    (begun world homes new.result.left.items new.result.nodes new.result.faults name whole new.ensures.left new.ensures.nodes
    new.ensures.faults)
    (c.in-Err.ensures.made world whole here placed (omega arith) (omega arith))

pub returns-in-Err-walk-clause-known : goal.returns-in-Err-walk-clause-known
returns-in-Err-walk-clause-known g c = λ world agrees whole here placed.
    let homes = homes_of c.args.maps.now in
    let name = name_at homes c.args.root in
    let new = c.new-expansion in
    let grown : Grown = whole_map world (name ∷ []) 0 whole in
    stopped c.in-Err-walk.stop grown _
    (c.in-Ok.ensures.made world whole here placed (omega arith) (omega arith)
    ∙ begun world homes new.result.left.items new.result.nodes new.result.faults name whole new.ensures.left new.ensures.nodes
    new.ensures.faults)
    (c.in-Err-walk.ensures.made world agrees)

pub returns-clause-known : goal.returns-clause-known
returns-clause-known g c = λ world agrees whole here placed.
    let homes = homes_of c.args.maps.now in
    let name = name_at homes c.args.root in
    let new = c.new-expansion in
    let x = c.walk.new.self in
    let grown : Grown = whole_map world (name ∷ []) 0 whole in
    let all : made_of x.nodes x.faults ≡ put 0 grown (made_of [] []) =
    none_left world (homes_of c.walk.new.maps) x.left.items (made_of x.nodes x.faults) _ c.in-Ok-walk.ensures.left
    (c.in-Ok-walk.ensures.made world agrees
    ∙ c.in-Ok.ensures.made world whole here placed (omega arith) (omega arith)
    ∙ begun world homes new.result.left.items new.result.nodes new.result.faults name whole new.ensures.left new.ensures.nodes
    new.ensures.faults) in
    let ends = all_of grown x.nodes x.faults all in
    finished grown c.in_ok-finish.field-0
    (c.in_ok-finish.ensures.nodes grown.tree (one_root world (name ∷ []) 0 whole (omega arith)) ends.0)
    (c.in_ok-finish.ensures.faults ∙ ends.1) (omega (arith, ends.2, c.in-Ok-walk.ensures.few))

pub returns-clause-asked : goal.returns-clause-asked
returns-clause-asked g c = subst (AreAsked (g.R.Reader.told c.walk.new.reader)) (sym c.in_ok-finish.ensures.homes)
    c.in-Ok-walk.ensures.asked

pub returns-in-Err-clause-stand : goal.returns-in-Err-clause-stand
returns-in-Err-clause-stand g c = refl

pub returns-in-Err-clause-grows : goal.returns-in-Err-clause-grows
returns-in-Err-clause-grows g c = grows_same _

pub returns-in-Err-clause-founded : goal.returns-in-Err-clause-founded
returns-in-Err-clause-founded g c = stays_same _ _ _ refl

pub returns-in-Err-clause-asks : goal.returns-in-Err-clause-asks
returns-in-Err-clause-asks g c = asks_same _ _ _ _ refl

pub returns-in-Err-walk-clause-stand : goal.returns-in-Err-walk-clause-stand
returns-in-Err-walk-clause-stand g c = c.in-Err-walk.ensures.stand

pub returns-in-Err-walk-clause-grows : goal.returns-in-Err-walk-clause-grows
returns-in-Err-walk-clause-grows g c = c.in-Err-walk.ensures.grows

pub returns-in-Err-walk-clause-founded : goal.returns-in-Err-walk-clause-founded
returns-in-Err-walk-clause-founded g c = c.in-Err-walk.ensures.founded

pub returns-in-Err-walk-clause-asks : goal.returns-in-Err-walk-clause-asks
returns-in-Err-walk-clause-asks g c = c.in-Err-walk.ensures.asks

pub returns-clause-stand : goal.returns-clause-stand
returns-clause-stand g c = c.in-Ok-walk.ensures.stand

pub returns-clause-grows : goal.returns-clause-grows
returns-clause-grows g c = c.in-Ok-walk.ensures.grows

pub returns-clause-founded : goal.returns-clause-founded
returns-clause-founded g c = c.in-Ok-walk.ensures.founded

pub returns-clause-asks : goal.returns-clause-asks
returns-clause-asks g c = c.in-Ok-walk.ensures.asks

pub returns-in_err-finish-clause-stand : goal.returns-in_err-finish-clause-stand
returns-in_err-finish-clause-stand g c = c.in-Ok-walk.ensures.stand

pub returns-in_err-finish-clause-grows : goal.returns-in_err-finish-clause-grows
returns-in_err-finish-clause-grows g c = c.in-Ok-walk.ensures.grows

pub returns-in_err-finish-clause-founded : goal.returns-in_err-finish-clause-founded
returns-in_err-finish-clause-founded g c = c.in-Ok-walk.ensures.founded

pub returns-in_err-finish-clause-asks : goal.returns-in_err-finish-clause-asks
returns-in_err-finish-clause-asks g c = c.in-Ok-walk.ensures.asks
