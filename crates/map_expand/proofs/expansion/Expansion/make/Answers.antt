use Rattle.std.proofs.Common.{◌≡◌, ◌∷◌, ◌++◌, [], arith, length, refl, subst, ap, ◌∙◌, None, Some, sym}
use Rattle.std.proofs.lemmas.List.{length_push}
use Rattle.std.proofs.lemmas.Result.{on_ok_weaker}
use Rattle.dita_doc.specs.declared.plan.PlanKind.TheVariants as kinds
use Rattle.doc_elements.specs.Walk.{element_of}
use Rattle.map_spec.specs.Included.{ignored_references, new_head}
use Rattle.map_spec.specs.MapTree.{node_of}
use Rattle.map_spec.specs.Written.{Element}
use Rattle.map_expand.specs.Asking.{IsAsked, kind_with}
use Rattle.map_expand.specs.Below.{below}
use Rattle.map_expand.specs.Going.{Goes, homes_of}
use Rattle.map_expand.specs.Homes.{home_at, name_at}
use Rattle.map_expand.specs.Making.{node_grown, path_of}
use Rattle.map_expand.specs.declared.work.Work.TheVariants as works
use Rattle.map_expand.proofs.AskedLaws.{made_less, may_find, made_with, made_without, same_element, some_made}
use Rattle.map_expand.proofs.AskedForLaws.{asked_node}
use Rattle.map_expand.proofs.GoingLaws.{full_over}
use Rattle.map_expand.proofs.MakeLaws.{ready_pushed}
use Rattle.map_expand.proofs.TellingLaws.{asked_first}
use Rattle.readers.proofs.DocumentLaws.{asks_same}
use Rattle.readers.proofs.FoundedLaws.{stays_same}
use Rattle.readers.proofs.GrowthLaws.{grows_same}
use Rattle.map_expand.proofs.StepLaws.{node_there, none_some}
use Rattle.map_expand.proofs.expansion.Expansion.make.Goals as goal

pub returns-in-Err-clause-made : goal.returns-in-Err-clause-made
returns-in-Err-clause-made g c = λ world agrees node here.
    let homes = homes_of c.args.maps.now in
    let left = c.args.self.now.left.items in
    let walk = c.args.walk in
    let grown = node_grown world (path_of homes left) (home_at homes walk.map) walk c.args.kind
    (element_of (name_at homes walk.map) node) c.args.end in
    full_over world homes left c.in-Err.stop walk.parent grown c.args.self.now.nodes c.args.self.now.faults
    c.in-Err.ensures.full
    (some_made world (path_of homes left) (home_at homes walk.map) walk c.args.kind
    (element_of (name_at homes walk.map) node) c.args.end)

pub include-requires-clause-ready : goal.include-requires-clause-ready
include-requires-clause-ready g c =
    let walk = c.args.walk in
    let under = below walk c.args.end c.in-Ok.place c.kind_with-kind.result in
    let many = ap (λ l. length l) c.in-Ok.ensures.nodes ∙ length_push c.args.self.now.nodes _ in
    let left = c.in_ok-push.ensures.items ∙ ap (λ v. v.items ++ works.Walk c.below.result ∷ []) c.in-Ok.ensures.left
    ∙ ap (λ w. c.args.self.now.left.items ++ works.Walk w ∷ []) c.below.ensures in
    ready_pushed _ c.args.maps.now c.args.self.now
    (record { nodes = c.put.new.self.nodes; faults = c.put.new.self.faults; left = c.push.new.self }) under c.requires.ready
    (omega (arith, many)) left
    (record {
      on = record { map = c.requires.fits.on.map; siblings = c.requires.inside };
      level = omega (arith, many, c.requires.fits.level);
    })
    (asked_node (g.R.Reader.told c.args.reader.now) c.args.self.now.nodes c.put.new.self.nodes _ c.in-Ok.ensures.nodes
    c.requires.ready.asked
    (asked_first _ (home_at (homes_of c.args.maps.now) walk.map) walk c.in-Some.name.now c.in-Some.element.now
    (c.requires.ready.maps_fit.tells walk.map c.requires.fits.on.map) c.in-Some.ensures))

pub include-requires-clause-may : goal.include-requires-clause-may
include-requires-clause-may g c =
    let walk = c.args.walk in
    may_find (g.R.Reader.told c.args.reader.now) (home_at (homes_of c.args.maps.now) walk.map) walk walk.end c.args.kind
    c.in-Some.name.now c.in-Some.element.now c.in-Some-asked.asked
    (c.requires.ready.maps_fit.tells walk.map c.requires.fits.on.map) c.requires.fits.on.siblings
    (omega (arith, c.requires.some, c.requires.ends)) c.in-Some.ensures
    (subst (λ a. IsAsked c.args.kind walk.in_table (element_of c.in-Some.name.now c.in-Some.element.now) a)
    c.in-Some-asked.is c.in_ok-asked.ensures)

pub returns-in-Some-asked-clause-less : goal.returns-in-Some-asked-clause-less
returns-in-Some-asked-clause-less g c =
    let walk = c.args.walk in
    let under = below walk c.args.end c.in-Ok.place c.kind_with-kind.result in
    let left = c.in_ok-push.ensures.items ∙ ap (λ v. v.items ++ works.Walk c.below.result ∷ []) c.in-Ok.ensures.left
    ∙ ap (λ w. c.args.self.now.left.items ++ works.Walk w ∷ []) c.below.ensures in
    let less = made_less c.args.self.now.nodes c.put.new.self.nodes _ c.args.self.now.left.items c.push.new.self.items under
    c.in-Ok.ensures.room c.in-Ok.ensures.nodes left (omega (arith, c.ranges.end)) in
    on_ok_weaker c.include.result (λ more. omega (arith, more, less)) c.include.ensures.less

pub returns-in-Some-asked-clause-made : goal.returns-in-Some-asked-clause-made
returns-in-Some-asked-clause-made g c = λ world agrees node here.
    let homes = homes_of c.args.maps.now in
    let walk = c.args.walk in
    let kind = c.args.kind in
    let old = c.args.self.now in
    let place = c.in-Ok.place in
    let end = c.args.end in
    let element : Element = element_of (name_at homes walk.map) node in
    let element_is : element_of c.in-Some.name.now c.in-Some.element.now ≡ element =
    same_element (home_at homes walk.map) walk c.in-Some.name.now c.in-Some.element.now node c.in-Some.ensures here in
    let kind_is : c.kind_with-kind.result ≡ kinds.Included =
    c.kind_with-kind.ensures ∙ ap (λ a. kind_with a kind) c.in-Some-asked.is in
    let asks : IsAsked kind walk.in_table element (Some c.in-Some-asked.asked) =
    subst (λ a. IsAsked kind walk.in_table element a) c.in-Some-asked.is
    (subst (λ e. IsAsked kind walk.in_table e c.in_ok-asked.asked) element_is c.in_ok-asked.ensures) in
    let left = c.in_ok-push.ensures.items ∙ ap (λ v. v.items ++ works.Walk c.below.result ∷ []) c.in-Ok.ensures.left
    ∙ ap (λ w. old.left.items ++ works.Walk w ∷ []) c.below.ensures
    ∙ ap (λ k. old.left.items ++ works.Walk (below walk end place k) ∷ []) kind_is in
    let nodes = c.in-Ok.ensures.nodes
    ∙ ap (λ e. old.nodes ++ node_of (new_head c.kind_with-kind.result e walk.level walk.place) walk.parent 0 ∷ []) element_is
    ∙ ap (λ k. old.nodes ++ node_of (new_head k element walk.level walk.place) walk.parent 0 ∷ []) kind_is in
    let faults = c.in-Ok.ensures.faults ∙ ap (λ e. old.faults ++ ignored_references e) element_is in
    subst (Goes world c.include.result c.include.new.maps c.include.new.self)
    (made_with world homes old.left.items c.push.new.self.items walk end place element old.nodes c.put.new.self.nodes old.faults
    c.put.new.self.faults c.in-Ok.ensures.place faults kind c.in-Some-asked.asked nodes left asks)
    (c.include.ensures.made world agrees node here)

pub returns-in-None-clause-less : goal.returns-in-None-clause-less
returns-in-None-clause-less g c =
    let walk = c.args.walk in
    let under = below walk c.args.end c.in-Ok.place c.kind_with-kind.result in
    let left = c.in_ok-push.ensures.items ∙ ap (λ v. v.items ++ works.Walk c.below.result ∷ []) c.in-Ok.ensures.left
    ∙ ap (λ w. c.args.self.now.left.items ++ works.Walk w ∷ []) c.below.ensures in
    made_less c.args.self.now.nodes c.put.new.self.nodes _ c.args.self.now.left.items c.push.new.self.items under
    c.in-Ok.ensures.room c.in-Ok.ensures.nodes left (omega (arith, c.ranges.end))

pub returns-in-None-clause-ready : goal.returns-in-None-clause-ready
returns-in-None-clause-ready g c =
    let walk = c.args.walk in
    let under = below walk c.args.end c.in-Ok.place c.kind_with-kind.result in
    let many = ap (λ l. length l) c.in-Ok.ensures.nodes ∙ length_push c.args.self.now.nodes _ in
    let left = c.in_ok-push.ensures.items ∙ ap (λ v. v.items ++ works.Walk c.below.result ∷ []) c.in-Ok.ensures.left
    ∙ ap (λ w. c.args.self.now.left.items ++ works.Walk w ∷ []) c.below.ensures in
    ready_pushed _ c.args.maps.now c.args.self.now
    (record { nodes = c.put.new.self.nodes; faults = c.put.new.self.faults; left = c.push.new.self }) under c.requires.ready
    (omega (arith, many)) left
    (record {
      on = record { map = c.requires.fits.on.map; siblings = c.requires.inside };
      level = omega (arith, many, c.requires.fits.level);
    })
    (asked_node (g.R.Reader.told c.args.reader.now) c.args.self.now.nodes c.put.new.self.nodes _ c.in-Ok.ensures.nodes
    c.requires.ready.asked
    (asked_first _ (home_at (homes_of c.args.maps.now) walk.map) walk c.in-Some.name.now c.in-Some.element.now
    (c.requires.ready.maps_fit.tells walk.map c.requires.fits.on.map) c.in-Some.ensures))

pub returns-in-None-clause-made : goal.returns-in-None-clause-made
returns-in-None-clause-made g c = λ world agrees node here.
    let homes = homes_of c.args.maps.now in
    let walk = c.args.walk in
    let kind = c.args.kind in
    let old = c.args.self.now in
    let place = c.in-Ok.place in
    let end = c.args.end in
    let element : Element = element_of (name_at homes walk.map) node in
    let element_is : element_of c.in-Some.name.now c.in-Some.element.now ≡ element =
    same_element (home_at homes walk.map) walk c.in-Some.name.now c.in-Some.element.now node c.in-Some.ensures here in
    let kind_is : c.kind_with-kind.result ≡ kind =
    c.kind_with-kind.ensures ∙ ap (λ a. kind_with a kind) c.in-None.is in
    let asks : IsAsked kind walk.in_table element (None) =
    subst (λ a. IsAsked kind walk.in_table element a) c.in-None.is
    (subst (λ e. IsAsked kind walk.in_table e c.in_ok-asked.asked) element_is c.in_ok-asked.ensures) in
    let left = c.in_ok-push.ensures.items ∙ ap (λ v. v.items ++ works.Walk c.below.result ∷ []) c.in-Ok.ensures.left
    ∙ ap (λ w. old.left.items ++ works.Walk w ∷ []) c.below.ensures
    ∙ ap (λ k. old.left.items ++ works.Walk (below walk end place k) ∷ []) kind_is in
    let nodes = c.in-Ok.ensures.nodes
    ∙ ap (λ e. old.nodes ++ node_of (new_head c.kind_with-kind.result e walk.level walk.place) walk.parent 0 ∷ []) element_is
    ∙ ap (λ k. old.nodes ++ node_of (new_head k element walk.level walk.place) walk.parent 0 ∷ []) kind_is in
    let faults = c.in-Ok.ensures.faults ∙ ap (λ e. old.faults ++ ignored_references e) element_is in
    made_without world homes old.left.items c.push.new.self.items walk end place element old.nodes c.put.new.self.nodes old.faults
    c.put.new.self.faults c.in-Ok.ensures.place faults kind nodes left asks

pub returns-in-Some-asked-clause-few : goal.returns-in-Some-asked-clause-few
returns-in-Some-asked-clause-few g c = c.include.ensures.few

pub returns-in-Some-asked-clause-ready : goal.returns-in-Some-asked-clause-ready
returns-in-Some-asked-clause-ready g c = c.include.ensures.ready

pub returns-in-Some-asked-clause-stand : goal.returns-in-Some-asked-clause-stand
returns-in-Some-asked-clause-stand g c = c.include.ensures.stand

pub returns-in-Some-asked-clause-grows : goal.returns-in-Some-asked-clause-grows
returns-in-Some-asked-clause-grows g c = c.include.ensures.grows

pub returns-in-Some-asked-clause-founded : goal.returns-in-Some-asked-clause-founded
returns-in-Some-asked-clause-founded g c = c.include.ensures.founded

pub returns-in-Some-asked-clause-asks : goal.returns-in-Some-asked-clause-asks
returns-in-Some-asked-clause-asks g c = c.include.ensures.asks

pub returns-in_default-clause-stand : goal.returns-in_default-clause-stand
returns-in_default-clause-stand g c = refl

pub returns-in_default-clause-grows : goal.returns-in_default-clause-grows
returns-in_default-clause-grows g c = grows_same _

pub returns-in_default-clause-founded : goal.returns-in_default-clause-founded
returns-in_default-clause-founded g c = stays_same _ _ _ refl

pub returns-in_default-clause-asks : goal.returns-in_default-clause-asks
returns-in_default-clause-asks g c = asks_same _ _ _ _ refl

pub returns-in_err-asked-clause-stand : goal.returns-in_err-asked-clause-stand
returns-in_err-asked-clause-stand g c = refl

pub returns-in_err-asked-clause-grows : goal.returns-in_err-asked-clause-grows
returns-in_err-asked-clause-grows g c = grows_same _

pub returns-in_err-asked-clause-founded : goal.returns-in_err-asked-clause-founded
returns-in_err-asked-clause-founded g c = stays_same _ _ _ refl

pub returns-in_err-asked-clause-asks : goal.returns-in_err-asked-clause-asks
returns-in_err-asked-clause-asks g c = asks_same _ _ _ _ refl

pub returns-in-Err-clause-stand : goal.returns-in-Err-clause-stand
returns-in-Err-clause-stand g c = refl

pub returns-in-Err-clause-grows : goal.returns-in-Err-clause-grows
returns-in-Err-clause-grows g c = grows_same _

pub returns-in-Err-clause-founded : goal.returns-in-Err-clause-founded
returns-in-Err-clause-founded g c = stays_same _ _ _ refl

pub returns-in-Err-clause-asks : goal.returns-in-Err-clause-asks
returns-in-Err-clause-asks g c = asks_same _ _ _ _ refl

pub returns-in_err-push-clause-stand : goal.returns-in_err-push-clause-stand
returns-in_err-push-clause-stand g c = refl

pub returns-in_err-push-clause-grows : goal.returns-in_err-push-clause-grows
returns-in_err-push-clause-grows g c = grows_same _

pub returns-in_err-push-clause-founded : goal.returns-in_err-push-clause-founded
returns-in_err-push-clause-founded g c = stays_same _ _ _ refl

pub returns-in_err-push-clause-asks : goal.returns-in_err-push-clause-asks
returns-in_err-push-clause-asks g c = asks_same _ _ _ _ refl

pub returns-in-None-clause-stand : goal.returns-in-None-clause-stand
returns-in-None-clause-stand g c = refl

pub returns-in-None-clause-grows : goal.returns-in-None-clause-grows
returns-in-None-clause-grows g c = grows_same _

pub returns-in-None-clause-founded : goal.returns-in-None-clause-founded
returns-in-None-clause-founded g c = stays_same _ _ _ refl

pub returns-in-None-clause-asks : goal.returns-in-None-clause-asks
returns-in-None-clause-asks g c = asks_same _ _ _ _ refl

pub returns-in_default-clause-few : goal.returns-in_default-clause-few
returns-in_default-clause-few g c =
    let walk = c.args.walk in
    let there = node_there (home_at (homes_of c.args.maps.now) walk.map) walk c.requires.fits.on.siblings
    (omega (arith, c.requires.some, c.requires.ends)) in
    absurd (none_some (sym c.in_default.ensures ∙ there.1))

pub returns-in_default-clause-less : goal.returns-in_default-clause-less
returns-in_default-clause-less g c = omega arith

pub returns-in_default-clause-ready : goal.returns-in_default-clause-ready
returns-in_default-clause-ready g c = c.requires.ready

pub returns-in-None-clause-few : goal.returns-in-None-clause-few
returns-in-None-clause-few g c = c.in-Ok.ensures.few
