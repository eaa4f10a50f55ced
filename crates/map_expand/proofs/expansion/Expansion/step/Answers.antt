use Rattle.std.proofs.Common.{◌≡◌, ◌≤◌, arith, length, refl, sym, subst, ap, ◌∙◌, ◌++◌, ◌∷◌, []}
use Rattle.std.proofs.lemmas.Result.{on_ok_weaker}
use Rattle.doc_elements.specs.Walk.{element_of}
use Rattle.map_spec.specs.Elements.{class_faults}
use Rattle.map_spec.specs.Included.{map_node_limit}
use Rattle.map_spec.specs.Written.{Element}
use Rattle.readers.proofs.DocumentLaws.{asks_same}
use Rattle.readers.proofs.FoundedLaws.{stays_same}
use Rattle.readers.proofs.GrowthLaws.{grows_same}
use Rattle.readers.specs.Founded as founded
use Rattle.map_expand.specs.AskedFor.{AreAsked}
use Rattle.map_expand.specs.Going.{homes_of, Goes, so_far}
use Rattle.map_expand.specs.Homes.{home_at}
use Rattle.map_expand.specs.Making.{Makes, WalkFits, behind, content, path_of}
use Rattle.map_expand.specs.declared.work.Work.TheVariants as works
use Rattle.map_expand.proofs.LeftLaws.{behind_less, content_less}
use Rattle.map_expand.proofs.MakeLaws.{ready_pushed}
use Rattle.map_expand.proofs.StepLaws.{node_there, stepped_content, stepped_node, stepped_nothing}
use Rattle.map_expand.proofs.expansion.Expansion.step.Goals as goal

pub make-requires-clause-ready : goal.make-requires-clause-ready
make-requires-clause-ready g c =
    ready_pushed _ c.args.maps.now c.args.self.now
    (record { nodes = c.args.self.now.nodes; faults = c.args.self.now.faults; left = c.push.new.self }) c.behind.result
    c.requires.ready (omega arith) c.in_ok-push.ensures.items
    (subst (WalkFits (homes_of c.args.maps.now) (length c.args.self.now.nodes)) (sym c.behind.ensures)
    (record {
      on = record { map = c.requires.fits.on.map; siblings = c.in-Some.ensures.seen.behind };
      level = c.requires.fits.level;
    })) c.requires.ready.asked

pub returns-in-Nothing-clause-ready : goal.returns-in-Nothing-clause-ready
returns-in-Nothing-clause-ready g c =
    ready_pushed _ c.args.maps.now c.args.self.now
    (record { nodes = c.args.self.now.nodes; faults = c.args.self.now.faults; left = c.push.new.self }) c.behind.result
    c.requires.ready (omega arith) c.in_ok-push.ensures.items
    (subst (WalkFits (homes_of c.args.maps.now) (length c.args.self.now.nodes)) (sym c.behind.ensures)
    (record {
      on = record { map = c.requires.fits.on.map; siblings = c.in-Some.ensures.seen.behind };
      level = c.requires.fits.level;
    })) c.requires.ready.asked

pub returns-in-Node-clause-made : goal.returns-in-Node-clause-made
returns-in-Node-clause-made g c = λ world agrees.
    let homes = homes_of c.args.maps.now in
    let walk = c.args.walk in
    let old = c.args.self.now in
    let home = home_at homes walk.map in
    let end = c.in-Some.seen.end in
    let first = node_there home walk c.requires.fits.on.siblings
    (omega (arith, c.in-Some.ensures.begins, c.in-Some.ensures.ends)) in
    let element : Element = element_of home.name first.0 in
    let left = c.in_ok-push.ensures.items ∙ ap (λ w. old.left.items ++ works.Walk w ∷ []) c.behind.ensures in
    let both = subst (Makes world (path_of homes old.left.items) home walk end element) c.in-Node.is
    (c.in-Some.ensures.seen.made first.0 first.1 world (path_of homes old.left.items)) in
    subst (Goes world c.make.result c.make.new.maps c.make.new.self)
    (stepped_node world homes old.left.items c.push.new.self.items walk end left c.in-Node.kind element (so_far old) both)
    (c.make.ensures.made world agrees first.0 first.1)

pub returns-in-Nothing-clause-made : goal.returns-in-Nothing-clause-made
returns-in-Nothing-clause-made g c = λ world agrees.
    let homes = homes_of c.args.maps.now in
    let walk = c.args.walk in
    let old = c.args.self.now in
    let home = home_at homes walk.map in
    let end = c.in-Some.seen.end in
    let first = node_there home walk c.requires.fits.on.siblings
    (omega (arith, c.in-Some.ensures.begins, c.in-Some.ensures.ends)) in
    let element : Element = element_of home.name first.0 in
    let left = c.in_ok-push.ensures.items ∙ ap (λ w. old.left.items ++ works.Walk w ∷ []) c.behind.ensures in
    let both = subst (Makes world (path_of homes old.left.items) home walk end element) c.in-Nothing.is
    (c.in-Some.ensures.seen.made first.0 first.1 world (path_of homes old.left.items)) in
    stepped_nothing world homes old.left.items c.push.new.self.items walk end left (so_far old) both

pub returns-in_ok-open-in-Content-clause-ready : goal.returns-in_ok-open-in-Content-clause-ready
returns-in_ok-open-in-Content-clause-ready g c =
    let homes = homes_of c.args.maps.now in
    let walk = c.args.walk in
    let old = c.args.self.now in
    let end = c.in-Some.seen.end in
    let opened = c.in_ok-open-in-Content.ensures in
    let many : length c.open.new.self.nodes ≡ length old.nodes = ap (λ l. length l) opened.nodes in
    ready_pushed _ c.args.maps.now (record { nodes = old.nodes; faults = old.faults; left = c.push.new.self })
    c.open.new.self (content walk end)
    (ready_pushed _ c.args.maps.now old (record { nodes = old.nodes; faults = old.faults; left = c.push.new.self })
    (behind walk end) c.requires.ready (omega arith)
    (c.in_ok-push.ensures.items ∙ ap (λ w. old.left.items ++ works.Walk w ∷ []) c.behind.ensures)
    (record {
      on = record { map = c.requires.fits.on.map; siblings = c.in-Some.ensures.seen.behind };
      level = c.requires.fits.level;
    }) c.requires.ready.asked)
    (omega (arith, many)) opened.left
    (record {
      on = record { map = c.requires.fits.on.map; siblings = c.in-Some.ensures.seen.inside };
      level = omega (arith, many, c.requires.fits.level);
    })
    (subst (λ n. AreAsked (g.R.Reader.told c.args.reader.now) (founded.homes n)) (sym opened.nodes) c.requires.ready.asked)

pub returns-in_ok-open-in-Content-clause-made : goal.returns-in_ok-open-in-Content-clause-made
returns-in_ok-open-in-Content-clause-made g c = λ world agrees.
    let homes = homes_of c.args.maps.now in
    let walk = c.args.walk in
    let old = c.args.self.now in
    let home = home_at homes walk.map in
    let end = c.in-Some.seen.end in
    let first = node_there home walk c.requires.fits.on.siblings
    (omega (arith, c.in-Some.ensures.begins, c.in-Some.ensures.ends)) in
    let element : Element = element_of home.name first.0 in
    let left = c.in_ok-push.ensures.items ∙ ap (λ w. old.left.items ++ works.Walk w ∷ []) c.behind.ensures in
    let both = subst (Makes world (path_of homes old.left.items) home walk end element) c.in-Content.is
    (c.in-Some.ensures.seen.made first.0 first.1 world (path_of homes old.left.items)) in
    let opened = c.in_ok-open-in-Content.ensures in
    stepped_content world homes old.left.items c.push.new.self.items walk end left c.open.new.self.left.items old.nodes
    c.open.new.self.nodes old.faults (class_faults element) c.open.new.self.faults opened.left opened.nodes
    (opened.faults first.0 first.1) both

pub make-requires-clause-some : goal.make-requires-clause-some
make-requires-clause-some g c = c.in-Some.ensures.begins

pub make-requires-clause-ends : goal.make-requires-clause-ends
make-requires-clause-ends g c = c.in-Some.ensures.ends

pub make-requires-clause-fits : goal.make-requires-clause-fits
make-requires-clause-fits g c = c.requires.fits

pub make-requires-clause-inside : goal.make-requires-clause-inside
make-requires-clause-inside g c = c.in-Some.ensures.seen.inside

pub returns-in_default-clause-few : goal.returns-in_default-clause-few
returns-in_default-clause-few g c = c.requires.few

pub returns-in_default-clause-less : goal.returns-in_default-clause-less
returns-in_default-clause-less g c = omega arith

pub returns-in_default-clause-ready : goal.returns-in_default-clause-ready
returns-in_default-clause-ready g c = c.requires.ready

pub returns-in-Nothing-clause-few : goal.returns-in-Nothing-clause-few
returns-in-Nothing-clause-few g c = c.requires.few

pub returns-in_ok-open-in-Content-clause-few : goal.returns-in_ok-open-in-Content-clause-few
returns-in_ok-open-in-Content-clause-few g c =
    subst (λ n. length n ≤ map_node_limit) (sym c.in_ok-open-in-Content.ensures.nodes) c.requires.few

pub returns-in-Node-clause-few : goal.returns-in-Node-clause-few
returns-in-Node-clause-few g c = c.make.ensures.few

pub returns-in-Node-clause-ready : goal.returns-in-Node-clause-ready
returns-in-Node-clause-ready g c = c.make.ensures.ready

pub returns-in-Node-clause-stand : goal.returns-in-Node-clause-stand
returns-in-Node-clause-stand g c = c.make.ensures.stand

pub returns-in-Node-clause-grows : goal.returns-in-Node-clause-grows
returns-in-Node-clause-grows g c = c.make.ensures.grows

pub returns-in-Node-clause-founded : goal.returns-in-Node-clause-founded
returns-in-Node-clause-founded g c = c.make.ensures.founded

pub returns-in-Node-clause-asks : goal.returns-in-Node-clause-asks
returns-in-Node-clause-asks g c = c.make.ensures.asks

pub returns-in-Node-clause-less : goal.returns-in-Node-clause-less
returns-in-Node-clause-less g c =
    let less = behind_less c.args.self.now.nodes c.args.self.now.left.items c.push.new.self.items c.args.walk c.in-Some.seen.end
    (c.in_ok-push.ensures.items ∙ ap (λ w. c.args.self.now.left.items ++ works.Walk w ∷ []) c.behind.ensures)
    c.in-Some.ensures.begins c.in-Some.ensures.ends in
    on_ok_weaker c.make.result (λ more. omega (arith, more, less)) c.make.ensures.less

pub returns-in-Nothing-clause-less : goal.returns-in-Nothing-clause-less
returns-in-Nothing-clause-less g c =
    behind_less c.args.self.now.nodes c.args.self.now.left.items c.push.new.self.items c.args.walk c.in-Some.seen.end
    (c.in_ok-push.ensures.items ∙ ap (λ w. c.args.self.now.left.items ++ works.Walk w ∷ []) c.behind.ensures)
    c.in-Some.ensures.begins c.in-Some.ensures.ends

pub returns-in_ok-open-in-Content-clause-less : goal.returns-in_ok-open-in-Content-clause-less
returns-in_ok-open-in-Content-clause-less g c =
    let opened = c.in_ok-open-in-Content.ensures in
    content_less c.args.self.now.nodes c.args.self.now.left.items c.push.new.self.items c.args.walk c.in-Some.seen.end
    (c.in_ok-push.ensures.items ∙ ap (λ w. c.args.self.now.left.items ++ works.Walk w ∷ []) c.behind.ensures)
    c.in-Some.ensures.begins c.in-Some.ensures.ends
    c.open.new.self.nodes c.open.new.self.left.items opened.nodes opened.left

pub returns-in_default-clause-stand : goal.returns-in_default-clause-stand
returns-in_default-clause-stand g c = refl

pub returns-in_default-clause-grows : goal.returns-in_default-clause-grows
returns-in_default-clause-grows g c = grows_same _

pub returns-in_default-clause-founded : goal.returns-in_default-clause-founded
returns-in_default-clause-founded g c = stays_same _ _ _ refl

pub returns-in_default-clause-asks : goal.returns-in_default-clause-asks
returns-in_default-clause-asks g c = asks_same _ _ _ _ refl

pub returns-in_err-push-clause-stand : goal.returns-in_err-push-clause-stand
returns-in_err-push-clause-stand g c = refl

pub returns-in_err-push-clause-grows : goal.returns-in_err-push-clause-grows
returns-in_err-push-clause-grows g c = grows_same _

pub returns-in_err-push-clause-founded : goal.returns-in_err-push-clause-founded
returns-in_err-push-clause-founded g c = stays_same _ _ _ refl

pub returns-in_err-push-clause-asks : goal.returns-in_err-push-clause-asks
returns-in_err-push-clause-asks g c = asks_same _ _ _ _ refl

pub returns-in-Nothing-clause-stand : goal.returns-in-Nothing-clause-stand
returns-in-Nothing-clause-stand g c = refl

pub returns-in-Nothing-clause-grows : goal.returns-in-Nothing-clause-grows
returns-in-Nothing-clause-grows g c = grows_same _

pub returns-in-Nothing-clause-founded : goal.returns-in-Nothing-clause-founded
returns-in-Nothing-clause-founded g c = stays_same _ _ _ refl

pub returns-in-Nothing-clause-asks : goal.returns-in-Nothing-clause-asks
returns-in-Nothing-clause-asks g c = asks_same _ _ _ _ refl

pub returns-in_err-open-in-Content-clause-stand : goal.returns-in_err-open-in-Content-clause-stand
returns-in_err-open-in-Content-clause-stand g c = refl

pub returns-in_err-open-in-Content-clause-grows : goal.returns-in_err-open-in-Content-clause-grows
returns-in_err-open-in-Content-clause-grows g c = grows_same _

pub returns-in_err-open-in-Content-clause-founded : goal.returns-in_err-open-in-Content-clause-founded
returns-in_err-open-in-Content-clause-founded g c = stays_same _ _ _ refl

pub returns-in_err-open-in-Content-clause-asks : goal.returns-in_err-open-in-Content-clause-asks
returns-in_err-open-in-Content-clause-asks g c = asks_same _ _ _ _ refl

pub returns-in_ok-open-in-Content-clause-stand : goal.returns-in_ok-open-in-Content-clause-stand
returns-in_ok-open-in-Content-clause-stand g c = refl

pub returns-in_ok-open-in-Content-clause-grows : goal.returns-in_ok-open-in-Content-clause-grows
returns-in_ok-open-in-Content-clause-grows g c = grows_same _

pub returns-in_ok-open-in-Content-clause-founded : goal.returns-in_ok-open-in-Content-clause-founded
returns-in_ok-open-in-Content-clause-founded g c = stays_same _ _ _ refl

pub returns-in_ok-open-in-Content-clause-asks : goal.returns-in_ok-open-in-Content-clause-asks
returns-in_ok-open-in-Content-clause-asks g c = asks_same _ _ _ _ refl
