use Rattle.std.proofs.Common.{◌∙◌, ap, [], ◌∷◌, ◌++◌, refl, subst, sym}
use Rattle.dita_doc.proofs.Lists.{on_err}
use Rattle.doc_maker.specs.Origins as spec
use Rattle.doc_maker.proofs.OriginLaws.{longer_equal, longer_same, places_pushed, pushed_at}
use Rattle.doc_maker.proofs.origins.Origins.put.Goals as goal

pub returns-in_err-key-clause-grows : goal.returns-in_err-key-clause-grows
returns-in_err-key-clause-grows c = longer_same _

pub invariant_of-self : goal.invariant_of-self
invariant_of-self c = subst (λ ns. spec.ArePlaces ns c.self.inside.places.entries)
    (sym c.in_err-place.ensures.failed) c.self.invariant

pub returns-in_err-place-clause-grows : goal.returns-in_err-place-clause-grows
returns-in_err-place-clause-grows c = longer_equal _ _ (c.in_err-place.ensures.failed ∙ c.self.view_is)

pub returns-in_err-place-clause-failed : goal.returns-in_err-place-clause-failed
returns-in_err-place-clause-failed c = on_err c.from_residual-in_err-place.result
    (c.in_err-place.ensures.failed ∙ c.self.view_is)

pub invariant_of-self-in-Ok : goal.invariant_of-self-in-Ok
invariant_of-self-in-Ok c =
    places_pushed c.self.inside.names.items c.push_name.new.names.items c.args.name.now c.in_ok-key.key
    c.args.name.now c.in_ok-place.place c.self.inside.places.entries c.insert.new.self.entries c.self.invariant
    (subst (λ ns. spec.IsAbsent ns c.args.name.now) (sym c.self.view_is) c.requires.absent)
    c.in_ok-key.ensures.cases refl c.in_ok-place.ensures.pushed c.in_ok-place.ensures.place c.in-Ok.ensures.updates.0

pub returns-clause-place : goal.returns-clause-place
returns-clause-place c = pushed_at c.self.inside.names.items c.push_name.new.names.items c.args.name.now
    c.args.name.now c.in_ok-place.place refl c.in_ok-place.ensures.pushed c.in_ok-place.ensures.place

pub returns-clause-grows : goal.returns-clause-grows
returns-clause-grows c = record {
  more = c.args.name.now ∷ [];
  is = c.in_ok-place.ensures.pushed ∙ ap (λ ns. ns ++ c.args.name.now ∷ []) c.self.view_is;
}
