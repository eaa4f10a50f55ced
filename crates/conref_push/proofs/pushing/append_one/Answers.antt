use Rattle.std.proofs.Common.{refl, sym}
use Rattle.doc_elements.specs.Walk.{content_in, element_of}
use Rattle.conref_push.specs.Sight.{element_before, standing_at}
use Rattle.conref_push.proofs.SightLaws.{none_more, one_more}
use Rattle.conref_push.proofs.pushing.append_one.Goals as goal

pub returns-in_ok-push : goal.returns-in_ok-push
returns-in_ok-push c = λ name inside around is.
    one_more name c.args.out.now.items c.push.new.self.items
    (record {
      kind = c.in-Some.kind;
      place = c.args.place;
      element = c.args.element;
      topic = c.args.topic;
      conref = c.conref_of.result;
    })
    (standing_at c.args.place (element_of name c.args.element.now) inside around
    (element_before name c.args.before) (content_in name c.args.behind))
    c.in-Some.kind c.in_ok-push.ensures.items (c.in-Some.ensures name) refl refl refl (sym is)
    (c.conref_of.ensures name c.args.place inside around)

pub returns-in_default : goal.returns-in_default
returns-in_default c = λ name inside around is.
    none_more name c.args.out.now.items
    (standing_at c.args.place (element_of name c.args.element.now) inside around
    (element_before name c.args.before) (content_in name c.args.behind)) (c.in_default.ensures name)
