use Rattle.std.proofs.Common.{rules, [], ◌∷◌, ap, sym, subst, arith, length}
use Rattle.std.specs.List.{All}
use Rattle.std.proofs.lemmas.List.{map-append}
use Rattle.std.proofs.lemmas.List.Elements.{All-tail}
use Rattle.desk_top.specs.Asked.{AsksAll, all_asked, asked_seen}
use Rattle.desk_top.specs.Served.{MayBeAsked, known_by}
use Rattle.desk_top.proofs.HistoryLaws.{asked_none, asks_more, asks_none}
use Rattle.desk_top.proofs.PileLaws.{vec_whole}
use Rattle.desk_top.proofs.callers.ask_all.Goals as goal

pub ask-requires-clause-asked : goal.ask-requires-clause-asked
ask-requires-clause-asked g c = λ κs lives.
    let may = (subst (All MayBeAsked) c.in-Some.ensures.steps.0 c.loop-number.invariant.requests) 0
    (c.in-Some.number, c.in-Some.request) (omega arith) in
    record { origin = may.origin; few = may.few; utf8 = may.utf8 }

pub loop-number-preserved : goal.loop-number-preserved
loop-number-preserved g c = record {
  size = omega (arith, c.in-Some.ensures.steps.1, c.loop-number.invariant.size, ap length c.in-Some.ensures.steps.0);
  requests = All-tail MayBeAsked _ _ (subst (All MayBeAsked) c.in-Some.ensures.steps.0 c.loop-number.invariant.requests);
  at = c.ask.ensures.at;
  answered = c.in_ok-ask.ensures.ok.answered;
  asked = subst (λ list. AsksAll (known_by c.args.session.now) list (known_by c.ask.new.session))
      (sym (map-append asked_seen c.loop-number.yielded ((c.in-Some.number, c.in-Some.request) ∷ [])))
      (asks_more _ _ _ _ _ c.loop-number.invariant.asked c.in_ok-ask.ensures.ok.asked);
}

pub loop-number-init : goal.loop-number-init
loop-number-init g c = record {
  size = search rules;
  requests = search rules;
  at = c.requires.at;
  answered = c.requires.answered;
  asked = asks_none _ (asked_none _ c.requires.none);
}

pub returns-clause-asked : goal.returns-clause-asked
returns-clause-asked g c =
    subst (λ list. AsksAll (known_by c.args.session.now) (all_asked list) (known_by c.loop-number.session))
    (vec_whole c.args.asked c.into_iter-number-iterator.result c.loop-number.number-iterator c.next.new.self
    c.loop-number.yielded c.next.result c.into_iter-number-iterator.ensures.into_iter_gives.0
    c.into_iter-number-iterator.ensures.into_iter_gives.1 c.loop-number.yielded_by c.in-None.is c.next.ensures.steps)
    c.loop-number.invariant.asked
