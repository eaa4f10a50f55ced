use Rattle.std.proofs.Common.{◌∷◌, List, sym, subst, ◌∙◌}
use Rattle.conref_pull.specs.Linked.{AreLinks}
use Rattle.conref_pull.specs.declared.chain.TakenTarget.{TakenTarget}
use Rattle.conref_pull.proofs.LinkAskLaws.{first_given, whole_given}
use Rattle.conref_pull.proofs.LinkLaws.{no_links}
use Rattle.conref_pull.proofs.MetLaws.{first_met}
use Rattle.conref_pull.proofs.chain.TakenTargets.farthest.Goals as goal

pub returns-in-None-clause-target : goal.returns-in-None-clause-target
returns-in-None-clause-target c = λ path end one nearer linked.
    absurd (no_links path end one nearer c.deref.result.now c.in-None.ensures.cases
    (subst (λ (links : List TakenTarget). AreLinks path end (one ∷ nearer) links) (sym c.deref.ensures.value) linked))

pub returns-in-Some : goal.returns-in-Some
returns-in-Some c = record {
  target = λ path end one nearer linked.
      c.whole.ensures.target one
      (subst (λ (links : List TakenTarget). AreLinks path end (one ∷ nearer) links)
      (sym c.deref.ensures.value ∙ c.in-Some.ensures.cases.0) linked).0;
  given = λ told given.
      whole_given told c.in-Some.farthest.now c.whole.result
      (first_given told c.args.self.now.links.items c.in-Some.farthest.now _
      (sym c.deref.ensures.value ∙ c.in-Some.ensures.cases.0) given) c.whole.ensures.names;
  hrefs = λ told given.
      c.whole.ensures.hrefs told (first_given told c.args.self.now.links.items c.in-Some.farthest.now _
      (sym c.deref.ensures.value ∙ c.in-Some.ensures.cases.0) given);
  met = λ page met. c.whole.ensures.met page
      (first_met page c.args.self.now.links.items c.in-Some.farthest.now _ (sym c.deref.ensures.value ∙ c.in-Some.ensures.cases.0) met);
}
