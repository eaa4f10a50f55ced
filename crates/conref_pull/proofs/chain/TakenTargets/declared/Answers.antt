use Rattle.std.proofs.Common.{◌∷◌, List, sym, subst, ◌∙◌}
use Rattle.conref_pull.specs.Linked.{AreLinks}
use Rattle.conref_pull.specs.declared.chain.TakenTarget.{TakenTarget}
use Rattle.conref_pull.proofs.LinkLaws.{no_links}
use Rattle.conref_pull.proofs.chain.TakenTargets.declared.Goals as goal

pub returns-in-None : goal.returns-in-None
returns-in-None c = λ path end one nearer linked.
    absurd (no_links path end one nearer c.deref.result.now c.in-None.ensures.cases
    (subst (λ (links : List TakenTarget). AreLinks path end (one ∷ nearer) links) (sym c.deref.ensures.value) linked))

pub returns-in-Some : goal.returns-in-Some
returns-in-Some c = λ path end one nearer linked.
    c.declared_inside.ensures one
    (subst (λ (links : List TakenTarget). AreLinks path end (one ∷ nearer) links)
    (sym c.deref.ensures.value ∙ c.in-Some.ensures.cases.0) linked).0
