use Rattle.std.specs.Prelude.{◌≡◌, ℕ, List, Option, Some, None, IfSome, slice_get}
use Rattle.std.proofs.Common.{ap, sym, ◌∙◌}
use Rattle.dita_doc.specs.declared.doc.Node.{Node}
use Rattle.conref_targets.specs.declared.origin.Whole.{Whole}
use Rattle.conref_targets.proofs.OriginLaws.{whole_none}
use Rattle.conref_targets.proofs.origin.whole_at.Goals as goal

node_here : (nodes : List Node) (place : ℕ) (node : Node) (found : Option Whole) → slice_get nodes place ≡ Some node
    → IfSome found (λ whole. whole.node.now ≡ node)
    → IfSome found (λ whole. slice_get nodes place ≡ Some whole.node.now)
node_here nodes place node None here is = tt
node_here nodes place node (Some whole) here is = here ∙ ap Some (sym is)

pub returns-in-None-clause-whole : goal.returns-in-None-clause-whole
returns-in-None-clause-whole c = λ part there begins.
    whole_none c.args.doc.now c.args.place part there begins c.in-None.ensures

pub returns-in-Some-clause-whole : goal.returns-in-Some-clause-whole
returns-in-Some-clause-whole c = λ part there begins.
    c.whole_of.ensures.whole c.args.place part c.in-Some.ensures there begins

pub returns-in-Some-clause-here : goal.returns-in-Some-clause-here
returns-in-Some-clause-here c = node_here c.args.doc.now.nodes c.args.place c.in-Some.node.now c.whole_of.result
    c.in-Some.ensures.here c.whole_of.ensures.node

pub returns-in-Some-clause-names : goal.returns-in-Some-clause-names
returns-in-Some-clause-names c = c.whole_of.ensures.names c.args.place c.in-Some.ensures

pub returns-in-Some-clause-met : goal.returns-in-Some-clause-met
returns-in-Some-clause-met c = λ page all. c.whole_of.ensures.met page c.args.place c.in-Some.ensures all

pub returns-in-Some-clause-hrefs : goal.returns-in-Some-clause-hrefs
returns-in-Some-clause-hrefs c = λ told all. c.whole_of.ensures.hrefs told c.args.place c.in-Some.ensures all
