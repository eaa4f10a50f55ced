use Rattle.std.proofs.Common.{◌≡◌, ◌∙◌, Some, ap, refl, slice_get, subst, sym}
use Rattle.std.proofs.lemmas.Option.{same_Some}
use Rattle.dita_doc.specs.declared.plan.PlanNode.{PlanNode}
use Rattle.dita_doc.proofs.Lists.{get_read}
use Rattle.doc_elements.specs.Walk.{FoundElement, content_in, element_of, found_in}
use Rattle.map_spec.specs.MapTree.{node_of}
use Rattle.plan_nodes.specs.Home.{doc_of}
use Rattle.readers.proofs.FoundedLaws.{stays_same}
use Rattle.readers.proofs.GrowthLaws.{grows_same}
use Rattle.branch_copies.specs.BranchRead.{IsBranchOf}
use Rattle.branch_copies.proofs.AppendedLaws.{none_appended, one_appended}
use Rattle.branch_copies.proofs.DitavalrefLaws.{asks_ref, ditavals_same, stays_ref}
use Rattle.node_filter.proofs.HomeLaws.{whole_found}
use Rattle.branch_copies.proofs.StandLaws.{whole_here}
use Rattle.branch_copies.proofs.branches.Branches.read.Goals as goal

pub returns-in_default-whole-clause-known : goal.returns-in_default-whole-clause-known
returns-in_default-whole-clause-known g c = λ world head parent end agrees are here known.
    none_appended world c.args.nodes.now c.args.ditavals.now.read.items c.args.ditavals.now.known.entries
    c.args.self.now head
    (sym (whole_here world c.args.nodes.now c.args.homes.now parent c.args.place end head are here)
    ∙ sym c.whole.ensures ∙ ap (found_in (doc_of c.args.homes.now c.args.place)) c.in_default-whole.is) known

pub returns-clause-known : goal.returns-clause-known
returns-clause-known g c = λ world head parent end agrees are here known.
    let nodes = c.args.nodes.now in
    let place = c.args.place in
    let node : PlanNode = c.in-Some.node.now in
    let found : FoundElement = (c.in-Some-whole.element, c.in-Some-whole.inside) in
    let lookup = c.in-Some.ensures.lookup in
    let looked : slice_get nodes place ≡ Some node = get_read nodes place node lookup.3.0 lookup.1 in
    let node_is : node ≡ node_of head parent end = same_Some _ _ (sym looked ∙ here) in
    one_appended world nodes c.args.ditavals.now.read.items c.read_branch.new.ditavals.read.items
    c.read_branch.new.ditavals.known.entries c.args.self.now _ place parent end head found c.in_ok-branch.branch here
    (whole_found world c.args.homes.now nodes place (node_of head parent end) (Some found) are here
    c.in-Some-whole.ensures)
    (subst (λ (n : PlanNode). IsBranchOf world c.args.ditavals.now.read.items c.read_branch.new.ditavals.read.items
    c.read_branch.new.ditavals.known.entries c.args.self.now.faults c.read_branch.new.faults place
    (element_of n.doc found.0.now) (content_in n.doc found.1) c.in_ok-branch.branch) node_is
    (c.in_ok-branch.ensures.known world agrees known)) c.in_ok-push.ensures.items refl

pub returns-in_err-branch-clause-founded : goal.returns-in_err-branch-clause-founded
returns-in_err-branch-clause-founded g c =
    let found = c.in-Some.ensures.lookup in
    stays_ref c.args.nodes.now c.args.homes.now c.args.place c.in-Some.node.now
    (c.in-Some-whole.element, c.in-Some-whole.inside) (get_read _ _ _ found.3.0 found.1) c.in-Some-whole.ensures _ _
    c.requires.given c.read_branch.ensures.founded

pub returns-in_err-branch-clause-asks : goal.returns-in_err-branch-clause-asks
returns-in_err-branch-clause-asks g c = λ is.
    let found = c.in-Some.ensures.lookup in
    asks_ref c.args.nodes.now c.args.homes.now c.args.place c.in-Some.node.now
    (c.in-Some-whole.element, c.in-Some-whole.inside) (get_read _ _ _ found.3.0 found.1) c.in-Some-whole.ensures _ _
    c.requires.given is c.read_branch.ensures.asks

pub returns-in_err-push-clause-founded : goal.returns-in_err-push-clause-founded
returns-in_err-push-clause-founded g c =
    let found = c.in-Some.ensures.lookup in
    stays_ref c.args.nodes.now c.args.homes.now c.args.place c.in-Some.node.now
    (c.in-Some-whole.element, c.in-Some-whole.inside) (get_read _ _ _ found.3.0 found.1) c.in-Some-whole.ensures _ _
    c.requires.given c.read_branch.ensures.founded

pub returns-in_err-push-clause-asks : goal.returns-in_err-push-clause-asks
returns-in_err-push-clause-asks g c = λ is.
    let found = c.in-Some.ensures.lookup in
    asks_ref c.args.nodes.now c.args.homes.now c.args.place c.in-Some.node.now
    (c.in-Some-whole.element, c.in-Some-whole.inside) (get_read _ _ _ found.3.0 found.1) c.in-Some-whole.ensures _ _
    c.requires.given is c.read_branch.ensures.asks

pub returns-clause-founded : goal.returns-clause-founded
returns-clause-founded g c =
    let found = c.in-Some.ensures.lookup in
    stays_ref c.args.nodes.now c.args.homes.now c.args.place c.in-Some.node.now
    (c.in-Some-whole.element, c.in-Some-whole.inside) (get_read _ _ _ found.3.0 found.1) c.in-Some-whole.ensures _ _
    c.requires.given c.read_branch.ensures.founded

pub returns-clause-asks : goal.returns-clause-asks
returns-clause-asks g c = λ is.
    let found = c.in-Some.ensures.lookup in
    asks_ref c.args.nodes.now c.args.homes.now c.args.place c.in-Some.node.now
    (c.in-Some-whole.element, c.in-Some-whole.inside) (get_read _ _ _ found.3.0 found.1) c.in-Some-whole.ensures _ _
    c.requires.given is c.read_branch.ensures.asks

pub returns-in_default-clause-stand : goal.returns-in_default-clause-stand
returns-in_default-clause-stand g c = refl

pub returns-in_default-clause-grows : goal.returns-in_default-clause-grows
returns-in_default-clause-grows g c = grows_same _

pub returns-in_default-clause-founded : goal.returns-in_default-clause-founded
returns-in_default-clause-founded g c = stays_same _ _ _ refl

pub returns-in_default-clause-asks : goal.returns-in_default-clause-asks
returns-in_default-clause-asks g c = λ is. ditavals_same _ _ _ _ _ refl

pub returns-in_default-whole-clause-stand : goal.returns-in_default-whole-clause-stand
returns-in_default-whole-clause-stand g c = refl

pub returns-in_default-whole-clause-grows : goal.returns-in_default-whole-clause-grows
returns-in_default-whole-clause-grows g c = grows_same _

pub returns-in_default-whole-clause-founded : goal.returns-in_default-whole-clause-founded
returns-in_default-whole-clause-founded g c = stays_same _ _ _ refl

pub returns-in_default-whole-clause-asks : goal.returns-in_default-whole-clause-asks
returns-in_default-whole-clause-asks g c = λ is. ditavals_same _ _ _ _ _ refl

pub returns-in_err-branch-clause-stand : goal.returns-in_err-branch-clause-stand
returns-in_err-branch-clause-stand g c = c.read_branch.ensures.stand

pub returns-in_err-branch-clause-grows : goal.returns-in_err-branch-clause-grows
returns-in_err-branch-clause-grows g c = c.read_branch.ensures.grows

pub returns-in_err-push-clause-stand : goal.returns-in_err-push-clause-stand
returns-in_err-push-clause-stand g c = c.read_branch.ensures.stand

pub returns-in_err-push-clause-grows : goal.returns-in_err-push-clause-grows
returns-in_err-push-clause-grows g c = c.read_branch.ensures.grows

pub returns-clause-stand : goal.returns-clause-stand
returns-clause-stand g c = c.read_branch.ensures.stand

pub returns-clause-grows : goal.returns-clause-grows
returns-clause-grows g c = c.read_branch.ensures.grows
