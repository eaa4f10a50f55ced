use Rattle.std.proofs.Common.{◌+◌, ◌-◌, arith, refl}
use Rattle.dita_doc.proofs.TreeLaws.{begins_element, stands_at, front_within, back_within}
use Rattle.dita_doc.proofs.siblings.Siblings.split_first.Goals as goal

pub overflow_add-behind : goal.overflow_add-behind
overflow_add-behind c = let all = c.in-Some.ensures.cases in omega arith

pub split_at-requires : goal.split_at-requires
split_at-requires c =
    let begins = begins_element _ _ _ _ c.in-Some.ensures.cases.0 c.args.self.tree c.in-Element.is in
    omega arith

pub invariant_of-result-in-Element : goal.invariant_of-result-in-Element
invariant_of-result-in-Element c =
    let begins = begins_element _ _ _ _ c.in-Some.ensures.cases.0 c.args.self.tree c.in-Element.is in
    let stands = stands_at _ _ _ c.args.self.place c.args.self.doc.now.nodes c.in-Some.ensures.cases.0
    c.args.self.within in
    let all = c.in-Some.ensures.cases in
    record {
      within = rw c.split_at.ensures.front
          (front_within (c.in-Some.node.now.end - (c.args.self.place + 1)) c.in-Some.nodes.now
          (c.args.self.place + 1) c.args.self.doc.now.nodes stands.behind);
      tree = rw c.split_at.ensures.front begins.inside;
      small = omega arith;
    }

pub invariant_of-result-in-Element-2 : goal.invariant_of-result-in-Element-2
invariant_of-result-in-Element-2 c =
    let begins = begins_element _ _ _ _ c.in-Some.ensures.cases.0 c.args.self.tree c.in-Element.is in
    let stands = stands_at _ _ _ c.args.self.place c.args.self.doc.now.nodes c.in-Some.ensures.cases.0
    c.args.self.within in
    let all = c.in-Some.ensures.cases in
    record {
      within = rw c.split_at.ensures.back
          (back_within (c.in-Some.node.now.end - (c.args.self.place + 1)) c.in-Some.node.now.end c.in-Some.nodes.now
          (c.args.self.place + 1) c.args.self.doc.now.nodes (omega arith) stands.behind);
      tree = rw c.split_at.ensures.back begins.rest;
      small = omega arith;
    }

pub returns-in-Element-clause-content : goal.returns-in-Element-clause-content
returns-in-Element-clause-content c =
    let begins = begins_element _ _ _ _ c.in-Some.ensures.cases.0 c.args.self.tree c.in-Element.is in
    simp (c.split_at.ensures.front, c.split_at.ensures.back) begins.all

pub returns-in-Element-clause-places : goal.returns-in-Element-clause-places
returns-in-Element-clause-places c =
    let begins = begins_element _ _ _ _ c.in-Some.ensures.cases.0 c.args.self.tree c.in-Element.is in
    (refl, rw c.split_at.ensures.front begins.end)

pub invariant_of-result-clause-within : goal.invariant_of-result-clause-within
invariant_of-result-clause-within c =
    (stands_at _ _ _ c.args.self.place c.args.self.doc.now.nodes c.in-Some.ensures.cases.0 c.args.self.within).behind

pub returns-in-Chars-clause-node : goal.returns-in-Chars-clause-node
returns-in-Chars-clause-node c =
    (stands_at _ _ _ c.args.self.place c.args.self.doc.now.nodes c.in-Some.ensures.cases.0 c.args.self.within).here

pub returns-in-Element-clause-node : goal.returns-in-Element-clause-node
returns-in-Element-clause-node c =
    (stands_at _ _ _ c.args.self.place c.args.self.doc.now.nodes c.in-Some.ensures.cases.0 c.args.self.within).here
