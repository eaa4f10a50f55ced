use Rattle.std.proofs.Common.{◌≡◌, ℕ, List, [], Option, Some, None, refl, slice_get, subst, sym, ap, ◌∙◌}
use Rattle.std.specs.Option.{option_copied, unwrap_or}
use Rattle.std.specs.Borrow.{Bor}
use Rattle.dita_doc.specs.declared.doc.Doc.{Doc}
use Rattle.doc_elements.specs.Walk.{element_of}
use Rattle.conref_targets.proofs.RangeEndLaws.{range_as}
use Rattle.conref_pull.proofs.AcceptedLaws.{accept_range, accept_type, special_is}
use Rattle.conref_pull.proofs.resolver.Resolver.accept.Goals as goal

value_or : (value : Option (Bor (List ℕ))) (other : Bor (List ℕ)) (result : Bor (List ℕ)) → result ≡ unwrap_or value other
    → other.now ≡ [] → result.now ≡ unwrap_or (option_copied value) []
value_or None other result is none = ap (λ (b : Bor (List ℕ)). b.now) is ∙ none
value_or (Some value) other result is none = ap (λ (b : Bor (List ℕ)). b.now) is

pub returns-then-not-is_special-clause-known : goal.returns-then-not-is_special-clause-known
returns-then-not-is_special-clause-known c = λ documents meant at are is deep room.
    (let element = element_of c.args.origin.now c.args.element.now in
    accept_type documents meant c.args.found is at c.args.links element c.args.self.now c.push_fault.new.self
    c.args.places.now are
    (special_is documents meant c.args.found is at c.args.links element c.args.self.now c.push_fault.new.self
    c.args.places.now are c.deref.result.now c.in-Some.target _ _ c.deref.ensures c.in-Some.ensures.whole
    (c.is_special.ensures c.in-Some.target.origin.now c.args.origin.now) c.if-not-is_special.true)
    c.in_ok-push_fault.ensures)

pub returns-in_default-2-clause-known : goal.returns-in_default-2-clause-known
returns-in_default-2-clause-known c = λ documents meant at are is deep room.
    (let element = element_of c.args.origin.now c.args.element.now in
    let here = subst (λ (d : Doc). slice_get d.nodes c.args.found.place ≡ Some c.in-Some.target.node.now) c.deref.ensures
    c.in-Some.ensures.here in
    let tables = c.in_ok-to.ensures.tables documents meant are is in
    accept_range documents meant c.args.found is at c.args.links element c.args.self.now c.push_fault-in_default-2.new.self
    c.range_end.new.places tables
    (special_is documents meant c.args.found is at c.args.links element c.args.self.now c.push_fault-in_default-2.new.self
    c.range_end.new.places tables c.deref.result.now c.in-Some.target _ _ c.deref.ensures c.in-Some.ensures.whole
    (c.is_special.ensures c.in-Some.target.origin.now c.args.origin.now) c.if-not-is_special.false)
    c.in-Some.target.node.now.end c.unwrap_or.result.now
    (value_or c.value_of-end.result _ c.unwrap_or.result c.unwrap_or.ensures refl
    ∙ ap (λ (v : Option (List ℕ)). unwrap_or v []) c.value_of-end.ensures)
    (range_as meant.standing c.in-Some.target.node.now.end _ _ _ _ (sym c.value_of-end.ensures) (sym c.in_default-2.is)
    (c.in_ok-to.ensures.range documents meant are is here))
    c.in_ok-push_fault-2.ensures)

pub returns-clause-known : goal.returns-clause-known
returns-clause-known c = λ documents meant at are is deep room.
    (let element = element_of c.args.origin.now c.args.element.now in
    let here = subst (λ (d : Doc). slice_get d.nodes c.args.found.place ≡ Some c.in-Some.target.node.now) c.deref.ensures
    c.in-Some.ensures.here in
    let tables = c.in_ok-to.ensures.tables documents meant are is in
    c.go_on.ensures.known documents meant at c.in-Some.target.node.now c.around_found.new.places
    (c.in_ok-declared.ensures.tables documents meant tables is) is here refl
    (c.in_ok-declared.ensures.names documents meant tables is)
    (special_is documents meant c.args.found is at c.args.links element c.args.self.now c.go_on.new.self
    c.range_end.new.places tables c.deref.result.now c.in-Some.target _ _ c.deref.ensures c.in-Some.ensures.whole
    (c.is_special.ensures c.in-Some.target.origin.now c.args.origin.now) c.if-not-is_special.false)
    (range_as meant.standing c.in-Some.target.node.now.end _ _ _ _ (sym c.value_of-end.ensures) (sym c.in-Some-2.is)
    (c.in_ok-to.ensures.range documents meant are is here))
    deep room)
