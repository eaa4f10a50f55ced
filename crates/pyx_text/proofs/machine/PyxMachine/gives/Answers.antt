use Rattle.std.proofs.Common.{ℕ, List, ◌||◌, bytes_eq, ◌≡◌, true, false, None, refl, ap, ◌∙◌, sym, subst, rules}
use Rattle.std.specs.List.{before_first, after_first}
use Rattle.dita_doc.specs.declared.doc.Attribute.{Attribute}
use Rattle.dita_doc.specs.PyxLine.{Gives, is_line_name}
use Rattle.dita_doc.specs.Bytes.{is_space}
use Rattle.dita_doc.specs.PyxEscapes.{unescaped}
use Rattle.dita_doc.specs.PyxEvent.{fault_of, after}
use Rattle.pyx_text.specs.declared.machine.PyxMachine.{PyxMachine}
use Rattle.pyx_text.specs.Machine.{HasRead, with_attribute, has_name}
use Rattle.pyx_text.proofs.Steps.{named, attribute_fault, read-gives}
use Rattle.pyx_text.proofs.machine.PyxMachine.gives.Goals as goal

pub returns-then-not-is_new : goal.returns-then-not-is_new
returns-then-not-is_new c number before read =
    let m = c.args.self.now in
    let name = before_first is_space c.args.text.now in
    let value = unescaped (after_first is_space c.args.text.now) in
    let good : is_line_name name ≡ true = search rules in
    let again : true ≡ has_name name m.given = search rules in
    ap (fault_of before) (named name (Gives name value) good)
    ∙ attribute_fault m before name value true read c.if-not-self.false again

pub returns : goal.returns
returns c number before read =
    let m = c.args.self.now in
    let name = before_first is_space c.args.text.now in
    let value = unescaped (after_first is_space c.args.text.now) in
    let attribute : Attribute = record { name = name; value = value } in
    let n : PyxMachine = record m { nodes = c.push_attribute.new.nodes; given = c.insert_name.new.names } in
    let good : is_line_name name ≡ true = search rules in
    let again : false ≡ has_name name m.given = search rules in
    let more : (other : List ℕ) → has_name other n.given ≡ (bytes_eq other name || has_name other m.given) =
    search rules in
    let nodes : n.nodes.items ≡ with_attribute attribute m.nodes.items = search rules in
    subst (λ line. (fault_of before line ≡ None) × HasRead n (after number before line))
    (sym (named name (Gives name value) good)) (
      attribute_fault m before name value false read c.if-not-self.false again,
      read-gives m n number before attribute read c.if-not-self.false nodes refl refl refl refl more,
    )
