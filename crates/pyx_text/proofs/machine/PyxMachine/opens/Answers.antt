use Rattle.std.proofs.Common.{◌≡◌, ◌<◌, true, false, ◌∷◌, [], ◌++◌, None, ◌⊎◌, inl, inr, length, refl, ap, ◌∙◌, sym, subst, arith, rules}
use Rattle.std.proofs.lemmas.Bool.Decides.{nat_tests}
use Rattle.dita_doc.specs.PyxLine.{Opens}
use Rattle.dita_doc.specs.PyxEvent.{fault_of, after}
use Rattle.pyx_text.specs.declared.machine.PyxMachine.{PyxMachine}
use Rattle.pyx_text.specs.Machine.{HasRead, with_text, with_element}
use Rattle.pyx_text.proofs.Steps.{named, second_root, too_deep, may_open, read-opens}
use Rattle.pyx_text.proofs.machine.PyxMachine.opens.Goals as goal
use Rattle.pyx_text.proofs.machine.PyxMachine.opens.Goals.{then-is_empty+else-self, else-is_empty+else-len-ge-DEPTH_LIMIT}

pub returns-then-self : goal.returns-then-self
returns-then-self c before read =
    let name = c.args.name.now in
    let none : length c.args.self.now.places.items ≡ 0 = grind (arith, nat_tests) in
    ap (fault_of before) (named name (Opens name) (sym c.is_line_name.ensures ∙ c.if-not-is_line_name.false))
    ∙ second_root c.args.self.now before name read none c.if-self.true

pub returns-then-len-ge-DEPTH_LIMIT : goal.returns-then-len-ge-DEPTH_LIMIT
returns-then-len-ge-DEPTH_LIMIT c before read =
    let name = c.args.name.now in
    ap (fault_of before) (named name (Opens name) (sym c.is_line_name.ensures ∙ c.if-not-is_line_name.false))
    ∙ too_deep c.args.self.now before name read (search rules)

pub returns : goal.returns
returns c before read =
    let m = c.args.self.now in
    let name = c.args.name.now in
    let number = c.args.number in
    let n : PyxMachine = record {
      nodes = c.push_element.new.nodes;
      places = c.push.new.self;
      text =
          c.settle.new.self.text;
      fresh = true;
      given = c.clear.new.self;
      rooted = true;
    } in
    let may : ((length m.places.items ≡ 0) × (m.rooted ≡ false))
    ⊎ ((0 < length m.places.items) × (length m.places.items < 256)) =
    elim c.if-is_empty.branch [
      | then-is_empty+else-self w ↦ inl (grind (arith, nat_tests), w.if-self.false)
      | else-is_empty+else-len-ge-DEPTH_LIMIT w ↦ inr (grind (arith, nat_tests), search rules)
    ] in
    let nodes : n.nodes.items ≡ with_element name number (with_text m.text m.nodes.items) = search rules in
    let places : n.places.items ≡ m.places.items ++ length (with_text m.text m.nodes.items) ∷ [] = search rules in
    let text : n.text ≡ [] = search rules in
    subst (λ line. (fault_of before line ≡ None) × HasRead n (after number before line))
    (sym (named name (Opens name) (sym c.is_line_name.ensures ∙ c.if-not-is_line_name.false))) (
      may_open m before name read may,
      read-opens m n number before name read nodes places text refl
          c.clear.ensures.empty refl,
    )
