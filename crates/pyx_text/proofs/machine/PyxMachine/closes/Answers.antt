use Rattle.std.proofs.Common.{◌≡◌, ℕ, ◌-◌, ◌<◌, Bool, true, false, List, [], Some, None, inl, inr, length, slice_get, slice_index_or, bytes_eq, refl, ap, ◌∙◌, sym, subst, arith, rules}
use Rattle.std.specs.Prelude.{if◌then◌else◌}
use Rattle.std.proofs.lemmas.Option.{slice_get_cases, slice_get_within, get_or_from_slice_get}
use Rattle.dita_doc.specs.declared.doc.Node.{Node}
use Rattle.dita_doc.specs.declared.fault.PyxCode.TheVariants as codes
use Rattle.dita_doc.specs.PyxLine.{Closes, is_line_name}
use Rattle.dita_doc.specs.PyxEvent.{Event, fault_of, after}
use Rattle.pyx_text.specs.declared.machine.PyxMachine.{PyxMachine}
use Rattle.pyx_text.specs.Machine.{HasRead, innermost, outer, with_text, with_end}
use Rattle.pyx_text.proofs.Made.{text-length, name_at}
use Rattle.pyx_text.proofs.Steps.{named, none_open, open_inside, close_fault, name_read, read-closes}
use Rattle.pyx_text.proofs.machine.PyxMachine.closes.Goals as goal

none_last : (places : List ℕ) → slice_get places (length places - 1) ≡ None → length places ≡ 0
none_last places is =
    elim (slice_get_cases places (length places - 1)).1 [
      | inl found ↦ absurd (cc (found.2))
      | inr past ↦ omega (arith, past.0)
    ]

record IsLast (places : List ℕ) (place : ℕ) : Type 0 where
  some : 0 < length places
  is : place ≡ innermost places

some_last : (places : List ℕ) (place : ℕ) → slice_get places (length places - 1) ≡ Some place → IsLast places place
some_last places place is = record {
  some = omega (arith, slice_get_within places (length places - 1) place is);
  is = sym (get_or_from_slice_get places (length places - 1) place 0 is);
}

-- the test of the name, by the node at the open place
test_read : (m : PyxMachine) (before : List Event) (name : List ℕ) (place : ℕ) (node : Node) (same : Bool)
    → HasRead m before → IsLast m.places.items place → place < length m.nodes.items
    → node ≡ slice_index_or m.nodes.items place node → bytes_eq name node.text ≡ same
    → fault_of before (Closes name) ≡ (if same then None else Some codes.CloseMismatch)
test_read m before name place node same read last inside is test =
    let at : name_at m.nodes.items (innermost m.places.items) ≡ node.text = ap (name_at m.nodes.items) (sym last.is)
    ∙ name_read m.nodes.items place node inside is in
    close_fault m before name read last.some
    ∙ ap (λ t. if bytes_eq name t then None else Some codes.CloseMismatch) at
    ∙ ap (λ b. if b then None else Some codes.CloseMismatch) test

pub returns-in_default : goal.returns-in_default
returns-in_default c number before read =
    let m = c.args.self.now in
    let name = c.args.name.now in
    let good : is_line_name name ≡ true = search rules in
    let none : slice_get m.places.items (length m.places.items - 1) ≡ None = search rules in
    ap (fault_of before) (named name (Closes name) good) ∙ none_open m before name read (none_last m.places.items none)

pub index-requires : goal.index-requires
index-requires c =
    let m = c.args.self.now in
    let found : slice_get m.places.items (length m.places.items - 1) ≡ Some c.in-Some.place = search rules in
    let last = some_last m.places.items c.in-Some.place found in
    let inside = open_inside m c.requires.reading.0 c.requires.reading.1 last.some in
    let at : c.in-Some.place ≡ innermost m.places.items = last.is in
    search (rules, inside, at)

pub returns-then-ne : goal.returns-then-ne
returns-then-ne c number before read =
    let m = c.args.self.now in
    let name = c.args.name.now in
    let good : is_line_name name ≡ true = search rules in
    let found : slice_get m.places.items (length m.places.items - 1) ≡ Some c.in-Some.place = search rules in
    let last = some_last m.places.items c.in-Some.place found in
    let inside : c.in-Some.place < length m.nodes.items =
    subst (λ p. p < length m.nodes.items) (sym last.is) (open_inside m before read last.some) in
    let test : bytes_eq name c.index.result.now.text ≡ false = search rules in
    ap (fault_of before) (named name (Closes name) good)
    ∙ test_read m before name c.in-Some.place c.index.result.now false read last inside c.index.ensures test

pub set_end-requires-clause-inside : goal.set_end-requires-clause-inside
set_end-requires-clause-inside c =
    let m = c.args.self.now in
    let found : slice_get m.places.items (length m.places.items - 1) ≡ Some c.in-Some.place = search rules in
    let last = some_last m.places.items c.in-Some.place found in
    let inside : c.in-Some.place < length m.nodes.items =
    subst (λ p. p < length m.nodes.items) (sym last.is)
    (open_inside m c.requires.reading.0 c.requires.reading.1 last.some) in
    let nodes : c.settle.new.self.nodes.items ≡ with_text m.text m.nodes.items = search rules in
    omega (arith, ap length nodes, text-length m.text m.nodes.items)

pub returns : goal.returns
returns c number before read =
    let m = c.args.self.now in
    let name = c.args.name.now in
    let n : PyxMachine = record {
      nodes = c.set_end.new.nodes;
      places = c.pop.new.self;
      text =
          c.settle.new.self.text;
      fresh = false;
      given = c.settle.new.self.given;
      rooted = c.settle.new.self.rooted;
    } in
    let good : is_line_name name ≡ true = search rules in
    let found : slice_get m.places.items (length m.places.items - 1) ≡ Some c.in-Some.place = search rules in
    let last = some_last m.places.items c.in-Some.place found in
    let inside : c.in-Some.place < length m.nodes.items =
    subst (λ p. p < length m.nodes.items) (sym last.is) (open_inside m before read last.some) in
    let test : bytes_eq name c.index.result.now.text ≡ true = search rules in
    let put : c.settle.new.self.nodes.items ≡ with_text m.text m.nodes.items = search rules in
    let nodes : n.nodes.items ≡ with_end (innermost m.places.items) (with_text m.text m.nodes.items) =
    c.set_end.ensures ∙ ap (with_end c.in-Some.place) put
    ∙ ap (λ p. with_end p (with_text m.text m.nodes.items)) last.is in
    let places : n.places.items ≡ outer m.places.items = search rules in
    let text : n.text ≡ [] = search rules in
    let rooted : n.rooted ≡ m.rooted = search rules in
    subst (λ line. (fault_of before line ≡ None) × HasRead n (after number before line))
    (sym (named name (Closes name) good)) (
      test_read m before name c.in-Some.place c.index.result.now true read last inside c.index.ensures test,
      read-closes m n number before name read nodes places text refl rooted,
    )
