-- The steps of a machine: where a line is faulty, and what the machine holds after one that is not.
use Rattle.std.proofs.Common.{◌≡◌, ℕ, zero, suc, ◌<◌, ◌≤◌, Bool, true, false, List, [], ◌∷◌, ◌++◌, Option, Some, None, Ok, Err, ◌⊎◌, inl, inr, length, get_or, bytes_eq, sym, refl, ap, ◌∙◌, subst, arith}
use Rattle.std.specs.Prelude.{◌||◌, if◌then◌else◌, is_some}
use Rattle.std.specs.List.{list_any}
use Rattle.std.specs.Ordering.{nat_cmp}
use Rattle.std.specs.Cmp.Lexicographic.{slice_cmp}
use Rattle.std.specs.BTreeMap.{is_at}
use Rattle.std.specs.BTreeSet.{BTreeSet}
use Rattle.std.proofs.lemmas.Bool.Decides.{nat_tests}
use Rattle.dita_doc.specs.declared.doc.Attribute.{Attribute}
use Rattle.dita_doc.specs.declared.doc.Node.{Node}
use Rattle.dita_doc.specs.declared.fault.PyxCode.TheVariants as codes
use Rattle.dita_doc.specs.PyxLine.{Line, Opens, Gives, Says, Closes, Breaks, is_line_name, with_name}
use Rattle.dita_doc.specs.PyxEvent.{Event, add_text, open_names, given_names, one_more, has_root, fault_of, fault_of_open, fault_of_give, fault_of_close, after, is_outside}
use Rattle.dita_doc.specs.PlainText.{is_blank}
use Rattle.dita_doc.specs.Pyx.{ends, is_none_open}
use Rattle.pyx_text.specs.declared.machine.PyxMachine.{PyxMachine}
use Rattle.pyx_text.specs.Machine.{made_by, with_text, with_element, with_attribute, with_end, innermost, outer, has_name, HasGiven, settled, HasRead}
use Rattle.pyx_text.proofs.Made.{AreAt, name_at, settled-open, settled-depth, given-settled, made-settled, text_at-add, settled-add, given-add, has_root-add}

-- how many elements are open
depth_read : (m : PyxMachine) (before : List Event) → HasRead m before
    → length (open_names before) ≡ length m.places.items
depth_read m before read = settled-depth before ∙ ap length (sym read.places)

fault_of_none_open : (rooted : Bool) (names : List (List ℕ)) → length names ≡ 0
    → fault_of_open rooted names ≡ (if rooted then Some codes.SecondRoot else None)
fault_of_none_open rooted [] none = refl
fault_of_none_open rooted (name ∷ names) none = absurd (omega arith)

pub second_root : (m : PyxMachine) (before : List Event) (name : List ℕ) → HasRead m before → length m.places.items ≡ 0
    → m.rooted ≡ true → fault_of before (Opens name) ≡ Some codes.SecondRoot
second_root m before name read none rooted =
    fault_of_none_open (has_root before) (open_names before) (depth_read m before read ∙ none)
    ∙ ap (λ r. if r then Some codes.SecondRoot else None) (sym read.rooted ∙ rooted)

pub first_root : (m : PyxMachine) (before : List Event) (name : List ℕ) → HasRead m before → length m.places.items ≡ 0
    → m.rooted ≡ false → fault_of before (Opens name) ≡ None
first_root m before name read none rooted =
    fault_of_none_open (has_root before) (open_names before) (depth_read m before read ∙ none)
    ∙ ap (λ r. if r then Some codes.SecondRoot else None) (sym read.rooted ∙ rooted)

fault_of_deep : (rooted : Bool) (names : List (List ℕ)) → 256 ≤ length names
    → fault_of_open rooted names ≡ Some codes.TooDeep
fault_of_deep rooted [] deep = absurd (omega arith)
fault_of_deep rooted (name ∷ names) deep = grind (arith, nat_tests)

pub fault_of_inner : (rooted : Bool) (names : List (List ℕ)) → 0 < length names → length names < 256
    → fault_of_open rooted names ≡ None
fault_of_inner rooted [] some within = absurd (omega arith)
fault_of_inner rooted (name ∷ names) some within = grind (arith, nat_tests)

pub too_deep : (m : PyxMachine) (before : List Event) (name : List ℕ) → HasRead m before → 256 ≤ length m.places.items
    → fault_of before (Opens name) ≡ Some codes.TooDeep
too_deep m before name read deep = fault_of_deep (has_root before) (open_names before)
    (omega (arith, depth_read m before read))

pub inner_element : (m : PyxMachine) (before : List Event) (name : List ℕ) → HasRead m before
    → 0 < length m.places.items → length m.places.items < 256 → fault_of before (Opens name) ≡ None
inner_element m before name read some within =
    fault_of_inner (has_root before) (open_names before) (omega (arith, depth_read m before read))
    (omega (arith, depth_read m before read))

-- an element begins
pub read-opens : (m n : PyxMachine) (number : ℕ) (before : List Event) (name : List ℕ) → HasRead m before
    → n.nodes.items ≡ with_element name number (with_text m.text m.nodes.items)
    → n.places.items ≡ m.places.items ++ length (with_text m.text m.nodes.items) ∷ []
    → n.text ≡ [] → n.fresh ≡ true → n.given.keys ≡ [] → n.rooted ≡ true → HasRead n (after number before (Opens name))
read-opens m n number before name read nodes places text fresh given rooted =
    let made = made-settled before in
    let put : with_text m.text m.nodes.items ≡ (made_by (add_text [] before)).nodes = cc in
    record {
      nodes = nodes ∙ ap (with_element name number) put;
      places = places ∙ (cc);
      text = text;
      fresh = fresh;
      given = λ other. ap (list_any (is_at (λ k. slice_cmp nat_cmp other k))) given;
      rooted = rooted;
    }

-- an element begins where none is open and there was no root, or within another that is not too deep
pub may_open : (m : PyxMachine) (before : List Event) (name : List ℕ) → HasRead m before
    → ((length m.places.items ≡ 0) × (m.rooted ≡ false))
    ⊎ ((0 < length m.places.items) × (length m.places.items < 256)) → fault_of before (Opens name) ≡ None
may_open m before name read (inl first) = first_root m before name read first.0 first.1
may_open m before name read (inr inner) = inner_element m before name read inner.0 inner.1

-- a line with a name
pub named : (name : List ℕ) (line : Line) → is_line_name name ≡ true → with_name name line ≡ line
named name line is = ap (λ b. if b then line else Breaks codes.BadLine) is

-- an attribute
fault_of_given : (name : List ℕ) (given : Option (List (List ℕ))) (again : Bool) → is_some given ≡ true
    → ((names : List (List ℕ)) → given ≡ Some names → list_any (bytes_eq name) names ≡ again)
    → fault_of_give name given ≡ (if again then Some codes.AttributeTwice else None)
fault_of_given name None again some same = absurd (cc)
fault_of_given name (Some names) again some same =
    ap (λ b. if b then Some codes.AttributeTwice else None) (same names refl)

nodes_given : (m : PyxMachine) (before : List Event) (names : List (List ℕ)) → HasRead m before
    → given_names before ≡ Some names → m.nodes.items ≡ (made_by before).nodes
nodes_given m before names read is = read.nodes ∙ ap (λ b. (made_by b).nodes) (given-settled before names is).0

pub attribute_fault : (m : PyxMachine) (before : List Event) (name value : List ℕ) (again : Bool) → HasRead m before
    → m.fresh ≡ true → again ≡ has_name name m.given
    → fault_of before (Gives name value) ≡ (if again then Some codes.AttributeTwice else None)
attribute_fault m before name value again read fresh is =
    fault_of_given name (given_names before) again (sym read.fresh ∙ fresh)
    (λ names given. sym (subst (HasGiven m.given) given read.given name) ∙ sym is)

some_given : (given : Option (List (List ℕ))) → is_some given ≡ true → (names : List (List ℕ)) × (given ≡ Some names)
some_given None is = absurd (cc)
some_given (Some names) is = (names, refl)

is_some-more : (name : List ℕ) (given : Option (List (List ℕ))) → is_some (one_more name given) ≡ is_some given
is_some-more name None = refl
is_some-more name (Some names) = refl

-- one more name is put where the element is given it
given-more : (name : List ℕ) (old new : BTreeSet (List ℕ)) (names : Option (List (List ℕ))) → HasGiven old names
    → ((other : List ℕ) → has_name other new ≡ (bytes_eq other name || has_name other old))
    → HasGiven new (one_more name names)
given-more name old new None given more = tt
given-more name old new (Some names) given more = λ other. more other
    ∙ ap (λ rest. bytes_eq other name || rest) (given other)

pub read-gives : (m n : PyxMachine) (number : ℕ) (before : List Event) (attribute : Attribute) → HasRead m before
    → m.fresh ≡ true
    → n.nodes.items ≡ with_attribute attribute m.nodes.items
    → n.places ≡ m.places → n.text ≡ m.text → n.fresh ≡ m.fresh → n.rooted ≡ m.rooted
    → ((other : List ℕ) → has_name other n.given ≡ (bytes_eq other attribute.name || has_name other m.given))
    → HasRead n (after number before (Gives attribute.name attribute.value))
read-gives m n number before attribute read was nodes places text fresh rooted more =
    let given = some_given (given_names before) (sym read.fresh ∙ was) in
    let same = given-settled before given.0 given.1 in
    record {
      nodes = nodes ∙ ap (with_attribute attribute) (nodes_given m before given.0 read given.1);
      places = ap (λ p. p.items) places ∙ read.places ∙ ap (λ b. (made_by b).places) same.0;
      text = text ∙ read.text ∙ same.1;
      fresh = fresh ∙ read.fresh ∙ sym (is_some-more attribute.name (given_names before));
      given = given-more attribute.name m.given n.given (given_names before) read.given more;
      rooted = rooted ∙ read.rooted;
    }

-- a text
outside_read : (m : PyxMachine) (before : List Event) → HasRead m before → length m.places.items ≡ 0
    → is_outside before ≡ true
outside_read m before read none = grind (arith, nat_tests, depth_read m before read)

inside_read : (m : PyxMachine) (before : List Event) → HasRead m before → 0 < length m.places.items
    → is_outside before ≡ false
inside_read m before read some = grind (arith, nat_tests, depth_read m before read)

pub text_outside : (m : PyxMachine) (before : List Event) (text : List ℕ) → HasRead m before
    → length m.places.items ≡ 0 → is_blank text ≡ false → fault_of before (Says text) ≡ Some codes.TextOutside
text_outside m before text read none is = rw (outside_read m before read none, is) refl

pub blank_outside : (m : PyxMachine) (number : ℕ) (before : List Event) (text : List ℕ) → HasRead m before
    → length m.places.items ≡ 0 → is_blank text ≡ true
    → (fault_of before (Says text) ≡ None) × HasRead m (after number before (Says text))
blank_outside m number before text read none is =
    let outside = outside_read m before read none in
    (rw (outside, is) refl, subst (λ b. HasRead m (if b then before else add_text text before)) (sym outside) read)

pub read-says : (m n : PyxMachine) (number : ℕ) (before : List Event) (text : List ℕ) → HasRead m before
    → 0 < length m.places.items
    → n.nodes ≡ m.nodes → n.places ≡ m.places → n.text ≡ m.text ++ text → n.fresh ≡ false → n.rooted ≡ m.rooted
    → (fault_of before (Says text) ≡ None) × HasRead n (after number before (Says text))
read-says m n number before text read some nodes places more fresh rooted =
    let inside = inside_read m before read some in
    let next : HasRead n (add_text text before) = record {
      nodes = ap (λ v. v.items) nodes ∙ read.nodes ∙ ap (λ b. (made_by b).nodes) (sym (settled-add text before));
      places = ap (λ v. v.items) places ∙ read.places ∙ ap (λ b. (made_by b).places) (sym (settled-add text before));
      text = more ∙ ap (λ t. t ++ text) read.text ∙ sym (text_at-add text before);
      fresh = fresh ∙ ap is_some (sym (given-add text before));
      given = subst (HasGiven n.given) (sym (given-add text before)) tt;
      rooted = rooted ∙ read.rooted ∙ sym (has_root-add text before);
    } in
    (rw inside refl, subst (λ b. HasRead n (if b then before else add_text text before)) (sym inside) next)

-- an element ends
fault_of_no_close : (name : List ℕ) (names : List (List ℕ)) → length names ≡ 0
    → fault_of_close name names ≡ Some codes.CloseMismatch
fault_of_no_close name [] none = refl
fault_of_no_close name (innermost ∷ names) none = absurd (omega arith)

pub none_open : (m : PyxMachine) (before : List Event) (name : List ℕ) → HasRead m before → length m.places.items ≡ 0
    → fault_of before (Closes name) ≡ Some codes.CloseMismatch
none_open m before name read none = fault_of_no_close name (open_names before) (depth_read m before read ∙ none)

open_read : (m : PyxMachine) (before : List Event) → HasRead m before
    → AreAt m.nodes.items m.places.items (open_names before)
open_read m before read =
    subst (λ nodes. AreAt nodes m.places.items (open_names before)) (sym read.nodes)
    (subst (λ places. AreAt (made_by (settled before)).nodes places (open_names before)) (sym read.places)
    (settled-open before))

close_at : (nodes : List Node) (places : List ℕ) (names : List (List ℕ)) (name : List ℕ) → AreAt nodes places names
    → 0 < length places → fault_of_close name names
    ≡ (if bytes_eq name (name_at nodes (innermost places)) then None else Some codes.CloseMismatch)
close_at nodes places [] name are some = absurd (omega (arith, ap length are))
close_at nodes places (first ∷ names) name are some =
    ap (λ n. if bytes_eq name n then None else Some codes.CloseMismatch) (sym are.2)

place_inside : (nodes : List Node) (places : List ℕ) (names : List (List ℕ)) → AreAt nodes places names
    → 0 < length places → innermost places < length nodes
place_inside nodes places [] are some = absurd (omega (arith, ap length are))
place_inside nodes places (first ∷ names) are some = are.1

-- the open place is one of a node
pub open_inside : (m : PyxMachine) (before : List Event) → HasRead m before → 0 < length m.places.items
    → innermost m.places.items < length m.nodes.items
open_inside m before read some = place_inside m.nodes.items m.places.items (open_names before)
    (open_read m before read) some

pub close_fault : (m : PyxMachine) (before : List Event) (name : List ℕ) → HasRead m before → 0 < length m.places.items
    → fault_of before (Closes name) ≡ (if bytes_eq name (name_at m.nodes.items (innermost m.places.items)) then None
    else Some codes.CloseMismatch)
close_fault m before name read some = close_at m.nodes.items m.places.items (open_names before) name
    (open_read m before read) some

pub name_read : (nodes : List Node) (place : ℕ) (node : Node) → place < length nodes → node ≡ get_or nodes place node
    → name_at nodes place ≡ node.text
name_read [] place node inside is = absurd (omega arith)
name_read (first ∷ nodes) zero node inside is = ap (λ n. n.text) (sym is)
name_read (first ∷ nodes) (suc place) node inside is = name_read nodes place node (omega arith) is

pub read-closes : (m n : PyxMachine) (number : ℕ) (before : List Event) (name : List ℕ) → HasRead m before
    → n.nodes.items ≡ with_end (innermost m.places.items) (with_text m.text m.nodes.items)
    → n.places.items ≡ outer m.places.items
    → n.text ≡ [] → n.fresh ≡ false → n.rooted ≡ m.rooted → HasRead n (after number before (Closes name))
read-closes m n number before name read nodes places text fresh rooted =
    let made = made-settled before in
    let put : with_text m.text m.nodes.items ≡ (made_by (add_text [] before)).nodes = cc in
    let same : m.places.items ≡ (made_by (add_text [] before)).places = cc in
    record {
      nodes = nodes ∙ ap (λ ns. with_end (innermost m.places.items) ns) put
          ∙ ap (λ ps. with_end (innermost ps) (made_by (add_text [] before)).nodes) same;
      places = places ∙ ap outer same;
      text = text;
      fresh = fresh;
      given = tt;
      rooted = rooted ∙ read.rooted ∙ sym (has_root-add [] before);
    }

-- an end
is_none_open-none : (names : List (List ℕ)) → length names ≡ 0 → is_none_open names ≡ true
is_none_open-none [] none = refl
is_none_open-none (name ∷ names) none = absurd (omega arith)

is_none_open-some : (names : List (List ℕ)) → 0 < length names → is_none_open names ≡ false
is_none_open-some [] some = absurd (omega arith)
is_none_open-some (name ∷ names) some = refl

pub end_open : (m : PyxMachine) (number : ℕ) (before : List Event) → HasRead m before → 0 < length m.places.items
    → ends number before ≡ Err (record { code = codes.Unclosed; line = number })
end_open m number before read some =
    let open_some : 0 < length (open_names before) = omega (arith, depth_read m before read) in
    rw (is_none_open-some (open_names before) open_some) refl

pub end_closed : (m : PyxMachine) (number : ℕ) (before : List Event) (rooted : Bool) → HasRead m before
    → length m.places.items ≡ 0 → m.rooted ≡ rooted
    → ends number before ≡ (if rooted then Ok before else Err (record { code = codes.NoRoot; line = number }))
end_closed m number before rooted read none is =
    rw (is_none_open-none (open_names before) (depth_read m before read ∙ none))
    (ap (λ r. if r then Ok before else Err (record { code = codes.NoRoot; line = number })) (sym read.rooted ∙ is))
