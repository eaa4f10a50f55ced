-- What events make: the places are of the elements that are open, and the last node has the attributes given last.
use Rattle.std.proofs.Common.{◌≡◌, ℕ, zero, suc, ◌+◌, ◌-◌, ◌<◌, ◌≤◌, Bool, true, false, List, [], ◌∷◌, ◌++◌, Some, None, length, drop, sym, refl, ap, ◌∙◌, subst, arith}
use Rattle.std.specs.Prelude.{if◌then◌else◌}
use Rattle.std.proofs.lemmas.List.{append-nil, length_push, length-take, length-append}
use Rattle.dita_doc.specs.declared.doc.Node.{Node}
use Rattle.dita_doc.specs.Tree.{chars_node, element_node}
use Rattle.dita_doc.specs.PyxLine.{Line, Opens, Gives, Says, Closes, Passes, Breaks}
use Rattle.dita_doc.specs.PyxEvent.{Event, Open, Give, Text, Close, add_text, open_names, given_names, has_root, after, is_outside}
use Rattle.pyx_text.specs.Machine.{made_by, with_text, changed_at, giving, ending, innermost, outer, text_at, settled}
use Rattle.pyx_text.proofs.Lists.{length-changed, innermost_push, outer_push}

-- the name of the element at a place
abbrev pub name_at : List Node → ℕ → List ℕ
name_at [] place = []
name_at (node ∷ nodes) zero = node.text
name_at (node ∷ nodes) (suc place) = name_at nodes place

name_at-append : (nodes more : List Node) (place : ℕ) → place < length nodes
    → name_at (nodes ++ more) place ≡ name_at nodes place
name_at-append [] more place inside = absurd (omega arith)
name_at-append (node ∷ nodes) more zero inside = refl
name_at-append (node ∷ nodes) more (suc place) inside = name_at-append nodes more place (omega arith)

name_at-push : (nodes : List Node) (node : Node) → name_at (nodes ++ node ∷ []) (length nodes) ≡ node.text
name_at-push [] node = refl
name_at-push (first ∷ nodes) node = name_at-push nodes node

name_at-changed : (nodes : List Node) (at : ℕ) (change : Node → Node)
    → ((node : Node) → (change node).text ≡ node.text) → (place : ℕ)
    → name_at (changed_at at change nodes) place ≡ name_at nodes place
name_at-changed [] at change keeps place = refl
name_at-changed (node ∷ nodes) zero change keeps zero = keeps node
name_at-changed (node ∷ nodes) zero change keeps (suc place) = refl
name_at-changed (node ∷ nodes) (suc at) change keeps zero = refl
name_at-changed (node ∷ nodes) (suc at) change keeps (suc place) = name_at-changed nodes at change keeps place

-- elements of these names, the innermost first, stand at these places, the innermost last
abbrev pub AreAt : List Node → List ℕ → List (List ℕ) → Type 0
AreAt nodes places [] = places ≡ []
AreAt nodes places (name ∷ names) = (0 < length places) × (innermost places < length nodes)
    × (name_at nodes (innermost places) ≡ name) × AreAt nodes (outer places) names

AreAt-append : (nodes more : List Node) (names : List (List ℕ)) (places : List ℕ) → AreAt nodes places names
    → AreAt (nodes ++ more) places names
AreAt-append nodes more [] places are = are
AreAt-append nodes more (name ∷ names) places are = (
  are.0,
  omega (arith, length-append nodes more, are.1),
  name_at-append nodes more (innermost places) are.1
      ∙ are.2,
  AreAt-append nodes more names (outer places) are.3,
)

AreAt-changed : (nodes : List Node) (at : ℕ) (change : Node → Node) → ((node : Node) → (change node).text ≡ node.text)
    → (names : List (List ℕ)) (places : List ℕ) → AreAt nodes places names
    → AreAt (changed_at at change nodes) places names
AreAt-changed nodes at change keeps [] places are = are
AreAt-changed nodes at change keeps (name ∷ names) places are = (
  are.0,
  omega (arith, length-changed nodes at change, are.1),
  name_at-changed nodes at change keeps (innermost places)
      ∙ are.2,
  AreAt-changed nodes at change keeps names (outer places) are.3,
)

AreAt-push : (nodes : List Node) (node : Node) (names : List (List ℕ)) (places : List ℕ) → AreAt nodes places names
    → AreAt (nodes ++ node ∷ []) (places ++ length nodes ∷ []) (node.text ∷ names)
AreAt-push nodes node names places are =
    let inner = innermost_push places (length nodes) in
    let below : innermost (places ++ length nodes ∷ []) < length (nodes ++ node ∷ []) =
    omega (arith, inner, length_push nodes node) in
    let name : name_at (nodes ++ node ∷ []) (innermost (places ++ length nodes ∷ [])) ≡ node.text =
    ap (λ place. name_at (nodes ++ node ∷ []) place) inner ∙ name_at-push nodes node in
    let rest : AreAt (nodes ++ node ∷ []) (outer (places ++ length nodes ∷ [])) names =
    subst (λ ps. AreAt (nodes ++ node ∷ []) ps names) (sym (outer_push places (length nodes)))
    (AreAt-append nodes (node ∷ []) names places are) in
    (omega (arith, length_push places (length nodes)), below, name, rest)

AreAt-text : (text : List ℕ) (nodes : List Node) (names : List (List ℕ)) (places : List ℕ) → AreAt nodes places names
    → AreAt (with_text text nodes) places names
AreAt-text [] nodes names places are = are
AreAt-text (b ∷ text) nodes names places are = AreAt-append nodes _ names places are

AreAt-close : (nodes : List Node) (names : List (List ℕ)) (places : List ℕ) → AreAt nodes places names
    → AreAt nodes (outer places) (drop 1 names)
AreAt-close nodes [] places are = ap outer are
AreAt-close nodes (name ∷ names) places are = are.3

-- the open elements stand at the open places
pub made-open : (before : List Event) → AreAt (made_by before).nodes (made_by before).places (open_names before)
made-open [] = refl
made-open (Open name line ∷ before) = AreAt-push (made_by before).nodes _ (open_names before) (made_by before).places
    (made-open before)
made-open (Give name value ∷ before) = AreAt-changed (made_by before).nodes _ _ (λ node. refl) (open_names before)
    (made_by before).places (made-open before)
made-open (Text text ∷ before) = AreAt-text text (made_by before).nodes (open_names before) (made_by before).places
    (made-open before)
made-open (Close name ∷ before) =
    let made = made_by before in
    AreAt-changed made.nodes _ _ (λ node. refl) (drop 1 (open_names before)) (outer made.places)
    (AreAt-close made.nodes (open_names before) made.places (made-open before))

AreAt-length : (nodes : List Node) (names : List (List ℕ)) (places : List ℕ) → AreAt nodes places names
    → length names ≡ length places
AreAt-length nodes [] places are = sym (ap length are)
AreAt-length nodes (name ∷ names) places are =
    omega (arith, are.0, AreAt-length nodes names (outer places) are.3, length-take (length places - 1) places)

open_names-settled : (before : List Event) → open_names (settled before) ≡ open_names before
open_names-settled [] = refl
open_names-settled (Open name line ∷ before) = refl
open_names-settled (Give name value ∷ before) = refl
open_names-settled (Text text ∷ before) = refl
open_names-settled (Close name ∷ before) = refl

pub settled-open : (before : List Event) → AreAt (made_by (settled before)).nodes (made_by (settled before)).places
    (open_names before)
settled-open before =
    let made = made_by (settled before) in
    subst (λ names. AreAt made.nodes made.places names) (open_names-settled before) (made-open (settled before))

pub settled-depth : (before : List Event) → length (open_names before) ≡ length (made_by (settled before)).places
settled-depth before = AreAt-length _ (open_names before) _ (settled-open before)

-- where an attribute may come, no text is at hand
pub given-settled : (before : List Event) (names : List (List ℕ)) → given_names before ≡ Some names
    → (settled before ≡ before) × (text_at before ≡ [])
given-settled [] names is = absurd (cc)
given-settled (Open name line ∷ before) names is = (refl, refl)
given-settled (Give name value ∷ before) names is = (refl, refl)
given-settled (Text text ∷ before) names is = absurd (cc)
given-settled (Close name ∷ before) names is = absurd (cc)

-- where an element begins or ends, the text at hand is put
pub made-settled : (before : List Event) → made_by (add_text [] before)
    ≡ record {
      nodes = with_text (text_at before) (made_by (settled before)).nodes;
      places =
          (made_by (settled before)).places;
    }
made-settled [] = refl
made-settled (Open name line ∷ before) = refl
made-settled (Give name value ∷ before) = refl
made-settled (Text text ∷ before) = ap (λ t. made_by (Text t ∷ before)) (append-nil text)
made-settled (Close name ∷ before) = refl

-- a text is put behind the text at hand
pub text_at-add : (text : List ℕ) (before : List Event) → text_at (add_text text before) ≡ text_at before ++ text
text_at-add text [] = refl
text_at-add text (Open name line ∷ before) = refl
text_at-add text (Give name value ∷ before) = refl
text_at-add text (Text first ∷ before) = refl
text_at-add text (Close name ∷ before) = refl

pub settled-add : (text : List ℕ) (before : List Event) → settled (add_text text before) ≡ settled before
settled-add text [] = refl
settled-add text (Open name line ∷ before) = refl
settled-add text (Give name value ∷ before) = refl
settled-add text (Text first ∷ before) = refl
settled-add text (Close name ∷ before) = refl

pub given-add : (text : List ℕ) (before : List Event) → given_names (add_text text before) ≡ None
given-add text [] = refl
given-add text (Open name line ∷ before) = refl
given-add text (Give name value ∷ before) = refl
given-add text (Text first ∷ before) = refl
given-add text (Close name ∷ before) = refl

pub has_root-add : (text : List ℕ) (before : List Event) → has_root (add_text text before) ≡ has_root before
has_root-add text [] = refl
has_root-add text (Open name line ∷ before) = refl
has_root-add text (Give name value ∷ before) = refl
has_root-add text (Text first ∷ before) = refl
has_root-add text (Close name ∷ before) = refl

-- a line makes two nodes at most
pub length-text : (text : List ℕ) (nodes : List Node) → length (with_text text nodes) ≤ length nodes + 1
length-text [] nodes = omega arith
length-text (b ∷ text) nodes = omega (arith, length_push nodes (chars_node (b ∷ text) 0 0 (length nodes + 1)))

pub text-length : (text : List ℕ) (nodes : List Node) → length nodes ≤ length (with_text text nodes)
text-length [] nodes = omega arith
text-length (b ∷ text) nodes = omega (arith, length_push nodes (chars_node (b ∷ text) 0 0 (length nodes + 1)))

length-settled : (before : List Event) → length (made_by (add_text [] before)).nodes ≤ length
    (made_by (settled before)).nodes + 1
length-settled before = rw made-settled (length-text (text_at before) (made_by (settled before)).nodes)

length-given : (before : List Event) → length (made_by before).nodes ≤ length (made_by (settled before)).nodes + 1
length-given [] = omega arith
length-given (Open name line ∷ before) = omega arith
length-given (Give name value ∷ before) = omega arith
length-given (Text text ∷ before) = length-text text (made_by before).nodes
length-given (Close name ∷ before) = omega arith

said_more : (outside : Bool) (text : List ℕ) (before : List Event)
    → length (made_by (settled (if outside then before else add_text text before))).nodes ≤ length
    (made_by (settled before)).nodes + 2
said_more true text before = omega arith
said_more false text before = rw settled-add (omega arith)

pub made-more : (number : ℕ) (before : List Event) (line : Line)
    → length (made_by (settled (after number before line))).nodes ≤ length (made_by (settled before)).nodes + 2
made-more number before (Opens name) = omega
    (arith, length-settled before, length_push (made_by (add_text [] before)).nodes (element_node name [] 0 number 0))
made-more number before (Gives name value) =
    omega (
      arith,
      length-given before,
      length-changed (made_by before).nodes (length (made_by before).nodes - 1)
          (giving (record { name = name; value = value })),
    )
made-more number before (Says text) = said_more (is_outside before) text before
made-more number before (Closes name) =
    omega (
      arith,
      length-settled before,
      length-changed (made_by (add_text [] before)).nodes
          (innermost (made_by (add_text [] before)).places) (ending (length (made_by (add_text [] before)).nodes)),
    )
made-more number before Passes = omega arith
made-more number before (Breaks code) = omega arith
