-- Elements that are open, the last of them innermost: the text behind them, and how much of the tree is left.
use Rattle.std.proofs.Common.{◌≡◌, ℕ, ◌+◌, ◌*◌, ◌<◌, List, [], ◌∷◌, ◌++◌, sym, ap, ◌∙◌, append_assoc, arith}
use Rattle.std.proofs.lemmas.List.{append-nil}
use Rattle.dita_doc.specs.declared.doc.Attribute.{Attribute}
use Rattle.dita_doc.specs.Bytes.{open_parenthesis, close_parenthesis}
use Rattle.dita_doc.specs.Siblings.{content}
use Rattle.dita_doc.specs.Tree.{Content, End, Element, size_of}
use Rattle.pyx_text.specs.Canonical.{text_of, line_with, attribute_lines}
use Rattle.pyx_text.specs.declared.write.OpenElement.{OpenElement}

-- the line of an element's closing, and the text of what comes after it
abbrev pub text_after : OpenElement → List ℕ
text_after element = line_with close_parenthesis element.node.now.text ++ text_of (content element.rest)

-- the text behind what is left in the innermost of them
abbrev pub text_behind : List OpenElement → List ℕ
text_behind [] = []
text_behind (element ∷ elements) = text_behind elements ++ text_after element

-- two steps for each node that comes after one of them, and one for its closing
abbrev pub steps_behind : List OpenElement → ℕ
steps_behind [] = 0
steps_behind (element ∷ elements) = steps_behind elements + (2 * size_of (content element.rest) + 1)

-- what is left is an element, with what it holds
abbrev pub IsOpening : Content → OpenElement → Content → Type 0
IsOpening left element inside =
    let node = element.node.now in
    left ≡ Element node.text node.attributes node.origin node.line inside (content element.rest)

pub text_behind-push : (elements : List OpenElement) (element : OpenElement)
    → text_behind (elements ++ element ∷ []) ≡ text_after element ++ text_behind elements
text_behind-push [] element = sym (append-nil (text_after element))
text_behind-push (first ∷ elements) element =
    ap (λ text. text ++ text_after first) (text_behind-push elements element)
    ∙ append_assoc (text_after element) (text_behind elements) (text_after first)

pub steps_behind-push : (elements : List OpenElement) (element : OpenElement)
    → steps_behind (elements ++ element ∷ []) ≡ steps_behind elements + (2 * size_of (content element.rest) + 1)
steps_behind-push [] element = omega arith
steps_behind-push (first ∷ elements) element = omega (arith, steps_behind-push elements element)

-- The innermost element is closed, since nothing is left in it.
pub text-closed : (text closed name whole : List ℕ) (left : Content) (was elements : List OpenElement)
    (element : OpenElement)
    → text ++ (text_of left ++ text_behind was) ≡ whole → left ≡ End → was ≡ elements ++ element ∷ []
    → name ≡ element.node.now.text → closed ≡ text ++ line_with close_parenthesis name
    → closed ++ (text_of (content element.rest) ++ text_behind elements) ≡ whole
text-closed text closed name whole left was elements element before none popped named more =
    let closing = line_with close_parenthesis element.node.now.text in
    let rest = text_of (content element.rest) in
    let behind : text_behind was ≡ text_after element ++ text_behind elements =
    ap text_behind popped ∙ text_behind-push elements element in
    ap (λ t. t ++ (rest ++ text_behind elements)) (more ∙ ap (λ n. text ++ line_with close_parenthesis n) named)
    ∙ append_assoc text closing (rest ++ text_behind elements)
    ∙ ap (λ t. text ++ t) (sym (append_assoc closing rest (text_behind elements)) ∙ sym behind)
    ∙ ap (λ c. text ++ (text_of c ++ text_behind was)) (sym none)
    ∙ before

pub steps-closed : (left : Content) (was elements : List OpenElement) (element : OpenElement)
    → was ≡ elements ++ element ∷ []
    → 2 * size_of (content element.rest) + steps_behind elements < 2 * size_of left + steps_behind was
steps-closed left was elements element popped =
    omega (arith, ap steps_behind popped, steps_behind-push elements element)

regrouped : (text line given inside after behind : List ℕ)
    → ((text ++ line) ++ given) ++ (inside ++ (after ++ behind))
    ≡ text ++ ((line ++ (given ++ (inside ++ after))) ++ behind)
regrouped text line given inside after behind = simp append_assoc

-- The first element of what is left is opened.
pub text-opened : (text begun opened name whole : List ℕ) (attributes : List Attribute) (left inside : Content)
    (was elements : List OpenElement) (element : OpenElement)
    → text ++ (text_of left ++ text_behind was) ≡ whole
    → IsOpening left element inside → elements ≡ was ++ element ∷ []
    → name ≡ element.node.now.text → attributes ≡ element.node.now.attributes
    → begun ≡ text ++ line_with open_parenthesis name → opened ≡ begun ++ attribute_lines attributes
    → opened ++ (text_of inside ++ text_behind elements) ≡ whole
text-opened text begun opened name whole attributes left inside was elements element before first pushed named given
    one two =
    let line = line_with open_parenthesis element.node.now.text in
    let lines = attribute_lines element.node.now.attributes in
    let behind : text_behind elements ≡ text_after element ++ text_behind was =
    ap text_behind pushed ∙ text_behind-push was element in
    let so_far : opened ≡ (text ++ line) ++ lines = two
    ∙ ap (λ list. begun ++ attribute_lines list) given
    ∙ ap (λ t. t ++ lines) (one ∙ ap (λ n. text ++ line_with open_parenthesis n) named) in
    ap (λ t. t ++ (text_of inside ++ text_behind elements)) so_far
    ∙ ap (λ t. ((text ++ line) ++ lines) ++ (text_of inside ++ t)) behind
    ∙ regrouped text line lines (text_of inside) (text_after element) (text_behind was)
    ∙ ap (λ c. text ++ (text_of c ++ text_behind was)) (sym first)
    ∙ before

pub steps-opened : (left inside : Content) (was elements : List OpenElement) (element : OpenElement)
    → IsOpening left element inside → elements ≡ was ++ element ∷ []
    → 2 * size_of inside + steps_behind elements < 2 * size_of left + steps_behind was
steps-opened left inside was elements element first pushed =
    omega (arith, ap steps_behind pushed, steps_behind-push was element, ap size_of first)
