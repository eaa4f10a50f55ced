-- The text of an element's linktext does not depend on the documents in which its content was written.
use Rattle.std.specs.Prelude.{◌≡◌, ◌+◌, ℕ, List, [], Option, Some, None, Result, Ok, Err, IfOk, codes, option_map, unwrap_or}
use Rattle.std.specs.Option.{option_map_or}
use Rattle.std.proofs.Common.{refl, sym, ap, ◌∙◌}
use Rattle.dita_doc.specs.Tree as tree
use Rattle.dita_doc.specs.Tree.{Content, size_of}
use Rattle.dita_doc.specs.declared.content.Resolved.{Resolved}
use Rattle.dita_doc.specs.declared.plan.Target.{Target}
use Rattle.dita_doc.specs.declared.plan.Target.TheVariants as targets
use Rattle.dita_doc.specs.declared.stop.NoMemory.{NoMemory}
use Rattle.doc_elements.specs.Walk as walk
use Rattle.doc_elements.proofs.BareLaws.{bare, child_same, text_held}
use Rattle.map_spec.specs.Elements.{first_child, plain_text}
use Rattle.map_spec.specs.Written.{Element, Whole, Chars, Node, written_in}
use Rattle.html_spec.specs.Anchors.{Here, link_label, text_of_target}
use Rattle.xref_links.specs.Adding.{element_of}
use Rattle.xref_links.specs.Body.{written_at}
use Rattle.xref_links.specs.declared.page.PageRead.{PageRead}
use Rattle.xref_links.specs.declared.page.PlacedElement.{PlacedElement}

bare_there : (body : Resolved) (place : ℕ) (name : List ℕ) (c : Content)
    → bare (written_in name c) ≡ bare (written_at body place c)
bare_there body place name tree.End = refl
bare_there body place name (tree.Chars text origin line rest) = ap (Chars text []) (bare_there body (place + 1) name rest)
bare_there body place name (tree.Element own attributes origin line inside rest) =
    let element : Element = record { name = own; attributes = attributes; doc = []; line = line; href_doc = [] } in
    ap (λ held. Node element held (bare (written_in name rest))) (bare_there body (place + 1) name inside)
    ∙ ap (Node element (bare (written_at body (place + 1) inside)))
    (bare_there body (place + 1 + size_of inside) name rest)

text_or : (whole : Option Whole) (other : List ℕ)
    → unwrap_or (option_map text_held whole) other ≡ option_map_or text_held whole other
text_or None other = refl
text_or (Some whole) other = refl

-- the text of a link by the first child that was found
pub label_found : (body : Resolved) (place : ℕ) (name : List ℕ) (c : Content) (whole : Option Whole)
    (other : List ℕ) → whole ≡ first_child (codes "topic/linktext") (written_in name c)
    → option_map_or (λ (text : Whole). plain_text text.1) whole other ≡ link_label (written_at body place c) other
label_found body place name c whole other is =
    ap (λ w. option_map_or text_held w other) is
    ∙ sym (text_or (first_child (codes "topic/linktext") (written_in name c)) other)
    ∙ ap (λ text. unwrap_or text other) (child_same (codes "topic/linktext") (written_in name c) (written_at body place c)
    (bare_there body place name c))
    ∙ text_or (first_child (codes "topic/linktext") (written_at body place c)) other

-- the text for a target does not depend on them either
pub text_there : (here : Here) (page : PageRead) (standing : PlacedElement) (target : Target)
    → text_of_target here (walk.element_of [] standing.node.now) target
    ≡ text_of_target here (element_of page standing) target
text_there here page standing targets.Nothing = refl
text_there here page standing (targets.Local name reference) = refl
text_there here page standing (targets.File name rest) = refl
text_there here page standing (targets.Other value) = refl

pub text_as : {T : Type 0} (result : Result T NoMemory) (one other : T) → one ≡ other
    → IfOk result (λ text. text ≡ one) → IfOk result (λ text. text ≡ other)
text_as (Ok text) one other same is = is ∙ same
text_as (Err error) one other same is = tt
