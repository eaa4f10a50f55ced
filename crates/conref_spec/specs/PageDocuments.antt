-- The documents of a page (DITA 1.3, "The @conref attribute", "The @conkeyref attribute", "The @conaction attribute"): its
-- own; with a document those that the content references in it name, by themselves or by keys, and those from which pushes
-- into it come. Each is reached from the page's own step by step, and no other is one of them.
use Rattle.std.specs.Prelude.{◌≡◌, ℕ, List, Option, Some, Contains, map, option_map, codes, if◌then◌else◌}
use Rattle.std.specs.Option.{option_and_then}
use Rattle.dita_doc.specs.declared.content.Push.{Push}
use Rattle.dita_doc.specs.declared.content.PushList.{PushList}
use Rattle.dita_doc.specs.declared.plan.Reference.{Reference}
use Rattle.href_text.specs.Joined.{joined}
use Rattle.href_text.specs.Reference.{reference_of}
use Rattle.map_spec.specs.Elements.{attribute}
use Rattle.map_spec.specs.Keys.{key_of}
use Rattle.map_spec.specs.Pages.{local_name}
use Rattle.map_spec.specs.Target.{if_read, is_same_topic}
use Rattle.map_spec.specs.Written.{Element, Whole, Written, elements_below}
use Rattle.conref_spec.specs.Content.{ResolveInput}

-- an element stands in a document with the pushes into it, wherever it was written
pub record StandsIn (setting : ResolveInput) (doc : List ℕ) (element : Element) : Type 0 where
  pub nodes : Written
  pub pushed : setting.pushed doc ≡ Some nodes
  pub among : Contains (map (λ (whole : Whole). whole.0) (elements_below nodes)) element

-- the document that a reference of an element names; `#./element` means the page's own
abbrev pub document_by : ResolveInput → Element → Reference → Option (List ℕ)
document_by setting element reference =
    if is_same_topic reference then Some setting.page else if_read (joined element.doc reference.file)

-- what the value of its `conref` names
abbrev pub document_of_conref : ResolveInput → Element → Option (List ℕ)
document_of_conref setting element = option_and_then (document_by setting element)
    (option_and_then (λ conref. if_read (reference_of conref)) (attribute (codes "conref") element))

-- the key that its `conkeyref` names
abbrev pub key_in : Element → Option (List ℕ)
key_in element = option_map key_of (attribute (codes "conkeyref") element)

-- the document to which that key leads
abbrev pub document_of_key : ResolveInput → Element → Option (List ℕ)
document_of_key setting element = option_and_then (λ key. local_name (setting.key key).target) (key_in element)

-- a document of the page of this setting, where `pushes` are those into each document
pub data IsPageDocument (setting : ResolveInput) (pushes : List ℕ → PushList) : List ℕ → Type 0 where
  own : IsPageDocument setting pushes setting.page
  by_conref : {doc name : List ℕ} {element : Element} → IsPageDocument setting pushes doc → StandsIn setting doc element
      → document_of_conref setting element ≡ Some name → IsPageDocument setting pushes name
  by_key : {doc name : List ℕ} {element : Element} → IsPageDocument setting pushes doc → StandsIn setting doc element
      → document_of_key setting element ≡ Some name → IsPageDocument setting pushes name
  pushing : {doc : List ℕ} {push : Push} → IsPageDocument setting pushes doc → Contains (pushes doc).pushes push
      → IsPageDocument setting pushes push.from

-- a key that an element of one of these documents names
pub record IsPageKey (setting : ResolveInput) (pushes : List ℕ → PushList) (key : List ℕ) : Type 0 where
  pub doc : List ℕ
  pub element : Element
  pub document : IsPageDocument setting pushes doc
  pub stands : StandsIn setting doc element
  pub named : key_in element ≡ Some key
