-- The document that a content reference names is one that its element names by content references.
use Rattle.std.specs.Prelude.{◌≡◌, ℕ, false, List, [], ◌∷◌, Option, Some, IsTrue, Result, Ok, Err, bytes_eq, codes}
use Rattle.std.specs.Option.{option_and_then, option_to_list}
use Rattle.std.proofs.Common.{refl, sym, ap, ◌∙◌, subst}
use Rattle.std.proofs.lemmas.Bool.{or_right}
use Rattle.dita_doc.specs.declared.plan.Reference.{Reference}
use Rattle.href_text.specs.Joined.{joined}
use Rattle.href_text.specs.Reference.{is_external, reference_of}
use Rattle.href_text.specs.declared.fault.RefFault.{RefFault}
use Rattle.map_spec.specs.Elements.{attribute}
use Rattle.map_spec.specs.Target.{if_read}
use Rattle.map_spec.specs.Written.{Element}
use Rattle.readers.specs.Founded.{AreAmong, is_among}
use Rattle.readers.specs.Named.{name_joined, reused_by}
use Rattle.readers.proofs.FileLaws.{file_read, not_external}
use Rattle.conref_targets.specs.Asking.{names_of_value}

named_by : (doc value : List ℕ) (read : Result Reference RefFault) (reference : Reference) (name : List ℕ)
    → reference_of value ≡ read → if_read read ≡ Some reference → if_read (joined doc reference.file) ≡ Some name
    → name_joined doc value ≡ Some name
named_by doc value (Ok own) reference name read same is =
    let own_is : own ≡ reference = cc in
    let no : is_external value ≡ false = not_external (is_external value) _ own read in
    rw no (ap (λ file. if_read (joined doc file)) (sym (file_read value own read) ∙ ap (λ (r : Reference). r.file) own_is) ∙ is)
named_by doc value (Err fault) reference name read same is = cc

-- a reference that is read, of which the file is joined to a document's name
pub value_names : (doc value : List ℕ) (reference : Reference) (name : List ℕ)
    → if_read (reference_of value) ≡ Some reference → if_read (joined doc reference.file) ≡ Some name
    → name_joined doc value ≡ Some name
value_names doc value reference name read is =
    named_by doc value (reference_of value) reference name refl read is

-- what a conref names, the content references of its element name
pub conref_among : (element : Element) (doc : List ℕ) (conref : Option (List ℕ)) → element.doc ≡ doc
    → conref ≡ attribute (codes "conref") element → AreAmong (names_of_value doc conref) (reused_by element)
conref_among element doc conref home is = record {
  each = λ m among. subst (λ (value : Option (List ℕ)). IsTrue (is_among (names_of_value element.doc value) m)) is
      (subst (λ (d : List ℕ). IsTrue (is_among (names_of_value d conref) m)) (sym home) among);
}

-- a document that a value names is among those that it names
pub value_among : (doc value : List ℕ) (reference : Reference) (name : List ℕ) (conref : Option (List ℕ))
    (page : List ℕ) → conref ≡ Some value → if_read (reference_of value) ≡ Some reference
    → if_read (joined doc reference.file) ≡ Some name → AreAmong (name ∷ []) (page ∷ names_of_value doc conref)
value_among doc value reference name conref page is read joined_is =
    let named : option_and_then (name_joined doc) conref ≡ Some name =
    ap (option_and_then (name_joined doc)) is ∙ value_names doc value reference name read joined_is in
    record {
      each = λ m here. or_right (bytes_eq page m) _
          (subst (λ (found : Option (List ℕ)). IsTrue (is_among (option_to_list found) m)) (sym named) here);
    }
