-- What an element that was told names may be asked about, then and later.
use Rattle.std.specs.Prelude.{◌≡◌, ◌||◌, ℕ, Bool, true, false, List, [], Option, Some, None, Result, Ok, Err, IsTrue, codes, bytes_eq, option_map, unwrap_or, if◌then◌else◌}
use Rattle.std.specs.Option.{option_and_then, option_to_list}
use Rattle.std.proofs.Common.{refl, sym, ap, subst, ◌∙◌}
use Rattle.dita_doc.specs.declared.plan.Reference.{Reference}
use Rattle.dita_doc.specs.declared.plan.Target.{Target}
use Rattle.dita_doc.specs.declared.plan.Target.TheVariants as targets
use Rattle.href_text.specs.Joined.{joined}
use Rattle.href_text.specs.Reference.{is_external, reference_of}
use Rattle.href_text.specs.declared.fault.RefFault.{RefFault}
use Rattle.map_spec.specs.Elements.{attribute}
use Rattle.map_spec.specs.Target.{Document, Elsewhere, default_scope, file_of, if_read, is_far, local_topic, named_if_read, named_of, target_by}
use Rattle.map_spec.specs.Written.{Element, Whole}
use Rattle.readers.specs.Founded.{Grows, is_allowed, is_among}
use Rattle.readers.specs.Named.{name_joined, names_of_element}
use Rattle.readers.specs.Told.{Told}
use Rattle.readers.proofs.DocumentLaws.{may_ask_before}
use Rattle.readers.proofs.FileLaws.{file_read}
use Rattle.readers.proofs.FoundedLaws.{among_first}
use Rattle.readers.proofs.GivenLaws.{first_among}
use Rattle.readers.proofs.GrowthLaws.{allowed_before}
use Rattle.plan_nodes.specs.Given.{AreTold, IsTold}

-- What was told before was told

pub element_told_later : (old new : List Told) (element : Element) → Grows old new → IsTold old element
    → IsTold new element
element_told_later old new element grows told = record {
  allowed = λ roots m among. allowed_before roots old new m grows (told.allowed roots m among);
  may = λ rule gives roots follows m among.
      may_ask_before rule roots old new m grows (told.may rule gives roots follows m among);
}

pub told_later : (old new : List Told) (homes : List (Option Whole)) → Grows old new → AreTold old homes
    → AreTold new homes
told_later old new homes grows told =
    record { each = λ at whole is. element_told_later old new whole.0 grows (told.each at whole is) }

-- The document that an href names

pub name_by : (far external empty : Bool) (read : Option (List ℕ)) (name : List ℕ)
    → (if far || external then Elsewhere else named_if_read (if empty then None else read)) ≡ Document name
    → (if external then None else read) ≡ Some name
name_by true external empty read name is = cc
name_by false true empty read name is = cc
name_by false false true read name is = cc
name_by false false false None name is = cc
name_by false false false (Some other) name is = let same : other ≡ name = cc in ap (λ n. Some n) same

module _ (element : Element) (href name : List ℕ) (is : attribute (codes "href") element ≡ Some href) where
  pub joined_given : name_joined element.doc href ≡ Some name → IsTrue (is_among (names_of_element element) name)
  joined_given read =
      let found : option_and_then (name_joined element.doc) (attribute (codes "href") element) ≡ Some name =
      ap (option_and_then (name_joined element.doc)) is ∙ read in
      first_among (codes "href") element.doc element.attributes name refl
      (subst (λ (f : Option (List ℕ)). IsTrue (is_among (option_to_list f) name)) (sym found) (among_first name []))

  pub gives_name : named_of element href ≡ Document name → IsTrue (is_among (names_of_element element) name)
  gives_name named = joined_given
      (name_by (is_far (unwrap_or (attribute (codes "scope") element) default_scope)) (is_external href) _ _ name named)

pub may_name : (told : List Told) (element : Element) (href name : List ℕ) → IsTold told element
    → attribute (codes "href") element ≡ Some href → named_of element href ≡ Document name → (roots : List (List ℕ))
    → IsTrue (is_allowed roots told name)
may_name told element href name was is named roots = was.allowed roots name (gives_name element href name is named)

-- The document of a target

topic_joined : (doc name : List ℕ) (reference : Reference) (read : Option (List ℕ)) (own : Reference)
    → option_map (λ n. targets.Local n own) read ≡ Some (targets.Local name reference) → read ≡ Some name
topic_joined doc name reference None own is = cc
topic_joined doc name reference (Some other) own is = let same : other ≡ name = cc in ap (λ n. Some n) same

topic_read : (doc value name : List ℕ) (reference : Reference) (read : Result Reference RefFault)
    → ((own : Reference) → read ≡ Ok own → own.file ≡ file_of value)
    → local_topic doc (if_read read) ≡ Some (targets.Local name reference)
    → if_read (joined doc (file_of value)) ≡ Some name
topic_read doc value name reference (Err fault) file is = cc
topic_read doc value name reference (Ok own) file is =
    ap (λ f. if_read (joined doc f)) (sym (file own refl))
    ∙ topic_joined doc name reference (if_read (joined doc own.file)) own is

no_file : (file : Option (List ℕ)) (rest name : List ℕ) (reference : Reference)
    → option_map (λ n. targets.File n rest) file ≡ Some (targets.Local name reference) → ⊥
no_file None rest name reference is = cc
no_file (Some other) rest name reference is = cc

target_read : (far external dita : Bool) (value name : List ℕ) (reference : Reference) (topic file : Option Target)
    (read : Option (List ℕ)) → (topic ≡ Some (targets.Local name reference) → read ≡ Some name)
    → (file ≡ Some (targets.Local name reference) → ⊥)
    → (if far || external then Some (targets.Other value) else if dita then topic else file)
    ≡ Some (targets.Local name reference) → (if external then None else read) ≡ Some name
target_read true external dita value name reference topic file read by_topic by_file is = cc
target_read false true dita value name reference topic file read by_topic by_file is = cc
target_read false false true value name reference topic file read by_topic by_file is = by_topic is
target_read false false false value name reference topic file read by_topic by_file is = absurd (by_file is)

pub may_target : (told : List Told) (element : Element) (href format scope name : List ℕ) (reference : Reference)
    → IsTold told element → attribute (codes "href") element ≡ Some href
    → target_by href format scope element.doc ≡ Some (targets.Local name reference) → (roots : List (List ℕ))
    → IsTrue (is_allowed roots told name)
may_target told element href format scope name reference was is target roots =
    was.allowed roots name (joined_given element href name is
    (target_read (is_far scope) (is_external href) (bytes_eq format (codes "dita")) href name reference _ _
    (if_read (joined element.doc (file_of href)))
    (topic_read element.doc href name reference (reference_of href) (file_read href))
    (λ file. no_file _ _ name reference file) target))
