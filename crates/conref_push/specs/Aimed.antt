-- Which documents pushes are aimed at (own): those that the references of pushing elements name, stored or not.
use Rattle.std.specs.Prelude.{ℕ, List, [], Option, Some, None, option_map}
use Rattle.std.specs.List.{filter_map}
use Rattle.std.specs.Option.{option_and_then}
use Rattle.conref_push.specs.Sight.{Sight, seen_at}
use Rattle.dita_doc.specs.Tree.{Content}
use Rattle.dita_doc.specs.declared.plan.Reference.{Reference}
use Rattle.href_text.specs.Joined.{joined}
use Rattle.href_text.specs.Reference.{reference_of}
use Rattle.map_spec.specs.Target.{if_read}
use Rattle.map_spec.specs.Written.{written_in}
use Rattle.map_spec.specs.Places.{Standing, all_standing}
use Rattle.readers.specs.Documents.{Follows}
use Rattle.readers.specs.Told.{document}

-- the document that a value names, seen from a document
abbrev pub doc_named : List ℕ → List ℕ → Option (List ℕ)
doc_named from conref =
    option_and_then (λ (reference : Reference). if_read (joined from reference.file)) (if_read (reference_of conref))

-- the document that a value names, with the parts of the value
abbrev pub push_aim_read : List ℕ → Option (List ℕ) → Option (List ℕ × Reference)
push_aim_read from conref = option_and_then (λ value. option_and_then (λ (reference : Reference).
    option_map (λ name. (name, reference)) (if_read (joined from reference.file))) (if_read (reference_of value)))
    conref

-- the document at which an element is aimed that is seen in a document
abbrev pub doc_aimed : Sight → Option (List ℕ)
doc_aimed sight = option_and_then (doc_named sight.element.doc) sight.conref

abbrev pub push_aim : Standing → Option (List ℕ)
push_aim standing = option_and_then doc_aimed (seen_at standing)

abbrev pub aims_among : List Standing → List (List ℕ)
aims_among standings = filter_map push_aim standings

abbrev pub aims_in : List ℕ → Option Content → List (List ℕ)
aims_in name None = []
aims_in name (Some tree) = aims_among (all_standing (written_in name tree))

-- what follows from a document that was told: the documents at which its pushing elements are aimed
abbrev pub push_targets : Follows
push_targets (document name tree) = aims_in name tree
push_targets _ = []
