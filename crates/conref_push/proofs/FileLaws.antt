-- The document that a value names is one that its element gives.
use Rattle.std.specs.Prelude.{◌≡◌, ℕ, false, List, Some, Result, Ok, Err}
use Rattle.std.specs.Option.{option_and_then}
use Rattle.std.proofs.Common.{refl, sym, ap, ◌∙◌}
use Rattle.dita_doc.specs.declared.plan.Reference.{Reference}
use Rattle.href_text.specs.Joined.{joined}
use Rattle.href_text.specs.Reference.{is_external, reference_of}
use Rattle.href_text.specs.declared.fault.RefFault.{RefFault}
use Rattle.map_spec.specs.Target.{if_read}
use Rattle.readers.specs.Named.{name_joined}
use Rattle.readers.proofs.FileLaws.{file_read, not_external}
use Rattle.conref_push.specs.Aimed.{doc_named}

named_by : (doc value : List ℕ) (read : Result Reference RefFault) (name : List ℕ)
    → reference_of value ≡ read
    → option_and_then (λ (reference : Reference). if_read (joined doc reference.file)) (if_read read) ≡ Some name
    → name_joined doc value ≡ Some name
named_by doc value (Ok reference) name read is =
    let no : is_external value ≡ false = not_external (is_external value) _ reference read in
    rw no (ap (λ file. if_read (joined doc file)) (sym (file_read value reference read)) ∙ is)
named_by doc value (Err fault) name read is = cc

pub named_joined : (doc value name : List ℕ) → doc_named doc value ≡ Some name → name_joined doc value ≡ Some name
named_joined doc value name is = named_by doc value (reference_of value) name refl is
