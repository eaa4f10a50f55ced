-- What a file's reference names, as `map_spec` has it; and what a value keeps behind the name of its file.
use Rattle.std.specs.Prelude.{◌≡◌, ℕ, List, [], ◌∷◌, Option, Some, None, Result}
use Rattle.std.specs.Borrow.{Bor}
use Rattle.dita_doc.specs.Bytes.{number_sign}
use Rattle.dita_doc.specs.Gives.{Gives}
use Rattle.dita_doc.specs.declared.stop.Stop.{Stop}
use Rattle.href_text.specs.declared.fault.RefFault.{RefFault}
use Rattle.map_spec.specs.Target as target_spec
use Rattle.targets.specs.declared.named.Named.{Named}
use Rattle.targets.specs.declared.named.Named.TheVariants as names

abbrev pub named_shown : Named → target_spec.Named
named_shown (names.Document name) = target_spec.Document name
named_shown names.Elsewhere = target_spec.Elsewhere
named_shown names.Unreadable = target_spec.Unreadable

-- the part behind a `#`, with it
abbrev pub rest_with : Option (Bor (List ℕ)) → List ℕ
rest_with None = []
rest_with (Some behind) = number_sign ∷ behind.now

-- what was tried to be read, if it was read
abbrev pub IsIfRead : {X : Type 0} → Option X → Result X (Stop RefFault) → Type 0
IsIfRead {X = X} value tried = (defined : Result X RefFault) → Gives tried defined → value ≡ target_spec.if_read defined
