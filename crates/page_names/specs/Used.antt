-- The documents that are used, each once, with the kinds of those (own).
use Rattle.std.specs.Prelude.{◌≡◌, ℕ, List, [], ◌∷◌, ◌++◌, Option, Some, None, bytes_eq, if◌then◌else◌}
use Rattle.std.specs.BTreeMap.{is_at}
use Rattle.std.specs.Cmp.Lexicographic.{slice_cmp}
use Rattle.std.specs.List.{list_any}
use Rattle.std.specs.Map.{lookup}
use Rattle.std.specs.Ordering.{nat_cmp}
use Rattle.dita_doc.specs.declared.question.DocKind.{DocKind}
use Rattle.map_spec.specs.Titles.{kind_in}
use Rattle.reader_spec.specs.World.{World}
use Rattle.page_names.specs.declared.documents.Documents.{Documents}

abbrev pub Texts : Type 0
Texts = List (List ℕ)

-- one more, unless it is there
abbrev pub with_name : List (List ℕ) → List ℕ → List (List ℕ)
with_name names name = if list_any (bytes_eq name) names then names else names ++ name ∷ []

abbrev pub with_names : List (List ℕ) → Option (List ℕ) → List (List ℕ)
with_names names None = names
with_names names (Some name) = with_name names name

-- what is known of a name
abbrev pub kind_known : World → List (List ℕ) → List ℕ → Option DocKind
kind_known world names name = if list_any (bytes_eq name) names then Some (kind_in world name) else None

pub record AreUsed (world : World) (names : List (List ℕ)) (documents : Documents) : Type 0 where
  pub are : documents.names ≡ names
  pub kinds : (name : List ℕ)
      → lookup (is_at (slice_cmp nat_cmp name)) documents.kinds.entries ≡ kind_known world names name

pub record IsKindOf (world : World) (names : List (List ℕ)) (name : List ℕ) (kind : DocKind) (documents : Documents)
    : Type 0 where
  pub is : kind ≡ kind_in world name
  pub used : AreUsed world (with_name names name) documents
