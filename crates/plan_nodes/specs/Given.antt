-- The elements of nodes stand in documents that were told (own): so what they name may be asked about, and by each rule
-- that follows their kind also asked for.
use Rattle.std.specs.Prelude.{◌≡◌, ℕ, List, Option, Some, IsTrue, slice_get}
use Rattle.std.specs.List.{flat_map}
use Rattle.dita_doc.specs.Tree.{Content}
use Rattle.map_spec.specs.Written.{Element, Whole, elements_below, written_in}
use Rattle.readers.specs.Documents.{Follows, may_ask}
use Rattle.readers.specs.Founded.{is_allowed, is_among}
use Rattle.readers.specs.Named.{names_of_element}
use Rattle.readers.specs.Told.{Told, document}

-- by the rule, all documents follow from a document that these give of its elements
pub record FollowsElements (rule : Follows) (gives : Element → List (List ℕ)) : Type 0 where
  pub each : (name : List ℕ) (tree : Content) (m : List ℕ)
      → IsTrue (is_among (flat_map (λ (whole : Whole). gives whole.0) (elements_below (written_in name tree))) m)
      → IsTrue (is_among (rule (document name (Some tree))) m)

-- an element of a document that was told
pub record IsTold (told : List Told) (element : Element) : Type 0 where
  pub allowed : (roots : List (List ℕ)) (m : List ℕ) → IsTrue (is_among (names_of_element element) m)
      → IsTrue (is_allowed roots told m)
  pub may : (rule : Follows) (gives : Element → List (List ℕ)) (roots : List (List ℕ)) → FollowsElements rule gives
      → (m : List ℕ) → IsTrue (is_among (gives element) m) → IsTrue (may_ask rule roots told m)

pub record AreTold (told : List Told) (homes : List (Option Whole)) : Type 0 where
  pub each : (at : ℕ) (whole : Whole) → slice_get homes at ≡ Some (Some whole) → IsTold told whole.0
