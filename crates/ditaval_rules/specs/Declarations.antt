-- The elements of a document that have the attribute `domains`, in order, with the names that they declare (own).
use Rattle.std.specs.Prelude.{◌≡◌, ◌+◌, ◌<◌, ◌≤◌, ◌&&◌, ℕ, Bool, true, false, List, [], ◌∷◌, ◌++◌, length, nat_le, nat_lt, option_map, codes, slice_index_or, if◌then◌else◌}
use Rattle.std.specs.Option.{option_to_list}
use Rattle.dita_doc.specs.ClassValue.{value_of}
use Rattle.dita_doc.specs.declared.doc.Attribute.{Attribute}
use Rattle.dita_doc.specs.declared.doc.Node.{Node}
use Rattle.dita_doc.specs.Tree.{Content, End, Chars, Element, size_of}
use Rattle.ditaval_rules.specs.Domains.{names_declared}
use Rattle.ditaval_rules.specs.declared.declarations.DeclaredEntry.{DeclaredEntry}

-- an element that has the attribute: its place, the place just past its subtree, and the names that it declares
pub record Declaring : Type 0 where
  pub place : ℕ
  pub end : ℕ
  pub names : List (List ℕ)

abbrev pub declaring_at : ℕ → ℕ → List ℕ → Declaring
declaring_at place end value = record { place = place; end = end; names = names_declared value }

abbrev pub declaring_by : ℕ → ℕ → List Attribute → List Declaring
declaring_by place end attributes =
    option_to_list (option_map (declaring_at place end) (value_of (codes "domains") attributes))

-- those of a content, whose first node stands at this place
abbrev pub declaring_from : ℕ → Content → List Declaring
declaring_from place End = []
declaring_from place (Chars text origin line rest) = declaring_from (place + 1) rest
declaring_from place (Element name attributes origin line inside rest) =
    declaring_by place (place + 1 + size_of inside) attributes
    ++ (declaring_from (place + 1) inside ++ declaring_from (place + 1 + size_of inside) rest)

-- these are all those of a tree
abbrev pub AreDeclarations : Content → List Declaring → Type 0
AreDeclarations tree declaring = declaring ≡ declaring_from 0 tree

-- those among the nodes from a place on
abbrev pub declaring_among : ℕ → List Node → List Declaring
declaring_among place [] = []
declaring_among place (node ∷ nodes) =
    declaring_by place node.end node.attributes ++ declaring_among (place + 1) nodes

-- How they are kept: each with how many stand up to the nearest one around it

abbrev pub declaring_of : DeclaredEntry → Declaring
declaring_of entry = record { place = entry.place; end = entry.end; names = entry.names }

abbrev pub place_at : List DeclaredEntry → ℕ → DeclaredEntry → ℕ
place_at entries k d = (slice_index_or entries k d).place

abbrev pub end_at : List DeclaredEntry → ℕ → DeclaredEntry → ℕ
end_at entries k d = (slice_index_or entries k d).end

abbrev pub outer_at : List DeclaredEntry → ℕ → DeclaredEntry → ℕ
outer_at entries k d = (slice_index_or entries k d).outer

-- they stand in order, and those between each and the nearest one around it end before it
pub record AreLinked (entries : List DeclaredEntry) : Type 0 where
  pub sorted : (i k : ℕ) (d : DeclaredEntry) → i < k → k < length entries → place_at entries i d < place_at entries k d
  pub outer : (i : ℕ) (d : DeclaredEntry) → i < length entries → outer_at entries i d ≤ i
  pub between : (i k : ℕ) (d : DeclaredEntry) → i < length entries → outer_at entries i d ≤ k → k < i
      → end_at entries k d ≤ place_at entries i d

-- and all stand before a place
pub record AreBefore (place : ℕ) (entries : List DeclaredEntry) : Type 0 where
  pub linked : AreLinked entries
  pub before : (k : ℕ) (d : DeclaredEntry) → k < length entries → place_at entries k d < place

pub record AreKept (entries : List DeclaredEntry) (none : List (List ℕ)) : Type 0 where
  pub linked : AreLinked entries
  pub empty : none ≡ []

-- the last of so many that ends behind a place, if there is one
pub record IsLastAround (entries : List DeclaredEntry) (place count last : ℕ) : Type 0 where
  pub within : last ≤ count
  pub passed : (k : ℕ) (d : DeclaredEntry) → last ≤ k → k < count → end_at entries k d ≤ place
  pub reaches : (k : ℕ) (d : DeclaredEntry) → last ≡ k + 1 → place < end_at entries k d

abbrev pub StandBefore : List DeclaredEntry → ℕ → ℕ → Type 0
StandBefore entries place count =
    (count ≤ length entries) × ((k : ℕ) (d : DeclaredEntry) → k < count → place_at entries k d ≤ place)

-- the element at a place stands in it or is it
abbrev pub holds : ℕ → DeclaredEntry → Bool
holds place entry = nat_le entry.place place && nat_lt place entry.end

-- it stands in it
abbrev pub lies_around : ℕ → DeclaredEntry → Bool
lies_around place entry = nat_lt entry.place place && nat_lt place entry.end

-- so many stand up to a place, and of these a test finds those that end behind it
pub record IsCut (test : DeclaredEntry → Bool) (entries : List DeclaredEntry) (place count : ℕ) : Type 0 where
  pub stand : StandBefore entries place count
  pub passed : (k : ℕ) (d : DeclaredEntry) → k < count → end_at entries k d ≤ place
      → test (slice_index_or entries k d) ≡ false
  pub reaches : (k : ℕ) (d : DeclaredEntry) → k < count → place < end_at entries k d
      → test (slice_index_or entries k d) ≡ true
  pub behind : (k : ℕ) (d : DeclaredEntry) → count ≤ k → k < length entries → test (slice_index_or entries k d) ≡ false

-- the names of the last that passes a test, or else these
abbrev pub last_names : (DeclaredEntry → Bool) → List (List ℕ) → List DeclaredEntry → List (List ℕ)
last_names test names [] = names
last_names test names (entry ∷ entries) = last_names test (if test entry then entry.names else names) entries
