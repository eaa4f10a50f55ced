-- Which names may be asked about (own; DITA 1.3, "URI-based (direct) addressing"): the roots, and the names that answers
-- give which were told before. All are tests, so that the facts have one proof at most.
use Rattle.std.specs.Prelude.{◌≡◌, ◌||◌, ◌++◌, ℕ, Bool, false, List, [], ◌∷◌, IsTrue, bytes_eq, map, option_map}
use Rattle.std.specs.Option.{option_to_list}
use Rattle.dita_doc.specs.declared.content.Push.{Push}
use Rattle.dita_doc.specs.declared.plan.PlanNode.{PlanNode}
use Rattle.map_spec.specs.Pages.{local_name}
use Rattle.map_spec.specs.Written.{written_in}
use Rattle.reader_spec.specs.World.{World}
use Rattle.readers.specs.Named.{names_of_found}
use Rattle.readers.specs.Told.{Told, document, kind, title, first, key, pushes, page_of, pending, pending_document, Agrees}

-- the documents in which nodes stand
abbrev pub homes : List PlanNode → List (List ℕ)
homes nodes = map (λ (node : PlanNode). node.doc) nodes

-- the documents that a question is about
abbrev pub names_asked : Told → List (List ℕ)
names_asked (document name tree) = name ∷ []
names_asked (kind name answer) = name ∷ []
names_asked (title name topic text) = name ∷ []
names_asked (first name id) = name ∷ []
names_asked (key nodes scope text answer) = homes nodes
names_asked (pushes documents name answer) = name ∷ []
names_asked (page_of pages name context answer) = name ∷ []
names_asked (pending names) = names
names_asked (pending_document name) = name ∷ []

-- the documents that an answer names
abbrev pub names_given : Told → List (List ℕ)
names_given (document name tree) = names_of_found (option_map (written_in name) tree)
names_given (kind name answer) = []
names_given (title name topic text) = []
names_given (first name id) = []
names_given (key nodes scope text answer) = option_to_list (local_name answer.target)
names_given (pushes documents name answer) = map (λ (push : Push). push.from) answer.pushes
names_given (page_of pages name context answer) = []
names_given (pending names) = []
names_given (pending_document name) = []

abbrev pub is_among : List (List ℕ) → List ℕ → Bool
is_among [] m = false
is_among (name ∷ names) m = bytes_eq name m || is_among names m

-- each of some names is one of others
pub record AreAmong (some names : List (List ℕ)) : Type 0 where
  pub each : (m : List ℕ) → IsTrue (is_among some m) → IsTrue (is_among names m)

-- a name may be asked about: it is a root, or an answer gives it
abbrev pub is_allowed : List (List ℕ) → List Told → List ℕ → Bool
is_allowed roots [] m = is_among roots m
is_allowed roots (t ∷ ts) m = is_among (names_given t) m || is_allowed roots ts m

pub record AreAllowed (roots : List (List ℕ)) (ts : List Told) (names : List (List ℕ)) : Type 0 where
  pub each : (m : List ℕ) → IsTrue (is_among names m) → IsTrue (is_allowed roots ts m)

-- each question was allowed when it was put
abbrev pub IsFounded : List (List ℕ) → List Told → Type 0
IsFounded roots [] = Unit {0}
IsFounded roots (t ∷ ts) = AreAllowed roots ts (names_asked t) × IsFounded roots ts

-- a name is known to those who put questions: it is one of a list, an answer names it, or a question was about it
abbrev pub is_known : List (List ℕ) → List Told → List ℕ → Bool
is_known names [] m = is_among names m
is_known names (t ∷ ts) m = is_among (names_given t) m || (is_among (names_asked t) m || is_known names ts m)

pub record AreKnown (names : List (List ℕ)) (ts : List Told) (some : List (List ℕ)) : Type 0 where
  pub each : (m : List ℕ) → IsTrue (is_among some m) → IsTrue (is_known names ts m)

-- questions, the newest first, each of which was about names that were known when it was put
abbrev pub AreAbout : List (List ℕ) → (more old : List Told) → Type 0
AreAbout names [] old = Unit {0}
AreAbout names (t ∷ more) old = AreKnown names (more ++ old) (names_asked t) × AreAbout names more old

-- what a call about these documents tells: nothing that was told before is gone, and each question more is about one of
-- them, or about a name that was told before. So what was founded stays so, if these documents were allowed.
pub record StaysFounded (names : List (List ℕ)) (old new : List Told) : Type 0 where
  pub is : ∥ ((more : List Told) × (new ≡ more ++ old) × AreAbout names more old) ∥₁

-- nothing that was told before is gone
pub record Grows (old new : List Told) : Type 0 where
  pub is : ∥ ((more : List Told) × (new ≡ more ++ old)) ∥₁

-- What was told to a reader says all that a reader above it keeps: the worlds that agree below agree above, and what is
-- allowed and founded above is so below
pub record Carries (below above : List Told) : Type 0 where
  pub agrees : (world : World) → Agrees world below → Agrees world above
  pub allowed : (roots : List (List ℕ)) (m : List ℕ) → IsTrue (is_allowed roots above m)
      → IsTrue (is_allowed roots below m)
  pub founded : (roots : List (List ℕ)) → IsFounded roots above → IsFounded roots below
