-- Which documents are asked for as a whole (own): those of a list, and those that follow from answers told before. As
-- `Founded`, for documents alone and by any rule of what follows.
use Rattle.std.specs.Prelude.{◌≡◌, ◌||◌, ◌++◌, ℕ, Bool, List, [], ◌∷◌, Option, IsTrue, map, option_map}
use Rattle.dita_doc.specs.declared.content.Push.{Push}
use Rattle.map_spec.specs.Written.{Element, Written, written_in}
use Rattle.readers.specs.Founded.{is_among}
use Rattle.readers.specs.Named.{given_in_found, names_of_element, names_of_found, reused_by, reused_of_found}
use Rattle.readers.specs.Told.{Told, document, kind, title, first, key, pushes, page_of, pending, pending_document}

-- the document that a question asks for
abbrev pub documents_asked : Told → List (List ℕ)
documents_asked (document name tree) = name ∷ []
documents_asked (kind name answer) = []
documents_asked (title name topic text) = []
documents_asked (first name id) = []
documents_asked (key nodes scope text answer) = []
documents_asked (pushes documents name answer) = []
documents_asked (page_of pages name context answer) = []
documents_asked (pending names) = []
documents_asked (pending_document name) = name ∷ []

-- the documents that follow from what was told
abbrev pub Follows : Type 0
Follows = Told → List (List ℕ)

abbrev pub nothing : Follows
nothing t = []

-- those from which pushes come
abbrev pub of_pushes : Follows
of_pushes (document name tree) = []
of_pushes (kind name answer) = []
of_pushes (title name topic text) = []
of_pushes (first name id) = []
of_pushes (key nodes scope text answer) = []
of_pushes (pushes documents name answer) = map (λ (push : Push). push.from) answer.pushes
of_pushes (page_of pages name context answer) = []
of_pushes (pending names) = []
of_pushes (pending_document name) = []

-- those that a document gives, each element by itself
abbrev pub of_documents : (Element → List (List ℕ)) → Follows
of_documents names (document name tree) = given_in_found names (option_map (written_in name) tree)
of_documents names (kind name answer) = []
of_documents names (title name topic text) = []
of_documents names (first name id) = []
of_documents names (key nodes scope text answer) = []
of_documents names (pushes documents name answer) = []
of_documents names (page_of pages name context answer) = []
of_documents names (pending names') = []
of_documents names (pending_document name) = []

-- a document may be asked for: it is a root, or follows from an answer
abbrev pub may_ask : Follows → List (List ℕ) → List Told → List ℕ → Bool
may_ask follows roots [] m = is_among roots m
may_ask follows roots (t ∷ ts) m = is_among (follows t) m || may_ask follows roots ts m

pub record MayAsk (follows : Follows) (roots : List (List ℕ)) (ts : List Told) (names : List (List ℕ)) : Type 0 where
  pub each : (m : List ℕ) → IsTrue (is_among names m) → IsTrue (may_ask follows roots ts m)

-- each document might be asked for when it was
abbrev pub AskedBy : Follows → List (List ℕ) → List Told → Type 0
AskedBy follows roots [] = Unit {0}
AskedBy follows roots (t ∷ ts) = MayAsk follows roots ts (documents_asked t) × AskedBy follows roots ts

-- one rule gives all that another gives
pub record Covers (more less : Follows) : Type 0 where
  pub each : (t : Told) (m : List ℕ) → IsTrue (is_among (less t) m) → IsTrue (is_among (more t) m)

-- a document is sought by those who ask for documents: it is one of a list, follows from an answer, or was asked for
abbrev pub is_sought : Follows → List (List ℕ) → List Told → List ℕ → Bool
is_sought follows names [] m = is_among names m
is_sought follows names (t ∷ ts) m =
    is_among (follows t) m || (is_among (documents_asked t) m || is_sought follows names ts m)

pub record AreSought (follows : Follows) (names : List (List ℕ)) (ts : List Told) (some : List (List ℕ)) : Type 0 where
  pub each : (m : List ℕ) → IsTrue (is_among some m) → IsTrue (is_sought follows names ts m)

-- questions, the newest first, each of which asked for documents that were sought when it was put
abbrev pub AreOnly : Follows → List (List ℕ) → (more old : List Told) → Type 0
AreOnly follows names [] old = Unit {0}
AreOnly follows names (t ∷ more) old =
    AreSought follows names (more ++ old) (documents_asked t) × AreOnly follows names more old

-- what a call tells that asks for these documents, for those that follow from answers, and for no others: nothing that was
-- told before is gone, and each document that is asked for is one of these, follows from an answer before, or was asked
-- for before
pub record AsksOnly (follows : Follows) (names : List (List ℕ)) (old new : List Told) : Type 0 where
  pub is : ∥ ((more : List Told) × (new ≡ more ++ old) × AreOnly follows names more old) ∥₁

-- documents that were told give all that this content gives: what its references name, and what its content references do
pub record IsGiven (told : List Told) (found : Option Written) : Type 0 where
  pub named : MayAsk (of_documents names_of_element) [] told (names_of_found found)
  pub reused : MayAsk (of_documents reused_by) [] told (reused_of_found found)
