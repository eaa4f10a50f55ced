-- Which questions are told (own): those alone that a test lets through, of whatever kind they are. A note without an
-- answer counts by the documents that it is about, since it tells nothing of a world.
use Rattle.std.specs.Prelude.{◌≡◌, ◌++◌, ◌&&◌, ◌||◌, ℕ, Bool, false, List, [], ◌∷◌, IsTrue, bytes_eq, is_none, map}
use Rattle.std.specs.List.{list_all}
use Rattle.dita_doc.specs.declared.content.Push.{Push}
use Rattle.dita_doc.specs.declared.plan.PageId.{PageId}
use Rattle.dita_doc.specs.declared.plan.Target.{Target}
use Rattle.dita_doc.specs.declared.plan.Target.TheVariants as targets
use Rattle.map_spec.specs.Pages.{is_same_page}
use Rattle.map_spec.specs.Pushes.{pushes_into}
use Rattle.reader_spec.specs.World.{World}
use Rattle.readers.specs.Founded.{is_among}
use Rattle.readers.specs.Told.{Told, document, title, pushes, page_of, pending, pending_document}

-- it asks for one of these documents as a whole
abbrev pub is_document_of : List (List ℕ) → Told → Bool
is_document_of names (document name tree) = is_among names name
is_document_of names (pending_document name) = is_among names name
is_document_of names (pending about) = list_all (is_among names) about
is_document_of names _ = false

-- it asks for the title of this topic of a document
abbrev pub is_title_of : List ℕ → List ℕ → Told → Bool
is_title_of name topic (title name' topic' text) = bytes_eq name name' && bytes_eq topic topic'
is_title_of name topic (pending about) = list_all (is_among (name ∷ [])) about
is_title_of name topic _ = false

-- it asks for the title of the topic that a target leads to
abbrev pub is_title_at : Target → Told → Bool
is_title_at (targets.Local name reference) t = is_title_of name reference.topic t
is_title_at _ t = false

-- it asks for the title of the first topic of one of these documents
abbrev pub is_title_among : List (List ℕ) → Told → Bool
is_title_among names (title name topic text) = is_among names name && bytes_eq [] topic
is_title_among names (pending about) = list_all (is_among names) about
is_title_among names _ = false

-- it asks for the pushes into one of these documents
abbrev pub is_pushes_of : List (List ℕ) → Told → Bool
is_pushes_of names (pushes documents name answer) = is_among names name
is_pushes_of names (pending about) = list_all (is_among names) about
is_pushes_of names _ = false

-- it asks for the page of one of these documents
abbrev pub is_page_of : List (List ℕ) → Told → Bool
is_page_of names (page_of pages name context answer) = is_among names name
is_page_of names (pending about) = list_all (is_among names) about
is_page_of names _ = false

-- it asks for the page of this document in this context, of a build of this map; the DITAVAL is not named
abbrev pub is_page_in : (map name : List ℕ) → PageId → Told → Bool
is_page_in map name page (page_of pages name' context answer) =
    bytes_eq name name' && (is_same_page page context.page && (bytes_eq map context.map && is_none context.val))
is_page_in map name page (pending about) = list_all (is_among (name ∷ [])) about
is_page_in map name page _ = false

-- the documents in which the elements stand that push into a document (DITA 1.3, "The @conaction attribute")
abbrev pub sources_of : World → List (List ℕ) → List ℕ → List (List ℕ)
sources_of world documents name = map (λ (push : Push). push.from) (pushes_into world documents name).pushes

-- it asks for this document, for one from which pushes into it come, or for the pushes into it
abbrev pub is_of_pushed : World → List (List ℕ) → List ℕ → Told → Bool
is_of_pushed world documents name t =
    is_document_of (name ∷ sources_of world documents name) t || is_pushes_of (name ∷ []) t

-- what a call does that tells those questions alone
pub record TellsOnly (test : Told → Bool) (old new : List Told) : Type 0 where
  pub is : ∥ ((more : List Told) × ((new ≡ more ++ old) × IsTrue (list_all test more))) ∥₁
