-- Which questions the content of a page tells (own): for its documents and its DITAVALs, for the pushes into its documents,
-- and for the keys that elements in these name, in the page's scope. Questions of other kinds are not told.
use Rattle.std.specs.Prelude.{◌≡◌, ◌++◌, ◌⊎◌, ℕ, List, [], Option, Some, None, All, IsTrue}
use Rattle.std.specs.Arc.{arc_value}
use Rattle.dita_doc.specs.declared.plan.PageId.{PageId}
use Rattle.map_spec.specs.Pushes.{pushes_into}
use Rattle.map_spec.specs.Written.{Element, Written}
use Rattle.conref_spec.specs.Content as content
use Rattle.conref_spec.specs.PageDocuments.{IsPageDocument, IsPageKey, StandsIn}
use Rattle.reader_spec.specs.World.{World}
use Rattle.readers.specs.Founded.{is_among}
use Rattle.readers.specs.Named.{named_tree}
use Rattle.readers.specs.Setting.{Setting, Stand}
use Rattle.readers.specs.Told.{Told, document, kind, title, first, key, pushes, page_of, pending, pending_document}
use Rattle.conref_targets.specs.Each.{OfEach}
use Rattle.conref_targets.specs.Rules.{ditavals}
use Rattle.conref_targets.specs.ResolveInput.{setting_of}
use Rattle.conref_targets.specs.declared.find.Found.{Found}

-- a page in a world, by what its reader was made for, with these DITAVALs
pub record PageAt : Type 0 where
  pub world : World
  pub setting : Setting
  pub id : PageId
  pub ditavals : List (List ℕ)

-- with those of its filters and of the build
abbrev pub page_at : World → Setting → Option (List ℕ) → PageId → PageAt
page_at world setting val id =
    record { world = world; setting = setting; id = id; ditavals = ditavals val id.filters }

-- it is this page, and the reader stands so
pub record IsAt (page : PageAt) (stand : Stand) (id : PageId) : Type 0 where
  pub setting : page.setting ≡ stand.setting
  pub is : page.id ≡ id

abbrev pub content_at : PageAt → content.ResolveInput
content_at page = setting_of page.world page.setting page.id []

-- a document of the page
abbrev pub IsOfPage : PageAt → List ℕ → Type 0
IsOfPage page name = IsPageDocument (content_at page) (pushes_into page.world page.setting.documents) name

-- a document that may be asked for: of the page, or one of its DITAVALs
abbrev pub MayRead : PageAt → List ℕ → Type 0
MayRead page name = IsOfPage page name ⊎ IsTrue (is_among page.ditavals name)

-- a note without an answer counts by the documents that it is about, since it tells nothing of a world
abbrev pub IsAbout : PageAt → Told → Type 0
IsAbout page (document name tree) = MayRead page name
IsAbout page (kind name answer) = ⊥
IsAbout page (title name topic text) = ⊥
IsAbout page (first name id) = ⊥
IsAbout page (key nodes scope text answer) = (scope ≡ page.id.scope)
    × IsPageKey (content_at page) (pushes_into page.world page.setting.documents) text
IsAbout page (pushes documents name answer) = IsOfPage page name
IsAbout page (page_of pages name context answer) = ⊥
IsAbout page (pending names) = All (MayRead page) names
IsAbout page (pending_document name) = MayRead page name

-- what a call does that tells these questions alone
pub record AsksPage (page : PageAt) (old new : List Told) : Type 0 where
  pub is : ∥ ((more : List Told) × ((new ≡ more ++ old) × All (IsAbout page) more)) ∥₁

-- Elements that are met on the way: each stands in a document of the page

pub record IsMet (page : PageAt) (element : Element) : Type 0 where
  pub doc : List ℕ
  pub of : IsOfPage page doc
  pub stands : StandsIn (content_at page) doc element

abbrev pub AreMet : PageAt → Written → Type 0
AreMet page nodes = OfEach (IsMet page) nodes

-- all elements of the document in which something was found
abbrev pub FoundMet : PageAt → Option Found → Type 0
FoundMet page None = Unit {0}
FoundMet page (Some found) = AreMet page (named_tree (arc_value found.doc))

-- what a search does that asks for the page, and finds something in its documents
pub record FindsOnly (page : PageAt) (old new : List Told) (found : Option Found) : Type 0 where
  pub asks : AsksPage page old new
  pub met : FoundMet page found
