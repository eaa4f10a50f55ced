-- The names of a plan's pages (own).
use Rattle.std.specs.Prelude.{◌≡◌, ◌≢◌, ◌≤◌, ◌<◌, ◌++◌, ℕ, List, Some, codes, length, slice_get, true}
use Rattle.std.specs.Fmt.{decimal}
use Rattle.dita_doc.specs.Name.{is_name}
use Rattle.dita_doc.specs.declared.plan.PagePlan.{PagePlan}
use Rattle.map_spec.specs.Pages.{contents_name, page_for}

-- no two pages have one name, and none has that of the contents page
pub record HasDistinctNames (pages : List PagePlan) : Type 0 where
  pub differ : (at other : ℕ) (page another : PagePlan) → at < other → slice_get pages at ≡ Some page
      → slice_get pages other ≡ Some another → page.name ≢ another.name
  pub free : (at : ℕ) (page : PagePlan) → slice_get pages at ≡ Some page → page.name ≢ contents_name

-- The name of a page stays a document name when the folder of its build is put before it: `b1/`, or `b65536/` at most,
-- which takes 7 of the 255 bytes of a name.
pub record IsPageName (page : List ℕ) : Type 0 where
  pub named : is_name page ≡ true
  pub within : length page ≤ 248

-- each name is a document name under the folder of any build of a script
abbrev pub FitsFolders : List PagePlan → Type 0
FitsFolders pages = (number at : ℕ) (page : PagePlan) → number ≤ 65536 → slice_get pages at ≡ Some page
    → is_name (codes "b" ++ decimal number ++ codes "/" ++ page.name) ≡ true

-- the page of a page's document for its own context is the page itself
abbrev pub IsItsOwn : List PagePlan → Type 0
IsItsOwn pages = (at : ℕ) (page : PagePlan) → slice_get pages at ≡ Some page
    → page_for pages page.id.doc page.id ≡ Some at
