-- The table of a plan's pages (own): for each document its first page, and for each key the page that has it.
use Rattle.std.specs.Prelude.{◌≡◌, ℕ, true, false, List, Option, Some, None, option_map}
use Rattle.std.specs.BTreeMap as tree
use Rattle.std.specs.Cmp.Lexicographic.{slice_cmp}
use Rattle.std.specs.Coded.{Coded-set, coded_option, coded_ℕ}
use Rattle.std.specs.Ordering.{nat_cmp, ordering_then}
use Rattle.std.specs.declared.cmp.Ordering.{Ordering}
use Rattle.std.proofs.Props.{props}
use Rattle.dita_doc.specs.declared.plan.PageId.{PageId}
use Rattle.dita_doc.specs.declared.plan.PagePlan.{PagePlan}
use Rattle.map_spec.specs.Pages.{is_page_for, is_page_of, page_for, place_of}
use Rattle.plan_nodes.specs.Affixes.{texts_of}
use Rattle.page_table.specs.declared.keys.PageKey.{PageKey}
use Rattle.page_table.specs.declared.table.DocPages.{DocPages}
use Rattle.page_table.specs.declared.table.PageTable.{PageTable}

-- the key of the page of a document that is set apart as another page is
abbrev pub key_of : List ℕ → PageId → PageKey
key_of name id = record { scope = id.scope; filters = id.filters; affixes = texts_of id.affixes; doc = name }

-- the order of keys
abbrev pub order : PageKey → PageKey → Ordering
order a b = ordering_then (nat_cmp a.scope b.scope) (ordering_then (slice_cmp (slice_cmp nat_cmp) a.filters b.filters)
    (ordering_then (slice_cmp (slice_cmp nat_cmp) a.affixes b.affixes) (slice_cmp nat_cmp a.doc b.doc)))

abbrev pub doc_in : PageTable → List ℕ → Option DocPages
doc_in table name = tree.get (slice_cmp nat_cmp) table.docs name

abbrev pub page_at : PageTable → PageKey → Option ℕ
page_at table key = tree.get order table.pages key

-- the first page stays the first, and is alone no longer
abbrev pub doc_with : Option DocPages → ℕ → DocPages
doc_with None place = record { first = place; alone = true }
doc_with (Some known) place = record { first = known.first; alone = false }

abbrev pub first_page : DocPages → ℕ
first_page doc = doc.first

-- the table of these pages: it has the first page of each document, and the first with each key. Where it says that a
-- document has one page alone, each context leads to that page
pub record IsPageTable (pages : List PagePlan) (table : PageTable) : Type 0 where
  pub first : (name : List ℕ) → option_map first_page (doc_in table name) ≡ place_of (is_page_of name) 0 pages
  pub each : (name : List ℕ) (context : PageId)
      → page_at table (key_of name context) ≡ place_of (is_page_for name context) 0 pages
  pub alone : (name : List ℕ) (context : PageId) (doc : DocPages) → doc_in table name ≡ Some doc → doc.alone ≡ true
      → page_for pages name context ≡ Some doc.first

place_set : IsSet (Option ℕ)
place_set = Coded-set (coded_option coded_ℕ)

-- there is one proof of this at most
pub IsPageTable-prop : (pages : List PagePlan) (table : PageTable) → IsProp (IsPageTable pages table)
IsPageTable-prop pages table = hlevel (props, place_set)
