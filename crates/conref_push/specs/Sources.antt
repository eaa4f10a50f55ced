-- The documents that pushes come from, as they were asked for (own).
use Rattle.std.specs.Prelude.{◌≡◌, ℕ, List, Option, IsTrue, is_some, option_map}
use Rattle.std.specs.BTreeMap as tree
use Rattle.std.specs.Cmp.Lexicographic.{slice_cmp}
use Rattle.std.specs.Ordering.{nat_cmp}
use Rattle.std.specs.declared.alloc.Global.{Global}
use Rattle.std.specs.declared.sync.Arc.{Arc}
use Rattle.conref_push.specs.Targets.{AreKnown}
use Rattle.conref_push.specs.declared.sources.PushSources.{PushSources}
use Rattle.dita_doc.specs.declared.doc.Doc.{Doc}
use Rattle.map_spec.specs.Written.{written_in}
use Rattle.reader_spec.specs.World.{World}
use Rattle.readers.specs.Documents.{IsGiven}
use Rattle.readers.specs.Founded.{is_among}
use Rattle.readers.specs.Told.{Told, tree_found}

abbrev pub IsSource : World → List ℕ → Option (Arc Doc Global) → Type 0
IsSource world name found = world name ≡ tree_found found

-- the documents of these names, each as it stands
pub record AreSources (world : World) (names : List (List ℕ)) (sources : PushSources) : Type 0 where
  pub known : AreKnown (IsSource world) sources.docs
  pub each : (name : List ℕ) → IsTrue (is_among names name)
      → IsTrue (is_some (tree.get (slice_cmp nat_cmp) sources.docs name))

-- documents that were told give what the document gives that was found under a name
abbrev pub IsGivenAs : List Told → List ℕ → Option (Arc Doc Global) → Type 0
IsGivenAs ts name found = IsGiven ts (option_map (written_in name) (tree_found found))

abbrev pub AreGiven : List Told → PushSources → Type 0
AreGiven ts sources = AreKnown (IsGivenAs ts) sources.docs
