-- Documents that were made with the pushes into them (own). Of those that are known by what was told each is that of its
-- name in every world that agrees, and documents that were told give what its references name; of those that are kept
-- longer each is that of its name in one world, and in this world no element acts of those that are kept as quiet.
use Rattle.std.specs.Prelude.{◌≡◌, ℕ, Bool, false, List, [], ◌∷◌, Option, Some, None, IsTrue}
use Rattle.std.specs.BTreeMap as tree
use Rattle.std.specs.BTreeSet as names
use Rattle.std.specs.Cmp.Lexicographic.{slice_cmp}
use Rattle.std.specs.Coded.{Coded, Coded-set, code_by, coded_option}
use Rattle.std.specs.Ordering.{nat_cmp}
use Rattle.std.specs.declared.alloc.Global.{Global}
use Rattle.std.specs.declared.sync.Arc.{Arc}
use Rattle.std.proofs.Common.{refl}
use Rattle.std.proofs.Props.{props}
use Rattle.conref_push.specs.Acting.{has_conaction_in}
use Rattle.conref_push.specs.Targets.{AreKnown}
use Rattle.dita_doc.specs.declared.doc.Doc.{Doc}
use Rattle.map_spec.specs.Written.{Element, Whole, Written, End}
use Rattle.map_spec.specs.Pushes.{pushed}
use Rattle.pushed_docs.specs.declared.docs.PushedDocs.{PushedDocs}
use Rattle.pushed_docs.specs.declared.memo.PushedMemo.{PushedMemo}
use Rattle.plan_nodes.specs.WholeCode.{homes_code}
use Rattle.reader_spec.specs.World.{World}
use Rattle.readers.specs.Documents.{IsGiven}
use Rattle.readers.specs.Named.{named_found}
use Rattle.readers.specs.Told.{Told, Agrees}

-- what a table has under a name
abbrev pub under : tree.BTreeMap (List ℕ) (Option (Arc Doc Global)) → List ℕ → Option (Option (Arc Doc Global))
under docs name = tree.get (slice_cmp nat_cmp) docs name

pub record IsPushed (told : List Told) (documents : List (List ℕ)) (name : List ℕ) (found : Option (Arc Doc Global))
    : Type 0 where
  pub known : (world : World) → Agrees world told → named_found found ≡ pushed world documents name
  pub given : IsGiven told (named_found found)

unfoldable pub ArePushed : List Told → List (List ℕ) → PushedMemo → Type 0
ArePushed told documents memo = AreKnown (IsPushed told documents) memo.docs

-- in this world it is the document of its name with the pushes of these documents into it
abbrev pub IsKept : World → List (List ℕ) → List ℕ → Option (Arc Doc Global) → Type 0
IsKept world documents name found = named_found found ≡ pushed world documents name

-- whether the document of a name is among those that are quiet
abbrev pub is_without_conaction : names.BTreeSet (List ℕ) → List ℕ → Bool
is_without_conaction quiet name = names.contains (slice_cmp nat_cmp) quiet name

-- each document that was made is kept as it is in this world, and no element acts of a document that is quiet
pub record AreKept (world : World) (documents : List (List ℕ)) (docs : PushedDocs) : Type 0 where
  pub made : AreKnown (IsKept world documents) docs.docs
  pub quiet : (name : List ℕ) → IsTrue (is_without_conaction docs.quiet name) → has_conaction_in world name ≡ false

-- content is data, as what an element holds
abbrev no_element : Element
no_element = record { name = []; attributes = []; doc = []; line = 0; href_doc = [] }

abbrev held : Written → List (Option Whole)
held nodes = Some (no_element, nodes) ∷ []

abbrev holding : List (Option Whole) → Written
holding (Some whole ∷ more) = whole.1
holding (None ∷ more) = End
holding [] = End

written_code : Coded Written
written_code = code_by (List (Option Whole)) homes_code held holding (λ nodes. refl)

written_set : IsSet (Option Written)
written_set = Coded-set (coded_option written_code)

IsPushed-prop : (told : List Told) (documents : List (List ℕ)) (name : List ℕ) (found : Option (Arc Doc Global))
    → IsProp (IsPushed told documents name found)
IsPushed-prop told documents name found = hlevel (props, written_set)

pub ArePushed-prop : (told : List Told) (documents : List (List ℕ)) (memo : PushedMemo)
    → IsProp (ArePushed told documents memo)
unfolding ArePushed
ArePushed-prop told documents memo = hlevel IsPushed-prop

pub AreKept-prop : (world : World) (documents : List (List ℕ)) (docs : PushedDocs) → IsProp (AreKept world documents docs)
AreKept-prop world documents docs = hlevel (props, written_set)
