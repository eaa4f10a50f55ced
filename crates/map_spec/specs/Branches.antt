-- Branch filtering (DITA 1.3, "Branch filtering"): a copy of a branch for each ditavalref on it. The groups under a map, the
-- name of a scope that had none, and what is passed over are our own.
use Rattle.std.specs.Prelude.{◌==◌, ◌&&◌, ℕ, Bool, true, false, not, List, [], ◌∷◌, ◌++◌, Option, Some, None, Result, Ok, Err, filter, length, map, option_map, codes, bytes_eq, if◌then◌else◌}
use Rattle.std.specs.List.{flat_map}
use Rattle.std.specs.Option.{option_and_then, option_map_or, option_to_list}
use Rattle.dita_doc.specs.ClassValue.{words_of}
use Rattle.dita_doc.specs.declared.content.Rule.{Rule}
use Rattle.dita_doc.specs.declared.fault.Fault.{Fault}
use Rattle.dita_doc.specs.declared.fault.FaultCode.TheVariants as faults
use Rattle.dita_doc.specs.declared.plan.Affix.{Affix}
use Rattle.dita_doc.specs.declared.plan.PlanKind.{PlanKind}
use Rattle.dita_doc.specs.declared.plan.PlanKind.TheVariants as kinds
use Rattle.dita_doc.specs.declared.plan.PlanStop.{PlanStop}
use Rattle.ditaval_rules.specs.Rules.{rules_in}
use Rattle.ditaval_rules.specs.declared.rules.NotDitaval.{NotDitaval}
use Rattle.ditaval_rules.specs.declared.rules.RulesRead.{RulesRead}
use Rattle.reader_spec.specs.World.{World}
use Rattle.map_spec.specs.Elements.{attribute, fault_at, first_under, text_of}
use Rattle.map_spec.specs.Included.{limited}
use Rattle.map_spec.specs.Judged.{is_excluded, kept, whole_of}
use Rattle.map_spec.specs.MapTree.{Grown, Head, MapTree, NoNodes, MapNode, trees_beside}
use Rattle.map_spec.specs.Target.{Named, Document, Elsewhere, Unreadable, named_of}
use Rattle.map_spec.specs.Written.{Element, Whole, Written}

-- DITAVALs

abbrev pub if_ditaval : Result RulesRead NotDitaval → Option RulesRead
if_ditaval (Ok read) = Some read
if_ditaval (Err fault) = None

-- the rules of a DITAVAL, if the document is one
abbrev pub ditaval_in : World → List ℕ → Option RulesRead
ditaval_in world name = option_and_then (λ tree. if_ditaval (rules_in name tree)) (world name)

-- what a ditavalref filters by: the name of its DITAVAL and its rules, or nothing; and the faults of that
pub record Filter : Type 0 where
  pub name : Option (List ℕ)
  pub rules : List Rule
  pub faults : List Fault

abbrev pub no_filter : List Fault → Filter
no_filter faults = record { name = None; rules = []; faults = faults }

abbrev pub filter_read : Element → List ℕ → Option RulesRead → Filter
filter_read element name None = no_filter (fault_at element faults.DitavalMissing name ∷ [])
filter_read element name (Some read) = record { name = Some name; rules = read.rules; faults = read.faults }

abbrev pub filter_named : World → Element → List ℕ → Named → Filter
filter_named world element href (Document name) = filter_read element name (ditaval_in world name)
filter_named world element href Elsewhere = no_filter (fault_at element faults.DitavalMissing href ∷ [])
filter_named world element href Unreadable = no_filter (fault_at element faults.BadReference href ∷ [])

abbrev pub filter_by : World → Element → Option (List ℕ) → Filter
filter_by world element None = no_filter []
filter_by world element (Some href) = filter_named world element href (named_of element href)

abbrev pub filter_of : World → Element → Filter
filter_of world element = filter_by world element (attribute (codes "href") element)

-- What a ditavalref does: its filter, and what it puts before and after names of pages and of scopes

pub record Branch : Type 0 where
  pub head : Head
  pub filter : Filter
  pub resource : Affix
  pub keyscope : Affix

-- the plain text of an element of the branch's metadata
abbrev pub metadata_text : Written → List ℕ → List ℕ
metadata_text inside token = text_of (first_under (codes "ditavalref-d/ditavalmeta") token inside)

abbrev pub affix_of : Written → List ℕ → List ℕ → Affix
affix_of inside before after =
    record { prefix = metadata_text inside before; suffix = metadata_text inside after }

abbrev pub branch_of : World → Head → Whole → Branch
branch_of world head whole = record {
  head = head;
  filter = filter_of world whole.0;
  resource = affix_of whole.1 (codes "ditavalref-d/dvrResourcePrefix") (codes "ditavalref-d/dvrResourceSuffix");
  keyscope = affix_of whole.1 (codes "ditavalref-d/dvrKeyscopePrefix") (codes "ditavalref-d/dvrKeyscopeSuffix");
}

abbrev pub is_ditavalref : PlanKind → Bool
is_ditavalref kinds.DitavalRef = true
is_ditavalref _ = false

-- the ditavalrefs among nodes
abbrev pub ditavalrefs : MapTree → List Head
ditavalrefs NoNodes = []
ditavalrefs (MapNode head below more) =
    if is_ditavalref head.kind then head ∷ ditavalrefs more else ditavalrefs more

-- a ditavalref on any other node is passed over
abbrev pub has_branches : PlanKind → Bool
has_branches kinds.Map = true
has_branches kinds.Reference = true
has_branches kinds.Included = true
has_branches _ = false

abbrev pub branches_of : World → Head → MapTree → List Branch
branches_of world head below =
    if has_branches head.kind
    then flat_map (λ ref. option_to_list (option_map (branch_of world ref) (whole_of world ref))) (ditavalrefs below)
    else []

-- Names of scopes

abbrev pub each_once : List (List ℕ) → List (List ℕ)
each_once [] = []
each_once (name ∷ names) = name ∷ filter (λ other. not (bytes_eq name other)) (each_once names)

abbrev pub words_written : Option (List ℕ) → List (List ℕ)
words_written None = []
words_written (Some value) = words_of value

abbrev pub keyscope_of : World → Head → List (List ℕ)
keyscope_of world head =
    option_map_or (λ (whole : Whole). words_written (attribute (codes "keyscope") whole.0)) (whole_of world head) []

abbrev pub is_map_node : PlanKind → Bool
is_map_node kinds.Map = true
is_map_node _ = false

-- those of the map that is included: of the map node among the nodes below
abbrev pub keyscope_included : World → MapTree → List (List ℕ)
keyscope_included world NoNodes = []
keyscope_included world (MapNode head below more) =
    if is_map_node head.kind then keyscope_of world head else keyscope_included world more

-- a map's own names stand at the node that includes it
abbrev pub scope_names_of : World → Head → MapTree → PlanKind → List (List ℕ)
scope_names_of world head below kinds.Map = []
scope_names_of world head below kinds.Included = each_once (keyscope_of world head ++ keyscope_included world below)
scope_names_of world head below _ = each_once (keyscope_of world head)

abbrev pub with_scope_names : World → Head → MapTree → Head
with_scope_names world head below = record head { scope_names = scope_names_of world head below head.kind }

abbrev pub is_no_text : List ℕ → Bool
is_no_text text = length text == 0

-- what stands before and after a name; the top of a copy that has no name gets this alone, if it is one
abbrev pub names_in_copy : Affix → List (List ℕ) → List (List ℕ)
names_in_copy affix [] = if is_no_text (affix.prefix ++ affix.suffix) then [] else (affix.prefix ++ affix.suffix) ∷ []
names_in_copy affix (name ∷ names) = map (λ each. affix.prefix ++ each ++ affix.suffix) (name ∷ names)

-- Copies

-- an affix of nothing is none
abbrev pub affix_written : Affix → List Affix
affix_written affix = if is_no_text affix.prefix && is_no_text affix.suffix then [] else affix ∷ []

abbrev pub marked : Branch → Head → Head
marked branch head = record head {
  filters = head.filters ++ option_to_list branch.filter.name;
  affixes = head.affixes ++ affix_written branch.resource;
}

-- each node of a copy has the filter and the affix of its branch behind those that it has
abbrev pub all_marked : Branch → MapTree → MapTree
all_marked branch NoNodes = NoNodes
all_marked branch (MapNode head below more) =
    MapNode (marked branch head) (all_marked branch below) (all_marked branch more)

abbrev pub copy_below : World → Branch → MapTree → MapTree
copy_below world branch below = all_marked branch (kept world branch.filter.rules below)

-- the copy of a node for a branch, without the nodes that its rules exclude, itself too
abbrev pub copy_for : World → Head → MapTree → Branch → MapTree
copy_for world head below branch =
    if is_excluded world branch.filter.rules head then NoNodes
    else MapNode (record (marked branch head) { scope_names = names_in_copy branch.keyscope head.scope_names })
    (copy_below world branch below) NoNodes

-- under a map the copied nodes of a branch stand in a group
abbrev pub group_for : World → Head → MapTree → Branch → MapTree
group_for world head below branch = MapNode (record (marked branch branch.head) {
  kind = kinds.Group;
  level = head.level;
  scope_names = names_in_copy branch.keyscope [];
}) (copy_below world branch below) NoNodes

abbrev pub all_beside : List MapTree → MapTree
all_beside [] = NoNodes
all_beside (tree ∷ trees) = trees_beside tree (all_beside trees)

abbrev pub copies : World → Head → MapTree → List Branch → MapTree
copies world head below [] = MapNode head below NoNodes
copies world head below (branch ∷ branches) =
    if is_map_node head.kind
    then MapNode head (all_beside (map (group_for world head below) (branch ∷ branches))) NoNodes
    else all_beside (map (copy_for world head below) (branch ∷ branches))

-- the nodes with their branches copied, the inner ones first, and without the ditavalrefs
abbrev pub copied : World → MapTree → MapTree
copied world NoNodes = NoNodes
copied world (MapNode head below more) =
    if is_ditavalref head.kind then copied world more
    else trees_beside
    (copies world (with_scope_names world head below) (copied world below) (branches_of world head below))
    (copied world more)

-- the faults of all ditavalrefs that are read; what stands below a ditavalref is passed over with it
abbrev pub branch_faults : World → MapTree → List Fault
branch_faults world NoNodes = []
branch_faults world (MapNode head below more) = if is_ditavalref head.kind then branch_faults world more
    else flat_map (λ (branch : Branch). branch.filter.faults) (branches_of world head below)
    ++ branch_faults world below ++ branch_faults world more

abbrev pub branched : ℕ → World → MapTree → Result Grown PlanStop
branched limit world tree =
    limited limit (record { tree = copied world tree; faults = branch_faults world tree })
