-- How a document with its pushes is put together: pushes by the places that they go to, and copies of what is pushed (own).
use Rattle.std.specs.Prelude.{◌≡◌, ◌+◌, ◌==◌, ℕ, Bool, true, List, [], Option, Some, None, IsTrue, filter, find, map, if◌then◌else◌}
use Rattle.std.specs.BTreeMap as tree
use Rattle.std.specs.Option.{option_map_or}
use Rattle.std.specs.Ordering.{nat_cmp}
use Rattle.std.specs.declared.alloc.Global.{Global}
use Rattle.std.specs.declared.sync.Arc.{Arc}
use Rattle.std.specs.declared.vec.Vec.{Vec}
use Rattle.conref_push.specs.Into.{froms}
use Rattle.conref_push.specs.Sources.{AreGiven, AreSources, IsGivenAs}
use Rattle.conref_push.specs.declared.pushed_doc.PushedInto.{PushedInto}
use Rattle.conref_push.specs.declared.sources.PushSources.{PushSources}
use Rattle.dita_doc.specs.declared.content.Push.{Push}
use Rattle.dita_doc.specs.declared.content.PushKind.{PushKind}
use Rattle.dita_doc.specs.declared.content.PushKind.TheVariants as kinds
use Rattle.dita_doc.specs.declared.doc.Doc.{Doc}
use Rattle.map_spec.specs.Written.{Element, Whole, Written, End, Node, element_in}
use Rattle.map_spec.specs.Pushes.{has_conaction, all_side_by_side, pushed_at, copy_beside, is_after, is_before, is_replace, pushed_element, pushed_from, with_id_of, without_acting}
use Rattle.reader_spec.specs.World.{World}
use Rattle.readers.specs.Founded.{is_among}
use Rattle.readers.specs.Told.{Told, tree_found}

abbrev pub APush : Type 0
APush = Push

abbrev pub some : Push → Option Push
some push = Some push

-- What was asked for

-- the document, if it is stored, and then those that the pushes come from
abbrev pub AreAsked : World → List ℕ → List Push → Option (Arc Doc Global × PushSources) → Type 0
AreAsked world name pushes None = None ≡ world name
AreAsked world name pushes (Some asked) =
    (tree_found (Some asked.0) ≡ world name) × AreSources world (froms pushes) asked.1

-- documents that were told give what these documents give
abbrev pub GivesAsked : List Told → List ℕ → Option (Arc Doc Global × PushSources) → Type 0
GivesAsked ts name None = Unit {0}
GivesAsked ts name (Some asked) = IsGivenAs ts name (Some asked.0) × AreGiven ts asked.1

-- Pushes by their places

-- the pushes to a place, in their order
abbrev pub pushes_to : ℕ → List Push → List Push
pushes_to place pushes = filter (λ (push : Push). push.at == place) pushes

abbrev pub group_of : Option (Vec Push Global) → List Push
group_of None = []
group_of (Some group) = group.items

abbrev pub Groups : Type 0
Groups = tree.BTreeMap ℕ (Vec Push Global)

abbrev pub group_at : Groups → ℕ → List Push
group_at groups place = group_of (tree.get nat_cmp groups place)

-- at each place stand the pushes to it
abbrev pub AreGroups : List Push → Groups → Type 0
AreGroups pushes groups = (place : ℕ) → group_at groups place ≡ pushes_to place pushes

-- the group of a place was taken out, or put in; the others stay
pub record HasAt (old new : Groups) (at : ℕ) (group : Option (Vec Push Global)) : Type 0 where
  pub each : (place : ℕ) → tree.get nat_cmp new place ≡
      (if tree.is_at (nat_cmp at) place then group else tree.get nat_cmp old place)

-- these pushes, and the documents that they come from
pub record IsInto (world : World) (pushes : List Push) (into : PushedInto) : Type 0 where
  pub groups : AreGroups pushes into.by_place
  pub sources : AreSources world (froms pushes) into.sources

-- what is pushed comes from one of these documents
abbrev pub IsFrom : List (List ℕ) → Option Push → Type 0
IsFrom names found = (push : Push) → found ≡ Some push → IsTrue (is_among names push.from)

abbrev pub is_kind : PushKind → PushKind → Bool
is_kind kinds.Before kind = is_before kind
is_kind kinds.After kind = is_after kind
is_kind kinds.Replace kind = is_replace kind

abbrev pub of_kind : PushKind → List Push → List Push
of_kind kind pushes = filter (λ (push : Push). is_kind kind push.kind) pushes

-- Copies

-- copies of the pushes of a kind, one after the other
abbrev pub copies_of : World → PushKind → List Push → Written
copies_of world kind pushes = all_side_by_side (map (copy_beside world) (of_kind kind pushes))

abbrev pub copy_if : World → Bool → Push → Written
copy_if world wanted push = if wanted then copy_beside world push else End

abbrev pub replacement : List Push → Option Push
replacement pushes = find (λ push. true) (of_kind kinds.Replace pushes)

-- a copy of an element that is put instead of this one, or beside one
abbrev pub pushed_copy : Option Element → Element → Element
pushed_copy None element = pushed_element element
pushed_copy (Some replaced) element = with_id_of replaced (pushed_element element)

abbrev pub copy_for : World → Option Element → Push → Written
copy_for world replaced push = option_map_or
    (λ (whole : Whole). Node (pushed_copy replaced whole.0) (without_acting whole.1) End)
    (element_in world push.from push.place) End

-- what stands at the place of an element with the pushes to it and below, or nothing if it acts
abbrev pub at_place_or_none : World → List Push → ℕ → Element → Written → Written
at_place_or_none world pushes place element inside = if has_conaction element then End
    else pushed_at world pushes place element (pushed_from world pushes (place + 1) inside)
