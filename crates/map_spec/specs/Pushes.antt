-- Pushing content (DITA 1.3, "The @conaction attribute", "Processing conrefs"). The order of pushes, what is dropped and
-- the faults are our own.
use Rattle.std.specs.Prelude.{◌+◌, ◌==◌, ◌&&◌, ℕ, Bool, true, false, not, List, [], ◌∷◌, ◌++◌, Option, Some, None, filter, find, is_some, map, option_map, unwrap_or, codes, bytes_eq, if◌then◌else◌}
use Rattle.std.specs.List.{filter_map, flat_map, list_any}
use Rattle.std.specs.Option.{option_and_then, option_map_or}
use Rattle.dita_doc.specs.declared.content.Push.{Push}
use Rattle.dita_doc.specs.declared.content.PushKind.{PushKind}
use Rattle.dita_doc.specs.declared.content.PushKind.TheVariants as kinds
use Rattle.dita_doc.specs.declared.content.PushList.{PushList}
use Rattle.dita_doc.specs.declared.doc.Attribute.{Attribute}
use Rattle.dita_doc.specs.declared.fault.Fault.{Fault}
use Rattle.dita_doc.specs.declared.fault.FaultCode.TheVariants as faults
use Rattle.dita_doc.specs.declared.plan.Reference.{Reference}
use Rattle.href_text.specs.Joined.{joined}
use Rattle.href_text.specs.Reference.{reference_of}
use Rattle.reader_spec.specs.World.{World}
use Rattle.map_spec.specs.Elements.{attribute, fault_at, has_value, is_special}
use Rattle.map_spec.specs.Target.{if_read, is_same_topic}
use Rattle.map_spec.specs.Written.{Element, Whole, Written, End, Chars, Node, document, element_in, first_sibling, side_by_side, size}
use Rattle.map_spec.specs.Places.{Standing, TopicAt, all_standing, target_in}

-- What an element pushes

abbrev pub push_kind : Option (List ℕ) → Option PushKind
push_kind None = None
push_kind (Some value) =
    if bytes_eq value (codes "pushreplace") then Some kinds.Replace
    else if bytes_eq value (codes "pushbefore") then Some kinds.Before
    else if bytes_eq value (codes "pushafter") then Some kinds.After
    else None

abbrev pub if_mark : Element → Option Element
if_mark element = if has_value (codes "conaction") (codes "mark") element then Some element else None

-- the element that carries the reference: itself, or the mark beside it
abbrev pub carrier_of : Standing → PushKind → Option Element
carrier_of standing kinds.Replace = Some standing.whole.0
carrier_of standing kinds.Before = option_and_then (λ (mark : Whole). if_mark mark.0) (first_sibling standing.behind)
carrier_of standing kinds.After = option_and_then if_mark standing.before

abbrev pub conref_of : Standing → PushKind → Option (List ℕ)
conref_of standing kind = option_and_then (attribute (codes "conref")) (carrier_of standing kind)

-- Its target: a place of a document, as written

pub record PushTarget : Type 0 where
  pub doc : List ℕ
  pub standing : Standing

abbrev pub topic_of : Standing → Reference → List ℕ
topic_of standing reference = if is_same_topic reference
    then option_map_or (λ (topic : TopicAt). topic.id) standing.topic [] else reference.topic

abbrev pub target_named : World → Standing → Reference → List ℕ → Option PushTarget
target_named world standing reference name = option_map (λ found. record { doc = name; standing = found })
    (option_and_then (λ nodes. target_in nodes (topic_of standing reference) reference.element) (document world name))

abbrev pub push_target : World → Standing → List ℕ → Option PushTarget
push_target world standing conref = option_and_then (λ (reference : Reference).
    option_and_then (target_named world standing reference) (if_read (joined standing.whole.0.doc reference.file)))
    (if_read (reference_of conref))

abbrev pub if_special : Standing → PushTarget → Option PushTarget
if_special standing target =
    if is_special standing.whole.0 target.standing.whole.0 then Some target else None

-- A pushing element, and what it pushes to, if its place is good

pub record Pushing : Type 0 where
  pub kind : PushKind
  pub standing : Standing
  pub conref : Option (List ℕ)
  pub target : Option PushTarget

abbrev pub pushing_of : World → Standing → PushKind → Pushing
pushing_of world standing kind = record {
  kind = kind;
  standing = standing;
  conref = conref_of standing kind;
  target = option_and_then (if_special standing)
      (option_and_then (push_target world standing) (conref_of standing kind));
}

abbrev pub pushing_at : World → Standing → Option Pushing
pushing_at world standing =
    option_map (pushing_of world standing) (push_kind (attribute (codes "conaction") standing.whole.0))

-- all pushing elements of some documents, in their order
abbrev pub pushing_in : World → List (List ℕ) → List Pushing
pushing_in world documents = flat_map (λ name. option_map_or
    (λ nodes. filter_map (pushing_at world) (all_standing nodes)) (document world name) []) documents

-- The pushes of a plan's documents

-- a push into a document
pub record PushInto : Type 0 where
  pub doc : List ℕ
  pub push : Push

abbrev pub push_of : Pushing → PushTarget → PushInto
push_of pushing target = record {
  doc = target.doc;
  push = record {
    kind = pushing.kind;
    at = target.standing.place;
    from = pushing.standing.whole.0.doc;
    place = pushing.standing.place;
  };
}

abbrev pub is_replace : PushKind → Bool
is_replace kinds.Replace = true
is_replace _ = false

-- another push replaces the same element
abbrev pub is_replaced_by : PushInto → PushInto → Bool
is_replaced_by made other = is_replace made.push.kind && is_replace other.push.kind
    && bytes_eq made.doc other.doc && (made.push.at == other.push.at)

pub record AllPushes : Type 0 where
  pub made : List PushInto
  pub faults : List Fault

abbrev pub push_fault : Pushing → Fault
push_fault pushing = fault_at pushing.standing.whole.0 faults.PushPlace (unwrap_or pushing.conref [])

abbrev pub twice_fault : Pushing → Fault
twice_fault pushing = fault_at pushing.standing.whole.0 faults.PushTwice (unwrap_or pushing.conref [])

-- one more behind those that were made: the second replacement of an element is dropped
abbrev pub with_push : AllPushes → Pushing → PushInto → AllPushes
with_push all pushing into =
    if list_any (is_replaced_by into) all.made then record all { faults = all.faults ++ twice_fault pushing ∷ [] }
    else record all { made = all.made ++ into ∷ [] }

abbrev pub with_pushing : AllPushes → Pushing → Option PushTarget → AllPushes
with_pushing all pushing None = record all { faults = all.faults ++ push_fault pushing ∷ [] }
with_pushing all pushing (Some target) = with_push all pushing (push_of pushing target)

abbrev pub pushes_behind : AllPushes → List Pushing → AllPushes
pushes_behind all [] = all
pushes_behind all (pushing ∷ more) = pushes_behind (with_pushing all pushing pushing.target) more

abbrev pub no_pushes : AllPushes
no_pushes = record { made = []; faults = [] }

-- all pushes of the documents of a plan, by first use of the document and then in document order
unfoldable pub all_pushes : World → List (List ℕ) → AllPushes
all_pushes world documents = pushes_behind no_pushes (pushing_in world documents)

abbrev pub is_into : List ℕ → PushInto → Bool
is_into name into = bytes_eq into.doc name

abbrev pub stands_in : List ℕ → Fault → Bool
stands_in name fault = bytes_eq fault.name name

-- those into a document, and the faults of those that stand in it
abbrev pub pushes_into : World → List (List ℕ) → List ℕ → PushList
pushes_into world documents name = record {
  pushes = map (λ (into : PushInto). into.push) (filter (is_into name) (all_pushes world documents).made);
  faults = filter (stands_in name) (all_pushes world documents).faults;
}

-- The document with its pushes

abbrev pub without_names : List (List ℕ) → List Attribute → List Attribute
without_names names attributes =
    filter (λ (written : Attribute). not (list_any (bytes_eq written.name) names)) attributes

abbrev pub pushing_names : List (List ℕ)
pushing_names = codes "conaction" ∷ codes "conref" ∷ codes "conkeyref" ∷ codes "conrefend" ∷ []

abbrev pub has_conaction : Element → Bool
has_conaction element = is_some (attribute (codes "conaction") element)

-- content without the elements that act
abbrev pub without_acting : Written → Written
without_acting End = End
without_acting (Chars text doc rest) = Chars text doc (without_acting rest)
without_acting (Node element inside rest) =
    if has_conaction element then without_acting rest else Node element (without_acting inside) (without_acting rest)

abbrev pub id_written : Option (List ℕ) → List Attribute
id_written None = []
id_written (Some id) = record { name = codes "id"; value = id } ∷ []

-- the copy of a pushing element; one that replaces another has its id
abbrev pub pushed_element : Element → Element
pushed_element element = record element { attributes = without_names pushing_names element.attributes }

abbrev pub with_id_of : Element → Element → Element
with_id_of replaced element = record element {
  attributes = id_written (attribute (codes "id") replaced) ++ without_names (codes "id" ∷ []) element.attributes;
}

abbrev pub copy_beside : World → Push → Written
copy_beside world push = option_map_or
    (λ (whole : Whole). Node (pushed_element whole.0) (without_acting whole.1) End) (element_in world push.from push.place) End

abbrev pub copy_instead : World → Element → Push → Written
copy_instead world replaced push = option_map_or
    (λ (whole : Whole). Node (with_id_of replaced (pushed_element whole.0)) (without_acting whole.1) End)
    (element_in world push.from push.place) End

abbrev pub all_side_by_side : List Written → Written
all_side_by_side [] = End
all_side_by_side (nodes ∷ more) = side_by_side nodes (all_side_by_side more)

abbrev pub is_before : PushKind → Bool
is_before kinds.Before = true
is_before _ = false

abbrev pub is_after : PushKind → Bool
is_after kinds.After = true
is_after _ = false

-- the pushes of a kind to a place
abbrev pub pushes_at : (PushKind → Bool) → ℕ → List Push → List Push
pushes_at is_kind place pushes = filter (λ (push : Push). is_kind push.kind && (push.at == place)) pushes

abbrev pub itself_or : World → Element → Written → Option Push → Written
itself_or world element inside None = Node element inside End
itself_or world element inside (Some push) = copy_instead world element push

-- what stands at the place of an element that does not act: what is pushed before it, the element or what replaces it, and
-- what is pushed after it
abbrev pub pushed_at : World → List Push → ℕ → Element → Written → Written
pushed_at world pushes place element inside =
    side_by_side (all_side_by_side (map (copy_beside world) (pushes_at is_before place pushes)))
    (side_by_side (itself_or world element inside (find (λ push. true) (pushes_at is_replace place pushes)))
    (all_side_by_side (map (copy_beside world) (pushes_at is_after place pushes))))

-- nodes with the pushes to them, without the elements that act; the first stands at this place
abbrev pub pushed_from : World → List Push → ℕ → Written → Written
pushed_from world pushes place End = End
pushed_from world pushes place (Chars text doc rest) = Chars text doc (pushed_from world pushes (place + 1) rest)
pushed_from world pushes place (Node element inside rest) =
    let further = pushed_from world pushes (place + 1 + size inside) rest in
    if has_conaction element then further
    else side_by_side (pushed_at world pushes place element (pushed_from world pushes (place + 1) inside)) further

-- a document with the pushes of a plan's documents
abbrev pub pushed : World → List (List ℕ) → List ℕ → Option Written
pushed world documents name =
    option_map (pushed_from world (pushes_into world documents name).pushes 0) (document world name)
