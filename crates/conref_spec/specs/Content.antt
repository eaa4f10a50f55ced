-- Content with its references resolved (DITA 1.3, "Content reference (conref)", "Processing conrefs", "Processing attributes
-- when resolving conrefs", "The @conrefend attribute", "The @conkeyref attribute"). The limits, the order of the tests,
-- what is counted, and what an element keeps after a fault, are our own.
use Rattle.std.specs.Prelude.{◌+◌, ◌-◌, ◌==◌, ◌&&◌, ◌||◌, ℕ, zero, suc, Bool, true, false, not, List, [], ◌∷◌, ◌++◌, Option, Some, None, filter, is_some, length, nat_le, nat_lt, option_map, unwrap_or, codes, bytes_eq, if◌then◌else◌}
use Rattle.std.specs.List.{list_any}
use Rattle.std.specs.Option.{option_and_then, option_or}
use Rattle.dita_doc.specs.ClassValue.{value_of}
use Rattle.dita_doc.specs.Tree.{has_href}
use Rattle.dita_doc.specs.declared.content.KeyAnswer.{KeyAnswer}
use Rattle.dita_doc.specs.declared.content.Rule.{Rule}
use Rattle.dita_doc.specs.declared.doc.Attribute.{Attribute}
use Rattle.dita_doc.specs.declared.fault.Fault.{Fault}
use Rattle.dita_doc.specs.declared.fault.FaultCode.TheVariants as faults
use Rattle.dita_doc.specs.declared.plan.Reference.{Reference}
use Rattle.dita_doc.specs.declared.plan.Target.{Target}
use Rattle.dita_doc.specs.declared.plan.Target.TheVariants as targets
use Rattle.ditaval_rules.specs.Domains.{declared_by}
use Rattle.ditaval_rules.specs.Verdict.{excluded}
use Rattle.href_text.specs.Joined.{joined}
use Rattle.href_text.specs.Reference.{reference_of}
use Rattle.map_spec.specs.Elements.{attribute, fault_at, has_value, is_special}
use Rattle.map_spec.specs.Judged.{group_faults}
use Rattle.map_spec.specs.Keys.{id_of_key, key_of}
use Rattle.map_spec.specs.Target.{if_read, is_same_topic}
use Rattle.map_spec.specs.Titles.{id_of}
use Rattle.map_spec.specs.Written.{Element, Written, End, Chars, Node, side_by_side, size}
use Rattle.map_spec.specs.Places.{Standing, is_topic, target_in}
use Rattle.map_spec.specs.Pushes.{without_names}

-- Where a page is resolved: its document, the documents with their pushes, the keys of its scope, and the rules by which an
-- element is judged: those of the build and of each filter of the page
pub record ResolveInput : Type 0 where
  pub page : List ℕ
  pub pushed : List ℕ → Option Written
  pub key : List ℕ → KeyAnswer
  pub rules : List (List Rule)

-- a target that is being resolved: a place of a document with its pushes
pub record Place : Type 0 where
  pub doc : List ℕ
  pub at : ℕ

abbrev pub is_place : Place → Place → Bool
is_place place other = bytes_eq place.doc other.doc && (place.at == other.at)

abbrev pub path_limit : ℕ
path_limit = 32

abbrev pub resolve_depth_limit : ℕ
resolve_depth_limit = 256

-- What is made: nodes, for each of them in document order the names of conditional attributes that are declared for it,
-- how many were resolved, and the faults

pub record Made : Type 0 where
  pub nodes : Written
  pub declared : List (List (List ℕ))
  pub count : ℕ
  pub faults : List Fault

abbrev pub nothing_made : Made
nothing_made = record { nodes = End; declared = []; count = 0; faults = [] }

abbrev pub made_beside : Made → Made → Made
made_beside first second = record {
  nodes = side_by_side first.nodes second.nodes;
  declared = first.declared ++ second.declared;
  count = first.count + second.count;
  faults = first.faults ++ second.faults;
}

abbrev pub made_with : List Fault → Made → Made
made_with faults made = record made { faults = faults ++ made.faults }

-- Judging

-- the names of conditional attributes that are declared around the node at a place, counted from the first of these nodes
abbrev pub declared_around_written : List (List ℕ) → Written → ℕ → List (List ℕ)
declared_around_written around End place = around
declared_around_written around (Chars text doc rest) place =
    if place == 0 then around else declared_around_written around rest (place - 1)
declared_around_written around (Node element inside rest) place =
    if place == 0 then around
    else if nat_lt (size inside) place then declared_around_written around rest (place - (1 + size inside))
    else declared_around_written (declared_by around element.attributes) inside (place - 1)

-- an element goes by the rules and by the names that are declared for it where it was written
abbrev pub goes : ResolveInput → List (List ℕ) → Element → Bool
goes setting declared element = list_any (λ rules. excluded rules declared element.attributes) setting.rules

-- Targets

-- an element found in a document
pub record Found : Type 0 where
  pub doc : List ℕ
  pub nodes : Written
  pub standing : Standing

abbrev pub found_in : ResolveInput → List ℕ → List ℕ → List ℕ → Option Found
found_in setting doc topic element = option_and_then (λ nodes.
    option_map (λ standing. record { doc = doc; nodes = nodes; standing = standing }) (target_in nodes topic element))
    (setting.pushed doc)

-- `#./element` means the page's document, and in it the topic where the element stands now
abbrev pub conref_named : ResolveInput → List ℕ → Element → Reference → Option Found
conref_named setting topic element reference = if is_same_topic reference
    then found_in setting setting.page topic reference.element
    else option_and_then (λ doc. found_in setting doc reference.topic reference.element)
    (if_read (joined element.doc reference.file))

abbrev pub by_conref : ResolveInput → List ℕ → Element → Option (List ℕ) → Option Found
by_conref setting topic element None = None
by_conref setting topic element (Some conref) =
    option_and_then (conref_named setting topic element) (if_read (reference_of conref))

-- the element of a key reference is its id, else the element that the key's reference names
abbrev pub key_named : ResolveInput → List ℕ → Target → Option Found
key_named setting keyref (targets.Local doc reference) =
    found_in setting doc reference.topic (unwrap_or (id_of_key keyref) reference.element)
key_named setting keyref _ = None

abbrev pub by_key : ResolveInput → Option (List ℕ) → Option Found
by_key setting None = None
by_key setting (Some keyref) = key_named setting keyref (setting.key (key_of keyref)).target

abbrev pub conkeyref_faults : ResolveInput → Option (List ℕ) → List Fault
conkeyref_faults setting None = []
conkeyref_faults setting (Some keyref) = (setting.key (key_of keyref)).faults

-- A reference of an element: what it names, and the value that does

pub record Sought : Type 0 where
  pub conref : Option (List ℕ)
  pub conkeyref : Option (List ℕ)

abbrev pub sought_by : Element → Sought
sought_by element = record {
  conref = attribute (codes "conref") element;
  conkeyref = attribute (codes "conkeyref") element;
}

abbrev pub has_reference : Sought → Bool
has_reference sought = is_some sought.conref || is_some sought.conkeyref

-- the key comes first, and the value where that fails
abbrev pub found_by : ResolveInput → List ℕ → Element → Sought → Option Found
found_by setting topic element sought =
    option_or (by_key setting sought.conkeyref) (by_conref setting topic element sought.conref)

abbrev pub value_used : ResolveInput → Sought → List ℕ
value_used setting sought = if is_some (by_key setting sought.conkeyref)
    then unwrap_or sought.conkeyref [] else unwrap_or (option_or sought.conref sought.conkeyref) []

-- without a value beside it, an undefined key is told by its name
abbrev pub missing_fault : ResolveInput → Element → Sought → Fault
missing_fault setting element sought = if is_some sought.conref || is_some
    (option_and_then (λ keyref. (setting.key (key_of keyref)).node) sought.conkeyref)
    then fault_at element faults.ConrefMissing (value_used setting sought)
    else fault_at element faults.KeyUndefined (key_of (unwrap_or sought.conkeyref []))

-- Ranges: what stands behind the target up to the first sibling with the id of the end

abbrev pub end_id : List ℕ → Option (List ℕ)
end_id value = option_and_then (λ (reference : Reference).
    if length reference.element == 0 then None else Some reference.element) (if_read (reference_of value))

abbrev pub has_end_id : List ℕ → Element → Bool
has_end_id id element = has_value (codes "id") id element

-- the nodes up to and with the one that ends the range
abbrev pub up_to_end : List ℕ → Written → Option Written
up_to_end id End = None
up_to_end id (Chars text doc rest) = option_map (Chars text doc) (up_to_end id rest)
up_to_end id (Node element inside rest) = if has_end_id id element then Some (Node element inside End)
    else option_map (Node element inside) (up_to_end id rest)

-- the target itself may be the end
abbrev pub range_from : List ℕ → Element → Written → Option Written
range_from id element behind = if has_end_id id element then Some End else up_to_end id behind

abbrev pub range_of : Standing → List ℕ → Option Written
range_of standing value = option_and_then (λ id. range_from id standing.whole.0 standing.behind) (end_id value)

-- an element without an end has no range
abbrev pub range_by : Standing → Option (List ℕ) → Option Written
range_by standing None = Some End
range_by standing (Some value) = range_of standing value

-- Attributes

abbrev pub use_target : List ℕ
use_target = codes "-dita-use-conref-target"

-- the values that an element leaves to its target count as not written
abbrev pub specified : List Attribute → List Attribute
specified attributes = filter (λ (written : Attribute). not (bytes_eq written.value use_target)) attributes

abbrev pub is_written_in : List Attribute → Attribute → Bool
is_written_in attributes other = is_some (value_of other.name attributes)

abbrev pub names_not_taken : List (List ℕ)
names_not_taken =
    codes "id" ∷ codes "conref" ∷ codes "conkeyref" ∷ codes "conrefend" ∷ codes "conaction" ∷ []

-- the element's own attributes, and those of its target that it has not
abbrev pub merged_attributes : List Attribute → List Attribute → List Attribute
merged_attributes own taken = specified own
    ++ filter (λ (other : Attribute). not (is_written_in (specified own) other)) (without_names names_not_taken taken)

abbrev pub takes_href : Element → Element → Bool
takes_href element target = not (has_href (specified element.attributes)) && has_href target.attributes

abbrev pub merged_element : Element → Element → Element
merged_element element target = record element {
  attributes = merged_attributes element.attributes target.attributes;
  href_doc = if takes_href element target then target.href_doc else element.href_doc;
}

-- Following references: the element with what it takes, whose content counts, the targets that this is resolved within, the
-- ranges that come behind, whether anything was taken, and the faults. `declared` are the names of conditional attributes
-- that are declared where nodes were written: those around a range, and those around what the target holds

pub record Range : Type 0 where
  pub nodes : Written
  pub declared : List (List ℕ)
  pub path : List Place

pub record Followed : Type 0 where
  pub element : Element
  pub content : Written
  pub declared : List (List ℕ)
  pub path : List Place
  pub ranges : List Range
  pub has_taken : Bool
  pub faults : List Fault

abbrev pub unchanged : Element → Written → List Place → List Fault → Followed
unchanged element inside path faults = record {
  element = element;
  content = inside;
  declared = [];
  path = path;
  ranges = [];
  has_taken = false;
  faults = faults;
}

abbrev pub range_behind : Written → List (List ℕ) → List Place → List Range
range_behind End around path = []
range_behind nodes around path = record { nodes = nodes; declared = around; path = path } ∷ []

-- the names declared for what a target holds: where it took something itself, for what this holds
abbrev pub declared_for : List (List ℕ) → Element → Followed → List (List ℕ)
declared_for around written target = if target.has_taken then target.declared else declared_by around written.attributes

-- the element with what its target, which was written so and is followed in turn, gives it; `around` are the names declared
-- around the target
abbrev pub taken : Element → List (List ℕ) → Element → Written → List Place → List Fault → Followed → Followed
taken element around written range path faults target = record {
  element = merged_element element target.element;
  content = target.content;
  declared = declared_for around written target;
  path = target.path;
  ranges = target.ranges ++ range_behind range around path;
  has_taken = true;
  faults = faults ++ target.faults;
}

-- the faults that keep a target from being taken, in the order in which they are tried
abbrev pub refused_by : List ℕ → ℕ → List Place → Element → Found → Option Fault
refused_by value depth path element target =
    if not (is_special target.standing.whole.0 element) then Some (fault_at element faults.ConrefType value)
    else if not (is_some (range_by target.standing (attribute (codes "conrefend") element)))
    then Some (fault_at element faults.RangeEnd (unwrap_or (attribute (codes "conrefend") element) []))
    else if list_any (is_place (record { doc = target.doc; at = target.standing.place })) path
    then Some (fault_at element faults.ConrefCycle value)
    else if nat_le path_limit (length path) || nat_lt resolve_depth_limit depth
    then Some (fault_at element faults.ConrefDepth value)
    else None

abbrev pub taken_or : (List Place → Element → Written → Followed) → List Place → Element → Written → List Fault → Found
    → Option Fault → Followed
taken_or follow path element inside before target (Some fault) = unchanged element inside path (before ++ fault ∷ [])
taken_or follow path element inside before target None =
    let longer = path ++ record { doc = target.doc; at = target.standing.place } ∷ [] in
    taken element (declared_around_written [] target.nodes target.standing.place) target.standing.whole.0
    (unwrap_or (range_by target.standing (attribute (codes "conrefend") element)) End) longer before
    (follow longer target.standing.whole.0 target.standing.whole.1)

abbrev pub followed_to : (List Place → Element → Written → Followed) → ResolveInput → ℕ → List Place → Element → Written → Sought
    → Option Found → Followed
followed_to follow setting depth path element inside sought None = unchanged element inside path
    (conkeyref_faults setting sought.conkeyref ++ missing_fault setting element sought ∷ [])
followed_to follow setting depth path element inside sought (Some target) =
    taken_or follow path element inside (conkeyref_faults setting sought.conkeyref) target
    (refused_by (value_used setting sought) depth path element target)

-- a path has at most so many targets, so that one step more is enough
unfoldable pub followed_from : ℕ → ResolveInput → List ℕ → ℕ → List Place → Element → Written → Followed
followed_from zero setting topic depth path element inside = unchanged element inside path []
followed_from (suc steps) setting topic depth path element inside =
    let sought = sought_by element in
    if has_reference sought
    then followed_to (followed_from steps setting topic depth) setting depth path element inside sought
    (found_by setting topic element sought)
    else unchanged element inside path []

abbrev pub followed : ResolveInput → List ℕ → ℕ → List Place → Element → Written → Followed
followed setting topic depth path element inside =
    followed_from (path_limit + 1) setting topic depth path element inside

-- Resolving: what stands in the place of each node

-- What is around nodes: the id of the nearest topic, where they stand now, and the names of conditional attributes that are
-- declared around them, where they were written
pub record ContentAround : Type 0 where
  pub topic : List ℕ
  pub declared : List (List ℕ)

abbrev pub nothing_around : ContentAround
nothing_around = record { topic = []; declared = [] }

-- the id that a topic's content sees; an element of a range has none
abbrev pub id_seen : Bool → List ℕ → List ℕ
id_seen is_range id = if is_range || bytes_eq id use_target then [] else id

abbrev pub topic_before_merge : Bool → Element → List ℕ → List ℕ
topic_before_merge is_range element topic = if is_topic element then id_seen is_range (id_of element) else topic

-- once it is merged, the id that it has then
abbrev pub topic_after_merge : Bool → Element → List ℕ → List ℕ
topic_after_merge is_range element topic =
    if is_topic element && not is_range then id_of element else topic

-- what counts for an element itself, as it was written
abbrev pub around_for : Bool → Element → ContentAround → ContentAround
around_for is_range element around = record {
  topic = topic_before_merge is_range element around.topic;
  declared = declared_by around.declared element.attributes;
}

-- what is around the nodes that it holds, once it is merged
abbrev pub around_within : Bool → Element → ContentAround → ContentAround
around_within is_range element around = record around { topic = topic_after_merge is_range element around.topic }

-- what was written elsewhere has the names that are declared there
abbrev pub declared_there : List (List ℕ) → ContentAround → ContentAround
declared_there declared around = record around { declared = declared }

abbrev pub without_id : Bool → Element → Element
without_id is_range element = if is_range
    then record element { attributes = without_names (codes "id" ∷ []) element.attributes } else element

-- resolves nodes within longer paths: whether they are of a range, what is around them, the depth where they stand, the path
abbrev pub Resolve : Type 0
Resolve = Bool → ContentAround → ℕ → List Place → Written → Made

abbrev pub ranges_made : Resolve → ContentAround → ℕ → List Range → Made
ranges_made resolve around depth [] = nothing_made
ranges_made resolve around depth (range ∷ ranges) =
    made_beside (resolve true (declared_there range.declared around) depth range.path range.nodes)
    (ranges_made resolve around depth ranges)

-- an element that stays, for which these names are declared, with its content
abbrev pub element_made : Bool → List (List ℕ) → Element → Made → Made
element_made is_range declared element content = record content {
  nodes = Node (without_id is_range element) content.nodes End;
  declared = declared ∷ content.declared;
  count = 1 + content.count;
}

-- what was taken is judged once more, by the names declared for the element itself; the element counts also if it goes
abbrev pub made_of : Resolve → ResolveInput → Bool → ContentAround → ℕ → (ContentAround → Made) → Followed → Made
made_of resolve setting is_range here depth own found = if found.has_taken
    then made_with (group_faults here.declared found.element) (if goes setting here.declared found.element
    then record nothing_made { count = 1 }
    else element_made is_range here.declared found.element
    (resolve false (declared_there found.declared (around_within is_range found.element here)) (depth + 1) found.path
    found.content))
    else element_made is_range here.declared found.element (own (around_within is_range found.element here))

-- where an element is resolved: whether it is one of a range, what is around it, how deep it stands, and the path of
-- the places that led to it
pub record Position : Type 0 where
  pub is_range : Bool
  pub around : ContentAround
  pub depth : ℕ
  pub path : List Place

-- `own` resolves the content of the element itself, for what is around that
abbrev pub element_resolved : Resolve → ResolveInput → Position → Element → Written → (ContentAround → Made) → Made
element_resolved resolve setting at element inside own =
    let here = around_for at.is_range element at.around in
    let found = followed setting here.topic at.depth at.path element inside in
    made_with (group_faults here.declared element) (if goes setting here.declared element then nothing_made
    else made_with found.faults (made_beside (made_of resolve setting at.is_range here at.depth own found)
    (ranges_made resolve at.around at.depth found.ranges)))

-- for a text no names are declared
abbrev pub text_made : List ℕ → List ℕ → Made
text_made text doc = record { nodes = Chars text doc End; declared = [] ∷ []; count = 1; faults = [] }

abbrev pub resolved_among : Resolve → ResolveInput → Bool → ContentAround → ℕ → List Place → Written → Made
resolved_among resolve setting is_range around depth path End = nothing_made
resolved_among resolve setting is_range around depth path (Chars text doc rest) =
    made_beside (text_made text doc) (resolved_among resolve setting is_range around depth path rest)
resolved_among resolve setting is_range around depth path (Node element inside rest) = made_beside
    (element_resolved resolve setting
    (record { is_range = is_range; around = around; depth = depth; path = path }) element inside
    (λ here. resolved_among resolve setting false here (depth + 1) path inside))
    (resolved_among resolve setting is_range around depth path rest)

-- each step is within a longer path
unfoldable pub resolved_from : ℕ → ResolveInput → Resolve
resolved_from zero setting is_range around depth path nodes = nothing_made
resolved_from (suc steps) setting is_range around depth path nodes =
    resolved_among (resolved_from steps setting) setting is_range around depth path nodes

-- nodes of the page's document, with this around them and at this depth
abbrev pub resolved_in : ResolveInput → ContentAround → ℕ → Written → Made
resolved_in setting around depth nodes = resolved_from (path_limit + 1) setting false around depth [] nodes

abbrev pub count_limit : ℕ
count_limit = 262144

-- content of too many nodes is none, with this one fault
abbrev pub within : ℕ → List Fault → Made → Made
within limit fault made =
    if nat_le made.count limit then made
    else record { nodes = End; declared = []; count = limit + 1; faults = fault }

abbrev pub page_root : ResolveInput → Written
page_root setting = unwrap_or (setting.pushed setting.page) End

-- the whole document of a page; `fault` stands at its root as stored
abbrev pub resolved_page : ℕ → List Fault → ResolveInput → Made
resolved_page limit fault setting = within limit fault (resolved_in setting nothing_around 1 (page_root setting))
