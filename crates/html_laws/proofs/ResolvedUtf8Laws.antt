-- Content that is resolved from documents of UTF-8 is UTF-8.
use Rattle.std.specs.Prelude.{◌+◌, ◌-◌, ◌==◌, ℕ, zero, suc, Bool, true, false, not, List, [], ◌∷◌, ◌++◌, Option, Some, None, IfSome, filter, nat_le, nat_lt, option_map, unwrap_or, codes, if◌then◌else◌}
use Rattle.std.specs.List.{AllByRecursion}
use Rattle.std.specs.Option.{option_and_then}
use Rattle.std.specs.Str.{IsUtf8}
use Rattle.dita_doc.specs.declared.doc.Attribute.{Attribute}
use Rattle.dita_doc.specs.declared.fault.Fault.{Fault}
use Rattle.dita_doc.specs.declared.plan.Reference.{Reference}
use Rattle.dita_doc.specs.declared.plan.Target.{Target}
use Rattle.dita_doc.specs.declared.plan.Target.TheVariants as targets
use Rattle.ditaval_rules.specs.Domains.{declared_by}
use Rattle.href_text.specs.Joined.{joined}
use Rattle.href_text.specs.Reference.{reference_of}
use Rattle.map_spec.specs.Elements.{attribute}
use Rattle.map_spec.specs.Judged.{group_faults}
use Rattle.map_spec.specs.Keys.{id_of_key, key_of}
use Rattle.map_spec.specs.Target.{if_read, is_same_topic}
use Rattle.map_spec.specs.Written.{Element, Written, End, Chars, Node, size}
use Rattle.conref_spec.specs.Content.{ContentAround, Followed, Found, Made, Place, Range, Resolve, ResolveInput, Sought, around_for, by_conref, by_key, conref_named, declared_around_written, declared_there, element_made, element_resolved, end_id, followed, followed_from, followed_to, found_by, found_in, goes, has_end_id, has_reference, is_written_in, conkeyref_faults, key_named, made_beside, made_of, made_with, merged_element, names_not_taken, nothing_around, nothing_made, page_root, path_limit, range_behind, range_by, range_from, ranges_made, refused_by, resolved_among, resolved_from, resolved_in, resolved_page, sought_by, specified, taken_or, text_made, takes_href, around_within, unchanged, up_to_end, value_used, without_id}
use Rattle.map_spec.specs.Places.{Standing, target_in}
use Rattle.map_spec.specs.Pushes.{without_names}
use Rattle.html_laws.specs.Utf8.{HasUtf8Value, IsUtf8Content, IsUtf8Element, IsUtf8Target}
use Rattle.html_laws.proofs.ContentUtf8Laws.{utf8_attribute_of, utf8_beside}
use Rattle.html_laws.proofs.DomainUtf8Laws.{AreUtf8Names, utf8_declared_by}
use Rattle.html_laws.proofs.EachLaws.{always, chosen, of_and_then, of_both, of_either, of_kept, of_option, of_option_map}
use Rattle.html_laws.proofs.KeyUtf8Laws.{IsUtf8Answer, utf8_key_of}
use Rattle.html_laws.proofs.PlaceUtf8Laws.{IsUtf8Standing, utf8_target_in}
use Rattle.html_laws.proofs.PushUtf8Laws.{utf8_without_names}
use Rattle.html_laws.proofs.ReferenceUtf8Laws.{IsUtf8Reference, utf8_join, utf8_refer}

pub record IsUtf8Setting (setting : ResolveInput) : Type 0 where
  pub page : IsUtf8 setting.page
  pub pushed : (name : List ℕ) → IsUtf8 name → IfSome (setting.pushed name) IsUtf8Content
  pub key : (key : List ℕ) → IsUtf8 key → IsUtf8Answer (setting.key key)

abbrev IsUtf8Found : Found → Type 0
IsUtf8Found found = IsUtf8Standing found.standing × IsUtf8Content found.nodes

abbrev IsUtf8Range : Range → Type 0
IsUtf8Range range = IsUtf8Content range.nodes × AreUtf8Names range.declared

record IsUtf8Followed (found : Followed) : Type 0 where
  element : IsUtf8Element found.element
  content : IsUtf8Content found.content
  declared : AreUtf8Names found.declared
  ranges : AllByRecursion IsUtf8Range found.ranges

-- Ranges

abbrev IsUtf8Nodes : Option Written → Type 0
IsUtf8Nodes nodes = IfSome nodes IsUtf8Content

utf8_up_to : (id : List ℕ) (nodes : Written) → IsUtf8Content nodes → IsUtf8Nodes (up_to_end id nodes)
utf8_up_to id End all = tt
utf8_up_to id (Chars text doc rest) all =
    of_option_map IsUtf8Content IsUtf8Content (Chars text doc) (up_to_end id rest) (λ nodes is. (all.0, is))
    (utf8_up_to id rest all.1)
utf8_up_to id (Node element inside rest) all =
    chosen IsUtf8Nodes (has_end_id id element) (Some (Node element inside End))
    (option_map (Node element inside) (up_to_end id rest)) (all.0, all.1, tt)
    (of_option_map IsUtf8Content IsUtf8Content (Node element inside) (up_to_end id rest)
    (λ nodes is. (all.0, all.1, is)) (utf8_up_to id rest all.2))

utf8_range_by : (standing : Standing) (value : Option (List ℕ)) → IsUtf8Standing standing
    → IsUtf8Nodes (range_by standing value)
utf8_range_by standing None is = tt
utf8_range_by standing (Some value) is =
    let any : List ℕ → Type 0 = λ id. Unit {0} in
    of_and_then any IsUtf8Content (λ id. range_from id standing.whole.0 standing.behind) (end_id value)
    (λ id one. chosen IsUtf8Nodes (has_end_id id standing.whole.0) (Some End) (up_to_end id standing.behind) tt
    (utf8_up_to id standing.behind is.behind)) (always (end_id value))

utf8_range_behind : (nodes : Written) (around : List (List ℕ)) (path : List Place) → IsUtf8Content nodes
    → AreUtf8Names around → AllByRecursion IsUtf8Range (range_behind nodes around path)
utf8_range_behind End around path all names = tt
utf8_range_behind (Chars text doc rest) around path all names = ((all, names), tt)
utf8_range_behind (Node element inside rest) around path all names = ((all, names), tt)

-- Names that are declared

utf8_around : (around : List (List ℕ)) (nodes : Written) (place : ℕ) → AreUtf8Names around → IsUtf8Content nodes
    → AreUtf8Names (declared_around_written around nodes place)
utf8_around around End place names all = names
utf8_around around (Chars text doc rest) place names all =
    chosen AreUtf8Names (place == 0) around (declared_around_written around rest (place - 1)) names
    (utf8_around around rest (place - 1) names all.1)
utf8_around around (Node element inside rest) place names all =
    let behind = place - (1 + size inside) in
    let within = declared_by around element.attributes in
    chosen AreUtf8Names (place == 0) around
    (if nat_lt (size inside) place then declared_around_written around rest behind
    else declared_around_written within inside (place - 1))
    names
    (chosen AreUtf8Names (nat_lt (size inside) place) (declared_around_written around rest behind)
    (declared_around_written within inside (place - 1)) (utf8_around around rest behind names all.2)
    (utf8_around within inside (place - 1) (utf8_declared_by around element.attributes names all.0.0) all.1))

-- Attributes

utf8_specified : (attributes : List Attribute) → AllByRecursion HasUtf8Value attributes
    → AllByRecursion HasUtf8Value (specified attributes)
utf8_specified attributes all = of_kept HasUtf8Value _ attributes all

utf8_merged : (element target : Element) → IsUtf8Element element → IsUtf8Element target
    → IsUtf8Element (merged_element element target)
utf8_merged element target first second = (
  of_both HasUtf8Value (specified element.attributes)
      (filter (λ (other : Attribute). not (is_written_in (specified element.attributes) other))
      (without_names names_not_taken target.attributes))
      (utf8_specified element.attributes first.0)
      (of_kept HasUtf8Value _ (without_names names_not_taken target.attributes)
      (utf8_without_names names_not_taken target.attributes second.0)),
  first.1,
  chosen IsUtf8 (takes_href element target) target.href_doc element.href_doc second.2 first.2,
)

utf8_without_id : (is_range : Bool) (element : Element) → IsUtf8Element element
    → IsUtf8Element (without_id is_range element)
utf8_without_id true element is = (utf8_without_names (codes "id" ∷ []) element.attributes is.0, is.1, is.2)
utf8_without_id false element is = is

abbrev pub IsUtf8Made : Made → Type 0
IsUtf8Made made = IsUtf8Content made.nodes × AllByRecursion AreUtf8Names made.declared

module _ (setting : ResolveInput) (of_setting : IsUtf8Setting setting) where
  -- Targets

  utf8_found_in : (doc topic element : List ℕ) → IsUtf8 doc → IfSome (found_in setting doc topic element) IsUtf8Found
  utf8_found_in doc topic element named =
      of_and_then IsUtf8Content IsUtf8Found (λ nodes. option_map
      (λ standing. record { doc = doc; nodes = nodes; standing = standing }) (target_in nodes topic element))
      (setting.pushed doc)
      (λ nodes is. of_option_map IsUtf8Standing IsUtf8Found
      (λ standing. record { doc = doc; nodes = nodes; standing = standing }) (target_in nodes topic element)
      (λ standing one. (one, is)) (utf8_target_in nodes topic element is)) (of_setting.pushed doc named)

  abbrev IsUtf8Sought : Option Found → Type 0
  IsUtf8Sought found = IfSome found IsUtf8Found

  utf8_conref_named : (topic : List ℕ) (element : Element) (reference : Reference) → IsUtf8Element element
      → IsUtf8Reference reference → IsUtf8Sought (conref_named setting topic element reference)
  utf8_conref_named topic element reference first second =
      let other = option_and_then (λ doc. found_in setting doc reference.topic reference.element)
      (if_read (joined element.doc reference.file)) in
      chosen IsUtf8Sought (is_same_topic reference) (found_in setting setting.page topic reference.element) other
      (utf8_found_in setting.page topic reference.element of_setting.page)
      (of_and_then IsUtf8 IsUtf8Found (λ doc. found_in setting doc reference.topic reference.element)
      (if_read (joined element.doc reference.file))
      (λ doc is. utf8_found_in doc reference.topic reference.element is)
      (utf8_join element.doc reference.file first.1 second.file))

  utf8_by_conref : (topic : List ℕ) (element : Element) (conref : Option (List ℕ)) → IsUtf8Element element
      → IfSome conref IsUtf8 → IsUtf8Sought (by_conref setting topic element conref)
  utf8_by_conref topic element None first second = tt
  utf8_by_conref topic element (Some conref) first second =
      of_and_then IsUtf8Reference IsUtf8Found (conref_named setting topic element) (if_read (reference_of conref))
      (λ reference is. utf8_conref_named topic element reference first is) (utf8_refer conref second)

  utf8_key_named : (keyref : List ℕ) (target : Target) → IsUtf8Target target
      → IsUtf8Sought (key_named setting keyref target)
  utf8_key_named keyref targets.Nothing is = tt
  utf8_key_named keyref (targets.Local doc reference) is =
      utf8_found_in doc reference.topic (unwrap_or (id_of_key keyref) reference.element) is.0
  utf8_key_named keyref (targets.File name rest) is = tt
  utf8_key_named keyref (targets.Other value) is = tt

  utf8_by_key : (keyref : Option (List ℕ)) → IfSome keyref IsUtf8 → IsUtf8Sought (by_key setting keyref)
  utf8_by_key None is = tt
  utf8_by_key (Some keyref) is =
      utf8_key_named keyref (setting.key (key_of keyref)).target
      (of_setting.key (key_of keyref) (utf8_key_of keyref is)).0

  utf8_found_by : (topic : List ℕ) (element : Element) → IsUtf8Element element
      → IsUtf8Sought (found_by setting topic element (sought_by element))
  utf8_found_by topic element is =
      let conref = attribute (codes "conref") element in
      let conkeyref = attribute (codes "conkeyref") element in
      of_either IsUtf8Found (by_key setting conkeyref) (by_conref setting topic element conref)
      (utf8_by_key conkeyref (utf8_attribute_of (codes "conkeyref") element is.0))
      (utf8_by_conref topic element conref is (utf8_attribute_of (codes "conref") element is.0))

  -- Following

  abbrev FollowsInUtf8 : (List Place → Element → Written → Followed) → Type 0
  FollowsInUtf8 follow = (path : List Place) (element : Element) (inside : Written) → IsUtf8Element element
      → IsUtf8Content inside → IsUtf8Followed (follow path element inside)

  utf8_unchanged : (element : Element) (inside : Written) (path : List Place) (faults : List Fault)
      → IsUtf8Element element → IsUtf8Content inside → IsUtf8Followed (unchanged element inside path faults)
  utf8_unchanged element inside path faults first second =
      record { element = first; content = second; declared = tt; ranges = tt }

  utf8_taken_or : (follow : List Place → Element → Written → Followed) (path : List Place) (element : Element)
      (inside : Written) (before : List Fault) (target : Found) (refused : Option Fault) → FollowsInUtf8 follow
      → IsUtf8Element element → IsUtf8Content inside → IsUtf8Found target
      → IsUtf8Followed (taken_or follow path element inside before target refused)
  utf8_taken_or follow path element inside before target (Some fault) follows first second is =
      utf8_unchanged element inside path (before ++ fault ∷ []) first second
  utf8_taken_or follow path element inside before target None follows first second is =
      let longer = path ++ record { doc = target.doc; at = target.standing.place } ∷ [] in
      let range = unwrap_or (range_by target.standing (attribute (codes "conrefend") element)) End in
      let range_is : IsUtf8Content range =
      of_option IsUtf8Content (range_by target.standing (attribute (codes "conrefend") element)) End
      (utf8_range_by target.standing (attribute (codes "conrefend") element) is.0) tt in
      let around = declared_around_written [] target.nodes target.standing.place in
      let names = utf8_around [] target.nodes target.standing.place tt is.1 in
      let found = follow longer target.standing.whole.0 target.standing.whole.1 in
      let onward = follows longer target.standing.whole.0 target.standing.whole.1 is.0.whole.0 is.0.whole.1 in
      record {
        element = utf8_merged element found.element first onward.element;
        content = onward.content;
        declared = chosen AreUtf8Names found.has_taken found.declared
            (declared_by around target.standing.whole.0.attributes) onward.declared
            (utf8_declared_by around target.standing.whole.0.attributes names is.0.whole.0.0);
        ranges = of_both IsUtf8Range found.ranges (range_behind range around longer) onward.ranges
            (utf8_range_behind range around longer range_is names);
      }

  utf8_followed_to : (follow : List Place → Element → Written → Followed) (depth : ℕ) (path : List Place)
      (element : Element) (inside : Written) (sought : Sought) (target : Option Found) → FollowsInUtf8 follow
      → IsUtf8Element element → IsUtf8Content inside → IsUtf8Sought target
      → IsUtf8Followed (followed_to follow setting depth path element inside sought target)
  utf8_followed_to follow depth path element inside sought None follows first second is =
      utf8_unchanged element inside path _ first second
  utf8_followed_to follow depth path element inside sought (Some target) follows first second is =
      utf8_taken_or follow path element inside (conkeyref_faults setting sought.conkeyref) target
      (refused_by (value_used setting sought) depth path element target) follows first second is

  utf8_followed_from : (steps : ℕ) (topic : List ℕ) (depth : ℕ) → FollowsInUtf8 (followed_from steps setting topic depth)
  unfolding followed_from
  utf8_followed_from zero topic depth path element inside first second =
      utf8_unchanged element inside path [] first second
  utf8_followed_from (suc steps) topic depth path element inside first second =
      let sought = sought_by element in
      let follow = followed_from steps setting topic depth in
      chosen IsUtf8Followed (has_reference sought)
      (followed_to follow setting depth path element inside sought (found_by setting topic element sought))
      (unchanged element inside path [])
      (utf8_followed_to follow depth path element inside sought (found_by setting topic element sought)
      (utf8_followed_from steps topic depth) first second (utf8_found_by topic element first))
      (utf8_unchanged element inside path [] first second)

  -- Resolving

  utf8_made_beside : (first second : Made) → IsUtf8Made first → IsUtf8Made second
      → IsUtf8Made (made_beside first second)
  utf8_made_beside first second one other = (
    utf8_beside first.nodes second.nodes one.0 other.0,
    of_both AreUtf8Names first.declared second.declared one.1 other.1,
  )

  abbrev IsUtf8Around : ContentAround → Type 0
  IsUtf8Around around = AreUtf8Names around.declared

  abbrev ResolvesInUtf8 : Resolve → Type 0
  ResolvesInUtf8 resolve = (is_range : Bool) (around : ContentAround) (depth : ℕ) (path : List Place) (nodes : Written)
      → IsUtf8Around around → IsUtf8Content nodes → IsUtf8Made (resolve is_range around depth path nodes)

  abbrev ResolvesOwnInUtf8 : (ContentAround → Made) → Type 0
  ResolvesOwnInUtf8 own = (here : ContentAround) → IsUtf8Around here → IsUtf8Made (own here)

  utf8_ranges : (resolve : Resolve) (around : ContentAround) (depth : ℕ) (ranges : List Range) → ResolvesInUtf8 resolve
      → AllByRecursion IsUtf8Range ranges → IsUtf8Made (ranges_made resolve around depth ranges)
  utf8_ranges resolve around depth [] resolves all = (tt, tt)
  utf8_ranges resolve around depth (range ∷ ranges) resolves all =
      let there = declared_there range.declared around in
      utf8_made_beside (resolve true there depth range.path range.nodes) (ranges_made resolve around depth ranges)
      (resolves true there depth range.path range.nodes all.0.1 all.0.0)
      (utf8_ranges resolve around depth ranges resolves all.1)

  utf8_element_made : (is_range : Bool) (declared : List (List ℕ)) (element : Element) (content : Made)
      → AreUtf8Names declared → IsUtf8Element element → IsUtf8Made content
      → IsUtf8Made (element_made is_range declared element content)
  utf8_element_made is_range declared element content names first second =
      ((utf8_without_id is_range element first, second.0, tt), (names, second.1))

  utf8_made_of : (resolve : Resolve) (is_range : Bool) (around : ContentAround) (depth : ℕ) (own : ContentAround → Made)
      (found : Followed) → ResolvesInUtf8 resolve → IsUtf8Around around → ResolvesOwnInUtf8 own → IsUtf8Followed found
      → IsUtf8Made (made_of resolve setting is_range around depth own found)
  utf8_made_of resolve is_range around depth own found resolves names owns is =
      let here = around_within is_range found.element around in
      let there = declared_there found.declared here in
      let deeper = resolve false there (depth + 1) found.path found.content in
      let kept = element_made is_range around.declared found.element deeper in
      let none : Made = record nothing_made { count = 1 } in
      let judged = if goes setting around.declared found.element then none else kept in
      chosen IsUtf8Made found.has_taken (made_with (group_faults around.declared found.element) judged)
      (element_made is_range around.declared found.element (own here))
      (chosen IsUtf8Made (goes setting around.declared found.element) none kept (tt, tt)
      (utf8_element_made is_range around.declared found.element deeper names is.element
      (resolves false there (depth + 1) found.path found.content is.declared is.content)))
      (utf8_element_made is_range around.declared found.element (own here) names is.element (owns here names))

  utf8_element : (resolve : Resolve) (is_range : Bool) (around : ContentAround) (depth : ℕ) (path : List Place)
      (element : Element) (inside : Written) (own : ContentAround → Made) → ResolvesInUtf8 resolve → IsUtf8Around around
      → IsUtf8Element element → IsUtf8Content inside → ResolvesOwnInUtf8 own
      → IsUtf8Made (element_resolved resolve setting
      (record { is_range = is_range; around = around; depth = depth; path = path }) element inside own)
  utf8_element resolve is_range around depth path element inside own resolves names first second owns =
      let here = around_for is_range element around in
      let names_here = utf8_declared_by around.declared element.attributes names first.0 in
      let found = followed setting here.topic depth path element inside in
      let found_is = utf8_followed_from (path_limit + 1) here.topic depth path element inside first second in
      let made = made_of resolve setting is_range here depth own found in
      let ranges = ranges_made resolve around depth found.ranges in
      chosen IsUtf8Made (goes setting here.declared element) nothing_made
      (made_with found.faults (made_beside made ranges)) (tt, tt)
      (utf8_made_beside made ranges
      (utf8_made_of resolve is_range here depth own found resolves names_here owns found_is)
      (utf8_ranges resolve around depth found.ranges resolves found_is.ranges))

  utf8_among : (resolve : Resolve) (is_range : Bool) (around : ContentAround) (depth : ℕ) (path : List Place)
      (nodes : Written)
      → ResolvesInUtf8 resolve → IsUtf8Around around → IsUtf8Content nodes
      → IsUtf8Made (resolved_among resolve setting is_range around depth path nodes)
  utf8_among resolve is_range around depth path End resolves names all = (tt, tt)
  utf8_among resolve is_range around depth path (Chars text doc rest) resolves names all =
      utf8_made_beside (text_made text doc) (resolved_among resolve setting is_range around depth path rest)
      ((all.0, tt), (tt, tt)) (utf8_among resolve is_range around depth path rest resolves names all.1)
  utf8_among resolve is_range around depth path (Node element inside rest) resolves names all =
      let own = λ (here : ContentAround). resolved_among resolve setting false here (depth + 1) path inside in
      utf8_made_beside (element_resolved resolve setting
      (record { is_range = is_range; around = around; depth = depth; path = path }) element inside own)
      (resolved_among resolve setting is_range around depth path rest)
      (utf8_element resolve is_range around depth path element inside own resolves names all.0 all.1
      (λ here known. utf8_among resolve false here (depth + 1) path inside resolves known all.1))
      (utf8_among resolve is_range around depth path rest resolves names all.2)

  utf8_resolved_from : (steps : ℕ) → ResolvesInUtf8 (resolved_from steps setting)
  unfolding resolved_from
  utf8_resolved_from zero is_range around depth path nodes names all = (tt, tt)
  utf8_resolved_from (suc steps) is_range around depth path nodes names all =
      utf8_among (resolved_from steps setting) is_range around depth path nodes (utf8_resolved_from steps) names all

  pub utf8_resolved : (limit : ℕ) (faults : List Fault) → IsUtf8Made (resolved_page limit faults setting)
  utf8_resolved limit faults =
      let root = page_root setting in
      let root_is : IsUtf8Content root =
      of_option IsUtf8Content (setting.pushed setting.page) End (of_setting.pushed setting.page of_setting.page) tt in
      let made = resolved_in setting nothing_around 1 root in
      let none : Made = record { nodes = End; declared = []; count = limit + 1; faults = faults } in
      chosen IsUtf8Made (nat_le made.count limit) made none
      (utf8_resolved_from (path_limit + 1) false nothing_around 1 [] root tt root_is) (tt, tt)
