-- An element of siblings where nodes are resolved, from where it was judged to where all of it was put.
use Rattle.std.specs.Prelude.{◌≡◌, ◌+◌, ◌++◌, ◌<◌, ◌≤◌, ℕ, Bool, true, false, List, [], ◌∷◌, Option, Some, Result, Ok, Err, IsErrAnd, is_some, length, slice_get}
use Rattle.std.proofs.Common.{refl, sym, ap, subst, ◌∙◌}
use Rattle.dita_doc.specs.Siblings.{doc_of_siblings}
use Rattle.dita_doc.specs.declared.doc.Doc.{Doc}
use Rattle.dita_doc.specs.declared.doc.Node.{Node}
use Rattle.dita_doc.specs.declared.siblings.Siblings.{Siblings}
use Rattle.dita_doc.specs.declared.stop.Stop.{Stop}
use Rattle.ditaval_rules.specs.Domains.{declared_by}
use Rattle.doc_elements.specs.Walk.{element_of}
use Rattle.map_spec.specs.Elements.{has_types}
use Rattle.map_spec.specs.Judged.{group_faults}
use Rattle.map_spec.specs.Written.{Element, Written}
use Rattle.conref_spec.specs.Content.{ContentAround, Place, ResolveInput, around_for, followed, goes, merged_element, sought_by, topic_before_merge}
use Rattle.reader_spec.specs.World.{World}
use Rattle.readers.specs.Setting.{Stand}
use Rattle.conref_targets.specs.Asking.{element_around}
use Rattle.conref_targets.specs.Origin.{named_content}
use Rattle.conref_targets.specs.Rules.{some_exclude}
use Rattle.conref_targets.specs.ResolveInput.{documents_in, setting_of}
use Rattle.conref_targets.specs.Sought.{if_reference, sought_found}
use Rattle.conref_targets.specs.Tables.{AreTables}
use Rattle.conref_targets.specs.declared.reference.Sought.{Sought}
use Rattle.conref_targets.specs.declared.tables.PlaceTables.{PlaceTables}
use Rattle.conref_targets.proofs.OriginLaws.{around_is}
use Rattle.conref_pull.specs.Linked.{AreLinks, IsFollowed}
use Rattle.conref_pull.specs.State.{IsDepth, IsSamePage, path_within}
use Rattle.conref_pull.specs.Step.{Taken, declared_inside, merged_onto}
use Rattle.conref_pull.specs.Walking.{Here, IsReady, IsWalked, Walks, kept_made, merged_made, ranges_put, seen_by, whole_made}
use Rattle.conref_pull.specs.declared.chain.TakenTarget.{TakenTarget}
use Rattle.conref_pull.specs.declared.resolver.Resolver.{Resolver}
use Rattle.conref_pull.specs.declared.resolver.TooMany.{TooMany}
use Rattle.conref_pull.proofs.AroundLaws.{goes_as}
use Rattle.conref_pull.proofs.ChainLaws.{Took, asked_here, gone_walked, kept_ready, kept_walks, plain_walks, ready_judged, took, took_not, took_ready, took_walks, walk_there, within_end}
use Rattle.conref_pull.proofs.WalkLaws.{ready_after, walked_within, walks_as, walks_err}

-- It was judged: it goes, or has no reference

module _ {world : World} {stand : Stand} {links : ℕ} {here : Here} {doc : Doc} {a0 a : Resolver} {places : PlaceTables}
    (is_range : Bool) (around : ContentAround) (siblings : Siblings) (node : Node) (origin : List ℕ)
    (declared : List (List ℕ))
    (of : doc ≡ doc_of_siblings siblings) (name : Some origin ≡ slice_get doc.origins node.origin)
    (declares : declared ≡ declared_by around.declared node.attributes)
    (judged : a ≡ record a0 { faults = a0.faults ++ group_faults declared (element_of origin node) })
    (ready : IsReady world stand links here a0 places) where
  same_element : element_of origin node ≡ element_around siblings node
  same_element = around_is siblings node origin (name ∙ ap (λ (d : Doc). slice_get d.origins node.origin) of)

  whole_is : (result : Result (Unit {0}) (Stop TooMany)) (d : Resolver) (after : PlaceTables)
      → Walks result here.setting.pushed links
      (whole_made here is_range around (element_of origin node) (named_content siblings)) a0 d after
      → Walks result here.setting.pushed links
      (whole_made here is_range around (element_around siblings node) (named_content siblings)) a0 d after
  whole_is result d after walked = subst (λ (e : Element). Walks result here.setting.pushed links
      (whole_made here is_range around e (named_content siblings)) a0 d after) same_element walked

  now : IsReady world stand links here a places
  now = ready_judged world stand links here (a0.faults ++ group_faults declared (element_of origin node)) a0 a places
      ready judged

  judged_is : a ≡ record a0 {
    faults = a0.faults ++ group_faults (declared_by around.declared node.attributes) (element_of origin node);
  }
  judged_is = subst (λ (names : List (List ℕ)). a ≡ record a0 {
    faults = a0.faults ++ group_faults names (element_of origin node);
  }) declares judged

  goes_by : (test : Bool) → test ≡ some_exclude a0.rules declared node.attributes
      → goes here.setting (declared_by around.declared node.attributes) (element_of origin node) ≡ test
  goes_by test by = ap (λ (names : List (List ℕ)). goes here.setting names (element_of origin node)) (sym declares)
      ∙ sym (goes_as here.setting a0.rules declared (element_of origin node) node.attributes
      (ap (λ (s : ResolveInput). s.rules) ready.setting) refl) ∙ sym by

  pub judged_gone : true ≡ some_exclude a0.rules declared node.attributes
      → IsWalked here.setting.pushed links
      (whole_made here is_range around (element_around siblings node) (named_content siblings)) a0 a places
  judged_gone gone = whole_is (Ok tt) a places
      (gone_walked here links is_range around (element_of origin node) (named_content siblings) a0 a places judged_is
      (goes_by true gone) (sym now.path) ready.path now.within now.room now.tables)

  pub judged_plain : (result : Result (Unit {0}) (Stop TooMany)) (sought : Option Sought) (d : Resolver)
      (after : PlaceTables) → false ≡ some_exclude a0.rules declared node.attributes
      → sought_found sought ≡ if_reference (sought_by (element_of origin node)) → is_some sought ≡ false
      → (IsReady world stand links here a places → Walks result here.setting.pushed links
      (kept_made here is_range (seen_by (topic_before_merge is_range (element_of origin node) around.topic) declared)
      (element_of origin node) (named_content siblings)) a d after)
      → Walks result here.setting.pushed links
      (whole_made here is_range around (element_around siblings node) (named_content siblings)) a0 d after
  judged_plain result sought d after left by none walked = whole_is result d after
      (plain_walks result here links is_range around (element_of origin node)
      (named_content siblings) sought a0 a d after judged_is (goes_by false left) by none
      (subst (λ (names : List (List ℕ)). Walks result here.setting.pushed links
      (kept_made here is_range (seen_by (topic_before_merge is_range (element_of origin node) around.topic) names)
      (element_of origin node) (named_content siblings)) a d after) declares (walked now)))

-- It stays, and its reference was followed: it takes nothing, or what is merged, with the ranges behind it

module _ {world : World} {stand later : Stand} {links end : ℕ} {here : Here} {seen : List ℕ} {doc : Doc}
    {items : List TakenTarget} {a0 a b : Resolver} {places between : PlaceTables}
    (is_range : Bool) (around : ContentAround) (siblings : Siblings) (node : Node) (origin : List ℕ)
    (declared : List (List ℕ))
    (of : doc ≡ doc_of_siblings siblings) (name : Some origin ≡ slice_get doc.origins node.origin)
    (declares : declared ≡ declared_by around.declared node.attributes)
    (judged : a ≡ record a0 { faults = a0.faults ++ group_faults declared (element_of origin node) })
    (left : false ≡ some_exclude a0.rules declared node.attributes)
    (sees : seen ≡ topic_before_merge is_range (element_of origin node) around.topic) (page : IsSamePage a b) (stands : later ≡ stand)
    (ready : IsReady world stand links here a0 places)
    (known : AreTables (documents_in world stand.setting) places → IsDepth a here.depth → links ≤ length a.path.items
    → IsFollowed (documents_in world stand.setting) (element_of origin node) (named_content siblings)
    (followed (setting_of world stand.setting a.context.now.page a.rules) seen here.depth (path_within a links)
    (element_of origin node) (named_content siblings)) [] items links end a b between) where
  abbrev element : Element
  element = element_of origin node

  abbrev inside : Written
  inside = named_content siblings

  abbrev shown : ContentAround
  shown = around_for is_range element around

  shows : seen_by seen declared ≡ shown
  shows = ap (λ (topic : List ℕ). seen_by topic declared) sees
      ∙ ap (seen_by (topic_before_merge is_range element around.topic)) declares

  is_judged : a ≡ record a0 {
    faults = a0.faults ++ group_faults (declared_by around.declared element.attributes) element;
  }
  is_judged = judged_is is_range around siblings node origin declared of name declares judged ready

  first : IsReady world stand links here a places
  first = now is_range around siblings node origin declared of name declares judged ready

  stays : goes here.setting (declared_by around.declared element.attributes) element ≡ false
  stays = goes_by is_range around siblings node origin declared of name declares judged ready false left

  all_is : (result : Result (Unit {0}) (Stop TooMany)) (d : Resolver) (after : PlaceTables)
      → Walks result here.setting.pushed links (whole_made here is_range around element inside) a0 d after
      → Walks result here.setting.pushed links
      (whole_made here is_range around (element_around siblings node) (named_content siblings)) a0 d after
  all_is = whole_is is_range around siblings node origin declared of name declares judged ready

  follows : IsFollowed here.setting.pushed element inside (followed here.setting shown.topic here.depth here.path element
      inside) [] items links end a b between
  follows = asked_here world stand links end here shown.topic seen element inside items a b places between first sees known

  next : IsReady world later links here b between
  next = kept_ready here links end is_range around element inside items a0 a b between is_judged stays first.path follows
      world stand later places first page stands

  pub asked_kept : (result : Result (Unit {0}) (Stop TooMany)) (d : Resolver) (after : PlaceTables) → end ≤ links
      → (IsReady world later links here b between → Walks result here.setting.pushed links
      (kept_made here is_range (seen_by (topic_before_merge is_range (element_of origin node) around.topic) declared)
      (element_of origin node) (named_content siblings)) b d after)
      → Walks result here.setting.pushed links
      (whole_made here is_range around (element_around siblings node) (named_content siblings)) a0 d after
  asked_kept result d after none walked = all_is result d after
      (kept_walks here links end is_range around element inside items a0 a b between is_judged stays first.path follows
      result d after none (subst (λ (names : List (List ℕ)). Walks result here.setting.pushed links
      (kept_made here is_range (seen_by (topic_before_merge is_range element around.topic) names) element inside) b
      d after)
      declares (walked next)))

  taken : links < end → end ≤ 32
      → Took here links end is_range around element inside items a0 a b between is_judged stays first.path follows
  taken some limit = took here links end is_range around element inside items a0 a b between is_judged stays first.path
      follows some limit first.steps

  -- what is merged, within the targets that were taken
  merged_is : (result : Result (Unit {0}) (Stop TooMany)) (d : Resolver) (after : PlaceTables) (some : links < end)
      (limit : end ≤ 32) → let t = taken some limit in
      ((there : Here) (farthest : Taken) (nearer : List Taken) → IsReady world later end there b between
      → AreLinks there.path end (farthest ∷ nearer) items → has_types element ≡ true
      → Walks result there.setting.pushed end (merged_made there is_range (seen_by seen declared) (declared_inside farthest)
      (merged_element element (merged_onto farthest.element nearer)) farthest.inside) b d after)
      → Walks result here.setting.pushed end (merged_made (walk_there b end here t.steps) is_range shown (declared_inside t.farthest)
      (merged_element element (merged_onto t.farthest.element t.nearer)) t.farthest.inside) b d after
  merged_is result d after some limit walked =
      let t = taken some limit in
      let there = walk_there b end here t.steps in
      let whole = merged_element element (merged_onto t.farthest.element t.nearer) in
      walks_as result here.setting.pushed end (merged_made there is_range (seen_by seen declared) (declared_inside t.farthest) whole t.farthest.inside)
      (merged_made there is_range shown (declared_inside t.farthest) whole t.farthest.inside) b d after
      (ap (λ (seen : ContentAround). merged_made there is_range seen (declared_inside t.farthest) whole t.farthest.inside) shows)
      (walked there t.farthest t.nearer
      (took_ready here links end is_range around element inside items a0 a b between is_judged stays first.path follows
      world stand later places t first page stands limit) t.linked t.types)

  pub asked_not : (result : Result (Unit {0}) (Stop TooMany)) (stop : Stop TooMany) (d : Resolver) (after : PlaceTables)
      → IsErrAnd result (λ e. e ≡ stop) → links < end → (links < end → end ≤ 32)
      → ((there : Here) (farthest : Taken) (nearer : List Taken) → IsReady world later end there b between
      → AreLinks there.path end (farthest ∷ nearer) items → has_types (element_of origin node) ≡ true
      → Walks (Err stop) there.setting.pushed end (merged_made there is_range (seen_by seen declared) (declared_inside farthest)
      (merged_element (element_of origin node) (merged_onto farthest.element nearer)) farthest.inside) b d after)
      → Walks result here.setting.pushed links
      (whole_made here is_range around (element_around siblings node) (named_content siblings)) a0 d after
  asked_not result stop d after is some limit walked =
      let t = taken some (limit some) in
      all_is result d after (walks_err result stop here.setting.pushed links
      (whole_made here is_range around element inside) a0 d after is
      (took_not here links end is_range around element inside items a0 a b between is_judged stays first.path follows stop d
      after t (merged_is (Err stop) d after some (limit some) walked)))

  pub asked_took : {d : Resolver} {after : PlaceTables} {behind : Stand} (result : Result (Unit {0}) (Stop TooMany))
      (e : Resolver) (last : PlaceTables) → links < end → (links < end → end ≤ 32) → IsSamePage b d → behind ≡ later
      → ((there : Here) (farthest : Taken) (nearer : List Taken) → IsReady world later end there b between
      → AreLinks there.path end (farthest ∷ nearer) items → has_types (element_of origin node) ≡ true
      → IsWalked there.setting.pushed end (merged_made there is_range (seen_by seen declared) (declared_inside farthest)
      (merged_element (element_of origin node) (merged_onto farthest.element nearer)) farthest.inside) b d after)
      → ((path : List Place) (taken : List Taken) → IsReady world behind links here d after
      → end ≤ length d.path.items → end ≤ 32 → path ≡ path_within d end → end ≡ links + length taken
      → AreLinks path end taken items → Walks result here.setting.pushed links (ranges_put here around taken) d e last)
      → Walks result here.setting.pushed links
      (whole_made here is_range around (element_around siblings node) (named_content siblings)) a0 e last
  asked_took {d} {after} {behind} result e last some limit same stays-behind walked ranges =
      let t = taken some (limit some) in
      let all = t.farthest ∷ t.nearer in
      let merged = merged_made (walk_there b end here t.steps) is_range shown (declared_inside t.farthest)
      (merged_element element (merged_onto t.farthest.element t.nearer)) t.farthest.inside in
      let put = merged_is (Ok tt) d after some (limit some) walked in
      let ready-behind = ready_after world later behind links here merged b d between after next same stays-behind
      (walked_within here.setting.pushed links end merged b d after (within_end links end all t.count) put) in
      all_is result e last (took_walks here links end is_range around element inside items a0 a b between is_judged stays
      first.path follows result d e after last t put (ranges (path_within b end) all ready-behind put.within
      (limit some) (sym put.path) t.count t.linked))
