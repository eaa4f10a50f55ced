-- An element whose reference was followed, where nodes are resolved.
use Rattle.std.specs.Prelude.{◌≡◌, ◌+◌, ◌++◌, ◌<◌, ◌≤◌, ℕ, zero, suc, Bool, true, false, List, [], ◌∷◌, Option, Some, None, Result, Ok, Err, is_some, length, map, take, if◌then◌else◌}
use Rattle.std.proofs.Common.{refl, sym, ap, subst, ◌∙◌, arith}
use Rattle.std.proofs.lemmas.Bool.{false≢true}
use Rattle.std.proofs.lemmas.List.{take-take}
use Rattle.dita_doc.specs.declared.fault.Fault.{Fault}
use Rattle.dita_doc.specs.declared.stop.Stop.{Stop}
use Rattle.doc_maker.specs.Building.{depth}
use Rattle.ditaval_rules.specs.Domains.{declared_by}
use Rattle.map_spec.specs.Elements.{has_types}
use Rattle.map_spec.specs.Judged.{group_faults}
use Rattle.map_spec.specs.Written.{Element, Whole, Written}
use Rattle.conref_spec.specs.Content as content
use Rattle.conref_spec.specs.Content.{ContentAround, Followed, Made, Place, ResolveInput, around_for, count_limit, followed, goes, has_reference, made_beside, made_with, merged_element, nothing_made, path_limit, sought_by}
use Rattle.reader_spec.specs.World.{World}
use Rattle.readers.specs.Setting.{Stand}
use Rattle.conref_targets.specs.ResolveInput.{documents_in, setting_of}
use Rattle.conref_targets.specs.Sought.{if_reference, sought_found}
use Rattle.conref_targets.specs.Tables.{AreTables, Documents}
use Rattle.conref_targets.specs.declared.reference.Sought.{Sought}
use Rattle.conref_targets.specs.declared.tables.PlaceTables.{PlaceTables}
use Rattle.conref_pull.specs.Linked.{AreLinks, IsFollowed}
use Rattle.conref_pull.specs.Putting.{built, declared_put}
use Rattle.conref_pull.specs.State.{IsDepth, IsSamePage, path_within, place_shown}
use Rattle.conref_pull.specs.Step.{Taken, declared_inside, followed_to_all, merged_onto}
use Rattle.conref_pull.specs.Walking.{Here, IsReady, IsWalked, Walks, kept_made, merged_made, ranges_put, whole_made}
use Rattle.conref_pull.specs.declared.chain.TakenTarget.{TakenTarget}
use Rattle.conref_pull.specs.declared.resolver.Resolver.{Resolver}
use Rattle.conref_pull.specs.declared.resolver.TooMany.{TooMany}
use Rattle.conref_pull.proofs.ElementLaws.{none_followed, whole_gone, whole_kept, whole_took}
use Rattle.conref_pull.proofs.PutLaws.{put_nothing}
use Rattle.conref_pull.proofs.TopicLaws.{took_types}
use Rattle.conref_pull.proofs.WalkLaws.{Tells, limit_depth, ready_with, walked_within, walks_as, walks_not, walks_then, walks_with, walks_within}

-- what followed, in the setting in which nodes are resolved
pub followed_here : (world : World) (stand : Stand) (links end : ℕ) (here : Here) (shown seen : List ℕ)
    (element : Element) (inside : Written) (items : List TakenTarget) (a b : Resolver) (places after : PlaceTables)
    → IsReady world stand links here a places → seen ≡ shown
    → IsFollowed (documents_in world stand.setting) element inside
    (followed (setting_of world stand.setting a.context.now.page a.rules) seen here.depth (path_within a links) element
    inside) [] items links end a b after
    → IsFollowed here.setting.pushed element inside (followed here.setting shown here.depth here.path element inside) []
    items links end a b after
followed_here world stand links end here shown seen element inside items a b places after ready same is =
    subst (λ (path : List Place). IsFollowed here.setting.pushed element inside
    (followed here.setting shown here.depth path element inside) [] items links end a b after) (sym ready.path)
    (subst (λ (topic : List ℕ). IsFollowed here.setting.pushed element inside
    (followed here.setting topic here.depth (path_within a links) element inside) [] items links end a b after) same
    (subst (λ (s : ResolveInput). IsFollowed s.pushed element inside
    (followed s seen here.depth (path_within a links) element inside) [] items links end a b after) (sym ready.setting)
    is))

pub asked_here : (world : World) (stand : Stand) (links end : ℕ) (here : Here) (shown seen : List ℕ)
    (element : Element) (inside : Written) (items : List TakenTarget) (a b : Resolver) (places after : PlaceTables)
    → IsReady world stand links here a places → seen ≡ shown
    → (AreTables (documents_in world stand.setting) places → IsDepth a here.depth → links ≤ length a.path.items
    → IsFollowed (documents_in world stand.setting) element inside
    (followed (setting_of world stand.setting a.context.now.page a.rules) seen here.depth (path_within a links) element
    inside) [] items links end a b after)
    → IsFollowed here.setting.pushed element inside (followed here.setting shown here.depth here.path element inside) []
    items links end a b after
asked_here world stand links end here shown seen element inside items a b places after ready same is =
    followed_here world stand links end here shown seen element inside items a b places after ready same
    (is (subst (λ (s : ResolveInput). AreTables s.pushed places) ready.setting ready.tables)
    (limit_depth a here.depth ready.depth) ready.within)

-- the page is as ready once an element was judged
pub ready_judged : (world : World) (stand : Stand) (links : ℕ) (here : Here) (faults : List Fault) (a b : Resolver)
    (places : PlaceTables) → IsReady world stand links here a places → b ≡ record a { faults = faults }
    → IsReady world stand links here b places
ready_judged world stand links here faults a b places ready is =
    subst (λ (r : Resolver). IsReady world stand links here r places) (sym is)
    (record {
      setting = ready.setting;
      path = ready.path;
      within = ready.within;
      limit = ready.limit;
      steps = ready.steps;
      depth = record { around = ready.depth.around; deepest = ready.depth.deepest; is = ready.depth.is };
      room = ready.room;
      tables = ready.tables;
    })

no_reference : (result : Option Sought) (sought : content.Sought) → sought_found result ≡ if_reference sought
    → is_some result ≡ false → has_reference sought ≡ false
no_reference None sought is none = by_test (has_reference sought) is
  where
    by_test : (test : Bool) → None ≡ (if test then Some sought else None) → test ≡ false
    by_test true e = cc
    by_test false e = refl
no_reference (Some one) sought is none = absurd (false≢true (sym none))

-- the state after an element was judged
pub judged_tells : (links : ℕ) (faults : List Fault) (a b : Resolver)
    → b ≡ record a { faults = a.faults ++ faults } → Tells faults links a b
judged_tells links faults a b is = record {
  nodes = ap built is;
  declared = ap declared_put is;
  count = ap (λ (r : Resolver). r.count) is;
  appended = ap (λ (r : Resolver). r.faults) is;
  path = ap (λ (r : Resolver). path_within r links) is;
}

first_at : (path : List Place) (end : ℕ) (one : Taken) (nearer : List Taken) (items : List TakenTarget)
    → AreLinks path end (one ∷ nearer) items → one.path ≡ take end path
first_at path end one nearer [] linked = absurd linked
first_at path end one nearer (link ∷ items) linked = linked.1

-- without a reference, the element is put as it is
pub plain_walks : (result : Result (Unit {0}) (Stop TooMany)) (here : Here) (links : ℕ) (is_range : Bool)
    (around : ContentAround) (element : Element) (inside : Written) (sought : Option Sought) (a b c : Resolver)
    (after : PlaceTables) → b ≡ record a {
      faults = a.faults ++ group_faults
          (declared_by around.declared element.attributes) element;
    }
    → goes here.setting (declared_by around.declared element.attributes) element ≡ false
    → sought_found sought ≡ if_reference (sought_by element)
    → is_some sought ≡ false
    → Walks result here.setting.pushed links
    (kept_made here is_range (around_for is_range element around) element inside) b c after
    → Walks result here.setting.pushed links (whole_made here is_range around element inside) a c after
plain_walks result here links is_range around element inside sought a b c after judged left by none walked =
    walks_as result here.setting.pushed links _ _ a c after
    (whole_kept here is_range around element inside [] left
    (none_followed here.setting (around_for is_range element around).topic here.depth here.path element inside
    (no_reference sought (sought_by element) by none)))
    (walks_with result here.setting.pushed links (group_faults (declared_by around.declared element.attributes) element)
    (kept_made here is_range (around_for is_range element around) element inside) a b c after
    (judged_tells links (group_faults (declared_by around.declared element.attributes) element) a b judged) walked)

-- it goes
pub gone_walked : (here : Here) (links : ℕ) (is_range : Bool) (around : ContentAround) (element : Element)
    (inside : Written)
    (a b : Resolver) (places : PlaceTables) → b ≡ record a {
      faults = a.faults ++ group_faults
          (declared_by around.declared element.attributes) element;
    }
    → goes here.setting (declared_by around.declared element.attributes) element ≡ true
    → path_within b links ≡ here.path → here.path ≡ path_within a links
    → links ≤ length b.path.items → b.count ≤ count_limit → AreTables here.setting.pushed places
    → IsWalked here.setting.pushed links (whole_made here is_range around element inside) a b places
gone_walked here links is_range around element inside a b places judged gone after before within room tables =
    subst (λ (m : Made). IsWalked here.setting.pushed links m a b places)
    (whole_gone here is_range around element inside gone)
    (walks_with (Ok tt) here.setting.pushed links (group_faults
    (declared_by around.declared element.attributes) element) nothing_made a b b places
    (judged_tells links (group_faults (declared_by around.declared element.attributes) element) a b judged)
    (record { put = put_nothing b b refl room; path = refl; within = within; tables = tables }))

-- where nodes are resolved within more targets
abbrev pub walk_there : Resolver → ℕ → Here → ℕ → Here
walk_there b end here steps = record here { path = path_within b end; steps = steps }

pub within_end : (links end : ℕ) (taken : List Taken) → end ≡ links + length taken → links ≤ end
within_end links end taken count = omega arith

-- what holds of the element and of what it holds
pub shown_inside : (one other : Whole) → ◌≡◌ {A = Option Whole} (Some one) (Some other) → one.1 ≡ other.1
shown_inside one other same = let is : one ≡ other = cc in ap (λ (w : Whole). w.1) is

module _ (here : Here) (links end : ℕ) (is_range : Bool) (around : ContentAround) (element : Element) (inside : Written)
    (items : List TakenTarget) (a0 a b : Resolver) (places : PlaceTables)
    (judged : a ≡ record a0 {
      faults = a0.faults ++ group_faults
          (declared_by around.declared element.attributes) element;
    })
    (left : goes here.setting (declared_by around.declared element.attributes) element ≡ false)
    (path : here.path ≡ path_within a links)
    (follows : IsFollowed here.setting.pushed element inside
    (followed here.setting (around_for is_range element around).topic here.depth here.path element inside) [] items
    links end a b
    places) where
  abbrev shown : ContentAround
  shown = around_for is_range element around

  abbrev documents : Documents
  documents = here.setting.pushed

  -- it was followed without a target, and the element is put as it is
  kept_by : (result : Result (Unit {0}) (Stop TooMany)) (c : Resolver) (after : PlaceTables) (taken : List Taken)
      → end ≡ links + length taken → end ≤ links
      → followed here.setting shown.topic here.depth here.path element inside
      ≡ followed_to_all element inside here.path follows.faults taken
      → Walks result documents links (kept_made here is_range shown element inside) b c after
      → Walks result documents links (whole_made here is_range around element inside) a0 c after
  kept_by result c after [] count none is walked =
      walks_as result documents links _ _ a0 c after
      (whole_kept here is_range around element inside follows.faults left is)
      (walks_with result documents links (group_faults (declared_by around.declared element.attributes) element)
      (made_with follows.faults (kept_made here is_range shown element inside)) a0 a c after
      (judged_tells links (group_faults (declared_by around.declared element.attributes) element) a0 a judged)
      (walks_with result documents links follows.faults (kept_made here is_range shown element inside) a b c after
      (record {
        nodes = ap built follows.state;
        declared = ap declared_put follows.state;
        count = ap (λ (r : Resolver). r.count) follows.state;
        appended = ap (λ (r : Resolver). r.faults) follows.state;
        path = follows.kept;
      }) walked))
  kept_by result c after (one ∷ all) count none is walked = absurd (omega arith)

  path_is : followed here.setting shown.topic here.depth here.path element inside
      ≡ followed_to_all element inside here.path follows.faults follows.taken
  path_is = follows.is ∙ ap (λ (p : List Place). followed_to_all element inside p follows.faults follows.taken)
      (sym path)

  pub kept_walks : (result : Result (Unit {0}) (Stop TooMany)) (c : Resolver) (after : PlaceTables) → end ≤ links
      → Walks result documents links (kept_made here is_range shown element inside) b c after
      → Walks result documents links (whole_made here is_range around element inside) a0 c after
  kept_walks result c after none walked = kept_by result c after follows.taken follows.count none path_is walked

  -- targets were taken
  pub record Took : Type 0 where
    pub farthest : Taken
    pub nearer : List Taken
    pub steps : ℕ
    pub more : here.steps ≡ suc steps
    pub linked : AreLinks (path_within b end) end (farthest ∷ nearer) items
    pub count : end ≡ links + length (farthest ∷ nearer)
    pub is :
        followed here.setting (around_for is_range element around).topic here.depth here.path element inside ≡
        followed_to_all element inside here.path follows.faults (farthest ∷ nearer)
    pub types : has_types element ≡ true

  one_less : (n : ℕ) → 0 < n → (m : ℕ) × (n ≡ suc m)
  one_less zero some = absurd (omega arith)
  one_less (suc n) some = (n, refl)

  took_by : (taken : List Taken) → AreLinks (path_within b end) end taken items → end ≡ links + length taken
      → followed here.setting shown.topic here.depth here.path element inside
      ≡ followed_to_all element inside here.path follows.faults taken
      → links < end → 0 < here.steps → Took
  took_by [] linked count is some steps = absurd (omega arith)
  took_by (farthest ∷ nearer) linked count is some steps = record {
    farthest = farthest;
    nearer = nearer;
    steps = (one_less here.steps steps).0;
    more = (one_less here.steps steps).1;
    linked = linked;
    count = count;
    is = is;
    types = took_types here.setting shown.topic here.depth here.path element inside
        (ap (λ (f : Followed). f.has_taken) is);
  }

  pub took : links < end → end ≤ 32 → path_limit ≤ here.steps + links → Took
  took some limit steps =
      took_by follows.taken
      (subst (λ (all : List TakenTarget). AreLinks (path_within b end) end follows.taken all)
      (sym follows.items) follows.linked)
      follows.count path_is some (omega arith)

  pub took_ready : (world : World) (stand later : Stand) (before : PlaceTables) (t : Took)
      → IsReady world stand links here a before → IsSamePage a b → later ≡ stand → end ≤ 32
      → IsReady world later end (walk_there b end here t.steps) b places
  took_ready world stand later before t ready same is limit =
      let next : IsReady world later links here b places = ready_with world stand later links here a b before places
      ready
      same is follows.kept (let room = follows.room in let count = follows.count in omega (arith, room, count))
      (ap depth (ap built follows.state)) (subst (λ n. n ≤ count_limit)
      (sym (ap (λ (r : Resolver). r.count) follows.state)) ready.room) follows.tables in
      record {
        setting = next.setting;
        path = refl;
        within = follows.room;
        limit = limit;
        steps = (let more = t.more in let count = t.count in let before = ready.steps in omega
            (arith, more, count, before));
        depth = next.depth;
        room = next.room;
        tables = next.tables;
      }

  pub kept_ready : (world : World) (stand later : Stand) (before : PlaceTables)
      → IsReady world stand links here a before → IsSamePage a b → later ≡ stand
      → IsReady world later links here b places
  kept_ready world stand later before ready same is = ready_with world stand later links here a b before places ready
      same
      is follows.kept (let room = follows.room in let count = follows.count in omega (arith, room, count))
      (ap depth (ap built follows.state)) (subst (λ n. n ≤ count_limit)
      (sym (ap (λ (r : Resolver). r.count) follows.state)) ready.room) follows.tables

  abbrev pub merged_there : Took → Made
  merged_there t = merged_made (walk_there b end here t.steps) is_range shown (declared_inside t.farthest)
      (merged_element element (merged_onto t.farthest.element t.nearer)) t.farthest.inside

  farthest_at : (t : Took) → t.farthest.path ≡ path_within b end
  farthest_at t = first_at (path_within b end) end t.farthest t.nearer items t.linked
      ∙ take-take end end (map place_shown b.path.items) (omega arith)

  took_all : (result : Result (Unit {0}) (Stop TooMany)) (d : Resolver) (after : PlaceTables) (t : Took)
      → Walks result documents links (made_beside (merged_there t) (ranges_put here around (t.farthest ∷ t.nearer))) b d
      after
      → Walks result documents links (whole_made here is_range around element inside) a0 d after
  took_all result d after t walked =
      walks_as result documents links _ _ a0 d after
      (whole_took here is_range around element inside follows.faults t.farthest t.nearer
      (path_within b end) t.steps left
      (farthest_at t) t.more t.is)
      (walks_with result documents links (group_faults (declared_by around.declared element.attributes) element)
      (made_with follows.faults
      (made_beside (merged_there t) (ranges_put here around (t.farthest ∷ t.nearer)))) a0 a d after
      (judged_tells links (group_faults (declared_by around.declared element.attributes) element) a0 a judged)
      (walks_with result documents links follows.faults
      (made_beside (merged_there t) (ranges_put here around (t.farthest ∷ t.nearer))) a b d after
      (record {
        nodes = ap built follows.state;
        declared = ap declared_put follows.state;
        count = ap (λ (r : Resolver). r.count) follows.state;
        appended = ap (λ (r : Resolver). r.faults) follows.state;
        path = follows.kept;
      }) walked))

  -- the element with what it takes is put, and then the ranges
  pub took_walks : (result : Result (Unit {0}) (Stop TooMany)) (c d : Resolver) (between after : PlaceTables) (t : Took)
      → IsWalked documents end (merged_there t) b c between
      → Walks result documents links (ranges_put here around (t.farthest ∷ t.nearer)) c d after
      → Walks result documents links (whole_made here is_range around element inside) a0 d after
  took_walks result c d between after t walked behind = took_all result d after t
      (walks_then result documents links (merged_there t) (ranges_put here around (t.farthest ∷ t.nearer)) b c d between
      after (walked_within documents links end (merged_there t) b c between
      (within_end links end (t.farthest ∷ t.nearer) t.count) walked) behind)

  -- the element is too much
  pub took_not : (stop : Stop TooMany) (c : Resolver) (after : PlaceTables) (t : Took)
      → Walks (Err stop) documents end (merged_there t) b c after
      → Walks (Err stop) documents links (whole_made here is_range around element inside) a0 c after
  took_not stop c after t walked = took_all (Err stop) c after t
      (walks_not stop documents links (merged_there t) (ranges_put here around (t.farthest ∷ t.nearer)) b c c after
      (walks_within (Err stop) documents links end (merged_there t) b c after
      (within_end links end (t.farthest ∷ t.nearer) t.count) walked))
