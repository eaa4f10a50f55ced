-- A page that goes on from one call of the walk to the next.
use Rattle.std.specs.Prelude.{◌≡◌, ◌+◌, ◌-◌, ◌++◌, ◌≤◌, ℕ, List, Result, Ok, Err, IsErrAnd, length, map, nat_le, nat_lt, take}
use Rattle.std.specs.declared.alloc.Global.{Global}
use Rattle.std.specs.declared.vec.Vec.{Vec}
use Rattle.std.specs.Borrow.{Bor}
use Rattle.std.proofs.Common.{refl, sym, ap, subst, ◌∙◌, arith, append_assoc}
use Rattle.std.proofs.lemmas.Bool.Decides.{nat_tests}
use Rattle.std.proofs.lemmas.List.{take-take}
use Rattle.dita_doc.specs.declared.content.Rule.{Rule}
use Rattle.dita_doc.specs.declared.fault.Fault.{Fault}
use Rattle.dita_doc.specs.declared.plan.Context.{Context}
use Rattle.dita_doc.specs.declared.stop.Stop.{Stop}
use Rattle.dita_doc.specs.declared.stop.Stop.TheVariants as stops
use Rattle.doc_maker.specs.Building.{Building, behind, depth, opened}
use Rattle.doc_maker.proofs.BuildingLaws.{beside_beside, depth_behind}
use Rattle.map_spec.specs.Written.{Element, Written}
use Rattle.conref_spec.specs.Content.{Made, count_limit, resolve_depth_limit, made_beside, made_with, nothing_made}
use Rattle.reader_spec.specs.World.{World}
use Rattle.readers.specs.Setting.{Stand}
use Rattle.conref_targets.specs.ResolveInput.{setting_of}
use Rattle.conref_targets.specs.Tables.{AreTables, Documents}
use Rattle.conref_targets.specs.declared.tables.PlaceTables.{PlaceTables}
use Rattle.conref_pull.specs.Putting.{built, declared_put}
use Rattle.conref_pull.specs.State.{IsDepth, IsSamePage, path_within, place_shown}
use Rattle.conref_pull.specs.Walking.{Here, IsReady, IsWalked, StandsDeep, Walks, inside_of, seen_by}
use Rattle.conref_pull.specs.declared.place.Place as kept
use Rattle.conref_pull.specs.declared.resolver.Resolver.{Resolver}
use Rattle.conref_pull.specs.declared.resolver.TooMany.{TooMany}
use Rattle.conref_pull.proofs.PutLaws.{nothing_beside, beside_nothing, put_nothing, put_then}

-- what is around nodes, seen otherwise
pub seen_as : {topic shown : List ℕ} {declared names : List (List ℕ)} → topic ≡ shown → declared ≡ names
    → seen_by topic declared ≡ seen_by shown names
seen_as {shown = shown} {declared = declared} same are =
    ap (λ (t : List ℕ). seen_by t declared) same ∙ ap (seen_by shown) are

-- The page is ready for the next call

setting_same : (world : World) (stand later : Stand) (a b : Resolver) → IsSamePage a b → later ≡ stand
    → setting_of world stand.setting a.context.now.page a.rules ≡ setting_of world later.setting b.context.now.page b.rules
setting_same world stand later a b same is =
    ap (λ (s : Stand). setting_of world s.setting a.context.now.page a.rules) (sym is)
    ∙ ap (λ (context : Bor Context). setting_of world later.setting context.now.page a.rules) (sym same.context)
    ∙ ap (λ (rules : List (List Rule)). setting_of world later.setting b.context.now.page rules) (sym same.rules)

pub ready_with : (world : World) (stand later : Stand) (links : ℕ) (here : Here) (a b : Resolver)
    (places after : PlaceTables) → IsReady world stand links here a places → IsSamePage a b → later ≡ stand
    → path_within b links ≡ path_within a links → links ≤ length b.path.items → depth (built b) ≡ depth (built a)
    → b.count ≤ count_limit → AreTables here.setting.pushed after → IsReady world later links here b after
ready_with world stand later links here a b places after ready same is path within deep room tables = record {
  setting = ready.setting ∙ setting_same world stand later a b same is;
  path = ready.path ∙ sym path;
  within = within;
  limit = ready.limit;
  steps = ready.steps;
  depth = record {
    around = ready.depth.around;
    deepest = same.deepest ∙ ready.depth.deepest;
    is = ready.depth.is ∙ ap (λ n. ready.depth.around + 1 + n) (sym deep);
  };
  room = room;
  tables = tables;
}

-- within an element that was opened
pub ready_inside : (world : World) (stand later : Stand) (links : ℕ) (here : Here) (element : Element) (a b : Resolver)
    (places : PlaceTables) → IsReady world stand links here a places → IsSamePage a b → later ≡ stand
    → b.path ≡ a.path → built b ≡ opened (built a) element → b.count ≤ count_limit
    → IsReady world later links (inside_of here) b places
ready_inside world stand later links here element a b places ready same is path opens room =
    let deep : depth (built b) ≡ 1 + depth (built a) = ap depth opens in
    record {
      setting = ready.setting ∙ setting_same world stand later a b same is;
      path = ready.path ∙ ap (λ (p : Vec kept.Place Global). take links (map place_shown p.items)) (sym path);
      within = subst (λ (p : Vec kept.Place Global). links ≤ length p.items) (sym path) ready.within;
      limit = ready.limit;
      steps = ready.steps;
      depth = record {
        around = ready.depth.around;
        deepest = same.deepest ∙ ready.depth.deepest;
        is = (let before = ready.depth.is in omega (arith, before, deep));
      };
      room = room;
      tables = ready.tables;
    }

-- behind what was put
pub ready_after : (world : World) (stand later : Stand) (links : ℕ) (here : Here) (made : Made) (a b : Resolver)
    (places after : PlaceTables) → IsReady world stand links here a places → IsSamePage a b → later ≡ stand
    → IsWalked here.setting.pushed links made a b after → IsReady world later links here b after
ready_after world stand later links here made a b places after ready same is walked =
    ready_with world stand later links here a b places after ready same is walked.path walked.within
    (ap depth walked.put.nodes ∙ depth_behind (built a) made.nodes) walked.put.room walked.tables

-- within a part of the path
pub path_shorter : (links end : ℕ) (a b : Resolver) → links ≤ end → path_within b end ≡ path_within a end
    → path_within b links ≡ path_within a links
path_shorter links end a b within same =
    sym (take-take links end (map place_shown b.path.items) within) ∙ ap (take links) same
    ∙ take-take links end (map place_shown a.path.items) within

-- as far as the limit is concerned
pub limit_depth : (a : Resolver) (at : ℕ) → StandsDeep a at → IsDepth a at
limit_depth a at deep = record { is = same_test deep.around (depth (built a)) at a.deepest deep.deepest deep.is }
  where
    same_test : (around count at deepest : ℕ) → deepest ≡ resolve_depth_limit - around → at ≡ around + 1 + count
        → nat_lt resolve_depth_limit at ≡ nat_le deepest count
    same_test around count at deepest is there = grind (arith, nat_tests)

-- Pieces one behind the other

pub walked_then : (documents : Documents) (links : ℕ) (first second : Made) (a b c : Resolver)
    (places after : PlaceTables) → IsWalked documents links first a b places
    → IsWalked documents links second b c after → IsWalked documents links (made_beside first second) a c after
walked_then documents links first second a b c places after one two = record {
  put = put_then first second a b c one.put two.put;
  path = two.path ∙ one.path;
  within = two.within;
  tables = two.tables;
}

pub walks_then : (result : Result (Unit {0}) (Stop TooMany)) (documents : Documents) (links : ℕ) (first second : Made)
    (a b c : Resolver) (places after : PlaceTables) → IsWalked documents links first a b places
    → Walks result documents links second b c after → Walks result documents links (made_beside first second) a c after
walks_then (Ok done) documents links first second a b c places after one two =
    walked_then documents links first second a b c places after one two
walks_then (Err (stops.Fault fault)) documents links first second a b c places after one two =
    let count = one.put.count in let much = two.much in
    record { much = omega (arith, count, much); tables = two.tables }
walks_then (Err stops.NoMemory) documents links first second a b c places after one two = tt

-- the first of them is too much
pub walks_not : (stop : Stop TooMany) (documents : Documents) (links : ℕ) (first second : Made) (a b c : Resolver)
    (places : PlaceTables) → Walks (Err stop) documents links first a b places
    → Walks (Err stop) documents links (made_beside first second) a c places
walks_not (stops.Fault fault) documents links first second a b c places one =
    let much = one.much in record { much = omega (arith, much); tables = one.tables }
walks_not stops.NoMemory documents links first second a b c places one = tt

-- faults that were appended before
pub record Tells (faults : List Fault) (links : ℕ) (a b : Resolver) : Type 0 where
  pub nodes : built b ≡ built a
  pub declared : declared_put b ≡ declared_put a
  pub count : b.count ≡ a.count
  pub appended : b.faults ≡ a.faults ++ faults
  pub path : path_within b links ≡ path_within a links

pub walks_with : (result : Result (Unit {0}) (Stop TooMany)) (documents : Documents) (links : ℕ) (faults : List Fault)
    (made : Made) (a b c : Resolver) (places : PlaceTables) → Tells faults links a b
    → Walks result documents links made b c places → Walks result documents links (made_with faults made) a c places
walks_with (Ok done) documents links faults made a b c places told walked = record {
  put = record {
    nodes = walked.put.nodes ∙ ap (λ (x : Building). behind x made.nodes) told.nodes;
    declared = walked.put.declared ∙ ap (λ (names : List (List (List ℕ))). names ++ made.declared) told.declared;
    count = walked.put.count ∙ ap (λ n. n + made.count) told.count;
    room = walked.put.room;
    faults = walked.put.faults ∙ ap (λ (fs : List Fault). fs ++ made.faults) told.appended
        ∙ append_assoc a.faults faults made.faults;
  };
  path = walked.path ∙ told.path;
  within = walked.within;
  tables = walked.tables;
}
walks_with (Err (stops.Fault fault)) documents links faults made a b c places told walked =
    let count = told.count in let much = walked.much in
    record { much = omega (arith, count, much); tables = walked.tables }
walks_with (Err stops.NoMemory) documents links faults made a b c places told walked = tt

pub walks_as : (result : Result (Unit {0}) (Stop TooMany)) (documents : Documents) (links : ℕ) (made all : Made)
    (a b : Resolver) (places : PlaceTables) → made ≡ all → Walks result documents links made a b places
    → Walks result documents links all a b places
walks_as result documents links made all a b places same walked =
    subst (λ (m : Made). Walks result documents links m a b places) same walked

-- within more targets
pub walked_within : (documents : Documents) (links end : ℕ) (made : Made) (a b : Resolver) (places : PlaceTables)
    → links ≤ end → IsWalked documents end made a b places → IsWalked documents links made a b places
walked_within documents links end made a b places within walked = record {
  put = walked.put;
  path = path_shorter links end a b within walked.path;
  within = (let far = walked.within in omega (arith, far));
  tables = walked.tables;
}

pub walks_within : (result : Result (Unit {0}) (Stop TooMany)) (documents : Documents) (links end : ℕ) (made : Made)
    (a b : Resolver) (places : PlaceTables) → links ≤ end → Walks result documents end made a b places
    → Walks result documents links made a b places
walks_within (Ok done) documents links end made a b places within walked =
    walked_within documents links end made a b places within walked
walks_within (Err (stops.Fault fault)) documents links end made a b places within walked = walked
walks_within (Err stops.NoMemory) documents links end made a b places within walked = tt

-- Pieces in a loop: this was put, and with what is left it is all

pub record SoFar (documents : Documents) (links : ℕ) (left all : Made) (old new : Resolver) (places : PlaceTables) : Type 0
  where
    pub made : Made
    pub walked : IsWalked documents links made old new places
    pub is : made_beside made left ≡ all

pub beside_all : (first second third : Made)
    → made_beside (made_beside first second) third ≡ made_beside first (made_beside second third)
beside_all first second third =
    let count : first.count + second.count + third.count ≡ first.count + (second.count + third.count) = omega arith in
    let left = made_beside (made_beside first second) third in
    let right = made_beside first (made_beside second third) in
    let f = λ (nodes : Written) (declared : List (List (List ℕ))) (n : ℕ) (faults : List Fault).
    (let all : Made = record { nodes = nodes; declared = declared; count = n; faults = faults } in all) in
    ap (λ (nodes : Written). f nodes left.declared left.count left.faults)
    (beside_beside first.nodes second.nodes third.nodes)
    ∙ ap (λ (names : List (List (List ℕ))). f right.nodes names left.count left.faults)
    (append_assoc first.declared second.declared third.declared)
    ∙ ap (λ n. f right.nodes right.declared n left.faults) count
    ∙ ap (f right.nodes right.declared right.count) (append_assoc first.faults second.faults third.faults)

pub so_far_begin : (documents : Documents) (links : ℕ) (all : Made) (a : Resolver) (places : PlaceTables)
    → a.count ≤ count_limit → links ≤ length a.path.items → AreTables documents places
    → SoFar documents links all all a a places
so_far_begin documents links all a places room within tables = record {
  made = nothing_made;
  walked = record { put = put_nothing a a refl room; path = refl; within = within; tables = tables };
  is = nothing_beside all;
}

pub so_far_more : (documents : Documents) (links : ℕ) (first left all : Made) (a b c : Resolver)
    (places after : PlaceTables) → SoFar documents links (made_beside first left) all a b places
    → IsWalked documents links first b c after → SoFar documents links left all a c after
so_far_more documents links first left all a b c places after before next = record {
  made = made_beside before.made first;
  walked = walked_then documents links before.made first a b c places after before.walked next;
  is = beside_all before.made first left ∙ before.is;
}

-- the next piece is too much
pub so_far_stop : (stop : Stop TooMany) (documents : Documents) (links : ℕ) (first left all : Made) (a b c : Resolver)
    (places after : PlaceTables) → SoFar documents links (made_beside first left) all a b places
    → Walks (Err stop) documents links first b c after → Walks (Err stop) documents links all a c after
so_far_stop (stops.Fault fault) documents links first left all a b c places after before next =
    let total = ap (λ (m : Made). m.count) before.is in
    let count = before.walked.put.count in
    let much = next.much in
    record { much = omega (arith, total, count, much); tables = next.tables }
so_far_stop stops.NoMemory documents links first left all a b c places after before next = tt

pub so_far_end : (documents : Documents) (links : ℕ) (all : Made) (a b : Resolver) (places : PlaceTables)
    → SoFar documents links nothing_made all a b places → IsWalked documents links all a b places
so_far_end documents links all a b places before =
    subst (λ (m : Made). IsWalked documents links m a b places) (sym (beside_nothing before.made) ∙ before.is)
    before.walked

-- what is left, said otherwise
pub so_far_as : (documents : Documents) (links : ℕ) (left same all : Made) (a b : Resolver) (places : PlaceTables)
    → left ≡ same → SoFar documents links left all a b places → SoFar documents links same all a b places
so_far_as documents links left same all a b places is before =
    subst (λ (m : Made). SoFar documents links m all a b places) is before

-- what a call hands on that was stopped
pub walks_err : (result : Result (Unit {0}) (Stop TooMany)) (stop : Stop TooMany) (documents : Documents) (links : ℕ)
    (made : Made) (a b : Resolver) (places : PlaceTables) → IsErrAnd result (λ e. e ≡ stop)
    → Walks (Err stop) documents links made a b places → Walks result documents links made a b places
walks_err (Ok done) stop documents links made a b places is walked = absurd is
walks_err (Err other) stop documents links made a b places is walked =
    subst (λ (s : Stop TooMany). Walks (Err s) documents links made a b places) (sym is) walked
