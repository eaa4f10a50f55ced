-- An element that is put round what it holds.
use Rattle.std.specs.Prelude.{◌≡◌, ◌+◌, ◌++◌, ◌≤◌, ℕ, Bool, true, false, List, [], ◌∷◌, Err, length, take, map, if◌then◌else◌}
use Rattle.std.specs.declared.alloc.Global.{Global}
use Rattle.std.specs.declared.vec.Vec.{Vec}
use Rattle.std.proofs.Common.{refl, sym, ap, subst, ◌∙◌, arith, append_assoc, append-nil}
use Rattle.dita_doc.specs.declared.content.Rule.{Rule}
use Rattle.dita_doc.specs.declared.doc.Attribute.{Attribute}
use Rattle.dita_doc.specs.declared.fault.Fault.{Fault}
use Rattle.dita_doc.specs.declared.stop.Stop.{Stop}
use Rattle.dita_doc.specs.declared.stop.Stop.TheVariants as stops
use Rattle.doc_maker.specs.Building.{Building, behind, closed, opened}
use Rattle.doc_maker.specs.Building as building
use Rattle.doc_maker.proofs.BuildingLaws.{behind_end}
use Rattle.map_spec.specs.Judged.{group_faults}
use Rattle.map_spec.specs.Written.{Element, Written}
use Rattle.conref_spec.specs.Content.{ContentAround, Made, ResolveInput, around_within, count_limit, declared_there, element_made, goes, made_with, merged_element, nothing_made, without_id}
use Rattle.conref_targets.specs.Judging.{with_attributes}
use Rattle.conref_targets.specs.Rules.{some_exclude}
use Rattle.conref_pull.specs.Count.{OneMore}
use Rattle.conref_pull.specs.Merging.{IsMerged}
use Rattle.conref_pull.specs.Putting.{built, declared_put}
use Rattle.reader_spec.specs.World.{World}
use Rattle.readers.specs.Setting.{Stand}
use Rattle.conref_targets.specs.Tables.{AreTables, Documents}
use Rattle.conref_targets.specs.declared.tables.PlaceTables.{PlaceTables}
use Rattle.conref_pull.specs.State.{IsSamePage, path_within, place_shown}
use Rattle.conref_pull.specs.Walking.{Here, IsReady, IsWalked, Walks, among_made, inside_of, merged_made, stays_made}
use Rattle.conref_pull.specs.declared.merge.Merged.{Merged}
use Rattle.conref_pull.specs.declared.place.Place as kept
use Rattle.conref_pull.specs.declared.resolver.Resolver.{Resolver}
use Rattle.conref_pull.specs.declared.resolver.TooMany.{TooMany}
use Rattle.conref_pull.proofs.WalkLaws.{ready_inside, walks_as}

-- the element that is opened, with the attributes that are left of it
pub opened_as : (is_range : Bool) (element : Element) (attributes : List Attribute) (href_doc : List ℕ)
    → attributes ≡ (without_id is_range element).attributes → href_doc ≡ (without_id is_range element).href_doc
    → building.element element.name attributes element.doc element.line href_doc ≡ without_id is_range element
opened_as true element attributes href_doc are home =
    ap (λ (all : List Attribute). building.element element.name all element.doc element.line href_doc) are
    ∙ ap (λ (name : List ℕ). building.element element.name (without_id true element).attributes element.doc element.line name)
    home
opened_as false element attributes href_doc are home =
    ap (λ (all : List Attribute). building.element element.name all element.doc element.line href_doc) are
    ∙ ap (λ (name : List ℕ). building.element element.name element.attributes element.doc element.line name) home

pub path_same : (links : ℕ) (a b : Resolver) → b.path ≡ a.path → path_within b links ≡ path_within a links
path_same links a b same = ap (λ (p : Vec kept.Place Global). take links (map place_shown p.items)) same

-- one more was counted, and faults were appended
pub record Counts (faults : List Fault) (a b : Resolver) : Type 0 where
  pub count : b.count ≡ a.count + 1
  pub appended : b.faults ≡ a.faults ++ faults
  pub nodes : built b ≡ built a
  pub declared : declared_put b ≡ declared_put a
  pub path : b.path ≡ a.path

pub counts_one : (a b : Resolver) → OneMore a b → Counts [] a b
counts_one a b one = record {
  count = ap (λ (r : Resolver). r.count) one.state;
  appended = ap (λ (r : Resolver). r.faults) one.state ∙ sym (append-nil a.faults);
  nodes = ap built one.state;
  declared = ap declared_put one.state;
  path = ap (λ (r : Resolver). r.path) one.state;
}

pub counts_judged : (faults : List Fault) (a b c : Resolver) → OneMore a b
    → c ≡ record b { faults = b.faults ++ faults } → Counts faults a c
counts_judged faults a b c one judged = record {
  count = ap (λ (r : Resolver). r.count) judged ∙ ap (λ (r : Resolver). r.count) one.state;
  appended = ap (λ (r : Resolver). r.faults) judged ∙ ap (λ (r : Resolver). r.faults ++ faults) one.state;
  nodes = ap built judged ∙ ap built one.state;
  declared = ap declared_put judged ∙ ap declared_put one.state;
  path = ap (λ (r : Resolver). r.path) judged ∙ ap (λ (r : Resolver). r.path) one.state;
}

pub counts_room : (faults : List Fault) (a b c : Resolver) → OneMore a b → Counts faults a c → c.count ≤ count_limit
counts_room faults a b c one counts =
    let room = one.room in let count = counts.count in omega (arith, room, count)

-- an element for which these names are declared was counted and opened, with faults; what it holds was put, and it was
-- closed
pub record Opens (faults : List Fault) (names : List (List ℕ)) (element : Element) (a c : Resolver) : Type 0 where
  pub count : c.count ≡ a.count + 1
  pub appended : c.faults ≡ a.faults ++ faults
  pub nodes : built c ≡ opened (built a) element
  pub declared : declared_put c ≡ declared_put a ++ names ∷ []
  pub path : c.path ≡ a.path

pub opens_by : (faults : List Fault) (names : List (List ℕ)) (element given : Element) (a b c : Resolver)
    → Counts faults a b → c ≡ record b { maker = c.maker } → built c ≡ opened (built b) given
    → declared_put c ≡ declared_put b ++ names ∷ [] → given ≡ element → Opens faults names element a c
opens_by faults names element given a b c counts state into noted same = record {
  count = ap (λ (r : Resolver). r.count) state ∙ counts.count;
  appended = ap (λ (r : Resolver). r.faults) state ∙ counts.appended;
  nodes = into ∙ ap (opened (built b)) same ∙ ap (λ (x : Building). opened x element) counts.nodes;
  declared = noted ∙ ap (λ (all : List (List (List ℕ))). all ++ names ∷ []) counts.declared;
  path = ap (λ (r : Resolver). r.path) state ∙ counts.path;
}

pub record Closes (d e : Resolver) : Type 0 where
  pub count : e.count ≡ d.count
  pub faults : e.faults ≡ d.faults
  pub nodes : built e ≡ closed (built d)
  pub declared : declared_put e ≡ declared_put d
  pub path : e.path ≡ d.path

pub closes_by : (d e : Resolver) → e ≡ record d { maker = e.maker } → built e ≡ closed (built d)
    → declared_put e ≡ declared_put d → Closes d e
closes_by d e state into noted = record {
  count = ap (λ (r : Resolver). r.count) state;
  faults = ap (λ (r : Resolver). r.faults) state;
  nodes = into;
  declared = noted;
  path = ap (λ (r : Resolver). r.path) state;
}

pub put_around : (documents : Documents) (links : ℕ) (is_range : Bool) (names : List (List ℕ)) (element : Element)
    (content : Made) (faults : List Fault) (a c d e : Resolver) (places : PlaceTables)
    → Opens faults names (without_id is_range element) a c → IsWalked documents links content c d places → Closes d e
    → IsWalked documents links (made_with faults (element_made is_range names element content)) a e places
put_around documents links is_range names element content faults a c d e places opens walked close = record {
  put = record {
    nodes = close.nodes
        ∙ ap closed (walked.put.nodes ∙ ap (λ (x : Building). behind x content.nodes) opens.nodes);
    declared = close.declared ∙ walked.put.declared
        ∙ ap (λ (all : List (List (List ℕ))). all ++ content.declared) opens.declared
        ∙ append_assoc (declared_put a) (names ∷ []) content.declared;
    count = (let first = opens.count in let held = walked.put.count in let last = close.count in
        omega (arith, first, held, last));
    room = (let room = walked.put.room in let last = close.count in omega (arith, room, last));
    faults = close.faults ∙ walked.put.faults ∙ ap (λ (fs : List Fault). fs ++ content.faults) opens.appended
        ∙ append_assoc a.faults faults content.faults;
  };
  path = path_same links d e close.path ∙ walked.path ∙ path_same links a c opens.path;
  within = subst (λ (p : Vec kept.Place Global). links ≤ length p.items) (sym close.path) walked.within;
  tables = walked.tables;
}

-- what it holds is too much
pub around_not : (stop : Stop TooMany) (documents : Documents) (links : ℕ) (is_range : Bool) (names : List (List ℕ))
    (element : Element) (content : Made) (faults : List Fault) (a c d : Resolver) (places : PlaceTables)
    → Opens faults names (without_id is_range element) a c → Walks (Err stop) documents links content c d places
    → Walks (Err stop) documents links (made_with faults (element_made is_range names element content)) a d places
around_not (stops.Fault fault) documents links is_range names element content faults a c d places opens walked =
    let count = opens.count in let much = walked.much in
    record { much = omega (arith, count, much); tables = walked.tables }
around_not stops.NoMemory documents links is_range names element content faults a c d places opens walked = tt

-- An element with what it takes

-- what was taken is judged once more
pub judged_as : (declared : List (List ℕ)) (element target : Element) (merged : Merged)
    → IsMerged merged (merged_element element target)
    → group_faults declared (with_attributes merged.attributes element)
    ≡ group_faults declared (merged_element element target)
judged_as declared element target merged is =
    ap (λ (all : List Attribute). group_faults declared (with_attributes all element)) is.attributes

pub goes_as : (setting : ResolveInput) (rules : List (List Rule)) (declared : List (List ℕ)) (element : Element)
    (attributes : List Attribute) → setting.rules ≡ rules → attributes ≡ element.attributes
    → some_exclude rules declared attributes ≡ goes setting declared element
goes_as setting rules declared element attributes same are =
    ap (λ (all : List (List Rule)). some_exclude all declared attributes) (sym same)
    ∙ ap (λ (all : List Attribute). some_exclude setting.rules declared all) are

pub merged_gone : (here : Here) (is_range : Bool) (around : ContentAround) (there : List (List ℕ)) (merged : Element)
    (inside : Written) → goes here.setting around.declared merged ≡ true
    → made_with (group_faults around.declared merged) (record nothing_made { count = 1 })
    ≡ merged_made here is_range around there merged inside
merged_gone here is_range around there merged inside gone =
    ap (λ (test : Bool). made_with (group_faults around.declared merged) (if test
    then record nothing_made { count = 1 }
    else stays_made here is_range around.declared (declared_there there around) merged inside)) (sym gone)

pub merged_left : (here : Here) (is_range : Bool) (around : ContentAround) (there : List (List ℕ)) (merged : Element)
    (inside : Written) → goes here.setting around.declared merged ≡ false
    → made_with (group_faults around.declared merged)
    (stays_made here is_range around.declared (declared_there there around) merged inside)
    ≡ merged_made here is_range around there merged inside
merged_left here is_range around there merged inside left =
    ap (λ (test : Bool). made_with (group_faults around.declared merged) (if test
    then record nothing_made { count = 1 }
    else stays_made here is_range around.declared (declared_there there around) merged inside)) (sym left)

-- it goes also then: it counts, and its faults are appended
pub put_none : (documents : Documents) (links : ℕ) (faults : List Fault) (a c : Resolver) (places : PlaceTables)
    → Counts faults a c → c.count ≤ count_limit → links ≤ length a.path.items → AreTables documents places
    → IsWalked documents links (made_with faults (record nothing_made { count = 1 })) a c places
put_none documents links faults a c places counts room within tables = record {
  put = record {
    nodes = counts.nodes ∙ sym (behind_end (built a));
    declared = counts.declared ∙ sym (append-nil (declared_put a));
    count = counts.count;
    room = room;
    faults = counts.appended ∙ ap (λ (fs : List Fault). a.faults ++ fs) (sym (append-nil faults));
  };
  path = path_same links a c counts.path;
  within = subst (λ (p : Vec kept.Place Global). links ≤ length p.items) (sym counts.path) within;
  tables = tables;
}

abbrev pub element_put_as : List ℕ → List Attribute → List ℕ → ℕ → List ℕ → Element
element_put_as name attributes doc line href_doc = building.element name attributes doc line href_doc

pub home_kept : (is_range : Bool) (element : Element) → element.href_doc ≡ (without_id is_range element).href_doc
home_kept true element = refl
home_kept false element = refl

-- the name is that of the element
pub opened_named : (is_range : Bool) (element : Element) (name : List ℕ) (attributes : List Attribute)
    (href_doc : List ℕ) → name ≡ element.name → attributes ≡ (without_id is_range element).attributes
    → href_doc ≡ (without_id is_range element).href_doc
    → building.element name attributes element.doc element.line href_doc ≡ without_id is_range element
opened_named is_range element name attributes href_doc named are home =
    ap (λ n. building.element n attributes element.doc element.line href_doc) named
    ∙ opened_as is_range element attributes href_doc are home

-- An element that was judged again with what it takes

module _ (here : Here) (links : ℕ) (is_range : Bool) (around : ContentAround) (there : List (List ℕ))
    (element target : Element) (inside : Written) (merged : Merged) (a b c : Resolver) (places : PlaceTables) (counted : OneMore a b)
    (is : IsMerged merged (merged_element element target))
    (judged : c ≡ record b { faults = b.faults ++ group_faults around.declared (with_attributes merged.attributes element) })
    (rules : here.setting.rules ≡ b.rules) where
  abbrev whole : Element
  whole = merged_element element target

  pub merged_count : Counts (group_faults around.declared (merged_element element target)) a c
  merged_count = counts_judged (group_faults around.declared whole) a b c counted
      (judged ∙ ap (λ (fs : List Fault). (let r : Resolver = record b { faults = b.faults ++ fs } in r))
      (judged_as around.declared element target merged is))

  goes_is : (test : Bool) → test ≡ some_exclude b.rules around.declared merged.attributes → goes here.setting around.declared whole ≡ test
  goes_is test by = sym (goes_as here.setting b.rules around.declared whole merged.attributes rules is.attributes) ∙ sym by

  pub merged_goes : true ≡ some_exclude b.rules around.declared merged.attributes → links ≤ length a.path.items
      → AreTables here.setting.pushed places
      → IsWalked here.setting.pushed links (merged_made here is_range around there (merged_element element target) inside) a c
      places
  merged_goes gone within tables =
      subst (λ (m : Made). IsWalked here.setting.pushed links m a c places)
      (merged_gone here is_range around there whole inside (goes_is true gone))
      (put_none here.setting.pushed links (group_faults around.declared whole) a c places merged_count
      (counts_room (group_faults around.declared whole) a b c counted merged_count) within tables)

  abbrev content : Made
  content = among_made (inside_of here) false (around_within is_range whole (declared_there there around)) inside

  pub merged_stays : (given : Element) (d e f : Resolver) (after : PlaceTables)
      → false ≡ some_exclude b.rules around.declared merged.attributes → d ≡ record c { maker = d.maker }
      → built d ≡ opened (built c) given → declared_put d ≡ declared_put c ++ around.declared ∷ []
      → given ≡ without_id is_range (merged_element element target)
      → IsWalked here.setting.pushed links (among_made (inside_of here) false
      (around_within is_range (merged_element element target) (declared_there there around)) inside) d e after
      → f ≡ record e { maker = f.maker } → built f ≡ closed (built e) → declared_put f ≡ declared_put e
      → IsWalked here.setting.pushed links (merged_made here is_range around there (merged_element element target) inside) a f
      after
  merged_stays given d e f after left state into noted same walked end close kept_names =
      subst (λ (m : Made). IsWalked here.setting.pushed links m a f after)
      (merged_left here is_range around there whole inside (goes_is false left))
      (put_around here.setting.pushed links is_range around.declared whole content
      (group_faults around.declared whole) a d e f after
      (opens_by (group_faults around.declared whole) around.declared (without_id is_range whole) given a c d merged_count
      state into noted same) walked (closes_by e f end close kept_names))

  pub merged_not : (stop : Stop TooMany) (given : Element) (d e : Resolver) (after : PlaceTables)
      → false ≡ some_exclude b.rules around.declared merged.attributes → d ≡ record c { maker = d.maker }
      → built d ≡ opened (built c) given → declared_put d ≡ declared_put c ++ around.declared ∷ []
      → given ≡ without_id is_range (merged_element element target)
      → Walks (Err stop) here.setting.pushed links (among_made (inside_of here) false
      (around_within is_range (merged_element element target) (declared_there there around)) inside) d e after
      → Walks (Err stop) here.setting.pushed links
      (merged_made here is_range around there (merged_element element target) inside) a e after
  merged_not stop given d e after left state into noted same walked =
      walks_as (Err stop) here.setting.pushed links _ _ a e after
      (merged_left here is_range around there whole inside (goes_is false left))
      (around_not stop here.setting.pushed links is_range around.declared whole content
      (group_faults around.declared whole) a d e after
      (opens_by (group_faults around.declared whole) around.declared (without_id is_range whole) given a c d merged_count
      state into noted same) walked)

-- the page is ready for what an element holds that was opened
pub ready_opened : (world : World) (stand : Stand) (links : ℕ) (here : Here) (faults : List Fault)
    (given : Element) (a b c : Resolver) (places : PlaceTables) → IsReady world stand links here a places
    → IsSamePage a b → Counts faults a b → b.count ≤ count_limit → c ≡ record b { maker = c.maker }
    → built c ≡ opened (built b) given → IsReady world stand links (inside_of here) c places
ready_opened world stand links here faults given a b c places ready same counts room state into =
    ready_inside world stand stand links here given a c places ready
    (record {
      context = ap (λ (r : Resolver). r.context) state ∙ same.context;
      rules = ap (λ (r : Resolver). r.rules) state ∙ same.rules;
      deepest = ap (λ (r : Resolver). r.deepest) state ∙ same.deepest;
    }) refl (ap (λ (r : Resolver). r.path) state ∙ counts.path)
    (into ∙ ap (λ (x : Building). opened x given) counts.nodes)
    (subst (λ n. n ≤ count_limit) (sym (ap (λ (r : Resolver). r.count) state)) room)

pub page_one : (a b : Resolver) → OneMore a b → IsSamePage a b
page_one a b one = record {
  context = ap (λ (r : Resolver). r.context) one.state;
  rules = ap (λ (r : Resolver). r.rules) one.state;
  deepest = ap (λ (r : Resolver). r.deepest) one.state;
}

pub page_judged : (faults : List Fault) (a b c : Resolver) → OneMore a b → c ≡ record b { faults = faults }
    → IsSamePage a c
page_judged faults a b c one judged = record {
  context = ap (λ (r : Resolver). r.context) judged ∙ ap (λ (r : Resolver). r.context) one.state;
  rules = ap (λ (r : Resolver). r.rules) judged ∙ ap (λ (r : Resolver). r.rules) one.state;
  deepest = ap (λ (r : Resolver). r.deepest) judged ∙ ap (λ (r : Resolver). r.deepest) one.state;
}
