-- Whether a target can be taken, test by test, and the step that takes it.
use Rattle.std.specs.Prelude.{◌≡◌, ◌+◌, ◌-◌, ◌||◌, ◌++◌, ◌<◌, ◌≤◌, ℕ, Bool, true, false, not, List, [], ◌∷◌, Option, Some, None, codes, is_some, length, map, nat_le, nat_lt, slice_get, take, unwrap_or, if◌then◌else◌}
use Rattle.std.specs.Arc.{arc_value}
use Rattle.std.specs.List.{list_any}
use Rattle.std.specs.Option.{option_map_or}
use Rattle.std.specs.declared.alloc.Global.{Global}
use Rattle.std.specs.declared.vec.Vec.{Vec}
use Rattle.std.proofs.Common.{refl, sym, ap, subst, ◌∙◌, arith, append-nil}
use Rattle.std.proofs.lemmas.List.{length-map, length-take-le, map-append, take-map}
use Rattle.std.proofs.lemmas.Bool.Decides.{nat_tests}
use Rattle.dita_doc.specs.Tree as tree
use Rattle.dita_doc.specs.Tree.{Content, size_of, tree_of}
use Rattle.dita_doc.specs.declared.doc.Doc.{Doc}
use Rattle.dita_doc.specs.declared.doc.Node.{Node}
use Rattle.dita_doc.specs.declared.fault.Fault.{Fault}
use Rattle.dita_doc.specs.declared.fault.FaultCode.{FaultCode}
use Rattle.dita_doc.specs.declared.fault.FaultCode.TheVariants as faults
use Rattle.dita_doc.proofs.Lists.{any_map}
use Rattle.map_spec.specs.Elements.{attribute, fault_at, is_special}
use Rattle.map_spec.specs.Written as written
use Rattle.map_spec.specs.Written.{Element, Written, End, size}
use Rattle.conref_spec.specs.Content as content
use Rattle.conref_spec.specs.Content.{declared_around_written, resolve_depth_limit, is_place, path_limit, range_by, refused_by}
use Rattle.readers.proofs.GivenLaws.{size_named}
use Rattle.conref_targets.specs.Ranges.{IsRangeEnd, IsUpTo}
use Rattle.conref_targets.specs.Found.{IsFound}
use Rattle.conref_targets.specs.Origin.{begins_element, first_whole, whole_of, whole_shown}
use Rattle.conref_targets.specs.Parts.{AreSiblingsAt, among_first}
use Rattle.conref_targets.specs.Tables.{AreTables, Documents}
use Rattle.conref_targets.specs.declared.find.Found.{Found}
use Rattle.conref_targets.specs.declared.origin.Whole.{Whole}
use Rattle.conref_targets.specs.declared.tables.PlaceTables.{PlaceTables}
use Rattle.conref_targets.proofs.RangeEndLaws.{end_there}
use Rattle.conref_pull.specs.Accepting.{is_too_deep, link_of, refusal_by}
use Rattle.conref_pull.specs.Linked.{IsLink, IsStep}
use Rattle.conref_pull.specs.State.{place_shown}
use Rattle.conref_pull.specs.Step.{step_with, target_taken}
use Rattle.conref_pull.specs.declared.chain.TakenTarget.{TakenTarget}
use Rattle.conref_pull.specs.declared.place.Place as kept
use Rattle.conref_pull.specs.declared.resolver.Resolver.{Resolver}

-- Paths

-- a test of the first so many, seen otherwise
pub any_within : {X Y : Type 0} (test : Y → Bool) (f : X → Y) (n : ℕ) (some whole items : List X) (found : Bool)
    → whole ≡ items → some ≡ take n whole → found ≡ list_any (λ x. test (f x)) some
    → found ≡ list_any test (take n (map f items))
any_within test f n some whole items found all first is =
    is ∙ ap (list_any (λ x. test (f x))) (first ∙ ap (take n) all)
    ∙ sym (any_map test f (take n items)) ∙ ap (list_any test) (sym (take-map f n items))

-- one more behind the first so many, seen otherwise
pub one_behind : {X Y : Type 0} (f : X → Y) (n : ℕ) (old first new : List X) (x : X) → first ≡ take n old
    → new ≡ first ++ x ∷ [] → map f new ≡ take n (map f old) ++ f x ∷ []
one_behind f n old first new x front is =
    ap (map f) (is ∙ ap (λ ys. ys ++ x ∷ []) front) ∙ map-append f (take n old) (x ∷ [])
    ∙ ap (λ ys. ys ++ f x ∷ []) (sym (take-map f n old))

pub count_within : {X Y : Type 0} (f : X → Y) (n : ℕ) (xs : List X) → n ≤ length xs → length (take n (map f xs)) ≡ n
count_within f n xs fits = length-take-le n (map f xs) (rw length-map fits)

-- Refusals

links_few : (links limit : ℕ) (deep : Bool) → (nat_le limit links || deep) ≡ false → links < limit
links_few links limit deep few = grind (arith, nat_tests)

pub few_links : (links deepest opened : ℕ) → is_too_deep links deepest opened ≡ false → links < path_limit
few_links links deepest opened few = links_few links path_limit (nat_le deepest opened) few

-- as many as the path has
pub deep_same : (links deepest opened at : ℕ) (path : List content.Place) → length path ≡ links
    → nat_lt resolve_depth_limit at ≡ nat_le deepest opened
    → (nat_le path_limit (length path) || nat_lt resolve_depth_limit at) ≡ is_too_deep links deepest opened
deep_same links deepest opened at path count depth =
    ap (λ n. nat_le path_limit n || nat_lt resolve_depth_limit at) count
    ∙ ap (λ (b : Bool). nat_le path_limit links || b) depth

-- what refuses a target, by what the tests give
abbrev refused_if : Bool → Bool → Bool → Bool → List ℕ → List ℕ → Element → Option Fault
refused_if special ranged on_path deep value end element =
    if not special then Some (fault_at element faults.ConrefType value)
    else if not ranged then Some (fault_at element faults.RangeEnd end)
    else if on_path then Some (fault_at element faults.ConrefCycle value)
    else if deep then Some (fault_at element faults.ConrefDepth value)
    else None

by_code : (on_path deep : Bool) (code : FaultCode) (value end : List ℕ) (element : Element)
    → refusal_by on_path deep ≡ Some code
    → refused_if true true on_path deep value end element ≡ Some (fault_at element code value)
by_code true deep code value end element is =
    let e : faults.ConrefCycle ≡ code = cc in ap (λ (c : FaultCode). Some (fault_at element c value)) e
by_code false true code value end element is =
    let e : faults.ConrefDepth ≡ code = cc in ap (λ (c : FaultCode). Some (fault_at element c value)) e
by_code false false code value end element is = cc

by_none : (on_path deep : Bool) (value end : List ℕ) (element : Element) → refusal_by on_path deep ≡ None
    → refused_if true true on_path deep value end element ≡ None
by_none true deep value end element is = cc
by_none false true value end element is = cc
by_none false false value end element is = refl

module _ (value : List ℕ) (at : ℕ) (path : List content.Place) (element : Element) (meant : content.Found) where
  abbrev written_end : Option (List ℕ)
  written_end = attribute (codes "conrefend") element

  abbrev range : Option Written
  range = range_by meant.standing written_end

  abbrev on_path : Bool
  on_path = list_any (is_place (record { doc = meant.doc; at = meant.standing.place })) path

  abbrev deep : Bool
  deep = nat_le path_limit (length path) || nat_lt resolve_depth_limit at

  by_tests : (special : Bool) (found : Option Written) → is_special meant.standing.whole.0 element ≡ special
      → range ≡ found
      → refused_by value at path element meant
      ≡ refused_if special (is_some found) on_path deep value (unwrap_or written_end []) element
  by_tests special found is ends =
      ap (λ (b : Bool). refused_if b (is_some range) on_path deep value (unwrap_or written_end []) element) is
      ∙ ap (λ (r : Option Written). refused_if special (is_some r) on_path deep value (unwrap_or written_end []) element) ends

  pub refused_type : is_special meant.standing.whole.0 element ≡ false
      → refused_by value at path element meant ≡ Some (fault_at element faults.ConrefType value)
  refused_type is = by_tests false range is refl

  pub refused_range : is_special meant.standing.whole.0 element ≡ true → range ≡ None
      → refused_by value at path element meant ≡ Some (fault_at element faults.RangeEnd (unwrap_or written_end []))
  refused_range is ends = by_tests true None is ends

  module _ (special : is_special meant.standing.whole.0 element ≡ true) (some : Written) (ends : range ≡ Some some)
      (is_on is_deep : Bool) (on_is : on_path ≡ is_on) (deep_is : deep ≡ is_deep) where
    both_tests : refused_by value at path element meant
        ≡ refused_if true true is_on is_deep value (unwrap_or written_end []) element
    both_tests = by_tests true (Some some) special ends
        ∙ ap (λ (b : Bool). refused_if true true b deep value (unwrap_or written_end []) element) on_is
        ∙ ap (λ (b : Bool). refused_if true true is_on b value (unwrap_or written_end []) element) deep_is

    pub refused_code : (code : FaultCode) → refusal_by is_on is_deep ≡ Some code
        → refused_by value at path element meant ≡ Some (fault_at element code value)
    refused_code code is = both_tests ∙ by_code is_on is_deep code value (unwrap_or written_end []) element is

    pub refused_none : refusal_by is_on is_deep ≡ None → refused_by value at path element meant ≡ None
    refused_none is = both_tests ∙ by_none is_on is_deep value (unwrap_or written_end []) element is

-- a range that has an end is one
pub range_there : (from : ℕ) (behind : Written) (range : Option Written) (to : ℕ)
    → IsRangeEnd from behind range (Some to) → (some : Written) × (range ≡ Some some) × IsUpTo from behind some to
range_there from behind None to is = absurd is
range_there from behind (Some some) to is = (some, refl, is)

pub range_missing : (from : ℕ) (behind : Written) (range : Option Written) → IsRangeEnd from behind range None
    → range ≡ None
range_missing from behind None is = refl
range_missing from behind (Some some) is = absurd is

-- The target

module _ (documents : Documents) (meant : content.Found) (found : Found) (is : IsFound documents meant found) where
  -- it is the element that was found, with what it holds
  pub whole_found : (doc : Doc) (got : Option Whole) → doc ≡ arc_value found.doc
      → ((part : Content) → AreSiblingsAt (tree_of doc.nodes) found.place part → begins_element part ≡ true
      → whole_shown got ≡ first_whole doc.origins part)
      → whole_shown got ≡ Some meant.standing.whole
  whole_found doc got same whole =
      let part : Content = tree.Element is.stands.name is.stands.attributes is.stands.origin is.stands.line is.stands.inside
      is.stands.rest in
      let there : AreSiblingsAt (tree_of doc.nodes) found.place part =
      subst (λ n. AreSiblingsAt (tree_of doc.nodes) n part) (sym is.place)
      (subst (λ (d : Doc). AreSiblingsAt (tree_of d.nodes) meant.standing.place part) (sym same) is.stands.part) in
      whole part there refl ∙ ap (λ (d : Doc). first_whole d.origins part) same ∙ is.stands.whole

  pub none_found : (doc : Doc) → doc ≡ arc_value found.doc
      → ((part : Content) → AreSiblingsAt (tree_of doc.nodes) found.place part → begins_element part ≡ true
      → whole_shown None ≡ first_whole doc.origins part) → ⊥
  none_found doc same whole = let e = whole_found doc None same whole in cc

  pub target_found : (doc : Doc) (got : Whole) → doc ≡ arc_value found.doc
      → ((part : Content) → AreSiblingsAt (tree_of doc.nodes) found.place part → begins_element part ≡ true
      → whole_shown (Some got) ≡ first_whole doc.origins part)
      → (whole_of got).0 ≡ meant.standing.whole.0
  target_found doc got same whole =
      ap (λ (w : Option written.Whole). option_map_or (λ (one : written.Whole). one.0) w meant.standing.whole.0)
      (whole_found doc (Some got) same whole)

  -- it was taken, with the range up to this place
  module _ (target : Node) (here : slice_get (arc_value found.doc).nodes found.place ≡ Some target)
      (path : List content.Place) (element : Element) (some : Written) (to : ℕ)
      (ends : range_by meant.standing (attribute (codes "conrefend") element) ≡ Some some)
      (up_to : IsUpTo target.end meant.standing.behind some to) (declared : List (List ℕ))
      (names : declared ≡ declared_around_written [] meant.nodes meant.standing.place) where
    pub link_found : IsLink (link_of found declared target.end to) (target_taken path element meant)
    link_found = record {
      name = is.stands.name;
      attributes = is.stands.attributes;
      origin = is.stands.origin;
      line = is.stands.line;
      inside = is.stands.inside;
      rest = is.stands.rest;
      part = subst (λ n. AreSiblingsAt (tree_of (arc_value found.doc).nodes) n
          (tree.Element is.stands.name is.stands.attributes is.stands.origin is.stands.line is.stands.inside
          is.stands.rest)) (sym is.place) is.stands.part;
      whole = is.stands.whole;
      declared = names;
      from = end_there documents meant found is target here
          ∙ ap (λ n. n + 1 + size_of is.stands.inside) (sym is.place);
      forward = up_to.forward;
      fits = subst (λ n. to ≤ target.end + n) size_is up_to.fits;
      range = ap (λ (r : Option Written). unwrap_or r End) ends ∙ up_to.range
          ∙ ap (among_first (to - target.end)) is.stands.behind;
    }
      where
        size_is : size meant.standing.behind ≡ size_of is.stands.rest
        size_is = ap size is.stands.behind ∙ size_named (arc_value found.doc).origins is.stands.rest

-- Steps

module _ (documents : Documents) (path : List content.Place) (element : Element) (meant : content.Found)
    (old new : Resolver) (places : PlaceTables) (tables : AreTables documents places) where
  -- a target that was refused
  pub step_refused : (refused : Option Fault) (fault : Fault) → refused ≡ Some fault
      → new ≡ record old { faults = old.faults ++ fault ∷ [] }
      → IsStep documents (step_with path element meant [] refused) old new places None
  step_refused None fault is state = cc
  step_refused (Some other) fault is state =
      let same : other ≡ fault = cc in
      record {
        link = tt;
        state = state
            ∙ ap (λ (f : Fault). (let made : Resolver = record old { faults = old.faults ++ f ∷ [] } in made)) (sym same)
            ∙ ap (λ (p : Vec kept.Place Global). (let made : Resolver = record old { faults = old.faults ++ other ∷ []; path = p } in made))
            (sym (ap (λ (r : Resolver). r.path) state));
        path = ap (λ (r : Resolver). r.path) state;
        tables = tables;
      }

  -- a target that was taken
  pub step_taken : (refused : Option Fault) (link : TakenTarget) → refused ≡ None
      → new ≡ record old { path = new.path } → IsLink link (target_taken path element meant)
      → map place_shown new.path.items ≡ (target_taken path element meant).path
      → IsStep documents (step_with path element meant [] refused) old new places (Some link)
  step_taken (Some fault) link is state linked further = cc
  step_taken None link is state linked further = record {
    link = linked;
    state = state ∙ ap (λ (f : List Fault). (let made : Resolver = record old { faults = f; path = new.path } in made))
        (sym (append-nil old.faults));
    path = further;
    tables = tables;
  }
