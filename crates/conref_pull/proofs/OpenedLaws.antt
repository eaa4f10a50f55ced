-- An element that is opened, holds what is resolved, and is closed: as it is, or with what it takes.
use Rattle.std.specs.Prelude.{◌≡◌, ◌++◌, ℕ, Bool, true, false, List, [], ◌∷◌, Option, Some, Result, Ok, Err, IsErrAnd}
use Rattle.std.specs.List.{AllZip, each_same}
use Rattle.std.proofs.Common.{refl, sym, ap, ◌∙◌}
use Rattle.dita_doc.specs.declared.doc.Attribute.{Attribute}
use Rattle.dita_doc.specs.declared.stop.Stop.{Stop}
use Rattle.doc_maker.specs.Building.{closed, href_written, opened}
use Rattle.doc_maker.specs.Made.{building, declared}
use Rattle.doc_maker.specs.declared.maker.DocMaker.{DocMaker}
use Rattle.map_spec.specs.Judged.{group_faults}
use Rattle.map_spec.specs.Written.{Element, Whole, Written}
use Rattle.conref_spec.specs.Content.{ContentAround, Made, ResolveInput, around_within, declared_there, merged_element, without_id}
use Rattle.reader_spec.specs.World.{World}
use Rattle.readers.specs.Setting.{Stand}
use Rattle.conref_targets.specs.Judging.{with_attributes}
use Rattle.conref_targets.specs.Rules.{some_exclude}
use Rattle.conref_targets.specs.declared.tables.PlaceTables.{PlaceTables}
use Rattle.conref_pull.specs.Count.{OneMore}
use Rattle.conref_pull.specs.Merging.{IsMerged}
use Rattle.conref_pull.specs.Putting.{built}
use Rattle.conref_pull.specs.Walking.{Here, IsReady, IsWalked, Walks, among_made, inside_of, kept_made, merged_made}
use Rattle.conref_pull.specs.declared.merge.Merged.{Merged}
use Rattle.conref_pull.specs.declared.resolver.Resolver.{Resolver}
use Rattle.conref_pull.specs.declared.resolver.TooMany.{TooMany}
use Rattle.conref_pull.proofs.AroundLaws.{Counts, Opens, around_not, closes_by, counts_one, counts_room, element_put_as, merged_count, merged_goes, merged_not, merged_stays, opened_named, opens_by, page_judged, page_one, put_around, ready_opened}
use Rattle.conref_pull.proofs.ChainLaws.{shown_inside}
use Rattle.conref_pull.proofs.HrefHomeLaws.{kept_home, taken_home}
use Rattle.conref_pull.proofs.WalkLaws.{walks_as, walks_err}

-- the page, with what was made so far
abbrev pub at_maker : Resolver → DocMaker → Resolver
at_maker a maker = record a { maker = maker }

-- a copy of the names that are declared for it
noted_as : (names given : List (List ℕ)) (before after : DocMaker) → AllZip (λ name copy. copy ≡ name) given names
    → declared after ≡ declared before ++ names ∷ [] → declared after ≡ declared before ++ given ∷ []
noted_as names given before after copied noted =
    noted ∙ ap (λ (some : List (List ℕ)). declared before ++ some ∷ []) (each_same given names copied)

-- As it is

module _ {world : World} {stand : Stand} {links : ℕ} {here : Here} {held : ContentAround} {name : List ℕ} {attributes : List Attribute}
    {a b : Resolver} {places : PlaceTables} (is_range : Bool) (around : ContentAround) (element : Element)
    (inside : Written)
    (opener : DocMaker) (names : List (List ℕ)) (own : element.href_doc ≡ element.doc) (counted : OneMore a b)
    (named : name ≡ element.name) (are : attributes ≡ (without_id is_range element).attributes)
    (into : building opener ≡ opened (built b) (element_put_as name attributes element.doc element.line
    (href_written attributes element.doc element.href_doc)))
    (copied : AllZip (λ name copy. copy ≡ name) around.declared names)
    (noted : declared opener ≡ declared b.maker ++ names ∷ [])
    (holds : held ≡ around_within is_range element around) (ready : IsReady world stand links here a places) where
  abbrev c : Resolver
  c = at_maker b opener

  abbrev given : Element
  given = element_put_as name attributes element.doc element.line (href_written attributes element.doc element.href_doc)

  counts : Counts [] a b
  counts = counts_one a b counted

  opens : Opens [] around.declared (without_id is_range element) a c
  opens = opens_by [] around.declared (without_id is_range element) given a b c counts refl into
      (noted_as names around.declared b.maker opener copied noted)
      (opened_named is_range element name attributes (href_written attributes element.doc element.href_doc) named are
      (kept_home attributes is_range element own))

  now : IsReady world stand links (inside_of here) c places
  now = ready_opened world stand links here [] given a b c places ready (page_one a b counted) counts
      (counts_room [] a b b counted counts) refl into

  abbrev content : Made
  content = among_made (inside_of here) false (around_within is_range element around) inside

  held_is : (result : Result (Unit {0}) (Stop TooMany)) (d : Resolver) (after : PlaceTables)
      → (IsReady world stand links (inside_of here) c places
      → Walks result here.setting.pushed links (among_made (inside_of here) false held inside)
      (at_maker b opener) d after)
      → Walks result here.setting.pushed links content c d after
  held_is result d after walked = walks_as result here.setting.pushed links
      (among_made (inside_of here) false held inside) content c d after
      (ap (λ (t : ContentAround). among_made (inside_of here) false t inside) holds) (walked now)

  pub kept_put : {d : Resolver} {after : PlaceTables} (closer : DocMaker)
      → (IsReady world stand links (inside_of here) (at_maker b opener) places
      → IsWalked here.setting.pushed links (among_made (inside_of here) false held inside) (at_maker b opener) d after)
      → building closer ≡ closed (built d) → declared closer ≡ declared d.maker
      → IsWalked here.setting.pushed links (kept_made here is_range around element inside) a (at_maker d closer) after
  kept_put {d} {after} closer walked close still = put_around here.setting.pushed links is_range around.declared element
      content [] a c d (at_maker d closer) after opens (held_is (Ok tt) d after walked)
      (closes_by d (at_maker d closer) refl close still)

  pub kept_not : (result : Result (Unit {0}) (Stop TooMany)) (stop : Stop TooMany) (d : Resolver) (after : PlaceTables)
      → IsErrAnd result (λ e. e ≡ stop)
      → (IsReady world stand links (inside_of here) (at_maker b opener) places
      → Walks (Err stop) here.setting.pushed links (among_made (inside_of here) false held inside)
      (at_maker b opener) d after)
      → Walks result here.setting.pushed links (kept_made here is_range around element inside) a d after
  kept_not result stop d after is walked =
      walks_err result stop here.setting.pushed links (kept_made here is_range around element inside) a d after is
      (around_not stop here.setting.pushed links is_range around.declared element content [] a c d after opens
      (held_is (Err stop) d after walked))

-- With what it takes

module _ {world : World} {stand : Stand} {links : ℕ} {here : Here} {merged : Merged} {a b c : Resolver}
    {places : PlaceTables} (is_range : Bool) (around : ContentAround) (there : List (List ℕ)) (element target : Element)
    (inside : Written) (counted : OneMore a b) (is : IsMerged merged (merged_element element target))
    (judged : c ≡ record b { faults = b.faults ++ group_faults around.declared (with_attributes merged.attributes element) })
    (ready : IsReady world stand links here a places) where
  rules : here.setting.rules ≡ b.rules
  rules = ap (λ (s : ResolveInput). s.rules) ready.setting ∙ sym (ap (λ (r : Resolver). r.rules) counted.state)

  pub taken_goes : true ≡ some_exclude b.rules around.declared merged.attributes
      → IsWalked here.setting.pushed links (merged_made here is_range around there (merged_element element target) inside) a c
      places
  taken_goes gone = merged_goes here links is_range around there element target inside merged a b c places counted is judged
      rules gone ready.within ready.tables

module _ {world : World} {stand : Stand} {links : ℕ} {here : Here} {held : ContentAround} {name : List ℕ}
    {merged own : Merged}
    {a b c : Resolver} {places : PlaceTables} (is_range : Bool) (around : ContentAround) (there : List (List ℕ))
    (element target : Element) (inside : Written) (opener : DocMaker) (names : List (List ℕ))
    (at_home : element.href_doc ≡ element.doc) (counted : OneMore a b)
    (is : IsMerged merged (merged_element element target))
    (judged : c ≡ record b { faults = b.faults ++ group_faults around.declared (with_attributes merged.attributes element) })
    (left : false ≡ some_exclude b.rules around.declared merged.attributes) (named : name ≡ element.name)
    (written : (whole : Element) → IsMerged merged whole → IsMerged own (without_id is_range whole))
    (into : building opener ≡ opened (built c) (element_put_as name own.attributes element.doc element.line
    (href_written own.attributes element.doc own.href_doc)))
    (copied : AllZip (λ name copy. copy ≡ name) around.declared names)
    (noted : declared opener ≡ declared c.maker ++ names ∷ [])
    (holds : held ≡ around_within is_range (merged_element element target) (declared_there there around))
    (ready : IsReady world stand links here a places) where
  abbrev whole : Element
  whole = merged_element element target

  abbrev d : Resolver
  d = at_maker c opener

  abbrev put_as : Element
  put_as = element_put_as name own.attributes element.doc element.line
      (href_written own.attributes element.doc own.href_doc)

  rules_are : here.setting.rules ≡ b.rules
  rules_are = rules is_range around there element target inside counted is judged ready

  noted_is : declared opener ≡ declared c.maker ++ around.declared ∷ []
  noted_is = noted_as names around.declared c.maker opener copied noted

  home_is : href_written own.attributes element.doc own.href_doc ≡ (without_id is_range whole).href_doc
  home_is = ap (λ (all : List Attribute). href_written all element.doc own.href_doc) (written whole is).attributes
      ∙ ap (href_written (without_id is_range whole).attributes element.doc) (written whole is).href_doc
      ∙ taken_home is_range element target at_home

  put_is : put_as ≡ without_id is_range whole
  put_is = opened_named is_range whole name own.attributes (href_written own.attributes element.doc own.href_doc) named
      (written whole is).attributes home_is

  counts_all : Counts (group_faults around.declared whole) a c
  counts_all = merged_count here links is_range around there element target inside merged a b c places counted is judged
      rules_are

  ready_held : IsReady world stand links (inside_of here) d places
  ready_held = ready_opened world stand links here (group_faults around.declared whole) put_as a c d places ready
      (page_judged _ a b c counted judged) counts_all (counts_room (group_faults around.declared whole) a b c counted counts_all) refl
      into

  content_taken : (result : Result (Unit {0}) (Stop TooMany)) (kept : Written) (e : Resolver) (after : PlaceTables)
      → kept ≡ inside → (IsReady world stand links (inside_of here) d places
      → Walks result here.setting.pushed links (among_made (inside_of here) false held kept)
      (at_maker c opener) e after)
      → Walks result here.setting.pushed links
      (among_made (inside_of here) false (around_within is_range whole (declared_there there around)) inside) d e after
  content_taken result kept e after same walked = walks_as result here.setting.pushed links
      (among_made (inside_of here) false held kept)
      (among_made (inside_of here) false (around_within is_range whole (declared_there there around)) inside) d e after
      (ap (λ (t : ContentAround). among_made (inside_of here) false t kept) holds
      ∙ ap (among_made (inside_of here) false (around_within is_range whole (declared_there there around))) same) (walked ready_held)

  pub taken_put : {first last : Element} {kept : Written} {e : Resolver} {after : PlaceTables} (closer : DocMaker)
      → ◌≡◌ {A = Option Whole} (Some (first, kept)) (Some (last, inside))
      → (IsReady world stand links (inside_of here) (at_maker c opener) places
      → IsWalked here.setting.pushed links (among_made (inside_of here) false held kept) (at_maker c opener) e after)
      → building closer ≡ closed (built e) → declared closer ≡ declared e.maker
      → IsWalked here.setting.pushed links (merged_made here is_range around there (merged_element element target) inside) a
      (at_maker e closer) after
  taken_put {first} {last} {kept} {e} {after} closer same walked close still =
      merged_stays here links is_range around there element target inside merged a b c places counted is judged rules_are
      put_as d e (at_maker e closer) after left refl into noted_is put_is (content_taken (Ok tt) kept e after
      (shown_inside (first, kept) (last, inside) same) walked) refl close still

  pub taken_not : {first last : Element} {kept : Written} (result : Result (Unit {0}) (Stop TooMany))
      (stop : Stop TooMany) (e : Resolver) (after : PlaceTables) → IsErrAnd result (λ f. f ≡ stop)
      → ◌≡◌ {A = Option Whole} (Some (first, kept)) (Some (last, inside))
      → (IsReady world stand links (inside_of here) (at_maker c opener) places
      → Walks (Err stop) here.setting.pushed links (among_made (inside_of here) false held kept)
      (at_maker c opener) e after)
      → Walks result here.setting.pushed links (merged_made here is_range around there
      (merged_element element target) inside) a e after
  taken_not {first} {last} {kept} result stop e after ended same walked =
      walks_err result stop here.setting.pushed links (merged_made here is_range around there whole inside) a e after ended
      (merged_not here links is_range around there element target inside merged a b c places counted is judged rules_are stop
      put_as d e after left refl into noted_is put_is (content_taken (Err stop) kept e after
      (shown_inside (first, kept) (last, inside) same) walked))
