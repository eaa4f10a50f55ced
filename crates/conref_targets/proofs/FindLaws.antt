-- What references name, as it is found.
use Rattle.std.specs.Prelude.{◌≡◌, ◌++◌, ℕ, Bool, true, false, List, [], ◌∷◌, Option, Some, None, Result, Ok, Err, IfOk, IfSome, is_some, option_map, unwrap_or, if◌then◌else◌}
use Rattle.std.specs.Arc.{arc_value}
use Rattle.std.specs.declared.alloc.Global.{Global}
use Rattle.std.specs.declared.sync.Arc.{Arc}
use Rattle.std.proofs.Common.{refl, sym, ap, subst, ◌∙◌, append-nil, append_assoc}
use Rattle.dita_doc.specs.declared.content.KeyAnswer.{KeyAnswer}
use Rattle.dita_doc.specs.declared.doc.Doc.{Doc}
use Rattle.dita_doc.specs.declared.fault.Fault.{Fault}
use Rattle.dita_doc.specs.declared.plan.Reference.{Reference}
use Rattle.href_text.specs.Joined.{joined}
use Rattle.href_text.specs.Reference.{reference_of}
use Rattle.map_spec.specs.Keys.{key_of}
use Rattle.map_spec.specs.Target.{if_read, is_same_topic}
use Rattle.map_spec.specs.Written.{Element, Written}
use Rattle.conref_spec.specs.Content as content
use Rattle.conref_spec.specs.Content.{ResolveInput, Sought, by_conref, by_key, found_by, found_in, conkeyref_faults, key_named, missing_fault, has_reference, sought_by, value_used}
use Rattle.map_spec.specs.Places.{Standing, target_in}
use Rattle.readers.specs.Documents.{IsGiven}
use Rattle.readers.specs.Named.{named_tree}
use Rattle.topic_find.specs.Walk.{place_of, target_place}
use Rattle.dita_doc.specs.declared.stop.NoMemory.{NoMemory}
use Rattle.dita_doc.specs.declared.content.Rule.{Rule}
use Rattle.dita_doc.specs.declared.plan.PageId.{PageId}
use Rattle.dita_doc.specs.declared.plan.Target.{Target}
use Rattle.reader_spec.specs.World.{World}
use Rattle.readers.specs.Setting.{Stand}
use Rattle.readers.specs.Told.{Told}
use Rattle.conref_targets.specs.ResolveInput.{documents_in, setting_of}
use Rattle.conref_targets.specs.Asking.{IsGivenIn}
use Rattle.conref_targets.specs.Found.{AreFound, IsKeyed, IsReferenced, IsSearch, missing_by, search_faults}
use Rattle.conref_targets.specs.Sought.{if_reference, sought_found, sought_shown}
use Rattle.conref_targets.specs.Tables.{AreTables, Documents}
use Rattle.conref_targets.specs.declared.find.Found.{Found}
use Rattle.conref_targets.specs.declared.find.Keyed.{Keyed}
use Rattle.conref_targets.specs.declared.reference.Sought as kept
use Rattle.conref_targets.specs.declared.tables.PlaceTables.{PlaceTables}
use Rattle.conref_targets.proofs.StandLaws.{target_stands}

-- In a document

module _ (setting : ResolveInput) (name topic element value : List ℕ) (places : PlaceTables)
    (tables : AreTables setting.pushed places) where
  -- nothing stands under the name
  pub not_stored : setting.pushed name ≡ None
      → IsSearch setting.pushed (found_in setting name topic element) value places None
  not_stored e = record { found = rw e tt; named = tt; tables = tables }

  none_meant : (nodes : Written) (found : Option Standing) → None ≡ option_map place_of found
      → AreFound setting.pushed
      (option_map (λ standing. (let meant : content.Found = record { doc = name; nodes = nodes; standing = standing } in meant))
      found) None
  none_meant nodes None e = tt
  none_meant nodes (Some standing) e = cc

  -- the fragment names nothing
  pub no_target : (nodes : Written) → setting.pushed name ≡ Some nodes → None ≡ target_place nodes topic element
      → IsSearch setting.pushed (found_in setting name topic element) value places None
  no_target nodes stored e =
      record { found = rw stored (none_meant nodes (target_in nodes topic element) e); named = tt; tables = tables }

  one_meant : (doc : Doc) (found : Found) (standing : Option Standing) → target_in (named_tree doc) topic element ≡ standing
      → setting.pushed name ≡ Some (named_tree doc) → Some found.place ≡ option_map place_of standing
      → found.name ≡ name → arc_value found.doc ≡ doc
      → AreFound setting.pushed
      (option_map (λ one. (let meant : content.Found = record { doc = name; nodes = named_tree doc; standing = one } in meant))
      standing) (Some found)
  one_meant doc found None is stored e same here = cc
  one_meant doc found (Some standing) is stored e same here = record {
    name = same;
    nodes = ap named_tree here;
    stored = stored;
    place = cc;
    stands = rw here (target_stands doc topic element standing is);
  }

  -- it names this element
  pub one_target : (doc : Doc) (found : Found) → setting.pushed name ≡ Some (named_tree doc)
      → Some found.place ≡ target_place (named_tree doc) topic element → found.name ≡ name
      → arc_value found.doc ≡ doc → found.value.now ≡ value
      → IsSearch setting.pushed (found_in setting name topic element) value places (Some found)
  one_target doc found stored e same here valued = record {
    found = rw stored (one_meant doc found (target_in (named_tree doc) topic element) refl stored e same here);
    named = valued;
    tables = tables;
  }

-- what is in the document is given, if that is
pub given_found : (told : List Told) (doc : Arc Doc Global) (result : Result (Option Found) NoMemory)
    → IfOk result (λ found. IfSome found (λ one. one.doc ≡ doc)) → IsGiven told (Some (named_tree (arc_value doc)))
    → IfOk result (λ found. IsGivenIn told found)
given_found told doc (Err stop) same given = tt
given_found told doc (Ok None) same given = tt
given_found told doc (Ok (Some found)) same given =
    subst (λ (d : Arc Doc Global). IsGiven told (Some (named_tree (arc_value d)))) (sym same) given

-- By a key, and by a value

none_as : (documents : Documents) (meant : Option content.Found) → AreFound documents meant None → meant ≡ None
none_as documents None is = refl
none_as documents (Some meant) is = absurd is

-- something was found by the key
pub found_first : (setting : ResolveInput) (topic : List ℕ) (element : Element) (sought : Sought) (places : PlaceTables)
    (found : Found) → IsSearch setting.pushed (by_key setting sought.conkeyref) (unwrap_or sought.conkeyref []) places (Some found)
    → IsSearch setting.pushed (found_by setting topic element sought) (value_used setting sought) places (Some found)
found_first setting topic element sought places found search = by_meant (by_key setting sought.conkeyref) refl search.found
  where
    by_meant : (meant : Option content.Found) → by_key setting sought.conkeyref ≡ meant
        → AreFound setting.pushed meant (Some found)
        → IsSearch setting.pushed (found_by setting topic element sought) (value_used setting sought) places (Some found)
    by_meant None e is = absurd is
    by_meant (Some meant) e is =
        record { found = rw e is; named = rw e search.named; tables = search.tables }

-- and its faults are those of the key
pub first_faults : (setting : ResolveInput) (topic : List ℕ) (element : Element) (sought : Sought) (found : Found)
    → AreFound setting.pushed (by_key setting sought.conkeyref) (Some found)
    → search_faults setting element sought (found_by setting topic element sought)
    ≡ conkeyref_faults setting sought.conkeyref
first_faults setting topic element sought found is = by_meant (by_key setting sought.conkeyref) refl is
  where
    by_meant : (meant : Option content.Found) → by_key setting sought.conkeyref ≡ meant
        → AreFound setting.pushed meant (Some found)
        → search_faults setting element sought (found_by setting topic element sought) ≡ conkeyref_faults setting sought.conkeyref
    by_meant None e there = absurd there
    by_meant (Some meant) e there = rw e refl

-- By a key

pub keyed_none : (setting : ResolveInput) (places : PlaceTables) (keyed : Keyed) (faults : List Fault)
    → AreTables setting.pushed places → keyed.found ≡ None → keyed.is_defined ≡ false
    → IsKeyed setting None faults faults places keyed
keyed_none setting places keyed faults tables none undefined = record {
  search = record { found = rw none tt; named = rw none tt; tables = tables };
  defined = undefined;
  faults = sym (append-nil faults);
}

pub keyed_some : (setting : ResolveInput) (keyref : List ℕ) (answer : KeyAnswer) (places : PlaceTables) (keyed : Keyed)
    (old new : List Fault) → setting.key (key_of keyref) ≡ answer
    → IsSearch setting.pushed (key_named setting keyref answer.target) keyref places keyed.found
    → keyed.is_defined ≡ is_some answer.node → new ≡ old ++ answer.faults
    → IsKeyed setting (Some keyref) old new places keyed
keyed_some setting keyref answer places keyed old new is found defined faults = record {
  search = subst (λ (a : KeyAnswer).
      IsSearch setting.pushed (key_named setting keyref a.target) keyref places keyed.found) (sym is) found;
  defined = defined ∙ ap (λ (a : KeyAnswer). is_some a.node) (sym is);
  faults = faults ∙ ap (λ (a : KeyAnswer). old ++ a.faults) (sym is);
}

-- By a value

module _ (setting : ResolveInput) (topic : List ℕ) (element : Element) (conref : List ℕ) where
  pub unread : if_read (reference_of conref) ≡ None → by_conref setting topic element (Some conref) ≡ None
  unread e = rw e refl

  module _ (reference : Reference) (is : if_read (reference_of conref) ≡ Some reference) where
    pub same_topic : is_same_topic reference ≡ true
        → by_conref setting topic element (Some conref) ≡ found_in setting setting.page topic reference.element
    same_topic same = rw (is, same) refl

    pub unjoined : is_same_topic reference ≡ false → if_read (joined element.doc reference.file) ≡ None
        → by_conref setting topic element (Some conref) ≡ None
    unjoined other e = rw (is, other, e) refl

    pub joined_to : (name : List ℕ) → is_same_topic reference ≡ false
        → if_read (joined element.doc reference.file) ≡ Some name
        → by_conref setting topic element (Some conref) ≡ found_in setting name reference.topic reference.element
    joined_to name other e = rw (is, other, e) refl

pub none_search : (documents : Documents) (meant : Option content.Found) (value : List ℕ) (places : PlaceTables)
    → meant ≡ None → AreTables documents places → IsSearch documents meant value places None
none_search documents meant value places e tables = record { found = rw e tt; named = tt; tables = tables }

-- the same search, seen otherwise
pub search_as : (result : Result (Option Found) NoMemory) (documents : Documents) (meant other : Option content.Found)
    (value used : List ℕ) (places : PlaceTables) → other ≡ meant → used ≡ value
    → IfOk result (λ found. IsSearch documents meant value places found)
    → IfOk result (λ found. IsSearch documents other used places found)
search_as result documents meant other value used places same named is =
    subst (λ (m : Option content.Found). IfOk result (λ found. IsSearch documents m used places found)) (sym same)
    (subst (λ (v : List ℕ). IfOk result (λ found. IsSearch documents meant v places found)) (sym named) is)

-- What a reader that stands on the same has found

module _ (world : World) (page : PageId) (rules : List (List Rule)) where
  pub target_there : (keyref : List ℕ) (target other : Target) (first second : PlaceTables) (found : Option Found)
      (old mid : Stand) → mid ≡ old → target ≡ other
      → (AreTables (documents_in world mid.setting) first → IsSearch (documents_in world mid.setting)
      (key_named (setting_of world mid.setting page rules) keyref target) keyref second found)
      → AreTables (documents_in world old.setting) first → IsSearch (documents_in world old.setting)
      (key_named (setting_of world old.setting page rules) keyref other) keyref second found
  target_there keyref target other first second found old mid stand same search =
      subst (λ (st : Stand). AreTables (documents_in world st.setting) first
      → IsSearch (documents_in world st.setting) (key_named (setting_of world st.setting page rules) keyref other)
      keyref second found) stand
      (subst (λ (t : Target). AreTables (documents_in world mid.setting) first
      → IsSearch (documents_in world mid.setting) (key_named (setting_of world mid.setting page rules) keyref t)
      keyref second found) same search)

  pub value_there : (topic : List ℕ) (element : Element) (conref : Option (List ℕ)) (first second : PlaceTables)
      (found : Option Found) (old mid : Stand) → mid ≡ old
      → (AreTables (documents_in world mid.setting) first → IsSearch (documents_in world mid.setting)
      (by_conref (setting_of world mid.setting page rules) topic element conref) (unwrap_or conref []) second found)
      → AreTables (documents_in world old.setting) first → IsSearch (documents_in world old.setting)
      (by_conref (setting_of world old.setting page rules) topic element conref) (unwrap_or conref []) second found
  value_there topic element conref first second found old mid stand =
      subst (λ (st : Stand). AreTables (documents_in world st.setting) first
      → IsSearch (documents_in world st.setting) (by_conref (setting_of world st.setting page rules) topic element conref)
      (unwrap_or conref []) second found) stand

-- An element's reference

module _ (setting : ResolveInput) (topic : List ℕ) (element : Element) (sought : Sought) (old new : List Fault) where
  -- the key's
  pub sought_first : (places : PlaceTables) (keyed : Keyed)
      → IsKeyed setting sought.conkeyref old new places keyed → is_some keyed.found ≡ true
      → IsReferenced setting topic element sought old new places keyed.found
  sought_first places keyed is some = by_found keyed.found refl some
    where
      by_found : (found : Option Found) → keyed.found ≡ found → is_some found ≡ true
          → IsReferenced setting topic element sought old new places keyed.found
      by_found None e there = cc
      by_found (Some found) e there =
          let search : IsSearch setting.pushed (by_key setting sought.conkeyref) (unwrap_or sought.conkeyref []) places (Some found) =
          subst (λ one. IsSearch setting.pushed (by_key setting sought.conkeyref) (unwrap_or sought.conkeyref []) places one)
          e is.search in
          record {
            search = rw e (found_first setting topic element sought places found search);
            faults = is.faults ∙ ap (λ (more : List Fault). old ++ more)
                (sym (first_faults setting topic element sought found search.found));
          }

  -- none by the key
  module _ (first second : PlaceTables) (keyed : Keyed)
      (keyed_is : IsKeyed setting sought.conkeyref old new first keyed) (none : is_some keyed.found ≡ false) where
    no_key : by_key setting sought.conkeyref ≡ None
    no_key = by_found keyed.found refl none
      where
        by_found : (found : Option Found) → keyed.found ≡ found → is_some found ≡ false
            → by_key setting sought.conkeyref ≡ None
        by_found None e there = none_as setting.pushed (by_key setting sought.conkeyref)
            (subst (AreFound setting.pushed (by_key setting sought.conkeyref)) e keyed_is.search.found)
        by_found (Some found) e there = cc

    value_left : (conref : Option (List ℕ)) → sought.conref ≡ conref → (found : Found)
        → AreFound setting.pushed (by_conref setting topic element conref) (Some found)
        → value_used setting sought ≡ unwrap_or sought.conref []
    value_left None e found is = absurd is
    value_left (Some conref) e found is = rw (no_key, e) refl

    -- the value's
    pub sought_second : (found : Option Found)
        → IsSearch setting.pushed (by_conref setting topic element sought.conref) (unwrap_or sought.conref []) second found
        → is_some found ≡ true → IsReferenced setting topic element sought old new second found
    sought_second None search there = cc
    sought_second (Some found) search there =
        by_meant (by_conref setting topic element sought.conref) refl search.found
      where
        by_meant : (meant : Option content.Found) → by_conref setting topic element sought.conref ≡ meant
            → AreFound setting.pushed meant (Some found)
            → IsReferenced setting topic element sought old new second (Some found)
        by_meant None e is = absurd is
        by_meant (Some meant) e is =
            let found_is : found_by setting topic element sought ≡ Some meant = rw no_key e in
            record {
              search = record {
                found = rw found_is is;
                named = search.named ∙ sym (value_left sought.conref refl found search.found);
                tables = search.tables;
              };
              faults = keyed_is.faults ∙ ap (λ (meant : Option content.Found).
                  old ++ search_faults setting element sought meant) (sym found_is);
            }

    missing_is : missing_by element sought keyed.is_defined ≡ missing_fault setting element sought
    missing_is = rw (keyed_is.defined, no_key) refl

    -- and no value's
    pub sought_none : (last : List Fault) (found : Option Found)
        → IsSearch setting.pushed (by_conref setting topic element sought.conref) (unwrap_or sought.conref []) second found
        → is_some found ≡ false → last ≡ new ++ missing_by element sought keyed.is_defined ∷ []
        → IsReferenced setting topic element sought old last second None
    sought_none last (Some found) search there later = cc
    sought_none last None search there later =
        let found_is : found_by setting topic element sought ≡ None =
        rw no_key (none_as setting.pushed (by_conref setting topic element sought.conref) search.found) in
        record {
          search = record { found = rw found_is tt; named = tt; tables = search.tables };
          faults = later
              ∙ ap (λ (some : List Fault). some ++ missing_by element sought keyed.is_defined ∷ []) keyed_is.faults
              ∙ append_assoc old (conkeyref_faults setting sought.conkeyref)
              (missing_by element sought keyed.is_defined ∷ [])
              ∙ ap (λ (one : Fault). old ++ (conkeyref_faults setting sought.conkeyref ++ one ∷ [])) missing_is
              ∙ ap (λ (meant : Option content.Found). old ++ search_faults setting element sought meant)
              (sym found_is);
        }

-- the reference that was found is that of the element
pub sought_is : (sought : kept.Sought) (element : Element)
    → sought_found (Some sought) ≡ if_reference (sought_by element) → sought_shown sought ≡ sought_by element
sought_is sought element is = by_test (has_reference (sought_by element)) is
  where
    by_test : (test : Bool) → sought_found (Some sought) ≡ (if test then Some (sought_by element) else None)
        → sought_shown sought ≡ sought_by element
    by_test true e = cc
    by_test false e = cc
