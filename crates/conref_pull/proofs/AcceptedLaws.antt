-- A target that was found, and whether it is taken.
use Rattle.std.specs.Prelude.{◌≡◌, ◌++◌, ◌≤◌, ℕ, Bool, true, false, List, [], ◌∷◌, Option, Some, None, codes, length, slice_get, unwrap_or}
use Rattle.std.specs.Arc.{arc_value}
use Rattle.std.specs.List.{list_any}
use Rattle.std.proofs.Common.{sym, ap, subst, ◌∙◌}
use Rattle.dita_doc.specs.Tree.{Content, tree_of}
use Rattle.dita_doc.specs.declared.doc.Doc.{Doc}
use Rattle.dita_doc.specs.declared.doc.Node.{Node}
use Rattle.dita_doc.specs.declared.fault.FaultCode.{FaultCode}
use Rattle.dita_doc.specs.declared.fault.FaultCode.TheVariants as faults
use Rattle.doc_maker.specs.Building.{depth}
use Rattle.doc_maker.specs.Made.{building}
use Rattle.map_spec.specs.Elements.{attribute, fault_at, is_special}
use Rattle.map_spec.specs.Written.{Element}
use Rattle.conref_spec.specs.Content as content
use Rattle.conref_spec.specs.Content.{declared_around_written, is_place, range_by, refused_by}
use Rattle.conref_targets.specs.Ranges.{IsRangeEnd, IsUpTo}
use Rattle.conref_targets.specs.Found.{IsFound}
use Rattle.conref_targets.specs.Origin.{begins_element, first_whole, whole_of, whole_shown}
use Rattle.conref_targets.specs.Parts.{AreSiblingsAt}
use Rattle.conref_targets.specs.Tables.{AreTables, Documents}
use Rattle.conref_targets.specs.declared.find.Found.{Found}
use Rattle.conref_targets.specs.declared.origin.Whole.{Whole}
use Rattle.conref_targets.specs.declared.tables.PlaceTables.{PlaceTables}
use Rattle.conref_pull.specs.Accepting.{GoesOn, is_too_deep, link_of, place_of, refusal_by}
use Rattle.conref_pull.specs.Linked.{IsLink, IsStep}
use Rattle.conref_pull.specs.State.{IsDepth, path_within, place_shown}
use Rattle.conref_pull.specs.Step.{FollowStep, step_with, target_taken}
use Rattle.conref_pull.specs.declared.chain.TakenTarget.{TakenTarget}
use Rattle.conref_pull.specs.declared.resolver.Resolver.{Resolver}
use Rattle.conref_pull.proofs.AcceptLaws.{count_within, deep_same, link_found, range_missing, range_there, refused_code, refused_none, refused_range, refused_type, step_refused, step_taken, target_found}

module _ (documents : Documents) (meant : content.Found) (found : Found) (is : IsFound documents meant found)
    (at links : ℕ) (element : Element) (old new : Resolver) (places : PlaceTables) (tables : AreTables documents places)
  where
    abbrev path : List content.Place
    path = path_within old links

    abbrev step : FollowStep
    step = step_with path element meant [] (refused_by found.value.now at path element meant)

    -- the types are compared as the definition does
    pub special_is : (doc : Doc) (got : Whole) (result test : Bool) → doc ≡ arc_value found.doc
        → ((part : Content) → AreSiblingsAt (tree_of doc.nodes) found.place part → begins_element part ≡ true
        → whole_shown (Some got) ≡ first_whole doc.origins part)
        → result ≡ is_special (whole_of got).0 element → result ≡ test → is_special meant.standing.whole.0 element ≡ test
    special_is doc got result test same whole is_it gives =
        ap (λ (e : Element). is_special e element) (sym (target_found documents meant found is doc got same whole))
        ∙ sym is_it ∙ gives

    -- its type does not fit
    pub accept_type : is_special meant.standing.whole.0 element ≡ false
        → new ≡ record old { faults = old.faults ++ fault_at element faults.ConrefType found.value.now ∷ [] }
        → IsStep documents step old new places None
    accept_type special state = step_refused documents path element meant old new places tables
        (refused_by found.value.now at path element meant) (fault_at element faults.ConrefType found.value.now)
        (refused_type found.value.now at path element meant special) state

    module _ (special : is_special meant.standing.whole.0 element ≡ true) (from : ℕ) where
      -- its range has no end
      pub accept_range : (detail : List ℕ) → detail ≡ unwrap_or (attribute (codes "conrefend") element) []
          → IsRangeEnd from meant.standing.behind (range_by meant.standing (attribute (codes "conrefend") element)) None
          → new ≡ record old { faults = old.faults ++ fault_at element faults.RangeEnd detail ∷ [] }
          → IsStep documents step old new places None
      accept_range detail same ends state = step_refused documents path element meant old new places tables
          (refused_by found.value.now at path element meant) (fault_at element faults.RangeEnd detail)
          (refused_range found.value.now at path element meant special
          (range_missing from meant.standing.behind _ ends)
          ∙ ap (λ (d : List ℕ). Some (fault_at element faults.RangeEnd d)) (sym same)) state

      on_same : list_any (is_place (record { doc = meant.doc; at = meant.standing.place })) path
          ≡ list_any (is_place (place_of found)) path
      on_same = ap (λ (d : List ℕ). list_any (is_place (record { doc = d; at = meant.standing.place })) path) (sym is.name)
          ∙ ap (λ n. list_any (is_place (record { doc = found.name; at = n })) path) (sym is.place)

      module _ (to : ℕ)
          (ends : IsRangeEnd from meant.standing.behind
          (range_by meant.standing (attribute (codes "conrefend") element)) (Some to))
          (deep : IsDepth old at) (room : links ≤ length old.path.items) where
        abbrev refusal : Option FaultCode
        refusal = refusal_by (list_any (is_place (place_of found)) path)
            (is_too_deep links old.deepest (depth (building old.maker)))

        count : length path ≡ links
        count = count_within place_shown links old.path.items room

        -- it is being resolved already, or would be too deep
        pub accept_refused : (code : FaultCode) → refusal ≡ Some code
            → new ≡ record old { faults = old.faults ++ fault_at element code found.value.now ∷ [] }
            → IsStep documents step old new places None
        accept_refused code why state =
            let there = range_there from meant.standing.behind _ to ends in
            step_refused documents path element meant old new places tables
            (refused_by found.value.now at path element meant) (fault_at element code found.value.now)
            (refused_code found.value.now at path element meant special there.0 there.1 _ _ on_same
            (deep_same links old.deepest (depth (building old.maker)) at path count deep.is) code why) state

        -- it is taken
        pub accept_taken : (target : Node) (link : TakenTarget) (declared : List (List ℕ))
            → declared ≡ declared_around_written [] meant.nodes meant.standing.place
            → slice_get (arc_value found.doc).nodes found.place ≡ Some target → target.end ≡ from → refusal ≡ None
            → link ≡ link_of found declared from to → GoesOn old.path.items new.path.items found links
            → new ≡ record old { path = new.path } → IsStep documents step old new places (Some link)
        accept_taken target link declared names here from_is none linked further state =
            let there = range_there from meant.standing.behind _ to ends in
            step_taken documents path element meant old new places tables
            (refused_by found.value.now at path element meant) link
            (refused_none found.value.now at path element meant special there.0 there.1 _ _ on_same
            (deep_same links old.deepest (depth (building old.maker)) at path count deep.is) none) state
            (subst (λ (l : TakenTarget). IsLink l (target_taken path element meant)) (sym (linked_at target from_is link declared linked))
            (link_found documents meant found is target here path element there.0 to there.1
            (subst (λ n. IsUpTo n meant.standing.behind there.0 to) (sym from_is) there.2) declared names))
            (further ∙ path_is)
          where
            linked_at : (target : Node) → target.end ≡ from → (link : TakenTarget) (declared : List (List ℕ))
                → link ≡ link_of found declared from to → link ≡ link_of found declared target.end to
            linked_at target from_is link declared linked = linked ∙ ap (λ n. link_of found declared n to) (sym from_is)

            path_is : path ++ place_of found ∷ [] ≡ (target_taken path element meant).path
            path_is = ap (λ (d : List ℕ). (let p : content.Place = record { doc = d; at = found.place } in path ++ p ∷ [])) is.name
                ∙ ap (λ n. (let p : content.Place = record { doc = meant.doc; at = n } in path ++ p ∷ [])) is.place
