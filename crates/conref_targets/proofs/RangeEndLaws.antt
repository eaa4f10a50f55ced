-- Where the range behind a target ends.
use Rattle.std.specs.Prelude.{◌≡◌, ◌+◌, ℕ, Bool, true, false, List, [], Option, Some, None, codes, slice_get, unwrap_or, if◌then◌else◌}
use Rattle.std.specs.Arc.{arc_value}
use Rattle.std.specs.Option.{option_and_then, option_map_or}
use Rattle.std.proofs.Common.{sym, ap, subst, ◌∙◌}
use Rattle.dita_doc.specs.ClassValue.{value_of}
use Rattle.dita_doc.specs.Tree.{Content, element_node, size_of, tree_of}
use Rattle.dita_doc.specs.declared.doc.Attribute.{Attribute}
use Rattle.dita_doc.specs.declared.doc.Doc.{Doc}
use Rattle.dita_doc.specs.declared.doc.Node.{Node}
use Rattle.doc_elements.specs.Walk.{element_of}
use Rattle.map_spec.specs.Elements.{is_value}
use Rattle.map_spec.specs.Written.{Whole, Written, End}
use Rattle.conref_spec.specs.Content as content
use Rattle.conref_spec.specs.Content.{declared_around_written, end_id, has_end_id, range_by, range_from, up_to_end}
use Rattle.map_spec.specs.Places.{Standing}
use Rattle.readers.specs.Named.{under_names, named_tree}
use Rattle.conref_targets.specs.Ranges.{IsRangeEnd}
use Rattle.conref_targets.specs.Found.{IsFound}
use Rattle.conref_targets.specs.Parts.{AreSiblingsAt, end_place, ends_of, past}
use Rattle.conref_targets.specs.Tables.{Documents}
use Rattle.conref_targets.specs.declared.find.Found.{Found}
use Rattle.conref_targets.proofs.PartLaws.{element_node_there}
use Rattle.conref_targets.proofs.UpToLaws.{up_to_none, up_to_place}

-- the same value
pub range_as : (standing : Standing) (from : ℕ) (value other : Option (List ℕ)) (to found : Option ℕ) → value ≡ other
    → to ≡ found → IsRangeEnd from standing.behind (range_by standing other) found
    → IsRangeEnd from standing.behind (range_by standing value) to
range_as standing from value other to found same is ends =
    subst (λ (t : Option ℕ). IsRangeEnd from standing.behind (range_by standing value) t) (sym is)
    (subst (λ (v : Option (List ℕ)). IsRangeEnd from standing.behind (range_by standing v) found) (sym same) ends)

module _ (documents : Documents) (meant : content.Found) (found : Found) (is : IsFound documents meant found) where
  -- the document of the target stands under its name
  pub stored_there : (doc : Doc) → doc ≡ arc_value found.doc → documents found.name ≡ Some (named_tree doc)
  stored_there doc same = ap documents is.name ∙ is.stored ∙ ap Some (sym is.nodes)
      ∙ ap (λ (d : Doc). Some (named_tree d)) (sym same)

  -- without a value there is no range
  pub ends_none : (from : ℕ) → IsRangeEnd from meant.standing.behind (range_by meant.standing None) (Some from)
  ends_none from = up_to_none from meant.standing.behind

  -- the value names no end
  pub ends_unnamed : (from : ℕ) (value : List ℕ) → end_id value ≡ None
      → IsRangeEnd from meant.standing.behind (range_by meant.standing (Some value)) None
  ends_unnamed from value none = subst (λ (id : Option (List ℕ)). IsRangeEnd from meant.standing.behind
      (option_and_then (λ id. range_from id meant.standing.whole.0 meant.standing.behind) id) None) (sym none) tt

  module _ (target : Node) (here : slice_get (arc_value found.doc).nodes found.place ≡ Some target) where
    node_is : target
        ≡ element_node is.stands.name is.stands.attributes is.stands.origin is.stands.line
        (meant.standing.place + 1 + size_of is.stands.inside)
    node_is =
        let there : slice_get (arc_value found.doc).nodes meant.standing.place ≡ Some target =
        subst (λ n. slice_get (arc_value found.doc).nodes n ≡ Some target) is.place here in
        let some = element_node_there (arc_value found.doc).nodes (arc_value found.doc).tree meant.standing.place
        is.stands.name is.stands.attributes is.stands.origin is.stands.line is.stands.inside is.stands.rest
        is.stands.part in cc

    pub end_there : target.end ≡ meant.standing.place + 1 + size_of is.stands.inside
    end_there = ap (λ (n : Node). n.end) node_is

    attributes_are : target.attributes ≡ meant.standing.whole.0.attributes
    attributes_are = ap (λ (n : Node). n.attributes) node_is
        ∙ ap (λ (w : Option Whole). option_map_or (λ (one : Whole). one.0.attributes) w []) is.stands.whole

    end_same : (id : List ℕ) → has_end_id id (element_of [] target) ≡ has_end_id id meant.standing.whole.0
    end_same id = ap (λ (a : List Attribute). is_value id (value_of (codes "id") a)) attributes_are

    module _ (value id : List ℕ) (names : end_id value ≡ Some id) where
      by_id : (to : Option ℕ)
          → IsRangeEnd target.end meant.standing.behind (range_from id meant.standing.whole.0 meant.standing.behind) to
          → IsRangeEnd target.end meant.standing.behind (range_by meant.standing (Some value)) to
      by_id to ends = subst (λ (found : Option (List ℕ)). IsRangeEnd target.end meant.standing.behind
          (option_and_then (λ id. range_from id meant.standing.whole.0 meant.standing.behind) found) to) (sym names) ends

      by_test : (test : Bool) (to : Option ℕ) → has_end_id id meant.standing.whole.0 ≡ test
          → IsRangeEnd target.end meant.standing.behind
          (if test then Some End else up_to_end id meant.standing.behind) to
          → IsRangeEnd target.end meant.standing.behind (range_by meant.standing (Some value)) to
      by_test test to same ends = by_id to (subst (λ (b : Bool). IsRangeEnd target.end meant.standing.behind
          (if b then Some End else up_to_end id meant.standing.behind) to) (sym same) ends)

      -- the target itself is the end
      pub ends_here : has_end_id id (element_of [] target) ≡ true
          → IsRangeEnd target.end meant.standing.behind (range_by meant.standing (Some value)) (Some target.end)
      ends_here test = by_test true (Some target.end) (sym (end_same id) ∙ test) (up_to_none target.end meant.standing.behind)

      -- one of the siblings behind it is, or none
      pub ends_behind : (doc : Doc) (end : Option ℕ) (to : Option ℕ) → doc ≡ arc_value found.doc
          → has_end_id id (element_of [] target) ≡ false
          → end ≡ slice_get (ends_of (named_tree doc)) found.place
          → ((part : Content) → AreSiblingsAt (tree_of doc.nodes) target.end part
          → target.end + size_of part ≡ unwrap_or end target.end
          → to ≡ end_place id target.end (under_names doc.origins part))
          → IsRangeEnd target.end meant.standing.behind (range_by meant.standing (Some value)) to
      ends_behind doc end to same test siblings ends = by_test false to (sym (end_same id) ∙ test)
          (subst (λ (found : Option ℕ). IsRangeEnd target.end meant.standing.behind
          (up_to_end id meant.standing.behind) found) (sym to_is) (up_to_place id target.end meant.standing.behind))
        where
          end_is : end ≡ Some (meant.standing.place + 1 + size_of is.stands.inside + size_of is.stands.rest)
          end_is = siblings ∙ ap (λ (d : Doc). slice_get (ends_of (named_tree d)) found.place) same
              ∙ ap (slice_get (ends_of (named_tree (arc_value found.doc)))) is.place ∙ is.stands.ends

          there : AreSiblingsAt (tree_of doc.nodes) target.end is.stands.rest
          there = subst (λ n. AreSiblingsAt (tree_of doc.nodes) n is.stands.rest) (sym end_there)
              (subst (λ (d : Doc). AreSiblingsAt (tree_of d.nodes) (meant.standing.place + 1 + size_of is.stands.inside) is.stands.rest)
              (sym same) (past is.stands.part))

          fits : target.end + size_of is.stands.rest ≡ unwrap_or end target.end
          fits = ap (λ n. n + size_of is.stands.rest) end_there
              ∙ sym (ap (λ (e : Option ℕ). unwrap_or e target.end) end_is)

          to_is : to ≡ end_place id target.end meant.standing.behind
          to_is = ends is.stands.rest there fits
              ∙ ap (λ (d : Doc). end_place id target.end (under_names d.origins is.stands.rest)) same
              ∙ ap (end_place id target.end) (sym is.stands.behind)

-- the names that are declared around it, in a document that is the same
pub around_as : (meant : content.Found) {nodes : Written} {place : ℕ} {names : List (List ℕ)} → nodes ≡ meant.nodes
    → place ≡ meant.standing.place → names ≡ declared_around_written [] nodes place
    → names ≡ declared_around_written [] meant.nodes meant.standing.place
around_as meant {place = place} same at is = is ∙ ap (λ (all : Written). declared_around_written [] all place) same
    ∙ ap (declared_around_written [] meant.nodes) at
