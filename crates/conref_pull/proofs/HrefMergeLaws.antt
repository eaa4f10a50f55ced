-- What an element takes from its target: its href is its own, or that of the target.
use Rattle.std.specs.Prelude.{◌≡◌, ◌&&◌, ◌++◌, ℕ, Bool, true, false, not, List, [], ◌∷◌, bytes_eq, codes, filter, is_some, if◌then◌else◌}
use Rattle.std.proofs.Common.{refl, sym, ap, subst, ◌∙◌}
use Rattle.std.proofs.lemmas.Bool.{false≢true}
use Rattle.std.proofs.lemmas.Slice.Eq.{bytes_eq-Decides}
use Rattle.dita_doc.specs.ClassValue.{value_of}
use Rattle.dita_doc.specs.Tree.{has_href}
use Rattle.dita_doc.specs.declared.doc.Attribute.{Attribute}
use Rattle.doc_maker.specs.Building.{href_written}
use Rattle.map_spec.specs.Written.{Element}
use Rattle.conref_spec.specs.Content.{without_id}
use Rattle.readers.specs.Told.{Told}
use Rattle.conref_targets.specs.Hrefs.{AreNamed, HasNamed}
use Rattle.conref_pull.specs.PutHrefs.{MergedNamed}
use Rattle.conref_pull.specs.Merging.{IsMerged, is_missing, is_taken, own_part, part_of, taking}
use Rattle.conref_pull.specs.declared.merge.Merged.{Merged}

module _ (told : List Told) where
  append_named : (doc : List ℕ) (first second : List Attribute) → AreNamed told doc first → AreNamed told doc second
      → AreNamed told doc (first ++ second)
  append_named doc [] second one two = two
  append_named doc (written ∷ first) second one two = (one.0, append_named doc first second one.1 two)

  some_named : (doc : List ℕ) (keep : Attribute → Bool) (all : List Attribute) → AreNamed told doc all
      → AreNamed told doc (filter keep all)
  some_named doc keep [] named = named
  some_named doc keep (written ∷ all) named = by_test (keep written) refl (some_named doc keep all named.1)
    where
      by_test : (test : Bool) → keep written ≡ test → AreNamed told doc (filter keep all)
          → AreNamed told doc (filter keep (written ∷ all))
      by_test true is more = rw is (named.0, more)
      by_test false is more = rw is more

  -- where there is no href, none is joined to any document
  none_named : (doc : List ℕ) (all : List Attribute) → has_href all ≡ false → AreNamed told doc all
  none_named doc [] none = tt
  none_named doc (written ∷ all) none =
      by_test (bytes_eq written.name (codes "href")) refl none (λ others. none_named doc all others)
    where
      by_test : (test : Bool) → bytes_eq written.name (codes "href") ≡ test → has_href (written ∷ all) ≡ false
          → (has_href all ≡ false → AreNamed told doc all) → AreNamed told doc (written ∷ all)
      by_test true is absent more = absurd (false≢true (sym (rw is at absent)))
      by_test false is absent more = (λ same. absurd (false≢true (sym is ∙ same)), more (rw is at absent))

  -- the href of an element that has none is joined to none either
  pub home_named : (doc href_doc : List ℕ) (all : List Attribute) → AreNamed told href_doc all
      → AreNamed told (href_written all doc href_doc) all
  home_named doc href_doc all named = by_test (has_href all) refl
    where
      by_test : (test : Bool) → has_href all ≡ test → AreNamed told (href_written all doc href_doc) all
      by_test true is = rw is named
      by_test false is = rw is (none_named doc all is)

  -- an element that has an href takes none
  not_taken : (doc : List ℕ) (own others : List Attribute) → has_href own ≡ true
      → AreNamed told doc (filter (is_missing own) others)
  not_taken doc own [] has = tt
  not_taken doc own (written ∷ others) has =
      by_test (is_missing own written) refl (not_taken doc own others has)
    where
      by_test : (test : Bool) → is_missing own written ≡ test → AreNamed told doc (filter (is_missing own) others)
          → AreNamed told doc (filter (is_missing own) (written ∷ others))
      by_test true is more = rw is (
        λ same. absurd (false≢true
            (sym (ap (λ (name : List ℕ). is_taken name && not (is_some (value_of name own)))
            ((bytes_eq-Decides written.name (codes "href")).0 same)
            ∙ ap (λ (test : Bool). is_taken (codes "href") && not test) has)
            ∙ is)),
        more,
      )
      by_test false is more = rw is more

  pub taking_named : (own target : Element) → HasNamed told own → HasNamed told target
      → HasNamed told (taking own target)
  taking_named own target mine other = by_tests (has_href own.attributes) (has_href target.attributes) refl refl
    where
      missing : List Attribute
      missing = filter (is_missing own.attributes) target.attributes

      taken : (doc : List ℕ) → AreNamed told doc target.attributes → AreNamed told doc missing
      taken doc named = some_named doc _ target.attributes named

      by_tests : (has more : Bool) → has_href own.attributes ≡ has → has_href target.attributes ≡ more
          → AreNamed told (if not has && more then target.href_doc else own.href_doc) (own.attributes ++ missing)
      by_tests true more is there = append_named own.href_doc own.attributes missing mine
          (not_taken own.href_doc own.attributes target.attributes is)
      by_tests false true is there = append_named target.href_doc own.attributes missing
          (none_named target.href_doc own.attributes is) (taken target.href_doc other)
      by_tests false false is there = append_named own.href_doc own.attributes missing mine
          (taken own.href_doc (none_named own.href_doc target.attributes there))

  -- an element without what it leaves to its target
  pub own_named : (element : Element) → HasNamed told element → HasNamed told (own_part element)
  own_named element named = some_named element.href_doc _ element.attributes named

  pub part_named : (leaves : Bool) (target : Element) → HasNamed told target → HasNamed told (part_of leaves target)
  part_named true target named = own_named target named
  part_named false target named = named

  pub without_id_named : (is_range : Bool) (element : Element) → HasNamed told element
      → HasNamed told (without_id is_range element)
  without_id_named true element named = some_named element.href_doc _ element.attributes named
  without_id_named false element named = named

-- The same of what is kept of an element

abbrev pub shown : Merged → Element
shown merged =
    record { name = []; attributes = merged.attributes; doc = []; line = 0; href_doc = merged.href_doc }

pub is_shown : (merged : Merged) → IsMerged merged (shown merged)
is_shown merged = record { attributes = refl; href_doc = refl }

pub by_element : (told : List Told) (merged : Merged) (element : Element) → IsMerged merged element
    → HasNamed told element → MergedNamed told merged
by_element told merged element is named =
    subst (λ (doc : List ℕ). AreNamed told doc merged.attributes) (sym is.href_doc)
    (subst (λ (all : List Attribute). AreNamed told element.href_doc all) (sym is.attributes) named)
