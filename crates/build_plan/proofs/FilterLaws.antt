-- The DITAVALs by which the nodes of copied branches are filtered: those of the nodes before, and those that the elements
-- of ditavalrefs name.
use Rattle.std.specs.Prelude.{◌≡◌, ℕ, List, Option, Some, None, IsTrue, bytes_eq, codes}
use Rattle.std.specs.Option.{option_to_list}
use Rattle.std.proofs.Common.{refl, ap, subst, ◌∙◌}
use Rattle.std.proofs.Math.Logic.{⊎_elim}
use Rattle.std.proofs.lemmas.Bool.{false≢true, or_cases}
use Rattle.std.proofs.lemmas.Slice.Eq.{bytes_eq-Decides}
use Rattle.ditaval_rules.specs.declared.rules.RulesRead.{RulesRead}
use Rattle.map_spec.specs.Branches.{Branch, copied, ditaval_in, filter_by, filter_named, filter_of, filter_read, marked}
use Rattle.map_spec.specs.Elements.{attribute}
use Rattle.map_spec.specs.Judged.{whole_of}
use Rattle.map_spec.specs.MapTree.{Head, MapTree}
use Rattle.map_spec.specs.Target.{Named, Document, Elsewhere, Unreadable, named_of}
use Rattle.map_spec.specs.Written.{Element, Whole}
use Rattle.map_lemmas.proofs.HeadLaws.{AllHeads}
use Rattle.plan_nodes.proofs.GivenLaws.{gives_name}
use Rattle.reader_spec.specs.World.{World}
use Rattle.readers.specs.Founded.{is_among}
use Rattle.readers.specs.Named.{names_of_element}
use Rattle.readers.proofs.AmongLaws.{among_either}
use Rattle.build_plan.proofs.CopyLaws.{IsCarried, heads_copied}

-- The DITAVAL of a ditavalref is named by its element

read_name : (element : Element) (name : List ℕ) (found : Option RulesRead) (m : List ℕ)
    → (filter_read element name found).name ≡ Some m → name ≡ m
read_name element name None m is = cc
read_name element name (Some read) m is = cc

by_named : (world : World) (element : Element) (href : List ℕ) (named : Named) (m : List ℕ)
    → attribute (codes "href") element ≡ Some href → named_of element href ≡ named
    → (filter_named world element href named).name ≡ Some m → IsTrue (is_among (names_of_element element) m)
by_named world element href (Document name) m has names is =
    gives_name element href m has (names ∙ ap Document (read_name element name (ditaval_in world name) m is))
by_named world element href Elsewhere m has names is = cc
by_named world element href Unreadable m has names is = cc

by_href : (world : World) (element : Element) (href : Option (List ℕ)) (m : List ℕ)
    → attribute (codes "href") element ≡ href → (filter_by world element href).name ≡ Some m
    → IsTrue (is_among (names_of_element element) m)
by_href world element None m has is = cc
by_href world element (Some href) m has is = by_named world element href (named_of element href) m has refl is

filter_name : (world : World) (element : Element) (m : List ℕ) → (filter_of world element).name ≡ Some m
    → IsTrue (is_among (names_of_element element) m)
filter_name world element m is = by_href world element (attribute (codes "href") element) m refl is

-- Q holds of the DITAVALs of heads, and of what their elements name

module _ (Q : List ℕ → Type 0) where
  abbrev pub AreFiltered : Head → Type 0
  AreFiltered head = (m : List ℕ) → IsTrue (is_among head.filters m) → Q m

  abbrev pub AreNaming : World → Head → Type 0
  AreNaming world head = (whole : Whole) → whole_of world head ≡ Some whole
      → (m : List ℕ) → IsTrue (is_among (names_of_element whole.0) m) → Q m

  abbrev pub IsRef : World → Head → Type 0
  IsRef world head = AreFiltered head × AreNaming world head

  -- of what a branch is filtered by
  abbrev IsBranch : Branch → Type 0
  IsBranch branch = AreFiltered branch.head × ((m : List ℕ) → branch.filter.name ≡ Some m → Q m)

  -- of a name, if there is one
  by_filter : (found : Option (List ℕ)) → ((m : List ℕ) → found ≡ Some m → Q m) → (m : List ℕ)
      → IsTrue (is_among (option_to_list found) m) → Q m
  by_filter None is m among = absurd (false≢true among)
  by_filter (Some name) is m among = ⊎_elim
      (λ here. subst Q ((bytes_eq-Decides name m).0 here) (is name refl))
      (λ no. absurd (false≢true no)) (or_cases (bytes_eq name m) _ among)

  -- with the mark of a branch
  with_mark : (branch : Branch) (head : Head) → IsBranch branch → AreFiltered head → AreFiltered (marked branch head)
  with_mark branch head is all m among = among_either head.filters (option_to_list branch.filter.name) m (Q m) (all m)
      (by_filter branch.filter.name is.1 m) among

  -- what is put on copies keeps it
  filters_carried : (world : World) → IsCarried world (IsRef world) AreFiltered IsBranch
  filters_carried world = record {
    holds = λ head is. is.0;
    reads = λ head whole found is. (is.0, λ m named. is.1 whole found m (filter_name world whole.0 m named));
    names = λ head names is. is;
    marks = with_mark;
    groups = λ branch level names known. with_mark branch branch.head known known.0;
  }

  -- so it holds of the DITAVALs of all copies
  pub filters_copied : (world : World) (tree : MapTree) → AllHeads (IsRef world) tree
      → AllHeads AreFiltered (copied world tree)
  filters_copied world = heads_copied world (IsRef world) AreFiltered IsBranch (filters_carried world)
