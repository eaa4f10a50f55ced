-- Documents of which no element acts, and the names of those of which it was seen. What was seen once needs no question:
-- a document of the same tree has no element that acts in any other world either.
use Rattle.std.specs.Prelude.{◌≡◌, ◌==◌, ◌&&◌, ◌||◌, ℕ, Bool, true, false, not, List, Option, Some, IsTrue, cond, length, option_map}
use Rattle.std.specs.Arc.{arc_value}
use Rattle.std.specs.BTreeMap as tree
use Rattle.std.specs.BTreeSet as names
use Rattle.std.specs.Cmp.Lexicographic.{slice_cmp}
use Rattle.std.specs.Option.{option_map_or}
use Rattle.std.specs.Ordering.{nat_cmp}
use Rattle.std.specs.declared.alloc.Global.{Global}
use Rattle.std.specs.declared.sync.Arc.{Arc}
use Rattle.std.proofs.Common.{refl, sym, ap, ap₂, subst, ◌∙◌}
use Rattle.conref_push.specs.Acting.{has_conaction_in, any_acts}
use Rattle.conref_push.specs.Table.{is_touched}
use Rattle.conref_push.proofs.UntouchedLaws.{untouched}
use Rattle.dita_doc.specs.Tree.{tree_of}
use Rattle.dita_doc.specs.declared.content.PushList.{PushList}
use Rattle.dita_doc.specs.declared.doc.Doc.{Doc}
use Rattle.dita_doc.proofs.Orders.{same_at}
use Rattle.map_spec.specs.Written.{document, written_in}
use Rattle.map_spec.specs.Pushes.{pushed, pushes_into}
use Rattle.pushed_docs.specs.Made.{AreKept, is_without_conaction}
use Rattle.pushed_docs.specs.declared.docs.PushedDocs.{PushedDocs}
use Rattle.reader_spec.specs.World.{World}
use Rattle.readers.specs.Founded.{is_among}
use Rattle.readers.specs.Told.{tree_found}

-- one more document is quiet
module _ (world : World) (documents : List (List ℕ)) (old new : PushedDocs) (name key : List ℕ) where
  pub quiet_put : names.Updates (slice_cmp nat_cmp) old.quiet new.quiet key true → new.docs ≡ old.docs → key ≡ name
      → has_conaction_in world name ≡ false → AreKept world documents old → AreKept world documents new
  quiet_put put still same none kept = record {
    made = λ other found is. kept.made other found
        (subst (λ docs. tree.get (slice_cmp nat_cmp) docs other ≡ Some found) still is);
    quiet = λ other there. by_test other (tree.is_at (slice_cmp nat_cmp key) other) refl (sym (put.0 other) ∙ there);
  }
    where
      by_test : (other : List ℕ) (test : Bool) → tree.is_at (slice_cmp nat_cmp key) other ≡ test
          → cond test true (is_without_conaction old.quiet other) ≡ true → has_conaction_in world other ≡ false
      by_test other true at is = subst (λ n. has_conaction_in world n ≡ false) (sym same ∙ same_at key other at) none
      by_test other false at is = kept.quiet other is

pub quiet_there : (quiet : names.BTreeSet (List ℕ)) (key name : List ℕ) → is_without_conaction quiet key ≡ true → key ≡ name
    → IsTrue (is_without_conaction quiet name)
quiet_there quiet key name there same = subst (λ n. IsTrue (is_without_conaction quiet n)) same there

-- it was seen that no element of the document that was found acts
pub quiet_found : (world : World) (name : List ℕ) (found : Option (Arc Doc Global)) (stored : Arc Doc Global) (read : Doc)
    → found ≡ Some stored → world name ≡ tree_found found → read ≡ arc_value stored
    → false ≡ any_acts (written_in name (tree_of read.nodes)) → has_conaction_in world name ≡ false
quiet_found world name found stored read is there same quiet =
    let tree_is : world name ≡ Some (tree_of read.nodes) =
    there ∙ ap tree_found is ∙ ap (λ (d : Doc). Some (tree_of d.nodes)) (sym same) in
    ap (λ tree. option_map_or any_acts (option_map (written_in name) tree) false) tree_is ∙ sym quiet

-- what was found stands under the name in both worlds with the same pushes into it, and in one of them it is not touched
-- and no element of it acts
pub quiet_itself : (own world : World) (documents : List (List ℕ)) (name : List ℕ) (found : Option (Arc Doc Global))
    → own name ≡ tree_found found → world name ≡ tree_found found
    → pushes_into world documents name ≡ pushes_into own documents name → false ≡ is_touched own documents name
    → has_conaction_in own name ≡ false → pushed world documents name ≡ document world name
quiet_itself own world documents name found here there pushes touches quiet =
    let acting : has_conaction_in world name ≡ has_conaction_in own name =
    ap (λ tree. option_map_or any_acts (option_map (written_in name) tree) false) (there ∙ sym here)
    in
    let touching : is_touched world documents name ≡ is_touched own documents name =
    ap₂ (λ (acts : Bool) (list : PushList). (is_among documents name && acts) || not (length list.pushes == 0))
    acting pushes
    in
    untouched world documents name (touching ∙ sym touches) (acting ∙ quiet)
