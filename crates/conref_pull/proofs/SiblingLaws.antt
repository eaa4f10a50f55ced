-- Siblings that are resolved one by one.
use Rattle.std.specs.Prelude.{◌≡◌, ◌≤◌, ℕ, Bool, List, Err, length}
use Rattle.std.specs.declared.alloc.Global.{Global}
use Rattle.std.specs.declared.vec.Vec.{Vec}
use Rattle.std.proofs.Common.{sym, ap, subst}
use Rattle.dita_doc.specs.declared.stop.Stop.{Stop}
use Rattle.map_spec.specs.Written.{Element, Written, End, Chars, Node}
use Rattle.conref_spec.specs.Content.{ContentAround, Made, nothing_made, text_made}
use Rattle.conref_targets.specs.Tables.{AreTables, Documents}
use Rattle.conref_targets.specs.declared.tables.PlaceTables.{PlaceTables}
use Rattle.conref_pull.specs.Putting.{IsPut}
use Rattle.conref_pull.specs.Walking.{Here, IsWalked, Walks, among_made, whole_made}
use Rattle.conref_pull.specs.declared.place.Place as kept
use Rattle.conref_pull.specs.declared.resolver.Resolver.{Resolver}
use Rattle.conref_pull.specs.declared.resolver.TooMany.{TooMany}
use Rattle.conref_pull.proofs.AroundLaws.{path_same}
use Rattle.conref_pull.proofs.WalkLaws.{SoFar, so_far_as, so_far_end, so_far_more, so_far_stop}

-- what was put, within targets that are the same
pub put_walked : (documents : Documents) (links : ℕ) (made : Made) (a b : Resolver) (places : PlaceTables)
    → IsPut made a b → b.path ≡ a.path → links ≤ length a.path.items → AreTables documents places
    → IsWalked documents links made a b places
put_walked documents links made a b places put path within tables = record {
  put = put;
  path = path_same links a b path;
  within = subst (λ (p : Vec kept.Place Global). links ≤ length p.items) (sym path) within;
  tables = tables;
}

module _ (here : Here) (links : ℕ) (is_range : Bool) (around : ContentAround) (left : Written) (all : Made)
    (a b : Resolver)
    (places : PlaceTables)
    (before : SoFar here.setting.pushed links (among_made here is_range around left) all a b places) where
  pub none_next : left ≡ End → IsWalked here.setting.pushed links all a b places
  none_next is = so_far_end here.setting.pushed links all a b places
      (so_far_as here.setting.pushed links (among_made here is_range around left) nothing_made all a b places
      (ap (among_made here is_range around) is) before)

  pub element_next : (element : Element) (inside rest : Written) (c : Resolver) (after : PlaceTables)
      → left ≡ Node element inside rest
      → IsWalked here.setting.pushed links (whole_made here is_range around element inside) b c after
      → SoFar here.setting.pushed links (among_made here is_range around rest) all a c after
  element_next element inside rest c after is walked =
      so_far_more here.setting.pushed links (whole_made here is_range around element inside)
      (among_made here is_range around rest) all a b c places after
      (so_far_as here.setting.pushed links (among_made here is_range around left)
      (among_made here is_range around (Node element inside rest)) all a b places
      (ap (among_made here is_range around) is) before) walked

  pub element_stops : (stop : Stop TooMany) (element : Element) (inside rest : Written) (c : Resolver)
      (after : PlaceTables) → left ≡ Node element inside rest
      → Walks (Err stop) here.setting.pushed links (whole_made here is_range around element inside) b c after
      → Walks (Err stop) here.setting.pushed links all a c after
  element_stops stop element inside rest c after is walked =
      so_far_stop stop here.setting.pushed links (whole_made here is_range around element inside)
      (among_made here is_range around rest) all a b c places after
      (so_far_as here.setting.pushed links (among_made here is_range around left)
      (among_made here is_range around (Node element inside rest)) all a b places
      (ap (among_made here is_range around) is) before) walked

  pub text_next : (text doc : List ℕ) (rest : Written) (c : Resolver) → left ≡ Chars text doc rest
      → IsPut (text_made text doc) b c → c.path ≡ b.path
      → SoFar here.setting.pushed links (among_made here is_range around rest) all a c places
  text_next text doc rest c is put path =
      so_far_more here.setting.pushed links (text_made text doc) (among_made here is_range around rest) all a b c places
      places (so_far_as here.setting.pushed links (among_made here is_range around left)
      (among_made here is_range around (Chars text doc rest)) all a b places (ap (among_made here is_range around) is) before)
      (put_walked here.setting.pushed links (text_made text doc) b c places put path before.walked.within
      before.walked.tables)
