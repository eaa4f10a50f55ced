-- A name is asked for, and what was found is known from then on.
use Rattle.std.specs.Prelude.{◌≡◌, ◌+◌, ◌<◌, ◌≤◌, ℕ, Bool, true, false, List, [], ◌∷◌, ◌++◌, Option, Some, None, IfSome, length, option_map}
use Rattle.std.specs.BTreeMap.{get}
use Rattle.std.specs.Cmp.Lexicographic.{slice_cmp}
use Rattle.std.specs.Option.{option_and_then}
use Rattle.std.specs.Ordering.{is_eq, nat_cmp}
use Rattle.std.proofs.Common.{refl, sym, ap, ◌∙◌, arith, subst, length-append}
use Rattle.std.proofs.Math.Logic.{⊎_elim}
use Rattle.std.proofs.lemmas.Bool.{cases_lt}
use Rattle.reader_spec.specs.World.{World}
use Rattle.readers.specs.Founded.{Grows}
use Rattle.readers.specs.Told.{Told, Agrees, document}
use Rattle.dita_doc.proofs.NameOrder.{same_from_equal}
use Rattle.dita_doc.proofs.Orders.{equal_test}
use Rattle.dita_doc.specs.Tree.{tree_of}
use Rattle.dita_doc.specs.declared.doc.Node.{Node}
use Rattle.doc_elements.specs.Walk.{element_of}
use Rattle.map_spec.specs.Included.{if_map, map_in, root_place_in}
use Rattle.map_spec.specs.Written.{Whole, first_sibling, written_in}
use Rattle.map_expand.specs.Homes.{Extends, Home, HomeFits, IsPlaced, content_between, home_at, name_at, root_in, whole_by}
use Rattle.map_expand.specs.Known.{IsAdded, IsFound, IsKnown, IsNamed, IsPut, MapsFit, map_wanted}
use Rattle.map_expand.specs.Going.{homes_of}
use Rattle.map_expand.specs.declared.maps.Maps.{Maps}
use Rattle.map_expand.specs.Telling.{IsTold}
use Rattle.map_expand.proofs.MakingLaws.{home_still}
use Rattle.map_expand.proofs.TellingLaws.{is_told, told_later}

module _ (homes more : List Home) where
  pub named_still : (name : List ℕ) (at : ℕ) → IsNamed homes name at → IsNamed (homes ++ more) name at
  named_still name at is = record {
    within = omega (arith, length-append homes more, is.within);
    named = ap (λ (h : Home). h.name) (home_still homes more at is.within) ∙ is.named;
  }

  pub found_still : (world : World) (name : List ℕ) (found : Option ℕ) → IsFound world homes name found
      → IsFound world (homes ++ more) name found
  found_still world name None is = is
  found_still world name (Some at) is = record {
    named = named_still name at is.named;
    root = is.root;
    is = is.is;
    here = ap root_in (home_still homes more at is.named.within) ∙ is.here;
    placed = subst (IsPlaced world) (sym (home_still homes more at is.named.within)) is.placed;
  }

  pub known_still : (world : World) (name : List ℕ) (known : Option (Option ℕ)) → IsKnown world homes name known
      → IsKnown world (homes ++ more) name known
  known_still world name None is = tt
  known_still world name (Some found) is = found_still world name found is

-- The map of a document

pub home_last : (old : List Home) (home : Home) → home_at (old ++ home ∷ []) (length old) ≡ home
home_last [] home = refl
home_last (first ∷ old) home = home_last old home

pub home_new : (old new : List Home) (home : Home) (at : ℕ) → new ≡ old ++ home ∷ [] → at ≡ length old → home_at new at ≡ home
home_new old new home at is last = ap (λ l. home_at l at) is ∙ ap (home_at (old ++ home ∷ [])) last ∙ home_last old home

-- under a name for which this document was told
map_told : (world : World) (name : List ℕ) (nodes : List Node) → world name ≡ Some (tree_of nodes)
    → map_in world name ≡ map_wanted name nodes
map_told world name nodes is =
    ap (λ t. option_and_then if_map (option_and_then first_sibling (option_map (written_in name) t))) is

pub none_told : (world : World) (name : List ℕ) → world name ≡ None → map_in world name ≡ None
none_told world name is =
    ap (λ t. option_and_then if_map (option_and_then first_sibling (option_map (written_in name) t))) is

pub found_put : (world : World) (name : List ℕ) (nodes : List Node) (old new : List Home) (found : Option ℕ)
    → world name ≡ Some (tree_of nodes) → IsPut name nodes old new found → IsFound world new name found
found_put world name nodes old new None holds put = map_told world name nodes holds ∙ put.0
found_put world name nodes old new (Some at) holds put =
    let home : Home = record { name = name; nodes = nodes; root = put.1.0 } in
    let root = put.1.2 in
    let node = root.fits.node in
    let whole : Whole = (element_of name node, content_between home (home.root + 1) node.end) in
    let there : root_in home ≡ Some whole = ap (whole_by home) root.fits.here in
    let here = home_new old new home at put.1.1 put.0 in
    record {
      named = record {
        within = omega (arith, ap (λ l. length l) put.1.1, length-append old (home ∷ []), put.0);
        named = ap (λ (h : Home). h.name) here;
      };
      root = whole;
      is = map_told world name nodes holds ∙ sym root.here ∙ there;
      here = ap root_in here ∙ there;
      placed = subst (IsPlaced world) (sym here)
          (ap (λ t. root_place_in (option_map (written_in name) t)) holds ∙ root.behind);
    }

-- What was found is put

abbrev at_name : List ℕ → List ℕ → Bool
at_name name q = is_eq (slice_cmp nat_cmp name q)

same_key : (name q : List ℕ) → at_name name q ≡ true → name ≡ q
same_key name q same = same_from_equal name q (equal_test (slice_cmp nat_cmp name q) same)

some_found : (a b : Option ℕ) → Some a ≡ Some b → a ≡ b
some_found a b same = cc

none_some : (a : Option ℕ) → None ≡ Some a → ⊥
none_some a same = cc

by_key : {P : Type 0} (test : Bool) → (test ≡ true → P) → (test ≡ false → P) → P
by_key true first second = first refl
by_key false first second = second refl

module _ (told later : List Told) (old new : Maps) (name : List ℕ) (found : Option ℕ) (fits : MapsFit told old)
    (unknown : get (slice_cmp nat_cmp) old.known name ≡ None) (extends : Extends (homes_of old) (homes_of new))
    (here : get (slice_cmp nat_cmp) new.known name ≡ Some found)
    (others : (q : List ℕ) → at_name name q ≡ false
    → get (slice_cmp nat_cmp) new.known q ≡ get (slice_cmp nat_cmp) old.known q) where
  pub put_knows : (world : World) → Agrees world told → IsFound world (homes_of new) name found → (q : List ℕ)
      → IsKnown world (homes_of new) q (get (slice_cmp nat_cmp) new.known q)
  put_knows world agrees is q = by_key (at_name name q)
      (λ same. subst (λ n. IsKnown world (homes_of new) n (get (slice_cmp nat_cmp) new.known n)) (same_key name q same)
      (subst (IsKnown world (homes_of new) name) (sym here) is))
      (λ differ. subst (IsKnown world (homes_of new) q) (sym (others q differ))
      (subst (λ h. IsKnown world h q (get (slice_cmp nat_cmp) old.known q)) (sym extends.is)
      (known_still (homes_of old) extends.more world q _ (fits.knows world agrees q))))

  pub put_names : ((at : ℕ) → found ≡ Some at → IsNamed (homes_of new) name at) → (q : List ℕ) (at : ℕ)
      → get (slice_cmp nat_cmp) new.known q ≡ Some (Some at) → IsNamed (homes_of new) q at
  put_names named q at is = by_key (at_name name q)
      (λ same. subst (λ n. IsNamed (homes_of new) n at) (same_key name q same)
      (named at (some_found _ _ (sym here ∙ ap (get (slice_cmp nat_cmp) new.known) (same_key name q same) ∙ is))))
      (λ differ. subst (λ h. IsNamed h q at) (sym extends.is)
      (named_still (homes_of old) extends.more q at (fits.names q at (sym (others q differ) ∙ is))))

  -- a map that was there before is still known by its name
  old_stored : (at : ℕ) → at < length (homes_of old)
      → get (slice_cmp nat_cmp) new.known (name_at (homes_of new) at) ≡ Some (Some at)
  old_stored at within =
      let still : name_at (homes_of new) at ≡ name_at (homes_of old) at =
      ap (λ (h : Home). h.name) (ap (λ l. home_at l at) extends.is ∙ home_still (homes_of old) extends.more at within) in
      ap (get (slice_cmp nat_cmp) new.known) still ∙ by_key (at_name name (name_at (homes_of old) at))
      (λ same. absurd (none_some (Some at) (sym unknown
      ∙ ap (get (slice_cmp nat_cmp) old.known) (same_key name _ same) ∙ fits.stored at within)))
      (λ differ. others (name_at (homes_of old) at) differ ∙ fits.stored at within)

  pub put_stored : IsAdded name (homes_of old) (homes_of new) found → (at : ℕ) → at < length (homes_of new)
      → get (slice_cmp nat_cmp) new.known (name_at (homes_of new) at) ≡ Some (Some at)
  put_stored added at within = ⊎_elim (old_stored at) (λ past. last_stored found refl added at within past)
      (cases_lt at (length (homes_of old)))
    where
      last_stored : (one : Option ℕ) → found ≡ one → IsAdded name (homes_of old) (homes_of new) one → (at : ℕ)
          → at < length (homes_of new) → length (homes_of old) ≤ at
          → get (slice_cmp nat_cmp) new.known (name_at (homes_of new) at) ≡ Some (Some at)
      last_stored None is same at within past =
          absurd (omega (arith, ap (λ (l : List Home). length l) same, within, past))
      last_stored (Some place) is put at within past =
          let one : at ≡ place = omega (
            arith,
            ap (λ (l : List Home). length l) put.1.1,
            length-append (homes_of old) (put.1.0 ∷ []),
            put.0,
            within,
            past,
          ) in
          let named = ap (λ (h : Home). h.name) (home_new (homes_of old) (homes_of new) put.1.0 at put.1.1 (one ∙ put.0))
          ∙ put.1.2 in
          ap (get (slice_cmp nat_cmp) new.known) named ∙ here ∙ ap (λ f. Some f) (is ∙ ap (λ n. Some n) (sym one))

  pub put_fits : IsAdded name (homes_of old) (homes_of new) found → (at : ℕ) → at < length (homes_of new)
      → HomeFits (home_at (homes_of new) at)
  put_fits added at within = ⊎_elim
      (λ before. subst HomeFits (sym (ap (λ l. home_at l at) extends.is ∙ home_still (homes_of old) extends.more at before))
      (fits.fits at before))
      (λ past. last_fits found added past) (cases_lt at (length (homes_of old)))
    where
      last_fits : (one : Option ℕ) → IsAdded name (homes_of old) (homes_of new) one → length (homes_of old) ≤ at
          → HomeFits (home_at (homes_of new) at)
      last_fits None same past = absurd (omega (arith, ap (λ (l : List Home). length l) same, within, past))
      last_fits (Some place) put past =
          let one : at ≡ length (homes_of old) = omega (
            arith,
            ap (λ (l : List Home). length l) put.1.1,
            length-append (homes_of old) (put.1.0 ∷ []),
            within,
            past,
          ) in
          subst HomeFits (sym (home_new (homes_of old) (homes_of new) put.1.0 at put.1.1 one)) put.1.3

  pub put_told : Grows told later → IsAdded name (homes_of old) (homes_of new) found
      → ((at : ℕ) → found ≡ Some at → IsTold later (home_at (homes_of new) at)) → (at : ℕ) → at < length (homes_of new)
      → IsTold later (home_at (homes_of new) at)
  put_told grows added tells at within = ⊎_elim
      (λ before. subst (IsTold later) (sym (ap (λ l. home_at l at) extends.is ∙ home_still (homes_of old) extends.more at before))
      (told_later told later (home_at (homes_of old) at) grows (fits.tells at before)))
      (λ past. last_told found refl added past) (cases_lt at (length (homes_of old)))
    where
      last_told : (one : Option ℕ) → found ≡ one → IsAdded name (homes_of old) (homes_of new) one
          → length (homes_of old) ≤ at → IsTold later (home_at (homes_of new) at)
      last_told None is same past = absurd (omega (arith, ap (λ (l : List Home). length l) same, within, past))
      last_told (Some place) is put past =
          let one : place ≡ at = omega (
            arith,
            ap (λ (l : List Home). length l) put.1.1,
            length-append (homes_of old) (put.1.0 ∷ []),
            put.0,
            within,
            past,
          ) in
          subst (λ n. IsTold later (home_at (homes_of new) n)) one (tells place is)

  named_added : (one : Option ℕ) → IsAdded name (homes_of old) (homes_of new) one → (at : ℕ) → one ≡ Some at
      → IsNamed (homes_of new) name at
  named_added None added at is = cc
  named_added (Some place) put at is =
      let same : place ≡ at = cc in
      let last : at ≡ length (homes_of old) = sym same ∙ put.0 in
      record {
        within = omega (
          arith,
          ap (λ (l : List Home). length l) put.1.1,
          length-append (homes_of old) (put.1.0 ∷ []),
          last,
        );
        named = ap (λ (h : Home). h.name) (home_new (homes_of old) (homes_of new) put.1.0 at put.1.1 last) ∙ put.1.2;
      }

  pub maps_put : Grows told later → ((world : World) → Agrees world later → Agrees world told)
      → IsAdded name (homes_of old) (homes_of new) found
      → ((world : World) → Agrees world later → IsFound world (homes_of new) name found)
      → ((at : ℕ) → found ≡ Some at → IsTold later (home_at (homes_of new) at)) → MapsFit later new
  maps_put grows before added is tells = record {
    knows = λ world agrees q. put_knows world (before world agrees) (is world agrees) q;
    stored = put_stored added;
    fits = put_fits added;
    names = put_names (named_added found added);
    tells = put_told grows added tells;
  }

-- the map of a document that was told
pub put_is_told : (name : List ℕ) (nodes : List Node) (before told : List Told) (old new : List Home) (found : Option ℕ)
    → told ≡ document name (Some (tree_of nodes)) ∷ before → IsPut name nodes old new found
    → IfSome found (λ at. IsTold told (home_at new at))
put_is_told name nodes before told old new None is put = tt
put_is_told name nodes before told old new (Some at) is put =
    let home : Home = record { name = name; nodes = nodes; root = put.1.0 } in
    subst (IsTold told) (sym (home_new old new home at put.1.1 put.0)) (is_told before told home is)
