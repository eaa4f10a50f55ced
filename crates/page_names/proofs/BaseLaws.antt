-- Paths, cut at their last `/`, and segments, cut at their last dot.
use Rattle.std.specs.Prelude.{◌≡◌, ◌==◌, ◌-◌, ◌+◌, ◌<◌, ◌≤◌, ℕ, suc, Bool, true, false, List, [], ◌∷◌, ◌++◌, Some, None, length, drop}
use native.Mathlib.Numerals.{unary_clauses}
use Rattle.std.specs.List.{slice_range}
use Rattle.std.proofs.Common.{refl, sym, ap, subst, ◌∙◌, arith, length-append, append_assoc, get_or}
use Rattle.std.proofs.lemmas.Bool.{eqb-true, or_parts}
use Rattle.std.proofs.lemmas.List.{drop_all, drop_at, drop_more, nil_from_length, take_at}
use Rattle.dita_doc.specs.Bytes.{slash, is_slash, onto_first, parts_by}
use Rattle.dita_doc.specs.Cut.{IsCutAtLast, Lacks}
use Rattle.dita_doc.proofs.PartLaws.{one_part}
use Rattle.map_spec.specs.Pages.{before_last_dot, folders, last_segment, with_affix, with_affixes, without_extension}
use Rattle.dita_doc.specs.declared.plan.Affix.{Affix}

-- Folders

folders_more : (part next : List ℕ) (parts : List (List ℕ))
    → folders (part ∷ next ∷ parts) ≡ (part ++ slash ∷ []) ++ folders (next ∷ parts)
folders_more part next parts =
    let e : suc (suc (length parts)) - 1 ≡ suc (length parts) = omega arith in
    let f : suc (length parts) - 1 ≡ length parts = omega arith in
    rw (e, f) refl

record HasFolders (parts : List (List ℕ)) (front back : List ℕ) : Type 0 where
  before : folders parts ≡ front ++ slash ∷ []
  behind : last_segment parts ≡ back

no_front : (front : List ℕ) → [] ≡ front ++ slash ∷ [] → ⊥
no_front [] is = cc
no_front (b ∷ front) is = cc

onto : (b : ℕ) (parts : List (List ℕ)) (front back : List ℕ) → HasFolders parts front back
    → HasFolders (onto_first b parts) (b ∷ front) back
onto b [] front back has = absurd (no_front front has.before)
onto b (part ∷ []) front back has = absurd (no_front front has.before)
onto b (part ∷ next ∷ parts) front back has = record {
  before =
      folders_more (b ∷ part) next parts
      ∙ ap (λ (path : List ℕ). b ∷ path) (sym (folders_more part next parts) ∙ has.before);
  behind = has.behind;
}

behind_slash : (parts : List (List ℕ)) (front back : List ℕ) → HasFolders parts front back
    → HasFolders ([] ∷ parts) (slash ∷ front) back
behind_slash [] front back has = absurd (no_front front has.before)
behind_slash (part ∷ parts) front back has = record {
  before = folders_more [] part parts ∙ ap (λ (path : List ℕ). slash ∷ path) has.before;
  behind = has.behind;
}

-- what stands before the last `/` is that of the folders
folders_before : (front back : List ℕ) → Lacks slash back
    → HasFolders (parts_by is_slash (front ++ slash ∷ back)) front back
folders_before [] back lacks = rw (one_part is_slash back lacks) (record { before = refl; behind = refl })
folders_before (b ∷ front) back lacks = by_slash (folders_before front back lacks) (is_slash b) refl
  where
    by_slash : HasFolders (parts_by is_slash (front ++ slash ∷ back)) front back → (test : Bool) → is_slash b ≡ test
        → HasFolders (parts_by is_slash (b ∷ front ++ slash ∷ back)) (b ∷ front) back
    by_slash has true is =
        rw (is, eqb-true b slash is) (behind_slash (parts_by is_slash (front ++ slash ∷ back)) front back has)
    by_slash has false is = rw is (onto b (parts_by is_slash (front ++ slash ∷ back)) front back has)

-- a text that is cut at its last byte of a kind is cut there again, the byte with the front
front_again : (byte : ℕ) (text front back : List ℕ) → text ≡ front ++ byte ∷ back
    → slice_range text 0 (length front + 1) ≡ front ++ byte ∷ []
front_again byte text front back whole =
    ap (λ (all : List ℕ). slice_range all 0 (length front + 1)) (whole ∙ sym (append_assoc front (byte ∷ []) back))
    ∙ simp unary_clauses refl
    ∙ take_at (front ++ byte ∷ []) back (length front + 1) (length-append front (byte ∷ []))

back_again : (byte : ℕ) (text front back : List ℕ) → text ≡ front ++ byte ∷ back
    → drop (length front + 1) text ≡ back
back_again byte text front back whole =
    ap (drop (length front + 1)) (whole ∙ sym (append_assoc front (byte ∷ []) back))
    ∙ drop_at (front ++ byte ∷ []) back (length front + 1) (length-append front (byte ∷ []))

pub folders_cut : (text front back cut : List ℕ) → IsCutAtLast slash text front back
    → cut ≡ slice_range text 0 (length front + 1) → cut ≡ folders (parts_by is_slash text)
folders_cut text front back cut at_last is =
    is ∙ front_again slash text front back at_last.whole
    ∙ sym (ap (λ path. folders (parts_by is_slash path)) at_last.whole
    ∙ (folders_before front back at_last.last).before)

pub last_cut : (text front back cut : List ℕ) → IsCutAtLast slash text front back → cut ≡ drop (length front + 1) text
    → cut ≡ last_segment (parts_by is_slash text)
last_cut text front back cut at_last is =
    is ∙ back_again slash text front back at_last.whole
    ∙ sym (ap (λ path. last_segment (parts_by is_slash path)) at_last.whole
    ∙ (folders_before front back at_last.last).behind)

pub no_folders : (text : List ℕ) → Lacks slash text → [] ≡ folders (parts_by is_slash text)
no_folders text lacks = rw (one_part is_slash text lacks) refl

pub one_segment : (text : List ℕ) → Lacks slash text → text ≡ last_segment (parts_by is_slash text)
one_segment text lacks = rw (one_part is_slash text lacks) refl

-- Extensions

no_dot : (text : List ℕ) → Lacks 46 text → before_last_dot text ≡ None
no_dot [] lacks = refl
no_dot (b ∷ text) lacks = let parts = or_parts (b == 46) _ lacks in rw (no_dot text parts.1, parts.0) refl

last_dot : (front back : List ℕ) → Lacks 46 back → before_last_dot (front ++ 46 ∷ back) ≡ Some front
last_dot [] back lacks = rw (no_dot back lacks) refl
last_dot (b ∷ front) back lacks = rw (last_dot front back lacks) refl

pub no_extension : (segment : List ℕ) → Lacks 46 segment → segment ≡ without_extension segment
no_extension [] lacks = refl
no_extension (b ∷ segment) lacks = rw (no_dot segment (or_parts (b == 46) _ lacks).1) refl

extension_behind : (front back : List ℕ) → Lacks 46 back → false ≡ (length front == 0)
    → without_extension (front ++ 46 ∷ back) ≡ front
extension_behind [] back lacks some = cc
extension_behind (b ∷ front) back lacks some = rw (last_dot front back lacks) refl

pub extension_cut : (segment front back cut : List ℕ) → IsCutAtLast 46 segment front back
    → false ≡ (length front == 0) → cut ≡ slice_range segment 0 (length front) → cut ≡ without_extension segment
extension_cut segment front back cut at_last some is =
    is ∙ ap (λ (all : List ℕ). slice_range all 0 (length front)) at_last.whole
    ∙ simp unary_clauses refl
    ∙ take_at front (46 ∷ back) (length front) refl
    ∙ sym (ap without_extension at_last.whole ∙ extension_behind front back at_last.last some)

-- a dot in front begins no extension
pub dot_in_front : (segment front back : List ℕ) → IsCutAtLast 46 segment front back → true ≡ (length front == 0)
    → segment ≡ without_extension segment
dot_in_front segment front back at_last none =
    let whole : segment ≡ 46 ∷ back = at_last.whole ∙ ap (λ (f : List ℕ). f ++ 46 ∷ back)
    (nil_from_length front (eqb-true _ _ (sym none))) in
    rw whole (rw (no_dot back at_last.last) refl)

-- a cut of the bytes of a text is one of the text
pub text_cut : (byte : ℕ) (bytes text front back : List ℕ) → bytes ≡ text → IsCutAtLast byte bytes front back
    → IsCutAtLast byte text front back
text_cut byte bytes text front back is cut = subst (λ all. IsCutAtLast byte all front back) is cut

pub text_lacks : (byte : ℕ) (bytes text : List ℕ) → bytes ≡ text → Lacks byte bytes → Lacks byte text
text_lacks byte bytes text is lacks = subst (Lacks byte) is lacks

-- Affixes

pub affix_more : (base next path : List ℕ) (affixes : List Affix) (at : ℕ) (affix : Affix) → at < length affixes
    → affix ≡ get_or affixes at affix → next ≡ with_affix base affix
    → with_affixes base (drop at affixes) ≡ with_affixes path affixes
    → with_affixes next (drop (at + 1) affixes) ≡ with_affixes path affixes
affix_more base next path affixes at affix within item is before =
    ap (λ p. with_affixes p (drop (at + 1) affixes)) (is ∙ ap (with_affix base) item)
    ∙ sym (ap (with_affixes base) (drop_more affixes at affix within)) ∙ before

pub affixes_end : (base path : List ℕ) (affixes : List Affix) (at : ℕ) → length affixes ≤ at
    → with_affixes base (drop at affixes) ≡ with_affixes path affixes → base ≡ with_affixes path affixes
affixes_end base path affixes at all before = sym (ap (with_affixes base) (drop_all at affixes all)) ∙ before
