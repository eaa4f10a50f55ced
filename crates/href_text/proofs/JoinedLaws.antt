-- Segments that are followed from a folder, and relative paths.
use Rattle.std.specs.Prelude.{◌≡◌, ◌==◌, ◌-◌, ◌≤◌, ℕ, suc, Bool, true, false, List, [], ◌∷◌, ◌++◌, Result, Ok, Err, length, codes, bytes_eq, if◌then◌else◌}
use Rattle.std.specs.List.{flat_map}
use Rattle.std.proofs.Common.{refl, arith, sym}
use Rattle.std.proofs.lemmas.Bool.{eqb-true, false_from_ne_true}
use Rattle.std.proofs.lemmas.List.{append-nil, nil_from_length}
use Rattle.std.proofs.lemmas.Slice.Eq.{bytes_eq-Decides}
use Rattle.dita_doc.specs.Bytes.{slash, is_slash, parts_by}
use Rattle.dita_doc.specs.Cut.{Lacks, IsCutAt}
use Rattle.dita_doc.proofs.PartLaws.{parts_after, one_part}
use Rattle.href_text.specs.Joined.{without_last, folders_of, is_here, is_above, followed, path_of, relative_path}
use Rattle.href_text.specs.declared.fault.RefFault.{RefFault}
use Rattle.href_text.specs.declared.fault.RefFault.TheVariants as faults
use Rattle.href_text.proofs.PartCountLaws.{has_one}

-- Folders

-- the first of several is not the last
first_stays : (part : List ℕ) (parts : List (List ℕ)) → 1 ≤ length parts
    → without_last (part ∷ parts) ≡ part ∷ without_last parts
first_stays part [] one = absurd (omega arith)
first_stays part (next ∷ parts) one =
    let e : suc (suc (length parts)) - 1 ≡ suc (length parts) = omega arith in
    let f : suc (length parts) - 1 ≡ length parts = omega arith in
    rw (e, f) refl

-- what stands before the first `/` of a name is its first folder
pub folders_cut : (name front back : List ℕ) → IsCutAt slash name front back
    → folders_of name ≡ front ∷ folders_of back
folders_cut name front back cut =
    rw (cut.whole, parts_after is_slash front back slash refl cut.first)
    (first_stays front (parts_by is_slash back) (has_one is_slash back))

-- and without `/` it has none
pub no_folders : (name : List ℕ) → Lacks slash name → folders_of name ≡ []
no_folders name lacks = rw (one_part is_slash name lacks) refl

-- Steps

-- what is done behind a first step
abbrev pub behind : List (List ℕ) → Result (List (List ℕ)) RefFault → Result (List (List ℕ)) RefFault
behind segments (Ok stay) = followed stay segments
behind segments (Err fault) = Err fault

step_by : (here above none : Bool) (stay cut more segments : List (List ℕ))
    → (if here then followed stay segments
    else if above then (if none then Err faults.AboveRoot else followed cut segments) else followed more segments)
    ≡ behind segments (if here then Ok stay
    else if above then (if none then Err faults.AboveRoot else Ok cut) else Ok more)
step_by true above none stay cut more segments = refl
step_by false true true stay cut more segments = refl
step_by false true false stay cut more segments = refl
step_by false false none stay cut more segments = refl

-- segments are followed one after the other
pub one_step : (stay : List (List ℕ)) (segment : List ℕ) (segments : List (List ℕ))
    → followed stay (segment ∷ segments) ≡ behind segments (followed stay (segment ∷ []))
one_step stay segment segments = step_by (is_here segment) (is_above segment) (length stay == 0) stay
    (without_last stay) (stay ++ segment ∷ []) segments

-- the segments of a path that is cut
pub steps_cut : (stay : List (List ℕ)) (path front back : List ℕ) → IsCutAt slash path front back
    → followed stay (parts_by is_slash path) ≡ behind (parts_by is_slash back) (followed stay (front ∷ []))
steps_cut stay path front back cut =
    rw (cut.whole, parts_after is_slash front back slash refl cut.first)
    (one_step stay front (parts_by is_slash back))

differs : (segment other : List ℕ) → (segment ≡ other → ⊥) → bytes_eq segment other ≡ false
differs segment other so = false_from_ne_true _ (λ e. so ((bytes_eq-Decides segment other).0 e))

-- a segment that is neither empty, nor `.` nor `..` stays
pub segment_stays : (stay : List (List ℕ)) (segment : List ℕ) → (segment ≡ [] → ⊥) → (segment ≡ codes "." → ⊥)
    → (segment ≡ codes ".." → ⊥) → followed stay (segment ∷ []) ≡ Ok (stay ++ segment ∷ [])
segment_stays stay segment some here above =
    let full : (length segment == 0) ≡ false =
    false_from_ne_true _ (λ e. some (nil_from_length segment (eqb-true (length segment) 0 e))) in
    rw (full, differs segment (codes ".") here, differs segment (codes "..") above) refl

-- Paths

-- a `/` stands before each segment but the first
pub path_by_parts : (first : List ℕ) (others : List (List ℕ))
    → path_of (first ∷ others) ≡ first ++ flat_map (λ segment. slash ∷ segment) others
path_by_parts first [] = sym (append-nil first)
path_by_parts first (next ∷ others) = rw (path_by_parts next others) refl

-- the path from a name that is cut goes one folder further up
pub relative_cut : (from front back to : List ℕ) → IsCutAt slash from front back
    → relative_path from to ≡ codes "../" ++ relative_path back to
relative_cut from front back to cut = rw (folders_cut from front back cut) refl

-- and from a name without folders there is nothing to go up
pub relative_uncut : (from to : List ℕ) → Lacks slash from → relative_path from to ≡ to
relative_uncut from to lacks = rw (no_folders from lacks) refl
