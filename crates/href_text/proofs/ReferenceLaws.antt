-- The parts of a reference, and values that name something outside.
use Rattle.std.specs.Prelude.{◌≡◌, ◌==◌, ◌||◌, ◌&&◌, ◌≤◌, ℕ, Bool, true, false, not, List, [], ◌∷◌, ◌++◌, Ok, Err, length, drop}
use Rattle.std.specs.List.{list_any, position_or_len, before_first, after_first}
use Rattle.std.proofs.Common.{refl, sym, ap, ◌∙◌, arith}
use Rattle.std.proofs.Math.Bool.{and-true, and-false}
use Rattle.std.proofs.lemmas.Bool.{or_parts, false≢true}
use Rattle.std.proofs.lemmas.List.{take_at, drop_at, drop-drop}
use Rattle.std.proofs.lemmas.List.Folds.{list_any-append}
use Rattle.dita_doc.specs.Bytes.{slash, number_sign, is_slash, has_bytes, parts_by}
use Rattle.dita_doc.specs.Cut.{Lacks, IsCutAt}
use Rattle.dita_doc.proofs.CutLaws.{take_one_more}
use Rattle.dita_doc.proofs.PartLaws.{parts_after, one_part}
use Rattle.href_text.specs.Reference.{is_colon, is_number_sign, ends_scheme, is_external, reference_to, reference_with, reference_of}
use Rattle.href_text.specs.declared.fault.RefFault.TheVariants as faults
use Rattle.href_text.proofs.PartCountLaws.{has_two}

-- a byte that ends the scheme ends the search for a `:`
pub external_ends : (b : ℕ) (bytes : List ℕ) → ends_scheme b ≡ true → is_external (b ∷ bytes) ≡ false
external_ends b bytes e = rw e refl

-- any other byte is the `:`, or the search goes on behind it
pub external_more : (b : ℕ) (bytes : List ℕ) → ends_scheme b ≡ false
    → is_external (b ∷ bytes) ≡ (is_colon b || is_external bytes)
external_more b bytes e = rw (e, take_one_more (position_or_len ends_scheme bytes) b bytes) refl

-- the `:` is found
pub external_here : (b : ℕ) (bytes : List ℕ) → b ≡ 58 → is_external (b ∷ bytes) ≡ true
external_here b bytes e = rw e (rw (external_more 58 bytes refl) refl)

-- and goes on to be sought
pub external_behind : (b : ℕ) (bytes : List ℕ) → (b == 58) ≡ false → (b == 47) ≡ false → (b == 35) ≡ false
    → is_external (b ∷ bytes) ≡ is_external bytes
external_behind b bytes colon slash sign =
    let e : ends_scheme b ≡ false = rw (slash, sign) refl in
    rw (external_more b bytes e, colon) refl

-- a fragment without `/` is a topic, if it has bytes
pub topic_alone : (file fragment : List ℕ) → Lacks number_sign fragment → Lacks slash fragment
    → (length fragment == 0) ≡ false
    → reference_with file fragment ≡ Ok (record { file = file; topic = fragment; element = [] })
topic_alone file fragment once lacks some = rw (once, one_part is_slash fragment lacks, some) refl

pub no_fragment : (file fragment : List ℕ) → Lacks number_sign fragment → Lacks slash fragment
    → (length fragment == 0) ≡ true → reference_with file fragment ≡ Err faults.BadFragment
no_fragment file fragment once lacks none = rw (once, one_part is_slash fragment lacks, none) refl

-- and with one it is a topic and more
topic_and_more : (file fragment topic behind : List ℕ) → Lacks number_sign fragment
    → IsCutAt slash fragment topic behind
    → reference_with file fragment ≡ reference_to file (topic ∷ parts_by is_slash behind)
topic_and_more file fragment topic behind once cut =
    rw (once, cut.whole, parts_after is_slash topic behind slash refl cut.first) refl

-- an empty topic is none
empty_topic : (file topic : List ℕ) (parts : List (List ℕ)) → (length topic == 0) ≡ true
    → reference_to file (topic ∷ parts) ≡ Err faults.BadFragment
empty_topic file topic [] e = rw e refl
empty_topic file topic (element ∷ []) e = rw e refl
empty_topic file topic (element ∷ next ∷ parts) e = refl

pub no_topic : (file fragment topic behind : List ℕ) → Lacks number_sign fragment
    → IsCutAt slash fragment topic behind → (length topic == 0) ≡ true → reference_with file fragment ≡ Err faults.BadFragment
no_topic file fragment topic behind once cut none =
    topic_and_more file fragment topic behind once cut ∙ empty_topic file topic (parts_by is_slash behind) none

-- three parts are no reference
three_parts : (file topic : List ℕ) (parts : List (List ℕ)) → 2 ≤ length parts
    → reference_to file (topic ∷ parts) ≡ Err faults.BadFragment
three_parts file topic [] two = absurd (omega arith)
three_parts file topic (element ∷ []) two = absurd (omega arith)
three_parts file topic (element ∷ next ∷ parts) two = refl

-- what stands behind the topic is an element if it has bytes and no other `/`
abbrev pub is_element : List ℕ → Bool
is_element element = has_bytes element && not (list_any is_slash element)

not_element : (file topic element : List ℕ) (more : Bool) → list_any is_slash element ≡ more
    → (has_bytes element && not more) ≡ false
    → reference_to file (topic ∷ parts_by is_slash element) ≡ Err faults.BadFragment
not_element file topic element true e none = three_parts file topic _ (has_two is_slash element e)
not_element file topic element false e none =
    let empty : has_bytes element ≡ false = sym (and-true (has_bytes element)) ∙ none in
    rw (one_part is_slash element e, empty, and-false (has_bytes topic)) refl

pub no_element : (file fragment topic element : List ℕ) → Lacks number_sign fragment
    → IsCutAt slash fragment topic element → is_element element ≡ false
    → reference_with file fragment ≡ Err faults.BadFragment
no_element file fragment topic element once cut none = topic_and_more file fragment topic element once cut
    ∙ not_element file topic element (list_any is_slash element) refl none

element_by : (file topic element : List ℕ) (more : Bool) → list_any is_slash element ≡ more
    → (length topic == 0) ≡ false → (has_bytes element && not more) ≡ true
    → reference_to file (topic ∷ parts_by is_slash element)
    ≡ Ok (record { file = file; topic = topic; element = element })
element_by file topic element true e some is = absurd (false≢true (sym (and-false (has_bytes element)) ∙ is))
element_by file topic element false e some is =
    let full : has_bytes element ≡ true = sym (and-true (has_bytes element)) ∙ is in
    rw (one_part is_slash element e, some, full) refl

pub with_element : (file fragment topic element : List ℕ) → Lacks number_sign fragment
    → IsCutAt slash fragment topic element → (length topic == 0) ≡ false → is_element element ≡ true
    → reference_with file fragment ≡ Ok (record { file = file; topic = topic; element = element })
with_element file fragment topic element once cut some is = topic_and_more file fragment topic element once cut
    ∙ element_by file topic element (list_any is_slash element) refl some is

-- The `#`

-- the first `#` stands behind a front without one
sign_at : (front back : List ℕ) → Lacks number_sign front
    → position_or_len is_number_sign (front ++ number_sign ∷ back) ≡ length front
sign_at [] back e = refl
sign_at (b ∷ front) back e =
    let parts = or_parts (is_number_sign b) (list_any is_number_sign front) e in
    rw (parts.0, sign_at front back parts.1) (omega arith)

-- a value with a `#` refers to a file, and to what stands behind it
pub reference_cut : (value file fragment : List ℕ) → is_external value ≡ false → (length value == 0) ≡ false
    → IsCutAt number_sign value file fragment → reference_of value ≡ reference_with file fragment
reference_cut value file fragment within some cut =
    let all : List ℕ = file ++ number_sign ∷ fragment in
    let at = sign_at file fragment cut.first in
    let has : list_any is_number_sign all ≡ true =
    rw (list_any-append is_number_sign file (number_sign ∷ fragment), cut.first) refl in
    let before : before_first is_number_sign all ≡ file = rw at (take_at file (number_sign ∷ fragment) _ refl) in
    let after : after_first is_number_sign all ≡ fragment = rw at (sym (drop-drop 1 (length file) all)
    ∙ ap (drop 1) (drop_at file (number_sign ∷ fragment) (length file) refl)) in
    rw (within, some) (rw cut.whole (rw (has, before, after) refl))
