-- The file of a value, and the key of a key reference: what stands before the first byte of a kind, and behind it.
use Rattle.std.specs.Prelude.{◌≡◌, ◌+◌, ◌==◌, ℕ, suc, Bool, true, false, List, [], ◌∷◌, ◌++◌, Option, Some, length, drop}
use Rattle.std.specs.List.{list_any, position_or_len, before_first, after_first}
use Rattle.std.proofs.Common.{refl, sym, ap, ◌∙◌, arith}
use Rattle.std.proofs.lemmas.Bool.{or_parts}
use Rattle.std.proofs.lemmas.List.Folds.{list_any-append}
use Rattle.dita_doc.specs.Bytes.{number_sign, slash, is_slash}
use Rattle.dita_doc.specs.Cut.{Lacks, IsCutAt}
use Rattle.dita_doc.proofs.CutLaws.{front_alone, take_one_more}
use Rattle.href_text.specs.Joined.{joined}
use Rattle.href_text.specs.Reference.{is_number_sign}
use Rattle.map_spec.specs.Keys.{key_of, id_of_key, if_text}
use Rattle.map_spec.specs.Target.{file_of, rest_of, file_named, if_read}

drop_one_more : (n b : ℕ) (bytes : List ℕ) → drop (1 + n + 1) (b ∷ bytes) ≡ drop (n + 1) bytes
drop_one_more n b bytes = let e : 1 + n + 1 ≡ suc (n + 1) = omega arith in rw e refl

front_cut : (ends : ℕ → Bool) (front back : List ℕ) (byte : ℕ) → ends byte ≡ true → list_any ends front ≡ false
    → before_first ends (front ++ byte ∷ back) ≡ front
front_cut ends [] back byte ended e = rw ended refl
front_cut ends (b ∷ front) back byte ended e =
    let parts = or_parts (ends b) (list_any ends front) e in
    let all : List ℕ = front ++ byte ∷ back in
    rw (parts.0, take_one_more (position_or_len ends all) b all, front_cut ends front back byte ended parts.1) refl

back_cut : (ends : ℕ → Bool) (front back : List ℕ) (byte : ℕ) → ends byte ≡ true → list_any ends front ≡ false
    → after_first ends (front ++ byte ∷ back) ≡ back
back_cut ends [] back byte ended e = rw ended refl
back_cut ends (b ∷ front) back byte ended e =
    let parts = or_parts (ends b) (list_any ends front) e in
    let all : List ℕ = front ++ byte ∷ back in
    rw (parts.0, drop_one_more (position_or_len ends all) b all) (back_cut ends front back byte ended parts.1)

cut_has : (ends : ℕ → Bool) (front back : List ℕ) (byte : ℕ) → ends byte ≡ true → list_any ends front ≡ false
    → list_any ends (front ++ byte ∷ back) ≡ true
cut_has ends front back byte ended e = rw (list_any-append ends front (byte ∷ back), e, ended) refl

-- Files

-- a value without a `#` is a file
pub file_alone : (value : List ℕ) → Lacks number_sign value → value ≡ file_of value
file_alone value lacks = sym (front_alone is_number_sign value lacks)

no_rest : (value : List ℕ) → Lacks number_sign value → rest_of value ≡ []
no_rest [] lacks = refl
no_rest (b ∷ value) lacks =
    let parts = or_parts (b == number_sign) (list_any is_number_sign value) lacks in
    rw parts.0 (no_rest value parts.1)

pub rest_alone : (value : List ℕ) → Lacks number_sign value → [] ≡ rest_of value
rest_alone value lacks = sym (no_rest value lacks)

-- one with a `#` is cut there
pub file_cut : (value file behind : List ℕ) → IsCutAt number_sign value file behind → file ≡ file_of value
file_cut value file behind cut =
    sym (ap file_of cut.whole ∙ front_cut is_number_sign file behind number_sign refl cut.first)

rest_behind : (file behind : List ℕ) → Lacks number_sign file
    → rest_of (file ++ number_sign ∷ behind) ≡ number_sign ∷ behind
rest_behind [] behind lacks = refl
rest_behind (b ∷ file) behind lacks =
    let parts = or_parts (b == number_sign) (list_any is_number_sign file) lacks in
    rw parts.0 (rest_behind file behind parts.1)

pub rest_cut : (value file behind : List ℕ) → IsCutAt number_sign value file behind
    → number_sign ∷ behind ≡ rest_of value
rest_cut value file behind cut = sym (ap rest_of cut.whole ∙ rest_behind file behind cut.first)

-- the document that the file names
pub named_read : (doc value file : List ℕ) (read : Option (List ℕ)) → (length value == 0) ≡ false
    → file ≡ file_of value → read ≡ if_read (joined doc file) → read ≡ file_named doc value
named_read doc value file read some is named = named ∙ rw (some, is) refl

-- Key references

-- a key reference without a `/` is a key
pub key_alone : (keyref : List ℕ) → Lacks slash keyref → keyref ≡ key_of keyref
key_alone keyref lacks = sym (front_alone is_slash keyref lacks)

-- one with a `/` is cut there
pub key_cut : (keyref key id : List ℕ) → IsCutAt slash keyref key id → key ≡ key_of keyref
key_cut keyref key id cut = sym (ap key_of cut.whole ∙ front_cut is_slash key id slash refl cut.first)

pub id_cut : (keyref key id : List ℕ) → IsCutAt slash keyref key id → id_of_key keyref ≡ if_text id
id_cut keyref key id cut = ap id_of_key cut.whole
    ∙ rw (cut_has is_slash key id slash refl cut.first, back_cut is_slash key id slash refl cut.first) refl

pub some_text : (id : List ℕ) → (id ≡ [] → ⊥) → Some id ≡ if_text id
some_text [] full = absurd (full refl)
some_text (b ∷ id) full = refl
