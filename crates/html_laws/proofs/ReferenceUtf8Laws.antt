-- What references of UTF-8 lead to is UTF-8.
use Rattle.std.specs.Prelude.{◌≡◌, ◌+◌, ◌-◌, ◌<◌, ◌≤◌, ◌==◌, ◌&&◌, ◌||◌, ℕ, zero, suc, Bool, true, false, List, [], ◌∷◌, ◌++◌, Option, Some, None, IfSome, Result, Ok, Err, IfOk, drop, length, take, bytes_eq, codes, if◌then◌else◌}
use Rattle.std.specs.List.{AllByRecursion, after_first, before_first, flat_map, list_any, position_or_len, slice_index}
use Rattle.std.specs.Str.{IsUtf8}
use Rattle.std.proofs.Common.{refl, sym, subst, arith, get_or, ltb}
use Rattle.std.proofs.lemmas.Bool.{eqb-true, ltb-true, ltb-false}
use Rattle.std.proofs.lemmas.Bool.Decides.{nat_tests}
use Rattle.std.proofs.lemmas.List.{drop_all, take_all}
use Rattle.std.proofs.lemmas.List.Elements.{recursion_from_All}
use Rattle.std.proofs.lemmas.List.Sums.{passes_at_first, split_at_first}
use Rattle.std.proofs.lemmas.Str.{IsUtf8-append, IsUtf8-nil}
use Rattle.dita_doc.specs.Bytes.{has_bytes, is_slash, parts_by}
use Rattle.dita_doc.specs.Name.{is_name}
use Rattle.dita_doc.specs.declared.plan.Reference.{Reference}
use Rattle.dita_doc.specs.declared.plan.Target.{Target}
use Rattle.dita_doc.specs.declared.plan.Target.TheVariants as targets
use Rattle.dita_doc.proofs.Utf8Laws.{AreHigh, utf8_cons, utf8_cut_at, utf8_grows, utf8_parts}
use Rattle.href_text.specs.declared.fault.RefFault.{RefFault}
use Rattle.href_text.specs.declared.fault.RefFault.TheVariants as faults
use Rattle.href_text.specs.Joined.{folders_of, followed, is_above, is_here, joined, name_of_segments, name_if_followed, path_of, relative_path, without_last}
use Rattle.href_text.specs.Reference.{is_external, is_number_sign, reference_of, reference_to, reference_with}
use Rattle.map_spec.specs.Target.{file_named, file_of, if_read, is_far, local_file, local_topic, rest_of, target_by}
use Rattle.html_laws.specs.Utf8.{IsUtf8Target}
use Rattle.html_laws.proofs.EachLaws.{chosen, of_any, of_both, of_option_map}
use Rattle.html_laws.proofs.PageUtf8Laws.{utf8_each}
use Rattle.html_laws.proofs.TextUtf8Laws.{IsUtf8If, utf8_codes}

-- Texts cut at their first byte of a kind that is ASCII

abbrev pub IsAsciiTest : (ℕ → Bool) → Type 0
IsAsciiTest test = (b : ℕ) → test b ≡ true → b < 128

split_by : (test : ℕ → Bool) (bytes : List ℕ) (there : Bool) → IsAsciiTest test
    → ltb (position_or_len test bytes) (length bytes) ≡ there → IsUtf8 bytes
    → IsUtf8 (before_first test bytes) × IsUtf8 (after_first test bytes)
split_by test bytes true low e utf8 =
    let at : ℕ = position_or_len test bytes in
    let less : at < length bytes = ltb-true _ _ e in
    let byte = get_or bytes at 0 in
    utf8_cut_at byte bytes (before_first test bytes) (after_first test bytes)
    (low byte (passes_at_first test bytes 0 less)) (split_at_first test bytes 0 less) utf8
split_by test bytes false low e utf8 =
    let at : ℕ = position_or_len test bytes in
    let past : length bytes ≤ at = ltb-false _ _ e in
    let none : drop (at + 1) bytes ≡ [] = drop_all (at + 1) bytes (omega arith) in
    (subst IsUtf8 (sym (take_all at bytes past)) utf8, subst IsUtf8 (sym none) IsUtf8-nil)

pub utf8_split : (test : ℕ → Bool) (bytes : List ℕ) → IsAsciiTest test → IsUtf8 bytes
    → IsUtf8 (before_first test bytes) × IsUtf8 (after_first test bytes)
utf8_split test bytes low utf8 = split_by test bytes _ low refl utf8

sign_low : IsAsciiTest is_number_sign
sign_low b e = let same = eqb-true b 35 e in omega (arith, same)

pub slash_low : IsAsciiTest is_slash
slash_low b e = let same = eqb-true b 47 e in omega (arith, same)

-- the parts between slashes
pub utf8_segments : (text : List ℕ) → IsUtf8 text → AllByRecursion IsUtf8 (parts_by is_slash text)
utf8_segments text utf8 = recursion_from_All IsUtf8 (parts_by is_slash text)
    (utf8_parts is_slash text (λ b high. grind (arith, nat_tests)) utf8)

-- what stands behind a file, from its `#` on
high_rest : (char rest : List ℕ) → AreHigh char → rest_of (char ++ rest) ≡ rest_of rest
high_rest [] rest high = refl
high_rest (b ∷ char) rest high =
    let above : 128 ≤ b = high.0 in
    let other : (b == 35) ≡ false = grind (arith, nat_tests) in
    rw other (high_rest char rest high.1)

pub utf8_rest : (value : List ℕ) → IsUtf8 value → IsUtf8 (rest_of value)
utf8_rest value utf8 = utf8_grows (λ (text : List ℕ). IsUtf8 (rest_of text)) value (record {
  none = IsUtf8-nil;
  low = λ b rest less whole well. chosen IsUtf8 (b == 35) (b ∷ rest) (rest_of rest) (utf8_cons b rest less whole) well;
  high = λ char rest high some first whole well. subst IsUtf8 (sym (high_rest char rest high)) well;
}) utf8

-- Files that are joined

of_front : {X : Type 0} (P : X → Type 0) (count : ℕ) (xs : List X) → AllByRecursion P xs
    → AllByRecursion P (take count xs)
of_front P zero xs all = tt
of_front P (suc count) [] all = tt
of_front P (suc count) (x ∷ xs) all = (all.0, of_front P count xs all.1)

pub utf8_without_last : (segments : List (List ℕ)) → AllByRecursion IsUtf8 segments
    → AllByRecursion IsUtf8 (without_last segments)
utf8_without_last segments all = of_front IsUtf8 (length segments - 1) segments all

abbrev IsUtf8Path : Result (List (List ℕ)) RefFault → Type 0
IsUtf8Path result = IfOk result (AllByRecursion IsUtf8)

utf8_followed : (stay segments : List (List ℕ)) → AllByRecursion IsUtf8 stay → AllByRecursion IsUtf8 segments
    → IsUtf8Path (followed stay segments)
utf8_followed stay [] first second = first
utf8_followed stay (segment ∷ segments) first second =
    let above = if length stay == 0 then Err faults.AboveRoot else followed (without_last stay) segments in
    let onward = followed (stay ++ segment ∷ []) segments in
    chosen IsUtf8Path (is_here segment) (followed stay segments)
    (if is_above segment then above else onward) (utf8_followed stay segments first second.1)
    (chosen IsUtf8Path (is_above segment) above onward
    (chosen IsUtf8Path (length stay == 0) (Err faults.AboveRoot) (followed (without_last stay) segments) tt
    (utf8_followed (without_last stay) segments (utf8_without_last stay first) second.1))
    (utf8_followed (stay ++ segment ∷ []) segments (of_both IsUtf8 stay (segment ∷ []) first (second.0, tt)) second.1))

utf8_path : (segments : List (List ℕ)) → AllByRecursion IsUtf8 segments → IsUtf8 (path_of segments)
utf8_path [] all = IsUtf8-nil
utf8_path (segment ∷ []) all = all.0
utf8_path (segment ∷ next ∷ segments) all = IsUtf8-append segment (47 ∷ path_of (next ∷ segments)) all.0
    (utf8_cons 47 (path_of (next ∷ segments)) (omega arith) (utf8_path (next ∷ segments) all.1))

abbrev IsUtf8Name : Result (List ℕ) RefFault → Type 0
IsUtf8Name result = IfOk result IsUtf8

utf8_named : (segments : List (List ℕ)) → AllByRecursion IsUtf8 segments → IsUtf8Name (name_of_segments segments)
utf8_named [] all = tt
utf8_named (segment ∷ segments) all =
    let path = path_of (segment ∷ segments) in
    chosen IsUtf8Name (is_name path) (Ok path) (Err faults.BadName) (utf8_path (segment ∷ segments) all) tt

utf8_named_by : (stay : Result (List (List ℕ)) RefFault) → IsUtf8Path stay → IsUtf8Name (name_if_followed stay)
utf8_named_by (Ok stay) all = utf8_named stay all
utf8_named_by (Err fault) all = tt

pub utf8_folders : (name : List ℕ) → IsUtf8 name → AllByRecursion IsUtf8 (folders_of name)
utf8_folders name utf8 = utf8_without_last (parts_by is_slash name) (utf8_segments name utf8)

utf8_joined : (doc file : List ℕ) → IsUtf8 doc → IsUtf8 file → IsUtf8Name (joined doc file)
utf8_joined doc file first second =
    let behind = name_if_followed (followed (folders_of doc) (parts_by is_slash file)) in
    let within = utf8_named_by (followed (folders_of doc) (parts_by is_slash file))
    (utf8_followed (folders_of doc) (parts_by is_slash file) (utf8_folders doc first) (utf8_segments file second)) in
    chosen IsUtf8Name (length file == 0) (Ok doc)
    (if slice_index file 0 == 47 then Err faults.AboveRoot else behind) first
    (chosen IsUtf8Name (slice_index file 0 == 47) (Err faults.AboveRoot) behind tt within)

pub utf8_read : {X : Type 0} (P : X → Type 0) (result : Result X RefFault) → IfOk result P → IfSome (if_read result) P
utf8_read P (Ok x) is = is
utf8_read P (Err fault) is = tt

pub utf8_join : (doc file : List ℕ) → IsUtf8 doc → IsUtf8 file → IfSome (if_read (joined doc file)) IsUtf8
utf8_join doc file first second = utf8_read IsUtf8 (joined doc file) (utf8_joined doc file first second)

pub utf8_relative : (from to : List ℕ) → IsUtf8 to → IsUtf8 (relative_path from to)
utf8_relative from to utf8 =
    let any : List ℕ → Type 0 = λ folder. Unit {0} in
    IsUtf8-append (flat_map (λ folder. codes "../") (folders_of from)) to
    (utf8_each any (λ folder. codes "../") (folders_of from) (λ folder is. utf8_codes (codes "../") refl)
    (of_any any (folders_of from) (λ folder. tt))) utf8

-- References

pub record IsUtf8Reference (reference : Reference) : Type 0 where
  pub file : IsUtf8 reference.file
  pub topic : IsUtf8 reference.topic
  pub element : IsUtf8 reference.element

abbrev IsUtf8Read : Result Reference RefFault → Type 0
IsUtf8Read result = IfOk result IsUtf8Reference

utf8_to : (file : List ℕ) (parts : List (List ℕ)) → IsUtf8 file → AllByRecursion IsUtf8 parts
    → IsUtf8Read (reference_to file parts)
utf8_to file [] first all = tt
utf8_to file (topic ∷ []) first all =
    chosen IsUtf8Read (has_bytes topic) (Ok (record { file = file; topic = topic; element = [] }))
    (Err faults.BadFragment) (record { file = first; topic = all.0; element = IsUtf8-nil }) tt
utf8_to file (topic ∷ element ∷ []) first all =
    chosen IsUtf8Read (has_bytes topic && has_bytes element)
    (Ok (record { file = file; topic = topic; element = element })) (Err faults.BadFragment)
    (record { file = first; topic = all.0; element = all.1.0 }) tt
utf8_to file (topic ∷ element ∷ more ∷ parts) first all = tt

utf8_with : (file fragment : List ℕ) → IsUtf8 file → IsUtf8 fragment → IsUtf8Read (reference_with file fragment)
utf8_with file fragment first second =
    chosen IsUtf8Read (list_any is_number_sign fragment) (Err faults.BadFragment)
    (reference_to file (parts_by is_slash fragment)) tt
    (utf8_to file (parts_by is_slash fragment) first (utf8_segments fragment second))

utf8_reference : (value : List ℕ) → IsUtf8 value → IsUtf8Read (reference_of value)
utf8_reference value utf8 =
    let parts = utf8_split is_number_sign value sign_low utf8 in
    let cut = reference_with (before_first is_number_sign value) (after_first is_number_sign value) in
    let alone : Result Reference RefFault = Ok (record { file = value; topic = []; element = [] }) in
    let chosen_cut = if list_any is_number_sign value then cut else alone in
    chosen IsUtf8Read (is_external value) (Err faults.External)
    (if length value == 0 then Err faults.Empty else chosen_cut) tt
    (chosen IsUtf8Read (length value == 0) (Err faults.Empty) chosen_cut tt
    (chosen IsUtf8Read (list_any is_number_sign value) cut alone
    (utf8_with (before_first is_number_sign value) (after_first is_number_sign value) parts.0 parts.1)
    (record { file = utf8; topic = IsUtf8-nil; element = IsUtf8-nil })))

pub utf8_refer : (value : List ℕ) → IsUtf8 value → IfSome (if_read (reference_of value)) IsUtf8Reference
utf8_refer value utf8 = utf8_read IsUtf8Reference (reference_of value) (utf8_reference value utf8)

-- Targets

pub utf8_file_named : (doc value : List ℕ) → IsUtf8 doc → IsUtf8 value → IfSome (file_named doc value) IsUtf8
utf8_file_named doc value first second =
    chosen IsUtf8If (length value == 0) None (if_read (joined doc (file_of value))) tt
    (utf8_join doc (file_of value) first (utf8_split is_number_sign value sign_low second).0)

abbrev pub IsUtf8Lead : Option Target → Type 0
IsUtf8Lead target = IfSome target IsUtf8Target

pub utf8_local_file : (doc value : List ℕ) → IsUtf8 doc → IsUtf8 value → IsUtf8Lead (local_file doc value)
utf8_local_file doc value first second =
    of_option_map IsUtf8 IsUtf8Target (λ name. targets.File name (rest_of value)) (file_named doc value)
    (λ name is. (is, utf8_rest value second)) (utf8_file_named doc value first second)

utf8_local_topic : (doc : List ℕ) (reference : Option Reference) → IsUtf8 doc → IfSome reference IsUtf8Reference
    → IsUtf8Lead (local_topic doc reference)
utf8_local_topic doc None first second = tt
utf8_local_topic doc (Some reference) first second =
    of_option_map IsUtf8 IsUtf8Target (λ name. targets.Local name reference) (if_read (joined doc reference.file))
    (λ name is. (is, second.topic, second.element)) (utf8_join doc reference.file first second.file)

pub utf8_target_by : (value format scope doc : List ℕ) → IsUtf8 value → IsUtf8 doc
    → IsUtf8Lead (target_by value format scope doc)
utf8_target_by value format scope doc first second =
    let topic = local_topic doc (if_read (reference_of value)) in
    let file = local_file doc value in
    let near = if bytes_eq format (codes "dita") then topic else file in
    chosen IsUtf8Lead (is_far scope || is_external value) (Some (targets.Other value)) near first
    (chosen IsUtf8Lead (bytes_eq format (codes "dita")) topic file
    (utf8_local_topic doc (if_read (reference_of value)) second (utf8_refer value first))
    (utf8_local_file doc value second first))
