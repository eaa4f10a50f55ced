-- Bodies of documents, read by what each of their lines says. Read byte by byte in one go they take too many steps: what
-- was read before a byte is computed anew at it. And what is replied to a request that stores a body which was read, and
-- what it leaves.
use Prim.Native.String.{String}
use Rattle.std.specs.Prelude.{◌≡◌, ◌+◌, ◌-◌, ◌≤◌, ◌==◌, ◌&&◌, ◌||◌, ℕ, zero, suc, Bool, true, not, List, [], ◌∷◌, ◌++◌, Result, Ok, codes, length, map, nat_lt}
use Rattle.std.specs.List.{AllByRecursion, flat_map, list_all}
use Rattle.std.specs.Str.{IsUtf8, is_utf8}
use Rattle.std.proofs.Common.{refl, ap, arith, append_assoc, length-append, ◌∙◌}
use Rattle.std.proofs.lemmas.Bool.{and_parts, ltb-true, not-true, or_from, or_parts}
use Rattle.std.proofs.lemmas.List.{append-nil}
use Rattle.std.proofs.lemmas.Str.{IsUtf8-nil, is_utf8-from_IsUtf8}
use Rattle.dita_doc.specs.Bytes.{carriage_return, line_feed}
use Rattle.dita_doc.specs.Cut.{Lacks}
use Rattle.dita_doc.specs.Desk.{IsStored, Reply, State, after_edit, next, nodes_in, reply, store_reply, unless_refused, with_stored}
use Rattle.dita_doc.specs.Lines.{IsLineText, line}
use Rattle.dita_doc.specs.Pyx.{document_of, lines_from, reads, text_limit, tree_built}
use Rattle.dita_doc.specs.PyxLine.{Line, line_by_bytes, line_of}
use Rattle.dita_doc.specs.Request.{Put, Single}
use Rattle.dita_doc.specs.Tree.{Content, nodes_of}
use Rattle.dita_doc.specs.declared.fault.PyxFault.{PyxFault}
use Rattle.dita_doc.proofs.Utf8Laws.{utf8_cons}
use Rattle.faithful_examples.proofs.Shown.{lines, on_line}

-- Lines

-- ASCII, and neither LF nor CR
abbrev pub is_plain_byte : ℕ → Bool
is_plain_byte b = nat_lt b 128 && not ((b == line_feed) || (b == carriage_return))

abbrev pub is_plain : List ℕ → Bool
is_plain text = list_all is_plain_byte text

plain_utf8 : (text : List ℕ) → is_plain text ≡ true → IsUtf8 text
plain_utf8 [] plain = IsUtf8-nil
plain_utf8 (b ∷ text) plain =
    let parts = and_parts (is_plain_byte b) (is_plain text) plain in
    let low = and_parts (nat_lt b 128) (not ((b == line_feed) || (b == carriage_return))) parts.0 in
    utf8_cons b text (ltb-true b 128 low.0) (plain_utf8 text parts.1)

plain_line : (text : List ℕ) → is_plain text ≡ true → line_of text ≡ line_by_bytes text
plain_line text plain =
    let good : is_utf8 text ≡ true = is_utf8-from_IsUtf8 text (plain_utf8 text plain) in
    rw good refl

no_feed : (text : List ℕ) → is_plain text ≡ true → Lacks line_feed text
no_feed [] plain = refl
no_feed (b ∷ text) plain =
    let parts = and_parts (is_plain_byte b) (is_plain text) plain in
    let low = and_parts (nat_lt b 128) (not ((b == line_feed) || (b == carriage_return))) parts.0 in
    let ends = or_parts (b == line_feed) (b == carriage_return) (not-true _ low.1) in
    or_from _ _ ends.0 (no_feed text parts.1)

-- the lines of a row may be plain
pub plain_lines : (texts : List (List ℕ)) → list_all is_plain texts ≡ true → AllByRecursion IsLineText texts
plain_lines [] plain = tt
plain_lines (text ∷ texts) plain =
    let parts = and_parts (is_plain text) (list_all is_plain texts) plain in
    let utf8 = is_utf8-from_IsUtf8 text (plain_utf8 text parts.0) in
    (on_line text utf8 (no_feed text parts.0), plain_lines texts parts.1)

-- plain bytes behind others of their line, with an LF behind them
line_cut : (left after : ℕ) (before text rest : List ℕ) → left ≡ (length text + 1) + after → is_plain text ≡ true
    → lines_from left before (text ++ line_feed ∷ rest) ≡ line_of (before ++ text) ∷ lines_from after [] rest
line_cut zero after before text rest size plain = absurd (omega (arith, size))
line_cut (suc left) after before [] rest size plain =
    let same : left ≡ after = omega (arith, size) in
    rw (append-nil before, same) refl
line_cut (suc left) after before (b ∷ text) rest size plain =
    let parts = and_parts (is_plain_byte b) (is_plain text) plain in
    let low = and_parts (nat_lt b 128) (not ((b == line_feed) || (b == carriage_return))) parts.0 in
    let ends = or_parts (b == line_feed) (b == carriage_return) (not-true _ low.1) in
    let behind = line_cut left after (before ++ b ∷ []) text rest (omega (arith, size)) parts.1 in
    rw (ends.0, ends.1) (behind ∙ ap (λ (whole : List ℕ). line_of whole ∷ lines_from after [] rest)
    (append_assoc before (b ∷ []) text))

-- lines of plain bytes say what each of them says by itself
lines_said : (texts : List (List ℕ)) (left : ℕ) → list_all is_plain texts ≡ true → length (flat_map line texts) ≤ left
    → lines_from left [] (flat_map line texts) ≡ map line_by_bytes texts
lines_said [] zero plain fits = refl
lines_said [] (suc left) plain fits = refl
lines_said (text ∷ texts) left plain fits =
    let parts = and_parts (is_plain text) (list_all is_plain texts) plain in
    let rest : List ℕ = flat_map line texts in
    let size = length-append (line text) rest in
    let size_of_line = length-append text (line_feed ∷ []) in
    let after : ℕ = left - (length text + 1) in
    ap (lines_from left []) (append_assoc text (line_feed ∷ []) rest)
    ∙ line_cut left after [] text rest (omega (arith, fits, size, size_of_line)) parts.0
    ∙ ap (λ (said : Line). said ∷ lines_from after [] rest) (plain_line text parts.0)
    ∙ ap (λ (said : List Line). line_by_bytes text ∷ said)
    (lines_said texts after parts.1 (omega (arith, fits, size, size_of_line)))

-- the document that a body of such lines is
pub document_by : (texts : List String) (tree : Content) → list_all is_plain (map codes texts) ≡ true
    → length (lines texts) ≤ text_limit → tree_built (reads 0 [] (map line_by_bytes (map codes texts))) ≡ Ok tree
    → document_of (lines texts) ≡ Ok tree
unfolding document_of
document_by texts tree plain fits is =
    ap (λ (said : List Line). tree_built (reads 0 [] said)) (lines_said (map codes texts) text_limit plain fits) ∙ is

-- What is stored

module _ (state : State) (place : ℕ) (name body : List ℕ) (tree : Content) where
  pub replied_by : document_of body ≡ Ok tree → store_reply state place name ≡ IsStored (place + 1)
      → reply state place (Single (Put name body)) ≡ IsStored (place + 1)
  replied_by is fits =
      ap (λ (read : Result Content PyxFault). unless_refused read (store_reply state place name)) is ∙ fits

  pub stored_by : document_of body ≡ Ok tree → store_reply state place name ≡ IsStored (place + 1)
      → next state place (Single (Put name body))
      ≡ with_stored (record { name = name; nodes = nodes_of tree 0; bytes = body; version = place + 1 }) state
  stored_by is fits =
      ap (λ (answer : Reply). after_edit state (Put name body) answer) (replied_by is fits)
      ∙ ap (λ (read : Result Content PyxFault).
      with_stored (record { name = name; nodes = nodes_in read; bytes = body; version = place + 1 }) state) is
