-- The pieces of a value, one closing parenthesis after another.
use Rattle.std.specs.Prelude.{◌≡◌, ◌==◌, ◌<◌, ℕ, Bool, true, false, List, [], ◌∷◌, ◌++◌, Option, None, Some, bytes_eq, codes, filter, is_some, length, MatchOption, if◌then◌else◌}
use Rattle.std.specs.List.{All, filter_map, list_any, last_or}
use Rattle.std.specs.Borrow.{Bor}
use Rattle.std.specs.Str.{IsUtf8}
use Rattle.std.specs.Option.{option_and_then, option_to_list}
use Rattle.std.proofs.Common.{refl, sym, ◌∙◌, ap, subst, append_assoc, arith, length-append}
use Rattle.std.proofs.lemmas.Bool.{true≢false, false≢true}
use Rattle.std.proofs.lemmas.Bool.Decides.{nat_tests}
use Rattle.std.proofs.lemmas.List.Elements.{All-head, All-tail, filter_map-append}
use Rattle.dita_doc.specs.Bytes.{close_parenthesis, has_bytes, onto_first, parts_by}
use Rattle.dita_doc.specs.ClassValue.{words_of, IsFirstWord}
use Rattle.dita_doc.specs.Cut.{Lacks, IsCutAt}
use Rattle.dita_doc.specs.PlainText.{is_blank_byte}
use Rattle.dita_doc.proofs.Tests.{or_first, or_second}
use Rattle.dita_doc.proofs.Utf8Laws.{utf8_cut_at, utf8_words}
use Rattle.ditaval_rules.specs.Domains.{closed, opened, piece_at, pieces_from, name_among, name_in}
use Rattle.ditaval_rules.specs.Names.{ends_of, is_declaration, last_word, with_last, with_name}
use Rattle.ditaval_rules.proofs.NameLaws.{with_all, with_both, with_twice}

-- Where a piece ends

-- without a closing parenthesis there is none
pub not_closed : (text : List ℕ) → Lacks close_parenthesis text → closed text ≡ None
not_closed [] lacks = refl
not_closed (b ∷ text) lacks =
    rw (
      or_first (b == close_parenthesis) _ lacks,
      not_closed text (or_second (b == close_parenthesis) _ lacks),
    ) refl

pub closed_at : (text more : List ℕ) → Lacks close_parenthesis text
    → closed (text ++ close_parenthesis ∷ more) ≡ Some text
closed_at [] more lacks = refl
closed_at (b ∷ text) more lacks =
    rw (
      or_first (b == close_parenthesis) _ lacks,
      closed_at text more (or_second (b == close_parenthesis) _ lacks),
    ) refl

-- What begins in a text

lacks_behind : (a : ℕ) (text : List ℕ) → Lacks close_parenthesis (a ∷ text) → Lacks close_parenthesis text
lacks_behind a text lacks = or_second (a == close_parenthesis) _ lacks

opened_none : (a b : ℕ) (rest : List ℕ) → Lacks close_parenthesis rest
    → option_and_then closed (opened (a ∷ b ∷ rest)) ≡ None
opened_none a b rest lacks = by_cases (bytes_eq (a ∷ b ∷ []) (codes "a(")) refl
  where
    by_cases : (is : Bool) → bytes_eq (a ∷ b ∷ []) (codes "a(") ≡ is
        → option_and_then closed (opened (a ∷ b ∷ rest)) ≡ None
    by_cases true e = rw e (not_closed rest lacks)
    by_cases false e = rw e refl

none_at : (may : Bool) (text : List ℕ) → Lacks close_parenthesis text → piece_at may text ≡ []
none_at false text lacks = refl
none_at true [] lacks = refl
none_at true (a ∷ []) lacks = refl
none_at true (a ∷ b ∷ rest) lacks =
    ap option_to_list (opened_none a b rest (lacks_behind b rest (lacks_behind a (b ∷ rest) lacks)))

-- a text without an end has no pieces
pub no_pieces : (may : Bool) (text : List ℕ) → Lacks close_parenthesis text → pieces_from may text ≡ []
no_pieces may [] lacks = refl
no_pieces may (b ∷ text) lacks =
    rw (none_at may (b ∷ text) lacks, no_pieces (is_blank_byte b) text (lacks_behind b text lacks)) refl

opened_closed : (a b : ℕ) (rest more : List ℕ) → Lacks close_parenthesis rest
    → option_and_then closed (opened (a ∷ b ∷ rest ++ close_parenthesis ∷ more)) ≡ opened (a ∷ b ∷ rest)
opened_closed a b rest more lacks = by_cases (bytes_eq (a ∷ b ∷ []) (codes "a(")) refl
  where
    by_cases : (is : Bool) → bytes_eq (a ∷ b ∷ []) (codes "a(") ≡ is
        → option_and_then closed (opened (a ∷ b ∷ rest ++ close_parenthesis ∷ more)) ≡ opened (a ∷ b ∷ rest)
    by_cases true e = rw e (closed_at rest more lacks)
    by_cases false e = rw e refl

-- `a(` does not end with a closing parenthesis
not_open : (a : ℕ) → bytes_eq (a ∷ close_parenthesis ∷ []) (codes "a(") ≡ false
not_open a = by_cases (a == 97) refl
  where
    by_cases : (is : Bool) → (a == 97) ≡ is → bytes_eq (a ∷ close_parenthesis ∷ []) (codes "a(") ≡ false
    by_cases true e = rw e refl
    by_cases false e = rw e refl

at_piece : (may : Bool) (a : ℕ) (text more : List ℕ) → Lacks close_parenthesis (a ∷ text)
    → piece_at may (a ∷ text ++ close_parenthesis ∷ more) ≡ (if may then option_to_list (opened (a ∷ text)) else [])
at_piece false a text more lacks = refl
at_piece true a [] more lacks = rw (not_open a) refl
at_piece true a (b ∷ text) more lacks =
    ap option_to_list (opened_closed a b text more (lacks_behind b text (lacks_behind a (b ∷ text) lacks)))

paren_none : (may : Bool) (more : List ℕ) → piece_at may (close_parenthesis ∷ more) ≡ []
paren_none false more = refl
paren_none true [] = refl
paren_none true (b ∷ more) = refl

-- the pieces up to an end, and those behind it
pub pieces_cut : (may : Bool) (text more : List ℕ) → Lacks close_parenthesis text
    → pieces_from may (text ++ close_parenthesis ∷ more) ≡ ends_of may text ++ pieces_from false more
pieces_cut may [] more lacks = ap (λ l. l ++ pieces_from false more) (paren_none may more)
pieces_cut may (a ∷ text) more lacks =
    ap (λ l. l ++ pieces_from (is_blank_byte a) (text ++ close_parenthesis ∷ more)) (at_piece may a text more lacks)
    ∙ ap (λ l. (if may then option_to_list (opened (a ∷ text)) else []) ++ l)
    (pieces_cut (is_blank_byte a) text more (lacks_behind a text lacks))
    ∙ sym (append_assoc (if may then option_to_list (opened (a ∷ text)) else []) _ _)

-- The last word

abbrev pub has_two : List (List ℕ) → Bool
has_two [] = false
has_two (first ∷ []) = false
has_two (first ∷ second ∷ more) = true

-- a text with the same last word, and with more than one
pub record EndsAlike (longer text : List ℕ) : Type 0 where
  pub two : has_two (words_of longer) ≡ true
  pub last : last_or None (words_of longer) ≡ last_or None (words_of text)

abbrev words_in : List (List ℕ) → List (List ℕ)
words_in parts = filter has_bytes parts

filled : (b : ℕ) (part : List ℕ) → has_bytes (b ∷ part) ≡ true
filled b part = grind (arith, nat_tests)

grow_first : (b : ℕ) (parts : List (List ℕ)) → has_two (words_in parts) ≡ true
    → (has_two (words_in (onto_first b parts)) ≡ true)
    × (last_or None (words_in (onto_first b parts)) ≡ last_or None (words_in parts))
grow_first b [] two = absurd (false≢true two)
grow_first b ([] ∷ parts) two = by_words (words_in parts) refl
  where
    by_words : (words : List (List ℕ)) → words_in parts ≡ words
        → (has_two (words_in (onto_first b ([] ∷ parts))) ≡ true)
        × (last_or None (words_in (onto_first b ([] ∷ parts))) ≡ last_or None (words_in ([] ∷ parts)))
    by_words [] e = absurd (false≢true (rw e at two))
    by_words (word ∷ words) e = (rw e refl, rw e refl)
grow_first b ((c ∷ first) ∷ parts) two = by_words (words_in parts) refl
  where
    by_words : (words : List (List ℕ)) → words_in parts ≡ words
        → (has_two (words_in (onto_first b ((c ∷ first) ∷ parts))) ≡ true)
        × (last_or None (words_in (onto_first b ((c ∷ first) ∷ parts))) ≡ last_or None (words_in ((c ∷ first) ∷ parts)))
    by_words [] e = absurd (false≢true (rw (filled c first, e) at two))
    by_words (word ∷ words) e = (rw (filled b (c ∷ first), e) refl, rw (filled b (c ∷ first), filled c first, e) refl)

grow : (b : ℕ) (text : List ℕ) → has_two (words_of text) ≡ true → EndsAlike (b ∷ text) text
grow b text two = by_cases (is_blank_byte b) refl
  where
    by_cases : (blank : Bool) → is_blank_byte b ≡ blank → EndsAlike (b ∷ text) text
    by_cases true e = record { two = rw e two; last = rw e refl }
    by_cases false e =
        let grown = grow_first b (parts_by is_blank_byte text) two in
        record { two = rw e grown.0; last = rw e grown.1 }

grow_on : (b : ℕ) (longer text : List ℕ) → EndsAlike longer text → EndsAlike (b ∷ longer) text
grow_on b longer text alike =
    let more = grow b longer alike.two in
    record { two = more.two; last = more.last ∙ alike.last }

-- what a piece declares is its last word, and there is one before it
pub declared_two : (words : List (List ℕ)) (name : List ℕ) → name_among words ≡ Some name
    → (has_two words ≡ true) × (last_or None words ≡ Some name)
declared_two [] name e = absurd (cc)
declared_two (first ∷ []) name e = by_cases (bytes_eq first (codes "props")) refl
  where
    by_cases : (is : Bool) → bytes_eq first (codes "props") ≡ is
        → (has_two (first ∷ []) ≡ true) × (last_or None (first ∷ []) ≡ Some name)
    by_cases true f = let none : None ≡ Some name = rw f at e in absurd (cc)
    by_cases false f = let none : None ≡ Some name = rw f at e in absurd (cc)
declared_two (first ∷ second ∷ more) name e = by_cases (bytes_eq first (codes "props")) refl
  where
    by_cases : (is : Bool) → bytes_eq first (codes "props") ≡ is
        → (has_two (first ∷ second ∷ more) ≡ true) × (last_or None (first ∷ second ∷ more) ≡ Some name)
    by_cases true f = let last : last_or (Some second) more ≡ Some name = rw f at e in (refl, last)
    by_cases false f = let none : None ≡ Some name = rw f at e in absurd (cc)

last_some : (word : List ℕ) (words : List (List ℕ)) → is_some (last_or (Some word) words) ≡ true
last_some word [] = refl
last_some word (next ∷ words) = last_some next words

-- a piece whose first word is `props` declares a name if there is a second word
pub second_declares : (piece first rest : List ℕ) (found : Option (Bor (List ℕ) × Bor (List ℕ)))
    → words_of piece ≡ first ∷ words_of rest → bytes_eq first (codes "props") ≡ true
    → MatchOption found (words_of rest ≡ []) (λ parts. IsFirstWord rest parts.0.now parts.1.now)
    → is_some found ≡ is_declaration piece
second_declares piece first rest None words props told = rw (words, props, told) refl
second_declares piece first rest (Some parts) words props told =
    rw (words, props, told.words) (sym (last_some parts.0.now (words_of parts.1.now)))

-- one of another first word does not
pub other_declares : (piece first : List ℕ) (words : List (List ℕ))
    → words_of piece ≡ first ∷ words → bytes_eq first (codes "props") ≡ false → false ≡ is_declaration piece
other_declares piece first words is other = rw (is, other) refl

-- The last word is UTF-8

utf8_from : (last : Option (List ℕ)) (words : List (List ℕ)) (name : List ℕ)
    → ((own : List ℕ) → last ≡ Some own → IsUtf8 own) → All IsUtf8 words → last_or last words ≡ Some name → IsUtf8 name
utf8_from last [] name had all e = had name e
utf8_from last (word ∷ words) name had all e =
    utf8_from (Some word) words name
    (λ own same. let is : word ≡ own = cc in subst IsUtf8 is (All-head IsUtf8 word words all))
    (All-tail IsUtf8 word words all) e

pub utf8_last : (words : List (List ℕ)) (name : List ℕ) → All IsUtf8 words → last_or None words ≡ Some name → IsUtf8 name
utf8_last words name all e = utf8_from None words name (λ own same. absurd (cc)) all e

-- Each piece that ends with a text declares the last word of the text, or nothing

abbrev pub Declares : List ℕ → List ℕ → Type 0
Declares text piece = (name : List ℕ) → name_in piece ≡ Some name → EndsAlike text piece

abbrev pub EachDeclares : List ℕ → List (List ℕ) → Type 0
EachDeclares text [] = Unit {0}
EachDeclares text (piece ∷ pieces) = Declares text piece × EachDeclares text pieces

each_on : (b : ℕ) (text : List ℕ) (pieces : List (List ℕ)) → EachDeclares text pieces → EachDeclares (b ∷ text) pieces
each_on b text [] each = tt
each_on b text (piece ∷ pieces) each =
    (λ name is. grow_on b text piece (each.0 name is), each_on b text pieces each.1)

each_both : (text : List ℕ) (some more : List (List ℕ)) → EachDeclares text some → EachDeclares text more
    → EachDeclares text (some ++ more)
each_both text [] more one two = two
each_both text (piece ∷ some) more one two = (one.0, each_both text some more one.1 two)

first_declares : (a b : ℕ) (rest : List ℕ) (is : Bool) → bytes_eq (a ∷ b ∷ []) (codes "a(") ≡ is
    → EachDeclares (a ∷ b ∷ rest) (option_to_list (opened (a ∷ b ∷ rest)))
first_declares a b rest false e = rw e tt
first_declares a b rest true e = rw e (
  λ name is.
      let two = (declared_two (words_of rest) name is).0 in
      grow_on a (b ∷ rest) rest (grow b rest two),
  tt,
)

begin_declares : (may : Bool) (a : ℕ) (text : List ℕ)
    → EachDeclares (a ∷ text) (if may then option_to_list (opened (a ∷ text)) else [])
begin_declares false a text = tt
begin_declares true a [] = tt
begin_declares true a (b ∷ rest) = first_declares a b rest (bytes_eq (a ∷ b ∷ []) (codes "a(")) refl

pub each_declares : (may : Bool) (text : List ℕ) → EachDeclares text (ends_of may text)
each_declares may [] = tt
each_declares may (a ∷ text) = each_both (a ∷ text) _ (ends_of (is_blank_byte a) text) (begin_declares may a text)
    (each_on a text (ends_of (is_blank_byte a) text) (each_declares (is_blank_byte a) text))

-- What a text's pieces add to the names

nothing_added : (pieces names : List (List ℕ)) → list_any is_declaration pieces ≡ false
    → with_all names (filter_map name_in pieces) ≡ names
nothing_added [] names none = refl
nothing_added (piece ∷ pieces) names none = by_name (name_in piece) refl
    (nothing_added pieces names (or_second (is_declaration piece) _ none))
  where
    by_name : (found : Option (List ℕ)) → name_in piece ≡ found → with_all names (filter_map name_in pieces) ≡ names
        → with_all names (filter_map name_in (piece ∷ pieces)) ≡ names
    by_name None e more = rw e more
    by_name (Some name) e more =
        let one : is_declaration piece ≡ true = ap is_some e in
        absurd (true≢false (sym one ∙ or_first (is_declaration piece) _ none))

-- what a piece declares is the last word of the text that it ends with
is_last : (text piece name : List ℕ) → Declares text piece → name_in piece ≡ Some name → last_word text ≡ Some name
is_last text piece name declares is = (declares name is).last ∙ (declared_two (words_of piece) name is).1

same_added : (text name : List ℕ) (pieces names : List (List ℕ)) → last_word text ≡ Some name
    → EachDeclares text pieces → with_all (with_name names name) (filter_map name_in pieces) ≡ with_name names name
same_added text name [] names last each = refl
same_added text name (piece ∷ pieces) names last each =
    by_name (name_in piece) refl (same_added text name pieces names last each.1)
  where
    by_name : (found : Option (List ℕ)) → name_in piece ≡ found
        → with_all (with_name names name) (filter_map name_in pieces) ≡ with_name names name
        → with_all (with_name names name) (filter_map name_in (piece ∷ pieces)) ≡ with_name names name
    by_name None e more = rw e more
    by_name (Some own) e more =
        let last_own : Some own ≡ Some name = sym (is_last text piece own each.0 e) ∙ last in
        let same : own ≡ name = cc in
        rw (e, same, with_twice names name) more

one_added : (text : List ℕ) (pieces names : List (List ℕ)) → EachDeclares text pieces
    → list_any is_declaration pieces ≡ true
    → with_all names (filter_map name_in pieces) ≡ with_last names (last_word text)
one_added text [] names each some = absurd (false≢true some)
one_added text (piece ∷ pieces) names each some = by_name (name_in piece) refl (one_added text pieces names each.1)
  where
    by_name : (found : Option (List ℕ)) → name_in piece ≡ found
        → (list_any is_declaration pieces ≡ true
        → with_all names (filter_map name_in pieces) ≡ with_last names (last_word text))
        → with_all names (filter_map name_in (piece ∷ pieces)) ≡ with_last names (last_word text)
    by_name None e more =
        let none : is_declaration piece ≡ false = ap is_some e in
        let behind : list_any is_declaration pieces ≡ true = rw none at some in
        rw e (more behind)
    by_name (Some name) e more =
        let last = is_last text piece name each.0 e in
        rw (e, last) (same_added text name pieces names last each.1)

-- One end after another

module _ (may : Bool) (rest text more : List ℕ) (names : List (List ℕ))
    (cut : IsCutAt close_parenthesis rest text more) where
  parted : with_all names (filter_map name_in (pieces_from may rest))
      ≡ with_all (with_all names (filter_map name_in (ends_of may text))) (filter_map name_in (pieces_from false more))
  parted =
      ap (λ l. with_all names (filter_map name_in (pieces_from may l))) cut.whole
      ∙ ap (λ l. with_all names (filter_map name_in l)) (pieces_cut may text more cut.first)
      ∙ ap (with_all names) (filter_map-append name_in (ends_of may text) (pieces_from false more))
      ∙ with_both names (filter_map name_in (ends_of may text)) (filter_map name_in (pieces_from false more))

  pub end_declares : list_any is_declaration (ends_of may text) ≡ true
      → with_all names (filter_map name_in (pieces_from may rest))
      ≡ with_all (with_last names (last_word text)) (filter_map name_in (pieces_from false more))
  end_declares some =
      parted ∙ ap (λ l. with_all l (filter_map name_in (pieces_from false more)))
      (one_added text (ends_of may text) names (each_declares may text) some)

  pub end_passed : list_any is_declaration (ends_of may text) ≡ false
      → with_all names (filter_map name_in (pieces_from may rest))
      ≡ with_all names (filter_map name_in (pieces_from false more))
  end_passed none =
      parted ∙ ap (λ l. with_all l (filter_map name_in (pieces_from false more)))
      (nothing_added (ends_of may text) names none)

  pub shorter : length more < length rest
  shorter = rw cut.whole (omega (arith, length-append text (close_parenthesis ∷ more)))

  module _ (utf8 : IsUtf8 rest) where
    pub utf8_words_before : All IsUtf8 (words_of text)
    utf8_words_before =
        utf8_words text (utf8_cut_at close_parenthesis rest text more (omega arith) cut.whole utf8).0

    pub utf8_behind : IsUtf8 more
    utf8_behind = (utf8_cut_at close_parenthesis rest text more (omega arith) cut.whole utf8).1
