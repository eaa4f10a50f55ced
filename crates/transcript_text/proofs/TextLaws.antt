-- The words of the lines below an entry.
use Rattle.std.specs.Prelude.{◌≡◌, ◌⊎◌, ◌<◌, ◌^◌, ℕ, Bool, true, false, List, [], ◌∷◌, ◌++◌, None, codes, MatchBool}
use Rattle.std.specs.Fmt.{decimal}
use Rattle.std.proofs.Common.{refl, sym, ap, ◌∙◌, inl, inr, arith}
use Rattle.transcript_text.specs.Transcript.{IsNameShown, name_line, PageMark, InOutlet, InRow, IsMark, mark_words, PageShown, page_line}
use Rattle.dita_doc.specs.Bytes.{spaced_parts}
use Rattle.transcript_text.specs.Below.{IsLastNumber, IsNameText, IsPageText, is_refusal, below_some}
use Rattle.dita_doc.proofs.LackLaws.{lacks_decimal, lacks_name}
use Rattle.transcript_text.proofs.WordLaws.{words_behind, words_some, one_word, words_same}

pub decimal_word : (n : ℕ) → n < 2 ^ 64 → spaced_parts (decimal n) ≡ decimal n ∷ []
decimal_word n small = one_word (decimal n) (lacks_decimal 32 n (λ range. omega (arith, range.0)) small)

pub name_word : (name rest : List ℕ) → IsNameShown name
    → spaced_parts (name ++ 32 ∷ [] ++ rest) ≡ name ∷ spaced_parts rest
name_word name rest is = words_behind name rest (lacks_name 32 name (omega arith) is.named)

-- a name with its version

pub record HasNameWords (text : List ℕ) : Type 0 where
  pub name : List ℕ
  pub rest : List (List ℕ)
  pub named : IsNameShown name
  pub words : spaced_parts text ≡ name ∷ rest
  pub last : IsLastNumber rest

pub name_words : (name : List ℕ) (n : ℕ) → IsNameShown name → n < 2 ^ 64
    → spaced_parts (name_line (name, n)) ≡ name ∷ decimal n ∷ []
name_words name n is small = name_word name (decimal n) is ∙ ap (λ words. name ∷ words) (decimal_word n small)

pub name_text_words : (text : List ℕ) → IsNameText text → HasNameWords text
name_text_words text is =
    let named = is.0 in
    let valid = is.1 in
    record {
      name = named.0;
      rest = decimal named.1 ∷ [];
      named = valid.name;
      words = ap spaced_parts is.2 ∙ name_words named.0 named.1 valid.name valid.version;
      last = (named.1, valid.version, refl);
    }

pub name_text_from : (text name : List ℕ) (rest : List (List ℕ)) → IsNameShown name → spaced_parts text ≡ name ∷ rest
    → IsLastNumber rest → IsNameText text
name_text_from text name rest named words last =
    let n = last.0 in
    let small = last.1 in (
      (name, n),
      record { name = named; version = small },
      words_same text (name_line (name, n))
          (words ∙ ap (λ more. name ∷ more) last.2 ∙ sym (name_words name n named small)),
    )

pub name_text_by : (text name : List ℕ) (rest : List (List ℕ)) (test : Bool) → IsNameShown name
    → spaced_parts text ≡ name ∷ rest → MatchBool test (IsLastNumber rest) (IsLastNumber rest → ⊥)
    → MatchBool test (IsNameText text) (IsNameText text → ⊥)
name_text_by text name rest true named words last = name_text_from text name rest named words last
name_text_by text name rest false named words none = λ is.
    let told = name_text_words text is in
    let same : told.rest ≡ rest = cc in
    none (rw (← same) told.last)

-- a page

pub record HasPageWords (text : List ℕ) : Type 0 where
  pub name : List ℕ
  pub mark : List ℕ
  pub rest : List (List ℕ)
  pub named : IsNameShown name
  pub words : spaced_parts text ≡ codes "page" ∷ name ∷ mark ∷ rest
  pub kind : (mark ≡ codes "bytes") ⊎ (mark ≡ codes "row")
  pub last : IsLastNumber rest

pub page_words : (name : List ℕ) (mark : PageMark) → IsNameShown name
    → spaced_parts (page_line (record { name = name; mark = mark })) ≡ codes "page" ∷ name ∷ spaced_parts
    (mark_words mark)
page_words name mark is = ap (λ words. codes "page" ∷ words) (name_word name (mark_words mark) is)

page_text_of : (text name : List ℕ) (mark : PageMark) → IsNameShown name → IsMark mark
    → text ≡ page_line (record { name = name; mark = mark }) → HasPageWords text
page_text_of text name (InOutlet n) named small is = record {
  name = name;
  mark = codes "bytes";
  rest = decimal n ∷ [];
  named = named;
  words = ap spaced_parts is ∙ page_words name (InOutlet n) named
      ∙ ap (λ words. codes "page" ∷ name ∷ codes "bytes" ∷ words) (decimal_word n small);
  kind = inl refl;
  last = (n, small, refl);
}
page_text_of text name (InRow n) named small is = record {
  name = name;
  mark = codes "row";
  rest = decimal n ∷ [];
  named = named;
  words = ap spaced_parts is ∙ page_words name (InRow n) named
      ∙ ap (λ words. codes "page" ∷ name ∷ codes "row" ∷ words) (decimal_word n small);
  kind = inr refl;
  last = (n, small, refl);
}

pub page_text_words : (text : List ℕ) → IsPageText text → HasPageWords text
page_text_words text is = page_text_of text is.0.name is.0.mark is.1.name is.1.mark is.2

pub page_text_from : (text name mark : List ℕ) (rest : List (List ℕ)) → IsNameShown name
    → spaced_parts text ≡ codes "page" ∷ name ∷ mark ∷ rest
    → (mark ≡ codes "bytes") ⊎ (mark ≡ codes "row") → IsLastNumber rest → IsPageText text
page_text_from text name mark rest named words (inl kind) last =
    let n = last.0 in
    let small = last.1 in
    let page : PageShown = record { name = name; mark = InOutlet n } in (
      page,
      record { name = named; mark = small },
      words_same text (page_line page)
          (words ∙ ap (λ m. codes "page" ∷ name ∷ m ∷ rest) kind
          ∙ ap (λ more. codes "page" ∷ name ∷ codes "bytes" ∷ more) (last.2 ∙ sym (decimal_word n small))
          ∙ sym (page_words name (InOutlet n) named)),
    )
page_text_from text name mark rest named words (inr kind) last =
    let n = last.0 in
    let small = last.1 in
    let page : PageShown = record { name = name; mark = InRow n } in (
      page,
      record { name = named; mark = small },
      words_same text (page_line page)
          (words ∙ ap (λ m. codes "page" ∷ name ∷ m ∷ rest) kind
          ∙ ap (λ more. codes "page" ∷ name ∷ codes "row" ∷ more) (last.2 ∙ sym (decimal_word n small))
          ∙ sym (page_words name (InRow n) named)),
    )

pub page_text_by : (text name mark : List ℕ) (rest : List (List ℕ)) (test : Bool) → IsNameShown name
    → spaced_parts text ≡ codes "page" ∷ name ∷ mark ∷ rest
    → (mark ≡ codes "bytes") ⊎ (mark ≡ codes "row") → MatchBool test (IsLastNumber rest) (IsLastNumber rest → ⊥)
    → MatchBool test (IsPageText text) (IsPageText text → ⊥)
page_text_by text name mark rest true named words kind last = page_text_from text name mark rest named words kind last
page_text_by text name mark rest false named words kind none = λ is.
    let told = page_text_words text is in
    let same : told.rest ≡ rest = cc in
    none (rw (← same) told.last)

-- a refusal has three words at most
fourth_word : (a b c : List ℕ) (words : List (List ℕ)) → (words ≡ [] → ⊥) → false ≡ is_refusal (a ∷ b ∷ c ∷ words)
fourth_word a b c [] some = absurd (some refl)
fourth_word a b c (word ∷ words) some = refl

pub refusal_many : (reply first a second b third c : List ℕ) → spaced_parts reply ≡ first ∷ spaced_parts a
    → spaced_parts a ≡ second ∷ spaced_parts b → spaced_parts b ≡ third ∷ spaced_parts c
    → false ≡ is_refusal (spaced_parts reply)
refusal_many reply first a second b third c one two three =
    rw (one, two, three) (fourth_word first second third (spaced_parts c) (words_some c))

-- and so has another reply, but for a group that was stopped
fourth_behind : (a b c : List ℕ) (words : List (List ℕ)) → (words ≡ [] → ⊥) → None ≡ below_some a b (c ∷ words)
fourth_behind a b c [] some = absurd (some refl)
fourth_behind a b c (word ∷ words) some = refl

pub reply_many : (first second b third c : List ℕ) → spaced_parts b ≡ third ∷ spaced_parts c
    → None ≡ below_some first second (spaced_parts b)
reply_many first second b third c three =
    rw three (fourth_behind first second third (spaced_parts c) (words_some c))
