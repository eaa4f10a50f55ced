-- The script of the generator is read as its requests: all of them can be printed.
use Rattle.std.specs.Prelude.{◌≡◌, ◌≤◌, ◌<◌, ◌+◌, ◌*◌, ◌%◌, ◌^◌, ◌++◌, ℕ, zero, suc, true, List, [], ◌∷◌, Ok, codes, length, map}
use Rattle.std.specs.Fmt.{decimal}
use Rattle.std.proofs.Common.{refl, arith, length-append}
use Rattle.std.proofs.lemmas.Fmt.{length-decimal-le}
use Rattle.std.proofs.lemmas.Nat.{mod_below}
use Rattle.dita_doc.specs.Bytes.{line_feed}
use Rattle.dita_doc.specs.Lines.{line}
use Rattle.dita_doc.specs.Name.{is_name}
use Rattle.build_plan.proofs.WordLaws.{IsWord, decimal_is_word, word_is_name, words_joined}
use Rattle.doc_gen.specs.Project.{book, builds, edits_by, excluding, numbers_from, project, project_steps, puts, puts_first, puts_topic, topic, topic_id, topic_name, value_drawn}
use Rattle.script_text.specs.Printed.{step_text}
use Rattle.script_text.specs.Script.{Step, script_of}
use Rattle.script_laws.specs.Printable.{CanName, CanPrint, CanStep}
use Rattle.script_laws.proofs.PrintedLaws.{printed_read}
use Rattle.desk_top.proofs.GeneratedLaws.{book_body, excludes, name_plain, topic_is_body}
use Rattle.desk_top.proofs.PrintsLaws.{ArePrinted, IsBodyOf, IsPlain, can_put, is_line_text, none_printed, one_printed, printed_append, written}

-- Names

name_is : (index : ℕ) → index < 10 ^ 9 → is_name (topic_name index) ≡ true
name_is index small =
    let id : IsWord (topic_id index) = words_joined (codes "t") (decimal index) (record { plain = refl; lacks = refl })
    (decimal_is_word index (omega (arith, small))) in
    let word : IsWord (topic_name index) = words_joined (topic_id index) (codes ".dita") id
    (record { plain = refl; lacks = refl }) in
    word_is_name (topic_name index) word (omega (arith, length-append (topic_id index) (codes ".dita")))
    (omega (arith, (name_plain index small).few))

can_name : (name : List ℕ) → is_name name ≡ true → IsPlain 20 name → CanName name
can_name name named is = record { named = named; utf8 = (is_line_text 20 name is).utf8 }

-- Requests

-- a put can be printed, in 30 bytes more than its body has
can_step : (session n : ℕ) (name body : List ℕ) → 1 ≤ session → session ≤ 3 → is_name name ≡ true → IsPlain 20 name
    → IsBodyOf n body → CanStep (puts session name body)
can_step session n name body first last named plain is = record {
  first = first;
  last = omega (arith, last);
  asks = (can_name name named plain, can_put n body is);
}

put_short : (session n : ℕ) (name body : List ℕ) → session ≤ 3 → IsPlain 20 name → IsBodyOf n body
    → length (step_text (puts session name body)) ≤ n + 30
put_short session n name body last plain is =
    let words : List ℕ = decimal session ++ codes " " ++ (codes "put " ++ name) in
    omega (
      arith,
      length-append (line words) (body ++ line (codes ".")),
      length-append body (line (codes ".")),
      length-append words (line_feed ∷ []),
      length-append (decimal session ++ codes " ") (codes "put " ++ name),
      length-append (decimal session) (codes " "),
      length-append (codes "put ") name,
      length-decimal-le 1 session (omega arith) (omega (arith, last)) (omega (arith, last)),
      plain.few,
      is.few,
    )

build_can : (session : ℕ) → 1 ≤ session → session ≤ 3 → CanStep (builds session)
build_can session first last = record {
  first = first;
  last = omega (arith, last);
  asks = (
    can_name (codes "book.ditamap") refl (written 20 (codes "book.ditamap") refl refl),
    can_name (codes "val.ditaval") refl (written 20 (codes "val.ditaval") refl refl),
  );
}

build_short : (session : ℕ) → session ≤ 3 → length (step_text (builds session)) ≤ 40
build_short session last =
    let request : List ℕ = codes "build book.ditamap val.ditaval" in
    let words : List ℕ = decimal session ++ codes " " ++ request in
    omega (
      arith,
      length-append (line words) [],
      length-append words (line_feed ∷ []),
      length-append (decimal session ++ codes " ") request,
      length-append (decimal session) (codes " "),
      length-decimal-le 1 session (omega arith) (omega (arith, last)) (omega (arith, last)),
    )

-- The steps

put_printed : (session n many most : ℕ) (name body : List ℕ) (steps : List Step) → 1 ≤ session → session ≤ 3
    → is_name name ≡ true → IsPlain 20 name → IsBodyOf n body → ArePrinted many most steps
    → ArePrinted (many + 1) (n + 30 + most) (puts session name body ∷ steps)
put_printed session n many most name body steps first last named plain is are =
    one_printed many most (n + 30) (puts session name body) steps
    (can_step session n name body first last named plain is) (put_short session n name body last plain is) are

topic_printed : (number topics session index text many most : ℕ) (steps : List Step) → 1 ≤ topics → topics ≤ 4000
    → 1 ≤ session → session ≤ 3 → index < 10 ^ 9 → text < 10 ^ 9 → ArePrinted many most steps
    → ArePrinted (many + 1) (1430 + most) (puts_topic number topics session index text ∷ steps)
topic_printed number topics session index text many most steps some few first last low small are =
    let short : IsPlain 20 (topic_name index) = record {
      plain = (name_plain index low).plain;
      few = omega (arith, (name_plain index low).few);
    } in
    put_printed session 1400 many most (topic_name index) (topic topics index (value_drawn number index) text) steps
    first last (name_is index low) short
    (topic_is_body topics index (value_drawn number index) text some few low small) are

build_printed : (session many most : ℕ) (steps : List Step) → 1 ≤ session → session ≤ 3 → ArePrinted many most steps
    → ArePrinted (many + 1) (40 + most) (builds session ∷ steps)
build_printed session many most steps first last are =
    one_printed many most 40 (builds session) steps (build_can session first last) (build_short session last) are

edits_printed : (number topics session draw : ℕ) → 1 ≤ topics → topics ≤ 4000 → 1 ≤ session → session ≤ 3
    → ArePrinted 2 1470 (edits_by number topics session draw)
edits_printed number topics session draw some few first last =
    topic_printed number topics session (1 + value_drawn number draw % topics) (value_drawn number (draw + 1) % 1000) 1
    40 (builds session ∷ []) some few first last
    (omega (arith, mod_below (value_drawn number draw) topics some, few))
    (omega (arith, mod_below (value_drawn number (draw + 1)) 1000 (omega arith)))
    (build_printed session 0 0 [] first last none_printed)

topics_printed : (number topics first count : ℕ) → 1 ≤ topics → topics ≤ 4000 → first + count ≤ 1 + topics
    → ArePrinted count (count * 1430) (map (puts_first number topics) (numbers_from first count))
topics_printed number topics first zero some few within = none_printed
topics_printed number topics first (suc count) some few within =
    let rest = topics_printed number topics (first + 1) count some few (omega (arith, within)) in
    let all = topic_printed number topics 1 first (value_drawn number first % 1000) count (count * 1430)
    (map (puts_first number topics) (numbers_from (first + 1) count)) some few (omega arith) (omega arith)
    (omega (arith, within, few)) (omega (arith, mod_below (value_drawn number first) 1000 (omega arith))) rest in
    record { each = all.each; count = omega (arith, all.count); few = omega (arith, all.few) }

ground_printed : (number topics : ℕ) → 1 ≤ topics → topics ≤ 4000 → ArePrinted (topics + 4) (3500 + topics * 1830)
    (puts 1 (codes "val.ditaval") (excluding (codes "audience") (codes "internal"))
    ∷ puts 1 (codes "win.ditaval") (excluding (codes "platform") (codes "lin"))
    ∷ puts 1 (codes "lin.ditaval") (excluding (codes "platform") (codes "win"))
    ∷ puts 1 (codes "book.ditamap") (book topics)
    ∷ map (puts_first number topics) (numbers_from 1 topics))
ground_printed number topics some few =
    let one = topics_printed number topics 1 topics some few (omega arith) in
    let two = put_printed 1 (3000 + topics * 400) topics (topics * 1430) (codes "book.ditamap") (book topics) _
    (omega arith) (omega arith) refl (written 20 (codes "book.ditamap") refl refl) (book_body topics few) one in
    let three = put_printed 1 90 (topics + 1) _ (codes "lin.ditaval") (excluding (codes "platform") (codes "win")) _
    (omega arith) (omega arith) refl (written 20 (codes "lin.ditaval") refl refl)
    (excludes (codes "platform") (codes "win") (written 20 (codes "platform") refl refl)
    (written 20 (codes "win") refl refl)) two in
    let four = put_printed 1 90 (topics + 1 + 1) _ (codes "win.ditaval") (excluding (codes "platform") (codes "lin")) _
    (omega arith) (omega arith) refl (written 20 (codes "win.ditaval") refl refl)
    (excludes (codes "platform") (codes "lin") (written 20 (codes "platform") refl refl)
    (written 20 (codes "lin") refl refl)) three in
    let all = put_printed 1 90 (topics + 1 + 1 + 1) _ (codes "val.ditaval")
    (excluding (codes "audience") (codes "internal")) _ (omega arith) (omega arith) refl
    (written 20 (codes "val.ditaval") refl refl) (excludes (codes "audience") (codes "internal")
    (written 20 (codes "audience") refl refl) (written 20 (codes "internal") refl refl)) four in
    record { each = all.each; count = omega (arith, all.count); few = omega (arith, all.few) }

-- The law

steps_printed : (number topics : ℕ) → 1 ≤ topics → topics ≤ 4000 → CanPrint (project_steps number topics)
steps_printed number topics some few =
    let ground = ground_printed number topics some few in
    let second = edits_printed number topics 2 (topics + 1) some few (omega arith) (omega arith) in
    let third = edits_printed number topics 3 (topics + 3) some few (omega arith) (omega arith) in
    let built = build_printed 1 2 1470 (edits_by number topics 2 (topics + 1)) (omega arith) (omega arith) second in
    let front = printed_append (topics + 4) 3 (3500 + topics * 1830) 1510 _ _ ground built in
    let all = printed_append (topics + 4 + 3) 2 (3500 + topics * 1830 + 1510) 1470 _ _ front third in
    record { each = all.each; few = omega (arith, all.count, few); short = omega (arith, all.few, few) }

-- the script of the generator is read as its requests
pub project_read : (number topics : ℕ) → 1 ≤ topics → topics ≤ 4000
    → script_of (project number topics) ≡ Ok (project_steps number topics)
unfolding project
project_read number topics some few =
    printed_read (project_steps number topics) (steps_printed number topics some few)
