-- Loops over the numbers from the first on, and the numbers that follow one another.
use Rattle.std.specs.Prelude.{◌≡◌, ◌+◌, ◌-◌, ◌*◌, ◌/◌, ◌%◌, ◌^◌, ◌<◌, ◌≤◌, ℕ, zero, suc, List, [], ◌∷◌, ◌++◌, Result, Ok, Err, OnOk, codes, is_ok, if◌then◌else◌}
use Rattle.std.proofs.Common.{refl, sym, ap, ◌∙◌, arith, append_assoc, append-nil}
use Rattle.std.proofs.lemmas.Grind.{common_steps}
use Rattle.std.specs.Fmt.{decimal}
use Rattle.std.specs.List.{flat_map}
use Rattle.script_text.specs.Printed.{step_text}
use Rattle.script_text.specs.Script.{Step}
use Rattle.doc_gen.specs.Project.{builds, drawn, edits_by, numbers_from, put_text, puts_first, puts_topic, topic, topic_name, value_drawn}

-- draws

drawn_next : (number k : ℕ)
    → drawn number (k + 1) ≡ (drawn number k * 6364136223846793005 + 1442695040888963407) % 2 ^ 64
drawn_next number k = let e : k + 1 ≡ suc k = omega arith in rw e refl

pub drawn_more : (number k draw next : ℕ) → draw ≡ drawn number k
    → next ≡ (draw * 6364136223846793005 + 1442695040888963407) % 2 ^ 64 → next ≡ drawn number (k + 1)
drawn_more number k draw next is step =
    step ∙ ap (λ (d : ℕ). (d * 6364136223846793005 + 1442695040888963407) % 2 ^ 64) is ∙ sym (drawn_next number k)

pub put_drawn : (number topics index draw value : ℕ) → draw ≡ drawn number index → value ≡ draw / 2 ^ 33
    → put_text 1 (topic_name index) (topic topics index value (value % 1000))
    ≡ step_text (puts_first number topics index)
unfolding put_text
put_drawn number topics index draw value is valued = rw (valued, is) refl

-- two requests, one behind the other
edits_joined : (a b : Step) (out new last : List ℕ) → new ≡ out ++ step_text a → last ≡ new ++ step_text b
    → last ≡ out ++ flat_map step_text (a ∷ b ∷ [])
edits_joined a b out new last first second =
    second ∙ ap (λ (l : List ℕ). l ++ step_text b) first ∙ append_assoc out (step_text a) (step_text b)
    ∙ ap (λ (l : List ℕ). out ++ (step_text a ++ l)) (sym (append-nil (step_text b)))

-- a line in pieces
line_joined : (front gap back end old middle : List ℕ) → middle ≡ old ++ front
    → middle ++ (gap ++ (back ++ end)) ≡ old ++ ((((front ++ gap) ++ back) ++ end) ++ [])
line_joined front gap back end old middle first = grind (arith, common_steps)

-- a session's edit and its build, by the draws that choose them
module _ (number topics session draw chosen choice index following text_value own value : ℕ)
    (is_chosen : chosen ≡ drawn number draw) (is_choice : choice ≡ chosen / 2 ^ 33) (is_index : index ≡ 1 + choice % topics)
    (is_following : following ≡ (chosen * 6364136223846793005 + 1442695040888963407) % 2 ^ 64)
    (is_text : text_value ≡ following / 2 ^ 33) (is_own : own ≡ drawn number index) (is_value : value ≡ own / 2 ^ 33) where
  abbrev edit_put : List ℕ
  edit_put = put_text session (topic_name index) (topic topics index value (text_value % 1000))

  edit_same : edit_put ≡ step_text (puts_topic number topics session (1 + value_drawn number draw % topics)
      (value_drawn number (draw + 1) % 1000))
  unfolding put_text
  edit_same =
      let same_value : value ≡ value_drawn number index = is_value ∙ ap (λ (d : ℕ). d / 2 ^ 33) is_own in
      let same_text : text_value ≡ value_drawn number (draw + 1) =
      is_text ∙ ap (λ (d : ℕ). d / 2 ^ 33) (drawn_more number draw chosen following is_chosen is_following) in
      let same_index : index ≡ 1 + value_drawn number draw % topics =
      is_index ∙ ap (λ (v : ℕ). 1 + v % topics) (is_choice ∙ ap (λ (d : ℕ). d / 2 ^ 33) is_chosen) in
      ap (λ (v : ℕ). put_text session (topic_name index) (topic topics index v (text_value % 1000))) same_value
      ∙ ap (λ (v : ℕ). put_text session (topic_name index) (topic topics index (value_drawn number index) (v % 1000)))
      same_text
      ∙ ap (λ (i : ℕ). put_text session (topic_name i)
      (topic topics i (value_drawn number i) (value_drawn number (draw + 1) % 1000))) same_index

  pub edits_written : (out new last : List ℕ) → new ≡ out ++ edit_put → last ≡ new ++ step_text (builds session)
      → last ≡ out ++ flat_map step_text (edits_by number topics session draw)
  edits_written out new last put built =
      edits_joined (puts_topic number topics session (1 + value_drawn number draw % topics)
      (value_drawn number (draw + 1) % 1000)) (builds session) out new last
      (put ∙ ap (λ (l : List ℕ). out ++ l) edit_same) built

-- bytes that were appended, if there was memory
pub appended : {E : Type 0} (result : Result (Unit {0}) E) (old new bytes whole : List ℕ)
    → new ≡ (if is_ok result then old ++ bytes else old) → old ++ bytes ≡ whole → OnOk result (new ≡ whole)
appended (Ok value) old new bytes whole is joined = is ∙ joined
appended (Err error) old new bytes whole is joined = tt

-- the line of a build
pub build_joined : (session : ℕ) (old middle : List ℕ) → middle ≡ old ++ decimal session
    → middle ++ (codes " build book.ditamap val.ditaval" ++ 10 ∷ []) ≡ old ++ step_text (builds session)
build_joined session old middle first =
    line_joined (decimal session) (codes " ") (codes "build book.ditamap val.ditaval") (10 ∷ []) old middle first

-- loops

numbers_left : (first index count : ℕ) → index < count
    → numbers_from first (count - index) ≡ first ∷ numbers_from (first + 1) (count - (index + 1))
numbers_left first index count less = let e : count - index ≡ suc (count - (index + 1)) = omega arith in rw e refl

numbers_done : (first index count : ℕ) → count ≤ index → numbers_from first (count - index) ≡ []
numbers_done first index count most = let e : count - index ≡ zero = omega arith in rw e refl

module _ (f : ℕ → List ℕ) (index count : ℕ) (out whole : List ℕ)
    (so_far : out ++ flat_map f (numbers_from (index + 1) (count - index)) ≡ whole) where
  pub turn_more : (new : List ℕ) → index < count → new ≡ out ++ f (index + 1)
      → new ++ flat_map f (numbers_from (index + 1 + 1) (count - (index + 1))) ≡ whole
  turn_more new less put =
      ap (λ (l : List ℕ). l ++ flat_map f (numbers_from (index + 1 + 1) (count - (index + 1)))) put
      ∙ append_assoc out (f (index + 1)) (flat_map f (numbers_from (index + 1 + 1) (count - (index + 1))))
      ∙ ap (λ (numbers : List ℕ). out ++ flat_map f numbers) (sym (numbers_left (index + 1) index count less))
      ∙ so_far

  pub turn_done : count ≤ index → out ≡ whole
  turn_done most =
      sym (append-nil out)
      ∙ ap (λ (numbers : List ℕ). out ++ flat_map f numbers) (sym (numbers_done (index + 1) index count most))
      ∙ so_far
