-- The text of a project, put together from the texts of its requests.
use Rattle.std.specs.Prelude.{◌≡◌, ◌+◌, ℕ, List, [], ◌∷◌, ◌++◌, codes, map}
use Rattle.std.proofs.Common.{sym, ap, ◌∙◌, arith}
use Rattle.std.proofs.lemmas.Grind.{common_steps, flat_map-append}
use Rattle.std.proofs.lemmas.List.Folds.{flat_map-map}
use Rattle.std.specs.Fmt.{decimal}
use Rattle.std.specs.List.{flat_map}
use Rattle.script_text.specs.Printed.{step_text, steps_text}
use Rattle.script_text.specs.Script.{Step}
use Rattle.doc_gen.specs.Project.{book, builds, edits_by, excluding, key_meta, keydef, numbers_from, project, put_text, puts, puts_first}
use Rattle.doc_gen.specs.Short.{attribute_text, begun, ended}

-- an element of a domain with two attributes
element_joined : (old m₁ m₂ m₃ m₄ new first class keys role meta last : List ℕ) → m₁ ≡ old ++ first ++ class
    → m₂ ≡ m₁ ++ keys → m₃ ≡ m₂ ++ role → m₄ ≡ m₃ ++ meta → new ≡ m₄ ++ last
    → new ≡ old ++ (((first ++ (class ++ (keys ++ (role ++ [])))) ++ meta) ++ last)
element_joined old m₁ m₂ m₃ m₄ new first class keys role meta last opened keyed given inside closed =
    grind (arith, common_steps)

pub keydef_joined : (key : ℕ) (old m₁ m₂ m₃ m₄ new : List ℕ)
    → m₁ ≡ old ++ begun (codes "keydef") ++ attribute_text (codes "class", codes "+ map/topicref mapgroup-d/keydef ")
    → m₂ ≡ m₁ ++ attribute_text (codes "keys", codes "k" ++ decimal key)
    → m₃ ≡ m₂ ++ attribute_text (codes "processing-role", codes "resource-only") → m₄ ≡ m₃ ++ key_meta key
    → new ≡ m₄ ++ ended (codes "keydef") → new ≡ old ++ keydef key
unfolding keydef
keydef_joined key old m₁ m₂ m₃ m₄ new opened keyed given inside closed =
    element_joined old m₁ m₂ m₃ m₄ new (begun (codes "keydef"))
    (attribute_text (codes "class", codes "+ map/topicref mapgroup-d/keydef "))
    (attribute_text (codes "keys", codes "k" ++ decimal key))
    (attribute_text (codes "processing-role", codes "resource-only")) (key_meta key) (ended (codes "keydef"))
    opened keyed given inside closed

steps_told : (a b c d e : Step) (f : ℕ → Step) (numbers : List ℕ) (second third : List Step)
    → steps_text (a ∷ b ∷ c ∷ d ∷ map f numbers ++ e ∷ second ++ third)
    ≡ ((step_text a ++ (step_text b ++ (step_text c ++ (step_text d ++ flat_map (λ n. step_text (f n)) numbers))))
    ++ (step_text e ++ flat_map step_text second)) ++ flat_map step_text third
steps_told a b c d e f numbers second third =
    flat_map-append step_text (a ∷ b ∷ c ∷ d ∷ map f numbers ++ e ∷ second) third
    ∙ ap (λ (l : List ℕ). l ++ flat_map step_text third)
    (flat_map-append step_text (a ∷ b ∷ c ∷ d ∷ map f numbers) (e ∷ second)
    ∙ ap (λ (l : List ℕ). (step_text a ++ (step_text b ++ (step_text c ++ (step_text d ++ l))))
    ++ (step_text e ++ flat_map step_text second)) (flat_map-map step_text f numbers))

joined : (out₀ out₁ out₂ out₃ out₄ out₅ a b c d e f g h : List ℕ) → out₀ ≡ []
    → out₁ ≡ out₀ ++ a ++ b ++ c ++ d → out₂ ≡ out₁ ++ e → out₃ ≡ out₂ ++ f → out₄ ≡ out₃ ++ g → out₅ ≡ out₄ ++ h
    → out₅ ≡ ((a ++ (b ++ (c ++ (d ++ e)))) ++ (f ++ g)) ++ h
joined out₀ out₁ out₂ out₃ out₄ out₅ a b c d e f g h none first second third fourth fifth =
    grind (arith, common_steps)

pub project_written : (number topics : ℕ) (out₀ out₁ out₂ out₃ out₄ out₅ : List ℕ) → out₀ ≡ []
    → out₁ ≡ out₀ ++ put_text 1 (codes "val.ditaval") (excluding (codes "audience") (codes "internal"))
    ++ put_text 1 (codes "win.ditaval") (excluding (codes "platform") (codes "lin"))
    ++ put_text 1 (codes "lin.ditaval") (excluding (codes "platform") (codes "win"))
    ++ put_text 1 (codes "book.ditamap") (book topics)
    → out₂ ≡ out₁ ++ flat_map (λ index. step_text (puts_first number topics index)) (numbers_from 1 topics)
    → out₃ ≡ out₂ ++ step_text (builds 1)
    → out₄ ≡ out₃ ++ flat_map step_text (edits_by number topics 2 (topics + 1))
    → out₅ ≡ out₄ ++ flat_map step_text (edits_by number topics 3 (topics + 3)) → out₅ ≡ project number topics
unfolding project put_text
project_written number topics out₀ out₁ out₂ out₃ out₄ out₅ none first second third fourth fifth =
    joined out₀ out₁ out₂ out₃ out₄ out₅ _ _ _ _ _ _ _ _ none first second third fourth fifth
    ∙ sym (steps_told (puts 1 (codes "val.ditaval") (excluding (codes "audience") (codes "internal")))
    (puts 1 (codes "win.ditaval") (excluding (codes "platform") (codes "lin")))
    (puts 1 (codes "lin.ditaval") (excluding (codes "platform") (codes "win")))
    (puts 1 (codes "book.ditamap") (book topics)) (builds 1) (puts_first number topics) (numbers_from 1 topics)
    (edits_by number topics 2 (topics + 1)) (edits_by number topics 3 (topics + 3)))
