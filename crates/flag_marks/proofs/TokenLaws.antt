-- The marks of tokens, one more.
use Rattle.std.specs.Prelude.{◌≡◌, ℕ, Bool, true, false, List, [], ◌∷◌, ◌++◌}
use Rattle.std.proofs.Common.{refl, sym, ap, ◌∙◌, append_assoc}
use Rattle.dita_doc.specs.declared.content.Rule.{Rule}
use Rattle.flag_marks.specs.Marks.{rule_flags, marks_of_tokens}

first_token : (rules : List Rule) (att token : List ℕ) (more : List (List ℕ)) (flagged : Bool)
    → rule_flags rules att token ≡ flagged
    → marks_of_tokens rules att (token ∷ more)
    ≡ marks_of_tokens rules att (token ∷ []) ++ marks_of_tokens rules att more
first_token rules att token more true e = simp e refl
first_token rules att token more false e = simp e refl

-- a token that was cut off stands behind those before it
pub token_put : (rules : List Rule) (att : List ℕ) (old new : List (List ℕ)) (word token : List ℕ)
    (all more whole : List (List ℕ)) → new ≡ old ++ marks_of_tokens rules att (word ∷ []) → word ≡ token
    → all ≡ token ∷ more → old ++ marks_of_tokens rules att all ≡ whole
    → new ++ marks_of_tokens rules att more ≡ whole
token_put rules att old new word token all more whole put same cut is =
    ap (λ texts. texts ++ marks_of_tokens rules att more)
    (put ∙ ap (λ own. old ++ marks_of_tokens rules att (own ∷ [])) same)
    ∙ append_assoc old (marks_of_tokens rules att (token ∷ [])) (marks_of_tokens rules att more)
    ∙ ap (λ texts. old ++ texts) (sym (first_token rules att token more (rule_flags rules att token) refl))
    ∙ ap (λ tokens. old ++ marks_of_tokens rules att tokens) (sym cut) ∙ is
