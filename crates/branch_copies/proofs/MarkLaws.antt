-- Filters and affixes of a chain, one branch more.
use Rattle.std.specs.Prelude.{◌≡◌, ◌+◌, ◌<◌, ◌++◌, ℕ, List, [], ◌∷◌, length, take}
use Rattle.std.specs.Option.{option_to_list}
use Rattle.std.proofs.Common.{sym, ap, ◌∙◌, append-nil, append_assoc, get_or}
use Rattle.std.proofs.lemmas.List.{take_more}
use Rattle.dita_doc.specs.declared.plan.Affix.{Affix}
use Rattle.branch_copies.specs.declared.branch.Branch.{Branch}
use Rattle.branch_copies.specs.Marks.{affix_at, affixes_of, filter_at, filters_of}

filters_push : (branches : List Branch) (chain : List ℕ) (at : ℕ)
    → filters_of branches (chain ++ at ∷ []) ≡ filters_of branches chain ++ option_to_list (filter_at branches at)
filters_push branches [] at = append-nil (option_to_list (filter_at branches at))
filters_push branches (first ∷ chain) at =
    ap (λ more. option_to_list (filter_at branches first) ++ more) (filters_push branches chain at)
    ∙ sym (append_assoc (option_to_list (filter_at branches first)) (filters_of branches chain) _)

affixes_push : (branches : List Branch) (chain : List ℕ) (at : ℕ)
    → affixes_of branches (chain ++ at ∷ []) ≡ affixes_of branches chain ++ option_to_list (affix_at branches at)
affixes_push branches [] at = append-nil (option_to_list (affix_at branches at))
affixes_push branches (first ∷ chain) at =
    ap (λ more. option_to_list (affix_at branches first) ++ more) (affixes_push branches chain at)
    ∙ sym (append_assoc (option_to_list (affix_at branches first)) (affixes_of branches chain) _)

pub filters_more : (branches : List Branch) (own filters later : List (List ℕ)) (chain : List ℕ) (k : ℕ)
    → k < length chain → filters ≡ own ++ filters_of branches (take k chain)
    → later ≡ filters ++ option_to_list (filter_at branches (get_or chain k 0))
    → later ≡ own ++ filters_of branches (take (k + 1) chain)
filters_more branches own filters later chain k within before put =
    put ∙ ap (λ some. some ++ option_to_list (filter_at branches (get_or chain k 0))) before
    ∙ append_assoc own (filters_of branches (take k chain)) _
    ∙ ap (λ more. own ++ more) (sym (filters_push branches (take k chain) (get_or chain k 0))
    ∙ ap (filters_of branches) (sym (take_more chain k 0 within)))

pub affixes_more : (branches : List Branch) (own affixes later : List Affix) (chain : List ℕ) (k : ℕ)
    → k < length chain → affixes ≡ own ++ affixes_of branches (take k chain)
    → later ≡ affixes ++ option_to_list (affix_at branches (get_or chain k 0))
    → later ≡ own ++ affixes_of branches (take (k + 1) chain)
affixes_more branches own affixes later chain k within before put =
    put ∙ ap (λ some. some ++ option_to_list (affix_at branches (get_or chain k 0))) before
    ∙ append_assoc own (affixes_of branches (take k chain)) _
    ∙ ap (λ more. own ++ more) (sym (affixes_push branches (take k chain) (get_or chain k 0))
    ∙ ap (affixes_of branches) (sym (take_more chain k 0 within)))
