use Rattle.std.proofs.Common.{◌≡◌, ◌++◌, ℕ, List, OnOk, ◌∙◌, subst, sym}
use Rattle.doc_elements.specs.Walk.{content_in, element_of}
use Rattle.index_page.specs.Walk.{entries_at}
use Rattle.index_page.proofs.TermLaws.{path_own, paths_other, paths_within}
use Rattle.index_page.proofs.walk.+append.Goals as goal

pub append_element-returns-then-not-is_term : goal.append_element-returns-then-not-is_term
append_element-returns-then-not-is_term t c = λ name.
    let element = element_of name c.args.element.now in
    subst (λ (paths : List (List (List ℕ))). OnOk c.append_terms.result
    (c.append_terms.new.entries ≡ c.args.entries.now ++ entries_at c.args.page paths))
    (paths_other c.args.around.now element (content_in name c.args.inside)
    (sym c.if-not-is_term.true ∙ c.is_term.ensures name))
    (c.append_terms.ensures name)

pub append_element-returns-then-holds_term : goal.append_element-returns-then-holds_term
append_element-returns-then-holds_term t c = λ name.
    let element = element_of name c.args.element.now in
    let inside = content_in name c.args.inside in
    subst (λ (paths : List (List (List ℕ))). OnOk c.append_terms-then-holds_term.result
    (c.append_terms-then-holds_term.new.entries ≡ c.args.entries.now ++ entries_at c.args.page paths))
    (paths_within c.args.around.now element inside c.as_slice.result.now
    (sym c.if-not-is_term.false ∙ c.is_term.ensures name) (c.if-holds_term.ensures name)
    (c.as_slice.ensures ∙ c.in_ok-path.ensures name))
    (c.append_terms-then-holds_term.ensures name)

pub append_element-returns : goal.append_element-returns
append_element-returns t c = λ name.
    let element = element_of name c.args.element.now in
    let inside = content_in name c.args.inside in
    subst (λ (paths : List (List (List ℕ))). OnOk c.append_entry.result
    (c.append_entry.new.entries ≡ c.args.entries.now ++ entries_at c.args.page paths))
    (path_own c.args.around.now element inside c.in_ok-path.path
    (sym c.if-not-is_term.false ∙ c.is_term.ensures name) (c.if-holds_term.ensures name) (c.in_ok-path.ensures name))
    c.append_entry.ensures
