use Rattle.std.proofs.Common.{◌≡◌, ◌∙◌, Some, ap, bytes_eq, length, refl, rules, slice_get, subst, true}
use Rattle.std.proofs.lemmas.Option.{slice_get_read}
use Rattle.std.specs.Cmp.Lexicographic.{bytes_decides}
use Rattle.doc_maker.proofs.origins.Origins.find.Goals as goal

-- the name that was asked for last
pub returns-then-eq-clause-place : goal.returns-then-eq-clause-place
returns-then-eq-clause-place c =
    let last = c.in-Some.last.now in
    let all = c.as_slice.result.now in
    let found = c.in-Some.ensures.lookup in
    let there = slice_get_read all (length all) c.self.inside.last last refl found.3.0 found.1 in
    let same : bytes_eq last c.args.name.now ≡ true = search rules in
    subst (λ ns. slice_get ns c.self.inside.last ≡ Some last) (c.as_slice.ensures.value ∙ c.self.view_is) there
    ∙ ap Some ((bytes_decides last c.args.name.now).0 same)
