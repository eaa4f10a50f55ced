use Rattle.std.proofs.Common.{[], ◌∷◌, ◌++◌, subst, sym}
use Rattle.std.specs.Option.{option_copied}
use Rattle.html_tables.specs.Walk.{AreColumns}
use Rattle.html_tables.proofs.ColumnLaws.{with_name, without_name}
use Rattle.html_tables.proofs.columns.Columns.append.Goals as goal

pub returns-in_ok-count_one-in-Some : goal.returns-in_ok-count_one-in-Some
returns-in_ok-count_one-in-Some c = λ names are.
    subst (λ name. AreColumns c.count_one.new.self (names ++ option_copied name ∷ [])) (sym c.in-Some.is)
    (with_name c.args.self.now _ c.count_one.new.self c.in-Some.name.now names
    c.in_ok-append_name-in-Some.ensures c.in_ok-count_one-in-Some.ensures.places
    c.in_ok-count_one-in-Some.ensures.count are)

pub returns-in_ok-count_one-in-None : goal.returns-in_ok-count_one-in-None
returns-in_ok-count_one-in-None c = λ names are.
    subst (λ name. AreColumns c.count_one-in-None.new.self (names ++ option_copied name ∷ [])) (sym c.in-None.is)
    (without_name c.args.self.now c.count_one-in-None.new.self names
    c.in_ok-count_one-in-None.ensures.places c.in_ok-count_one-in-None.ensures.count are)
