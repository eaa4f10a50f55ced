use Rattle.std.specs.Prelude.{◌≡◌, ℕ, IfOk, List, Option}
use Rattle.std.proofs.Common.{sym, subst}
use Rattle.dita_doc.specs.declared.content.TermEntry.{TermEntry}
use Rattle.xref_links.specs.Body.{written_of}
use Rattle.clean_build.specs.Bodies.{terms_wanted}
use Rattle.clean_build.proofs.BodyLaws.{own_nodes}
use Rattle.clean_build.proofs.body.terms_if.Goals as goal

pub returns-in-Some : goal.returns-in-Some
returns-in-Some c =
    let nodes = written_of c.args.resolved.now in
    subst (λ (number : Option ℕ). IfOk c.terms_of.result (λ (entries : List TermEntry). entries ≡ terms_wanted number nodes))
    (sym c.in-Some.is) (c.terms_of.ensures nodes (own_nodes c.args.resolved.now))
