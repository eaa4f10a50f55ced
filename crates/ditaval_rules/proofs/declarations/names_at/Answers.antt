use Rattle.std.proofs.Common.{sym, ap, ◌∙◌, ◌-◌, arith}
use Rattle.ditaval_rules.specs.declared.declarations.DeclaredEntry.{DeclaredEntry}
use Rattle.ditaval_rules.proofs.DeclarationLaws.{last_none, last_there}
use Rattle.ditaval_rules.proofs.declarations.names_at.Goals as goal

pub returns-then-last-eq0 : goal.returns-then-last-eq0
returns-then-last-eq0 c test cut =
    sym (last_none test c.args.none.now c.args.entries.now c.args.place c.args.count c.last_around-last.result cut
    c.last_around-last.ensures c.if-last-eq0.true)

pub returns : goal.returns
returns c test cut =
    ap (λ (entry : DeclaredEntry). entry.names) (sym c.index-entries-last.is)
    ∙ sym (last_there test c.args.none.now c.args.entries.now c.args.place c.args.count c.last_around-last.result cut
    c.last_around-last.ensures (c.last_around-last.result - 1) c.index-entries-last.result (omega arith)
    c.index-entries-last.is)
