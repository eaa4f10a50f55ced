use Rattle.std.proofs.Common.{◌∙◌, ◌+◌, ℕ, ap, refl, subst}
use Rattle.fact_table.specs.Ranks.{IsRenewed, rank_in}
use Rattle.facts.specs.declared.fact.Fact.{Fact}
use Rattle.fact_table.proofs.KeyLaws.{known_more}
use Rattle.fact_table.proofs.ShelfLaws.{put_is}
use Rattle.fact_table.proofs.shelf.Shelf.put.Goals as goal

pub returns-clause-shelf : goal.returns-clause-shelf
returns-clause-shelf c =
    let old = c.args.self.now in
    put_is old _ (record { row = c.args.row; older = c.renew-older.result }) c.requires.shelf
    c.push_back_reserved.ensures.items refl (ap (λ (n : ℕ). old.bytes + n) c.from.ensures) c.requires.rank
    (c.renew-older.ensures.older ∙ ap (λ (fact : Fact). rank_in old.newest fact.key) c.deref.ensures)
    (subst (λ (fact : Fact). IsRenewed fact.key c.args.row.rank old.newest c.renew-older.new.ranks) c.deref.ensures
    c.renew-older.ensures.renewed)

pub returns-clause-known : goal.returns-clause-known
returns-clause-known c =
    known_more c.deref.result.now.key c.args.row.rank c.args.self.now.newest c.renew-older.new.ranks
    c.renew-older.ensures.renewed c.renew-older.ensures.known
