use Rattle.clean_build.proofs.NameLaws.{stays_listed}
use Rattle.whole_calls.proofs.TableLaws.{tables_made}
use Rattle.whole_calls.proofs.build_tables.BuildTables.of.Goals as goal

pub returns-clause-tables : goal.returns-clause-tables
returns-clause-tables g c = tables_made _ _ _ _ _ _ c.as_slice.ensures c.as_slice-2.ensures c.in_ok-pushes.ensures.grows
    c.requires.ready c.requires.scoped c.in_ok-pushes.ensures.known c.in_ok-pushes.ensures.allowed
    c.in_ok-pages.ensures

pub returns-in_err-pushes-clause-founded : goal.returns-in_err-pushes-clause-founded
returns-in_err-pushes-clause-founded g c = stays_listed _ _ _ _ c.as_slice.ensures c.of.ensures.founded

pub returns-in_err-pages-clause-founded : goal.returns-in_err-pages-clause-founded
returns-in_err-pages-clause-founded g c = stays_listed _ _ _ _ c.as_slice.ensures c.of.ensures.founded

pub returns-clause-founded : goal.returns-clause-founded
returns-clause-founded g c = stays_listed _ _ _ _ c.as_slice.ensures c.of.ensures.founded
