use Rattle.std.proofs.Common.{List, ℕ, subst}
use Rattle.readers.specs.Documents.{AsksOnly}
use Rattle.readers.specs.Founded.{StaysFounded}
use Rattle.conref_push.specs.Aimed.{push_targets}
use Rattle.conref_push.proofs.table.pushes_of.Goals as goal

pub returns-in_err-of-clause-founded : goal.returns-in_err-of-clause-founded
returns-in_err-of-clause-founded g c =
    subst (λ (names : List (List ℕ)). StaysFounded names (g.R.Reader.told c.args.reader.now)
    (g.R.Reader.told c.of.new.reader)) c.as_slice.ensures c.of.ensures.founded

pub returns-in_err-of-clause-asks : goal.returns-in_err-of-clause-asks
returns-in_err-of-clause-asks g c =
    subst (λ (names : List (List ℕ)). AsksOnly push_targets names (g.R.Reader.told c.args.reader.now)
    (g.R.Reader.told c.of.new.reader)) c.as_slice.ensures c.of.ensures.asks

pub returns-clause-founded : goal.returns-clause-founded
returns-clause-founded g c =
    subst (λ (names : List (List ℕ)). StaysFounded names (g.R.Reader.told c.args.reader.now)
    (g.R.Reader.told c.of.new.reader)) c.as_slice.ensures c.of.ensures.founded

pub returns-clause-asks : goal.returns-clause-asks
returns-clause-asks g c =
    subst (λ (names : List (List ℕ)). AsksOnly push_targets names (g.R.Reader.told c.args.reader.now)
    (g.R.Reader.told c.of.new.reader)) c.as_slice.ensures c.of.ensures.asks
