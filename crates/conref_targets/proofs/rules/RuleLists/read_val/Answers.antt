use Rattle.std.proofs.Common.{List, ℕ, Option, OnOk, option_to_list, refl, sym, subst}
use Rattle.readers.specs.Documents.{AsksOnly, nothing}
use Rattle.readers.specs.Founded.{StaysFounded}
use Rattle.readers.specs.Only.{TellsOnly, is_document_of}
use Rattle.conref_targets.specs.Rules.{HaveSame}
use Rattle.conref_targets.proofs.rules.RuleLists.read_val.Goals as goal

pub returns-in-Some-clause-only : goal.returns-in-Some-clause-only
returns-in-Some-clause-only g c =
    subst (λ (val : Option (List ℕ)). OnOk c.read_one.result (TellsOnly (is_document_of (option_to_list val))
    (g.R.Reader.told c.args.reader.now) (g.R.Reader.told c.read_one.new.reader))) (sym c.in-Some.is) c.read_one.ensures.only

pub returns-in-Some-clause-founded : goal.returns-in-Some-clause-founded
returns-in-Some-clause-founded g c =
    subst (λ (val : Option (List ℕ)). StaysFounded (option_to_list val) (g.R.Reader.told c.args.reader.now)
    (g.R.Reader.told c.read_one.new.reader)) (sym c.in-Some.is) c.read_one.ensures.founded

pub returns-in-Some-clause-asks : goal.returns-in-Some-clause-asks
returns-in-Some-clause-asks g c =
    subst (λ (val : Option (List ℕ)). AsksOnly nothing (option_to_list val) (g.R.Reader.told c.args.reader.now)
    (g.R.Reader.told c.read_one.new.reader)) (sym c.in-Some.is) c.read_one.ensures.asks

pub returns-in-None-clause-same : goal.returns-in-None-clause-same
returns-in-None-clause-same g c = λ world agrees.
    subst (λ (val : Option (List ℕ)). HaveSame (g.R.Reader.stand c.args.reader.now).world world (option_to_list val))
    (sym c.in-None.is) refl
