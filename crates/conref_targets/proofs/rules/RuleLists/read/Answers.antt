use Rattle.std.proofs.Common.{◌≡◌, ◌++◌, List, ℕ, OnOk, option_to_list, sym, subst}
use Rattle.std.proofs.lemmas.Result.{on_ok_weaker}
use Rattle.readers.specs.Documents.{AsksOnly, nothing}
use Rattle.readers.specs.Founded.{StaysFounded}
use Rattle.readers.specs.Setting.{Stand}
use Rattle.readers.specs.Only.{TellsOnly, is_document_of}
use Rattle.readers.proofs.DocumentLaws.{asks_after, asks_among, covers_same}
use Rattle.readers.proofs.FoundedLaws.{stays_after, stays_among}
use Rattle.readers.proofs.GrowthLaws.{agrees_before}
use Rattle.conref_targets.specs.Rules.{AreRules, HaveSame, all_kept, page_rules}
use Rattle.readers.proofs.AmongLaws.{among_back, among_front}
use Rattle.conref_targets.proofs.RuleLaws.{all_read}
use Rattle.readers.proofs.OnlyLaws.{documents_among, only_after, only_weaker}
use Rattle.conref_targets.proofs.rules.RuleLists.read.Goals as goal

pub returns-clause-kept : goal.returns-clause-kept
returns-clause-kept g c = λ are.
    subst (λ (stand : Stand). OnOk c.read_filters.result (AreRules stand.world c.read_filters.new.self))
    c.in_ok-read_val.ensures.stand
    (c.read_filters.ensures.kept (subst (λ (stand : Stand). AreRules stand.world c.read_val.new.self)
    (sym c.in_ok-read_val.ensures.stand) (c.in_ok-read_val.ensures.kept are)))

pub returns-clause-known : goal.returns-clause-known
returns-clause-known g c = λ are world agrees.
    let val = option_to_list c.args.context.now.val in
    let filters = c.as_slice.result.now in
    let new = c.read_filters.new.self in
    let here = (g.R.Reader.stand c.args.reader.now).world in
    subst (λ (names : List (List ℕ)). OnOk c.read_filters.result (all_kept new (val ++ names) ≡ page_rules world (val ++ names)))
    c.as_slice.ensures
    (all_read here world c.read_val.new.self new val filters c.read_filters.result
    c.in_ok-read_val.ensures.has c.read_filters.ensures.keeps c.read_filters.ensures.has
    (subst (λ (stand : Stand). OnOk c.read_filters.result (AreRules stand.world new)) c.in_ok-read_val.ensures.stand
    (c.read_filters.ensures.kept (subst (λ (stand : Stand). AreRules stand.world c.read_val.new.self)
    (sym c.in_ok-read_val.ensures.stand) (c.in_ok-read_val.ensures.kept are))))
    (c.in_ok-read_val.ensures.same world (agrees_before world _ _ c.read_filters.ensures.grows agrees))
    (subst (λ (stand : Stand). OnOk c.read_filters.result (HaveSame stand.world world filters))
    c.in_ok-read_val.ensures.stand (c.read_filters.ensures.same world agrees)))

pub returns-clause-founded : goal.returns-clause-founded
returns-clause-founded g c =
    let val = option_to_list c.args.context.now.val in
    let filters = c.as_slice.result.now in
    subst (λ (names : List (List ℕ)). StaysFounded (val ++ names) (g.R.Reader.told c.args.reader.now)
    (g.R.Reader.told c.read_filters.new.reader)) c.as_slice.ensures
    (stays_after (val ++ filters) _ _ _ c.in_ok-read_val.ensures.grows
    (stays_among val (val ++ filters) _ _ (λ m here. among_front val filters m here) c.in_ok-read_val.ensures.founded)
    (stays_among filters (val ++ filters) _ _ (λ m here. among_back val filters m here) c.read_filters.ensures.founded))

pub returns-clause-asks : goal.returns-clause-asks
returns-clause-asks g c =
    let val = option_to_list c.args.context.now.val in
    let filters = c.as_slice.result.now in
    subst (λ (names : List (List ℕ)). AsksOnly nothing (val ++ names) (g.R.Reader.told c.args.reader.now)
    (g.R.Reader.told c.read_filters.new.reader)) c.as_slice.ensures
    (asks_after nothing (val ++ filters) _ _ _ c.in_ok-read_val.ensures.grows
    (asks_among nothing nothing val (val ++ filters) _ _ (covers_same nothing) (λ m here. among_front val filters m here)
    c.in_ok-read_val.ensures.asks)
    (asks_among nothing nothing filters (val ++ filters) _ _ (covers_same nothing)
    (λ m here. among_back val filters m here) c.read_filters.ensures.asks))

pub returns-clause-only : goal.returns-clause-only
returns-clause-only g c =
    let val = option_to_list c.args.context.now.val in
    let filters = c.as_slice.result.now in
    subst (λ (names : List (List ℕ)). OnOk c.read_filters.result (TellsOnly (is_document_of (val ++ names))
    (g.R.Reader.told c.args.reader.now) (g.R.Reader.told c.read_filters.new.reader))) c.as_slice.ensures
    (on_ok_weaker c.read_filters.result
    (λ next. only_after _ _ _ _
    (only_weaker (is_document_of val) (is_document_of (val ++ filters)) _ _ (documents_among val (val ++ filters) (λ m here. among_front val filters m here))
    c.in_ok-read_val.ensures.only)
    (only_weaker (is_document_of filters) (is_document_of (val ++ filters)) _ _ (documents_among filters (val ++ filters) (λ m here. among_back val filters m here)) next))
    c.read_filters.ensures.only)

pub returns-in_err-read_val-clause-founded : goal.returns-in_err-read_val-clause-founded
returns-in_err-read_val-clause-founded g c =
    let val = option_to_list c.args.context.now.val in
    let filters = c.args.context.now.page.filters in
    stays_among val (val ++ filters) _ _ (λ m here. among_front val filters m here) c.read_val.ensures.founded

pub returns-in_err-read_val-clause-asks : goal.returns-in_err-read_val-clause-asks
returns-in_err-read_val-clause-asks g c =
    let val = option_to_list c.args.context.now.val in
    let filters = c.args.context.now.page.filters in
    asks_among nothing nothing val (val ++ filters) _ _ (covers_same nothing)
    (λ m here. among_front val filters m here) c.read_val.ensures.asks
