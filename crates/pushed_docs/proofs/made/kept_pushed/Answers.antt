use Rattle.std.proofs.Common.{◌∷◌, ◌∙◌, [], subst}
use Rattle.pushed_docs.proofs.AskedLaws.{touched_only}
use Rattle.pushed_docs.proofs.KeptLaws.{kept_given, kept_known}
use Rattle.pushed_docs.proofs.MadeLaws.{touched_asks, touched_founded}
use Rattle.readers.specs.Documents.{of_pushes}
use Rattle.readers.specs.Named.{named_found}
use Rattle.readers.specs.Setting.{Stand}
use Rattle.readers.specs.Told.{Agrees}
use Rattle.readers.proofs.DocumentLaws.{asks_none}
use Rattle.readers.proofs.GrowthLaws.{agrees_before, grows_trans, told_answer}
use Rattle.pushed_docs.proofs.made.kept_pushed.Goals as goal

pub returns-clause-known : goal.returns-clause-known
returns-clause-known g c = λ world agrees.
    let stand = g.P.Reader.stand c.args.asker.now in
    let told = g.P.Reader.told c.ask_pushed.new.reader in
    let own : Agrees stand.world told = subst (λ (s : Stand). Agrees s.world told)
    (c.ask_pushed.ensures.stand ∙ c.in_ok-list.ensures.stand) (g.met.P.Reader.agrees c.ask_pushed.new.reader) in
    kept_known stand.world stand.setting.documents c.args.name.now c.in_ok-list.list (named_found c.args.kept) world
    (told_answer stand.world _ _ _ c.in_ok-list.ensures.told (agrees_before stand.world _ _ c.ask_pushed.ensures.grows own))
    (told_answer world _ _ _ c.in_ok-list.ensures.told (agrees_before world _ _ c.ask_pushed.ensures.grows agrees))
    (c.in_ok-ask_pushed.ensures.fixed stand.world world own agrees) c.requires.kept

pub returns-clause-given : goal.returns-clause-given
returns-clause-given g c =
    let stand = g.P.Reader.stand c.args.asker.now in
    let told = g.P.Reader.told c.ask_pushed.new.reader in
    let own : Agrees stand.world told = subst (λ (s : Stand). Agrees s.world told)
    (c.ask_pushed.ensures.stand ∙ c.in_ok-list.ensures.stand) (g.met.P.Reader.agrees c.ask_pushed.new.reader) in
    kept_given stand.world stand.setting.documents c.args.name.now c.in_ok-list.list (named_found c.args.kept) told
    (told_answer stand.world _ _ _ c.in_ok-list.ensures.told (agrees_before stand.world _ _ c.ask_pushed.ensures.grows own))
    c.requires.kept (c.in_ok-ask_pushed.ensures.given stand.world own)

pub returns-in_err-list-clause-stand : goal.returns-in_err-list-clause-stand
returns-in_err-list-clause-stand g c = c.tell_pushes.ensures.stand

pub returns-in_err-list-clause-founded : goal.returns-in_err-list-clause-founded
returns-in_err-list-clause-founded g c = c.tell_pushes.ensures.founded

pub returns-in_err-list-clause-asks : goal.returns-in_err-list-clause-asks
returns-in_err-list-clause-asks g c = asks_none of_pushes (c.args.name.now ∷ []) _ _ c.tell_pushes.ensures.asks

pub returns-in_err-list-clause-grows : goal.returns-in_err-list-clause-grows
returns-in_err-list-clause-grows g c = c.tell_pushes.ensures.grows

pub returns-in_err-ask_pushed-clause-stand : goal.returns-in_err-ask_pushed-clause-stand
returns-in_err-ask_pushed-clause-stand g c = c.ask_pushed.ensures.stand ∙ c.in_ok-list.ensures.stand

pub returns-in_err-ask_pushed-clause-founded : goal.returns-in_err-ask_pushed-clause-founded
returns-in_err-ask_pushed-clause-founded g c = touched_founded _ c.args.name.now c.in_ok-list.list _ _ _ c.in_ok-list.ensures.told
    c.ask_pushed.ensures.founded

pub returns-in_err-ask_pushed-clause-asks : goal.returns-in_err-ask_pushed-clause-asks
returns-in_err-ask_pushed-clause-asks g c = touched_asks _ c.args.name.now c.in_ok-list.list _ _ _ c.in_ok-list.ensures.told
    c.in_ok-list.ensures.asks c.ask_pushed.ensures.asks

pub returns-in_err-ask_pushed-clause-grows : goal.returns-in_err-ask_pushed-clause-grows
returns-in_err-ask_pushed-clause-grows g c = grows_trans _ _ _ c.in_ok-list.ensures.grows c.ask_pushed.ensures.grows

pub returns-clause-stand : goal.returns-clause-stand
returns-clause-stand g c = c.ask_pushed.ensures.stand ∙ c.in_ok-list.ensures.stand

pub returns-clause-founded : goal.returns-clause-founded
returns-clause-founded g c = touched_founded _ c.args.name.now c.in_ok-list.list _ _ _ c.in_ok-list.ensures.told
    c.ask_pushed.ensures.founded

pub returns-clause-asks : goal.returns-clause-asks
returns-clause-asks g c = touched_asks _ c.args.name.now c.in_ok-list.list _ _ _ c.in_ok-list.ensures.told
    c.in_ok-list.ensures.asks c.ask_pushed.ensures.asks

pub returns-clause-grows : goal.returns-clause-grows
returns-clause-grows g c = grows_trans _ _ _ c.in_ok-list.ensures.grows c.ask_pushed.ensures.grows

pub returns-clause-only : goal.returns-clause-only
returns-clause-only g c = λ world agrees.
    touched_only world _ c.args.name.now c.in_ok-list.list _ _ _ c.in_ok-list.ensures.told c.ask_pushed.ensures.grows
    agrees c.in_ok-ask_pushed.ensures.only
