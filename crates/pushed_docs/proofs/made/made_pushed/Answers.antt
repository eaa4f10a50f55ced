use Rattle.std.proofs.Common.{◌≡◌, ◌∙◌, ◌∷◌, [], IfOk, OnOk, refl, subst, sym}
use Rattle.std.proofs.lemmas.Result.{on_ok_weaker}
use Rattle.conref_push.specs.Table.{IsPushTable}
use Rattle.map_spec.specs.Pushes.{pushed, pushes_into}
use Rattle.pushed_docs.proofs.AskedLaws.{asked_asks, asked_founded, asked_grows, found_only, pushes_alike}
use Rattle.pushed_docs.proofs.MadeLaws.{itself_given, itself_known}
use Rattle.readers.specs.Documents.{of_pushes}
use Rattle.readers.specs.Named.{named_found}
use Rattle.readers.specs.Only.{TellsOnly, is_of_pushed}
use Rattle.readers.specs.Setting.{Stand}
use Rattle.readers.specs.Told.{Agrees, pushes}
use Rattle.readers.proofs.DocumentLaws.{asks_after, asks_none}
use Rattle.readers.proofs.FoundedLaws.{stays_after}
use Rattle.readers.proofs.GivenLaws.{given_later}
use Rattle.readers.proofs.GrowthLaws.{agrees_before, grows_equal, grows_trans, told_answer}
use Rattle.readers.proofs.OnlyLaws.{pushed_pushes}
use Rattle.pushed_docs.proofs.made.made_pushed.Goals as goal

pub returns-then-branch-clause-known : goal.returns-then-branch-clause-known
returns-then-branch-clause-known g c = λ world agrees.
    let stand = g.P.Reader.stand c.args.asker.now in
    let documents = stand.setting.documents in
    let name = c.args.name.now in
    let told = g.P.Reader.told c.tell_pushes.new.self in
    let seen : g.P.Reader.stand c.is_itself.new.self ≡ stand = c.is_itself.ensures.stand ∙ c.in_ok-found.ensures.stand in
    let own : Agrees stand.world told = subst (λ (s : Stand). Agrees s.world told)
    (c.tell_pushes.ensures.stand ∙ seen) (g.met.P.Reader.agrees c.tell_pushes.new.self) in
    let alike : pushes_into world documents name ≡ pushes_into stand.world documents name =
    pushes_alike stand.world world documents name c.in_ok-tell_pushes.field-0 (g.P.Reader.told c.is_itself.new.self) told
    (subst (λ (s : Stand). told ≡ pushes s.setting.documents name c.in_ok-tell_pushes.field-0
    ∷ g.P.Reader.told c.is_itself.new.self) seen c.in_ok-tell_pushes.ensures.told) own agrees in
    let there = told_answer world _ _ _ c.in_ok-found.ensures.told (subst (Agrees world) c.is_itself.ensures.told
    (agrees_before world _ _ c.tell_pushes.ensures.grows agrees)) in
    itself_known world documents name c.in_ok-found.found there c.in_ok-found.ensures.origin
    (c.in_ok-is_itself.ensures.same world documents
    (subst (λ (s : Stand). IsPushTable s.world documents c.args.table.now) (sym c.in_ok-found.ensures.stand)
    c.requires.tabled)
    (subst (λ (s : Stand). pushes_into world documents name ≡ pushes_into s.world documents name)
    (sym c.in_ok-found.ensures.stand) alike) there c.if-branch.true)

pub returns-then-branch-clause-given : goal.returns-then-branch-clause-given
returns-then-branch-clause-given g c = given_later _ _ (named_found c.in_ok-found.found) c.tell_pushes.ensures.grows
    (itself_given c.args.name.now c.in_ok-found.found _ _ (c.is_itself.ensures.told ∙ c.in_ok-found.ensures.told)
    c.in_ok-found.ensures.origin)

pub returns-clause-known : goal.returns-clause-known
returns-clause-known g c = λ world agrees. subst (λ (s : Stand). IfOk c.touched.result
    (λ found. named_found found ≡ pushed world s.setting.documents c.args.name.now))
    (c.is_itself.ensures.stand ∙ c.in_ok-found.ensures.stand) (c.touched.ensures.known world agrees)

pub returns-clause-grows : goal.returns-clause-grows
returns-clause-grows g c = grows_trans _ _ _ c.in_ok-found.ensures.grows
    (grows_trans _ _ _ (grows_equal _ _ c.is_itself.ensures.told) c.touched.ensures.grows)

pub returns-in_err-found-clause-stand : goal.returns-in_err-found-clause-stand
returns-in_err-found-clause-stand g c = c.doc.ensures.stand

pub returns-in_err-found-clause-founded : goal.returns-in_err-found-clause-founded
returns-in_err-found-clause-founded g c = c.doc.ensures.founded

pub returns-in_err-found-clause-asks : goal.returns-in_err-found-clause-asks
returns-in_err-found-clause-asks g c = asked_asks c.args.name.now _ _ _ c.doc.ensures.asks refl

pub returns-in_err-found-clause-grows : goal.returns-in_err-found-clause-grows
returns-in_err-found-clause-grows g c = c.doc.ensures.grows

pub returns-in_err-is_itself-clause-stand : goal.returns-in_err-is_itself-clause-stand
returns-in_err-is_itself-clause-stand g c = c.is_itself.ensures.stand ∙ c.in_ok-found.ensures.stand

pub returns-in_err-is_itself-clause-founded : goal.returns-in_err-is_itself-clause-founded
returns-in_err-is_itself-clause-founded g c = asked_founded c.args.name.now _ _ _ c.in_ok-found.ensures.founded c.is_itself.ensures.told

pub returns-in_err-is_itself-clause-asks : goal.returns-in_err-is_itself-clause-asks
returns-in_err-is_itself-clause-asks g c = asked_asks c.args.name.now _ _ _ c.in_ok-found.ensures.asks c.is_itself.ensures.told

pub returns-in_err-is_itself-clause-grows : goal.returns-in_err-is_itself-clause-grows
returns-in_err-is_itself-clause-grows g c = asked_grows c.args.name.now _ _ _ c.in_ok-found.ensures.grows c.is_itself.ensures.told

pub returns-in_err-tell_pushes-clause-stand : goal.returns-in_err-tell_pushes-clause-stand
returns-in_err-tell_pushes-clause-stand g c = c.tell_pushes.ensures.stand ∙ c.is_itself.ensures.stand ∙ c.in_ok-found.ensures.stand

pub returns-in_err-tell_pushes-clause-founded : goal.returns-in_err-tell_pushes-clause-founded
returns-in_err-tell_pushes-clause-founded g c = stays_after (c.args.name.now ∷ []) _ _ _
    (asked_grows c.args.name.now _ _ _ c.in_ok-found.ensures.grows c.is_itself.ensures.told)
    (asked_founded c.args.name.now _ _ _ c.in_ok-found.ensures.founded c.is_itself.ensures.told)
    c.tell_pushes.ensures.founded

pub returns-in_err-tell_pushes-clause-asks : goal.returns-in_err-tell_pushes-clause-asks
returns-in_err-tell_pushes-clause-asks g c = asks_after of_pushes (c.args.name.now ∷ []) _ _ _
    (asked_grows c.args.name.now _ _ _ c.in_ok-found.ensures.grows c.is_itself.ensures.told)
    (asked_asks c.args.name.now _ _ _ c.in_ok-found.ensures.asks c.is_itself.ensures.told)
    (asks_none of_pushes (c.args.name.now ∷ []) _ _ c.tell_pushes.ensures.asks)

pub returns-in_err-tell_pushes-clause-grows : goal.returns-in_err-tell_pushes-clause-grows
returns-in_err-tell_pushes-clause-grows g c = grows_trans _ _ _
    (asked_grows c.args.name.now _ _ _ c.in_ok-found.ensures.grows c.is_itself.ensures.told) c.tell_pushes.ensures.grows

pub returns-then-branch-clause-stand : goal.returns-then-branch-clause-stand
returns-then-branch-clause-stand g c = c.tell_pushes.ensures.stand ∙ c.is_itself.ensures.stand ∙ c.in_ok-found.ensures.stand

pub returns-then-branch-clause-founded : goal.returns-then-branch-clause-founded
returns-then-branch-clause-founded g c = stays_after (c.args.name.now ∷ []) _ _ _
    (asked_grows c.args.name.now _ _ _ c.in_ok-found.ensures.grows c.is_itself.ensures.told)
    (asked_founded c.args.name.now _ _ _ c.in_ok-found.ensures.founded c.is_itself.ensures.told)
    c.tell_pushes.ensures.founded

pub returns-then-branch-clause-asks : goal.returns-then-branch-clause-asks
returns-then-branch-clause-asks g c = asks_after of_pushes (c.args.name.now ∷ []) _ _ _
    (asked_grows c.args.name.now _ _ _ c.in_ok-found.ensures.grows c.is_itself.ensures.told)
    (asked_asks c.args.name.now _ _ _ c.in_ok-found.ensures.asks c.is_itself.ensures.told)
    (asks_none of_pushes (c.args.name.now ∷ []) _ _ c.tell_pushes.ensures.asks)

pub returns-then-branch-clause-grows : goal.returns-then-branch-clause-grows
returns-then-branch-clause-grows g c = grows_trans _ _ _
    (asked_grows c.args.name.now _ _ _ c.in_ok-found.ensures.grows c.is_itself.ensures.told) c.tell_pushes.ensures.grows

pub returns-clause-given : goal.returns-clause-given
returns-clause-given g c = c.touched.ensures.given

pub returns-clause-stand : goal.returns-clause-stand
returns-clause-stand g c = c.touched.ensures.stand ∙ c.is_itself.ensures.stand ∙ c.in_ok-found.ensures.stand

pub returns-clause-founded : goal.returns-clause-founded
returns-clause-founded g c = stays_after (c.args.name.now ∷ []) _ _ _ (asked_grows c.args.name.now _ _ _ c.in_ok-found.ensures.grows c.is_itself.ensures.told)
    (asked_founded c.args.name.now _ _ _ c.in_ok-found.ensures.founded c.is_itself.ensures.told) c.touched.ensures.founded

pub returns-clause-asks : goal.returns-clause-asks
returns-clause-asks g c = asks_after of_pushes (c.args.name.now ∷ []) _ _ _ (asked_grows c.args.name.now _ _ _ c.in_ok-found.ensures.grows c.is_itself.ensures.told)
    (asked_asks c.args.name.now _ _ _ c.in_ok-found.ensures.asks c.is_itself.ensures.told) c.touched.ensures.asks

pub returns-then-branch-clause-only : goal.returns-then-branch-clause-only
returns-then-branch-clause-only g c = λ world agrees.
    let stand = g.P.Reader.stand c.args.asker.now in
    let documents = stand.setting.documents in
    let told = g.P.Reader.told c.tell_pushes.new.self in
    let between = g.P.Reader.told c.is_itself.new.self in
    found_only world documents c.args.name.now _ _ _ between told c.in_ok-found.ensures.told c.is_itself.ensures.told
    (pushed_pushes world documents c.args.name.now c.in_ok-tell_pushes.field-0 between told
    (subst (λ (s : Stand). told ≡ pushes s.setting.documents c.args.name.now c.in_ok-tell_pushes.field-0 ∷ between)
    (c.is_itself.ensures.stand ∙ c.in_ok-found.ensures.stand) c.in_ok-tell_pushes.ensures.told))

pub returns-clause-only : goal.returns-clause-only
returns-clause-only g c = λ world agrees.
    let stand = g.P.Reader.stand c.args.asker.now in
    let told = g.P.Reader.told c.touched.new.self in
    let between = g.P.Reader.told c.is_itself.new.self in
    on_ok_weaker c.touched.result
    (found_only world stand.setting.documents c.args.name.now _ _ _ between told c.in_ok-found.ensures.told
    c.is_itself.ensures.told)
    (subst (λ (s : Stand). OnOk c.touched.result
    (TellsOnly (is_of_pushed world s.setting.documents c.args.name.now) between told))
    (c.is_itself.ensures.stand ∙ c.in_ok-found.ensures.stand) (c.touched.ensures.only world agrees))
