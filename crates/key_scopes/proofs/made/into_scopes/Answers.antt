use Rattle.std.proofs.Common.{subst}
use Rattle.std.proofs.lemmas.Result.{IfOk-weaker}
use Rattle.readers.specs.Setting.{Stand}
use Rattle.readers.specs.Told.{Agrees}
use Rattle.key_scopes.proofs.ScopedLaws.{made_again}
use Rattle.key_scopes.proofs.made.into_scopes.Goals as goal

pub returns-clause-again : goal.returns-clause-again
returns-clause-again g c = λ tree.
    let world = (g.R.Reader.stand c.args.reader.now).world in
    let told = g.R.Reader.told c.scopes_of.new.reader in
    let own : Agrees world told = subst (λ (s : Stand). Agrees s.world told) c.scopes_of.ensures.stand
    (g.met.R.Reader.agrees c.scopes_of.new.reader) in
    IfOk-weaker c.scopes_of.result _ _ (λ made is. made_again world c.args.nodes made is)
    (c.scopes_of.ensures.known world own tree)
