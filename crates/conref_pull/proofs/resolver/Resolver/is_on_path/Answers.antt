use Rattle.conref_spec.specs.Content.{is_place}
use Rattle.conref_pull.specs.Accepting.{place_of}
use Rattle.conref_pull.specs.State.{place_shown}
use Rattle.conref_pull.proofs.AcceptLaws.{any_within}
use Rattle.conref_pull.proofs.resolver.Resolver.is_on_path.Goals as goal

pub returns : goal.returns
returns c = any_within (is_place (place_of c.args.found.now)) place_shown c.args.links c.first_of.result.now
    c.deref.result.now c.args.self.now.path.items c.is_among.result c.deref.ensures.value c.first_of.ensures
    c.is_among.ensures
