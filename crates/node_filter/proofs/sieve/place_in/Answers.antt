use Rattle.std.proofs.Common.{length, refl}
use Rattle.std.proofs.lemmas.Option.{slice_get_read}
use Rattle.node_filter.proofs.sieve.place_in.Goals as goal

pub returns-in-Some : goal.returns-in-Some
returns-in-Some c =
    let found = c.in-Some.ensures.lookup in
    let places = c.args.places.now in
    rw (slice_get_read places (length places) c.args.at _ refl found.3.0 found.1)
