use Rattle.std.proofs.Common.{option_map}
use Rattle.std.specs.Arc.{arc_value}
use Rattle.version_store.proofs.KeptLaws.{kept_grown}
use Rattle.version_store.proofs.store.Store.push.Goals as goal

-- the entry stands at the end, with the reply at its place
pub invariant_of-self-2 : goal.invariant_of-self-2
invariant_of-self-2 c =
    kept_grown _ _ _ _ _ _ _ c.self.inside.entries.items _ c.args.entry (option_map arc_value c.args.left)
    c.self.view_is c.self.invariant c.requires.room c.requires.reply c.requires.left c.in_ok-append.ensures.sources
    c.text_bytes-size.ensures c.in_ok-append.ensures.entries
