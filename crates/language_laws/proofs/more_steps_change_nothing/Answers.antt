use Rattle.language_laws.proofs.ChainStepLaws.{chain_is_whole}
use Rattle.build_plan.proofs.FreeLaws.{free_is_whole}
use Rattle.language_laws.proofs.ItemStepLaws.{items_are_whole}
use Rattle.language_laws.proofs.KeyStepLaws.{qualified_is_whole, walk_is_whole}
use Rattle.language_laws.proofs.MapStepLaws.{included_is_whole}
use Rattle.language_laws.proofs.ScopeStepLaws.{found_is_whole}
use Rattle.language_laws.proofs.TargetStepLaws.{followed_is_whole, resolved_is_whole}
use Rattle.language_laws.proofs.more_steps_change_nothing.Goals as goal

pub returns : goal.returns
returns c = record {
  included = included_is_whole;
  walk = walk_is_whole;
  qualified = qualified_is_whole;
  found = found_is_whole;
  chain = chain_is_whole;
  free = free_is_whole;
  items = items_are_whole;
  followed = followed_is_whole;
  resolved = resolved_is_whole;
}
