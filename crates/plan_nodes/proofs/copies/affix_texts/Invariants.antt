use Rattle.std.proofs.Common.{◌≡◌, take}
use Rattle.plan_nodes.specs.Affixes.{texts_of}
use Rattle.plan_nodes.proofs.copies.affix_texts.Given as goal

abbrev pub invariant-loop-affix : goal.invariant-loop-affix
invariant-loop-affix l = l.texts ≡ texts_of (take l.affix-index l.affixes)
