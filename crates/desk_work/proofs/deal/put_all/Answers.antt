use Rattle.std.proofs.Common.{refl, ap, ◌∙◌, get_or}
use Rattle.desk_work.specs.Dealing.{piles_seen}
use Rattle.desk_work.proofs.PileLaws.{none_put, put_more}
use Rattle.desk_work.proofs.deal.put_all.Goals as goal

pub loop-key-init : goal.loop-key-init
loop-key-init c = record {
  many = refl;
  put = none_put c.args.homes.now c.args.parts.items (piles_seen c.args.piles.now)
      (c.requires.same ∙ c.args.parts.ok.0) c.requires.empty;
}

pub loop-key-preserved : goal.loop-key-preserved
loop-key-preserved c = record {
  many = c.in_ok-put.ensures.many ∙ c.loop-key.invariant.many;
  put = put_more c.args.homes.now c.args.parts.items c.pop.new.self.items c.loop-key.parts.items
      (get_or c.args.homes.now c.len.result 0) c.in-Some.key (piles_seen c.loop-key.piles)
      (piles_seen c.put.new.piles) (c.requires.same ∙ c.args.parts.ok.0) c.in-Some.ensures.items
      (ap (λ n. get_or c.args.homes.now n 0) (c.len.ensures ∙ c.pop.new.self.ok.0)) c.loop-key.invariant.put
      c.in_ok-put.ensures.put;
}
