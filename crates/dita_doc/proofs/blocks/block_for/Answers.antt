use Rattle.std.proofs.Common.{◌+◌, ◌-◌, ◌/◌, ◌<◌, length, sym, ap, ◌∙◌, arith}
use Rattle.dita_doc.specs.Sources.{begins_above}
use Rattle.dita_doc.proofs.BlockLaws.{above_from, below_to, search_end}
use Rattle.dita_doc.proofs.blocks.block_for.Goals as goal

pub loop-high-preserved-then-begins_above : goal.loop-high-preserved-then-begins_above
loop-high-preserved-then-begins_above c =
    let name = c.args.name.now in
    let middle = c.loop-high.low + (c.loop-high.high - c.loop-high.low) / 2 in
    let found = c.loop-high.invariant in
    let within : middle < length c.args.blocks.now = omega arith in
    let begins = sym (ap (begins_above name) c.deref.ensures) ∙ sym c.begins_above.ensures.value
    ∙ c.if-begins_above.true in
    record {
      order = omega arith;
      within = omega arith;
      below = found.below;
      above = above_from c.args.blocks.now name middle c.index-blocks-middle.result within
          c.index-blocks-middle.is c.requires.sorted begins;
    }

pub loop-high-preserved : goal.loop-high-preserved
loop-high-preserved c =
    let name = c.args.name.now in
    let middle = c.loop-high.low + (c.loop-high.high - c.loop-high.low) / 2 in
    let found = c.loop-high.invariant in
    let within : middle < length c.args.blocks.now = omega arith in
    let begins = sym (ap (begins_above name) c.deref.ensures) ∙ sym c.begins_above.ensures.value
    ∙ c.if-begins_above.false in
    let some = c.begins_above.ensures.some in
    record {
      order = omega arith;
      within = omega arith;
      below = below_to c.args.blocks.now name middle c.index-blocks-middle.result within
          c.index-blocks-middle.is c.requires.sorted (omega (arith, some, ap length c.deref.ensures)) begins;
      above = found.above;
    }

pub returns : goal.returns
returns c =
    let found = c.loop-high.invariant in
    search_end c.args.blocks.now c.args.name.now c.loop-high.low c.loop-high.high found.order found.within
    (omega arith) found.below found.above
