use Rattle.std.proofs.Common.{length, map, ap, arith}
use Rattle.std.proofs.lemmas.List.{length-map}
use Rattle.dita_doc.specs.Sources.{document_seen}
use Rattle.dita_doc.proofs.SourcesLaws.{copies_count, parts_of, block_of_view, half_in_front, half_behind}
use Rattle.dita_doc.proofs.block.Block.halves.Goals as goal

pub invariant_of-result : goal.invariant_of-result
invariant_of-result c =
    let front = c.split_off.new.self.items in
    let back = c.in_ok-back.back.items in
    let copy = c.in_ok-front.front in
    let own = c.self.inside.documents.items in
    let same = c.in_ok-front.ensures.cases.0 in
    let whole = parts_of document_seen own copy.items front back _ c.args.self.now c.self.view_is same
    c.in_ok-back.ensures.items c.in_ok-back.ensures.tail in
    let long = ap length c.self.view_is in
    half_in_front (map document_seen front) (map document_seen back) c.args.self.now whole
    (block_of_view document_seen own c.args.self.now c.self.view_is c.self.invariant)
    (omega (
      arith,
      c.in_ok-back.ensures.len,
      copies_count document_seen own copy.items same,
      length-map own document_seen,
      length-map front document_seen,
      c.split_off.new.self.ok.0,
      copy.ok.0,
    ))

pub invariant_of-result-2 : goal.invariant_of-result-2
invariant_of-result-2 c =
    let front = c.split_off.new.self.items in
    let back = c.in_ok-back.back.items in
    let copy = c.in_ok-front.front in
    let own = c.self.inside.documents.items in
    let same = c.in_ok-front.ensures.cases.0 in
    let whole = parts_of document_seen own copy.items front back _ c.args.self.now c.self.view_is same
    c.in_ok-back.ensures.items c.in_ok-back.ensures.tail in
    let long = ap length c.self.view_is in
    half_behind (map document_seen front) (map document_seen back) c.args.self.now whole
    (block_of_view document_seen own c.args.self.now c.self.view_is c.self.invariant)
    (omega (
      arith,
      c.in_ok-back.ensures.tail_len,
      copies_count document_seen own copy.items same,
      length-map own document_seen,
      length-map back document_seen,
      c.in_ok-back.back.ok.0,
      copy.ok.0,
    ))

pub returns : goal.returns
returns c =
    let front = c.split_off.new.self.items in
    let back = c.in_ok-back.back.items in
    let copy = c.in_ok-front.front in
    let own = c.self.inside.documents.items in
    let same = c.in_ok-front.ensures.cases.0 in
    let long = ap length c.self.view_is in
    let few = c.self.invariant.few in
    record {
      whole = parts_of document_seen own copy.items front back _ c.args.self.now c.self.view_is same
          c.in_ok-back.ensures.items c.in_ok-back.ensures.tail;
      room = (
        omega (
          arith,
          c.in_ok-back.ensures.len,
          copies_count document_seen own copy.items same,
          length-map own document_seen,
          length-map front document_seen,
          c.split_off.new.self.ok.0,
          copy.ok.0,
        ),
        omega (
          arith,
          c.in_ok-back.ensures.tail_len,
          copies_count document_seen own copy.items same,
          length-map own document_seen,
          length-map back document_seen,
          c.in_ok-back.back.ok.0,
          copy.ok.0,
        ),
      );
    }
