use Rattle.std.proofs.Common.{◌∙◌, ◌<◌, arith, nat_lt, sym}
use Rattle.std.proofs.lemmas.Bool.{and_parts, ltb-true}
use Rattle.node_filter.specs.Sieve.{element_found, is_sieved_out}
use Rattle.node_filter.proofs.SieveLaws.{pass_excluded}
use Rattle.node_filter.proofs.sieve.Sieve.pass.Goals as goal

pub returns-then-is_left_out : goal.returns-then-is_left_out
returns-then-is_left_out c =
    let doc = c.args.node.now.doc in
    let element = element_found doc c.args.element in
    let out = and_parts (nat_lt 0 c.len-at.result) (is_sieved_out c.args.table.now c.args.declared.now element)
    (sym (c.is_left_out.ensures doc) ∙ c.if-is_left_out.true) in
    let behind : 0 < c.len-at.result = ltb-true 0 c.len-at.result out.0 in
    pass_excluded c.args.table.now c.args.declared.now element c.args.node.now c.args.self.now c.push.new.self
    c.append_faults_of.new.faults c.len-at.result c.in_ok-place_of.field-0 c.len-at.ensures.length (omega arith)
    (omega arith) out.1
    (c.in_ok-place_of.ensures.place ∙ c.len.ensures.length) c.in_ok-push.ensures c.in_ok-append_faults_of.ensures
