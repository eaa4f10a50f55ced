use Rattle.std.proofs.Common.{inr, rules}
use Rattle.desk_top.proofs.EndsLaws.{ends_written}
use Rattle.desk_top.proofs.modes.run.Goals as goal

pub returns-in-Ok-answered : goal.returns-in-Ok-answered
returns-in-Ok-answered g c =
    let answer = c.in-Ok-answered.ensures.ok in
    let written = rw c.as_slice.ensures at c.written.ensures in
    ends_written c.args.with_terms _ _ _ c.in-Ok.input c.in-Ok-answered.output c.in-Ok-answered.status _
    c.in-Ok.ensures.ok answer.0 answer.1 c.in-Ok-answered.ensures.form
    c.in-Ok-answered.ensures.pages c.in-Ok.ensures.cause.stays c.in-Ok-answered.ensures.cause.stays
    written

pub returns-in-Err-Fault-answered : goal.returns-in-Err-Fault-answered
returns-in-Err-Fault-answered g c = record {
  rose = search rules;
  input = c.in-Ok.input;
  read = c.in-Ok.ensures.ok;
  pages = c.in-Err-Fault-answered.ensures.pages;
  output = search rules;
}

pub returns-in-Err-NoMemory-answered : goal.returns-in-Err-NoMemory-answered
returns-in-Err-NoMemory-answered g c =
    inr (record {
      input = c.in-Ok.input;
      read = c.in-Ok.ensures.ok;
      pages = c.in-Err-NoMemory-answered.ensures.pages;
      output = search rules;
    })
