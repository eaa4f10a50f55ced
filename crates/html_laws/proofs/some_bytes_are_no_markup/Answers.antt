use Rattle.html_laws.proofs.NoMarkupLaws.{no_lone_ampersand, no_lone_end, no_lone_sign, no_lone_start, no_script}
use Rattle.html_laws.proofs.some_bytes_are_no_markup.Goals as goal

pub returns : goal.returns
returns c = record {
  less = no_lone_sign;
  ampersand = no_lone_ampersand;
  started = no_lone_start;
  ended = no_lone_end;
  script = no_script;
}
