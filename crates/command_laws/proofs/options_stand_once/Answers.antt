use Rattle.command_laws.proofs.WordLaws.{connections_once, number_once, out_once, port_once, topics_once, workers_once}
use Rattle.command_laws.proofs.options_stand_once.Goals as goal

pub returns : goal.returns
returns c = record {
  workers = workers_once;
  number = number_once;
  topics = topics_once;
  port = port_once;
  connections = connections_once;
  out = out_once;
}
