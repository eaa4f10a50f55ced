use Rattle.command_laws.proofs.WordLaws.{connections, number, port, topics, workers}
use Rattle.command_laws.proofs.numbers_in_bounds.Goals as goal

pub returns : goal.returns
returns c = record { workers = workers; number = number; topics = topics; port = port; connections = connections }
