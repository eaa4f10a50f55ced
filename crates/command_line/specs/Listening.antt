-- What the words ask of the mode `serve`.
use Rattle.std.specs.Prelude.{◌≤◌, ℕ}

-- the greatest number of a port; port 0 is any free one
abbrev pub most_port : ℕ
most_port = 65535

abbrev pub least_connections : ℕ
least_connections = 1

abbrev pub most_connections : ℕ
most_connections = 1024

-- where sessions connect, and how many are served
pub record ListeningAsked : Type 0 where
  pub port : ℕ
  pub connections : ℕ

pub record IsListening (port connections : ℕ) : Type 0 where
  pub port_most : port ≤ most_port
  pub connections_least : least_connections ≤ connections
  pub connections_most : connections ≤ most_connections
