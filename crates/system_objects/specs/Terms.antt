-- What of a connection's setup stays as it is.
use Rattle.std.specs.Prelude.{ℕ, ℤ, Bool, List}
use Rattle.system_objects.specs.declared.book.Kind.{Kind}
use Rattle.system_objects.specs.declared.setup.Setup.{Setup}

-- the number of the connection, the hosts and ports of its two ends, whether names may be bound, the mark of clients
-- that name no virtual machine, the base of the identifiers that are drawn, and the kinds of objects that can be called
pub record Terms : Type 0 where
  pub by : ℕ
  pub peer_host : List ℕ
  pub peer_port : ℤ
  pub host : List ℕ
  pub port : ℤ
  pub binding : Bool
  pub mark : List ℕ
  pub unique : ℤ
  pub time : ℤ
  pub kinds : List Kind

-- the terms of kinds and a setup: all of it, but how many identifiers were drawn
abbrev pub terms_of : List Kind → Setup → Terms
terms_of kinds setup = record {
  by = setup.by;
  peer_host = setup.peer_host;
  peer_port = setup.peer_port;
  host = setup.host;
  port = setup.port;
  binding = setup.binding;
  mark = setup.mark;
  unique = setup.draw.unique;
  time = setup.draw.time;
  kinds = kinds;
}
