-- What a site gives a server.
use Rattle.std.specs.Prelude.{ℕ, ◌%◌, pos, Bool, false, List, slice_index}
use Rattle.system_objects.specs.declared.setup.TheConstants.{DRAWS_BEGIN_BELOW}
use Rattle.history.specs.declared.asks.SpaceConfig.{SpaceConfig}
use Rattle.conn_server.specs.Plans.{low_signed}
use Rattle.conn_server.specs.declared.plan.ServePlan.{ServePlan}
use Rattle.rmi_server.specs.declared.site.Site.{Site}

-- The rules of the server's objects: leases of ten minutes, waits of five, and an identifier made from the seed.
abbrev pub config_of : List ℕ → Bool → SpaceConfig
config_of seed stored = record {
  lease_ms = 600000;
  ack_ms = 300000;
  uid = record { unique = low_signed (slice_index seed 2); time = pos (slice_index seed 3 % DRAWS_BEGIN_BELOW); count = pos 0 };
  stored = stored;
}

-- The plan of a server of so many connections: its own end is the site's host and port, and clients may not bind names.
abbrev pub plan_of : Site → ℕ → ServePlan
plan_of site count = record { count = count; host = site.host.now; port = pos site.port; binding = false; seed = site.seed }
