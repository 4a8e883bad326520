-- The sample space that connections are served over, by the seed of the run and the options.
use Rattle.std.specs.Prelude.{ℕ, ◌%◌, pos, false, true, List, slice_index}
use Rattle.system_objects.specs.declared.setup.TheConstants.{DRAWS_BEGIN_BELOW}
use Rattle.history.specs.declared.asks.SpaceConfig.{SpaceConfig}
use Rattle.space.specs.Built.{SpaceHistory, space_of}
use Rattle.conn_server.specs.Plans.{low_signed}
use Rattle.sample_app.specs.Opened.{sample_events}
use Rattle.rmi_words.specs.declared.options.LeaseOptions.{LeaseOptions}

-- What the space keeps to: the lease and the wait for an acknowledgement are those of the options, the identifier is made from the seed, and
-- the events are stored.
abbrev pub served_space : List ℕ → LeaseOptions → SpaceConfig
served_space seed options = record {
  lease_ms = options.lease_ms;
  ack_ms = options.ack_ms;
  uid = record { unique = low_signed (slice_index seed 2); time = pos (slice_index seed 3 % DRAWS_BEGIN_BELOW); count = pos 0 };
  stored = true;
}

-- The space as it was opened: an object of each of the sample's kinds, and their names.
abbrev pub served_opening : List ℕ → LeaseOptions → SpaceHistory
served_opening seed options = space_of (served_space seed options) (sample_events (served_space seed options))

-- The same of a space that does not keep its events.
abbrev pub hosted_space : List ℕ → LeaseOptions → SpaceConfig
hosted_space seed options = record (served_space seed options) { stored = false }

abbrev pub hosted_opening : List ℕ → LeaseOptions → SpaceHistory
hosted_opening seed options = space_of (hosted_space seed options) (sample_events (hosted_space seed options))
