-- The options on which a space is served, as the words may give them.
use Rattle.std.specs.Prelude.{◌≡◌, ℕ, ◌≤◌, Bool, true, false, Option, Some, None, List, length, codes, decimal, slice_get}
use Rattle.history.specs.declared.limits.TheConstants.{MAX_DURATION_MS}
use Rattle.rmi_words.specs.declared.options.LeaseOptions.{LeaseOptions}
use Rattle.rmi_words.specs.declared.options.ServeWords.{ServeWords}

-- A lease, and the wait for an acknowledgement, last 1 to 2^40 milliseconds.
pub record IsInRange (options : LeaseOptions) : Type 0 where
  pub some_lease : 1 ≤ options.lease_ms
  pub short_lease : options.lease_ms ≤ MAX_DURATION_MS
  pub some_ack : 1 ≤ options.ack_ms
  pub short_ack : options.ack_ms ≤ MAX_DURATION_MS

-- The options where the words give none.
abbrev pub default_options : LeaseOptions
default_options = record { binding = false; lease_ms = 600000; ack_ms = 300000 }

-- There is a port, at least one link is served, and the options are in range.
pub record IsServeInRange (serve : ServeWords) : Type 0 where
  pub port : 1 ≤ serve.port
  pub port_fits : serve.port ≤ 65535
  pub count : 1 ≤ serve.count
  pub count_fits : serve.count ≤ 65535
  pub options : IsInRange serve.options

-- Whether clients may bind names is told by a word; where there is none, it is the default.
abbrev pub IsBindingOf : Bool → Option (List ℕ) → Type 0
IsBindingOf true (Some word) = word ≡ codes "open"
IsBindingOf false (Some word) = word ≡ codes "closed"
IsBindingOf binding None = binding ≡ default_options.binding

-- The word spells 1 to this number.
abbrev pub SpellsUpTo : ℕ → ℕ → List ℕ → Type 0
SpellsUpTo most n word = (1 ≤ n) × (n ≤ most) × (word ≡ decimal n)

-- There is a word, and it spells 1 to 65535.
abbrev pub IsSmallOf : ℕ → Option (List ℕ) → Type 0
IsSmallOf n (Some word) = SpellsUpTo 65535 n word
IsSmallOf n None = ⊥

-- The word spells the duration, 1 to 2^40 milliseconds; where there is none, it is the default.
abbrev pub IsDurationOf : ℕ → ℕ → Option (List ℕ) → Type 0
IsDurationOf default duration (Some word) = SpellsUpTo MAX_DURATION_MS duration word
IsDurationOf default duration None = duration ≡ default

-- At most three words give the options: BINDING, LEASE and ACK, in this order. Those that are left out, at the end, are the default's.
pub record AreGivenBy (options : LeaseOptions) (words : List (List ℕ)) : Type 0 where
  pub binding : IsBindingOf options.binding (slice_get words 0)
  pub lease : IsDurationOf default_options.lease_ms options.lease_ms (slice_get words 1)
  pub ack : IsDurationOf default_options.ack_ms options.ack_ms (slice_get words 2)
  pub no_more : length words ≤ 3
