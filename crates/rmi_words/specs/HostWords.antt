-- The words of `host`.
use Rattle.std.specs.Prelude.{◌≡◌, ◌≤◌, ℕ, false, List, ◌∷◌, length, codes, drop, take, Option, Some, None, slice_get}
use Rattle.std.specs.List.{list_any}
use Rattle.mod_utf.specs.Utf.{utf}
use Rattle.wire_io.specs.declared.limits.TheConstants.{MAX_HOST_BYTES}
use Rattle.rmi_words.specs.Options.{AreGivenBy, IsInRange, IsSmallOf}
use Rattle.rmi_words.specs.Program.{is_option}
use Rattle.mod_utf.specs.Texts.{units_of}
use Rattle.rmi_words.specs.declared.host_words.HostWords.{HostWords}
use Rattle.rmi_words.specs.declared.host_words.Record.{Record}
use Rattle.rmi_words.specs.declared.host_words.Record.TheVariants.{Silent, Journal}

-- There is a word, and it is this address, of at most 255 bytes.
abbrev pub IsAddress : List ℕ → Option (List ℕ) → Type 0
IsAddress address (Some word) = (address ≡ word) × (length address ≤ MAX_HOST_BYTES)
IsAddress address None = ⊥

-- There is a word, and it is this host, of at most 255 bytes as modified UTF.
abbrev pub IsOwnHost : List ℕ → Option (List ℕ) → Type 0
IsOwnHost host (Some word) = (host ≡ units_of word) × (length (utf host) ≤ MAX_HOST_BYTES)
IsOwnHost host None = ⊥

-- What is printed is told by a word; where there is none, it is what is exported at the end.
abbrev pub IsRecordOf : Record → Option (List ℕ) → Type 0
IsRecordOf Silent (Some word) = word ≡ codes "silent"
IsRecordOf Journal (Some word) = word ≡ codes "journal"
IsRecordOf output None = output ≡ Silent

-- What `host` is told by these words: an address, a host, a port, up to three words that give its options, and one that says what is printed.
pub record IsHostIn (host : HostWords) (words : List (List ℕ)) : Type 0 where
  pub address_is : IsAddress host.address (slice_get words 0)
  pub host_is : IsOwnHost host.host (slice_get words 1)
  pub port_is : IsSmallOf host.port (slice_get words 2)
  pub options_are : AreGivenBy host.options (take 3 (drop 3 words))
  pub output_is : IsRecordOf host.output (slice_get words 6)
  pub no_more : length words ≤ 7

-- These words are `host`, and the words for what it is told. None begins with `-`.
pub record IsHost (host : HostWords) (words : List (List ℕ)) : Type 0 where
  pub rest : List (List ℕ)
  pub words_are : words ≡ codes "host" ∷ rest
  pub plain : list_any is_option rest ≡ false
  pub told : IsHostIn host rest

-- There is a port, the host is one that references can name, and the options are in range.
pub record IsHostInRange (host : HostWords) : Type 0 where
  pub port : 1 ≤ host.port
  pub port_fits : host.port ≤ 65535
  pub short : length (utf host.host) ≤ MAX_HOST_BYTES
  pub options : IsInRange host.options
