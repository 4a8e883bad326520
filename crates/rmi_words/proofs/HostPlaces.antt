-- How many words `host` takes, and what is found at their places.
use Rattle.std.proofs.Common.{◌≡◌, ◌≤◌, true≢false, ◌∷◌, [], List, length, codes, drop, take, refl, ap, sym, subst, arith}
use Rattle.std.specs.Prelude.{slice_get}
use Rattle.clap.specs.Faults.{defaults_fault}
use Rattle.clap.specs.Walk.{Text, first_of}
use Rattle.rmi_words.proofs.Levels.{is_right}
use Rattle.rmi_words.proofs.Places.{level_of, rows_of}
use Rattle.rmi_words.specs.Entries.{host_entry}
use Rattle.rmi_words.specs.HostWords.{IsAddress, IsHostIn, IsOwnHost, IsRecordOf}
use Rattle.rmi_words.specs.Options.{IsBindingOf, IsDurationOf, IsSmallOf}
use Rattle.rmi_words.specs.Values.{IsHostOf, Values}
use Rattle.rmi_words.specs.declared.host_words.HostWords.{HostWords}

pub host_fits : (ws : List Text) → level_of host_entry ws ≡ [] → (3 ≤ length ws) × (length ws ≤ 7)
unfolding level_of defaults_fault
host_fits [] ok = absurd (true≢false (ap is_right (sym ok)))
host_fits (a ∷ []) ok = absurd (true≢false (ap is_right (sym ok)))
host_fits (a ∷ b ∷ []) ok = absurd (true≢false (ap is_right (sym ok)))
host_fits (a ∷ b ∷ c ∷ []) ok = (omega arith, omega arith)
host_fits (a ∷ b ∷ c ∷ d ∷ []) ok = (omega arith, omega arith)
host_fits (a ∷ b ∷ c ∷ d ∷ e ∷ []) ok = (omega arith, omega arith)
host_fits (a ∷ b ∷ c ∷ d ∷ e ∷ f ∷ []) ok = (omega arith, omega arith)
host_fits (a ∷ b ∷ c ∷ d ∷ e ∷ f ∷ g ∷ []) ok = (omega arith, omega arith)
host_fits (a ∷ b ∷ c ∷ d ∷ e ∷ f ∷ g ∷ h ∷ ws) ok = absurd (true≢false (ap is_right (sym ok)))

pub host_passes : (ws : List Text) → 3 ≤ length ws → length ws ≤ 7 → level_of host_entry ws ≡ []
unfolding level_of defaults_fault
host_passes [] some few = absurd (omega arith)
host_passes (a ∷ []) some few = absurd (omega arith)
host_passes (a ∷ b ∷ []) some few = absurd (omega arith)
host_passes (a ∷ b ∷ c ∷ []) some few = refl
host_passes (a ∷ b ∷ c ∷ d ∷ []) some few = refl
host_passes (a ∷ b ∷ c ∷ d ∷ e ∷ []) some few = refl
host_passes (a ∷ b ∷ c ∷ d ∷ e ∷ f ∷ []) some few = refl
host_passes (a ∷ b ∷ c ∷ d ∷ e ∷ f ∷ g ∷ []) some few = refl
host_passes (a ∷ b ∷ c ∷ d ∷ e ∷ f ∷ g ∷ h ∷ ws) some few = absurd (omega arith)

-- What is given is at the places of these words.
record IsAtPlaces (value : Values) (ws : List Text) : Type 0 where
  address : value (codes "ADDRESS") ≡ slice_get ws 0
  host : value (codes "HOST") ≡ slice_get ws 1
  port : value (codes "PORT") ≡ slice_get ws 2
  binding : value (codes "BINDING") ≡ slice_get (take 3 (drop 3 ws)) 0
  lease : value (codes "LEASE") ≡ slice_get (take 3 (drop 3 ws)) 1
  ack : value (codes "ACK") ≡ slice_get (take 3 (drop 3 ws)) 2
  output : value (codes "RECORD") ≡ slice_get ws 6
  few : length (take 3 (drop 3 ws)) ≤ 3

at_places : (ws : List Text) → 3 ≤ length ws → length ws ≤ 7 → IsAtPlaces (λ name. first_of name (rows_of host_entry ws)) ws
unfolding rows_of
at_places [] some few = absurd (omega arith)
at_places (a ∷ []) some few = absurd (omega arith)
at_places (a ∷ b ∷ []) some few = absurd (omega arith)
at_places (a ∷ b ∷ c ∷ []) some few = record { address = refl; host = refl; port = refl; binding = refl; lease = refl; ack = refl; output = refl; few = omega arith }
at_places (a ∷ b ∷ c ∷ d ∷ []) some few = record { address = refl; host = refl; port = refl; binding = refl; lease = refl; ack = refl; output = refl; few = omega arith }
at_places (a ∷ b ∷ c ∷ d ∷ e ∷ []) some few = record { address = refl; host = refl; port = refl; binding = refl; lease = refl; ack = refl; output = refl; few = omega arith }
at_places (a ∷ b ∷ c ∷ d ∷ e ∷ f ∷ []) some few = record { address = refl; host = refl; port = refl; binding = refl; lease = refl; ack = refl; output = refl; few = omega arith }
at_places (a ∷ b ∷ c ∷ d ∷ e ∷ f ∷ g ∷ []) some few = record { address = refl; host = refl; port = refl; binding = refl; lease = refl; ack = refl; output = refl; few = omega arith }
at_places (a ∷ b ∷ c ∷ d ∷ e ∷ f ∷ g ∷ h ∷ ws) some few = absurd (omega arith)

-- There are 3 to 7 words.
pub three_words : (host : HostWords) (ws : List Text) → IsHostIn host ws → 3 ≤ length ws
three_words host [] told = absurd told.port_is
three_words host (a ∷ []) told = absurd told.port_is
three_words host (a ∷ b ∷ []) told = absurd told.port_is
three_words host (a ∷ b ∷ c ∷ ws) told = omega arith

pub seven_words : (host : HostWords) (ws : List Text) → IsHostIn host ws → length ws ≤ 7
seven_words host ws told = told.no_more

pub host_to : (host : HostWords) (ws : List Text) → 3 ≤ length ws → length ws ≤ 7 → IsHostOf host (λ name. first_of name (rows_of host_entry ws)) → IsHostIn host ws
host_to host ws some few told =
    let at = at_places ws some few in record {
      address_is = subst (IsAddress host.address) at.address told.address_is;
      host_is = subst (IsOwnHost host.host) at.host told.host_is;
      port_is = subst (IsSmallOf host.port) at.port told.port_is;
      options_are = record {
        binding = subst (IsBindingOf host.options.binding) at.binding told.options_are.binding;
        lease = subst (IsDurationOf 600000 host.options.lease_ms) at.lease told.options_are.lease;
        ack = subst (IsDurationOf 300000 host.options.ack_ms) at.ack told.options_are.ack;
        no_more = at.few;
      };
      output_is = subst (IsRecordOf host.output) at.output told.output_is;
      no_more = few;
    }

pub host_from : (host : HostWords) (ws : List Text) → IsHostIn host ws → IsHostOf host (λ name. first_of name (rows_of host_entry ws))
host_from host ws told =
    let at = at_places ws (three_words host ws told) (seven_words host ws told) in record {
      address_is = subst (IsAddress host.address) (sym at.address) told.address_is;
      host_is = subst (IsOwnHost host.host) (sym at.host) told.host_is;
      port_is = subst (IsSmallOf host.port) (sym at.port) told.port_is;
      options_are = record {
        binding = subst (IsBindingOf host.options.binding) (sym at.binding) told.options_are.binding;
        lease = subst (IsDurationOf 600000 host.options.lease_ms) (sym at.lease) told.options_are.lease;
        ack = subst (IsDurationOf 300000 host.options.ack_ms) (sym at.ack) told.options_are.ack;
      };
      output_is = subst (IsRecordOf host.output) (sym at.output) told.output_is;
    }
