use Rattle.std.proofs.Common.{codes, rules, subst, sym}
use Rattle.rmi_words.specs.HostWords.{IsAddress, IsOwnHost, IsRecordOf}
use Rattle.rmi_words.specs.Options.{IsSmallOf}
use Rattle.rmi_words.specs.Values.{IsCommandOf}
use Rattle.rmi_words.proofs.Lacking.{host_address, host_host, host_told, lacks}
use Rattle.rmi_words.proofs.host_words.read_host.Goals as goal

pub returns-in-None : goal.returns-in-None
returns-in-None c usage command told =
    let host = host_told _ command told in
    c.in-None.ensures host.0.port (subst (IsSmallOf host.0.port) (sym c.get_str.ensures) host.1.port_is)

pub returns-in-None-read_lease_options : goal.returns-in-None-read_lease_options
returns-in-None-read_lease_options c usage command told =
    let host = host_told _ command told in
    c.in-None-read_lease_options.ensures host.0.options host.1.options_are

pub returns-in-None-read_record : goal.returns-in-None-read_record
returns-in-None-read_record c usage command told =
    let host = host_told _ command told in
    c.in-None-read_record.ensures host.0.output (subst (IsRecordOf host.0.output) (sym c.get_str-2.ensures) host.1.output_is)

pub returns-in_err-address : goal.returns-in_err-address
returns-in_err-address c =
    lacks (IsCommandOf (codes "host")) IsAddress c.in_err-address.field-0.0 c.from_residual.result c.read_address.result _ _ _ (search rules) (search rules) c.get_str-3.ensures c.read_address.ensures (host_address _)

pub returns-in_err-host : goal.returns-in_err-host
returns-in_err-host c =
    lacks (IsCommandOf (codes "host")) IsOwnHost c.in_err-host.field-0.0 c.from_residual-in_err-host.result c.read_own_host.result _ _ _ (search rules) (search rules) c.get_str-4.ensures c.read_own_host.ensures (host_host _)
