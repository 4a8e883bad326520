-- Where a part of what words tell is not read, the whole is not.
use Rattle.std.proofs.Common.{◌≡◌, ℕ, List, Option, Result, Err, codes, sym, subst}
use Rattle.method_hash.specs.declared.method.Method.{Method}
use Rattle.rmi_words.proofs.MethodTexts.{one_method}
use Rattle.rmi_words.proofs.Naming.{named_by}
use Rattle.rmi_words.specs.CallWords.{AreArguments, IsMethodOf}
use Rattle.rmi_words.specs.Clients.{IsAddressIn, IsNamedIn, IsTextIn, Reads, named_words}
use Rattle.rmi_words.specs.HostWords.{IsAddress, IsOwnHost}
use Rattle.rmi_words.specs.Values.{Given, IsCallOf, IsCommandOf, IsHostOf, IsToldIn}
use Rattle.rmi_words.specs.declared.call_words.Argument.{Argument}
use Rattle.rmi_words.specs.declared.call_words.CallWords.{CallWords}
use Rattle.rmi_words.specs.declared.client.ServerAddress.{ServerAddress}
use Rattle.rmi_words.specs.declared.command.Command.{Command}
use Rattle.rmi_words.specs.declared.command.WordsFault.{WordsFault}
use Rattle.rmi_words.specs.declared.host_words.HostWords.{HostWords}

pub lacks : {X Y Part Seen : Type 0} (Tells : X → Y → Type 0) (TellsPart : Part → Seen → Type 0) (fault : WordsFault) (result : Result X WordsFault) (found : Result Part WordsFault) (y : Y) (given seen : Seen)
    → result ≡ Err fault → found ≡ Err fault → given ≡ seen → Reads TellsPart found given → ((x : X) → Tells x y → (part : Part) × TellsPart part seen) → Reads Tells result y
lacks Tells TellsPart fault result found y given seen is is2 same reads has =
    let lacking : Reads TellsPart (Err fault) given = subst (λ o. Reads TellsPart o given) is2 reads in
    subst (λ o. Reads Tells o y) (sym is) (λ usage x told. let part = has x told in lacking usage part.0 (subst (λ s. TellsPart part.0 s) (sym same) part.1))

-- ---- the parts of what commands are told

abbrev HasServer : Given → Type 0
HasServer given = (server : ServerAddress) × IsAddressIn server (named_words given.value)

abbrev HasText : Option (List ℕ) → Type 0
HasText word = (text : List ℕ) × IsTextIn text word

pub list_server : (given : Given) (c : Command) → IsCommandOf (codes "list") c given → HasServer given
list_server given c g =
    let of = named_by (codes "list") c (sym g.0) in
    (of.0, subst (λ (x : Command). IsToldIn x given) of.1 g.1)

lookup_named : (given : Given) (c : Command) → IsCommandOf (codes "lookup") c given → (server : ServerAddress) × (name : List ℕ) × IsNamedIn server name (named_words given.value)
lookup_named given c g =
    let of = named_by (codes "lookup") c (sym g.0) in
    (of.0, of.1, subst (λ (x : Command). IsToldIn x given) of.2 g.1)

pub lookup_server : (given : Given) (c : Command) → IsCommandOf (codes "lookup") c given → HasServer given
lookup_server given c g = let told = lookup_named given c g in (told.0, told.2.server_is)

pub lookup_name : (given : Given) (c : Command) → IsCommandOf (codes "lookup") c given → HasText (given.value (codes "NAME"))
lookup_name given c g = let told = lookup_named given c g in (told.1, told.2.name_is)

unbind_named : (given : Given) (c : Command) → IsCommandOf (codes "unbind") c given → (server : ServerAddress) × (name : List ℕ) × IsNamedIn server name (named_words given.value)
unbind_named given c g =
    let of = named_by (codes "unbind") c (sym g.0) in
    (of.0, of.1, subst (λ (x : Command). IsToldIn x given) of.2 g.1)

pub unbind_server : (given : Given) (c : Command) → IsCommandOf (codes "unbind") c given → HasServer given
unbind_server given c g = let told = unbind_named given c g in (told.0, told.2.server_is)

pub unbind_name : (given : Given) (c : Command) → IsCommandOf (codes "unbind") c given → HasText (given.value (codes "NAME"))
unbind_name given c g = let told = unbind_named given c g in (told.1, told.2.name_is)

bind_named : (given : Given) (c : Command) → IsCommandOf (codes "bind") c given
    → (server : ServerAddress) × (name from : List ℕ) × (IsNamedIn server name (named_words given.value) × IsTextIn from (given.value (codes "FROM")))
bind_named given c g =
    let of = named_by (codes "bind") c (sym g.0) in
    (of.0, of.1, of.2, subst (λ (x : Command). IsToldIn x given) of.3 g.1)

pub bind_server : (given : Given) (c : Command) → IsCommandOf (codes "bind") c given → HasServer given
bind_server given c g = let told = bind_named given c g in (told.0, told.3.0.server_is)

pub bind_name : (given : Given) (c : Command) → IsCommandOf (codes "bind") c given → HasText (given.value (codes "NAME"))
bind_name given c g = let told = bind_named given c g in (told.1, told.3.0.name_is)

pub bind_from : (given : Given) (c : Command) → IsCommandOf (codes "bind") c given → HasText (given.value (codes "FROM"))
bind_from given c g = let told = bind_named given c g in (told.2, told.3.1)

-- What `call` is told.
pub call_told : (given : Given) (c : Command) → IsCommandOf (codes "call") c given → (call : CallWords) × IsCallOf call given
call_told given c g =
    let of = named_by (codes "call") c (sym g.0) in
    (of.0, subst (λ (x : Command). IsToldIn x given) of.1 g.1)

pub call_server : (given : Given) (c : Command) → IsCommandOf (codes "call") c given → HasServer given
call_server given c g = let told = call_told given c g in (told.0.server, told.1.name_is.server_is)

pub call_name : (given : Given) (c : Command) → IsCommandOf (codes "call") c given → HasText (given.value (codes "NAME"))
call_name given c g = let told = call_told given c g in (told.0.name, told.1.name_is.name_is)

pub call_method : (given : Given) (c : Command) → IsCommandOf (codes "call") c given → (method : Method) × IsMethodOf method (given.value (codes "METHOD"))
call_method given c g = let told = call_told given c g in (told.0.method, told.1.method_is)

-- Its arguments are those of the one method that the word METHOD is the text of.
pub call_arguments : (given : Given) (method : Method) → IsMethodOf method (given.value (codes "METHOD")) → (c : Command) → IsCommandOf (codes "call") c given
    → (arguments : List Argument) × AreArguments method.params arguments given.arguments
call_arguments given method is c g =
    let told = call_told given c g in
    (told.0.arguments, subst (λ (m : Method). AreArguments m.params told.0.arguments given.arguments) (one_method (given.value (codes "METHOD")) told.0.method method told.1.method_is is) told.1.arguments_are)

-- What `host` is told.
pub host_told : (given : Given) (c : Command) → IsCommandOf (codes "host") c given → (host : HostWords) × IsHostOf host given.value
host_told given c g =
    let of = named_by (codes "host") c (sym g.0) in
    (of.0, subst (λ (x : Command). IsToldIn x given) of.1 g.1)

pub host_address : (given : Given) (c : Command) → IsCommandOf (codes "host") c given → (address : List ℕ) × IsAddress address (given.value (codes "ADDRESS"))
host_address given c g = let told = host_told given c g in (told.0.address, told.1.address_is)

pub host_host : (given : Given) (c : Command) → IsCommandOf (codes "host") c given → (host : List ℕ) × IsOwnHost host (given.value (codes "HOST"))
host_host given c g = let told = host_told given c g in (told.0.host, told.1.host_is)
