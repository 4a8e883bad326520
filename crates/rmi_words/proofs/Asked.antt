-- What holds wherever words ask for a command.
use Rattle.std.proofs.Common.{◌≡◌, ℕ, ◌≤◌, ◌<◌, ◌^◌, List, [], ◌∷◌, get_or, drop, take, length, Bool, true, false, Option, Some, None, codes, refl, ap, ap₂, sym, subst, ◌∙◌, arith}
use Rattle.std.specs.Prelude.{slice_get}
use Rattle.std.proofs.lemmas.Fmt.{decimal_injective}
use Rattle.history.specs.declared.limits.TheConstants.{MAX_DURATION_MS}
use Rattle.method_hash.specs.declared.method.Method.{Method}
use Rattle.mod_utf.specs.Utf.{utf}
use Rattle.wire_io.specs.declared.limits.TheConstants.{MAX_HOST_BYTES}
use Rattle.rmi_words.proofs.ArgumentWords.{same_arguments}
use Rattle.rmi_words.proofs.DrillWords.{one_drill}
use Rattle.rmi_words.proofs.MethodTexts.{one_method}
use Rattle.rmi_words.proofs.Naming.{IsOf, named_by, topic_in}
use Rattle.rmi_words.specs.CallWords.{AreArguments, IsCall, IsMethodOf}
use Rattle.rmi_words.specs.Clients.{ClientWords, IsAddressIn, IsClient, IsNamedIn, IsTextIn, IsToldBy, placed_words}
use Rattle.rmi_words.specs.Command.{AskFor, IsAnswer, IsServe, IsWordOfDrill, word_of_text, words_of_topic}
use Rattle.rmi_words.specs.HostWords.{IsAddress, IsHost, IsHostIn, IsHostInRange, IsOwnHost, IsRecordOf}
use Rattle.rmi_words.specs.Options.{AreGivenBy, IsInRange, IsServeInRange, IsBindingOf, IsDurationOf, IsSmallOf, SpellsUpTo}
use Rattle.rmi_words.specs.Values.{name_of}
use Rattle.rmi_words.specs.declared.call_words.Argument.{Argument}
use Rattle.rmi_words.specs.declared.call_words.CallWords.{CallWords}
use Rattle.rmi_words.specs.declared.client.ClientCommand.{ClientCommand}
use Rattle.rmi_words.specs.declared.client.ClientCommand.TheVariants.{List as ListNames, Lookup, Bind, Unbind}
use Rattle.rmi_words.specs.declared.client.ServerAddress.{ServerAddress}
use Rattle.rmi_words.specs.declared.host_words.HostWords.{HostWords}
use Rattle.rmi_words.specs.declared.host_words.Record.{Record}
use Rattle.rmi_words.specs.declared.host_words.Record.TheVariants as prints
use Rattle.rmi_words.specs.declared.options.ServeWords.{ServeWords}
use Rattle.rmi_words.specs.declared.options.LeaseOptions.{LeaseOptions}
use Rattle.rmi_words.specs.declared.command.Command.{Command}
use Rattle.rmi_words.specs.declared.command.Command.TheVariants.{Answer, Serve, Host, Client, Call, Replay, Show, Drill, World, Class, Help}
use Rattle.rmi_words.specs.declared.command.ClassOutput.TheVariants as outputs
use Rattle.rmi_words.specs.declared.command.HelpTopic.{HelpTopic}
use Rattle.rmi_words.specs.declared.command.HelpTopic.TheVariants as topics
use Rattle.rmi_words.specs.declared.command.DrillText.{DrillText}
use Rattle.rmi_words.specs.declared.command.DrillText.TheVariants.{Summary, Journal}

-- ---- ranges

duration_in_range : (default n : ℕ) (word : Option (List ℕ)) → 1 ≤ default → default ≤ MAX_DURATION_MS → IsDurationOf default n word → (1 ≤ n) × (n ≤ MAX_DURATION_MS)
duration_in_range default n (Some word) some short spells = (spells.0, spells.1)
duration_in_range default n None some short is = (omega (arith, is, some), omega (arith, is, short))

options_in_range : (options : LeaseOptions) (words : List (List ℕ)) → AreGivenBy options words → IsInRange options
options_in_range options words given =
    let lease = duration_in_range 600000 options.lease_ms (slice_get words 1) (omega arith) (omega arith) given.lease in
    let ack = duration_in_range 300000 options.ack_ms (slice_get words 2) (omega arith) (omega arith) given.ack in
    record { some_lease = lease.0; short_lease = lease.1; some_ack = ack.0; short_ack = ack.1 }

-- The options of `answer` are in range.
pub answer_in_range : (words : List (List ℕ)) (options : LeaseOptions) → AskFor words (Answer options) → IsInRange options
answer_in_range words options asked = options_in_range options asked.rest asked.options_are

-- So is what `serve` is told.
pub serve_in_range : (words : List (List ℕ)) (serve : ServeWords) → AskFor words (Serve serve) → IsServeInRange serve
serve_in_range words serve asked = record {
  port = asked.told.port_is.0;
  port_fits = asked.told.port_is.1;
  count = asked.told.count_is.0;
  count_fits = asked.told.count_is.1;
  options = options_in_range serve.options asked.rest asked.told.options_are;
}

small_in_range : (n : ℕ) (word : Option (List ℕ)) → IsSmallOf n word → (1 ≤ n) × (n ≤ 65535)
small_in_range n (Some word) small = (small.0, small.1)
small_in_range n None small = absurd small

short_host : (host : List ℕ) (word : Option (List ℕ)) → IsOwnHost host word → length (utf host) ≤ MAX_HOST_BYTES
short_host host (Some word) is = is.1
short_host host None is = absurd is

-- So is what `host` is told.
pub host_in_range : (words : List (List ℕ)) (host : HostWords) → AskFor words (Host host) → IsHostInRange host
host_in_range words host asked =
    let port = small_in_range host.port (slice_get asked.rest 2) asked.told.port_is in record {
      port = port.0;
      port_fits = port.1;
      short = short_host host.host (slice_get asked.rest 1) asked.told.host_is;
      options = options_in_range host.options (take 3 (drop 3 asked.rest)) asked.told.options_are;
    }

-- ---- one command

same_binding : (a b : Bool) (word : Option (List ℕ)) → IsBindingOf a word → IsBindingOf b word → a ≡ b
same_binding true true word x y = refl
same_binding false false word x y = refl
same_binding true false (Some word) x y = let both = sym x ∙ y in cc
same_binding true false None x y = x
same_binding false true (Some word) x y = let both = sym x ∙ y in cc
same_binding false true None x y = sym y

same_number : (most a b : ℕ) (word : List ℕ) → most < 2 ^ 64 → SpellsUpTo most a word → SpellsUpTo most b word → a ≡ b
same_number most a b word fits x y = decimal_injective a b (omega (arith, fits, x.1)) (omega (arith, fits, y.1)) (sym x.2 ∙ y.2)

same_duration : (default a b : ℕ) (word : Option (List ℕ)) → IsDurationOf default a word → IsDurationOf default b word → a ≡ b
same_duration default a b (Some word) x y = same_number MAX_DURATION_MS a b word (omega arith) x y
same_duration default a b None x y = x ∙ sym y

abbrev options_with : Bool → ℕ → ℕ → LeaseOptions
options_with binding lease ack = record { binding = binding; lease_ms = lease; ack_ms = ack }

abbrev serve_with : ℕ → ℕ → LeaseOptions → ServeWords
serve_with port count options = record { port = port; count = count; options = options }

same_options : (words : List (List ℕ)) (a b : LeaseOptions) → AreGivenBy a words → AreGivenBy b words → a ≡ b
same_options words a b x y =
    let binding = same_binding a.binding b.binding (slice_get words 0) x.binding y.binding in
    let lease = same_duration 600000 a.lease_ms b.lease_ms (slice_get words 1) x.lease y.lease in
    let ack = same_duration 300000 a.ack_ms b.ack_ms (slice_get words 2) x.ack y.ack in
    ap (λ x. options_with x a.lease_ms a.ack_ms) binding ∙ ap (λ n. options_with b.binding n a.ack_ms) lease ∙ ap (λ n. options_with b.binding b.lease_ms n) ack

first_is : (words : List (List ℕ)) (command : Command) → AskFor words command → get_or words 0 [] ≡ name_of command
first_is words (Answer options) asked = ap (λ words. get_or words 0 []) asked.words_are
first_is words (Serve serve) asked = ap (λ words. get_or words 0 []) asked.words_are
first_is words (Host host) asked = ap (λ words. get_or words 0 []) asked.words_are
first_is words (Client command) asked = ap (λ words. get_or words 0 []) asked.words_are
first_is words (Call call) asked = ap (λ words. get_or words 0 []) asked.words_are
first_is words Replay asked = ap (λ words. get_or words 0 []) asked
first_is words Show asked = ap (λ words. get_or words 0 []) asked
first_is words World asked = ap (λ words. get_or words 0 []) asked
first_is words (Drill text seed rounds) asked = ap (λ words. get_or words 0 []) asked.words_are
first_is words (Class output) asked = ap (λ words. get_or words 0 []) asked
first_is words (Help topic) asked = ap (λ words. get_or words 0 []) asked

-- Of two commands that the same words ask for, the second is of the first's word.
same_name : (words : List (List ℕ)) (a b : Command) → AskFor words a → AskFor words b → IsOf (topic_in (name_of a)) b
same_name words a b x y = named_by (name_of a) b (sym (first_is words b y) ∙ first_is words a x)

same_answer : (words : List (List ℕ)) (a b : LeaseOptions) → IsAnswer a words → IsAnswer b words → a ≡ b
same_answer words a b x y =
    let rest : x.rest ≡ y.rest = ap (λ words. drop 1 words) (sym x.words_are ∙ y.words_are) in
    same_options y.rest a b (subst (λ words. AreGivenBy a words) rest x.options_are) y.options_are

same_serve : (words : List (List ℕ)) (a b : ServeWords) → IsServe a words → IsServe b words → a ≡ b
same_serve words a b x y =
    let same = sym x.words_are ∙ y.words_are in
    let rest : x.rest ≡ y.rest = ap (λ words. drop 3 words) same in
    let port : a.port ≡ b.port = same_number 65535 a.port b.port y.port (omega arith) (subst (λ word. SpellsUpTo 65535 a.port word) (ap (λ words. get_or words 1 []) same) x.told.port_is) y.told.port_is in
    let count : a.count ≡ b.count = same_number 65535 a.count b.count y.count (omega arith) (subst (λ word. SpellsUpTo 65535 a.count word) (ap (λ words. get_or words 2 []) same) x.told.count_is) y.told.count_is in
    let options : a.options ≡ b.options = same_options y.rest a.options b.options (subst (λ words. AreGivenBy a.options words) rest x.told.options_are) y.told.options_are in
    ap (λ n. serve_with n a.count a.options) port ∙ ap (λ n. serve_with b.port n a.options) count ∙ ap (λ x. serve_with b.port b.count x) options

same_text : (a b : List ℕ) (word : Option (List ℕ)) → IsTextIn a word → IsTextIn b word → a ≡ b
same_text a b (Some word) x y = x.0 ∙ sym y.0
same_text a b None x y = absurd x

same_small : (a b : ℕ) (word : Option (List ℕ)) → IsSmallOf a word → IsSmallOf b word → a ≡ b
same_small a b (Some word) x y = same_number 65535 a b word (omega arith) x y
same_small a b None x y = absurd x

abbrev server_with : List ℕ → ℕ → ServerAddress
server_with host port = record { host = host; port = port }

same_server : (words : ClientWords) (a b : ServerAddress) → IsAddressIn a words → IsAddressIn b words → a ≡ b
same_server words a b x y =
    let host = same_text a.host b.host words.host x.host_is y.host_is in
    let port = same_small a.port b.port words.port x.port_is y.port_is in
    ap (λ (h : List ℕ). server_with h a.port) host ∙ ap (λ (n : ℕ). server_with b.host n) port

same_list : (words : ClientWords) (a b : ServerAddress) → IsToldBy (ListNames a) words → IsToldBy (ListNames b) words → ListNames a ≡ ListNames b
same_list words a b x y = ap (λ (s : ServerAddress). ListNames s) (same_server words a b x y)

same_lookup : (words : ClientWords) (a b : ServerAddress) (n m : List ℕ) → IsToldBy (Lookup a n) words → IsToldBy (Lookup b m) words → Lookup a n ≡ Lookup b m
same_lookup words a b n m x y = ap₂ Lookup (same_server words a b x.server_is y.server_is) (same_text n m words.name x.name_is y.name_is)

same_unbind : (words : ClientWords) (a b : ServerAddress) (n m : List ℕ) → IsToldBy (Unbind a n) words → IsToldBy (Unbind b m) words → Unbind a n ≡ Unbind b m
same_unbind words a b n m x y = ap₂ Unbind (same_server words a b x.server_is y.server_is) (same_text n m words.name x.name_is y.name_is)

same_bind : (words : ClientWords) (a b : ServerAddress) (n m from from2 : List ℕ) → IsToldBy (Bind a n from) words → IsToldBy (Bind b m from2) words → Bind a n from ≡ Bind b m from2
same_bind words a b n m from from2 x y =
    ap₂ (λ s t. Bind s t from) (same_server words a b x.0.server_is y.0.server_is) (same_text n m words.name x.0.name_is y.0.name_is)
    ∙ ap (λ t. Bind b m t) (same_text from from2 words.from x.1 y.1)

same_address : (a b : List ℕ) (word : Option (List ℕ)) → IsAddress a word → IsAddress b word → a ≡ b
same_address a b (Some word) x y = x.0 ∙ sym y.0
same_address a b None x y = absurd x

same_own_host : (a b : List ℕ) (word : Option (List ℕ)) → IsOwnHost a word → IsOwnHost b word → a ≡ b
same_own_host a b (Some word) x y = x.0 ∙ sym y.0
same_own_host a b None x y = absurd x

same_output : (a b : Record) (word : Option (List ℕ)) → IsRecordOf a word → IsRecordOf b word → a ≡ b
same_output prints.Silent prints.Silent word x y = refl
same_output prints.Journal prints.Journal word x y = refl
same_output prints.Silent prints.Journal (Some word) x y = let both : codes "silent" ≡ codes "journal" = sym x ∙ y in absurd cc
same_output prints.Journal prints.Silent (Some word) x y = let both : codes "journal" ≡ codes "silent" = sym x ∙ y in absurd cc
same_output prints.Silent prints.Journal None x y = sym y
same_output prints.Journal prints.Silent None x y = x

abbrev host_with : List ℕ → List ℕ → ℕ → LeaseOptions → Record → HostWords
host_with address host port options output = record { address = address; host = host; port = port; options = options; output = output }

same_host_in : (words : List (List ℕ)) (a b : HostWords) → IsHostIn a words → IsHostIn b words → a ≡ b
same_host_in words a b x y =
    let address = same_address a.address b.address (slice_get words 0) x.address_is y.address_is in
    let host = same_own_host a.host b.host (slice_get words 1) x.host_is y.host_is in
    let port = same_small a.port b.port (slice_get words 2) x.port_is y.port_is in
    let options = same_options (take 3 (drop 3 words)) a.options b.options x.options_are y.options_are in
    let output = same_output a.output b.output (slice_get words 6) x.output_is y.output_is in
    ap (λ (t : List ℕ). host_with t a.host a.port a.options a.output) address
    ∙ ap (λ (t : List ℕ). host_with b.address t a.port a.options a.output) host
    ∙ ap (λ (n : ℕ). host_with b.address b.host n a.options a.output) port
    ∙ ap (λ (o : LeaseOptions). host_with b.address b.host b.port o a.output) options
    ∙ ap (λ (r : Record). host_with b.address b.host b.port b.options r) output

same_host : (words : List (List ℕ)) (a b : HostWords) → IsHost a words → IsHost b words → a ≡ b
same_host words a b x y =
    let rest : x.rest ≡ y.rest = ap (λ words. drop 1 words) (sym x.words_are ∙ y.words_are) in
    same_host_in y.rest a b (subst (IsHostIn a) rest x.told) y.told

-- Two commands of one word are told the same by the same words.
same_told : (words : List (List ℕ)) (a b : ClientCommand) → IsClient a words → IsClient b words
    → ((seen : ClientWords) → IsToldBy a seen → IsToldBy b seen → a ≡ b) → a ≡ b
same_told words a b x y same =
    let rest : x.rest ≡ y.rest = ap (λ words. drop 1 words) (sym x.words_are ∙ y.words_are) in
    same (placed_words y.rest) (subst (λ r. IsToldBy a (placed_words r)) rest x.told) y.told

abbrev call_with : ServerAddress → List ℕ → Method → List Argument → CallWords
call_with server name method arguments = record { server = server; name = name; method = method; arguments = arguments }

same_call : (words : List (List ℕ)) (a b : CallWords) → IsCall a words → IsCall b words → a ≡ b
same_call words a b x y =
    let rest : x.rest ≡ y.rest = ap (λ words. drop 1 words) (sym x.words_are ∙ y.words_are) in
    let named = subst (λ r. IsNamedIn a.server a.name (placed_words r)) rest x.name_is in
    let server = same_server (placed_words y.rest) a.server b.server named.server_is y.name_is.server_is in
    let name = same_text a.name b.name (slice_get y.rest 2) named.name_is y.name_is.name_is in
    let method : a.method ≡ b.method = one_method (slice_get y.rest 3) a.method b.method (subst (λ r. IsMethodOf a.method (slice_get r 3)) rest x.method_is) y.method_is in
    let told : AreArguments a.method.params a.arguments (drop 4 y.rest) = subst (λ r. AreArguments a.method.params a.arguments (drop 4 r)) rest x.arguments_are in
    let arguments = same_arguments b.method.params a.arguments b.arguments (drop 4 y.rest) (subst (λ (m : Method). AreArguments m.params a.arguments (drop 4 y.rest)) method told) y.arguments_are in
    ap (λ (s : ServerAddress). call_with s a.name a.method a.arguments) server
    ∙ ap (λ (n : List ℕ). call_with b.server n a.method a.arguments) name
    ∙ ap (λ (m : Method). call_with b.server b.name m a.arguments) method
    ∙ ap (λ (xs : List Argument). call_with b.server b.name b.method xs) arguments

same_drill : (words : List (List ℕ)) (text text2 : DrillText) (seed rounds seed2 rounds2 : ℕ) → IsWordOfDrill words (word_of_text text) seed rounds
    → IsWordOfDrill words (word_of_text text2) seed2 rounds2 → Drill text seed rounds ≡ Drill text2 seed2 rounds2
same_drill words text text2 seed rounds seed2 rounds2 x y =
    let same = one_drill words text text2 seed rounds seed2 rounds2 x y in
    let text_same = same.0 in
    let seed_same = same.1 in
    let rounds_same = same.2 in cc

-- the word that a topic is asked for by, or none
abbrev topic_word : HelpTopic → List ℕ
topic_word topic = get_or (words_of_topic topic) 0 []

topic_is : (topic : HelpTopic) → topic_in (topic_word topic) ≡ topic
topic_is topics.All = refl
topic_is topics.Answer = refl
topic_is topics.Serve = refl
topic_is topics.Host = refl
topic_is topics.List = refl
topic_is topics.Lookup = refl
topic_is topics.Bind = refl
topic_is topics.Unbind = refl
topic_is topics.Call = refl
topic_is topics.Replay = refl
topic_is topics.Show = refl
topic_is topics.Drill = refl
topic_is topics.Journal = refl
topic_is topics.World = refl
topic_is topics.Suid = refl
topic_is topics.SuidText = refl
topic_is topics.Describe = refl
topic_is topics.Help = refl

same_topic : (a b : HelpTopic) → topic_word a ≡ topic_word b → a ≡ b
same_topic a b e = sym (topic_is a) ∙ ap topic_in e ∙ topic_is b

-- Words ask for one command.
pub asked_once : (words : List (List ℕ)) (a b : Command) → AskFor words a → AskFor words b → a ≡ b
asked_once words (Answer options) b x y =
    let of = same_name words (Answer options) b x y in
    ap Answer (same_answer words options of.0 x (subst (AskFor words) of.1 y)) ∙ sym of.1
asked_once words (Serve serve) b x y =
    let of = same_name words (Serve serve) b x y in
    ap Serve (same_serve words serve of.0 x (subst (AskFor words) of.1 y)) ∙ sym of.1
asked_once words (Host host) b x y =
    let of = same_name words (Host host) b x y in
    ap Host (same_host words host of.0 x (subst (AskFor words) of.1 y)) ∙ sym of.1
asked_once words (Client (ListNames server)) b x y =
    let of = same_name words (Client (ListNames server)) b x y in
    ap Client (same_told words (ListNames server) (ListNames of.0) x (subst (AskFor words) of.1 y) (λ seen. same_list seen server of.0)) ∙ sym of.1
asked_once words (Client (Lookup server name)) b x y =
    let of = same_name words (Client (Lookup server name)) b x y in
    ap Client (same_told words (Lookup server name) (Lookup of.0 of.1) x (subst (AskFor words) of.2 y) (λ seen. same_lookup seen server of.0 name of.1)) ∙ sym of.2
asked_once words (Client (Bind server name from)) b x y =
    let of = same_name words (Client (Bind server name from)) b x y in
    ap Client (same_told words (Bind server name from) (Bind of.0 of.1 of.2) x (subst (AskFor words) of.3 y) (λ seen. same_bind seen server of.0 name of.1 from of.2)) ∙ sym of.3
asked_once words (Client (Unbind server name)) b x y =
    let of = same_name words (Client (Unbind server name)) b x y in
    ap Client (same_told words (Unbind server name) (Unbind of.0 of.1) x (subst (AskFor words) of.2 y) (λ seen. same_unbind seen server of.0 name of.1)) ∙ sym of.2
asked_once words (Call call) b x y =
    let of = same_name words (Call call) b x y in
    ap Call (same_call words call of.0 x (subst (AskFor words) of.1 y)) ∙ sym of.1
asked_once words Replay b x y = sym (same_name words Replay b x y)
asked_once words Show b x y = sym (same_name words Show b x y)
asked_once words (Drill Summary seed rounds) b x y =
    let of = same_name words (Drill Summary seed rounds) b x y in
    same_drill words Summary Summary seed rounds of.0.0 of.0.1 x (subst (AskFor words) of.1 y) ∙ sym of.1
asked_once words (Drill Journal seed rounds) b x y =
    let of = same_name words (Drill Journal seed rounds) b x y in
    same_drill words Journal Journal seed rounds of.0.0 of.0.1 x (subst (AskFor words) of.1 y) ∙ sym of.1
asked_once words World b x y = sym (same_name words World b x y)
asked_once words (Class outputs.Number) b x y = sym (same_name words (Class outputs.Number) b x y)
asked_once words (Class outputs.Text) b x y = sym (same_name words (Class outputs.Text) b x y)
asked_once words (Class outputs.Description) b x y = sym (same_name words (Class outputs.Description) b x y)
asked_once words (Help topic) b x y =
    let of = same_name words (Help topic) b x y in
    let same : words ≡ codes "help" ∷ words_of_topic of.0 = subst (AskFor words) of.1 y in
    ap Help (same_topic topic of.0 (ap (λ words. get_or words 1 []) (sym x ∙ same))) ∙ sym of.1
