-- The command that words ask for is the one that `clap` finds in them.
use Rattle.std.proofs.Common.{◌≡◌, ◌∙◌, ◌≤◌, ◌<◌, ◌^◌, ◌==◌, ◌||◌, ℕ, Bool, true, false, true≢false, ◌∷◌, [], List, Option, Some, None, Result, Ok, Err, IfOk, length, get_or, map, codes, decimal, refl, ap, sym, subst, arith}
use Rattle.std.specs.Prelude.{slice_get}
use Rattle.std.specs.List.{list_any}
use Rattle.std.specs.Str.Parse.{AllDigits, digits_value}
use Rattle.std.proofs.lemmas.Bool.Decides.{Decides-eqb}
use Rattle.std.proofs.lemmas.Fmt.{decimal_nonempty, digits_decimal}
use Rattle.std.proofs.lemmas.Str.Parse.{IsNumeralModel, not_in_digits, numerals_by_value, tells_digits}
use Rattle.clap.specs.Walk.{Row, Text, first_of}
use Rattle.history.specs.declared.limits.TheConstants.{MAX_DURATION_MS}
use Rattle.rmi_words.proofs.CallPlaces.{call_from, call_passes, call_to, four_words}
use Rattle.rmi_words.proofs.Found.{AreRead, Takes, answer_takes, bind_takes, call_enters, describe_takes, drill_takes, entered_found, entered_wrong, first_is, found, help_takes, host_takes, journal_takes, list_takes, lookup_takes, read, read_call, replay_takes, serve_takes, show_takes, suid_takes, suidtext_takes, unbind_takes, world_takes, wrong}
use Rattle.rmi_words.proofs.HostPlaces.{host_from, host_passes, host_to, seven_words, three_words}
use Rattle.rmi_words.proofs.Places.{answer_ack, answer_binding, answer_lease, answer_passes, bare, bare_passes, bind_passes, bind_words, drill_n, drill_passes, drill_seed, help_command, help_passes, journal_n, journal_passes, journal_seed, level_of, list_passes, list_words, lookup_passes, lookup_words, rows_of, serve_ack, serve_binding, serve_count, serve_lease, serve_passes, serve_port, unbind_passes, unbind_words}
use Rattle.rmi_words.proofs.Walking.{ArePlain}
use Rattle.rmi_words.specs.Clients.{IsClient, IsToldBy, Reads, count_of_client, named_words, placed_words, word_of_client}
use Rattle.rmi_words.specs.Command.{AskFor, AreInRange, IsAnswer, IsServe, IsWordOfDrill, words_of_topic}
use Rattle.rmi_words.specs.Entries.{Entry, answer_entry, bind_entry, call_entry, drill_entry, help_entry, host_entry, journal_entry, list_entry, lookup_entry, serve_entry, unbind_entry}
use Rattle.rmi_words.specs.Options.{AreGivenBy, IsBindingOf, IsDurationOf, IsSmallOf, SpellsUpTo}
use Rattle.rmi_words.specs.Program.{faults_in, found_in, is_option}
use Rattle.rmi_words.specs.Values.{AreOptionsOf, IsCommandIn, IsCallOf, IsCommandOf, IsDrillOf, IsHostOf, IsServeOf, IsToldIn, Values, given_in, name_of}
use Rattle.rmi_words.specs.declared.client.ClientCommand.{ClientCommand}
use Rattle.rmi_words.specs.declared.client.ClientCommand.TheVariants.{List as ListNames, Lookup, Bind, Unbind}
use Rattle.rmi_words.specs.declared.command.WordsFault.{WordsFault}
use Rattle.rmi_words.specs.declared.command.WordsFault.TheVariants.{Usage}
use Rattle.rmi_words.specs.declared.options.LeaseOptions.{LeaseOptions}
use Rattle.rmi_words.specs.declared.options.ServeWords.{ServeWords}
use Rattle.rmi_words.specs.declared.command.Command.{Command}
use Rattle.rmi_words.specs.declared.command.Command.TheVariants.{Answer, Serve, Host, Client, Call, Replay, Show, Drill, World, Class, Help}
use Rattle.rmi_words.specs.declared.command.DrillText.TheVariants.{Summary, Journal}
use Rattle.rmi_words.specs.declared.command.ClassOutput.TheVariants as outputs
use Rattle.rmi_words.specs.declared.command.HelpTopic.{HelpTopic}
use Rattle.rmi_words.specs.declared.command.HelpTopic.TheVariants as topics

-- ---- words that begin with no `-`

not_true : (b : Bool) → (b ≡ true → ⊥) → b ≡ false
not_true true never = absurd (never refl)
not_true false never = refl

plain_by : (w : List ℕ) → (get_or w 0 0 ≡ 45 → ⊥) → is_option w ≡ false
plain_by [] never = refl
plain_by (x ∷ xs) never = not_true (x == 45) (λ e. never ((Decides-eqb x 45).0 e))

plain_number : (n : ℕ) → n < 2 ^ 64 → is_option (decimal n) ≡ false
plain_number n fits =
    let model : IsNumeralModel (AllDigits 10) (digits_value 10) = numerals_by_value (AllDigits 10) tells_digits in
    plain_by (decimal n) (not_in_digits model (decimal n) 45 (digits_decimal model n fits) (λ h. omega (arith, h)) 0 (decimal_nonempty n fits))

plain_spelled : (most n : ℕ) (w : List ℕ) → most < 2 ^ 64 → SpellsUpTo most n w → is_option w ≡ false
plain_spelled most n w short spells = ap is_option spells.2 ∙ plain_number n (omega (arith, spells.1, short))

plain_binding : (b : Bool) (w : List ℕ) → IsBindingOf b (Some w) → is_option w ≡ false
plain_binding true w is = ap is_option is
plain_binding false w is = ap is_option is

plain_options : (options : LeaseOptions) (ws : List (List ℕ)) → AreGivenBy options ws → ArePlain ws
plain_options options [] given = tt
plain_options options (a ∷ []) given = (plain_binding options.binding a given.binding, tt)
plain_options options (a ∷ b ∷ []) given = (plain_binding options.binding a given.binding, (plain_spelled MAX_DURATION_MS options.lease_ms b (omega arith) given.lease, tt))
plain_options options (a ∷ b ∷ c ∷ []) given =
    (plain_binding options.binding a given.binding, (plain_spelled MAX_DURATION_MS options.lease_ms b (omega arith) given.lease, (plain_spelled MAX_DURATION_MS options.ack_ms c (omega arith) given.ack, tt)))
plain_options options (a ∷ b ∷ c ∷ d ∷ ws) given = absurd (omega (arith, given.no_more))

plain_topic : (topic : HelpTopic) → ArePlain (words_of_topic topic)
plain_topic topics.All = tt
plain_topic topics.Answer = (refl, tt)
plain_topic topics.Serve = (refl, tt)
plain_topic topics.Host = (refl, tt)
plain_topic topics.List = (refl, tt)
plain_topic topics.Lookup = (refl, tt)
plain_topic topics.Bind = (refl, tt)
plain_topic topics.Unbind = (refl, tt)
plain_topic topics.Call = (refl, tt)
plain_topic topics.Replay = (refl, tt)
plain_topic topics.Show = (refl, tt)
plain_topic topics.Drill = (refl, tt)
plain_topic topics.Journal = (refl, tt)
plain_topic topics.World = (refl, tt)
plain_topic topics.Suid = (refl, tt)
plain_topic topics.SuidText = (refl, tt)
plain_topic topics.Describe = (refl, tt)
plain_topic topics.Help = (refl, tt)

plain_drill : (seed rounds : ℕ) → AreInRange seed rounds → ArePlain (decimal seed ∷ decimal rounds ∷ [])
plain_drill seed rounds range = (plain_number seed (omega (arith, range.seed_fits)), (plain_number rounds (omega (arith, range.most)), tt))

plain_serve : (serve : ServeWords) (port count : List ℕ) (rest : List (List ℕ)) → SpellsUpTo 65535 serve.port port → SpellsUpTo 65535 serve.count count → AreGivenBy serve.options rest
    → ArePlain (port ∷ count ∷ rest)
plain_serve serve port count rest p n given = (plain_spelled 65535 serve.port port (omega arith) p, (plain_spelled 65535 serve.count count (omega arith) n, plain_options serve.options rest given))

pub any_plain : (words : List (List ℕ)) → ArePlain words → list_any is_option words ≡ false
any_plain [] p = refl
any_plain (w ∷ ws) p = rw p.0 (any_plain ws p.1)

neither : (a b : Bool) → (a || b) ≡ false → (a ≡ false) × (b ≡ false)
neither true b e = absurd (true≢false e)
neither false b e = (refl, e)

pub plain_any : (words : List (List ℕ)) → list_any is_option words ≡ false → ArePlain words
plain_any [] e = tt
plain_any (w ∷ ws) e =
    let parts = neither (is_option w) (list_any is_option ws) e in
    (parts.0, plain_any ws parts.1)

plain_client : (c : ClientCommand) → is_option (word_of_client c) ≡ false
plain_client (ListNames server) = refl
plain_client (Lookup server name) = refl
plain_client (Bind server name from) = refl
plain_client (Unbind server name) = refl

-- Words that ask for a command begin with no `-`.
pub asked_plain : (words : List (List ℕ)) (c : Command) → AskFor words c → ArePlain words
asked_plain words (Answer options) a = subst ArePlain (sym a.words_are) (refl, plain_options options a.rest a.options_are)
asked_plain words (Serve serve) a = subst ArePlain (sym a.words_are) (refl, plain_serve serve a.port a.count a.rest a.told.port_is a.told.count_is a.told.options_are)
asked_plain words (Host host) a = subst ArePlain (sym a.words_are) (refl, plain_any a.rest a.plain)
asked_plain words (Client c) a = subst ArePlain (sym a.words_are) (plain_client c, plain_any a.rest a.plain)
asked_plain words (Call call) a = subst ArePlain (sym a.words_are) (refl, plain_any a.rest a.plain)
asked_plain words Replay a = subst ArePlain (sym a) (refl, tt)
asked_plain words Show a = subst ArePlain (sym a) (refl, tt)
asked_plain words World a = subst ArePlain (sym a) (refl, tt)
asked_plain words (Drill Summary seed rounds) a = subst ArePlain (sym a.words_are) (refl, plain_drill seed rounds a.in_range)
asked_plain words (Drill Journal seed rounds) a = subst ArePlain (sym a.words_are) (refl, plain_drill seed rounds a.in_range)
asked_plain words (Class outputs.Number) a = subst ArePlain (sym a) (refl, tt)
asked_plain words (Class outputs.Text) a = subst ArePlain (sym a) (refl, tt)
asked_plain words (Class outputs.Description) a = subst ArePlain (sym a) (refl, tt)
asked_plain words (Help topic) a = subst ArePlain (sym a) (refl, plain_topic topic)

-- ---- what words that ask for a command come to

topic_short : (topic : HelpTopic) → length (words_of_topic topic) ≤ 1
topic_short topics.All = omega arith
topic_short topics.Answer = omega arith
topic_short topics.Serve = omega arith
topic_short topics.Host = omega arith
topic_short topics.List = omega arith
topic_short topics.Lookup = omega arith
topic_short topics.Bind = omega arith
topic_short topics.Unbind = omega arith
topic_short topics.Call = omega arith
topic_short topics.Replay = omega arith
topic_short topics.Show = omega arith
topic_short topics.Drill = omega arith
topic_short topics.Journal = omega arith
topic_short topics.World = omega arith
topic_short topics.Suid = omega arith
topic_short topics.SuidText = omega arith
topic_short topics.Describe = omega arith
topic_short topics.Help = omega arith

right_alone : {name does example : List ℕ} → Takes (bare name does example) 0 0 → (words : List (List ℕ)) → words ≡ name ∷ [] → faults_in words ≡ []
right_alone {name} {does} {example} t words is = ap faults_in is ∙ wrong (bare name does example) 0 0 t [] tt ∙ bare_passes name does example

found_alone : {name does example : List ℕ} → Takes (bare name does example) 0 0 → (words : List (List ℕ)) → words ≡ name ∷ [] → found_in words ≡ Some (name, rows_of (bare name does example) [])
found_alone {name} {does} {example} t words is = ap found_in is ∙ found (bare name does example) 0 0 t [] tt

-- the values in rows
abbrev values_in : List Row → Values
values_in rows name = first_of name rows

-- The program has a client's command, and each of its words is found at its place.
record IsPlaced (c : ClientCommand) : Type 0 where
  entry : Entry
  named : word_of_client c ≡ entry.name
  takes : Takes entry (count_of_client c) (count_of_client c)
  passes : (ws : List (List ℕ)) → count_of_client c ≤ length ws → length ws ≤ count_of_client c → level_of entry ws ≡ []
  words : (ws : List (List ℕ)) → length ws ≤ count_of_client c → named_words (values_in (rows_of entry ws)) ≡ placed_words ws

placed : (c : ClientCommand) → IsPlaced c
placed (ListNames server) = record { entry = list_entry; named = refl; takes = list_takes; passes = list_passes; words = list_words }
placed (Lookup server name) = record { entry = lookup_entry; named = refl; takes = lookup_takes; passes = lookup_passes; words = lookup_words }
placed (Bind server name from) = record { entry = bind_entry; named = refl; takes = bind_takes; passes = bind_passes; words = bind_words }
placed (Unbind server name) = record { entry = unbind_entry; named = refl; takes = unbind_takes; passes = unbind_passes; words = unbind_words }

begins_with : (c : ClientCommand) (words ws : List (List ℕ)) → words ≡ word_of_client c ∷ ws → words ≡ (placed c).entry.name ∷ ws
begins_with c words ws is = is ∙ ap (λ name. name ∷ ws) (placed c).named

client_right : (words : List (List ℕ)) (c : ClientCommand) → IsClient c words → faults_in words ≡ []
client_right words c a =
    let p = placed c in
    ap faults_in (begins_with c words a.rest a.words_are) ∙ wrong p.entry _ _ p.takes a.rest (plain_any a.rest a.plain)
    ∙ p.passes a.rest (omega (arith, a.count_is)) (omega (arith, a.count_is))

-- `clap` takes them.
pub asked_right : (words : List (List ℕ)) (c : Command) → AskFor words c → faults_in words ≡ []
asked_right words (Answer options) a = ap faults_in a.words_are ∙ wrong answer_entry 0 3 answer_takes a.rest (plain_options options a.rest a.options_are) ∙ answer_passes a.rest (omega arith) a.options_are.no_more
asked_right words (Serve serve) a =
    let ws = a.port ∷ a.count ∷ a.rest in
    ap faults_in a.words_are ∙ wrong serve_entry 2 5 serve_takes ws (plain_serve serve a.port a.count a.rest a.told.port_is a.told.count_is a.told.options_are)
    ∙ serve_passes ws (omega arith) (omega (arith, a.told.options_are.no_more))
asked_right words (Host host) a =
    ap faults_in a.words_are ∙ wrong host_entry 3 7 host_takes a.rest (plain_any a.rest a.plain)
    ∙ host_passes a.rest (three_words host a.rest a.told) (seven_words host a.rest a.told)
asked_right words (Client c) a = client_right words c a
asked_right words (Call call) a =
    ap faults_in a.words_are ∙ entered_wrong call_entry call_enters a.rest (plain_any a.rest a.plain) ∙ call_passes a.rest (four_words call.method a.rest a.method_is)
asked_right words Replay a = right_alone replay_takes words a
asked_right words Show a = right_alone show_takes words a
asked_right words World a = right_alone world_takes words a
asked_right words (Drill Summary seed rounds) a =
    ap faults_in a.words_are ∙ wrong drill_entry 2 2 drill_takes (decimal seed ∷ decimal rounds ∷ []) (plain_drill seed rounds a.in_range) ∙ drill_passes (decimal seed ∷ decimal rounds ∷ []) (omega arith) (omega arith)
asked_right words (Drill Journal seed rounds) a =
    ap faults_in a.words_are ∙ wrong journal_entry 2 2 journal_takes (decimal seed ∷ decimal rounds ∷ []) (plain_drill seed rounds a.in_range) ∙ journal_passes (decimal seed ∷ decimal rounds ∷ []) (omega arith) (omega arith)
asked_right words (Class outputs.Number) a = right_alone suid_takes words a
asked_right words (Class outputs.Text) a = right_alone suidtext_takes words a
asked_right words (Class outputs.Description) a = right_alone describe_takes words a
asked_right words (Help topic) a = ap faults_in a ∙ wrong help_entry 0 1 help_takes (words_of_topic topic) (plain_topic topic) ∙ help_passes (words_of_topic topic) (omega arith) (topic_short topic)

options_to : (options : LeaseOptions) (value : Values) (ws : List (List ℕ)) → length ws ≤ 3 → value (codes "BINDING") ≡ slice_get ws 0 → value (codes "LEASE") ≡ slice_get ws 1 → value (codes "ACK") ≡ slice_get ws 2
    → AreOptionsOf options value → AreGivenBy options ws
options_to options value ws few b l k o = record {
  binding = subst (IsBindingOf options.binding) b o.binding;
  lease = subst (IsDurationOf 600000 options.lease_ms) l o.lease;
  ack = subst (IsDurationOf 300000 options.ack_ms) k o.ack;
  no_more = few;
}

options_from : (options : LeaseOptions) (value : Values) (ws : List (List ℕ)) → value (codes "BINDING") ≡ slice_get ws 0 → value (codes "LEASE") ≡ slice_get ws 1 → value (codes "ACK") ≡ slice_get ws 2
    → AreGivenBy options ws → AreOptionsOf options value
options_from options value ws b l k o = record {
  binding = subst (IsBindingOf options.binding) (sym b) o.binding;
  lease = subst (IsDurationOf 600000 options.lease_ms) (sym l) o.lease;
  ack = subst (IsDurationOf 300000 options.ack_ms) (sym k) o.ack;
}

-- The value of this name in these rows, which are those found.
at : (name : List ℕ) (found rows : List Row) (x : Option (List ℕ)) → found ≡ rows → first_of name found ≡ x → first_of name rows ≡ x
at name found rows x same is = ap (first_of name) (sym same) ∙ is

answer_to : (options : LeaseOptions) (words ws : List (List ℕ)) (rows : List Row) → words ≡ codes "answer" ∷ ws → AreRead 0 3 (rows_of answer_entry ws) rows ws → AreOptionsOf options (values_in rows)
    → IsAnswer options words
answer_to options words ws rows e r o = record {
  rest = ws;
  words_are = e;
  options_are = options_to options (values_in rows) ws r.few (at _ _ rows _ r.rows_are (answer_binding ws r.few)) (at _ _ rows _ r.rows_are (answer_lease ws r.few)) (at _ _ rows _ r.rows_are (answer_ack ws r.few)) o;
}

small_to : (n : ℕ) (o : Option (List ℕ)) (w : List ℕ) → o ≡ Some w → IsSmallOf n o → SpellsUpTo 65535 n w
small_to n o w is small = subst (IsSmallOf n) is small

serve_to : (serve : ServeWords) (words ws : List (List ℕ)) (rows : List Row) → words ≡ codes "serve" ∷ ws → AreRead 2 5 (rows_of serve_entry ws) rows ws → IsServeOf serve (values_in rows)
    → IsServe serve words
serve_to serve words [] rows e r o = absurd (omega (arith, r.some))
serve_to serve words (a ∷ []) rows e r o = absurd (omega (arith, r.some))
serve_to serve words (a ∷ b ∷ ws) rows e r o =
    let all = a ∷ b ∷ ws in
    let few : length ws ≤ 3 = omega (arith, r.few) in record {
      port = a;
      count = b;
      rest = ws;
      words_are = e;
      told = record {
        port_is = small_to serve.port _ a (at _ _ rows _ r.rows_are (serve_port all r.few)) o.port;
        count_is = small_to serve.count _ b (at _ _ rows _ r.rows_are (serve_count all r.few)) o.count;
        options_are = options_to serve.options (values_in rows) ws few (at _ _ rows _ r.rows_are (serve_binding all r.few)) (at _ _ rows _ r.rows_are (serve_lease all r.few)) (at _ _ rows _ r.rows_are (serve_ack all r.few)) o.options;
      };
    }

some_same : (a b : List ℕ) → Some a ≡ Some b → a ≡ b
some_same a b e = cc

drill_to : (words ws : List (List ℕ)) (word : List ℕ) (value : Values) (seed rounds : ℕ) → words ≡ word ∷ ws → 2 ≤ length ws → length ws ≤ 2
    → value (codes "SEED") ≡ slice_get ws 0 → value (codes "N") ≡ slice_get ws 1 → IsDrillOf seed rounds value → IsWordOfDrill words word seed rounds
drill_to words [] word value seed rounds e some few s n o = absurd (omega (arith, some))
drill_to words (a ∷ []) word value seed rounds e some few s n o = absurd (omega (arith, some))
drill_to words (a ∷ b ∷ []) word value seed rounds e some few s n o =
    let first : a ≡ decimal seed = some_same _ _ (sym s ∙ o.seed_is) in
    let second : b ≡ decimal rounds = some_same _ _ (sym n ∙ o.rounds_is) in
    record { in_range = o.in_range; words_are = e ∙ ap (λ x. word ∷ x ∷ b ∷ []) first ∙ ap (λ x. word ∷ decimal seed ∷ x ∷ []) second }
drill_to words (a ∷ b ∷ c ∷ ws) word value seed rounds e some few s n o = absurd (omega (arith, few))

same_short : (xs ys : List (List ℕ)) → length xs ≤ 1 → length ys ≤ 1 → slice_get xs 0 ≡ slice_get ys 0 → xs ≡ ys
same_short [] [] s t e = refl
same_short [] (y ∷ ys) s t e = cc
same_short (x ∷ xs) [] s t e = cc
same_short (x ∷ []) (y ∷ []) s t e = ap (λ z. z ∷ []) (some_same x y e)
same_short (x ∷ a ∷ xs) (y ∷ ys) s t e = absurd (omega (arith, s))
same_short (x ∷ []) (y ∷ a ∷ ys) s t e = absurd (omega (arith, t))

no_word : (ws : List (List ℕ)) → length ws ≤ 0 → ws ≡ []
no_word [] few = refl
no_word (w ∷ ws) few = absurd (omega (arith, few))

module _ (words : List (List ℕ)) (plain : ArePlain words) (right : faults_in words ≡ []) (p : Text × List Row) (is : found_in words ≡ Some p) where
  named : (n : List ℕ) → p.0 ≡ n → (ws : List (List ℕ)) × (words ≡ n ∷ ws)
  named n e = let head = first_is words p plain right is in (head.0, head.1 ∙ ap (λ x. x ∷ head.0) e)

  asked_alone : {name does example : List ℕ} → Takes (bare name does example) 0 0 → p.0 ≡ name → words ≡ name ∷ []
  asked_alone {name} {does} {example} t e =
      let h = named _ e in
      h.1 ∙ ap (λ ws. name ∷ ws) (no_word h.0 (read (bare name does example) 0 0 t words h.0 p plain right is h.1).few)

  client_asked : (c : ClientCommand) → p.0 ≡ word_of_client c → IsToldBy c (named_words (values_in p.1)) → IsClient c words
  client_asked c n told =
      let h = named _ n in
      let placed_c = placed c in
      let r = read placed_c.entry _ _ placed_c.takes words h.0 p plain right is (begins_with c words h.0 h.1) in record {
        rest = h.0;
        words_are = h.1;
        count_is = omega (arith, r.some, r.few);
        plain = any_plain h.0 r.plain;
        told = subst (IsToldBy c) (ap (λ (rows : List Row). named_words (values_in rows)) (sym r.rows_are) ∙ placed_c.words h.0 r.few) told;
      }

  -- What is found is asked for.
  pub found_asked : (c : Command) → IsCommandOf p.0 c (given_in p.1) → AskFor words c
  found_asked (Answer options) g = let h = named _ g.0 in answer_to options words h.0 p.1 h.1 (read answer_entry 0 3 answer_takes words h.0 p plain right is h.1) g.1
  found_asked (Serve serve) g = let h = named _ g.0 in serve_to serve words h.0 p.1 h.1 (read serve_entry 2 5 serve_takes words h.0 p plain right is h.1) g.1
  found_asked (Host host) g =
      let h = named _ g.0 in
      let r = read host_entry 3 7 host_takes words h.0 p plain right is h.1 in record {
        rest = h.0;
        words_are = h.1;
        plain = any_plain h.0 r.plain;
        told = host_to host h.0 r.some r.few (subst (λ (rows : List Row). IsHostOf host (values_in rows)) (sym r.rows_are) g.1);
      }
  found_asked (Client c) g = client_asked c g.0 g.1
  found_asked (Call call) g =
      let h = named _ g.0 in
      let r = read_call words h.0 p plain right is h.1 in
      let told = call_to call h.0 r.some (subst (IsCallOf call) (ap given_in (sym r.rows_are)) g.1) in record {
        rest = h.0;
        words_are = h.1;
        plain = any_plain h.0 r.plain;
        name_is = told.0;
        method_is = told.1;
        arguments_are = told.2;
      }
  found_asked Replay g = asked_alone replay_takes g.0
  found_asked Show g = asked_alone show_takes g.0
  found_asked World g = asked_alone world_takes g.0
  found_asked (Drill Summary seed rounds) g =
      let h = named _ g.0 in
      let r = read drill_entry 2 2 drill_takes words h.0 p plain right is h.1 in
      drill_to words h.0 _ (values_in p.1) seed rounds h.1 r.some r.few (at _ _ p.1 _ r.rows_are (drill_seed h.0 r.few)) (at _ _ p.1 _ r.rows_are (drill_n h.0 r.few)) g.1
  found_asked (Drill Journal seed rounds) g =
      let h = named _ g.0 in
      let r = read journal_entry 2 2 journal_takes words h.0 p plain right is h.1 in
      drill_to words h.0 _ (values_in p.1) seed rounds h.1 r.some r.few (at _ _ p.1 _ r.rows_are (journal_seed h.0 r.few)) (at _ _ p.1 _ r.rows_are (journal_n h.0 r.few)) g.1
  found_asked (Class outputs.Number) g = asked_alone suid_takes g.0
  found_asked (Class outputs.Text) g = asked_alone suidtext_takes g.0
  found_asked (Class outputs.Description) g = asked_alone describe_takes g.0
  found_asked (Help topic) g =
      let h = named _ g.0 in
      let r = read help_entry 0 1 help_takes words h.0 p plain right is h.1 in
      h.1 ∙ ap (λ ws. codes "help" ∷ ws) (same_short h.0 (words_of_topic topic) r.few (topic_short topic) (sym (at _ _ p.1 _ r.rows_are (help_command h.0 r.few)) ∙ g.1))

-- The name and the rows that words of a command come to.
pub record ComesTo (words : List (List ℕ)) (c : Command) : Type 0 where
  pub rows : List Row
  pub is : found_in words ≡ Some (name_of c, rows)
  pub told : IsToldIn c (given_in rows)

small_from : (n : ℕ) (o : Option (List ℕ)) (w : List ℕ) → o ≡ Some w → SpellsUpTo 65535 n w → IsSmallOf n o
small_from n o w is small = subst (IsSmallOf n) (sym is) small

-- What is asked for is found.
pub asked_found : (words : List (List ℕ)) (c : Command) → AskFor words c → ComesTo words c
asked_found words (Answer options) a =
    let plain = plain_options options a.rest a.options_are in let few = a.options_are.no_more in record {
      rows = rows_of answer_entry a.rest;
      is = ap found_in a.words_are ∙ found answer_entry 0 3 answer_takes a.rest plain;
      told = options_from options (values_in (rows_of answer_entry a.rest)) a.rest (answer_binding a.rest few) (answer_lease a.rest few) (answer_ack a.rest few) a.options_are;
    }
asked_found words (Serve serve) a =
    let ws = a.port ∷ a.count ∷ a.rest in
    let few : length ws ≤ 5 = omega (arith, a.told.options_are.no_more) in record {
      rows = rows_of serve_entry ws;
      is = ap found_in a.words_are ∙ found serve_entry 2 5 serve_takes ws (plain_serve serve a.port a.count a.rest a.told.port_is a.told.count_is a.told.options_are);
      told = record {
        port = small_from serve.port _ a.port (serve_port ws few) a.told.port_is;
        count = small_from serve.count _ a.count (serve_count ws few) a.told.count_is;
        options = options_from serve.options (values_in (rows_of serve_entry ws)) a.rest (serve_binding ws few) (serve_lease ws few) (serve_ack ws few) a.told.options_are;
      };
    }
asked_found words (Host host) a = record {
  rows = rows_of host_entry a.rest;
  is = ap found_in a.words_are ∙ found host_entry 3 7 host_takes a.rest (plain_any a.rest a.plain);
  told = host_from host a.rest a.told;
}
asked_found words (Client c) a =
    let p = placed c in
    let rows = rows_of p.entry a.rest in record {
      rows = rows;
      is = ap found_in (begins_with c words a.rest a.words_are) ∙ found p.entry _ _ p.takes a.rest (plain_any a.rest a.plain) ∙ ap (λ (name : List ℕ). Some (name, rows)) (sym p.named);
      told = subst (IsToldBy c) (sym (p.words a.rest (omega (arith, a.count_is)))) a.told;
    }
asked_found words (Call call) a = record {
  rows = rows_of call_entry a.rest;
  is = ap found_in a.words_are ∙ entered_found call_entry call_enters a.rest (plain_any a.rest a.plain);
  told = call_from call words a;
}
asked_found words Replay a = record { rows = _; is = found_alone replay_takes words a; told = tt }
asked_found words Show a = record { rows = _; is = found_alone show_takes words a; told = tt }
asked_found words World a = record { rows = _; is = found_alone world_takes words a; told = tt }
asked_found words (Drill Summary seed rounds) a = let ws = decimal seed ∷ decimal rounds ∷ [] in record {
  rows = rows_of drill_entry ws;
  is = ap found_in a.words_are ∙ found drill_entry 2 2 drill_takes ws (plain_drill seed rounds a.in_range);
  told = record { in_range = a.in_range; seed_is = drill_seed ws (omega arith); rounds_is = drill_n ws (omega arith) };
}
asked_found words (Drill Journal seed rounds) a = let ws = decimal seed ∷ decimal rounds ∷ [] in record {
  rows = rows_of journal_entry ws;
  is = ap found_in a.words_are ∙ found journal_entry 2 2 journal_takes ws (plain_drill seed rounds a.in_range);
  told = record { in_range = a.in_range; seed_is = journal_seed ws (omega arith); rounds_is = journal_n ws (omega arith) };
}
asked_found words (Class outputs.Number) a = record { rows = _; is = found_alone suid_takes words a; told = tt }
asked_found words (Class outputs.Text) a = record { rows = _; is = found_alone suidtext_takes words a; told = tt }
asked_found words (Class outputs.Description) a = record { rows = _; is = found_alone describe_takes words a; told = tt }
asked_found words (Help topic) a = let ws = words_of_topic topic in record {
  rows = rows_of help_entry ws;
  is = ap found_in a ∙ found help_entry 0 1 help_takes ws (plain_topic topic);
  told = help_command ws (topic_short topic);
}

-- ---- the answer

abbrev Asks : Command → List (List ℕ) → Type 0
Asks c words = AskFor words c

some_pair : (a b : Text × List Row) → Some a ≡ Some b → a ≡ b
some_pair a b e = cc

nothing_asked : (words : List (List ℕ)) (p : Text × List Row) → found_in words ≡ Some p → ((c : Command) → IsCommandIn c (Some p) → ⊥) → (c : Command) → AskFor words c → ⊥
nothing_asked words p is none c a =
    let comes = asked_found words c a in
    let P : Text × List Row → Type 0 = λ q. IsCommandOf q.0 c (given_in q.1) in
    none c (subst P (some_pair _ _ (sym comes.is ∙ is)) (refl, comes.told))

-- A command that is found in words that `clap` takes is asked for, and where none is, none is.
pub finds_asked : (words : List (List ℕ)) (result : Result Command WordsFault) → ArePlain words → faults_in words ≡ [] → (o : Option (Text × List Row)) → found_in words ≡ o
    → Reads IsCommandIn result o → Reads Asks result words
finds_asked words (Ok c) plain right (Some p) is reads = found_asked words plain right p is c reads
finds_asked words (Ok c) plain right None is reads = absurd reads
finds_asked words (Err fault) plain right (Some p) is reads = λ usage. nothing_asked words p is (reads usage)
finds_asked words (Err fault) plain right None is reads = λ usage c a. let comes = asked_found words c a in let both = sym is ∙ comes.is in cc

-- ---- `Words::command`, over words that are `seen`

-- One begins with `-`.
pub option_refused : (words seen : List (List ℕ)) (b : Bool) → words ≡ seen → b ≡ list_any is_option seen → b ≡ true → (c : Command) → AskFor words c → ⊥
option_refused words seen b same is holds c a =
    let none : list_any is_option seen ≡ false = any_plain seen (subst ArePlain same (asked_plain words c a)) in
    true≢false (sym holds ∙ is ∙ none)

-- `clap` finds them wrong.
pub wrong_refused : (words seen : List (List ℕ)) → words ≡ seen → (faults_in seen ≡ [] → ⊥) → (c : Command) → AskFor words c → ⊥
wrong_refused words seen same wrong c a = wrong (ap faults_in (sym same) ∙ asked_right words c a)

-- `clap` takes them.
pub taken_asked : (words seen : List (List ℕ)) (b : Bool) (result : Result Command WordsFault) (o : Option (Text × List Row)) → words ≡ seen → b ≡ list_any is_option seen → b ≡ false → faults_in seen ≡ [] → o ≡ found_in seen
    → Reads IsCommandIn result o → Reads Asks result words
taken_asked words seen b result o same is fails right found finds =
    let plain : ArePlain words = subst ArePlain (sym same) (plain_any seen (sym is ∙ fails)) in
    finds_asked words result plain (ap faults_in same ∙ right) o (ap found_in same ∙ sym found) finds

-- What is read is asked for, and Usage comes only where nothing is.
pub asked_by : (words : List (List ℕ)) (result : Result Command WordsFault) → Reads Asks result words → IfOk result (AskFor words)
asked_by words (Ok c) reads = reads
asked_by words (Err fault) reads = tt

pub refused_by : (words : List (List ℕ)) (result : Result Command WordsFault) → Reads Asks result words → result ≡ Err Usage → (c : Command) → AskFor words c → ⊥
refused_by words (Ok c) reads usage = absurd (never_ok c usage)
  where
    never_ok : (c : Command) → ◌≡◌ {A = Result Command WordsFault} (Ok c) (Err Usage) → ⊥
    never_ok c e = cc
refused_by words (Err fault) reads usage = reads (same_fault fault usage)
  where
    same_fault : (f : WordsFault) → ◌≡◌ {A = Result Command WordsFault} (Err f) (Err Usage) → f ≡ Usage
    same_fault f e = cc

pub any_map : {A : Type 0} (f : A → List ℕ) (xs : List A) → list_any (λ x. is_option (f x)) xs ≡ list_any is_option (map f xs)
any_map f [] = refl
any_map f (x ∷ xs) = ap (λ b. is_option (f x) || b) (any_map f xs)
