-- Laws of the grammar: a line spells at most one event, a first line at most one configuration, and a journal's bytes spell one
-- configuration and one list of events.
use Rattle.std.proofs.Common.{◌≡◌, ◌≢◌, ℕ, ◌^◌, List, [], ◌∷◌, ◌++◌, refl, ap, sym, subst, ◌∙◌, arith, codes, ℤ, w32, w64, Bool}
use Rattle.object_ids.specs.declared.ids.Uid.{Uid}
use Rattle.history.specs.declared.asks.SpaceConfig.{SpaceConfig}
use Rattle.history.specs.declared.asks.Event.{Event}
use Rattle.history.specs.declared.asks.Ask.{Ask}
use Rattle.history.specs.declared.asks.Ask.TheVariants.{Open, Begin, Finish, Abandon, Dirty, Clean, Ack, Bind, Rebind, Unbind, Lookup, Tick}
use Rattle.history.specs.declared.asks.Ask.TheVariants.{List as ListNames}
use Rattle.history.specs.declared.limits.TheConstants.{END_OF_TIME}
use Rattle.std.proofs.lemmas.Bool.{false≢true}
use Rattle.journal.specs.Parts.{parts, Lacks}
use Rattle.journal.specs.Grammar.{◌▸◌, End, Is, SpellsNumber, SpellsMoment, SpellsDuration, SpellsSigned, SpellsPinned, SpellsStrong, SpellsUid, SpellsObject, SpellsKinds, SpellsObjects, SpellsClient, SpellsName, SpellsAsk, SpellsEvent, SpellsConfig, SpellsFront, SpellsEvents, BeginsBadly, JournalText}
use Rattle.journal.proofs.Splitting.{line_injective}
use Rattle.journal.proofs.Graphic.{event_words, config_words, line_lacks}
use Rattle.journal.proofs.EventLines.{event_to_parts, config_to_parts}
use Rattle.journal.proofs.OnlyAsks.{only_open, only_begin, only_finish, only_abandon, only_dirty, only_clean, only_ack, only_bind, only_rebind, only_unbind, only_lookup, only_list, only_tick}
use Rattle.journal.proofs.Unique.{IsOnce, below_once, duration_once, signed_once, uid_once, object_once, client_once, name_once, kinds_once, objects_once, pinned_once, strong_once}

-- ---- words

no_line : (line rest : List ℕ) → [] ≡ line ++ 10 ∷ rest → ⊥
no_line [] rest is = cc
no_line (b ∷ line) rest is = cc

-- The same of a word and of the words after it.
same_first : {X : Type 0} (S : X → List ℕ → Type 0) → IsOnce S → (P Q : List (List ℕ) → Type 0) (words : List (List ℕ)) (x y : X) → (S x ▸ P) words → (S y ▸ Q) words
    → (x ≡ y) × ((rest : List (List ℕ)) × P rest × Q rest)
same_first S once P Q [] x y of_x of_y = absurd of_x
same_first S once P Q (word ∷ words) x y of_x of_y = (once.same x y word of_x.0 of_y.0, (words, of_x.1, of_y.1))

same_one : {X : Type 0} (S : X → List ℕ → Type 0) → IsOnce S → (words : List (List ℕ)) (x y : X) → (S x ▸ End) words → (S y ▸ End) words → x ≡ y
same_one S once words x y of_x of_y = (same_first S once End End words x y of_x of_y).0

same_two : {X Y : Type 0} (S : X → List ℕ → Type 0) (T : Y → List ℕ → Type 0) → IsOnce S → IsOnce T → (words : List (List ℕ)) (x y : X) (u v : Y)
    → (S x ▸ T u ▸ End) words → (S y ▸ T v ▸ End) words → (x ≡ y) × (u ≡ v)
same_two S T once more words x y u v of_x of_y =
    let first = same_first S once (T u ▸ End) (T v ▸ End) words x y of_x of_y in
    (first.0, same_one T more first.1.0 u v first.1.1 first.1.2)

same_four : {X Y Z W : Type 0} (S : X → List ℕ → Type 0) (T : Y → List ℕ → Type 0) (U : Z → List ℕ → Type 0) (V : W → List ℕ → Type 0)
    → IsOnce S → IsOnce T → IsOnce U → IsOnce V → (words : List (List ℕ)) (a b : X) (c d : Y) (e f : Z) (g h : W)
    → (S a ▸ T c ▸ U e ▸ V g ▸ End) words → (S b ▸ T d ▸ U f ▸ V h ▸ End) words → (a ≡ b) × (c ≡ d) × (e ≡ f) × (g ≡ h)
same_four S T U V once_s once_t once_u once_v words a b c d e f g h of_a of_b =
    let first = same_first S once_s (T c ▸ U e ▸ V g ▸ End) (T d ▸ U f ▸ V h ▸ End) words a b of_a of_b in
    let second = same_first T once_t (U e ▸ V g ▸ End) (U f ▸ V h ▸ End) first.1.0 c d first.1.1 first.1.2 in
    let others = same_two U V once_u once_v second.1.0 e f g h second.1.1 second.1.2 in
    (first.0, second.0, others.0, others.1)

-- ---- asks

no_words : (space : Uid) (ask : Ask) → SpellsAsk space ask [] → ⊥
no_words space Tick spells = spells
no_words space _ spells = spells

-- The same of asks whose words begin alike.
at_word : (space : Uid) (a b : Ask) (word : List ℕ) (rest : List (List ℕ)) → SpellsAsk space a (word ∷ rest) → SpellsAsk space b (word ∷ rest) → a ≡ b
at_word space (Open kind p) b word rest of_a of_b = only_open space rest b (subst (λ (w : List ℕ). SpellsAsk space b (w ∷ rest)) of_a.0 of_b)
    (λ kind2 p2 is spells. let both = same_two SpellsNumber SpellsPinned (below_once (2 ^ 32) (omega arith)) pinned_once rest kind kind2 p p2 of_a.1 spells in cc)
at_word space (Begin object) b word rest of_a of_b = only_begin space rest b (subst (λ (w : List ℕ). SpellsAsk space b (w ∷ rest)) of_a.0 of_b)
    (λ object2 is spells. let same = same_one (SpellsObject space) (object_once space) rest object object2 of_a.1 spells in cc)
at_word space (Finish object made listed uid) b word rest of_a of_b = only_finish space rest b (subst (λ (w : List ℕ). SpellsAsk space b (w ∷ rest)) of_a.0 of_b)
    (λ object2 made2 listed2 uid2 is spells. let all = same_four (SpellsObject space) SpellsKinds (SpellsObjects space) SpellsUid (object_once space) kinds_once (objects_once space) uid_once rest object object2 made made2 listed listed2 uid uid2 of_a.1 spells in cc)
at_word space (Abandon object) b word rest of_a of_b = only_abandon space rest b (subst (λ (w : List ℕ). SpellsAsk space b (w ∷ rest)) of_a.0 of_b)
    (λ object2 is spells. let same = same_one (SpellsObject space) (object_once space) rest object object2 of_a.1 spells in cc)
at_word space (Dirty client number asked objects) b word rest of_a of_b = only_dirty space rest b (subst (λ (w : List ℕ). SpellsAsk space b (w ∷ rest)) of_a.0 of_b)
    (λ client2 number2 asked2 objects2 is spells. let all = same_four SpellsClient (SpellsSigned w64) (SpellsSigned w64) (SpellsObjects space) client_once (signed_once w64 (omega arith)) (signed_once w64 (omega arith)) (objects_once space) rest client client2 number number2 asked asked2 objects objects2 of_a.1 spells in cc)
at_word space (Clean client number objects s) b word rest of_a of_b = only_clean space rest b (subst (λ (w : List ℕ). SpellsAsk space b (w ∷ rest)) of_a.0 of_b)
    (λ client2 number2 objects2 s2 is spells. let all = same_four SpellsClient (SpellsSigned w64) SpellsStrong (SpellsObjects space) client_once (signed_once w64 (omega arith)) strong_once (objects_once space) rest client client2 number number2 s s2 objects objects2 of_a.1 spells in cc)
at_word space (Ack uid) b word rest of_a of_b = only_ack space rest b (subst (λ (w : List ℕ). SpellsAsk space b (w ∷ rest)) of_a.0 of_b)
    (λ uid2 is spells. let same = same_one SpellsUid uid_once rest uid uid2 of_a.1 spells in cc)
at_word space (Bind name object) b word rest of_a of_b = only_bind space rest b (subst (λ (w : List ℕ). SpellsAsk space b (w ∷ rest)) of_a.0 of_b)
    (λ name2 object2 is spells. let both = same_two SpellsName (SpellsObject space) name_once (object_once space) rest name name2 object object2 of_a.1 spells in cc)
at_word space (Rebind name object) b word rest of_a of_b = only_rebind space rest b (subst (λ (w : List ℕ). SpellsAsk space b (w ∷ rest)) of_a.0 of_b)
    (λ name2 object2 is spells. let both = same_two SpellsName (SpellsObject space) name_once (object_once space) rest name name2 object object2 of_a.1 spells in cc)
at_word space (Unbind name) b word rest of_a of_b = only_unbind space rest b (subst (λ (w : List ℕ). SpellsAsk space b (w ∷ rest)) of_a.0 of_b)
    (λ name2 is spells. let same = same_one SpellsName name_once rest name name2 of_a.1 spells in cc)
at_word space (Lookup name uid) b word rest of_a of_b = only_lookup space rest b (subst (λ (w : List ℕ). SpellsAsk space b (w ∷ rest)) of_a.0 of_b)
    (λ name2 uid2 is spells. let both = same_two SpellsName SpellsUid name_once uid_once rest name name2 uid uid2 of_a.1 spells in cc)
at_word space ListNames b word rest of_a of_b = only_list space rest b (subst (λ (w : List ℕ). SpellsAsk space b (w ∷ rest)) of_a.0 of_b) (λ is spells. sym is)
at_word space Tick b word rest of_a of_b = only_tick space rest b (subst (λ (w : List ℕ). SpellsAsk space b (w ∷ rest)) of_a.0 of_b) (λ is spells. sym is)

-- Words spell at most one ask.
pub ask_once : (space : Uid) (a b : Ask) (words : List (List ℕ)) → SpellsAsk space a words → SpellsAsk space b words → a ≡ b
ask_once space a b [] of_a of_b = absurd (no_words space a of_a)
ask_once space a b (word ∷ rest) of_a of_b = at_word space a b word rest of_a of_b

-- ---- lines

event_is : (a b : Event) → a.by ≡ b.by → a.moment ≡ b.moment → a.ask ≡ b.ask → a ≡ b
event_is a b by moment ask =
    ap (λ (x : ℕ). record a { by = x }) by ∙ ap (λ (x : ℕ). record a { by = b.by; moment = x }) moment ∙ ap (λ (x : Ask). record { by = b.by; moment = b.moment; ask = x }) ask

-- A line spells at most one event.
pub event_once : (space : Uid) (a b : Event) (line : List ℕ) → SpellsEvent space a line → SpellsEvent space b line → a ≡ b
event_once space a b line of_a of_b =
    let first = same_first SpellsNumber (below_once (2 ^ 32) (omega arith)) (SpellsMoment a.moment ▸ SpellsAsk space a.ask) (SpellsMoment b.moment ▸ SpellsAsk space b.ask)
    (parts 32 line) a.by b.by (event_to_parts space a line of_a) (event_to_parts space b line of_b) in
    let second = same_first SpellsMoment (below_once END_OF_TIME (omega arith)) (SpellsAsk space a.ask) (SpellsAsk space b.ask) first.1.0 a.moment b.moment first.1.1 first.1.2 in
    event_is a b first.0 second.0 (ask_once space a.ask b.ask second.1.0 second.1.1 second.1.2)

uid_is : (a b : Uid) → a.unique ≡ b.unique → a.time ≡ b.time → a.count ≡ b.count → a ≡ b
uid_is a b u t c = ap (λ (x : ℤ). record a { unique = x }) u ∙ ap (λ (x : ℤ). record a { unique = b.unique; time = x }) t ∙ ap (λ (x : ℤ). record { unique = b.unique; time = b.time; count = x }) c

config_is : (a b : SpaceConfig) → a.lease_ms ≡ b.lease_ms → a.ack_ms ≡ b.ack_ms → a.uid ≡ b.uid → a.stored ≡ b.stored → a ≡ b
config_is a b lease ack uid stored =
    ap (λ (x : ℕ). record a { lease_ms = x }) lease ∙ ap (λ (x : ℕ). record a { lease_ms = b.lease_ms; ack_ms = x }) ack
    ∙ ap (λ (x : Uid). record a { lease_ms = b.lease_ms; ack_ms = b.ack_ms; uid = x }) uid
    ∙ ap (λ (x : Bool). record { lease_ms = b.lease_ms; ack_ms = b.ack_ms; uid = b.uid; stored = x }) stored

-- the words of a configuration after the first
abbrev Fields : SpaceConfig → List (List ℕ) → Type 0
Fields config = SpellsDuration config.lease_ms ▸ SpellsDuration config.ack_ms ▸ SpellsSigned w32 config.uid.unique ▸ SpellsSigned w64 config.uid.time ▸ End

-- A line spells at most one configuration.
pub config_once : (a b : SpaceConfig) (line : List ℕ) → SpellsConfig a line → SpellsConfig b line → a ≡ b
config_once a b line of_a of_b =
    let words_a = config_to_parts a line of_a in let words_b = config_to_parts b line of_b in
    let others = after_space a b (parts 32 line) words_a.2 words_b.2 in
    let all = same_four SpellsDuration SpellsDuration (SpellsSigned w32) (SpellsSigned w64) duration_once duration_once (signed_once w32 (omega arith)) (signed_once w64 (omega arith))
    others.0 a.lease_ms b.lease_ms a.ack_ms b.ack_ms a.uid.unique b.uid.unique a.uid.time b.uid.time others.1 others.2 in
    config_is a b all.0 all.1 (uid_is a.uid b.uid all.2 all.3 (words_a.0 ∙ sym words_b.0)) (words_a.1 ∙ sym words_b.1)
  where
    after_space : (a b : SpaceConfig) (words : List (List ℕ)) → (Is (codes "space") ▸ Fields a) words → (Is (codes "space") ▸ Fields b) words → (rest : List (List ℕ)) × Fields a rest × Fields b rest
    after_space a b [] of_a of_b = absurd of_a
    after_space a b (word ∷ words) of_a of_b = (words, of_a.1, of_b.1)

-- ---- the journal

-- No LF stands in a line that spells an event or a configuration.
pub event_lacks : (space : Uid) (e : Event) (line : List ℕ) → SpellsEvent space e line → Lacks 10 line
event_lacks space e line (words, spelled, is) = subst (Lacks 10) (sym is) (line_lacks 10 (omega arith) words ((event_words space e).within words spelled))

pub config_lacks : (config : SpaceConfig) (line : List ℕ) → SpellsConfig config line → Lacks 10 line
config_lacks config line (words, spelled, is) = subst (Lacks 10) (sym is) (line_lacks 10 (omega arith) words ((config_words config).within words spelled))

-- Bytes spell at most one list of events.
pub events_once : (space : Uid) (xs ys : List Event) (bytes : List ℕ) → SpellsEvents space xs bytes → SpellsEvents space ys bytes → xs ≡ ys
events_once space [] [] bytes of_x of_y = refl
events_once space [] (y ∷ ys) bytes of_x (line, rest, one, more, is) = absurd (no_line line rest (sym of_x ∙ is))
events_once space (x ∷ xs) [] bytes (line, rest, one, more, is) of_y = absurd (no_line line rest (sym of_y ∙ is))
events_once space (x ∷ xs) (y ∷ ys) bytes (line, rest, one, more, is) (other, others, one_y, more_y, is_y) =
    let same = line_injective 10 line other rest others (event_lacks space x line one) (event_lacks space y other one_y) (sym is ∙ is_y) in
    ap (λ (e : Event). e ∷ xs) (event_once space x y line one (subst (SpellsEvent space y) (sym same.0) one_y))
    ∙ ap (λ (es : List Event). y ∷ es) (events_once space xs ys rest more (subst (SpellsEvents space ys) (sym same.1) more_y))

-- A journal's bytes spell one configuration and one list of events.
pub journal_once : (bytes : List ℕ) (a b : SpaceConfig) (xs ys : List Event) → JournalText bytes a xs → JournalText bytes b ys → (a ≡ b) × (xs ≡ ys)
journal_once bytes a b xs ys (line, rest, one, more, is) (other, others, one_b, more_b, is_b) =
    let same = line_injective 10 line other rest others (config_lacks a line one) (config_lacks b other one_b) (sym is ∙ is_b) in
    let config = config_once a b line one (subst (SpellsConfig b) (sym same.0) one_b) in
    let at_a = subst (λ (c : SpaceConfig). SpellsEvents c.uid ys rest) (sym config) (subst (SpellsEvents b.uid ys) (sym same.1) more_b) in
    (config, events_once a.uid xs ys rest more at_a)

-- ---- line by line

-- A further line that spells an event, after lines that spell events.
pub front_more : (space : Uid) (events : List Event) (bytes : List ℕ) (e : Event) (line rest : List ℕ) → SpellsFront space events bytes (line ++ 10 ∷ rest) → SpellsEvent space e line
    → SpellsFront space (events ++ e ∷ []) bytes rest
front_more space [] bytes e line rest is one = (line, rest, one, refl, is)
front_more space (x ∷ events) bytes e line rest (first, others, of_x, more, is) one = (first, others, of_x, front_more space events others e line rest more one, is)

-- Bytes without LF that are not empty begin badly.
pub unended_is_bad : (space : Uid) (bytes : List ℕ) → bytes ≢ [] → Lacks 10 bytes → BeginsBadly space bytes
unended_is_bad space bytes some lacks = record { some = some; none = λ e line rest one is. no_lf line rest (subst (Lacks 10) is lacks) }
  where
    no_lf : (line rest : List ℕ) → Lacks 10 (line ++ 10 ∷ rest) → ⊥
    no_lf [] rest lacks = false≢true (sym lacks.0)
    no_lf (b ∷ line) rest lacks = no_lf line rest lacks.1

-- So do bytes whose first line spells no event.
pub no_event_is_bad : (space : Uid) (bytes line rest : List ℕ) → Lacks 10 line → bytes ≡ line ++ 10 ∷ rest → ((e : Event) → SpellsEvent space e line → ⊥) → BeginsBadly space bytes
no_event_is_bad space bytes line rest lacks is none = record {
  some = λ (empty : bytes ≡ []). no_line line rest (sym empty ∙ is);
  none = λ e other others one is_other.
      let same = line_injective 10 other line others rest (event_lacks space e other one) lacks (sym is_other ∙ is) in none e (subst (SpellsEvent space e) same.0 one);
}

-- Where some lines spell events and the rest begins badly, the bytes are no lines of events.
pub bad_is_no_journal : (space : Uid) (events : List Event) (bytes rest : List ℕ) → SpellsFront space events bytes rest → BeginsBadly space rest → (all : List Event) → SpellsEvents space all bytes → ⊥
bad_is_no_journal space [] bytes rest is bad [] of_all = bad.some (sym is ∙ of_all)
bad_is_no_journal space [] bytes rest is bad (x ∷ all) (line, others, one, more, is_line) = bad.none x line others one (sym is ∙ is_line)
bad_is_no_journal space (e ∷ events) bytes rest (line, others, one, more, is) bad [] of_all = no_line line others (sym of_all ∙ is)
bad_is_no_journal space (e ∷ events) bytes rest (line, others, one, more, is) bad (x ∷ all) (line_x, others_x, one_x, more_x, is_x) =
    let same = line_injective 10 line line_x others others_x (event_lacks space e line one) (event_lacks space x line_x one_x) (sym is ∙ is_x) in
    bad_is_no_journal space events others rest more bad all (subst (SpellsEvents space all) (sym same.1) more_x)

-- The events before the first line that spells none are the only ones.
pub bad_once : (space : Uid) (xs ys : List Event) (bytes rest others : List ℕ) → SpellsFront space xs bytes rest → BeginsBadly space rest → SpellsFront space ys bytes others → BeginsBadly space others
    → (xs ≡ ys) × (rest ≡ others)
bad_once space [] [] bytes rest others of_x bad_x of_y bad_y = (refl, sym of_x ∙ of_y)
bad_once space [] (y ∷ ys) bytes rest others of_x bad_x (line, after, one, more, is) bad_y = absurd (bad_x.none y line after one (sym of_x ∙ is))
bad_once space (x ∷ xs) [] bytes rest others (line, after, one, more, is) bad_x of_y bad_y = absurd (bad_y.none x line after one (sym of_y ∙ is))
bad_once space (x ∷ xs) (y ∷ ys) bytes rest others (line, after, one, more, is) bad_x (line_y, after_y, one_y, more_y, is_y) bad_y =
    let same = line_injective 10 line line_y after after_y (event_lacks space x line one) (event_lacks space y line_y one_y) (sym is ∙ is_y) in
    let head = event_once space x y line one (subst (SpellsEvent space y) (sym same.0) one_y) in
    let tail = bad_once space xs ys after rest others more bad_x (subst (λ (b : List ℕ). SpellsFront space ys b others) (sym same.1) more_y) bad_y in
    (ap (λ (e : Event). e ∷ xs) head ∙ ap (λ (es : List Event). y ∷ es) tail.0, tail.1)
