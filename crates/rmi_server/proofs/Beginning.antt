-- What a server's history is as it opens objects.
use Rattle.std.proofs.Common.{◌≡◌, ◌≤◌, ℕ, ◌+◌, List, [], ◌∷◌, ◌++◌, length, refl, ap, sym, subst, ◌∙◌, arith, inl, inr, Some, None, Ok, Err, append_assoc, append-nil, length-append, true≢false}
use Rattle.std.specs.Prelude.{Bool, true, false, ◌&&◌, ◌||◌, ◌⊎◌, nat_lt, nat_le, Option, filter, is_none, is_some, Result, OnOk, IfErr, All, drop, ◌≢◌, option_and_then, if◌then◌else◌}
use Rattle.std.specs.List.{list_any, AllByRecursion}
use Rattle.std.proofs.ByRecursion.{All-push, All-get_or}
use Rattle.std.proofs.lemmas.Bool.{and_parts, ltb-false, ltb-true}
use Rattle.history.proofs.Partitions.{one_if}
use Rattle.std.proofs.lemmas.List.{length-map, map-append}
use Rattle.std.proofs.lemmas.List.Elements.{filter-append, recursion_from_All}
use Rattle.std.proofs.lemmas.List.Folds.{list_any-append}
use Rattle.object_ids.specs.declared.ids.ObjId.{ObjId}
use Rattle.object_ids.specs.declared.ids.Uid.{Uid}
use Rattle.object_ids.specs.declared.ids.FullKind.TheVariants.{Exports, Awaiting, Clients, Pairs, Names}
use Rattle.object_ids.specs.Same.{same_bytes, same_id}
use Rattle.object_ids.proofs.Exact.{same_id-self}
use Rattle.sequence.proofs.Lists.{all_stay, none-either}
use Rattle.history.specs.declared.asks.SpaceConfig.{SpaceConfig}
use Rattle.history.specs.declared.asks.Event.{Event}
use Rattle.history.specs.declared.asks.Ask.TheVariants.{Open, Bind}
use Rattle.history.specs.declared.limits.TheConstants.{MAX_AWAITING, MAX_CLIENTS, MAX_EXPORTS, MAX_HISTORY_UNITS, MAX_NAMES, MAX_NAME_UNITS, MAX_PAIRS, MAX_RUNNING_CALLS}
use Rattle.history.specs.declared.places.Exported.{Exported}
use Rattle.history.specs.declared.replies.Refused.{Refused}
use Rattle.history.specs.declared.replies.Refused.TheVariants.{HistoryFull, Full, OutOfMemory}
use Rattle.history.specs.declared.replies.Reply.TheVariants.{Opened, Bound, AlreadyBound, NoObject}
use Rattle.history.specs.declared.replies.Turn.{Turn}
use Rattle.history.specs.Replies.{reply}
use Rattle.history.specs.Steps.{Step, answer_with}
use Rattle.history.specs.Limits.{units, units_of, units_limit, reserved_units, starts, ends, is_begin, is_end, is_full, starts_too_many, limits, refusal, exports_with_event, awaiting_with_event, clients_with_event, pairs_with_event, names_with_event}
use Rattle.history.specs.Lists.{distinct, AllOnce}
use Rattle.history.specs.Names.{names, stands_for}
use Rattle.history.specs.Places.{History, has, exported_count, id_at}
use Rattle.history.specs.Table.{is_effective, is_kept, is_kept_locally, place_of, places, table}
use Rattle.history.proofs.ListLemmas.{and_false, or_true}
use Rattle.history.proofs.NameLaws.{names-after, names-member, names-none, names-once, after_ask, same_bytes-turned}
use Rattle.history.proofs.NumberLaws.{next-push}
use Rattle.history.proofs.RunningLaws.{reserved_units-push}
use Rattle.history.proofs.TableLaws.{ask-place_of, places-none, places-numbered, places-push, table-none, table-push, units-none, units-push}
use Rattle.space.proofs.LimitLaws.{exports-next, names-next, taken-all}
use Rattle.space.proofs.NotedLaws.{taken-turn}
use Rattle.space.proofs.Quiet.{adds-are, adds-length}
use Rattle.space.proofs.Room.{calls-are, exports-is, full-is}
use Rattle.space.specs.TurnAnswers.{IsRefusalOf}
use Rattle.space.specs.Built.{open_event, SpaceHistory}
use Rattle.rmi_server.specs.declared.serving.ServeFault.{ServeFault}
use Rattle.rmi_server.specs.declared.serving.ServeFault.TheVariants.{NameTooLong, NameTaken, TooManyNames, OutOfMemory as NoMemory}
use Rattle.rmi_server.specs.declared.site.Named.{Named}
use Rattle.rmi_server.specs.SiteFaults.{AreSoundNames, HasShortName, IsBound, RefusesBind, RefusesEvent, RefusesNamed, RefusesNames, RefusesSite, names_of}
use Rattle.rmi_server.specs.declared.site.Site.{Site}
use Rattle.rmi_server.specs.Begun.{HasCounts, IsBegun}
use Rattle.rmi_server.specs.Opens.{bind_event, opened_events}

-- ---- no event yet

pub counts-none : (config : SpaceConfig) → HasCounts config 0 0 [] []
unfolding exported_count reserved_units
counts-none config =
    let none = places-none config in
    let rows = ap length (ap (table config) none ∙ table-none config) in
    record {
      exported = ap exported_count none;
      used = ap units none ∙ units-none;
      idle = ap reserved_units none;
      rows = omega (arith, rows);
      named = ap names none ∙ names-none;
    }

-- ---- one more event

-- An event of one unit that neither begins nor ends a call.
record IsQuiet (e : Event) : Type 0 where
  begins : is_begin e.ask ≡ false
  ends : is_end e.ask ≡ false
  one : units_of e.ask ≡ 1

next_used : (config : SpaceConfig) (h : List Event) (e : Event) (taken : ℕ) → IsQuiet e → units (places config h) ≡ taken → units (places config (h ++ e ∷ [])) ≡ taken + 1
next_used config h e taken q used =
    let push = ap units (places-push config h e) in
    let more = units-push (place_of config (places config h) e) (places config h) in
    let same = ap units_of (ask-place_of config (places config h) e) in
    let one = q.one in omega (arith, push, more, same, one, used)

next_idle : (config : SpaceConfig) (h : List Event) (e : Event) → IsQuiet e → reserved_units (places config h) ≡ 0 → reserved_units (places config (h ++ e ∷ [])) ≡ 0
unfolding one_if
next_idle config h e q idle =
    let p = place_of config (places config h) e in
    let push = ap reserved_units (places-push config h e) in
    let more = reserved_units-push config h e in
    let starts-none : starts p ≡ false = ap (λ a. p.effective && is_begin a) (ask-place_of config (places config h) e) ∙ ap (λ b. p.effective && b) q.begins ∙ and_false p.effective in
    let ends-none : ends p ≡ false = ap (λ a. p.effective && is_end a) (ask-place_of config (places config h) e) ∙ ap (λ b. p.effective && b) q.ends ∙ and_false p.effective in
    let none-start = ap one_if starts-none in let none-end = ap one_if ends-none in
    omega (arith, push, more, idle, none-start, none-end)

-- The names after one that binds none, or does nothing.
no-name : (b : Bool) (stood : Option ObjId) (kind : ℕ) (ns : List (List ℕ)) → after_ask b stood (Open kind true) ns ≡ ns
unfolding after_ask
no-name true stood kind ns = rw (all_stay ns, none-either (is_none stood), append-nil) refl
no-name false stood kind ns = rw (all_stay ns, append-nil) refl

one-name : (b : Bool) (stood : Option ObjId) (name : List ℕ) (object : ObjId) (ns : List (List ℕ)) → b ≡ true → is_none stood ≡ true → after_ask b stood (Bind name object) ns ≡ ns ++ name ∷ []
unfolding after_ask
one-name true stood name object ns b s = rw (s, all_stay ns) refl
one-name false stood name object ns b s = absurd (cc)

pub open-counts : (config : SpaceConfig) (objects taken : ℕ) (bound : List (List ℕ)) (h : List Event) (kind : ℕ) → HasCounts config objects taken bound h → HasCounts config (objects + 1) (taken + 1) bound (h ++ open_event kind ∷ [])
open-counts config objects taken bound h kind c =
    let e = open_event kind in
    let p = place_of config (places config h) e in
    let push = places-push config h e in
    let quiet : IsQuiet e = record { begins = refl; ends = refl; one = refl } in
    let counted = ap exported_count push in
    let next = next-push p (places config h) in
    let one = adds-length config (places config h) e in
    let before = c.exported in
    let rows = ap length (ap (table config) push) in
    let most = exports-next config h e in
    let sum = exports-is config (places config h) e in
    let few = c.rows in
    record {
      exported = omega (arith, counted, next, one, before);
      used = next_used config h e taken quiet c.used;
      idle = next_idle config h e quiet c.idle;
      rows = omega (arith, rows, most, sum, few);
      named = ap names push ∙ names-after config e (places config h) (places-numbered config h) ∙ no-name p.effective (option_and_then (stands_for (places config h)) None) kind (names (places config h)) ∙ c.named;
    }

-- What an effective Bind says of its name.
name-free : (config : SpaceConfig) (h : History) (by : ℕ) (name : List ℕ) (object : ObjId) → is_effective config h by (Bind name object) ≡ true → is_none (stands_for h name) ≡ true
unfolding is_effective
name-free config h by name object effective = (and_parts (has (table config h) object) (is_none (stands_for h name)) effective).1

effective-is : (config : SpaceConfig) (h : History) (e : Event) → (place_of config h e).effective ≡ is_effective config h e.by e.ask
unfolding place_of
effective-is config h e = refl

pub bind-counts : (config : SpaceConfig) (objects taken : ℕ) (bound : List (List ℕ)) (h : List Event) (name : List ℕ) (object : ObjId) → is_effective config (places config h) 0 (Bind name object) ≡ true → HasCounts config objects taken bound h → HasCounts config objects (taken + 1) (bound ++ name ∷ []) (h ++ bind_event name object ∷ [])
bind-counts config objects taken bound h name object effective c =
    let e = bind_event name object in
    let p = place_of config (places config h) e in
    let push = places-push config h e in
    let quiet : IsQuiet e = record { begins = refl; ends = refl; one = refl } in
    let counted = ap exported_count push in
    let next = next-push p (places config h) in
    let one = adds-length config (places config h) e in
    let before = c.exported in
    let rows = ap length (ap (table config) push) in
    let most = exports-next config h e in
    let sum = exports-is config (places config h) e in
    let few = c.rows in
    record {
      exported = omega (arith, counted, next, one, before);
      used = next_used config h e taken quiet c.used;
      idle = next_idle config h e quiet c.idle;
      rows = omega (arith, rows, most, sum, few);
      named = ap names push ∙ names-after config e (places config h) (places-numbered config h)
          ∙ one-name p.effective (stands_for (places config h) name) name object (names (places config h)) (effective-is config (places config h) e ∙ effective) (name-free config (places config h) 0 name object effective)
          ∙ ap (λ ns. ns ++ name ∷ []) c.named;
    }

-- ---- an object that was just exported is there

kept-for-good : (config : SpaceConfig) (h : History) (id : ObjId) (kind : ℕ) → is_kept config h (record { id = id; kind = kind; pinned = true }) ≡ true
unfolding is_kept is_kept_locally
kept-for-good config h id kind = refl

pub opened-is-there : (config : SpaceConfig) (h : List Event) (kind : ℕ) → has (table config (places config (h ++ open_event kind ∷ []))) (id_at config.uid (exported_count (places config h))) ≡ true
opened-is-there config h kind =
    let after = places config (h ++ open_event kind ∷ []) in
    let object = id_at config.uid (exported_count (places config h)) in
    let opened : Exported = record { id = object; kind = kind; pinned = true } in
    let old = table config (places config h) in
    let is = table-push config h (open_event kind) ∙ ap (λ l. filter (is_kept config after) (old ++ l)) (adds-are config (places config h) (open_event kind)) ∙ filter-append (is_kept config after) old (opened ∷ []) in
    ap (λ l. has l object) is
    ∙ list_any-append (λ x. same_id x.id object) (filter (is_kept config after) old) (filter (is_kept config after) (opened ∷ []))
    ∙ ap (λ b. list_any (λ x. same_id x.id object) (filter (is_kept config after) old) || list_any (λ x. same_id x.id object) (if b then opened ∷ [] else [])) (kept-for-good config after object kind)
    ∙ ap (λ b. list_any (λ x. same_id x.id object) (filter (is_kept config after) old) || (b || false)) (same_id-self object)
    ∙ or_true (list_any (λ x. same_id x.id object) (filter (is_kept config after) old))

-- So a Bind of it that does nothing has a name that stands for something.
pub bind-repeats : (config : SpaceConfig) (h : List Event) (name : List ℕ) (object : ObjId) → has (table config (places config h)) object ≡ true → is_effective config (places config h) 0 (Bind name object) ≡ false → list_any (same_bytes name) (names (places config h)) ≡ true
unfolding is_effective
bind-repeats config h name object there idle = names-member config h name ∙ go (stands_for (places config h) name) refl
  where
    go : (s : Option ObjId) → stands_for (places config h) name ≡ s → is_some s ≡ true
    go (Some x) is = refl
    go None is = absurd (true≢false (sym (ap (λ b. b && is_none (stands_for (places config h) name)) there ∙ ap is_none is) ∙ idle))

-- ---- refusals

-- What a refusal shows of a history.
abbrev Shows : SpaceConfig → History → Event → Refused → Type 0
Shows config h e HistoryFull = (is_full (units_limit config.stored) config h e ≡ true) ⊎ (starts_too_many MAX_RUNNING_CALLS config h e ≡ true)
Shows config h e (Full Exports) = nat_lt MAX_EXPORTS (exports_with_event config h e) ≡ true
Shows config h e (Full Names) = nat_lt MAX_NAMES (names_with_event config h e) ≡ true
Shows config h e (Full kind) = Unit {0}
Shows config h e OutOfMemory = ⊥

shows : (config : SpaceConfig) (h : History) (e : Event) (refused : Refused) → refusal (limits config) config h e ≡ Some refused → Shows config h e refused
unfolding refusal
shows config h e refused r =
    go (is_full (units_limit config.stored) config h e) (starts_too_many MAX_RUNNING_CALLS config h e) (nat_lt MAX_EXPORTS (exports_with_event config h e)) (nat_lt MAX_AWAITING (awaiting_with_event config h e)) (nat_lt MAX_CLIENTS (clients_with_event config h e)) (nat_lt MAX_PAIRS (pairs_with_event config h e)) (nat_lt MAX_NAMES (names_with_event config h e)) refl refl refl refl r
  where
    of : Option Refused → Type 0
    of None = ⊥
    of (Some x) = Shows config h e x

    go : (a z b c d f g : Bool) → is_full (units_limit config.stored) config h e ≡ a → starts_too_many MAX_RUNNING_CALLS config h e ≡ z → nat_lt MAX_EXPORTS (exports_with_event config h e) ≡ b → nat_lt MAX_NAMES (names_with_event config h e) ≡ g →
        (if a then Some HistoryFull else if z then Some HistoryFull else if b then Some (Full Exports) else if c then Some (Full Awaiting) else if d then Some (Full Clients) else if f then Some (Full Pairs) else if g then Some (Full Names) else None) ≡ Some refused → Shows config h e refused
    go true z b c d f g ea ez eb eg same = subst of same (inl ea)
    go false true b c d f g ea ez eb eg same = subst of same (inr ez)
    go false false true c d f g ea ez eb eg same = subst of same eb
    go false false false true d f g ea ez eb eg same = subst of same tt
    go false false false false true f g ea ez eb eg same = subst of same tt
    go false false false false false true g ea ez eb eg same = subst of same tt
    go false false false false false false true ea ez eb eg same = subst of same eg
    go false false false false false false false ea ez eb eg same = absurd (let never = same in cc)

-- A full history has many units, where the event neither begins nor ends a call.
many-units : (config : SpaceConfig) (h : History) (e : Event) → IsQuiet e → reserved_units h ≡ 0 → (is_full (units_limit config.stored) config h e ≡ true) ⊎ (starts_too_many MAX_RUNNING_CALLS config h e ≡ true) → MAX_HISTORY_UNITS ≤ units h
many-units config h e q idle (inl full) =
    let effective = is_effective config h e.by e.ask in
    let is = sym (full-is (units_limit config.stored) config h e) ∙ full in
    let none_ended : (effective && is_end e.ask) ≡ false = ap (λ b. effective && b) q.ends ∙ and_false effective in
    let none_begun : (effective && is_begin e.ask) ≡ false = ap (λ b. effective && b) q.begins ∙ and_false effective in
    let ended : ◌≡◌ {A = ℕ} (if effective && is_end e.ask then 1 else 0) 0 = rw none_ended refl in
    let begun : ◌≡◌ {A = ℕ} (if effective && is_begin e.ask then 1 else 0) 0 = rw none_begun refl in
    let over = ltb-true (units_limit config.stored + (if effective && is_end e.ask then 1 else 0)) (units h + reserved_units h + units_of e.ask + (if effective && is_begin e.ask then 1 else 0)) is in
    let one = q.one in
    let least = least_limit config.stored in
    omega (arith, over, ended, begun, one, idle, least)
  where
    least_limit : (stored : Bool) → MAX_HISTORY_UNITS ≤ units_limit stored
    least_limit true = omega arith
    least_limit false = omega arith
many-units config h e q idle (inr many) =
    let effective = is_effective config h e.by e.ask in
    absurd (true≢false (sym many ∙ calls-are MAX_RUNNING_CALLS config h e ∙ ap (λ b. (effective && b) && nat_le MAX_RUNNING_CALLS (reserved_units h)) q.begins ∙ ap (λ b. b && nat_le MAX_RUNNING_CALLS (reserved_units h)) (and_false effective)))

-- An Open is refused where so many units are taken, or so many objects were exported.
pub open-refused : (config : SpaceConfig) (objects taken : ℕ) (bound : List (List ℕ)) (h : List Event) (kind : ℕ) (refused : Refused) → HasCounts config objects taken bound h →
    IsRefusalOf (Open kind true) refused → refusal (limits config) config (places config h) (open_event kind) ≡ Some refused → (MAX_HISTORY_UNITS ≤ taken) ⊎ (MAX_EXPORTS ≤ objects)
open-refused config objects taken bound h kind refused c row r = go refused row (shows config (places config h) (open_event kind) refused r)
  where
    go : (refused : Refused) → IsRefusalOf (Open kind true) refused → Shows config (places config h) (open_event kind) refused → (MAX_HISTORY_UNITS ≤ taken) ⊎ (MAX_EXPORTS ≤ objects)
    go HistoryFull row shown =
        let many = many-units config (places config h) (open_event kind) (record { begins = refl; ends = refl; one = refl }) c.idle shown in
        let used = c.used in inl (omega (arith, many, used))
    go (Full Exports) row shown =
        let over = ltb-true MAX_EXPORTS (exports_with_event config (places config h) (open_event kind)) shown in
        let sum = exports-is config (places config h) (open_event kind) in
        let few = c.rows in inr (omega (arith, over, sum, few))
    go (Full kind) row shown = absurd row
    go OutOfMemory row shown = absurd shown

fewer : (ns : List (List ℕ)) → length (distinct same_bytes ns) ≤ length ns
fewer [] = omega arith
fewer (n ∷ ns) = one (list_any (same_bytes n) ns) (fewer ns)
  where
    one : (b : Bool) → length (distinct same_bytes ns) ≤ length ns → length (if b then distinct same_bytes ns else n ∷ distinct same_bytes ns) ≤ length (n ∷ ns)
    one true few = omega (arith, few)
    one false few = omega (arith, few)

-- One event brings one name at most.
one-more-name : (config : SpaceConfig) (h : History) (name : List ℕ) (object : ObjId) → names_with_event config h (bind_event name object) ≤ length (names h) + 1
unfolding names_with_event
one-more-name config h name object = most (place_of config h (bind_event name object)).effective
  where
    most : (b : Bool) → length (distinct same_bytes (names h ++ (if b then name ∷ [] else []))) ≤ length (names h) + 1
    most true = let few = fewer (names h ++ name ∷ []) in let both = length-append (names h) (name ∷ []) in omega (arith, few, both)
    most false = let few = fewer (names h ++ []) in let both = length-append (names h) [] in omega (arith, few, both)

-- A Bind is refused where so many units are taken, or so many names stand for something.
pub bind-refused : (config : SpaceConfig) (objects taken : ℕ) (bound : List (List ℕ)) (h : List Event) (name : List ℕ) (object : ObjId) (refused : Refused) → HasCounts config objects taken bound h →
    IsRefusalOf (Bind name object) refused → refusal (limits config) config (places config h) (bind_event name object) ≡ Some refused → (MAX_HISTORY_UNITS ≤ taken) ⊎ (MAX_NAMES ≤ length bound)
bind-refused config objects taken bound h name object refused c row r = go refused row (shows config (places config h) (bind_event name object) refused r)
  where
    go : (refused : Refused) → IsRefusalOf (Bind name object) refused → Shows config (places config h) (bind_event name object) refused → (MAX_HISTORY_UNITS ≤ taken) ⊎ (MAX_NAMES ≤ length bound)
    go HistoryFull row shown =
        let many = many-units config (places config h) (bind_event name object) (record { begins = refl; ends = refl; one = refl }) c.idle shown in
        let used = c.used in inl (omega (arith, many, used))
    go (Full Names) row shown =
        let over = ltb-true MAX_NAMES (names_with_event config (places config h) (bind_event name object)) shown in
        let most = one-more-name config (places config h) name object in
        let long = ap length c.named in inr (omega (arith, over, most, long))
    go (Full kind) row shown = absurd row
    go OutOfMemory row shown = absurd shown

-- ---- what the answers to the server's own turns say

-- An event that was taken met no limit.
taken-free : (config : SpaceConfig) (h h2 : List Event) (e : Event) (turn : Turn) → Step config h e (Ok turn) h2 → refusal (limits config) config (places config h) e ≡ None
taken-free config h h2 e turn (inl s) = go (refusal (limits config) config (places config h) e) refl s.0
  where
    go : (r : Option Refused) → refusal (limits config) config (places config h) e ≡ r → Ok turn ≡ answer_with config h e r → refusal (limits config) config (places config h) e ≡ None
    go None q a = q
    go (Some refused) q a = absurd (cc)
taken-free config h h2 e turn (inr s) = absurd (let never = s.0 in cc)

reply-open : (config : SpaceConfig) (h : History) (kind : ℕ) → reply config h (open_event kind) ≡ Opened (id_at config.uid (exported_count h))
unfolding reply
reply-open config h kind = refl

reply-bind : (config : SpaceConfig) (h : History) (name : List ℕ) (object : ObjId) → reply config h (bind_event name object)
    ≡ (if is_effective config h 0 (Bind name object) then Bound else if has (table config h) object then AlreadyBound else NoObject)
unfolding reply place_of
reply-bind config h name object = refl

-- The object that a turn opened is the next one.
pub opened-next : (config : SpaceConfig) (h h2 : List Event) (kind : ℕ) (turn : Turn) (object : ObjId) → Step config h (open_event kind) (Ok turn) h2 → turn.reply ≡ Opened object → object ≡ id_at config.uid (exported_count (places config h))
opened-next config h h2 kind turn object step is =
    let turned = (taken-turn config h h2 (open_event kind) turn step).0 in
    let same : Opened object ≡ Opened (id_at config.uid (exported_count (places config h))) = sym is ∙ ap (λ t. t.reply) turned ∙ reply-open config (places config h) kind in cc

-- A name is bound exactly where that has an effect.
pub bound-effective : (s : SpaceHistory) (h2 : List Event) (named name : List ℕ) (object : ObjId) (turn : Turn) → named ≡ name → length name ≤ MAX_NAME_UNITS → Step s.configuration s.events (bind_event named object) (Ok turn) h2 → turn.reply ≡ Bound → IsBound s name object
bound-effective s h2 named name object turn same short step is =
    let P : List ℕ → Type 0 = λ n. Step s.configuration s.events (bind_event n object) (Ok turn) h2 in
    let taken = subst P same step in
    let turned = (taken-turn s.configuration s.events h2 (bind_event name object) turn taken).0 in
    record {
      short = short;
      free = taken-free s.configuration s.events h2 (bind_event name object) turn taken;
      effective = go (is_effective s.configuration (places s.configuration s.events) 0 (Bind name object)) (has (table s.configuration (places s.configuration s.events)) object) (sym (reply-bind s.configuration (places s.configuration s.events) name object) ∙ sym (ap (λ t. t.reply) turned) ∙ is);
    }
  where
    go : (b there : Bool) → (if b then Bound else if there then AlreadyBound else NoObject) ≡ Bound → b ≡ true
    go true there e = refl
    go false true e = absurd (cc)
    go false false e = absurd (cc)

pub bound-idle : (s : SpaceHistory) (h2 : List Event) (named name : List ℕ) (object : ObjId) (turn : Turn) → named ≡ name → Step s.configuration s.events (bind_event named object) (Ok turn) h2 → turn.reply ≢ Bound →
    is_effective s.configuration (places s.configuration s.events) 0 (Bind name object) ≡ false
bound-idle s h2 named name object turn same step never =
    let P : List ℕ → Type 0 = λ n. Step s.configuration s.events (bind_event n object) (Ok turn) h2 in
    let taken = subst P same step in
    let turned = (taken-turn s.configuration s.events h2 (bind_event name object) turn taken).0 in
    go (is_effective s.configuration (places s.configuration s.events) 0 (Bind name object)) refl (ap (λ t. t.reply) turned ∙ reply-bind s.configuration (places s.configuration s.events) name object)
  where
    go : (b : Bool) → is_effective s.configuration (places s.configuration s.events) 0 (Bind name object) ≡ b → turn.reply ≡ (if is_effective s.configuration (places s.configuration s.events) 0 (Bind name object) then Bound else if has (table s.configuration (places s.configuration s.events)) object then AlreadyBound else NoObject) → is_effective s.configuration (places s.configuration s.events) 0 (Bind name object) ≡ false
    go false q e = q
    go true q e = absurd (never (e ∙ ap (λ b. if b then Bound else if has (table s.configuration (places s.configuration s.events)) object then AlreadyBound else NoObject) q))

-- ---- one more object

opened-more : (space : Uid) (k : ℕ) (before : List Named) (named : Named) →
    opened_events space k (before ++ named ∷ []) ≡ opened_events space k before ++ open_event named.kind ∷ bind_event named.name.now (id_at space (k + length before)) ∷ []
opened-more space k [] named = let none : k ≡ k + 0 = omega arith in ap (λ n. open_event named.kind ∷ bind_event named.name.now (id_at space n) ∷ []) none
opened-more space k (x ∷ xs) named =
    let moved : k + 1 + length xs ≡ k + length (x ∷ xs) = omega arith in
    ap (λ l. open_event x.kind ∷ bind_event x.name.now (id_at space k) ∷ l) (opened-more space (k + 1) xs named
    ∙ ap (λ n. opened_events space (k + 1) xs ++ open_event named.kind ∷ bind_event named.name.now (id_at space n) ∷ []) moved)

same-counts : (config : SpaceConfig) (objects objects2 taken taken2 : ℕ) (bound bound2 : List (List ℕ)) (h h2 : List Event) → objects ≡ objects2 → taken ≡ taken2 → bound ≡ bound2 → h ≡ h2 → HasCounts config objects taken bound h → HasCounts config objects2 taken2 bound2 h2
same-counts config objects objects2 taken taken2 bound bound2 h h2 o t b e c =
    let A : ℕ → Type 0 = λ n. HasCounts config n taken bound h in
    let B : ℕ → Type 0 = λ n. HasCounts config objects2 n bound h in
    let C : List (List ℕ) → Type 0 = λ ns. HasCounts config objects2 taken2 ns h in
    let D : List Event → Type 0 = λ es. HasCounts config objects2 taken2 bound2 es in
    subst D e (subst C b (subst B t (subst A o c)))

begun-next : (config : SpaceConfig) (before : List Named) (named : Named) (h h1 h2 : List Event) (object : ObjId) → h1 ≡ h ++ open_event named.kind ∷ [] → object ≡ id_at config.uid (exported_count (places config h)) → h2 ≡ h1 ++ bind_event named.name.now object ∷ []
    → length named.name.now ≤ MAX_NAME_UNITS → refusal (limits config) config (places config h1) (bind_event named.name.now object) ≡ None → is_effective config (places config h1) 0 (Bind named.name.now object) ≡ true → IsBegun config before h → IsBegun config (before ++ named ∷ []) h2
begun-next config before named h h1 h2 object opened object-is bound short free effective b =
    let name = named.name.now in
    let P : List Event → Type 0 = λ es. HasCounts config (length before + 1) (length before + length before + 1) (names_of before) es in
    let one : HasCounts config (length before + 1) (length before + length before + 1) (names_of before) h1 = subst P (sym opened) (open-counts config (length before) (length before + length before) (names_of before) h named.kind b.counts) in
    let two = bind-counts config (length before + 1) (length before + length before + 1) (names_of before) h1 name object effective one in
    let longer = length-append before (named ∷ []) in
    let number : object ≡ id_at config.uid (0 + length before) = object-is ∙ ap (id_at config.uid) (b.counts.exported ∙ (let zero : length before ≡ 0 + length before = omega arith in zero)) in
    let all = taken-all config (places config h1) (bind_event name object) free in
    let most = ltb-false MAX_NAMES (names_with_event config (places config h1) (bind_event name object)) all.names in
    let next = names-next config h1 (bind_event name object) in
    let push = ap (λ q. length (names q)) (places-push config h1 (bind_event name object)) in
    let named-all = ap length two.named in
    let counted = length-append (names_of before) (name ∷ []) in
    let mapped = length-map before (λ (x : Named). x.name.now) in
    record {
      events = bound ∙ ap (λ es. es ++ bind_event name object ∷ []) (opened ∙ ap (λ es. es ++ open_event named.kind ∷ []) b.events)
          ∙ append_assoc (opened_events config.uid 0 before) (open_event named.kind ∷ []) (bind_event name object ∷ [])
          ∙ ap (λ o. opened_events config.uid 0 before ++ open_event named.kind ∷ bind_event name o ∷ []) number
          ∙ sym (opened-more config.uid 0 before named);
      counts = same-counts config (length before + 1) (length (before ++ named ∷ [])) (length before + length before + 1 + 1) (length (before ++ named ∷ []) + length (before ++ named ∷ [])) (names_of before ++ name ∷ []) (names_of (before ++ named ∷ [])) (h1 ++ bind_event name object ∷ []) h2
          (omega (arith, longer)) (omega (arith, longer)) (sym (map-append (λ (x : Named). x.name.now) before (named ∷ []))) (sym bound) two;
      few = omega (arith, longer, most, next, push, named-all, counted, mapped);
      short = All-push HasShortName before named b.short short;
    }

pub begun-none : (config : SpaceConfig) (h : List Event) → h ≡ [] → IsBegun config [] h
begun-none config h none =
    let P : List Event → Type 0 = λ es. HasCounts config 0 0 [] es in
    record { events = none; counts = subst P (sym none) (counts-none config); few = omega arith; short = tt }

pub begun-more : (s s1 : SpaceHistory) (named : Named) (object : ObjId) (h2 : List Event) (result : Result (Unit {0}) ServeFault) → s1.configuration ≡ s.configuration → s1.events ≡ s.events ++ open_event named.kind ∷ [] →
    object ≡ id_at s.configuration.uid (exported_count (places s.configuration s.events)) → OnOk result (h2 ≡ s1.events ++ bind_event named.name.now object ∷ []) → OnOk result (IsBound s1 named.name.now object) →
    OnOk result ((before : List Named) → IsBegun s.configuration before s.events → IsBegun s.configuration (before ++ named ∷ []) h2)
begun-more s s1 named object h2 (Err fault) same opened object-is bound free = tt
begun-more s s1 named object h2 (Ok done) same opened object-is bound free =
    let e = bind_event named.name.now object in
    let Free : SpaceConfig → Type 0 = λ k. refusal (limits k) k (places k s1.events) e ≡ None in
    let Effective : SpaceConfig → Type 0 = λ k. is_effective k (places k s1.events) 0 (Bind named.name.now object) ≡ true in
    λ before b. begun-next s.configuration before named s.events s1.events h2 object opened object-is bound free.short (subst Free same free.free) (subst Effective same free.effective) b

-- ---- why one more object is not opened

pub begun-unopened : (s : SpaceHistory) (named : Named) (fault : ServeFault) → RefusesEvent s (open_event named.kind) fault → (before : List Named) → IsBegun s.configuration before s.events → RefusesNamed before named fault
begun-unopened s named TooManyNames r before b =
    many (open-refused s.configuration (length before) (length before + length before) (names_of before) s.events named.kind r.0 b.counts r.1 r.2)
  where
    many : (MAX_HISTORY_UNITS ≤ length before + length before) ⊎ (MAX_EXPORTS ≤ length before) → MAX_NAMES ≤ length before
    many (inl units) = omega (arith, units)
    many (inr objects) = omega (arith, objects)
begun-unopened s named NoMemory r before b = tt
begun-unopened s named _ r before b = absurd r

-- ---- all objects

all-short : (objects : List Named) → AllByRecursion HasShortName objects → All HasShortName objects
all-short objects short = λ i d lt. All-get_or HasShortName objects i d lt short

-- The objects of a server that has begun have sound names.
pub begun-sound : (config : SpaceConfig) (objects : List Named) (h : List Event) → IsBegun config objects h → AreSoundNames objects
begun-sound config objects h b =
    let Once : List (List ℕ) → Type 0 = λ ns. AllOnce same_bytes ns in
    record { short = all-short objects b.short; once = subst Once b.counts.named (names-once config h); few = b.few }

-- A name that stands before an object of the same name.
twice : (before : List (List ℕ)) (name : List ℕ) (rest : List (List ℕ)) → list_any (same_bytes name) before ≡ true → AllOnce same_bytes (before ++ name ∷ rest) → ⊥
twice [] name rest there once = true≢false (sym there)
twice (x ∷ xs) name rest there once = go (same_bytes name x) refl (twice xs name rest)
  where
    go : (b : Bool) → same_bytes name x ≡ b → (list_any (same_bytes name) xs ≡ true → AllOnce same_bytes (xs ++ name ∷ rest) → ⊥) → ⊥
    go true same more = true≢false (sym (list_any-append (same_bytes x) xs (name ∷ rest) ∙ ap (λ b. list_any (same_bytes x) xs || (b || list_any (same_bytes x) rest)) (same_bytes-turned x name ∙ same) ∙ or_true (list_any (same_bytes x) xs)) ∙ once.0)
    go false apart more = more (sym (ap (λ b. b || list_any (same_bytes name) xs) apart) ∙ there) once.1

here : (before : List Named) (named : Named) (rest : List Named) → AllByRecursion HasShortName (before ++ named ∷ rest) → HasShortName named
here [] named rest all = all.0
here (x ∷ xs) named rest all = here xs named rest all.1

-- Why one object is not opened is why the list isn't.
pub refuses-all : (objects before : List Named) (named : Named) (rest : List Named) (fault : ServeFault) → objects ≡ before ++ named ∷ rest → RefusesNamed before named fault → RefusesNames objects fault
refuses-all objects before named rest fault are r = subst Refuses (sym are) (go fault r)
  where
    Refuses : List Named → Type 0
    Refuses l = RefusesNames l fault

    longer : length (before ++ named ∷ rest) ≡ length before + length (named ∷ rest)
    longer = length-append before (named ∷ rest)

    go : (fault : ServeFault) → RefusesNamed before named fault → RefusesNames (before ++ named ∷ rest) fault
    go NameTooLong r = λ short. let bound = here before named rest (recursion_from_All HasShortName (before ++ named ∷ rest) short) in omega (arith, r, bound)
    go NameTaken r = λ once. twice (names_of before) named.name.now (names_of rest) r (subst Once (map-append (λ (x : Named). x.name.now) before (named ∷ rest)) once)
      where
        Once : List (List ℕ) → Type 0
        Once ns = AllOnce same_bytes ns
    go TooManyNames r = omega (arith, r, longer)
    go NoMemory r = tt
    go _ r = absurd r

-- One object more of a list was opened, or was refused.
pub begun-further : (config config1 : SpaceConfig) (objects before : List Named) (named : Named) (i : ℕ) (h h2 : List Event) → config1 ≡ config → objects ≡ before ++ drop i objects → drop i objects ≡ named ∷ drop (i + 1) objects →
    ((b : List Named) → IsBegun config1 b h → IsBegun config1 (b ++ named ∷ []) h2) → IsBegun config before h → (x : List Named) × (objects ≡ x ++ drop (i + 1) objects) × IsBegun config x h2
begun-further config config1 objects before named i h h2 same are next more b =
    let P : SpaceConfig → Type 0 = λ k. IsBegun k before h in
    let Q : SpaceConfig → Type 0 = λ k. IsBegun k (before ++ named ∷ []) h2 in
    (before ++ named ∷ [], are ∙ ap (λ l. before ++ l) next ∙ sym (append_assoc before (named ∷ []) (drop (i + 1) objects)), subst Q same (more before (subst P (sym same) b)))

pub refused-here : (config config1 : SpaceConfig) (objects before : List Named) (named : Named) (i : ℕ) (h : List Event) (fault : ServeFault) → config1 ≡ config → objects ≡ before ++ drop i objects → drop i objects ≡ named ∷ drop (i + 1) objects →
    ((b : List Named) → IsBegun config1 b h → RefusesNamed b named fault) → IsBegun config before h → RefusesNames objects fault
refused-here config config1 objects before named i h fault same are next refuses b =
    let P : SpaceConfig → Type 0 = λ k. IsBegun k before h in
    refuses-all objects before named (drop (i + 1) objects) fault (are ∙ ap (λ l. before ++ l) next) (refuses before (subst P (sym same) b))

pub refuses-site : (site : Site) (fault : ServeFault) → RefusesNames site.names.now fault → RefusesSite site fault
refuses-site site NameTooLong r = r
refuses-site site NameTaken r = r
refuses-site site TooManyNames r = r
refuses-site site NoMemory r = tt
refuses-site site _ r = absurd r

unbound : (config : SpaceConfig) (named : Named) (object : ObjId) (h h1 : List Event) (before : List Named) (rows : List Exported) → h1 ≡ h ++ open_event named.kind ∷ [] → object ≡ id_at config.uid (exported_count (places config h)) → IsBegun config before h →
    (fault : ServeFault) → RefusesBind (record { configuration = config; events = h1; rows = rows }) named.name.now object fault → RefusesNamed before named fault
unbound config named object h h1 before rows opened object-is b fault r = go fault r
  where
    P : List Event → Type 0
    P es = HasCounts config (length before + 1) (length before + length before + 1) (names_of before) es

    one : HasCounts config (length before + 1) (length before + length before + 1) (names_of before) h1
    one = subst P (sym opened) (open-counts config (length before) (length before + length before) (names_of before) h named.kind b.counts)

    there : has (table config (places config h1)) object ≡ true
    there = ap (λ o. has (table config (places config h1)) o) object-is ∙ ap (λ es. has (table config (places config es)) (id_at config.uid (exported_count (places config h)))) opened ∙ opened-is-there config h named.kind

    many : (MAX_HISTORY_UNITS ≤ length before + length before + 1) ⊎ (MAX_NAMES ≤ length (names_of before)) → MAX_NAMES ≤ length before
    many (inl units) = omega (arith, units)
    many (inr long) = let mapped = length-map before (λ (x : Named). x.name.now) in omega (arith, long, mapped)

    go : (fault : ServeFault) → RefusesBind (record { configuration = config; events = h1; rows = rows }) named.name.now object fault → RefusesNamed before named fault
    go NameTooLong r = r
    go NameTaken r = ap (list_any (same_bytes named.name.now)) (sym one.named) ∙ bind-repeats config h1 named.name.now object there r
    go TooManyNames r = many (bind-refused config (length before + 1) (length before + length before + 1) (names_of before) h1 named.name.now object r.0 one r.1 r.2)
    go NoMemory r = tt
    go _ r = absurd r

pub begun-unbound : (s s1 : SpaceHistory) (named : Named) (object : ObjId) (result : Result (Unit {0}) ServeFault) → s1.configuration ≡ s.configuration → s1.events ≡ s.events ++ open_event named.kind ∷ [] →
    object ≡ id_at s.configuration.uid (exported_count (places s.configuration s.events)) → IfErr result (RefusesBind s1 named.name.now object) →
    IfErr result (λ fault. (before : List Named) → IsBegun s.configuration before s.events → RefusesNamed before named fault)
begun-unbound s s1 named object (Ok done) same opened object-is r = tt
begun-unbound s s1 named object (Err fault) same opened object-is r =
    let Refuses : SpaceConfig → Type 0 = λ k. RefusesBind (record { configuration = k; events = s1.events; rows = s1.rows }) named.name.now object fault in
    λ before b. unbound s.configuration named object s.events s1.events before s1.rows opened object-is b fault (subst Refuses same r)
