-- The outline, by what is kept.
use Rattle.std.proofs.Common.{◌≡◌, ℕ, ◌+◌, ◌<◌, ◌≤◌, List, [], ◌∷◌, ◌++◌, length, refl, ap, sym, subst, ◌∙◌, arith, map, max, take, get_or, append-nil, append_assoc, Some}
use Rattle.std.specs.Prelude.{true, false, flat_map, codes, option_map, option_to_list, if◌then◌else◌}
use Rattle.std.specs.List.{list_any, AllByRecursion}
use Rattle.std.proofs.lemmas.Bool.{or_parts}
use Rattle.std.proofs.lemmas.List.{take_all, take_more, append_cancel_right}
use Rattle.std.proofs.lemmas.List.Concat.{flat_map-append}
use Rattle.history.specs.declared.asks.SpaceConfig.{SpaceConfig}
use Rattle.history.specs.declared.asks.Event.{Event}
use Rattle.history.specs.declared.calls.Call.{Call}
use Rattle.history.specs.declared.places.Exported.{Exported}
use Rattle.history.specs.declared.places.Withdrawal.{Withdrawal}
use Rattle.history.specs.Awaiting.{awaiting_references_to}
use Rattle.history.specs.LeaseCalls.{lease_calls}
use Rattle.history.specs.Leases.{lease_rows, holders}
use Rattle.history.specs.Limits.{units}
use Rattle.history.specs.Lists.{AllOnce}
use Rattle.history.specs.Names.{names, names_of, stands_for}
use Rattle.history.specs.Outline.{ObjectRow, object_row, object_line, lease_line, name_line, withdrawal_line, events_line, outline}
use Rattle.history.specs.Places.{History, has, now}
use Rattle.history.specs.Running.{running_calls}
use Rattle.history.specs.Table.{table, places, withdrawals}
use Rattle.history.specs.Texts.{line, object_text, name_text}
use Rattle.history.proofs.NameLaws.{bytes-equality, names-once}
use Rattle.object_ids.specs.Same.{same_bytes}
use Rattle.history.proofs.ListLemmas.{every-weaker}
use Rattle.history.proofs.NumberLaws.{has-self}
use Rattle.history.proofs.TableLaws.{length-places}
use Rattle.journal.specs.Rows.{events_text}
use Rattle.dgc_server.specs.StandsForCalls.{LeaseTable, StandsFor}
use Rattle.export_table.specs.declared.rows.ExportRow.{ExportRow}
use Rattle.export_table.specs.declared.waits.Wait.{Wait}
use Rattle.export_table.specs.ExportRows.{row_at}
use Rattle.export_table.specs.Table.{ExportTable}
use Rattle.export_table.specs.Waits.{awaiting_of as waits_of}
use Rattle.space.specs.declared.runs.Run.{Run}
use Rattle.space.specs.Built.{SpaceHistory}
use Rattle.space.specs.Kept.{live_calls, Keeps}
use Rattle.space.specs.OutlineRows.{held_row, binding_text}
use Rattle.space.specs.Standing.{standing}
use Rattle.export_table.specs.StandsForHistory.{WaitsStand, reference_of, end_of, row_of, rows_of}
use Rattle.space.proofs.LiveLaws.{holders-live, lease_rows-live}
use Rattle.rmi_registry.specs.declared.binding.Binding.{Binding}
use Rattle.rmi_registry.specs.Bindings.{names_in, object_of}
use Rattle.rmi_registry.specs.StandsForHistory.{AreBindings}
use Rattle.export_table.proofs.StandLaws.{awaiting_of-counted}

-- One more line of a list's lines.
pub lines-more : {X : Type 0} (f : X → List ℕ) (xs : List X) (i : ℕ) (d : X) (start before after line : List ℕ) → i < length xs →
    before ≡ start ++ flat_map f (take i xs) → after ≡ before ++ line → line ≡ f (get_or xs i d) → after ≡ start ++ flat_map f (take (i + 1) xs)
lines-more {X} f xs i d start before after line h b a l =
    a ∙ ap (λ t. before ++ t) l ∙ ap (λ t. t ++ f (get_or xs i d)) b ∙ joined (flat_map f (take i xs)) (f (get_or xs i d))
    ∙ ap (λ t. start ++ t) (one (f (get_or xs i d)) ∙ sym (flat_map-append f (take i xs) (get_or xs i d ∷ [])))
    ∙ ap (λ t. start ++ flat_map f t) (sym (take_more xs i d h))
  where
    joined : (u v : List ℕ) → (start ++ u) ++ v ≡ start ++ (u ++ v)
    joined u v = rw append_assoc refl

    one : (u : List ℕ) → flat_map f (take i xs) ++ u ≡ flat_map f (take i xs) ++ (u ++ [])
    one u = rw append-nil refl

pub lines-all : {X : Type 0} (f : X → List ℕ) (xs : List X) (i : ℕ) (start text : List ℕ) → length xs ≤ i → text ≡ start ++ flat_map f (take i xs) → text ≡ start ++ flat_map f xs
lines-all f xs i start text h t = t ∙ ap (λ ys. start ++ flat_map f ys) (take_all i xs h)

-- ---- the outline's parts

five : (x : Exported) (a b c d b' c' d' : ℕ) → b ≡ b' → c ≡ c' → d ≡ d' →
    ◌≡◌ {A = ObjectRow} (record { object = x.id; kind = x.kind; pinned = x.pinned; running = a; awaiting = b; held = c; names = d }) (record { object = x.id; kind = x.kind; pinned = x.pinned; running = a; awaiting = b'; held = c'; names = d' })
five x a b c d b' c' d' p q r = cc

-- The row of an object of the table, by the export table and the live calls.
row-is : (config : SpaceConfig) (h : History) (waits : List Wait) → WaitsStand reference_of end_of config.ack_ms (now h) h waits →
    AllByRecursion (λ x. object_row config h x ≡ held_row config.lease_ms (now h) (live_calls (table config h) (lease_calls h)) (row_at (now h) waits (row_of h x))) (table config h)
row-is config h waits w =
    every-weaker (λ (x : Exported). has (table config h) x.id ≡ true) _
    (λ x there. five x (running_calls h x.id) (length (awaiting_references_to config.ack_ms (now h) h x.id)) (length (holders config.lease_ms (now h) (lease_calls h) x.id)) (length (names_of h x.id))
    (length (waits_of (now h) x.id waits)) (length (holders config.lease_ms (now h) (live_calls (table config h) (lease_calls h)) x.id)) (length (names_of h x.id))
    (awaiting_of-counted reference_of end_of config.ack_ms (now h) (now h) h x.id waits (omega arith) w) (ap length (holders-live (table config h) x.id config.lease_ms (now h) (lease_calls h) there))
    refl)
    (table config h) (has-self (table config h))

-- The lines of the names are those of the bindings.
names-lines : (config : SpaceConfig) (h : History) (bs : List Binding) → AllByRecursion (λ b. stands_for h b.name ≡ Some b.object) bs →
    flat_map (name_line config h) (names_in bs) ≡ flat_map (binding_text config) bs
names-lines config h [] own = refl
names-lines config h (b ∷ bs) own =
    ap (λ s. line (codes "name" ∷ name_text b.name ∷ option_to_list (option_map (object_text config.uid) s)) ++ flat_map (name_line config h) (names_in bs)) own.0
    ∙ ap (λ l. binding_text config b ++ l) (names-lines config h bs own.1)

-- Each binding has what its name stands for.
own-objects : (bs : List Binding) → AllOnce same_bytes (names_in bs) → AllByRecursion (λ b. object_of bs b.name ≡ Some b.object) bs
own-objects [] once = tt
own-objects (b ∷ bs) once = (ap (λ s. if s then Some b.object else object_of bs b.name) (bytes-equality.self b.name), rest bs once.0 (own-objects bs once.1))
  where
    rest : (cs : List Binding) → list_any (same_bytes b.name) (names_in cs) ≡ false → AllByRecursion (λ c. object_of bs c.name ≡ Some c.object) cs → AllByRecursion (λ c. object_of (b ∷ bs) c.name ≡ Some c.object) cs
    rest [] h o = tt
    rest (c ∷ cs) h o =
        let two = or_parts (same_bytes b.name c.name) (list_any (same_bytes b.name) (names_in cs)) h in
        (ap (λ s. if s then Some b.object else object_of bs c.name) two.0 ∙ o.0, rest cs two.1 o.1)

bindings-lines : (config : SpaceConfig) (events : List Event) (bs : List Binding) → AreBindings (places config events) bs →
    flat_map (name_line config (places config events)) (names (places config events)) ≡ flat_map (binding_text config) bs
bindings-lines config events bs b =
    let O : List (List ℕ) → Type 0 = λ ns. AllOnce same_bytes ns in
    ap (flat_map (name_line config (places config events))) (sym b.names)
    ∙ names-lines config (places config events) bs (every-weaker _ _ (λ x own. sym (b.objects x.name) ∙ own) bs (own-objects bs (subst O (sym b.names) (names-once config events))))

rows-lines : (config : SpaceConfig) (h : History) (calls : List Call) (waits : List Wait) (xs : List Exported) → AllByRecursion (λ x. object_row config h x ≡ held_row config.lease_ms (now h) calls (row_at (now h) waits (row_of h x))) xs →
    flat_map (object_line config) (map (object_row config h) xs) ≡ flat_map (λ r. object_line config (held_row config.lease_ms (now h) calls r)) (map (row_at (now h) waits) (rows_of h xs))
rows-lines config h calls waits [] e = refl
rows-lines config h calls waits (x ∷ xs) e =
    ap (λ (r : ObjectRow). object_line config r ++ flat_map (object_line config) (map (object_row config h) xs)) e.0
    ∙ ap (λ l. object_line config (held_row config.lease_ms (now h) calls (row_at (now h) waits (row_of h x))) ++ l) (rows-lines config h calls waits xs e.1)

-- The text of what is kept.
abbrev kept_text : SpaceConfig → ℕ → ℕ → ℕ → List Call → List ExportRow → List Binding → List Withdrawal → List ℕ
kept_text config count used moment calls rows bindings withdrawn =
    events_text count used moment
    ++ flat_map (λ r. object_line config (held_row config.lease_ms moment calls r)) rows
    ++ flat_map lease_line (lease_rows config.lease_ms moment calls)
    ++ flat_map (binding_text config) bindings
    ++ flat_map (withdrawal_line config) withdrawn

outline-kept : (config : SpaceConfig) (events : List Event) (waits : List Wait) (bindings : List Binding) → AreBindings (places config events) bindings → WaitsStand reference_of end_of config.ack_ms (now (places config events)) (places config events) waits →
    outline config events
    ≡ kept_text config (length (places config events)) (units (places config events)) (now (places config events)) (live_calls (table config (places config events)) (lease_calls (places config events)))
    (map (row_at (now (places config events)) waits) (rows_of (places config events) (table config (places config events)))) bindings (withdrawals config (places config events))
unfolding outline
outline-kept config events waits bindings b w =
    parts (events_line (places config events)) (flat_map (object_line config) (map (object_row config (places config events)) (table config (places config events))))
    (flat_map (λ r. object_line config (held_row config.lease_ms (now (places config events)) (live_calls (table config (places config events)) (lease_calls (places config events))) r)) (map (row_at (now (places config events)) waits) (rows_of (places config events) (table config (places config events)))))
    (flat_map lease_line (lease_rows config.lease_ms (now (places config events)) (lease_calls (places config events))))
    (flat_map lease_line (lease_rows config.lease_ms (now (places config events)) (live_calls (table config (places config events)) (lease_calls (places config events)))))
    (flat_map (name_line config (places config events)) (names (places config events))) (flat_map (binding_text config) bindings) (flat_map (withdrawal_line config) (withdrawals config (places config events)))
    (rows-lines config (places config events) (live_calls (table config (places config events)) (lease_calls (places config events))) waits (table config (places config events)) (row-is config (places config events) waits w))
    (ap (flat_map lease_line) (sym (lease_rows-live (table config (places config events)) config.lease_ms (now (places config events)) (lease_calls (places config events)))))
    (bindings-lines config events bindings b)
  where
    parts : (a b b' c c' n n' d : List ℕ) → b ≡ b' → c ≡ c' → n ≡ n' → a ++ b ++ c ++ n ++ d ≡ a ++ b' ++ c' ++ n' ++ d
    parts a b b' c c' n n' d p q r = rw (p, q, r) refl

-- THE OUTLINE of a space.
pub outline-is : (config : SpaceConfig) (events : List Event) (leases : LeaseTable) (exports : ExportTable) (runs : List Run) (withdrawn : List Withdrawal) (reported opened used moment : ℕ) (bindings : List Binding) → Keeps config events leases exports runs withdrawn reported opened used moment →
    AreBindings (places config events) bindings →
    outline config events ≡ kept_text config (length events) used moment (live_calls (table config (places config events)) (lease_calls (places config events))) (map (row_at moment exports.waits) exports.rows) bindings withdrawn
outline-is config events leases exports runs withdrawn reported opened used moment bindings k b =
    let W : ℕ → Type 0 = λ n. WaitsStand reference_of end_of config.ack_ms n (places config events) exports.waits in
    outline-kept config events exports.waits bindings b (subst W k.stands.moment_is k.stands.waits_stand)
    ∙ five_more _ _ _ _ _ _ _ _ _ _ (length-places config events) (sym k.stands.used_is) (sym k.stands.moment_is) (sym k.stands.rows_are) (sym k.stands.withdrawn_are)
  where
    five_more : (c d u v m n : ℕ) (rs ss : List _) (ws vs : List Withdrawal) → c ≡ d → u ≡ v → m ≡ n → rs ≡ ss → ws ≡ vs →
        kept_text config c u m (live_calls (table config (places config events)) (lease_calls (places config events))) (map (row_at m exports.waits) rs) bindings ws
        ≡ kept_text config d v n (live_calls (table config (places config events)) (lease_calls (places config events))) (map (row_at n exports.waits) ss) bindings vs
    five_more c d u v m n rs ss ws vs p q r s t = rw (p, q, r, s, t) refl

max_same : (m : ℕ) → max m m ≡ m
max_same m = omega arith

-- What was written, part after part.
written : {shown : List Exported} (config : SpaceConfig) (events : List Event) (leases : LeaseTable) (exports : ExportTable) (runs : List Run) (withdrawn : List Withdrawal) (reported opened used moment count : ℕ) (bindings : List Binding) (start first second third fourth fifth : List ℕ) (s : SpaceHistory) →
    record { configuration = config; events = events; rows = shown } ≡ s → Keeps config events leases exports runs withdrawn reported opened used moment → AreBindings (places config events) bindings →
    count ≡ length events → first ≡ start ++ events_text count used moment →
    ((lease m : ℕ) (calls : List Call) → StandsFor lease leases m calls → second ≡ first ++ flat_map (λ r. object_line config (held_row lease (max moment m) calls r)) (map (row_at moment exports.waits) exports.rows)) →
    ((lease m : ℕ) (calls : List Call) → StandsFor lease leases m calls → third ≡ second ++ flat_map lease_line (lease_rows lease (max moment m) calls)) →
    fourth ≡ third ++ flat_map (binding_text config) bindings →
    fifth ≡ fourth ++ flat_map (withdrawal_line config) withdrawn →
    fifth ≡ start ++ outline s.configuration s.events
written config events leases exports runs withdrawn reported opened used moment count bindings start first second third fourth fifth s v k bs n b c d f e =
    let same = max_same moment in
    let P : SpaceHistory → Type 0 = λ x. fifth ≡ start ++ outline x.configuration x.events in
    subst P v (
    e ∙ ap (λ t. t ++ flat_map (withdrawal_line config) withdrawn) (
    f ∙ ap (λ t. t ++ flat_map (binding_text config) bindings) (
    d config.lease_ms moment live k.stands.leases_stand
    ∙ ap (λ t. second ++ flat_map lease_line (lease_rows config.lease_ms t live)) same
    ∙ ap (λ t. t ++ flat_map lease_line (lease_rows config.lease_ms moment live)) (
    c config.lease_ms moment live k.stands.leases_stand
    ∙ ap (λ t. first ++ flat_map (λ r. object_line config (held_row config.lease_ms t live r)) rows) same
    ∙ ap (λ t. t ++ flat_map (λ r. object_line config (held_row config.lease_ms moment live r)) rows) (b ∙ ap (λ x. start ++ events_text x used moment) n))))
    ∙ after_start start (events_text (length events) used moment) (flat_map (λ r. object_line config (held_row config.lease_ms moment live r)) rows) (flat_map lease_line (lease_rows config.lease_ms moment live)) (flat_map (binding_text config) bindings) (flat_map (withdrawal_line config) withdrawn)
    ∙ ap (λ t. start ++ t) (sym (outline-is config events leases exports runs withdrawn reported opened used moment bindings k bs)))
  where
    live : List Call
    live = live_calls (table config (places config events)) (lease_calls (places config events))

    rows : List ExportRow
    rows = map (row_at moment exports.waits) exports.rows

    after_start : (x a b c n d : List ℕ) → x ++ a ++ b ++ c ++ n ++ d ≡ x ++ (a ++ b ++ c ++ n ++ d)
    after_start x a b c n d = simp append_assoc refl

-- The outline is what stands, and then the withdrawals.
outline-standing : (config : SpaceConfig) (events : List Event) → outline config events ≡ standing config events ++ flat_map (withdrawal_line config) (withdrawals config (places config events))
unfolding outline standing
outline-standing config events =
    parted (events_line (places config events)) (flat_map (object_line config) (map (object_row config (places config events)) (table config (places config events))))
    (flat_map lease_line (lease_rows config.lease_ms (now (places config events)) (lease_calls (places config events)))) (flat_map (name_line config (places config events)) (names (places config events)))
    (flat_map (withdrawal_line config) (withdrawals config (places config events)))
  where
    parted : (a b c n d : List ℕ) → a ++ b ++ c ++ n ++ d ≡ (a ++ b ++ c ++ n) ++ d
    parted a b c n d = simp append_assoc refl

-- What was written of what stands, part after part.
pub standing-written : {shown : List Exported} (config : SpaceConfig) (events : List Event) (leases : LeaseTable) (exports : ExportTable) (runs : List Run) (withdrawn : List Withdrawal) (reported opened used moment count : ℕ) (bindings : List Binding) (start first second third fourth : List ℕ) (s : SpaceHistory) →
    record { configuration = config; events = events; rows = shown } ≡ s → Keeps config events leases exports runs withdrawn reported opened used moment → AreBindings (places config events) bindings →
    count ≡ length events → first ≡ start ++ events_text count used moment →
    ((lease m : ℕ) (calls : List Call) → StandsFor lease leases m calls → second ≡ first ++ flat_map (λ r. object_line config (held_row lease (max moment m) calls r)) (map (row_at moment exports.waits) exports.rows)) →
    ((lease m : ℕ) (calls : List Call) → StandsFor lease leases m calls → third ≡ second ++ flat_map lease_line (lease_rows lease (max moment m) calls)) →
    fourth ≡ third ++ flat_map (binding_text config) bindings →
    fourth ≡ start ++ standing s.configuration s.events
standing-written {shown} config events leases exports runs withdrawn reported opened used moment count bindings start first second third fourth s v k bs n b c d f =
    let P : SpaceHistory → Type 0 = λ x. fourth ≡ start ++ standing x.configuration x.events in
    let last = flat_map (withdrawal_line config) withdrawn in
    subst P v (append_cancel_right fourth (start ++ standing config events) last
    (written {shown = shown} config events leases exports runs withdrawn reported opened used moment count bindings start first second third fourth (fourth ++ last) (record { configuration = config; events = events; rows = shown }) refl k bs n b c d f refl
    ∙ ap (λ t. start ++ t) (outline-standing config events ∙ ap (λ ws. standing config events ++ flat_map (withdrawal_line config) ws) (sym k.stands.withdrawn_are))
    ∙ sym (append_assoc start (standing config events) last)))

-- The outline, where the withdrawals are written after it.
pub outline-written : {shown : List Exported} (config : SpaceConfig) (events : List Event) (withdrawn : List Withdrawal) (start fourth fifth : List ℕ) (s : SpaceHistory) →
    record { configuration = config; events = events; rows = shown } ≡ s → withdrawn ≡ withdrawals config (places config events) → fourth ≡ start ++ standing s.configuration s.events →
    fifth ≡ fourth ++ flat_map (withdrawal_line config) withdrawn → fifth ≡ start ++ outline s.configuration s.events
outline-written config events withdrawn start fourth fifth s v are f e =
    let P : SpaceHistory → Type 0 = λ x. fourth ≡ start ++ standing x.configuration x.events → fifth ≡ start ++ outline x.configuration x.events in
    subst P v (λ g.
    e ∙ ap (λ t. t ++ flat_map (withdrawal_line config) withdrawn) g ∙ append_assoc start (standing config events) (flat_map (withdrawal_line config) withdrawn)
    ∙ ap (λ ws. start ++ (standing config events ++ flat_map (withdrawal_line config) ws)) are ∙ ap (λ t. start ++ t) (sym (outline-standing config events))) f
