-- What an outline and a summary say of a table, by what is kept, generic in the ask.
use Rattle.std.proofs.Common.{◌≡◌, ℕ, List, [], ◌∷◌, ◌++◌, length, refl, ap, sym, ◌∙◌, arith}
use Rattle.std.specs.Prelude.{Bool, true, false, ◌&&◌, ◌||◌, not, filter, flat_map, nat_lt}
use Rattle.std.specs.List.{list_any, AllByRecursion}
use Rattle.std.proofs.lemmas.Bool.{and_parts, or_parts, not-true}
use Rattle.std.proofs.lemmas.List.Folds.{list_any-append}
use Rattle.object_ids.specs.declared.ids.ObjId.{ObjId}
use Rattle.object_ids.specs.Client.{Client}
use Rattle.object_ids.specs.Same.{same_client, same_id}
use Rattle.history.specs.declared.asks.SpaceConfig.{SpaceConfig}
use Rattle.history.specs.declared.asks.Event.{Event}
use Rattle.history.specs.declared.calls.Call.{Call}
use Rattle.history.specs.declared.calls.Pair.{Pair}
use Rattle.history.specs.declared.places.Exported.{Exported}
use Rattle.history.specs.declared.places.Returned.{Returned}
use Rattle.history.specs.Awaiting.{awaiting_references_to}
use Rattle.history.specs.LeaseCalls.{lease_calls}
use Rattle.history.specs.Leases.{calls_of, clients, holders, is_remembered, same_pair, pairs_of, pairs_with, pairs, objects_named}
use Rattle.history.specs.Lists.{distinct, AllOnce}
use Rattle.history.specs.Names.{names_of}
use Rattle.history.specs.Outline.{ObjectRow, object_row}
use Rattle.history.specs.Places.{History, has, now}
use Rattle.history.specs.Replies.{ids}
use Rattle.history.specs.Running.{running_calls}
use Rattle.history.specs.Table.{table, places}
use Rattle.history.proofs.ListLemmas.{every-weaker, AllOnce-filter, AllOnce-distinct, length-members}
use Rattle.history.proofs.KeptSince.{table-apart}
use Rattle.history.proofs.NumberLaws.{AllApart, has-self}
use Rattle.history.proofs.PairLaws.{pair-equality, any-pairs_of}
use Rattle.history.proofs.Equalities.{object-equality}
use Rattle.dgc_server.proofs.Distinct.{all_once}
use Rattle.dgc_server.proofs.Rising.{rising-clients, rising-once}
use Rattle.space.specs.Kept.{live_calls}
use Rattle.space.proofs.LiveLaws.{holders-live, pairs-live}
use Rattle.space.proofs.Named.{any-ids}
use Rattle.space.specs.Runs.{is_run_on, RunsStand}
use Rattle.export_table.specs.StandsForHistory.{WaitsStand}
use Rattle.export_table.proofs.StandLaws.{awaiting_of-counted}

-- ---- THE ROW of an object of the table, by running calls, waits and live calls.

four : (x : Exported) (a b c d a' b' c' : ℕ) → a ≡ a' → b ≡ b' → c ≡ c' →
    ◌≡◌ {A = ObjectRow} (record { object = x.id; kind = x.kind; pinned = x.pinned; running = a; awaiting = b; held = c; names = d }) (record { object = x.id; kind = x.kind; pinned = x.pinned; running = a'; awaiting = b'; held = c'; names = d })
four x a b c d a' b' c' p q r = cc

pub row-kept : {R W : Type 0} (by : R → ℕ) (object : R → ObjId) (ref : W → Returned) (until : W → ℕ) (config : SpaceConfig) (h : History) (runs : List R) (ws : List W) →
    RunsStand by object h runs → WaitsStand ref until config.ack_ms (now h) h ws →
    AllByRecursion (λ x. object_row config h x ≡ record {
      object = x.id;
      kind = x.kind;
      pinned = x.pinned;
      running = length (filter (is_run_on object x.id) runs);
      awaiting = length (filter (λ w. nat_lt (now h) (until w) && same_id (ref w).object x.id) ws);
      held = length (holders config.lease_ms (now h) (live_calls (table config h) (lease_calls h)) x.id);
      names = length (names_of h x.id);
    }) (table config h)
row-kept by object ref until config h runs ws r s =
    every-weaker (λ (x : Exported). has (table config h) x.id ≡ true) _
    (λ x there. four x (running_calls h x.id) (length (awaiting_references_to config.ack_ms (now h) h x.id)) (length (holders config.lease_ms (now h) (lease_calls h) x.id)) (length (names_of h x.id))
    (length (filter (is_run_on object x.id) runs)) (length (filter (λ w. nat_lt (now h) (until w) && same_id (ref w).object x.id) ws)) (length (holders config.lease_ms (now h) (live_calls (table config h) (lease_calls h)) x.id))
    (sym (r.calls x.id)) (awaiting_of-counted ref until config.ack_ms (now h) (now h) h x.id ws (omega arith) s) (ap length (holders-live (table config h) x.id config.lease_ms (now h) (lease_calls h) there)))
    (table config h) (has-self (table config h))

-- ---- how many pairs

client-once : (cs : List Client) → all_once same_client cs ≡ true → AllOnce same_client cs
client-once [] h = tt
client-once (c ∷ cs) h = let two = and_parts (not (list_any (same_client c) cs)) (all_once same_client cs) h in (not-true (list_any (same_client c) cs) two.0, client-once cs two.1)

pairs-absent : (p : Pair) (f : Client → List ObjId) (cs : List Client) → list_any (same_client p.client) cs ≡ false → list_any (same_pair p) (flat_map (λ c. pairs_of c (f c)) cs) ≡ false
pairs-absent p f [] h = refl
pairs-absent p f (c ∷ cs) h =
    let two = or_parts (same_client p.client c) (list_any (same_client p.client) cs) h in
    list_any-append (same_pair p) (pairs_of c (f c)) (flat_map (λ d. pairs_of d (f d)) cs)
    ∙ ap (λ v. v || list_any (same_pair p) (flat_map (λ d. pairs_of d (f d)) cs)) (any-pairs_of p c (f c) ∙ ap (λ v. v && list_any (same_id p.object) (f c)) two.0)
    ∙ pairs-absent p f cs two.1

own-once : (c : Client) (os : List ObjId) (rest : List Pair) → AllOnce same_id os → AllOnce same_pair rest → ((o : ObjId) → list_any (same_pair (record { client = c; object = o })) rest ≡ false) → AllOnce same_pair (pairs_of c os ++ rest)
own-once c [] rest a b f = b
own-once c (o ∷ os) rest a b f = (
  list_any-append (same_pair (record { client = c; object = o })) (pairs_of c os) rest
      ∙ rw (any-pairs_of (record { client = c; object = o }) c os ∙ ap (λ v. same_client c c && v) a.0 ∙ none (same_client c c), f o) refl,
  own-once c os rest a.1 b f,
)
  where
    none : (b : Bool) → (b && false) ≡ false
    none true = refl
    none false = refl

pairs-once : (f : Client → List ObjId) → ((c : Client) → AllOnce same_id (f c)) → (cs : List Client) → AllOnce same_client cs → AllOnce same_pair (flat_map (λ c. pairs_of c (f c)) cs)
pairs-once f once [] a = tt
pairs-once f once (c ∷ cs) a = own-once c (f c) (flat_map (λ d. pairs_of d (f d)) cs) (once c) (pairs-once f once cs a.1) (λ o. pairs-absent (record { client = c; object = o }) f cs a.0)

pub pairs_with-once : (lease t : ℕ) (calls : List Call) (objects : List ObjId) → AllOnce same_id objects → AllOnce same_pair (pairs_with lease t calls objects)
unfolding pairs_with
pairs_with-once lease t calls objects once =
    pairs-once (λ c. filter (is_remembered lease t (calls_of c calls)) objects) (λ c. AllOnce-filter same_id (is_remembered lease t (calls_of c calls)) objects once) (clients calls)
    (client-once (clients calls) (rising-once (clients calls) (rising-clients calls)))

all-pairs-once : (lease t : ℕ) (calls : List Call) → AllOnce same_pair (pairs lease t calls)
unfolding pairs objects_named
all-pairs-once lease t calls = pairs_with-once lease t calls (distinct same_id (flat_map (λ x. x.objects) calls)) (AllOnce-distinct same_id object-equality (flat_map (λ x. x.objects) calls))

pub apart-once : (xs : List Exported) → AllApart xs → AllOnce same_id (ids xs)
apart-once [] a = tt
apart-once (x ∷ xs) a = (any-ids xs x.id ∙ a.0, apart-once xs a.1)

-- HOW MANY PAIRS are remembered with objects of the table: as many as of the live calls.
pub pairs-counted-live : (config : SpaceConfig) (events : List Event) (t : ℕ) →
    length (pairs_with config.lease_ms t (lease_calls (places config events)) (ids (table config (places config events))))
    ≡ length (pairs config.lease_ms t (live_calls (table config (places config events)) (lease_calls (places config events))))
pairs-counted-live config events t =
    length-members same_pair pair-equality (pairs_with config.lease_ms t (lease_calls (places config events)) (ids (table config (places config events))))
    (pairs config.lease_ms t (live_calls (table config (places config events)) (lease_calls (places config events))))
    (pairs_with-once config.lease_ms t (lease_calls (places config events)) (ids (table config (places config events))) (apart-once (table config (places config events)) (table-apart config events)))
    (all-pairs-once config.lease_ms t (live_calls (table config (places config events)) (lease_calls (places config events))))
    (pairs-live (table config (places config events)) config.lease_ms t (lease_calls (places config events)))
