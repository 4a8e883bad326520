-- What the calls of a registry make of a command.
use Rattle.std.proofs.Common.{◌≡◌, ℕ, List, [], Option, Some, None, Ok, Err, refl, ap, ◌∙◌}
use Rattle.std.specs.Prelude.{option_map}
use Rattle.object_ids.specs.declared.ids.Uid.{Uid}
use Rattle.object_ids.specs.Bytes.{bytes_of_uid}
use Rattle.class_desc.specs.declared.field.TypeCode.TheVariants as types
use Rattle.java_shapes.specs.declared.ref_views.LiveRef.{LiveRef}
use Rattle.java_shapes.specs.Ids.{texts_at}
use Rattle.java_shapes.specs.LiveRefs.{live_ref_at}
use Rattle.method_hash.specs.declared.system.RegistryMethod.TheVariants as registry
use Rattle.rmi_client.specs.Replies.{reference_of, viewed}
use Rattle.rmi_client.specs.Requests.{HearsSeen, IsBindCall, IsListCall, IsNameCall, found_in, names_in, nothing_in}
use Rattle.rmi_client.specs.Sessions.{LinkState}
use Rattle.rmi_client.specs.Sessions as session
use Rattle.rmi_client.specs.declared.end.ClientEnd.{ClientEnd}
use Rattle.rmi_client.specs.declared.end.ClientEnd.TheVariants as ends
use Rattle.rmi_client.specs.declared.reply.Answer.{Answer}
use Rattle.client_talk.specs.Scripts.{Script, asks, done}
use Rattle.client_talk.specs.Talk.{Seen, Linked, Talks}
use Rattle.client_talk.specs.Steps.{Stands, IsAt, with_seen}
use Rattle.client_talk.specs.Rmi.{List_names, Look_up, Bind, Unbind, Reply, Names, Found, Finished, rmi, view_of}
use Rattle.client_talk.specs.Sessions.{seen_of}
use Rattle.client_talk.specs.Commands.{finds, if_found, if_named, lists, unbinds}
use Rattle.client_talk.specs.declared.end.CommandEnd.TheVariants.{Session}
use Rattle.client_talk.proofs.Stepping.{asked_on, done_on, memory_here, talks_same}
use Rattle.client_talk.proofs.Joining.{asked_by, held_same}

pub listed_on : (s : Script rmi (List (List ℕ))) (k : ℕ) (links : List Linked) (given given2 : Option (List ℕ)) (old new : LinkState) (names : List (List ℕ))
    → IsAt k links (seen_of old) → Stands s links given given2 (lists k) → session.Asks IsListCall (HearsSeen names_in (Some types.Array)) old new (Ok names)
    → Talks s (with_seen k (seen_of new) links) given given2 (Ok names)
listed_on s k links given given2 old new names here stands h =
    done_on s _ given given2 names
    (asked_on s k links given given2 (seen_of old) (seen_of new) List_names if_named (Ok (Names names)) stands here
    (asked_by List_names names_in Names tt refl (record { same = λ answer. ap (λ r. option_map Names (viewed texts_at r)) (held_same answer.body) }) old new (Ok names) h))

pub unlisted_on : (s : Script rmi (List (List ℕ))) (k : ℕ) (links : List Linked) (given given2 : Option (List ℕ)) (old new : LinkState) (end : ClientEnd)
    → IsAt k links (seen_of old) → Stands s links given given2 (lists k) → session.Asks IsListCall (HearsSeen names_in (Some types.Array)) old new (Err end)
    → Talks s (with_seen k (seen_of new) links) given given2 (Err (Session end))
unlisted_on s k links given given2 old new end here stands h =
    asked_on s k links given given2 (seen_of old) (seen_of new) List_names if_named (Err (Session end)) stands here
    (asked_by List_names names_in Names tt refl (record { same = λ answer. ap (λ r. option_map Names (viewed texts_at r)) (held_same answer.body) }) old new (Err end) h)

abbrev finished : Unit {0} → Reply
finished u = Finished

pub unbound_on : (s : Script rmi (Unit {0})) (k : ℕ) (links : List Linked) (given given2 : Option (List ℕ)) (old new : LinkState) (name : List ℕ)
    → IsAt k links (seen_of old) → Stands s links given given2 (unbinds k name) → session.Asks (IsNameCall registry.Unbind name) (HearsSeen nothing_in None) old new (Ok tt)
    → Talks s (with_seen k (seen_of new) links) given given2 (Ok tt)
unbound_on s k links given given2 old new name here stands h =
    done_on s _ given given2 tt
    (asked_on s k links given given2 (seen_of old) (seen_of new) (Unbind name) (λ f. done tt) (Ok Finished) stands here
    (asked_by (Unbind name) nothing_in finished tt refl (record { same = λ answer. refl }) old new (Ok tt) h))

pub not_unbound_on : (s : Script rmi (Unit {0})) (k : ℕ) (links : List Linked) (given given2 : Option (List ℕ)) (old new : LinkState) (name : List ℕ) (end : ClientEnd)
    → IsAt k links (seen_of old) → Stands s links given given2 (unbinds k name) → session.Asks (IsNameCall registry.Unbind name) (HearsSeen nothing_in None) old new (Err end)
    → Talks s (with_seen k (seen_of new) links) given given2 (Err (Session end))
not_unbound_on s k links given given2 old new name end here stands h =
    asked_on s k links given given2 (seen_of old) (seen_of new) (Unbind name) (λ f. done tt) (Err (Session end)) stands here
    (asked_by (Unbind name) nothing_in finished tt refl (record { same = λ answer. refl }) old new (Err end) h)

-- ---- looking up

abbrev found_as : Uid × LiveRef → Reply
found_as found = Found (bytes_of_uid found.0) found.1

found_same : (uid : Uid) (reference : Option LiveRef) → option_map (Found (bytes_of_uid uid)) reference ≡ option_map found_as (option_map (λ r. (uid, r)) reference)
found_same uid None = refl
found_same uid (Some r) = refl

found_held : (answer : Answer) → view_of (Look_up []) answer ≡ option_map found_as (found_in answer)
found_held answer =
    ap (λ r. option_map (Found (bytes_of_uid answer.uid)) (viewed live_ref_at r)) (held_same answer.body)
    ∙ found_same answer.uid (viewed live_ref_at (reference_of answer.body))

pub found_on : {V : Type 0} (s : Script rmi V) (k : ℕ) (links : List Linked) (given given2 : Option (List ℕ)) (old new : LinkState) (name : List ℕ) (next : List ℕ → LiveRef → Script rmi V) (found : Uid × LiveRef)
    → IsAt k links (seen_of old) → Stands s links given given2 (finds k name next) → session.Asks (IsNameCall registry.Lookup name) (HearsSeen found_in (Some types.Object)) old new (Ok found)
    → Stands s (with_seen k (seen_of new) links) given given2 (next (bytes_of_uid found.0) found.1)
found_on s k links given given2 old new name next found here stands h =
    asked_on s k links given given2 (seen_of old) (seen_of new) (Look_up name) (if_found next) (Ok (found_as found)) stands here
    (asked_by (Look_up name) found_in found_as tt refl (record { same = λ answer. found_held answer }) old new (Ok found) h)

pub unfound_on : {V : Type 0} (s : Script rmi V) (k : ℕ) (links : List Linked) (given given2 : Option (List ℕ)) (old new : LinkState) (name : List ℕ) (next : List ℕ → LiveRef → Script rmi V) (end : ClientEnd)
    → IsAt k links (seen_of old) → Stands s links given given2 (finds k name next) → session.Asks (IsNameCall registry.Lookup name) (HearsSeen found_in (Some types.Object)) old new (Err end)
    → Talks s (with_seen k (seen_of new) links) given given2 (Err (Session end))
unfound_on s k links given given2 old new name next end here stands h =
    asked_on s k links given given2 (seen_of old) (seen_of new) (Look_up name) (if_found next) (Err (Session end)) stands here
    (asked_by (Look_up name) found_in found_as tt refl (record { same = λ answer. found_held answer }) old new (Err end) h)

-- ---- binding

pub bound_on : (s : Script rmi (Unit {0})) (k : ℕ) (links : List Linked) (given given2 : Option (List ℕ)) (old new : LinkState) (name : List ℕ) (reference : LiveRef)
    → IsAt k links (seen_of old) → Stands s links given given2 (asks k (Bind name reference) (λ f. done tt)) → session.Asks (IsBindCall name reference) (HearsSeen nothing_in None) old new (Ok tt)
    → Talks s (with_seen k (seen_of new) links) given given2 (Ok tt)
bound_on s k links given given2 old new name reference here stands h =
    done_on s _ given given2 tt
    (asked_on s k links given given2 (seen_of old) (seen_of new) (Bind name reference) (λ f. done tt) (Ok Finished) stands here
    (asked_by (Bind name reference) nothing_in finished tt refl (record { same = λ answer. refl }) old new (Ok tt) h))

pub not_bound_on : (s : Script rmi (Unit {0})) (k : ℕ) (links : List Linked) (given given2 : Option (List ℕ)) (old new : LinkState) (name : List ℕ) (reference : LiveRef) (end : ClientEnd)
    → IsAt k links (seen_of old) → Stands s links given given2 (asks k (Bind name reference) (λ f. done tt)) → session.Asks (IsBindCall name reference) (HearsSeen nothing_in None) old new (Err end)
    → Talks s (with_seen k (seen_of new) links) given given2 (Err (Session end))
not_bound_on s k links given given2 old new name reference end here stands h =
    asked_on s k links given given2 (seen_of old) (seen_of new) (Bind name reference) (λ f. done tt) (Err (Session end)) stands here
    (asked_by (Bind name reference) nothing_in finished tt refl (record { same = λ answer. refl }) old new (Err end) h)

-- There was no memory, on this link.
pub unbindable_on : {V : Type 0} (s s2 : Script rmi V) (k : ℕ) (links : List Linked) (given given2 : Option (List ℕ)) (seen : Seen)
    → IsAt k links seen → Stands s links given given2 s2 → Talks s (with_seen k seen links) given given2 (Err (Session ends.OutOfMemory))
unbindable_on s s2 k links given given2 seen here stands =
    talks_same s k links seen given given2 (Err (Session ends.OutOfMemory)) here (memory_here s s2 links given given2 (Session ends.OutOfMemory) stands refl)
