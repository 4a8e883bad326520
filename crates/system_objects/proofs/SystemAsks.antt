-- What calls of the registry and the collector ask for.
use Rattle.std.proofs.Common.{◌≡◌, ℕ, ℤ, Bool, List, [], Option, None, Some, Result, Ok, Err, refl, ap, sym, subst, ◌∙◌, arith}
use Rattle.object_ids.specs.declared.ids.ObjId.{ObjId}
use Rattle.object_ids.specs.declared.ids.Uid.{Uid}
use Rattle.object_ids.specs.Client.{Client}
use Rattle.method_hash.specs.declared.system.RegistryMethod.TheVariants as registry
use Rattle.method_hash.specs.declared.system.CollectorMethod.TheVariants as collector
use Rattle.history.specs.declared.asks.Ask.{Ask}
use Rattle.history.specs.declared.asks.Ask.TheVariants.{Dirty, Clean, Bind, Rebind, Unbind, Lookup, List as ListNames}
use Rattle.java_shapes.specs.declared.lease_views.LeaseView.{LeaseView}
use Rattle.java_shapes.specs.declared.ref_views.LiveRef.{LiveRef}
use Rattle.jrmp_frames.specs.declared.arguments.Arguments.{Arguments}
use Rattle.system_objects.specs.declared.book.Kind.{Kind}
use Rattle.system_objects.specs.declared.request.Rejection.{Rejection}
use Rattle.system_objects.specs.declared.request.ReplyContext.{ReplyContext}
use Rattle.system_objects.specs.declared.request.SystemRequest.TheVariants.{Rejected, Asks, AsksForNew}
use Rattle.system_objects.specs.declared.setup.Setup.{Setup}
use Rattle.system_ids.specs.declared.methods.SystemMethod.{SystemMethod}
use Rattle.system_ids.specs.declared.methods.SystemMethod.TheVariants.{Registry, Collector}
use Rattle.system_objects.specs.SystemRequests.{unnamed, unnamed_of, text_in, live_ref_in, objids_in, number_in, vmid_in, truth_in, lease_in, name_to_find, name_to_unbind, name_and_object, client_or, bind_of, rebind_of, unbind_of, lookup_of, clean_of, dirty_of, request_of, client_draws, kept_of, IsRequest, IsQuiet}
use Rattle.system_objects.specs.Terms.{Terms, terms_of}

-- ---- no such call begins or ends a call

abbrev pub asked : Ask → Result Ask Rejection
asked ask = Ok ask

abbrev pub refused : Rejection → Result Ask Rejection
refused bar = Err bar

pub asked_same : (a b : Ask) → asked a ≡ asked b → a ≡ b
asked_same a b e = cc

quiet_is : (a b : Ask) → IsQuiet a → asked a ≡ asked b → IsQuiet b
quiet_is a b quiet e = let P : Ask → Type 0 = λ x. IsQuiet x in subst P (asked_same a b e) quiet

bind_quiet : (r : Result (List ℕ × ObjId) Rejection) (ask : Ask) → bind_of r ≡ Ok ask → IsQuiet ask
bind_quiet (Ok parts) ask e = quiet_is (Bind parts.0 parts.1) ask tt e
bind_quiet (Err bar) ask e = absurd (cc)

rebind_quiet : (r : Result (List ℕ × ObjId) Rejection) (ask : Ask) → rebind_of r ≡ Ok ask → IsQuiet ask
rebind_quiet (Ok parts) ask e = quiet_is (Rebind parts.0 parts.1) ask tt e
rebind_quiet (Err bar) ask e = absurd (cc)

unbind_quiet : (r : Result (List ℕ) Rejection) (ask : Ask) → unbind_of r ≡ Ok ask → IsQuiet ask
unbind_quiet (Ok name) ask e = quiet_is (Unbind name) ask tt e
unbind_quiet (Err bar) ask e = absurd (cc)

lookup_quiet : (uid : Uid) (r : Result (List ℕ) Rejection) (ask : Ask) → lookup_of uid r ≡ Ok ask → IsQuiet ask
lookup_quiet uid (Ok name) ask e = quiet_is (Lookup name uid) ask tt e
lookup_quiet uid (Err bar) ask e = absurd (cc)

clean_quiet : (n : Option ℤ) (s : Option Bool) (c : Option Client) (os : Option (List ObjId)) (ask : Ask) → clean_of n s c os ≡ Ok ask → IsQuiet ask
clean_quiet (Some number) (Some strong) (Some client) (Some objects) ask e = quiet_is (Clean client number objects strong) ask tt e
clean_quiet (Some number) (Some strong) (Some client) None ask e = absurd (cc)
clean_quiet (Some number) (Some strong) None os ask e = absurd (cc)
clean_quiet (Some number) None c os ask e = absurd (cc)
clean_quiet None s c os ask e = absurd (cc)

dirty_quiet : (terms : Terms) (uid : Uid) (n : Option ℤ) (l : Option LeaseView) (os : Option (List ObjId)) (ask : Ask) → dirty_of terms uid n l os ≡ Ok ask → IsQuiet ask
dirty_quiet terms uid (Some number) (Some lease) (Some objects) ask e = quiet_is (Dirty (client_or terms uid lease.vmid) number lease.value objects) ask tt e
dirty_quiet terms uid (Some number) (Some lease) None ask e = absurd (cc)
dirty_quiet terms uid (Some number) None os ask e = absurd (cc)
dirty_quiet terms uid None l os ask e = absurd (cc)

pub request_quiet : (terms : Terms) (method : SystemMethod) (arguments : Arguments) (client uid : Uid) (ask : Ask) → request_of terms method arguments client uid ≡ Ok ask → IsQuiet ask
unfolding request_of
request_quiet terms (Registry registry.Bind) arguments client uid ask e = bind_quiet (name_and_object terms (text_in arguments 0) (live_ref_in arguments 1)) ask e
request_quiet terms (Registry registry.List) arguments client uid ask e = quiet_is ListNames ask tt e
request_quiet terms (Registry registry.Lookup) arguments client uid ask e = lookup_quiet uid (name_to_find (text_in arguments 0)) ask e
request_quiet terms (Registry registry.Rebind) arguments client uid ask e = rebind_quiet (name_and_object terms (text_in arguments 0) (live_ref_in arguments 1)) ask e
request_quiet terms (Registry registry.Unbind) arguments client uid ask e = unbind_quiet (name_to_unbind terms (text_in arguments 0)) ask e
request_quiet terms (Collector collector.Clean) arguments client uid ask e = clean_quiet (number_in arguments 1) (truth_in arguments 3) (vmid_in arguments 2) (objids_in arguments 0) ask e
request_quiet terms (Collector collector.Dirty) arguments client uid ask e = dirty_quiet terms client (number_in arguments 1) (lease_in arguments 2) (objids_in arguments 0) ask e

-- ---- the kinds that are served don't matter

unbound_kinds : (kinds : List Kind) (setup : Setup) (name : Option (List ℕ)) → name_to_unbind (terms_of [] setup) name ≡ name_to_unbind (terms_of kinds setup) name
unbound_kinds kinds setup None = refl
unbound_kinds kinds setup (Some name) = refl

bound_kinds : (kinds : List Kind) (setup : Setup) (name : Option (List ℕ)) (r : Option LiveRef) → name_and_object (terms_of [] setup) name r ≡ name_and_object (terms_of kinds setup) name r
bound_kinds kinds setup (Some name) (Some r) = refl
bound_kinds kinds setup (Some name) None = refl
bound_kinds kinds setup None r = refl

client_kinds : (kinds : List Kind) (setup : Setup) (uid : Uid) (vmid : Option Client) → client_or (terms_of [] setup) uid vmid ≡ client_or (terms_of kinds setup) uid vmid
client_kinds kinds setup uid None = refl
client_kinds kinds setup uid (Some client) = refl

dirty_kinds : (kinds : List Kind) (setup : Setup) (uid : Uid) (n : Option ℤ) (l : Option LeaseView) (os : Option (List ObjId)) → dirty_of (terms_of [] setup) uid n l os ≡ dirty_of (terms_of kinds setup) uid n l os
dirty_kinds kinds setup uid (Some number) (Some lease) (Some objects) = ap (λ c. asked (Dirty c number lease.value objects)) (client_kinds kinds setup uid lease.vmid)
dirty_kinds kinds setup uid (Some number) (Some lease) None = refl
dirty_kinds kinds setup uid (Some number) None os = refl
dirty_kinds kinds setup uid None l os = refl

-- What a call asks for doesn't depend on the kinds.
pub request_kinds : (kinds : List Kind) (setup : Setup) (method : SystemMethod) (arguments : Arguments) (client uid : Uid) → request_of (terms_of [] setup) method arguments client uid ≡ request_of (terms_of kinds setup) method arguments client uid
unfolding request_of
request_kinds kinds setup (Registry registry.Bind) arguments client uid = ap bind_of (bound_kinds kinds setup (text_in arguments 0) (live_ref_in arguments 1))
request_kinds kinds setup (Registry registry.List) arguments client uid = refl
request_kinds kinds setup (Registry registry.Lookup) arguments client uid = refl
request_kinds kinds setup (Registry registry.Rebind) arguments client uid = ap rebind_of (bound_kinds kinds setup (text_in arguments 0) (live_ref_in arguments 1))
request_kinds kinds setup (Registry registry.Unbind) arguments client uid = ap unbind_of (unbound_kinds kinds setup (text_in arguments 0))
request_kinds kinds setup (Collector collector.Clean) arguments client uid = refl
request_kinds kinds setup (Collector collector.Dirty) arguments client uid = dirty_kinds kinds setup client (number_in arguments 1) (lease_in arguments 2) (objids_in arguments 0)

-- ---- what was demanded

pub is_barred : (r : Result Ask Rejection) (draws : ℕ) (bar : Rejection) → IsRequest r draws (Rejected bar) → (r ≡ Err bar) × (draws ≡ 0)
is_barred (Err b) draws bar is = (ap (λ (x : Rejection). refused x) (sym is.0), is.1)
is_barred (Ok ask) draws bar is = absurd is

pub is_asked : (r : Result Ask Rejection) (draws : ℕ) (ask : Ask) (kept : ReplyContext) → IsRequest r draws (Asks ask kept) → (r ≡ Ok ask) × (kept ≡ kept_of ask) × (draws ≡ 0)
is_asked (Ok a) draws ask kept (same, is, none) = let P : Ask → Type 0 = λ x. kept ≡ kept_of x in (ap asked (sym same), subst P (sym same) is, none)
is_asked (Err bar) draws ask kept is = absurd is

pub is_asked_for_new : (r : Result Ask Rejection) (draws : ℕ) (ask : Ask) (kept : ReplyContext) → IsRequest r draws (AsksForNew ask kept) → (r ≡ Ok ask) × (kept ≡ kept_of ask) × (draws ≡ 1)
is_asked_for_new (Ok a) draws ask kept (same, is, one) = let P : Ask → Type 0 = λ x. kept ≡ kept_of x in (ap asked (sym same), subst P (sym same) is, one)
is_asked_for_new (Err bar) draws ask kept is = absurd is

-- The request for a client that was made has no identifier of the Return.
pub without_return : (terms : Terms) (method : SystemMethod) (arguments : Arguments) (client uid uid2 : Uid) → client_draws method arguments ≡ 1 → request_of terms method arguments client uid ≡ request_of terms method arguments client uid2
unfolding request_of client_draws
without_return terms (Registry method) arguments client uid uid2 one = let none : 0 ≡ 1 = one in absurd (omega (arith, none))
without_return terms (Collector method) arguments client uid uid2 one = refl

-- The same of the terms with the kinds, where identifiers were drawn since.
pub request_is : (kinds : List Kind) (setup setup2 : Setup) (method : SystemMethod) (arguments : Arguments) (client client2 uid : Uid) (r : Result Ask Rejection) → terms_of kinds setup2 ≡ terms_of kinds setup → client ≡ client2
    → request_of (terms_of [] setup2) method arguments client uid ≡ r → request_of (terms_of kinds setup) method arguments client2 uid ≡ r
request_is kinds setup setup2 method arguments client client2 uid r terms clients e =
    ap (λ t. request_of t method arguments client2 uid) (sym terms) ∙ sym (request_kinds kinds setup2 method arguments client2 uid)
    ∙ ap (λ c. request_of (terms_of [] setup2) method arguments c uid) (sym clients) ∙ e

-- ---- how many identifiers are drawn

-- none where there is no list of objects
without_objects : (client : Option Client) → unnamed_of client None ≡ 0
without_objects None = refl
without_objects (Some client) = refl

pub no_objects : (number : ℤ) (lease : Option LeaseView) → unnamed (Some number) lease None ≡ 0
no_objects number None = refl
no_objects number (Some lease) = without_objects lease.vmid
