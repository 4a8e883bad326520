-- The rows of what calls of the registry and the collector ask for and are answered, one by one.
use Rattle.std.proofs.Common.{◌≡◌, ℕ, ℤ, pos, true, false, List, [], ◌∷◌, ◌++◌, Some, None, Ok, Err, codes, refl, nat_le, length, slice_get}
use Rattle.class_desc.specs.declared.slot.Slot.{Slot}
use Rattle.ser_values.specs.declared.value.Value.TheVariants as values
use Rattle.ser_values.specs.declared.graph.Graph.{Graph}
use Rattle.object_ids.specs.declared.ids.ObjId.{ObjId}
use Rattle.object_ids.specs.declared.ids.Uid.{Uid}
use Rattle.object_ids.specs.declared.ids.FullKind.TheVariants as tables
use Rattle.object_ids.specs.Client.{Client}
use Rattle.method_hash.specs.declared.system.RegistryMethod.TheVariants as registry
use Rattle.method_hash.specs.declared.system.CollectorMethod.TheVariants as collector
use Rattle.history.specs.declared.asks.Ask.{Ask}
use Rattle.history.specs.declared.asks.Ask.TheVariants as asks
use Rattle.history.specs.declared.replies.Reply.{Reply}
use Rattle.history.specs.declared.replies.Reply.TheVariants as replies
use Rattle.history.specs.declared.replies.Refused.TheVariants as refusals
use Rattle.history.specs.declared.limits.TheConstants.{MAX_NAME_UNITS}
use Rattle.java_shapes.specs.declared.ref_views.LiveRef.{LiveRef}
use Rattle.java_shapes.specs.Ids.{objids_at, lease_at, vmid_at}
use Rattle.java_shapes.specs.LiveRefs.{live_ref_at}
use Rattle.java_shapes.specs.LocalRefs.{is_local}
use Rattle.java_shapes.specs.Objects.{text_at}
use Rattle.java_shapes.specs.LeaseGraph.{lease_nodes, lease_items}
use Rattle.java_shapes.specs.RefGraph.{ref_nodes, ref_items}
use Rattle.java_shapes.specs.TextsGraph.{texts_nodes, texts_items}
use Rattle.jrmp_frames.specs.declared.arguments.Arg.TheVariants as args
use Rattle.jrmp_frames.specs.declared.arguments.Arguments.{Arguments}
use Rattle.jrmp_frames.specs.declared.message.Body.TheVariants as bodies
use Rattle.jrmp_frames.specs.Messages.{return_message}
use Rattle.system_objects.specs.declared.book.Kind.{Kind}
use Rattle.system_objects.specs.declared.request.Rejection.TheVariants as bars
use Rattle.system_ids.specs.declared.methods.SystemMethod.TheVariants.{Registry, Collector}
use Rattle.system_objects.specs.SystemRequests.{request_of, client_draws}
use Rattle.system_objects.specs.ReturnBytes.{fault_return, no_object, wrong_outcome, graph_return}
use Rattle.system_objects.specs.SystemReturns.{answer_written, void_return}
use Rattle.system_objects.specs.Terms.{Terms}

-- ---- Returns

abbrev answered : Terms → Uid → Ask → Reply → List ℕ
answered terms uid ask reply = answer_written terms uid ask (Ok (record { place = 0; reply = reply; gone = [] }))

void : (terms : Terms) (uid : Uid) → void_return uid ≡ return_message true uid bodies.Void
unfolding void_return
void terms uid = refl

a_lease : (terms : Terms) (uid : Uid) (client : Client) (number asked : ℤ) (objects : List ObjId) (duration : ℕ)
    → answered terms uid (asks.Dirty client number asked objects) (replies.Granted duration) ≡ graph_return uid (lease_nodes (pos duration) client) lease_items
unfolding answer_written
a_lease terms uid client number asked objects duration = refl

a_clean : (terms : Terms) (uid : Uid) (client : Client) (number : ℤ) (objects : List ObjId) → answered terms uid (asks.Clean client number objects true) replies.Done ≡ void_return uid
unfolding answer_written
a_clean terms uid client number objects = refl

a_bind : (terms : Terms) (uid : Uid) (name : List ℕ) (object : ObjId) → answered terms uid (asks.Bind name object) replies.Bound ≡ void_return uid
unfolding answer_written
a_bind terms uid name object = refl

a_second_bind : (terms : Terms) (uid : Uid) (name : List ℕ) (object : ObjId) → answered terms uid (asks.Bind name object) replies.AlreadyBound ≡ fault_return uid (codes "java.rmi.AlreadyBoundException: " ++ name)
unfolding answer_written
a_second_bind terms uid name object = refl

a_bind_of_none : (terms : Terms) (uid : Uid) (name : List ℕ) (object : ObjId) → answered terms uid (asks.Bind name object) replies.NoObject ≡ fault_return uid no_object
unfolding answer_written
a_bind_of_none terms uid name object = refl

a_rebind : (terms : Terms) (uid : Uid) (name : List ℕ) (object : ObjId) → answered terms uid (asks.Rebind name object) replies.Bound ≡ void_return uid
unfolding answer_written
a_rebind terms uid name object = refl

an_unbind : (terms : Terms) (uid : Uid) (name : List ℕ) → answered terms uid (asks.Unbind name) replies.Unbound ≡ void_return uid
unfolding answer_written
an_unbind terms uid name = refl

an_unbind_of_none : (terms : Terms) (uid : Uid) (name : List ℕ) → answered terms uid (asks.Unbind name) replies.NotBound ≡ fault_return uid (codes "java.rmi.NotBoundException: " ++ name)
unfolding answer_written
an_unbind_of_none terms uid name = refl

a_lookup_of_none : (terms : Terms) (uid id : Uid) (name : List ℕ) → answered terms uid (asks.Lookup name id) replies.NotBound ≡ fault_return uid (codes "java.rmi.NotBoundException: " ++ name)
unfolding answer_written
a_lookup_of_none terms uid id name = refl

a_list : (terms : Terms) (uid : Uid) (names : List (List ℕ)) → answered terms uid asks.List (replies.Names names) ≡ graph_return uid (texts_nodes names) texts_items
unfolding answer_written
a_list terms uid names = refl

a_lookup : (terms : Terms) (uid id : Uid) (name : List ℕ) (object : ObjId) (place : ℕ) (kind : Kind) → slice_get terms.kinds place ≡ Some kind
    → answered terms uid (asks.Lookup name id) (replies.Found object place) ≡ graph_return uid (ref_nodes kind.interface (record { host = terms.host; port = terms.port; id = object; result = true })) ref_items
unfolding answer_written
a_lookup terms uid id name object place kind is = rw is refl

a_lookup_of_no_kind : (terms : Terms) (uid id : Uid) (name : List ℕ) (object : ObjId) (place : ℕ) → slice_get terms.kinds place ≡ None
    → answered terms uid (asks.Lookup name id) (replies.Found object place) ≡ fault_return uid wrong_outcome
unfolding answer_written
a_lookup_of_no_kind terms uid id name object place is = rw is refl

a_full_history : (terms : Terms) (uid : Uid) (ask : Ask) → answer_written terms uid ask (Err refusals.HistoryFull) ≡ fault_return uid (codes "java.rmi.ServerException: full: history")
unfolding answer_written
a_full_history terms uid ask = refl

a_full_table : (terms : Terms) (uid : Uid) (ask : Ask) → answer_written terms uid ask (Err (refusals.Full tables.Names)) ≡ fault_return uid (codes "java.rmi.ServerException: full: names")
unfolding answer_written
a_full_table terms uid ask = refl

-- ---- demands

abbrev arguments_of : Graph → List args.the_data → Arguments
arguments_of graph vs = record { graph = graph; values = vs }

-- A dirty of a lease that names a client is for that client, and no identifier is drawn for it.
a_dirty : (terms : Terms) (graph : Graph) (client uid : Uid) (s t : Slot) (number : ℤ) (objects : List ObjId) (value : ℤ) (vmid : Client) → objids_at graph.nodes s ≡ Some objects
    → lease_at graph.nodes t ≡ Some (record { value = value; vmid = Some vmid })
    → request_of terms (Collector collector.Dirty) (arguments_of graph (args.Ref s ∷ args.Prim (values.Long number) ∷ args.Ref t ∷ [])) client uid ≡ Ok (asks.Dirty vmid number value objects)
unfolding request_of
a_dirty terms graph client uid s t number objects value vmid a b = rw (a, b) refl

draws_none : (graph : Graph) (s t : Slot) (number : ℤ) (objects : List ObjId) (value : ℤ) (vmid : Client) → objids_at graph.nodes s ≡ Some objects
    → lease_at graph.nodes t ≡ Some (record { value = value; vmid = Some vmid })
    → client_draws (Collector collector.Dirty) (arguments_of graph (args.Ref s ∷ args.Prim (values.Long number) ∷ args.Ref t ∷ [])) ≡ 0
unfolding client_draws
draws_none graph s t number objects value vmid a b = rw b refl

-- One that names none is for the machine at the connection's mark with the identifier that is drawn for it.
a_dirty_of_none : (terms : Terms) (graph : Graph) (client uid : Uid) (s t : Slot) (number : ℤ) (objects : List ObjId) (value : ℤ) → objids_at graph.nodes s ≡ Some objects
    → lease_at graph.nodes t ≡ Some (record { value = value; vmid = None })
    → request_of terms (Collector collector.Dirty) (arguments_of graph (args.Ref s ∷ args.Prim (values.Long number) ∷ args.Ref t ∷ [])) client uid ≡ Ok (asks.Dirty (record { addr = terms.mark; uid = client }) number value objects)
unfolding request_of
a_dirty_of_none terms graph client uid s t number objects value a b = rw (a, b) refl

draws_one : (graph : Graph) (s t : Slot) (number : ℤ) (objects : List ObjId) (value : ℤ) → objids_at graph.nodes s ≡ Some objects
    → lease_at graph.nodes t ≡ Some (record { value = value; vmid = None })
    → client_draws (Collector collector.Dirty) (arguments_of graph (args.Ref s ∷ args.Prim (values.Long number) ∷ args.Ref t ∷ [])) ≡ 1
unfolding client_draws
draws_one graph s t number objects value a b = rw (a, b) refl

-- A wrong argument comes before all else: nothing is asked, and no identifier is drawn for a client.
a_wrong_lease : (terms : Terms) (graph : Graph) (client uid : Uid) (s t : Slot) (number : ℤ) → lease_at graph.nodes t ≡ None
    → request_of terms (Collector collector.Dirty) (arguments_of graph (args.Ref s ∷ args.Prim (values.Long number) ∷ args.Ref t ∷ [])) client uid ≡ Err bars.WrongArgument
unfolding request_of
a_wrong_lease terms graph client uid s t number b = rw b refl

a_clean_of : (terms : Terms) (graph : Graph) (client uid : Uid) (s t : Slot) (number : ℤ) (objects : List ObjId) (vmid : Client) → objids_at graph.nodes s ≡ Some objects → vmid_at graph.nodes t ≡ Some vmid
    → request_of terms (Collector collector.Clean) (arguments_of graph (args.Ref s ∷ args.Prim (values.Long number) ∷ args.Ref t ∷ args.Prim (values.Boolean false) ∷ [])) client uid ≡ Ok (asks.Clean vmid number objects false)
unfolding request_of
a_clean_of terms graph client uid s t number objects vmid a b = rw (b, a) refl

a_lookup_asks : (terms : Terms) (graph : Graph) (client uid : Uid) (s : Slot) (name : List ℕ) → text_at graph.nodes s ≡ Some name → nat_le (length name) MAX_NAME_UNITS ≡ true
    → request_of terms (Registry registry.Lookup) (arguments_of graph (args.Ref s ∷ [])) client uid ≡ Ok (asks.Lookup name uid)
unfolding request_of
a_lookup_asks terms graph client uid s name a short = rw (a, short) refl

a_long_name : (terms : Terms) (graph : Graph) (client uid : Uid) (s : Slot) (name : List ℕ) → text_at graph.nodes s ≡ Some name → nat_le (length name) MAX_NAME_UNITS ≡ false
    → request_of terms (Registry registry.Lookup) (arguments_of graph (args.Ref s ∷ [])) client uid ≡ Err bars.NameTooLong
unfolding request_of
a_long_name terms graph client uid s name a long = rw (a, long) refl

-- A closed binding comes before a long name and a foreign reference, and a long name before a foreign reference.
a_closed_bind : (terms : Terms) (graph : Graph) (client uid : Uid) (s t : Slot) (name : List ℕ) (r : LiveRef) → text_at graph.nodes s ≡ Some name → live_ref_at graph.nodes t ≡ Some r → terms.binding ≡ false
    → request_of terms (Registry registry.Bind) (arguments_of graph (args.Ref s ∷ args.Ref t ∷ [])) client uid ≡ Err bars.BindingClosed
unfolding request_of
a_closed_bind terms graph client uid s t name r a b closed = rw (a, b, closed) refl

a_foreign_bind : (terms : Terms) (graph : Graph) (client uid : Uid) (s t : Slot) (name : List ℕ) (r : LiveRef) → text_at graph.nodes s ≡ Some name → live_ref_at graph.nodes t ≡ Some r → terms.binding ≡ true
    → nat_le (length name) MAX_NAME_UNITS ≡ true → is_local terms.host terms.port r ≡ false → request_of terms (Registry registry.Bind) (arguments_of graph (args.Ref s ∷ args.Ref t ∷ [])) client uid ≡ Err bars.ForeignReference
unfolding request_of
a_foreign_bind terms graph client uid s t name r a b opened short foreign = rw (a, b, opened, short, foreign) refl

pub an_own_bind : (terms : Terms) (graph : Graph) (client uid : Uid) (s t : Slot) (name : List ℕ) (r : LiveRef) → text_at graph.nodes s ≡ Some name → live_ref_at graph.nodes t ≡ Some r → terms.binding ≡ true
    → nat_le (length name) MAX_NAME_UNITS ≡ true → is_local terms.host terms.port r ≡ true → request_of terms (Registry registry.Bind) (arguments_of graph (args.Ref s ∷ args.Ref t ∷ [])) client uid ≡ Ok (asks.Bind name r.id)
unfolding request_of
an_own_bind terms graph client uid s t name r a b opened short own = rw (a, b, opened, short, own) refl
