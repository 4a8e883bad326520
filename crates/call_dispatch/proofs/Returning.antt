-- The bytes of Returns.
use Rattle.std.proofs.Common.{◌≡◌, ◌≢◌, ℕ, List, [], ◌∷◌, Option, Some, None, Result, Ok, Err, refl, sym, ap, subst, ◌∙◌, inr, Bool, true, false, ◌&&◌}
use Rattle.std.proofs.lemmas.Bool.{true≢false}
use Rattle.std.specs.Prelude.{IfOk, IfSome, IfNone}
use Rattle.class_desc.specs.declared.field.TypeCode.{TypeCode}
use Rattle.object_ids.specs.declared.ids.ObjId.{ObjId}
use Rattle.object_ids.specs.declared.ids.Uid.{Uid}
use Rattle.ser_values.specs.declared.graph.Graph.{Graph}
use Rattle.ser_values.specs.declared.value.Value.{Value}
use Rattle.history.specs.declared.replies.Reply.{Reply}
use Rattle.history.specs.declared.replies.Reply.TheVariants.{Finished}
use Rattle.jrmp_frames.specs.declared.message.Body.TheVariants as bodies
use Rattle.jrmp_frames.specs.Messages.{return_message}
use Rattle.jrmp_frames.specs.declared.head.CallHead.{CallHead}
use Rattle.system_objects.specs.declared.book.Kind.{Kind}
use Rattle.call_dispatch.specs.declared.outcome.Outcome.{Outcome}
use Rattle.call_dispatch.specs.declared.outcome.Outcome.TheVariants.{Void, Prim, Tree, NewRemote, OldRemote, Fault, OutOfMemory}
use Rattle.call_dispatch.specs.declared.results.Pending.{Pending}
use Rattle.call_dispatch.specs.declared.results.Sent.{Sent}
use Rattle.call_dispatch.specs.declared.results.Sent.TheVariants.{Whole, New}
use Rattle.call_dispatch.specs.declared.returns.Prepared.{Prepared}
use Rattle.call_dispatch.specs.declared.returns.Prepared.TheVariants.{Normal, Exceptional}
use Rattle.system_objects.specs.Book.{methods_of, first_with}
use Rattle.call_dispatch.specs.Results.{made_by, listed_by, interface_of, normal_return}
use Rattle.system_objects.specs.ReturnBytes.{own_return, fault_return, wrong_outcome}
use Rattle.call_dispatch.specs.Returns.{returns_place, suits, is_short, is_sent, fits, fault_message}
use Rattle.call_dispatch.specs.Served.{IsMethodOf, HasNoMethod, IsFinished}
use Rattle.system_ids.specs.SystemMethods.{minus_one}
use Rattle.call_dispatch.specs.Serving.{IsReadySent, IsReadyFor, IsSent, IsPending, PreparesPlain, PreparesGraph, Prepares}
use Rattle.system_objects.specs.Terms.{Terms}

pub found_method : (kinds : List Kind) (kind : ℕ) (head : CallHead) (found : Option ℕ) → head.operation ≡ minus_one → found ≡ first_with head.hash (methods_of kinds kind)
    → IfSome found (IsMethodOf kinds kind head)
found_method kinds kind head (Some place) is first = (is, sym first)
found_method kinds kind head None is first = tt

pub found_none : (kinds : List Kind) (kind : ℕ) (head : CallHead) (found : Option ℕ) → found ≡ first_with head.hash (methods_of kinds kind) → IfNone found (HasNoMethod kinds kind head)
found_none kinds kind head None none = inr (sym none)
found_none kinds kind head (Some place) none = tt

-- ---- what is prepared

both : (a b : Bool) → a ≡ true → b ≡ true → (a && b) ≡ true
both true b first second = second
both false b first second = first

one_false : (a b : Bool) → b ≡ false → (a && b) ≡ false
one_false true b is = is
one_false false b is = refl

first_false : (a b : Bool) → a ≡ false → (a && b) ≡ false
first_false true b is = absurd (true≢false is)
first_false false b is = refl

-- An outcome with this Return, which makes no object and refers to none, is prepared by its bytes.
outcome_plain : {E : Type 0} (terms : Terms) (uid : Uid) (result_type : Option TypeCode) (outcome : Outcome) (b : Bool) (bytes : List ℕ) (result : Result Prepared E) → made_by outcome ≡ [] → listed_by terms outcome ≡ []
    → ((reply : Reply) → bytes ≡ normal_return terms uid outcome reply) → is_sent uid outcome ≡ is_short bytes → outcome ≢ OutOfMemory → fault_message uid outcome ≡ wrong_outcome
    → b ≡ suits terms.kinds result_type outcome → PreparesPlain uid b bytes result → Prepares terms uid result_type outcome result
outcome_plain terms uid result_type outcome b bytes (Ok (Normal pending)) makes lists sends short other wrong suited (good, few, (made, listed, sent)) =
    let P : Sent → Type 0 = λ x. IsSent terms uid outcome x in (
      both (suits terms.kinds result_type outcome) (is_sent uid outcome) (sym suited ∙ good) (short ∙ few),
      record { made = made ∙ sym makes; listed = listed ∙ sym lists; sent = subst P (sym sent) sends },
    )
outcome_plain terms uid result_type outcome b bytes (Ok (Exceptional other_bytes)) makes lists sends short other wrong suited (unfit, is) =
    (ap (λ x. suits terms.kinds result_type outcome && x) short ∙ ap (λ x. x && is_short bytes) (sym suited) ∙ unfit, other, is ∙ ap (fault_return uid) (sym wrong))
outcome_plain terms uid result_type outcome b bytes (Err e) makes lists sends short other wrong suited h = tt

pub void_prepared : {E : Type 0} (terms : Terms) (uid : Uid) (result_type : Option TypeCode) (b : Bool) (result : Result Prepared E) → b ≡ suits terms.kinds result_type Void
    → PreparesPlain uid b (return_message true uid bodies.Void) result → Prepares terms uid result_type Void result
void_prepared terms uid result_type b result suited h =
    outcome_plain terms uid result_type Void b (return_message true uid bodies.Void) result refl refl (λ reply. refl) refl (λ same. cc) refl suited h

pub value_prepared : {E : Type 0} (terms : Terms) (uid : Uid) (result_type : Option TypeCode) (value : Value) (b : Bool) (result : Result Prepared E) → b ≡ suits terms.kinds result_type (Prim value)
    → PreparesPlain uid b (return_message true uid (bodies.Prim value)) result → Prepares terms uid result_type (Prim value) result
value_prepared terms uid result_type value b result suited h =
    outcome_plain terms uid result_type (Prim value) b (return_message true uid (bodies.Prim value)) result refl refl (λ reply. refl) refl (λ same. cc) refl suited h

-- A graph that suits its method.
pub tree_prepared : {E : Type 0} (terms : Terms) (uid : Uid) (result_type : Option TypeCode) (graph : Graph) (listed : List ObjId) (result : Result Prepared E) → suits terms.kinds result_type (Tree graph) ≡ true
    → listed ≡ listed_by terms (Tree graph) → PreparesGraph uid graph listed result → Prepares terms uid result_type (Tree graph) result
tree_prepared terms uid result_type graph listed (Ok (Normal pending)) suited lists (few, made, lists2, sent) =
    let P : Sent → Type 0 = λ x. IsSent terms uid (Tree graph) x in
    (both (suits terms.kinds result_type (Tree graph)) (is_sent uid (Tree graph)) suited few, record { made = made; listed = lists2 ∙ lists; sent = subst P (sym sent) (λ reply. refl) })
tree_prepared terms uid result_type graph listed (Ok (Exceptional bytes)) suited lists (unfit, is) = (one_false (suits terms.kinds result_type (Tree graph)) (is_sent uid (Tree graph)) unfit, (λ same. cc), is)
tree_prepared terms uid result_type graph listed (Err e) suited lists h = tt

-- An outcome that doesn't suit its method.
wrong_prepared : {E : Type 0} (terms : Terms) (uid : Uid) (result_type : Option TypeCode) (outcome : Outcome) (result : Result Prepared E) → suits terms.kinds result_type outcome ≡ false → outcome ≢ OutOfMemory
    → fault_message uid outcome ≡ wrong_outcome → IfOk result (λ prepared. prepared ≡ Exceptional (fault_return uid wrong_outcome)) → Prepares terms uid result_type outcome result
wrong_prepared terms uid result_type outcome (Ok (Normal pending)) unfit other wrong is = absurd (cc)
wrong_prepared terms uid result_type outcome (Ok (Exceptional bytes)) unfit other wrong is =
    let same : bytes ≡ fault_return uid wrong_outcome = cc in
    (first_false (suits terms.kinds result_type outcome) (is_sent uid outcome) unfit, other, same ∙ ap (fault_return uid) (sym wrong))
wrong_prepared terms uid result_type outcome (Err e) unfit other wrong is = tt

pub tree_wrong : {E : Type 0} (terms : Terms) (uid : Uid) (result_type : Option TypeCode) (graph : Graph) (result : Result Prepared E) → suits terms.kinds result_type (Tree graph) ≡ false
    → IfOk result (λ prepared. prepared ≡ Exceptional (fault_return uid wrong_outcome)) → Prepares terms uid result_type (Tree graph) result
tree_wrong terms uid result_type graph result unfit is = wrong_prepared terms uid result_type (Tree graph) result unfit (λ same. cc) refl is

new_suits : (kinds : List Kind) (result_type : Option TypeCode) (kind : ℕ) → suits kinds result_type (NewRemote kind) ≡ returns_place kinds result_type kind
new_suits kinds None kind = refl
new_suits kinds (Some code) kind = refl

old_suits : (kinds : List Kind) (result_type : Option TypeCode) (object : ObjId) (kind : ℕ) → suits kinds result_type (OldRemote object kind) ≡ returns_place kinds result_type kind
old_suits kinds None object kind = refl
old_suits kinds (Some code) object kind = refl

pub new_wrong : {E : Type 0} (terms : Terms) (uid : Uid) (result_type : Option TypeCode) (kind : ℕ) (result : Result Prepared E) → returns_place terms.kinds result_type kind ≡ false
    → IfOk result (λ prepared. prepared ≡ Exceptional (fault_return uid wrong_outcome)) → Prepares terms uid result_type (NewRemote kind) result
new_wrong terms uid result_type kind result unfit is = wrong_prepared terms uid result_type (NewRemote kind) result (new_suits terms.kinds result_type kind ∙ unfit) (λ same. cc) refl is

pub old_wrong : {E : Type 0} (terms : Terms) (uid : Uid) (result_type : Option TypeCode) (object : ObjId) (kind : ℕ) (result : Result Prepared E) → returns_place terms.kinds result_type kind ≡ false
    → IfOk result (λ prepared. prepared ≡ Exceptional (fault_return uid wrong_outcome)) → Prepares terms uid result_type (OldRemote object kind) result
old_wrong terms uid result_type object kind result unfit is = wrong_prepared terms uid result_type (OldRemote object kind) result (old_suits terms.kinds result_type object kind ∙ unfit) (λ same. cc) refl is

-- A new object suits its method.
pub new_prepared : (terms : Terms) (uid : Uid) (result_type : Option TypeCode) (kind : ℕ) (interface : List ℕ) (pending : Pending) → returns_place terms.kinds result_type kind ≡ true → interface ≡ interface_of terms.kinds kind
    → pending.made ≡ kind ∷ [] → pending.listed ≡ [] → pending.sent ≡ New interface → (fits terms uid result_type (NewRemote kind) ≡ true) × IsPending terms uid (NewRemote kind) pending
new_prepared terms uid result_type kind interface pending suited is made listed sent =
    let P : Sent → Type 0 = λ x. IsSent terms uid (NewRemote kind) x in (
      both (suits terms.kinds result_type (NewRemote kind)) true (new_suits terms.kinds result_type kind ∙ suited) refl,
      record { made = made; listed = listed; sent = subst P (sym sent) (kind, refl, is) },
    )

-- An object of the server suits its method.
pub old_prepared : (terms : Terms) (uid : Uid) (result_type : Option TypeCode) (object : ObjId) (kind : ℕ) (interface bytes : List ℕ) (pending : Pending) → returns_place terms.kinds result_type kind ≡ true → interface ≡ interface_of terms.kinds kind
    → bytes ≡ own_return terms uid interface object → pending.made ≡ [] → pending.listed ≡ object ∷ [] → pending.sent ≡ Whole bytes
    → (fits terms uid result_type (OldRemote object kind) ≡ true) × IsPending terms uid (OldRemote object kind) pending
old_prepared terms uid result_type object kind interface bytes pending suited is bytes_are made listed sent =
    let P : Sent → Type 0 = λ x. IsSent terms uid (OldRemote object kind) x in (
      both (suits terms.kinds result_type (OldRemote object kind)) true (old_suits terms.kinds result_type object kind ∙ suited) refl,
      record { made = made; listed = listed; sent = subst P (sym sent) (λ reply. bytes_are ∙ ap (λ i. own_return terms uid i object) is) },
    )

fault_unfit : (terms : Terms) (uid : Uid) (result_type : Option TypeCode) (message : List ℕ) → fits terms uid result_type (Fault message) ≡ false
fault_unfit terms uid None message = refl
fault_unfit terms uid (Some code) message = refl

-- A worker's own message.
pub fault_prepared : (terms : Terms) (uid : Uid) (result_type : Option TypeCode) (message bytes : List ℕ) → bytes ≡ fault_return uid (fault_message uid (Fault message))
    → (fits terms uid result_type (Fault message) ≡ false) × (Fault message ≢ OutOfMemory) × (bytes ≡ fault_return uid (fault_message uid (Fault message)))
fault_prepared terms uid result_type message bytes is = (fault_unfit terms uid result_type message, (λ same. cc), is)

-- ---- what is sent

-- The Return of a new object is that of its reply.
pub made_sends : (terms : Terms) (uid : Uid) (outcome : Outcome) (interface : List ℕ) (object : ObjId) (reply : Reply) (bytes : List ℕ) → IsSent terms uid outcome (New interface) → reply ≡ Finished (object ∷ [])
    → bytes ≡ own_return terms uid interface object → bytes ≡ normal_return terms uid outcome reply
made_sends terms uid outcome interface object reply bytes (kind, is, interfaces) replied bytes_are =
    bytes_are ∙ ap (λ i. own_return terms uid i object) interfaces ∙ ap (λ r. normal_return terms uid (NewRemote kind) r) (sym replied) ∙ ap (λ o. normal_return terms uid o reply) (sym is)

-- What can be sent can be, now that Finish was answered.
pub ready_for : (made : List ℕ) (reply : Reply) (sent : Sent) → IsReadySent made sent → IsFinished made reply → IsReadyFor reply sent
ready_for made reply (Whole bytes) ready over = ready
ready_for made reply (New interface) ready over = (made, over, ready)
