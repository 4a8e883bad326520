-- Reading doesn't end in a Call that is whole.
use Rattle.std.proofs.Common.{◌≡◌, ℕ, ◌+◌, ◌≤◌, inl, inr, List, ◌∷◌, ◌++◌, length, drop, slice_get, Some, refl, ap, sym, subst, ◌∙◌, arith, append_assoc, length-append}
use Rattle.std.specs.List.{flat_map}
use Rattle.ser_read.specs.Wants.{serve_to_close}
use Rattle.ser_read.specs.Heading.{inside_block}
use Rattle.method_hash.specs.declared.method.Method.{Method}
use Rattle.history.specs.declared.replies.Reply.{Reply}
use Rattle.history.specs.declared.replies.Reply.TheVariants.{Started}
use Rattle.ser_values.specs.declared.limits.TheConstants.{MESSAGE_BYTES}
use Rattle.jrmp_frames.specs.declared.code.Code.TheVariants.{Call}
use Rattle.jrmp_frames.specs.declared.head.CallHead.{CallHead}
use Rattle.jrmp_frames.specs.Frames.{code_byte}
use Rattle.jrmp_frames.specs.Messages.{head_bytes, wants_of, CallBytes}
use Rattle.system_ids.specs.SystemMethods.{params_of}
use Rattle.system_objects.specs.declared.book.Kind.{Kind}
use Rattle.system_objects.specs.Book.{methods_of}
use Rattle.system_objects.specs.MethodByHead.{system_method}
use Rattle.call_dispatch.specs.declared.end.ConnEnd.{ConnEnd}
use Rattle.call_dispatch.specs.End.{IsSettled}
use Rattle.call_dispatch.specs.Acts.{entries}
use Rattle.call_dispatch.specs.Inside.{BreaksAt}
use Rattle.call_dispatch.specs.Served.{IsMethodOf}
use Rattle.call_dispatch.specs.ConnectionState.{Transcript}
use Rattle.call_dispatch.specs.Dialogue.{EndsInArguments}
use Rattle.call_dispatch.specs.Complete.{IsWholeCall, IsWholeSystemCall, begin_end, StartEach}
use Rattle.call_dispatch.proofs.Breaks.{breaks_read}
use Rattle.call_dispatch.proofs.HeadReads.{one_front, Begins, call_begins}
use Rattle.call_dispatch.proofs.CallsOne.{begin_same, known_same, head_not_served, head_behind}
use Rattle.call_dispatch.proofs.SystemOne.{InAnyCall, arguments_read, system_not_read, system_behind, begins_so, heads_differ}

abbrev started_as : ℕ → Reply
started_as kind = Started kind

pub kind_same : (a b : ℕ) → started_as a ≡ started_as b → a ≡ b
kind_same a b e = cc

-- what a whole Call begins with
pub whole_begins : (kinds : List Kind) (kind : ℕ) (head : CallHead) (bytes : List ℕ) → IsWholeCall kinds kind head bytes → Begins head bytes
whole_begins kinds kind head bytes w = call_begins head w.method.params w.arguments bytes w.spelled

pub whole_system_begins : (head : CallHead) (bytes : List ℕ) → IsWholeSystemCall head bytes → Begins head bytes
whole_system_begins head bytes w = call_begins head (params_of w.method) w.arguments bytes w.spelled

-- what is read behind a head, of the arguments of a method
abbrev ArgumentsBreak : ℕ → List ℕ → ConnEnd → CallHead → List ℕ → ℕ → Method → List ℕ → Type 0
ArgumentsBreak at rest end head front left method more =
    BreaksAt (λ last. serve_to_close last (wants_of method.params) (inside_block (head_bytes head) left)) (at + 1 + length front) (at + MESSAGE_BYTES) more (Some rest) end

begins_there : (kinds : List Kind) (at : ℕ) (tail : Transcript) (rest : List ℕ) (end : ConnEnd) (a : EndsInArguments kinds at tail (Some rest) end) → Begins a.head (a.front ++ a.more)
begins_there kinds at tail rest end a = record { front = a.front; left = a.left; more = a.more; is = refl; heading = a.heading }

-- Reading doesn't end in the arguments of a Call that is whole, of an object of the kind that Begin was answered.
arguments_whole : (kinds : List Kind) (at : ℕ) (tail : Transcript) (rest : List ℕ) (end : ConnEnd) (kind : ℕ) (head : CallHead) (bytes xs : List ℕ) → (a : EndsInArguments kinds at tail (Some rest) end) → IsSettled end
    → IsWholeCall kinds kind head bytes → a.kind ≡ kind → (a.front ++ a.more) ++ rest ≡ bytes ++ xs → ⊥
arguments_whole kinds at tail rest end kind head bytes xs a settled w same_kind input =
    let b = whole_begins kinds kind head bytes w in
    let heads : a.head ≡ head = begin_same a.head head (a.front ++ a.more) bytes rest xs a.numbers w.numbers (begins_there kinds at tail rest end a) b input in
    let parts : a.front ++ (a.more ++ rest) ≡ b.front ++ (b.more ++ xs) = sym (append_assoc a.front a.more rest) ∙ input ∙ ap (λ (l : List ℕ). l ++ xs) b.is ∙ append_assoc b.front b.more xs in
    let same = one_front a.head head a.front b.front (a.more ++ rest) (b.more ++ xs) a.left b.left a.heading b.heading parts in
    let P : ℕ → Type 0 = λ k. IsMethodOf kinds k a.head a.place in
    let Q : CallHead → Type 0 = λ h. IsMethodOf kinds kind h a.place in
    let known : IsMethodOf kinds kind head a.place = subst Q heads (subst P same_kind a.known) in
    let method_is : slice_get (methods_of kinds kind) a.place ≡ Some a.method = ap (λ k. slice_get (methods_of kinds k) a.place) (sym same_kind) ∙ a.method_is in
    let methods = known_same kinds kind head a.place w.place a.method w.method known w.known method_is w.method_is in
    let R : Method → Type 0 = λ x. ArgumentsBreak at rest end a.head a.front a.left x a.more in
    let S : ℕ → Type 0 = λ x. ArgumentsBreak at rest end a.head a.front x w.method a.more in
    let U : CallHead → Type 0 = λ x. ArgumentsBreak at rest end x a.front b.left w.method a.more in
    let breaks : ArgumentsBreak at rest end head a.front b.left w.method a.more = subst U heads (subst S same.1 (subst R methods.1 a.breaks)) in
    let long : length bytes ≡ length b.front + length b.more = ap (λ (l : List ℕ). length l) b.is ∙ length-append b.front b.more in
    let fronts : length a.front ≡ length b.front = ap (λ (l : List ℕ). length l) same.2 in
    let few : 1 + length bytes ≤ MESSAGE_BYTES = w.few in
    breaks_read (λ last. serve_to_close last (wants_of w.method.params) (inside_block (head_bytes head) b.left)) (at + 1 + length a.front) (at + MESSAGE_BYTES) a.more rest b.more xs end breaks settled
    (λ n r. arguments_read head w.method.params w.arguments bytes b n r w.spelled) (omega (arith, few, long, fronts)) (sym same.3)

-- The Begin of a Call in whose arguments reading ends is the first of its entries.
begun_so : (kinds : List Kind) (at : ℕ) (tail : Transcript) (rest : List ℕ) (end : ConnEnd) (kind : ℕ) (more : List ℕ) → (a : EndsInArguments kinds at tail (Some rest) end)
    → StartEach (kind ∷ more) (flat_map begin_end (flat_map entries tail.acts)) → a.turn.reply ≡ Started kind
begun_so kinds at tail rest end kind more a starts =
    let P : Transcript → Type 0 = λ c. StartEach (kind ∷ more) (flat_map begin_end (flat_map entries c.acts)) in
    (subst P a.tail_is starts).0

-- Reading doesn't end in a Call that is whole, where the first Begin is answered with its kind.
pub call_whole : (kinds : List Kind) (at : ℕ) (tail : Transcript) (rest : List ℕ) (end : ConnEnd) (kind : ℕ) (head : CallHead) (bytes xs more : List ℕ) → InAnyCall kinds at tail rest end → IsSettled end
    → IsWholeCall kinds kind head bytes → StartEach (kind ∷ more) (flat_map begin_end (flat_map entries tail.acts)) → tail.taken ++ rest ≡ code_byte Call ∷ (bytes ++ xs) → ⊥
call_whole kinds at tail rest end kind head bytes xs more (inl (part, is, breaks)) settled w starts input =
    head_not_served at part rest bytes xs end head breaks settled (whole_begins kinds kind head bytes w) w.few (head_behind at tail rest bytes xs end (part, is, breaks) input)
call_whole kinds at tail rest end kind head bytes xs more (inr (inl a)) settled w starts input =
    let behind : (a.front ++ a.more) ++ rest ≡ bytes ++ xs = ap (drop 1) (sym (ap (λ (c : Transcript). c.taken ++ rest) a.tail_is) ∙ input) in
    let same : a.kind ≡ kind = kind_same a.kind kind (sym a.started ∙ begun_so kinds at tail rest end kind more a starts) in
    arguments_whole kinds at tail rest end kind head bytes xs a settled w same behind
call_whole kinds at tail rest end kind head bytes xs more (inr (inr a)) settled w starts input =
    let behind = system_behind at tail rest bytes xs end a input in
    heads_differ a.head head (begin_same a.head head (a.front ++ a.more) bytes rest xs a.numbers w.numbers (begins_so at tail rest end a) (whole_begins kinds kind head bytes w) behind) a.own w.other

-- Nor in a Call of the registry or the collector that is whole.
pub system_call_whole : (kinds : List Kind) (at : ℕ) (tail : Transcript) (rest : List ℕ) (end : ConnEnd) (head : CallHead) (bytes xs : List ℕ) → InAnyCall kinds at tail rest end → IsSettled end
    → IsWholeSystemCall head bytes → tail.taken ++ rest ≡ code_byte Call ∷ (bytes ++ xs) → ⊥
system_call_whole kinds at tail rest end head bytes xs (inl (part, is, breaks)) settled w input =
    head_not_served at part rest bytes xs end head breaks settled (whole_system_begins head bytes w) w.few (head_behind at tail rest bytes xs end (part, is, breaks) input)
system_call_whole kinds at tail rest end head bytes xs (inr (inl a)) settled w input =
    let behind : (a.front ++ a.more) ++ rest ≡ bytes ++ xs = ap (drop 1) (sym (ap (λ (c : Transcript). c.taken ++ rest) a.tail_is) ∙ input) in
    let heads : a.head ≡ head = begin_same a.head head (a.front ++ a.more) bytes rest xs a.numbers w.numbers (begins_there kinds at tail rest end a) (whole_system_begins head bytes w) behind in
    heads_differ head a.head (sym heads) w.own a.other
system_call_whole kinds at tail rest end head bytes xs (inr (inr a)) settled w input =
    let behind = system_behind at tail rest bytes xs end a input in
    let heads : a.head ≡ head = begin_same a.head head (a.front ++ a.more) bytes rest xs a.numbers w.numbers (begins_so at tail rest end a) (whole_system_begins head bytes w) behind in
    let P : CallHead → Type 0 = λ h. CallBytes h (params_of w.method) w.arguments (0x50 ∷ bytes) in
    system_not_read at tail rest end w.method w.arguments bytes xs a settled w.few (ap system_method heads ∙ w.known) (subst P (sym heads) w.spelled) behind
