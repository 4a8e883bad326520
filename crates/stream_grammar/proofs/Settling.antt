-- Bytes that end too early: with some bytes behind them reading goes on, and what is refused stays refused whatever comes behind it.
use Rattle.std.proofs.Common.{◌≡◌, ◌&&◌, ℕ, zero, suc, ◌+◌, ◌-◌, ◌<◌, ◌≤◌, ◌^◌, Bool, true, false, cond, eqb, ltb, List, [], ◌∷◌, ◌++◌, length, take, drop, Option, Some, None, Result, Ok, Err, slice_get, refl, sym, ap, subst, ◌∙◌, append_assoc, append-nil, arith, inl, inr}
use Rattle.std.proofs.lemmas.Bool.{le-ltb, lt-ltb, cases_lt}
use Rattle.std.proofs.lemmas.List.{take-append-drop, length-take, length-append}
use Rattle.std.specs.Int.{Width, w16, w32, w64, byte_len, from_be_bytes, cast_signed}
use Rattle.std.specs.List.{AllByRecursion}
use Rattle.mod_utf.specs.Decoding.{decoded_units}
use Rattle.class_desc.specs.declared.slot.Slot.{Slot}
use Rattle.class_desc.specs.declared.slot.Slot.TheVariants as slots
use Rattle.class_desc.specs.declared.slot.Item.{Item}
use Rattle.class_desc.specs.declared.slot.Item.TheVariants as items
use Rattle.class_desc.specs.declared.field.TypeCode.{TypeCode}
use Rattle.class_desc.specs.declared.field.TypeCode.TheVariants as codes
use Rattle.class_desc.specs.declared.field.FieldDesc.{FieldDesc}
use Rattle.class_desc.specs.declared.desc.ClassDesc.{ClassDesc}
use Rattle.class_desc.specs.TypeCode.{is_primitive}
use Rattle.class_desc.specs.TypeText.{code_of}
use Rattle.class_desc.specs.ClassDesc.{is_good_desc}
use Rattle.ser_values.specs.declared.value.Value.TheVariants as values
use Rattle.ser_values.specs.declared.value.Values.TheVariants as kinds
use Rattle.ser_values.specs.declared.node.Node.{Node}
use Rattle.ser_values.specs.declared.node.Node.TheVariants.{Text, Desc, Proxy, Object, Array, Class, Enum}
use Rattle.ser_values.specs.declared.node.SlotPlace.{SlotPlace}
use Rattle.ser_values.specs.declared.node.SlotPlace.TheVariants as places
use Rattle.ser_values.specs.declared.limits.TheConstants.{LEVELS, NODES, PARTS}
use Rattle.ser_values.specs.Node.{has}
use Rattle.ser_values.specs.Shape.{fits_type, is_enum}
use Rattle.stream_grammar.specs.Spelled.{joined}
use Rattle.stream_grammar.specs.Reading.{FaultKind, negative_length, Fault, short, bad, too_many, too_deep, ◌>>=◌, byte_at, take_at, number_at, size_at, units_of, units_at, short_at, long_at, Progress, Step, Slots, plain, map_step, many_at, push, fill, add_parts, counting, sizes_of, refs_among, blocks_at, items_at, field, field_of, field_at, is_true, value_at, values_at, elements_at, Row, chain_of, rows_of, class_fault, note_at, part, parts_at, unless, blank, text_at, desc_after, desc_at, proxy_at, on_class, with_class, object_after, object_at, type_in, array_of, array_at, class_at, named, enum_at, admits_code, fresh_at, null_at, handle_fault, handle_at, deep, coded, no_slots, slot_at, magic_at, stream_of}
use Rattle.stream_grammar.specs.Faults.{AreBytes, EndsEarly}
use Rattle.ser_values.proofs.FrontLaws.{eqb_same}

-- ---- what is answered, but for positions

abbrev Refused : {Y : Type 0} → Result Y Fault → Type 0
Refused (Ok y) = ⊥
Refused (Err short) = ⊥
Refused (Err (bad kind at)) = Unit {0}
Refused (Err (too_many at)) = Unit {0}
Refused (Err (too_deep at)) = Unit {0}

abbrev NotShort : {Y : Type 0} → Result Y Fault → Type 0
NotShort (Ok y) = Unit {0}
NotShort (Err short) = ⊥
NotShort (Err (bad kind at)) = Unit {0}
NotShort (Err (too_many at)) = Unit {0}
NotShort (Err (too_deep at)) = Unit {0}

refused_first : {Y Z : Type 0} (y : Result Y Fault) (f : Y → Result Z Fault) → Refused y → Refused (y >>= f)
refused_first (Ok y) f h = absurd h
refused_first (Err short) f h = absurd h
refused_first (Err (bad kind at)) f h = tt
refused_first (Err (too_many at)) f h = tt
refused_first (Err (too_deep at)) f h = tt

first_not_short : {Y Z : Type 0} (y : Result Y Fault) (f : Y → Result Z Fault) → NotShort (y >>= f) → NotShort y
first_not_short (Ok y) f h = tt
first_not_short (Err short) f h = h
first_not_short (Err (bad kind at)) f h = tt
first_not_short (Err (too_many at)) f h = tt
first_not_short (Err (too_deep at)) f h = tt

refused_not_short : {Y : Type 0} (y : Result Y Fault) → Refused y → NotShort y
refused_not_short (Ok y) h = tt
refused_not_short (Err short) h = h
refused_not_short (Err (bad kind at)) h = tt
refused_not_short (Err (too_many at)) h = tt
refused_not_short (Err (too_deep at)) h = tt

-- ---- a step, whatever comes behind its bytes

-- the position at which all bytes end, that of a construct's code, and how many blocks may come at most
record Env : Type 0 where
  end : ℕ
  at : ℕ
  fuel : ℕ

abbrev Run : Type 0 → Type 0
Run Y = Env → List ℕ → Result Y Fault

-- With some bytes more it is refused, or answers `x` and leaves these bytes and what comes then.
data RunEnd {X Y : Type 0} (shape : X → List ℕ → Y) (Q : X → Type 0) (r : Run Y) (bs more : List ℕ) : Type 0 where
  refuses : ((e : Env) (rest : List ℕ) → length (bs ++ (more ++ rest)) ≤ e.fuel → Refused (r e (bs ++ (more ++ rest)))) → RunEnd shape Q r bs more
  goes_on : (x : X) (left : List ℕ) → Q x → length left ≤ length bs → ((e : Env) (rest : List ℕ) → length (bs ++ (more ++ rest)) ≤ e.fuel → r e (bs ++ (more ++ rest)) ≡ Ok (shape x (left ++ rest))) → RunEnd shape Q r bs more

-- It wants none where it is not short without them.
record Settles {X Y : Type 0} (shape : X → List ℕ → Y) (Q : X → Type 0) (r : Run Y) (bs : List ℕ) : Type 0 where
  more : List ℕ
  bytes : AreBytes more
  least : (e : Env) → length bs ≤ e.fuel → NotShort (r e bs) → more ≡ []
  outcome : RunEnd shape Q r bs more

abbrev two : {A : Type 0} → A → List ℕ → A × List ℕ
two a b = (a, b)

abbrev three : {A : Type 0} → A × Progress → List ℕ → A × Progress × List ℕ
three x b = (x.0, x.1, b)

abbrev Any : {X : Type 0} → X → Type 0
Any x = Unit {0}

pure_settles : {X Y : Type 0} (shape : X → List ℕ → Y) (Q : X → Type 0) (x : X) (bs : List ℕ) → Q x → Settles shape Q (λ e b. Ok (shape x b)) bs
pure_settles shape Q x bs q = record { more = []; bytes = tt; least = λ e v n. refl; outcome = goes_on x bs q (omega arith) (λ e rest v. refl) }

refused_settles : {X Y : Type 0} (shape : X → List ℕ → Y) (Q : X → Type 0) (r : Run Y) (bs : List ℕ) → ((e : Env) (b : List ℕ) → Refused (r e b)) → Settles shape Q r bs
refused_settles shape Q r bs h = record { more = []; bytes = tt; least = λ e v n. refl; outcome = refuses (λ e rest v. h e (bs ++ ([] ++ rest))) }

cond_settles : {X Y : Type 0} (shape : X → List ℕ → Y) (Q : X → Type 0) (b : Bool) (x y : Run Y) (bs : List ℕ) → (b ≡ true → Settles shape Q x bs) → (b ≡ false → Settles shape Q y bs) → Settles shape Q (λ e l. cond b (x e l) (y e l)) bs
cond_settles shape Q true x y bs h g = h refl
cond_settles shape Q false x y bs h g = g refl

weaker : {X Y : Type 0} (shape : X → List ℕ → Y) (Q R : X → Type 0) (r : Run Y) (bs : List ℕ) → ((x : X) → Q x → R x) → Settles shape Q r bs → Settles shape R r bs
weaker shape Q R r bs f s = record { more = s.more; bytes = s.bytes; least = s.least; outcome = by s.outcome }
  where
    by : RunEnd shape Q r bs s.more → RunEnd shape R r bs s.more
    by (refuses h) = refuses h
    by (goes_on x left q le h) = goes_on x left (f x q) le h

-- the numbers may depend on the bytes
at_settles : {X Y : Type 0} (shape : X → List ℕ → Y) (Q : X → Type 0) (r : Run Y) (pick : Env → List ℕ → Env) (bs : List ℕ) → ((e : Env) (b : List ℕ) → length b ≤ e.fuel → length b ≤ (pick e b).fuel) → Settles shape Q r bs → Settles shape Q (λ e b. r (pick e b) b) bs
at_settles shape Q r pick bs f s = record { more = s.more; bytes = s.bytes; least = λ e v n. s.least (pick e bs) (f e bs v) n; outcome = by s.outcome }
  where
    by : RunEnd shape Q r bs s.more → RunEnd shape Q (λ e b. r (pick e b) b) bs s.more
    by (refuses h) = refuses (λ e rest v. h (pick e (bs ++ (s.more ++ rest))) rest (f e (bs ++ (s.more ++ rest)) v))
    by (goes_on x left q le h) = goes_on x left q le (λ e rest v. h (pick e (bs ++ (s.more ++ rest))) rest (f e (bs ++ (s.more ++ rest)) v))

-- behind a first byte
abbrev lower : Env → Env
lower e = record { end = e.end; at = e.at; fuel = e.fuel - 1 }

behind : {X Y : Type 0} (shape : X → List ℕ → Y) (Q : X → Type 0) (c : ℕ) (r one : Run Y) (bs : List ℕ) → ((e : Env) (b : List ℕ) → suc (length b) ≤ e.fuel → r e (c ∷ b) ≡ one (lower e) b) → Settles shape Q one bs → Settles shape Q r (c ∷ bs)
behind shape Q c r one bs same s = record { more = s.more; bytes = s.bytes; least = λ e v n. s.least (lower e) (omega arith) (subst (λ y. NotShort y) (same e bs v) n); outcome = by s.outcome }
  where
    by : RunEnd shape Q one bs s.more → RunEnd shape Q r (c ∷ bs) s.more
    by (refuses h) = refuses (λ e rest v. subst (λ y. Refused y) (sym (same e (bs ++ (s.more ++ rest)) v)) (h (lower e) rest (omega arith)))
    by (goes_on x left q le h) = goes_on x left q (omega arith) (λ e rest v. same e (bs ++ (s.more ++ rest)) v ∙ h (lower e) rest (omega arith))

all_append : (bs cs : List ℕ) → AreBytes bs → AreBytes cs → AreBytes (bs ++ cs)
all_append [] cs h g = g
all_append (b ∷ bs) cs h g = (h.0, all_append bs cs h.1 g)

both_nil : (bs cs : List ℕ) → bs ≡ [] → cs ≡ [] → bs ++ cs ≡ []
both_nil bs cs e f = rw (e, f) refl

-- one step, and then another, of what the first one answers
then_settles : {X Y V Z : Type 0} (shape : X → List ℕ → Y) (form : V → List ℕ → Z) (Q : X → Type 0) (R : V → Type 0) (r : Run Y) (f : Env → Y → Result Z Fault) (bs : List ℕ) → Settles shape Q r bs
    → ((x : X) (left : List ℕ) → Q x → length left ≤ length bs → Settles form R (λ e b. f e (shape x b)) left) → Settles form R (λ e b. r e b >>= f e) bs
then_settles shape form Q R r f bs s g = by s.outcome
  where
    by : RunEnd shape Q r bs s.more → Settles form R (λ e b. r e b >>= f e) bs
    by (refuses h) = record { more = s.more; bytes = s.bytes; least = λ e v n. s.least e v (first_not_short (r e bs) (f e) n); outcome = refuses (λ e rest v. refused_first (r e (bs ++ (s.more ++ rest))) (f e) (h e rest v)) }
    by (goes_on x left q le h) = record {
      more = s.more ++ t.more;
      bytes = all_append s.more t.more s.bytes t.bytes;
      least = λ e v n. (
          let none = s.least e v (first_not_short (r e bs) (f e) n) in
          both_nil s.more t.more none (t.least e (omega arith) (subst (λ y. NotShort (y >>= f e)) (plainly e v none) n)));
      outcome = onto t.outcome;
    }
      where
        t : Settles form R (λ e b. f e (shape x b)) left
        t = g x left q le

        plainly : (e : Env) → length bs ≤ e.fuel → s.more ≡ [] → r e bs ≡ Ok (shape x left)
        plainly e v none =
            let here : bs ++ (s.more ++ []) ≡ bs = ap (λ (l : List ℕ). bs ++ (l ++ [])) none ∙ append-nil bs in
            let len : length (bs ++ (s.more ++ [])) ≤ e.fuel = subst (λ (l : List ℕ). length l ≤ e.fuel) (sym here) v in
            subst (λ (l : List ℕ). r e l ≡ Ok (shape x left)) here (h e [] len ∙ ap (λ (l : List ℕ). Ok (shape x l)) (append-nil left))

        one : (e : Env) (rest : List ℕ) → length (bs ++ ((s.more ++ t.more) ++ rest)) ≤ e.fuel → (r e (bs ++ ((s.more ++ t.more) ++ rest)) >>= f e) ≡ f e (shape x (left ++ (t.more ++ rest)))
        one e rest v =
            let same : (s.more ++ t.more) ++ rest ≡ s.more ++ (t.more ++ rest) = append_assoc s.more t.more rest in
            let len : length (bs ++ (s.more ++ (t.more ++ rest))) ≤ e.fuel = subst (λ (l : List ℕ). length (bs ++ l) ≤ e.fuel) same v in
            ap (λ (l : List ℕ). r e (bs ++ l) >>= f e) same ∙ ap (λ y. y >>= f e) (h e (t.more ++ rest) len)

        short_of : (e : Env) (rest : List ℕ) → length (bs ++ ((s.more ++ t.more) ++ rest)) ≤ e.fuel → length (left ++ (t.more ++ rest)) ≤ e.fuel
        short_of e rest v =
            let a = length-append bs ((s.more ++ t.more) ++ rest) in
            let b = length-append (s.more ++ t.more) rest in
            let c = length-append s.more t.more in
            let d = length-append left (t.more ++ rest) in
            let k = length-append t.more rest in
            omega arith

        onto : RunEnd form R (λ e b. f e (shape x b)) left t.more → RunEnd form R (λ e b. r e b >>= f e) bs (s.more ++ t.more)
        onto (refuses k) = refuses (λ e rest v. subst (λ y. Refused y) (sym (one e rest v)) (k e rest (short_of e rest v)))
        onto (goes_on w after p less k) = goes_on w after p (omega arith) (λ e rest v. one e rest v ∙ k e rest (short_of e rest v))

-- ---- bytes, numbers and texts

byte_settles : (bs : List ℕ) → Settles two Any (λ e. byte_at) bs
byte_settles [] = record { more = 0 ∷ []; bytes = (omega arith, tt); least = λ e v n. absurd n; outcome = goes_on 0 [] tt (omega arith) (λ e rest v. refl) }
byte_settles (b ∷ bs) = record { more = []; bytes = tt; least = λ e v n. refl; outcome = goes_on b bs tt (omega arith) (λ e rest v. refl) }

abbrev zeros : ℕ → List ℕ
zeros zero = []
zeros (suc n) = 0 ∷ zeros n

are_zeros : (n : ℕ) → AreBytes (zeros n)
are_zeros zero = tt
are_zeros (suc n) = (omega arith, are_zeros n)

length-zeros : (n : ℕ) → length (zeros n) ≡ n
length-zeros zero = refl
length-zeros (suc n) = ap suc (length-zeros n)

take_front : (xs ys : List ℕ) → take (length xs) (xs ++ ys) ≡ xs
take_front [] ys = refl
take_front (x ∷ xs) ys = ap (λ (l : List ℕ). x ∷ l) (take_front xs ys)

drop_front : (xs ys : List ℕ) → drop (length xs) (xs ++ ys) ≡ ys
drop_front [] ys = refl
drop_front (x ∷ xs) ys = drop_front xs ys

taken : (n : ℕ) (xs ys all : List ℕ) → length xs ≡ n → all ≡ xs ++ ys → take_at n all ≡ Ok (xs, ys)
taken n xs ys all len e =
    let l : length all ≡ length xs + length ys = ap (λ (l : List ℕ). length l) e ∙ length-append xs ys in
    let long : ltb (length all) n ≡ false = le-ltb _ _ (omega arith) in
    let a : take n all ≡ xs = ap (λ (l : List ℕ). take n l) e ∙ (ap (λ k. take k (xs ++ ys)) (sym len) ∙ take_front xs ys) in
    let b : drop n all ≡ ys = ap (λ (l : List ℕ). drop n l) e ∙ (ap (λ k. drop k (xs ++ ys)) (sym len) ∙ drop_front xs ys) in
    rw (long, a, b) refl

take_settles : (n : ℕ) (bs : List ℕ) → Settles two Any (λ e. take_at n) bs
take_settles n bs = elim (cases_lt (length bs) n) [
  | inl lt ↦ few lt
  | inr le ↦ all le
]
  where
    few : length bs < n → Settles two Any (λ e. take_at n) bs
    few lt =
        let k = n - length bs in
        let len : length (bs ++ zeros k) ≡ n = (let a = length-append bs (zeros k) in let b = length-zeros k in omega arith) in
        let less : ltb (length bs) n ≡ true = lt-ltb _ _ lt in
        record {
          more = zeros k;
          bytes = are_zeros k;
          least = λ e v h. absurd (let no : NotShort {Y = List ℕ × List ℕ} (Err short) = rw less at h in no);
          outcome = goes_on (bs ++ zeros k) [] tt (omega arith) (λ e rest v. taken n (bs ++ zeros k) rest _ len (sym (append_assoc bs (zeros k) rest)));
        }

    all : n ≤ length bs → Settles two Any (λ e. take_at n) bs
    all le =
        let len : length (take n bs) ≡ n = simp length-take (omega arith) in
        let rest_len : length (drop n bs) ≤ length bs = (let a = length-append (take n bs) (drop n bs) in let b : length (take n bs ++ drop n bs) ≡ length bs = ap (λ (l : List ℕ). length l) (take-append-drop n bs) in omega arith) in
        record {
          more = [];
          bytes = tt;
          least = λ e v h. refl;
          outcome = goes_on (take n bs) (drop n bs) tt rest_len (λ e rest v. taken n (take n bs) (drop n bs ++ rest) (bs ++ rest) len (ap (λ (l : List ℕ). l ++ rest) (sym (take-append-drop n bs)) ∙ append_assoc (take n bs) (drop n bs) rest));
        }

number_settles : (w : Width) (bs : List ℕ) → Settles two Any (λ e. number_at w) bs
number_settles w bs = then_settles two two Any Any (λ e. take_at (byte_len w)) (λ e t. Ok (from_be_bytes w t.0, t.1)) bs (take_settles (byte_len w) bs) (λ t left q le. pure_settles two Any (from_be_bytes w t) left tt)

-- the position of the bytes
abbrev here : Env → List ℕ → Env
here e b = record { end = e.end; at = e.end - length b; fuel = e.fuel }

size_settles : (w : Width) (bound : ℕ) (bs : List ℕ) → Settles two Any (λ e. size_at e.end w bound) bs
unfolding size_at
size_settles w bound bs = at_settles two Any (λ e b. number_at w b >>= λ n. cond (ltb n.0 bound) (Ok n) (Err (bad negative_length e.at))) here bs (λ e b v. v)
    (then_settles two two Any Any (λ e. number_at w) (λ e n. cond (ltb n.0 bound) (Ok n) (Err (bad negative_length e.at))) bs (number_settles w bs)
    (λ n left q le. cond_settles two Any (ltb n bound) (λ e b. Ok (n, b)) (λ e b. Err (bad negative_length e.at)) left (λ e. pure_settles two Any n left tt) (λ e. refused_settles two Any _ left (λ e b. tt))))

units_settles : (n : ℕ) (bs : List ℕ) → Settles two Any (λ e. units_at e.end n) bs
unfolding units_at
units_settles n bs = at_settles two Any (λ e b. take_at n b >>= λ t. units_of e.at (decoded_units t.0) >>= λ units. Ok (units, t.1)) here bs (λ e b v. v)
    (then_settles two two Any Any (λ e. take_at n) (λ e t. units_of e.at (decoded_units t.0) >>= λ units. Ok (units, t.1)) bs (take_settles n bs) (λ t left q le. by left (decoded_units t)))
  where
    by : (left : List ℕ) (d : Result (List ℕ) ℕ) → Settles two Any (λ e b. units_of e.at d >>= λ units. Ok (units, b)) left
    by left (Ok units) = pure_settles two Any units left tt
    by left (Err at) = refused_settles two Any _ left (λ e b. tt)

short_settles : (bs : List ℕ) → Settles two Any (λ e. short_at e.end) bs
unfolding short_at
short_settles bs = then_settles two two Any Any (λ e. number_at w16) (λ e n. units_at e.end n.0 n.1) bs (number_settles w16 bs) (λ n left q le. units_settles n left)

long_settles : (bs : List ℕ) → Settles two Any (λ e. long_at e.end) bs
unfolding long_at
long_settles bs = then_settles two two Any Any (λ e. size_at e.end w64 (2 ^ 63)) (λ e n. units_at e.end n.0 n.1) bs (size_settles w64 (2 ^ 63) bs) (λ n left q le. units_settles n left)

-- ---- steps

abbrev Steps : Type 0 → Type 0
Steps A = Env → Step A

abbrev StepSettles : {A : Type 0} → (A → Type 0) → Steps A → Type 0
StepSettles Q step = (now : Progress) (bs : List ℕ) → Settles three (λ x. Q x.0) (λ e b. step e now b) bs

-- nothing is read
none_settles : {A : Type 0} (Q : A → Type 0) (a : A) (now : Progress) (bs : List ℕ) → Q a → Settles three (λ (x : A × Progress). Q x.0) (λ e b. Ok (a, now, b)) bs
none_settles Q a now bs q = pure_settles three (λ x. Q x.0) (a, now) bs q

-- a step, and then another
step_then : {A B : Type 0} (Q : A → Type 0) (R : B → Type 0) (r : Run (A × Progress × List ℕ)) (f : Env → A × Progress × List ℕ → Result (B × Progress × List ℕ) Fault) (bs : List ℕ) → Settles three (λ (x : A × Progress). Q x.0) r bs
    → ((a : A) (now : Progress) (left : List ℕ) → Q a → length left ≤ length bs → Settles three (λ (x : B × Progress). R x.0) (λ e b. f e (a, now, b)) left) → Settles three (λ (x : B × Progress). R x.0) (λ e b. r e b >>= f e) bs
step_then Q R r f bs s g = then_settles three three (λ x. Q x.0) (λ x. R x.0) r f bs s (λ x left q le. g x.0 x.1 left q le)

-- bytes, and then a step
bytes_then : {A B : Type 0} (R : B → Type 0) (r : Run (A × List ℕ)) (f : Env → A × List ℕ → Result (B × Progress × List ℕ) Fault) (bs : List ℕ) → Settles two Any r bs
    → ((a : A) (left : List ℕ) → length left ≤ length bs → Settles three (λ (x : B × Progress). R x.0) (λ e b. f e (a, b)) left) → Settles three (λ (x : B × Progress). R x.0) (λ e b. r e b >>= f e) bs
bytes_then R r f bs s g = then_settles two three Any (λ x. R x.0) r f bs s (λ a left q le. g a left le)

plain_settles : {A : Type 0} (read : Run (A × List ℕ)) → ((bs : List ℕ) → Settles two Any read bs) → StepSettles {A = A} Any (λ e. plain (read e))
plain_settles read h now bs = bytes_then Any read (λ e x. Ok (x.0, now, x.1)) bs (h bs) (λ a left le. none_settles Any a now left tt)

mapped_settles : {A B : Type 0} (f : A → B) (step : Steps A) → StepSettles Any step → StepSettles Any (λ e. map_step f (step e))
mapped_settles f step h now bs = step_then Any Any (λ e b. step e now b) (λ e x. Ok (f x.0, x.1, x.2)) bs (h now bs) (λ a after left q le. none_settles Any (f a) after left tt)

many_settles : {A : Type 0} (step : Steps A) → StepSettles Any step → (n : ℕ) → StepSettles Any (λ e. many_at (step e) n)
unfolding many_at
many_settles step h zero now bs = none_settles Any [] now bs tt
many_settles step h (suc n) now bs = step_then Any Any (λ e b. step e now b) _ bs (h now bs) (λ a after left q le. step_then Any Any (λ e b. many_at (step e) n after b) _ left (many_settles step h n after left) (λ xs last rest p less. none_settles Any (a ∷ xs) last rest tt))

byte_step : StepSettles Any (λ e. plain byte_at)
byte_step = plain_settles (λ e. byte_at) byte_settles

number_step : (w : Width) → StepSettles Any (λ e. plain (number_at w))
number_step w = plain_settles (λ e. number_at w) (number_settles w)

-- ---- references: how they are read, but for their first byte

abbrev IsNode : Slot → Type 0
IsNode slots.Null = ⊥
IsNode (slots.Node k) = Unit {0}

-- a text is no null
abbrev SlotOk : SlotPlace → Slot → Type 0
SlotOk places.Text s = IsNode s
SlotOk places.Class s = Unit {0}
SlotOk places.Parent s = Unit {0}
SlotOk places.Reference s = Unit {0}

node_ok : (p : SlotPlace) (s : Slot) → IsNode s → SlotOk p s
node_ok places.Text s h = h
node_ok places.Class s h = tt
node_ok places.Parent s h = tt
node_ok places.Reference s h = tt

record SlotsSettle (inner : ℕ → Slots) : Type 0 where
  coded : (p : SlotPlace) (unread : List ℕ) (now : Progress) (c : ℕ) (bs : List ℕ) → Settles three (λ (x : Slot × Progress). SlotOk p x.0) (λ e b. inner e.end p unread now (c ∷ b)) bs
  none : (end : ℕ) (p : SlotPlace) (unread : List ℕ) (now : Progress) → inner end p unread now [] ≡ Err short
  wrong : (end : ℕ) (p : SlotPlace) (unread : List ℕ) (now : Progress) (b : List ℕ) → Refused (inner end p unread now (0x78 ∷ b))

slot_settles : (inner : ℕ → Slots) → SlotsSettle inner → (p : SlotPlace) (unread : List ℕ) → StepSettles (SlotOk p) (λ e. inner e.end p unread)
slot_settles inner h p unread now [] = record {
  more = 0x78 ∷ [];
  bytes = (omega arith, tt);
  least = λ e v n. absurd (subst (λ y. NotShort y) (h.none e.end p unread now) n);
  outcome = refuses (λ e rest v. h.wrong e.end p unread now rest);
}
slot_settles inner h p unread now (c ∷ bs) = behind three (λ x. SlotOk p x.0) c (λ e b. inner e.end p unread now b) (λ e b. inner e.end p unread now (c ∷ b)) bs (λ e b v. refl) (h.coded p unread now c bs)

any_slot : (inner : ℕ → Slots) → SlotsSettle inner → (p : SlotPlace) (unread : List ℕ) → StepSettles {A = Slot} Any (λ e. inner e.end p unread)
any_slot inner h p unread now bs = weaker three (λ x. SlotOk p x.0) Any (λ e b. inner e.end p unread now b) bs (λ x q. tt) (slot_settles inner h p unread now bs)

-- ---- blocks

-- a block or a reference whose first byte was read
abbrev item_by : ℕ → ℕ → Step Slot → ℕ → Step Item
item_by end at inner c now bs =
    cond (eqb c 0x77) (byte_at bs >>= λ n. take_at n.0 n.1 >>= λ p. Ok (items.Bytes p.0, now, p.1))
    (cond (eqb c 0x7A) (size_at end w32 (2 ^ 31) bs >>= λ n. take_at n.0 n.1 >>= λ p. Ok (items.Bytes p.0, now, p.1))
    (inner now (c ∷ bs) >>= λ s. counting 1 at s.1 (λ next. Ok (items.Ref s.0, next, s.2))))

abbrev item_of : ℕ → Step Slot → ℕ → Step Item
item_of end inner c now bs = item_by end (end - suc (length bs)) inner c now bs

cond_then : {A B : Type 0} (b : Bool) (e : Fault) (x : A) (f : A → Result B Fault) → cond b (Err e) (f x) ≡ (cond b (Err e) (Ok x) >>= f)
cond_then true e x f = refl
cond_then false e x f = refl

then_twice : {A B C : Type 0} (y : Result A Fault) (f : A → Result B Fault) (g : B → Result C Fault) → (y >>= λ x. f x >>= g) ≡ (y >>= f) >>= g
then_twice (Ok x) f g = refl
then_twice (Err e) f g = refl

then_same : {A B : Type 0} (y : Result A Fault) (f g : A → Result B Fault) → ((x : A) → f x ≡ g x) → (y >>= f) ≡ (y >>= g)
then_same (Ok x) f g h = h x
then_same (Err e) f g h = refl

-- what comes behind the item
abbrev and_more : ℕ → Step Slot → Bool → ℕ → Item × Progress × List ℕ → Result (List Item × Progress × List ℕ) Fault
and_more end inner in_note most i = blocks_at end inner in_note most i.1 i.2 >>= λ is. Ok (i.0 ∷ is.0, is.1, is.2)

one_more : (end : ℕ) (inner : Step Slot) (in_note : Bool) (most c : ℕ) (now : Progress) (bs : List ℕ)
    → blocks_at end inner in_note (suc most) now (c ∷ bs) ≡ cond (in_note && eqb c 0x78) (Ok ([], now, bs)) (item_of end inner c now bs >>= and_more end inner in_note most)
unfolding blocks_at
one_more end inner in_note most c now bs = ap (λ y. cond (in_note && eqb c 0x78) (Ok ([], now, bs)) y) (by (eqb c 0x77) (eqb c 0x7A))
  where
    block : (n : ℕ × List ℕ) → (take_at n.0 n.1 >>= λ p. blocks_at end inner in_note most now p.1 >>= λ is. Ok (items.Bytes p.0 ∷ is.0, is.1, is.2)) ≡ (take_at n.0 n.1 >>= λ p. Ok (items.Bytes p.0, now, p.1)) >>= (and_more end inner in_note most)
    block n = then_twice (take_at n.0 n.1) (λ p. Ok (items.Bytes p.0, now, p.1)) (and_more end inner in_note most)

    ref : (s : Slot × Progress × List ℕ) → counting 1 (end - suc (length bs)) s.1 (λ next. blocks_at end inner in_note most next s.2 >>= λ is. Ok (items.Ref s.0 ∷ is.0, is.1, is.2)) ≡ (counting 1 (end - suc (length bs)) s.1 (λ next. Ok (items.Ref s.0, next, s.2)) >>= and_more end inner in_note most)
    ref s = cond_then (ltb PARTS (s.1.parts + 1)) (too_many (end - suc (length bs))) (items.Ref s.0, add_parts 1 s.1, s.2) (and_more end inner in_note most)

    by : (a b : Bool) → cond a (byte_at bs >>= λ n. take_at n.0 n.1 >>= λ p. blocks_at end inner in_note most now p.1 >>= λ is. Ok (items.Bytes p.0 ∷ is.0, is.1, is.2))
        (cond b (size_at end w32 (2 ^ 31) bs >>= λ n. take_at n.0 n.1 >>= λ p. blocks_at end inner in_note most now p.1 >>= λ is. Ok (items.Bytes p.0 ∷ is.0, is.1, is.2)) (inner now (c ∷ bs) >>= λ s. counting 1 (end - suc (length bs)) s.1 (λ next. blocks_at end inner in_note most next s.2 >>= λ is. Ok (items.Ref s.0 ∷ is.0, is.1, is.2))))
        ≡ cond a (byte_at bs >>= λ n. take_at n.0 n.1 >>= λ p. Ok (items.Bytes p.0, now, p.1)) (cond b (size_at end w32 (2 ^ 31) bs >>= λ n. take_at n.0 n.1 >>= λ p. Ok (items.Bytes p.0, now, p.1)) (inner now (c ∷ bs) >>= λ s. counting 1 (end - suc (length bs)) s.1 (λ next. Ok (items.Ref s.0, next, s.2)))) >>= (and_more end inner in_note most)
    by true b = then_same (byte_at bs) _ _ block ∙ then_twice (byte_at bs) (λ n. take_at n.0 n.1 >>= λ p. Ok (items.Bytes p.0, now, p.1)) (and_more end inner in_note most)
    by false true = then_same (size_at end w32 (2 ^ 31) bs) _ _ block ∙ then_twice (size_at end w32 (2 ^ 31) bs) (λ n. take_at n.0 n.1 >>= λ p. Ok (items.Bytes p.0, now, p.1)) (and_more end inner in_note most)
    by false false = then_same (inner now (c ∷ bs)) _ _ ref ∙ then_twice (inner now (c ∷ bs)) (λ s. counting 1 (end - suc (length bs)) s.1 (λ next. Ok (items.Ref s.0, next, s.2))) (and_more end inner in_note most)

item_by_settles : (inner : ℕ → Slots) → SlotsSettle inner → (p : SlotPlace) (unread : List ℕ) (c : ℕ) → StepSettles {A = Item} Any (λ e. item_by e.end e.at (inner e.end p unread) c)
item_by_settles inner h p unread c now bs =
    cond_settles three Any (eqb c 0x77) _ _ bs (λ e. bytes_then Any (λ e. byte_at) _ bs (byte_settles bs) block) (λ e.
    cond_settles three Any (eqb c 0x7A) _ _ bs (λ e. bytes_then Any (λ e. size_at e.end w32 (2 ^ 31)) _ bs (size_settles w32 (2 ^ 31) bs) block)
    (λ e. step_then (SlotOk p) Any (λ e b. inner e.end p unread now (c ∷ b)) _ bs (h.coded p unread now c bs) (λ s after left q le. cond_settles three Any (ltb PARTS (after.parts + 1)) _ _ left (λ many. refused_settles three Any _ left (λ e b. tt)) (λ few. none_settles Any (items.Ref s) (add_parts 1 after) left tt))))
  where
    block : (n : ℕ) (left : List ℕ) → length left ≤ length bs → Settles three (λ (x : Item × Progress). Unit {0}) (λ e b. take_at n b >>= λ p. Ok (items.Bytes p.0, now, p.1)) left
    block n left le = bytes_then Any (λ e. take_at n) (λ e p. Ok (items.Bytes p.0, now, p.1)) left (take_settles n left) (λ p rest less. none_settles Any (items.Bytes p) now rest tt)

-- the position of a code whose byte was read
abbrev at_code : Env → List ℕ → Env
at_code e b = record { end = e.end; at = e.end - suc (length b); fuel = e.fuel }

item_settles : (inner : ℕ → Slots) → SlotsSettle inner → (p : SlotPlace) (unread : List ℕ) (c : ℕ) → StepSettles {A = Item} Any (λ e. item_of e.end (inner e.end p unread) c)
item_settles inner h p unread c now bs = at_settles three Any (λ e b. item_by e.end e.at (inner e.end p unread) c now b) at_code bs (λ e b v. v) (item_by_settles inner h p unread c now bs)

-- one less may come
fuel_less : (e : Env) (n : ℕ) → suc n ≤ e.fuel → e.fuel ≡ suc (e.fuel - 1)
fuel_less e n le = omega arith

blocks_settle : (inner : ℕ → Slots) → SlotsSettle inner → (p : SlotPlace) (unread : List ℕ) (n : ℕ) (now : Progress) (bs : List ℕ) → length bs ≤ n → Settles three (λ (x : List Item × Progress). Unit {0}) (λ e b. blocks_at e.end (inner e.end p unread) true (suc e.fuel) now b) bs
unfolding blocks_at
blocks_settle inner h p unread n now [] le = record { more = 0x78 ∷ []; bytes = (omega arith, tt); least = λ e v k. absurd k; outcome = goes_on ([], now) [] tt (omega arith) (λ e rest v. refl) }
blocks_settle inner h p unread zero now (c ∷ bs) le = absurd (omega arith)
blocks_settle inner h p unread (suc n) now (c ∷ bs) le =
    behind three Any c (λ e b. blocks_at e.end (inner e.end p unread) true (suc e.fuel) now b) (λ e b. cond (eqb c 0x78) (Ok ([], now, b)) (item_of e.end (inner e.end p unread) c now b >>= and_more e.end (inner e.end p unread) true (suc e.fuel))) bs same
    (cond_settles three Any (eqb c 0x78) _ _ bs (λ e. none_settles Any [] now bs tt)
    (λ e. step_then Any Any (λ e b. item_of e.end (inner e.end p unread) c now b) (λ e i. and_more e.end (inner e.end p unread) true (suc e.fuel) i) bs (item_settles inner h p unread c now bs)
    (λ i after left q less. step_then Any Any (λ e b. blocks_at e.end (inner e.end p unread) true (suc e.fuel) after b) (λ e is. Ok (i ∷ is.0, is.1, is.2)) left (blocks_settle inner h p unread n after left (omega arith)) (λ is last rest k m. none_settles Any (i ∷ is) last rest tt))))
  where
    same : (e : Env) (b : List ℕ) → suc (length b) ≤ e.fuel → blocks_at e.end (inner e.end p unread) true (suc e.fuel) now (c ∷ b) ≡ cond (eqb c 0x78) (Ok ([], now, b)) (item_of e.end (inner e.end p unread) c now b >>= and_more e.end (inner e.end p unread) true (suc (e.fuel - 1)))
    same e b v = one_more e.end (inner e.end p unread) true e.fuel c now b ∙ ap (λ m. cond (eqb c 0x78) (Ok ([], now, b)) (item_of e.end (inner e.end p unread) c now b >>= and_more e.end (inner e.end p unread) true m)) (fuel_less e (length b) v)

-- as much fuel as there are bytes
abbrev fueled : Env → List ℕ → Env
fueled e b = record { end = e.end; at = e.at; fuel = length b }

items_settle : (inner : ℕ → Slots) → SlotsSettle inner → (p : SlotPlace) (unread : List ℕ) → StepSettles {A = List Item} Any (λ e. items_at e.end (inner e.end p unread) true)
unfolding items_at
items_settle inner h p unread now bs = at_settles three Any (λ e b. map_step joined (blocks_at e.end (inner e.end p unread) true (suc e.fuel)) now b) fueled bs (λ e b v. omega arith)
    (step_then Any Any (λ e b. blocks_at e.end (inner e.end p unread) true (suc e.fuel) now b) (λ e x. Ok (joined x.0, x.1, x.2)) bs (blocks_settle inner h p unread (length bs) now bs (omega arith)) (λ is after left q le. none_settles Any (joined is) after left tt))

-- ---- fields, values and elements

field_settles : (inner : ℕ → Slots) → SlotsSettle inner → (unread : List ℕ) → StepSettles {A = FieldDesc} Any (λ e. field_at e.end e.at (inner e.end places.Text unread))
unfolding field_at field_of
field_settles inner h unread now bs = bytes_then Any (λ e. byte_at) _ bs (byte_settles bs) (λ c left le. by (code_of c) left)
  where
    by : (o : Option TypeCode) (left : List ℕ) → Settles three (λ (x : FieldDesc × Progress). Unit {0}) (λ e b. field_of e.end e.at (inner e.end places.Text unread) o now b) left
    by None left = refused_settles three Any _ left (λ e b. tt)
    by (Some code) left = bytes_then Any (λ e. short_at e.end) _ left (short_settles left) (λ name rest le. cond_settles three Any (is_primitive code) _ _ rest (λ e. none_settles Any (field code name slots.Null) now rest tt) (λ e.
        step_then Any Any (λ e b. inner e.end places.Text unread now b) _ rest (any_slot inner h places.Text unread now rest) (λ t after more q less. cond_settles three Any (fits_type after.nodes code t) _ _ more (λ e. none_settles Any (field code name t) after more tt) (λ e. refused_settles three Any _ more (λ e b. tt)))))

value_settles : (inner : ℕ → Slots) → SlotsSettle inner → (p : SlotPlace) (unread : List ℕ) (code : TypeCode) → StepSettles Any (λ e. value_at (inner e.end p unread) code)
unfolding value_at
value_settles inner h p unread codes.Byte now bs = mapped_settles values.Byte (λ e. plain byte_at) byte_step now bs
value_settles inner h p unread codes.Char now bs = mapped_settles values.Char (λ e. plain (number_at w16)) (number_step w16) now bs
value_settles inner h p unread codes.Double now bs = mapped_settles values.Double (λ e. plain (number_at w64)) (number_step w64) now bs
value_settles inner h p unread codes.Float now bs = mapped_settles values.Float (λ e. plain (number_at w32)) (number_step w32) now bs
value_settles inner h p unread codes.Int now bs = mapped_settles (λ n. values.Int (cast_signed w32 n)) (λ e. plain (number_at w32)) (number_step w32) now bs
value_settles inner h p unread codes.Long now bs = mapped_settles (λ n. values.Long (cast_signed w64 n)) (λ e. plain (number_at w64)) (number_step w64) now bs
value_settles inner h p unread codes.Short now bs = mapped_settles (λ n. values.Short (cast_signed w16 n)) (λ e. plain (number_at w16)) (number_step w16) now bs
value_settles inner h p unread codes.Boolean now bs = mapped_settles (λ b. values.Boolean (is_true b)) (λ e. plain byte_at) byte_step now bs
value_settles inner h p unread codes.Array now bs = mapped_settles values.Ref (λ e. inner e.end p unread) (any_slot inner h p unread) now bs
value_settles inner h p unread codes.Object now bs = mapped_settles values.Ref (λ e. inner e.end p unread) (any_slot inner h p unread) now bs

values_settle : (inner : ℕ → Slots) → SlotsSettle inner → (p : SlotPlace) (unread : List ℕ) (fs : List FieldDesc) → StepSettles Any (λ e. values_at (inner e.end p unread) fs)
unfolding values_at
values_settle inner h p unread [] now bs = none_settles Any [] now bs tt
values_settle inner h p unread (f ∷ fs) now bs = step_then Any Any (λ e b. value_at (inner e.end p unread) f.code now b) _ bs (value_settles inner h p unread f.code now bs) (λ v after left q le. step_then Any Any (λ e b. values_at (inner e.end p unread) fs after b) _ left (values_settle inner h p unread fs after left) (λ vs last rest k less. none_settles Any (v ∷ vs) last rest tt))

elements_settle : (inner : ℕ → Slots) → SlotsSettle inner → (p : SlotPlace) (unread : List ℕ) (code : TypeCode) (n : ℕ) → StepSettles Any (λ e. elements_at (inner e.end p unread) code n)
unfolding elements_at
elements_settle inner h p unread codes.Byte n now bs = mapped_settles kinds.Bytes (λ e. many_at (plain byte_at) n) (many_settles (λ e. plain byte_at) byte_step n) now bs
elements_settle inner h p unread codes.Char n now bs = mapped_settles kinds.Chars (λ e. many_at (plain (number_at w16)) n) (many_settles (λ e. plain (number_at w16)) (number_step w16) n) now bs
elements_settle inner h p unread codes.Double n now bs = mapped_settles kinds.Doubles (λ e. many_at (plain (number_at w64)) n) (many_settles (λ e. plain (number_at w64)) (number_step w64) n) now bs
elements_settle inner h p unread codes.Float n now bs = mapped_settles kinds.Floats (λ e. many_at (plain (number_at w32)) n) (many_settles (λ e. plain (number_at w32)) (number_step w32) n) now bs
elements_settle inner h p unread codes.Int n now bs = mapped_settles kinds.Ints (λ e. many_at (map_step (λ k. cast_signed w32 k) (plain (number_at w32))) n) (many_settles (λ e. map_step (λ k. cast_signed w32 k) (plain (number_at w32))) (mapped_settles (λ k. cast_signed w32 k) (λ e. plain (number_at w32)) (number_step w32)) n) now bs
elements_settle inner h p unread codes.Long n now bs = mapped_settles kinds.Longs (λ e. many_at (map_step (λ k. cast_signed w64 k) (plain (number_at w64))) n) (many_settles (λ e. map_step (λ k. cast_signed w64 k) (plain (number_at w64))) (mapped_settles (λ k. cast_signed w64 k) (λ e. plain (number_at w64)) (number_step w64)) n) now bs
elements_settle inner h p unread codes.Short n now bs = mapped_settles kinds.Shorts (λ e. many_at (map_step (λ k. cast_signed w16 k) (plain (number_at w16))) n) (many_settles (λ e. map_step (λ k. cast_signed w16 k) (plain (number_at w16))) (mapped_settles (λ k. cast_signed w16 k) (λ e. plain (number_at w16)) (number_step w16)) n) now bs
elements_settle inner h p unread codes.Boolean n now bs = mapped_settles kinds.Bools (λ e. many_at (map_step is_true (plain byte_at)) n) (many_settles (λ e. map_step is_true (plain byte_at)) (mapped_settles is_true (λ e. plain byte_at) byte_step) n) now bs
elements_settle inner h p unread codes.Array n now bs = mapped_settles kinds.Refs (λ e. many_at (inner e.end p unread) n) (many_settles (λ e. inner e.end p unread) (any_slot inner h p unread) n) now bs
elements_settle inner h p unread codes.Object n now bs = mapped_settles kinds.Refs (λ e. many_at (inner e.end p unread) n) (many_settles (λ e. inner e.end p unread) (any_slot inner h p unread) n) now bs

note_settles : (inner : ℕ → Slots) → SlotsSettle inner → (p : SlotPlace) (unread : List ℕ) (b : Bool) → StepSettles {A = List Item} Any (λ e. note_at e.end (inner e.end p unread) b)
unfolding note_at
note_settles inner h p unread true now bs = items_settle inner h p unread now bs
note_settles inner h p unread false now bs = none_settles Any [] now bs tt

parts_settle : (inner : ℕ → Slots) → SlotsSettle inner → (p : SlotPlace) (unread : List ℕ) (rs : List Row) → StepSettles Any (λ e. parts_at e.end (inner e.end p unread) rs)
unfolding parts_at
parts_settle inner h p unread [] now bs = none_settles Any [] now bs tt
parts_settle inner h p unread (r ∷ rs) now bs =
    step_then Any Any (λ e b. values_at (inner e.end p unread) r.0 now b) _ bs (values_settle inner h p unread r.0 now bs) (λ vs one left q le.
    step_then Any Any (λ e b. note_at e.end (inner e.end p unread) r.1 one b) _ left (note_settles inner h p unread r.1 one left) (λ is another rest k less.
    step_then Any Any (λ e b. parts_at e.end (inner e.end p unread) rs another b) _ rest (parts_settle inner h p unread rs another rest) (λ ps last more m fewer. none_settles Any (part vs is ∷ ps) last more tt)))

-- ---- constructs

text_settles : (read : Run (List ℕ × List ℕ)) → ((bs : List ℕ) → Settles two Any read bs) → StepSettles IsNode (λ e. text_at (read e))
unfolding text_at
text_settles read h now bs = bytes_then IsNode read _ bs (h bs) (λ t left le. none_settles IsNode (slots.Node (length now.nodes)) (push now (Text t)) left tt)

desc_after_settles : (inner : ℕ → Slots) → SlotsSettle inner → (unread name : List ℕ) (suid flags : ℕ) → StepSettles {A = ClassDesc} Any (λ e. desc_after e.end e.at (inner e.end) unread name suid flags)
unfolding desc_after
desc_after_settles inner h unread name suid flags now bs =
    bytes_then Any (λ e. size_at e.end w16 32768) _ bs (size_settles w16 32768 bs) (λ n left le.
    cond_settles three Any (ltb PARTS (now.parts + n)) _ _ left (λ many. refused_settles three Any _ left (λ e b. tt)) (λ few.
    step_then Any Any (λ e b. many_at (field_at e.end e.at (inner e.end places.Text unread)) n (add_parts n now) b) _ left (many_settles (λ e. field_at e.end e.at (inner e.end places.Text unread)) (field_settles inner h unread) n (add_parts n now) left) (λ fs one rest q less.
    cond_settles three Any (is_good_desc (record { name = name; suid = cast_signed w64 suid; flags = flags; fields = fs; note = []; parent = slots.Null })) _ _ rest (λ good.
    step_then Any Any (λ e b. items_at e.end (inner e.end places.Reference unread) true one b) _ rest (items_settle inner h places.Reference unread one rest) (λ is another more k fewer.
    step_then Any Any (λ e b. inner e.end places.Parent unread another b) _ more (any_slot inner h places.Parent unread another more) (λ s last end m least.
    none_settles Any (record { name = name; suid = cast_signed w64 suid; flags = flags; fields = fs; note = is; parent = s }) last end tt)))
    (λ bad. refused_settles three Any _ rest (λ e b. tt)))))

desc_settles : (inner : ℕ → Slots) → SlotsSettle inner → (unread : List ℕ) → StepSettles IsNode (λ e. desc_at e.end e.at (inner e.end) unread)
unfolding desc_at
desc_settles inner h unread now bs =
    bytes_then IsNode (λ e. short_at e.end) _ bs (short_settles bs) (λ name one le.
    bytes_then IsNode (λ e. number_at w64) _ one (number_settles w64 one) (λ suid another less.
    bytes_then IsNode (λ e. byte_at) _ another (byte_settles another) (λ flags rest fewer.
    step_then Any IsNode (λ e b. desc_after e.end e.at (inner e.end) (unread ++ length now.nodes ∷ []) name suid flags (push now (Desc blank)) b) _ rest (desc_after_settles inner h (unread ++ length now.nodes ∷ []) name suid flags (push now (Desc blank)) rest) (λ d last left q least.
    none_settles IsNode (slots.Node (length now.nodes)) (fill last (length now.nodes) (Desc d)) left tt))))

proxy_settles : (inner : ℕ → Slots) → SlotsSettle inner → (unread : List ℕ) → StepSettles IsNode (λ e. proxy_at e.end e.at (inner e.end) unread)
unfolding proxy_at
proxy_settles inner h unread now bs =
    bytes_then IsNode (λ e. size_at e.end w32 (2 ^ 31)) _ bs (size_settles w32 (2 ^ 31) bs) (λ n one le.
    cond_settles three (λ x. IsNode x.0) (ltb PARTS (now.parts + n)) _ _ one (λ many. refused_settles three (λ x. IsNode x.0) _ one (λ e b. tt)) (λ few.
    step_then Any IsNode (λ e b. many_at (plain (short_at e.end)) n (add_parts n (push now (Desc blank))) b) _ one (many_settles (λ e. plain (short_at e.end)) (plain_settles (λ e. short_at e.end) short_settles) n (add_parts n (push now (Desc blank))) one) (λ names a another q less.
    step_then Any IsNode (λ e b. items_at e.end (inner e.end places.Reference (unread ++ length now.nodes ∷ [])) true a b) _ another (items_settle inner h places.Reference (unread ++ length now.nodes ∷ []) a another) (λ is c rest k fewer.
    step_then Any IsNode (λ e b. inner e.end places.Parent (unread ++ length now.nodes ∷ []) c b) _ rest (any_slot inner h places.Parent (unread ++ length now.nodes ∷ []) c rest) (λ s last left m least.
    none_settles IsNode (slots.Node (length now.nodes)) (fill last (length now.nodes) (Proxy (record { names = names; note = is; parent = s }))) left tt)))))

class_then : (inner : ℕ → Slots) → SlotsSettle inner → (unread : List ℕ) (f : Env → ℕ → Step Slot) → ((k : ℕ) → StepSettles IsNode (λ e. f e k)) → StepSettles IsNode (λ e. with_class (inner e.end) unread e.at (f e))
unfolding with_class
class_then inner h unread f each now bs = step_then Any IsNode (λ e b. inner e.end places.Class unread now b) (λ e. on_class e.at (f e)) bs (any_slot inner h places.Class unread now bs) by
  where
    by : (s : Slot) (after : Progress) (left : List ℕ) → Unit {0} → length left ≤ length bs → Settles three (λ (x : Slot × Progress). IsNode x.0) (λ e b. on_class e.at (f e) (s, after, b)) left
    by slots.Null after left q le = refused_settles three (λ x. IsNode x.0) _ left (λ e b. tt)
    by (slots.Node k) after left q le = cond_settles three (λ x. IsNode x.0) (ltb (length after.nodes) NODES) _ _ left (λ room. each k after left) (λ full. refused_settles three (λ x. IsNode x.0) _ left (λ e b. tt))

unless_settles : {X Y : Type 0} (shape : X → List ℕ → Y) (Q : X → Type 0) (why : Option FaultKind) (r : Run Y) (bs : List ℕ) → Settles shape Q r bs → Settles shape Q (λ e b. unless why e.at (r e b)) bs
unless_settles shape Q None r bs s = s
unless_settles shape Q (Some kind) r bs s = refused_settles shape Q _ bs (λ e b. tt)

object_settles : (inner : ℕ → Slots) → SlotsSettle inner → (unread : List ℕ) (class : ℕ) → StepSettles IsNode (λ e. object_at e.end e.at (inner e.end places.Reference unread) class)
unfolding object_at object_after
object_settles inner h unread class now bs =
    let rows = rows_of (slice_get now.nodes class) (chain_of PARTS now.nodes (slots.Node class)).0 in
    let mid : Progress = record { nodes = now.nodes ++ Object class [] ∷ []; parts = now.parts + sizes_of rows } in
    cond_settles three (λ x. IsNode x.0) (ltb PARTS (now.parts + sizes_of rows)) _ _ bs (λ many. refused_settles three (λ x. IsNode x.0) _ bs (λ e b. tt)) (λ few.
    unless_settles three (λ x. IsNode x.0) (class_fault (slice_get now.nodes class) (chain_of PARTS now.nodes (slots.Node class)).1) _ bs
    (step_then Any IsNode (λ e b. parts_at e.end (inner e.end places.Reference unread) rows mid b) _ bs (parts_settle inner h places.Reference unread rows mid bs) (λ ps last left q le. none_settles IsNode (slots.Node (length now.nodes)) (fill last (length now.nodes) (Object class ps)) left tt)))

array_settles : (inner : ℕ → Slots) → SlotsSettle inner → (unread : List ℕ) (class : ℕ) → StepSettles IsNode (λ e. array_at e.end e.at (inner e.end places.Reference unread) class)
unfolding array_at array_of
array_settles inner h unread class now bs = by (type_in (slice_get now.nodes class))
  where
    by : (o : Option TypeCode) → Settles three (λ (x : Slot × Progress). IsNode x.0) (λ e b. array_of e.end e.at (inner e.end places.Reference unread) class o now b) bs
    by None = refused_settles three (λ x. IsNode x.0) _ bs (λ e b. tt)
    by (Some code) = bytes_then IsNode (λ e. size_at e.end w32 (2 ^ 31)) _ bs (size_settles w32 (2 ^ 31) bs) (λ n left le.
        cond_settles three (λ x. IsNode x.0) (ltb PARTS (now.parts + refs_among code n)) _ _ left (λ many. refused_settles three (λ x. IsNode x.0) _ left (λ e b. tt)) (λ few.
        step_then Any IsNode (λ e b. elements_at (inner e.end places.Reference unread) code n (add_parts (refs_among code n) (push now (Array class (kinds.Bytes [])))) b) _ left (elements_settle inner h places.Reference unread code n (add_parts (refs_among code n) (push now (Array class (kinds.Bytes [])))) left) (λ vs last rest q less.
        none_settles IsNode (slots.Node (length now.nodes)) (fill last (length now.nodes) (Array class vs)) rest tt)))

class_settles : (class : ℕ) → StepSettles IsNode (λ e. class_at class)
unfolding class_at
class_settles class now bs = none_settles IsNode (slots.Node (length now.nodes)) (push now (Class class)) bs tt

enum_settles : (inner : ℕ → Slots) → SlotsSettle inner → (unread : List ℕ) (class : ℕ) → StepSettles IsNode (λ e. enum_at e.at (inner e.end places.Text unread) class)
unfolding enum_at
enum_settles inner h unread class now bs = cond_settles three (λ x. IsNode x.0) (is_enum (slice_get now.nodes class)) _ _ bs (λ enum. step_then IsNode IsNode (λ e b. inner e.end places.Text unread (push now (Enum class 0)) b) (λ e. named class (length now.nodes)) bs (slot_settles inner h places.Text unread (push now (Enum class 0)) bs) by) (λ other. refused_settles three (λ x. IsNode x.0) _ bs (λ e b. tt))
  where
    by : (s : Slot) (after : Progress) (left : List ℕ) → IsNode s → length left ≤ length bs → Settles three (λ (x : Slot × Progress). IsNode x.0) (λ e b. named class (length now.nodes) (s, after, b)) left
    by slots.Null after left q le = absurd q
    by (slots.Node t) after left q le = none_settles IsNode (slots.Node (length now.nodes)) (fill after (length now.nodes) (Enum class t)) left tt

-- ---- codes

fresh_settles : (inner : ℕ → Slots) → SlotsSettle inner → (unread : List ℕ) (code : ℕ) → StepSettles IsNode (λ e. fresh_at e.end e.at (inner e.end) unread code)
unfolding fresh_at
fresh_settles inner h unread code now bs =
    cond_settles three (λ x. IsNode x.0) (eqb code 0x72) _ _ bs (λ e. desc_settles inner h unread now bs) (λ e1.
    cond_settles three (λ x. IsNode x.0) (eqb code 0x73) _ _ bs (λ e. class_then inner h unread (λ e. object_at e.end e.at (inner e.end places.Reference unread)) (object_settles inner h unread) now bs) (λ e2.
    cond_settles three (λ x. IsNode x.0) (eqb code 0x74) _ _ bs (λ e. text_settles (λ e. short_at e.end) short_settles now bs) (λ e3.
    cond_settles three (λ x. IsNode x.0) (eqb code 0x75) _ _ bs (λ e. class_then inner h unread (λ e. array_at e.end e.at (inner e.end places.Reference unread)) (array_settles inner h unread) now bs) (λ e4.
    cond_settles three (λ x. IsNode x.0) (eqb code 0x76) _ _ bs (λ e. class_then inner h unread (λ e. class_at) class_settles now bs) (λ e5.
    cond_settles three (λ x. IsNode x.0) (eqb code 0x7C) _ _ bs (λ e. text_settles (λ e. long_at e.end) long_settles now bs) (λ e6.
    cond_settles three (λ x. IsNode x.0) (eqb code 0x7D) _ _ bs (λ e. proxy_settles inner h unread now bs) (λ e7.
    cond_settles three (λ x. IsNode x.0) (eqb code 0x7E) _ _ bs (λ e. class_then inner h unread (λ e. enum_at e.at (inner e.end places.Text unread)) (enum_settles inner h unread) now bs)
    (λ e8. refused_settles three (λ x. IsNode x.0) _ bs (λ e b. tt)))))))))

null_settles : (p : SlotPlace) → StepSettles (SlotOk p) (λ e. null_at p e.at)
null_settles places.Reference now bs = none_settles (SlotOk places.Reference) slots.Null now bs tt
null_settles places.Parent now bs = none_settles (SlotOk places.Parent) slots.Null now bs tt
null_settles places.Class now bs = refused_settles three (λ x. SlotOk places.Class x.0) _ bs (λ e b. tt)
null_settles places.Text now bs = refused_settles three (λ x. SlotOk places.Text x.0) _ bs (λ e b. tt)

handle_settles : (p : SlotPlace) (unread : List ℕ) → StepSettles (SlotOk p) (λ e. handle_at p unread e.at)
unfolding handle_at
handle_settles p unread now bs = bytes_then (SlotOk p) (λ e. number_at w32) _ bs (number_settles w32 bs) (λ k left le.
    cond_settles three (λ x. SlotOk p x.0) (ltb k 0x7E0000) _ _ left (λ low. refused_settles three (λ x. SlotOk p x.0) _ left (λ e b. tt)) (λ high.
    unless_settles three (λ x. SlotOk p x.0) (handle_fault p (has unread (k - 0x7E0000)) (slice_get now.nodes (k - 0x7E0000))) _ left (none_settles (SlotOk p) (slots.Node (k - 0x7E0000)) now left (node_ok p (slots.Node (k - 0x7E0000)) tt))))

deep_settles : (p : SlotPlace) (left : ℕ) (r : Run (Slot × Progress × List ℕ)) (bs : List ℕ) → ((n : ℕ) → left ≡ suc n → Settles three (λ (x : Slot × Progress). SlotOk p x.0) r bs) → Settles three (λ (x : Slot × Progress). SlotOk p x.0) (λ e b. deep left e.at (r e b)) bs
deep_settles p zero r bs h = refused_settles three (λ x. SlotOk p x.0) _ bs (λ e b. tt)
deep_settles p (suc left) r bs h = h left refl

coded_settles : (left : ℕ) (inner : ℕ → Slots) → ((n : ℕ) → left ≡ suc n → SlotsSettle inner) → (p : SlotPlace) (unread : List ℕ) (code : ℕ) → StepSettles (SlotOk p) (λ e. coded e.end left (inner e.end) p unread e.at code)
unfolding coded
coded_settles left inner h p unread code now bs =
    cond_settles three (λ x. SlotOk p x.0) (eqb code 0x70) _ _ bs (λ e. null_settles p now bs) (λ e0.
    cond_settles three (λ x. SlotOk p x.0) (eqb code 0x71) _ _ bs (λ e. handle_settles p unread now bs) (λ e1.
    cond_settles three (λ x. SlotOk p x.0) (admits_code p code) _ _ bs (λ e. deep_settles p left _ bs (λ n some.
    cond_settles three (λ x. SlotOk p x.0) (ltb (length now.nodes) NODES) _ _ bs (λ room. weaker three (λ x. IsNode x.0) (λ x. SlotOk p x.0) _ bs (λ x q. node_ok p x.0 q) (fresh_settles inner (h n some) unread code now bs)) (λ full. refused_settles three (λ x. SlotOk p x.0) _ bs (λ e b. tt))))
    (λ other. refused_settles three (λ x. SlotOk p x.0) _ bs (λ e b. tt))))

no_78 : (end left : ℕ) (inner : Slots) (p : SlotPlace) (unread : List ℕ) (at : ℕ) (now : Progress) (b : List ℕ) → Refused (coded end left inner p unread at 0x78 now b)
unfolding coded
no_78 end left inner places.Reference unread at now b = tt
no_78 end left inner places.Class unread at now b = tt
no_78 end left inner places.Parent unread at now b = tt
no_78 end left inner places.Text unread at now b = tt

slots_settle : (left : ℕ) → SlotsSettle (λ end. slot_at end left)
unfolding slot_at
slots_settle zero = record {
  coded = λ p unread now c bs. at_settles three (λ x. SlotOk p x.0) (λ e b. coded e.end zero no_slots p unread e.at c now b) at_code bs (λ e b v. v) (coded_settles zero (λ end. no_slots) (λ n e. absurd (omega arith)) p unread c now bs);
  none = λ end p unread now. refl;
  wrong = λ end p unread now b. no_78 end zero no_slots p unread (end - suc (length b)) now b;
}
slots_settle (suc left) = record {
  coded = λ p unread now c bs. at_settles three (λ x. SlotOk p x.0) (λ e b. coded e.end (suc left) (slot_at e.end left) p unread e.at c now b) at_code bs (λ e b v. v) (coded_settles (suc left) (λ end. slot_at end left) (λ n e. slots_settle left) p unread c now bs);
  none = λ end p unread now. refl;
  wrong = λ end p unread now b. no_78 end (suc left) (slot_at end left) p unread (end - suc (length b)) now b;
}

-- ---- up to the end of the bytes

abbrev to_end : ℕ → ℕ → Progress → List ℕ → Result (List Item × Progress × List ℕ) Fault
to_end end most now bs = blocks_at end (slot_at end LEVELS places.Reference []) false (suc most) now bs

-- With some bytes more nothing is wanted; and where these are refused, so they are whatever comes behind.
record Top (now : Progress) (bs : List ℕ) : Type 0 where
  more : List ℕ
  bytes : AreBytes more
  enough : (end most : ℕ) → length (bs ++ more) ≤ most → NotShort (to_end end most now (bs ++ more))
  stays : (end most : ℕ) → length bs ≤ most → Refused (to_end end most now bs) → (last fuel : ℕ) (rest : List ℕ) → length (bs ++ rest) ≤ fuel → Refused (to_end last fuel now (bs ++ rest))

refused_then : {Y Z : Type 0} (y : Result Y Fault) (f : Y → Z) → Refused (y >>= λ x. Ok (f x)) → Refused y
refused_then (Ok y) f h = h
refused_then (Err short) f h = h
refused_then (Err (bad kind at)) f h = tt
refused_then (Err (too_many at)) f h = tt
refused_then (Err (too_deep at)) f h = tt

not_short_then : {Y Z : Type 0} (y : Result Y Fault) (f : Y → Z) → NotShort y → NotShort (y >>= λ x. Ok (f x))
not_short_then (Ok y) f h = tt
not_short_then (Err short) f h = h
not_short_then (Err (bad kind at)) f h = tt
not_short_then (Err (too_many at)) f h = tt
not_short_then (Err (too_deep at)) f h = tt

abbrev top_item : ℕ → Progress → ℕ → List ℕ → Result (Item × Progress × List ℕ) Fault
top_item c now end b = item_of end (slot_at end LEVELS places.Reference []) c now b

abbrev top_more : ℕ → ℕ → Item × Progress × List ℕ → Result (List Item × Progress × List ℕ) Fault
top_more end most i = and_more end (slot_at end LEVELS places.Reference []) false most i

-- behind a first byte, where reading goes on so behind the item
top_behind : (now : Progress) (c : ℕ) (bs : List ℕ) → ((after : Progress) (left : List ℕ) → length left ≤ length bs → Top after left) → Top now (c ∷ bs)
unfolding blocks_at
top_behind now c bs again = by s.outcome
  where
    s : Settles three (λ (x : Item × Progress). Unit {0}) (λ e b. item_of e.end (slot_at e.end LEVELS places.Reference []) c now b) bs
    s = item_settles (λ end. slot_at end LEVELS) (slots_settle LEVELS) places.Reference [] c now bs

    stepped : (end most : ℕ) (b : List ℕ) → to_end end most now (c ∷ b) ≡ (top_item c now end b >>= top_more end most)
    stepped end most b = one_more end (slot_at end LEVELS places.Reference []) false most c now b

    env : ℕ → ℕ → Env
    env end most = record { end = end; at = 0; fuel = most }

    unwanted : (end most : ℕ) → suc (length bs) ≤ most → Refused (to_end end most now (c ∷ bs)) → s.more ≡ []
    unwanted end most v refused = s.least (env end most) (omega arith) (first_not_short (top_item c now end bs) (top_more end most) (refused_not_short _ (subst (λ y. Refused y) (stepped end most bs) refused)))

    by : RunEnd three (λ (x : Item × Progress). Unit {0}) (λ e b. item_of e.end (slot_at e.end LEVELS places.Reference []) c now b) bs s.more → Top now (c ∷ bs)
    by (refuses h) = record {
      more = s.more;
      bytes = s.bytes;
      enough = λ end most v. refused_not_short _ (go end most [] s.more (append-nil s.more) v);
      stays = λ end most v refused last fuel rest w. go last fuel rest rest (ap (λ (l : List ℕ). l ++ rest) (unwanted end most v refused)) w;
    }
      where
        go : (end most : ℕ) (tail all : List ℕ) → s.more ++ tail ≡ all → suc (length (bs ++ all)) ≤ most → Refused (to_end end most now (c ∷ (bs ++ all)))
        go end most tail all same v =
            let w : length (bs ++ (s.more ++ tail)) ≤ most = subst (λ (l : List ℕ). length (bs ++ l) ≤ most) (sym same) (omega arith) in
            let k : Refused (top_item c now end (bs ++ all)) = subst (λ (l : List ℕ). Refused (top_item c now end (bs ++ l))) same (h (env end most) tail w) in
            subst (λ y. Refused y) (sym (stepped end most (bs ++ all))) (refused_first (top_item c now end (bs ++ all)) (top_more end most) k)
    by (goes_on x left q less h) = record {
      more = s.more ++ t.more;
      bytes = all_append s.more t.more s.bytes t.bytes;
      enough = λ end most v. subst (λ y. NotShort y) (sym (go end most t.more (s.more ++ t.more) refl v)) (not_short_then (to_end end (most - 1) x.1 (left ++ t.more)) _ (t.enough end (most - 1) (few t.more (s.more ++ t.more) refl most v)));
      stays = λ end most v refused last fuel rest w.
          (let none = unwanted end most v refused in
          let plain_end : s.more ++ [] ≡ [] = ap (λ (l : List ℕ). l ++ []) none in
          let plain_rest : s.more ++ rest ≡ rest = ap (λ (l : List ℕ). l ++ rest) none in
          let v2 : suc (length (bs ++ [])) ≤ most = subst (λ (l : List ℕ). suc (length l) ≤ most) (sym (append-nil bs)) v in
          let first : Refused (to_end end most now (c ∷ (bs ++ []))) = subst (λ (l : List ℕ). Refused (to_end end most now (c ∷ l))) (sym (append-nil bs)) refused in
          let inside : Refused (to_end end (most - 1) x.1 (left ++ [])) = refused_then (to_end end (most - 1) x.1 (left ++ [])) _ (subst (λ y. Refused y) (go end most [] [] plain_end v2) first) in
          let again : Refused (to_end end (most - 1) x.1 left) = subst (λ (l : List ℕ). Refused (to_end end (most - 1) x.1 l)) (append-nil left) inside in
          let kept : Refused (to_end last (fuel - 1) x.1 (left ++ rest)) = t.stays end (most - 1) (omega arith) again last (fuel - 1) rest (few rest rest plain_rest fuel w) in
          subst (λ y. Refused y) (sym (go last fuel rest rest plain_rest w)) (refused_first _ (λ is. Ok (x.0 ∷ is.0, is.1, is.2)) kept));
    }
      where
        t : Top x.1 left
        t = again x.1 left less

        few : (tail all : List ℕ) → s.more ++ tail ≡ all → (most : ℕ) → suc (length (bs ++ all)) ≤ most → length (left ++ tail) ≤ most - 1
        few tail all same most v =
            let a = length-append bs all in
            let b = length-append left tail in
            let d : length all ≡ length s.more + length tail = ap (λ (l : List ℕ). length l) (sym same) ∙ length-append s.more tail in
            omega arith

        go : (end most : ℕ) (tail all : List ℕ) → s.more ++ tail ≡ all → suc (length (bs ++ all)) ≤ most → to_end end most now (c ∷ (bs ++ all)) ≡ (to_end end (most - 1) x.1 (left ++ tail) >>= λ is. Ok (x.0 ∷ is.0, is.1, is.2))
        go end most tail all same v =
            let w : length (bs ++ (s.more ++ tail)) ≤ most = subst (λ (l : List ℕ). length (bs ++ l) ≤ most) (sym same) (omega arith) in
            let k : top_item c now end (bs ++ all) ≡ Ok (x.0, x.1, left ++ tail) = subst (λ (l : List ℕ). top_item c now end (bs ++ l) ≡ Ok (x.0, x.1, left ++ tail)) same (h (env end most) tail w) in
            let m : most ≡ suc (most - 1) = omega arith in
            stepped end most (bs ++ all) ∙ (ap (λ y. y >>= top_more end most) k ∙ ap (λ f. blocks_at end (slot_at end LEVELS places.Reference []) false f x.1 (left ++ tail) >>= λ is. Ok (x.0 ∷ is.0, is.1, is.2)) m)

top_settles : (n : ℕ) (now : Progress) (bs : List ℕ) → length bs ≤ n → Top now bs
unfolding blocks_at
top_settles n now [] le = record { more = []; bytes = tt; enough = λ end most v. tt; stays = λ end most v refused. absurd refused }
top_settles zero now (c ∷ bs) le = absurd (omega arith)
top_settles (suc n) now (c ∷ bs) le = top_behind now c bs (λ after left less. top_settles n after left (omega arith))

-- ---- a whole stream

abbrev nothing : Progress
nothing = record { nodes = []; parts = 0 }

abbrev pub answer : ℕ → List ℕ → List ℕ → Result (List Node × List Item) Fault
answer end ws bytes = magic_at end ws bytes >>= λ bs. items_at end (slot_at end LEVELS places.Reference []) false nothing bs >>= λ x. Ok (x.1.nodes, x.0)

answered : (end : ℕ) (bs : List ℕ) → answer end [] bs ≡ (to_end end (length bs) nothing bs >>= λ x. Ok (x.1.nodes, joined x.0))
unfolding magic_at items_at
answered end bs = sym (then_twice (to_end end (length bs) nothing bs) (λ x. Ok (joined x.0, x.1, x.2)) (λ x. Ok (x.1.nodes, x.0)))

record Start (ws bs : List ℕ) : Type 0 where
  more : List ℕ
  bytes : AreBytes more
  enough : (end : ℕ) → NotShort (answer end ws (bs ++ more))
  stays : (end : ℕ) → Refused (answer end ws bs) → (last : ℕ) (rest : List ℕ) → Refused (answer last ws (bs ++ rest))

start_settles : (ws bs : List ℕ) → AreBytes ws → Start ws bs
unfolding magic_at
start_settles [] bs h = record {
  more = t.more;
  bytes = t.bytes;
  enough = λ end. subst (λ y. NotShort y) (sym (answered end (bs ++ t.more))) (not_short_then (to_end end (length (bs ++ t.more)) nothing (bs ++ t.more)) _ (t.enough end (length (bs ++ t.more)) (omega arith)));
  stays = λ end refused last rest. subst (λ y. Refused y) (sym (answered last (bs ++ rest))) (refused_first _ (λ x. Ok (x.1.nodes, joined x.0))
      (t.stays end (length bs) (omega arith) (refused_then (to_end end (length bs) nothing bs) _ (subst (λ y. Refused y) (answered end bs) refused)) last (length (bs ++ rest)) rest (omega arith)));
}
  where
    t : Top nothing bs
    t = top_settles (length bs) nothing bs (omega arith)
start_settles (w ∷ ws) [] h =
    let t = start_settles ws [] h.1 in
    let same : eqb w w ≡ true = eqb_same w in
    record {
      more = w ∷ t.more;
      bytes = (h.0, t.bytes);
      enough = λ end. rw same (t.enough end);
      stays = λ end refused. absurd refused;
    }
start_settles (w ∷ ws) (b ∷ bs) h = by (eqb b w) refl (start_settles ws bs h.1)
  where
    by : (d : Bool) → eqb b w ≡ d → Start ws bs → Start (w ∷ ws) (b ∷ bs)
    by true e t = record {
      more = t.more;
      bytes = t.bytes;
      enough = λ end. rw e (t.enough end);
      stays = λ end refused last rest. rw e (t.stays end (rw e at refused) last rest);
    }
    by false e t = record {
      more = [];
      bytes = tt;
      enough = λ end. rw e tt;
      stays = λ end refused last rest. rw e tt;
    }

abbrev magic : List ℕ
magic = 0xAC ∷ 0xED ∷ 0x00 ∷ 0x05 ∷ []

are_magic : AreBytes magic
are_magic = (omega arith, (omega arith, (omega arith, (omega arith, tt))))

-- What was refused was so before more came.
unrefused : (end : ℕ) (bytes front rest : List ℕ) (fault : Fault) → answer end magic bytes ≡ Err short → bytes ≡ front ++ rest → answer (length front) magic front ≡ Err fault → fault ≡ short
unrefused end bytes front rest short e same is = refl
unrefused end bytes front rest (bad kind at) e same is = absurd (subst (λ y. Refused y) e (subst (λ (l : List ℕ). Refused (answer end magic l)) (sym same) ((start_settles magic front are_magic).stays (length front) (subst (λ y. Refused y) (sym is) tt) end rest)))
unrefused end bytes front rest (too_many at) e same is = absurd (subst (λ y. Refused y) e (subst (λ (l : List ℕ). Refused (answer end magic l)) (sym same) ((start_settles magic front are_magic).stays (length front) (subst (λ y. Refused y) (sym is) tt) end rest)))
unrefused end bytes front rest (too_deep at) e same is = absurd (subst (λ y. Refused y) e (subst (λ (l : List ℕ). Refused (answer end magic l)) (sym same) ((start_settles magic front are_magic).stays (length front) (subst (λ y. Refused y) (sym is) tt) end rest)))

-- Bytes of which reading wants more end too early.
pub ends_early : (end : ℕ) (bytes : List ℕ) → answer end magic bytes ≡ Err short → EndsEarly bytes
unfolding stream_of
ends_early end bytes e =
    let s = start_settles magic bytes are_magic in
    record {
      unrefused = λ front rest fault same is. unrefused end bytes front rest fault e same is;
      more = s.more;
      are_bytes = s.bytes;
      enough = λ is. subst (λ y. NotShort y) is (s.enough (length (bytes ++ s.more)));
    }
