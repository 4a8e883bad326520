-- Where steps of reading end at a fault.
use Rattle.std.proofs.Common.{◌≡◌, if◌then◌else◌, ℕ, suc, ◌+◌, ◌-◌, ◌<◌, ◌≤◌, Bool, false, ◌&&◌, nat_eq, nat_lt, eqb, List, [], ◌∷◌, length, take, drop, get_or, Ok, Err, refl, sym, ap, subst, ◌∙◌, arith, inl, inr, drop-cons, add-one}
use Rattle.std.proofs.lemmas.Bool.{cases_lt, le-ltb}
use Rattle.std.proofs.lemmas.List.{length-take-le}
use Rattle.std.specs.Int.{Width}
use Rattle.mod_utf.specs.Decoding.{decoded_units}
use Rattle.wire_io.specs.Pulled.{PullState}
use Rattle.stream_grammar.specs.Reading.{◌>>=◌, value_at, elements_at, items_at, blocks_at, Fault, short, bad, negative_length, Progress, counting, Step, map_step, byte_at, take_at, number_at, size_at, units_at, units_of, many_at}
use Rattle.ser_read.specs.declared.fault.StreamFault.{StreamFault}
use Rattle.ser_read.specs.declared.fault.StreamFault.TheVariants as faults
use Rattle.ser_read.specs.declared.fault.StreamKind.TheVariants as kinds
use Rattle.ser_read.specs.Here.{Reads, Breaks}
use Rattle.ser_read.specs.Whole.{BreaksWhole}
use Rattle.ser_read.specs.Lists.{all_at}
use Rattle.class_desc.specs.declared.slot.Slot.{Slot}
use Rattle.class_desc.specs.declared.slot.Item.{Item}
use Rattle.class_desc.specs.declared.slot.Item.TheVariants as items
use Rattle.class_desc.specs.declared.field.TypeCode.{TypeCode}
use Rattle.class_desc.specs.declared.field.TypeCode.TheVariants as codes
use Rattle.class_desc.specs.TypeCode.{is_primitive}
use Rattle.ser_values.specs.declared.value.Value.TheVariants as values
use Rattle.ser_values.specs.declared.value.Values.TheVariants as kinds_of
use Rattle.ser_read.specs.Named.{item_at}
use Rattle.ser_read.proofs.Loop.{front_of}
use Rattle.ser_read.proofs.Blocks.{Slack, slack_byte, byte_goes, one_byte, item_err, until, until_err, after_all}
use Rattle.ser_read.proofs.Bytes.{onto, takes_all, takes_short}
use Rattle.ser_read.proofs.Breaking.{short_two, short_as, breaks_said, loop_stops, first, later, bad_here}

-- ---- lengths and counts

size_here : (end : ℕ) (w : Width) (bound at : ℕ) (bs : List ℕ) → end ≡ at + length bs → size_at end w bound bs ≡ (number_at w bs >>= λ n. if nat_lt n.0 bound then Ok n else Err (bad negative_length at))
unfolding size_at
size_here end w bound at bs e = let h : end - length bs ≡ at = omega arith in ap (λ a. number_at w bs >>= λ n. if nat_lt n.0 bound then Ok n else Err (bad negative_length a)) h

pub size_stops : {p q : PullState} {e : StreamFault} (w : Width) (bound : ℕ) → Breaks p q e (λ end. number_at w) → Breaks p q e (λ end. size_at end w bound)
size_stops {p} w bound h = breaks_said (λ end bs here. size_here end w bound p.at bs here) (first _ h)

pub size_negative : {p q : PullState} {n : ℕ} (w : Width) (bound : ℕ) → bound ≤ n → Reads short p q (λ end. number_at w) (λ rest. (n, rest)) → Breaks p q (faults.Bad kinds.NegativeLength p.at) (λ end. size_at end w bound)
size_negative {p} {q} {n} w bound le h =
    let great : nat_lt n bound ≡ false = le-ltb _ _ le in
    breaks_said (λ end bs here. size_here end w bound p.at bs here) (later _ h (bad_here kinds.NegativeLength p.at tt (λ end bs here. rw great refl)))

-- ---- texts

units_here : (end n at : ℕ) (bs : List ℕ) → end ≡ at + length bs → units_at end n bs ≡ (take_at n bs >>= λ t. units_of at (decoded_units t.0) >>= λ units. Ok (units, t.1))
unfolding units_at
units_here end n at bs e = let h : end - length bs ≡ at = omega arith in ap (λ a. take_at n bs >>= λ t. units_of a (decoded_units t.0) >>= λ units. Ok (units, t.1)) h

pub units_stop : {p q : PullState} {e : StreamFault} (n : ℕ) → Breaks p q e (λ end. take_at n) → Breaks p q e (λ end. units_at end n)
units_stop {p} n h = breaks_said (λ end bs here. units_here end n p.at bs here) (first _ h)

pub units_stop_by : {p q : PullState} {e : StreamFault} {m : ℕ} (n : ℕ) → Breaks p q e (λ end. take_at m) → m ≡ n → Breaks p q e (λ end. units_at end n)
units_stop_by {p} {q} {e} n h is = units_stop n (subst (λ (k : ℕ). Breaks p q e (λ end. take_at k)) is h)

-- so many of some bytes
pub front_long : (n k : ℕ) (bytes : List ℕ) → k ≡ n → n ≤ length bytes → length (take k bytes) ≡ n
front_long n k bytes same within = rw same (length-take-le n bytes within)

pub units_bad : {p q : PullState} {bytes : List ℕ} {at : ℕ} (n : ℕ) → decoded_units bytes ≡ Err at → Reads short p q (λ end. take_at n) (λ rest. (bytes, rest)) → Breaks p q (faults.Bad kinds.BadUtf (p.at + at)) (λ end. units_at end n)
units_bad {p} {q} {bytes} {at} n is h = breaks_said (λ end bs here. units_here end n p.at bs here) (later _ h (bad_here kinds.BadUtf (p.at + at) tt (λ end bs here. rw is refl)))

-- ---- bytes, piece by piece

pub take_err : (front : List ℕ) (left more : ℕ) (bs : List ℕ) (f : Fault) → more ≤ left → take_at more bs ≡ Err f → onto front (take_at left bs) ≡ Err f
take_err front left more bs f le is = elim (cases_lt (length bs) more) [
  | inl lt ↦ rw (takes_short left bs (omega arith)) (let same : short ≡ f = (let e = sym (takes_short more bs lt) ∙ is in cc) in ap (λ (x : Fault). Err x) same)
  | inr long ↦ absurd (let e = sym (takes_all more bs long) ∙ is in cc)
]

-- ---- one thing after the other

pub many_err : {A : Type 0} (step : Step A) (front : List A) (n i : ℕ) (now : Progress) (bs : List ℕ) (f : Fault) → i < n → step now bs ≡ Err f → front_of front (many_at step (n - i) now bs) ≡ Err f
unfolding many_at
many_err step front n i now bs f lt h = let k : n - i ≡ suc (n - (i + 1)) = omega arith in rw (k, h) refl

pub all_err : {A B : Type 0} (step : B → Step A) (front : List A) (cs : List B) (i : ℕ) (c : B) (now : Progress) (bs : List ℕ) (f : Fault) → i < length cs → step (get_or cs i c) now bs ≡ Err f → front_of front (all_at step (drop i cs) now bs) ≡ Err f
unfolding all_at
all_err step front cs i c now bs f lt h =
    let k : drop i cs ≡ get_or cs i c ∷ drop (i + 1) cs = rw (add-one, drop-cons cs i c) refl in
    rw (k, h) refl

pub all_err_item : {A B : Type 0} (step : B → Step A) (front : List A) (cs : List B) (i : ℕ) (c : B) (now : Progress) (bs : List ℕ) (f : Fault) → i < length cs → c ≡ get_or cs i c → step c now bs ≡ Err f → front_of front (all_at step (drop i cs) now bs) ≡ Err f
all_err_item step front cs i c now bs f lt is h = all_err step front cs i c now bs f lt (subst (λ c. step c now bs ≡ Err f) is h)

-- ---- items

-- the position behind a code
behind_code : {q m : PullState} {c : ℕ} (end : ℕ) (bs : List ℕ) → Reads short q m (λ end. byte_at) (λ rest. (c, rest)) → end ≡ m.at + length bs → end ≡ q.at + suc (length bs)
behind_code {q} {m} {c} end bs a here =
    let one : a.taken ≡ c ∷ [] = one_byte a.taken c a.is in
    let len : length a.taken ≡ 1 = ap (λ (x : List ℕ). length x) one in
    omega (arith, here, a.takes.at, len)

pub slack_stops : {p q m r : PullState} {e : StreamFault} {inner : ℕ → Step Slot} {within : Bool} (ref : ℕ → Step Slot) {before now : Progress} {is : List Item} {c : ℕ}
    → Slack p q inner within before now is → Reads short q m (λ end. byte_at) (λ rest. (c, rest)) → (within && nat_eq c 0x78) ≡ false → ((end : ℕ) (bs : List ℕ) → end ≡ q.at + suc (length bs) → inner end now (c ∷ bs) ≡ ref end now bs)
    → Breaks m r e (λ end. item_at end q.at (ref end) c now) → Breaks p r e (λ end bs. until within (items_at end (inner end) within before bs))
slack_stops {p} {q} {m} {r} {e} {inner} {within} ref {before} {now} {is} {c} s a other same h =
    loop_stops (slack_byte s a) (λ end bs f here err. until_err within _ f (item_err end q.at (inner end) within (s.spare + suc (length bs)) c is now bs (ref end) f (let p = behind_code end bs a here in omega arith) other (same end bs (behind_code end bs a here)) err)) h

-- the same up to the end of the bytes
pub whole_stops : {p q m r : PullState} {inner : ℕ → Step Slot} (ref : ℕ → Step Slot) {before now : Progress} {is : List Item} {c : ℕ} (e : StreamFault)
    → Slack p q inner false before now is → Reads short q m (λ end. byte_at) (λ rest. (c, rest)) → ((end : ℕ) (bs : List ℕ) → end ≡ q.at + suc (length bs) → inner end now (c ∷ bs) ≡ ref end now bs)
    → Breaks m r e (λ end. item_at end q.at (ref end) c now) → BreaksWhole p r e (λ end. items_at end (inner end) false before)
whole_stops {p} {q} {m} {r} {inner} ref {before} {now} {is} {c} (faults.Truncated at) s a same h =
    record {
      is = record {
        is = (
          short_two at short (byte_goes s a) (short_as at (λ end bs. after_all is (blocks_at end (inner end) false (suc (s.spare + suc (length bs))) now (c ∷ bs))) short short
              (λ end bs here err. item_err end q.at (inner end) false (s.spare + suc (length bs)) c is now bs (ref end) short (let p = behind_code end bs a here in omega arith) refl (same end bs (behind_code end bs a here)) err) h.is.0),
          h.is.1,
        );
      };
    }
whole_stops ref (faults.Bad kind at) s a same h = record { is = slack_stops {within = false} ref s a refl same h }
whole_stops ref (faults.TooLarge what at) s a same h = record { is = slack_stops {within = false} ref s a refl same h }
whole_stops ref faults.ReadFault s a same h = record { is = slack_stops {within = false} ref s a refl same h }
whole_stops ref faults.OutOfMemory s a same h = record { is = slack_stops {within = false} ref s a refl same h }

pub item_other : (end at : ℕ) (ref : Step Slot) (code : ℕ) (now : Progress) (bs : List ℕ) → eqb code 0x77 ≡ false → eqb code 0x7A ≡ false → item_at end at ref code now bs ≡ (ref now bs >>= λ s. counting 1 at s.1 (λ next. Ok (items.Ref s.0, next, s.2)))
unfolding item_at
item_other end at ref code now bs a b = rw (a, b) refl

-- ---- values and elements that are references

pub value_refs : (code : TypeCode) (inner : Step Slot) (now : Progress) (bs : List ℕ) → is_primitive code ≡ false → value_at inner code now bs ≡ map_step values.Ref inner now bs
unfolding value_at
value_refs codes.Byte inner now bs h = absurd cc
value_refs codes.Char inner now bs h = absurd cc
value_refs codes.Double inner now bs h = absurd cc
value_refs codes.Float inner now bs h = absurd cc
value_refs codes.Int inner now bs h = absurd cc
value_refs codes.Long inner now bs h = absurd cc
value_refs codes.Short inner now bs h = absurd cc
value_refs codes.Boolean inner now bs h = absurd cc
value_refs codes.Array inner now bs h = refl
value_refs codes.Object inner now bs h = refl

pub elements_refs : (code : TypeCode) (n : ℕ) (inner : Step Slot) (now : Progress) (bs : List ℕ) → is_primitive code ≡ false → elements_at inner code n now bs ≡ map_step kinds_of.Refs (many_at inner n) now bs
unfolding elements_at
elements_refs codes.Byte n inner now bs h = absurd cc
elements_refs codes.Char n inner now bs h = absurd cc
elements_refs codes.Double n inner now bs h = absurd cc
elements_refs codes.Float n inner now bs h = absurd cc
elements_refs codes.Int n inner now bs h = absurd cc
elements_refs codes.Long n inner now bs h = absurd cc
elements_refs codes.Short n inner now bs h = absurd cc
elements_refs codes.Boolean n inner now bs h = absurd cc
elements_refs codes.Array n inner now bs h = refl
elements_refs codes.Object n inner now bs h = refl
