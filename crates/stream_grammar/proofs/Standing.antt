-- Each fault that reading answers stands in the bytes.
use Rattle.std.proofs.Common.{◌≡◌, ◌&&◌, ◌||◌, not, ℕ, zero, suc, ◌+◌, ◌-◌, ◌<◌, ◌≤◌, ◌^◌, ◌⊎◌, Bool, true, false, cond, eqb, ltb, leb, List, [], ◌∷◌, ◌++◌, length, take, drop, Option, Some, None, Result, Ok, Err, slice_get, refl, sym, ap, subst, ◌∙◌, append_assoc, arith, inl, inr}
use Rattle.std.proofs.lemmas.Bool.{eqb-true, eqb-false, ltb-true, ltb-false, leb-true, and_parts, ne_eqb, or_cases}
use Rattle.std.proofs.lemmas.List.{take-append-drop, length-take, length-append, length-set}
use Rattle.std.proofs.lemmas.Option.{slice_get_within}
use Rattle.std.specs.Prelude.{is_some}
use Rattle.std.specs.Int.{Width, w16, w32, w64, byte_len, from_be_bytes, cast_signed}
use Rattle.mod_utf.specs.Decoding.{decoded_units}
use Rattle.mod_utf.proofs.Decoded.{decoded_bad, is_bad}
use Rattle.class_desc.specs.declared.slot.Slot.{Slot}
use Rattle.class_desc.specs.declared.slot.Slot.TheVariants as slots
use Rattle.class_desc.specs.declared.slot.Item.{Item}
use Rattle.class_desc.specs.declared.slot.Item.TheVariants as items
use Rattle.class_desc.specs.declared.field.TypeCode.{TypeCode}
use Rattle.class_desc.specs.declared.field.TypeCode.TheVariants as codes
use Rattle.class_desc.specs.declared.field.FieldDesc.{FieldDesc}
use Rattle.class_desc.specs.declared.desc.ClassDesc.{ClassDesc}
use Rattle.class_desc.specs.declared.check.DescFault.{DescFault}
use Rattle.class_desc.specs.declared.check.DescFault.TheVariants.{BadFlags, FieldOrder}
use Rattle.class_desc.specs.TypeCode.{is_primitive, letter}
use Rattle.class_desc.specs.TypeText.{code_of, element_of, fits_text}
use Rattle.class_desc.specs.ClassDesc.{has_flag, lacks_flag, is_good_desc, fit_flags, are_ordered, IsFirstFault}
use Rattle.class_desc.proofs.TypeTexts.{letter_back}
use Rattle.class_desc.proofs.TypeTexts.{fits_of}
use Rattle.class_desc.proofs.Fields.{flags_are, flags_of}
use Rattle.ser_values.specs.declared.value.Value.TheVariants as values
use Rattle.ser_values.specs.declared.value.Values.TheVariants as kinds
use Rattle.ser_values.specs.declared.node.Node.{Node}
use Rattle.ser_values.specs.declared.node.Node.TheVariants.{Text, Desc, Proxy, Object, Array, Class, Enum}
use Rattle.ser_values.specs.declared.node.SlotPlace.{SlotPlace}
use Rattle.ser_values.specs.declared.node.SlotPlace.TheVariants as places
use Rattle.ser_values.specs.Node.{has, is_desc, is_text, admits, admits_null}
use Rattle.ser_values.specs.Shape.{fits_node, fits_type, is_enum}
use Rattle.stream_grammar.specs.Spelled.{joined}
use Rattle.stream_grammar.specs.Reading.{FaultKind, bad_code, bad_handle, wrong_handle_kind, bad_desc, bad_utf, negative_length, reset, inner_exception, old_external, Fault, short, bad, too_many, too_deep, ◌>>=◌, Plain, byte_at, take_at, number_at, size_at, units_of, units_at, short_at, long_at, Progress, Step, Slots, plain, map_step, many_at, push, fill, add_parts, counting, sizes_of, refs_among, blocks_at, items_at, field_of, field_at, is_true, value_at, values_at, elements_at, Row, chain_of, rows_of, class_fault, note_at, parts_at, unless, roomy, blank, text_at, desc_after, desc_at, proxy_at, on_class, with_class, object_after, object_at, type_in, array_of, array_at, class_at, named, enum_at, gives_handle, admits_code, code_fault, fresh_at, null_at, handle_fault, handle_at, deep, coded, no_slots, slot_at, magic_at, stream_of}
use Rattle.stream_grammar.proofs.Codes.{admitted_gives, code_known}
use Rattle.stream_grammar.specs.Faults.{Asking, slot_but, stream_but, ComesTo, HasNumber, HasByte, IsNoCode, NamesHandle, IsNegative, ReadsClass, LacksObjects, LacksArrays, LacksConstants, HasTooMany, DescHead, desc_head_at, IsNoLetter, NamesType, HasNoType, IsBroken, BreaksDesc, IsBadDesc, IsPastNodes, IsPastParts, IsNotGiven, IsOfWrongKind, IsUnread, IsRefused, Shows, StandsAt, IsGiven, IsConstruct, IsOneTooMany, IsTooDeep, FaultStands}
use Rattle.ser_values.proofs.Lists.{length_push, some_same}
use Rattle.stream_grammar.proofs.PlainSound.{bind_ok, passed, chosen}
use Rattle.ser_values.proofs.FrontLaws.{eqb_same}
use Rattle.stream_grammar.proofs.Settling.{ends_early}

-- what stands of a fault, but for bytes that end too early
abbrev Stood : ℕ → List ℕ → Fault → Type 0
Stood start whole short = Unit {0}
Stood start whole (bad kind at) = FaultStands start whole (bad kind at)
Stood start whole (too_many at) = FaultStands start whole (too_many at)
Stood start whole (too_deep at) = FaultStands start whole (too_deep at)

-- these bytes are the last of all
abbrev pub Rest : List ℕ → List ℕ → Type 0
Rest whole bs = (front : List ℕ) × (whole ≡ front ++ bs)

-- what is read of bytes alone, or the fault that stands
abbrev pub Told : {A : Type 0} → ℕ → List ℕ → (A → Type 0) → Result A Fault → Type 0
Told start whole Q (Ok x) = Q x
Told start whole Q (Err f) = Stood start whole f

-- a fault that answers the reference at a position
record Stop : Type 0 where
  position : ℕ
  fault : Asking → Fault

-- a step, with or without a stop
abbrev Reads : Type 0 → Type 0
Reads A = Option Stop → Result (A × Progress × List ℕ) Fault

abbrev Steps : Type 0 → Type 0
Steps A = Option Stop → Step A

-- reading of references, with or without a stop
abbrev slots_of : ℕ → ℕ → Option Stop → Slots
slots_of end left None = slot_at end left
slots_of end left (Some t) = slot_but end t.position t.fault left

-- what a step answers: no more bytes than these are left, and with a stop behind them it answers the same
record Ended {A : Type 0} (end : ℕ) (bs : List ℕ) (Q : A × Progress × List ℕ → Type 0) (r : Reads A) (x : A × Progress × List ℕ) : Type 0 where
  that : Q x
  less : length x.2 ≤ length bs
  same : (t : Stop) → end - length x.2 ≤ t.position → r (Some t) ≡ Ok x

-- Where a step with a stop at its bytes, or behind them, answers a fault, the whole does.
abbrev Comes : {A : Type 0} → ℕ → List ℕ → List ℕ → Reads A → Type 0
Comes end whole bs r = (t : Stop) (e : Fault) → end - length bs ≤ t.position → r (Some t) ≡ Err e → stream_but end t.position t.fault whole ≡ Err e

abbrev Ends : {A : Type 0} → ℕ → List ℕ → List ℕ → (A × Progress × List ℕ → Type 0) → Reads A → Result (A × Progress × List ℕ) Fault → Type 0
Ends start whole bs Q r (Ok x) = Ended (start + length whole) bs Q r x
Ends start whole bs Q r (Err f) = Stood start whole f

-- a step to which reading comes: what it answers, or the fault that stands
record Goes {A : Type 0} (start : ℕ) (whole bs : List ℕ) (Q : A × Progress × List ℕ → Type 0) (r : Reads A) : Type 0 where
  run : Comes (start + length whole) whole bs r → Ends start whole bs Q r (r None)

-- reading of bytes that end at a position
abbrev pub stream_from : ℕ → List ℕ → Result (List Node × List Item) Fault
stream_from end bytes = magic_at end (0xAC ∷ 0xED ∷ 0x00 ∷ 0x05 ∷ []) bytes >>= λ bs. items_at end (slot_at end 200 places.Reference []) false (record { nodes = []; parts = 0 }) bs >>= λ x. Ok (x.1.nodes, x.0)

-- a step begins here: so many levels may still begin
record Here (whole : List ℕ) (left : ℕ) (now : Progress) (bs : List ℕ) : Type 0 where
  rest : Rest whole bs
  few : length now.nodes ≤ 65536
  count : length now.nodes + length bs ≤ length whole
  level : 200 + length bs ≤ left + length whole

-- what a step leaves: no more bytes than these, and these numbers of bytes and nodes in all
record Grown (whole : List ℕ) (most sum : ℕ) (later : Progress) (rest : List ℕ) : Type 0 where
  is : Rest whole rest
  few : length later.nodes ≤ 65536
  less : length rest ≤ most
  count : length later.nodes + length rest ≤ sum

-- a construct gets its handle here
record Opened (whole : List ℕ) (left : ℕ) (now : Progress) (bs : List ℕ) : Type 0 where
  here : Here whole left now bs
  room : length now.nodes < 65536
  space : length now.nodes + suc (length bs) ≤ length whole

abbrev triple : {A : Type 0} → A → Progress → List ℕ → A × Progress × List ℕ
triple a now bs = (a, now, bs)

abbrev found : {A : Type 0} → A → Result A Fault
found a = Ok a

found_same : {A : Type 0} (x y : A) → found x ≡ found y → x ≡ y
found_same x y e = cc

-- none of many
none_read : {A : Type 0} (step : Step A) (now : Progress) (bs : List ℕ) → many_at step 0 now bs ≡ Ok ([], now, bs)
unfolding many_at
none_read step now bs = refl

-- one more of many
one_further : {A : Type 0} (step : Step A) (n : ℕ) (first : Progress) (begin : List ℕ) (xs : List A) (now : Progress) (bs : List ℕ) (x : A) (later : Progress) (rest : List ℕ) → many_at step n first begin ≡ Ok (xs, now, bs) → step now bs ≡ Ok (x, later, rest) → many_at step (suc n) first begin ≡ Ok (xs ++ x ∷ [], later, rest)
unfolding many_at
one_further {A} step zero first begin xs now bs x later rest e is =
    let k : triple {A = List A} [] first begin ≡ triple xs now bs = found_same (triple {A = List A} [] first begin) (triple xs now bs) e in
    let none : [] ≡ xs = ap (λ (y : List A × Progress × List ℕ). y.0) k in
    let same : first ≡ now = ap (λ (y : List A × Progress × List ℕ). y.1) k in
    let here : begin ≡ bs = ap (λ (y : List A × Progress × List ℕ). y.2) k in
    let one : step first begin ≡ Ok (x, later, rest) = rw (same, here) is in
    rw one (ap (λ (l : List A). found (triple (l ++ x ∷ []) later rest)) none)
one_further {A} step (suc n) first begin xs now bs x later rest e is =
    let a = bind_ok (step first begin) (λ z. many_at step n z.1 z.2 >>= λ ys. Ok (z.0 ∷ ys.0, ys.1, ys.2)) (triple xs now bs) e in
    let z = a.0 in
    let b = bind_ok (many_at step n z.1 z.2) (λ ys. Ok (z.0 ∷ ys.0, ys.1, ys.2)) (triple xs now bs) a.2 in
    let t = b.0 in
    let k : triple (z.0 ∷ t.0) t.1 t.2 ≡ triple xs now bs = found_same (triple (z.0 ∷ t.0) t.1 t.2) (triple xs now bs) b.2 in
    let read : many_at step n z.1 z.2 ≡ Ok (t.0, now, bs) = b.1 ∙ ap (λ (q : List A × Progress × List ℕ). found (triple t.0 q.1 q.2)) k in
    let deeper = one_further step n z.1 z.2 t.0 now bs x later rest read is in
    let front : z.0 ∷ t.0 ≡ xs = ap (λ (q : List A × Progress × List ℕ). q.0) k in
    ap (λ (y : Result (A × Progress × List ℕ) Fault). y >>= λ z. many_at step (suc n) z.1 z.2 >>= λ ys. Ok (z.0 ∷ ys.0, ys.1, ys.2)) a.1
    ∙ (ap (λ (y : Result (List A × Progress × List ℕ) Fault). y >>= λ ys. Ok (z.0 ∷ ys.0, ys.1, ys.2)) deeper ∙ ap (λ (l : List A). found (triple (l ++ x ∷ []) later rest)) front)

-- what stands before a description's fields
head_read : (end : ℕ) (bs : List ℕ) (name : List ℕ × List ℕ) (suid flags count : ℕ × List ℕ) → short_at end bs ≡ Ok name → number_at w64 name.1 ≡ Ok suid → byte_at suid.1 ≡ Ok flags → size_at end w16 32768 flags.1 ≡ Ok count
    → desc_head_at end bs ≡ Ok (record { name = name.0; suid = suid.0; flags = flags.0; count = count.0; rest = count.1 })
unfolding desc_head_at
head_read end bs name suid flags count a b c d = rw a (rw b (rw c (rw d refl)))

-- the first rule that a description breaks
first_fault : (d : ClassDesc) → is_good_desc d ≡ false → (fault : DescFault) × IsFirstFault d fault
unfolding is_good_desc
first_fault d h = by (fit_flags d) (are_ordered d.fields) refl refl h
  where
    by : (a b : Bool) → fit_flags d ≡ a → are_ordered d.fields ≡ b → (a && b) ≡ false → (fault : DescFault) × IsFirstFault d fault
    by false b e f h = (BadFlags, λ good. (let both_are : true ≡ false = sym (flags_of d good) ∙ e in absurd cc))
    by true false e f h = (FieldOrder, (flags_are d e, λ ordered. (let both_are : true ≡ false = sym ordered ∙ f in absurd cc)))
    by true true e f h = absurd cc

module _ (start : ℕ) (whole : List ℕ) where
  -- ---- one after the other

  then_told : {A B : Type 0} (Q : A → Type 0) (R : B → Type 0) (r : Result A Fault) (f : A → Result B Fault) → Told start whole Q r → ((x : A) → Q x → Told start whole R (f x)) → Told start whole R (r >>= f)
  then_told Q R (Ok x) f h g = g x h
  then_told Q R (Err e) f h g = h

  weaker_told : {A : Type 0} (Q R : A → Type 0) (r : Result A Fault) → ((x : A) → Q x → R x) → Told start whole Q r → Told start whole R r
  weaker_told Q R (Ok x) f h = f x h
  weaker_told Q R (Err e) f h = h

  cond_told : {A : Type 0} (Q : A → Type 0) (b : Bool) (x y : Result A Fault) → (b ≡ true → Told start whole Q x) → (b ≡ false → Told start whole Q y) → Told start whole Q (cond b x y)
  cond_told Q true x y h g = h refl
  cond_told Q false x y h g = g refl

  -- ---- positions

  later : (t bs rest : List ℕ) → bs ≡ t ++ rest → Rest whole bs → Rest whole rest
  later t bs rest e (front, w) = (front ++ t, w ∙ (ap (λ (l : List ℕ). front ++ l) e ∙ sym (append_assoc front t rest)))

  tail_of : (b : ℕ) (bs : List ℕ) → Rest whole (b ∷ bs) → Rest whole bs
  tail_of b bs r = later (b ∷ []) (b ∷ bs) bs refl r

  placed : (front here : List ℕ) → whole ≡ front ++ here → (start + length whole) - length here ≡ start + length front
  placed front here e = let l : length whole ≡ length front + length here = ap (λ (l : List ℕ). length l) e ∙ length-append front here in omega arith

  stands : (shows : List ℕ → List ℕ → Type 0) (bs : List ℕ) → Rest whole bs → ((front : List ℕ) → length whole ≡ length front + length bs → shows front bs) → StandsAt start whole ((start + length whole) - length bs) shows
  stands shows bs (front, e) h = record { front = front; here = bs; parts = e; place = placed front bs e; shown = h front (ap (λ (l : List ℕ). length l) e ∙ length-append front bs) }

  -- what is read is a front of the bytes
  abbrev Left : {A : Type 0} → List ℕ → A × List ℕ → Type 0
  Left bs x = (taken : List ℕ) × (bs ≡ taken ++ x.1)

  two_left : (bs b c : List ℕ) → (t : List ℕ) × (bs ≡ t ++ b) → (u : List ℕ) × (b ≡ u ++ c) → (v : List ℕ) × (bs ≡ v ++ c)
  two_left bs b c (t, e) (u, f) = (t ++ u, e ∙ (ap (λ (l : List ℕ). t ++ l) f ∙ sym (append_assoc t u c)))

  -- ---- bytes, numbers and texts

  byte_goes : (bs : List ℕ) → Told start whole (Left bs) (byte_at bs)
  byte_goes [] = tt
  byte_goes (b ∷ bs) = (b ∷ [], refl)

  abbrev Took : ℕ → List ℕ → List ℕ × List ℕ → Type 0
  Took n bs t = (bs ≡ t.0 ++ t.1) × (length t.0 ≡ n)

  take_told : (n : ℕ) (bs : List ℕ) → Told start whole (Took n bs) (take_at n bs)
  take_told n bs = cond_told (Took n bs) (ltb (length bs) n) (Err short) (Ok (take n bs, drop n bs)) (λ e. tt) (λ e. (let long : n ≤ length bs = ltb-false (length bs) n e in (sym (take-append-drop n bs), simp length-take (omega arith))))

  take_goes : (n : ℕ) (bs : List ℕ) → Told start whole (Left bs) (take_at n bs)
  take_goes n bs = weaker_told (Took n bs) (Left bs) (take_at n bs) (λ t q. (t.0, q.0)) (take_told n bs)

  abbrev Numbered : Width → List ℕ → ℕ × List ℕ → Type 0
  Numbered w bs x = (digits : List ℕ) × (bs ≡ digits ++ x.1) × (length digits ≡ byte_len w) × (x.0 ≡ from_be_bytes w digits)

  number_told : (w : Width) (bs : List ℕ) → Told start whole (Numbered w bs) (number_at w bs)
  number_told w bs = then_told (Took (byte_len w) bs) (Numbered w bs) (take_at (byte_len w) bs) (λ t. Ok (from_be_bytes w t.0, t.1)) (take_told (byte_len w) bs) (λ t q. (t.0, q.0, q.1, refl))

  has_number : (w : Width) (bs : List ℕ) (x : ℕ × List ℕ) → Numbered w bs x → HasNumber w bs x.0
  has_number w bs x q = record { digits = q.0; rest = x.1; is = q.1; count = q.2; number = q.3 }

  number_goes : (w : Width) (bs : List ℕ) → Told start whole (Left bs) (number_at w bs)
  number_goes w bs = weaker_told (Numbered w bs) (Left bs) (number_at w bs) (λ x q. (q.0, q.1)) (number_told w bs)

  size_goes : (w : Width) (bound : ℕ) → ((here : List ℕ) (n : ℕ) → HasNumber w here n → bound ≤ n → IsNegative here) → (bs : List ℕ) → Rest whole bs → Told start whole (Left bs) (size_at (start + length whole) w bound bs)
  unfolding size_at
  size_goes w bound shows bs r = then_told (Numbered w bs) (Left bs) (number_at w bs) _ (number_told w bs) (λ x q. cond_told (Left bs) (ltb x.0 bound) _ _ (λ e. (q.0, q.1)) (λ e. stands (λ front here. IsNegative here) bs r (λ front l. shows bs x.0 (has_number w bs x q) (ltb-false x.0 bound e))))

  negative_16 : (here : List ℕ) (n : ℕ) → HasNumber w16 here n → 32768 ≤ n → IsNegative here
  negative_16 here n h le = (n, inl (h, le))

  negative_32 : (here : List ℕ) (n : ℕ) → HasNumber w32 here n → 2 ^ 31 ≤ n → IsNegative here
  negative_32 here n h le = (n, inr (inl (h, le)))

  negative_64 : (here : List ℕ) (n : ℕ) → HasNumber w64 here n → 2 ^ 63 ≤ n → IsNegative here
  negative_64 here n h le = (n, inr (inr (h, le)))

  bad_text : (text after bs : List ℕ) (offset : ℕ) → bs ≡ text ++ after → Rest whole bs → decoded_units text ≡ Err offset → Stood start whole (bad bad_utf ((start + length whole) - length bs + offset))
  bad_text text after bs offset cut (front, w) e =
      let h = is_bad text offset (decoded_bad text offset e) in
      let all : bs ≡ h.front ++ (h.rest ++ after) = cut ∙ (ap (λ (l : List ℕ). l ++ after) h.parts ∙ append_assoc h.front h.rest after) in
      let parts : whole ≡ (front ++ h.front) ++ (h.rest ++ after) = w ∙ (ap (λ (l : List ℕ). front ++ l) all ∙ sym (append_assoc front h.front (h.rest ++ after))) in
      let p = placed front bs w in
      let l : length (front ++ h.front) ≡ length front + length h.front = length-append front h.front in
      let far : offset ≡ length h.front = h.here in
      record {
        front = front ++ h.front;
        here = h.rest ++ after;
        parts = parts;
        place = omega arith;
        shown = record { before = front; text = text; after = after; are = sym parts ∙ (w ∙ ap (λ (l : List ℕ). front ++ l) cut); offset = offset; place = omega arith; unread = h };
      }

  units_goes : (n : ℕ) (bs : List ℕ) → Rest whole bs → Told start whole (Left bs) (units_at (start + length whole) n bs)
  unfolding units_at
  units_goes n bs r = then_told (Took n bs) (Left bs) (take_at n bs) _ (take_told n bs) (λ t q. by t q (decoded_units t.0) refl)
    where
      by : (t : List ℕ × List ℕ) → Took n bs t → (d : Result (List ℕ) ℕ) → decoded_units t.0 ≡ d → Told start whole (Left bs) (units_of ((start + length whole) - length bs) d >>= λ units. Ok (units, t.1))
      by t q (Ok us) e = (t.0, q.0)
      by t q (Err offset) e = bad_text t.0 t.1 bs offset q.0 r e

  short_goes : (bs : List ℕ) → Rest whole bs → Told start whole (Left bs) (short_at (start + length whole) bs)
  unfolding short_at
  short_goes bs r = then_told (Left bs) (Left bs) (number_at w16 bs) _ (number_goes w16 bs) (λ n q. weaker_told (Left n.1) (Left bs) (units_at (start + length whole) n.0 n.1) (λ x p. two_left bs n.1 x.1 q p) (units_goes n.0 n.1 (later q.0 bs n.1 q.1 r)))

  long_goes : (bs : List ℕ) → Rest whole bs → Told start whole (Left bs) (long_at (start + length whole) bs)
  unfolding long_at
  long_goes bs r = then_told (Left bs) (Left bs) (size_at (start + length whole) w64 (2 ^ 63) bs) _ (size_goes w64 (2 ^ 63) negative_64 bs r) (λ n q. weaker_told (Left n.1) (Left bs) (units_at (start + length whole) n.0 n.1) (λ x p. two_left bs n.1 x.1 q p) (units_goes n.0 n.1 (later q.0 bs n.1 q.1 r)))

  shorter : (t bs rest : List ℕ) → bs ≡ t ++ rest → length rest ≤ length bs
  shorter t bs rest e = let l : length bs ≡ length t + length rest = ap (λ (l : List ℕ). length l) e ∙ length-append t rest in omega arith

  -- ---- steps: one after the other

  done : {A : Type 0} (bs : List ℕ) (Q : A × Progress × List ℕ → Type 0) (x : A × Progress × List ℕ) → Q x → length x.2 ≤ length bs → Goes start whole bs Q (λ o. Ok x)
  done bs Q x q le = record { run = λ comes. record { that = q; less = le; same = λ t l. refl } }

  fails : {A : Type 0} (bs : List ℕ) (Q : A × Progress × List ℕ → Type 0) (f : Fault) → Stood start whole f → Goes start whole bs Q (λ o. Err f)
  fails bs Q f h = record { run = λ comes. h }

  weaker : {A : Type 0} (bs : List ℕ) (Q R : A × Progress × List ℕ → Type 0) (r : Reads A) → ((x : A × Progress × List ℕ) → Q x → R x) → Goes start whole bs Q r → Goes start whole bs R r
  weaker bs Q R r f h = record { run = λ comes. go (r None) (h.run comes) }
    where
      go : (y : Result _ Fault) → Ends start whole bs Q r y → Ends start whole bs R r y
      go (Ok x) k = record { that = f x k.that; less = k.less; same = k.same }
      go (Err e) k = k

  longer : {A : Type 0} (bs cs : List ℕ) (Q : A × Progress × List ℕ → Type 0) (r : Reads A) → length bs ≤ length cs → Goes start whole bs Q r → Goes start whole cs Q r
  longer bs cs Q r le h = record { run = λ comes. go (r None) (h.run (λ t e l is. comes t e (omega arith) is)) }
    where
      go : (y : Result _ Fault) → Ends start whole bs Q r y → Ends start whole cs Q r y
      go (Ok x) k = let less = k.less in record { that = k.that; less = omega arith; same = k.same }
      go (Err e) k = k

  cond_goes : {A : Type 0} (bs : List ℕ) (Q : A × Progress × List ℕ → Type 0) (b : Bool) (x y : Reads A) → (b ≡ true → Goes start whole bs Q x) → (b ≡ false → Goes start whole bs Q y) → Goes start whole bs Q (λ o. cond b (x o) (y o))
  cond_goes bs Q true x y h g = h refl
  cond_goes bs Q false x y h g = g refl

  unless_goes : {A : Type 0} (bs : List ℕ) (Q : A × Progress × List ℕ → Type 0) (kind : Option FaultKind) (at : ℕ) (r : Reads A) → ((k : FaultKind) → kind ≡ Some k → Stood start whole (bad k at)) → Goes start whole bs Q r → Goes start whole bs Q (λ o. unless kind at (r o))
  unless_goes bs Q None at r h g = g
  unless_goes bs Q (Some k) at r h g = fails bs Q (bad k at) (h k refl)

  known_goes : {A B : Type 0} (bs : List ℕ) (Q : A × Progress × List ℕ → Type 0) (R : B × Progress × List ℕ → Type 0) (r : Reads A) (f : Option Stop → A × Progress × List ℕ → Result (B × Progress × List ℕ) Fault) → Goes start whole bs Q r
      → ((x : A × Progress × List ℕ) → Q x → r None ≡ Ok x → Goes start whole x.2 R (λ o. f o x)) → Goes start whole bs R (λ o. r o >>= f o)
  known_goes bs Q R r f h g = record { run = λ comes. go comes (r None) refl (h.run (λ t e le is. comes t e le (ap (λ k. k >>= f (Some t)) is))) }
    where
      onto : (x : _ × Progress × List ℕ) → Ended (start + length whole) bs Q r x → (y : Result (_ × Progress × List ℕ) Fault) → Ends start whole x.2 R (λ o. f o x) y → Ends start whole bs R (λ o. r o >>= f o) y
      onto x k (Ok y) m = let a = k.less in let b = m.less in record { that = m.that; less = omega arith; same = λ t le. ap (λ u. u >>= f (Some t)) (k.same t (omega arith)) ∙ m.same t le }
      onto x k (Err e) m = m

      go : Comes (start + length whole) whole bs (λ o. r o >>= f o) → (y : Result (_ × Progress × List ℕ) Fault) → r None ≡ y → Ends start whole bs Q r y → Ends start whole bs R (λ o. r o >>= f o) (y >>= f None)
      go comes (Ok x) e k = let a = k.less in onto x k (f None x) ((g x k.that e).run (λ t err le is. comes t err (omega arith) (ap (λ u. u >>= f (Some t)) (k.same t le) ∙ is)))
      go comes (Err e) s k = k

  then_goes : {A B : Type 0} (bs : List ℕ) (Q : A × Progress × List ℕ → Type 0) (R : B × Progress × List ℕ → Type 0) (r : Reads A) (f : Option Stop → A × Progress × List ℕ → Result (B × Progress × List ℕ) Fault) → Goes start whole bs Q r
      → ((x : A × Progress × List ℕ) → Q x → Goes start whole x.2 R (λ o. f o x)) → Goes start whole bs R (λ o. r o >>= f o)
  then_goes bs Q R r f h g = known_goes bs Q R r f h (λ x q e. g x q)

  -- bytes alone, and then a step
  told_with : {A B : Type 0} (bs : List ℕ) (Q : A × List ℕ → Type 0) (R : B × Progress × List ℕ → Type 0) (r : Result (A × List ℕ) Fault) (f : Option Stop → A × List ℕ → Result (B × Progress × List ℕ) Fault) → ((x : A × List ℕ) → Q x → Left bs x) → Told start whole Q r
      → ((x : A × List ℕ) → Q x → Goes start whole x.1 R (λ o. f o x)) → Goes start whole bs R (λ o. r >>= f o)
  told_with bs Q R (Ok x) f l q g = longer x.1 bs R (λ o. f o x) (shorter (l x q).0 bs x.1 (l x q).1) (g x q)
  told_with bs Q R (Err e) f l h g = fails bs R e h

  told_goes : {A B : Type 0} (bs : List ℕ) (R : B × Progress × List ℕ → Type 0) (r : Result (A × List ℕ) Fault) (f : Option Stop → A × List ℕ → Result (B × Progress × List ℕ) Fault) → Told start whole (Left bs) r
      → ((x : A × List ℕ) → Left bs x → Goes start whole x.1 R (λ o. f o x)) → Goes start whole bs R (λ o. r >>= f o)
  told_goes bs R r f h g = told_with bs (Left bs) R r f (λ x q. q) h g

  -- the same, where what was read is known
  told_known : {A B : Type 0} (bs : List ℕ) (R : B × Progress × List ℕ → Type 0) (r : Result (A × List ℕ) Fault) (f : Option Stop → A × List ℕ → Result (B × Progress × List ℕ) Fault) → Told start whole (Left bs) r
      → ((x : A × List ℕ) → Left bs x → r ≡ Ok x → Goes start whole x.1 R (λ o. f o x)) → Goes start whole bs R (λ o. r >>= f o)
  told_known bs R (Ok x) f q g = longer x.1 bs R (λ o. f o x) (shorter q.0 bs x.1 q.1) (g x q refl)
  told_known bs R (Err e) f h g = fails bs R e h

  -- ---- steps

  abbrev Good : {A : Type 0} → Progress → List ℕ → A × Progress × List ℕ → Type 0
  Good now bs x = Grown whole (length bs) (length now.nodes + length bs) x.1 x.2

  abbrev StepGoes : {A : Type 0} → ℕ → Steps A → Type 0
  StepGoes left step = (now : Progress) (bs : List ℕ) → Here whole left now bs → Goes start whole bs (Good now bs) (λ o. step o now bs)

  -- bytes were read, and no nodes
  on : (left : ℕ) (now : Progress) (bs rest : List ℕ) → Here whole left now bs → (t : List ℕ) × (bs ≡ t ++ rest) → Here whole left now rest
  on left now bs rest w (t, e) = let l = shorter t bs rest e in let c = w.count in let v = w.level in record { rest = later t bs rest e w.rest; few = w.few; count = omega arith; level = omega arith }

  -- what a step left is where the next one begins
  next : (left : ℕ) (now : Progress) (bs : List ℕ) (after : Progress) (rest : List ℕ) → Here whole left now bs → Grown whole (length bs) (length now.nodes + length bs) after rest → Here whole left after rest
  next left now bs after rest w g = let c = w.count in let v = w.level in let l = g.less in let s = g.count in record { rest = g.is; few = g.few; count = omega arith; level = omega arith }

  none_grown : (left : ℕ) (now : Progress) (bs : List ℕ) → Here whole left now bs → Grown whole (length bs) (length now.nodes + length bs) now bs
  none_grown left now bs w = record { is = w.rest; few = w.few; less = omega arith; count = omega arith }

  -- nothing is read
  none_goes : {A : Type 0} {a : A} (left : ℕ) (now : Progress) (bs : List ℕ) → Here whole left now bs → Goes start whole bs (Good now bs) (λ o. Ok (a, now, bs))
  none_goes {A} {a} left now bs w = done bs (Good now bs) (a, now, bs) (none_grown left now bs w) (omega arith)

  -- within greater numbers
  within : (m n s t : ℕ) (after : Progress) (rest : List ℕ) → m ≤ n → s ≤ t → Grown whole m s after rest → Grown whole n t after rest
  within m n s t after rest le le2 g = let l = g.less in let c = g.count in record { is = g.is; few = g.few; less = omega arith; count = omega arith }

  two_steps : (now : Progress) (bs : List ℕ) (mid : Progress) (b : List ℕ) (after : Progress) (rest : List ℕ) → Grown whole (length bs) (length now.nodes + length bs) mid b → Grown whole (length b) (length mid.nodes + length b) after rest
      → Grown whole (length bs) (length now.nodes + length bs) after rest
  two_steps now bs mid b after rest g h = within (length b) (length bs) (length mid.nodes + length b) (length now.nodes + length bs) after rest g.less g.count h

  -- first bytes, then a step
  read_then : (now : Progress) (bs b : List ℕ) (after : Progress) (rest : List ℕ) → (t : List ℕ) × (bs ≡ t ++ b) → Grown whole (length b) (length now.nodes + length b) after rest → Grown whole (length bs) (length now.nodes + length bs) after rest
  read_then now bs b after rest (t, e) h = let l = shorter t bs b e in within (length b) (length bs) (length now.nodes + length b) (length now.nodes + length bs) after rest l (omega arith) h

  -- a step, and then another, of what the first one gave
  step_then : {A B : Type 0} (left : ℕ) (now : Progress) (bs : List ℕ) → Here whole left now bs → (r : Reads A) (f : Option Stop → A × Progress × List ℕ → Result (B × Progress × List ℕ) Fault) → Goes start whole bs (Good now bs) r
      → ((x : A × Progress × List ℕ) → Here whole left x.1 x.2 → Goes start whole x.2 (Good x.1 x.2) (λ o. f o x)) → Goes start whole bs (Good now bs) (λ o. r o >>= f o)
  step_then left now bs w r f h g = then_goes bs (Good now bs) (Good now bs) r f h (λ x q. weaker x.2 (Good x.1 x.2) (Good now bs) (λ o. f o x) (λ y p. two_steps now bs x.1 x.2 y.1 y.2 q p) (g x (next left now bs x.1 x.2 w q)))

  -- the same, where what the first one gave is known
  step_known : {A B : Type 0} (left : ℕ) (now : Progress) (bs : List ℕ) → Here whole left now bs → (r : Reads A) (f : Option Stop → A × Progress × List ℕ → Result (B × Progress × List ℕ) Fault) → Goes start whole bs (Good now bs) r
      → ((x : A × Progress × List ℕ) → r None ≡ Ok x → Here whole left x.1 x.2 → Goes start whole x.2 (Good x.1 x.2) (λ o. f o x)) → Goes start whole bs (Good now bs) (λ o. r o >>= f o)
  step_known left now bs w r f h g = known_goes bs (Good now bs) (Good now bs) r f h (λ x q e. weaker x.2 (Good x.1 x.2) (Good now bs) (λ o. f o x) (λ y p. two_steps now bs x.1 x.2 y.1 y.2 q p) (g x e (next left now bs x.1 x.2 w q)))

  -- bytes, and then a step
  bytes_known : {A B : Type 0} (left : ℕ) (now : Progress) (bs : List ℕ) → Here whole left now bs → (r : Result (A × List ℕ) Fault) (f : Option Stop → A × List ℕ → Result (B × Progress × List ℕ) Fault) → Told start whole (Left bs) r
      → ((x : A × List ℕ) → r ≡ Ok x → Here whole left now x.1 → Goes start whole x.1 (Good now x.1) (λ o. f o x)) → Goes start whole bs (Good now bs) (λ o. r >>= f o)
  bytes_known left now bs w r f h g = told_known bs (Good now bs) r f h (λ x q e. weaker x.1 (Good now x.1) (Good now bs) (λ o. f o x) (λ y p. read_then now bs x.1 y.1 y.2 q p) (g x e (on left now bs x.1 w q)))

  bytes_then : {A B : Type 0} (left : ℕ) (now : Progress) (bs : List ℕ) → Here whole left now bs → (r : Result (A × List ℕ) Fault) (f : Option Stop → A × List ℕ → Result (B × Progress × List ℕ) Fault) → Told start whole (Left bs) r
      → ((x : A × List ℕ) → Here whole left now x.1 → Goes start whole x.1 (Good now x.1) (λ o. f o x)) → Goes start whole bs (Good now bs) (λ o. r >>= f o)
  bytes_then left now bs w r f h g = told_goes bs (Good now bs) r f h (λ x q. weaker x.1 (Good now x.1) (Good now bs) (λ o. f o x) (λ y p. read_then now bs x.1 y.1 y.2 q p) (g x (on left now bs x.1 w q)))

  plain_goes : {A : Type 0} (left : ℕ) (read : List ℕ → Plain A) → ((bs : List ℕ) → Rest whole bs → Told start whole (Left bs) (read bs)) → StepGoes left (λ o. plain read)
  plain_goes left read h now bs w = bytes_then left now bs w (read bs) (λ o x. Ok (x.0, now, x.1)) (h bs w.rest) (λ x v. none_goes left now x.1 v)

  mapped_goes : {A B : Type 0} (left : ℕ) (f : A → B) (step : Steps A) → StepGoes left step → StepGoes left (λ o. map_step f (step o))
  mapped_goes left f step h now bs w = step_then left now bs w (λ o. step o now bs) (λ o x. Ok (f x.0, x.1, x.2)) (h now bs w) (λ x v. none_goes left x.1 x.2 v)

  many_goes : {A : Type 0} (left : ℕ) (step : Steps A) → StepGoes left step → (n : ℕ) → StepGoes left (λ o. many_at (step o) n)
  unfolding many_at
  many_goes left step h zero now bs w = none_goes left now bs w
  many_goes left step h (suc n) now bs w = step_then left now bs w (λ o. step o now bs) _ (h now bs w) (λ x v. step_then left x.1 x.2 v (λ o. many_at (step o) n x.1 x.2) _ (many_goes left step h n x.1 x.2 v) (λ xs u. none_goes left xs.1 xs.2 u))

  -- a block of so many bytes, and what comes after it
  block_goes : (left : ℕ) (inner : Steps Slot) (in_note : Bool) (most : ℕ) → StepGoes left (λ o. blocks_at (start + length whole) (inner o) in_note most) → (n : ℕ) (now : Progress) (bs : List ℕ) → Here whole left now bs
      → Goes start whole bs (Good now bs) (λ o. take_at n bs >>= λ p. blocks_at (start + length whole) (inner o) in_note most now p.1 >>= λ is. Ok (items.Bytes p.0 ∷ is.0, is.1, is.2))
  block_goes left inner in_note most more n now bs w =
      bytes_then left now bs w (take_at n bs) (λ o p. blocks_at (start + length whole) (inner o) in_note most now p.1 >>= λ is. Ok (items.Bytes p.0 ∷ is.0, is.1, is.2)) (take_goes n bs)
      (λ p v. step_then left now p.1 v (λ o. blocks_at (start + length whole) (inner o) in_note most now p.1) (λ o is. Ok (items.Bytes p.0 ∷ is.0, is.1, is.2)) (more now p.1 v) (λ is u. none_goes left is.1 is.2 u))

  -- after a first byte
  after_code : {A : Type 0} (left c : ℕ) (now : Progress) (bs : List ℕ) (r : Reads A) → Here whole left now (c ∷ bs) → (Here whole left now bs → Goes start whole bs (Good now bs) r) → Goes start whole bs (Good now (c ∷ bs)) r
  after_code left c now bs r w h = weaker bs (Good now bs) (Good now (c ∷ bs)) r (λ y p. read_then now (c ∷ bs) bs y.1 y.2 (c ∷ [], refl) p) (h (on left now (c ∷ bs) bs w (c ∷ [], refl)))

  -- the same, seen from that byte
  behind_code : {A : Type 0} (left c : ℕ) (now : Progress) (bs : List ℕ) (r : Reads A) → Here whole left now (c ∷ bs) → (Here whole left now bs → Goes start whole bs (Good now bs) r) → Goes start whole (c ∷ bs) (Good now (c ∷ bs)) r
  behind_code left c now bs r w h = longer bs (c ∷ bs) (Good now (c ∷ bs)) r (omega arith) (after_code left c now bs r w h)

  -- what is read of one place, as references are, with a stop where they begin
  record IsReference (left : ℕ) (step : Steps Slot) : Type 0 where
    unread : List ℕ
    reads : (now : Progress) (bs : List ℕ) → step None now bs ≡ slot_at (start + length whole) left places.Reference unread now bs
    stops : (t : Stop) (now : Progress) (c : ℕ) (bs : List ℕ) → (start + length whole) - length (c ∷ bs) ≡ t.position → step (Some t) now (c ∷ bs) ≡ Err (t.fault (record { left = left; place = places.Reference; unread = unread; now = now }))

  abbrev ItemsGo : ℕ → Steps Slot → Type 0
  ItemsGo left step = StepGoes left step × IsReference left step

  -- parts that are counted
  here_add : (left n : ℕ) (now : Progress) (bs : List ℕ) → Here whole left now bs → Here whole left (add_parts n now) bs
  here_add left n now bs w = record { rest = w.rest; few = w.few; count = w.count; level = w.level }

  -- what comes behind a reference
  abbrev ref_then : Steps Slot → Bool → ℕ → ℕ → List ℕ → Option Stop → Slot × Progress × List ℕ → Result (List Item × Progress × List ℕ) Fault
  ref_then inner in_note most c bs o s = counting 1 ((start + length whole) - length (c ∷ bs)) s.1 (λ later. blocks_at (start + length whole) (inner o) in_note most later s.2 >>= λ is. Ok (items.Ref s.0 ∷ is.0, is.1, is.2))

  ref_goes : (left : ℕ) (inner : Steps Slot) → ItemsGo left inner → (in_note : Bool) (most : ℕ) → StepGoes left (λ o. blocks_at (start + length whole) (inner o) in_note most) → (c : ℕ) (now : Progress) (bs : List ℕ) → Here whole left now (c ∷ bs)
      → Goes start whole (c ∷ bs) (Good now (c ∷ bs)) (λ o. inner o now (c ∷ bs) >>= ref_then inner in_note most c bs o)
  ref_goes left inner h in_note most more c now bs w = record { run = λ comes. (known_ref comes).run comes }
    where
      asking : Asking
      asking = record { left = left; place = places.Reference; unread = h.1.unread; now = now }

      past : Comes (start + length whole) whole (c ∷ bs) (λ o. inner o now (c ∷ bs) >>= ref_then inner in_note most c bs o) → (s : Slot × Progress × List ℕ) → inner None now (c ∷ bs) ≡ Ok s → 1048576 < s.1.parts + 1 → Stood start whole (too_many ((start + length whole) - length (c ∷ bs)))
      past comes s read many = stands (IsOneTooMany (start + length whole) (λ a. ComesTo (start + length whole) whole ((start + length whole) - length (c ∷ bs)) a)) (c ∷ bs) w.rest (λ front l. record {
        asking = asking;
        known = λ fault. (let t : Stop = record { position = (start + length whole) - length (c ∷ bs); fault = fault } in comes t (fault asking) (omega arith) (ap (λ u. u >>= ref_then inner in_note most c bs (Some t)) (h.1.stops t now c bs refl)));
        refused = inr (record { place = refl; found = s.0; later = s.1; more = s.2; read = sym (h.1.reads now (c ∷ bs)) ∙ read; past = many });
      })

      known_ref : Comes (start + length whole) whole (c ∷ bs) (λ o. inner o now (c ∷ bs) >>= ref_then inner in_note most c bs o) → Goes start whole (c ∷ bs) (Good now (c ∷ bs)) (λ o. inner o now (c ∷ bs) >>= ref_then inner in_note most c bs o)
      known_ref comes = step_known left now (c ∷ bs) w (λ o. inner o now (c ∷ bs)) (ref_then inner in_note most c bs) (h.0 now (c ∷ bs) w) (λ s read v.
          cond_goes s.2 (Good s.1 s.2) (ltb 1048576 (s.1.parts + 1)) _ _ (λ many. fails s.2 (Good s.1 s.2) (too_many ((start + length whole) - length (c ∷ bs))) (past comes s read (ltb-true 1048576 (s.1.parts + 1) many))) (λ few.
          step_then left (add_parts 1 s.1) s.2 (here_add left 1 s.1 s.2 v) (λ o. blocks_at (start + length whole) (inner o) in_note most (add_parts 1 s.1) s.2) _ (more (add_parts 1 s.1) s.2 (here_add left 1 s.1 s.2 v)) (λ is u. none_goes left is.1 is.2 u)))

  blocks_goes : (left : ℕ) (inner : Steps Slot) → ItemsGo left inner → (in_note : Bool) (most : ℕ) → StepGoes left (λ o. blocks_at (start + length whole) (inner o) in_note most)
  unfolding blocks_at
  blocks_goes left inner h in_note zero now bs w = fails bs (Good now bs) short tt
  blocks_goes left inner h true (suc most) now [] w = fails [] (Good now []) short tt
  blocks_goes left inner h false (suc most) now [] w = none_goes left now [] w
  blocks_goes left inner h in_note (suc most) now (c ∷ bs) w =
      cond_goes (c ∷ bs) (Good now (c ∷ bs)) (in_note && eqb c 0x78) _ _ (λ e. behind_code {A = List Item} left c now bs (λ o. Ok ([], now, bs)) w (λ v. none_goes left now bs v)) (λ e.
      cond_goes (c ∷ bs) (Good now (c ∷ bs)) (eqb c 0x77) _ _ (λ e. behind_code left c now bs _ w (λ v. bytes_then left now bs v (byte_at bs) _ (byte_goes bs) (λ n u. block_goes left inner in_note most (blocks_goes left inner h in_note most) n.0 now n.1 u))) (λ e.
      cond_goes (c ∷ bs) (Good now (c ∷ bs)) (eqb c 0x7A) _ _ (λ e. behind_code left c now bs _ w (λ v. bytes_then left now bs v (size_at (start + length whole) w32 (2 ^ 31) bs) _ (size_goes w32 (2 ^ 31) negative_32 bs v.rest) (λ n u. block_goes left inner in_note most (blocks_goes left inner h in_note most) n.0 now n.1 u)))
      (λ e. ref_goes left inner h in_note most (blocks_goes left inner h in_note most) c now bs w)))

  items_goes : (left : ℕ) (inner : Steps Slot) → ItemsGo left inner → (in_note : Bool) → StepGoes left (λ o. items_at (start + length whole) (inner o) in_note)
  unfolding items_at
  items_goes left inner h in_note now bs w = mapped_goes left joined (λ o. blocks_at (start + length whole) (inner o) in_note (suc (length bs))) (blocks_goes left inner h in_note (suc (length bs))) now bs w

  -- ---- fields, values and elements

  -- the letter of a field's type is one of ten
  no_letter : (c : ℕ) → code_of c ≡ None → IsNoLetter c
  no_letter c e code is = absurd (let known : None ≡ Some code = sym e ∙ (ap code_of is ∙ letter_back code) in cc)

  no_type : (nodes : List Node) (code : TypeCode) (s : Slot) → is_primitive code ≡ false → fits_type nodes code s ≡ false → NamesType nodes code s → ⊥
  no_type nodes code s prim e h =
      let named : (not (is_primitive code) && fits_node code (slice_get nodes h.number)) ≡ false = subst (λ (z : Slot). fits_type nodes code z ≡ false) h.is e in
      let there : (not (is_primitive code) && fits_node code (Some (Text h.text))) ≡ false = subst (λ (o : Option Node). (not (is_primitive code) && fits_node code o) ≡ false) h.node named in
      let unfit : fits_text code h.text ≡ false = subst (λ (b : Bool). (not b && fits_node code (Some (Text h.text))) ≡ false) prim there in
      let fits : fits_text code h.text ≡ true = fits_of code h.text h.names in
      absurd (let both_are : true ≡ false = sym fits ∙ unfit in cc)

  coded_field : (left at : ℕ) (text : Steps Slot) → StepGoes left text → (c : ℕ) (kind : Option TypeCode) → code_of c ≡ kind → (now : Progress) (bs : List ℕ) → Here whole left now bs
      → (HasByte IsNoLetter (c ∷ bs) ⊎ HasNoType (start + length whole) (text None) now (c ∷ bs) → Stood start whole (bad bad_desc at)) → Goes start whole bs (Good now bs) (λ o. field_of (start + length whole) at (text o) kind now bs)
  unfolding field_of
  coded_field left at text h c None e now bs w own = fails bs (Good now bs) (bad bad_desc at) (own (inl (record { byte = c; rest = bs; is = refl; that = no_letter c e })))
  coded_field left at text h c (Some code) e now bs w own =
      bytes_known left now bs w (short_at (start + length whole) bs) _ (short_goes bs w.rest) (λ name named v. cond_goes name.1 (Good now name.1) (is_primitive code) _ _ (λ p. none_goes left now name.1 v) (λ p.
      step_known left now name.1 v (λ o. text o now name.1) _ (h now name.1 v) (λ t read u. cond_goes t.2 (Good t.1 t.2) (fits_type t.1.nodes code t.0) _ _ (λ f. none_goes left t.1 t.2 u)
      (λ f. fails t.2 (Good t.1 t.2) (bad bad_desc at) (own (inr (record { letter = c; rest = bs; is = refl; code = code; typed = e; reference = p; name = name.0; behind = name.1; named = named; found = t.0; later = t.1; more = t.2; read = read; wrong = no_type t.1.nodes code t.0 p f })))))))

  field_goes : (left at : ℕ) (text : Steps Slot) → StepGoes left text → (now : Progress) (bs : List ℕ) → Here whole left now bs → (HasByte IsNoLetter bs ⊎ HasNoType (start + length whole) (text None) now bs → Stood start whole (bad bad_desc at))
      → Goes start whole bs (Good now bs) (λ o. field_at (start + length whole) at (text o) now bs)
  unfolding field_at
  field_goes left at text h now [] w own = fails [] (Good now []) short tt
  field_goes left at text h now (c ∷ bs) w own = behind_code left c now bs _ w (λ v. coded_field left at text h c (code_of c) refl now bs v own)

  -- The fields of a description, of which some were read.
  fields_go : (left at : ℕ) (text : Steps Slot) → StepGoes left text → (first : Progress) (begin : List ℕ) (count n done : ℕ) → done + n ≡ count → (fields : List FieldDesc) (now : Progress) (bs : List ℕ) → Here whole left now bs
      → many_at (field_at (start + length whole) at (text None)) done first begin ≡ Ok (fields, now, bs)
      → ((k : ℕ) (fs : List FieldDesc) (later : Progress) (more : List ℕ) → k < count → many_at (field_at (start + length whole) at (text None)) k first begin ≡ Ok (fs, later, more) → HasByte IsNoLetter more ⊎ HasNoType (start + length whole) (text None) later more → Stood start whole (bad bad_desc at))
      → Goes start whole bs (Good now bs) (λ o. many_at (field_at (start + length whole) at (text o)) n now bs)
  unfolding many_at
  fields_go left at text h first begin count zero done sum fields now bs w e own = none_goes left now bs w
  fields_go left at text h first begin count (suc n) done sum fields now bs w e own =
      step_known left now bs w (λ o. field_at (start + length whole) at (text o) now bs) _ (field_goes left at text h now bs w (λ broken. own done fields now bs (omega arith) e broken)) (λ x is v.
      step_then left x.1 x.2 v (λ o. many_at (field_at (start + length whole) at (text o)) n x.1 x.2) _
      (fields_go left at text h first begin count n (suc done) (omega arith) (fields ++ x.0 ∷ []) x.1 x.2 v (one_further (field_at (start + length whole) at (text None)) done first begin fields now bs x.0 x.1 x.2 e is) own)
      (λ xs u. none_goes left xs.1 xs.2 u))

  byte_step : (left : ℕ) → StepGoes left (λ o. plain byte_at)
  byte_step left = plain_goes left byte_at (λ bs r. byte_goes bs)

  number_step : (left : ℕ) (w : Width) → StepGoes left (λ o. plain (number_at w))
  number_step left w = plain_goes left (number_at w) (λ bs r. number_goes w bs)

  value_goes : (left : ℕ) (inner : Steps Slot) → StepGoes left inner → (code : TypeCode) → StepGoes left (λ o. value_at (inner o) code)
  unfolding value_at
  value_goes left inner h codes.Byte now bs w = mapped_goes left values.Byte (λ o. plain byte_at) (byte_step left) now bs w
  value_goes left inner h codes.Char now bs w = mapped_goes left values.Char (λ o. plain (number_at w16)) (number_step left w16) now bs w
  value_goes left inner h codes.Double now bs w = mapped_goes left values.Double (λ o. plain (number_at w64)) (number_step left w64) now bs w
  value_goes left inner h codes.Float now bs w = mapped_goes left values.Float (λ o. plain (number_at w32)) (number_step left w32) now bs w
  value_goes left inner h codes.Int now bs w = mapped_goes left (λ n. values.Int (cast_signed w32 n)) (λ o. plain (number_at w32)) (number_step left w32) now bs w
  value_goes left inner h codes.Long now bs w = mapped_goes left (λ n. values.Long (cast_signed w64 n)) (λ o. plain (number_at w64)) (number_step left w64) now bs w
  value_goes left inner h codes.Short now bs w = mapped_goes left (λ n. values.Short (cast_signed w16 n)) (λ o. plain (number_at w16)) (number_step left w16) now bs w
  value_goes left inner h codes.Boolean now bs w = mapped_goes left (λ b. values.Boolean (is_true b)) (λ o. plain byte_at) (byte_step left) now bs w
  value_goes left inner h codes.Array now bs w = mapped_goes left values.Ref inner h now bs w
  value_goes left inner h codes.Object now bs w = mapped_goes left values.Ref inner h now bs w

  values_goes : (left : ℕ) (inner : Steps Slot) → StepGoes left inner → (fs : List FieldDesc) → StepGoes left (λ o. values_at (inner o) fs)
  unfolding values_at
  values_goes left inner h [] now bs w = none_goes left now bs w
  values_goes left inner h (f ∷ fs) now bs w = step_then left now bs w (λ o. value_at (inner o) f.code now bs) _ (value_goes left inner h f.code now bs w) (λ x v. step_then left x.1 x.2 v (λ o. values_at (inner o) fs x.1 x.2) _ (values_goes left inner h fs x.1 x.2 v) (λ xs u. none_goes left xs.1 xs.2 u))

  elements_goes : (left : ℕ) (inner : Steps Slot) → StepGoes left inner → (code : TypeCode) (n : ℕ) → StepGoes left (λ o. elements_at (inner o) code n)
  unfolding elements_at
  elements_goes left inner h codes.Byte n now bs w = mapped_goes left kinds.Bytes (λ o. many_at (plain byte_at) n) (many_goes left (λ o. plain byte_at) (byte_step left) n) now bs w
  elements_goes left inner h codes.Char n now bs w = mapped_goes left kinds.Chars (λ o. many_at (plain (number_at w16)) n) (many_goes left (λ o. plain (number_at w16)) (number_step left w16) n) now bs w
  elements_goes left inner h codes.Double n now bs w = mapped_goes left kinds.Doubles (λ o. many_at (plain (number_at w64)) n) (many_goes left (λ o. plain (number_at w64)) (number_step left w64) n) now bs w
  elements_goes left inner h codes.Float n now bs w = mapped_goes left kinds.Floats (λ o. many_at (plain (number_at w32)) n) (many_goes left (λ o. plain (number_at w32)) (number_step left w32) n) now bs w
  elements_goes left inner h codes.Int n now bs w = mapped_goes left kinds.Ints (λ o. many_at (map_step (λ k. cast_signed w32 k) (plain (number_at w32))) n) (many_goes left (λ o. map_step (λ k. cast_signed w32 k) (plain (number_at w32))) (mapped_goes left (λ k. cast_signed w32 k) (λ o. plain (number_at w32)) (number_step left w32)) n) now bs w
  elements_goes left inner h codes.Long n now bs w = mapped_goes left kinds.Longs (λ o. many_at (map_step (λ k. cast_signed w64 k) (plain (number_at w64))) n) (many_goes left (λ o. map_step (λ k. cast_signed w64 k) (plain (number_at w64))) (mapped_goes left (λ k. cast_signed w64 k) (λ o. plain (number_at w64)) (number_step left w64)) n) now bs w
  elements_goes left inner h codes.Short n now bs w = mapped_goes left kinds.Shorts (λ o. many_at (map_step (λ k. cast_signed w16 k) (plain (number_at w16))) n) (many_goes left (λ o. map_step (λ k. cast_signed w16 k) (plain (number_at w16))) (mapped_goes left (λ k. cast_signed w16 k) (λ o. plain (number_at w16)) (number_step left w16)) n) now bs w
  elements_goes left inner h codes.Boolean n now bs w = mapped_goes left kinds.Bools (λ o. many_at (map_step is_true (plain byte_at)) n) (many_goes left (λ o. map_step is_true (plain byte_at)) (mapped_goes left is_true (λ o. plain byte_at) (byte_step left)) n) now bs w
  elements_goes left inner h codes.Array n now bs w = mapped_goes left kinds.Refs (λ o. many_at (inner o) n) (many_goes left inner h n) now bs w
  elements_goes left inner h codes.Object n now bs w = mapped_goes left kinds.Refs (λ o. many_at (inner o) n) (many_goes left inner h n) now bs w

  note_goes : (left : ℕ) (inner : Steps Slot) → ItemsGo left inner → (b : Bool) → StepGoes left (λ o. note_at (start + length whole) (inner o) b)
  unfolding note_at
  note_goes left inner h true now bs w = items_goes left inner h true now bs w
  note_goes left inner h false now bs w = none_goes left now bs w

  parts_goes : (left : ℕ) (inner : Steps Slot) → ItemsGo left inner → (rs : List Row) → StepGoes left (λ o. parts_at (start + length whole) (inner o) rs)
  unfolding parts_at
  parts_goes left inner h [] now bs w = none_goes left now bs w
  parts_goes left inner h (x ∷ rs) now bs w =
      step_then left now bs w (λ o. values_at (inner o) x.0 now bs) _ (values_goes left inner h.0 x.0 now bs w) (λ vs v. step_then left vs.1 vs.2 v (λ o. note_at (start + length whole) (inner o) x.1 vs.1 vs.2) _ (note_goes left inner h x.1 vs.1 vs.2 v) (λ is u.
      step_then left is.1 is.2 u (λ o. parts_at (start + length whole) (inner o) rs is.1 is.2) _ (parts_goes left inner h rs is.1 is.2 u) (λ ps t. none_goes left ps.1 ps.2 t)))

  -- ---- references

  abbrev IsNode : Slot → Type 0
  IsNode slots.Null = ⊥
  IsNode (slots.Node k) = Unit {0}

  -- a class is no null
  abbrev Taken : SlotPlace → Slot → Type 0
  Taken places.Class s = IsNode s
  Taken places.Reference s = Unit {0}
  Taken places.Parent s = Unit {0}
  Taken places.Text s = Unit {0}

  abbrev SlotGood : SlotPlace → Progress → List ℕ → Slot × Progress × List ℕ → Type 0
  SlotGood p now bs x = Good now bs x × Taken p x.0

  -- a node that got its handle, with its code's byte
  abbrev NodeGood : Progress → List ℕ → Slot × Progress × List ℕ → Type 0
  NodeGood now bs x = Grown whole (length bs) (suc (length now.nodes + length bs)) x.1 x.2 × IsNode x.0

  -- so are those of every place
  record AreReferences (left : ℕ) (inner : Option Stop → Slots) : Type 0 where
    reads : inner None ≡ slot_at (start + length whole) left
    stops : (t : Stop) (p : SlotPlace) (unread : List ℕ) (now : Progress) (c : ℕ) (bs : List ℕ) → (start + length whole) - length (c ∷ bs) ≡ t.position → inner (Some t) p unread now (c ∷ bs) ≡ Err (t.fault (record { left = left; place = p; unread = unread; now = now }))

  abbrev EachGoes : ℕ → (Option Stop → Slots) → Type 0
  EachGoes left inner = (p : SlotPlace) (unread : List ℕ) (now : Progress) (bs : List ℕ) → Here whole left now bs → Goes start whole bs (SlotGood p now bs) (λ o. inner o p unread now bs)

  abbrev SlotsGo : ℕ → (Option Stop → Slots) → Type 0
  SlotsGo left inner = EachGoes left inner × AreReferences left inner

  step_of : (left : ℕ) (inner : Option Stop → Slots) → SlotsGo left inner → (p : SlotPlace) (unread : List ℕ) → StepGoes left (λ o. inner o p unread)
  step_of left inner h p unread now bs w = weaker bs (SlotGood p now bs) (Good now bs) (λ o. inner o p unread now bs) (λ x q. q.0) (h.0 p unread now bs w)

  items_of : (left : ℕ) (inner : Option Stop → Slots) → SlotsGo left inner → (unread : List ℕ) → ItemsGo left (λ o. inner o places.Reference unread)
  items_of left inner h unread = (step_of left inner h places.Reference unread, record { unread = unread; reads = λ now bs. ap (λ (s : Slots). s places.Reference unread now bs) h.1.reads; stops = λ t now c bs e. h.1.stops t places.Reference unread now c bs e })

  -- the node stands there
  push_here : (left : ℕ) (now : Progress) (bs : List ℕ) (mid : Progress) → Opened whole left now bs → length mid.nodes ≡ suc (length now.nodes) → Here whole left mid bs
  push_here left now bs mid o l = let r = o.room in let s = o.space in record { rest = o.here.rest; few = omega arith; count = omega arith; level = o.here.level }

  open_on : (left : ℕ) (now : Progress) (bs rest : List ℕ) → Opened whole left now bs → (t : List ℕ) × (bs ≡ t ++ rest) → Opened whole left now rest
  open_on left now bs rest o q = let l = shorter q.0 bs rest q.1 in let s = o.space in record { here = on left now bs rest o.here q; room = o.room; space = omega arith }

  -- what was read inside, and the node over it
  fill_grown : (now : Progress) (bs : List ℕ) (mid after : Progress) (rest : List ℕ) (k : ℕ) (i : Node) → length mid.nodes ≡ suc (length now.nodes) → Grown whole (length bs) (length mid.nodes + length bs) after rest → Grown whole (length bs) (suc (length now.nodes + length bs)) (fill after k i) rest
  fill_grown now bs mid after rest k i l g = let e = length-set after.nodes k i in let f = g.few in let c = g.count in record { is = g.is; few = omega arith; less = g.less; count = omega arith }

  -- first bytes, then a node
  read_node : {A : Type 0} (left : ℕ) (now : Progress) (bs : List ℕ) → Opened whole left now bs → (r : Result (A × List ℕ) Fault) (f : Option Stop → A × List ℕ → Result (Slot × Progress × List ℕ) Fault) → Told start whole (Left bs) r
      → ((x : A × List ℕ) → Opened whole left now x.1 → Goes start whole x.1 (NodeGood now x.1) (λ o. f o x)) → Goes start whole bs (NodeGood now bs) (λ o. r >>= f o)
  read_node left now bs o r f h g = told_goes bs (NodeGood now bs) r f h (λ x q. (
      let l = shorter q.0 bs x.1 q.1 in
      weaker x.1 (NodeGood now x.1) (NodeGood now bs) (λ o. f o x) (λ y p. (within (length x.1) (length bs) (suc (length now.nodes + length x.1)) (suc (length now.nodes + length bs)) y.1 y.2 l (omega arith) p.0, p.1)) (g x (open_on left now bs x.1 o q))))

  -- the same, where what was read is known
  read_known : {A : Type 0} (left : ℕ) (now : Progress) (bs : List ℕ) → Opened whole left now bs → (r : Result (A × List ℕ) Fault) (f : Option Stop → A × List ℕ → Result (Slot × Progress × List ℕ) Fault) → Told start whole (Left bs) r
      → ((x : A × List ℕ) → r ≡ Ok x → Opened whole left now x.1 → Goes start whole x.1 (NodeGood now x.1) (λ o. f o x)) → Goes start whole bs (NodeGood now bs) (λ o. r >>= f o)
  read_known left now bs o r f h g = told_known bs (NodeGood now bs) r f h (λ x q e. (
      let l = shorter q.0 bs x.1 q.1 in
      weaker x.1 (NodeGood now x.1) (NodeGood now bs) (λ o. f o x) (λ y p. (within (length x.1) (length bs) (suc (length now.nodes + length x.1)) (suc (length now.nodes + length bs)) y.1 y.2 l (omega arith) p.0, p.1)) (g x e (open_on left now bs x.1 o q))))

  -- the contents of a node that stands there
  filled_then : {A : Type 0} (left : ℕ) (now : Progress) (bs : List ℕ) (mid : Progress) → Opened whole left now bs → length mid.nodes ≡ suc (length now.nodes) → (r : Reads A) (f : Option Stop → A × Progress × List ℕ → Result (Slot × Progress × List ℕ) Fault)
      → (Here whole left mid bs → Goes start whole bs (Good mid bs) r) → ((x : A × Progress × List ℕ) → Good mid bs x → Goes start whole x.2 (NodeGood now bs) (λ o. f o x)) → Goes start whole bs (NodeGood now bs) (λ o. r o >>= f o)
  filled_then left now bs mid o l r f h g = then_goes bs (Good mid bs) (NodeGood now bs) r f (h (push_here left now bs mid o l)) g

  -- a node that was read
  node_done : (now : Progress) (bs : List ℕ) (k : ℕ) (after : Progress) (rest : List ℕ) → Grown whole (length bs) (suc (length now.nodes + length bs)) after rest → Goes start whole rest (NodeGood now bs) (λ o. Ok (slots.Node k, after, rest))
  node_done now bs k after rest g = done rest (NodeGood now bs) (slots.Node k, after, rest) (g, tt) (omega arith)

  text_goes : (left : ℕ) (read : List ℕ → Plain (List ℕ)) → ((bs : List ℕ) → Rest whole bs → Told start whole (Left bs) (read bs)) → (now : Progress) (bs : List ℕ) → Opened whole left now bs → Goes start whole bs (NodeGood now bs) (λ o. text_at read now bs)
  unfolding text_at
  text_goes left read h now bs o = read_node left now bs o (read bs) _ (h bs o.here.rest) (λ t u. (
      let l = length_push now.nodes (Text t.0) in
      let r = u.room in
      node_done now t.1 (length now.nodes) (push now (Text t.0)) t.1 (record { is = u.here.rest; few = omega arith; less = omega arith; count = omega arith })))

  -- what refuses a description: a rule that is broken behind some fields
  abbrev Owns : ℕ → Step Slot → Progress → List ℕ → DescHead → Type 0
  Owns at text first begin head = (done : ℕ) (fields : List FieldDesc) (later : Progress) (more : List ℕ) → many_at (field_at (start + length whole) at text) done first begin ≡ Ok (fields, later, more) → IsBroken (start + length whole) text head done fields later more → Stood start whole (bad bad_desc at)

  desc_after_goes : (left at : ℕ) (inner : Option Stop → Slots) → SlotsGo left inner → (unread name : List ℕ) (suid flags : ℕ) (now : Progress) (bs : List ℕ) → Here whole left now bs
      → ((n : ℕ × List ℕ) → size_at (start + length whole) w16 32768 bs ≡ Ok n → Owns at (inner None places.Text unread) (add_parts n.0 now) n.1 (record { name = name; suid = suid; flags = flags; count = n.0; rest = n.1 }))
      → ((n : ℕ × List ℕ) → size_at (start + length whole) w16 32768 bs ≡ Ok n → 1048576 < now.parts + n.0 → Stood start whole (too_many at))
      → Goes start whole bs (Good now bs) (λ o. desc_after (start + length whole) at (inner o) unread name suid flags now bs)
  unfolding desc_after
  desc_after_goes left at inner h unread name suid flags now bs w own past =
      bytes_known left now bs w (size_at (start + length whole) w16 32768 bs) _ (size_goes w16 32768 negative_16 bs w.rest) (λ n counted v.
      cond_goes n.1 (Good now n.1) (ltb 1048576 (now.parts + n.0)) _ _ (λ many. fails n.1 (Good now n.1) (too_many at) (past n counted (ltb-true 1048576 (now.parts + n.0) many))) (λ room.
      step_known left (add_parts n.0 now) n.1 (here_add left n.0 now n.1 v) (λ o. many_at (field_at (start + length whole) at (inner o places.Text unread)) n.0 (add_parts n.0 now) n.1) _
      (fields_go left at (λ o. inner o places.Text unread) (step_of left inner h places.Text unread) (add_parts n.0 now) n.1 n.0 n.0 0 (omega arith) [] (add_parts n.0 now) n.1 (here_add left n.0 now n.1 v) (none_read (field_at (start + length whole) at (inner None places.Text unread)) (add_parts n.0 now) n.1) (λ k fs later more lt read broken. own n counted k fs later more read (inr (lt, broken)))) (λ fs read u.
      cond_goes fs.2 (Good fs.1 fs.2) (is_good_desc (record { name = name; suid = cast_signed w64 suid; flags = flags; fields = fs.0; note = []; parent = slots.Null })) _ _ (λ e.
      step_then left fs.1 fs.2 u (λ o. items_at (start + length whole) (inner o places.Reference unread) true fs.1 fs.2) _ (items_goes left (λ o. inner o places.Reference unread) (items_of left inner h unread) true fs.1 fs.2 u) (λ is t.
      step_then left is.1 is.2 t (λ o. inner o places.Parent unread is.1 is.2) _ (step_of left inner h places.Parent unread is.1 is.2 t) (λ s z. none_goes left s.1 s.2 z)))
      (λ e. fails fs.2 (Good fs.1 fs.2) (bad bad_desc at) (own n counted n.0 fs.0 fs.1 fs.2 read (inl (refl, first_fault (record { name = name; suid = cast_signed w64 suid; flags = flags; fields = fs.0; note = []; parent = slots.Null }) e)))))))

  desc_goes : (left at : ℕ) (inner : Option Stop → Slots) → SlotsGo left inner → (unread : List ℕ) (now : Progress) (bs : List ℕ) → Opened whole left now bs
      → ((head : DescHead) → desc_head_at (start + length whole) bs ≡ Ok head → Owns at (inner None places.Text (unread ++ length now.nodes ∷ [])) (add_parts head.count (push now (Desc blank))) head.rest head)
      → ((head : DescHead) → desc_head_at (start + length whole) bs ≡ Ok head → 1048576 < now.parts + head.count → Stood start whole (too_many at))
      → Goes start whole bs (NodeGood now bs) (λ o. desc_at (start + length whole) at (inner o) unread now bs)
  unfolding desc_at
  desc_goes left at inner h unread now bs o own past =
      read_known left now bs o (short_at (start + length whole) bs) _ (short_goes bs o.here.rest) (λ name named o.
      read_known left now name.1 o (number_at w64 name.1) _ (number_goes w64 name.1) (λ suid numbered o.
      read_known left now suid.1 o (byte_at suid.1) _ (byte_goes suid.1) (λ flags flagged o.
      filled_then left now flags.1 (push now (Desc blank)) o (length_push now.nodes (Desc blank)) (λ o. desc_after (start + length whole) at (inner o) (unread ++ length now.nodes ∷ []) name.0 suid.0 flags.0 (push now (Desc blank)) flags.1) _
      (λ w. desc_after_goes left at inner h (unread ++ length now.nodes ∷ []) name.0 suid.0 flags.0 (push now (Desc blank)) flags.1 w
      (λ n counted. own (record { name = name.0; suid = suid.0; flags = flags.0; count = n.0; rest = n.1 }) (head_read (start + length whole) bs name suid flags n named numbered flagged counted))
      (λ n counted many. past (record { name = name.0; suid = suid.0; flags = flags.0; count = n.0; rest = n.1 }) (head_read (start + length whole) bs name suid flags n named numbered flagged counted) many))
      (λ d k. node_done now flags.1 (length now.nodes) (fill d.1 (length now.nodes) (Desc d.0)) d.2 (fill_grown now flags.1 (push now (Desc blank)) d.1 d.2 (length now.nodes) (Desc d.0) (length_push now.nodes (Desc blank)) k)))))

  -- a count that was read
  sized : (w : Width) (bound : ℕ) (bs : List ℕ) (x : ℕ × List ℕ) → size_at (start + length whole) w bound bs ≡ Ok x → HasNumber w bs x.0
  unfolding size_at
  sized w bound bs x e =
      let a = bind_ok (number_at w bs) (λ n. cond (ltb n.0 bound) (Ok n) (Err (bad negative_length ((start + length whole) - length bs)))) x e in
      let p = passed (ltb a.0.0 bound) (Ok a.0) (bad negative_length ((start + length whole) - length bs)) x a.2 in
      let q : Numbered w bs a.0 = subst (λ r. Told start whole (Numbered w bs) r) a.1 (number_told w bs) in
      has_number w bs x (subst (λ (z : ℕ × List ℕ). Numbered w bs z) (found_same a.0 x p.1) q)

  proxy_goes : (left at : ℕ) (inner : Option Stop → Slots) → SlotsGo left inner → (unread : List ℕ) (now : Progress) (bs : List ℕ) → Opened whole left now bs → ((n : ℕ) → HasNumber w32 bs n → 1048576 < now.parts + n → Stood start whole (too_many at))
      → Goes start whole bs (NodeGood now bs) (λ o. proxy_at (start + length whole) at (inner o) unread now bs)
  unfolding proxy_at
  proxy_goes left at inner h unread now bs o past =
      let inside = unread ++ length now.nodes ∷ [] in
      let l = length_push now.nodes (Desc blank) in
      read_known left now bs o (size_at (start + length whole) w32 (2 ^ 31) bs) _ (size_goes w32 (2 ^ 31) negative_32 bs o.here.rest) (λ n counted o. (
      let mid = add_parts n.0 (push now (Desc blank)) in
      let w = push_here left now n.1 mid o l in
      cond_goes n.1 (NodeGood now n.1) (ltb 1048576 (now.parts + n.0)) _ _ (λ many. fails n.1 (NodeGood now n.1) (too_many at) (past n.0 (sized w32 (2 ^ 31) bs n counted) (ltb-true 1048576 (now.parts + n.0) many))) (λ room.
      filled_then left now n.1 mid o l (λ o. many_at (plain (short_at (start + length whole))) n.0 mid n.1) _ (λ w. many_goes left (λ o. plain (short_at (start + length whole))) (plain_goes left (short_at (start + length whole)) short_goes) n.0 mid n.1 w) (λ names p. (
      let w2 = next left mid n.1 names.1 names.2 w p in
      then_goes names.2 (Good names.1 names.2) (NodeGood now n.1) (λ o. items_at (start + length whole) (inner o places.Reference inside) true names.1 names.2) _ (items_goes left (λ o. inner o places.Reference inside) (items_of left inner h inside) true names.1 names.2 w2) (λ is q. (
      let w3 = next left names.1 names.2 is.1 is.2 w2 q in
      then_goes is.2 (Good is.1 is.2) (NodeGood now n.1) (λ o. inner o places.Parent inside is.1 is.2) _ (step_of left inner h places.Parent inside is.1 is.2 w3)
      (λ s k. node_done now n.1 (length now.nodes) (fill s.1 (length now.nodes) (Proxy (record { names = names.0; note = is.0; parent = s.0 }))) s.2 (fill_grown now n.1 mid s.1 s.2 (length now.nodes) (Proxy (record { names = names.0; note = is.0; parent = s.0 })) l (two_steps mid n.1 names.1 names.2 s.1 s.2 p (two_steps names.1 names.2 is.1 is.2 s.1 s.2 q k)))))))))))

  -- ---- a class first

  class_first : (left : ℕ) (inner : Option Stop → Slots) → SlotsGo left inner → (unread : List ℕ) (at : ℕ) (f : Option Stop → ℕ → Step Slot) (now : Progress) (bs : List ℕ) → Opened whole left now bs
      → ((k : ℕ) (after : Progress) (rest : List ℕ) → inner None places.Class unread now bs ≡ Ok (slots.Node k, after, rest) → 65536 ≤ length whole → 65536 ≤ length after.nodes → Stood start whole (too_many at))
      → ((k : ℕ) (after : Progress) (rest : List ℕ) → inner None places.Class unread now bs ≡ Ok (slots.Node k, after, rest) → Opened whole left after rest → Goes start whole rest (NodeGood after rest) (λ o. f o k after rest)) → Goes start whole bs (NodeGood now bs) (λ o. with_class (inner o) unread at (f o) now bs)
  unfolding with_class
  class_first left inner h unread at f now bs o many each = known_goes bs (SlotGood places.Class now bs) (NodeGood now bs) (λ o. inner o places.Class unread now bs) (λ o. on_class at (f o)) (h.0 places.Class unread now bs o.here) by
    where
      by : (x : Slot × Progress × List ℕ) → SlotGood places.Class now bs x → inner None places.Class unread now bs ≡ Ok x → Goes start whole x.2 (NodeGood now bs) (λ o. on_class at (f o) x)
      by (slots.Null, after, rest) q is = absurd q.1
      by (slots.Node k, after, rest) q is =
          let w = next left now bs after rest o.here q.0 in
          let s = o.space in
          let c = q.0.count in
          let l = q.0.less in
          let d = w.count in
          cond_goes rest (NodeGood now bs) (ltb (length after.nodes) 65536) (λ o. f o k after rest) (λ o. Err (too_many at))
          (λ e. weaker rest (NodeGood after rest) (NodeGood now bs) (λ o. f o k after rest) (λ y p. (within (length rest) (length bs) (suc (length after.nodes + length rest)) (suc (length now.nodes + length bs)) y.1 y.2 l (omega arith) p.0, p.1))
          (each k after rest is (record { here = w; room = ltb-true (length after.nodes) 65536 e; space = omega arith })))
          (λ e. fails rest (NodeGood now bs) (too_many at) (let full : 65536 ≤ length after.nodes = ltb-false (length after.nodes) 65536 e in many k after rest is (omega arith) full))

  -- what a kind is
  kind_is : (k l : FaultKind) (at : ℕ) → Some k ≡ Some l → Stood start whole (bad k at) → Stood start whole (bad l at)
  kind_is k l at e h = subst (λ (x : FaultKind). Stood start whole (bad x at)) (some_same k l e) h

  class_kinds : (i : Option Node) (serial : Bool) (at : ℕ) → (class_fault i serial ≡ Some old_external → Stood start whole (bad old_external at)) → (class_fault i serial ≡ Some bad_desc → Stood start whole (bad bad_desc at)) → (k : FaultKind) → class_fault i serial ≡ Some k → Stood start whole (bad k at)
  class_kinds (Some (Desc d)) serial at old own k e = elim (chosen (has_flag d.flags 4 && not (has_flag d.flags 8)) _ _ _ e) [
    | inl p ↦ kind_is old_external k at p.1 (old (e ∙ sym p.1))
    | inr p ↦ elim (chosen (lacks_flag d.flags 16 && (not (is_some (element_of d.name)) && (has_flag d.flags 4 || serial))) _ _ _ p.1) [
      | inl q ↦ absurd (let none : None ≡ Some k = q.1 in cc)
      | inr q ↦ kind_is bad_desc k at q.1 (own (e ∙ sym q.1))
    ]
  ]
  class_kinds (Some (Proxy p)) true at old own k e = absurd cc
  class_kinds (Some (Proxy p)) false at old own k e = kind_is bad_desc k at e (own refl)
  class_kinds _ serial at old own k e = kind_is bad_desc k at e (own refl)

  object_goes : (left at : ℕ) (inner : Steps Slot) → ItemsGo left inner → (class : ℕ) (now : Progress) (bs : List ℕ) → Opened whole left now bs → (HasTooMany class now → Stood start whole (too_many at)) → (LacksObjects old_external class now.nodes → Stood start whole (bad old_external at)) → (LacksObjects bad_desc class now.nodes → Stood start whole (bad bad_desc at))
      → Goes start whole bs (NodeGood now bs) (λ o. object_at (start + length whole) at (inner o) class now bs)
  unfolding object_at object_after
  object_goes left at inner h class now bs o many old own =
      let chain = chain_of 1048576 now.nodes (slots.Node class) in
      let rows = rows_of (slice_get now.nodes class) chain.0 in
      let mid : Progress = record { nodes = now.nodes ++ Object class [] ∷ []; parts = now.parts + sizes_of rows } in
      let l : length mid.nodes ≡ suc (length now.nodes) = length_push now.nodes (Object class []) in
      cond_goes bs (NodeGood now bs) (ltb 1048576 (now.parts + sizes_of rows)) _ _ (λ e. fails bs (NodeGood now bs) (too_many at) (many (ltb-true 1048576 (now.parts + sizes_of rows) e))) (λ e.
      unless_goes bs (NodeGood now bs) (class_fault (slice_get now.nodes class) chain.1) at _ (class_kinds (slice_get now.nodes class) chain.1 at old own)
      (filled_then left now bs mid o l (λ o. parts_at (start + length whole) (inner o) rows mid bs) _ (λ w. parts_goes left inner h rows mid bs w) (λ ps q. node_done now bs (length now.nodes) (fill ps.1 (length now.nodes) (Object class ps.0)) ps.2 (fill_grown now bs mid ps.1 ps.2 (length now.nodes) (Object class ps.0) l q))))

  array_goes : (left at : ℕ) (inner : Steps Slot) → StepGoes left inner → (class : ℕ) (kind : Option TypeCode) (now : Progress) (bs : List ℕ) → Opened whole left now bs → (kind ≡ None → Stood start whole (bad bad_desc at))
      → ((code : TypeCode) (n : ℕ) → kind ≡ Some code → HasNumber w32 bs n → 1048576 < now.parts + refs_among code n → Stood start whole (too_many at)) → Goes start whole bs (NodeGood now bs) (λ o. array_of (start + length whole) at (inner o) class kind now bs)
  unfolding array_of
  array_goes left at inner h class None now bs o own past = fails bs (NodeGood now bs) (bad bad_desc at) (own refl)
  array_goes left at inner h class (Some code) now bs o own past =
      let l = length_push now.nodes (Array class (kinds.Bytes [])) in
      read_known left now bs o (size_at (start + length whole) w32 (2 ^ 31) bs) _ (size_goes w32 (2 ^ 31) negative_32 bs o.here.rest) (λ n counted o. (
      let mid = add_parts (refs_among code n.0) (push now (Array class (kinds.Bytes []))) in
      cond_goes n.1 (NodeGood now n.1) (ltb 1048576 (now.parts + refs_among code n.0)) _ _ (λ many. fails n.1 (NodeGood now n.1) (too_many at) (past code n.0 refl (sized w32 (2 ^ 31) bs n counted) (ltb-true 1048576 (now.parts + refs_among code n.0) many))) (λ room.
      filled_then left now n.1 mid o l (λ o. elements_at (inner o) code n.0 mid n.1) _ (λ w. elements_goes left inner h code n.0 mid n.1 w) (λ vs p. node_done now n.1 (length now.nodes) (fill vs.1 (length now.nodes) (Array class vs.0)) vs.2 (fill_grown now n.1 mid vs.1 vs.2 (length now.nodes) (Array class vs.0) l p)))))

  typed_array : (left at : ℕ) (inner : Steps Slot) → StepGoes left inner → (class : ℕ) (now : Progress) (bs : List ℕ) → Opened whole left now bs → (LacksArrays class now.nodes → Stood start whole (bad bad_desc at)) → ((code : TypeCode) (n : ℕ) → type_in (slice_get now.nodes class) ≡ Some code → HasNumber w32 bs n → 1048576 < now.parts + refs_among code n → Stood start whole (too_many at))
      → Goes start whole bs (NodeGood now bs) (λ o. array_at (start + length whole) at (inner o) class now bs)
  unfolding array_at
  typed_array left at inner h class now bs o own past = array_goes left at inner h class (type_in (slice_get now.nodes class)) now bs o own past

  class_goes : (left class : ℕ) (now : Progress) (bs : List ℕ) → Opened whole left now bs → Goes start whole bs (NodeGood now bs) (λ o. class_at class now bs)
  unfolding class_at
  class_goes left class now bs o =
      let l = length_push now.nodes (Class class) in
      let r = o.room in
      node_done now bs (length now.nodes) (push now (Class class)) bs (record { is = o.here.rest; few = omega arith; less = omega arith; count = omega arith })

  enum_goes : (left at : ℕ) (text : Steps Slot) → StepGoes left text → (class : ℕ) (now : Progress) (bs : List ℕ) → Opened whole left now bs → (LacksConstants class now.nodes → Stood start whole (bad bad_desc at)) → Goes start whole bs (NodeGood now bs) (λ o. enum_at at (text o) class now bs)
  unfolding enum_at
  enum_goes left at text h class now bs o own =
      let mid = push now (Enum class 0) in
      let l = length_push now.nodes (Enum class 0) in
      cond_goes bs (NodeGood now bs) (is_enum (slice_get now.nodes class)) _ _ (λ e. filled_then left now bs mid o l (λ o. text o mid bs) (λ o. named class (length now.nodes)) (λ w. h mid bs w) by) (λ e. fails bs (NodeGood now bs) (bad bad_desc at) (own e))
    where
      by : (x : Slot × Progress × List ℕ) → Good (push now (Enum class 0)) bs x → Goes start whole x.2 (NodeGood now bs) (λ o. named class (length now.nodes) x)
      by (slots.Null, after, rest) q = fails rest (NodeGood now bs) short tt
      by (slots.Node t, after, rest) q = node_done now bs (length now.nodes) (fill after (length now.nodes) (Enum class t)) rest (fill_grown now bs (push now (Enum class 0)) after rest (length now.nodes) (Enum class t) (length_push now.nodes (Enum class 0)) q)

  -- ---- codes

  -- what is known of a reference
  abbrev Known : ℕ → Asking → Type 0
  Known at asking = ComesTo (start + length whole) whole at asking

  -- a reference that begins with this code is refused
  coded_as : (asking : Asking) (holds : Asking → ℕ → Type 0) (code : ℕ) (bs : List ℕ) → Rest whole (code ∷ bs) → Known ((start + length whole) - length (code ∷ bs)) asking → holds asking code
      → StandsAt start whole ((start + length whole) - length (code ∷ bs)) (λ front here. IsRefused (λ a. Known ((start + length whole) - length (code ∷ bs)) a) (λ a. HasByte (λ c. holds a c) here))
  coded_as asking holds code bs r known h = stands (λ front here. IsRefused (λ a. Known ((start + length whole) - length (code ∷ bs)) a) (λ a. HasByte (λ c. holds a c) here)) (code ∷ bs) r (λ front l. record { asking = asking; known = known; refused = record { byte = code; rest = bs; is = refl; that = h } })

  desc_as : (asking : Asking) (code : ℕ) (bs : List ℕ) → Rest whole (code ∷ bs) → Known ((start + length whole) - length (code ∷ bs)) asking → IsBadDesc (start + length whole) asking (code ∷ bs) → Stood start whole (bad bad_desc ((start + length whole) - length (code ∷ bs)))
  desc_as asking code bs r known h = stands (Shows (start + length whole) (λ a. Known ((start + length whole) - length (code ∷ bs)) a) bad_desc) (code ∷ bs) r (λ front l. record { asking = asking; known = known; refused = h })

  -- a node too many, or a part
  many_as : (asking : Asking) (code : ℕ) (bs : List ℕ) → Rest whole (code ∷ bs) → Known ((start + length whole) - length (code ∷ bs)) asking → IsConstruct asking.place code → ((front : List ℕ) → length whole ≡ length front + suc (length bs) → IsPastNodes (start + length whole) asking front (code ∷ bs) ⊎ IsPastParts (start + length whole) asking (code ∷ bs))
      → Stood start whole (too_many ((start + length whole) - length (code ∷ bs)))
  many_as asking code bs r known gives h = stands (IsOneTooMany (start + length whole) (λ a. Known ((start + length whole) - length (code ∷ bs)) a)) (code ∷ bs) r (λ front l. record { asking = asking; known = known; refused = inl (record { byte = code; rest = bs; is = refl; that = gives }, h front l) })

  fresh_goes : (place : SlotPlace) (left : ℕ) (inner : Option Stop → Slots) → SlotsGo left inner → (unread : List ℕ) (code : ℕ) (now : Progress) (bs : List ℕ) → IsConstruct place code → Opened whole left now bs → Rest whole (code ∷ bs)
      → Known ((start + length whole) - length (code ∷ bs)) (record { left = suc left; place = place; unread = unread; now = now })
      → Goes start whole bs (NodeGood now bs) (λ o. fresh_at (start + length whole) ((start + length whole) - length (code ∷ bs)) (inner o) unread code now bs)
  unfolding fresh_at
  fresh_goes place left inner h unread code now bs gives o r known =
      let reads = h.1.reads in
      let end = start + length whole in
      let at = end - length (code ∷ bs) in
      let asking : Asking = record { left = suc left; place = place; unread = unread; now = now } in
      let step = step_of left inner h places.Reference unread in
      let item = items_of left inner h unread in
      cond_goes bs (NodeGood now bs) (eqb code 0x72) _ _ (λ e. desc_goes left at inner h unread now bs o (λ head begins done fields later more read broken. desc_as asking code bs r known (inl (breaks_as e head begins done fields later more read broken)))
      (λ head begins past. many_as asking code bs r known gives (λ front l. inr (inr (inr (inr (record { rest = bs; is = ap (λ k. k ∷ bs) (eqb-true code 0x72 e); head = head; begins = begins; past = past }))))))) (λ e1.
      cond_goes bs (NodeGood now bs) (eqb code 0x73) _ _ (λ e. class_first left inner h unread at (λ o. object_at end at (inner o places.Reference unread)) now bs o full_nodes (λ k after rest is u. object_goes left at (λ o. inner o places.Reference unread) item k after rest u
      (λ many. many_as asking code bs r known gives (λ front l. inr (inl (record { class = k; later = after; read = class_as k after rest is; that = (coded code 0x73 bs e, many) }))))
      (λ old. stands (Shows end (λ a. Known at a) old_external) (code ∷ bs) r (λ front l. record { asking = asking; known = known; refused = record { class = k; later = after; read = class_as k after rest is; that = (coded code 0x73 bs e, old) } }))
      (λ own. desc_as asking code bs r known (inr (inl (record { class = k; later = after; read = class_as k after rest is; that = inl (coded code 0x73 bs e, own) })))))) (λ e2.
      cond_goes bs (NodeGood now bs) (eqb code 0x74) _ _ (λ e. text_goes left (short_at end) short_goes now bs o) (λ e3.
      cond_goes bs (NodeGood now bs) (eqb code 0x75) _ _ (λ e. class_first left inner h unread at (λ o. array_at end at (inner o places.Reference unread)) now bs o full_nodes (λ k after rest is u. typed_array left at (λ o. inner o places.Reference unread) step k after rest u
      (λ own. desc_as asking code bs r known (inr (inl (record { class = k; later = after; read = class_as k after rest is; that = inr (inl (coded code 0x75 bs e, own)) }))))
      (λ kind n typed number past. many_as asking code bs r known gives (λ front l. inr (inr (inl (record { array = coded code 0x75 bs e; class = k; later = after; read = class_as k after rest is; code = kind; typed = typed; count = n; number = number; past = past }))))))) (λ e4.
      cond_goes bs (NodeGood now bs) (eqb code 0x76) _ _ (λ e. class_first left inner h unread at (λ o. class_at) now bs o full_nodes (λ k after rest is u. class_goes left k after rest u)) (λ e5.
      cond_goes bs (NodeGood now bs) (eqb code 0x7C) _ _ (λ e. text_goes left (long_at end) long_goes now bs o) (λ e6.
      cond_goes bs (NodeGood now bs) (eqb code 0x7D) _ _ (λ e. proxy_goes left at inner h unread now bs o (λ n number past. many_as asking code bs r known gives (λ front l. inr (inr (inr (inl (record { rest = bs; is = ap (λ k. k ∷ bs) (eqb-true code 0x7D e); count = n; number = number; past = past }))))))) (λ e7.
      cond_goes bs (NodeGood now bs) (eqb code 0x7E) _ _ (λ e. class_first left inner h unread at (λ o. enum_at at (inner o places.Text unread)) now bs o full_nodes (λ k after rest is u. enum_goes left at (λ o. inner o places.Text unread) (step_of left inner h places.Text unread) k after rest u
      (λ own. desc_as asking code bs r known (inr (inl (record { class = k; later = after; read = class_as k after rest is; that = inr (inr (coded code 0x7E bs e, own)) }))))))
      (λ e8. absurd (code_known code gives.0 e1 e2 e3 e4 e5 e6 e7 e8)))))))))
    where
      coded : (code c : ℕ) (bs : List ℕ) → eqb code c ≡ true → HasByte (λ b. b ≡ c) (code ∷ bs)
      coded code c bs e = record { byte = code; rest = bs; is = refl; that = eqb-true code c e }

      class_as : (k : ℕ) (after : Progress) (rest : List ℕ) → inner None places.Class unread now bs ≡ Ok (slots.Node k, after, rest) → ReadsClass (start + length whole) (record { left = suc left; place = place; unread = unread; now = now }) (code ∷ bs) k after
      class_as k after rest is = record { code = code; rest = bs; is = refl; left = left; level = refl; more = rest; read = subst (λ (s : Slots). s places.Class unread now bs ≡ Ok (slots.Node k, after, rest)) h.1.reads is }

      breaks_as : eqb code 0x72 ≡ true → (head : DescHead) → desc_head_at (start + length whole) bs ≡ Ok head → (done : ℕ) (fields : List FieldDesc) (later : Progress) (more : List ℕ)
          → many_at (field_at (start + length whole) ((start + length whole) - length (code ∷ bs)) (inner None places.Text (unread ++ length now.nodes ∷ []))) done (add_parts head.count (push now (Desc blank))) head.rest ≡ Ok (fields, later, more)
          → IsBroken (start + length whole) (inner None places.Text (unread ++ length now.nodes ∷ [])) head done fields later more → BreaksDesc (start + length whole) (record { left = suc left; place = place; unread = unread; now = now }) (code ∷ bs)
      breaks_as e head begins done fields later more read broken = record {
        rest = bs;
        is = ap (λ k. k ∷ bs) (eqb-true code 0x72 e);
        left = left;
        level = refl;
        head = head;
        begins = begins;
        done = done;
        fields = fields;
        later = later;
        more = more;
        read = subst (λ (s : Slots). many_at (field_at (start + length whole) ((start + length whole) - length (code ∷ bs)) (s places.Text (unread ++ length now.nodes ∷ []))) done (add_parts head.count (push now (Desc blank))) head.rest ≡ Ok (fields, later, more)) h.1.reads read;
        broken = subst (λ (s : Slots). IsBroken (start + length whole) (s places.Text (unread ++ length now.nodes ∷ [])) head done fields later more) h.1.reads broken;
      }

      full_nodes : (k : ℕ) (after : Progress) (rest : List ℕ) → inner None places.Class unread now bs ≡ Ok (slots.Node k, after, rest) → 65536 ≤ length whole → 65536 ≤ length after.nodes → Stood start whole (too_many ((start + length whole) - length (code ∷ bs)))
      full_nodes k after rest is all full = many_as (record { left = suc left; place = place; unread = unread; now = now }) code bs r known gives (λ front l. inl (omega arith, inr (record { class = k; later = after; read = class_as k after rest is; that = full })))

  -- ---- null and handles

  null_goes : (left : ℕ) (asking : Asking) (p : SlotPlace) → p ≡ asking.place → (code : ℕ) (now : Progress) (bs : List ℕ) → eqb code 0x70 ≡ true → Here whole left now (code ∷ bs) → Known ((start + length whole) - length (code ∷ bs)) asking → Goes start whole bs (SlotGood p now (code ∷ bs)) (λ o. null_at p ((start + length whole) - length (code ∷ bs)) now bs)
  unfolding admits_null
  null_goes left asking places.Reference same code now bs e w known = weaker bs (Good now (code ∷ bs)) (SlotGood places.Reference now (code ∷ bs)) _ (λ x q. (q, tt)) (after_code {A = Slot} left code now bs (λ o. Ok (slots.Null, now, bs)) w (λ v. none_goes left now bs v))
  null_goes left asking places.Parent same code now bs e w known = weaker bs (Good now (code ∷ bs)) (SlotGood places.Parent now (code ∷ bs)) _ (λ x q. (q, tt)) (after_code {A = Slot} left code now bs (λ o. Ok (slots.Null, now, bs)) w (λ v. none_goes left now bs v))
  null_goes left asking places.Class same code now bs e w known = fails bs (SlotGood places.Class now (code ∷ bs)) _ (coded_as asking (λ a c. IsNoCode a.place c) code bs w.rest known (subst (λ q. IsNoCode q code) same (subst (λ k. IsNoCode places.Class k) (sym (eqb-true code 0x70 e)) (refl, eqb-false 0x70 0x79 refl, eqb-false 0x70 0x7B refl))))
  null_goes left asking places.Text same code now bs e w known = fails bs (SlotGood places.Text now (code ∷ bs)) _ (coded_as asking (λ a c. IsNoCode a.place c) code bs w.rest known (subst (λ q. IsNoCode q code) same (subst (λ k. IsNoCode places.Text k) (sym (eqb-true code 0x70 e)) (refl, eqb-false 0x70 0x79 refl, eqb-false 0x70 0x7B refl))))

  node_taken : (p : SlotPlace) (s : Slot) → IsNode s → Taken p s
  node_taken places.Reference s h = tt
  node_taken places.Class s h = h
  node_taken places.Parent s h = tt
  node_taken places.Text s h = tt

  -- why a description's place refuses a node
  desc_kinds : (unread desc : Bool) (at : ℕ) → (unread ≡ true → Stood start whole (bad bad_desc at)) → (desc ≡ false → Stood start whole (bad wrong_handle_kind at)) → (k : FaultKind) → cond unread (Some bad_desc) (cond desc None (Some wrong_handle_kind)) ≡ Some k → Stood start whole (bad k at)
  desc_kinds true desc at own wrong k e = kind_is bad_desc k at e (own refl)
  desc_kinds false true at own wrong k e = absurd cc
  desc_kinds false false at own wrong k e = kind_is wrong_handle_kind k at e (wrong refl)

  handle_kinds : (p : SlotPlace) (unread : Bool) (o : Option Node) (at : ℕ) → (o ≡ None → Stood start whole (bad bad_handle at))
      → ((i : Node) → o ≡ Some i → unread ≡ true → (p ≡ places.Class) ⊎ (p ≡ places.Parent) → Stood start whole (bad bad_desc at)) → ((i : Node) → o ≡ Some i → admits p i ≡ false → Stood start whole (bad wrong_handle_kind at))
      → (k : FaultKind) → handle_fault p unread o ≡ Some k → Stood start whole (bad k at)
  unfolding admits
  handle_kinds p unread None at none own wrong k e = kind_is bad_handle k at e (none refl)
  handle_kinds places.Reference unread (Some i) at none own wrong k e = absurd cc
  handle_kinds places.Text unread (Some i) at none own wrong k e = elim (chosen (is_text i) _ _ _ e) [
    | inl p ↦ absurd (let no_kind : None ≡ Some k = p.1 in cc)
    | inr p ↦ kind_is wrong_handle_kind k at p.1 (wrong i refl p.0)
  ]
  handle_kinds places.Class unread (Some i) at none own wrong k e = desc_kinds unread (is_desc i) at (λ u. own i refl u (inl refl)) (λ n. wrong i refl n) k e
  handle_kinds places.Parent unread (Some i) at none own wrong k e = desc_kinds unread (is_desc i) at (λ u. own i refl u (inr refl)) (λ n. wrong i refl n) k e

  named_as : (asking : Asking) (holds : Asking → List ℕ → ℕ → Type 0) (code : ℕ) (bs : List ℕ) (x : ℕ × List ℕ) → Rest whole (code ∷ bs) → Known ((start + length whole) - length (code ∷ bs)) asking → eqb code 0x71 ≡ true → Numbered w32 bs x → ((front : List ℕ) → length whole ≡ length front + suc (length bs) → holds asking front x.0)
      → StandsAt start whole ((start + length whole) - length (code ∷ bs)) (λ front here. IsRefused (λ a. Known ((start + length whole) - length (code ∷ bs)) a) (λ a. NamesHandle (λ h. holds a front h) here))
  named_as asking holds code bs x r known e q h = stands (λ front here. IsRefused (λ a. Known ((start + length whole) - length (code ∷ bs)) a) (λ a. NamesHandle (λ h. holds a front h) here)) (code ∷ bs) r (λ front l. record { asking = asking; known = known; refused = record { rest = bs; is = ap (λ k. k ∷ bs) (eqb-true code 0x71 e); handle = x.0; number = has_number w32 bs x q; that = h front l } })

  -- the number of a node, of its handle
  handle_of : (h : ℕ) → ltb h 0x7E0000 ≡ false → h ≡ 0x7E0000 + (h - 0x7E0000)
  handle_of h high = let low : 0x7E0000 ≤ h = ltb-false h 0x7E0000 high in omega arith

  beyond : (nodes : List Node) (k : ℕ) → slice_get nodes k ≡ None → length nodes ≤ k
  beyond [] k e = omega arith
  beyond (i ∷ nodes) zero e = absurd cc
  beyond (i ∷ nodes) (suc k) e = let l = beyond nodes k e in omega arith

  handle_goes : (left : ℕ) (p : SlotPlace) (unread : List ℕ) (code : ℕ) (now : Progress) (bs : List ℕ) → eqb code 0x71 ≡ true → Here whole left now (code ∷ bs) → Known ((start + length whole) - length (code ∷ bs)) (record { left = left; place = p; unread = unread; now = now }) → Goes start whole bs (SlotGood p now (code ∷ bs)) (λ o. handle_at p unread ((start + length whole) - length (code ∷ bs)) now bs)
  unfolding handle_at
  handle_goes left p unread code now bs e w known =
      let at = (start + length whole) - length (code ∷ bs) in
      let asking : Asking = record { left = left; place = p; unread = unread; now = now } in
      told_with bs (Numbered w32 bs) (SlotGood p now (code ∷ bs)) (number_at w32 bs) _ (λ x q. (q.0, q.1)) (number_told w32 bs) (λ x q.
      cond_goes x.1 (SlotGood p now (code ∷ bs)) (ltb x.0 0x7E0000) _ _
      (λ low. fails x.1 (SlotGood p now (code ∷ bs)) _ (named_as asking (λ a front h. IsNotGiven a h) code bs x w.rest known e q (λ front l. inl (ltb-true x.0 0x7E0000 low)))) (λ high.
      let h : x.0 ≡ 0x7E0000 + (x.0 - 0x7E0000) = handle_of x.0 high in
      unless_goes x.1 (SlotGood p now (code ∷ bs)) (handle_fault p (has unread (x.0 - 0x7E0000)) (slice_get now.nodes (x.0 - 0x7E0000))) at _
      (handle_kinds p (has unread (x.0 - 0x7E0000)) (slice_get now.nodes (x.0 - 0x7E0000)) at
      (λ none. named_as asking (λ a front h. IsNotGiven a h) code bs x w.rest known e q (λ front l. inr (let far = beyond now.nodes (x.0 - 0x7E0000) none in omega arith)))
      (λ i is u place. desc_named asking code bs x w.rest known e q (record { number = x.0 - 0x7E0000; node = i; handle = h; given = is; unread = u; wanted = place }))
      (λ i is wrong. named_as asking (λ a front h. IsGiven front h × IsOfWrongKind a h) code bs x w.rest known e q (λ front l. (given x.0 i high is front l, record { number = x.0 - 0x7E0000; node = i; handle = h; given = is; wrong = wrong }))))
      (done x.1 (SlotGood p now (code ∷ bs)) (slots.Node (x.0 - 0x7E0000), now, x.1) (named q, node_taken p (slots.Node (x.0 - 0x7E0000)) tt) (omega arith))))
    where
      given : (h : ℕ) (i : Node) → ltb h 0x7E0000 ≡ false → slice_get now.nodes (h - 0x7E0000) ≡ Some i → (front : List ℕ) → length whole ≡ length front + suc (length bs) → IsGiven front h
      given h i high is front l =
          let low : 0x7E0000 ≤ h = ltb-false h 0x7E0000 high in
          let lt = slice_get_within now.nodes (h - 0x7E0000) i is in
          let few = w.few in
          let c = w.count in
          (low, omega arith, omega arith)

      desc_named : (asking : Asking) (code : ℕ) (bs : List ℕ) (x : ℕ × List ℕ) → Rest whole (code ∷ bs) → Known ((start + length whole) - length (code ∷ bs)) asking → eqb code 0x71 ≡ true → Numbered w32 bs x → IsUnread asking x.0 → Stood start whole (bad bad_desc ((start + length whole) - length (code ∷ bs)))
      desc_named asking code bs x r known e q h = stands (Shows (start + length whole) (λ a. Known ((start + length whole) - length (code ∷ bs)) a) bad_desc) (code ∷ bs) r (λ front l. record { asking = asking; known = known; refused = inr (inr (record { rest = bs; is = ap (λ k. k ∷ bs) (eqb-true code 0x71 e); handle = x.0; number = has_number w32 bs x q; that = h })) })

      named : {x : ℕ × List ℕ} → Numbered w32 bs x → Grown whole (length (code ∷ bs)) (length now.nodes + length (code ∷ bs)) now x.1
      named {x} q = read_then now (code ∷ bs) bs now x.1 (code ∷ [], refl) (read_then now bs x.1 now x.1 (q.0, q.1) (none_grown left now x.1 (on left now bs x.1 (on left now (code ∷ bs) bs w (code ∷ [], refl)) (q.0, q.1))))

  -- ---- any reference

  refused : (asking : Asking) (code : ℕ) (bs : List ℕ) → Rest whole (code ∷ bs) → Known ((start + length whole) - length (code ∷ bs)) asking → eqb code 0x70 ≡ false → eqb code 0x71 ≡ false → admits_code asking.place code ≡ false → Stood start whole (bad (code_fault code) ((start + length whole) - length (code ∷ bs)))
  refused asking code bs r known e0 e1 other = go (eqb code 0x79) (eqb code 0x7B) refl refl
    where
      go : (a b : Bool) → eqb code 0x79 ≡ a → eqb code 0x7B ≡ b → Stood start whole (bad (cond a reset (cond b inner_exception bad_code)) ((start + length whole) - length (code ∷ bs)))
      go true b f g = coded_as asking (λ a c. c ≡ 0x79) code bs r known (eqb-true code 0x79 f)
      go false true f g = coded_as asking (λ a c. c ≡ 0x7B) code bs r known (eqb-true code 0x7B g)
      go false false f g = coded_as asking (λ a c. IsNoCode a.place c) code bs r known (rw (e0, e1, other) refl, eqb-false code 0x79 f, eqb-false code 0x7B g)

  deep_goes : {A : Type 0} (bs : List ℕ) (Q : A × Progress × List ℕ → Type 0) (left at : ℕ) (r : Reads A) → (left ≡ 0 → Stood start whole (too_deep at)) → ((n : ℕ) → left ≡ suc n → Goes start whole bs Q r) → Goes start whole bs Q (λ o. deep left at (r o))
  deep_goes bs Q zero at r h g = fails bs Q (too_deep at) (h refl)
  deep_goes bs Q (suc left) at r h g = g left refl

  -- inside, `inside` levels may still begin, unless none may here
  record Deeper (left inside : ℕ) (inner : Option Stop → Slots) : Type 0 where
    level : (n : ℕ) → left ≡ suc n → left ≡ suc inside
    goes : (n : ℕ) → left ≡ suc n → SlotsGo inside inner

  coded_goes : (left inside : ℕ) (inner : Option Stop → Slots) → Deeper left inside inner → (p : SlotPlace) (unread : List ℕ) (code : ℕ) (now : Progress) (bs : List ℕ) → Here whole left now (code ∷ bs)
      → Known ((start + length whole) - length (code ∷ bs)) (record { left = left; place = p; unread = unread; now = now })
      → Goes start whole bs (SlotGood p now (code ∷ bs)) (λ o. coded (start + length whole) left (inner o) p unread ((start + length whole) - length (code ∷ bs)) code now bs)
  unfolding coded
  coded_goes left inside inner d p unread code now bs w known =
      let end = start + length whole in
      let at = end - length (code ∷ bs) in
      let asking : Asking = record { left = left; place = p; unread = unread; now = now } in
      let c = w.count in
      let v = w.level in
      cond_goes bs (SlotGood p now (code ∷ bs)) (eqb code 0x70) _ _ (λ e. null_goes left asking p refl code now bs e w known) (λ e0.
      cond_goes bs (SlotGood p now (code ∷ bs)) (eqb code 0x71) _ _ (λ e. handle_goes left p unread code now bs e w known) (λ e1.
      cond_goes bs (SlotGood p now (code ∷ bs)) (admits_code p code) _ _ (λ e. (
      let gives : IsConstruct p code = (admitted_gives p code e, e) in
      deep_goes bs (SlotGood p now (code ∷ bs)) left at (λ o. roomy now at (fresh_at end at (inner o) unread code now bs))
      (λ none. stands (IsTooDeep (λ a. Known at a)) (code ∷ bs) w.rest (λ front l. record { asking = asking; known = known; refused = (record { byte = code; rest = bs; is = refl; that = gives }, none, omega arith) })) (λ n some.
      let same : left ≡ suc inside = d.level n some in
      let here : Here whole inside now bs = record { rest = tail_of code bs w.rest; few = w.few; count = omega arith; level = omega arith } in
      let deeper : Known at (record { left = suc inside; place = p; unread = unread; now = now }) = subst (λ k. Known at (record { left = k; place = p; unread = unread; now = now })) same known in
      cond_goes bs (SlotGood p now (code ∷ bs)) (ltb (length now.nodes) 65536) (λ o. fresh_at end at (inner o) unread code now bs) (λ o. Err (too_many at))
      (λ room. weaker bs (NodeGood now bs) (SlotGood p now (code ∷ bs)) (λ o. fresh_at end at (inner o) unread code now bs) (λ x q. (within (length bs) (suc (length bs)) (suc (length now.nodes + length bs)) (length now.nodes + suc (length bs)) x.1 x.2 (omega arith) (omega arith) q.0, node_taken p x.0 q.1))
      (fresh_goes p inside inner (d.goes n some) unread code now bs gives (record { here = here; room = ltb-true (length now.nodes) 65536 room; space = c }) w.rest deeper))
      (λ full. fails bs (SlotGood p now (code ∷ bs)) (too_many at) (let most : 65536 ≤ length now.nodes = ltb-false (length now.nodes) 65536 full in many_as asking code bs w.rest known gives (λ front l. inl (omega arith, inl most)))))))
      (λ other. fails bs (SlotGood p now (code ∷ bs)) _ (refused asking code bs w.rest known e0 e1 other))))

  -- ---- the reference at a position, with or without a stop

  -- a stop that is behind is not met
  not_met : (c : ℕ) (bs : List ℕ) (position : ℕ) → Rest whole (c ∷ bs) → (start + length whole) - length bs ≤ position → eqb ((start + length whole) - length (c ∷ bs)) position ≡ false
  not_met c bs position r le = let l = shorter r.0 whole (c ∷ bs) r.1 in ne_eqb _ _ (λ same. omega arith)

  -- `one` is a reference's step from its first byte on, and `two` what comes after that byte
  met_goes : {A : Type 0} (asking : Asking) (c : ℕ) (bs : List ℕ) (Q : A × Progress × List ℕ → Type 0) (one two : Reads A) → Rest whole (c ∷ bs) → one None ≡ two None
      → ((t : Stop) → one (Some t) ≡ cond (eqb ((start + length whole) - length (c ∷ bs)) t.position) (Err (t.fault asking)) (two (Some t)))
      → (Known ((start + length whole) - length (c ∷ bs)) asking → Goes start whole bs Q two) → Goes start whole (c ∷ bs) Q one
  met_goes asking c bs Q one two r none some g = record { run = λ comes. subst (λ y. Ends start whole (c ∷ bs) Q one y) (sym none) (go (two None) ((g (met comes)).run (passes comes))) }
    where
      met : Comes (start + length whole) whole (c ∷ bs) one → Known ((start + length whole) - length (c ∷ bs)) asking
      met comes fault =
          let at = (start + length whole) - length (c ∷ bs) in
          let t : Stop = record { position = at; fault = fault } in
          comes t (fault asking) (omega arith) (some t ∙ rw (eqb_same at) refl)

      passed : (t : Stop) → (start + length whole) - length bs ≤ t.position → one (Some t) ≡ two (Some t)
      passed t le = some t ∙ rw (not_met c bs t.position r le) refl

      passes : Comes (start + length whole) whole (c ∷ bs) one → Comes (start + length whole) whole bs two
      passes comes t e le is = comes t e (omega arith) (passed t le ∙ is)

      go : (y : Result _ Fault) → Ends start whole bs Q two y → Ends start whole (c ∷ bs) Q one y
      go (Ok x) k = let less = k.less in record { that = k.that; less = omega arith; same = λ t le. passed t (omega arith) ∙ k.same t le }
      go (Err e) k = k

  references : (left : ℕ) → AreReferences left (slots_of (start + length whole) left)
  unfolding slot_but
  references zero = record { reads = refl; stops = λ t p unread now c bs e. rw (e, eqb_same t.position) refl }
  references (suc left) = record { reads = refl; stops = λ t p unread now c bs e. rw (e, eqb_same t.position) refl }

  slots_go : (left : ℕ) → EachGoes left (slots_of (start + length whole) left)
  unfolding slot_at slot_but
  slots_go zero p unread now [] w = record { run = λ comes. tt }
  slots_go zero p unread now (c ∷ bs) w = met_goes (record { left = zero; place = p; unread = unread; now = now }) c bs (SlotGood p now (c ∷ bs)) _ (λ o. coded (start + length whole) zero no_slots p unread ((start + length whole) - length (c ∷ bs)) c now bs) w.rest refl (λ t. refl) (λ known. coded_goes zero zero (λ o. no_slots) (record { level = λ n e. absurd (omega arith); goes = λ n e. absurd (omega arith) }) p unread c now bs w known)
  slots_go (suc left) p unread now [] w = record { run = λ comes. tt }
  slots_go (suc left) p unread now (c ∷ bs) w = met_goes (record { left = suc left; place = p; unread = unread; now = now }) c bs (SlotGood p now (c ∷ bs)) _ (λ o. coded (start + length whole) (suc left) (slots_of (start + length whole) left o) p unread ((start + length whole) - length (c ∷ bs)) c now bs) w.rest refl (λ t. refl) (λ known. coded_goes (suc left) left (slots_of (start + length whole) left) (record { level = λ n e. refl; goes = λ n e. (slots_go left, references left) }) p unread c now bs w known)

  -- ---- a whole stream

  magic_told : (ws seen bs : List ℕ) → 0xAC ∷ 0xED ∷ 0x00 ∷ 0x05 ∷ [] ≡ seen ++ ws → whole ≡ seen ++ bs → Told start whole (Rest whole) (magic_at (start + length whole) ws bs)
  unfolding magic_at
  magic_told [] seen bs e w = (seen, w)
  magic_told (x ∷ ws) seen [] e w = tt
  magic_told (x ∷ ws) seen (b ∷ bs) e w =
      cond_told (Rest whole) (eqb b x) _ _
      (λ same. magic_told ws (seen ++ x ∷ []) bs (e ∙ sym (append_assoc seen (x ∷ []) ws)) (w ∙ (ap (λ k. seen ++ k ∷ bs) (eqb-true b x same) ∙ sym (append_assoc seen (x ∷ []) bs))))
      (λ no. record { front = seen; here = b ∷ bs; parts = w; place = placed seen (b ∷ bs) w; shown = record { byte = b; rest = bs; is = refl; wanted = x; others = ws; head = e; differs = eqb-false b x no } })

  abbrev of_stream : List Item × Progress × List ℕ → Result (List Node × List Item) Fault
  of_stream x = Ok (x.1.nodes, x.0)

  abbrev first_step : Steps (List Item)
  first_step o = items_at (start + length whole) (slots_of (start + length whole) 200 o places.Reference []) false

  at_start : (bs : List ℕ) → Rest whole bs → Here whole 200 (record { nodes = []; parts = 0 }) bs
  at_start bs r = let l = shorter r.0 whole bs r.1 in record { rest = r; few = omega arith; count = omega arith; level = omega arith }

  -- what is read behind the version
  body_goes : (bs : List ℕ) → Rest whole bs → Goes start whole bs (Good (record { nodes = []; parts = 0 }) bs) (λ o. first_step o (record { nodes = []; parts = 0 }) bs)
  body_goes bs r = items_goes 200 (λ o. slots_of (start + length whole) 200 o places.Reference []) (items_of 200 (slots_of (start + length whole) 200) (slots_go 200, references 200) []) false (record { nodes = []; parts = 0 }) bs (at_start bs r)

  body_comes : (bs : List ℕ) → magic_at (start + length whole) (0xAC ∷ 0xED ∷ 0x00 ∷ 0x05 ∷ []) whole ≡ Ok bs → Comes (start + length whole) whole bs (λ o. first_step o (record { nodes = []; parts = 0 }) bs)
  unfolding stream_but
  body_comes bs e t f le is = rw (e, is) refl

  -- where reading these bytes answers a fault, it stands in them
  stood_from : (f : Fault) → stream_from (start + length whole) whole ≡ Err f → Stood start whole f
  stood_from f = by (magic_at (start + length whole) (0xAC ∷ 0xED ∷ 0x00 ∷ 0x05 ∷ []) whole) refl (magic_told (0xAC ∷ 0xED ∷ 0x00 ∷ 0x05 ∷ []) [] whole refl refl)
    where
      stood : (bs : List ℕ) (y : Result (List Item × Progress × List ℕ) Fault) → Ends start whole bs (Good (record { nodes = []; parts = 0 }) bs) (λ o. first_step o (record { nodes = []; parts = 0 }) bs) y → (y >>= of_stream) ≡ Err f → Stood start whole f
      stood bs (Ok x) h e = absurd cc
      stood bs (Err g) h e = let same : g ≡ f = cc in subst (λ (x : Fault). Stood start whole x) same h

      by : (m : Result (List ℕ) Fault) → magic_at (start + length whole) (0xAC ∷ 0xED ∷ 0x00 ∷ 0x05 ∷ []) whole ≡ m → Told start whole (Rest whole) m → (m >>= λ bs. first_step None (record { nodes = []; parts = 0 }) bs >>= of_stream) ≡ Err f → Stood start whole f
      by (Ok bs) e r is = stood bs (first_step None (record { nodes = []; parts = 0 }) bs) ((body_goes bs r).run (body_comes bs e)) is
      by (Err g) e h is = let same : g ≡ f = cc in subst (λ (x : Fault). Stood start whole x) same h

-- Where reading these bytes, from a position on, answers a fault, it stands in them.
pub stands_from : (start : ℕ) (whole : List ℕ) (f : Fault) → stream_from (start + length whole) whole ≡ Err f → FaultStands start whole f
stands_from start whole short e = ends_early (start + length whole) whole e
stands_from start whole (bad kind at) e = stood_from start whole (bad kind at) e
stands_from start whole (too_many at) e = stood_from start whole (too_many at) e
stands_from start whole (too_deep at) e = stood_from start whole (too_deep at) e

-- Each fault stands in the bytes.
pub faults_stand : (bytes : List ℕ) (f : Fault) → stream_of bytes ≡ Err f → FaultStands 0 bytes f
unfolding stream_of
faults_stand bytes f e = let end : 0 + length bytes ≡ length bytes = omega arith in stands_from 0 bytes f (ap (λ k. stream_from k bytes) end ∙ e)

abbrev failed : Fault → Result (List Node × List Item) Fault
failed f = Err f

-- What is known of the reference at a position is one.
pub comes_to_one : (end : ℕ) (bytes : List ℕ) (position : ℕ) (asking other : Asking) → ComesTo end bytes position asking → ComesTo end bytes position other → (number : Asking → ℕ) → number asking ≡ number other
comes_to_one end bytes position asking other h g number =
    let one = h (λ a. too_many (number a)) in
    let two = g (λ a. too_many (number a)) in
    let same : failed (too_many (number asking)) ≡ failed (too_many (number other)) = sym one ∙ two in
    cc
