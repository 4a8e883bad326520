-- A note whose last byte is 1 is the same reference, made for a result.
use Rattle.std.proofs.Common.{◌≡◌, ◌∙◌, ◌≤◌, ◌+◌, ◌-◌, ◌*◌, ◌++◌, ℕ, zero, suc, ℤ, Bool, true, false, not, nat_eq, nat_le, List, [], ◌∷◌, length, take, drop, get_or, Option, Some, None, codes, slice_set, refl, ap, sym, arith, length-append, append_assoc}
use Rattle.std.specs.Int.{w32}
use Rattle.std.proofs.lemmas.Bool.{eqb-true}
use Rattle.std.proofs.lemmas.Bool.Decides.{nat_tests}
use Rattle.std.proofs.lemmas.List.{take-append-drop, length-take-le, take-set-le, drop-set-add, get_or-set_same, length-set, set-append_right}
use Rattle.std.proofs.Math.Seq.{take-append_seam, drop-append_seam}
use Rattle.mod_utf.specs.Decoding.{decoded_units}
use Rattle.object_ids.specs.declared.ids.ObjId.{ObjId}
use Rattle.object_ids.specs.Bytes.{signed_from_bytes, objid_from_bytes}
use Rattle.java_shapes.specs.declared.ref_views.LiveRef.{LiveRef}
use Rattle.java_shapes.specs.Objects.{same_text, ◌>>=◌}
use Rattle.java_shapes.specs.LiveRefs.{cut, cut_text, after_format, after_kind, host_and_tail, units_of, ref_with, ref_of_parts, ref_of}
use Rattle.java_shapes.specs.Flags.{for_result}
use Rattle.java_shapes.proofs.Built.{short_enough}
use Rattle.java_shapes.proofs.Flagged.{last_one}

-- What is read of the front of these bytes leaves a tail, and is read with any other tail.
abbrev Fronts : {A : Type 0} → (List ℕ → Option (A × List ℕ)) → List ℕ → A → List ℕ → Type 0
Fronts read bytes x tail = (front : List ℕ) × (bytes ≡ front ++ tail) × ((other : List ℕ) → read (front ++ other) ≡ Some (x, other))

abbrev first : Option (List ℕ × List ℕ) → List ℕ
first (Some p) = p.0
first None = []

abbrev second : Option (List ℕ × List ℕ) → List ℕ
second (Some p) = p.1
second None = []

enough : (n m : ℕ) → nat_le n m ≡ true → n ≤ m
enough n m h = grind (arith, nat_tests)

cut_any : (n : ℕ) (a other : List ℕ) → length a ≡ n → cut n (a ++ other) ≡ Some (a, other)
cut_any n a other e =
    let fits : nat_le (length a) (length (a ++ other)) ≡ true = short_enough (length a) (length (a ++ other)) (omega (arith, length-append a other)) in
    rw (← e, fits, take-append_seam a other, drop-append_seam a other) refl

cut_true : (n : ℕ) (bytes a tail : List ℕ) → nat_le n (length bytes) ≡ true → cut n bytes ≡ Some (a, tail) → Fronts (cut n) bytes a tail
cut_true n bytes a tail e h =
    let two : cut n bytes ≡ Some (take n bytes, drop n bytes) = rw e refl in
    let both : Some (take n bytes, drop n bytes) ≡ Some (a, tail) = sym two ∙ h in
    let a_is : take n bytes ≡ a = ap first both in
    let tail_is : drop n bytes ≡ tail = ap second both in
    let len : length a ≡ n = ap length (sym a_is) ∙ length-take-le n bytes (enough n (length bytes) e) in
    let whole : bytes ≡ a ++ tail = sym (take-append-drop n bytes) ∙ (ap (λ (l : List ℕ). l ++ drop n bytes) a_is ∙ ap (λ (l : List ℕ). a ++ l) tail_is) in
    (a, whole, λ other. cut_any n a other len)

cut_by : (n : ℕ) (bytes a tail : List ℕ) (b : Bool) → nat_le n (length bytes) ≡ b → cut n bytes ≡ Some (a, tail) → Fronts (cut n) bytes a tail
cut_by n bytes a tail true e h = cut_true n bytes a tail e h
cut_by n bytes a tail false e h =
    let k : cut n bytes ≡ None = rw e refl in
    let z : None ≡ Some (a, tail) = sym k ∙ h in
    absurd cc

cut_front : (n : ℕ) (bytes a tail : List ℕ) → cut n bytes ≡ Some (a, tail) → Fronts (cut n) bytes a tail
cut_front n bytes a tail h = cut_by n bytes a tail (nat_le n (length bytes)) refl h

text_front : (bytes a tail : List ℕ) → cut_text bytes ≡ Some (a, tail) → Fronts cut_text bytes a tail
text_front [] a tail h = absurd cc
text_front (x ∷ []) a tail h = absurd cc
text_front (high ∷ low ∷ bytes) a tail h =
    let f = cut_front (256 * high + low) bytes a tail h in
    (high ∷ low ∷ f.0, ap (λ (l : List ℕ). high ∷ low ∷ l) f.1, f.2)

abbrev KindFront : List ℕ → List ℕ → List ℕ → Type 0
KindFront kind bytes tail = (front : List ℕ) × (bytes ≡ front ++ tail) × ((other : List ℕ) → after_kind (kind, front ++ other) ≡ Some other)

some_one : (xs ys : List ℕ) → Some xs ≡ Some ys → xs ≡ ys
some_one xs ys e = ap or_none e
  where
    or_none : Option (List ℕ) → List ℕ
    or_none (Some l) = l
    or_none None = []

second_front : (kind bytes tail : List ℕ) → same_text kind (codes "UnicastRef") ≡ false → same_text kind (codes "UnicastRef2") ≡ true → after_format bytes ≡ Some tail → KindFront kind bytes tail
second_front kind [] tail e f h = absurd cc
second_front kind (zero ∷ bytes) tail e f h = (0 ∷ [], ap (λ (l : List ℕ). 0 ∷ l) (some_one bytes tail h), λ other. rw (e, f) refl)
second_front kind (suc x ∷ bytes) tail e f h = absurd cc

kind_by : (kind bytes tail : List ℕ) (b c : Bool) → same_text kind (codes "UnicastRef") ≡ b → same_text kind (codes "UnicastRef2") ≡ c → after_kind (kind, bytes) ≡ Some tail → KindFront kind bytes tail
kind_by kind bytes tail true c e f h =
    let k : after_kind (kind, bytes) ≡ Some bytes = rw e refl in
    ([], some_one bytes tail (sym k ∙ h), λ other. rw e refl)
kind_by kind bytes tail false true e f h =
    let k : after_kind (kind, bytes) ≡ after_format bytes = rw (e, f) refl in
    second_front kind bytes tail e f (sym k ∙ h)
kind_by kind bytes tail false false e f h =
    let k : after_kind (kind, bytes) ≡ None = rw (e, f) refl in
    let z : None ≡ Some tail = sym k ∙ h in
    absurd cc

kind_front : (kind bytes tail : List ℕ) → after_kind (kind, bytes) ≡ Some tail → KindFront kind bytes tail
kind_front kind bytes tail h = kind_by kind bytes tail (same_text kind (codes "UnicastRef")) (same_text kind (codes "UnicastRef2")) refl refl h

joined : (kind rest host tail bytes : List ℕ) → Fronts cut_text bytes kind rest → (after : List ℕ) → KindFront kind rest after → Fronts cut_text after host tail → Fronts host_and_tail bytes host tail
unfolding host_and_tail
joined kind rest host tail bytes f after g h =
    let whole : bytes ≡ (f.0 ++ (g.0 ++ h.0)) ++ tail =
    f.1 ∙ (ap (λ (l : List ℕ). f.0 ++ l) (g.1 ∙ (ap (λ (l : List ℕ). g.0 ++ l) h.1 ∙ sym (append_assoc g.0 h.0 tail))) ∙ sym (append_assoc f.0 (g.0 ++ h.0) tail)) in (
      f.0 ++ (g.0 ++ h.0),
      whole,
      λ other.
          let split : (f.0 ++ (g.0 ++ h.0)) ++ other ≡ f.0 ++ (g.0 ++ (h.0 ++ other)) = append_assoc f.0 (g.0 ++ h.0) other ∙ ap (λ (l : List ℕ). f.0 ++ l) (append_assoc g.0 h.0 other) in
          rw (split, f.2 (g.0 ++ (h.0 ++ other)), g.2 (h.0 ++ other), h.2 other) refl,
    )

with_after : (kind rest host tail bytes : List ℕ) (o : Option (List ℕ)) → Fronts cut_text bytes kind rest → after_kind (kind, rest) ≡ o → (o >>= cut_text) ≡ Some (host, tail) → Fronts host_and_tail bytes host tail
with_after kind rest host tail bytes None f e h = absurd cc
with_after kind rest host tail bytes (Some after) f e h = joined kind rest host tail bytes f after (kind_front kind rest after e) (text_front after host tail h)

with_kind : (host tail bytes : List ℕ) (o : Option (List ℕ × List ℕ)) → cut_text bytes ≡ o → (o >>= λ kind. after_kind kind >>= cut_text) ≡ Some (host, tail) → Fronts host_and_tail bytes host tail
with_kind host tail bytes None e h = absurd cc
with_kind host tail bytes (Some p) e h = with_after p.0 p.1 host tail bytes (after_kind (p.0, p.1)) (text_front bytes p.0 p.1 e) refl h

opened : (bytes host tail : List ℕ) → host_and_tail bytes ≡ Some (host, tail) → (cut_text bytes >>= λ kind. after_kind kind >>= cut_text) ≡ Some (host, tail)
unfolding host_and_tail
opened bytes host tail h = h

host_front : (bytes host tail : List ℕ) → host_and_tail bytes ≡ Some (host, tail) → Fronts host_and_tail bytes host tail
host_front bytes host tail h = with_kind host tail bytes (cut_text bytes) refl (opened bytes host tail h)

-- ---- the last byte

abbrev made : List ℕ → ℤ → ObjId → Bool → Option LiveRef
made host p i f = Some (record { host = host; port = p; id = i; result = f })

abbrev or_first : LiveRef → Option LiveRef → LiveRef
or_first d (Some r) = r
or_first d None = d

tail_set : (host tail : List ℕ) (r : LiveRef) (b : Bool) → nat_eq (length tail) 27 ≡ b → ref_with host tail ≡ Some r → (length tail ≡ 27) × (ref_with host (slice_set tail 26 1) ≡ Some (for_result r))
tail_set host tail r false e h =
    let k : ref_with host tail ≡ None = rw e refl in
    let z : None ≡ Some r = sym k ∙ h in
    absurd cc
tail_set host tail r true e h =
    let len : length tail ≡ 27 = eqb-true (length tail) 27 e in
    let size : nat_eq (length (slice_set tail 26 1)) 27 ≡ true = rw (length-set tail 26 1) e in
    let port : take 4 (slice_set tail 26 1) ≡ take 4 tail = take-set-le 4 tail 26 1 (omega arith) in
    let id : take 22 (drop 4 (slice_set tail 26 1)) ≡ take 22 (drop 4 tail) = ap (λ (l : List ℕ). take 22 l) (drop-set-add 4 tail 22 1) ∙ take-set-le 22 (drop 4 tail) 22 1 (omega arith) in
    let flag : get_or (slice_set tail 26 1) 26 0 ≡ 1 = get_or-set_same tail 26 1 0 (omega (arith, len)) in
    let old : ref_with host tail ≡ made host (signed_from_bytes w32 (take 4 tail)) (objid_from_bytes (take 22 (drop 4 tail))) (not (nat_eq (get_or tail 26 0) 0)) = rw e refl in
    let new : ref_with host (slice_set tail 26 1) ≡ made host (signed_from_bytes w32 (take 4 (slice_set tail 26 1))) (objid_from_bytes (take 22 (drop 4 (slice_set tail 26 1)))) (not (nat_eq (get_or (slice_set tail 26 1) 26 0) 0)) = rw size refl in
    let same : made host (signed_from_bytes w32 (take 4 (slice_set tail 26 1))) (objid_from_bytes (take 22 (drop 4 (slice_set tail 26 1)))) (not (nat_eq (get_or (slice_set tail 26 1) 26 0) 0)) ≡ made host (signed_from_bytes w32 (take 4 tail)) (objid_from_bytes (take 22 (drop 4 tail))) true =
    ap (λ (l : List ℕ). made host (signed_from_bytes w32 l) (objid_from_bytes (take 22 (drop 4 (slice_set tail 26 1)))) (not (nat_eq (get_or (slice_set tail 26 1) 26 0) 0))) port
    ∙ (ap (λ (l : List ℕ). made host (signed_from_bytes w32 (take 4 tail)) (objid_from_bytes l) (not (nat_eq (get_or (slice_set tail 26 1) 26 0) 0))) id
    ∙ ap (λ (n : ℕ). made host (signed_from_bytes w32 (take 4 tail)) (objid_from_bytes (take 22 (drop 4 tail))) (not (nat_eq n 0))) flag) in
    let is : made host (signed_from_bytes w32 (take 4 tail)) (objid_from_bytes (take 22 (drop 4 tail))) (not (nat_eq (get_or tail 26 0) 0)) ≡ Some r = sym old ∙ h in
    (len, new ∙ (same ∙ ap (λ (x : Option LiveRef). Some (for_result (or_first r x))) is))

front_set : (front tail : List ℕ) → length tail ≡ 27 → last_one (front ++ tail) ≡ front ++ slice_set tail 26 1
front_set front tail len =
    let at : length (front ++ tail) - 1 ≡ length front + 26 = omega (arith, length-append front tail, len) in
    let back : (length front + 26) - length front ≡ 26 = omega arith in
    ap (λ (n : ℕ). slice_set (front ++ tail) n 1) at ∙ (set-append_right front tail (length front) (length front + 26) 1 refl (omega arith) ∙ ap (λ (n : ℕ). front ++ slice_set tail n 1) back)

by_text : (bytes host tail : List ℕ) (r : LiveRef) (o : Option (List ℕ)) → host_and_tail bytes ≡ Some (host, tail) → units_of (decoded_units host) ≡ o → (o >>= λ units. ref_with units tail) ≡ Some r → ref_of (last_one bytes) ≡ Some (for_result r)
by_text bytes host tail r None e f h = absurd cc
by_text bytes host tail r (Some units) e f h =
    let front = host_front bytes host tail e in
    let set = tail_set units tail r (nat_eq (length tail) 27) refl h in
    let last : last_one bytes ≡ front.0 ++ slice_set tail 26 1 = ap last_one front.1 ∙ front_set front.0 tail set.0 in
    let read : ref_of (front.0 ++ slice_set tail 26 1) ≡ ref_with units (slice_set tail 26 1) = rw (front.2 (slice_set tail 26 1), f) refl in
    ap ref_of last ∙ (read ∙ set.1)

by_host : (bytes : List ℕ) (r : LiveRef) (o : Option (List ℕ × List ℕ)) → host_and_tail bytes ≡ o → ref_of_parts o ≡ Some r → ref_of (last_one bytes) ≡ Some (for_result r)
by_host bytes r None e h = absurd cc
by_host bytes r (Some p) e h = by_text bytes p.0 p.1 r (units_of (decoded_units p.0)) e refl h

pub ref_set : (bytes : List ℕ) (r : LiveRef) → ref_of bytes ≡ Some r → ref_of (last_one bytes) ≡ Some (for_result r)
ref_set bytes r h = by_host bytes r (host_and_tail bytes) refl h
