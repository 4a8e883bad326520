-- A Call's head is read, whatever comes behind it; and bytes begin with one head.
use Rattle.std.specs.Prelude.{FitsSigned}
use Rattle.std.specs.Int.{cast_unsigned, cast_signed}
use Rattle.std.proofs.Common.{◌≡◌, ℕ, ℤ, w32, w64, List, [], ◌∷◌, ◌++◌, length, take, drop, take_at, drop_at, Ok, refl, sym, ap, ◌∙◌, append-nil, arith}
use Rattle.std.proofs.lemmas.Int.{ints, to_z-of_z}
use Rattle.std.proofs.lemmas.List.{append_cancel_right}
use Rattle.std.proofs.lemmas.Nat.{from_be_bytes-to_be_bytes_8}
use Rattle.object_ids.specs.declared.ids.ObjId.{ObjId}
use Rattle.object_ids.specs.Bytes.{signed_bytes, signed_from_bytes, bytes_of_uid, uid_from_bytes, bytes_of_objid, objid_from_bytes}
use Rattle.object_ids.proofs.Spelling.{uid-spelled, objid-spelled}
use Rattle.class_desc.specs.declared.field.TypeCode.{TypeCode}
use Rattle.class_desc.specs.declared.slot.Item.TheVariants as items
use Rattle.stream_grammar.specs.Reading.{magic_at}
use Rattle.ser_read.specs.Named.{add_bytes}
use Rattle.ser_read.specs.Wants.{Stand, run_at, bytes_at}
use Rattle.ser_read.specs.Heading.{inside_block}
use Rattle.ser_read.proofs.Heading.{head_runs, added_some, some_wanted}
use Rattle.ser_read.proofs.Served.{given_is}
use Rattle.jrmp_frames.specs.declared.arguments.Arguments.{Arguments}
use Rattle.jrmp_frames.specs.declared.head.CallHead.{CallHead}
use Rattle.jrmp_frames.specs.Messages.{head_bytes, CallBytes}
use Rattle.jrmp_frames.specs.Calls.{head_at}
use Rattle.jrmp_frames.proofs.CallLaws.{call_has_head}
use Rattle.call_dispatch.specs.Served.{FitsHead, EndsWithHead}
use Rattle.java_shapes.proofs.RefNotes.{port_back}

-- ---- heads

-- What ends with a head is read, whatever comes behind it.
pub head_given : (end : ℕ) (head : CallHead) (bytes : List ℕ) (left : ℕ) (rest : List ℕ) → EndsWithHead head bytes left → head_at end (bytes ++ rest) ≡ Ok (head_bytes head, inside_block (head_bytes head) left, rest)
unfolding head_at magic_at bytes_at
head_given end head bytes left rest h =
    let runs : run_at end 34 0 (h.contents ++ rest) ≡ Ok (head_bytes head, left, rest) = head_runs end 34 h.contents (head_bytes head) left rest h.ends in
    let added : add_bytes [] (head_bytes head) ≡ items.Bytes (head_bytes head) ∷ [] = added_some (head_bytes head) (some_wanted 34 h.contents (head_bytes head) left h.ends) in
    let read : head_at end (0xAC ∷ 0xED ∷ 0x00 ∷ 0x05 ∷ (h.contents ++ rest)) ≡ Ok (head_bytes head, inside_block (head_bytes head) left, rest) = rw (runs, added) refl in
    ap (λ (l : List ℕ). head_at end (l ++ rest)) h.headed ∙ read

abbrev HeadOk : Type 0
HeadOk = List ℕ × Stand × List ℕ

-- Fronts of one list that end with heads are one, with one head's bytes.
pub one_front : (head head2 : CallHead) (bytes bytes2 rest rest2 : List ℕ) (left left2 : ℕ) → EndsWithHead head bytes left → EndsWithHead head2 bytes2 left2 → bytes ++ rest ≡ bytes2 ++ rest2
    → (head_bytes head ≡ head_bytes head2) × (left ≡ left2) × (bytes ≡ bytes2) × (rest ≡ rest2)
one_front head head2 bytes bytes2 rest rest2 left left2 a b e =
    let x : HeadOk = (head_bytes head, inside_block (head_bytes head) left, rest) in
    let y : HeadOk = (head_bytes head2, inside_block (head_bytes head2) left2, rest2) in
    let same : x ≡ y = given_is x y (sym (head_given 0 head bytes left rest a) ∙ ap (head_at 0) e ∙ head_given 0 head2 bytes2 left2 rest2 b) in
    let rests : rest ≡ rest2 = ap (λ (t : HeadOk). t.2) same in
    (ap (λ (t : HeadOk). t.0) same, ap (λ (t : HeadOk). t.1.block) same, append_cancel_right bytes bytes2 rest2 (ap (λ (l : List ℕ). bytes ++ l) (sym rests) ∙ e), rests)

-- ---- the numbers of a head

signed_8 : (x : ℤ) → FitsSigned w64 x → signed_from_bytes w64 (signed_bytes w64 x) ≡ x
signed_8 x fits = ap (cast_signed w64) (from_be_bytes-to_be_bytes_8 (cast_unsigned w64 x) (omega (arith, ints))) ∙ to_z-of_z w64 x fits

objid_back : (head : CallHead) → FitsHead head → objid_from_bytes (bytes_of_objid head.id) ≡ head.id
objid_back head f =
    objid-spelled head.id f.number (ap uid_from_bytes (sym (append-nil (bytes_of_uid head.id.space))) ∙ uid-spelled head.id.space [] f.unique f.time f.count)

abbrev head_with : ObjId → ℤ → ℤ → CallHead
head_with id operation hash = record { id = id; operation = operation; hash = hash }

-- The parts of two lists that are joined of as many bytes are the same.
parts_same : (n : ℕ) (a b c d : List ℕ) → length a ≡ n → length b ≡ n → a ++ c ≡ b ++ d → (a ≡ b) × (c ≡ d)
parts_same n a b c d long long2 e = (sym (take_at a c n long) ∙ ap (take n) e ∙ take_at b d n long2, sym (drop_at a c n long) ∙ ap (drop n) e ∙ drop_at b d n long2)

-- Bytes spell one head.
pub same_head : (a b : CallHead) → FitsHead a → FitsHead b → head_bytes a ≡ head_bytes b → a ≡ b
unfolding head_bytes
same_head a b f g e =
    let one = parts_same 22 (bytes_of_objid a.id) (bytes_of_objid b.id) (signed_bytes w32 a.operation ++ signed_bytes w64 a.hash) (signed_bytes w32 b.operation ++ signed_bytes w64 b.hash) refl refl e in
    let two = parts_same 4 (signed_bytes w32 a.operation) (signed_bytes w32 b.operation) (signed_bytes w64 a.hash) (signed_bytes w64 b.hash) refl refl one.1 in
    let ids : a.id ≡ b.id = sym (objid_back a f) ∙ ap objid_from_bytes one.0 ∙ objid_back b g in
    let operations : a.operation ≡ b.operation = sym (port_back a.operation f.operation) ∙ ap (signed_from_bytes w32) two.0 ∙ port_back b.operation g.operation in
    let hashes : a.hash ≡ b.hash = sym (signed_8 a.hash f.hash) ∙ ap (signed_from_bytes w64) two.1 ∙ signed_8 b.hash g.hash in
    ap (λ x. head_with x a.operation a.hash) ids ∙ ap (λ x. head_with b.id x a.hash) operations ∙ ap (λ x. head_with b.id b.operation x) hashes

-- ---- what begins with a head

-- These bytes begin with this head.
pub record Begins (head : CallHead) (bytes : List ℕ) : Type 0 where
  pub front : List ℕ
  pub left : ℕ
  pub more : List ℕ
  pub is : bytes ≡ front ++ more
  pub heading : EndsWithHead head front left

pub call_begins : (head : CallHead) (params : List TypeCode) (arguments : Arguments) (bytes : List ℕ) → CallBytes head params arguments (0x50 ∷ bytes) → Begins head bytes
call_begins head params arguments bytes call =
    let h = call_has_head head params arguments (0x50 ∷ bytes) call in
    let e = h.ends in
    record {
      front = 0xAC ∷ 0xED ∷ 0x00 ∷ 0x05 ∷ e.contents;
      left = h.left;
      more = h.rest;
      is = ap (drop 1) (h.is ∙ ap (λ (l : List ℕ). l ++ h.rest) e.headed);
      heading = record { contents = e.contents; headed = refl; ends = e.ends };
    }
