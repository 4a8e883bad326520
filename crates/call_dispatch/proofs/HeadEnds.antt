-- The bytes that were taken of a head.
use Rattle.std.proofs.Common.{◌≡◌, ℕ, ◌+◌, List, [], ◌∷◌, length, Result, Ok, Err, refl, ap, sym, subst, ◌∙◌, arith, append-nil}
use Rattle.wire_io.specs.Pulled.{PullState}
use Rattle.class_desc.specs.declared.slot.Item.TheVariants as items
use Rattle.stream_grammar.specs.Reading.{magic_at}
use Rattle.ser_read.specs.declared.serving.Want.TheVariants as wanted
use Rattle.stream_grammar.specs.Faults.{AreBytes}
use Rattle.ser_read.specs.Named.{add_bytes}
use Rattle.ser_read.specs.Wants.{WantFault, ◌▸◌, Stand, nothing_read, bytes_at, run_at, want_at, serve}
use Rattle.ser_read.specs.Heading.{inside_block}
use Rattle.ser_read.proofs.InOrder.{magic_is}
use Rattle.ser_read.proofs.Served.{lifted_ok, given_is}
use Rattle.ser_read.proofs.Heading as heading
use Rattle.jrmp_frames.specs.declared.head.CallHead.{CallHead}
use Rattle.jrmp_frames.specs.Messages.{head_bytes}
use Rattle.jrmp_frames.specs.Calls.{head_at, ReadsHead}
use Rattle.jrmp_frames.proofs.Heads.{head_is}
use Rattle.call_dispatch.specs.Served.{EndsWithHead}

-- how far a reader has come that ran so far through block data
abbrev ran_to : List ℕ → ℕ → Stand
ran_to bytes left = record { progress = nothing_read.progress; items = add_bytes [] bytes; block = left }

abbrev run_then : List ℕ × ℕ × List ℕ → Result (List ℕ × Stand × List ℕ) WantFault
run_then x = Ok (x.0, ran_to x.0 x.1, x.2)

run_stands : (r : Result (List ℕ × ℕ × List ℕ) WantFault) (bytes rest : List ℕ) (s : Stand) → (r ▸ run_then) ≡ Ok (bytes, s, rest) → s ≡ ran_to bytes s.block
run_stands (Ok r) bytes rest s e =
    let P : List ℕ × Stand × List ℕ → Type 0 = λ x. x.1 ≡ ran_to x.0 x.1.block in
    subst P (given_is (r.0, ran_to r.0 r.1, r.2) (bytes, s, rest) e) refl
run_stands (Err f) bytes rest s e = absurd (cc)

bytes_stand : (end : ℕ) (bs bytes rest : List ℕ) (s : Stand) → bytes_at end 34 nothing_read bs ≡ Ok (bytes, s, rest) → s ≡ ran_to bytes s.block
unfolding bytes_at
bytes_stand end bs bytes rest s e = run_stands (run_at end 34 0 bs) bytes rest s e

-- Where a head was read, the reader stands inside a block, or at its end, and has the head's bytes alone.
pub head_stands : (first now : PullState) (head : CallHead) (stand : Stand) → (reads : ReadsHead first now head stand)
    → (left : ℕ) × EndsWithHead head reads.taken left × (stand ≡ inside_block (head_bytes head) left)
unfolding head_at serve want_at
head_stands first now head stand reads =
    let end : ℕ = now.at + 0 in
    let b : List ℕ = head_bytes head in
    let e : head_at end reads.taken ≡ Ok (b, stand, []) = ap (head_at end) (sym (append-nil reads.taken)) ∙ reads.is [] in
    let is : (length b ≡ 34) × (stand.items ≡ items.Bytes b ∷ []) = head_is end reads.taken b [] stand e in
    let m = lifted_ok (magic_at end (0xAC ∷ 0xED ∷ 0x00 ∷ 0x05 ∷ []) reads.taken) (bytes_at end 34 nothing_read) (b, stand, []) e in
    let headed : reads.taken ≡ 0xAC ∷ 0xED ∷ 0x00 ∷ 0x05 ∷ m.0 = magic_is end (0xAC ∷ 0xED ∷ 0x00 ∷ 0x05 ∷ []) reads.taken m.0 m.1 in
    let stands : stand ≡ ran_to b stand.block = bytes_stand end m.0 b [] stand m.2 in
    let alone : add_bytes [] b ≡ items.Bytes b ∷ [] = ap (λ (s : Stand). s.items) (sym stands) ∙ is.1 in
    let inside : stand ≡ inside_block b stand.block = stands ∙ ap (λ l. record { progress = nothing_read.progress; items = l; block = stand.block }) alone in
    let one : serve end (wanted.Bytes 34 ∷ []) nothing_read m.0 ≡ Ok (items.Bytes b ∷ [], stand, []) = rw m.2 refl in
    let two : serve end (wanted.Bytes 34 ∷ []) nothing_read m.0 ≡ Ok (items.Bytes b ∷ [], inside_block b stand.block, []) = one ∙ ap (λ (s : Stand). Ok (items.Bytes b ∷ [], s, [])) inside in
    let P : List ℕ → Type 0 = λ l. AreBytes l in
    let bytes : AreBytes (0xAC ∷ 0xED ∷ 0x00 ∷ 0x05 ∷ m.0) = subst P headed reads.bytes in
    (stand.block, record { contents = m.0; headed = headed; ends = (heading.head_ends end 34 m.0 b stand.block (omega arith) bytes.1.1.1.1).0 two }, inside)
