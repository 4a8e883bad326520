-- The bytes of heads, and what reading one gives.
use Rattle.std.proofs.Common.{◌≡◌, ℕ, List, [], ◌∷◌, ◌++◌, length, take, drop, Ok, refl, ap, sym, ◌∙◌, arith}
use Rattle.std.specs.Int.{w32, w64}
use Rattle.std.proofs.lemmas.List.{take-append-drop}
use Rattle.std.proofs.Math.Seq.{take-add}
use Rattle.wire_io.specs.Pulled.{PullState}
use Rattle.object_ids.specs.Bytes.{signed_bytes, bytes_of_objid}
use Rattle.class_desc.specs.declared.slot.Item.TheVariants as items
use Rattle.ser_values.specs.Fronts.{put_block}
use Rattle.stream_grammar.specs.Reading.{short, magic_at}
use Rattle.ser_read.specs.declared.serving.Want.TheVariants as wanted
use Rattle.ser_read.specs.Here.{Reads}
use Rattle.ser_read.specs.Wants.{inside, Stand, nothing_read, bytes_at, want_at, serve}
use Rattle.ser_read.proofs.Served.{lifted_ok}
use Rattle.ser_read.proofs.SpelledWants.{serve_fits, serve_items}
use Rattle.jrmp_frames.specs.declared.head.CallHead.{CallHead}
use Rattle.jrmp_frames.specs.Messages.{head_bytes}
use Rattle.jrmp_frames.specs.Calls.{front_at, head_at}

-- A head whose parts spell the parts of some bytes spells them.
pub head_joined : (bs : List ℕ) (head : CallHead) → bytes_of_objid head.id ≡ take 22 bs → signed_bytes w32 head.operation ≡ take 4 (drop 22 bs) → signed_bytes w64 head.hash ≡ drop 26 bs → head_bytes head ≡ bs
unfolding head_bytes
head_joined bs head i o h =
    ap (λ l. l ++ signed_bytes w32 head.operation ++ signed_bytes w64 head.hash) i
    ∙ ap (λ l. take 22 bs ++ l ++ signed_bytes w64 head.hash) o
    ∙ ap (λ l. take 22 bs ++ take 4 (drop 22 bs) ++ l) h
    ∙ ap (λ l. l ++ drop 26 bs) (sym (take-add 22 4 bs))
    ∙ take-append-drop 26 bs

pub some_bytes : (b : List ℕ) → length b ≡ 34 → put_block b [] ≡ items.Bytes b ∷ []
some_bytes [] e = absurd (omega arith)
some_bytes (x ∷ b) e = refl

-- What is read in front of a stream are so many bytes, and nothing else was read then.
pub front_is : (n end : ℕ) (bs b rest : List ℕ) (s : Stand) → front_at n end bs ≡ Ok (b, s, rest) → (length b ≡ n) × (s.items ≡ put_block b [])
unfolding serve want_at
front_is n end bs b rest s e =
    let m = lifted_ok (magic_at end (0xAC ∷ 0xED ∷ 0x00 ∷ 0x05 ∷ []) bs) (bytes_at end n nothing_read) (b, s, rest) e in
    let one : serve end (wanted.Bytes n ∷ []) nothing_read m.0 ≡ Ok (items.Bytes b ∷ [], s, rest) = rw m.2 refl in
    let fits = serve_fits end (wanted.Bytes n ∷ []) nothing_read m.0 (items.Bytes b ∷ [], s, rest) one in
    (fits.0, serve_items end (wanted.Bytes n ∷ []) nothing_read m.0 (items.Bytes b ∷ [], s, rest) one [] refl)

-- Of a head they are 34 bytes.
pub head_is : (end : ℕ) (bs b rest : List ℕ) (s : Stand) → head_at end bs ≡ Ok (b, s, rest) → (length b ≡ 34) × (s.items ≡ items.Bytes b ∷ [])
unfolding head_at
head_is end bs b rest s e = let f = front_is 34 end bs b rest s e in (f.0, f.1 ∙ some_bytes b f.0)

pub head_read : {p q : PullState} (b : List ℕ) (s : Stand) → Reads (inside short) p q head_at (λ rest. (b, s, rest)) → (length b ≡ 34) × (s.items ≡ items.Bytes b ∷ [])
head_read {p} {q} b s r = head_is _ _ b [] s (r.is [])
