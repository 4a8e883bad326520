-- Streams whose bytes end at any position: what is read is a stream of a graph, and each stream is read.
use Rattle.std.proofs.Common.{◌≡◌, ℕ, ◌+◌, ◌-◌, ◌≤◌, false, cond, eqb, List, [], ◌∷◌, ◌++◌, length, Ok, Err, refl, sym, ap, subst, ◌∙◌, arith}
use Rattle.std.proofs.lemmas.Bool.{eqb-true}
use Rattle.class_desc.specs.declared.slot.Item.{Item}
use Rattle.ser_values.specs.declared.node.Node.{Node}
use Rattle.ser_values.specs.declared.node.SlotPlace.TheVariants as places
use Rattle.ser_values.specs.Node.{has}
use Rattle.ser_values.specs.Numbered.{IsGraph}
use Rattle.std.proofs.lemmas.List.Elements.{All-nil}
use Rattle.ser_values.specs.Ranges.{ItemsFit, InRange}
use Rattle.ser_values.proofs.Ranged.{numbers_of, units_of}
use Rattle.ser_values.specs.Shape.{parts_in}
use Rattle.stream_grammar.specs.Spelled.{Spells, SpellsItems, IsStream}
use Rattle.stream_grammar.specs.Reading.{◌>>=◌, Fault, bad, bad_magic, byte_at, magic_at, items_at, slot_at, stream_of}
use Rattle.stream_grammar.proofs.PlainSound as plain_sound
use Rattle.stream_grammar.proofs.PlainSound.{bind_ok, passed, ok_is}
use Rattle.stream_grammar.proofs.StepSound.{byte_spells}
use Rattle.stream_grammar.proofs.Solid.{Solid}
use Rattle.stream_grammar.specs.Faults.{AreBytes, FaultStands}
use Rattle.stream_grammar.proofs.Standing.{stream_from, stands_from}
use Rattle.stream_grammar.proofs.NoteSound.{items_sound}
use Rattle.stream_grammar.proofs.Sound.{Answer, magic_sound, slots_sound}
use Rattle.stream_grammar.proofs.Spelling.{stream_graph}
use Rattle.stream_grammar.proofs.Shrinks.{spells_shrink, stream_few}
use Rattle.stream_grammar.proofs.Mirror.{Ready}
use Rattle.stream_grammar.proofs.SameTokens.{spells_begin}
use Rattle.stream_grammar.proofs.OneReading.{same_list}
use Rattle.stream_grammar.proofs.Notes.{items_reads}
use Rattle.stream_grammar.proofs.Complete.{Given, slots_complete, answer, magic_read}
use Rattle.ser_read.specs.Whole.{nothing_read, stream_at}

-- Reading from position 0 is reading of a whole stream.
pub from_start : (bytes : List ℕ) → stream_of bytes ≡ stream_at (length bytes) bytes
unfolding stream_of stream_at
from_start bytes = refl

-- Each fault stands in the bytes.
pub faults_stand : (end : ℕ) (bytes : List ℕ) (fault : Fault) → length bytes ≤ end → stream_at end bytes ≡ Err fault → FaultStands (end - length bytes) bytes fault
unfolding stream_at
faults_stand end bytes fault le e =
    let start : (end - length bytes) + length bytes ≡ end = omega arith in
    stands_from (end - length bytes) bytes fault (ap (λ k. stream_from k bytes) start ∙ e)

same_bytes : (bs : List ℕ) → AreBytes bs → plain_sound.AreBytes bs
same_bytes [] are = tt
same_bytes (b ∷ bs) are = (are.0, same_bytes bs are.1)

-- Bytes that are read are a stream of the nodes and items that are answered, and the items' bytes are in range.
stream_at_got : (end : ℕ) (bytes : List ℕ) (x : Answer) → AreBytes bytes → stream_at end bytes ≡ Ok x → IsStream x.0 x.1 bytes × ItemsFit x.1
unfolding stream_at has parts_in
stream_at_got end bytes x are e =
    let a = bind_ok (magic_at end (0xAC ∷ 0xED ∷ 0x00 ∷ 0x05 ∷ []) bytes) (λ bs. items_at end (slot_at end 200 places.Reference []) false nothing_read bs >>= λ x. Ok (x.1.nodes, x.0)) x e in
    let b = bind_ok (items_at end (slot_at end 200 places.Reference []) false nothing_read a.0) (λ x. Ok (x.1.nodes, x.0)) x a.2 in
    let y = b.0 in
    let m = magic_sound end (0xAC ∷ 0xED ∷ 0x00 ∷ 0x05 ∷ []) bytes a.0 a.1 (same_bytes bytes are) in
    let solid : Solid [] nothing_read = record { above = λ k i gone is desc. absurd cc; good = λ k i gone is. absurd cc; below = λ k h. absurd cc; few = omega arith; ranged = All-nil InRange } in
    let g = items_sound (λ F. Spells F 200) (slot_at end 200) (slots_sound end 200) [] end false nothing_read a.0 y b.1 solid m.left in
    let F = y.1.nodes in
    let spelled : SpellsItems (Spells F 200 []) y.0 0 a.0 g.stop (length F) = g.got.spelled F (record { descs = λ k i gone is desc. is; texts = λ k i is t. is; long = omega arith }) (λ k low lt. refl) in
    let ended : SpellsItems (Spells F 200 []) y.0 0 a.0 [] (length F) = subst (λ (l : List ℕ). SpellsItems (Spells F 200 []) y.0 0 a.0 l (length F)) g.ends.0 spelled in
    let all : parts_in F ≡ parts_in g.got.added = ap parts_in g.got.grown in
    let p = g.got.parts in
    let few = g.got.solid.few in
    let ranged = g.got.solid.ranged in
    subst (λ (x : Answer). IsStream x.0 x.1 bytes × ItemsFit x.1) (ok_is (F, y.0) x b.2) (record { contents = a.0; headed = m.parts; spelled = ended; numbers = numbers_of F ranged; units = units_of F ranged; few_parts = omega arith; are_bytes = are }, g.ranged)

pub stream_at_sound : (end : ℕ) (bytes : List ℕ) (x : Answer) → AreBytes bytes → stream_at end bytes ≡ Ok x → IsStream x.0 x.1 bytes
stream_at_sound end bytes x are e = (stream_at_got end bytes x are e).0

-- What is read is a graph.
pub graph_at : (end : ℕ) (bytes : List ℕ) (x : Answer) → AreBytes bytes → stream_at end bytes ≡ Ok x → IsGraph x.0 x.1
graph_at end bytes x are e = let s = stream_at_got end bytes x are e in stream_graph x.0 x.1 bytes s.0 (stream_few x.0 x.1 bytes s.0) s.1

-- Each stream is read.
pub stream_at_complete : (end : ℕ) (nodes : List Node) (items : List Item) (bytes : List ℕ) → IsStream nodes items bytes → stream_at end bytes ≡ Ok (nodes, items)
unfolding stream_at has parts_in
stream_at_complete end F is bytes h =
    let limit = h.few_parts in
    let given : Given F = record { few = stream_few F is bytes h; parts = omega arith; numbers = h.numbers; units = h.units } in
    let ready : Ready F [] nothing_read = record { few = omega arith; below = λ k e. absurd cc; known = λ k i lt e is d. absurd (omega arith); texts = λ k i lt is t. absurd (omega arith) } in
    let magic : magic_at end (0xAC ∷ 0xED ∷ 0x00 ∷ 0x05 ∷ []) bytes ≡ Ok h.contents = ap (magic_at end (0xAC ∷ 0xED ∷ 0x00 ∷ 0x05 ∷ [])) h.headed ∙ magic_read end h.contents in
    let r = items_reads F (Spells F 200) (slot_at end 200) (slots_complete F given end 200) (spells_begin F 200) [] (spells_shrink F 200 []) end false is nothing_read h.contents [] [] (length F) h.spelled (refl, refl) ready (omega arith) in
    let same : F ≡ r.later.nodes = same_list F r.later.nodes (sym r.len) (λ k lt. r.after.agrees k (omega arith) (let e : length r.later.nodes ≡ length F = r.len in omega arith)) in
    rw magic (rw r.is (ap (λ (l : List Node). answer l is) (sym same)))
