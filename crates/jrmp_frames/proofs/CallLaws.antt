-- Laws of calls.
use Rattle.std.proofs.Common.{◌≡◌, ℕ, List, ◌∷◌, ◌++◌, refl, sym, ap, ◌∙◌, drop, arith}
use Rattle.class_desc.specs.declared.slot.Item.{Item}
use Rattle.class_desc.specs.declared.slot.Item.TheVariants as items
use Rattle.stream_grammar.specs.Spelled.{joined}
use Rattle.ser_read.specs.declared.serving.Want.TheVariants as wanted
use Rattle.ser_read.proofs.WantLaws.{spelled_is_one}
use Rattle.ser_read.proofs.Heading.{spelled_is_headed}
use Rattle.jrmp_frames.specs.Messages.{head_bytes, wants_of, args_of}
use Rattle.jrmp_frames.specs.MessageLaws.{CallIsOne, CallHasHead}

first_bytes : (a b : List ℕ) (is js : List Item) → items.Bytes a ∷ is ≡ items.Bytes b ∷ js → a ≡ b
first_bytes a b is js e = cc

pub call_is_one : CallIsOne
call_is_one params head other_head arguments others one other after behind a b e =
    let inside : a.contents ++ after ≡ b.contents ++ behind = ap (drop 5) (ap (λ l. l ++ after) (sym a.headed) ∙ e ∙ ap (λ l. l ++ behind) b.headed) in
    let same = spelled_is_one (wanted.Bytes 34 ∷ wants_of params) (items.Bytes (head_bytes head) ∷ a.answers) (items.Bytes (head_bytes other_head) ∷ b.answers) arguments.graph.nodes others.graph.nodes a.contents b.contents after behind a.asked b.asked inside in
    let answers : a.answers ≡ b.answers = ap (drop 1) same.0 in (
      a.headed ∙ ap (λ (l : List ℕ). 0x50 ∷ 0xAC ∷ 0xED ∷ 0x00 ∷ 0x05 ∷ l) same.2 ∙ sym b.headed,
      first_bytes (head_bytes head) (head_bytes other_head) a.answers b.answers same.0,
      same.1,
      a.items ∙ ap joined answers ∙ sym b.items,
      a.values ∙ ap (args_of params) answers ∙ sym b.values,
    )

pub call_has_head : CallHasHead
call_has_head head params arguments bytes a =
    let h = spelled_is_headed 0 34 a.contents (head_bytes head) (wants_of params) a.answers arguments.graph.nodes (omega arith) a.asked in
    record {
      left = h.left;
      front = 0x50 ∷ 0xAC ∷ 0xED ∷ 0x00 ∷ 0x05 ∷ h.head;
      rest = h.more;
      is = a.headed ∙ ap (λ (l : List ℕ). 0x50 ∷ 0xAC ∷ 0xED ∷ 0x00 ∷ 0x05 ∷ l) h.is;
      ends = record { contents = h.head; headed = refl; ends = h.ends };
    }
