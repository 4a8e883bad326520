-- What printing a told input comes to is determined by the input.
use Rattle.std.proofs.Common.{◌≡◌, ◌≤◌, ◌<◌, ℕ, List, [], ◌∷◌, ◌++◌, length, map, filter, Some, ◌⊎◌, inl, inr, ap, sym, subst, ◌∙◌, arith}
use Rattle.wire_io.specs.Wire.{Wires, with_end}
use Rattle.class_desc.specs.declared.desc.ClassDesc.{ClassDesc}
use Rattle.class_desc.specs.declared.slot.Slot.TheVariants as slots
use Rattle.graph_text.specs.GraphText.{hex, suid_text as number_text}
use Rattle.ser_values.specs.declared.node.Node.TheVariants as nodes
use Rattle.ser_write.specs.Canonical.{canonical}
use Rattle.suid_calc.specs.declared.description.TheConstants.{MAX_FIELDS}
use Rattle.suid_calc.specs.declared.outline.ClassOutline.{ClassOutline}
use Rattle.suid_calc.specs.declared.outline.Member.{Member}
use Rattle.suid_calc.specs.Description.{is_serial, texts_of, fields_of, one_item, items_of, count_of}
use Rattle.suid_calc.specs.Grammar.{IsBadLine}
use Rattle.suid_calc.specs.Text.{suid_of, suid_text}
use Rattle.suid_calc.specs.Whole.{Spells}
use Rattle.suid_calc.proofs.OrderLaws.{IsSameOutline, bad_once, no_outline, outlined_once}
use Rattle.rmi_words.specs.declared.command.ClassOutput.{ClassOutput}
use Rattle.rmi_words.specs.declared.command.ClassOutput.TheVariants as outputs
use Rattle.rmi_cli.specs.declared.class_input.TheConstants.{OUTLINE_BYTES}
use Rattle.rmi_cli.specs.declared.end.RunEnd.{RunEnd}
use Rattle.rmi_cli.specs.declared.end.RunEnd.TheVariants as ends
use Rattle.rmi_cli.specs.Answer.{IsOutsideStatus}
use Rattle.rmi_cli.specs.Printing.{output_of, IsPrintable, Prints, HasTooManyFields, TakesOutline, PrintEnds, PrintsExactly}
use Rattle.rmi_cli.specs.Told.{Reported, TellsExactly, TellsEnd}
use Rattle.rmi_cli.proofs.Once.{whole_is, front_short}

-- ---- one output

abbrev AreSame : ClassOutline → ClassOutline → Type 0
AreSame a b = IsSameOutline a.modifiers a.name a.members b.modifiers b.name b.members

same_outline : (input : List ℕ) (a b : ClassOutline) → Spells input a → Spells input b → AreSame a b
same_outline input a b x y = outlined_once input a.modifiers b.modifiers a.name b.name a.members b.members x y a.ordered b.ordered

-- What is made of the parts of an outline is the same of the same parts.
alike : {X : Type 0} (made : ℕ → List ℕ → List Member → X) (a b : ClassOutline) → AreSame a b → made a.modifiers a.name a.members ≡ made b.modifiers b.name b.members
alike made a b same =
    ap (λ (m : ℕ). made m a.name a.members) same.modifiers ∙ ap (λ (n : List ℕ). made b.modifiers n a.members) same.name ∙ ap (λ (ms : List Member). made b.modifiers b.name ms) same.members

abbrev desc_from : ℕ → List ℕ → List Member → ClassDesc
desc_from modifiers name members = record {
  name = name;
  suid = suid_of modifiers name members;
  flags = 2;
  fields = fields_of (texts_of members) members;
  note = one_item slots.Null;
  parent = slots.Null;
}

same_output : (output : ClassOutput) (a b : ClassOutline) → AreSame a b → output_of output a ≡ output_of output b
same_output outputs.Number a b same = alike (λ m n ms. number_text (suid_of m n ms) ++ 10 ∷ []) a b same
same_output outputs.Text a b same = alike (λ m n ms. hex (suid_text m n ms) ++ 10 ∷ []) a b same
same_output outputs.Description a b same = alike (λ m n ms. canonical (nodes.Desc (desc_from m n ms) ∷ map (λ t. nodes.Text t) (texts_of ms)) items_of) a b same

-- One output is printed of an input.
prints_once : (output : ClassOutput) (input a b : List ℕ) → Prints output input a → Prints output input b → a ≡ b
prints_once output input a b x y = x.is ∙ same_output output x.outline y.outline (same_outline input x.outline y.outline x.spells y.spells) ∙ sym y.is

-- Nothing is printed where there are too many fields.
not_both : (output : ClassOutput) (input bytes : List ℕ) → Prints output input bytes → HasTooManyFields output input → ⊥
not_both output input bytes x y =
    let few : count_of x.outline ≤ MAX_FIELDS = subst (λ (o : ClassOutput). IsPrintable o x.outline) y.described x.printable in
    let same : count_of x.outline ≡ count_of y.outline = alike (λ m n ms. length (filter is_serial ms)) x.outline y.outline (same_outline input x.outline y.outline x.spells y.spells) in
    omega (arith, few, same, y.many)

not_bad : (input : List ℕ) (line : ℕ) (outline : ClassOutline) → IsBadLine input line → Spells input outline → ⊥
not_bad input line outline bad spells = no_outline input line bad (outline.modifiers, (outline.name, (outline.members, spells)))

-- ---- the whole input

all_taken : (old new : Wires) (input taken : List ℕ) → old.left ≡ Some input → TakesOutline old new taken → (taken ≡ input) × (new.left ≡ Some [])
all_taken old new input taken told whole = whole_is input taken new.left (sym told ∙ whole.left) whole.nothing

same_input : (P : List ℕ → Type 0) (old new : Wires) (input taken : List ℕ) → old.left ≡ Some input → TakesOutline old new taken → P taken → P input
same_input P old new input taken told whole = subst P (all_taken old new input taken told whole).0

no_room : (old new : Wires) (input taken : List ℕ) → old.left ≡ Some input → OUTLINE_BYTES < length input → TakesOutline old new taken → ⊥
no_room old new input taken told long whole =
    let short : length input ≤ OUTLINE_BYTES = same_input (λ i. length i ≤ OUTLINE_BYTES) old new input taken told whole whole.short in
    omega (arith, short, long)

-- The bytes were printed, and this is told.
abbrev Printed : Wires → Wires → Reported → List ℕ → Type 0
Printed old new told bytes = TellsExactly told ends.Done × (new.left ≡ Some []) × (new.held ≡ with_end old.held bytes)

-- Nothing was printed, and this end is told.
abbrev Ends : Wires → Wires → Reported → RunEnd → Type 0
Ends old new told end = TellsExactly told end × (new.held ≡ old.held)

printed : (output : ClassOutput) (old new : Wires) (faults faults2 : ℕ) (told : Reported) (end : RunEnd) → PrintEnds output old new faults faults2 end → TellsExactly told end
    → (input bytes : List ℕ) → old.left ≡ Some input → length input ≤ OUTLINE_BYTES → Prints output input bytes → Printed old new told bytes ⊎ IsOutsideStatus told.status
printed output old new faults faults2 told ends.Done (taken, bytes2, whole, prints2, held) tells input bytes left short prints =
    let same = prints_once output input bytes2 bytes (same_input (λ i. Prints output i bytes2) old new input taken left whole prints2) prints in
    inl (tells, (all_taken old new input taken left whole).1, held ∙ ap (λ b. with_end old.held b) same)
printed output old new faults faults2 told ends.Usage e tells input bytes left short prints = absurd e
printed output old new faults faults2 told (ends.Answered end) e tells input bytes left short prints = absurd e
printed output old new faults faults2 told (ends.Talked end) e tells input bytes left short prints = absurd e
printed output old new faults faults2 told (ends.BadLine line) (taken, whole, bad, held) tells input bytes left short prints =
    absurd (not_bad input line prints.outline (same_input (λ i. IsBadLine i line) old new input taken left whole bad) prints.spells)
printed output old new faults faults2 told ends.Refused (taken, whole, many, held) tells input bytes left short prints =
    absurd (not_both output input bytes prints (same_input (HasTooManyFields output) old new input taken left whole many))
printed output old new faults faults2 told (ends.TooLarge limit) (is, (front, long, most, front_is), held) tells input bytes left short prints =
    absurd (omega (arith, front_short input front new.left (sym left ∙ front_is), long, short))
printed output old new faults faults2 told (ends.NotShown fault) e tells input bytes left short prints = absurd e
printed output old new faults faults2 told ends.ListenFault e tells input bytes left short prints = absurd e
printed output old new faults faults2 told ends.AcceptFault e tells input bytes left short prints = absurd e
printed output old new faults faults2 told ends.ReadFault e tells input bytes left short prints = inr (inl tells.0)
printed output old new faults faults2 told ends.WriteFault e tells input bytes left short prints = inr (inr (inl tells.0))
printed output old new faults faults2 told ends.OutOfMemory e tells input bytes left short prints = inr (inr (inr tells.0))

bad : (output : ClassOutput) (old new : Wires) (faults faults2 : ℕ) (told : Reported) (end : RunEnd) → PrintEnds output old new faults faults2 end → TellsExactly told end
    → (input : List ℕ) (line : ℕ) → old.left ≡ Some input → length input ≤ OUTLINE_BYTES → IsBadLine input line → Ends old new told (ends.BadLine line) ⊎ IsOutsideStatus told.status
bad output old new faults faults2 told ends.Done (taken, bytes, whole, prints, held) tells input line left short wrong =
    let mine = same_input (λ i. Prints output i bytes) old new input taken left whole prints in
    absurd (not_bad input line mine.outline wrong mine.spells)
bad output old new faults faults2 told ends.Usage e tells input line left short wrong = absurd e
bad output old new faults faults2 told (ends.Answered end) e tells input line left short wrong = absurd e
bad output old new faults faults2 told (ends.Talked end) e tells input line left short wrong = absurd e
bad output old new faults faults2 told (ends.BadLine line2) (taken, whole, wrong2, held) tells input line left short wrong =
    let same = bad_once input line2 line (same_input (λ i. IsBadLine i line2) old new input taken left whole wrong2) wrong in
    inl (subst (λ n. TellsExactly told (ends.BadLine n)) same tells, held)
bad output old new faults faults2 told ends.Refused (taken, whole, many, held) tells input line left short wrong =
    let mine = same_input (HasTooManyFields output) old new input taken left whole many in
    absurd (not_bad input line mine.outline wrong mine.spells)
bad output old new faults faults2 told (ends.TooLarge limit) (is, (front, long, most, front_is), held) tells input line left short wrong =
    absurd (omega (arith, front_short input front new.left (sym left ∙ front_is), long, short))
bad output old new faults faults2 told (ends.NotShown fault) e tells input line left short wrong = absurd e
bad output old new faults faults2 told ends.ListenFault e tells input line left short wrong = absurd e
bad output old new faults faults2 told ends.AcceptFault e tells input line left short wrong = absurd e
bad output old new faults faults2 told ends.ReadFault e tells input line left short wrong = inr (inl tells.0)
bad output old new faults faults2 told ends.WriteFault e tells input line left short wrong = inr (inr (inl tells.0))
bad output old new faults faults2 told ends.OutOfMemory e tells input line left short wrong = inr (inr (inr tells.0))

many : (output : ClassOutput) (old new : Wires) (faults faults2 : ℕ) (told : Reported) (end : RunEnd) → PrintEnds output old new faults faults2 end → TellsExactly told end
    → (input : List ℕ) → old.left ≡ Some input → length input ≤ OUTLINE_BYTES → HasTooManyFields output input → Ends old new told ends.Refused ⊎ IsOutsideStatus told.status
many output old new faults faults2 told ends.Done (taken, bytes, whole, prints, held) tells input left short has =
    absurd (not_both output input bytes (same_input (λ i. Prints output i bytes) old new input taken left whole prints) has)
many output old new faults faults2 told ends.Usage e tells input left short has = absurd e
many output old new faults faults2 told (ends.Answered end) e tells input left short has = absurd e
many output old new faults faults2 told (ends.Talked end) e tells input left short has = absurd e
many output old new faults faults2 told (ends.BadLine line) (taken, whole, wrong, held) tells input left short has =
    absurd (not_bad input line has.outline (same_input (λ i. IsBadLine i line) old new input taken left whole wrong) has.spells)
many output old new faults faults2 told ends.Refused (taken, whole, has2, held) tells input left short has = inl (tells, held)
many output old new faults faults2 told (ends.TooLarge limit) (is, (front, long, most, front_is), held) tells input left short has =
    absurd (omega (arith, front_short input front new.left (sym left ∙ front_is), long, short))
many output old new faults faults2 told (ends.NotShown fault) e tells input left short has = absurd e
many output old new faults faults2 told ends.ListenFault e tells input left short has = absurd e
many output old new faults faults2 told ends.AcceptFault e tells input left short has = absurd e
many output old new faults faults2 told ends.ReadFault e tells input left short has = inr (inl tells.0)
many output old new faults faults2 told ends.WriteFault e tells input left short has = inr (inr (inl tells.0))
many output old new faults faults2 told ends.OutOfMemory e tells input left short has = inr (inr (inr tells.0))

past : (output : ClassOutput) (old new : Wires) (faults faults2 : ℕ) (told : Reported) (end : RunEnd) → PrintEnds output old new faults faults2 end → TellsExactly told end
    → (input : List ℕ) → old.left ≡ Some input → OUTLINE_BYTES < length input → Ends old new told (ends.TooLarge OUTLINE_BYTES) ⊎ IsOutsideStatus told.status
past output old new faults faults2 told ends.Done (taken, bytes, whole, prints, held) tells input left long = absurd (no_room old new input taken left long whole)
past output old new faults faults2 told ends.Usage e tells input left long = absurd e
past output old new faults faults2 told (ends.Answered end) e tells input left long = absurd e
past output old new faults faults2 told (ends.Talked end) e tells input left long = absurd e
past output old new faults faults2 told (ends.BadLine line) (taken, whole, wrong, held) tells input left long = absurd (no_room old new input taken left long whole)
past output old new faults faults2 told ends.Refused (taken, whole, has, held) tells input left long = absurd (no_room old new input taken left long whole)
past output old new faults faults2 told (ends.TooLarge limit) (is, front, held) tells input left long = inl (subst (λ n. TellsExactly told (ends.TooLarge n)) is tells, held)
past output old new faults faults2 told (ends.NotShown fault) e tells input left long = absurd e
past output old new faults faults2 told ends.ListenFault e tells input left long = absurd e
past output old new faults faults2 told ends.AcceptFault e tells input left long = absurd e
past output old new faults faults2 told ends.ReadFault e tells input left long = inr (inl tells.0)
past output old new faults faults2 told ends.WriteFault e tells input left long = inr (inr (inl tells.0))
past output old new faults faults2 told ends.OutOfMemory e tells input left long = inr (inr (inr tells.0))

-- What was printed to such an end, and is told, is exact.
pub prints_exactly : (output : ClassOutput) (old new : Wires) (faults faults2 : ℕ) (told : Reported) (end : RunEnd) → PrintEnds output old new faults faults2 end → TellsEnd told end → PrintsExactly output old new told
prints_exactly output old new faults faults2 told end e (inl tells) = record {
  printed = printed output old new faults faults2 told end e tells;
  bad = bad output old new faults faults2 told end e tells;
  many = many output old new faults faults2 told end e tells;
  past = past output old new faults faults2 told end e tells;
}
prints_exactly output old new faults faults2 told end e (inr memory) = record {
  printed = λ input bytes left short prints. inr (inr (inr memory.1.0));
  bad = λ input line left short wrong. inr (inr (inr memory.1.0));
  many = λ input left short has. inr (inr (inr memory.1.0));
  past = λ input left long. inr (inr (inr memory.1.0));
}
