-- What is printed of a text that outlines a class.
use Rattle.std.proofs.Common.{◌≡◌, ℕ, List, Result, Ok, Err, IfOk}
use Rattle.std.specs.Prelude.{IfErr}
use Rattle.suid_calc.specs.declared.outline.ClassOutline.{ClassOutline}
use Rattle.suid_calc.specs.Whole.{Spells}
use Rattle.rmi_words.specs.declared.command.ClassOutput.{ClassOutput}
use Rattle.rmi_cli.specs.Printing.{output_of, IsPrintable, IsReadable, Prints, IsUnprinted, LacksOutput}
use Rattle.rmi_cli.specs.declared.class_output.ClassFault.{ClassFault}
use Rattle.rmi_cli.specs.declared.class_output.ClassFault.TheVariants.{BadLine, TooManyFields, OutOfMemory}

pub printed : (output : ClassOutput) (text : List ℕ) (outline : ClassOutline) (result : Result (List ℕ) ClassFault) → Spells text outline
    → IfOk result (λ bytes. bytes ≡ output_of output outline) → IfOk result (λ _. IsPrintable output outline) → IfOk result (λ bytes. IsReadable output outline bytes)
    → IfOk result (λ bytes. Prints output text bytes)
printed output text outline (Ok bytes) spells is fits reads = record { outline = outline; spells = spells; printable = fits; readable = reads; is = is }
printed output text outline (Err fault) spells is fits reads = tt

pub unprinted : (output : ClassOutput) (text : List ℕ) (outline : ClassOutline) (result : Result (List ℕ) ClassFault) → Spells text outline
    → IfErr result (LacksOutput output outline) → IfErr result (IsUnprinted output text)
unprinted output text outline (Ok bytes) spells lacks = tt
unprinted output text outline (Err (BadLine line)) spells lacks = absurd lacks
unprinted output text outline (Err TooManyFields) spells lacks = record { outline = outline; spells = spells; described = lacks.0; many = lacks.1 }
unprinted output text outline (Err OutOfMemory) spells lacks = tt
