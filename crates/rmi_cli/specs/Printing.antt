-- What `rmi suid`, `rmi suidtext` and `rmi describe` take and write.
use Rattle.std.specs.Prelude.{◌≡◌, ℕ, ◌+◌, ◌<◌, ◌≤◌, ◌⊎◌, List, [], ◌∷◌, ◌++◌, length, take, Some}
use Rattle.graph_text.specs.GraphText.{hex, suid_text as number_text}
use Rattle.ser_write.specs.Canonical.{canonical}
use Rattle.stream_grammar.specs.Spelled.{IsStream}
use Rattle.suid_calc.specs.declared.description.TheConstants.{MAX_FIELDS}
use Rattle.suid_calc.specs.declared.outline.ClassOutline.{ClassOutline}
use Rattle.suid_calc.specs.Description.{nodes_of, items_of, count_of, IsChecked}
use Rattle.suid_calc.specs.Grammar.{IsBadLine}
use Rattle.suid_calc.specs.Whole.{Spells, number_of, text_of}
use Rattle.wire_io.specs.Wire.{Wires, with_front, with_end, NothingLeft, Rose}
use Rattle.wire_io.specs.declared.whole.TheConstants.{READ_BLOCK}
use Rattle.rmi_words.specs.declared.command.ClassOutput.{ClassOutput}
use Rattle.rmi_words.specs.declared.command.ClassOutput.TheVariants as outputs
use Rattle.rmi_cli.specs.Answer.{IsOutsideStatus}
use Rattle.rmi_cli.specs.Told.{Reported, TellsExactly, TellsEnd}
use Rattle.rmi_cli.specs.declared.class_input.TheConstants.{OUTLINE_BYTES}
use Rattle.rmi_cli.specs.declared.class_output.ClassFault.{ClassFault}
use Rattle.rmi_cli.specs.declared.class_output.ClassFault.TheVariants as causes
use Rattle.rmi_cli.specs.declared.end.RunEnd.{RunEnd}
use Rattle.rmi_cli.specs.declared.end.RunEnd.TheVariants.{Done, Usage, Answered, Talked, BadLine, Refused, TooLarge, NotShown, ListenFault, AcceptFault, ReadFault, WriteFault, OutOfMemory}

-- What is printed of a class: its number in 16 hexadecimal digits and an LF; the text that is hashed, in hexadecimal digits, and an LF; or its
-- description, as a stream.
abbrev pub output_of : ClassOutput → ClassOutline → List ℕ
output_of outputs.Number outline = number_text (number_of outline) ++ 10 ∷ []
output_of outputs.Text outline = hex (text_of outline) ++ 10 ∷ []
output_of outputs.Description outline = canonical (nodes_of outline) items_of

-- A description has at most 32,767 fields.
abbrev pub IsPrintable : ClassOutput → ClassOutline → Type 0
IsPrintable outputs.Number outline = Unit {0}
IsPrintable outputs.Text outline = Unit {0}
IsPrintable outputs.Description outline = count_of outline ≤ MAX_FIELDS

-- A description passes the check of descriptions, and its bytes are a stream of it.
abbrev pub IsReadable : ClassOutput → ClassOutline → List ℕ → Type 0
IsReadable outputs.Number outline bytes = Unit {0}
IsReadable outputs.Text outline bytes = Unit {0}
IsReadable outputs.Description outline bytes = IsChecked outline × ∥ IsStream (nodes_of outline) items_of bytes ∥₁

-- The input outlines a class, and these bytes are printed of it.
pub record Prints (output : ClassOutput) (input bytes : List ℕ) : Type 0 where
  pub outline : ClassOutline
  pub spells : Spells input outline
  pub printable : IsPrintable output outline
  pub readable : IsReadable output outline bytes
  pub is : bytes ≡ output_of output outline

-- The input outlines a class, which is to be described, and has more than 32,767 fields.
pub record HasTooManyFields (output : ClassOutput) (input : List ℕ) : Type 0 where
  pub outline : ClassOutline
  pub spells : Spells input outline
  pub described : output ≡ outputs.Description
  pub many : MAX_FIELDS < count_of outline

-- Why nothing is printed of an outline's class; want of memory says nothing of it.
abbrev pub LacksOutput : ClassOutput → ClassOutline → ClassFault → Type 0
LacksOutput output outline (causes.BadLine line) = ⊥
LacksOutput output outline causes.TooManyFields = (output ≡ outputs.Description) × (MAX_FIELDS < count_of outline)
LacksOutput output outline causes.OutOfMemory = Unit {0}

-- Why nothing is printed of an input; want of memory says nothing of it.
abbrev pub IsUnprinted : ClassOutput → List ℕ → ClassFault → Type 0
IsUnprinted output input (causes.BadLine line) = IsBadLine input line
IsUnprinted output input causes.TooManyFields = HasTooManyFields output input
IsUnprinted output input causes.OutOfMemory = Unit {0}

-- ---- the whole input

-- The whole input was taken, within the limit.
pub record TakesOutline (old new : Wires) (input : List ℕ) : Type 0 where
  pub left : old.left ≡ with_front input new.left
  pub nothing : NothingLeft new.left
  pub short : length input ≤ OUTLINE_BYTES

-- Some front of the input was taken, at most 4,096 bytes more than the limit, and nothing was written.
abbrev pub TakesOutlineFront : Wires → Wires → Type 0
TakesOutlineFront old new =
    (front : List ℕ) × (length front ≤ OUTLINE_BYTES + READ_BLOCK) × (old.left ≡ with_front front new.left) × (new.held ≡ old.held)

-- What each end says of the input, and what was written, where the output had failed so often before and after.
abbrev pub PrintEnds : ClassOutput → Wires → Wires → ℕ → ℕ → RunEnd → Type 0
PrintEnds output old new faults faults_after Done =
    (input : List ℕ) × (bytes : List ℕ) × TakesOutline old new input × Prints output input bytes × (new.held ≡ with_end old.held bytes)
PrintEnds output old new faults faults_after Usage = ⊥
PrintEnds output old new faults faults_after (Answered end) = ⊥
PrintEnds output old new faults faults_after (Talked end) = ⊥
PrintEnds output old new faults faults_after (BadLine line) = (input : List ℕ) × TakesOutline old new input × IsBadLine input line × (new.held ≡ old.held)
PrintEnds output old new faults faults_after Refused = (input : List ℕ) × TakesOutline old new input × HasTooManyFields output input × (new.held ≡ old.held)
PrintEnds output old new faults faults_after (TooLarge limit) =
    (limit ≡ OUTLINE_BYTES) × ((front : List ℕ) × (OUTLINE_BYTES < length front) × (length front ≤ OUTLINE_BYTES + READ_BLOCK) × (old.left ≡ with_front front new.left))
    × (new.held ≡ old.held)
PrintEnds output old new faults faults_after (NotShown fault) = ⊥
PrintEnds output old new faults faults_after ListenFault = ⊥
PrintEnds output old new faults faults_after AcceptFault = ⊥
PrintEnds output old new faults faults_after ReadFault = TakesOutlineFront old new
PrintEnds output old new faults faults_after WriteFault =
    (input : List ℕ) × (bytes : List ℕ) × (sent : ℕ) × TakesOutline old new input × Prints output input bytes
    × (sent < length bytes) × (new.held ≡ with_end old.held (take sent bytes)) × Rose faults faults_after
PrintEnds output old new faults faults_after OutOfMemory = TakesOutlineFront old new

-- It was printed to an end, which is told.
abbrev pub PrintsClass : ClassOutput → Wires → Wires → ℕ → ℕ → Reported → Type 0
PrintsClass output old new faults faults_after told = (end : RunEnd) × PrintEnds output old new faults faults_after end × TellsEnd told end

-- Where the input is told: if it is within the limit, then what is printed of the class that it outlines was written; or the first bad line is
-- told, or that there are too many fields, and nothing was written. If it is past the limit, nothing was written, and that is told. Unless the
-- outside failed.
pub record PrintsExactly (output : ClassOutput) (old new : Wires) (told : Reported) : Type 0 where
  pub printed : (input bytes : List ℕ) → old.left ≡ Some input → length input ≤ OUTLINE_BYTES → Prints output input bytes
      → (TellsExactly told Done × (new.left ≡ Some []) × (new.held ≡ with_end old.held bytes)) ⊎ IsOutsideStatus told.status
  pub bad : (input : List ℕ) (line : ℕ) → old.left ≡ Some input → length input ≤ OUTLINE_BYTES → IsBadLine input line
      → (TellsExactly told (BadLine line) × (new.held ≡ old.held)) ⊎ IsOutsideStatus told.status
  pub many : (input : List ℕ) → old.left ≡ Some input → length input ≤ OUTLINE_BYTES → HasTooManyFields output input
      → (TellsExactly told Refused × (new.held ≡ old.held)) ⊎ IsOutsideStatus told.status
  pub past : (input : List ℕ) → old.left ≡ Some input → OUTLINE_BYTES < length input
      → (TellsExactly told (TooLarge OUTLINE_BYTES) × (new.held ≡ old.held)) ⊎ IsOutsideStatus told.status
