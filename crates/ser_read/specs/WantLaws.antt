-- Laws of lists of wants, which functions of `laws` promise.
use Rattle.std.specs.Prelude.{◌≡◌, ◌≢◌, ◌↔◌, ◌⊎◌, ◌<◌, ◌≤◌, ◌-◌, ℕ, zero, suc, List, [], ◌∷◌, ◌++◌, length, Ok, Err}
use Rattle.class_desc.specs.declared.slot.Item.{Item}
use Rattle.class_desc.specs.declared.slot.Item.TheVariants as items
use Rattle.ser_values.specs.declared.node.Node.{Node}
use Rattle.stream_grammar.specs.Spelled.{joined, IsStream}
use Rattle.stream_grammar.specs.Faults.{AreBytes}
use Rattle.ser_read.specs.declared.serving.Want.{Want}
use Rattle.ser_read.specs.declared.serving.Want.TheVariants as wanted
use Rattle.ser_read.specs.declared.block.Head.TheVariants.{Code}
use Rattle.ser_read.specs.Heads.{head_at}
use Rattle.ser_read.specs.Wants.{◌▸◌, missing_block, block_left, Stand, nothing_read, run_at, slot_next, serve, serve_to_close}
use Rattle.ser_read.specs.SpelledWants.{SpellsWants}
use Rattle.ser_read.specs.Heading.{IsBlockHeader, EndsInBlock, inside_block}

-- Reading want by want, from left to right, answers exactly what a front of the bytes spells.
abbrev pub WantsAreSpelled : Type 0
WantsAreSpelled = (end : ℕ) (wants : List Want) (answers : List Item) (nodes : List Node) (bytes rest : List ℕ) → AreBytes (bytes ++ rest)
    → (serve_to_close end wants nothing_read (bytes ++ rest) ≡ Ok (answers, nodes, joined answers, rest)) ↔ SpellsWants wants answers nodes bytes

-- What is spelled is read, whatever comes behind it.
abbrev pub SpelledIsServed : Type 0
SpelledIsServed = (end : ℕ) (wants : List Want) (answers : List Item) (nodes : List Node) (bytes rest : List ℕ) → SpellsWants wants answers nodes bytes
    → serve_to_close end wants nothing_read (bytes ++ rest) ≡ Ok (answers, nodes, joined answers, rest)

-- Fronts of one list of bytes that spell what the same wants ask for are one, and so is what they spell: none is a proper front of another.
abbrev pub SpelledIsOne : Type 0
SpelledIsOne = (wants : List Want) (answers others : List Item) (nodes more : List Node) (one other after behind : List ℕ) → SpellsWants wants answers nodes one → SpellsWants wants others more other → one ++ after ≡ other ++ behind
    → (answers ≡ others) × (nodes ≡ more) × (one ≡ other)

-- What is spelled is a stream of the answers, joined.
abbrev pub SpelledAreStreams : Type 0
SpelledAreStreams = (wants : List Want) (answers : List Item) (nodes : List Node) (bytes : List ℕ) → SpellsWants wants answers nodes bytes → IsStream nodes (joined answers) (0xAC ∷ 0xED ∷ 0x00 ∷ 0x05 ∷ bytes)

-- Lists of wants that are served one after the other are served as one list.
abbrev pub ServedOneAfterTheOther : Type 0
ServedOneAfterTheOther = (end : ℕ) (wants others : List Want) (stand : Stand) (bytes : List ℕ)
    → serve end (wants ++ others) stand bytes ≡ (serve end wants stand bytes ▸ λ x. serve end others x.1 x.2 ▸ λ y. Ok (x.0 ++ y.0, y.1, y.2))

-- Bytes of block data are read from the first one exactly where what was taken ends in a block so.
abbrev pub HeadEndsInBlock : Type 0
HeadEndsInBlock = (end n : ℕ) (taken bytes : List ℕ) (left : ℕ) → 0 < n → AreBytes taken
    → (serve end (wanted.Bytes n ∷ []) nothing_read taken ≡ Ok (items.Bytes bytes ∷ [], inside_block bytes left, [])) ↔ EndsInBlock n taken bytes left

-- Where they were taken, and other wants are served and the end is met, the whole spells the bytes and what the others ask for.
abbrev pub HeadGoesOn : Type 0
HeadGoesOn = (end n : ℕ) (head bytes : List ℕ) (left : ℕ) (wants : List Want) (answers : List Item) (nodes : List Node) (contents : List Item) (more : List ℕ)
    → EndsInBlock n head bytes left → AreBytes more → serve_to_close end wants (inside_block bytes left) more ≡ Ok (answers, nodes, contents, [])
    → SpellsWants (wanted.Bytes n ∷ wants) (items.Bytes bytes ∷ answers) nodes (head ++ more) × (contents ≡ joined (items.Bytes bytes ∷ answers))

-- The bytes in front of what is spelled, and what is read behind them.
pub record Headed (end n : ℕ) (whole bytes : List ℕ) (wants : List Want) (answers : List Item) (nodes : List Node) : Type 0 where
  pub head : List ℕ
  pub left : ℕ
  pub more : List ℕ
  pub is : whole ≡ head ++ more
  pub ends : EndsInBlock n head bytes left
  pub read : serve_to_close end wants (inside_block bytes left) more ≡ Ok (answers, nodes, joined (items.Bytes bytes ∷ answers), [])

-- What begins with a want of bytes is headed so.
abbrev pub SpelledIsHeaded : Type 0
SpelledIsHeaded = (end n : ℕ) (whole bytes : List ℕ) (wants : List Want) (answers : List Item) (nodes : List Node) → 0 < n → SpellsWants (wanted.Bytes n ∷ wants) (items.Bytes bytes ∷ answers) nodes whole
    → Headed end n whole bytes wants answers nodes

-- A code with which no block begins, but something else that a stream may hold.
abbrev pub BeginsNoBlock : ℕ → Type 0
BeginsNoBlock code = (0x70 ≤ code) × (code ≤ 0x7E) × (code ≢ 0x77) × (code ≢ 0x79) × (code ≢ 0x7A) × (code ≢ 0x7B)

-- Of so many wanted bytes fewer are there, and with the last of them a block ends. Behind it stand empty blocks, if any, and then such a code, at this position.
pub record MissesBlock (end n block at : ℕ) (bytes : List ℕ) : Type 0 where
  pub count : ℕ
  pub fewer : count < n
  pub given : List ℕ
  pub rest : List ℕ
  pub read : run_at end count block bytes ≡ Ok (given, 0, rest)
  pub code : ℕ
  pub more : List ℕ
  pub next : head_at end rest ≡ Ok (Code code at, more)
  pub begins : BeginsNoBlock code
  pub front : List ℕ
  pub rest_is : rest ≡ front ++ code ∷ more
  pub at_is : at ≡ end - length (code ∷ more)

-- Where reading wanted bytes answers that a block is missing, it is so.
abbrev pub MissingBlocksStand : Type 0
MissingBlocksStand = (end n block at : ℕ) (bytes : List ℕ) → AreBytes bytes → run_at end n block bytes ≡ Err (missing_block at) → MissesBlock end n block at bytes

-- so many empty blocks, one after the other: each is its header alone
abbrev pub AreEmptyBlocks : ℕ → List ℕ → Type 0
AreEmptyBlocks zero bytes = bytes ≡ []
AreEmptyBlocks (suc n) bytes = (header : List ℕ) × (others : List ℕ) × IsBlockHeader 0 header × (bytes ≡ header ++ others) × AreEmptyBlocks n others

-- Empty blocks stand next, if any, and then the header of a block of at least one byte. Behind this header is the position.
pub record BeginsBlock (end at : ℕ) (bytes : List ℕ) : Type 0 where
  pub count : ℕ
  pub blocks : List ℕ
  pub are_empty : AreEmptyBlocks count blocks
  pub n : ℕ
  pub some : 0 < n
  pub header : List ℕ
  pub head : IsBlockHeader n header
  pub rest : List ℕ
  pub bytes_are : bytes ≡ blocks ++ (header ++ rest)
  pub at_is : at ≡ end - length rest

-- So many bytes of the present block are left, at least one, and the position is that of the next byte; or none is left, and another block begins.
abbrev pub LeavesBlock : ℕ → ℕ → ℕ → List ℕ → Type 0
LeavesBlock end block at bytes = ((0 < block) × (at ≡ end - length bytes)) ⊎ ((block ≡ 0) × BeginsBlock end at bytes)

-- Where a wanted reference answers that a block is left, it is so.
abbrev pub LeftBlocksStand : Type 0
LeftBlocksStand = (end : ℕ) (s : Stand) (at : ℕ) (bytes : List ℕ) → AreBytes bytes → slot_next end s bytes ≡ Err (block_left at) → LeavesBlock end s.block at bytes
