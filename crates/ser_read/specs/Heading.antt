-- What stands in front of a stream where so many bytes of block data were taken and no more: it ends inside a block, or at its end.
use Rattle.std.specs.Prelude.{◌≡◌, ◌⊎◌, ℕ, ◌+◌, ◌^◌, ◌<◌, List, [], ◌∷◌, ◌++◌, length}
use Rattle.std.specs.List.{concat}
use Rattle.std.specs.Int.{w32, to_be_bytes}
use Rattle.class_desc.specs.declared.slot.Item.TheVariants as items
use Rattle.stream_grammar.specs.Spelled.{IsBlock}
use Rattle.stream_grammar.specs.Faults.{AreBytes}
use Rattle.ser_read.specs.Wants.{Stand}

-- the header of a block of so many bytes, in either form
abbrev pub IsBlockHeader : ℕ → List ℕ → Type 0
IsBlockHeader n bytes = ((n < 256) × (bytes ≡ 0x77 ∷ n ∷ [])) ⊎ ((n < 2 ^ 31) × (bytes ≡ 0x7A ∷ to_be_bytes w32 n))

-- whole blocks of these bytes, one after the other
abbrev pub AreBlocks : List (List ℕ) → List ℕ → Type 0
AreBlocks [] bytes = bytes ≡ []
AreBlocks (p ∷ ps) bytes = (block : List ℕ) × (others : List ℕ) × IsBlock p block × (bytes ≡ block ++ others) × AreBlocks ps others

-- What was taken for n bytes of block data, at least one: whole blocks, which may be empty, and then the header of a block and a front of its
-- bytes, of which so many are left. The bytes of them all are those wanted.
pub record EndsInBlock (n : ℕ) (taken bytes : List ℕ) (left : ℕ) : Type 0 where
  pub are_bytes : AreBytes taken
  pub wanted : length bytes ≡ n
  pub payloads : List (List ℕ)
  pub blocks : List ℕ
  pub whole : AreBlocks payloads blocks
  pub front : List ℕ
  pub some : 0 < length front
  pub header : List ℕ
  pub head : IsBlockHeader (length front + left) header
  pub taken_is : taken ≡ blocks ++ (header ++ front)
  pub bytes_are : bytes ≡ concat payloads ++ front

-- how far a reader has come that was asked for these bytes alone
abbrev pub inside_block : List ℕ → ℕ → Stand
inside_block bytes left = record { progress = record { nodes = []; parts = 0 }; items = items.Bytes bytes ∷ []; block = left }
