-- The list of clients in chunks: some clients each, that stand together in it.
use Rattle.std.specs.Prelude.{◌≡◌, ◌<◌, ◌≤◌, ◌+◌, ℕ, Bool, not, IsTrue, List, [], ◌∷◌, ◌++◌, length, map, drop, min, nat_lt, slice_set, slice_index_or}
use Rattle.std.specs.List.{list_all, prefix_len, AllByRecursion}
use Rattle.object_ids.specs.Client.{Client}
use Rattle.lane_kernels.specs.Kernels.{is_due}
use Rattle.dgc_server.specs.declared.board.Board.{Board}
use Rattle.dgc_server.specs.declared.clients.Chunk.{Chunk}
use Rattle.dgc_server.specs.Entry.{Entry}
use Rattle.dgc_server.specs.Table.{with_entry}
use Rattle.dgc_server.specs.HolderIndex.{IsSettled, IsCalm}

-- The clients of all chunks, those of one behind those of the other.
abbrev pub all_of : List Chunk → List Entry
all_of [] = []
all_of (c ∷ cs) = c.entries.items ++ all_of cs

-- The moments of chunks.
abbrev pub ends_of : List Chunk → List ℕ
ends_of cs = map (λ (c : Chunk). c.least) cs

-- The index of the first of these moments, from an index on, that is no later than another one; how many there are, if none is.
abbrev pub next_due : List ℕ → ℕ → ℕ → ℕ
next_due ends from to = from + prefix_len (λ end. not (is_due to end)) (drop from ends)

-- The least of these moments, and the greatest number of 64 bits where there is none.
abbrev pub least_end : List ℕ → ℕ
least_end [] = 0xFFFFFFFFFFFFFFFF
least_end (end ∷ ends) = min end (least_end ends)

-- There is a client in the chunk.
abbrev pub is_filled : Chunk → Bool
is_filled c = nat_lt 0 (length c.entries.items)

-- What is kept of a client stands in the i-th chunk, or is to be inserted there.
abbrev pub IsChunkOf : List Chunk → Client → ℕ → Type 0
IsChunkOf cs c i = (e : Entry) (x : Chunk) → e.client ≡ c → x.entries.items ≡ with_entry e (slice_index_or cs i x).entries.items →
    with_entry e (all_of cs) ≡ all_of (slice_set cs i x)

-- A chunk of a table at the moment m, where no lease of the table that goes on ends before the moment n. If the chunk's own moment is later than m, what
-- is kept of its clients is settled, and no lease of theirs that goes on ends before it; else something of them may be due, and nothing is said.
pub record IsBounded (m n : ℕ) (c : Chunk) : Type 0 where
  pub settled : m < c.least → AllByRecursion (IsSettled m c.least) c.entries.items
  pub least : n ≤ c.least

-- The same of a chunk in which there may be clients of whom nothing is left.
pub record IsCalmChunk (m n : ℕ) (c : Chunk) : Type 0 where
  pub calm : m < c.least → AllByRecursion (IsCalm m c.least) c.entries.items
  pub least : n ≤ c.least

-- The board of a table at the moment m, where no lease of the table that goes on ends before the moment n: in each chunk is a client, and beside the
-- chunks are their moments.
pub record IsBoard (m n : ℕ) (b : Board) : Type 0 where
  pub filled : IsTrue (list_all is_filled b.chunks.items)
  pub bounded : AllByRecursion (IsBounded m n) b.chunks.items
  pub ends : b.ends.items ≡ ends_of b.chunks.items
