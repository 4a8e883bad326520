-- A client of the collector, and the order of clients.
use Rattle.std.specs.Prelude.{ℕ, List}
use Rattle.std.specs.Ordering.{ordering_then, nat_cmp, int_cmp}
use Rattle.std.specs.declared.cmp.Ordering.{Ordering}
use Rattle.std.specs.Cmp.Lexicographic.{slice_cmp}
use Rattle.object_ids.specs.declared.ids.Uid.{Uid}

-- A client is its virtual machine's identifier: the bytes of an address, and an identifier that is unique there.
pub record Client : Type 0 where
  pub addr : List ℕ
  pub uid : Uid

-- The order of clients: by address as unsigned bytes, the beginning of another first, then by unique number, time and count.
abbrev pub client_cmp : Client → Client → Ordering
client_cmp a b =
    ordering_then (slice_cmp nat_cmp a.addr b.addr)
    (ordering_then (int_cmp a.uid.unique b.uid.unique)
    (ordering_then (int_cmp a.uid.time b.uid.time) (int_cmp a.uid.count b.uid.count)))
