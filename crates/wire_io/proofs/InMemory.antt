-- What sources and clocks in memory do.
use Rattle.std.proofs.Common.{◌≡◌, ℕ, ◌+◌, ◌-◌, ◌^◌, ◌<◌, List, [], ◌∷◌, ◌++◌, length, take, drop, min, Option, None, Some, Ok, true, false, refl, ap, sym, ◌∙◌, arith, inl, inr, nat_lt, length-drop}
use Rattle.std.proofs.lemmas.Bool.{cases_lt, lt-ltb, le-ltb}
use Rattle.std.proofs.lemmas.List.{length-take}
use Rattle.std.proofs.lemmas.List.FromFn.{map-range_with_len_more}
use Rattle.wire_io.specs.Wire.{Read, Gave}
use Rattle.wire_io.specs.Mem.{most_given, moment_at, moments_given}
use Rattle.wire_io.proofs.Pulling.{front_given, none_given}

-- Where there is room, a read is given something.
pub most_given-some : (cut : Option ℕ) (room : ℕ) → 0 < room → 0 < most_given cut room
most_given-some None room some = some
most_given-some (Some cut) room some = omega arith

-- What a read took that copied the front of what was left.
pub read_part : (bytes old new left : List ℕ) (cut : Option ℕ) (taken most n before after : ℕ) (shut shut2 : Option (Option (List ℕ)))
    → drop taken bytes ≡ left → most ≡ most_given cut (length old)
    → n ≡ min most (min (length (take (length bytes - taken) (drop taken bytes))) (length old))
    → new ≡ take n (take (length bytes - taken) (drop taken bytes)) ++ drop n old → length new ≡ length old → after ≡ before → shut2 ≡ shut
    → Read {E = ℕ} (record { left = Some left; faults = before; shut = shut }) (record { left = Some (drop (taken + n) bytes); faults = after; shut = shut2 }) new (Ok n)
read_part bytes old new left cut taken most n before after shut shut2 is_left is_most is_count is_new same uncounted kept =
    let part : List ℕ = take (length bytes - taken) (drop taken bytes) in
    let long : length (take n part) ≡ n = omega (arith, is_count, length-take n part) in
    let rest : drop taken bytes ≡ take n new ++ drop (taken + n) bytes = rw is_new (front_given bytes (take n part) (drop n old) taken n refl long) in
    let shorter : length part ≡ length bytes - taken = omega (arith, length-take (length bytes - taken) (drop taken bytes), length-drop taken bytes) in
    let counted : n ≡ min most (min (length bytes - taken) (length old)) =
    rw shorter at is_count in
    let above : 0 < length new → 0 < most = λ room. rw is_most (most_given-some cut (length old) (omega arith)) in
    (omega (arith, is_count, same), ap Some (sym is_left ∙ rest), λ none room. none_given bytes old taken n most (above room) counted new same none room, uncounted, kept)

-- What a call of a clock gave.
pub gave_moment : (moments : List ℕ) (calls next moment : ℕ) → moment ≡ moment_at moments calls → next ≡ min (calls + 1) (2 ^ 64 - 1)
    → Gave (moments_given (record { moments = moments; calls = calls })) (moments_given (record { moments = moments; calls = next })) (moment ∷ [])
gave_moment moments calls next moment is_moment is_next = elim (cases_lt next (2 ^ 64 - 1)) [
  | inl below ↦ (let after : nat_lt next (2 ^ 64 - 1) ≡ true = lt-ltb _ _ below in
      let before : nat_lt calls (2 ^ 64 - 1) ≡ true = lt-ltb _ _ (omega arith) in
      let more : next ≡ calls + 1 = omega arith in
      rw (after, before, more, is_moment) (ap Some (map-range_with_len_more (moment_at moments) 0 calls calls (omega arith))))
  | inr above ↦ (let after : nat_lt next (2 ^ 64 - 1) ≡ false = le-ltb _ _ above in rw after tt)
]
