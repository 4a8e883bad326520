-- Reading ends at one place: the bytes to come and the limit decide where, and why.
use Rattle.std.proofs.Common.{◌≡◌, ℕ, ◌+◌, ◌≤◌, ◌⊎◌, inl, inr, List, [], ◌∷◌, ◌++◌, length, take, drop, take_at, drop_at, Option, Some, None, Result, Ok, Err, refl, ap, sym, ◌∙◌, arith, append-nil, length-append}
use Rattle.stream_grammar.specs.Reading.{short, bad, too_many, too_deep}
use Rattle.ser_read.specs.declared.fault.StreamKind.{StreamKind}
use Rattle.ser_read.specs.declared.fault.StreamKind.TheVariants as kinds
use Rattle.ser_read.specs.declared.fault.Large.TheVariants.{Bytes, Nodes, Depth}
use Rattle.ser_read.specs.Here.{NeedsAll, stream_kind}
use Rattle.ser_read.specs.Wants.{WantFault, inside, missing_block, block_left, fault_at}
use Rattle.call_dispatch.specs.declared.end.ConnEnd.{ConnEnd}
use Rattle.call_dispatch.specs.declared.end.ConnEnd.TheVariants.{Ended, BadHeader, UnknownProtocol, BadMessage, BadStream, TooLarge, Truncated, NoSuchObject, NoSuchMethod, SpaceFull, MessageLimit, ReadFault, WriteFault, OutOfMemory}
use Rattle.call_dispatch.specs.End.{IsSettled}
use Rattle.call_dispatch.specs.Inside.{BreaksAt}

-- ---- fronts of one list

-- Of two fronts of one list, the first is a front of the second, or the second of the first.
abbrev Fronts : List ℕ → List ℕ → Type 0
Fronts a b = ((r : List ℕ) × (b ≡ a ++ r)) ⊎ ((x : ℕ) × (r : List ℕ) × (a ≡ b ++ x ∷ r))

fronts_more : (x y : ℕ) (a b : List ℕ) → x ≡ y → Fronts a b → Fronts (x ∷ a) (y ∷ b)
fronts_more x y a b same (inl (r, is)) = inl (r, ap (λ (l : List ℕ). y ∷ l) is ∙ ap (λ z. z ∷ (a ++ r)) (sym same))
fronts_more x y a b same (inr (z, r, is)) = inr (z, r, ap (λ (l : List ℕ). x ∷ l) is ∙ ap (λ (w : ℕ). w ∷ (b ++ z ∷ r)) same)

first_same : (x y : ℕ) (a b : List ℕ) → x ∷ a ≡ y ∷ b → x ≡ y
first_same x y a b e = cc

fronts : (a b xs ys : List ℕ) → a ++ xs ≡ b ++ ys → Fronts a b
fronts [] b xs ys e = inl (b, refl)
fronts (x ∷ a) [] xs ys e = inr (x, a, refl)
fronts (x ∷ a) (y ∷ b) xs ys e = fronts_more x y a b (first_same x y (a ++ xs) (b ++ ys) e) (fronts a b xs ys (ap (drop 1) e))

-- Two fronts of one list that are as long as each other are one, and so is what comes behind them.
pub same_length : (a b xs ys : List ℕ) → length b ≡ length a → a ++ xs ≡ b ++ ys → a ≡ b
same_length a b xs ys long e = sym (take_at a xs (length a) refl) ∙ ap (take (length a)) e ∙ take_at b ys (length a) long

pub same_behind : (a b xs ys : List ℕ) → a ≡ b → a ++ xs ≡ b ++ ys → xs ≡ ys
same_behind a b xs ys same e = sym (drop_at a xs (length a) refl) ∙ ap (drop (length a)) e ∙ drop_at b ys (length a) (ap (λ (l : List ℕ). length l) (sym same))

lengths : (a b xs ys : List ℕ) → a ++ xs ≡ b ++ ys → length a + length xs ≡ length b + length ys
lengths a b xs ys e = sym (length-append a xs) ∙ ap (λ (l : List ℕ). length l) e ∙ length-append b ys

-- ---- faults and ends

-- the end that a fault brings, whatever comes behind it
abbrev end_by : WantFault → Option ConnEnd
end_by (inside short) = None
end_by (inside (bad kind p)) = Some (BadStream (stream_kind kind) p)
end_by (inside (too_many p)) = Some (TooLarge Nodes p)
end_by (inside (too_deep p)) = Some (TooLarge Depth p)
end_by (missing_block p) = Some (BadStream kinds.MissingBlock p)
end_by (block_left p) = Some (BadStream kinds.BlockLeft p)

fault_ends : (kind : StreamKind) (p : ℕ) → end_by (fault_at kind p) ≡ Some (BadStream kind p)
fault_ends kinds.BadMagic p = refl
fault_ends kinds.BadCode p = refl
fault_ends kinds.BadHandle p = refl
fault_ends kinds.WrongHandleKind p = refl
fault_ends kinds.BadDesc p = refl
fault_ends kinds.BadUtf p = refl
fault_ends kinds.NegativeLength p = refl
fault_ends kinds.BlockLeft p = refl
fault_ends kinds.MissingBlock p = refl
fault_ends kinds.Reset p = refl
fault_ends kinds.InnerException p = refl
fault_ends kinds.OldExternal p = refl

abbrev some_end : ConnEnd → Option ConnEnd
some_end end = Some end

same_end : (a b : ConnEnd) → some_end a ≡ some_end b → a ≡ b
same_end a b e = cc

none_brings : (end : ConnEnd) → end_by (inside short) ≡ some_end end → ⊥
none_brings end e = cc

abbrev failed : {Y : Type 0} → WantFault → Result Y WantFault
failed f = Err f

same_fault : {Y : Type 0} (a b : WantFault) → failed {Y = Y} a ≡ failed b → a ≡ b
same_fault a b e = cc

never_read : {Y : Type 0} (f : WantFault) (y : Y) → failed f ≡ Ok y → ⊥
never_read f y e = cc

-- ---- the three ways in which reading ends

-- A fault is decided by these bytes and by no fewer.
record Decided {Y : Type 0} (read : ℕ → List ℕ → Result Y WantFault) (at stop : ℕ) (more : List ℕ) (end : ConnEnd) : Type 0 where
  fault : WantFault
  is : (r : List ℕ) → read (at + length more + length r) (more ++ r) ≡ Err fault
  least : NeedsAll (inside short) at more read
  within : at + length more ≤ stop
  brings : end_by fault ≡ Some end

-- The input goes on past the limit.
record Past {Y : Type 0} (read : ℕ → List ℕ → Result Y WantFault) (at stop : ℕ) (more : List ℕ) (end : ConnEnd) : Type 0 where
  front : List ℕ
  dropped : ℕ
  whole : more ≡ front ++ dropped ∷ []
  long : at + length front ≡ stop
  is : read stop front ≡ Err (inside short)
  brings : end ≡ TooLarge Bytes stop

-- The input ends.
record Lacks {Y : Type 0} (read : ℕ → List ℕ → Result Y WantFault) (at stop : ℕ) (more rest : List ℕ) (end : ConnEnd) : Type 0 where
  within : at + length more ≤ stop
  is : read (at + length more) more ≡ Err (inside short)
  none : rest ≡ []
  brings : end ≡ Truncated (at + length more)

abbrev Broken : {Y : Type 0} → (ℕ → List ℕ → Result Y WantFault) → ℕ → ℕ → List ℕ → List ℕ → ConnEnd → Type 0
Broken read at stop more rest end = Decided read at stop more end ⊎ (Past read at stop more end ⊎ Lacks read at stop more rest end)

broken : {Y : Type 0} (read : ℕ → List ℕ → Result Y WantFault) (at stop : ℕ) (more rest : List ℕ) (end : ConnEnd) → BreaksAt read at stop more (Some rest) end → IsSettled end → Broken read at stop more rest end
broken read at stop more rest (BadStream kind p) (is, least, within) settled = inl (record { fault = fault_at kind p; is = is; least = least; within = within; brings = fault_ends kind p })
broken read at stop more rest (TooLarge Nodes p) (is, least, within) settled = inl (record { fault = inside (too_many p); is = is; least = least; within = within; brings = refl })
broken read at stop more rest (TooLarge Depth p) (is, least, within) settled = inl (record { fault = inside (too_deep p); is = is; least = least; within = within; brings = refl })
broken read at stop more rest (TooLarge Bytes p) (front, dropped, whole, here, last, is) settled =
    inr (inl (record { front = front; dropped = dropped; whole = whole; long = sym here ∙ last; is = ap (λ q. read q front) (sym last) ∙ is; brings = ap (TooLarge Bytes) last }))
broken read at stop more rest (Truncated p) (here, within, is, none) settled =
    inr (inr (record { within = omega (arith, here, within); is = ap (λ q. read q more) (sym here) ∙ is; none = none; brings = ap Truncated here }))
broken read at stop more rest Ended h settled = absurd h
broken read at stop more rest (BadHeader p) h settled = absurd h
broken read at stop more rest (UnknownProtocol byte) h settled = absurd h
broken read at stop more rest (BadMessage byte p) h settled = absurd h
broken read at stop more rest (NoSuchObject id) h settled = absurd h
broken read at stop more rest (NoSuchMethod operation hash) h settled = absurd h
broken read at stop more rest SpaceFull h settled = absurd h
broken read at stop more rest MessageLimit h settled = absurd h
broken read at stop more rest ReadFault h settled = absurd settled
broken read at stop more rest (WriteFault sent) h settled = absurd settled
broken read at stop more rest OutOfMemory h settled = absurd settled

-- What is decided is decided for all that begins so.
decides : {Y : Type 0} (read : ℕ → List ℕ → Result Y WantFault) (at stop : ℕ) (more : List ℕ) (end : ConnEnd) (d : Decided read at stop more end) (whole r : List ℕ) → whole ≡ more ++ r
    → read (at + length whole) whole ≡ Err d.fault
decides read at stop more end d whole r is =
    let long : at + length (more ++ r) ≡ at + length more + length r = omega (arith, length-append more r) in
    ap (λ (l : List ℕ). read (at + length l) l) is ∙ ap (λ n. read n (more ++ r)) long ∙ d.is r

-- It doesn't want more.
not_short : {Y : Type 0} (read : ℕ → List ℕ → Result Y WantFault) (at stop : ℕ) (more : List ℕ) (end : ConnEnd) (d : Decided read at stop more end) (n : ℕ) (l : List ℕ)
    → read n l ≡ Err d.fault → read n l ≡ Err (inside short) → ⊥
not_short {Y} read at stop more end d n l a b = none_brings end (ap end_by (same_fault {Y = Y} (inside short) d.fault (sym b ∙ a)) ∙ d.brings)

-- ---- two ends

abbrev Same : List ℕ → List ℕ → ConnEnd → ConnEnd → Type 0
Same more more2 end end2 = (end ≡ end2) × (more ≡ more2)

decided_same : {Y : Type 0} (read : ℕ → List ℕ → Result Y WantFault) (at stop : ℕ) (more more2 : List ℕ) (end end2 : ConnEnd) → Decided read at stop more end → Decided read at stop more2 end2
    → more2 ≡ more → Same more more2 end end2
decided_same {Y} read at stop more more2 end end2 a b same =
    let one = decides read at stop more end a more [] (sym (append-nil more)) in
    let two = decides read at stop more2 end2 b more [] (sym same ∙ sym (append-nil more2)) in
    let faults : a.fault ≡ b.fault = same_fault {Y = Y} a.fault b.fault (sym one ∙ two) in
    (same_end end end2 (sym a.brings ∙ ap end_by faults ∙ b.brings), sym same)

-- A front that decides leaves no more to be needed.
needs_none : {Y : Type 0} (read : ℕ → List ℕ → Result Y WantFault) (at stop : ℕ) (more more2 : List ℕ) (end end2 : ConnEnd) → Decided read at stop more end → Decided read at stop more2 end2
    → (x : ℕ) (r : List ℕ) → more2 ≡ more ++ x ∷ r → ⊥
needs_none read at stop more more2 end end2 a b x r is =
    not_short read at stop more end a (at + length more) more (decides read at stop more end a more [] (sym (append-nil more))) (b.least more x r is)

decided_twice : {Y : Type 0} (read : ℕ → List ℕ → Result Y WantFault) (at stop : ℕ) (more more2 : List ℕ) (end end2 : ConnEnd) → Decided read at stop more end → Decided read at stop more2 end2
    → Fronts more more2 → Same more more2 end end2
decided_twice read at stop more more2 end end2 a b (inl ([], is)) = decided_same read at stop more more2 end end2 a b (is ∙ append-nil more)
decided_twice read at stop more more2 end end2 a b (inl (x ∷ r, is)) = absurd (needs_none read at stop more more2 end end2 a b x r is)
decided_twice read at stop more more2 end end2 a b (inr (x, r, is)) = absurd (needs_none read at stop more2 more end2 end b a x r is)

-- Where something is decided, the input doesn't go on past the limit before that.
decided_past : {Y : Type 0} (read : ℕ → List ℕ → Result Y WantFault) (at stop : ℕ) (more more2 : List ℕ) (end end2 : ConnEnd) (a : Decided read at stop more end) (b : Past read at stop more2 end2) → Fronts more b.front → ⊥
decided_past read at stop more more2 end end2 a b (inl (r, is)) =
    not_short read at stop more end a stop b.front (ap (λ n. read n b.front) (sym b.long) ∙ decides read at stop more end a b.front r is) b.is
decided_past read at stop more more2 end end2 a b (inr (x, r, is)) =
    let long : length more ≡ length b.front + length (x ∷ r) = ap (λ (l : List ℕ). length l) is ∙ length-append b.front (x ∷ r) in
    omega (arith, long, a.within, b.long)

decided_lacks : {Y : Type 0} (read : ℕ → List ℕ → Result Y WantFault) (at stop : ℕ) (more more2 rest rest2 : List ℕ) (end end2 : ConnEnd) (a : Decided read at stop more end) (b : Lacks read at stop more2 rest2 end2)
    → more ++ rest ≡ more2 ++ rest2 → Fronts more more2 → ⊥
decided_lacks read at stop more more2 rest rest2 end end2 a b input (inl (r, is)) =
    not_short read at stop more end a (at + length more2) more2 (decides read at stop more end a more2 r is) b.is
decided_lacks read at stop more more2 rest rest2 end end2 a b input (inr (x, r, is)) =
    let long : length more ≡ length more2 + length (x ∷ r) = ap (λ (l : List ℕ). length l) is ∙ length-append more2 (x ∷ r) in
    let none : length rest2 ≡ 0 = ap (λ (l : List ℕ). length l) b.none in
    omega (arith, long, none, lengths more more2 rest rest2 input)

past_long : {Y : Type 0} (read : ℕ → List ℕ → Result Y WantFault) (at stop : ℕ) (more : List ℕ) (end : ConnEnd) (b : Past read at stop more end) → length more ≡ length b.front + 1
past_long read at stop more end b = ap (λ (l : List ℕ). length l) b.whole ∙ length-append b.front (b.dropped ∷ [])

past_twice : {Y : Type 0} (read : ℕ → List ℕ → Result Y WantFault) (at stop : ℕ) (more more2 rest rest2 : List ℕ) (end end2 : ConnEnd) → Past read at stop more end → Past read at stop more2 end2
    → more ++ rest ≡ more2 ++ rest2 → Same more more2 end end2
past_twice read at stop more more2 rest rest2 end end2 a b input =
    let long : length more2 ≡ length more = omega (arith, past_long read at stop more end a, past_long read at stop more2 end2 b, a.long, b.long) in
    (a.brings ∙ sym b.brings, same_length more more2 rest rest2 long input)

past_lacks : {Y : Type 0} (read : ℕ → List ℕ → Result Y WantFault) (at stop : ℕ) (more more2 rest rest2 : List ℕ) (end end2 : ConnEnd) → Past read at stop more end → Lacks read at stop more2 rest2 end2
    → more ++ rest ≡ more2 ++ rest2 → ⊥
past_lacks read at stop more more2 rest rest2 end end2 a b input =
    let none : length rest2 ≡ 0 = ap (λ (l : List ℕ). length l) b.none in
    omega (arith, past_long read at stop more end a, a.long, b.within, none, lengths more more2 rest rest2 input)

lacks_twice : {Y : Type 0} (read : ℕ → List ℕ → Result Y WantFault) (at stop : ℕ) (more more2 rest rest2 : List ℕ) (end end2 : ConnEnd) → Lacks read at stop more rest end → Lacks read at stop more2 rest2 end2
    → more ++ rest ≡ more2 ++ rest2 → Same more more2 end end2
lacks_twice read at stop more more2 rest rest2 end end2 a b input =
    let none : length rest ≡ 0 = ap (λ (l : List ℕ). length l) a.none in
    let none2 : length rest2 ≡ 0 = ap (λ (l : List ℕ). length l) b.none in
    let same : more ≡ more2 = same_length more more2 rest rest2 (omega (arith, none, none2, lengths more more2 rest rest2 input)) input in
    (a.brings ∙ ap (λ (l : List ℕ). Truncated (at + length l)) same ∙ sym b.brings, same)

-- the fronts of a list behind which the input goes on past the limit
past_fronts : {Y : Type 0} (read : ℕ → List ℕ → Result Y WantFault) (at stop : ℕ) (a more rest rest2 : List ℕ) (end : ConnEnd) (b : Past read at stop more end) → a ++ rest ≡ more ++ rest2 → a ++ rest ≡ b.front ++ (b.dropped ∷ rest2)
past_fronts read at stop a more rest rest2 end b input = input ∙ ap (λ (l : List ℕ). l ++ rest2) b.whole ∙ behind_one b.front b.dropped rest2
  where
    behind_one : (l : List ℕ) (x : ℕ) (m : List ℕ) → (l ++ x ∷ []) ++ m ≡ l ++ (x ∷ m)
    behind_one [] x m = refl
    behind_one (y ∷ l) x m = ap (λ (z : List ℕ). y ∷ z) (behind_one l x m)

both_broken : {Y : Type 0} (read : ℕ → List ℕ → Result Y WantFault) (at stop : ℕ) (more more2 rest rest2 : List ℕ) (end end2 : ConnEnd) → Broken read at stop more rest end → Broken read at stop more2 rest2 end2
    → more ++ rest ≡ more2 ++ rest2 → Same more more2 end end2
both_broken read at stop more more2 rest rest2 end end2 (inl a) (inl b) input = decided_twice read at stop more more2 end end2 a b (fronts more more2 rest rest2 input)
both_broken read at stop more more2 rest rest2 end end2 (inl a) (inr (inl b)) input =
    absurd (decided_past read at stop more more2 end end2 a b (fronts more b.front rest (b.dropped ∷ rest2) (past_fronts read at stop more more2 rest rest2 end2 b input)))
both_broken read at stop more more2 rest rest2 end end2 (inl a) (inr (inr b)) input =
    absurd (decided_lacks read at stop more more2 rest rest2 end end2 a b input (fronts more more2 rest rest2 input))
both_broken read at stop more more2 rest rest2 end end2 (inr (inl a)) (inl b) input =
    absurd (decided_past read at stop more2 more end2 end b a (fronts more2 a.front rest2 (a.dropped ∷ rest) (past_fronts read at stop more2 more rest2 rest end a (sym input))))
both_broken read at stop more more2 rest rest2 end end2 (inr (inl a)) (inr (inl b)) input = past_twice read at stop more more2 rest rest2 end end2 a b input
both_broken read at stop more more2 rest rest2 end end2 (inr (inl a)) (inr (inr b)) input = absurd (past_lacks read at stop more more2 rest rest2 end end2 a b input)
both_broken read at stop more more2 rest rest2 end end2 (inr (inr a)) (inl b) input =
    absurd (decided_lacks read at stop more2 more rest2 rest end2 end b a (sym input) (fronts more2 more rest2 rest (sym input)))
both_broken read at stop more more2 rest rest2 end end2 (inr (inr a)) (inr (inl b)) input = absurd (past_lacks read at stop more2 more rest2 rest end2 end b a (sym input))
both_broken read at stop more more2 rest rest2 end end2 (inr (inr a)) (inr (inr b)) input = lacks_twice read at stop more more2 rest rest2 end end2 a b input

-- Reading of one input ends at one place, by one end.
pub breaks_one : {Y : Type 0} (read : ℕ → List ℕ → Result Y WantFault) (at stop : ℕ) (more more2 rest rest2 : List ℕ) (end end2 : ConnEnd) → BreaksAt read at stop more (Some rest) end → IsSettled end
    → BreaksAt read at stop more2 (Some rest2) end2 → IsSettled end2 → more ++ rest ≡ more2 ++ rest2 → (end ≡ end2) × (more ≡ more2)
breaks_one read at stop more more2 rest rest2 end end2 a settled b settled2 input =
    both_broken read at stop more more2 rest rest2 end end2 (broken read at stop more rest end a settled) (broken read at stop more2 rest2 end2 b settled2) input

-- ---- an end, and what is read

-- What is read whole within the limit is no end.
abbrev IsRead : {Y : Type 0} → (ℕ → List ℕ → Result Y WantFault) → List ℕ → Type 0
IsRead {Y} read whole = (n : ℕ) (r : List ℕ) → (y : Y) × (read n (whole ++ r) ≡ Ok y)

read_not_short : {Y : Type 0} (read : ℕ → List ℕ → Result Y WantFault) (n : ℕ) (whole r l : List ℕ) (f : WantFault) → IsRead read whole → l ≡ whole ++ r → read n l ≡ Err f → ⊥
read_not_short read n whole r l f reads is fails =
    let (y, ok) = reads n r in
    never_read f y (sym fails ∙ ap (read n) is ∙ ok)

decided_read : {Y : Type 0} (read : ℕ → List ℕ → Result Y WantFault) (at stop : ℕ) (more whole : List ℕ) (end : ConnEnd) (a : Decided read at stop more end) → IsRead read whole → Fronts more whole → ⊥
decided_read read at stop more whole end a reads (inl (r, is)) =
    read_not_short read (at + length whole) whole [] whole a.fault reads (sym (append-nil whole)) (decides read at stop more end a whole r is)
decided_read read at stop more whole end a reads (inr (x, r, is)) =
    read_not_short read (at + length whole) whole [] whole (inside short) reads (sym (append-nil whole)) (a.least whole x r is)

past_read : {Y : Type 0} (read : ℕ → List ℕ → Result Y WantFault) (at stop : ℕ) (more whole : List ℕ) (end : ConnEnd) (a : Past read at stop more end) → IsRead read whole → at + length whole ≤ stop → Fronts whole a.front → ⊥
past_read read at stop more whole end a reads within (inl (r, is)) = read_not_short read stop whole r a.front (inside short) reads is a.is
past_read read at stop more whole end a reads within (inr (x, r, is)) =
    let long : length whole ≡ length a.front + length (x ∷ r) = ap (λ (l : List ℕ). length l) is ∙ length-append a.front (x ∷ r) in
    omega (arith, long, within, a.long)

lacks_read : {Y : Type 0} (read : ℕ → List ℕ → Result Y WantFault) (at stop : ℕ) (more rest whole xs : List ℕ) (end : ConnEnd) (a : Lacks read at stop more rest end) → IsRead read whole → whole ++ xs ≡ more ++ rest → Fronts whole more → ⊥
lacks_read read at stop more rest whole xs end a reads input (inl (r, is)) = read_not_short read (at + length more) whole r more (inside short) reads is a.is
lacks_read read at stop more rest whole xs end a reads input (inr (x, r, is)) =
    let long : length whole ≡ length more + length (x ∷ r) = ap (λ (l : List ℕ). length l) is ∙ length-append more (x ∷ r) in
    let none : length rest ≡ 0 = ap (λ (l : List ℕ). length l) a.none in
    omega (arith, long, none, lengths whole more xs rest input)

broken_read : {Y : Type 0} (read : ℕ → List ℕ → Result Y WantFault) (at stop : ℕ) (more rest whole xs : List ℕ) (end : ConnEnd) → Broken read at stop more rest end → IsRead read whole → at + length whole ≤ stop
    → whole ++ xs ≡ more ++ rest → ⊥
broken_read read at stop more rest whole xs end (inl a) reads within input = decided_read read at stop more whole end a reads (fronts more whole rest xs (sym input))
broken_read read at stop more rest whole xs end (inr (inl a)) reads within input =
    past_read read at stop more whole end a reads within (fronts whole a.front xs (a.dropped ∷ rest) (past_fronts read at stop whole more xs rest end a input))
broken_read read at stop more rest whole xs end (inr (inr a)) reads within input = lacks_read read at stop more rest whole xs end a reads input (fronts whole more xs rest input)

pub breaks_read : {Y : Type 0} (read : ℕ → List ℕ → Result Y WantFault) (at stop : ℕ) (more rest whole xs : List ℕ) (end : ConnEnd) → BreaksAt read at stop more (Some rest) end → IsSettled end
    → ((n : ℕ) (r : List ℕ) → (y : Y) × (read n (whole ++ r) ≡ Ok y)) → at + length whole ≤ stop → whole ++ xs ≡ more ++ rest → ⊥
breaks_read read at stop more rest whole xs end a settled reads within input = broken_read read at stop more rest whole xs end (broken read at stop more rest end a settled) reads within input

-- Reading begins within the limit.
begun_within : {Y : Type 0} (read : ℕ → List ℕ → Result Y WantFault) (at stop : ℕ) (more rest : List ℕ) (end : ConnEnd) → Broken read at stop more rest end → at ≤ stop
begun_within read at stop more rest end (inl a) = omega (arith, a.within)
begun_within read at stop more rest end (inr (inl a)) = omega (arith, a.long)
begun_within read at stop more rest end (inr (inr a)) = omega (arith, a.within)

pub breaks_within : {Y : Type 0} (read : ℕ → List ℕ → Result Y WantFault) (at stop : ℕ) (more rest : List ℕ) (end : ConnEnd) → BreaksAt read at stop more (Some rest) end → IsSettled end → at ≤ stop
breaks_within read at stop more rest end a settled = begun_within read at stop more rest end (broken read at stop more rest end a settled)
