-- One entry more is told of.
use Rattle.std.proofs.Common.{◌≡◌, ℕ, suc, ◌+◌, ◌<◌, Bool, true, false, List, [], ◌∷◌, ◌++◌, length, filter, map, cond, refl, ap, sym, ◌∙◌, append_assoc, append-nil, arith, min}
use mir.Val.{bool_byte}
use Rattle.std.specs.Prelude.{if◌then◌else◌, Result, Ok, Err}
use Rattle.std.proofs.Math.Nat.{min-eq_left}
use Rattle.std.proofs.lemmas.List.{length-append}
use Rattle.std.proofs.lemmas.List.Elements.{filter-append}
use Rattle.history.specs.declared.asks.Ask.{Ask}
use Rattle.history.specs.declared.replies.Refused.{Refused}
use Rattle.history.specs.declared.replies.Refused.TheVariants.{HistoryFull, Full, OutOfMemory}
use Rattle.history.specs.declared.replies.Turn.{Turn}
use Rattle.space.specs.Entries.{end_of, entry_of}
use Rattle.space.specs.declared.asked.Asked.{Asked}
use Rattle.ports.specs.AskedRows.{entry_of_row}
use Rattle.ports.specs.Balance.{calls_in, is_start}
use Rattle.ports.specs.Ports.{entries_of, is_started}
use Rattle.ports.specs.declared.asked_rows.AskedRow.{AskedRow}
use Rattle.ports.specs.declared.told_log.ToldEntry.{ToldEntry}
use Rattle.ports.specs.ToldEntries.{entries_with, entries_told}

pub told_more : (all : List ToldEntry) (told : ToldEntry) → entries_told (all ++ told ∷ []) ≡ entries_told all ++ entries_with told
told_more [] told = append-nil (entries_with told)
told_more (first ∷ all) told = ap (λ (l : List _). entries_with first ++ l) (told_more all told) ∙ sym (append_assoc (entries_with first) (entries_told all) (entries_with told))

-- ---- calls

pub calls_on : (xs ys : List Asked) → calls_in (xs ++ ys) ≡ calls_in xs + calls_in ys
calls_on xs ys =
    ap length (filter-append (λ (x : Asked). is_start x.end) xs ys)
    ∙ length-append (filter (λ (x : Asked). is_start x.end) xs) (filter (λ (x : Asked). is_start x.end) ys)

pub calls_told : (all : List ToldEntry) (told : ToldEntry) → calls_in (entries_told (all ++ told ∷ [])) ≡ calls_in (entries_told all) + calls_in (entries_with told)
calls_told all told = ap calls_in (told_more all told) ∙ calls_on (entries_told all) (entries_with told)

-- One entry begins a call or none.
calls_one : (b : Bool) (x : Asked) → length (cond b (x ∷ []) []) ≡ (if b then 1 else 0)
calls_one true x = refl
calls_one false x = refl

pub calls_of_turn : (m : ℕ) (a : Ask) (answer : Result Turn Refused) → calls_in (entries_of m a answer) ≡ (if is_start (end_of answer) then 1 else 0)
calls_of_turn m a (Ok turn) = calls_one (is_started turn.reply) (entry_of m a (Ok turn))
calls_of_turn m a (Err HistoryFull) = refl
calls_of_turn m a (Err (Full kind)) = refl
calls_of_turn m a (Err OutOfMemory) = refl

consed : {X Y : Type 0} (f : X → Y) (b : Bool) (x : X) (xs : List X) (ys : List Y) → length ys ≡ length xs → length (cond b (f x ∷ ys) ys) ≡ length (cond b (x ∷ xs) xs)
consed f true x xs ys same = ap suc same
consed f false x xs ys same = same

-- Entries and their rows begin as many calls.
pub calls_of_rows : (wholes : List Asked) (rows : List AskedRow) → length (filter (λ row. is_start (entry_of_row wholes row).end) rows) ≡ calls_in (map (entry_of_row wholes) rows)
calls_of_rows wholes [] = refl
calls_of_rows wholes (row ∷ rows) =
    sym (consed (entry_of_row wholes) (is_start (entry_of_row wholes row).end) row (filter (λ r. is_start (entry_of_row wholes r).end) rows)
    (filter (λ (x : Asked). is_start x.end) (map (entry_of_row wholes) rows)) (sym (calls_of_rows wholes rows)))

-- A bit as a number.
pub bit_is : (b : Bool) → bool_byte b ≡ (if b then 1 else 0)
bit_is true = refl
bit_is false = refl

-- The count of calls after one entry more, where it is below 2^64.
pub calls_more : (all : List ToldEntry) (told : ToldEntry) (all2 : List ToldEntry) (n n2 more : ℕ) (b : Bool) → all2 ≡ all ++ told ∷ [] → calls_in (entries_with told) ≡ (if b then 1 else 0)
    → (calls_in (entries_told all) < 18446744073709551616 → n ≡ calls_in (entries_told all)) → n2 ≡ min (n + more) 18446744073709551615 → more ≡ (if b then 1 else 0)
    → calls_in (entries_told all2) < 18446744073709551616 → n2 ≡ calls_in (entries_told all2)
calls_more all told all2 n n2 more b is one count next step few =
    let sum = ap (λ (l : List ToldEntry). calls_in (entries_told l)) is ∙ calls_told all told in
    let before = count (omega (arith, sum, few)) in
    let same : more ≡ calls_in (entries_with told) = step ∙ sym one in
    next ∙ (ap (λ k. min k 18446744073709551615) (omega (arith, before, same, sum)) ∙ min-eq_left (omega (arith, few)))
