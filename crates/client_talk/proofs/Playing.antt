-- What bytes, hosts and moments make of a script, step by step.
use Rattle.std.proofs.Common.{arith, ◌≡◌, ℕ, ◌+◌, List, [], ◌∷◌, ◌++◌, length, drop, map, Bool, true, false, if◌then◌else◌, nat_eq, Option, Some, None, Result, Ok, Err, refl, ap, sym, subst, ◌∙◌, append-nil, append_assoc, length-append, inl, inr}
use Rattle.std.specs.List.{flat_map}
use Rattle.std.proofs.lemmas.List.{append_cancel_left, drop-drop, drop_at}
use Rattle.std.proofs.lemmas.Grind.{flat_map-append}
use Rattle.std.proofs.lemmas.Bool.Decides.{eqb_tells}
use Rattle.wire_io.specs.Wire.{with_front, Gave}
use Rattle.client_talk.specs.declared.place.Place.{Place}
use Rattle.client_talk.specs.Scripts.{Protocol, Script, dials, asks, tells, reads_clock, done, halts, Heard, got, stopped, Coming, past, set_at, Played, ends_with, says, goes_on, plays}
use Rattle.client_talk.specs.Talk.{Row, Deed, rows_of, hosts_of, moments_of, said_by, said_last, said_in, taken_on, Seen, Linked, host_of, WentOn, EachFrom, AreTold, from_start, IsSettled, EndsExactly}
use Rattle.client_talk.specs.Steps.{coming_after, said_first, PlaysTo, Stands, IsAt}
use Rattle.client_talk.proofs.Talking.{taken_row, taken_none, each_both, at_this, ArePlaced}

-- ---- what is to come

abbrev coming : ℕ → List ℕ → Coming
coming n bytes = record { position = n; bytes = bytes }

-- what is to come of these bytes once some were taken
abbrev coming_of : List ℕ → List ℕ → Coming
coming_of taken whole = coming (length taken) (drop (length taken) whole)

past_more : (xs ys whole : List ℕ) → past (length ys) (coming_of xs whole) ≡ coming_of (xs ++ ys) whole
past_more xs ys whole =
    ap (coming (length xs + length ys)) (drop-drop (length ys) (length xs) whole)
    ∙ ap (λ n. coming n (drop n whole)) (sym (length-append xs ys))

pub coming_row : {p : Protocol} (j k : ℕ) (ds : List (Deed p)) (d : Deed p) (row : Row) (wholes : ℕ → List ℕ) → flat_map rows_of (d ∷ []) ≡ row ∷ [] → row.link ≡ k
    → set_at k (past (length row.taken) (coming_after ds wholes k)) (coming_after ds wholes) j ≡ coming_after (ds ++ d ∷ []) wholes j
coming_row j k ds d row wholes one at = elim (eqb_tells j k) [
  | inl q ↦ ap (λ b. if b then past (length row.taken) (coming_after ds wholes k) else coming_after ds wholes j) q.0
      ∙ ap (λ i. past (length row.taken) (coming_after ds wholes i)) (sym q.1)
      ∙ past_more (taken_on j ds) row.taken (wholes j)
      ∙ ap (λ xs. coming_of xs (wholes j)) (sym (taken_row j k ds d row one at ∙ ap (λ b. taken_on j ds ++ (if b then row.taken else [])) q.0))
  | inr q ↦ ap (λ b. if b then past (length row.taken) (coming_after ds wholes k) else coming_after ds wholes j) q.0
      ∙ ap (λ xs. coming_of xs (wholes j)) (sym (taken_row j k ds d row one at ∙ ap (λ b. taken_on j ds ++ (if b then row.taken else [])) q.0 ∙ append-nil (taken_on j ds)))
]

abbrev no_bytes : List ℕ
no_bytes = []

neither : (b : Bool) → (if b then no_bytes else no_bytes) ≡ []
neither true = refl
neither false = refl

-- a row of which nothing was taken
pub coming_sent : {p : Protocol} (j : ℕ) (ds : List (Deed p)) (d : Deed p) (row : Row) (wholes : ℕ → List ℕ) → flat_map rows_of (d ∷ []) ≡ row ∷ [] → row.taken ≡ []
    → coming_after ds wholes j ≡ coming_after (ds ++ d ∷ []) wholes j
coming_sent j ds d row wholes one nothing =
    ap (λ xs. coming_of xs (wholes j))
    (sym (taken_row j row.link ds d row one refl ∙ ap (λ ys. taken_on j ds ++ (if nat_eq j row.link then ys else [])) nothing
    ∙ ap (λ ys. taken_on j ds ++ ys) (neither (nat_eq j row.link)) ∙ append-nil (taken_on j ds)))

pub coming_none : {p : Protocol} (j : ℕ) (ds : List (Deed p)) (d : Deed p) (wholes : ℕ → List ℕ) → flat_map rows_of (d ∷ []) ≡ []
    → coming_after ds wholes j ≡ coming_after (ds ++ d ∷ []) wholes j
coming_none j ds d wholes none = ap (λ xs. coming_of xs (wholes j)) (sym (taken_none j ds d none))

abbrev the_bytes : Option (List ℕ) → List ℕ
the_bytes None = []
the_bytes (Some bytes) = bytes

rest_told : (taken whole : List ℕ) (left : Option (List ℕ)) → Some whole ≡ with_front taken left → left ≡ Some (drop (length taken) whole)
rest_told taken whole None same = absurd (cc)
rest_told taken whole (Some more) same = ap Some (sym (ap (λ o. drop (length taken) (the_bytes o)) same ∙ drop_at taken more (length taken) refl))

-- what a session finds on its link
pub found_at : {p : Protocol} (ds : List (Deed p)) (wholes : ℕ → List ℕ) (k : ℕ) (before : Seen) (links : List Linked)
    → EachFrom (WentOn ds) 0 links → AreTold wholes links → IsAt k links before → before.read.left ≡ Some (coming_after ds wholes k).bytes
found_at ds wholes k before links went told here =
    let (l, both, same) = at_this (λ j l. WentOn ds j l × (l.start.link.left ≡ Some (wholes j))) k before 0 links
    (each_both (WentOn ds) (λ j l. l.start.link.left ≡ Some (wholes j)) 0 links went told) here.same (omega arith) (omega (arith, here.known)) in
    sym (ap (λ (x : Seen). x.read.left) same) ∙ rest_told (taken_on k ds) (wholes k) l.seen.read.left (sym both.1 ∙ both.0.left)

pub placed_at : {p : Protocol} (ds : List (Deed p)) (k : ℕ) (before : Seen) (links : List Linked)
    → ArePlaced ds 0 links → IsAt k links before → before.position ≡ length (taken_on k ds)
placed_at ds k before links placed here =
    let (l, one, same) = at_this (λ j l. l.seen.position ≡ length (taken_on j ds)) k before 0 links placed here.same (omega arith) (omega (arith, here.known)) in
    sym (ap (λ (x : Seen). x.position) same) ∙ one

-- ---- the same to come

same_under : {p : Protocol} {V : Type 0} (h : Heard p.Answer p.End) (f f2 : p.Answer → ℕ → Played p V) → ((a : p.Answer) (n : ℕ) → f a n ≡ f2 a n) → goes_on h f ≡ goes_on h f2
same_under (got answer n) f f2 same = same answer n
same_under (stopped end) f f2 same = refl

set_same : (j k n : ℕ) (c c2 : ℕ → Coming) → ((i : ℕ) → c i ≡ c2 i) → set_at k (past n (c k)) c j ≡ set_at k (past n (c2 k)) c2 j
set_same j k n c c2 same = ap (λ x. if nat_eq j k then past n x else c j) (same k) ∙ ap (λ x. if nat_eq j k then past n (c2 k) else x) (same j)

-- The same bytes to come on each link make the same of a script.
pub plays_same : {p : Protocol} {V : Type 0} (s : Script p V) (c c2 : ℕ → Coming) (hosts : List (List ℕ)) (ms : List ℕ) → ((k : ℕ) → c k ≡ c2 k) → plays s c hosts ms ≡ plays s c2 hosts ms
unfolding plays
plays_same (dials place next) c c2 [] ms same = refl
plays_same (dials place next) c c2 (h ∷ hosts) ms same = plays_same (next h) c c2 hosts ms same
plays_same {p = p} (asks k message next) c c2 hosts ms same =
    ap (says k message)
    (ap (λ (x : Coming). goes_on (p.heard message x.position x.bytes) (λ answer n. plays (next answer) (set_at k (past n (c k)) c) hosts ms)) (same k)
    ∙ same_under (p.heard message (c2 k).position (c2 k).bytes) (λ answer n. plays (next answer) (set_at k (past n (c k)) c) hosts ms)
    (λ answer n. plays (next answer) (set_at k (past n (c2 k)) c2) hosts ms)
    (λ answer n. plays_same (next answer) (set_at k (past n (c k)) c) (set_at k (past n (c2 k)) c2) hosts ms (λ j. set_same j k n c c2 same)))
plays_same (tells k message next) c c2 hosts ms same = ap (says k message) (plays_same next c c2 hosts ms same)
plays_same (reads_clock next) c c2 hosts [] same = refl
plays_same (reads_clock next) c c2 hosts (t ∷ ms) same = plays_same (next t) c c2 hosts ms same
plays_same (done value) c c2 hosts ms same = refl
plays_same (halts end) c c2 hosts ms same = refl

-- ---- one deed more

said_more : {p : Protocol} {V : Type 0} (ds : List (Deed p)) (d : Deed p) (played : Played p V)
    → said_first (flat_map said_by ds) (said_first (flat_map said_by (d ∷ [])) played) ≡ said_first (flat_map said_by (ds ++ d ∷ [])) played
said_more {p = p} {V = V} ds d played =
    ap (λ xs. said_as xs) (sym (append_assoc (flat_map said_by ds) (flat_map said_by (d ∷ [])) played.said) ∙ ap (λ xs. xs ++ played.said) (sym (flat_map-append said_by ds (d ∷ []))))
  where
    said_as : List (ℕ × p.Message) → Played p V
    said_as xs = record { said = xs; end = played.end }

-- A deed that turns what is to do, wherever the links come to it, is one more through which the script comes.
pub plays_more : {p : Protocol} {V : Type 0} (s : Script p V) (ds : List (Deed p)) (d : Deed p) (links links2 : List Linked) (a b : Script p V)
    → PlaysTo s ds links a → ((wholes : ℕ → List ℕ) → AreTold wholes links2 → AreTold wholes links)
    → ((wholes : ℕ → List ℕ) (hosts : List (List ℕ)) (ms : List ℕ) → AreTold wholes links
    → plays a (coming_after ds wholes) (flat_map hosts_of (d ∷ []) ++ hosts) (flat_map moments_of (d ∷ []) ++ ms)
    ≡ said_first (flat_map said_by (d ∷ [])) (plays b (coming_after (ds ++ d ∷ []) wholes) hosts ms))
    → PlaysTo s (ds ++ d ∷ []) links2 b
plays_more s ds d links links2 a b so_far turn step wholes hosts ms told =
    ap (λ hs. plays s (from_start wholes) hs (flat_map moments_of (ds ++ d ∷ []) ++ ms))
    (ap (λ xs. xs ++ hosts) (flat_map-append hosts_of ds (d ∷ [])) ∙ append_assoc (flat_map hosts_of ds) (flat_map hosts_of (d ∷ [])) hosts)
    ∙ ap (λ ts. plays s (from_start wholes) (flat_map hosts_of ds ++ (flat_map hosts_of (d ∷ []) ++ hosts)) ts)
    (ap (λ xs. xs ++ ms) (flat_map-append moments_of ds (d ∷ [])) ∙ append_assoc (flat_map moments_of ds) (flat_map moments_of (d ∷ [])) ms)
    ∙ so_far wholes (flat_map hosts_of (d ∷ []) ++ hosts) (flat_map moments_of (d ∷ []) ++ ms) (turn wholes told)
    ∙ ap (said_first (flat_map said_by ds)) (step wholes hosts ms (turn wholes told))
    ∙ said_more ds d (plays b (coming_after (ds ++ d ∷ []) wholes) hosts ms)

pub plays_asked : {p : Protocol} {V : Type 0} (k : ℕ) (message : p.Message) (next : p.Answer → Script p V) (answer : p.Answer) (n : ℕ) (c c2 : ℕ → Coming) (hosts : List (List ℕ)) (ms : List ℕ)
    → p.heard message (c k).position (c k).bytes ≡ got answer n → ((j : ℕ) → set_at k (past n (c k)) c j ≡ c2 j)
    → plays (asks k message next) c hosts ms ≡ says k message (plays (next answer) c2 hosts ms)
unfolding plays
plays_asked k message next answer n c c2 hosts ms heard_it same =
    ap (λ h. says k message (goes_on h (λ a m. plays (next a) (set_at k (past m (c k)) c) hosts ms))) heard_it
    ∙ ap (says k message) (plays_same (next answer) (set_at k (past n (c k)) c) c2 hosts ms same)

pub plays_told : {p : Protocol} {V : Type 0} (k : ℕ) (message : p.Message) (next : Script p V) (c c2 : ℕ → Coming) (hosts : List (List ℕ)) (ms : List ℕ)
    → ((j : ℕ) → c j ≡ c2 j) → plays (tells k message next) c hosts ms ≡ says k message (plays next c2 hosts ms)
unfolding plays
plays_told k message next c c2 hosts ms same = ap (says k message) (plays_same next c c2 hosts ms same)

pub plays_clock : {p : Protocol} {V : Type 0} (next : ℕ → Script p V) (t : ℕ) (c c2 : ℕ → Coming) (hosts : List (List ℕ)) (ms : List ℕ)
    → ((j : ℕ) → c j ≡ c2 j) → plays (reads_clock next) c hosts (t ∷ ms) ≡ plays (next t) c2 hosts ms
unfolding plays
plays_clock next t c c2 hosts ms same = plays_same (next t) c c2 hosts ms same

pub plays_dialed : {p : Protocol} {V : Type 0} (place : Place) (next : List ℕ → Script p V) (host : List ℕ) (c c2 : ℕ → Coming) (hosts : List (List ℕ)) (ms : List ℕ)
    → ((j : ℕ) → c j ≡ c2 j) → plays (dials place next) c (host ∷ hosts) ms ≡ plays (next host) c2 hosts ms
unfolding plays
plays_dialed place next host c c2 hosts ms same = plays_same (next host) c c2 hosts ms same

-- ---- the end

pub plays_stopped : {p : Protocol} {V : Type 0} (k : ℕ) (message : p.Message) (next : p.Answer → Script p V) (end : p.End) (c : ℕ → Coming) (hosts : List (List ℕ)) (ms : List ℕ)
    → p.heard message (c k).position (c k).bytes ≡ stopped end → plays (asks k message next) c hosts ms ≡ record { said = (k, message) ∷ []; end = Some (Err end) }
unfolding plays
plays_stopped k message next end c hosts ms heard_it = ap (λ h. says k message (goes_on h (λ a m. plays (next a) (set_at k (past m (c k)) c) hosts ms))) heard_it

pub plays_done : {p : Protocol} {V : Type 0} (value value2 : V) (c : ℕ → Coming) (hosts : List (List ℕ)) (ms : List ℕ) → value2 ≡ value
    → plays {p = p} (done value) c hosts ms ≡ record { said = []; end = Some (Ok value2) }
unfolding plays
plays_done value value2 c hosts ms same = ap (λ v. ends_with (Some (Ok v))) (sym same)

pub plays_halted : {p : Protocol} {V : Type 0} (end end2 : p.End) (c : ℕ → Coming) (hosts : List (List ℕ)) (ms : List ℕ) → end ≡ end2
    → plays {p = p} {V = V} (halts end2) c hosts ms ≡ record { said = []; end = Some (Err end) }
unfolding plays
plays_halted end end2 c hosts ms same = ap (λ e. ends_with (Some (Err e))) (sym same)

-- Where the end is what the bytes to come make of what was to do, the talk is exact.
pub exact_at : {p : Protocol} {V : Type 0} (s : Script p V) (links links2 : List Linked) (given given2 : Option (List ℕ)) (s2 : Script p V) (result : Result V p.End)
    → (stands : Stands s links given given2 s2) → map host_of links2 ≡ map host_of links → ((wholes : ℕ → List ℕ) → AreTold wholes links2 → AreTold wholes links)
    → (IsSettled p result → (wholes : ℕ → List ℕ) → AreTold wholes links
    → plays s2 (coming_after stands.deeds wholes) [] [] ≡ record { said = said_last s2; end = Some result })
    → EndsExactly s links2 given given2 result (said_in stands.deeds s2)
exact_at {p = p} s links links2 given given2 s2 result stands hosts turn ending settled wholes gone moments told before after =
    ap (λ hs. plays s (from_start wholes) hs moments) (hosts ∙ sym stands.went.hosts ∙ sym (append-nil (flat_map hosts_of stands.deeds)))
    ∙ ap (λ ts. plays s (from_start wholes) (flat_map hosts_of stands.deeds ++ []) ts) (same_moments ∙ sym (append-nil (flat_map moments_of stands.deeds)))
    ∙ stands.plays_to wholes [] [] (turn wholes told)
    ∙ ap (said_first (flat_map said_by stands.deeds)) (ending settled wholes (turn wholes told))
  where
    same_moments : moments ≡ flat_map moments_of stands.deeds
    same_moments =
        let gave = subst (λ g. Gave g given2 (flat_map moments_of stands.deeds)) before stands.went.moments in
        let gave2 = subst (λ g. Gave (Some gone) g (flat_map moments_of stands.deeds)) after gave in
        append_cancel_left gone moments (flat_map moments_of stands.deeds) (ap the_bytes gave2)
