-- The laws of faults.
use Rattle.std.proofs.Common.{◌≡◌, ◌≢◌, ◌⊎◌, ◌-◌, ◌≤◌, ◌<◌, ◌+◌, ℕ, false, drop, slice_get, arith, List, [], ◌∷◌, ◌++◌, length, Result, Ok, Err, refl, sym, ap, subst, ◌∙◌, inl, inr}
use Rattle.class_desc.specs.declared.slot.Slot.{Slot}
use Rattle.class_desc.specs.declared.slot.Item.{Item}
use Rattle.class_desc.specs.declared.slot.Item.TheVariants as items
use Rattle.ser_values.specs.declared.node.Node.{Node}
use Rattle.ser_values.specs.declared.node.SlotPlace.TheVariants as places
use Rattle.ser_values.specs.declared.limits.TheConstants.{LEVELS, NODES, PARTS}
use Rattle.ser_values.specs.Node.{has}
use Rattle.ser_values.specs.Shape.{refs_in, parts_in}
use Rattle.ser_values.specs.Ranges.{NumbersFit, UnitsFit}
use Rattle.ser_values.proofs.Ranged.{numbers_of, units_of}
use Rattle.stream_grammar.proofs.Solid.{Solid, Sees, got_self, parts_append, whole_same}
use Rattle.ser_values.proofs.Lists.{slice_get-append_left}
use Rattle.std.proofs.lemmas.Option.{slice_get_within}
use Rattle.std.proofs.lemmas.List.{length-append}
use Rattle.std.proofs.Math.Seq.{drop-append_seam}
use Rattle.std.proofs.lemmas.Bool.{cases_lt}
use Rattle.class_desc.specs.declared.slot.Slot.TheVariants as slots
use Rattle.stream_grammar.proofs.Sound.{Answer, slots_sound}
use Rattle.stream_grammar.proofs.Mirror.{Ready}
use Rattle.stream_grammar.proofs.Complete.{Given, slots_complete}
use Rattle.stream_grammar.proofs.OneReading.{same_list}
use Rattle.stream_laws.proofs.Giving.{same_references}
use Rattle.stream_grammar.specs.Spelled.{joined, Spells, IsStream}
use Rattle.stream_grammar.specs.Reading.{Progress, bad_magic, Fault, short, bad, too_many, too_deep, magic_at, items_at, slot_at}
use Rattle.stream_grammar.proofs.PlainSound as plain
use Rattle.stream_grammar.proofs.Complete.{magic_read}
use Rattle.stream_grammar.specs.Faults.{AreBytes}
use Rattle.ser_read.specs.declared.serving.Want.{Want}
use Rattle.ser_read.specs.declared.serving.Want.TheVariants as wanted
use Rattle.ser_read.specs.Heading.{EndsInBlock, inside_block}
use Rattle.ser_read.proofs.Heading.{head_runs, added_some, some_wanted}
use Rattle.ser_read.proofs.Missing.{want_err}
use Rattle.ser_read.specs.Wants.{WantFault, inside, missing_block, block_left, ◌▸◌, lift_fault, Stand, nothing_read, run_at, bytes_at, close_at, want_at, serve, serve_to_close, wants_at}
use Rattle.ser_read.specs.Whole as whole
use Rattle.ser_read.specs.Whole.{stream_at}
use Rattle.ser_read.proofs.InOrder.{magic_is}
use Rattle.ser_read.proofs.Served.{lifted_ok, given_is, are}
use Rattle.ser_read.proofs.SpelledWants.{ServeOk, AllOk, asked_sound}
use Rattle.ser_read.proofs.Given.{asked_complete}
use Rattle.ser_read.proofs.Streams.{stream_at_sound, stream_at_complete}
use Rattle.stream_laws.specs.Reads.{Reads}
use Rattle.stream_laws.specs.Fails.{Fails}
use Rattle.stream_laws.specs.WantFails.{IsHeaded, WantShows, in_head, in_contents, Shows, in_magic, in_items, so_far, Meets, ReferencesAreRead, ReferencesAreSpelled, WantFaultsAreShown, ShortWantsShowNone, WantFaultIsOne, HeadedFaultsAreShown, FaultsAreShown, FaultIsOne, ShortShowsNone}
use Rattle.stream_laws.proofs.Reading.{ok_first}
use Rattle.stream_laws.proofs.Failing.{err_is, bind_err, then_err, err_first, levels, items_stop, items_fail}
use Rattle.stream_laws.proofs.WantFailing.{missed, miss_is, bind_miss, miss_first, met_first, lifted_miss, lift_err, lift_ok, firm_inside, magic_fails, magic_stops, wants_stop, shown_fails, solid_behind}

-- ---- lists of wants

contents_bytes : (bytes contents : List ℕ) → AreBytes bytes → IsHeaded bytes contents → plain.AreBytes contents
contents_bytes bytes contents bs is = (subst plain.AreBytes is (are bytes bs)).1.1.1.1

wants_shown : (end : ℕ) (wants : List Want) (bytes : List ℕ) (e : WantFault) → AreBytes bytes → e ≢ inside short → wants_at end wants bytes ≡ Err e → WantShows end wants bytes e
unfolding wants_at
wants_shown end wants bytes e bs firm h = elim (bind_miss (lift_fault (magic_at end (0xAC ∷ 0xED ∷ 0x00 ∷ 0x05 ∷ []) bytes)) (serve_to_close end wants nothing_read) e h) [
  | inl g ↦ (
      let l = lifted_miss (magic_at end (0xAC ∷ 0xED ∷ 0x00 ∷ 0x05 ∷ []) bytes) e g in
      let m = magic_stops end bytes l.0 (firm_inside l.0 e firm l.2) l.1 in
      subst (λ z. WantShows end wants bytes z) (ap inside (sym m.2) ∙ l.2) (in_head m.0 m.1))
  | inr x ↦ (
      let a = lifted_ok (magic_at end (0xAC ∷ 0xED ∷ 0x00 ∷ 0x05 ∷ []) bytes) (λ z. Ok z) x.0 (ap (λ z. z ▸ λ z. Ok z) x.1) in
      let same : a.0 ≡ x.0 = given_is a.0 x.0 a.2 in
      let is : IsHeaded bytes x.0 = magic_is end (0xAC ∷ 0xED ∷ 0x00 ∷ 0x05 ∷ []) bytes a.0 a.1 ∙ ap (λ (l : List ℕ). 0xAC ∷ 0xED ∷ 0x00 ∷ 0x05 ∷ l) same in
      in_contents x.0 e is (wants_stop end wants x.0 e firm (contents_bytes bytes x.0 bs is) x.2))
]

headed_at : (end : ℕ) (wants : List Want) (bytes contents : List ℕ) (y : Result AllOk WantFault) → IsHeaded bytes contents → serve_to_close end wants nothing_read contents ≡ y → wants_at end wants bytes ≡ y
unfolding wants_at
headed_at end wants bytes contents y is h =
    met_first (lift_fault (magic_at end (0xAC ∷ 0xED ∷ 0x00 ∷ 0x05 ∷ []) bytes)) _ contents _ (lift_ok (magic_at end (0xAC ∷ 0xED ∷ 0x00 ∷ 0x05 ∷ []) bytes) contents (ap (magic_at end (0xAC ∷ 0xED ∷ 0x00 ∷ 0x05 ∷ [])) is ∙ magic_read end contents)) h

shown_wants : (end : ℕ) (wants : List Want) (bytes : List ℕ) (e : WantFault) → AreBytes bytes → e ≢ inside short → WantShows end wants bytes e → wants_at end wants bytes ≡ Err e
unfolding wants_at
shown_wants end wants bytes e bs firm (in_head at d) = miss_first (lift_fault (magic_at end (0xAC ∷ 0xED ∷ 0x00 ∷ 0x05 ∷ []) bytes)) _ _ (lift_err (magic_at end (0xAC ∷ 0xED ∷ 0x00 ∷ 0x05 ∷ []) bytes) (bad bad_magic at) (magic_fails end bytes at d))
shown_wants end wants bytes e bs firm (in_contents contents fault is h) = headed_at end wants bytes contents (Err e) is (shown_fails end wants contents e firm (contents_bytes bytes contents bs is) h)

pub want_faults_are_shown : WantFaultsAreShown
want_faults_are_shown end wants bytes e bs firm = (λ h. wants_shown end wants bytes e bs firm h, λ h. shown_wants end wants bytes e bs firm h)

abbrev met : AllOk → Result AllOk WantFault
met y = Ok y

meets_ok : (end : ℕ) (wants : List Want) (bytes : List ℕ) (m : Meets wants bytes) → wants_at end wants bytes ≡ met (m.answers, m.nodes, joined m.answers, m.rest)
meets_ok end wants bytes m = headed_at end wants bytes (m.front ++ m.rest) _ m.is (asked_complete end wants m.answers m.nodes m.front m.rest m.spelled)

ok_meets : (end : ℕ) (wants : List Want) (bytes : List ℕ) (y : AllOk) → AreBytes bytes → wants_at end wants bytes ≡ Ok y → Meets wants bytes
unfolding wants_at
ok_meets end wants bytes y bs h =
    let a = lifted_ok (magic_at end (0xAC ∷ 0xED ∷ 0x00 ∷ 0x05 ∷ []) bytes) (serve_to_close end wants nothing_read) y h in
    let is : IsHeaded bytes a.0 = magic_is end (0xAC ∷ 0xED ∷ 0x00 ∷ 0x05 ∷ []) bytes a.0 a.1 in
    let f = asked_sound end wants a.0 y a.2 (contents_bytes bytes a.0 bs is) in
    record { answers = y.0; nodes = y.1; front = f.front; rest = y.3; is = is ∙ ap (λ (l : List ℕ). 0xAC ∷ 0xED ∷ 0x00 ∷ 0x05 ∷ l) f.is; spelled = f.asked }

met_no_miss : (y : AllOk) (e : WantFault) → met y ≡ Err e → ⊥
met_no_miss y e h = cc

-- ends early, or not
short_or_firm : (e : WantFault) → (e ≡ inside short) ⊎ (e ≢ inside short)
short_or_firm (inside short) = inl refl
short_or_firm (inside (bad kind at)) = inr (λ same. cc)
short_or_firm (inside (too_many at)) = inr (λ same. cc)
short_or_firm (inside (too_deep at)) = inr (λ same. cc)
short_or_firm (missing_block at) = inr (λ same. cc)
short_or_firm (block_left at) = inr (λ same. cc)

pub short_wants_show_none : ShortWantsShowNone
short_wants_show_none end wants bytes bs = (λ h. (λ m. met_no_miss _ _ (sym (meets_ok end wants bytes m) ∙ h), λ e firm shown. firm (miss_is e (inside short) (sym (shown_wants end wants bytes e bs firm shown) ∙ h))), λ h. by (wants_at end wants bytes) refl h.0 h.1)
  where
    by : (r : Result AllOk WantFault) → wants_at end wants bytes ≡ r → ¬ Meets wants bytes → ((e : WantFault) → e ≢ inside short → WantShows end wants bytes e → ⊥) → wants_at end wants bytes ≡ Err (inside short)
    by (Ok y) is none no_fault = absurd (none (ok_meets end wants bytes y bs is))
    by (Err e) is none no_fault = elim (short_or_firm e) [
      | inl same ↦ is ∙ ap (λ z. Err z) same
      | inr firm ↦ absurd (no_fault e firm (wants_shown end wants bytes e bs firm is))
    ]

pub want_fault_is_one : WantFaultIsOne
want_fault_is_one end wants bytes e bs firm shown =
    let h = shown_wants end wants bytes e bs firm shown in
    (λ other firm2 shown2. miss_is other e (sym (shown_wants end wants bytes other bs firm2 shown2) ∙ h), λ m. met_no_miss _ _ (sym (meets_ok end wants bytes m) ∙ h))

-- ---- wants behind a head

abbrev stands_so : List ℕ → List Item → ℕ → List ℕ → Result (List ℕ × Stand × List ℕ) WantFault
stands_so bytes is left rest = Ok (bytes, record { progress = record { nodes = []; parts = 0 }; items = is; block = left }, rest)

-- wants behind the bytes of a head, and all of them
head_first : (end n : ℕ) (head bytes : List ℕ) (left : ℕ) (wants : List Want) (more : List ℕ) → EndsInBlock n head bytes left → serve end (wanted.Bytes n ∷ wants) nothing_read (head ++ more) ≡ (serve end wants (inside_block bytes left) more ▸ λ xs. Ok (items.Bytes bytes ∷ xs.0, xs.1, xs.2))
unfolding serve want_at bytes_at
head_first end n head bytes left wants more h =
    let run = head_runs end n head bytes left more h in
    let some = added_some bytes (some_wanted n head bytes left h) in
    met_first (want_at end (wanted.Bytes n) nothing_read (head ++ more)) _ (items.Bytes bytes, inside_block bytes left, more) _
    (met_first (bytes_at end n nothing_read (head ++ more)) _ (bytes, inside_block bytes left, more) _ (met_first (run_at end n 0 (head ++ more)) _ (bytes, left, more) _ run (ap (λ (l : List Item). stands_so bytes l left more) some)) refl) refl

abbrev closing : ℕ → ServeOk → Result AllOk WantFault
closing end x = close_at (end - length x.2) x.1 ▸ λ g. Ok (x.0, g.0, g.1, x.2)

-- an answer in front changes no fault
same_miss : (end : ℕ) (i : Item) (r : Result ServeOk WantFault) (e : WantFault) → (r ▸ closing end) ≡ Err e → ((r ▸ λ xs. Ok (i ∷ xs.0, xs.1, xs.2)) ▸ closing end) ≡ Err e
same_miss end i (Err g) e h = let same : g ≡ e = cc in ap (λ z. missed z) same
same_miss end i (Ok x) e h = miss_first (close_at (end - length x.2) x.1) _ e (want_err (close_at (end - length x.2) x.1) (λ g. (x.0, g.0, g.1, x.2)) e h)

same_back : (end : ℕ) (i : Item) (r : Result ServeOk WantFault) (e : WantFault) → ((r ▸ λ xs. Ok (i ∷ xs.0, xs.1, xs.2)) ▸ closing end) ≡ Err e → (r ▸ closing end) ≡ Err e
same_back end i (Err g) e h = let same : g ≡ e = cc in ap (λ z. missed z) same
same_back end i (Ok x) e h = miss_first (close_at (end - length x.2) x.1) _ e (want_err (close_at (end - length x.2) x.1) (λ g. (i ∷ x.0, g.0, g.1, x.2)) e h)

bytes_both : (xs ys : List ℕ) → AreBytes xs → AreBytes ys → plain.AreBytes (xs ++ ys)
bytes_both [] ys a b = are ys b
bytes_both (x ∷ xs) ys a b = (a.0, bytes_both xs ys a.1 b)

pub headed_faults_are_shown : HeadedFaultsAreShown
unfolding serve_to_close
headed_faults_are_shown end n head bytes left wants more e h bs firm =
    let first = head_first end n head bytes left wants more h in
    let all = bytes_both head more h.are_bytes bs in (
      λ g. wants_stop end (wanted.Bytes n ∷ wants) (head ++ more) e firm all (ap (λ z. z ▸ closing end) first ∙ same_miss end (items.Bytes bytes) (serve end wants (inside_block bytes left) more) e g),
      λ g. same_back end (items.Bytes bytes) (serve end wants (inside_block bytes left) more) e (sym (ap (λ z. z ▸ closing end) first) ∙ shown_fails end (wanted.Bytes n ∷ wants) (head ++ more) e firm all g),
    )

-- ---- whole streams

stream_shown : (end : ℕ) (bytes : List ℕ) (f : Fault) → f ≢ short → stream_at end bytes ≡ Err f → Shows end bytes f
unfolding stream_at
stream_shown end bytes f firm h = elim (bind_err (magic_at end (0xAC ∷ 0xED ∷ 0x00 ∷ 0x05 ∷ []) bytes) _ f h) [
  | inl g ↦ (let m = magic_stops end bytes f firm g in in_magic m.0 m.1 m.2)
  | inr x ↦ in_items x.0 (magic_is end (0xAC ∷ 0xED ∷ 0x00 ∷ 0x05 ∷ []) bytes x.0 x.1)
      (items_stop end f firm (Fails end f LEVELS) (Reads LEVELS) (slot_at end LEVELS) (levels end f firm LEVELS) false [] whole.nothing_read x.0 (then_err (items_at end (slot_at end LEVELS places.Reference []) false whole.nothing_read x.0) _ f x.2))
]

shown_stream : (end : ℕ) (bytes : List ℕ) (f : Fault) → f ≢ short → Shows end bytes f → stream_at end bytes ≡ Err f
unfolding stream_at
shown_stream end bytes f firm (in_magic at d same) = err_first (magic_at end (0xAC ∷ 0xED ∷ 0x00 ∷ 0x05 ∷ []) bytes) _ f (magic_fails end bytes at d ∙ ap (λ z. Err z) (sym same))
shown_stream end bytes f firm (in_items contents is h) =
    ok_first (magic_at end (0xAC ∷ 0xED ∷ 0x00 ∷ 0x05 ∷ []) bytes) _ contents _ (ap (magic_at end (0xAC ∷ 0xED ∷ 0x00 ∷ 0x05 ∷ [])) is ∙ magic_read end contents)
    (err_first (items_at end (slot_at end LEVELS places.Reference []) false whole.nothing_read contents) _ f (items_fail end f firm (Fails end f LEVELS) (Reads LEVELS) (slot_at end LEVELS) (levels end f firm LEVELS) false [] whole.nothing_read contents h))

pub faults_are_shown : FaultsAreShown
faults_are_shown end bytes f firm = (λ h. stream_shown end bytes f firm h, λ h. shown_stream end bytes f firm h)

pub fault_is_one : FaultIsOne
fault_is_one end bytes f other firm firm2 shown shown2 = err_is {A = Answer} other f (sym (shown_stream end bytes other firm2 shown2) ∙ shown_stream end bytes f firm shown)

abbrev read_as : Answer → Result Answer Fault
read_as y = Ok y

read_no_fault : (y : Answer) (f : Fault) → read_as y ≡ Err f → ⊥
read_no_fault y f h = cc

ends_or_firm : (f : Fault) → (f ≡ short) ⊎ (f ≢ short)
ends_or_firm short = inl refl
ends_or_firm (bad kind at) = inr (λ same. cc)
ends_or_firm (too_many at) = inr (λ same. cc)
ends_or_firm (too_deep at) = inr (λ same. cc)

pub short_shows_none : ShortShowsNone
short_shows_none end bytes bs = (λ h. (λ nodes contents s. read_no_fault _ _ (sym (stream_at_complete end nodes contents bytes s) ∙ h), λ f firm shown. firm (err_is {A = Answer} f short (sym (shown_stream end bytes f firm shown) ∙ h))), λ h. by (stream_at end bytes) refl h.0 h.1)
  where
    by : (r : Result Answer Fault) → stream_at end bytes ≡ r → ((nodes : List Node) (contents : List Item) → IsStream nodes contents bytes → ⊥) → ((f : Fault) → f ≢ short → Shows end bytes f → ⊥) → stream_at end bytes ≡ Err short
    by (Ok y) is none no_fault = absurd (none y.0 y.1 (stream_at_sound end bytes y bs is))
    by (Err f) is none no_fault = elim (ends_or_firm f) [
      | inl same ↦ is ∙ ap (λ z. Err z) same
      | inr firm ↦ absurd (no_fault f firm (stream_shown end bytes f firm is))
    ]

-- ---- references

abbrev with_parts : List Node → ℕ → Progress
with_parts nodes k = record { nodes = nodes; parts = k }

abbrev read_slot : Slot → Progress → List ℕ → Result (Slot × Progress × List ℕ) Fault
read_slot s now rest = Ok (s, now, rest)

pub references_are_read : ReferencesAreRead
references_are_read end left p unread now here y = (λ e. ((same_references end left).at p unread).to now here y e, λ h. ((same_references end left).at p unread).from now here y h)

spelled_of : (before added : List Node) (answers : List Item) (s : Slot) (here rest : List ℕ) → Solid [] (so_far before answers) → AreBytes here → Reads LEVELS places.Reference [] (so_far before answers) here (s, so_far (before ++ added) answers, rest)
    → Spells (before ++ added) LEVELS [] (places.Reference, s) (length before) here rest (length (before ++ added)) × NumbersFit (before ++ added) × UnitsFit (before ++ added) × (parts_in (before ++ added) + refs_in answers ≤ PARTS)
spelled_of before added answers s here rest solid bs h =
    let F = before ++ added in
    let now = so_far before answers in
    let later = so_far F answers in
    let e = ((same_references 0 LEVELS).at places.Reference []).from now here (s, later, rest) h in
    let g = (slots_sound 0 LEVELS [] places.Reference now here (s, later, rest) e solid (are here bs)).got in
    (got_self [] now later rest _ g, numbers_of F g.solid.ranged, units_of F g.solid.ranged, g.solid.few)

-- a list of nodes has those in front of it
sees_front_of : (before added : List Node) → Sees (before ++ added) before []
sees_front_of before added = record {
  descs = λ k i gone is desc. slice_get-append_left before added k (slice_get_within before k i is) ∙ is;
  texts = λ k i is t. slice_get-append_left before added k (slice_get_within before k i is) ∙ is;
  long = let l = length-append before added in omega arith;
}

ready_behind : (before added : List Node) (answers : List Item) → Solid [] (so_far before answers) → parts_in (before ++ added) + refs_in answers ≤ PARTS → Ready (before ++ added) [] (so_far before answers)
unfolding has
ready_behind before added answers solid few = record {
  few = let rest : parts_in (drop (length before) (before ++ added)) ≡ parts_in added = ap parts_in (drop-append_seam before added) in let sum = parts_append before added in omega arith;
  below = λ k e. absurd cc;
  known = λ k i lt gone is d. whole_same (before ++ added) [] (so_far before answers) solid (sees_front_of before added) (slots.Node k) (record { read = gone; node = i; is = sym (slice_get-append_left before added k lt) ∙ is; desc = d });
  texts = λ k i lt is t. slice_get-append_left before added k lt;
}

given_of : (before added : List Node) (answers : List Item) (s : Slot) (here rest : List ℕ) → Solid [] (so_far before answers) → AreBytes here → length (before ++ added) ≤ NODES → Spells (before ++ added) LEVELS [] (places.Reference, s) (length before) here rest (length (before ++ added))
    → NumbersFit (before ++ added) → UnitsFit (before ++ added) → parts_in (before ++ added) + refs_in answers ≤ PARTS → Reads LEVELS places.Reference [] (so_far before answers) here (s, so_far (before ++ added) answers, rest)
given_of before added answers s here rest solid bs few spelled numbers units room =
    let F = before ++ added in
    let start = so_far before answers in
    let given : Given F = record { few = few; parts = omega (arith, room); numbers = numbers; units = units } in
    let r = (slots_complete F given 0 LEVELS [] places.Reference s start here rest (length F) spelled (ready_behind before added answers solid room)).reads in
    let g = (slots_sound 0 LEVELS [] places.Reference start here (s, r.later, rest) r.is solid (are here bs)).got in
    let same : F ≡ r.later.nodes = same_list F r.later.nodes (sym r.len) (λ k lt. at k lt r.later.nodes g.added g.grown (λ low more. r.after.agrees k low more) r.len) in
    let counted = g.parts in
    let grown : parts_in r.later.nodes ≡ parts_in before + parts_in g.added = ap parts_in g.grown ∙ parts_append before g.added in
    let all : parts_in F ≡ parts_in r.later.nodes = ap parts_in same in
    let sum : r.later.parts ≡ parts_in F + refs_in answers = omega arith in
    let now : r.later ≡ so_far F answers = ap (λ k. with_parts r.later.nodes k) sum ∙ ap (λ (l : List Node). with_parts l (parts_in F + refs_in answers)) (sym same) in
    ((same_references 0 LEVELS).at places.Reference []).to start here (s, so_far F answers, rest) (r.is ∙ ap (λ p. read_slot s p rest) now)
  where
    at : (k : ℕ) → k < length (before ++ added) → (N others : List Node) → N ≡ before ++ others → (length before ≤ k → k < length N → slice_get (before ++ added) k ≡ slice_get N k) → length N ≡ length (before ++ added) → slice_get (before ++ added) k ≡ slice_get N k
    at k lt N others grown agrees len = elim (cases_lt k (length before)) [
      | inl low ↦ slice_get-append_left before added k low ∙ (sym (slice_get-append_left before others k low) ∙ ap (λ (l : List Node). slice_get l k) (sym grown))
      | inr high ↦ agrees high (omega arith)
    ]

pub references_are_spelled : ReferencesAreSpelled
references_are_spelled wants answers before added front s here rest spelled few bs =
    let solid = solid_behind wants answers before front spelled in
    (λ h. spelled_of before added answers s here rest solid bs h, λ h. given_of before added answers s here rest solid bs few h.0 h.1 h.2 h.3)
