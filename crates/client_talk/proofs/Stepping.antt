-- What a step makes of a command, wherever it began.
use Rattle.std.proofs.Common.{arith, ◌≡◌, ℕ, ◌+◌, ◌<◌, List, [], ◌∷◌, ◌++◌, length, Option, Some, None, Result, Ok, Err, IsTrue, nat_eq, true≢false, refl, ap, sym, subst, ◌∙◌, Bool, true, false, if◌then◌else◌, append-nil, inl, inr}
use Rattle.std.specs.List.{flat_map}
use Rattle.std.proofs.lemmas.Grind.{flat_map-append}
use Rattle.wire_io.specs.Wire.{with_front, with_end, Gave, Gave-nothing}
use Rattle.wire_io.specs.Links.{Dialed}
use Rattle.client_talk.specs.declared.place.Place.{Place}
use Rattle.client_talk.specs.Scripts.{Cause, by_memory, by_dial, by_write, by_table, Protocol, Script, dials, asks, tells, reads_clock, done, halts, plays}
use Rattle.client_talk.specs.Talk.{Row, IsNothing, Deed, asked, told, read_clock, cut, Ends, IsBySending, places_of, hosts_of, moments_of, said_last, sent_on, taken_on, WentOn, Seen, Linked, linked, place_of, EachFrom, Went, AreTold, ShowsBy, Shows, IsOnLinkBy, IsOnLink, IsSettledBy, IsSettled, Talks}
use Rattle.client_talk.specs.Steps.{coming_after, Stands, with_seen_from, with_seen, IsAt, Moves, Asks, Tells, Steps}
use Rattle.client_talk.proofs.Talking.{leads_more, sent_row, taken_row, each_more, each_first, each_end, length_seen, hosts_seen, starts_before, seen_same, seen_again, went_row, went_clock, went_dial, dial_deed, still_idle, now_at, placed_row, placed_none}
use Rattle.client_talk.proofs.Playing.{coming_row, coming_sent, coming_none, found_at, placed_at, plays_more, plays_asked, plays_told, plays_clock, plays_dialed, plays_stopped, plays_done, plays_halted, exact_at}

abbrev row_on : ℕ → List ℕ → List ℕ → Row
row_on k sent taken = record { link = k; sent = sent; taken = taken }

told_before : (wholes : ℕ → List ℕ) (k : ℕ) (seen : Seen) (links : List Linked) → AreTold wholes (with_seen k seen links) → AreTold wholes links
told_before wholes k seen links telling = starts_before (λ j b. b.link.left ≡ Some (wholes j)) 0 k seen links telling

-- ---- ends

-- The command ended, and this stands of the link on which it did.
shows_one : {V : Type 0} (p : Protocol) (result : Result V p.End) (k : ℕ) (after : Seen) (n : ℕ) (ls : List Linked) → Shows p result after
    → EachFrom (λ j l. IsTrue (nat_eq j k) → Shows p result l.seen) n (with_seen_from n k after ls)
shows_one p result k after n [] shows = tt
shows_one p result k after n (l ∷ ls) shows = (shown (nat_eq n k) l, shows_one p result k after (n + 1) ls shows)
  where
    shown : (b : Bool) (l : Linked) → IsTrue b → Shows p result (if b then linked l.start after else l).seen
    shown true l holds = shows
    shown false l holds = absurd (true≢false (sym holds))

-- The command ended in a row that was cut.
pub ends_in : {p : Protocol} {V : Type 0} (s s2 : Script p V) (k : ℕ) (links : List Linked) (given given2 : Option (List ℕ)) (before after : Seen) (sent taken : List ℕ) (result : Result V p.End)
    (stands : Stands s links given given2 s2) → IsAt k links before → Moves before after sent taken → Ends s2 stands.deeds (row_on k sent taken) after.read.left result → Shows p result after
    → (IsSettled p result → (wholes : ℕ → List ℕ) → AreTold wholes links
    → plays s2 (coming_after stands.deeds wholes) [] [] ≡ record { said = said_last s2; end = Some result })
    → Talks s (with_seen k after links) given given2 result
ends_in {p = p} s s2 k links given given2 before after sent taken result stands here moved ended shows ending = record {
  deeds = stands.deeds;
  last = s2;
  row = row_on k sent taken;
  rest = after.read.left;
  leads = stands.leads;
  ended = ended;
  rest_is = each_more (λ j l. IsTrue (nat_eq j k) → l.seen ≡ after) (λ j l. IsTrue (nat_eq j k) → l.seen.read.left ≡ after.read.left) 0 (with_seen k after links)
      (λ j l same e. ap (λ (x : Seen). x.read.left) (same e)) (now_at k before after links here).same;
  went = went_row stands.deeds (cut (row_on k sent taken)) (row_on k sent taken) k links given given2 before after stands.went here refl refl refl refl refl moved;
  shows = shows_one p result k after 0 links shows;
  known = λ e. subst (λ n. k < n) (sym (length_seen 0 k after links)) here.known;
  exact = exact_at s links (with_seen k after links) given given2 s2 result stands (hosts_seen 0 k after links) (λ wholes telling. told_before wholes k after links telling) ending;
}

abbrev no_bytes : List ℕ
no_bytes = []

neither : (b : Bool) → (if b then no_bytes else no_bytes) ≡ []
neither true = refl
neither false = refl

abbrev no_row : Row
no_row = row_on 0 [] []

nothing_sent : {p : Protocol} (j : ℕ) (ds : List (Deed p)) → sent_on j (ds ++ cut no_row ∷ []) ≡ sent_on j ds
nothing_sent j ds = sent_row j 0 ds (cut no_row) no_row refl refl ∙ ap (λ xs. sent_on j ds ++ xs) (neither (nat_eq j 0)) ∙ append-nil (sent_on j ds)

nothing_taken : {p : Protocol} (j : ℕ) (ds : List (Deed p)) → taken_on j (ds ++ cut no_row ∷ []) ≡ taken_on j ds
nothing_taken j ds = taken_row j 0 ds (cut no_row) no_row refl refl ∙ ap (λ xs. taken_on j ds ++ xs) (neither (nat_eq j 0)) ∙ append-nil (taken_on j ds)

went_nothing : {p : Protocol} (ds : List (Deed p)) (links : List Linked) (given given2 : Option (List ℕ)) → Went ds links given given2 → Went (ds ++ cut no_row ∷ []) links given given2
went_nothing ds links given given2 went = record {
  places = flat_map-append places_of ds (cut no_row ∷ []) ∙ append-nil (flat_map places_of ds) ∙ went.places;
  hosts = flat_map-append hosts_of ds (cut no_row ∷ []) ∙ append-nil (flat_map hosts_of ds) ∙ went.hosts;
  each = each_more (WentOn ds) (WentOn (ds ++ cut no_row ∷ [])) 0 links
      (λ j l on. record { left = on.left ∙ ap (λ xs. with_front xs l.seen.read.left) (sym (nothing_taken j ds)); held = on.held ∙ ap (with_end l.start.link.held) (sym (nothing_sent j ds)); read_open = on.read_open; write_open = on.write_open }) went.each;
  others = λ j few. let (no_sent, no_taken) = went.others j few in (nothing_sent j ds ∙ no_sent, nothing_taken j ds ∙ no_taken);
  moments = subst (Gave given given2) (sym (flat_map-append moments_of ds (cut no_row ∷ []) ∙ append-nil (flat_map moments_of ds))) went.moments;
}

every : (P : ℕ → Linked → Type 0) (n : ℕ) (ls : List Linked) → ((k : ℕ) (l : Linked) → P k l) → EachFrom P n ls
every P n [] all = tt
every P n (l ∷ ls) all = (all n l, every P (n + 1) ls all)

-- what is left on the first link, if there is one
abbrev rest_first : List Linked → Option (List ℕ)
rest_first [] = None
rest_first (l ∷ ls) = l.seen.read.left

none_first : (n : ℕ) (rest : Option (List ℕ)) (ls : List Linked) → 0 < n → EachFrom (λ k l. IsTrue (nat_eq k 0) → l.seen.read.left ≡ rest) n ls
none_first n rest [] later = tt
none_first n rest (l ∷ ls) later = let other : nat_eq n 0 ≡ false = grind arith in ((λ e. absurd (true≢false (sym e ∙ other))), none_first (n + 1) rest ls (omega (arith, later)))

rest_is_first : (links : List Linked) → EachFrom (λ k l. IsTrue (nat_eq k 0) → l.seen.read.left ≡ rest_first links) 0 links
rest_is_first [] = tt
rest_is_first (l ∷ ls) = ((λ e. refl), none_first (0 + 1) l.seen.read.left ls (omega arith))

-- The command ended, and nothing was sent or taken for it.
pub ends_here : {p : Protocol} {V : Type 0} (s s2 : Script p V) (links : List Linked) (given given2 : Option (List ℕ)) (result : Result V p.End)
    (stands : Stands s links given given2 s2) → ((rest : Option (List ℕ)) → Ends s2 stands.deeds no_row rest result) → ((seen : Seen) → Shows p result seen) → (IsOnLink p result → ⊥)
    → (IsSettled p result → (wholes : ℕ → List ℕ) → AreTold wholes links
    → plays s2 (coming_after stands.deeds wholes) [] [] ≡ record { said = said_last s2; end = Some result })
    → Talks s links given given2 result
ends_here {p = p} s s2 links given given2 result stands ended shows apart ending = record {
  deeds = stands.deeds;
  last = s2;
  row = no_row;
  rest = rest_first links;
  leads = stands.leads;
  ended = ended (rest_first links);
  rest_is = rest_is_first links;
  went = went_nothing stands.deeds links given given2 stands.went;
  shows = every (λ k l. IsTrue (nat_eq k 0) → Shows p result l.seen) 0 links (λ k l holds. shows l.seen);
  known = λ e. absurd (apart e);
  exact = exact_at s links links given given2 s2 result stands refl (λ wholes telling. telling) ending;
}

ends_by_memory : {p : Protocol} {V : Type 0} (s : Script p V) (ds : List (Deed p)) (row : Row) (rest : Option (List ℕ)) (end : p.End) → p.cause end ≡ by_memory → IsNothing row → Ends s ds row rest (Err end)
ends_by_memory (dials place next) ds row rest end lacks none = inl (lacks, none)
ends_by_memory (asks k message next) ds row rest end lacks none = inl (lacks, none)
ends_by_memory (tells k message next) ds row rest end lacks none = inl (lacks, none)
ends_by_memory (reads_clock next) ds row rest end lacks none = inl (lacks, none)
ends_by_memory (done value) ds row rest end lacks none = inl (lacks, none)
ends_by_memory (halts end2) ds row rest end lacks none = inl (lacks, none)

-- There was no memory.
pub memory_here : {p : Protocol} {V : Type 0} (s s2 : Script p V) (links : List Linked) (given given2 : Option (List ℕ)) (end : p.End)
    → Stands s links given given2 s2 → p.cause end ≡ by_memory → Talks s links given given2 (Err end)
memory_here {p = p} s s2 links given given2 end stands lacks =
    ends_here s s2 links given given2 (Err end) stands (λ rest. ends_by_memory s2 stands.deeds no_row rest end lacks (refl, refl))
    (λ seen. subst (λ c. ShowsBy c seen) (sym lacks) tt) (λ e. subst IsOnLinkBy lacks e) (λ settled. absurd (subst IsSettledBy lacks settled))

-- The command is done.
pub done_on : {p : Protocol} {V : Type 0} (s : Script p V) (links : List Linked) (given given2 : Option (List ℕ)) (value : V)
    → Stands s links given given2 (done value) → Talks s links given given2 (Ok value)
done_on s links given given2 value stands =
    ends_here s (done value) links given given2 (Ok value) stands (λ rest. (refl, (refl, refl))) (λ seen. tt) (λ e. e) (λ settled wholes telling. plays_done value value _ [] [] refl)

-- The script halts.
pub halted_on : {p : Protocol} {V : Type 0} (s : Script p V) (links : List Linked) (given given2 : Option (List ℕ)) (end : p.End)
    → Stands s links given given2 (halts end) → (p.cause end ≡ by_table) → Talks s links given given2 (Err end)
halted_on {p = p} s links given given2 end stands refused =
    ends_here s (halts end) links given given2 (Err end) stands (λ rest. inr (refl, (refl, refl)))
    (λ seen. subst (λ c. ShowsBy c seen) (sym refused) tt) (λ e. subst IsOnLinkBy refused e) (λ settled wholes telling. plays_halted end end _ [] [] refl)

-- ---- steps

pub asked_on : {p : Protocol} {V : Type 0} (s : Script p V) (k : ℕ) (links : List Linked) (given given2 : Option (List ℕ)) (before after : Seen) (message : p.Message) (next : p.Answer → Script p V) (result : Result p.Answer p.End)
    → Stands s links given given2 (asks k message next) → IsAt k links before → Asks p before after message result → Steps s k links after given given2 next result
asked_on {p = p} s k links given given2 before after message next (Ok answer) stands here answers = record {
  deeds = stands.deeds ++ asked message answer (row_on k answers.sent answers.taken) ∷ [];
  leads = leads_more s [] stands.deeds (asked message answer (row_on k answers.sent answers.taken)) (asks k message next) (next answer) stands.leads
      (refl, refl, answers.is_message, subst (λ n. p.IsReply message n answers.taken answer) (placed_at stands.deeds k before links stands.positions here) answers.is_reply, refl);
  went = went_row stands.deeds (asked message answer (row_on k answers.sent answers.taken)) (row_on k answers.sent answers.taken) k links given given2 before after stands.went here
      refl refl refl refl refl answers.moves;
  positions = placed_row stands.deeds (asked message answer (row_on k answers.sent answers.taken)) (row_on k answers.sent answers.taken) k links before after stands.positions here refl refl answers.position;
  plays_to = plays_more s stands.deeds (asked message answer (row_on k answers.sent answers.taken)) links (with_seen k after links) (asks k message next) (next answer) stands.plays_to
      (λ wholes telling. told_before wholes k after links telling)
      (λ wholes hosts ms telling. plays_asked k message next answer (length answers.taken) (coming_after stands.deeds wholes) _ hosts ms
      (ap (λ n. p.heard message n (coming_after stands.deeds wholes k).bytes) (sym (placed_at stands.deeds k before links stands.positions here))
      ∙ answers.gives _ (found_at stands.deeds wholes k before links stands.went.each telling here))
      (λ j. coming_row j k stands.deeds (asked message answer (row_on k answers.sent answers.taken)) (row_on k answers.sent answers.taken) wholes refl refl));
}
asked_on {p = p} s k links given given2 before after message next (Err end) stands here breaks =
    ends_in s (asks k message next) k links given given2 before after breaks.sent breaks.taken (Err end) stands here breaks.moves
    (inr (refl, subst (λ n. p.Stops message n breaks.sent breaks.taken after.read.left end) (placed_at stands.deeds k before links stands.positions here) breaks.stops)) breaks.shows
    (λ settled wholes telling. plays_stopped k message next end (coming_after stands.deeds wholes) [] []
    (ap (λ n. p.heard message n (coming_after stands.deeds wholes k).bytes) (sym (placed_at stands.deeds k before links stands.positions here))
    ∙ breaks.gives settled _ (found_at stands.deeds wholes k before links stands.went.each telling here)))

not_settled : (c : Cause) → IsBySending c → IsSettledBy c → ⊥
not_settled by_memory outside settled = settled
not_settled by_write outside settled = settled
not_settled _ outside settled = outside

pub told_on : {p : Protocol} {V A : Type 0} (s : Script p V) (k : ℕ) (links : List Linked) (given given2 : Option (List ℕ)) (before after : Seen) (message : p.Message) (next : Script p V) (result : Result A p.End)
    → Stands s links given given2 (tells k message next) → IsAt k links before → Tells p before after message result → Steps s k links after given given2 (λ u. next) result
told_on {p = p} s k links given given2 before after message next (Ok u) stands here sends = record {
  deeds = stands.deeds ++ told message (row_on k sends.sent []) ∷ [];
  leads = leads_more s [] stands.deeds (told message (row_on k sends.sent [])) (tells k message next) next stands.leads (refl, refl, sends.is_message, refl, refl);
  went = went_row stands.deeds (told message (row_on k sends.sent [])) (row_on k sends.sent []) k links given given2 before after stands.went here
      refl refl refl refl refl sends.moves;
  positions = placed_row stands.deeds (told message (row_on k sends.sent [])) (row_on k sends.sent []) k links before after stands.positions here refl refl (sends.position ∙ omega arith);
  plays_to = plays_more s stands.deeds (told message (row_on k sends.sent [])) links (with_seen k after links) (tells k message next) next stands.plays_to
      (λ wholes telling. told_before wholes k after links telling)
      (λ wholes hosts ms telling. plays_told k message next (coming_after stands.deeds wholes) _ hosts ms
      (λ j. coming_sent j stands.deeds (told message (row_on k sends.sent [])) (row_on k sends.sent []) wholes refl refl));
}
told_on {p = p} s k links given given2 before after message next (Err end) stands here fails =
    ends_in s (tells k message next) k links given given2 before after fails.sent [] (Err end) stands here fails.moves
    (inr (refl, refl, fails.outside, subst (λ n. p.Stops message n fails.sent [] after.read.left end) (placed_at stands.deeds k before links stands.positions here) fails.stops)) fails.shows
    (λ settled wholes telling. absurd (not_settled (p.cause end) fails.outside settled))

pub clock_on : {p : Protocol} {V : Type 0} (s : Script p V) (links : List Linked) (given mid given2 : Option (List ℕ)) (t : ℕ) (next : ℕ → Script p V)
    → Stands s links given mid (reads_clock next) → Gave mid given2 (t ∷ []) → Stands s links given given2 (next t)
clock_on s links given mid given2 t next stands gave = record {
  deeds = stands.deeds ++ read_clock t ∷ [];
  leads = leads_more s [] stands.deeds (read_clock t) (reads_clock next) (next t) stands.leads refl;
  went = went_clock stands.deeds t links given mid given2 stands.went gave;
  positions = placed_none stands.deeds (read_clock t) links refl stands.positions;
  plays_to = plays_more s stands.deeds (read_clock t) links links (reads_clock next) (next t) stands.plays_to (λ wholes telling. telling)
      (λ wholes hosts ms telling. plays_clock next t (coming_after stands.deeds wholes) _ hosts ms (λ j. coming_none j stands.deeds (read_clock t) wholes refl));
}

pub dialed_on : {p : Protocol} {V : Type 0} (s : Script p V) (links : List Linked) (given given2 : Option (List ℕ)) (start : Dialed) (seen : Seen) (next : List ℕ → Script p V)
    → Stands s links given given2 (dials (place_of (linked start seen)) next) → seen.read.left ≡ start.link.left → seen.write.held ≡ start.link.held → seen.position ≡ 0 → seen.read.shut ≡ None → seen.write.shut ≡ None
    → Stands s (links ++ linked start seen ∷ []) given given2 (next start.link.host)
dialed_on s links given given2 start seen next stands left held first read_open write_open = record {
  deeds = stands.deeds ++ dial_deed start seen ∷ [];
  leads = leads_more s [] stands.deeds (dial_deed start seen) (dials (place_of (linked start seen)) next) (next start.link.host) stands.leads (refl, refl);
  went = went_dial stands.deeds start seen links given given2 stands.went left held read_open write_open;
  positions = each_end (λ k l. l.seen.position ≡ length (taken_on k (stands.deeds ++ dial_deed start seen ∷ []))) 0 links (linked start seen)
      (placed_none stands.deeds (dial_deed start seen) links refl stands.positions)
      (first ∙ ap length (sym ((still_idle stands.deeds (dial_deed start seen) refl (0 + length links) (stands.went.others (0 + length links) (omega arith))).1)));
  plays_to = plays_more s stands.deeds (dial_deed start seen) links (links ++ linked start seen ∷ []) (dials (place_of (linked start seen)) next) (next start.link.host) stands.plays_to
      (λ wholes telling. each_first (λ k l. l.start.link.left ≡ Some (wholes k)) 0 links (linked start seen ∷ []) telling)
      (λ wholes hosts ms telling. plays_dialed (place_of (linked start seen)) next start.link.host (coming_after stands.deeds wholes) _ hosts ms
      (λ j. coming_none j stands.deeds (dial_deed start seen) wholes refl));
}

-- No link was given.
pub undialed_on : {p : Protocol} {V : Type 0} (s : Script p V) (links : List Linked) (given given2 : Option (List ℕ)) (place : Place) (next : List ℕ → Script p V) (end : p.End)
    → Stands s links given given2 (dials place next) → p.cause end ≡ by_dial → Talks s links given given2 (Err end)
undialed_on {p = p} s links given given2 place next end stands fault =
    ends_here s (dials place next) links given given2 (Err end) stands (λ rest. inr (fault, (refl, refl)))
    (λ seen. subst (λ c. ShowsBy c seen) (sym fault) tt) (λ e. subst IsOnLinkBy fault e) (λ settled. absurd (subst IsSettledBy fault settled))

-- A command begins.
pub begins : {p : Protocol} {V : Type 0} (s : Script p V) (given : Option (List ℕ)) → Stands s [] given given s
begins s given = record {
  deeds = [];
  leads = refl;
  went = record { places = refl; hosts = refl; each = tt; others = λ k few. (refl, refl); moments = Gave-nothing given };
  positions = tt;
  plays_to = λ wholes hosts moments telling. refl;
}

-- ---- the same links again

pub steps_again : {p : Protocol} {V A : Type 0} (s : Script p V) (k : ℕ) (links : List Linked) (mid after : Seen) (given given2 : Option (List ℕ)) (next : A → Script p V) (result : Result A p.End)
    → Steps s k (with_seen k mid links) after given given2 next result → Steps s k links after given given2 next result
steps_again s k links mid after given given2 next (Ok a) stands = subst (λ ls. Stands s ls given given2 (next a)) (seen_again 0 k mid after links) stands
steps_again s k links mid after given given2 next (Err end) talks = subst (λ ls. Talks s ls given given2 (Err end)) (seen_again 0 k mid after links) talks

pub stands_same : {p : Protocol} {V : Type 0} (s s2 : Script p V) (k : ℕ) (links : List Linked) (seen : Seen) (given given2 : Option (List ℕ)) → IsAt k links seen → Stands s links given given2 s2
    → Stands s (with_seen k seen links) given given2 s2
stands_same s s2 k links seen given given2 here stands = subst (λ ls. Stands s ls given given2 s2) (sym (seen_same 0 k seen links here.same)) stands

pub talks_same : {p : Protocol} {V : Type 0} (s : Script p V) (k : ℕ) (links : List Linked) (seen : Seen) (given given2 : Option (List ℕ)) (result : Result V p.End) → IsAt k links seen → Talks s links given given2 result
    → Talks s (with_seen k seen links) given given2 result
talks_same s k links seen given given2 result here talks = subst (λ ls. Talks s ls given given2 result) (sym (seen_same 0 k seen links here.same)) talks

pub talks_again : {p : Protocol} {V : Type 0} (s : Script p V) (k : ℕ) (links : List Linked) (mid after : Seen) (given given2 : Option (List ℕ)) (result : Result V p.End)
    → Talks s (with_seen k after (with_seen k mid links)) given given2 result → Talks s (with_seen k after links) given given2 result
talks_again s k links mid after given given2 result talks = subst (λ ls. Talks s ls given given2 result) (seen_again 0 k mid after links) talks

-- ---- one link, and two

pub at_only : (b : Dialed) (seen : Seen) → IsAt 0 (linked b seen ∷ []) seen
at_only b seen = record { known = omega arith; same = ((λ e. refl), tt) }

pub at_first : (b0 b1 : Dialed) (seen0 seen1 : Seen) → IsAt 0 (linked b0 seen0 ∷ linked b1 seen1 ∷ []) seen0
at_first b0 b1 seen0 seen1 = record { known = omega arith; same = ((λ e. refl), ((λ e. absurd (true≢false (sym e))), tt)) }

pub at_second : (b0 b1 : Dialed) (seen0 seen1 : Seen) → IsAt 1 (linked b0 seen0 ∷ linked b1 seen1 ∷ []) seen1
at_second b0 b1 seen0 seen1 = record { known = omega arith; same = ((λ e. absurd (true≢false (sym e))), ((λ e. refl), tt)) }
