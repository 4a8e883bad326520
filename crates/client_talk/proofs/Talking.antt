-- What a step leaves of a talk.
use Rattle.std.proofs.Common.{arith, ◌≡◌, ℕ, suc, ◌+◌, ◌<◌, ◌≤◌, List, [], ◌∷◌, ◌++◌, length, map, Option, None, Bool, true, false, true≢false, nat_eq, IsTrue, if◌then◌else◌, refl, ap, sym, subst, ◌∙◌, append-nil, append_assoc, length-append, inl, inr}
use Rattle.std.specs.List.{flat_map}
use Rattle.std.proofs.lemmas.Grind.{flat_map-append}
use Rattle.std.proofs.lemmas.List.{map-append}
use Rattle.std.proofs.lemmas.Bool.Decides.{eqb_tells}
use Rattle.wire_io.specs.Wire.{with_front, with_end, with_front-with_front, with_end-with_end, with_front-nothing, with_end-nothing, Gave, Gave-append}
use Rattle.wire_io.specs.Links.{Dialed}
use Rattle.client_talk.specs.Scripts.{Protocol, Script}
use Rattle.client_talk.specs.Talk.{Row, Deed, dialed, read_clock, IsNext, LeadsFrom, Seen, Linked, linked, place_of, host_of, rows_of, moments_of, places_of, hosts_of, sent_by, taken_by, sent_on, taken_on, WentOn, EachFrom, Went}
use Rattle.client_talk.specs.Steps.{Moves, with_seen_from, with_seen, IsAt}

-- ---- deeds

pub leads_more : {p : Protocol} {V : Type 0} (s : Script p V) (before ds : List (Deed p)) (d : Deed p) (a b : Script p V)
    → LeadsFrom s before ds a → IsNext a (before ++ ds) d b → LeadsFrom s before (ds ++ d ∷ []) b
leads_more s before [] d a b here next = (b, subst (λ x. IsNext x before d b) here (subst (λ xs. IsNext a xs d b) (append-nil before) next), refl)
leads_more s before (e ∷ ds) d a b (mid, first, rest) next =
    (mid, first, leads_more mid (before ++ e ∷ []) ds d a b rest (subst (λ xs. IsNext a xs d b) (sym (append_assoc before (e ∷ []) ds)) next))

pub sent_more : {p : Protocol} (k : ℕ) (ds : List (Deed p)) (d : Deed p) → sent_on k (ds ++ d ∷ []) ≡ sent_on k ds ++ sent_on k (d ∷ [])
sent_more k ds d = ap (flat_map (sent_by k)) (flat_map-append rows_of ds (d ∷ [])) ∙ flat_map-append (sent_by k) (flat_map rows_of ds) (flat_map rows_of (d ∷ []))

pub taken_more : {p : Protocol} (k : ℕ) (ds : List (Deed p)) (d : Deed p) → taken_on k (ds ++ d ∷ []) ≡ taken_on k ds ++ taken_on k (d ∷ [])
taken_more k ds d = ap (flat_map (taken_by k)) (flat_map-append rows_of ds (d ∷ [])) ∙ flat_map-append (taken_by k) (flat_map rows_of ds) (flat_map rows_of (d ∷ []))

-- ---- links

pub each_more : (P Q : ℕ → Linked → Type 0) (n : ℕ) (ls : List Linked) → ((k : ℕ) (l : Linked) → P k l → Q k l) → EachFrom P n ls → EachFrom Q n ls
each_more P Q n [] turn each = tt
each_more P Q n (l ∷ ls) turn each = (turn n l each.0, each_more P Q (n + 1) ls turn each.1)

pub each_both : (P Q : ℕ → Linked → Type 0) (n : ℕ) (ls : List Linked) → EachFrom P n ls → EachFrom Q n ls → EachFrom (λ k l. P k l × Q k l) n ls
each_both P Q n [] each other = tt
each_both P Q n (l ∷ ls) each other = ((each.0, other.0), each_both P Q (n + 1) ls each.1 other.1)

pub each_first : (P : ℕ → Linked → Type 0) (n : ℕ) (ls more : List Linked) → EachFrom P n (ls ++ more) → EachFrom P n ls
each_first P n [] more each = tt
each_first P n (l ∷ ls) more each = (each.0, each_first P (n + 1) ls more each.1)

-- where this is seen of one link and then that
pub each_seen : (P Q : ℕ → Linked → Type 0) (k : ℕ) (before after : Seen) (n : ℕ) (ls : List Linked)
    → ((j : ℕ) (l : Linked) → P j l → (IsTrue (nat_eq j k) → l.seen ≡ before) → Q j (if nat_eq j k then linked l.start after else l))
    → EachFrom P n ls → EachFrom (λ j l. IsTrue (nat_eq j k) → l.seen ≡ before) n ls → EachFrom Q n (with_seen_from n k after ls)
each_seen P Q k before after n [] turn each same = tt
each_seen P Q k before after n (l ∷ ls) turn each same = (turn n l each.0 same.0, each_seen P Q k before after (n + 1) ls turn each.1 same.1)

pub each_end : (P : ℕ → Linked → Type 0) (n : ℕ) (ls : List Linked) (l : Linked) → EachFrom P n ls → P (n + length ls) l → EachFrom P n (ls ++ l ∷ [])
each_end P n [] l each one = (subst (λ k. P k l) (omega arith) one, tt)
each_end P n (x ∷ ls) l each one = (each.0, each_end P (n + 1) ls l each.1 (subst (λ k. P k l) (omega arith) one))

-- the link of a number
pub at_this : (P : ℕ → Linked → Type 0) (k : ℕ) (seen : Seen) (n : ℕ) (ls : List Linked) → EachFrom P n ls
    → EachFrom (λ j l. IsTrue (nat_eq j k) → l.seen ≡ seen) n ls → n ≤ k → k < n + length ls → (l : Linked) × P k l × (l.seen ≡ seen)
at_this P k seen n [] each same from less = absurd (omega (arith, from, less))
at_this P k seen n (l ∷ ls) each same from less = elim (eqb_tells n k) [
  | inl q ↦ (l, subst (λ j. P j l) q.1 each.0, same.0 q.0)
  | inr q ↦ at_this P k seen (n + 1) ls each.1 same.1 (omega (arith, from, q.1)) (omega (arith, less))
]

pub length_seen : (n k : ℕ) (seen : Seen) (ls : List Linked) → length (with_seen_from n k seen ls) ≡ length ls
length_seen n k seen [] = refl
length_seen n k seen (l ∷ ls) = ap suc (length_seen (n + 1) k seen ls)

start_if : (b : Bool) (l : Linked) (seen : Seen) → (if b then linked l.start seen else l).start ≡ l.start
start_if true l seen = refl
start_if false l seen = refl

cons_same : {X : Type 0} (x y : X) (xs ys : List X) → x ≡ y → xs ≡ ys → x ∷ xs ≡ y ∷ ys
cons_same x y xs ys one rest = ap (λ z. z ∷ xs) one ∙ ap (λ zs. y ∷ zs) rest

pub starts_seen : {X : Type 0} (f : Dialed → X) (n k : ℕ) (seen : Seen) (ls : List Linked)
    → map (λ (l : Linked). f l.start) (with_seen_from n k seen ls) ≡ map (λ (l : Linked). f l.start) ls
starts_seen f n k seen [] = refl
starts_seen f n k seen (l ∷ ls) = cons_same _ _ _ _ (ap f (start_if (nat_eq n k) l seen)) (starts_seen f (n + 1) k seen ls)

pub places_seen : (n k : ℕ) (seen : Seen) (ls : List Linked) → map place_of (with_seen_from n k seen ls) ≡ map place_of ls
places_seen n k seen [] = refl
places_seen n k seen (l ∷ ls) = cons_same _ _ _ _ (ap (λ (b : Dialed). place_of (linked b seen)) (start_if (nat_eq n k) l seen)) (places_seen (n + 1) k seen ls)

pub hosts_seen : (n k : ℕ) (seen : Seen) (ls : List Linked) → map host_of (with_seen_from n k seen ls) ≡ map host_of ls
hosts_seen n k seen ls = starts_seen (λ b. b.link.host) n k seen ls

-- what holds of how the links were dialled
pub starts_before : (Q : ℕ → Dialed → Type 0) (n k : ℕ) (seen : Seen) (ls : List Linked)
    → EachFrom (λ j l. Q j l.start) n (with_seen_from n k seen ls) → EachFrom (λ j l. Q j l.start) n ls
starts_before Q n k seen [] each = tt
starts_before Q n k seen (l ∷ ls) each = (subst (Q n) (start_if (nat_eq n k) l seen) each.0, starts_before Q (n + 1) k seen ls each.1)

same_if : (b : Bool) (l : Linked) (before : Seen) → (IsTrue b → l.seen ≡ before) → (if b then linked l.start before else l) ≡ l
same_if true l before same = ap (linked l.start) (sym (same refl))
same_if false l before same = refl

-- what is seen already
pub seen_same : (n k : ℕ) (seen : Seen) (ls : List Linked) → EachFrom (λ j l. IsTrue (nat_eq j k) → l.seen ≡ seen) n ls → with_seen_from n k seen ls ≡ ls
seen_same n k seen [] same = refl
seen_same n k seen (l ∷ ls) same = cons_same _ _ _ _ (same_if (nat_eq n k) l seen same.0) (seen_same (n + 1) k seen ls same.1)

again_if : (b : Bool) (l : Linked) (mid after : Seen) → (if b then linked (if b then linked l.start mid else l).start after else (if b then linked l.start mid else l)) ≡ (if b then linked l.start after else l)
again_if true l mid after = refl
again_if false l mid after = refl

pub seen_again : (n k : ℕ) (mid after : Seen) (ls : List Linked) → with_seen_from n k after (with_seen_from n k mid ls) ≡ with_seen_from n k after ls
seen_again n k mid after [] = refl
seen_again n k mid after (l ∷ ls) = cons_same _ _ _ _ (again_if (nat_eq n k) l mid after) (seen_again (n + 1) k mid after ls)

seen_if : (b : Bool) (l : Linked) (seen : Seen) → IsTrue b → (if b then linked l.start seen else l).seen ≡ seen
seen_if true l seen holds = refl
seen_if false l seen holds = absurd (true≢false (sym holds))

now_from : (n k : ℕ) (seen : Seen) (ls : List Linked) → EachFrom (λ j l. IsTrue (nat_eq j k) → l.seen ≡ seen) n (with_seen_from n k seen ls)
now_from n k seen [] = tt
now_from n k seen (l ∷ ls) = (seen_if (nat_eq n k) l seen, now_from (n + 1) k seen ls)

pub now_at : (k : ℕ) (before seen : Seen) (ls : List Linked) → IsAt k ls before → IsAt k (with_seen k seen ls) seen
now_at k before seen ls here = record { known = subst (λ n. k < n) (sym (length_seen 0 k seen ls)) here.known; same = now_from 0 k seen ls }

-- ---- what was done

-- what a deed with this row on link k adds to link j
pub sent_row : {p : Protocol} (j k : ℕ) (ds : List (Deed p)) (d : Deed p) (row : Row) → flat_map rows_of (d ∷ []) ≡ row ∷ [] → row.link ≡ k
    → sent_on j (ds ++ d ∷ []) ≡ sent_on j ds ++ (if nat_eq j k then row.sent else [])
sent_row j k ds d row one at = sent_more j ds d
    ∙ ap (λ xs. sent_on j ds ++ xs) (ap (flat_map (sent_by j)) one ∙ append-nil (sent_by j row) ∙ ap (λ n. if nat_eq j n then row.sent else []) at)

pub taken_row : {p : Protocol} (j k : ℕ) (ds : List (Deed p)) (d : Deed p) (row : Row) → flat_map rows_of (d ∷ []) ≡ row ∷ [] → row.link ≡ k
    → taken_on j (ds ++ d ∷ []) ≡ taken_on j ds ++ (if nat_eq j k then row.taken else [])
taken_row j k ds d row one at = taken_more j ds d
    ∙ ap (λ xs. taken_on j ds ++ xs) (ap (flat_map (taken_by j)) one ∙ append-nil (taken_by j row) ∙ ap (λ n. if nat_eq j n then row.taken else []) at)

left_if : (b : Bool) (was : List ℕ) (l : Linked) (before after : Seen) (taken : List ℕ) → l.start.link.left ≡ with_front was l.seen.read.left → (IsTrue b → l.seen ≡ before)
    → before.read.left ≡ with_front taken after.read.left
    → (if b then linked l.start after else l).start.link.left ≡ with_front (was ++ (if b then taken else [])) (if b then linked l.start after else l).seen.read.left
left_if true was l before after taken went same left =
    went ∙ ap (with_front was) (ap (λ (x : Seen). x.read.left) (same refl) ∙ left) ∙ with_front-with_front was taken after.read.left
left_if false was l before after taken went same left = went ∙ ap (λ xs. with_front xs l.seen.read.left) (sym (append-nil was))

held_if : (b : Bool) (was : List ℕ) (l : Linked) (before after : Seen) (sent : List ℕ) → l.seen.write.held ≡ with_end l.start.link.held was → (IsTrue b → l.seen ≡ before)
    → after.write.held ≡ with_end before.write.held sent
    → (if b then linked l.start after else l).seen.write.held ≡ with_end (if b then linked l.start after else l).start.link.held (was ++ (if b then sent else []))
held_if true was l before after sent went same held =
    held ∙ ap (λ (x : Seen). with_end x.write.held sent) (sym (same refl)) ∙ ap (λ told. with_end told sent) went ∙ with_end-with_end l.start.link.held was sent
held_if false was l before after sent went same held = went ∙ ap (with_end l.start.link.held) (sym (append-nil was))

read_open_if : (b : Bool) (l : Linked) (before after : Seen) → l.seen.read.shut ≡ None → (IsTrue b → l.seen ≡ before) → after.read.shut ≡ before.read.shut
    → (if b then linked l.start after else l).seen.read.shut ≡ None
read_open_if true l before after on same still = still ∙ ap (λ (x : Seen). x.read.shut) (sym (same refl)) ∙ on
read_open_if false l before after on same still = on

write_open_if : (b : Bool) (l : Linked) (before after : Seen) → l.seen.write.shut ≡ None → (IsTrue b → l.seen ≡ before) → after.write.shut ≡ before.write.shut
    → (if b then linked l.start after else l).seen.write.shut ≡ None
write_open_if true l before after on same still = still ∙ ap (λ (x : Seen). x.write.shut) (sym (same refl)) ∙ on
write_open_if false l before after on same still = on

-- A deed with this row on one link.
went_on : {p : Protocol} (ds : List (Deed p)) (d : Deed p) (row : Row) (k : ℕ) (before after : Seen) → flat_map rows_of (d ∷ []) ≡ row ∷ [] → row.link ≡ k
    → Moves before after row.sent row.taken
    → (j : ℕ) (l : Linked) → WentOn ds j l → (IsTrue (nat_eq j k) → l.seen ≡ before) → WentOn (ds ++ d ∷ []) j (if nat_eq j k then linked l.start after else l)
went_on ds d row k before after one at moves j l went same = record {
  read_open = read_open_if (nat_eq j k) l before after went.read_open same moves.read_shut;
  write_open = write_open_if (nat_eq j k) l before after went.write_open same moves.write_shut;
  left = left_if (nat_eq j k) (taken_on j ds) l before after row.taken went.left same moves.left
      ∙ ap (λ xs. with_front xs (if nat_eq j k then linked l.start after else l).seen.read.left) (sym (taken_row j k ds d row one at));
  held = held_if (nat_eq j k) (sent_on j ds) l before after row.sent went.held same moves.held
      ∙ ap (with_end (if nat_eq j k then linked l.start after else l).start.link.held) (sym (sent_row j k ds d row one at));
}

not_there : (j k : ℕ) (xs ys : List ℕ) → k < j → xs ≡ [] → xs ++ (if nat_eq j k then ys else []) ≡ []
not_there j k xs ys less none = let e : nat_eq j k ≡ false = grind arith in rw (e, none) refl

pub went_row : {p : Protocol} (ds : List (Deed p)) (d : Deed p) (row : Row) (k : ℕ) (links : List Linked) (given given2 : Option (List ℕ)) (before after : Seen)
    → Went ds links given given2 → IsAt k links before
    → flat_map rows_of (d ∷ []) ≡ row ∷ [] → flat_map moments_of (d ∷ []) ≡ [] → flat_map places_of (d ∷ []) ≡ [] → flat_map hosts_of (d ∷ []) ≡ [] → row.link ≡ k
    → Moves before after row.sent row.taken
    → Went (ds ++ d ∷ []) (with_seen k after links) given given2
went_row ds d row k links given given2 before after went here one no_moment no_place no_host at moves = record {
  places = flat_map-append places_of ds (d ∷ []) ∙ ap (λ xs. flat_map places_of ds ++ xs) no_place ∙ append-nil (flat_map places_of ds) ∙ went.places
      ∙ sym (places_seen 0 k after links);
  hosts = flat_map-append hosts_of ds (d ∷ []) ∙ ap (λ xs. flat_map hosts_of ds ++ xs) no_host ∙ append-nil (flat_map hosts_of ds) ∙ went.hosts
      ∙ sym (hosts_seen 0 k after links);
  each = each_seen (WentOn ds) (WentOn (ds ++ d ∷ [])) k before after 0 links (went_on ds d row k before after one at moves) went.each here.same;
  others = λ j few.
      let less : length links ≤ j = subst (λ n. n ≤ j) (length_seen 0 k after links) few in
      let (no_sent, no_taken) = went.others j less in (
        sent_row j k ds d row one at ∙ not_there j k (sent_on j ds) row.sent (omega (arith, less, here.known)) no_sent,
        taken_row j k ds d row one at ∙ not_there j k (taken_on j ds) row.taken (omega (arith, less, here.known)) no_taken,
      );
  moments = subst (Gave given given2) (sym (flat_map-append moments_of ds (d ∷ []) ∙ ap (λ xs. flat_map moments_of ds ++ xs) no_moment ∙ append-nil (flat_map moments_of ds))) went.moments;
}

-- ---- deeds on no link

pub sent_none : {p : Protocol} (j : ℕ) (ds : List (Deed p)) (d : Deed p) → flat_map rows_of (d ∷ []) ≡ [] → sent_on j (ds ++ d ∷ []) ≡ sent_on j ds
sent_none j ds d none = sent_more j ds d ∙ ap (λ rows. sent_on j ds ++ flat_map (sent_by j) rows) none ∙ append-nil (sent_on j ds)

pub taken_none : {p : Protocol} (j : ℕ) (ds : List (Deed p)) (d : Deed p) → flat_map rows_of (d ∷ []) ≡ [] → taken_on j (ds ++ d ∷ []) ≡ taken_on j ds
taken_none j ds d none = taken_more j ds d ∙ ap (λ rows. taken_on j ds ++ flat_map (taken_by j) rows) none ∙ append-nil (taken_on j ds)

-- A deed on no link leaves each.
still_on : {p : Protocol} (ds : List (Deed p)) (d : Deed p) → flat_map rows_of (d ∷ []) ≡ [] → (j : ℕ) (l : Linked) → WentOn ds j l → WentOn (ds ++ d ∷ []) j l
still_on ds d none j l went = record {
  left = went.left ∙ ap (λ xs. with_front xs l.seen.read.left) (sym (taken_none j ds d none));
  held = went.held ∙ ap (with_end l.start.link.held) (sym (sent_none j ds d none));
  read_open = went.read_open;
  write_open = went.write_open;
}

pub still_idle : {p : Protocol} (ds : List (Deed p)) (d : Deed p) → flat_map rows_of (d ∷ []) ≡ [] → (j : ℕ) → (sent_on j ds ≡ []) × (taken_on j ds ≡ [])
    → (sent_on j (ds ++ d ∷ []) ≡ []) × (taken_on j (ds ++ d ∷ []) ≡ [])
still_idle ds d none j (no_sent, no_taken) = (sent_none j ds d none ∙ no_sent, taken_none j ds d none ∙ no_taken)

-- The clock was read.
pub went_clock : {p : Protocol} (ds : List (Deed p)) (t : ℕ) (links : List Linked) (given mid given2 : Option (List ℕ))
    → Went ds links given mid → Gave mid given2 (t ∷ []) → Went (ds ++ read_clock t ∷ []) links given given2
went_clock ds t links given mid given2 went gave = record {
  places = flat_map-append places_of ds (read_clock t ∷ []) ∙ append-nil (flat_map places_of ds) ∙ went.places;
  hosts = flat_map-append hosts_of ds (read_clock t ∷ []) ∙ append-nil (flat_map hosts_of ds) ∙ went.hosts;
  each = each_more (WentOn ds) (WentOn (ds ++ read_clock t ∷ [])) 0 links (still_on ds (read_clock t) refl) went.each;
  others = λ j few. still_idle ds (read_clock t) refl j (went.others j few);
  moments = subst (Gave given given2) (sym (flat_map-append moments_of ds (read_clock t ∷ []))) (Gave-append given mid given2 (flat_map moments_of ds) (t ∷ []) went.moments gave);
}

abbrev pub dial_deed : {p : Protocol} → Dialed → Seen → Deed p
dial_deed start seen = dialed (place_of (linked start seen)) start.link.host

-- A link was dialled.
pub went_dial : {p : Protocol} (ds : List (Deed p)) (start : Dialed) (seen : Seen) (links : List Linked) (given given2 : Option (List ℕ))
    → Went ds links given given2 → seen.read.left ≡ start.link.left → seen.write.held ≡ start.link.held → seen.read.shut ≡ None → seen.write.shut ≡ None
    → Went (ds ++ dial_deed start seen ∷ []) (links ++ linked start seen ∷ []) given given2
went_dial ds start seen links given given2 went left held read_open write_open = record {
  places = flat_map-append places_of ds (dial_deed start seen ∷ []) ∙ ap (λ xs. xs ++ place_of (linked start seen) ∷ []) went.places
      ∙ sym (map-append place_of links (linked start seen ∷ []));
  hosts = flat_map-append hosts_of ds (dial_deed start seen ∷ []) ∙ ap (λ xs. xs ++ start.link.host ∷ []) went.hosts
      ∙ sym (map-append host_of links (linked start seen ∷ []));
  each = each_end (WentOn (ds ++ dial_deed start seen ∷ [])) 0 links (linked start seen)
      (each_more (WentOn ds) (WentOn (ds ++ dial_deed start seen ∷ [])) 0 links (still_on ds (dial_deed start seen) refl) went.each)
      (subst (λ k. WentOn (ds ++ dial_deed start seen ∷ []) k (linked start seen)) (omega arith) new_one);
  others = λ j few. still_idle ds (dial_deed start seen) refl j (went.others j (omega (arith, few, length-append links (linked start seen ∷ []))));
  moments = subst (Gave given given2) (sym (flat_map-append moments_of ds (dial_deed start seen ∷ []) ∙ append-nil (flat_map moments_of ds))) went.moments;
}
  where
    new_one : WentOn (ds ++ dial_deed start seen ∷ []) (length links) (linked start seen)
    new_one =
        let (no_sent, no_taken) = still_idle ds (dial_deed start seen) refl (length links) (went.others (length links) (omega arith)) in
        record {
          left = sym left ∙ sym (with_front-nothing seen.read.left) ∙ ap (λ xs. with_front xs seen.read.left) (sym no_taken);
          held = held ∙ sym (with_end-nothing start.link.held) ∙ ap (with_end start.link.held) (sym no_sent);
          read_open = read_open;
          write_open = write_open;
        }

-- ---- positions

abbrev pub ArePlaced : {p : Protocol} → List (Deed p) → ℕ → List Linked → Type 0
ArePlaced ds n ls = EachFrom (λ k l. l.seen.position ≡ length (taken_on k ds)) n ls

position_if : (b : Bool) (was : List ℕ) (l : Linked) (before after : Seen) (taken : List ℕ) → l.seen.position ≡ length was → (IsTrue b → l.seen ≡ before)
    → after.position ≡ before.position + length taken → (if b then linked l.start after else l).seen.position ≡ length (was ++ (if b then taken else []))
position_if true was l before after taken on same moved =
    moved ∙ ap (λ (x : Seen). x.position + length taken) (sym (same refl)) ∙ ap (λ n. n + length taken) on ∙ sym (length-append was taken)
position_if false was l before after taken on same moved = on ∙ ap length (sym (append-nil was))

pub placed_row : {p : Protocol} (ds : List (Deed p)) (d : Deed p) (row : Row) (k : ℕ) (links : List Linked) (before after : Seen)
    → ArePlaced ds 0 links → IsAt k links before → flat_map rows_of (d ∷ []) ≡ row ∷ [] → row.link ≡ k → after.position ≡ before.position + length row.taken
    → ArePlaced (ds ++ d ∷ []) 0 (with_seen k after links)
placed_row ds d row k links before after placed here one at moved =
    each_seen (λ j l. l.seen.position ≡ length (taken_on j ds)) (λ j l. l.seen.position ≡ length (taken_on j (ds ++ d ∷ []))) k before after 0 links
    (λ j l on same. position_if (nat_eq j k) (taken_on j ds) l before after row.taken on same moved ∙ ap length (sym (taken_row j k ds d row one at)))
    placed here.same

pub placed_none : {p : Protocol} (ds : List (Deed p)) (d : Deed p) (links : List Linked) → flat_map rows_of (d ∷ []) ≡ [] → ArePlaced ds 0 links → ArePlaced (ds ++ d ∷ []) 0 links
placed_none ds d links none placed =
    each_more (λ j l. l.seen.position ≡ length (taken_on j ds)) (λ j l. l.seen.position ≡ length (taken_on j (ds ++ d ∷ []))) 0 links
    (λ j l on. on ∙ ap length (sym (taken_none j ds d none))) placed
