-- Commands that begin, and what they leave.
use Rattle.std.proofs.Common.{arith, ◌≡◌, ℕ, ◌+◌, ◌<◌, ◌≤◌, List, [], ◌∷◌, ◌++◌, length, map, append-nil, append_assoc, nat_eq, IsTrue, Option, None, true, Result, Ok, Err, refl, ap, sym, subst, ◌∙◌, inl, inr}
use Rattle.std.proofs.lemmas.Bool.Decides.{eqb_tells}
use Rattle.std.proofs.lemmas.List.{map-append}
use Rattle.wire_io.specs.Wire.{ReadHalf, WriteHalf, ShutsRead, ShutsWrite, AreNewHalves, Rose, first_shut}
use Rattle.wire_io.specs.Links.{Dialed, Dialing, Dials, accepted_as}
use Rattle.wire_io.specs.declared.dialer.Halves.{Halves}
use Rattle.wire_io.specs.declared.link.Link.{Link}
use Rattle.rmi_client.specs.Sessions.{link_at}
use Rattle.rmi_client.specs.declared.end.ClientEnd.{ClientEnd}
use Rattle.rmi_client.specs.declared.end.ClientEnd.TheVariants as ends
use Rattle.client_talk.specs.declared.place.Place.{Place}
use Rattle.client_talk.specs.declared.end.CommandEnd.{CommandEnd}
use Rattle.client_talk.specs.declared.end.CommandEnd.TheVariants.{DialFault, Session}
use Rattle.client_talk.specs.Scripts.{Cause, by_read, by_write, Protocol, Script, dials, tells}
use Rattle.client_talk.specs.Talk.{Deed, cut, Seen, Linked, linked, EachFrom, WentOn, ShowsBy, IsOnLinkBy, Talks}
use Rattle.client_talk.specs.Steps.{Ended, IsLeft, AreLeft, AnyOf, BlamesBy, Blames, Stands, IsAt, Steps, Tells, with_all, with_seen, Spoke}
use Rattle.client_talk.specs.Rmi.{rmi, cause_of, Acknowledge}
use Rattle.client_talk.specs.Sessions.{seen_of, in_command, ended_as, IsShut, AreShut, Leaves, LeavesEach, LeavesMore, LeavesPair, LeavesTalk, Acknowledges}
use Rattle.client_talk.specs.Commands.{acks}
use Rattle.java_shapes.specs.declared.ref_views.LiveRef.{LiveRef}
use Rattle.std.specs.Prelude.{Bool, false, if◌then◌else◌}
use Rattle.client_talk.proofs.Stepping.{begins, memory_here, undialed_on, dialed_on, told_on, stands_same}

-- ---- which link a fault is of

any_read : (r n : ℕ) (ls : List Linked) (es : List Ended) → AreLeft ls es → EachFrom (λ k l. IsTrue (nat_eq k r) → 0 < l.seen.read.faults) n ls → n ≤ r → r < n + length ls → AnyOf (λ e. 0 < e.read.faults) es
any_read r n [] es left each from less = absurd (omega (arith, from, less))
any_read r n (l ∷ ls) [] left each from less = absurd left
any_read r n (l ∷ ls) (e ∷ es) left each from less = elim (eqb_tells n r) [
  | inl q ↦ inl (subst (λ x. 0 < x) (sym left.0.misread) (each.0 q.0))
  | inr q ↦ inr (any_read r (n + 1) ls es left.1 each.1 (omega (arith, from, q.1)) (omega (arith, less)))
]

any_written : (r n : ℕ) (ls : List Linked) (es : List Ended) → AreLeft ls es → EachFrom (λ k l. IsTrue (nat_eq k r) → 0 < l.seen.write.faults) n ls → n ≤ r → r < n + length ls → AnyOf (λ e. 0 < e.write.faults) es
any_written r n [] es left each from less = absurd (omega (arith, from, less))
any_written r n (l ∷ ls) [] left each from less = absurd left
any_written r n (l ∷ ls) (e ∷ es) left each from less = elim (eqb_tells n r) [
  | inl q ↦ inl (subst (λ x. 0 < x) (sym left.0.miswritten) (each.0 q.0))
  | inr q ↦ inr (any_written r (n + 1) ls es left.1 each.1 (omega (arith, from, q.1)) (omega (arith, less)))
]

blames_by : (c : Cause) (r : ℕ) (ls : List Linked) (es : List Ended) → AreLeft ls es → EachFrom (λ k l. IsTrue (nat_eq k r) → ShowsBy c l.seen) 0 ls
    → (IsOnLinkBy c → r < length ls) → BlamesBy c es
blames_by by_read r ls es left shows known = any_read r 0 ls es left shows (omega arith) (omega (arith, known tt))
blames_by by_write r ls es left shows known = any_written r 0 ls es left shows (omega arith) (omega (arith, known tt))
blames_by _ r ls es left shows known = tt

pub blames_of : {V : Type 0} (s : Script rmi V) (links : List Linked) (es : List Ended) (given given2 : Option (List ℕ)) (result : Result V CommandEnd)
    → Talks s links given given2 result → AreLeft links es → Blames rmi result es
blames_of s links es given given2 (Ok value) talks left = tt
blames_of s links es given given2 (Err end) talks left = blames_by (cause_of end) talks.row.link links es left talks.shows talks.known

-- ---- what is left

is_left : (read : ReadHalf) (write : WriteHalf) (e : Ended) → read.shut ≡ None → write.shut ≡ None → IsShut read write e → IsLeft read write e
is_left read write e read_open write_open (reads, writes) = record {
  left = reads.0;
  misread = reads.1;
  held = writes.0;
  miswritten = writes.1;
  read_shut = reads.2 ∙ ap (λ first. first_shut first read.left) read_open;
  write_shut = writes.2 ∙ ap (λ first. first_shut first write.held) write_open;
}

are_left : {p : Protocol} (ds : List (Deed p)) (n : ℕ) (links : List Linked) (es : List Ended) → EachFrom (WentOn ds) n links → AreShut links es → AreLeft links es
are_left ds n [] [] each shut = tt
are_left ds n [] (e ∷ es) each shut = absurd shut
are_left ds n (l ∷ ls) [] each shut = absurd shut
are_left ds n (l ∷ ls) (e ∷ es) each shut =
    (is_left l.seen.read l.seen.write e each.0.read_open each.0.write_open shut.0, are_left ds (n + 1) ls es each.1 shut.1)

-- The halves of a talk's links were shut once it had ended.
left_by : {V : Type 0} (s : Script rmi V) (links : List Linked) (es : List Ended) (given given2 : Option (List ℕ)) (result : Result V CommandEnd)
    → Talks s links given given2 result → AreShut links es → AreLeft links es
left_by s links es given given2 result talks shut = are_left (talks.deeds ++ cut talks.row ∷ []) 0 links es talks.went.each shut

pub left_behind : {I O : Type 0} (read : I → ReadHalf) (write : O → WriteHalf) (old new : List (Halves I O)) (halves : Halves I O) (source : ReadHalf) (sink : WriteHalf)
    → new ≡ old ++ halves ∷ [] → ShutsRead source (read halves.source) → ShutsWrite sink (write halves.sink) → Leaves read write old new source sink
left_behind read write old new halves source sink is reads writes =
    (ended_as read write halves, ap (map (ended_as read write)) is ∙ map-append (ended_as read write) old (halves ∷ []), (reads, writes))

pub leaves_as : {I O : Type 0} (read : I → ReadHalf) (write : O → WriteHalf) (old new : List (Halves I O)) (source source2 : ReadHalf) (sink sink2 : WriteHalf)
    → source ≡ source2 → sink ≡ sink2 → Leaves read write old new source sink → Leaves read write old new source2 sink2
leaves_as read write old new source source2 sink sink2 one other leaves =
    subst (λ x. Leaves read write old new x sink2) one (subst (λ y. Leaves read write old new source y) other leaves)

pub put_back_on : {V I O : Type 0} (read : I → ReadHalf) (write : O → WriteHalf) (old new : List (Halves I O)) (s : Script rmi V) (b : Dialed) (given given2 : Option (List ℕ)) (seen : Seen) (end : ClientEnd) (end2 : CommandEnd)
    → end2 ≡ Session end → Leaves read write old new seen.read seen.write → Talks s (linked b seen ∷ []) given given2 (Err (Session end))
    → LeavesTalk read write s b given given2 old new (Err end2)
put_back_on read write old new s b given given2 seen end end2 same leaves talks = (seen, leaves, subst (λ e. Talks s (linked b seen ∷ []) given given2 (Err e)) (sym same) talks)

-- ---- a command

-- There was no room.
pub spoke_nothing : {V : Type 0} (s : Script rmi V) (dialed : Option (List Dialed)) (talked : List Ended) (given : Option (List ℕ)) → Spoke s dialed dialed talked talked given given (Err (Session ends.OutOfMemory))
spoke_nothing s dialed talked given = record {
  links = [];
  left = [];
  dialed_are = refl;
  talked_are = sym (append-nil talked);
  are_left = tt;
  talks = memory_here s s [] given given (Session ends.OutOfMemory) (begins s given) refl;
  blames = tt;
}

-- No link was given.
pub spoke_unopened : {V : Type 0} (place : Place) (next : List ℕ → Script rmi V) (dialed dialed2 : Option (List Dialed)) (talked : List Ended) (given : Option (List ℕ)) (end : CommandEnd)
    → dialed2 ≡ dialed → end ≡ DialFault → Spoke (dials place next) dialed dialed2 talked talked given given (Err end)
spoke_unopened place next dialed dialed2 talked given end same fault = record {
  links = [];
  left = [];
  dialed_are = same;
  talked_are = sym (append-nil talked);
  are_left = tt;
  talks = undialed_on (dials place next) [] given given place next end (begins (dials place next) given) (ap cause_of fault);
  blames = subst (λ e. Blames {V = Unit {0}} rmi (Err e) []) (sym fault) tt;
}

abbrev dialed_at : {I O T : Type 0} → (I → ReadHalf) → (O → WriteHalf) → (T → Option (List ℕ)) → Place → Link I O T → Dialed
dialed_at read write given_by place link = record { asked_host = place.host; asked_port = place.port; link = accepted_as read write given_by link }

-- One link was given, and the command ended over it.
pub spoke_one : {V I O T : Type 0} (read : I → ReadHalf) (write : O → WriteHalf) (given_by : T → Option (List ℕ)) (dialing dialing2 : Dialing) (place : Place) (next : List ℕ → Script rmi V)
    (link : Link I O T) (before old new : List (Halves I O)) (given : Option (List ℕ)) (result : Result V CommandEnd)
    → old ≡ before → Dials {E = CommandEnd} (accepted_as read write given_by) dialing dialing2 place.host place.port (Ok link) → AreNewHalves (read link.source) (write link.sink)
    → ((b : Dialed) → Stands (dials place next) (linked b (seen_of (link_at (read link.source) (write link.sink) 0)) ∷ []) given given (next link.host)
    → LeavesTalk read write (dials place next) b given given old new result)
    → Spoke (dials place next) dialing.dialed dialing2.dialed (map (ended_as read write) before) (map (ended_as read write) new) given given result
spoke_one read write given_by dialing dialing2 place next link before old new given result same_old dialed fresh over =
    let (seen, (e, same, left), talks) = over (dialed_at read write given_by place link)
    (dialed_on (dials place next) [] given given (dialed_at read write given_by place link) (seen_of (link_at (read link.source) (write link.sink) 0)) next (begins (dials place next) given) refl refl refl fresh.1 fresh.3) in
    let are = left_by (dials place next) (linked (dialed_at read write given_by place link) seen ∷ []) (e ∷ []) given given result talks (left, tt) in
    record {
      links = linked (dialed_at read write given_by place link) seen ∷ [];
      left = e ∷ [];
      dialed_are = dialed.0;
      talked_are = same ∙ ap (λ items. map (ended_as read write) items ++ e ∷ []) same_old;
      are_left = are;
      talks = talks;
      blames = blames_of _ _ _ given given result talks are;
    }

-- ---- acknowledging

pub acked_if : {V : Type 0} (b : Bool) (s : Script rmi V) (k : ℕ) (links : List Linked) (given given2 : Option (List ℕ)) (before after : Seen) (uid : List ℕ) (next : Script rmi V) (result : Result (Unit {0}) ClientEnd)
    → IsAt k links before → Stands s links given given2 (if b then tells k (Acknowledge uid) next else next) → Acknowledges before after uid b result
    → Steps s k links after given given2 (λ u. next) (in_command result)
acked_if true s k links given given2 before after uid next result here stands acks_it = told_on s k links given given2 before after (Acknowledge uid) next (in_command result) stands here acks_it
acked_if false s k links given given2 before after uid next result here stands (same, is) =
    subst (λ r. Steps s k links after given given2 (λ u. next) (in_command r)) (sym is)
    (subst (λ x. Stands s (with_seen k x links) given given2 next) (sym same) (stands_same s next k links before given given2 here stands))

pub acked_on : {V : Type 0} (s : Script rmi V) (k : ℕ) (links : List Linked) (given given2 : Option (List ℕ)) (before after : Seen) (uid : List ℕ) (reference : LiveRef) (next : Script rmi V) (result : Result (Unit {0}) ClientEnd)
    → IsAt k links before → Stands s links given given2 (acks k uid reference next) → Acknowledges before after uid reference.result result
    → Steps s k links after given given2 (λ u. next) (in_command result)
acked_on s k links given given2 before after uid reference next result here stands acks_it = acked_if reference.result s k links given given2 before after uid next result here stands acks_it

pub acknowledged : (b : Bool) (before after : Seen) (uid : List ℕ) (result : Result (Unit {0}) ClientEnd) → b ≡ true → Tells rmi before after (Acknowledge uid) (in_command result) → Acknowledges before after uid b result
acknowledged b before after uid result flagged tells_it = subst (λ x. Acknowledges before after uid x result) (sym flagged) tells_it

-- ---- two links

-- The halves of one link were left, and then those of another.
pub both_left : {I O : Type 0} (read : I → ReadHalf) (write : O → WriteHalf) (old mid new : List (Halves I O)) (b0 b1 : Dialed) (seen0 seen1 : Seen)
    → Leaves read write old mid seen0.read seen0.write → Leaves read write mid new seen1.read seen1.write → LeavesEach read write old new (linked b0 seen0 ∷ linked b1 seen1 ∷ [])
both_left read write old mid new b0 b1 seen0 seen1 (e0, same0, left0) (e1, same1, left1) = (
  e0 ∷ e1 ∷ [],
  same1 ∙ ap (λ xs. xs ++ e1 ∷ []) same0 ∙ append_assoc (map (ended_as read write) old) (e0 ∷ []) (e1 ∷ []),
  (left0, (left1, tt)),
)

pub one_left : {I O : Type 0} (read : I → ReadHalf) (write : O → WriteHalf) (old new : List (Halves I O)) (b : Dialed) (seen : Seen)
    → Leaves read write old new seen.read seen.write → LeavesEach read write old new (linked b seen ∷ [])
one_left read write old new b seen (e, same, left) = (e ∷ [], same, (left, tt))

-- No session opened over a link, and the halves of that one were left behind the others.
pub put_back_second : {V I O : Type 0} (read : I → ReadHalf) (write : O → WriteHalf) (old mid new : List (Halves I O)) (s : Script rmi V) (b0 b1 : Dialed) (given given2 : Option (List ℕ)) (seen0 seen1 : Seen) (end : ClientEnd) (end2 : CommandEnd)
    → end2 ≡ Session end → Leaves read write old mid seen0.read seen0.write → Leaves read write mid new seen1.read seen1.write
    → Talks s (linked b0 seen0 ∷ linked b1 seen1 ∷ []) given given2 (Err (Session end)) → LeavesPair read write s b0 b1 given given2 old new (Err end2)
put_back_second read write old mid new s b0 b1 given given2 seen0 seen1 end end2 same first second talks = (
  seen0,
  seen1,
  both_left read write old mid new b0 b1 seen0 seen1 first second,
  subst (λ e. Talks s (linked b0 seen0 ∷ linked b1 seen1 ∷ []) given given2 (Err e)) (sym same) talks,
)

-- The same over the first link.
pub put_back_first : {V I O : Type 0} (read : I → ReadHalf) (write : O → WriteHalf) (old new : List (Halves I O)) (s : Script rmi V) (b : Dialed) (dialed : Option (List Dialed)) (given given2 : Option (List ℕ)) (seen : Seen) (end : ClientEnd) (end2 : CommandEnd)
    → end2 ≡ Session end → Leaves read write old new seen.read seen.write → Talks s (linked b seen ∷ []) given given2 (Err (Session end))
    → LeavesMore read write s b dialed dialed given given2 old new (Err end2)
put_back_first read write old new s b dialed given given2 seen end end2 same leaves talks = (
  seen,
  [],
  refl,
  one_left read write old new b seen leaves,
  subst (λ e. Talks s (linked b seen ∷ []) given given2 (Err e)) (sym same) talks,
)

-- A second link was given.
pub dialed_second : {V I O T : Type 0} (read : I → ReadHalf) (write : O → WriteHalf) (given_by : T → Option (List ℕ)) (dialing dialing2 : Dialing) (place : Place) (s : Script rmi V) (b : Dialed) (first : Seen) (next : List ℕ → Script rmi V)
    (link : Link I O T) (old new : List (Halves I O)) (given mid given2 : Option (List ℕ)) (result : Result V CommandEnd)
    → Dials {E = CommandEnd} (accepted_as read write given_by) dialing dialing2 place.host place.port (Ok link) → AreNewHalves (read link.source) (write link.sink)
    → Stands s (linked b first ∷ []) given mid (dials place next)
    → ((b1 : Dialed) → Stands s (linked b first ∷ linked b1 (seen_of (link_at (read link.source) (write link.sink) 0)) ∷ []) given mid (next link.host)
    → LeavesPair read write s b b1 given given2 old new result)
    → LeavesMore read write s b dialing.dialed dialing2.dialed given given2 old new result
dialed_second read write given_by dialing dialing2 place s b first next link old new given mid given2 result dialed fresh stands over =
    let b1 : Dialed = dialed_at read write given_by place link in
    let (seen0, seen1, left, talks) = over b1
    (dialed_on s (linked b first ∷ []) given mid b1 (seen_of (link_at (read link.source) (write link.sink) 0)) next stands refl refl refl fresh.1 fresh.3) in
    (seen0, linked b1 seen1 ∷ [], dialed.0, left, talks)

-- A second link was not given.
pub undialed_second : {V I O : Type 0} (read : I → ReadHalf) (write : O → WriteHalf) (dialed dialed2 : Option (List Dialed)) (place : Place) (s : Script rmi V) (b : Dialed) (first : Seen) (next : List ℕ → Script rmi V)
    (old new : List (Halves I O)) (given given2 : Option (List ℕ)) (end : CommandEnd) → dialed2 ≡ dialed → end ≡ DialFault
    → Leaves read write old new first.read first.write → Stands s (linked b first ∷ []) given given2 (dials place next) → LeavesMore read write s b dialed dialed2 given given2 old new (Err end)
undialed_second read write dialed dialed2 place s b first next old new given given2 end same fault leaves stands = (
  first,
  [],
  same,
  one_left read write old new b first leaves,
  undialed_on s (linked b first ∷ []) given given2 place next end stands (ap cause_of fault),
)

-- A first link was given, and the command ended over it and what it dialled since.
pub spoke_more : {V I O T : Type 0} (read : I → ReadHalf) (write : O → WriteHalf) (given_by : T → Option (List ℕ)) (dialing mid dialing2 : Dialing) (place : Place) (next : List ℕ → Script rmi V)
    (link : Link I O T) (before old new : List (Halves I O)) (given given2 : Option (List ℕ)) (result : Result V CommandEnd)
    → old ≡ before → Dials {E = CommandEnd} (accepted_as read write given_by) dialing mid place.host place.port (Ok link) → AreNewHalves (read link.source) (write link.sink)
    → ((b : Dialed) → Stands (dials place next) (linked b (seen_of (link_at (read link.source) (write link.sink) 0)) ∷ []) given given (next link.host)
    → LeavesMore read write (dials place next) b mid.dialed dialing2.dialed given given2 old new result)
    → Spoke (dials place next) dialing.dialed dialing2.dialed (map (ended_as read write) before) (map (ended_as read write) new) given given2 result
spoke_more read write given_by dialing mid dialing2 place next link before old new given given2 result same_old dialed fresh over =
    let b : Dialed = dialed_at read write given_by place link in
    let (seen, more, dialed2, (left, same, are_shut), talks) = over b
    (dialed_on (dials place next) [] given given b (seen_of (link_at (read link.source) (write link.sink) 0)) next (begins (dials place next) given) refl refl refl fresh.1 fresh.3) in
    let are = left_by (dials place next) (linked b seen ∷ more) left given given2 result talks are_shut in
    record {
      links = linked b seen ∷ more;
      left = left;
      dialed_are = dialed2 ∙ ap (λ d. with_all d (map (λ (l : Linked). l.start) more)) dialed.0;
      talked_are = same ∙ ap (λ items. map (ended_as read write) items ++ left) same_old;
      are_left = are;
      talks = talks;
      blames = blames_of _ _ _ given given2 result talks are;
    }

pub rose_later : (old mid after : ℕ) → old ≤ mid → Rose mid after → Rose old after
rose_later old mid after up rose = (omega (arith, up, rose.0), grind (arith, up, rose.0, rose.1))
