-- How scripts are played, line after line.
use Rattle.std.proofs.Common.{None, ◌⊎◌, ◌≡◌, ℕ, ◌+◌, ◌≤◌, ◌<◌, List, [], ◌∷◌, ◌++◌, length, Option, Some, refl, ap, sym, subst, ◌∙◌, inl, inr, arith, length-append, take, get_or, flat_map, append_assoc, append-nil, add-one, Result, Ok, Err, OnOk, ℤ}
use Rattle.std.specs.Prelude.{◌≢◌, pos}
use Rattle.std.specs.Borrow.{Bor}
use Rattle.std.proofs.lemmas.Bool.{eqb-false}
use Rattle.std.proofs.lemmas.List.{take_more}
use Rattle.std.proofs.lemmas.List.Concat.{flat_map-append}
use Rattle.std.proofs.str.Laws.{order}
use Rattle.dgc_client.specs.Log.{ClientCall}
use Rattle.dgc_client.specs.StandsForLog.{ForEachLog, is_usable_after, until_told, refs_told}
use Rattle.dgc_client.specs.declared.client_ref.ClientRef.{ClientRef}
use Rattle.journal.specs.Parts.{parts, parts_left, Lacks}
use Rattle.journal.proofs.Splitting.{parts_exist, line_injective}
use Rattle.lease_world.specs.Stands.{WorldParts, StandsAt, StandsForCourse, ForEachCourse, IsCause, IsTaken, no_deeds}
use Rattle.lease_world.specs.World.{World, Course, Deed, Taken, CutMake, fault_of, with_deed, world, of_client, nth, client}
use Rattle.lease_world.specs.Script.{NextLine, SpellsStep, SpellsWorld, SpellsDeeds, course_of, IsPlayed, IsPrinted, IsStopped, ComesTo, StopsAt, BeginsWithoutWorld, BeginsWithoutStep, BeginsWithFault, IsReached, IsFaultAt, end_text, until_line, ref_line, client_lines, clients_lines}
use Rattle.lease_world.specs.Words.{IsWorldLine}
use Rattle.lease_world.specs.declared.fault.WorldFault.{WorldFault}
use Rattle.lease_world.specs.declared.fault.WorldFault.TheVariants.{BadStep, BadLine, OutOfMemory}
use Rattle.lease_world.specs.declared.member.Member.{Member}
use Rattle.lease_world.specs.declared.reading.WorldLine.{WorldLine}
use Rattle.lease_world.specs.declared.step.Step.{Step}
use Rattle.lease_world.proofs.SpelledOnce.{step_once, world_once}
use Rattle.lease_world.proofs.Theorem.{theorem}

-- ---- words

-- There is at least one word.
pub some_word : (text : List ℕ) → 1 ≤ length (parts 32 text)
some_word text = by_parts (parts 32 text) refl
  where
    by_parts : (ps : List (List ℕ)) → parts 32 text ≡ ps → 1 ≤ length ps
    by_parts [] is = absurd (parts_exist 32 text is)
    by_parts (p ∷ ps) is = omega arith

-- One word more than there are after the first space.
pub one_more : (text word : List ℕ) (left : Option (Bor (List ℕ))) (rest : Bor (List ℕ)) (n : ℕ) → parts 32 text ≡ word ∷ parts_left 32 left → left ≡ Some rest
    → n ≤ length (parts 32 rest.now) → n + 1 ≤ length (parts 32 text)
one_more text word left rest n is some more =
    let whole : parts 32 text ≡ word ∷ parts 32 rest.now = is ∙ ap (λ (l : Option (Bor (List ℕ))). word ∷ parts_left 32 l) some in
    omega (arith, ap length whole, more)

-- ---- lines

-- Bytes without LF hold no line.
pub no_line : (bytes text rest : List ℕ) → Lacks 10 bytes → bytes ≡ text ++ 10 ∷ rest → ⊥
no_line [] [] rest lack is = grind (arith, is)
no_line [] (c ∷ text) rest lack is = grind (arith, is)
no_line (b ∷ bytes) [] rest lack is = eqb-false b 10 lack.0 (ap (λ (l : List ℕ). get_or l 0 0) is)
no_line (b ∷ bytes) (c ∷ text) rest lack is = no_line bytes text rest lack.1 (grind arith)

-- The line that stands first.
pub same_line : (bytes text line rest more : List ℕ) → Lacks 10 line → bytes ≡ line ++ 10 ∷ more → NextLine bytes text rest → text ≡ line
same_line bytes text line rest more lack is first = (line_injective 10 text line rest more first.whole lack (sym first.bytes_are ∙ is)).0

-- The lines after the first are shorter.
pub fewer_bytes : (bytes line more : List ℕ) → bytes ≡ line ++ 10 ∷ more → length more < length bytes
fewer_bytes bytes line more is = omega (arith, ap length is, length-append line (10 ∷ more))

-- ---- the first line

pub no_first_line : (script : List ℕ) → Lacks 10 script → BeginsWithoutWorld script
no_first_line script lack lease ack clients text rest first spells = no_line script text rest lack first.bytes_are

pub no_world : (script line more : List ℕ) → Lacks 10 line → script ≡ line ++ 10 ∷ more → ((x : WorldLine) → IsWorldLine x line → ⊥) → BeginsWithoutWorld script
no_world script line more lack is none lease ack clients text rest first spells =
    none (record { lease_ms = lease; ack_ms = ack; clients = clients }) (subst (SpellsWorld lease ack clients) (same_line script text line rest more lack is first) spells)

pub begins : (script line more : List ℕ) (v : WorldParts) (x : WorldLine) → Lacks 10 line → script ≡ line ++ 10 ∷ more → IsWorldLine x line
    → StandsForCourse v (no_deeds x.lease_ms x.ack_ms x.clients) → IsReached script v more 2
begins script line more v x lack is spells stands = record {
  course = no_deeds x.lease_ms x.ack_ms x.clients;
  stands = stands;
  played = record { text = line; steps = more; first = record { whole = lack; bytes_are = is }; begins = spells; goes_on = refl };
  count = refl;
}

-- ---- further lines

pub stops_here : (script lines : List ℕ) (v : WorldParts) (number : ℕ) (fault : WorldFault) → lines ≢ [] → (r : IsReached script v lines number) → StopsAt r.course lines fault → IsStopped script fault
stops_here script lines v number fault some r stops = inr (inr (record { course = r.course; rest = lines; played = r.played; some = some; stops = stops }))

-- Where no step stands first, the line is bad.
pub stops_badly : (script lines : List ℕ) (v : WorldParts) (number : ℕ) → lines ≢ [] → BeginsWithoutStep lines → IsReached script v lines number → IsStopped script (BadLine number)
stops_badly script lines v number some none r = stops_here script lines v number (BadLine number) some r (inl (ap BadLine r.count, inl none))

pub no_step_line : (lines : List ℕ) → Lacks 10 lines → BeginsWithoutStep lines
no_step_line lines lack step text rest first spells = no_line lines text rest lack first.bytes_are

pub no_step : (lines line more : List ℕ) → Lacks 10 line → lines ≡ line ++ 10 ∷ more → ((step : Step) → SpellsStep step line → ⊥) → BeginsWithoutStep lines
no_step lines line more lack is none step text rest first spells = none step (subst (SpellsStep step) (same_line lines text line rest more lack is first) spells)

-- A step that was taken.
pub goes_on : (script lines line more : List ℕ) (old new : WorldParts) (number : ℕ) (step : Step) → Lacks 10 line → lines ≡ line ++ 10 ∷ more → SpellsStep step line
    → ForEachCourse old (IsTaken old step new) → IsReached script old lines number → IsReached script new more (number + 1)
goes_on script lines line more old new number step lack is spells taken r =
    let t = taken r.course r.stands in record {
      course = with_deed (Taken step) r.course;
      stands = t.stands;
      played = record {
        text = r.played.text;
        steps = r.played.steps;
        first = r.played.first;
        begins = r.played.begins;
        goes_on = (lines, line, r.played.goes_on, record { whole = lack; bytes_are = is }, spells, t.allowed);
      };
      count = omega (arith, r.count);
    }

-- A step that was refused.
pub stops_with : (script lines line more : List ℕ) (old : WorldParts) (number : ℕ) (step : Step) (fault given : WorldFault) → lines ≢ [] → Lacks 10 line → lines ≡ line ++ 10 ∷ more
    → SpellsStep step line → ForEachCourse old (λ course. IsCause fault (fault_of (world course) step)) → IsFaultAt fault number given → IsReached script old lines number → IsStopped script given
stops_with script lines line more old number step fault given some lack is spells refused at_line r = by_cause (refused r.course r.stands) at_line
  where
    begins_with : (f : WorldFault) → fault_of (world r.course) step ≡ Some f → BeginsWithFault r.course lines f
    begins_with f cause = record { step = step; text = line; rest = more; first = record { whole = lack; bytes_are = is }; spells = spells; refused = cause }

    by_cause : IsCause fault (fault_of (world r.course) step) → IsFaultAt fault number given → IsStopped script given
    by_cause (inl wanting) (inl bad) = absurd (no_bad (sym wanting ∙ bad.0))
      where
        no_bad : OutOfMemory ≡ BadStep → ⊥
        no_bad same = cc
    by_cause (inl wanting) (inr other) = inl (other.1 ∙ wanting)
    by_cause (inr cause) (inl bad) = stops_here script lines old number given some r
        (inl (bad.1 ∙ ap BadLine r.count, inr (begins_with BadStep (cause ∙ ap Some bad.0))))
    by_cause (inr cause) (inr other) = stops_here script lines old number given some r
        (inr ((λ same. other.0 (sym other.1 ∙ same)), begins_with given (cause ∙ ap Some (sym other.1))))

-- ---- the end

pub printed : (script text : List ℕ) (v : WorldParts) → (next : ℕ) × IsReached script v [] next → ForEachCourse v (λ course. text ≡ end_text (world course)) → IsPrinted script text
printed script text v (next, r) is = record { course = r.course; played = r.played; text_is = is r.course r.stands; promise = theorem r.course }

-- ---- texts of clients

-- The text of one more item.
pub one_more_text : {X : Type 0} (put : X → List ℕ) (old mid new : List ℕ) (xs : List X) (i : ℕ) (d : X) → i < length xs → mid ≡ old ++ flat_map put (take i xs)
    → new ≡ mid ++ put (get_or xs i d) → new ≡ old ++ flat_map put (take (i + 1) xs)
one_more_text put old mid new xs i d inside is item =
    rw (take_more xs i d inside)
    (item ∙ ap (λ (t : List ℕ). t ++ put (get_or xs i d)) is ∙ append_assoc old (flat_map put (take i xs)) (put (get_or xs i d))
    ∙ ap (λ (t : List ℕ). old ++ t) (ap (λ (t : List ℕ). flat_map put (take i xs) ++ t) (sym (append-nil (put (get_or xs i d)))) ∙ sym (flat_map-append put (take i xs) (get_or xs i d ∷ []))))

-- The text of a client after those before it.
pub one_more_client : (w : World) (old mid new : List ℕ) (n : ℕ) → mid ≡ old ++ clients_lines w n → new ≡ mid ++ client_lines n w.moment (of_client n w.calls)
    → new ≡ old ++ clients_lines w (n + 1)
one_more_client w old mid new n is item =
    rw add-one (item ∙ ap (λ (t : List ℕ). t ++ client_lines n w.moment (of_client n w.calls)) is ∙ append_assoc old (clients_lines w n) (client_lines n w.moment (of_client n w.calls)))

-- What follows on an answer from what holds there.
pub ok_weaker : {T E A B : Type 0} (r : Result T E) → (A → B) → OnOk r A → OnOk r B
ok_weaker (Ok x) then h = then h
ok_weaker (Err e) then h = tt

-- The text of a client: its time, and its references.
pub client_text : (n now : ℕ) (first : ℤ) (log : List ClientCall) (old mid new : List ℕ) (end_told : ℕ) (refs : List ClientRef) → first ≡ pos 0 → end_told ≡ until_told first log
    → refs ≡ refs_told first log → mid ≡ old ++ until_line n end_told → new ≡ mid ++ flat_map (λ (r : ClientRef). ref_line n r (is_usable_after first log r.id now)) refs
    → new ≡ old ++ client_lines n now log
client_text n now first log old mid new end_told refs at_first is_end are_refs is_mid is_new =
    let told_end : end_told ≡ until_told (pos 0) log = is_end ∙ ap (λ (f : ℤ). until_told f log) at_first in
    let told_refs : refs ≡ refs_told (pos 0) log = are_refs ∙ ap (λ (f : ℤ). refs_told f log) at_first in
    is_new
    ∙ ap (λ (f : ℤ). mid ++ flat_map (λ (r : ClientRef). ref_line n r (is_usable_after f log r.id now)) refs) at_first
    ∙ ap (λ (rs : List ClientRef). mid ++ flat_map (λ (r : ClientRef). ref_line n r (is_usable_after (pos 0) log r.id now)) rs) told_refs
    ∙ ap (λ (t : List ℕ). t ++ flat_map (λ (r : ClientRef). ref_line n r (is_usable_after (pos 0) log r.id now)) (refs_told (pos 0) log)) (is_mid ∙ ap (λ (u : ℕ). old ++ until_line n u) told_end)
    ∙ append_assoc old (until_line n (until_told (pos 0) log)) (flat_map (λ (r : ClientRef). ref_line n r (is_usable_after (pos 0) log r.id now)) (refs_told (pos 0) log))

-- The text that was appended for a client is its text in the world.
pub client_there : (v : WorldParts) (w : World) (n : ℕ) (x : Member) (mid new : List ℕ) → StandsAt v w → nth v.members n ≡ Some x
    → ForEachLog x.table (λ vmid first log. first ≡ pos 0 → new ≡ mid ++ client_lines n v.moment log) → new ≡ mid ++ client_lines n w.moment (of_client n w.calls)
client_there v w n x mid new stands there each =
    each (client n) (pos 0) (of_client n w.calls) (stands.members_are n x there).0 refl
    ∙ ap (λ (m : ℕ). mid ++ client_lines n m (of_client n w.calls)) stands.moment_is

-- ---- a script comes to one end

-- Two lines that stand first in the same bytes are the same.
one_line : (bytes text text2 rest rest2 : List ℕ) → NextLine bytes text rest → NextLine bytes text2 rest2 → (text ≡ text2) × (rest ≡ rest2)
one_line bytes text text2 rest rest2 a b = line_injective 10 text text2 rest rest2 a.whole b.whole (sym a.bytes_are ∙ b.bytes_are)

-- A step that is taken after a course stands first in the rest.
abbrev GoesFurther : Course → List ℕ → Type 0
GoesFurther course rest = (step : Step) × (text : List ℕ) × (more : List ℕ) × NextLine rest text more × SpellsStep step text × (fault_of (world course) step ≡ None)

-- No step that is taken after a course stands first in the rest.
abbrev IsStuck : Course → List ℕ → Type 0
IsStuck course rest = GoesFurther course rest → ⊥

module _ (lease ack clients : ℕ) (bytes : List ℕ) where
  -- As many lines spell one list of deeds, and leave the same rest.
  deeds_once : (xs ys : List Deed) (rest rest2 : List ℕ) → length xs ≡ length ys → SpellsDeeds lease ack clients bytes xs rest → SpellsDeeds lease ack clients bytes ys rest2 → (xs ≡ ys) × (rest ≡ rest2)
  deeds_once [] [] rest rest2 same of_x of_y = (refl, of_x ∙ sym of_y)
  deeds_once [] (y ∷ ys) rest rest2 same of_x of_y = absurd (omega (arith, same))
  deeds_once (x ∷ xs) [] rest rest2 same of_x of_y = absurd (omega (arith, same))
  deeds_once (CutMake ∷ xs) (y ∷ ys) rest rest2 same of_x of_y = absurd of_x
  deeds_once (Taken a ∷ xs) (CutMake ∷ ys) rest rest2 same of_x of_y = absurd of_y
  deeds_once (Taken a ∷ xs) (Taken b ∷ ys) rest rest2 same (before, text, more, first, spells, allowed) (before2, text2, more2, first2, spells2, allowed2) =
      let earlier = deeds_once xs ys before before2 (omega (arith, same)) more more2 in
      let line = one_line before text text2 rest rest2 first (subst (λ (b : List ℕ). NextLine b text2 rest2) (sym earlier.1) first2) in
      let step = step_once a b text spells (subst (SpellsStep b) (sym line.0) spells2) in
      (ap (λ (s : Step). Taken s ∷ xs) step ∙ ap (λ (ds : List Deed). Taken b ∷ ds) earlier.0, line.1)

  -- Where more lines were taken, the first of those stands first in the rest of the others.
  further : (xs ys : List Deed) (rest rest2 : List ℕ) → length xs < length ys → SpellsDeeds lease ack clients bytes xs rest → SpellsDeeds lease ack clients bytes ys rest2
      → GoesFurther (course_of lease ack clients xs) rest
  further xs [] rest rest2 less of_x of_y = absurd (omega (arith, less))
  further xs (CutMake ∷ ys) rest rest2 less of_x of_y = absurd of_y
  further xs (Taken b ∷ ys) rest rest2 less of_x (before, text, more, first, spells, allowed) =
      by_length (λ shorter. further xs ys rest before shorter of_x more) (order (length xs) (length ys))
    where
      by_length : (length xs < length ys → GoesFurther (course_of lease ack clients xs) rest) → (length xs < length ys) ⊎ (length ys ≤ length xs) → GoesFurther (course_of lease ack clients xs) rest
      by_length before_that (inl shorter) = before_that shorter
      by_length before_that (inr long) =
          let earlier = deeds_once xs ys rest before (omega (arith, less, long)) of_x more in (
            b,
            text,
            rest2,
            subst (λ (r : List ℕ). NextLine r text rest2) (sym earlier.1) first,
            spells,
            subst (λ (ds : List Deed). fault_of (world (course_of lease ack clients ds)) b ≡ None) (sym earlier.0) allowed,
          )

  stuck_once : (xs ys : List Deed) (rest rest2 : List ℕ) → SpellsDeeds lease ack clients bytes xs rest → IsStuck (course_of lease ack clients xs) rest
      → SpellsDeeds lease ack clients bytes ys rest2 → IsStuck (course_of lease ack clients ys) rest2 → (xs ≡ ys) × (rest ≡ rest2)
  stuck_once xs ys rest rest2 of_x stuck_x of_y stuck_y = by_length (order (length xs) (length ys)) (order (length ys) (length xs))
    where
      by_length : (length xs < length ys) ⊎ (length ys ≤ length xs) → (length ys < length xs) ⊎ (length xs ≤ length ys) → (xs ≡ ys) × (rest ≡ rest2)
      by_length (inl shorter) other = absurd (stuck_x (further xs ys rest rest2 shorter of_x of_y))
      by_length (inr long) (inl longer) = absurd (stuck_y (further ys xs rest2 rest longer of_y of_x))
      by_length (inr long) (inr short) = deeds_once xs ys rest rest2 (omega (arith, long, short)) of_x of_y

course_is : (a b : Course) → a.lease_ms ≡ b.lease_ms → a.ack_ms ≡ b.ack_ms → a.clients ≡ b.clients → a.deeds ≡ b.deeds → a ≡ b
course_is a b lease ack clients deeds =
    ap (λ (x : ℕ). record a { lease_ms = x }) lease ∙ ap (λ (x : ℕ). record a { lease_ms = b.lease_ms; ack_ms = x }) ack
    ∙ ap (λ (x : ℕ). record a { lease_ms = b.lease_ms; ack_ms = b.ack_ms; clients = x }) clients
    ∙ ap (λ (x : List Deed). record { lease_ms = b.lease_ms; ack_ms = b.ack_ms; clients = b.clients; deeds = x }) deeds

-- A script is played up to one place at which no step is taken.
same_course : (script : List ℕ) (a b : Course) (rest rest2 : List ℕ) → IsPlayed script a rest → IsStuck a rest → IsPlayed script b rest2 → IsStuck b rest2 → (a ≡ b) × (rest ≡ rest2)
same_course script a b rest rest2 p stuck q stuck2 =
    let line = one_line script p.text q.text p.steps q.steps p.first q.first in
    let same = world_once a.lease_ms b.lease_ms a.ack_ms b.ack_ms a.clients b.clients p.text p.begins (subst (SpellsWorld b.lease_ms b.ack_ms b.clients) (sym line.0) q.begins) in
    let spelled = subst (λ (bytes : List ℕ). SpellsDeeds b.lease_ms b.ack_ms b.clients bytes b.deeds rest2) (sym line.1) q.goes_on in
    let of_b =
    subst (λ (n : ℕ). SpellsDeeds a.lease_ms a.ack_ms n p.steps b.deeds rest2 × IsStuck (course_of a.lease_ms a.ack_ms n b.deeds) rest2) (sym same.2)
    (subst (λ (n : ℕ). SpellsDeeds a.lease_ms n b.clients p.steps b.deeds rest2 × IsStuck (course_of a.lease_ms n b.clients b.deeds) rest2) (sym same.1)
    (subst (λ (n : ℕ). SpellsDeeds n b.ack_ms b.clients p.steps b.deeds rest2 × IsStuck (course_of n b.ack_ms b.clients b.deeds) rest2) (sym same.0) (spelled, stuck2))) in
    let once = stuck_once a.lease_ms a.ack_ms a.clients p.steps a.deeds b.deeds rest rest2 p.goes_on stuck of_b.0 of_b.1 in
    (course_is a b same.0 same.1 same.2 once.0, once.1)

done_stuck : (course : Course) → IsStuck course []
done_stuck course (step, text, more, first, spells, allowed) = no_line [] text more tt first.bytes_are

some_none : (fault : WorldFault) → ◌≡◌ {A = Option WorldFault} (Some fault) None → ⊥
some_none fault same = cc

some_same : (f g : WorldFault) → ◌≡◌ {A = Option WorldFault} (Some f) (Some g) → f ≡ g
some_same f g same = cc

refused_stuck : (course : Course) (bytes : List ℕ) (fault : WorldFault) → BeginsWithFault course bytes fault → IsStuck course bytes
refused_stuck course bytes fault bad (step, text, more, first, spells, allowed) =
    let line = one_line bytes bad.text text bad.rest more bad.first first in
    let same = step_once bad.step step bad.text bad.spells (subst (SpellsStep step) (sym line.0) spells) in
    some_none fault (sym bad.refused ∙ ap (fault_of (world course)) same ∙ allowed)

refused_once : (course : Course) (bytes : List ℕ) (f g : WorldFault) → BeginsWithFault course bytes f → BeginsWithFault course bytes g → f ≡ g
refused_once course bytes f g a b =
    let line = one_line bytes a.text b.text a.rest b.rest a.first b.first in
    let same = step_once a.step b.step a.text a.spells (subst (SpellsStep b.step) (sym line.0) b.spells) in
    some_same f g (sym a.refused ∙ ap (fault_of (world course)) same ∙ b.refused)

stops_stuck : (course : Course) (rest : List ℕ) (fault : WorldFault) → StopsAt course rest fault → IsStuck course rest
stops_stuck course rest fault (inl (is, inl none)) (step, text, more, first, spells, allowed) = none step text more first spells
stops_stuck course rest fault (inl (is, inr bad)) goes = refused_stuck course rest BadStep bad goes
stops_stuck course rest fault (inr (other, bad)) goes = refused_stuck course rest fault bad goes

faults_once : (course : Course) (rest : List ℕ) (f g : WorldFault) → StopsAt course rest f → StopsAt course rest g → f ≡ g
faults_once course rest f g (inl (is, why)) (inl (is2, why2)) = is ∙ sym is2
faults_once course rest f g (inl (is, inl none)) (inr (other, bad)) = absurd (none bad.step bad.text bad.rest bad.first bad.spells)
faults_once course rest f g (inl (is, inr bad)) (inr (other, bad2)) = absurd (other (sym (refused_once course rest BadStep g bad bad2)))
faults_once course rest f g (inr (other, bad)) (inl (is, inl none)) = absurd (none bad.step bad.text bad.rest bad.first bad.spells)
faults_once course rest f g (inr (other, bad)) (inl (is, inr bad2)) = absurd (other (refused_once course rest f BadStep bad bad2))
faults_once course rest f g (inr (other, bad)) (inr (other2, bad2)) = refused_once course rest f g bad bad2

abbrev pub failed : WorldFault → Result (List ℕ) WorldFault
failed fault = Err fault

printed_not_stopped : (script text : List ℕ) (fault : WorldFault) → fault ≢ OutOfMemory → IsPrinted script text → IsStopped script fault → ⊥
printed_not_stopped script text fault known p (inl wanting) = known wanting
printed_not_stopped script text fault known p (inr (inl (is, none))) = none p.course.lease_ms p.course.ack_ms p.course.clients p.played.text p.played.steps p.played.first p.played.begins
printed_not_stopped script text fault known p (inr (inr s)) =
    let same = same_course script p.course s.course [] s.rest p.played (done_stuck p.course) s.played (stops_stuck s.course s.rest fault s.stops) in
    s.some (sym same.1)

no_world_played : (script rest : List ℕ) (course : Course) → BeginsWithoutWorld script → IsPlayed script course rest → ⊥
no_world_played script rest course none p = none course.lease_ms course.ack_ms course.clients p.text p.steps p.first p.begins

stops_once : (script : List ℕ) (f g : WorldFault) → f ≢ OutOfMemory → g ≢ OutOfMemory → IsStopped script f → IsStopped script g → f ≡ g
stops_once script f g known known2 (inl wanting) other = absurd (known wanting)
stops_once script f g known known2 (inr why) (inl wanting) = absurd (known2 wanting)
stops_once script f g known known2 (inr (inl (is, none))) (inr (inl (is2, none2))) = is ∙ sym is2
stops_once script f g known known2 (inr (inl (is, none))) (inr (inr s)) = absurd (no_world_played script s.rest s.course none s.played)
stops_once script f g known known2 (inr (inr s)) (inr (inl (is, none))) = absurd (no_world_played script s.rest s.course none s.played)
stops_once script f g known known2 (inr (inr s)) (inr (inr t)) =
    let same = same_course script s.course t.course s.rest t.rest s.played (stops_stuck s.course s.rest f s.stops) t.played (stops_stuck t.course t.rest g t.stops) in
    faults_once s.course s.rest f g s.stops
    (subst (λ (r : List ℕ). StopsAt s.course r g) (sym same.1) (subst (λ (c : Course). StopsAt c t.rest g) (sym same.0) t.stops))

-- A script comes to one text or to one fault, unless memory is wanting.
pub comes_once : (script : List ℕ) (a b : Result (List ℕ) WorldFault) → a ≢ Err OutOfMemory → b ≢ Err OutOfMemory → ComesTo script a → ComesTo script b → a ≡ b
comes_once script (Ok x) (Ok y) known known2 p q =
    let same = same_course script p.course q.course [] [] p.played (done_stuck p.course) q.played (done_stuck q.course) in
    ap (λ (t : List ℕ). Ok t) (p.text_is ∙ ap (λ (c : Course). end_text (world c)) same.0 ∙ sym q.text_is)
comes_once script (Ok x) (Err g) known known2 p q = absurd (printed_not_stopped script x g (λ is. known2 (ap failed is)) p q)
comes_once script (Err f) (Ok y) known known2 p q = absurd (printed_not_stopped script y f (λ is. known (ap failed is)) q p)
comes_once script (Err f) (Err g) known known2 p q = ap failed (stops_once script f g (λ is. known (ap failed is)) (λ is. known2 (ap failed is)) p q)
