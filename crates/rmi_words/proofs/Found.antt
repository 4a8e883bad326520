-- What `clap` makes of each command's words: what is wrong, and what it finds.
use Rattle.std.proofs.Common.{◌≡◌, ◌∙◌, ◌≤◌, ℕ, Bool, true, false, ◌∷◌, [], List, Option, Some, None, ◌⊎◌, inl, inr, length, refl, ap, sym, subst}
use Rattle.std.specs.Prelude.{find, is_some, option_map}
use Rattle.std.specs.Str.{bytes_eq}
use Rattle.std.proofs.lemmas.Slice.Eq.{bytes_eq-Decides}
use Rattle.clap.specs.Faults.{entered_fault, level_fault, turn_fault}
use Rattle.clap.specs.Simple.{entered}
use Rattle.clap.specs.Walk.{Names, Row, Text, answers_to, idle, nothing_held, rows_after, subcommand_met, walked}
use Rattle.rmi_words.proofs.CallPlaces.{call_fits}
use Rattle.rmi_words.proofs.HostPlaces.{host_fits}
use Rattle.rmi_words.proofs.Levels.{fault_empty, fault_named, fault_stray, level_is_fed, names, rows_are_fed, rows_named, start, whole}
use Rattle.rmi_words.proofs.Places.{answer_fits, bare_fits, drill_fits, help_fits, journal_fits, leaf, level_of, rows_of, serve_fits, list_fits, lookup_fits, bind_fits, unbind_fits}
use Rattle.rmi_words.proofs.Walking.{ArePlain}
use Rattle.rmi_words.specs.Entries.{Entry, entries, answer_entry, serve_entry, host_entry, list_entry, lookup_entry, bind_entry, unbind_entry, call_entry, replay_entry, show_entry, drill_entry, journal_entry, world_entry, suid_entry, suidtext_entry, describe_entry, help_entry}
use Rattle.rmi_words.specs.Program.{faults_in, found_in, is_option}

-- ---- by the name of a command

-- The program has this command.
pub record Enters (entry : Entry) : Type 0 where
  pub met : walked [] names start entry.name ≡ record start { stopped = Some (entry.name, []) }
  pub turn : turn_fault whole.top names start entry.name ≡ []
  pub is_there : (ws : List Text) → is_some (entered whole (Some (entry.name, ws))) ≡ true
  pub fault : (ws : List Text) → entered_fault whole (Some (entry.name, ws)) ≡ level_fault (leaf entry) [] nothing_held ws false []
  pub rows : (ws : List Text) → entered whole (Some (entry.name, ws)) ≡ Some (entry.name, rows_after (leaf entry).rules [] ws)

-- The program has this command, and it takes this many words.
pub record Takes (entry : Entry) (least most : ℕ) : Type 0 where
  pub enters : Enters entry
  pub fits : (ws : List Text) → level_of entry ws ≡ [] → (least ≤ length ws) × (length ws ≤ most)

pub answer_takes : Takes answer_entry 0 3
unfolding walked
answer_takes = record { enters = record { met = refl; turn = refl; is_there = λ ws. refl; fault = λ ws. refl; rows = λ ws. refl }; fits = answer_fits }

pub serve_takes : Takes serve_entry 2 5
unfolding walked
serve_takes = record { enters = record { met = refl; turn = refl; is_there = λ ws. refl; fault = λ ws. refl; rows = λ ws. refl }; fits = serve_fits }

pub host_takes : Takes host_entry 3 7
unfolding walked
host_takes = record { enters = record { met = refl; turn = refl; is_there = λ ws. refl; fault = λ ws. refl; rows = λ ws. refl }; fits = host_fits }

pub list_takes : Takes list_entry 2 2
unfolding walked
list_takes = record { enters = record { met = refl; turn = refl; is_there = λ ws. refl; fault = λ ws. refl; rows = λ ws. refl }; fits = list_fits }

pub lookup_takes : Takes lookup_entry 3 3
unfolding walked
lookup_takes = record { enters = record { met = refl; turn = refl; is_there = λ ws. refl; fault = λ ws. refl; rows = λ ws. refl }; fits = lookup_fits }

pub bind_takes : Takes bind_entry 4 4
unfolding walked
bind_takes = record { enters = record { met = refl; turn = refl; is_there = λ ws. refl; fault = λ ws. refl; rows = λ ws. refl }; fits = bind_fits }

pub unbind_takes : Takes unbind_entry 3 3
unfolding walked
unbind_takes = record { enters = record { met = refl; turn = refl; is_there = λ ws. refl; fault = λ ws. refl; rows = λ ws. refl }; fits = unbind_fits }

pub replay_takes : Takes replay_entry 0 0
unfolding walked
replay_takes = record { enters = record { met = refl; turn = refl; is_there = λ ws. refl; fault = λ ws. refl; rows = λ ws. refl }; fits = bare_fits replay_entry.name replay_entry.does replay_entry.example }

pub show_takes : Takes show_entry 0 0
unfolding walked
show_takes = record { enters = record { met = refl; turn = refl; is_there = λ ws. refl; fault = λ ws. refl; rows = λ ws. refl }; fits = bare_fits show_entry.name show_entry.does show_entry.example }

pub drill_takes : Takes drill_entry 2 2
unfolding walked
drill_takes = record { enters = record { met = refl; turn = refl; is_there = λ ws. refl; fault = λ ws. refl; rows = λ ws. refl }; fits = drill_fits }

pub journal_takes : Takes journal_entry 2 2
unfolding walked
journal_takes = record { enters = record { met = refl; turn = refl; is_there = λ ws. refl; fault = λ ws. refl; rows = λ ws. refl }; fits = journal_fits }

pub world_takes : Takes world_entry 0 0
unfolding walked
world_takes = record { enters = record { met = refl; turn = refl; is_there = λ ws. refl; fault = λ ws. refl; rows = λ ws. refl }; fits = bare_fits world_entry.name world_entry.does world_entry.example }

pub suid_takes : Takes suid_entry 0 0
unfolding walked
suid_takes = record { enters = record { met = refl; turn = refl; is_there = λ ws. refl; fault = λ ws. refl; rows = λ ws. refl }; fits = bare_fits suid_entry.name suid_entry.does suid_entry.example }

pub suidtext_takes : Takes suidtext_entry 0 0
unfolding walked
suidtext_takes = record { enters = record { met = refl; turn = refl; is_there = λ ws. refl; fault = λ ws. refl; rows = λ ws. refl }; fits = bare_fits suidtext_entry.name suidtext_entry.does suidtext_entry.example }

pub describe_takes : Takes describe_entry 0 0
unfolding walked
describe_takes = record { enters = record { met = refl; turn = refl; is_there = λ ws. refl; fault = λ ws. refl; rows = λ ws. refl }; fits = bare_fits describe_entry.name describe_entry.does describe_entry.example }

pub help_takes : Takes help_entry 0 1
unfolding walked
help_takes = record { enters = record { met = refl; turn = refl; is_there = λ ws. refl; fault = λ ws. refl; rows = λ ws. refl }; fits = help_fits }

pub call_enters : Enters call_entry
unfolding walked
call_enters = record { met = refl; turn = refl; is_there = λ ws. refl; fault = λ ws. refl; rows = λ ws. refl }

pub entered_wrong : (entry : Entry) → Enters entry → (ws : List Text) → ArePlain ws → faults_in (entry.name ∷ ws) ≡ level_of entry ws
unfolding faults_in level_of
entered_wrong entry t ws p = fault_named entry.name ws t.met t.turn (t.is_there ws) ∙ t.fault ws ∙ level_is_fed (leaf entry) ws p

pub entered_found : (entry : Entry) → Enters entry → (ws : List Text) → ArePlain ws → found_in (entry.name ∷ ws) ≡ Some (entry.name, rows_of entry ws)
unfolding found_in rows_of
entered_found entry t ws p =
    rows_named entry.name ws t.met t.turn (t.is_there ws) ∙ t.rows ws ∙ ap (λ (rows : List Row). Some (entry.name, rows)) (rows_are_fed (leaf entry).rules ws p)

pub wrong : (entry : Entry) (least most : ℕ) → Takes entry least most → (ws : List Text) → ArePlain ws → faults_in (entry.name ∷ ws) ≡ level_of entry ws
wrong entry least most t ws p = entered_wrong entry t.enters ws p

pub found : (entry : Entry) (least most : ℕ) → Takes entry least most → (ws : List Text) → ArePlain ws → found_in (entry.name ∷ ws) ≡ Some (entry.name, rows_of entry ws)
found entry least most t ws p = entered_found entry t.enters ws p

-- ---- words that `clap` takes

-- These rows are found in this many words.
pub record AreRead (least most : ℕ) (found rows : List Row) (ws : List Text) : Type 0 where
  pub plain : ArePlain ws
  pub some : least ≤ length ws
  pub few : length ws ≤ most
  pub rows_are : found ≡ rows

abbrev name_in : Option (Text × List Row) → Text
name_in (Some p) = p.0
name_in None = []

abbrev rows_in : Option (Text × List Row) → List Row
rows_in (Some p) = p.1
rows_in None = []

pub read : (entry : Entry) (least most : ℕ) → Takes entry least most → (words ws : List Text) (p : Text × List Row) → ArePlain words → faults_in words ≡ [] → found_in words ≡ Some p → words ≡ entry.name ∷ ws
    → AreRead least most (rows_of entry ws) p.1 ws
read entry least most t words ws p plain right is e =
    let all : ArePlain (entry.name ∷ ws) = subst ArePlain e plain in
    let fits = t.fits ws (sym (wrong entry least most t ws all.1) ∙ ap faults_in (sym e) ∙ right) in
    record { plain = all.1; some = fits.0; few = fits.1; rows_are = ap rows_in (sym (found entry least most t ws all.1) ∙ ap found_in (sym e) ∙ is) }

-- These rows are found in the words of `call`, of which there are at least 4.
pub record AreReadOfCall (found rows : List Row) (ws : List Text) : Type 0 where
  pub plain : ArePlain ws
  pub some : 4 ≤ length ws
  pub rows_are : found ≡ rows

pub read_call : (words ws : List Text) (p : Text × List Row) → ArePlain words → faults_in words ≡ [] → found_in words ≡ Some p → words ≡ call_entry.name ∷ ws
    → AreReadOfCall (rows_of call_entry ws) p.1 ws
read_call words ws p plain right is e =
    let all : ArePlain (call_entry.name ∷ ws) = subst ArePlain e plain in record {
      plain = all.1;
      some = call_fits ws (sym (entered_wrong call_entry call_enters ws all.1) ∙ ap faults_in (sym e) ∙ right);
      rows_are = ap rows_in (sym (entered_found call_entry call_enters ws all.1) ∙ ap found_in (sym e) ∙ is);
    }

-- ---- the first word

-- The program has each of these.
abbrev AreThere : List Entry → Type 0
AreThere [] = Unit {0}
AreThere (e ∷ es) = Enters e × AreThere es

all_there : AreThere entries
all_there = (answer_takes.enters, (serve_takes.enters, (host_takes.enters, (list_takes.enters, (lookup_takes.enters, (bind_takes.enters, (unbind_takes.enters, (call_enters, (replay_takes.enters, (show_takes.enters, (drill_takes.enters, (journal_takes.enters, (world_takes.enters, (suid_takes.enters, (suidtext_takes.enters, (describe_takes.enters, (help_takes.enters, tt)))))))))))))))))

abbrev names_of : List Entry → Names
names_of [] = []
names_of (e ∷ es) = (e.name, []) ∷ names_of es

skip : (n w : Text) (rest : List (Text × List Text)) → bytes_eq n w ≡ false → find (answers_to w) ((n, []) ∷ rest) ≡ find (answers_to w) rest
skip n w rest e = rw e refl

stray : (w : Text) (ws : List Text) → is_option w ≡ false → subcommand_met names idle w ≡ None → faults_in (w ∷ ws) ≡ [] → ⊥
unfolding faults_in
stray w ws p none right = fault_stray w ws p none right

empty : faults_in [] ≡ [] → ⊥
unfolding faults_in
empty right = fault_empty right

module _ (w : Text) (ws : List Text) (plain : ArePlain (w ∷ ws)) (p : Text × List Row) (is : found_in (w ∷ ws) ≡ Some p) where
  -- The word is the name that is found.
  abbrev IsFirst : Type 0
  IsFirst = (rest : List Text) × (w ∷ ws ≡ p.0 ∷ rest)

  hit : (n : Text) → bytes_eq n w ≡ true → (rows : List Row) → found_in (n ∷ ws) ≡ Some (n, rows) → IsFirst
  hit n e rows found =
      let same : n ≡ w = (bytes_eq-Decides n w).0 e in
      let named : n ≡ p.0 = ap name_in (sym found ∙ ap (λ x. found_in (x ∷ ws)) same ∙ is) in
      (ws, ap (λ x. x ∷ ws) (sym same ∙ named))

  -- Where it is no name of these, `clap` meets none of them.
  met_in : (es : List Entry) → AreThere es → (find (answers_to w) (names_of es) ≡ None) ⊎ IsFirst
  met_in [] all = inl refl
  met_in (e ∷ es) all = by_test (bytes_eq e.name w) refl (met_in es all.1)
    where
      by_test : (b : Bool) → bytes_eq e.name w ≡ b → (find (answers_to w) (names_of es) ≡ None) ⊎ IsFirst → (find (answers_to w) (names_of (e ∷ es)) ≡ None) ⊎ IsFirst
      by_test true same later = inr (hit e.name same _ (entered_found e all.0 ws plain.1))
      by_test false other (inl none) = inl (skip e.name w (names_of es) other ∙ none)
      by_test false other (inr head) = inr head

-- The first of words that `clap` takes is the name that it finds.
pub first_is : (words : List Text) (p : Text × List Row) → ArePlain words → faults_in words ≡ [] → found_in words ≡ Some p
    → (rest : List Text) × (words ≡ p.0 ∷ rest)
first_is [] p plain right is = absurd (empty right)
first_is (w ∷ ws) p plain right is = elim (met_in w ws plain p is entries all_there) [
  | inl none ↦ absurd (stray w ws plain.0 (ap (option_map (λ s. s.0)) none) right)
  | inr head ↦ head
]
