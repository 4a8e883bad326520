-- What `clap` makes of the words of one command, and of the program's, by what `Walking` says of the walk.
use Rattle.std.proofs.Common.{◌≡◌, ◌∙◌, Bool, true, false, true≢false, ◌∷◌, ◌++◌, [], List, Some, None, refl, ap, sym}
use Rattle.std.specs.Prelude.{fold, is_some}
use Rattle.clap.proofs.WalkLemmas.{walk_stopped}
use Rattle.clap.specs.Kinds.{Kinds, or_else}
use Rattle.clap.specs.Faults.{check_fault, defaults_fault, entered_fault, fault_of, level_fault, settle_fault, stray_fault, turn_fault, walk_fault}
use Rattle.clap.specs.Simple.{App, Shape, built, entered, names_of, subcommand_of}
use Rattle.clap.specs.Walk.{Held, Names, Row, Rule, Text, Walk, finished, idle, nothing_held, rows_after, settled, subcommand_met, walk, walk_from, walked, walked_from}
use Rattle.rmi_words.proofs.Walking.{ArePlain, fault_is_fed, fed_all, fed_fault, not_dashes, not_long, not_short, walk_is_fed}
use Rattle.rmi_words.specs.Program.{is_option, program}

-- ---- one command

abbrev pub start : Walk
start = walk_from nothing_held

abbrev pub level_with : Shape → Kinds → Kinds → Bool → Held → Kinds
level_with s fault below has end =
    or_else fault (or_else below (or_else (settle_fault s.rules s.args_override_self end)
    (or_else (defaults_fault (settled s.rules end).rows s.rules) (check_fault s (finished s.rules end) has))))

abbrev pub fed_level : Shape → List Text → Kinds
fed_level s ws = level_with s (fed_fault s start ws) [] false (fed_all s.rules start ws).held

pub level_is_fed : (s : Shape) (ws : List Text) → ArePlain ws → level_fault s [] nothing_held ws false [] ≡ fed_level s ws
level_is_fed s ws p =
    ap (λ (x : Walk). level_with s (walk_fault s [] start ws) [] false x.held) (walk_is_fed s.rules ws start refl refl p)
    ∙ ap (λ (k : Kinds). level_with s k [] false (fed_all s.rules start ws).held) (fault_is_fed s ws start refl refl p)

abbrev pub fed_rows : List Rule → List Text → List Row
fed_rows c ws = finished c (fed_all c start ws).held

pub rows_are_fed : (c : List Rule) (ws : List Text) → ArePlain ws → rows_after c [] ws ≡ fed_rows c ws
rows_are_fed c ws p = ap (λ (x : Walk). finished c x.held) (walk_is_fed c ws start refl refl p)

-- ---- the program

-- the program as it is built
abbrev pub whole : App
whole = built program

abbrev pub names : Names
names = names_of whole

abbrev pub program_level : Walk → Kinds → Kinds
program_level at fault = level_with whole.top fault (entered_fault whole at.stopped) (is_some (entered whole at.stopped)) at.held

program_is : (w : Text) (ws : List Text) → fault_of program (w ∷ ws) ≡ program_level (walk [] names nothing_held (w ∷ ws)) (walk_fault whole.top names start (w ∷ ws))
program_is w ws = refl

-- After a command is met nothing is wrong in the words after it.
stopped_is_right : (s : Shape) (names : Names) (ws : List Text) (at : Walk) (p : Text × List Text) → at.stopped ≡ Some p → walk_fault s names at ws ≡ []
unfolding walk_fault walked
stopped_is_right s names [] at p is = refl
stopped_is_right s names (w ∷ ws) at p is =
    let turn : turn_fault s names at w ≡ [] = rw is refl in
    let next : walked s.rules names at w ≡ record at { stopped = Some (p.0, p.1 ++ w ∷ []) } = ap (λ o. walked_from s.rules names o at w) is in
    ap (λ (k : Kinds). or_else k (walk_fault s names (walked s.rules names at w) ws)) turn
    ∙ stopped_is_right s names ws (walked s.rules names at w) (p.0, p.1 ++ w ∷ []) (ap (λ (x : Walk). x.stopped) next)

abbrev pub is_right : Kinds → Bool
is_right [] = true
is_right (x ∷ xs) = false

or_else_none : (k : Kinds) → or_else k [] ≡ k
or_else_none [] = refl
or_else_none (x ∷ xs) = refl

-- The first word is a command.
module _ (n : Text) (ws : List Text) (met : walked [] names start n ≡ record start { stopped = Some (n, []) }) (turn : turn_fault whole.top names start n ≡ [])
    (is : is_some (entered whole (Some (n, ws))) ≡ true) where
  walk_named : walk [] names nothing_held (n ∷ ws) ≡ record start { stopped = Some (n, ws) }
  walk_named = ap (λ (x : Walk). fold (walked [] names) x ws) met ∙ sym (walk_stopped [] names start n [] ws)

  right_named : walk_fault whole.top names start (n ∷ ws) ≡ []
  unfolding walk_fault
  right_named =
      ap (λ (k : Kinds). or_else k (walk_fault whole.top names (walked [] names start n) ws)) turn
      ∙ ap (λ (x : Walk). walk_fault whole.top names x ws) met
      ∙ stopped_is_right whole.top names ws (record start { stopped = Some (n, []) }) (n, []) refl

  -- What is wrong is wrong in its words.
  pub fault_named : fault_of program (n ∷ ws) ≡ entered_fault whole (Some (n, ws))
  unfolding defaults_fault
  fault_named =
      program_is n ws
      ∙ ap (λ (x : Walk). program_level x (walk_fault whole.top names start (n ∷ ws))) walk_named
      ∙ ap (λ (k : Kinds). program_level (record start { stopped = Some (n, ws) }) k) right_named
      ∙ ap (λ (b : Bool). level_with whole.top [] (entered_fault whole (Some (n, ws))) b nothing_held) is
      ∙ or_else_none (entered_fault whole (Some (n, ws)))

  -- The matches are of its words.
  pub rows_named : subcommand_of program (n ∷ ws) ≡ entered whole (Some (n, ws))
  rows_named = ap (λ (x : Walk). entered whole x.stopped) walk_named

-- The first word is no command.
pub fault_stray : (w : Text) (ws : List Text) → is_option w ≡ false → subcommand_met names idle w ≡ None → fault_of program (w ∷ ws) ≡ [] → ⊥
unfolding walk_fault
fault_stray w ws p none right =
    let turn : turn_fault whole.top names start w ≡ stray_fault whole.top = rw (none, not_dashes w p, not_long w p, not_short w p) refl in
    let wrong : fault_of program (w ∷ ws) ≡ stray_fault whole.top =
    program_is w ws ∙ ap (λ (k : Kinds). program_level (walk [] names nothing_held (w ∷ ws)) (or_else k (walk_fault whole.top names (walked [] names start w) ws))) turn in
    stray_is_wrong (sym wrong ∙ right)
  where
    stray_is_wrong : stray_fault whole.top ≡ [] → ⊥
    stray_is_wrong e = true≢false (ap is_right (sym e))

-- There is no word.
pub fault_empty : fault_of program [] ≡ [] → ⊥
unfolding walk_fault defaults_fault
fault_empty e = true≢false (ap is_right (sym e))
