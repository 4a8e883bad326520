-- How many words each command takes, and what is found at their places.
use Rattle.std.proofs.Common.{◌≡◌, ◌≤◌, true≢false, ◌∷◌, [], List, length, codes, refl, ap, sym, arith}
use Rattle.std.specs.Prelude.{slice_get}
use Rattle.clap.specs.Faults.{defaults_fault}
use Rattle.clap.specs.Simple.{Shape, built_leaf, inherited, marked_built, with_leaf_noted}
use Rattle.clap.specs.Kinds.{Kinds}
use Rattle.clap.specs.Walk.{Row, Text, first_of}
use Rattle.rmi_words.proofs.Levels.{fed_level, fed_rows, is_right}
use Rattle.rmi_words.specs.Clients.{named_words, placed_words}
use Rattle.rmi_words.specs.Entries.{Entry, answer_entry, serve_entry, list_entry, lookup_entry, bind_entry, unbind_entry, drill_entry, journal_entry, help_entry}
use Rattle.rmi_words.specs.Program.{app_of_entry, program}

-- A command as it is built in the program.
abbrev pub leaf : Entry → Shape
leaf entry = built_leaf (inherited (with_leaf_noted (marked_built program.top)) (app_of_entry entry).top)

-- what is wrong in so many words of a command
unfoldable pub level_of : Entry → List Text → Kinds
level_of entry ws = fed_level (leaf entry) ws

-- what is found at their places
unfoldable pub rows_of : Entry → List Text → List Row
rows_of entry ws = fed_rows (leaf entry).rules ws

-- ---- a command that takes no words

abbrev pub bare : (name does example : Text) → Entry
bare name does example = record { name = name; words = []; does = does; example = example }

pub bare_fits : (name does example : Text) (ws : List Text) → level_of (bare name does example) ws ≡ [] → (0 ≤ length ws) × (length ws ≤ 0)
unfolding level_of defaults_fault
bare_fits name does example [] ok = (omega arith, omega arith)
bare_fits name does example (a ∷ ws) ok = absurd (true≢false (ap is_right (sym ok)))

pub bare_passes : (name does example : Text) → level_of (bare name does example) [] ≡ []
unfolding level_of defaults_fault
bare_passes name does example = refl

-- ---- answer

pub answer_fits : (ws : List Text) → level_of answer_entry ws ≡ [] → (0 ≤ length ws) × (length ws ≤ 3)
unfolding level_of defaults_fault
answer_fits [] ok = (omega arith, omega arith)
answer_fits (a ∷ []) ok = (omega arith, omega arith)
answer_fits (a ∷ b ∷ []) ok = (omega arith, omega arith)
answer_fits (a ∷ b ∷ c ∷ []) ok = (omega arith, omega arith)
answer_fits (a ∷ b ∷ c ∷ d ∷ ws) ok = absurd (true≢false (ap is_right (sym ok)))

pub answer_passes : (ws : List Text) → 0 ≤ length ws → length ws ≤ 3 → level_of answer_entry ws ≡ []
unfolding level_of defaults_fault
answer_passes [] some few = refl
answer_passes (a ∷ []) some few = refl
answer_passes (a ∷ b ∷ []) some few = refl
answer_passes (a ∷ b ∷ c ∷ []) some few = refl
answer_passes (a ∷ b ∷ c ∷ d ∷ ws) some few = absurd (omega arith)

pub answer_binding : (ws : List Text) → length ws ≤ 3 → first_of (codes "BINDING") (rows_of answer_entry ws) ≡ slice_get ws 0
unfolding rows_of
answer_binding [] few = refl
answer_binding (a ∷ []) few = refl
answer_binding (a ∷ b ∷ []) few = refl
answer_binding (a ∷ b ∷ c ∷ []) few = refl
answer_binding (a ∷ b ∷ c ∷ d ∷ ws) few = absurd (omega arith)

pub answer_lease : (ws : List Text) → length ws ≤ 3 → first_of (codes "LEASE") (rows_of answer_entry ws) ≡ slice_get ws 1
unfolding rows_of
answer_lease [] few = refl
answer_lease (a ∷ []) few = refl
answer_lease (a ∷ b ∷ []) few = refl
answer_lease (a ∷ b ∷ c ∷ []) few = refl
answer_lease (a ∷ b ∷ c ∷ d ∷ ws) few = absurd (omega arith)

pub answer_ack : (ws : List Text) → length ws ≤ 3 → first_of (codes "ACK") (rows_of answer_entry ws) ≡ slice_get ws 2
unfolding rows_of
answer_ack [] few = refl
answer_ack (a ∷ []) few = refl
answer_ack (a ∷ b ∷ []) few = refl
answer_ack (a ∷ b ∷ c ∷ []) few = refl
answer_ack (a ∷ b ∷ c ∷ d ∷ ws) few = absurd (omega arith)

-- ---- serve

pub serve_fits : (ws : List Text) → level_of serve_entry ws ≡ [] → (2 ≤ length ws) × (length ws ≤ 5)
unfolding level_of defaults_fault
serve_fits [] ok = absurd (true≢false (ap is_right (sym ok)))
serve_fits (a ∷ []) ok = absurd (true≢false (ap is_right (sym ok)))
serve_fits (a ∷ b ∷ []) ok = (omega arith, omega arith)
serve_fits (a ∷ b ∷ c ∷ []) ok = (omega arith, omega arith)
serve_fits (a ∷ b ∷ c ∷ d ∷ []) ok = (omega arith, omega arith)
serve_fits (a ∷ b ∷ c ∷ d ∷ e ∷ []) ok = (omega arith, omega arith)
serve_fits (a ∷ b ∷ c ∷ d ∷ e ∷ f ∷ ws) ok = absurd (true≢false (ap is_right (sym ok)))

pub serve_passes : (ws : List Text) → 2 ≤ length ws → length ws ≤ 5 → level_of serve_entry ws ≡ []
unfolding level_of defaults_fault
serve_passes [] some few = absurd (omega arith)
serve_passes (a ∷ []) some few = absurd (omega arith)
serve_passes (a ∷ b ∷ []) some few = refl
serve_passes (a ∷ b ∷ c ∷ []) some few = refl
serve_passes (a ∷ b ∷ c ∷ d ∷ []) some few = refl
serve_passes (a ∷ b ∷ c ∷ d ∷ e ∷ []) some few = refl
serve_passes (a ∷ b ∷ c ∷ d ∷ e ∷ f ∷ ws) some few = absurd (omega arith)

pub serve_port : (ws : List Text) → length ws ≤ 5 → first_of (codes "PORT") (rows_of serve_entry ws) ≡ slice_get ws 0
unfolding rows_of
serve_port [] few = refl
serve_port (a ∷ []) few = refl
serve_port (a ∷ b ∷ []) few = refl
serve_port (a ∷ b ∷ c ∷ []) few = refl
serve_port (a ∷ b ∷ c ∷ d ∷ []) few = refl
serve_port (a ∷ b ∷ c ∷ d ∷ e ∷ []) few = refl
serve_port (a ∷ b ∷ c ∷ d ∷ e ∷ f ∷ ws) few = absurd (omega arith)

pub serve_count : (ws : List Text) → length ws ≤ 5 → first_of (codes "COUNT") (rows_of serve_entry ws) ≡ slice_get ws 1
unfolding rows_of
serve_count [] few = refl
serve_count (a ∷ []) few = refl
serve_count (a ∷ b ∷ []) few = refl
serve_count (a ∷ b ∷ c ∷ []) few = refl
serve_count (a ∷ b ∷ c ∷ d ∷ []) few = refl
serve_count (a ∷ b ∷ c ∷ d ∷ e ∷ []) few = refl
serve_count (a ∷ b ∷ c ∷ d ∷ e ∷ f ∷ ws) few = absurd (omega arith)

pub serve_binding : (ws : List Text) → length ws ≤ 5 → first_of (codes "BINDING") (rows_of serve_entry ws) ≡ slice_get ws 2
unfolding rows_of
serve_binding [] few = refl
serve_binding (a ∷ []) few = refl
serve_binding (a ∷ b ∷ []) few = refl
serve_binding (a ∷ b ∷ c ∷ []) few = refl
serve_binding (a ∷ b ∷ c ∷ d ∷ []) few = refl
serve_binding (a ∷ b ∷ c ∷ d ∷ e ∷ []) few = refl
serve_binding (a ∷ b ∷ c ∷ d ∷ e ∷ f ∷ ws) few = absurd (omega arith)

pub serve_lease : (ws : List Text) → length ws ≤ 5 → first_of (codes "LEASE") (rows_of serve_entry ws) ≡ slice_get ws 3
unfolding rows_of
serve_lease [] few = refl
serve_lease (a ∷ []) few = refl
serve_lease (a ∷ b ∷ []) few = refl
serve_lease (a ∷ b ∷ c ∷ []) few = refl
serve_lease (a ∷ b ∷ c ∷ d ∷ []) few = refl
serve_lease (a ∷ b ∷ c ∷ d ∷ e ∷ []) few = refl
serve_lease (a ∷ b ∷ c ∷ d ∷ e ∷ f ∷ ws) few = absurd (omega arith)

pub serve_ack : (ws : List Text) → length ws ≤ 5 → first_of (codes "ACK") (rows_of serve_entry ws) ≡ slice_get ws 4
unfolding rows_of
serve_ack [] few = refl
serve_ack (a ∷ []) few = refl
serve_ack (a ∷ b ∷ []) few = refl
serve_ack (a ∷ b ∷ c ∷ []) few = refl
serve_ack (a ∷ b ∷ c ∷ d ∷ []) few = refl
serve_ack (a ∷ b ∷ c ∷ d ∷ e ∷ []) few = refl
serve_ack (a ∷ b ∷ c ∷ d ∷ e ∷ f ∷ ws) few = absurd (omega arith)

-- ---- list

pub list_fits : (ws : List Text) → level_of list_entry ws ≡ [] → (2 ≤ length ws) × (length ws ≤ 2)
unfolding level_of defaults_fault
list_fits [] ok = absurd (true≢false (ap is_right (sym ok)))
list_fits (a ∷ []) ok = absurd (true≢false (ap is_right (sym ok)))
list_fits (a ∷ b ∷ []) ok = (omega arith, omega arith)
list_fits (a ∷ b ∷ c ∷ ws) ok = absurd (true≢false (ap is_right (sym ok)))

pub list_passes : (ws : List Text) → 2 ≤ length ws → length ws ≤ 2 → level_of list_entry ws ≡ []
unfolding level_of defaults_fault
list_passes [] some few = absurd (omega arith)
list_passes (a ∷ []) some few = absurd (omega arith)
list_passes (a ∷ b ∷ []) some few = refl
list_passes (a ∷ b ∷ c ∷ ws) some few = absurd (omega arith)

pub list_words : (ws : List Text) → length ws ≤ 2 → named_words (λ name. first_of name (rows_of list_entry ws)) ≡ placed_words ws
unfolding rows_of
list_words [] few = refl
list_words (a ∷ []) few = refl
list_words (a ∷ b ∷ []) few = refl
list_words (a ∷ b ∷ c ∷ ws) few = absurd (omega arith)

-- ---- lookup

pub lookup_fits : (ws : List Text) → level_of lookup_entry ws ≡ [] → (3 ≤ length ws) × (length ws ≤ 3)
unfolding level_of defaults_fault
lookup_fits [] ok = absurd (true≢false (ap is_right (sym ok)))
lookup_fits (a ∷ []) ok = absurd (true≢false (ap is_right (sym ok)))
lookup_fits (a ∷ b ∷ []) ok = absurd (true≢false (ap is_right (sym ok)))
lookup_fits (a ∷ b ∷ c ∷ []) ok = (omega arith, omega arith)
lookup_fits (a ∷ b ∷ c ∷ d ∷ ws) ok = absurd (true≢false (ap is_right (sym ok)))

pub lookup_passes : (ws : List Text) → 3 ≤ length ws → length ws ≤ 3 → level_of lookup_entry ws ≡ []
unfolding level_of defaults_fault
lookup_passes [] some few = absurd (omega arith)
lookup_passes (a ∷ []) some few = absurd (omega arith)
lookup_passes (a ∷ b ∷ []) some few = absurd (omega arith)
lookup_passes (a ∷ b ∷ c ∷ []) some few = refl
lookup_passes (a ∷ b ∷ c ∷ d ∷ ws) some few = absurd (omega arith)

pub lookup_words : (ws : List Text) → length ws ≤ 3 → named_words (λ name. first_of name (rows_of lookup_entry ws)) ≡ placed_words ws
unfolding rows_of
lookup_words [] few = refl
lookup_words (a ∷ []) few = refl
lookup_words (a ∷ b ∷ []) few = refl
lookup_words (a ∷ b ∷ c ∷ []) few = refl
lookup_words (a ∷ b ∷ c ∷ d ∷ ws) few = absurd (omega arith)

-- ---- bind

pub bind_fits : (ws : List Text) → level_of bind_entry ws ≡ [] → (4 ≤ length ws) × (length ws ≤ 4)
unfolding level_of defaults_fault
bind_fits [] ok = absurd (true≢false (ap is_right (sym ok)))
bind_fits (a ∷ []) ok = absurd (true≢false (ap is_right (sym ok)))
bind_fits (a ∷ b ∷ []) ok = absurd (true≢false (ap is_right (sym ok)))
bind_fits (a ∷ b ∷ c ∷ []) ok = absurd (true≢false (ap is_right (sym ok)))
bind_fits (a ∷ b ∷ c ∷ d ∷ []) ok = (omega arith, omega arith)
bind_fits (a ∷ b ∷ c ∷ d ∷ e ∷ ws) ok = absurd (true≢false (ap is_right (sym ok)))

pub bind_passes : (ws : List Text) → 4 ≤ length ws → length ws ≤ 4 → level_of bind_entry ws ≡ []
unfolding level_of defaults_fault
bind_passes [] some few = absurd (omega arith)
bind_passes (a ∷ []) some few = absurd (omega arith)
bind_passes (a ∷ b ∷ []) some few = absurd (omega arith)
bind_passes (a ∷ b ∷ c ∷ []) some few = absurd (omega arith)
bind_passes (a ∷ b ∷ c ∷ d ∷ []) some few = refl
bind_passes (a ∷ b ∷ c ∷ d ∷ e ∷ ws) some few = absurd (omega arith)

pub bind_words : (ws : List Text) → length ws ≤ 4 → named_words (λ name. first_of name (rows_of bind_entry ws)) ≡ placed_words ws
unfolding rows_of
bind_words [] few = refl
bind_words (a ∷ []) few = refl
bind_words (a ∷ b ∷ []) few = refl
bind_words (a ∷ b ∷ c ∷ []) few = refl
bind_words (a ∷ b ∷ c ∷ d ∷ []) few = refl
bind_words (a ∷ b ∷ c ∷ d ∷ e ∷ ws) few = absurd (omega arith)

-- ---- unbind

pub unbind_fits : (ws : List Text) → level_of unbind_entry ws ≡ [] → (3 ≤ length ws) × (length ws ≤ 3)
unfolding level_of defaults_fault
unbind_fits [] ok = absurd (true≢false (ap is_right (sym ok)))
unbind_fits (a ∷ []) ok = absurd (true≢false (ap is_right (sym ok)))
unbind_fits (a ∷ b ∷ []) ok = absurd (true≢false (ap is_right (sym ok)))
unbind_fits (a ∷ b ∷ c ∷ []) ok = (omega arith, omega arith)
unbind_fits (a ∷ b ∷ c ∷ d ∷ ws) ok = absurd (true≢false (ap is_right (sym ok)))

pub unbind_passes : (ws : List Text) → 3 ≤ length ws → length ws ≤ 3 → level_of unbind_entry ws ≡ []
unfolding level_of defaults_fault
unbind_passes [] some few = absurd (omega arith)
unbind_passes (a ∷ []) some few = absurd (omega arith)
unbind_passes (a ∷ b ∷ []) some few = absurd (omega arith)
unbind_passes (a ∷ b ∷ c ∷ []) some few = refl
unbind_passes (a ∷ b ∷ c ∷ d ∷ ws) some few = absurd (omega arith)

pub unbind_words : (ws : List Text) → length ws ≤ 3 → named_words (λ name. first_of name (rows_of unbind_entry ws)) ≡ placed_words ws
unfolding rows_of
unbind_words [] few = refl
unbind_words (a ∷ []) few = refl
unbind_words (a ∷ b ∷ []) few = refl
unbind_words (a ∷ b ∷ c ∷ []) few = refl
unbind_words (a ∷ b ∷ c ∷ d ∷ ws) few = absurd (omega arith)

-- ---- drill

pub drill_fits : (ws : List Text) → level_of drill_entry ws ≡ [] → (2 ≤ length ws) × (length ws ≤ 2)
unfolding level_of defaults_fault
drill_fits [] ok = absurd (true≢false (ap is_right (sym ok)))
drill_fits (a ∷ []) ok = absurd (true≢false (ap is_right (sym ok)))
drill_fits (a ∷ b ∷ []) ok = (omega arith, omega arith)
drill_fits (a ∷ b ∷ c ∷ ws) ok = absurd (true≢false (ap is_right (sym ok)))

pub drill_passes : (ws : List Text) → 2 ≤ length ws → length ws ≤ 2 → level_of drill_entry ws ≡ []
unfolding level_of defaults_fault
drill_passes [] some few = absurd (omega arith)
drill_passes (a ∷ []) some few = absurd (omega arith)
drill_passes (a ∷ b ∷ []) some few = refl
drill_passes (a ∷ b ∷ c ∷ ws) some few = absurd (omega arith)

pub drill_seed : (ws : List Text) → length ws ≤ 2 → first_of (codes "SEED") (rows_of drill_entry ws) ≡ slice_get ws 0
unfolding rows_of
drill_seed [] few = refl
drill_seed (a ∷ []) few = refl
drill_seed (a ∷ b ∷ []) few = refl
drill_seed (a ∷ b ∷ c ∷ ws) few = absurd (omega arith)

pub drill_n : (ws : List Text) → length ws ≤ 2 → first_of (codes "N") (rows_of drill_entry ws) ≡ slice_get ws 1
unfolding rows_of
drill_n [] few = refl
drill_n (a ∷ []) few = refl
drill_n (a ∷ b ∷ []) few = refl
drill_n (a ∷ b ∷ c ∷ ws) few = absurd (omega arith)

-- ---- journal

pub journal_fits : (ws : List Text) → level_of journal_entry ws ≡ [] → (2 ≤ length ws) × (length ws ≤ 2)
unfolding level_of defaults_fault
journal_fits [] ok = absurd (true≢false (ap is_right (sym ok)))
journal_fits (a ∷ []) ok = absurd (true≢false (ap is_right (sym ok)))
journal_fits (a ∷ b ∷ []) ok = (omega arith, omega arith)
journal_fits (a ∷ b ∷ c ∷ ws) ok = absurd (true≢false (ap is_right (sym ok)))

pub journal_passes : (ws : List Text) → 2 ≤ length ws → length ws ≤ 2 → level_of journal_entry ws ≡ []
unfolding level_of defaults_fault
journal_passes [] some few = absurd (omega arith)
journal_passes (a ∷ []) some few = absurd (omega arith)
journal_passes (a ∷ b ∷ []) some few = refl
journal_passes (a ∷ b ∷ c ∷ ws) some few = absurd (omega arith)

pub journal_seed : (ws : List Text) → length ws ≤ 2 → first_of (codes "SEED") (rows_of journal_entry ws) ≡ slice_get ws 0
unfolding rows_of
journal_seed [] few = refl
journal_seed (a ∷ []) few = refl
journal_seed (a ∷ b ∷ []) few = refl
journal_seed (a ∷ b ∷ c ∷ ws) few = absurd (omega arith)

pub journal_n : (ws : List Text) → length ws ≤ 2 → first_of (codes "N") (rows_of journal_entry ws) ≡ slice_get ws 1
unfolding rows_of
journal_n [] few = refl
journal_n (a ∷ []) few = refl
journal_n (a ∷ b ∷ []) few = refl
journal_n (a ∷ b ∷ c ∷ ws) few = absurd (omega arith)

-- ---- help

pub help_fits : (ws : List Text) → level_of help_entry ws ≡ [] → (0 ≤ length ws) × (length ws ≤ 1)
unfolding level_of defaults_fault
help_fits [] ok = (omega arith, omega arith)
help_fits (a ∷ []) ok = (omega arith, omega arith)
help_fits (a ∷ b ∷ ws) ok = absurd (true≢false (ap is_right (sym ok)))

pub help_passes : (ws : List Text) → 0 ≤ length ws → length ws ≤ 1 → level_of help_entry ws ≡ []
unfolding level_of defaults_fault
help_passes [] some few = refl
help_passes (a ∷ []) some few = refl
help_passes (a ∷ b ∷ ws) some few = absurd (omega arith)

pub help_command : (ws : List Text) → length ws ≤ 1 → first_of (codes "COMMAND") (rows_of help_entry ws) ≡ slice_get ws 0
unfolding rows_of
help_command [] few = refl
help_command (a ∷ []) few = refl
help_command (a ∷ b ∷ ws) few = absurd (omega arith)
