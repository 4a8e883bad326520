-- Lines, by their words.
use Rattle.std.proofs.Common.{◌≡◌, ℕ, List, [], ◌∷◌, ap, sym, subst, ◌∙◌, arith}
use Rattle.std.specs.List.{join_with_byte}
use Rattle.object_ids.specs.declared.ids.Uid.{Uid}
use Rattle.history.specs.declared.asks.SpaceConfig.{SpaceConfig}
use Rattle.history.specs.declared.asks.Event.{Event}
use Rattle.journal.specs.Parts.{parts}
use Rattle.journal.specs.Grammar.{EventWords, SpellsEvent, ConfigWords, SpellsConfig}
use Rattle.journal.proofs.Splitting.{parts_join, join_parts}
use Rattle.journal.proofs.Graphic.{AreGraphic, event_words, config_words, words_lack}

-- Words that are so, joined by blanks, are split into these words.
line_parts : (Spelled : List (List ℕ) → Type 0) → AreGraphic Spelled → (Spelled [] → ⊥) → (words : List (List ℕ)) (line : List ℕ)
    → Spelled words → line ≡ join_with_byte 32 words → parts 32 line ≡ words
line_parts Spelled graphic some [] line spelled is = absurd (some spelled)
line_parts Spelled graphic some (word ∷ words) line spelled is =
    ap (parts 32) is ∙ parts_join 32 word words (words_lack 32 (omega arith) (word ∷ words) (graphic.within (word ∷ words) spelled))

pub event_to_parts : (space : Uid) (e : Event) (line : List ℕ) → SpellsEvent space e line → EventWords space e (parts 32 line)
event_to_parts space e line (words, spelled, is) =
    subst (EventWords space e) (sym (line_parts (EventWords space e) (event_words space e) (λ none. none) words line spelled is)) spelled

pub event_from_parts : (space : Uid) (e : Event) (line : List ℕ) → EventWords space e (parts 32 line) → SpellsEvent space e line
event_from_parts space e line spelled = (parts 32 line, spelled, join_parts 32 line)

pub config_to_parts : (config : SpaceConfig) (line : List ℕ) → SpellsConfig config line → ConfigWords config (parts 32 line)
config_to_parts config line (words, spelled, is) =
    subst (ConfigWords config) (sym (line_parts (ConfigWords config) (config_words config) (λ none. none.2) words line spelled is)) spelled

pub config_from_parts : (config : SpaceConfig) (line : List ℕ) → ConfigWords config (parts 32 line) → SpellsConfig config line
config_from_parts config line spelled = (parts 32 line, spelled, join_parts 32 line)
