-- What is written is spelled by the grammar, and nothing else is spelled by it.
use Rattle.std.proofs.Common.{◌≡◌, ℕ, ◌^◌, ◌<◌, List, [], ◌∷◌, ◌++◌, refl, ap, sym, ◌∙◌, append_assoc, map, codes, w32, w64}
use Rattle.std.specs.Prelude.{decimal, FitsSigned}
use Rattle.std.specs.Fmt.{signed_decimal}
use Rattle.std.specs.List.{AllByRecursion, AllZip, join_with_byte}
use Rattle.object_ids.specs.declared.ids.Uid.{Uid}
use Rattle.object_ids.specs.declared.ids.ObjId.{ObjId}
use Rattle.history.specs.declared.asks.SpaceConfig.{SpaceConfig}
use Rattle.history.specs.declared.asks.Event.{Event}
use Rattle.history.specs.declared.asks.Ask.{Ask}
use Rattle.history.specs.declared.asks.Ask.TheVariants.{Open, Begin, Finish, Abandon, Dirty, Clean, Ack, Bind, Rebind, Unbind, Lookup, Tick}
use Rattle.history.specs.declared.asks.Ask.TheVariants.{List as ListNames}
use Rattle.history.specs.Texts.{object_text}
use Rattle.journal.specs.Grammar.{SpellsNumber, SpellsObject, SpellsKinds, SpellsObjects, SpellsAsk, SpellsEvent, SpellsConfig}
use Rattle.journal.specs.Written.{list_text, objects_text, ask_words, event_text, config_text, IsObject, AreObjects, AskFits, EventFits, ConfigFits}
use Rattle.journal.proofs.Joined.{object_text_spells}
use Rattle.journal.specs.Putting.{AppendsFront}
use Rattle.journal.proofs.Fronts.{front_first, front_at, front_last, then_more}

-- ---- lists

zipped : {X : Type 0} (Fits : X → Type 0) (Spells : X → List ℕ → Type 0) (text : X → List ℕ) → ((x : X) → Fits x → Spells x (text x))
    → (xs : List X) → AllByRecursion Fits xs → AllZip Spells xs (map text xs)
zipped Fits Spells text one [] fit = tt
zipped Fits Spells text one (x ∷ xs) fit = (one x fit.0, zipped Fits Spells text one xs fit.1)

kinds_spelled : (kinds : List ℕ) → AllByRecursion (λ kind. kind < 2 ^ 32) kinds → SpellsKinds kinds (list_text decimal kinds)
kinds_spelled [] fit = refl
kinds_spelled (kind ∷ kinds) fit =
    (map decimal (kind ∷ kinds), zipped (λ n. n < 2 ^ 32) SpellsNumber decimal (λ n small. (small, refl)) (kind ∷ kinds) fit, refl)

object_spelled : (space : Uid) (object : ObjId) → IsObject object → SpellsObject space object (object_text space object)
object_spelled space object is = object_text_spells space object is.number is.space

objects_spelled : (space : Uid) (objects : List ObjId) → AreObjects objects → SpellsObjects space objects (objects_text space objects)
objects_spelled space [] fit = refl
objects_spelled space (object ∷ objects) fit =
    (map (object_text space) (object ∷ objects), zipped IsObject (SpellsObject space) (object_text space) (object_spelled space) (object ∷ objects) fit, refl)

-- ---- asks

ask_spelled : (space : Uid) (ask : Ask) → AskFits ask → SpellsAsk space ask (ask_words space ask)
ask_spelled space (Open kind pinned) fits = (refl, ((fits, refl), (refl, refl)))
ask_spelled space (Begin object) fits = (refl, (object_spelled space object fits, refl))
ask_spelled space (Finish object made listed uid) fits =
    (refl, (object_spelled space object fits.0, (kinds_spelled made fits.1, (objects_spelled space listed fits.2, ((fits.3, refl), refl)))))
ask_spelled space (Abandon object) fits = (refl, (object_spelled space object fits, refl))
ask_spelled space (Dirty client number asked objects) fits =
    (refl, ((fits.0, refl), ((fits.1, refl), ((fits.2, refl), (objects_spelled space objects fits.3, refl)))))
ask_spelled space (Clean client number objects strong) fits =
    (refl, ((fits.0, refl), ((fits.1, refl), (refl, (objects_spelled space objects fits.2, refl)))))
ask_spelled space (Ack uid) fits = (refl, ((fits, refl), refl))
ask_spelled space (Bind name object) fits = (refl, ((fits.0, refl), (object_spelled space object fits.1, refl)))
ask_spelled space (Rebind name object) fits = (refl, ((fits.0, refl), (object_spelled space object fits.1, refl)))
ask_spelled space (Unbind name) fits = (refl, ((fits, refl), refl))
ask_spelled space (Lookup name uid) fits = (refl, ((fits.0, refl), ((fits.1, refl), refl)))
ask_spelled space ListNames fits = (refl, refl)
ask_spelled space Tick fits = (refl, refl)

-- ---- lines

pub event_spelled : (space : Uid) (event : Event) → EventFits event → SpellsEvent space event (event_text space event)
unfolding event_text
event_spelled space event fits =
    (decimal event.by ∷ decimal event.moment ∷ ask_words space event.ask, ((fits.by, refl), ((fits.moment, refl), ask_spelled space event.ask fits.ask)), refl)

-- The line of an event, number by number.
pub event_text-is : (space : Uid) (event : Event) → event_text space event ≡ decimal event.by ++ 32 ∷ (decimal event.moment ++ 32 ∷ join_with_byte 32 (ask_words space event.ask))
unfolding event_text
event_text-is space event = by_ask space event.ask (decimal event.by) (decimal event.moment)
  where
    by_ask : (space : Uid) (ask : Ask) (by moment : List ℕ) → join_with_byte 32 (by ∷ moment ∷ ask_words space ask) ≡ by ++ 32 ∷ (moment ++ 32 ∷ join_with_byte 32 (ask_words space ask))
    by_ask space Tick by moment = refl
    by_ask space _ by moment = refl

-- What was written of an event, piece by piece.
pub event_written : (space : Uid) (event : Event) (out one two three : List ℕ) → one ≡ out ++ (decimal event.by ++ 32 ∷ []) → two ≡ one ++ (decimal event.moment ++ 32 ∷ [])
    → three ≡ two ++ join_with_byte 32 (ask_words space event.ask) → three ≡ out ++ event_text space event
event_written space event out one two three is_one is_two is_three =
    let words = join_with_byte 32 (ask_words space event.ask) in
    is_three ∙ ap (λ (t : List ℕ). t ++ words) (is_two ∙ ap (λ (t : List ℕ). t ++ (decimal event.moment ++ 32 ∷ [])) is_one)
    ∙ glued out (decimal event.by) (decimal event.moment) words ∙ ap (λ (t : List ℕ). out ++ t) (sym (event_text-is space event))
  where
    glued : (o a b c : List ℕ) → ((o ++ (a ++ 32 ∷ [])) ++ (b ++ 32 ∷ [])) ++ c ≡ o ++ (a ++ 32 ∷ (b ++ 32 ∷ c))
    glued o a b c =
        append_assoc (o ++ (a ++ 32 ∷ [])) (b ++ 32 ∷ []) c ∙ append_assoc o (a ++ 32 ∷ []) ((b ++ 32 ∷ []) ++ c)
        ∙ ap (λ (t : List ℕ). o ++ t) (append_assoc a (32 ∷ []) ((b ++ 32 ∷ []) ++ c)) ∙ ap (λ (t : List ℕ). o ++ (a ++ 32 ∷ t)) (append_assoc b (32 ∷ []) c)

-- What stands of a line where its first number, its second, or what is asked was refused.
pub event_first : (space : Uid) (event : Event) (out new : List ℕ) → AppendsFront out (decimal event.by ++ 32 ∷ []) new → AppendsFront out (event_text space event) new
event_first space event out new stops =
    let after = decimal event.moment ++ 32 ∷ join_with_byte 32 (ask_words space event.ask) in
    front_first out (decimal event.by ++ 32 ∷ []) after new (event_text space event) (event_text-is space event ∙ sym (append_assoc (decimal event.by) (32 ∷ []) after)) stops

in_three : (space : Uid) (event : Event) → event_text space event ≡ (decimal event.by ++ 32 ∷ []) ++ ((decimal event.moment ++ 32 ∷ []) ++ join_with_byte 32 (ask_words space event.ask))
in_three space event =
    let words = join_with_byte 32 (ask_words space event.ask) in
    event_text-is space event ∙ sym (append_assoc (decimal event.by) (32 ∷ []) (decimal event.moment ++ 32 ∷ words))
    ∙ ap (λ (t : List ℕ). (decimal event.by ++ 32 ∷ []) ++ t) (sym (append_assoc (decimal event.moment) (32 ∷ []) words))

pub event_second : (space : Uid) (event : Event) (out one new : List ℕ) → one ≡ out ++ (decimal event.by ++ 32 ∷ []) → AppendsFront one (decimal event.moment ++ 32 ∷ []) new
    → AppendsFront out (event_text space event) new
event_second space event out one new is_one stops =
    front_at out (decimal event.by ++ 32 ∷ []) (decimal event.moment ++ 32 ∷ []) (join_with_byte 32 (ask_words space event.ask)) one new (event_text space event) is_one (in_three space event) stops

pub event_third : (space : Uid) (event : Event) (out one two new : List ℕ) → one ≡ out ++ (decimal event.by ++ 32 ∷ []) → two ≡ one ++ (decimal event.moment ++ 32 ∷ [])
    → AppendsFront two (join_with_byte 32 (ask_words space event.ask)) new → AppendsFront out (event_text space event) new
event_third space event out one two new is_one is_two stops =
    let words = join_with_byte 32 (ask_words space event.ask) in
    front_last out ((decimal event.by ++ 32 ∷ []) ++ (decimal event.moment ++ 32 ∷ [])) words two new (event_text space event)
    (then_more out (decimal event.by ++ 32 ∷ []) one (decimal event.moment ++ 32 ∷ []) two is_one is_two)
    (in_three space event ∙ sym (append_assoc (decimal event.by ++ 32 ∷ []) (decimal event.moment ++ 32 ∷ []) words)) stops

pub config_spelled : (config : SpaceConfig) → FitsSigned w32 config.uid.unique → FitsSigned w64 config.uid.time → ConfigFits config → SpellsConfig config (config_text config)
unfolding config_text
config_spelled config unique time fits = (
  codes "space" ∷ decimal config.lease_ms ∷ decimal config.ack_ms ∷ signed_decimal config.uid.unique ∷ signed_decimal config.uid.time ∷ [],
  (fits.count, fits.stored, (refl, ((fits.some_lease, fits.short_lease, refl), ((fits.some_ack, fits.short_ack, refl), ((unique, refl), ((time, refl), refl)))))),
  refl,
)
