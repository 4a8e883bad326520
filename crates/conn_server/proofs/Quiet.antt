-- Ticks of quiet seconds, one after another.
use Rattle.std.proofs.Common.{◌≡◌, ◌⊎◌, ℕ, ◌+◌, ◌-◌, ◌^◌, ◌<◌, ◌≤◌, Bool, true, false, List, [], ◌∷◌, ◌++◌, length, refl, ap, sym, ◌∙◌, subst, append_assoc, append-nil, length-append, arith, true≢false}
use Rattle.std.proofs.lemmas.Grind.{flat_map-append}
use Rattle.std.specs.List.{flat_map}
use Rattle.std.specs.Prelude.{min, Option, Some, None, IfSome, MatchBool, MatchOption, is_some}
use Rattle.wire_io.specs.Wire.{Gave, Gave-append, Gave-nothing, next_count}
use Rattle.history.specs.declared.asks.Ask.TheVariants.{Tick}
use Rattle.history.specs.declared.asks.SpaceConfig.{SpaceConfig}
use Rattle.space.specs.Built.{SpaceHistory}
use Rattle.space.specs.Idle.{SomethingEnds, TickChangesNothing, untold_of}
use Rattle.space.specs.declared.asked.Asked.{Asked}
use Rattle.call_dispatch.specs.Acts.{WorkerState, Call, States, Moves, TellsMore, LeadsStates}
use Rattle.call_dispatch.specs.Hands.{IsUntold, IsUncounted}
use Rattle.call_dispatch.proofs.Going.{tells_nothing, leads_nothing}
use Rattle.turn_lock.specs.Handles.{IsRootOf, opening_of, view_of}
use Rattle.turn_lock.specs.NoTick.{NeedsNoTick, NeedsTick}
use Rattle.turn_lock.specs.Rule.{Events, StartsWith, events_by}
use Rattle.turn_lock.specs.declared.handles.Root.{Root}
use Rattle.turn_lock.specs.declared.handles.TurnLock.{TurnLock}
use Rattle.conn_server.specs.Accepts.{TicksOn}
use Rattle.conn_server.specs.Made.{IsTickEnd, told_of}
use Rattle.conn_server.specs.Quiet.{Step, link_tick, quiet_tick, without_tick, missed_tick, link_entry, look_entry, step_entry, look_moment, missed_moment, EachBehind, WasSeen, WasDue, WasIdle, IsStep, IsTick, HasTold, HaveTold, MakesTick, TicksQuietly}
use Rattle.conn_server.specs.Views.{IsTicking}
use Rattle.conn_server.proofs.Histories.{starts_on, starts_self}

-- ---- the course of a server's turns and looks

behind_on : (P : List Asked → Step → Type 0) (made : List Asked) (steps : List Step) (x : Step) → EachBehind P made steps → P (made ++ flat_map step_entry steps) x → EachBehind P made (steps ++ x ∷ [])
behind_on P made [] x each is = (subst (λ (l : List Asked). P l x) (append-nil made) is, tt)
behind_on P made (s ∷ steps) x each is =
    (each.0, behind_on P (made ++ step_entry s) steps x each.1 (subst (λ (l : List Asked). P l x) (sym (append_assoc made (step_entry s) (flat_map step_entry steps))) is))

behind_more : (P Q : List Asked → Step → Type 0) (made : List Asked) (steps : List Step) → ((l : List Asked) (s : Step) → P l s → Q l s) → EachBehind P made steps → EachBehind Q made steps
behind_more P Q made [] more each = tt
behind_more P Q made (s ∷ steps) more each = (more made s each.0, behind_more P Q (made ++ step_entry s) steps more each.1)

-- One more look was made.
looks_on : (steps : List Step) (x : Step) (look : ℕ) → look_moment x ≡ look ∷ [] → length (flat_map look_moment (steps ++ x ∷ [])) ≡ length (flat_map look_moment steps) + 1
looks_on steps x look is =
    ap length (flat_map-append look_moment steps (x ∷ []) ∙ ap (λ (l : List ℕ). flat_map look_moment steps ++ l) (append-nil (look_moment x) ∙ is)) ∙ length-append (flat_map look_moment steps) (look ∷ [])

-- One more step was made, at which a Tick was refused or not.
missed_on : (steps : List Step) (x : Step) (moments : List ℕ) → missed_moment x ≡ moments → length (flat_map missed_moment (steps ++ x ∷ [])) ≡ length (flat_map missed_moment steps) + length moments
missed_on steps x moments is =
    ap length (flat_map-append missed_moment steps (x ∷ []) ∙ ap (λ (l : List ℕ). flat_map missed_moment steps ++ l) (append-nil (missed_moment x) ∙ is)) ∙ length-append (flat_map missed_moment steps) moments

-- A step of which a list has nothing.
flat_none : {A : Type 0} (of_step : Step → List A) (steps : List Step) (x : Step) → of_step x ≡ [] → flat_map of_step (steps ++ x ∷ []) ≡ flat_map of_step steps
flat_none {A = A} of_step steps x none =
    flat_map-append of_step steps (x ∷ []) ∙ (ap (λ (l : List A). flat_map of_step steps ++ l) (append-nil (of_step x) ∙ none) ∙ append-nil (flat_map of_step steps))

-- ---- what was seen at a moment

due_later : (opening : SpaceHistory) (events events_after : Events) (made : List Asked) (m : ℕ) → ((front : Events) → StartsWith events front → StartsWith events_after front) → WasDue opening events made m → WasDue opening events_after made m
due_later opening events events_after made m begins (seen, was, ends) = (seen, record { begins = begins seen was.begins; own = was.own }, ends)

idle_later : (opening : SpaceHistory) (events events_after : Events) (made : List Asked) (m : ℕ) → ((front : Events) → StartsWith events front → StartsWith events_after front) → WasIdle opening events made m → WasIdle opening events_after made m
idle_later opening events events_after made m begins (seen, was, nothing, told) = (seen, record { begins = begins seen was.begins; own = was.own }, nothing, told)

step_on : (opening : SpaceHistory) (events events_after : Events) → ((front : Events) → StartsWith events front → StartsWith events_after front)
    → (made : List Asked) (s : Step) → IsStep opening events made s → IsStep opening events_after made s
step_on opening events events_after begins made (link_tick e) is = tt
step_on opening events events_after begins made (quiet_tick e) is = (is.0, due_later opening events events_after made e.moment begins is.1)
step_on opening events events_after begins made (without_tick m) is = idle_later opening events events_after made m begins is
step_on opening events events_after begins made (missed_tick m) is = due_later opening events events_after made m begins is

-- What the root with the view v has seen, which knows its own turns by these entries.
seen_now : (lock : TurnLock) (r : Root) (ticks : List Asked) → IsRootOf lock r → IsTicking (view_of r.pass) ticks → WasSeen (opening_of lock) (view_of r.pass).seen ticks (view_of r.pass).seen
seen_now lock r ticks own ticking =
    let v = view_of r.pass in
    let order = own.pass_is.ordered in
    record {
      begins = starts_self v.seen;
      own = (order.tail, order.begins, subst (λ (n : ℕ). events_by n order.tail ≡ v.own) ticking.number order.own ∙ ticking.own);
    }

-- Nothing had ended, by what the root has seen.
pub idle_now : (lock : TurnLock) (r : Root) (ticks : List Asked) (moment : ℕ) → IsRootOf lock r → IsTicking (view_of r.pass) ticks → NeedsNoTick (view_of r.pass) moment → WasIdle (opening_of lock) (view_of r.pass).seen ticks moment
idle_now lock r ticks moment own ticking nothing =
    let seen = (view_of r.pass).seen in (
      seen,
      seen_now lock r ticks own ticking,
      subst (λ (config : SpaceConfig). TickChangesNothing config seen moment) own.pass_is.configured nothing.0,
      subst (λ (config : SpaceConfig). untold_of config seen ≡ []) own.pass_is.configured nothing.1,
    )

-- Something had ended, by what the root has seen, and the root has seen more since.
pub due_then : (lock : TurnLock) (r : Root) (events : Events) (ticks : List Asked) (moment : ℕ) → ((front : Events) → StartsWith (view_of r.pass).seen front → StartsWith events front) → IsRootOf lock r → IsTicking (view_of r.pass) ticks → NeedsTick (view_of r.pass) moment → WasDue (opening_of lock) events ticks moment
due_then lock r events ticks moment begins own ticking needs =
    let seen = (view_of r.pass).seen in
    let Q : SpaceConfig → Type 0 = λ config. SomethingEnds config seen moment ⊎ (0 < length (untold_of config seen)) in
    due_later (opening_of lock) seen events ticks moment begins (seen, seen_now lock r ticks own ticking, subst Q own.pass_is.configured needs)

-- An entry that there is, is a Tick's.
pub tick_there : (entry : Option Asked) → IfSome entry (λ e. e.ask ≡ Tick) → IfSome entry (λ e. IsTickEnd e.end) → IfSome entry IsTick
tick_there None asked end = tt
tick_there (Some e) asked end = (asked, end)

-- ---- what a hand is told

tells_on : (a b c : Option (List Call)) (xs ys : List Call) → TellsMore a xs b → TellsMore b ys c → TellsMore a (xs ++ ys) c
tells_on a b None xs ys first then = tt
tells_on a None (Some c) xs ys first then = absurd then
tells_on None (Some b) (Some c) xs ys first then = absurd first
tells_on (Some a) (Some b) (Some c) xs ys first then = then ∙ (ap (λ l. l ++ ys) first ∙ append_assoc a xs ys)

module _ (moves : States → Call → States → Type 0) where
  moves_on : (a b c : States) (xs ys : List Call) → Moves moves a xs b → Moves moves b ys c → Moves moves a (xs ++ ys) c
  moves_on a b c [] ys first then = let P : States → Type 0 = λ s. Moves moves s ys c in subst P first then
  moves_on a b c (x ∷ xs) ys (mid, one, more) then = (mid, one, moves_on mid b c xs ys more then)

  leads_on : (a b c : Option States) (xs ys : List Call) → LeadsStates moves a xs b → LeadsStates moves b ys c → LeadsStates moves a (xs ++ ys) c
  leads_on a b None xs ys first then = tt
  leads_on a None (Some c) xs ys first then = absurd then
  leads_on None (Some b) (Some c) xs ys first then = absurd first
  leads_on (Some a) (Some b) (Some c) xs ys first then = moves_on a b c xs ys first then

module _ {H : Type 0} (shown : H → WorkerState) (moves : States → Call → States → Type 0) where
  -- A hand that was made was told nothing yet.
  pub told_none : (hand : H) → (shown hand).number ≡ 0 → (shown hand).calls ≡ 0 → IsUntold (shown hand).seen → IsUncounted (shown hand).state → HasTold shown moves [] hand
  told_none hand number uninvoked untold uncounted = record {
    number = number;
    uninvoked = uninvoked;
    seen_before = (shown hand).seen;
    state_before = (shown hand).state;
    untold = untold;
    uncounted = uncounted;
    seen = tells_nothing (shown hand).seen;
    state = leads_nothing moves (shown hand).state;
  }

  told_on : (entries more : List Asked) (a b : H) → HasTold shown moves entries a → TellsMore (shown a).seen (flat_map told_of more) (shown b).seen
      → LeadsStates moves (shown a).state (flat_map told_of more) (shown b).state → (shown b).calls ≡ (shown a).calls → (shown b).number ≡ (shown a).number → HasTold shown moves (entries ++ more) b
  told_on entries more a b t seen state same_calls same_number = record {
    number = same_number ∙ t.number;
    uninvoked = same_calls ∙ t.uninvoked;
    seen_before = t.seen_before;
    state_before = t.state_before;
    untold = t.untold;
    uncounted = t.uncounted;
    seen = subst (λ (l : List Call). TellsMore t.seen_before l (shown b).seen) (sym (flat_map-append told_of entries more))
        (tells_on t.seen_before (shown a).seen (shown b).seen (flat_map told_of entries) (flat_map told_of more) t.seen seen);
    state = subst (λ (l : List Call). LeadsStates moves t.state_before l (shown b).state) (sym (flat_map-append told_of entries more))
        (leads_on moves t.state_before (shown a).state (shown b).state (flat_map told_of entries) (flat_map told_of more) t.state state);
  }

  -- It was told what one Tick withdrew.
  told_one : (entries : List Asked) (e : Asked) (a b : H) → HasTold shown moves entries a → TellsMore (shown a).seen (told_of e) (shown b).seen → LeadsStates moves (shown a).state (told_of e) (shown b).state
      → (shown b).calls ≡ (shown a).calls → (shown b).number ≡ (shown a).number → HasTold shown moves (entries ++ e ∷ []) b
  told_one entries e a b t seen state same_calls same_number =
      let one = sym (append-nil (told_of e)) in
      told_on entries (e ∷ []) a b t (subst (λ (l : List Call). TellsMore (shown a).seen l (shown b).seen) one seen) (subst (λ (l : List Call). LeadsStates moves (shown a).state l (shown b).state) one state) same_calls same_number

  -- It was told nothing more.
  told_same : (entries : List Asked) (a b : H) → HasTold shown moves entries a → TellsMore (shown a).seen [] (shown b).seen → LeadsStates moves (shown a).state [] (shown b).state
      → (shown b).calls ≡ (shown a).calls → (shown b).number ≡ (shown a).number → HasTold shown moves entries b
  told_same entries a b t seen state same_calls same_number =
      subst (λ (l : List Asked). HasTold shown moves l b) (append-nil entries) (told_on entries [] a b t seen state same_calls same_number)

  -- A Tick was made with a hand that knows what the one before it was told, or none was.
  pub makes_tick : {K : Type 0} (value : K → Asked) (moment : ℕ) (entry : Option K) (ticks ticks_after : List Asked) (own : Option H) (a b : H)
      → ((entries : List Asked) → HaveTold shown moves entries own → HasTold shown moves entries a)
      → MatchOption entry (ticks_after ≡ ticks) (λ k. ticks_after ≡ ticks ++ value k ∷ []) → IfSome entry (λ k. IsTick (value k)) → IfSome entry (λ k. (value k).moment ≡ moment)
      → MatchOption entry (TellsMore (shown a).seen [] (shown b).seen) (λ k. TellsMore (shown a).seen (told_of (value k)) (shown b).seen)
      → MatchOption entry (LeadsStates moves (shown a).state [] (shown b).state) (λ k. LeadsStates moves (shown a).state (told_of (value k)) (shown b).state)
      → (shown b).calls ≡ (shown a).calls → (shown b).number ≡ (shown a).number → (made : Bool) → made ≡ is_some entry → MakesTick shown moves moment made ticks ticks_after own (Some b)
  makes_tick value moment None ticks ticks_after own a b has items is_tick at_moment seen state same_calls same_number true made = absurd (true≢false made)
  makes_tick value moment None ticks ticks_after own a b has items is_tick at_moment seen state same_calls same_number false made =
      (items, λ entries told. told_same entries a b (has entries told) seen state same_calls same_number)
  makes_tick value moment (Some k) ticks ticks_after own a b has items is_tick at_moment seen state same_calls same_number true made =
      (value k, is_tick, at_moment, items, λ entries told. told_one entries (value k) a b (has entries told) seen state same_calls same_number)
  makes_tick value moment (Some k) ticks ticks_after own a b has items is_tick at_moment seen state same_calls same_number false made = absurd (true≢false (sym made))

  -- ---- a server's own turns

  -- At first there are none.
  pub quiet_first : (opening : SpaceHistory) (events : Events) (missed : ℕ) (gave : Option (List ℕ)) (quiets : ℕ) (before_links ticks : List Asked) → missed ≡ 0 → before_links ≡ [] → ticks ≡ [] → TicksQuietly shown moves opening events missed gave gave quiets quiets before_links ticks None
  quiet_first opening events missed gave quiets before_links ticks none no_link no_turn = record {
    course = [];
    links = sym no_link;
    made = sym no_turn;
    each = tt;
    told = refl;
    gave = Gave-nothing gave;
    asked = omega arith;
    missed_are = omega (arith, none);
  }

  -- A Tick was made before a link.
  pub quiet_link : (opening : SpaceHistory) (events : Events) (missed : ℕ) (gave_first gave_last : Option (List ℕ)) (quiets_first quiets_last : ℕ) (before_links before_links_after ticks ticks_after : List Asked) (hand : Option H)
      → TicksQuietly shown moves opening events missed gave_first gave_last quiets_first quiets_last before_links ticks hand → TicksOn ticks ticks_after before_links before_links_after
      → TicksQuietly shown moves opening events missed gave_first gave_last quiets_first quiets_last before_links_after ticks_after hand
  quiet_link opening events missed gave_first gave_last quiets_first quiets_last before_links before_links_after ticks ticks_after hand t (tick, one, other) =
      let step = link_tick tick in
      let looks : flat_map look_moment (t.course ++ step ∷ []) ≡ flat_map look_moment t.course = flat_map-append look_moment t.course (step ∷ []) ∙ append-nil (flat_map look_moment t.course) in
      record {
        course = t.course ++ step ∷ [];
        links = flat_map-append link_entry t.course (step ∷ []) ∙ (ap (λ l. l ++ tick ∷ []) t.links ∙ sym other);
        made = flat_map-append step_entry t.course (step ∷ []) ∙ (ap (λ l. l ++ tick ∷ []) t.made ∙ sym one);
        each = behind_on (IsStep opening events) [] t.course step t.each tt;
        told = subst (λ (l : List Asked). HaveTold shown moves l hand) (sym (flat_map-append look_entry t.course (step ∷ []) ∙ append-nil (flat_map look_entry t.course))) t.told;
        gave = subst (λ (l : List ℕ). Gave gave_first gave_last l) (sym looks) t.gave;
        asked = subst (λ (l : List ℕ). quiets_last ≤ quiets_first + length l) (sym looks) t.asked;
        missed_are = t.missed_are ∙ ap (λ (l : List ℕ). min (length l) (2 ^ 64 - 1)) (sym (flat_none missed_moment t.course step refl));
      }

  -- The same lists by other names.
  pub quiet_same : (opening : SpaceHistory) (events : Events) (missed : ℕ) (gave_first gave_last : Option (List ℕ)) (quiets_first quiets_last : ℕ) (before_links before_links_after ticks ticks_after : List Asked) (hand : Option H)
      → TicksQuietly shown moves opening events missed gave_first gave_last quiets_first quiets_last before_links ticks hand → ticks_after ≡ ticks → before_links_after ≡ before_links
      → TicksQuietly shown moves opening events missed gave_first gave_last quiets_first quiets_last before_links_after ticks_after hand
  quiet_same opening events missed gave_first gave_last quiets_first quiets_last before_links before_links_after ticks ticks_after hand t same other =
      subst (λ (x : List Asked × List Asked). TicksQuietly shown moves opening events missed gave_first gave_last quiets_first quiets_last x.0 x.1 hand) (λ i. (sym other i, sym same i)) t

  -- More was seen.
  pub quiet_later : (opening : SpaceHistory) (events events_after : Events) (missed : ℕ) (gave_first gave_last : Option (List ℕ)) (quiets_first quiets_last : ℕ) (before_links ticks : List Asked) (hand : Option H)
      → ((front : Events) → StartsWith events front → StartsWith events_after front)
      → TicksQuietly shown moves opening events missed gave_first gave_last quiets_first quiets_last before_links ticks hand → TicksQuietly shown moves opening events_after missed gave_first gave_last quiets_first quiets_last before_links ticks hand
  quiet_later opening events events_after missed gave_first gave_last quiets_first quiets_last before_links ticks hand begins t = record {
    course = t.course;
    links = t.links;
    made = t.made;
    each = behind_more (IsStep opening events) (IsStep opening events_after) [] t.course (step_on opening events events_after begins) t.each;
    told = t.told;
    gave = t.gave;
    asked = t.asked;
    missed_are = t.missed_are;
  }

  -- The listener gave such an answer less often.
  pub quiet_fewer : (opening : SpaceHistory) (events : Events) (missed : ℕ) (gave_first gave_last : Option (List ℕ)) (quiets_first quiets_last quiets_then : ℕ) (before_links ticks : List Asked) (hand : Option H) → quiets_then ≤ quiets_last
      → TicksQuietly shown moves opening events missed gave_first gave_last quiets_first quiets_last before_links ticks hand → TicksQuietly shown moves opening events missed gave_first gave_last quiets_first quiets_then before_links ticks hand
  quiet_fewer opening events missed gave_first gave_last quiets_first quiets_last quiets_then before_links ticks hand fewer t =
      let asked = t.asked in
      record {
        course = t.course;
        links = t.links;
        made = t.made;
        each = t.each;
        told = t.told;
        gave = t.gave;
        asked = omega (arith, asked, fewer);
        missed_are = t.missed_are;
      }

  -- The lock was closed, and the same is known by other names.
  pub quiet_closed : (opening : SpaceHistory) (seen events : Events) (missed missed_after : ℕ) (gave_first gave_last : Option (List ℕ)) (quiets_first quiets_last : ℕ) (before_links ticks ticks_after : List Asked) (hand hand_after : Option H)
      → StartsWith events seen → missed_after ≡ missed → ticks_after ≡ ticks → hand_after ≡ hand
      → TicksQuietly shown moves opening seen missed gave_first gave_last quiets_first quiets_last before_links ticks hand
      → TicksQuietly shown moves opening events missed_after gave_first gave_last quiets_first quiets_last before_links ticks_after hand_after
  quiet_closed opening seen events missed missed_after gave_first gave_last quiets_first quiets_last before_links ticks ticks_after hand hand_after more same_missed same same_hand t =
      let later = quiet_later opening seen events missed gave_first gave_last quiets_first quiets_last before_links ticks hand (λ front begins. starts_on events seen front more begins) t in
      subst (λ (x : List Asked × Option H × ℕ). TicksQuietly shown moves opening events x.2 gave_first gave_last quiets_first quiets_last before_links x.0 x.1) (λ i. (sym same i, sym same_hand i, sym same_missed i)) later

  -- A look was made without a Tick.
  looked : (opening : SpaceHistory) (events events_after : Events) (missed missed_after more : ℕ) (gave_first gave_last gave_then : Option (List ℕ)) (quiets_first quiets_last : ℕ) (look : ℕ) (before_links ticks ticks_after : List Asked) (own own_after : Option H) (step : Step)
      → ((front : Events) → StartsWith events front → StartsWith events_after front) → link_entry step ≡ [] → step_entry step ≡ [] → look_entry step ≡ [] → look_moment step ≡ look ∷ [] → length (missed_moment step) ≡ more
      → IsStep opening events_after ticks step → missed_after ≡ min (missed + more) (2 ^ 64 - 1) → Gave gave_last gave_then (look ∷ []) → ticks_after ≡ ticks
      → ((entries : List Asked) → HaveTold shown moves entries own → HaveTold shown moves entries own_after)
      → TicksQuietly shown moves opening events missed gave_first gave_last quiets_first quiets_last before_links ticks own
      → TicksQuietly shown moves opening events_after missed_after gave_first gave_then quiets_first (quiets_last + 1) before_links ticks_after own_after
  looked opening events events_after missed missed_after more gave_first gave_last gave_then quiets_first quiets_last look before_links ticks ticks_after own own_after step begins no_link no_turn no_look at_look count is counted gave same has t =
      let each = behind_more (IsStep opening events) (IsStep opening events_after) [] t.course (step_on opening events events_after begins) t.each in
      let looks : length (flat_map look_moment (t.course ++ step ∷ [])) ≡ length (flat_map look_moment t.course) + 1 = looks_on t.course step look at_look in
      let moments : flat_map look_moment (t.course ++ step ∷ []) ≡ flat_map look_moment t.course ++ look ∷ [] =
      flat_map-append look_moment t.course (step ∷ []) ∙ ap (λ (l : List ℕ). flat_map look_moment t.course ++ l) (append-nil (look_moment step) ∙ at_look) in
      let refused : length (flat_map missed_moment (t.course ++ step ∷ [])) ≡ length (flat_map missed_moment t.course) + length (missed_moment step) = missed_on t.course step (missed_moment step) refl in
      let asked = t.asked in
      let before = t.missed_are in
      record {
        course = t.course ++ step ∷ [];
        links = flat_none link_entry t.course step no_link ∙ t.links;
        made = flat_none step_entry t.course step no_turn ∙ (t.made ∙ sym same);
        each = behind_on (IsStep opening events_after) [] t.course step each (subst (λ (l : List Asked). IsStep opening events_after l step) (sym t.made) is);
        told = has _ (subst (λ (l : List Asked). HaveTold shown moves l own) (sym (flat_none look_entry t.course step no_look)) t.told);
        gave = subst (λ (l : List ℕ). Gave gave_first gave_then l) (sym moments) (Gave-append gave_first gave_last gave_then (flat_map look_moment t.course) (look ∷ []) t.gave gave);
        asked = omega (arith, asked, looks);
        missed_are = omega (arith, before, counted, refused, count);
      }

  -- No Tick was due at a look.
  pub quiet_idle : (opening : SpaceHistory) (events events_after : Events) (missed : ℕ) (gave_first gave_last gave_then : Option (List ℕ)) (quiets_first quiets_last : ℕ) (look : ℕ) (before_links ticks : List Asked) (own : Option H)
      → ((front : Events) → StartsWith events front → StartsWith events_after front) → WasIdle opening events_after ticks look → Gave gave_last gave_then (look ∷ [])
      → TicksQuietly shown moves opening events missed gave_first gave_last quiets_first quiets_last before_links ticks own
      → TicksQuietly shown moves opening events_after missed gave_first gave_then quiets_first (quiets_last + 1) before_links ticks own
  quiet_idle opening events events_after missed gave_first gave_last gave_then quiets_first quiets_last look before_links ticks own begins idle gave t =
      let few = t.missed_are in
      looked opening events events_after missed missed 0 gave_first gave_last gave_then quiets_first quiets_last look before_links ticks ticks own own (without_tick look) begins refl refl refl refl refl idle
      (omega (arith, few)) gave refl (λ entries told. told) t

  -- A Tick was due at a look, and was made; or it was refused, and the look is counted.
  pub quiet_due : (opening : SpaceHistory) (events events_after : Events) (missed missed_after : ℕ) (gave_first gave_last gave_then : Option (List ℕ)) (quiets_first quiets_last : ℕ) (look : ℕ) (before_links ticks ticks_after : List Asked) (own own_after : Option H)
      → ((front : Events) → StartsWith events front → StartsWith events_after front) → WasDue opening events_after ticks look → Gave gave_last gave_then (look ∷ [])
      → (made : Bool) → MakesTick shown moves look made ticks ticks_after own own_after → MatchBool made (missed_after ≡ missed) (missed_after ≡ next_count missed)
      → TicksQuietly shown moves opening events missed gave_first gave_last quiets_first quiets_last before_links ticks own
      → TicksQuietly shown moves opening events_after missed_after gave_first gave_then quiets_first (quiets_last + 1) before_links ticks_after own_after
  quiet_due opening events events_after missed missed_after gave_first gave_last gave_then quiets_first quiets_last look before_links ticks ticks_after own own_after begins due gave false none counted t =
      looked opening events events_after missed missed_after 1 gave_first gave_last gave_then quiets_first quiets_last look before_links ticks ticks_after own own_after (missed_tick look) begins refl refl refl refl refl due
      counted gave none.0 none.1 t
  quiet_due opening events events_after missed missed_after gave_first gave_last gave_then quiets_first quiets_last look before_links ticks ticks_after own own_after begins due gave true made counted t =
      let (e, is_tick, at_look, longer, told) = made in
      let step = quiet_tick e in
      let due_here : WasDue opening events_after ticks e.moment = subst (λ (m : ℕ). WasDue opening events_after ticks m) (sym at_look) due in
      let each = behind_more (IsStep opening events) (IsStep opening events_after) [] t.course (step_on opening events events_after begins) t.each in
      let here = subst (λ (l : List Asked). WasDue opening events_after l e.moment) (sym t.made) due_here in
      let looks : length (flat_map look_moment (t.course ++ step ∷ [])) ≡ length (flat_map look_moment t.course) + 1 = looks_on t.course step e.moment refl in
      let asked = t.asked in
      record {
        course = t.course ++ step ∷ [];
        links = flat_none link_entry t.course step refl ∙ t.links;
        made = flat_map-append step_entry t.course (step ∷ []) ∙ (ap (λ l. l ++ e ∷ []) t.made ∙ sym longer);
        each = behind_on (IsStep opening events_after) [] t.course step each (is_tick, here);
        told = subst (λ (l : List Asked). HaveTold shown moves l own_after) (sym (flat_map-append look_entry t.course (step ∷ []))) (told (flat_map look_entry t.course) t.told);
        gave = subst (λ (l : List ℕ). Gave gave_first gave_then l) (ap (λ m. flat_map look_moment t.course ++ m ∷ []) (sym at_look) ∙ sym (flat_map-append look_moment t.course (step ∷ [])))
            (Gave-append gave_first gave_last gave_then (flat_map look_moment t.course) (look ∷ []) t.gave gave);
        asked = omega (arith, asked, looks);
        missed_are = counted ∙ (t.missed_are ∙ ap (λ (l : List ℕ). min (length l) (2 ^ 64 - 1)) (sym (flat_none missed_moment t.course step refl)));
      }
