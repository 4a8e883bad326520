-- Reading to the end of the input.
use Rattle.std.proofs.Common.{◌≡◌, ℕ, ◌+◌, ◌-◌, ◌≤◌, ◌<◌, true, false, List, [], ◌∷◌, ◌++◌, length, take, drop, Option, Some, Result, Ok, Err, IfOk, refl, sym, ap, subst, ◌∙◌, arith, append-nil}
use Rattle.std.specs.Prelude.{IsErrAnd, IfErr}
use Rattle.std.proofs.lemmas.List.{take_all, drop_all, length-take-le, length-drop}
use Rattle.class_desc.specs.declared.slot.Slot.{Slot}
use Rattle.class_desc.specs.declared.slot.Item.{Item}
use Rattle.wire_io.specs.Wire.{ReadHalf, NothingLeft}
use Rattle.wire_io.specs.Pulled.{PullState, pull_state, Takes}
use Rattle.wire_io.proofs.Pulling.{takes_nothing, takes_more, takes_stop}
use Rattle.ser_values.specs.declared.graph.Graph.{Graph}
use Rattle.ser_values.specs.declared.node.Node.{Node}
use Rattle.ser_values.specs.declared.node.SlotPlace.TheVariants as places
use Rattle.ser_values.specs.Numbered.{IsGraph}
use Rattle.stream_grammar.specs.Reading.{◌>>=◌, Fault, FaultKind, short, bad, too_many, too_deep, Progress, Step, magic_at, blocks_at, items_at, slot_at}
use Rattle.ser_read.specs.declared.fault.StreamFault.{StreamFault}
use Rattle.ser_read.specs.declared.fault.StreamFault.TheVariants.{Bad, TooLarge, Truncated, ReadFault}
use Rattle.ser_read.specs.declared.fault.StreamFault.TheVariants as faults
use Rattle.ser_read.specs.declared.fault.Large.TheVariants.{Bytes, Nodes, Depth}
use Rattle.wire_io.specs.declared.pull.Pull.{Pull}
use Rattle.ser_read.specs.Here.{kind_of, Caused, IsBad, Fails, Gives, Reads, Breaks, fault_after, env_at, coming_at, env, coming, IsTold}
use Rattle.ser_read.specs.Whole.{nothing_read, stream_at, going_on, to_end, ReadsAll, BreaksWhole, NoCode, TakesStream, AnswersGraph}
use Rattle.ser_read.proofs.Pulling.{byte_ends}
use Rattle.ser_read.proofs.Bytes.{ok_is}
use Rattle.ser_read.proofs.Steps.{bytes_more, leads_read, fails_outside}
use Rattle.ser_read.proofs.Breaking.{breaks_as, breaks_two, first, all_told, breaks_told, breaks_caused}
use Rattle.ser_read.proofs.Blocks.{Items, Slack, slack_leads, added_all}
use Rattle.stream_grammar.proofs.Sound.{Answer}
use Rattle.ser_read.proofs.Streams.{stream_at_sound, graph_at}

-- ---- up to the end

pub to_end_err : {Y : Type 0} (e : StreamFault) (r : Result Y Fault) (f : Fault) → r ≡ Err f → to_end e r ≡ Err f
to_end_err (Bad kind at) r f h = rw h refl
to_end_err (TooLarge what at) r f h = rw h refl
to_end_err (Truncated at) r f h = h
to_end_err ReadFault r f h = rw h refl
to_end_err faults.OutOfMemory r f h = rw h refl

to_end_map : {X Y : Type 0} (after : StreamFault) (r : Result X Fault) (f : X → Y) → to_end after (r >>= λ x. Ok (f x)) ≡ (to_end after r >>= λ x. Ok (f x))
to_end_map (Bad kind at) (Ok x) f = refl
to_end_map (TooLarge what at) (Ok x) f = refl
to_end_map (Truncated at) (Ok x) f = refl
to_end_map ReadFault (Ok x) f = refl
to_end_map faults.OutOfMemory (Ok x) f = refl
to_end_map (Bad kind at) (Err e) f = refl
to_end_map (TooLarge what at) (Err e) f = refl
to_end_map (Truncated at) (Err e) f = refl
to_end_map ReadFault (Err e) f = refl
to_end_map faults.OutOfMemory (Err e) f = refl

abbrev given : {Y : Type 0} → Y → Result Y Fault
given y = Ok y

-- a fault that is said of the bytes
wrong : {Y : Type 0} (r : Result Y Fault) (kind : FaultKind) (at : ℕ) → going_on r ≡ Err (bad kind at) → r ≡ Err (bad kind at)
wrong (Ok x) kind at h = absurd cc
wrong (Err f) kind at h = h

many : {Y : Type 0} (r : Result Y Fault) (at : ℕ) → going_on r ≡ Err (too_many at) → r ≡ Err (too_many at)
many (Ok x) at h = absurd cc
many (Err f) at h = h

deep : {Y : Type 0} (r : Result Y Fault) (at : ℕ) → going_on r ≡ Err (too_deep at) → r ≡ Err (too_deep at)
deep (Ok x) at h = absurd cc
deep (Err f) at h = h

fails_to_end : {Y : Type 0} (after e : StreamFault) (r : Result Y Fault) → Fails after e (to_end e r) → Fails after e (to_end after r)
fails_to_end after (Bad kind at) r h = (to_end_err after r _ (wrong r (kind_of kind) at h.0), h.1)
fails_to_end after (TooLarge Nodes at) r h = to_end_err after r _ (many r at h)
fails_to_end after (TooLarge Depth at) r h = to_end_err after r _ (deep r at h)
fails_to_end after (TooLarge Bytes at) r h = (subst (λ a. to_end a r ≡ Err short) (sym h.1) h.0, h.1)
fails_to_end after (Truncated at) r h = (subst (λ a. to_end a r ≡ Err short) (sym h.1) h.0, h.1)
fails_to_end after ReadFault r h = tt
fails_to_end after faults.OutOfMemory r h = tt

-- ---- where reading ends at a fault

pub breaks_whole : {Y : Type 0} {p q : PullState} {e : StreamFault} {read : ℕ → List ℕ → Result Y Fault} → Breaks p q e read → BreaksWhole p q e read
breaks_whole {Y} {p} {q} {e} {read} h = record { is = breaks_as (λ end bs f here is. to_end_err e (read end bs) f is) h }

pub no_code : {p q m : PullState} {inner : ℕ → Step Slot} {first now : Progress} {is : List Item} (e : StreamFault) → Slack p q inner false first now is → NoCode q m e → BreaksWhole p m e (λ end. items_at end (inner end) false first)
unfolding blocks_at added_all
no_code {p} {q} {m} {inner} {first} (TooLarge Bytes at) s h =
    let k : q.at + 0 ≡ q.at = omega arith in
    let all = rw (append-nil, k) at (s.reads []) in
    record { is = record { is = (q, record { taken = s.taken; takes = s.takes; here = h.0; is = rw all refl }, h.1) } }
no_code ReadFault s h = record { is = breaks_two (slack_leads s) (record { is = (record { taken = []; takes = h.0; here = refl; is = refl }, h.1) }) }
no_code (TooLarge Nodes at) s h = absurd h
no_code (TooLarge Depth at) s h = absurd h
no_code (Bad kind at) s h = absurd h
no_code (Truncated at) s h = absurd h
no_code faults.OutOfMemory s h = absurd h

-- ---- what was taken

pub slack_all : {p q m : PullState} {inner : ℕ → Step Slot} {first now : Progress} {is : List Item}
    → Slack p q inner false first now is → Takes q m [] → NothingLeft m.left → ReadsAll p m (λ end. items_at end (inner end) false first) (is, now, [])
unfolding blocks_at added_all
slack_all {p} {q} {m} {inner} {first} {now} {is} s t nothing = record {
  taken = s.taken;
  bytes = s.bytes;
  takes = takes_stop p q m s.taken s.takes t;
  nothing = nothing;
  is = rw t.at (rw append-nil at (s.reads []));
}

pub then_all : {A Y : Type 0} {p q r : PullState} {first : ℕ → List ℕ → Result A Fault} {mid : List ℕ → A} (k : ℕ → A → Result Y Fault) {y : Y}
    → Reads short p q first mid → ReadsAll q r (λ end bs. k end (mid bs)) y → ReadsAll p r (λ end bs. first end bs >>= k end) y
then_all {A} {Y} {p} {q} {r} {first} {mid} k {y} a b = record {
  taken = a.taken ++ b.taken;
  bytes = bytes_more a.taken b.taken a.bytes b.bytes;
  takes = takes_more p q r a.taken b.taken a.takes b.takes;
  nothing = b.nothing;
  is = rw (rw (← b.takes.at) at (a.is b.taken)) b.is;
}

pub map_all : {X Y : Type 0} {p q : PullState} {read : ℕ → List ℕ → Result X Fault} {x : X} (f : X → Y) → ReadsAll p q read x → ReadsAll p q (λ end bs. read end bs >>= λ x. Ok (f x)) (f x)
map_all f a = record { taken = a.taken; bytes = a.bytes; takes = a.takes; nothing = a.nothing; is = rw a.is refl }

-- ---- a whole stream

abbrev contents : ℕ → List ℕ → Items
contents end bs = items_at end (slot_at end 200 places.Reference []) false nothing_read bs

abbrev graph_in : Items → Result Answer Fault
graph_in r = r >>= λ x. Ok (x.1.nodes, x.0)

stream_is : (after : StreamFault) (end : ℕ) (bs rest : List ℕ) → magic_at end (0xAC ∷ 0xED ∷ 0x00 ∷ 0x05 ∷ []) bs ≡ Ok rest → to_end after (stream_at end bs) ≡ graph_in (to_end after (contents end rest))
unfolding stream_at
stream_is after end bs rest h = rw h (to_end_map after (contents end rest) (λ x. (x.1.nodes, x.0)))

stream_err : (end : ℕ) (bs : List ℕ) (f : Fault) → magic_at end (0xAC ∷ 0xED ∷ 0x00 ∷ 0x05 ∷ []) bs ≡ Err f → stream_at end bs ≡ Err f
unfolding stream_at
stream_err end bs f h = rw h refl

pub magic_breaks : {p q : PullState} {e : StreamFault} → Breaks p q e (λ end. magic_at end (0xAC ∷ 0xED ∷ 0x00 ∷ 0x05 ∷ [])) → BreaksWhole p q e stream_at
unfolding stream_at
magic_breaks h = breaks_whole (first (λ end bs. graph_in (contents end bs)) h)

pub items_break : {p q r : PullState} {e : StreamFault} → Reads short p q (λ end. magic_at end (0xAC ∷ 0xED ∷ 0x00 ∷ 0x05 ∷ [])) (λ rest. rest)
    → BreaksWhole q r e (λ end. items_at end (slot_at end 200 places.Reference []) false nothing_read) → BreaksWhole p r e stream_at
items_break {p} {q} {r} {e} a b = record { is = breaks_two (leads_read (λ end bs. graph_in (to_end e (contents end bs))) a (λ end bs rest here is. stream_is e end bs rest is) (λ end bs here is. to_end_err e (stream_at end bs) short (stream_err end bs short is))) (first (λ end x. Ok (x.1.nodes, x.0)) b.is) }

pub stream_reads : {p q r : PullState} (is : List Item) (later : Progress) → Reads short p q (λ end. magic_at end (0xAC ∷ 0xED ∷ 0x00 ∷ 0x05 ∷ [])) (λ rest. rest)
    → ReadsAll q r (λ end. items_at end (slot_at end 200 places.Reference []) false nothing_read) (is, later, []) → ReadsAll p r stream_at (later.nodes, is)
unfolding stream_at
stream_reads is later a b = then_all (λ end bs. graph_in (contents end bs)) a (map_all (λ x. (x.1.nodes, x.0)) b)

-- ---- what a call that reads so answers

-- what is answered of the bytes before a Pull
abbrev pub Whole : {X : Type 0} → Option (List ℕ) → ℕ → ℕ → (X → Answer) → Result X StreamFault → Type 0
Whole o at stop view result = (env_at o at stop).told ≡ true → Gives (env_at o at stop).after view result (to_end (env_at o at stop).after (stream_at (env_at o at stop).end (coming_at o at stop)))

-- from what a call took
pub whole_of : {S X : Type 0} (half : S → ReadHalf) (p q : Pull S) (view : X → Answer) (result : Result X StreamFault) → q.at ≤ q.stop
    → IfOk result (λ x. ReadsAll (pull_state half p) (pull_state half q) stream_at (view x)) → IfErr result (λ e. BreaksWhole (pull_state half p) (pull_state half q) e stream_at)
    → IsTold half p → Gives (env half p).after view result (to_end (env half p).after (stream_at (env half p).end (coming half p)))
unfolding env coming
whole_of half p q view (Ok x) le a b told =
    let old = pull_state half p in
    let new = pull_state half q in
    let t = all_told old new a.taken (Truncated q.at) a.takes le told (λ known. byte_ends new new (takes_nothing new) a.nothing known) in
    ap (λ e. to_end e (stream_at (env_at old.left old.at old.stop).end (coming_at old.left old.at old.stop))) t.after
    ∙ ap (λ n. stream_at n (coming_at old.left old.at old.stop)) t.end ∙ ap (λ bs. stream_at q.at bs) t.all ∙ a.is
whole_of half p q view (Err e) le a b told =
    let old = pull_state half p in
    fails_to_end (env_at old.left old.at old.stop).after e (stream_at (env_at old.left old.at old.stop).end (coming_at old.left old.at old.stop)) (breaks_told b.is le told)

pub whole_caused : {X : Type 0} (p q : PullState) (view : X → Answer) (result : Result X StreamFault) → IfOk result (λ x. ReadsAll p q stream_at (view x)) → IfErr result (λ e. BreaksWhole p q e stream_at) → Caused p.faults q.faults result
whole_caused p q view (Ok x) a b = a.takes.faults
whole_caused {X} p q view (Err e) a b = breaks_caused X b.is

-- told to their end before the stop
within : {X : Type 0} (o : Option (List ℕ)) (at stop : ℕ) (bytes : List ℕ) (view : X → Answer) (result : Result X StreamFault) → o ≡ Some bytes → length bytes ≤ stop - at → Whole o at stop view result
    → Gives (Truncated (at + length bytes)) view result (stream_at (at + length bytes) bytes)
within o at stop bytes view result h le g =
    let all = subst (λ (o : Option (List ℕ)). Whole o at stop view result) h g refl in
    rw (take_all (stop - at) bytes le, drop_all (stop - at) bytes le) at all

refused : {X Y : Type 0} (after : StreamFault) (view : X → Y) (result : Result X StreamFault) (r : Result Y Fault) → Gives after view result (going_on r) → IsErrAnd result (λ e. Fails after e (going_on r))
refused after view (Ok x) (Ok y) h = absurd cc
refused after view (Ok x) (Err f) h = absurd cc
refused after view (Err e) r h = h

goes_on : (d : List ℕ) (at : ℕ) → 0 < length d → fault_after d at ≡ TooLarge Bytes at
goes_on [] at some = absurd (omega arith)
goes_on (b ∷ d) at some = refl

-- told past the stop
past : {X : Type 0} (o : Option (List ℕ)) (at stop : ℕ) (bytes : List ℕ) (view : X → Answer) (result : Result X StreamFault) → o ≡ Some bytes → at ≤ stop → stop - at < length bytes → Whole o at stop view result
    → IsErrAnd result (λ e. Fails (TooLarge Bytes stop) e (going_on (stream_at stop (take (stop - at) bytes))))
past o at stop bytes view result h le more g =
    let all = subst (λ (o : Option (List ℕ)). Whole o at stop view result) h g refl in
    let ends : at + length (take (stop - at) bytes) ≡ stop = omega (arith, length-take-le (stop - at) bytes (omega arith)) in
    let on : fault_after (drop (stop - at) bytes) stop ≡ TooLarge Bytes stop = goes_on (drop (stop - at) bytes) stop (omega (arith, length-drop (stop - at) bytes)) in
    refused (TooLarge Bytes stop) view result (stream_at stop (take (stop - at) bytes)) (rw (ends, on) at all)

pub gives_within : {S X : Type 0} (half : S → ReadHalf) (p : Pull S) (bytes : List ℕ) (view : X → Answer) (result : Result X StreamFault) → (half p.source.now).left ≡ Some bytes → length bytes ≤ p.stop - p.at
    → (IsTold half p → Gives (env half p).after view result (to_end (env half p).after (stream_at (env half p).end (coming half p)))) → Gives (Truncated (p.at + length bytes)) view result (stream_at (p.at + length bytes) bytes)
unfolding env coming
gives_within half p bytes view result h le g = within (half p.source.now).left p.at p.stop bytes view result h le g

pub gives_past : {S X : Type 0} (half : S → ReadHalf) (p : Pull S) (bytes : List ℕ) (view : X → Answer) (result : Result X StreamFault) → (half p.source.now).left ≡ Some bytes → p.at ≤ p.stop → p.stop - p.at < length bytes
    → (IsTold half p → Gives (env half p).after view result (to_end (env half p).after (stream_at (env half p).end (coming half p)))) → IsErrAnd result (λ e. Fails (TooLarge Bytes p.stop) e (going_on (stream_at p.stop (take (p.stop - p.at) bytes))))
unfolding env coming
gives_past half p bytes view result h le more g = past (half p.source.now).left p.at p.stop bytes view result h le more g

pub takes_stream : {p q : PullState} {nodes : List Node} {items : List Item} → ReadsAll p q stream_at (nodes, items) → TakesStream p q nodes items
takes_stream {p} {q} {nodes} {items} a =
    let s = stream_at_sound q.at a.taken (nodes, items) a.bytes a.is in
    record { taken = a.taken; takes = a.takes; nothing = a.nothing; read = a.is; stream = s; parts = s.few_parts }

pub graph_of : {p q : PullState} {nodes : List Node} {items : List Item} → ReadsAll p q stream_at (nodes, items) → IsGraph nodes items
graph_of {p} {q} {nodes} {items} a = graph_at q.at a.taken (nodes, items) a.bytes a.is

abbrev pub graph_parts : Graph → Answer
graph_parts graph = (graph.nodes, graph.items)

same_parts : (nodes : List Node) (items : List Item) (x : Answer) → given (nodes, items) ≡ given x → (x.0 ≡ nodes) × (x.1 ≡ items)
same_parts nodes items x e = let same : (nodes, items) ≡ x = ok_is (nodes, items) x (given (nodes, items)) refl e in (ap (λ (x : Answer). x.0) (sym same), ap (λ (x : Answer). x.1) (sym same))

never : {x : Answer} {f : Fault} → given x ≡ Err f → ⊥
never e = absurd cc

-- A stream is read, unless the outside fails.
pub is_read : (after : StreamFault) (end : ℕ) (bytes : List ℕ) (nodes : List Node) (items : List Item) (result : Result Graph StreamFault) → stream_at end bytes ≡ Ok (nodes, items)
    → Gives after graph_parts result (stream_at end bytes) → AnswersGraph nodes items result
is_read after end bytes nodes items (Ok graph) e h = same_parts nodes items (graph_parts graph) (sym e ∙ h)
is_read after end bytes nodes items (Err e) is h = fails_outside (λ f. f) IsBad after e (stream_at end bytes) (nodes, items) is (λ kind at g. never (sym is ∙ g.0)) h

pub taken_streams : (p q : PullState) (result : Result Graph StreamFault) → IfOk result (λ graph. ReadsAll p q stream_at (graph.nodes, graph.items)) → IfOk result (λ graph. TakesStream p q graph.nodes graph.items)
taken_streams p q (Ok graph) h = takes_stream h
taken_streams p q (Err e) h = tt

pub whole_raised : {X Y : Type 0} {p q : PullState} {e : StreamFault} {read : ℕ → List ℕ → Result Y Fault} (result : Result X StreamFault) → IsErrAnd result (λ f. f ≡ e) → BreaksWhole p q e read → IfErr result (λ e. BreaksWhole p q e read)
whole_raised (Ok x) is h = absurd is
whole_raised {X} {Y} {p} {q} {e} {read} (Err f) is h = subst (λ g. BreaksWhole p q g read) (sym is) h
