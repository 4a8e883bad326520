-- Arguments that are read one after the other.
use Rattle.std.proofs.Common.{◌≡◌, ℕ, ◌+◌, ◌<◌, ◌≤◌, List, [], ◌∷◌, ◌++◌, length, drop, get_or, drop-cons, length-drop, Ok, Err, refl, sym, ap, ◌∙◌, append_assoc, append-nil, arith, add-one}
use Rattle.std.proofs.lemmas.List.{nil_from_length}
use Rattle.wire_io.specs.Pulled.{PullState}
use Rattle.class_desc.specs.declared.field.TypeCode.{TypeCode}
use Rattle.class_desc.specs.declared.field.TypeCode.TheVariants as codes
use Rattle.class_desc.specs.declared.slot.Slot.{Slot}
use Rattle.class_desc.specs.declared.slot.Item.{Item}
use Rattle.class_desc.specs.declared.slot.Item.TheVariants as items
use Rattle.stream_grammar.specs.Reading.{short}
use Rattle.ser_read.specs.declared.fault.StreamFault.{StreamFault}
use Rattle.ser_read.specs.declared.serving.Want.TheVariants as wanted
use Rattle.ser_read.specs.Here.{Reads}
use Rattle.ser_read.specs.Wants.{WantFault, inside, Stand, bytes_at, slot_next, want_at, serve, WantBreaks}
use Rattle.ser_read.proofs.SpelledWants.{serve_fits}
use Rattle.ser_read.proofs.Wants.{want_bytes, want_slot}
use Rattle.ser_read.proofs.Steps.{Leads, leads_start, leads_more, leads_done, said, done, reads_two}
use Rattle.ser_read.proofs.InOrder.{given_before, serve_start, serve_next, serve_err, serve_end}
use Rattle.ser_read.proofs.Breaking.{want_loop_stops, want_took}
use Rattle.ser_read.specs.declared.fault.StreamFault.TheVariants.{OutOfMemory}
use Rattle.jrmp_frames.specs.declared.arguments.Arg.{Arg}
use Rattle.jrmp_frames.specs.declared.arguments.Arg.TheVariants as arguments
use Rattle.jrmp_frames.specs.Messages.{width_of, want_of, wants_of, value_of, args_of}
use Rattle.jrmp_frames.specs.Calls.{ReadsArgument, ReadsEach}

-- ---- one argument

-- A number that is wanted has as many bytes as its type.
pub width_is : (code : TypeCode) (n : ℕ) → want_of code ≡ wanted.Bytes n → n ≡ width_of code
width_is codes.Byte n h = cc
width_is codes.Char n h = cc
width_is codes.Double n h = cc
width_is codes.Float n h = cc
width_is codes.Int n h = cc
width_is codes.Long n h = cc
width_is codes.Short n h = cc
width_is codes.Boolean n h = cc
width_is codes.Array n h = absurd cc
width_is codes.Object n h = absurd cc

-- No number has more than eight bytes.
pub few_bytes : (code : TypeCode) → width_of code ≤ 8
few_bytes codes.Byte = omega arith
few_bytes codes.Char = omega arith
few_bytes codes.Double = omega arith
few_bytes codes.Float = omega arith
few_bytes codes.Int = omega arith
few_bytes codes.Long = omega arith
few_bytes codes.Short = omega arith
few_bytes codes.Boolean = omega arith
few_bytes codes.Array = omega arith
few_bytes codes.Object = omega arith

bytes_are : (end n : ℕ) (s later : Stand) (bs b rest : List ℕ) → bytes_at end n s bs ≡ Ok (b, later, rest) → length b ≡ n
unfolding serve want_at
bytes_are end n s later bs b rest e =
    let one : serve end (wanted.Bytes n ∷ []) s bs ≡ Ok (items.Bytes b ∷ [], later, rest) = rw e refl in
    (serve_fits end (wanted.Bytes n ∷ []) s bs (items.Bytes b ∷ [], later, rest) one).0

-- So many bytes are read as are wanted.
pub bytes_read : {p q : PullState} (n : ℕ) (s later : Stand) (b : List ℕ) → Reads (inside short) p q (λ end. bytes_at end n s) (λ rest. (b, later, rest)) → length b ≡ n
bytes_read n s later b r = bytes_are _ n s later _ b [] (r.is [])

pub bytes_argument : {p q : PullState} (code : TypeCode) (n : ℕ) (s later : Stand) (b : List ℕ) → want_of code ≡ wanted.Bytes n → Reads (inside short) p q (λ end. bytes_at end n s) (λ rest. (b, later, rest))
    → ReadsArgument p q s later code (arguments.Prim (value_of code b))
bytes_argument code n s later b is r = record {
  answer = items.Bytes b;
  reads = said (λ end bs here. want_bytes end (want_of code) n s bs is) (reads_two {next = λ end bs. Ok (items.Bytes b, later, bs)} r (done (λ end bs. refl)) (λ end bs rest is. rw is refl) (λ end bs is. rw is refl));
  value = refl;
}

pub slot_argument : {p q : PullState} (code : TypeCode) (s later : Stand) (x : Slot) → want_of code ≡ wanted.Slot → Reads (inside short) p q (λ end. slot_next end s) (λ rest. (x, later, rest))
    → ReadsArgument p q s later code (arguments.Ref x)
slot_argument code s later x is r = record {
  answer = items.Ref x;
  reads = said (λ end bs here. want_slot end (want_of code) s bs is) (reads_two {next = λ end bs. Ok (items.Ref x, later, bs)} r (done (λ end bs. refl)) (λ end bs rest is. rw is refl) (λ end bs is. rw is refl));
  value = refl;
}

-- ---- one after the other

next_left : (params : List TypeCode) (i : ℕ) (d : TypeCode) → i < length params → drop i params ≡ get_or params i d ∷ drop (i + 1) params
next_left params i d lt = rw (add-one, drop-cons params i d) refl

none_left : (params : List TypeCode) (i : ℕ) → length params ≤ i → drop i params ≡ []
none_left params i le = nil_from_length (drop i params) (omega (arith, length-drop i params))

-- These arguments were read for the first i parameters, and the reader stands so behind them.
pub record Comes (p q : PullState) (params : List TypeCode) (i : ℕ) (stand now : Stand) (args : List Arg) : Type 0 where
  pub answers : List Item
  pub leads : Leads (inside short) p q (λ end. serve end (wants_of params) stand) (λ end bs. given_before answers (serve end (wants_of (drop i params)) now bs))
  pub values : (more : List Item) → args ++ args_of (drop i params) more ≡ args_of params (answers ++ more)

pub comes_first : (p : PullState) (params : List TypeCode) (stand : Stand) → Comes p p params 0 stand stand []
comes_first p params stand = record { answers = []; leads = leads_start p _ _ (λ end bs. serve_start end (wants_of params) stand bs); values = λ more. refl }

next_given : (end : ℕ) (front : List Item) (params : List TypeCode) (i : ℕ) (code : TypeCode) (s later : Stand) (bs rest : List ℕ) (x : Item) → drop i params ≡ code ∷ drop (i + 1) params → want_at end (want_of code) s bs ≡ Ok (x, later, rest)
    → given_before front (serve end (wants_of (drop i params)) s bs) ≡ given_before (front ++ x ∷ []) (serve end (wants_of (drop (i + 1) params)) later rest)
next_given end front params i code s later bs rest x k h = rw k (serve_next end front (want_of code ∷ wants_of (drop (i + 1) params)) 0 (want_of code) s bs x later rest (omega arith) h)

next_fails : (end : ℕ) (front : List Item) (params : List TypeCode) (i : ℕ) (code : TypeCode) (s : Stand) (bs : List ℕ) (f : WantFault) → drop i params ≡ code ∷ drop (i + 1) params → want_at end (want_of code) s bs ≡ Err f
    → given_before front (serve end (wants_of (drop i params)) s bs) ≡ Err f
next_fails end front params i code s bs f k h = rw k (serve_err end front (want_of code ∷ wants_of (drop (i + 1) params)) 0 (want_of code) s bs f (omega arith) h)

-- One more was read.
pub comes_next : {p q r : PullState} (params : List TypeCode) (i : ℕ) (d : TypeCode) (stand now later : Stand) (args : List Arg) (arg : Arg) → i < length params → Comes p q params i stand now args → ReadsArgument q r now later (get_or params i d) arg
    → Comes p r params (i + 1) stand later (args ++ arg ∷ [])
comes_next params i d stand now later args arg lt c a =
    let code : TypeCode = get_or params i d in
    let k : drop i params ≡ code ∷ drop (i + 1) params = next_left params i d lt in
    record {
      answers = c.answers ++ a.answer ∷ [];
      leads = leads_more _ c.leads a.reads (λ end bs rest here h. next_given end c.answers params i code now later bs rest a.answer k h) (λ end bs here is. next_fails end c.answers params i code now bs (inside short) k is);
      values = λ more.
          append_assoc args (arg ∷ []) (args_of (drop (i + 1) params) more)
          ∙ ap (λ z. args ++ z ∷ args_of (drop (i + 1) params) more) a.value
          ∙ ap (λ (l : List TypeCode). args ++ args_of l (a.answer ∷ more)) (sym k)
          ∙ c.values (a.answer ∷ more)
          ∙ ap (λ (l : List Item). args_of params l) (sym (append_assoc c.answers (a.answer ∷ []) more));
    }

-- All were read.
pub comes_whole : {p q : PullState} (params : List TypeCode) (i : ℕ) (stand now : Stand) (args : List Arg) → length params ≤ i → Comes p q params i stand now args → ReadsEach p q stand now params args
comes_whole params i stand now args le c =
    let k : drop i params ≡ [] = none_left params i le in
    record {
      answers = c.answers;
      reads = leads_done c.leads (λ end bs. rw k (serve_end end c.answers [] 0 now bs (omega arith)));
      values = sym (append-nil args) ∙ ap (λ (l : List TypeCode). args ++ args_of l []) (sym k) ∙ c.values [] ∙ ap (λ (l : List Item). args_of params l) (append-nil c.answers);
    }

-- The next one was not read.
pub comes_short : {p q r : PullState} {e : StreamFault} (params : List TypeCode) (i : ℕ) (d : TypeCode) (stand now : Stand) (args : List Arg) → i < length params → Comes p q params i stand now args → WantBreaks q r e (λ end. want_at end (want_of (get_or params i d)) now)
    → WantBreaks p r e (λ end. serve end (wants_of params) stand)
comes_short params i d stand now args lt c h = want_loop_stops c.leads (λ end bs f here is. next_fails end c.answers params i (get_or params i d) now bs f (next_left params i d lt) is) h

-- There was no memory for the next one.
pub comes_unkept : {p q r : PullState} (params : List TypeCode) (i : ℕ) (d : TypeCode) (stand now later : Stand) (args : List Arg) (arg : Arg) → i < length params → Comes p q params i stand now args → ReadsArgument q r now later (get_or params i d) arg
    → WantBreaks p r OutOfMemory (λ end. serve end (wants_of params) stand)
comes_unkept params i d stand now later args arg lt c a = comes_short params i d stand now args lt c (want_took a.reads)
