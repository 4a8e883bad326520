-- Calls, from what was read of their heads and their arguments.
use Rattle.std.proofs.Common.{◌≡◌, ℕ, ◌-◌, eqb, List, [], ◌∷◌, ◌++◌, length, Some, Result, Ok, Err, refl, sym, ap, subst, ◌∙◌, inl, inr}
use Rattle.wire_io.specs.Pulled.{PullState}
use Rattle.class_desc.specs.declared.field.TypeCode.{TypeCode}
use Rattle.class_desc.specs.declared.slot.Item.{Item}
use Rattle.class_desc.specs.declared.slot.Item.TheVariants as items
use Rattle.ser_values.specs.declared.node.Node.{Node}
use Rattle.stream_grammar.specs.Spelled.{joined}
use Rattle.ser_values.specs.Fronts.{put_block, without_front}
use Rattle.stream_grammar.specs.Reading.{Fault, short, magic_at}
use Rattle.stream_grammar.proofs.PlainSound.{chosen}
use Rattle.stream_grammar.proofs.Spelling.{joined_joined}
use Rattle.ser_values.proofs.FrontLaws.{front_undone}
use Rattle.ser_read.specs.declared.fault.StreamFault.{StreamFault}
use Rattle.ser_read.specs.declared.serving.Want.{Want}
use Rattle.ser_read.specs.declared.serving.Want.TheVariants as wanted
use Rattle.ser_read.specs.Here.{Reads}
use Rattle.ser_read.specs.Wants.{WantFault, inside, ◌▸◌, lift_fault, Stand, nothing_read, bytes_at, close_at, want_at, serve, serve_to_close, wants_at, WantBreaks}
use Rattle.ser_read.specs.SpelledWants.{Fits}
use Rattle.ser_read.proofs.Served.{want_ok, lifted_ok, given_is}
use Rattle.ser_read.proofs.SpelledWants.{serve_fits, serve_items}
use Rattle.ser_read.proofs.Steps.{leads_read, done, reads_two}
use Rattle.ser_read.proofs.Breaking.{want_first, want_breaks_two}
use Rattle.ser_read.proofs.InOrder.{Serving, Whole, takes_asked}
use Rattle.jrmp_frames.specs.declared.head.CallHead.{CallHead}
use Rattle.jrmp_frames.specs.declared.arguments.Arguments.{Arguments}
use Rattle.jrmp_frames.specs.Messages.{head_bytes, wants_of}
use Rattle.jrmp_frames.specs.Calls.{front_at, head_at, ReadsHead, ReadsArguments, TakesCall}
use Rattle.jrmp_frames.proofs.Heads.{some_bytes}

-- ---- what the arguments' wants gave

pub record Given (ws : List Want) (head : List ℕ) (answers whole : List Item) : Type 0 where
  pub fits : Fits ws answers
  pub left : without_front 34 whole ≡ Some (joined answers)
  pub all : whole ≡ joined (items.Bytes head ∷ answers)

-- Wants that were served up to the end gave what fits them, and their items are behind those that stood before.
pub served_whole : (end : ℕ) (ws : List Want) (s : Stand) (bs : List ℕ) (raw : List Item) (y : Whole) → serve_to_close end ws s bs ≡ Ok y → s.items ≡ joined raw → Fits ws y.0 × (y.2 ≡ joined (raw ++ y.0))
unfolding serve_to_close close_at
served_whole end ws s bs raw y e stood =
    let a = want_ok (serve end ws s bs) (λ x. close_at (end - length x.2) x.1 ▸ λ g. Ok (x.0, g.0, g.1, x.2)) y e in
    let c = want_ok (close_at (end - length a.0.2) a.0.1) (λ g. Ok (a.0.0, g.0, g.1, a.0.2)) y a.2 in
    elim (chosen (eqb a.0.1.block 0) _ _ _ c.1) [
      | inr p ↦ absurd (let f = p.1 in cc)
      | inl p ↦ (
          let one : (a.0.1.progress.nodes, a.0.1.items) ≡ c.0 = given_is (a.0.1.progress.nodes, a.0.1.items) c.0 p.1 in
          let two : (a.0.0, c.0.0, c.0.1, a.0.2) ≡ y = given_is (a.0.0, c.0.0, c.0.1, a.0.2) y c.2 in
          let is : c.0.1 ≡ joined (raw ++ a.0.0) = ap (λ (g : List Node × List Item). g.1) (sym one) ∙ serve_items end ws s bs a.0 a.1 raw stood in
          subst (λ (y : Whole). Fits ws y.0 × (y.2 ≡ joined (raw ++ y.0))) two (serve_fits end ws s bs a.0 a.1, is))
    ]

given_parts : (end : ℕ) (ws : List Want) (s : Stand) (bs head : List ℕ) (y : Whole) → serve_to_close end ws s bs ≡ Ok y → length head ≡ 34 → s.items ≡ items.Bytes head ∷ [] → Given ws head y.0 y.2
given_parts end ws s bs head y e long stood =
    let (fits, all) = served_whole end ws s bs (items.Bytes head ∷ []) y e (stood ∙ sym (some_bytes head long)) in
    record {
      fits = fits;
      left = ap (without_front 34) all ∙ ap (λ n. without_front n (put_block head (joined y.0))) (sym long) ∙ front_undone head (joined y.0) (joined_joined y.0);
      all = all;
    }

pub parameters_given : {p q : PullState} (ws : List Want) (s : Stand) (head : List ℕ) (answers : List Item) (nodes : List Node) (whole : List Item) → length head ≡ 34 → s.items ≡ items.Bytes head ∷ []
    → Reads (inside short) p q (λ end. serve_to_close end ws s) (λ rest. (answers, nodes, whole, rest)) → Given ws head answers whole
parameters_given ws s head answers nodes whole long stood r = given_parts _ ws s _ head (answers, nodes, whole, []) (r.is []) long stood

-- ---- a head, and then arguments

abbrev pub headed : List ℕ → Result Whole WantFault → Result Whole WantFault
headed b read = read ▸ λ y. Ok (items.Bytes b ∷ y.0, y.1, y.2, y.3)

abbrev pub closed : ℕ → Serving → Result Whole WantFault
closed end r = r ▸ λ x. close_at (end - length x.2) x.1 ▸ λ g. Ok (x.0, g.0, g.1, x.2)

abbrev pub served : List ℕ → Serving → Serving
served b r = r ▸ λ xs. Ok (items.Bytes b ∷ xs.0, xs.1, xs.2)

pub regroup : (end : ℕ) (b : List ℕ) (r : Serving) → closed end (served b r) ≡ headed b (closed end r)
regroup end b (Err f) = refl
regroup end b (Ok x) = go (close_at (end - length x.2) x.1)
  where
    go : (c : Result (List Node × List Item) WantFault) → (c ▸ λ g. Ok (items.Bytes b ∷ x.0, g.0, g.1, x.2)) ≡ headed b (c ▸ λ g. Ok (x.0, g.0, g.1, x.2))
    go (Err f) = refl
    go (Ok g) = refl

-- Bytes are read in front, and then what is wanted behind them.
pub front_then : (n end : ℕ) (ws : List Want) (bs b rest : List ℕ) (s : Stand) → front_at n end bs ≡ Ok (b, s, rest) → wants_at end (wanted.Bytes n ∷ ws) bs ≡ headed b (serve_to_close end ws s rest)
unfolding wants_at serve_to_close serve want_at
front_then n end ws bs b rest s e =
    let m = lifted_ok (magic_at end (0xAC ∷ 0xED ∷ 0x00 ∷ 0x05 ∷ []) bs) (bytes_at end n nothing_read) (b, s, rest) e in
    rw m.1 (rw m.2 (regroup end b (serve end ws s rest)))

-- A head is read, and then what is wanted behind it.
pub head_then : (end : ℕ) (ws : List Want) (bs b rest : List ℕ) (s : Stand) → head_at end bs ≡ Ok (b, s, rest) → wants_at end (wanted.Bytes 34 ∷ ws) bs ≡ headed b (serve_to_close end ws s rest)
unfolding head_at
head_then end ws bs b rest s e = front_then 34 end ws bs b rest s e

head_fails : (end : ℕ) (ws : List Want) (bs : List ℕ) (f : WantFault) → head_at end bs ≡ Err f → wants_at end (wanted.Bytes 34 ∷ ws) bs ≡ Err f
unfolding head_at wants_at serve_to_close serve want_at
head_fails end ws bs f e = go (magic_at end (0xAC ∷ 0xED ∷ 0x00 ∷ 0x05 ∷ []) bs) e
  where
    go : (r : Result (List ℕ) Fault) → (lift_fault r ▸ bytes_at end 34 nothing_read) ≡ Err f → (lift_fault r ▸ serve_to_close end (wanted.Bytes 34 ∷ ws) nothing_read) ≡ Err f
    go (Err g) e = let same : inside g ≡ f = cc in ap (λ (h : WantFault). Err h) same
    go (Ok bs) e = rw e refl

pub call_reads : {o p q : PullState} (head : CallHead) (ws : List Want) (s : Stand) (answers : List Item) (nodes : List Node) (whole : List Item) → ReadsHead o p head s
    → Reads (inside short) p q (λ end. serve_to_close end ws s) (λ rest. (answers, nodes, whole, rest)) → Reads (inside short) o q (λ end. wants_at end (wanted.Bytes 34 ∷ ws)) (λ rest. (items.Bytes (head_bytes head) ∷ answers, nodes, whole, rest))
call_reads {o} {p} {q} head ws s answers nodes whole a b =
    let later : Reads (inside short) p q (λ end bs. headed (head_bytes head) (serve_to_close end ws s bs)) (λ rest. (items.Bytes (head_bytes head) ∷ answers, nodes, whole, rest)) =
    reads_two {next = λ end bs. Ok (items.Bytes (head_bytes head) ∷ answers, nodes, whole, bs)} b (done (λ end bs. refl)) (λ end bs rest is. rw is refl) (λ end bs is. rw is refl) in
    reads_two a later (λ end bs rest is. head_then end ws bs (head_bytes head) rest s is) (λ end bs is. head_fails end ws bs (inside short) is)

-- A head was taken, and then its arguments: that is a call.
pub call_taken : {o p q : PullState} (head : CallHead) (params : List TypeCode) (s : Stand) (arguments : Arguments) → ReadsHead o p head s → ReadsArguments p q s params arguments → TakesCall o q head params arguments
call_taken {o} {p} {q} head params s arguments a b =
    let t = takes_asked (wanted.Bytes 34 ∷ wants_of params) (items.Bytes (head_bytes head) ∷ b.answers) arguments.graph.nodes b.whole (call_reads head (wants_of params) s b.answers arguments.graph.nodes b.whole a b.reads) in
    record {
      message = 0xAC ∷ 0xED ∷ 0x00 ∷ 0x05 ∷ t.bytes;
      takes = t.takes;
      call = record { contents = t.bytes; headed = refl; answers = b.answers; asked = t.asked; items = b.items; values = b.values };
    }

-- A head was taken, and then reading ended inside the arguments.
pub call_breaks : {o p q : PullState} {e : StreamFault} (head : CallHead) (ws : List Want) (s : Stand) → ReadsHead o p head s → WantBreaks p q e (λ end. serve_to_close end ws s) → WantBreaks o q e (λ end. wants_at end (wanted.Bytes 34 ∷ ws))
call_breaks {o} {p} {q} {e} head ws s a b =
    want_breaks_two (leads_read (λ end bs. headed (head_bytes head) (serve_to_close end ws s bs)) a (λ end bs rest here is. head_then end ws bs (head_bytes head) rest s is) (λ end bs here is. head_fails end ws bs (inside short) is))
    (want_first (λ end y. Ok (items.Bytes (head_bytes head) ∷ y.0, y.1, y.2, y.3)) b)
