-- The server's turns, as a world counts them.
use Rattle.std.proofs.Common.{◌≡◌, ℕ, ◌≤◌, List, [], refl, ap, sym, ◌∙◌, arith, inl, inr}
use Rattle.std.specs.Prelude.{true, Option, Some, None, option_map, Ok, Err}
use Rattle.history.specs.Limits.{limits, refusal, is_full, starts_too_many, units, reserved_units, exports_with_event, awaiting_with_event, clients_with_event, pairs_with_event, names_with_event}
use Rattle.history.specs.Replies.{reply}
use Rattle.history.specs.Steps.{Step, answer_with, history_with, turn_of}
use Rattle.history.specs.Table.{places, with_event, places_back, place_of, is_effective, exports, returned_objects, table}
use Rattle.history.specs.Awaiting.{awaiting_references, references}
use Rattle.history.specs.LeaseCalls.{lease_calls}
use Rattle.history.specs.Leases.{clients_with_time_left, clients, pairs_with}
use Rattle.history.specs.Names.{names}
use Rattle.history.specs.Places.{now, exported_count}
use Rattle.history.specs.declared.asks.Ask.{Ask}
use Rattle.history.specs.declared.asks.Ask.TheVariants as asks
use Rattle.history.specs.declared.asks.Event.{Event}
use Rattle.history.specs.declared.asks.SpaceConfig.{SpaceConfig}
use Rattle.history.specs.declared.limits.TheConstants.{MAX_DURATION_MS}
use Rattle.history.specs.declared.replies.Reply.{Reply}
use Rattle.history.specs.declared.replies.Reply.TheVariants as replies
use Rattle.history.specs.declared.replies.Refused.{Refused}
use Rattle.history.specs.declared.replies.Refused.TheVariants as refusals
use Rattle.history.specs.declared.replies.Turn.{Turn}
use Rattle.object_ids.specs.declared.ids.ObjId.{ObjId}
use Rattle.space.specs.Acts.{event_of}
use Rattle.space.specs.TurnAnswers.{IsReplyTo}
use Rattle.lease_world.specs.Faults.{of_space}
use Rattle.lease_world.specs.Stands.{WorldParts, IsCause, IsTurned}
use Rattle.lease_world.specs.World.{granted_in, config_of}
use Rattle.lease_world.specs.declared.fault.WorldFault.TheVariants.{SpaceRefused, OutOfMemory}

pub step-taken : (config : SpaceConfig) (h h2 : List Event) (e : Event) (t : Turn) → Step config h e (Ok t) h2 →
    (refusal (limits config) config (places config h) e ≡ None) × (h2 ≡ with_event h e) × (t ≡ turn_of config h e)
step-taken config h h2 e t (inr memory) = absurd (let a = memory.0 in cc)
step-taken config h h2 e t (inl s) = go (refusal (limits config) config (places config h) e) refl s.0 s.1
  where
    go : (r : Option Refused) → refusal (limits config) config (places config h) e ≡ r → Ok t ≡ answer_with config h e r → h2 ≡ history_with h e r →
        (refusal (limits config) config (places config h) e ≡ None) × (h2 ≡ with_event h e) × (t ≡ turn_of config h e)
    go None q a b = (q, b, cc)
    go (Some r) q a b = absurd (cc)

as-fault : (r : Refused) (cause : Option Refused) → cause ≡ Some r → IsCause (of_space r) (option_map SpaceRefused cause)
as-fault refusals.OutOfMemory cause e = inl refl
as-fault refusals.HistoryFull cause e = inr (ap (option_map SpaceRefused) e)
as-fault (refusals.Full kind) cause e = inr (ap (option_map SpaceRefused) e)

pub step-refused : (config : SpaceConfig) (h h2 : List Event) (e : Event) (r : Refused) → Step config h e (Err r) h2 →
    IsCause (of_space r) (option_map SpaceRefused (refusal (limits config) config (places config h) e))
step-refused config h h2 e r (inr memory) = inl (let a = memory.0 in let same : r ≡ refusals.OutOfMemory = cc in ap of_space same)
step-refused config h h2 e r (inl s) = go (refusal (limits config) config (places config h) e) refl s.0
  where
    go : (x : Option Refused) → refusal (limits config) config (places config h) e ≡ x → Err r ≡ answer_with config h e x →
        IsCause (of_space r) (option_map SpaceRefused (refusal (limits config) config (places config h) e))
    go None q a = absurd (cc)
    go (Some x) q a = let same : x ≡ r = cc in as-fault r (refusal (limits config) config (places config h) e) (q ∙ ap (λ (y : Refused). Some y) same)

pub turned : (v u : WorldParts) (by : ℕ) (ask : Ask) (t : Turn) → Step v.space.configuration v.space.events (event_of by v.moment ask) (Ok t) u.space.events →
    u.space.configuration ≡ v.space.configuration → u ≡ record v { space = u.space } → IsTurned v by ask (granted_in t.reply) u
turned v u by ask t s c r =
    let k = step-taken v.space.configuration v.space.events u.space.events (event_of by v.moment ask) t s in
    record {
      allowed = ap (option_map SpaceRefused) k.0;
      config = c;
      events = k.1;
      rest = r;
      granted_is = ap (λ (x : Turn). granted_in x.reply) k.2;
    }

-- Only a dirty call is granted a duration.
granted-to : (runs : ObjId → Type 0) (ask : Ask) (d : ℕ) → IsReplyTo runs ask (replies.Granted d) → d ≤ MAX_DURATION_MS
granted-to runs (asks.Dirty c n a os) d k = k
granted-to runs (asks.Open kind pinned) d k = absurd k
granted-to runs (asks.Begin o) d k = absurd k
granted-to runs (asks.Finish o made listed u) d k = absurd k
granted-to runs (asks.Abandon o) d k = absurd k
granted-to runs (asks.Clean c n os strong) d k = absurd k
granted-to runs (asks.Ack u) d k = absurd k
granted-to runs (asks.Bind n o) d k = absurd k
granted-to runs (asks.Rebind n o) d k = absurd k
granted-to runs (asks.Unbind n) d k = absurd k
granted-to runs (asks.Lookup n u) d k = absurd k
granted-to runs asks.List d k = absurd k
granted-to runs asks.Tick d k = absurd k

pub granted-within : (runs : ObjId → Type 0) (ask : Ask) (r : Reply) → IsReplyTo runs ask r → granted_in r ≤ MAX_DURATION_MS
granted-within runs ask (replies.Granted d) k = granted-to runs ask d k
granted-within runs ask (replies.Opened o) k = omega arith
granted-within runs ask (replies.Started kind) k = omega arith
granted-within runs ask replies.NoObject k = omega arith
granted-within runs ask (replies.Finished os) k = omega arith
granted-within runs ask replies.NotRunning k = omega arith
granted-within runs ask replies.Done k = omega arith
granted-within runs ask replies.Bound k = omega arith
granted-within runs ask replies.AlreadyBound k = omega arith
granted-within runs ask replies.Unbound k = omega arith
granted-within runs ask replies.NotBound k = omega arith
granted-within runs ask (replies.Found o kind) k = omega arith
granted-within runs ask (replies.Names ns) k = omega arith

-- ---- the first turn

open-allowed : (lease ack : ℕ) → refusal (limits (config_of lease ack)) (config_of lease ack) (places (config_of lease ack) []) (event_of 0 0 (asks.Open 2 true)) ≡ None
unfolding refusal is_full starts_too_many units reserved_units exports_with_event awaiting_with_event clients_with_event pairs_with_event names_with_event places places_back place_of is_effective exports exported_count returned_objects table now awaiting_references references clients_with_time_left clients lease_calls pairs_with names
open-allowed lease ack = refl

-- The export that begins a world's space is refused only for want of memory.
pub open-refused : (lease ack : ℕ) (config : SpaceConfig) (h h2 : List Event) (r : Refused) → config ≡ config_of lease ack → h ≡ [] → Step config h (event_of 0 0 (asks.Open 2 true)) (Err r) h2 → of_space r ≡ OutOfMemory
open-refused lease ack config h h2 r c e s = go (step-refused config h h2 (event_of 0 0 (asks.Open 2 true)) r s)
  where
    none : refusal (limits config) config (places config h) (event_of 0 0 (asks.Open 2 true)) ≡ None
    none = rw (c, e) (open-allowed lease ack)

    go : IsCause (of_space r) (option_map SpaceRefused (refusal (limits config) config (places config h) (event_of 0 0 (asks.Open 2 true)))) → of_space r ≡ OutOfMemory
    go (inl memory) = memory
    go (inr cause) = absurd (let told = ap (option_map SpaceRefused) none in let both = sym told ∙ cause in cc)
