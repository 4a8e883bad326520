-- Rows by which the definitions are tried: what a server's first bytes make of `list`.
use Rattle.std.proofs.Common.{◌≡◌, ℕ, List, [], ◌∷◌, Some, Err, refl}
use Rattle.rmi_client.specs.declared.end.ReplyKind.TheVariants as kinds
use Rattle.rmi_client.specs.declared.end.ClientEnd.TheVariants as ends
use Rattle.client_talk.specs.declared.place.Place.{Place}
use Rattle.client_talk.specs.declared.end.CommandEnd.TheVariants.{Session}
use Rattle.client_talk.specs.Scripts.{plays, Played}
use Rattle.client_talk.specs.Talk.{from_start}
use Rattle.client_talk.specs.Rmi.{rmi, Header, OwnHost, List_names}
use Rattle.client_talk.specs.Commands.{list_script}

-- what a server's bytes make of `list`, where the client's end is the host `h`
abbrev list_over : Place → List ℕ → Played rmi (List (List ℕ))
list_over place bytes = plays (list_script place) (from_start (λ k. bytes)) ((0x68 ∷ []) ∷ []) []

-- a server that sends nothing
nothing_sent : (place : Place) → list_over place [] ≡ record { said = (0, Header) ∷ []; end = Some (Err (Session (ends.Truncated 0))) }
unfolding plays
nothing_sent place = refl

-- one that does not speak the protocol
not_spoken : (place : Place) → list_over place (0x4F ∷ 0x51 ∷ []) ≡ record { said = (0, Header) ∷ []; end = Some (Err (Session ends.Nack)) }
unfolding plays
not_spoken place = refl

-- one that speaks another
another : (place : Place) → list_over place (0x48 ∷ []) ≡ record { said = (0, Header) ∷ []; end = Some (Err (Session (ends.BadReply kinds.NotReturn 0))) }
unfolding plays
another place = refl

-- one that closes the connection once it acknowledged it
closed : (place : Place) → list_over place (0x4E ∷ 0 ∷ 1 ∷ 0x61 ∷ 0 ∷ 0 ∷ 4 ∷ 0xD2 ∷ [])
    ≡ record { said = (0, Header) ∷ (0, OwnHost (0x68 ∷ [])) ∷ (0, List_names) ∷ []; end = Some (Err (Session (ends.Truncated 8))) }
unfolding plays
closed place = refl

-- one that answers another byte then
no_return : (place : Place) → list_over place (0x4E ∷ 0 ∷ 1 ∷ 0x61 ∷ 0 ∷ 0 ∷ 4 ∷ 0xD2 ∷ 0x53 ∷ [])
    ≡ record { said = (0, Header) ∷ (0, OwnHost (0x68 ∷ [])) ∷ (0, List_names) ∷ []; end = Some (Err (Session (ends.BadReply kinds.NotReturn 8))) }
unfolding plays
no_return place = refl
