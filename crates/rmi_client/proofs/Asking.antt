-- What the beginning of a session comes to where the server did not acknowledge it.
use Rattle.std.proofs.Common.{◌≢◌, ℕ, ◌≤◌, List, ◌++◌, length-append, Err, refl, sym, subst, arith}
use Rattle.std.proofs.lemmas.List.{take-append-le}
use Rattle.wire_io.specs.Wire.{WriteHalf}
use Rattle.jrmp_frames.specs.declared.header.Protocol.TheVariants.{Stream}
use Rattle.jrmp_frames.specs.Frames.{header}
use Rattle.rmi_client.specs.Replies.{HearsAck}
use Rattle.rmi_client.specs.Sessions.{LinkState, Sends, SendsFront, Asks, IsHeader, BeginsWith}
use Rattle.rmi_client.specs.declared.end.ClientEnd.{ClientEnd}
use Rattle.rmi_client.specs.declared.end.ClientEnd.TheVariants as ends

-- Writing failed inside the first of two pieces.
front_before : (a b : WriteHalf) (n : ℕ) (xs ys : List ℕ) → SendsFront a b n xs → SendsFront a b n (xs ++ ys)
front_before a b n xs ys h = record {
  few = omega (arith, h.few, length-append xs ys);
  sends = subst (λ l. Sends a b l) (sym (take-append-le n xs ys (omega (arith, h.few)))) h.sends;
  rose = h.rose;
}

pub not_begun : (own : List ℕ) (old new : LinkState) (end : ClientEnd) → end ≢ ends.OutOfMemory → Asks {A = Unit {0}} IsHeader HearsAck old new (Err end) → BeginsWith {A = Unit {0}} own old new (Err end)
not_begun own old new ends.Over some h = h
not_begun own old new (ends.WriteFault n) some h =
    (front_before old.write new.write n (header Stream) own (subst (λ l. SendsFront old.write new.write n l) h.1 h.2), λ few. h.3, λ many. absurd (past many (subst (λ l. SendsFront old.write new.write n l) h.1 h.2)))
  where
    past : 7 ≤ n → SendsFront old.write new.write n (header Stream) → ⊥
    past many front = omega (arith, many, front.few)
not_begun own old new ends.OutOfMemory some h = absurd (some refl)
not_begun own old new ends.Nack some h = h
not_begun own old new (ends.BadReply kind at) some h = h
not_begun own old new (ends.TooLarge what at) some h = h
not_begun own old new (ends.Truncated at) some h = h
not_begun own old new (ends.RemoteFault text) some h = h
not_begun own old new ends.ReadFault some h = h
