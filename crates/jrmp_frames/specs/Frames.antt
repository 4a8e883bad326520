-- The bytes of the Java Remote Method Protocol (Java RMI Specification, 10.2). Numbers are big-endian.
use Rattle.std.specs.Prelude.{◌≡◌, ◌≢◌, ℕ, ◌+◌, ◌*◌, ◌<◌, List, [], ◌∷◌, ◌++◌, length, take, slice_index, ℤ}
use Rattle.std.specs.Int.{w16, w32, to_be_bytes, cast_unsigned}
use Rattle.mod_utf.specs.Utf.{utf}
use Rattle.object_ids.specs.declared.ids.Uid.{Uid}
use Rattle.object_ids.specs.Bytes.{bytes_of_uid}
use Rattle.jrmp_frames.specs.declared.header.Protocol.{Protocol}
use Rattle.jrmp_frames.specs.declared.header.Protocol.TheVariants.{Stream, SingleOp}
use Rattle.jrmp_frames.specs.declared.code.Code.{Code}
use Rattle.jrmp_frames.specs.declared.code.Code.TheVariants.{Call, Ping, DgcAck}

-- what every header begins with: `JRMI` and the version, which is 2
abbrev pub header_start : List ℕ
header_start = 0x4A ∷ 0x52 ∷ 0x4D ∷ 0x49 ∷ 0 ∷ 2 ∷ []

abbrev pub protocol_byte : Protocol → ℕ
protocol_byte Stream = 0x4B
protocol_byte SingleOp = 0x4C

-- the header of a protocol
abbrev pub header : Protocol → List ℕ
header protocol = header_start ++ protocol_byte protocol ∷ []

-- No protocol has this byte.
abbrev pub IsNoProtocol : ℕ → Type 0
IsNoProtocol byte = (byte ≢ 0x4B) × (byte ≢ 0x4C)

-- These bytes begin the header, whose protocol is still to come.
abbrev pub IsInHeader : List ℕ → Type 0
IsInHeader bytes = (more : List ℕ) × (bytes ++ more ≡ header_start)

-- The last of these bytes, at this place, is the first that differs from the header's.
abbrev pub BreaksHeader : ℕ → List ℕ → Type 0
BreaksHeader at bytes = (at < 6) × ((byte : ℕ) × (byte ≢ slice_index header_start at) × (bytes ≡ take at header_start ++ byte ∷ []))

-- an endpoint: a host, as the length of its modified UTF in 16 bits and those bytes, and a port of 32 bits
abbrev pub endpoint : List ℕ → ℤ → List ℕ
endpoint host port = to_be_bytes w16 (length (utf host)) ++ utf host ++ to_be_bytes w32 (cast_unsigned w32 port)

-- These bytes have an endpoint's form: a length of 16 bits, so many bytes, and 4 bytes.
abbrev pub IsEndpoint : List ℕ → Type 0
IsEndpoint (high ∷ low ∷ more) = (high < 256) × (low < 256) × (length more ≡ 256 * high + low + 4)
IsEndpoint _ = ⊥

-- These bytes begin an endpoint, and are not all of it.
abbrev pub IsInEndpoint : List ℕ → Type 0
IsInEndpoint bytes = (more : List ℕ) × (0 < length more) × IsEndpoint (bytes ++ more)

-- the acknowledgement of the stream protocol: the client's endpoint, as the server sees it
unfoldable pub protocol_ack : List ℕ → ℤ → List ℕ
protocol_ack host port = 0x4E ∷ endpoint host port

-- the answer where the client's protocol is not served
abbrev pub protocol_not_supported : List ℕ
protocol_not_supported = 0x4F ∷ []

-- the code of a client's message
abbrev pub code_byte : Code → ℕ
code_byte Call = 0x50
code_byte Ping = 0x52
code_byte DgcAck = 0x54

-- Some message begins with this byte.
abbrev pub IsCode : ℕ → Type 0
IsCode byte = (code : Code) × (byte ≡ code_byte code)

-- the answer to a Ping
abbrev pub ping_ack : List ℕ
ping_ack = 0x53 ∷ []

-- the acknowledgement of a Return: its code and the Return's identifier
abbrev pub dgc_ack : Uid → List ℕ
dgc_ack uid = code_byte DgcAck ∷ bytes_of_uid uid

-- These bytes begin an acknowledgement: its code, and fewer bytes than an identifier has.
abbrev pub IsInAck : List ℕ → Type 0
IsInAck bytes = (part : List ℕ) × (bytes ≡ code_byte DgcAck ∷ part) × (length part < 14)
