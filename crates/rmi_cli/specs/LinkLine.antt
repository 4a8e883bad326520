-- The lines that a server for good writes on the errors' sink: one when it listens, and one for each link that has ended.
use Rattle.std.specs.Prelude.{ℕ, ℤ, codes, List, [], ◌∷◌, ◌++◌, decimal}
use Rattle.std.specs.Fmt.{signed_decimal}
use Rattle.call_dispatch.specs.Words.{words_of}
use Rattle.call_dispatch.specs.declared.end.ConnEnd.{ConnEnd}
use Rattle.rmi_cli.specs.TalkEnds.{shown}
use Rattle.rmi_cli.specs.declared.link_line.EndedLink.{EndedLink}

-- listening ADDRESS PORT
abbrev pub listening_line : List ℕ → ℕ → List ℕ
listening_line address port = codes "listening " ++ address ++ (32 ∷ decimal port) ++ 10 ∷ []

-- the parts of a link's line, each behind its blank
abbrev pub peer_part : List ℕ → ℤ → List ℕ
peer_part host port = 32 ∷ shown host ++ 32 ∷ signed_decimal port

abbrev pub end_part : ConnEnd → List ℕ
end_part end = 32 ∷ words_of end

abbrev pub counts_part : ℕ → ℕ → List ℕ
counts_part calls milliseconds = codes " calls " ++ decimal calls ++ codes " ms " ++ decimal milliseconds

-- link NUMBER HOST PORT END calls CALLS ms MILLISECONDS
abbrev pub link_line : EndedLink → List ℕ
link_line link = codes "link " ++ decimal link.number ++ peer_part link.host link.port ++ end_part link.end
    ++ counts_part link.calls link.milliseconds ++ 10 ∷ []
