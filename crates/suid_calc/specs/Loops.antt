-- What of an outline's members was read so far.
use Rattle.std.specs.Prelude.{◌≡◌, ◌≢◌, ◌+◌, ℕ, Bool, true, false, Option, Some, None, List, [], ◌∷◌, ◌++◌, length}
use Rattle.std.specs.List.{AllByRecursion}
use Rattle.std.specs.List.Sorted.{IsPermutation}
use Rattle.suid_calc.specs.declared.outline.Member.{Member}
use Rattle.suid_calc.specs.declared.outline.OutlineFault.{OutlineFault}
use Rattle.suid_calc.specs.declared.outline.OutlineFault.TheVariants.{BadLine, OutOfMemory}
use Rattle.suid_calc.specs.Members.{AreDistinct, IsNew, key_of}
use Rattle.suid_calc.specs.Grammar.{IsLine, AreLines}
use Rattle.suid_calc.specs.Reading.{is_good}

-- The text is the lines of some members and the rest, which begins with the line of this number; the members that are kept are these, in
-- another order.
pub record HasRead (text : List ℕ) (kept : List Member) (number : ℕ) (rest : List ℕ) : Type 0 where
  pub lines : List Member
  pub others : List ℕ
  pub read : AreLines lines others
  pub distinct : AreDistinct lines
  pub parts : text ≡ others ++ rest
  pub same : IsPermutation lines kept
  pub counted : number ≡ length lines + 2

-- The rest begins with no line of a further member.
abbrev pub IsNoMember : List ℕ → List Member → Type 0
IsNoMember rest kept = (line tail : List ℕ) (m : Member) → IsLine line m → IsNew m kept → rest ≡ line ++ 0x0A ∷ tail → ⊥

-- The rest begins with the line of a further member, which is kept now, and goes on so.
pub record TakesMember (rest : List ℕ) (before after : List Member) (behind : List ℕ) : Type 0 where
  pub line : List ℕ
  pub member : Member
  pub is : IsLine line member
  pub new : IsNew member before
  pub parts : rest ≡ line ++ 0x0A ∷ behind
  pub kept : IsPermutation (member ∷ before) after

-- What reading one more line comes to: what is behind it, if it is the line of a further member.
abbrev pub Takes : List ℕ → List Member → List Member → Option (List ℕ) → Type 0
Takes rest before after None = IsNoMember rest before
Takes rest before after (Some behind) = TakesMember rest before after behind

-- A member is kept now, or one that is the same was.
abbrev pub Keeps : Bool → Member → List Member → List Member → Type 0
Keeps true m before after = IsNew m before × IsPermutation (m ∷ before) after
Keeps false m before after = IsNew m before → ⊥

-- Each entry's key is its member's.
abbrev pub AreKept : {K : Type 0} → (K → List ℕ) → List (K × Member) → Type 0
AreKept bytes es = AllByRecursion (λ e. (bytes e.0 ≡ key_of e.1) × (is_good e.1 ≡ true)) es

-- Why the members' lines are not taken.
pub record IsBadRest (text : List ℕ) (number : ℕ) : Type 0 where
  pub kept : List Member
  pub rest : List ℕ
  pub read : HasRead text kept number rest
  pub more : rest ≢ []
  pub bad : IsNoMember rest kept

abbrev pub IsUnreadRest : List ℕ → OutlineFault → Type 0
IsUnreadRest text (BadLine number) = IsBadRest text number
IsUnreadRest text OutOfMemory = Unit {0}
