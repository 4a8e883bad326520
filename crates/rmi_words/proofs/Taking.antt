-- What a parse of the program's words says of them.
use Rattle.std.proofs.Common.{◌≡◌, ◌∙◌, true, [], ◌∷◌, List, Result, Err, refl, subst, inl, inr}
use Rattle.clap.specs.Faults.{fault_of, is_simple_and_free}
use Rattle.clap.specs.Kinds.{HasKind, Kinds}
use Rattle.clap.specs.Simple.{App, HasMatchesOf, is_simple}
use Rattle.clap.specs.Values.{kind_of}
use Rattle.clap.specs.Walk.{Text}
use Rattle.clap.specs.declared.ArgMatches.{ArgMatches}
use Rattle.clap.specs.declared.Error.{Error}
use Rattle.clap.specs.declared.error.ErrorKind.{ErrorKind}
use Rattle.clap.specs.declared.error.ErrorKind.TheVariants as kinds
use Rattle.rmi_words.specs.Program.{AreTaken, faults_in, found_in, program}
use Rattle.rmi_words.specs.declared.command.WordsFault.{WordsFault}
use Rattle.rmi_words.specs.declared.command.WordsFault.TheVariants.{Usage}

plain : is_simple program ≡ true
plain = refl

free : is_simple_and_free program ≡ true
free = refl

pub taken : (a : App) (words : List Text) (m : ArgMatches) → a ≡ program → (is_simple_and_free a ≡ true → fault_of a words ≡ []) → HasMatchesOf a words m → AreTaken words m
unfolding faults_in found_in
taken a words m is right matches =
    let right2 : is_simple_and_free program ≡ true → fault_of program words ≡ [] = subst (λ (x : App). is_simple_and_free x ≡ true → fault_of x words ≡ []) is right in
    let matches2 : HasMatchesOf program words m = subst (λ (x : App). HasMatchesOf x words m) is matches in
    (right2 free, (matches2 plain).1)

kind_is : (all : Kinds) (e : Error) → all ≡ [] → HasKind all e → kind_of e ≡ kinds.OutOfMemory
kind_is all e none (inl memory) = memory
kind_is [] e none (inr among) = absurd among
kind_is (k ∷ ks) e none (inr among) = cc

pub wrong : (a : App) (words : List Text) (e : Error) → a ≡ program → (is_simple_and_free a ≡ true → HasKind (fault_of a words) e) → (kind : ErrorKind) → kind ≡ kind_of e
    → (fault : WordsFault) → (fault ≡ Usage → kind ≡ kinds.OutOfMemory → ⊥) → {T : Type 0} → ◌≡◌ {A = Result T WordsFault} (Err fault) (Err Usage) → faults_in words ≡ [] → ⊥
unfolding faults_in
wrong a words e is has kind kind_of_e fault never usage right =
    let has2 : is_simple_and_free program ≡ true → HasKind (fault_of program words) e = subst (λ (x : App). is_simple_and_free x ≡ true → HasKind (fault_of x words) e) is has in
    never (same_fault _ _ usage) (kind_of_e ∙ kind_is _ e right (has2 free))
  where
    same_fault : {T : Type 0} (f g : WordsFault) → ◌≡◌ {A = Result T WordsFault} (Err f) (Err g) → f ≡ g
    same_fault f g e = cc
