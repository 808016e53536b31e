-- What a call asks of a wire, what it gives, and what it does to the wire.
use Rattle.std.specs.{Prelude.{ℕ, List, ◌≡◌, ◌⊎◌, ◌+◌, ◌%◌, ◌^◌, ◌≤◌, [], length, take, MatchResult, Option, None, Result, Ok, Err, ◌∷◌, ◌++◌}, declared.io.{ErrorKind.ErrorKind, Error.Error}, IoError.error_kind, Io.KnownBytes.{Consumes, Keeps}}
use Rattle.engine.specs.declared.scripted.Play.{Play, TheVariants.Bytes}

-- a read of at most this many bytes, a write that offers these, the question whether connect(2) has completed, or a shutdown
pub data Asked : Type 0 where
  Read : ℕ → Asked
  Write : List ℕ → Asked
  Join : Asked
  Shut : Asked

-- a read gave these bytes, none at the end of input; a write took this many; a join or a shutdown succeeded; or a call
-- gave an error
pub data Given : Type 0 where
  Brought : List ℕ → Given
  Took : ℕ → Given
  Done : Given
  Refused : ErrorKind → Given

-- the bytes left to read and the bytes written, None if the wire does not show them; and how many of its answers were
-- faults, and how many were "would block"
pub record WireView : Type 0 where
  pub remaining : Option (List ℕ)
  pub written : Option (List ℕ)
  pub faults : ℕ
  pub blocks : ℕ

-- the view of a wire that shows no bytes
abbrev pub counts_alone : ℕ → ℕ → WireView
counts_alone faults blocks = record { remaining = None; written = None; faults = faults; blocks = blocks }

abbrev pub ReadTakes : {E : Type 0} → Result ℕ E → List ℕ → WireView → WireView → Type 0
ReadTakes result buffer old new =
    MatchResult result (λ n. Consumes old.remaining new.remaining (take n buffer)) (λ error. Keeps old.remaining new.remaining)

-- a count that wraps around at 2^64 rose by n
abbrev pub Rises : ℕ → ℕ → ℕ → Type 0
Rises old new n = new % 2 ^ 64 ≡ (old + n) % 2 ^ 64

-- an error raises one of the two counts by one, or neither
abbrev pub CountsError : ℕ → ℕ → ℕ → ℕ → Type 0
CountsError faults faults_now blocks blocks_now =
    ((faults_now ≡ faults) × (blocks_now ≡ blocks))
    ⊎ ((Rises faults faults_now 1 × (blocks_now ≡ blocks))
    ⊎ ((faults_now ≡ faults) × Rises blocks blocks_now 1))

-- an answer without error changes neither count
abbrev pub CountsAnswer : {T E : Type 0} → Result T E → WireView → WireView → Type 0
CountsAnswer result old new =
    MatchResult result
    (λ answer. (new.faults ≡ old.faults) × (new.blocks ≡ old.blocks))
    (λ error. CountsError old.faults new.faults old.blocks new.blocks)

-- n bytes of an offer were taken: 0 bytes of an offer that is not empty are a fault
pub record CountsTaken (n : ℕ) (offer : List ℕ) (old new : WireView) : Type 0 where
  pub none : n ≡ 0 → 1 ≤ length offer → Rises old.faults new.faults 1
  pub some : 1 ≤ n → new.faults ≡ old.faults
  pub nothing_offered : offer ≡ [] → new.faults ≡ old.faults
  pub same_blocks : new.blocks ≡ old.blocks

abbrev pub CountsWrite : {E : Type 0} → Result ℕ E → List ℕ → WireView → WireView → Type 0
CountsWrite result offer old new =
    MatchResult result (λ n. CountsTaken n offer old new) (λ error. CountsError old.faults new.faults old.blocks new.blocks)

-- a shutdown never has to wait: its error is a fault or an interruption
abbrev pub CountsShut : {T E : Type 0} → Result T E → WireView → WireView → Type 0
CountsShut result old new =
    MatchResult result
    (λ answer. new.faults ≡ old.faults)
    (λ error. (new.faults ≡ old.faults) ⊎ Rises old.faults new.faults 1)

-- what a call gave, by its result
abbrev pub read_gave : Result ℕ Error → List ℕ → Given
read_gave (Ok n) buffer = Brought (take n buffer)
read_gave (Err error) buffer = Refused (error_kind error)

abbrev pub write_gave : Result ℕ Error → Given
write_gave (Ok n) = Took n
write_gave (Err error) = Refused (error_kind error)

abbrev pub call_gave : {T : Type 0} → Result T Error → Given
call_gave (Ok answer) = Done
call_gave (Err error) = Refused (error_kind error)

-- the bytes that a play gives to reads
abbrev pub bytes_in : Play → List ℕ
bytes_in (Bytes bytes) = bytes.items
bytes_in play = []

abbrev pub bytes_of : List Play → List ℕ
bytes_of [] = []
bytes_of (play ∷ plays) = bytes_in play ++ bytes_of plays
