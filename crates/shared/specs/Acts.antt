-- What a thread does at a slot, act by act.
use Rattle.std.specs.Prelude.{◌≡◌, ℕ, Bool, if◌then◌else◌, List, [], ◌∷◌}

-- `Claim`, `TakeNotes`, `Post`, `Release`, `Retire`, `Adopt` and `Discard`, a take whose notes are thrown away, are exchanges
-- of the slot's word. `TakeOut` and `PutIn` move the connection out of its place and back, `Call` is its next call on a socket,
-- `Play` all calls of a turn, just before and after which its gate is called, and `Close` closes both sockets. `Give` puts the slot
-- into its free queue. `Register` starts the connection to the target, and registers both sockets for reports. `Enter` writes the
-- generation into the poller's table. `Settle` has both sockets send what they held back, and `PutTicket` puts the ticket into the
-- ready queue
pub data Act : Type 0 where
  Claim : Act
  TakeOut : Act
  TakeNotes : Act
  Call : Act
  Play : Act
  PutIn : Act
  Post : Act
  Release : Act
  Close : Act
  Retire : Act
  Give : Act
  Register : Act
  Adopt : Act
  Enter : Act
  Discard : Act
  Settle : Act
  PutTicket : Act

-- what is known of an act at a slot that led from one state to another
abbrev pub Made : Type 0 → Type 1
Made S = Act → ℕ → S → S → Type 0

-- these acts were made at a slot, one after the other, and no others
abbrev pub AreMade : {S : Type 0} → Made S → ℕ → List Act → S → S → Type 0
AreMade made slot [] old new = new ≡ old
AreMade {S} made slot (act ∷ acts) old new = (between : S) × made act slot old between × AreMade made slot acts between new

-- The acts of an opening

-- the connection is put into a slot, and due
abbrev pub placing : List Act
placing = Adopt ∷ Enter ∷ Discard ∷ PutIn ∷ Post ∷ Release ∷ []

-- its sockets are registered, and then it is placed
abbrev pub open_slot : List Act
open_slot = Register ∷ placing

-- The acts of a turn

-- the slot is released, and if that answers Wake, the ticket is put
abbrev pub leaving : Bool → List Act
leaving woke = Release ∷ (if woke then PutTicket ∷ [] else [])

-- another thread holds the slot, or it is free
abbrev pub busy_turn : List Act
busy_turn = Claim ∷ []

-- the place did not have the ticket's connection. `other`: it had another
abbrev pub gone_turn : Bool → Bool → List Act
gone_turn other woke = Claim ∷ TakeOut ∷ (if other then PutIn ∷ Discard ∷ leaving woke else Discard ∷ leaving woke)

-- the connection is put back without a call to make
abbrev pub quiet_turn : Bool → List Act
quiet_turn woke = Claim ∷ TakeOut ∷ TakeNotes ∷ Play ∷ Settle ∷ PutIn ∷ leaving woke

-- it is put back with its budget spent, and due again
abbrev pub again_turn : Bool → List Act
again_turn woke = Claim ∷ TakeOut ∷ TakeNotes ∷ Play ∷ PutIn ∷ Post ∷ leaving woke

-- the slot is given back, unless its last generation was used
abbrev pub giving : Bool → List Act
giving given = if given then Give ∷ [] else []

-- it is done or failed
abbrev pub ended_turn : Bool → List Act
ended_turn given = Claim ∷ TakeOut ∷ TakeNotes ∷ Play ∷ Close ∷ Retire ∷ giving given
