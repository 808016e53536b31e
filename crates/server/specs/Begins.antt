-- What a server begins with.
use Rattle.std.specs.Prelude.{◌≡◌, ℕ, ◌+◌, List, [], ◌∷◌, replicate}
use Rattle.claims.specs.Seats.{TableId, fresh_seat}
use Rattle.queues.specs.Steps.{AreNew, EndState, opened, unused}
use Rattle.shared.specs.{declared.shared.Parts.Parts, Told.Seen}
use Rattle.sizes.specs.{declared.split.Split.Split, Splits.{each_part, part_of, parts_of}}
use Rattle.rounds.specs.{Openings.fresh_poller, Pollers.PollerState}
use Rattle.server.specs.Limits.{share_of}
use Rattle.settings.specs.declared.fields.Settings.{Settings}

-- the poller with this number, as the settings say: it has opened nothing yet, and has its part of the slots, and its
-- share of what may be opened
abbrev pub begun : Settings → Split → ℕ → Seen → PollerState
begun settings split number shown =
    fresh_poller shown settings.slots (part_of split.slots split.size number) (record { ring = settings.ring; proxy = settings.proxy })
    (share_of settings.stop_after (parts_of split.slots split.size) number)

-- the pollers from this number on, one for each of these that a front shows
abbrev pub all_begun : Settings → Split → ℕ → List Seen → List PollerState
all_begun settings split number [] = []
all_begun settings split number (shown ∷ more) = begun settings split number shown ∷ all_begun settings split (number + 1) more

-- for each part of the slots, the ends of a queue that holds them in order, as many as one poller and all workers need. By the
-- first, which need not become the poller's, the slots were put
abbrev pub free_ends : Settings → Split → List (List (EndState ℕ))
free_ends settings split = each_part split.slots split.size
    (λ part. opened part.first part.slots ∷ replicate settings.workers (unused part.slots))

-- What threads are made from: for each poller and each worker a seat and an end of one queue of tickets, and for each
-- part a queue that holds its slots in order, with an end for its poller and one for each worker. All are as new
pub record ThreadsBegin (settings : Settings) (split : Split) (claims : TableId) (parts : Parts)
    (ends : List (List (EndState ℕ))) : Type 0 where
  pub seats : parts.seats.items ≡ replicate (parts_of split.slots split.size + settings.workers) (fresh_seat claims)
  pub ready : AreNew (parts_of split.slots split.size + settings.workers) settings.slots parts.ready.items
  pub free : ends ≡ free_ends settings split
