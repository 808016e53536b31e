-- What a relay needs to start: how many connections a process has descriptors for, and when a relay is its own target.
use Rattle.std.specs.{Prelude.{◌≡◌, ◌⊎◌, ℕ, ◌+◌, ◌-◌, ◌*◌, ◌/◌, ◌^◌, ◌≤◌, Option, Some, None, Bool, true, List, [], ◌∷◌, slice_index, ℤ, pos, false}, Fs.{asks_read, asks_write, asks_append}, declared.fs.options.OpenOptions.OpenOptions}
use Rattle.settings.specs.Addresses.{SocketAddress}
use Rattle.sizes.specs.Pollers.{pollers_for}
use Rattle.program.specs.declared.{extras.NumberOption.{NumberOption, TheVariants.{Stats, ConnectTimeout, Keepalive, RecordSize}}, standard_streams.StandardStream.{StandardStream, TheVariants.{Input, Output, Errors}}}

-- how many more descriptors this many slots and workers need: two for each slot, and two for each poller
abbrev pub needed : ℕ → ℕ → ℕ
needed slots workers = 2 * slots + 2 * pollers_for slots workers

-- a process that may have `most_of_option` descriptors open, and has `used`, can open those that this many slots need
abbrev pub HasFor : ℕ → ℕ → ℕ → ℕ → Type 0
HasFor most_of_option used slots workers = used + needed slots workers ≤ most_of_option

-- the address that means every address of the machine; a connection to it goes to `loopback`
abbrev pub every : List ℕ
every = 0 ∷ 0 ∷ 0 ∷ 0 ∷ []

abbrev pub loopback : List ℕ
loopback = 127 ∷ 0 ∷ 0 ∷ 1 ∷ []

-- The relay is its own target. The ports are equal, and one of these holds: the addresses are equal; the relay listens
-- on every address, and the target's is in 127.0.0.0/8 or, as the system says, of this machine; it listens on
-- loopback, and the target is every address
abbrev pub MeetsItself : SocketAddress → SocketAddress → Bool → Type 0
MeetsItself listen target here =
    (listen.1 ≡ target.1)
    × ((listen.0 ≡ target.0)
    ⊎ (((listen.0 ≡ every) × ((slice_index target.0 0 ≡ 127) ⊎ (here ≡ true)))
    ⊎ ((listen.0 ≡ loopback) × (target.0 ≡ every))))

-- the address is of more than one machine, so that no TCP connection can be made to it: of every machine of a network
-- (255.255.255.255), or of a group (224.0.0.0/4)
abbrev pub IsOfMany : SocketAddress → Type 0
IsOfMany a =
    (a.0 ≡ 255 ∷ 255 ∷ 255 ∷ 255 ∷ []) ⊎ ((224 ≤ slice_index a.0 0) × (slice_index a.0 0 ≤ 239))

-- The options whose values are numbers: of seconds, and of the bytes of a recording.

-- the least number that an option may have, and the greatest
abbrev pub least : NumberOption → ℕ
least RecordSize = 65536
least _ = 1

abbrev pub most_of_option : NumberOption → ℕ
most_of_option Stats = 86400
most_of_option ConnectTimeout = 3600
most_of_option Keepalive = 32767
most_of_option RecordSize = 4294967295

-- the most bytes of each file that is recorded into: half of what all may have, or the greatest number of 64 bits
abbrev pub most_of_part : Option ℕ → ℕ
most_of_part (Some size) = size / 2
most_of_part None = 2 ^ 64 - 1

-- The standard streams, and what stands in for one that was closed when the program started.

-- the descriptor of a stream (stdin(3))
abbrev pub number : StandardStream → ℤ
number Input = pos 0
number Output = pos 1
number Errors = pos 2

-- how a file is opened that stands in for a stream: as input and as errors it refuses what the closed stream would,
-- since read(2) or write(2) gives EBADF; as output it can be written
abbrev pub StandsIn : StandardStream → OpenOptions → Type 0
StandsIn Input how = asks_read how ≡ false
StandsIn Output how = asks_write how ≡ true
StandsIn Errors how = (asks_write how ≡ false) × (asks_append how ≡ false)
