-- The two sides of a connection, and the two directions in which bytes go through it.
use Rattle.std.specs.{Prelude.{ℕ, if◌then◌else◌, List, codes, Option, Some, None}, Str.bytes_eq}
use Rattle.token.specs.declared.{side.Side.{Side, TheVariants.{Client, Target}}, direction.Direction.{Direction, TheVariants.{Up, Down}}}

abbrev pub other_side : Side → Side
other_side Client = Target
other_side Target = Client

abbrev pub side_name : Side → List ℕ
side_name Client = codes "client"
side_name Target = codes "target"

-- the side that a word names
abbrev pub side_named : List ℕ → Option Side
side_named word =
    if bytes_eq word (side_name Client) then Some Client
    else if bytes_eq word (side_name Target) then Some Target
    else None

abbrev pub side_number : Side → ℕ
side_number Client = 0
side_number Target = 1

abbrev pub opposite : Direction → Direction
opposite Up = Down
opposite Down = Up

-- the side that the bytes come from
abbrev pub source : Direction → Side
source Up = Client
source Down = Target

-- the side that the bytes go to
abbrev pub destination : Direction → Side
destination Up = Target
destination Down = Client

-- the direction whose source is this side
abbrev pub outward : Side → Direction
outward Client = Up
outward Target = Down

-- the direction whose destination is this side
abbrev pub inward : Side → Direction
inward Client = Down
inward Target = Up
