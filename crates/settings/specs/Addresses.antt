-- An IPv4 address with a port, and its one text.
use Rattle.std.specs.{Prelude.{◌≡◌, ◌≢◌, ℕ, ◌<◌, ◌^◌, List, ◌∷◌, ◌++◌, length, map, slice_index, All}, List.join_with_byte, Fmt.decimal}

-- the four numbers of an address, from left to right, and a port
abbrev pub SocketAddress : Type 0
SocketAddress = List ℕ × ℕ

-- the numbers are four bytes, and the port has 16 bits
abbrev pub IsAddress : SocketAddress → Type 0
IsAddress a = (length a.0 ≡ 4) × All (λ n. n < 2 ^ 8) a.0 × (a.1 < 2 ^ 16)

-- the four numbers joined by `.`, then `:` and the port, each in decimal
abbrev pub address_text : SocketAddress → List ℕ
address_text a = join_with_byte 46 (map decimal a.0) ++ 58 ∷ decimal a.1

-- the text begins with no plus sign, and with a zero only if that is all
abbrev pub IsPlain : List ℕ → Type 0
IsPlain text = (slice_index text 0 ≢ 43) × (slice_index text 0 ≡ 48 → length text ≡ 1)
