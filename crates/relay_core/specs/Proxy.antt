-- The line that gives a target its client's address. The line is of the PROXY protocol, version 1, for TCP over IPv4,
-- and goes out before the client's own bytes.
use Rattle.std.specs.Prelude.{ℕ, List, ◌++◌, slice_index, codes, decimal}

-- the four numbers of an address in decimal, joined by dots
abbrev pub dotted : List ℕ → List ℕ
dotted address =
    decimal (slice_index address 0) ++ codes "." ++ decimal (slice_index address 1) ++ codes "."
    ++ decimal (slice_index address 2) ++ codes "." ++ decimal (slice_index address 3)

-- the client's address, the address that the client reached, and their ports, with single spaces
abbrev pub proxy_line : List ℕ → ℕ → List ℕ → ℕ → List ℕ
proxy_line source source_port dest dest_port =
    codes "PROXY TCP4 " ++ dotted source ++ codes " " ++ dotted dest ++ codes " "
    ++ decimal source_port ++ codes " " ++ decimal dest_port ++ codes "\r\n"
