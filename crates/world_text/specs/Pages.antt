-- A text that is written piece by piece.
use Rattle.std.specs.{Prelude.{◌≡◌, ℕ, List, [], ◌∷◌, ◌++◌, codes, if◌then◌else◌, Option, Some, option_map, IfSome, flat_map, Bool}, Fmt.decimal}
use Rattle.hex.specs.Hex.{encode_lower}
use Rattle.kernel_model.specs.Ends.{is_nonempty}
use Rattle.world_text.specs.declared.page.Piece.{Piece, TheVariants.{Text, Number, Named, Bytes}}
use Rattle.token.specs.{declared.name.Name.Name, Sides.side_name}
use Rattle.world.specs.declared.actors.Ticket.{Ticket}
use Rattle.token.specs.declared.name.Name.TheVariants as name

abbrev pub newline : List ℕ
newline = 10 ∷ []

-- bytes in lower-case hexadecimal, - for none
abbrev pub shown_bytes : List ℕ → List ℕ
shown_bytes bytes = if is_nonempty bytes then encode_lower bytes else codes "-"

abbrev pub piece_text : Piece → List ℕ
piece_text (Text text) = text.now
piece_text (Number number) = decimal number
piece_text (Named name number) = name.now ++ decimal number
piece_text (Bytes bytes) = shown_bytes bytes.now

-- the texts of all pieces, in order
abbrev pub pieces_text : List Piece → List ℕ
pieces_text [] = []
pieces_text (piece ∷ []) = piece_text piece
pieces_text (piece ∷ next ∷ pieces) = piece_text piece ++ pieces_text (next ∷ pieces)

-- The text afterwards is the text before and then these bytes, unless it is lost. A lost text stays lost.
abbrev pub AddsText : Option (List ℕ) → Option (List ℕ) → List ℕ → Type 0
AddsText old new bytes = IfSome new (λ text. option_map (λ before. before ++ bytes) old ≡ Some text)

-- How names and tickets are written.

-- the texts of all, each after a space
abbrev pub spaced : {X : Type 0} → (X → List ℕ) → List X → List ℕ
spaced text xs = flat_map (λ x. codes " " ++ text x) xs

abbrev pub name_text : Name → List ℕ
name_text name.Listener = codes "listener"
name_text name.Waker = codes "waker"
name_text (name.End n) = decimal n.slot ++ (codes "." ++ (decimal n.generation ++ (codes "." ++ side_name n.side)))

abbrev pub ticket_text : Ticket → List ℕ
ticket_text t = decimal t.slot ++ (codes "." ++ decimal t.generation)

-- How the bytes on their way are written.

abbrev pub yes_or_no : Bool → List ℕ
yes_or_no is_so = if is_so then codes "yes" else codes "no"

-- what is written of one direction after the bytes that were sent, and a lead: the bytes in the ring, those that wait
-- unread, whether the end was read, and whether it was passed on
abbrev pub stream_text : List ℕ → List ℕ → Bool → Bool → List ℕ
stream_text ring unread ended shut =
    codes " ring=" ++ (shown_bytes ring
    ++ (codes " unread=" ++ (shown_bytes unread
    ++ (codes " end=" ++ (yes_or_no ended
    ++ (codes " shut=" ++ (yes_or_no shut ++ newline)))))))
