-- The words for the kinds of a failed call.
use Rattle.std.specs.{Prelude.{ℕ, if◌then◌else◌, List, [], ◌∷◌, codes, Option, Some, None}, Str.bytes_eq}
use Rattle.token.specs.declared.kind.Kind.{Kind, TheVariants.{Reset, Pipe, Aborted, Refused, NotConnected, TimedOut, Zero, Other}}

abbrev pub kind_name : Kind → List ℕ
kind_name Reset = codes "reset"
kind_name Pipe = codes "pipe"
kind_name Aborted = codes "aborted"
kind_name Refused = codes "refused"
kind_name NotConnected = codes "notconnected"
kind_name TimedOut = codes "timedout"
kind_name Zero = codes "zero"
kind_name Other = codes "other"

abbrev pub all_kinds : List Kind
all_kinds = Reset ∷ Pipe ∷ Aborted ∷ Refused ∷ NotConnected ∷ TimedOut ∷ Zero ∷ Other ∷ []

-- the first kind of a list that a word names
abbrev pub kind_among : List Kind → List ℕ → Option Kind
kind_among [] word = None
kind_among (kind ∷ kinds) word = if bytes_eq word (kind_name kind) then Some kind else kind_among kinds word

-- the kind that a word names
abbrev pub kind_named : List ℕ → Option Kind
kind_named word = kind_among all_kinds word
