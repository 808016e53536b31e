-- The names that a readiness queue holds, as a set: a list in which no two are equal.
use Rattle.std.specs.{Prelude.{◌==◌, Bool, true, false, not, ◌&&◌, if◌then◌else◌, List, [], ◌∷◌, ◌++◌}, List.{list_any, list_all, filter}}
use Rattle.token.specs.{declared.name.Name.{Name, TheVariants.{Listener, Waker, End}}, Names.EndName, Sides.side_number}

abbrev pub same_end : EndName → EndName → Bool
same_end a b = a.slot == b.slot && (side_number a.side == side_number b.side && a.generation == b.generation)

abbrev pub same : Name → Name → Bool
same Listener Listener = true
same Waker Waker = true
same (End a) (End b) = same_end a b
same a b = false

abbrev pub has : Name → List Name → Bool
has name names = list_any (same name) names

-- the names and this one, which is in the list once
abbrev pub with_name : Name → List Name → List Name
with_name name names = if has name names then names else names ++ name ∷ []

abbrev pub without_name : Name → List Name → List Name
without_name name names = filter (λ other. not (same name other)) names

abbrev pub without_names : List Name → List Name → List Name
without_names taken names = filter (λ other. not (has other taken)) names

-- no name is in the list twice
abbrev pub are_distinct : List Name → Bool
are_distinct [] = true
are_distinct (name ∷ names) = not (has name names) && are_distinct names

abbrev pub are_among : List Name → List Name → Bool
are_among those these = list_all (λ name. has name those) these
