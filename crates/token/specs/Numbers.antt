-- What the numbers of a readiness queue stand for.
use Rattle.std.specs.Prelude.{ℕ, ◌+◌, ◌/◌, ◌%◌, ◌==◌, nat_le, ◌&&◌, if◌then◌else◌, ⊤, Option, Some, None}
use Rattle.token.specs.{declared.{side.Side.{Side, TheVariants.{Client, Target}}, name.Name.{Name, TheVariants.{Listener, Waker, End}}}, Names.{EndName, IsEndName, end_number, last_generation}}

abbrev pub name_number : Name → ℕ
name_number Listener = 0
name_number Waker = 1
name_number (End name) = end_number name

-- the names whose slot and generation are in range
abbrev pub IsName : Name → Type 0
IsName Listener = ⊤
IsName Waker = ⊤
IsName (End name) = IsEndName name

abbrev pub number_side : ℕ → Side
number_side bit = if bit == 0 then Client else Target

abbrev pub end_of : ℕ → EndName
end_of number = record { slot = number % 65536 / 2; side = number_side (number % 2); generation = number / 65536 }

-- the name that a number stands for, or None
abbrev pub name_of : ℕ → Option Name
name_of number =
    if number == 0 then Some Listener
    else if number == 1 then Some Waker
    else if nat_le 1 (number / 65536) && nat_le (number / 65536) last_generation then Some (End (end_of number))
    else None

-- the generation of a slot's next connection; None after the last generation
abbrev pub generation_after : ℕ → Option ℕ
generation_after generation = if generation == last_generation then None else Some (generation + 1)
