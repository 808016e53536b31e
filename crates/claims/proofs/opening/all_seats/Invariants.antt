use Rattle.std.proofs.Common.{◌+◌, ◌≤◌, vec_len, vec_capacity}
use Rattle.claims.proofs.Steps.Rule.Histories.{◌≡◌, ◌-◌, replicate, unused_view, fresh_seat}
use Rattle.claims.proofs.opening.all_seats.Given as goal

-- the first seat may still make the seats that are left, and those that it made have done nothing
abbrev pub invariant-loop-made : goal.invariant-loop-made
invariant-loop-made l =
    (l.first.table_id ≡ l.table.shared.table_id)
    × (l.first.me.0 ≡ unused_view l.slots (l.seats - l._made))
    × (l.all.items ≡ replicate (l._made - 1) (fresh_seat l.table.shared.table_id))
    × (vec_len l.all + 1 ≡ l._made)
    × (l.seats ≤ vec_capacity l.all)
