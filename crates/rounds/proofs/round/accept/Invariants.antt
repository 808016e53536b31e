use Rattle.std.proofs.Common.{◌≡◌, ◌+◌, ◌≤◌, List}
use Rattle.shared.specs.{Hands.ticket_room, Posts.IsWorn}
use Rattle.rounds.specs.{Acts.SeatAct, Openings.{Between, Connected, TriesMade}, Rounds.OnlyAnswered}
use Rattle.rounds.proofs.round.accept.Given as goal

-- each try takes at most one ticket in hand
abbrev pub invariant-loop-try : goal.invariant-loop-try
invariant-loop-try g l = record {
  between : Between l.shared.claims l.own l.poller;
  room : 4 ≤ l._try + ticket_room l.own.hand;
  tries : l._try + l.poller.tries ≡ 4;
  done : (tries : List SeatAct) × TriesMade g.A.Moves.moved g.A.Moves.named g.A.Moves.registered g.A.Acts.made g.F.Front.accepted g.F.Front.may_tell
      l.fn.poller l.fn.acts l.acts tries × Connected tries l.fn.poller l.poller l.fn.own l.own;
  still : IsWorn l.fn.own.seat → l.own.seat ≡ l.fn.own.seat;
  answered : OnlyAnswered g.F.Front.gave_none l.fn.poller l.poller;
}
