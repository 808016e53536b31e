use Rattle.std.proofs.Common.{◌≡◌, refl, length, inl, inr, arith}
use Rattle.rounds.{proofs.{Rounds.{accept_and_took, between_still, room_same, took_none, answered, lasts, begun_not_early, ended_still, flag_ended, flag_up, kept, listens_still, unless, round_ended, round_of, waits_still}, Acts.{filter_le, room_left, few_sweep, flag_down, flag_raised}}, specs.Acts.connection_reported}
use Rattle.rounds.proofs.round.poller_round.Goals as goal

pub returns-then-not-has_room : goal.returns-then-not-has_room
returns-then-not-has_room g c =
    let early = c.has_room.ensures.early c.if-not-has_room.true in
    let cleared = c.clear_batch.ensures in
    record {
      between = between_still c.requires.between refl (rw cleared);
      early = λ _. (refl, record { own = refl; poller = cleared });
      waits = inl early;
      made = round_ended (rw cleared) (rw cleared) (took_none c.args.own.now);
      ended = inl early;
      keeps = rw cleared (record { opening = refl; most = refl; swept = inl refl; longest = refl; listens = inl refl; over = λ over. inl over; took = refl });
      none = λ _. refl;
      refused = tt;
    }

pub returns-then-not-look : goal.returns-then-not-look
returns-then-not-look g c =
    let looked = c.look.ensures in
    let failed = looked.failed c.if-not-look.true in
    record {
      between = between_still {p = c.args.poller.now} c.requires.between looked.took.seat (rw looked.poller);
      early = begun_not_early _ _ (c.has_room.ensures.room c.if-not-has_room.false);
      waits = inr looked.waits;
      made = round_ended looked.poller failed.1 looked.took;
      none = λ _. refl;
      ended = inr (inl refl);
      keeps = record {
        opening = rw looked.poller;
        most = rw looked.poller;
        swept = inl (rw looked.poller);
        longest = looked.longest;
        listens = kept c.args.poller.now c.look.new.poller looked.listens;
        over = rw looked.poller (λ over. inl over);
        took = rw looked.took.ready;
      };
      refused = inl (refl, record { failed = failed.0; none = failed.1; read = looked.batch; poller = looked.poller; took = looked.took });
    }

pub keep_time-requires-clause-room : goal.keep_time-requires-clause-room
keep_time-requires-clause-room g c =
    let room = c.has_room.ensures.room c.if-not-has_room.false in
    let same : length c.raise_accept_flag.new.self.table ≡ length c.look.new.poller.table = rw c.raise_accept_flag.ensures in
    omega (arith, room_same c.look.ensures.took, room_left c.deliver_batch-listener.ensures.posts.posted, filter_le (connection_reported c.look.new.poller.table) c.look.new.poller.batch)

pub accept-requires-clause-room : goal.accept-requires-clause-room
accept-requires-clause-room g c =
    let room = c.has_room.ensures.room c.if-not-has_room.false in
    let delivered = room_left c.deliver_batch-listener.ensures.posts.posted in
    let swept = room_left c.keep_time.ensures.posts.posted in
    let same : length c.raise_accept_flag.new.self.table ≡ length c.look.new.poller.table = rw c.raise_accept_flag.ensures in
    let few = few_sweep c.raise_accept_flag.new.self c.keep_time.new.poller in
    omega (arith, room_same c.look.ensures.took, filter_le (connection_reported c.look.new.poller.table) c.look.new.poller.batch)

pub returns : goal.returns
returns g c =
    let looked = c.look.ensures in
    let delivered = c.deliver_batch-listener.ensures in
    let raised = c.raise_accept_flag.ensures in
    let timed = c.keep_time.ensures in
    let accepted = c.accept.ensures in
    let told = c.log_counted.ensures.logged in
    let back = c.take_back.ensures in
    let end = back.poller in
    let last = lasts c.look.new.poller raised timed.poller accepted.done.2.poller told end in
    let swept = rw (raised, looked.poller) at timed.swept in
    let answer = answered c.refuse_worn.result c.args.poller.now c.take_back.new.poller c.args.own.now c.take_back.new.own c.refuse_worn.ensures in
    record {
      between = between_still accepted.between back.took.seat (rw (end, told));
      early = begun_not_early _ _ (c.has_room.ensures.room c.if-not-has_room.false);
      waits = inr (rw last (waits_still _ c.args.poller.now c.look.new.poller c.args.own.now c.look.new.own c.take_back.new.own looked.waits
          (omega (arith, rw (timed.posts.queues.free, delivered.posts.queues.free) at accepted.done.2.grew, back.took.grew))));
      made = round_of {r = c.raise_accept_flag.new.self} looked.poller looked.took delivered.posts (rw raised) timed.posts timed.poller (accept_and_took accepted.done back.took)
          (λ is. rw (back.took.seat, accepted.still is) is) (rw (end, told));
      ended = inr (inr (
        answer.0,
        record {
          read = rw last looked.batch;
          second = rw (end, told, accepted.done.2.poller) timed.told;
          swept = rw (end, told, accepted.done.2.poller) swept;
          accepted = ended_still (rw told accepted.ended) back.left;
          raised = λ up. flag_up c.args.poller.now c.look.new.poller c.raise_accept_flag.new.self c.keep_time.new.poller c.take_back.new.poller looked.poller
              (λ up. flag_raised _ _ delivered.listener (rw raised at up)) (rw timed.poller) (rw last) (accepted.answered.raised (rw (end, told) at up));
          flag = λ down. flag_ended c.args.poller.now c.look.new.poller c.raise_accept_flag.new.self c.keep_time.new.poller c.take_back.new.poller looked.poller
              (λ down. flag_down _ _ delivered.listener (rw raised at down)) (rw timed.poller) (rw last) (accepted.answered.flag (rw (end, told) at down));
          starved = λ starved. rw (timed.poller, raised, looked.poller) at (accepted.answered.starved (rw (end, told) at starved));
          closed = back.closed;
          back = back.all;
          drops = rw end c.log_counted.ensures.all;
        },
      ));
      keeps = record {
        opening = rw (last, looked.poller);
        most = rw (last, looked.poller);
        longest = rw last looked.longest;
        swept = inr (rw (end, told, accepted.done.2.poller) swept);
        listens = listens_still c.args.poller.now (rw (told, accepted.done.2.poller, timed.poller, raised) looked.listens) back.left back.closed;
        over = rw (told, accepted.done.2.poller, timed.poller, raised, looked.poller) at back.over;
        took = rw (back.took.ready, accepted.done.2.ready, timed.posts.queues.ready, delivered.posts.queues.ready, looked.took.ready);
      };
      none = λ why. absurd (answer.1 (unless (begun_not_early _ _ (c.has_room.ensures.room c.if-not-has_room.false)) why));
      refused = answer.2;
    }

pub deliver_batch-listener-requires-clause-between : goal.deliver_batch-listener-requires-clause-between
deliver_batch-listener-requires-clause-between g c =
    between_still {p = c.args.poller.now} c.requires.between c.look.ensures.took.seat (rw c.look.ensures.poller)

pub deliver_batch-listener-requires-clause-room : goal.deliver_batch-listener-requires-clause-room
deliver_batch-listener-requires-clause-room g c =
    let room = c.has_room.ensures.room c.if-not-has_room.false in
    omega (arith, room_same c.look.ensures.took)
