use Rattle.world.proofs.Headline.{◌≡◌, ◌<◌, ℕ, true, [], ◌∷◌, ◌++◌, length, lt-ltb, length-append, lt-leb, Some, slice_get, arith, common_steps, gets, Retired, busy, SlotState, WorkerState, State, free, grows, free_length}
use Rattle.world.proofs.world.World.free.Goals as goal

-- a slot that is not worn goes to the free queue
free_grows : (st : State) (w : ℕ) (k : WorkerState) (s : ℕ) (p : SlotState) → slice_get st.slots s ≡ Some p → p.generation < 140737488355327
    → grows free_length st (free st w k (Retired s)) ≡ true
free_grows st w k s p there young =
    rw (there, lt-leb 140737488355327 p.generation young)
    (lt-ltb (length st.free) (length (st.free ++ s ∷ [])) (omega (arith, length-append st.free (s ∷ []))))

pub returns-in_err-reserve-clause-memory : goal.returns-in_err-reserve-clause-memory
returns-in_err-reserve-clause-memory c =
    let there : slice_get c.args.self.now.slots c.args.slot ≡ Some c.index.result.now = grind (arith, gets) in
    let young : c.index.result.now.generation < 140737488355327 = grind (arith, gets) in
    λ _. free_grows c.args.self.now c.args.worker (busy (Retired c.args.slot)) c.args.slot c.index.result.now there young

pub returns-clause-event : goal.returns-clause-event
returns-clause-event c = grind (arith, common_steps, gets, common_steps)
