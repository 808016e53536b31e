-- The two kinds of scripts, as values.
use Rattle.std.specs.Prelude.{ℕ, List, map}
use Rattle.world.specs.declared.{limits.Limits.Limits, event.Event.Event}
use Rattle.script_text.specs.declared.steps.{NumberedStep.NumberedStep, NumberedEvent.NumberedEvent}

-- a script of one direction: the most bytes of its ring, and its steps with their lines
pub record FlowPlan : Type 0 where
  pub ring : ℕ
  pub steps : List NumberedStep

-- a script of a world: its sizes, and its events with their lines
pub record WorldPlan : Type 0 where
  pub limits : Limits
  pub events : List NumberedEvent

-- the events without their lines
abbrev pub events_in : List NumberedEvent → List Event
events_in events = map (λ (e : NumberedEvent). e.event) events
