-- When things happened to a connection, by its reports, its turns and what was done with its ends.
use Rattle.std.specs.{Prelude.{◌≡◌, ◌-◌, ℕ, Bool, true, false, if◌then◌else◌, max, nat_lt, List, [], ◌∷◌, Option, Some, None}}
use Rattle.token.specs.declared.{name.Name.TheVariants.End, side.Side.{Side, TheVariants.{Client, Target}}}
use Rattle.record_lines.specs.declared.act.{Act.Act, Answer.Answer}
use Rattle.record_reader.specs.{Accounts.{first_found, read_at, is_same_side}, declared.times.Times.Times}
use Rattle.record_lines.specs.declared.act.Act.TheVariants as act
use Rattle.record_lines.specs.declared.act.Made.TheVariants as made
use Rattle.record_lines.specs.declared.act.Answer.TheVariants as answer
use Rattle.record_lines.specs.declared.act.Polling.TheVariants as polling

-- an act, and the time of the last wait that gave reports before it, in microseconds since the recording began
pub record Moment : Type 0 where
  pub at : ℕ
  pub act : Act

-- a call moved bytes, an end of input, or a connect
abbrev pub is_done : Answer → Bool
is_done (answer.Moved n) = true
is_done answer.End = true
is_done answer.Joined = true
is_done answer.Shut = true
is_done a = false

abbrev pub act_moves : Act → Bool
act_moves (act.Wire n (made.Read most a)) = is_done a
act_moves (act.Wire n (made.Write length a)) = is_done a
act_moves (act.Wire n (made.Join a)) = is_done a
act_moves (act.Wire n (made.Shut a)) = is_done a
act_moves a = false

-- the target has answered the connect: it was reported, or a call moved something there
abbrev pub answers : Act → Bool
answers (act.Poller number (polling.Reported (End n))) = is_same_side Target n.side
answers (act.Wire n made) = if is_same_side Target n.side then act_moves (act.Wire n made) else false
answers a = false

abbrev pub sends : Side → Act → Bool
sends side a = nat_lt 0 (read_at side a)

abbrev pub when_moment : (Act → Bool) → Moment → Option ℕ
when_moment p m = if p m.act then Some m.at else None

-- when something moved last, if before that it was at `since`
abbrev pub moved_since : ℕ → Moment → ℕ
moved_since since m = if act_moves m.act then m.at else since

abbrev pub moved_last : ℕ → List Moment → ℕ
moved_last since [] = since
moved_last since (m ∷ moments) = moved_last (moved_since since m) moments

-- the longest time in which nothing moved
abbrev pub longest_still : ℕ → List Moment → ℕ
longest_still since [] = 0
longest_still since (m ∷ moments) = max (m.at - since) (longest_still (moved_since since m) moments)

-- the times of a connection that was opened at this time, and then had these moments
pub record IsTimes (since : ℕ) (moments : List Moment) (t : Times) : Type 0 where
  pub opened : t.opened ≡ since
  pub answered : t.answered ≡ first_found (when_moment answers) moments
  pub client : t.client ≡ first_found (when_moment (sends Client)) moments
  pub target : t.target ≡ first_found (when_moment (sends Target)) moments
  pub moved : t.moved ≡ moved_last since moments
  pub silence : t.silence ≡ longest_still since moments
