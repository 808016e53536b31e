-- The exact bytes of the log messages.
use Rattle.std.specs.{Prelude.{ℕ, Bool, true, false, List, [], ◌++◌, codes, Option, Some, None}, Fmt.{decimal, ◌++?◌}}
use Rattle.log.specs.declared.level.Level.{Level}
use Rattle.token.specs.{Sides.side_name, Kinds.kind_name}
use Rattle.relay_core.specs.{Calls.call_name, Pairs.PairState, declared.verdict.{Fault.{Fault, TheVariants.{Broken, Idle}}, Verdict.{Verdict, TheVariants.{Live, Done, Failed}}}}
use Rattle.sizes.specs.{declared.cause.Cause.{Cause}, Causes.cause_name}
use Rattle.log.specs.declared.level.Level.TheVariants as level

abbrev pub open_message : ℕ → ℕ → List ℕ
open_message slot generation = codes "open s=" ++ (decimal slot ++ (codes " g=" ++ decimal generation))

-- `address` is the client's, as it is written
abbrev pub peer_message : ℕ → ℕ → List ℕ → List ℕ
peer_message slot generation address =
    codes "peer s=" ++ (decimal slot ++ (codes " g=" ++ (decimal generation ++ (codes " from=" ++ address))))

-- the whole of `peer`, with the client's address as it prints, and that from which the relay connects to the target, if it
-- is given
abbrev pub peer_text : ℕ → ℕ → Option (List ℕ) → Option (Option (List ℕ)) → Option (List ℕ)
peer_text slot generation from None = Some (peer_message slot generation []) ++? from
peer_text slot generation from (Some via) = Some (peer_message slot generation []) ++? from ++? Some (codes " via=") ++? via

abbrev pub done_message : ℕ → ℕ → ℕ → ℕ → List ℕ
done_message slot generation up down =
    codes "done s=" ++ (decimal slot ++ (codes " g=" ++ (decimal generation
    ++ (codes " up=" ++ (decimal up ++ (codes " down=" ++ decimal down))))))

-- the call that failed and how, or that the idle limit passed
abbrev pub fault_text : Fault → List ℕ
fault_text (Broken side call kind) =
    codes " side=" ++ (side_name side ++ (codes " call=" ++ (call_name call ++ (codes " kind=" ++ kind_name kind))))
fault_text Idle = codes " idle"

abbrev pub fail_message : ℕ → ℕ → Fault → List ℕ
fail_message slot generation fault =
    codes "fail s=" ++ (decimal slot ++ (codes " g=" ++ (decimal generation ++ fault_text fault)))

-- the log was passed the message of an ended connection; of a live one nothing is said
abbrev pub EndLogged : (Level → Option (List ℕ) → Type 0) → Verdict → PairState → Type 0
EndLogged logged Done p = logged level.Info (Some (done_message p.slot p.generation p.sent_up p.sent_down))
EndLogged logged (Failed fault) p = logged level.Warn (Some (fail_message p.slot p.generation fault))
EndLogged logged Live p = Unit {0}

abbrev pub drop_message : Cause → List ℕ
drop_message cause = codes "drop kind=" ++ cause_name cause

-- this many further drops had this cause
abbrev pub drops_message : Cause → ℕ → List ℕ
drops_message cause more = codes "drops kind=" ++ (cause_name cause ++ (codes " more=" ++ decimal more))

-- all slots are taken, of which there are this many
abbrev pub full_message : ℕ → List ℕ
full_message slots = codes "slots: all " ++ (decimal slots ++ codes " are taken; further clients wait")

-- the start of `gone`, up to the client's address: the slot and generation of a connection that was opened
abbrev pub gone_begins : Option (ℕ × ℕ) → List ℕ
gone_begins (Some name) = codes "gone s=" ++ (decimal name.0 ++ (codes " g=" ++ (decimal name.1 ++ codes " from=")))
gone_begins None = codes "gone from="

-- the word for a fact that may be unknown
abbrev pub yes_or_no : Option Bool → List ℕ
yes_or_no (Some true) = codes "yes"
yes_or_no (Some false) = codes "no"
yes_or_no None = codes "unknown"

-- what stands in `gone` between the client's address and the cause: whether the target was ever connected (a word of
-- `yes_or_no`), bytes each way, and how many seconds it was open
abbrev pub gone_counts : List ℕ → ℕ → ℕ → ℕ → List ℕ
gone_counts connected up down seconds =
    codes " connected=" ++ (connected ++ (codes " up=" ++ (decimal up ++ (codes " down=" ++ (decimal down
    ++ (codes " seconds=" ++ (decimal seconds ++ codes " cause=")))))))

abbrev pub gone_between : Option Bool → ℕ → ℕ → ℕ → List ℕ
gone_between connected up down seconds = gone_counts (yes_or_no connected) up down seconds

-- the whole of `gone`, with the address and the cause as they print, and with what stands between them
abbrev pub gone_text : Option (ℕ × ℕ) → Option (List ℕ) → List ℕ → Option (List ℕ) → Option (List ℕ)
gone_text opened from between cause = Some (gone_begins opened) ++? from ++? Some between ++? cause
