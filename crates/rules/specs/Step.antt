-- What a line is answered, and what it makes of the machine.
use Rattle.std.specs.Prelude.{ℕ, Bool, cond, List, [], ◌∷◌, Ok, Err, Result, ◌==◌}
use Rattle.terms.specs.declared.refusal.Refusal.{Refusal}
use Rattle.terms.specs.declared.refusal.Refusal.TheVariants as refusal
use Rattle.mapper.specs.Translation.{stored, reset_words}
use Rattle.registers.specs.States.{asleep}
use Rattle.power.specs.Power.{outputs, reset}
use Rattle.power.specs.Causes.{interrupts}
use Rattle.power.specs.Commands.{read_answer, read_done, write_answer, write_done}
use Rattle.power.specs.Inputs.{ticked, source_given, ext_given, ring_given, alarmed, battery_given, with_ac}
use Rattle.frames.specs.Lines.{Line}
use Rattle.frames.specs.Decode.{Frame, decoded}
use Rattle.rules.specs.Machine.{Machine, with_power, with_words, settled}
use Rattle.rules.specs.Access.{cpu_read, cpu_write, cpu_written}
use Rattle.frames.specs.declared.kind.Kind.{Kind}
use Rattle.frames.specs.declared.kind.Kind.TheVariants as kind
use Rattle.frames.specs.declared.answer.Answer.{Answer}

-- an answer that reads nothing has the value 0
abbrev pub no_value : Result (Unit {0}) Refusal → Result ℕ Refusal
no_value (Ok x) = Ok 0
no_value (Err r) = Err r

-- kinds 01 to 06 are refused in Suspend and Off
abbrev pub awake_only : {X : Type 0} → Machine → Result X Refusal → Result X Refusal
awake_only m r = cond (asleep m.power.state) (Err refusal.Asleep) r

-- the value that a well-formed frame reads, or why it is refused
abbrev pub outcome_as : Kind → ℕ → ℕ → Machine → Result ℕ Refusal
outcome_as kind.Reset a v m = Ok 0
outcome_as kind.RegisterWrite a v m = no_value (write_answer a v m.power)
outcome_as kind.RegisterRead a v m = read_answer a m.power
outcome_as kind.PageWrite a v m = awake_only m (Ok 0)
outcome_as kind.PageRead a v m = awake_only m (Ok (m.words a))
outcome_as kind.CpuWrite a v m = no_value (awake_only m (cpu_write m a))
outcome_as kind.CpuRead a v m = awake_only m (cpu_read m a)
outcome_as kind.Tick a v m = Ok 0
outcome_as kind.Activity a v m = Ok 0
outcome_as kind.Ext a v m = Ok 0
outcome_as kind.Ring a v m = Ok 0
outcome_as kind.Alarm a v m = Ok 0
outcome_as kind.Battery a v m = Ok 0
outcome_as kind.Ac a v m = Ok 0

-- a level's frame has 1 for high
abbrev pub high : ℕ → Bool
high v = v == 1

-- what a well-formed frame makes of the machine, but for power losses
abbrev pub done_as : Kind → ℕ → ℕ → Machine → Machine
done_as kind.Reset a v m = with_words reset_words (with_power reset m)
done_as kind.RegisterWrite a v m = with_power (write_done a v m.power) m
done_as kind.RegisterRead a v m = with_power (read_done a m.power) m
done_as kind.PageWrite a v m = cond (asleep m.power.state) m (with_words (stored m.words a v) m)
done_as kind.PageRead a v m = m
done_as kind.CpuWrite a v m = cond (asleep m.power.state) m (cpu_written m a v)
done_as kind.CpuRead a v m = m
done_as kind.Tick a v m = with_power (ticked m.power) m
done_as kind.Activity a v m = with_power (source_given a m.power) m
done_as kind.Ext a v m = with_power (ext_given (high v) m.power) m
done_as kind.Ring a v m = with_power (ring_given (high v) m.power) m
done_as kind.Alarm a v m = with_power (alarmed m.power) m
done_as kind.Battery a v m = with_power (battery_given (high v) m.power) m
done_as kind.Ac a v m = with_power (with_ac (high v) m.power) m

abbrev pub outcome_of : Frame → Machine → Result ℕ Refusal
outcome_of f m = outcome_as f.kind f.a f.v m

abbrev pub done_by : Frame → Machine → Machine
done_by f m = done_as f.kind f.a f.v m

abbrev pub outcome_if : Result Frame Refusal → Machine → Result ℕ Refusal
outcome_if (Ok f) m = outcome_of f m
outcome_if (Err r) m = Err r

abbrev pub step_if : Result Frame Refusal → Machine → Machine
step_if (Ok f) m = settled (outputs m.power) (done_by f m)
step_if (Err r) m = m

-- the value that a line reads, or why it is refused
unfoldable pub outcome : Machine → Line → Result ℕ Refusal
outcome m l = outcome_if (decoded l) m

-- the machine after a line
unfoldable pub step : Machine → Line → Machine
step m l = step_if (decoded l) m

-- the answer to a line: its last three fields are as the line leaves them
abbrev pub answered : Result ℕ Refusal → Machine → Answer
answered r end = record {
  outcome = r;
  state = end.power.state;
  outputs = outputs end.power;
  interrupt = interrupts end.power;
}

unfoldable pub answer : Machine → Line → Answer
answer m l = answered (outcome m l) (step m l)

-- the machine after a list of lines, the newest first
abbrev pub after : Machine → List Line → Machine
after m [] = m
after m (l ∷ ls) = step (after m ls) l
